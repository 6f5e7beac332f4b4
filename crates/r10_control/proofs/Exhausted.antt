-- A recorder whose lanes give nothing.
use Rattle.std.proofs.Common.{◌≡◌, ◌≤◌, ◌<◌, ◌+◌, ℕ, List, [], ◌∷◌, ◌++◌, length, map, take, get_or, refl, sym, ap, ◌∙◌, subst, arith}
use Rattle.std.specs.List.{AllByRecursion}
use Rattle.std.proofs.lemmas.List.{take_more}
use Rattle.r10_count.specs.Count.{IsCount}
use Rattle.r10_body.specs.declared.entry.Entry.{Entry}
use Rattle.r10_body.specs.declared.spec.ChannelSpec.{ChannelSpec}
use Rattle.r10_lane.specs.Spending.{all_counts}
use Rattle.r10_machine.proofs.Growing.{all_joined}
use Rattle.r10_refinement.specs.KeptState.{Kept}
use Rattle.r10_medium.specs.Disk.{Image}
use Rattle.r10_cursor.specs.declared.books.Books.{Books}
use Rattle.r10_openfile.specs.Stopping.{AllEnd}
use Rattle.r10_control.specs.Owns.{Owns}
use Rattle.r10_control.proofs.LooksAtLanes.{work_still}

-- ---- lane by lane

-- of the first lanes, so many: their channels, and that each has reached a count of 48 bits
pub record AreSpent {L : Type 0} (spec_of : L → ChannelSpec) (reached : L → ℕ) (lanes : List L) (at : ℕ) (spent : List ChannelSpec) : Type 0 where
  pub made : spent ≡ map spec_of (take at lanes)
  pub range : AllByRecursion (λ (lane : L). IsCount (reached lane)) (take at lanes)

pub spends_none : {L : Type 0} (spec_of : L → ChannelSpec) (reached : L → ℕ) (lanes : List L) → AreSpent spec_of reached lanes 0 []
spends_none spec_of reached lanes = record { made = refl; range = tt }

map_joined : {L : Type 0} (spec_of : L → ChannelSpec) (xs ys : List L) → map spec_of (xs ++ ys) ≡ map spec_of xs ++ map spec_of ys
map_joined spec_of [] ys = refl
map_joined spec_of (x ∷ xs) ys = ap (λ (l : List ChannelSpec). spec_of x ∷ l) (map_joined spec_of xs ys)

pub spends_more : {L : Type 0} (spec_of : L → ChannelSpec) (reached : L → ℕ) (lanes : List L) (at : ℕ) (lane : L) (spent : List ChannelSpec) (made : ChannelSpec)
    → lane ≡ get_or lanes at lane → at < length lanes → IsCount (reached lane) → made ≡ spec_of lane → AreSpent spec_of reached lanes at spent → AreSpent spec_of reached lanes (at + 1) (spent ++ made ∷ [])
spends_more {L} spec_of reached lanes at lane spent made here within range is so =
    let more : take (at + 1) lanes ≡ take at lanes ++ lane ∷ [] = take_more lanes at lane within ∙ ap (λ (l : L). take at lanes ++ l ∷ []) (sym here) in
    record {
      made = ap (λ (l : List ChannelSpec). l ++ made ∷ []) so.made ∙ ap (λ (s : ChannelSpec). map spec_of (take at lanes) ++ s ∷ []) is ∙ sym (ap (map spec_of) more ∙ map_joined spec_of (take at lanes) (lane ∷ []));
      range = subst (AllByRecursion (λ (l : L). IsCount (reached l))) (sym more) (all_joined (λ (l : L). IsCount (reached l)) (take at lanes) (lane ∷ []) so.range (range, tt));
    }

-- ---- the recorder

same_specs : (specs : List ChannelSpec) → map (λ (s : ChannelSpec). s) specs ≡ specs
same_specs [] = refl
same_specs (s ∷ specs) = ap (λ (l : List ChannelSpec). s ∷ l) (same_specs specs)

-- what ends by what lanes have reached ends by the greatest count
ends_spent : {L : Type 0} (spec_of : L → ChannelSpec) (reached : L → ℕ) (entries : List Entry) (lanes : List L) → AllByRecursion (λ (lane : L). IsCount (reached lane)) lanes
    → AllEnd spec_of reached lanes entries → AllEnd (λ (s : ChannelSpec). s) all_counts (map spec_of lanes) entries
ends_spent spec_of reached entries [] range ends = tt
ends_spent spec_of reached entries (lane ∷ lanes) range ends = (omega (arith, range.0, ends.0), ends_spent spec_of reached entries lanes range.1 ends.1)

pub owns_spent : {L : Type 0} (spec_of : L → ChannelSpec) (reached : L → ℕ) (k : Kept) (image : Image) (books : Books) (lanes : List L) (spent : List ChannelSpec) → spent ≡ map spec_of lanes → AllByRecursion (λ (lane : L). IsCount (reached lane)) lanes
    → Owns spec_of reached k image lanes books → Owns (λ (s : ChannelSpec). s) all_counts k image spent books
owns_spent spec_of reached k image books lanes spent is range owns = record {
  limits = owns.limits;
  blocks = owns.blocks;
  specs = same_specs spent ∙ is ∙ owns.specs;
  generation = owns.generation;
  taken = owns.taken;
  erased = owns.erased;
  work = work_still spec_of reached (λ (s : ChannelSpec). s) all_counts k k.work image lanes spent
      (λ entries ends. subst (λ (l : List ChannelSpec). AllEnd (λ (s : ChannelSpec). s) all_counts l entries) (sym is) (ends_spent spec_of reached entries lanes range ends)) owns.work;
  judged = owns.judged;
}
