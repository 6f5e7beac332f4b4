-- What a root says of nodes, one node after the other.
use Rattle.std.proofs.Common.{◌≡◌, ℕ, zero, suc, ◌+◌, ◌*◌, ◌<◌, ◌⊎◌, inl, inr, List, [], ◌∷◌, ◌++◌, length, refl, sym, ap, ◌∙◌, arith, append_assoc}
use Rattle.std.specs.List.{flat_map}
use Rattle.std.proofs.lemmas.List.{length-append}
use Rattle.std.proofs.lemmas.List.Concat.{flat_map-append}
use Rattle.r10_count.specs.Bytes.{le_bytes}
use Rattle.r10_indexbody.specs.Index.{root_entry, root_body}
use Rattle.r10_indexbody.specs.declared.entry.RootEntry.{RootEntry}
use Rattle.r10_body.proofs.Rules.{flat_map_more}
use Rattle.r10_index.specs.Written.{names}
use Rattle.r10_index.proofs.Roots.{names_length}
use Rattle.r10_file_rules.specs.Names.{root_at}
use Rattle.r10_file_rules.proofs.Fronts.{Missing, found_then, missing_then}

pub names_more : (counter end n : ℕ) → names counter end (n + 1) ≡ names counter end n ++ root_at counter (end + 2028 * n) ∷ []
names_more counter end n = let more : n + 1 ≡ suc n = omega arith in ap (names counter end) more

pub named_more : (counter end n offset : ℕ) (bytes left rest : List ℕ) → bytes ≡ flat_map root_entry (names counter end n) ++ left → offset ≡ end + 2028 * n → left ≡ root_entry (root_at counter offset) ++ rest
    → bytes ≡ flat_map root_entry (names counter end (n + 1)) ++ rest
named_more counter end n offset bytes left rest found at more =
    let own : left ≡ root_entry (root_at counter (end + 2028 * n)) ++ rest = more ∙ ap (λ m. root_entry (root_at counter m) ++ rest) at in
    found_then bytes (flat_map root_entry (names counter end n)) left (flat_map root_entry (names counter end n)) (root_entry (root_at counter (end + 2028 * n))) rest refl found own
    ∙ ap (λ (t : List ℕ). t ++ rest) (sym (ap (λ (es : List RootEntry). flat_map root_entry es) (names_more counter end n) ∙ flat_map_more root_entry (names counter end n) (root_at counter (end + 2028 * n))))

-- the names after the first of them
pub record Split (counter end k n : ℕ) : Type 0 where
  pub more : List RootEntry
  pub whole : names counter end n ≡ names counter end k ++ root_at counter (end + 2028 * k) ∷ more

split_at : (counter end k n : ℕ) → (k ≡ n) ⊎ (k < n) → (k < n → Split counter end k n) → Split counter end k (suc n)
split_at counter end k n (inl same) less = record { more = []; whole = ap (λ m. names counter end m ++ root_at counter (end + 2028 * m) ∷ []) (sym same) }
split_at counter end k n (inr lt) less =
    let split = less lt in
    let last = root_at counter (end + 2028 * n) ∷ [] in
    record {
      more = split.more ++ last;
      whole = ap (λ (es : List RootEntry). es ++ last) split.whole ∙ append_assoc (names counter end k) (root_at counter (end + 2028 * k) ∷ split.more) last;
    }

same_or_less : (k n : ℕ) → k < suc n → (k ≡ n) ⊎ (k < n)
same_or_less zero zero lt = inl refl
same_or_less zero (suc n) lt = inr (omega arith)
same_or_less (suc k) zero lt = absurd (omega (arith, lt))
same_or_less (suc k) (suc n) lt = either (same_or_less k n (omega (arith, lt))) where
  either : (k ≡ n) ⊎ (k < n) → (suc k ≡ suc n) ⊎ (suc k < suc n)
  either (inl e) = inl (ap suc e)
  either (inr l) = inr (omega (arith, l))

pub split : (counter end k n : ℕ) → k < n → Split counter end k n
split counter end k zero lt = absurd (omega (arith, lt))
split counter end k (suc n) lt = split_at counter end k n (same_or_less k n lt) (λ less. split counter end k n less)

pub named_none : (counter end k n offset : ℕ) (bytes left : List ℕ) → k < n → bytes ≡ flat_map root_entry (names counter end k) ++ left → offset ≡ end + 2028 * k → Missing left (root_entry (root_at counter offset))
    → Missing bytes (flat_map root_entry (names counter end n))
named_none counter end k n offset bytes left lt found at missing =
    λ rest e.
    let s = split counter end k n lt in
    let own : List ℕ = root_entry (root_at counter (end + 2028 * k)) in
    let more : List ℕ = flat_map root_entry s.more in
    let front : List ℕ = flat_map root_entry (names counter end k) in
    let whole : flat_map root_entry (names counter end n) ≡ front ++ (own ++ more) = ap (λ (es : List RootEntry). flat_map root_entry es) s.whole ∙ flat_map-append root_entry (names counter end k) (root_at counter (end + 2028 * k) ∷ s.more) in
    let gone : Missing left (own ++ more) = λ others f. missing (more ++ others) (f ∙ append_assoc own more others ∙ ap (λ m. root_entry (root_at counter m) ++ (more ++ others)) (sym at)) in
    missing_then bytes front left front (own ++ more) refl found gone rest (e ∙ ap (λ (t : List ℕ). t ++ rest) whole)

pub root_spelled : (counter end n : ℕ) (own : RootEntry) → root_body (names counter end n ++ own ∷ []) ≡ le_bytes 4 (n + 1) ++ (flat_map root_entry (names counter end n) ++ root_entry own)
root_spelled counter end n own =
    let size : length (names counter end n ++ own ∷ []) ≡ n + 1 = omega (arith, names_length counter end n, length-append (names counter end n) (own ∷ [])) in
    ap (λ m. le_bytes 4 m ++ flat_map root_entry (names counter end n ++ own ∷ [])) size ∙ ap (λ (t : List ℕ). le_bytes 4 (n + 1) ++ t) (flat_map_more root_entry (names counter end n) own)
