-- What keeps the account of a recorder's lanes.
use Rattle.std.proofs.Common.{◌≡◌, ℕ, ◌+◌, ◌==◌, Bool, true, false, cond, List, [], ◌∷◌, ◌++◌, length, map, replicate, refl, sym, ap, subst, ◌∙◌, append_assoc, length-append, arith}
use Rattle.std.specs.List.{AllByRecursion}
use Rattle.std.proofs.lemmas.List.{append-nil, length-map, map-append}
use Rattle.std.proofs.lemmas.Bool.{eqb-true}
use Rattle.std.proofs.lemmas.List.Elements.{filter-append}
use Rattle.r10_body.specs.Files.{on_channel}
use Rattle.r10_body.specs.Rules.{is_entry_on}
use Rattle.r10_body.specs.declared.entry.Entry.{Entry}
use Rattle.r10_body.specs.declared.entry.Sample.{Sample}
use Rattle.r10_body.specs.declared.spec.ChannelSpec.{ChannelSpec}
use Rattle.r10_control.specs.Taking.{entry_on, entries_on, Part, TookAll, entries_of, samples_on}
use Rattle.r10_machine.specs.Machine.{saturated}
use Rattle.r10_refinement.specs.Grown.{AreGrown}
use Rattle.r10_held.specs.Account.{ChannelAccount, ChannelAccounts, ChannelBound, ChannelBounds}

-- ---- what was taken, on one channel

one_on : (channel id : ℕ) (samples : List Sample) (t : Bool) → (id == channel) ≡ t → (channel == id) ≡ t → on_channel channel (entries_on id samples) ≡ entries_on channel (cond t samples [])
one_on channel id [] true is other = refl
one_on channel id [] false is other = refl
one_on channel id (s ∷ samples) true is other =
    let same : id ≡ channel = eqb-true id channel is in
    rw is (subst (λ (c : ℕ). entry_on c s ∷ on_channel channel (entries_on id samples) ≡ entry_on channel s ∷ entries_on channel samples) (sym same) (ap (λ (es : List Entry). entry_on channel s ∷ es) (one_on channel id samples true is other)))
one_on channel id (s ∷ samples) false is other = rw is (one_on channel id samples false is other)

eq_sym : (a b : ℕ) → (a == b) ≡ (b == a)
eq_sym a b = grind arith

samples_as : (channel : ℕ) (parts : List Part) → on_channel channel (entries_of parts) ≡ entries_on channel (samples_on channel parts)
samples_as channel [] = refl
samples_as channel (p ∷ parts) =
    filter-append (is_entry_on channel) (entries_on p.channel p.samples) (entries_of parts)
    ∙ ap (λ (es : List Entry). es ++ on_channel channel (entries_of parts)) (one_on channel p.channel p.samples (channel == p.channel) (eq_sym p.channel channel) refl)
    ∙ ap (λ (es : List Entry). entries_on channel (cond (channel == p.channel) p.samples []) ++ es) (samples_as channel parts)
    ∙ sym (map-append (entry_on channel) (cond (channel == p.channel) p.samples []) (samples_on channel parts))

-- ---- channel by channel

module _ {L : Type 0} (took : L → List Sample → L → Type 0) (spec_of : L → ChannelSpec) (received_of : L → List Sample) (gives : (a b : L) (xs : List Sample) → took a xs b → (spec_of b ≡ spec_of a) × (received_of b ≡ received_of a ++ xs)) where
  one_takes : (own : List Entry) (parts : List Part) (spec : ChannelSpec) (t u e : ℕ) (o p : L) → u ≡ saturated (t + length (on_channel spec.id (entries_of parts)))
      → took o (samples_on (spec_of o).id parts) p → ChannelAccount spec_of received_of own spec t e o → ChannelAccount spec_of received_of (own ++ entries_of parts) spec u e p
  one_takes own parts spec t u e o p counted taken was =
      let xs = samples_on spec.id parts in
      let gave = gives o p (samples_on (spec_of o).id parts) taken in
      let took' : received_of p ≡ received_of o ++ xs = gave.1 ∙ ap (λ (s : ChannelSpec). received_of o ++ samples_on s.id parts) was.spec_is in
      let same : on_channel spec.id (entries_of parts) ≡ entries_on spec.id xs = samples_as spec.id parts in
      record {
        spec_is = gave.0 ∙ was.spec_is;
        gone = was.gone;
        filed = was.filed ++ xs;
        received_is = took' ∙ ap (λ (l : List Sample). l ++ xs) was.received_is ∙ append_assoc was.gone was.filed xs;
        erased_is = was.erased_is;
        taken_is = counted_is (length was.gone + length was.filed) (length (on_channel spec.id (entries_of parts))) (length was.gone + length (was.filed ++ xs)) was.taken_is counted
            (omega (arith, length-append was.filed xs, ap (λ (l : List Entry). length l) same, length-map xs (entry_on spec.id)));
        entries_are = filter-append (is_entry_on spec.id) own (entries_of parts) ∙ ap (λ (l : List Entry). on_channel spec.id own ++ l) same ∙ ap (λ (l : List Entry). l ++ entries_on spec.id xs) was.entries_are
            ∙ sym (map-append (entry_on spec.id) was.filed xs);
      }
    where
      counted_is : (n k m : ℕ) → t ≡ saturated n → u ≡ saturated (t + k) → m ≡ n + k → u ≡ saturated m
      counted_is n k m is then sum = omega (arith, is, then, sum)

  pub all_take : (own : List Entry) (parts : List Part) (specs : List ChannelSpec) (taken grown erased : List ℕ) (lanes later : List L) → AreGrown (entries_of parts) specs taken grown → TookAll took spec_of parts lanes later
      → ChannelAccounts spec_of received_of own specs taken erased lanes → ChannelAccounts spec_of received_of (own ++ entries_of parts) specs grown erased later
  all_take own parts [] [] [] [] [] [] counts gave was = tt
  all_take own parts (spec ∷ specs) (t ∷ taken) (u ∷ grown) (e ∷ erased) (o ∷ lanes) (p ∷ later) counts gave was =
      (one_takes own parts spec t u e o p counts.0 gave.0 was.0, all_take own parts specs taken grown erased lanes later counts.1 gave.1 was.1)
  all_take own parts [] [] [] [] [] (p ∷ later) counts gave was = absurd gave
  all_take own parts [] [] [] [] (o ∷ lanes) later counts gave was = absurd was
  all_take own parts [] [] [] (e ∷ erased) lanes later counts gave was = absurd was
  all_take own parts [] [] (u ∷ grown) erased lanes later counts gave was = absurd counts
  all_take own parts [] (t ∷ taken) grown erased lanes later counts gave was = absurd counts
  all_take own parts (spec ∷ specs) [] grown erased lanes later counts gave was = absurd counts
  all_take own parts (spec ∷ specs) (t ∷ taken) [] erased lanes later counts gave was = absurd counts
  all_take own parts (spec ∷ specs) (t ∷ taken) (u ∷ grown) [] lanes later counts gave was = absurd was
  all_take own parts (spec ∷ specs) (t ∷ taken) (u ∷ grown) (e ∷ erased) [] later counts gave was = absurd was
  all_take own parts (spec ∷ specs) (t ∷ taken) (u ∷ grown) (e ∷ erased) (o ∷ lanes) [] counts gave was = absurd gave

  -- within what was received the numbers stay, whatever more is received
  one_stays_within : (parts : List Part) (spec : ChannelSpec) (t e : ℕ) (o p : L) → took o (samples_on (spec_of o).id parts) p → ChannelBound spec_of received_of spec t e o → ChannelBound spec_of received_of spec t e p
  one_stays_within parts spec t e o p taken was =
      let gave = gives o p (samples_on (spec_of o).id parts) taken in
      let longer : length (received_of p) ≡ length (received_of o) + length (samples_on (spec_of o).id parts) = ap (λ (l : List Sample). length l) gave.1 ∙ length-append (received_of o) (samples_on (spec_of o).id parts) in record {
        spec_is = gave.0 ∙ was.spec_is;
        erased_within = was.erased_within;
        taken_within = omega (arith, was.taken_within, longer);
      }

  pub all_stay_within : (parts : List Part) (specs : List ChannelSpec) (taken erased : List ℕ) (lanes later : List L) → TookAll took spec_of parts lanes later → ChannelBounds spec_of received_of specs taken erased lanes
      → ChannelBounds spec_of received_of specs taken erased later
  all_stay_within parts [] [] [] [] [] gave was = tt
  all_stay_within parts (spec ∷ specs) (t ∷ taken) (e ∷ erased) (o ∷ lanes) (p ∷ later) gave was = (one_stays_within parts spec t e o p gave.0 was.0, all_stay_within parts specs taken erased lanes later gave.1 was.1)
  all_stay_within parts [] [] [] [] (p ∷ later) gave was = absurd gave
  all_stay_within parts [] [] [] (o ∷ lanes) later gave was = absurd was
  all_stay_within parts [] [] (e ∷ erased) lanes later gave was = absurd was
  all_stay_within parts [] (t ∷ taken) erased lanes later gave was = absurd was
  all_stay_within parts (spec ∷ specs) [] erased lanes later gave was = absurd was
  all_stay_within parts (spec ∷ specs) (t ∷ taken) [] lanes later gave was = absurd was
  all_stay_within parts (spec ∷ specs) (t ∷ taken) (e ∷ erased) [] later gave was = absurd was
  all_stay_within parts (spec ∷ specs) (t ∷ taken) (e ∷ erased) (o ∷ lanes) [] gave was = absurd gave

module _ {L : Type 0} (spec_of : L → ChannelSpec) (received_of : L → List Sample) where
  -- the numbers of an account are within what was received
  one_within : (own : List Entry) (spec : ChannelSpec) (t e : ℕ) (o : L) → ChannelAccount spec_of received_of own spec t e o → ChannelBound spec_of received_of spec t e o
  one_within own spec t e o was =
      let all : length (received_of o) ≡ length was.gone + length was.filed = ap (λ (l : List Sample). length l) was.received_is ∙ length-append was.gone was.filed in record {
        spec_is = was.spec_is;
        erased_within = omega (arith, was.erased_is, was.taken_is);
        taken_within = omega (arith, was.taken_is, all);
      }

  pub all_within : (own : List Entry) (specs : List ChannelSpec) (taken erased : List ℕ) (lanes : List L) → ChannelAccounts spec_of received_of own specs taken erased lanes → ChannelBounds spec_of received_of specs taken erased lanes
  all_within own [] [] [] [] was = tt
  all_within own (spec ∷ specs) (t ∷ taken) (e ∷ erased) (o ∷ lanes) was = (one_within own spec t e o was.0, all_within own specs taken erased lanes was.1)
  all_within own [] [] [] (o ∷ lanes) was = absurd was
  all_within own [] [] (e ∷ erased) lanes was = absurd was
  all_within own [] (t ∷ taken) erased lanes was = absurd was
  all_within own (spec ∷ specs) [] erased lanes was = absurd was
  all_within own (spec ∷ specs) (t ∷ taken) [] lanes was = absurd was
  all_within own (spec ∷ specs) (t ∷ taken) (e ∷ erased) [] was = absurd was

  -- where nothing was taken in, the numbers grew by nothing
  pub none_grown : (own : List Entry) (specs : List ChannelSpec) (taken erased : List ℕ) (lanes : List L) → ChannelAccounts spec_of received_of own specs taken erased lanes → AreGrown [] specs taken taken
  none_grown own [] [] [] [] was = tt
  none_grown own (spec ∷ specs) (t ∷ taken) (e ∷ erased) (o ∷ lanes) was = (stays_so (length was.0.gone + length was.0.filed) was.0.taken_is, none_grown own specs taken erased lanes was.1)
    where
      stays_so : (n : ℕ) → t ≡ saturated n → t ≡ saturated (t + 0)
      stays_so n is = omega (arith, is)
  none_grown own [] [] [] (o ∷ lanes) was = absurd was
  none_grown own [] [] (e ∷ erased) lanes was = absurd was
  none_grown own [] (t ∷ taken) erased lanes was = absurd was
  none_grown own (spec ∷ specs) [] erased lanes was = absurd was
  none_grown own (spec ∷ specs) (t ∷ taken) [] lanes was = absurd was
  none_grown own (spec ∷ specs) (t ∷ taken) (e ∷ erased) [] was = absurd was

  -- entries of none of these channels after
  one_stays : (own more : List Entry) (spec : ChannelSpec) (t e : ℕ) (o : L) → on_channel spec.id more ≡ [] → ChannelAccount spec_of received_of own spec t e o → ChannelAccount spec_of received_of (own ++ more) spec t e o
  one_stays own more spec t e o none was = record {
    spec_is = was.spec_is;
    gone = was.gone;
    filed = was.filed;
    received_is = was.received_is;
    erased_is = was.erased_is;
    taken_is = was.taken_is;
    entries_are = filter-append (is_entry_on spec.id) own more ∙ ap (λ (l : List Entry). on_channel spec.id own ++ l) none ∙ append-nil (on_channel spec.id own) ∙ was.entries_are;
  }

  pub all_stay : (own more : List Entry) (specs : List ChannelSpec) (taken erased : List ℕ) (lanes : List L) → AllByRecursion (λ (spec : ChannelSpec). on_channel spec.id more ≡ []) specs
      → ChannelAccounts spec_of received_of own specs taken erased lanes → ChannelAccounts spec_of received_of (own ++ more) specs taken erased lanes
  all_stay own more [] [] [] [] none was = tt
  all_stay own more (spec ∷ specs) (t ∷ taken) (e ∷ erased) (o ∷ lanes) none was = (one_stays own more spec t e o none.0 was.0, all_stay own more specs taken erased lanes none.1 was.1)
  all_stay own more [] [] [] (o ∷ lanes) none was = absurd was
  all_stay own more [] [] (e ∷ erased) lanes none was = absurd was
  all_stay own more [] (t ∷ taken) erased lanes none was = absurd was
  all_stay own more (spec ∷ specs) [] erased lanes none was = absurd was
  all_stay own more (spec ∷ specs) (t ∷ taken) [] lanes none was = absurd was
  all_stay own more (spec ∷ specs) (t ∷ taken) (e ∷ erased) [] none was = absurd was

  -- erased: what was filed is gone
  one_erased : (own : List Entry) (spec : ChannelSpec) (t e : ℕ) (o : L) → ChannelAccount spec_of received_of own spec t e o → ChannelAccount spec_of received_of [] spec t t o
  one_erased own spec t e o was = record {
    spec_is = was.spec_is;
    gone = was.gone ++ was.filed;
    filed = [];
    received_is = was.received_is ∙ sym (append-nil (was.gone ++ was.filed));
    erased_is = was.taken_is ∙ ap saturated (sym (length-append was.gone was.filed));
    taken_is = was.taken_is ∙ ap saturated (omega (arith, length-append was.gone was.filed));
    entries_are = refl;
  }

  pub all_erased : (own : List Entry) (specs : List ChannelSpec) (taken erased : List ℕ) (lanes : List L) → ChannelAccounts spec_of received_of own specs taken erased lanes → ChannelAccounts spec_of received_of [] specs taken taken lanes
  all_erased own [] [] [] [] was = tt
  all_erased own (spec ∷ specs) (t ∷ taken) (e ∷ erased) (o ∷ lanes) was = (one_erased own spec t e o was.0, all_erased own specs taken erased lanes was.1)
  all_erased own [] [] [] (o ∷ lanes) was = absurd was
  all_erased own [] [] (e ∷ erased) lanes was = absurd was
  all_erased own [] (t ∷ taken) erased lanes was = absurd was
  all_erased own (spec ∷ specs) [] erased lanes was = absurd was
  all_erased own (spec ∷ specs) (t ∷ taken) [] lanes was = absurd was
  all_erased own (spec ∷ specs) (t ∷ taken) (e ∷ erased) [] was = absurd was

  -- at first
  one_new : (spec : ChannelSpec) (o : L) → spec_of o ≡ spec → received_of o ≡ [] → ChannelAccount spec_of received_of [] spec 0 0 o
  one_new spec o is none = record {
    spec_is = is;
    gone = [];
    filed = [];
    received_is = none;
    erased_is = refl;
    taken_is = refl;
    entries_are = refl;
  }

  pub all_new : (lanes : List L) → AllByRecursion (λ (lane : L). received_of lane ≡ []) lanes → ChannelAccounts spec_of received_of [] (map spec_of lanes) (replicate (length (map spec_of lanes)) 0) (replicate (length (map spec_of lanes)) 0) lanes
  all_new [] none = tt
  all_new (o ∷ lanes) none = (one_new (spec_of o) o refl none.0, all_new lanes none.1)

-- ---- parts without samples
