-- A channel's part of the accounts of all.
use Rattle.std.proofs.Common.{◌≡◌, ℕ, ◌+◌, ◌-◌, ◌<◌, ◌≤◌, ◌^◌, ◌==◌, Bool, true, false, List, [], ◌∷◌, ◌++◌, length, find, refl, sym, ap, ◌∙◌, arith, length-append, Some}
use Rattle.std.proofs.lemmas.Bool.{eqb-true}
use Rattle.r10_body.specs.declared.entry.Entry.{Entry}
use Rattle.r10_body.specs.declared.entry.Sample.{Sample}
use Rattle.r10_body.specs.declared.spec.ChannelSpec.{ChannelSpec}
use Rattle.r10_held.specs.Account.{ChannelAccount, ChannelAccounts, ChannelBound, ChannelBounds}
use Rattle.r10_held.specs.Recorder.{number_on}
use Rattle.r10_machine.specs.Machine.{saturated}
use Rattle.r10_shared.proofs.Counting.{number_first, number_later}

module _ {L : Type 0} (spec_of : L → ChannelSpec) (received_of : L → List Sample) (own : List Entry) (channel : ℕ) where
  is_on : ChannelSpec → Bool
  is_on spec = spec.id == channel

  -- the channel's lane, with its account and its numbers
  pub record AccountOn (specs : List ChannelSpec) (taken erased : List ℕ) (lanes : List L) : Type 0 where
    pub lane : L
    pub found : find (λ (l : L). (spec_of l).id == channel) lanes ≡ Some lane
    pub spec : ChannelSpec
    pub id_is : spec.id ≡ channel
    pub t : ℕ
    pub e : ℕ
    pub taken_at : number_on channel specs taken ≡ Some t
    pub erased_at : number_on channel specs erased ≡ Some e
    pub account : ChannelAccount spec_of received_of own spec t e lane

  pub account_on : (specs : List ChannelSpec) (taken erased : List ℕ) (lanes : List L) (n : ℕ) → ChannelAccounts spec_of received_of own specs taken erased lanes → number_on channel specs taken ≡ Some n → AccountOn specs taken erased lanes
  account_on [] [] [] [] n all there = absurd (cc)
  account_on (spec ∷ specs) (t ∷ taken) (e ∷ erased) (l ∷ lanes) n all there = by (spec.id == channel) refl (λ later. account_on specs taken erased lanes n all.1 later)
    where
      same : ((spec_of l).id == channel) ≡ (spec.id == channel)
      same = ap (λ (s : ChannelSpec). s.id == channel) all.0.spec_is

      by : (b : Bool) → (spec.id == channel) ≡ b → (number_on channel specs taken ≡ Some n → AccountOn specs taken erased lanes) → AccountOn (spec ∷ specs) (t ∷ taken) (e ∷ erased) (l ∷ lanes)
      by true is rest = record {
        lane = l;
        found = rw (same ∙ is) refl;
        spec = spec;
        id_is = eqb-true spec.id channel is;
        t = t;
        e = e;
        taken_at = number_first (λ (spec : ChannelSpec). spec.id == channel) spec specs t taken is;
        erased_at = number_first (λ (spec : ChannelSpec). spec.id == channel) spec specs e erased is;
        account = all.0;
      }
      by false is rest =
          let it = rest (sym (number_later (λ (spec : ChannelSpec). spec.id == channel) spec specs t taken is) ∙ there) in record {
            lane = it.lane;
            found = rw (same ∙ is) it.found;
            spec = it.spec;
            id_is = it.id_is;
            t = it.t;
            e = it.e;
            taken_at = number_later (λ (spec : ChannelSpec). spec.id == channel) spec specs t taken is ∙ it.taken_at;
            erased_at = number_later (λ (spec : ChannelSpec). spec.id == channel) spec specs e erased is ∙ it.erased_at;
            account = it.account;
          }
  account_on [] [] [] (l ∷ lanes) n all there = absurd all
  account_on [] [] (e ∷ erased) lanes n all there = absurd all
  account_on [] (t ∷ taken) erased lanes n all there = absurd all
  account_on (spec ∷ specs) [] erased lanes n all there = absurd all
  account_on (spec ∷ specs) (t ∷ taken) [] lanes n all there = absurd all
  account_on (spec ∷ specs) (t ∷ taken) (e ∷ erased) [] n all there = absurd all

-- ---- bounds

module _ {L : Type 0} (spec_of : L → ChannelSpec) (received_of : L → List Sample) (channel : ℕ) where
  -- the channel's lane, with its bounds and its numbers
  pub record BoundOn (specs : List ChannelSpec) (taken erased : List ℕ) (lanes : List L) : Type 0 where
    pub lane : L
    pub found : find (λ (l : L). (spec_of l).id == channel) lanes ≡ Some lane
    pub t : ℕ
    pub e : ℕ
    pub taken_at : number_on channel specs taken ≡ Some t
    pub erased_at : number_on channel specs erased ≡ Some e
    pub erased_within : e ≤ t
    pub taken_within : t ≤ length (received_of lane)

  pub bound_on : (specs : List ChannelSpec) (taken erased : List ℕ) (lanes : List L) (n : ℕ) → ChannelBounds spec_of received_of specs taken erased lanes → number_on channel specs taken ≡ Some n → BoundOn specs taken erased lanes
  bound_on [] [] [] [] n all there = absurd (cc)
  bound_on (spec ∷ specs) (t ∷ taken) (e ∷ erased) (l ∷ lanes) n all there = by (spec.id == channel) refl (λ later. bound_on specs taken erased lanes n all.1 later)
    where
      same : ((spec_of l).id == channel) ≡ (spec.id == channel)
      same = ap (λ (s : ChannelSpec). s.id == channel) all.0.spec_is

      by : (b : Bool) → (spec.id == channel) ≡ b → (number_on channel specs taken ≡ Some n → BoundOn specs taken erased lanes) → BoundOn (spec ∷ specs) (t ∷ taken) (e ∷ erased) (l ∷ lanes)
      by true is rest = record {
        lane = l;
        found = rw (same ∙ is) refl;
        t = t;
        e = e;
        taken_at = number_first (λ (spec : ChannelSpec). spec.id == channel) spec specs t taken is;
        erased_at = number_first (λ (spec : ChannelSpec). spec.id == channel) spec specs e erased is;
        erased_within = all.0.erased_within;
        taken_within = all.0.taken_within;
      }
      by false is rest =
          let it = rest (sym (number_later (λ (spec : ChannelSpec). spec.id == channel) spec specs t taken is) ∙ there) in record {
            lane = it.lane;
            found = rw (same ∙ is) it.found;
            t = it.t;
            e = it.e;
            taken_at = number_later (λ (spec : ChannelSpec). spec.id == channel) spec specs t taken is ∙ it.taken_at;
            erased_at = number_later (λ (spec : ChannelSpec). spec.id == channel) spec specs e erased is ∙ it.erased_at;
            erased_within = it.erased_within;
            taken_within = it.taken_within;
          }
  bound_on [] [] [] (l ∷ lanes) n all there = absurd all
  bound_on [] [] (e ∷ erased) lanes n all there = absurd all
  bound_on [] (t ∷ taken) erased lanes n all there = absurd all
  bound_on (spec ∷ specs) [] erased lanes n all there = absurd all
  bound_on (spec ∷ specs) (t ∷ taken) [] lanes n all there = absurd all
  bound_on (spec ∷ specs) (t ∷ taken) (e ∷ erased) [] n all there = absurd all

-- ---- numbers

pub some_number : (m n : ℕ) → Some m ≡ Some n → m ≡ n
some_number m n e = cc

-- where it is known how many were sent, all numbers are known, and there is room for the rest
pub record Counted (gone kept rest : List Sample) (accepted taken erased : ℕ) : Type 0 where
  pub taken_is : taken ≡ length gone + length kept
  pub erased_is : erased ≡ saturated (length gone)
  pub filed_is : taken - erased ≡ saturated (length kept)
  pub room : accepted - taken ≡ length rest

pub counted : (gone kept rest sent : List Sample) (accepted taken erased : ℕ) → accepted ≡ saturated (length sent) → accepted < 2 ^ 64 - 1 → sent ≡ (gone ++ kept) ++ rest → erased ≡ saturated (length gone) → taken ≡ saturated (length gone + length kept)
    → Counted gone kept rest accepted taken erased
counted gone kept rest sent accepted taken erased accepted_is few sent_is erased_is taken_is =
    let total : length sent ≡ (length gone + length kept) + length rest = ap (λ (l : List Sample). length l) sent_is ∙ length-append (gone ++ kept) rest ∙ ap (λ (n : ℕ). n + length rest) (length-append gone kept) in record {
      taken_is = omega (arith, total, accepted_is, few, taken_is);
      erased_is = erased_is;
      filed_is = omega (arith, total, accepted_is, few, taken_is, erased_is);
      room = omega (arith, total, accepted_is, few, taken_is);
    }
