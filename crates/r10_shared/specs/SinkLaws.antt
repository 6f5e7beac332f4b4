-- What a player handed on first and then, it handed on in this order.
use Rattle.std.proofs.Common.{◌≡◌, List, [], ◌∷◌, ◌++◌, Option, Some, None}
use Rattle.r10_held.specs.declared.transcript.Instalment.{Instalment}
use Rattle.atomic_table.specs.Seated.{TableId}
use Rattle.r10_shared.specs.ReadingLaws.{reads_both, reads_stay, taken_joins, taken_stays}
use Rattle.r10_shared.specs.Sinks.{HandsOnInstalments}
use Rattle.r10_shared.specs.declared.reading.Transcribing.{Transcribing}

module _ {K : Type 0} (accepted : K → List Instalment) (has_refused : K → Type 0) where
  pub hands_stay : (r : Transcribing) (k : Option K) → HandsOnInstalments accepted has_refused r k r k
  hands_stay r None = reads_stay r
  hands_stay r (Some k) = record { took = taken_stays r.player (accepted k ++ r.instalments.items); handed = λ so. so }

  pub hands_at : (r : Transcribing) (k : Option K) (s : Transcribing) (l : Option K)
      → HandsOnInstalments accepted has_refused r k s l → s.player.pass.cell ≡ r.player.pass.cell
  hands_at r None s None hands = hands.gauge
  hands_at r (Some k) s (Some l) hands = hands.took.gauge
  hands_at r None s (Some l) hands = absurd hands
  hands_at r (Some k) s None hands = absurd hands

  pub hands_both : (r : Transcribing) (k : Option K) (s : Transcribing) (l : Option K) (t : Transcribing) (m : Option K)
      → HandsOnInstalments accepted has_refused r k s l → HandsOnInstalments accepted has_refused s l t m
      → HandsOnInstalments accepted has_refused r k t m
  hands_both r None s None t None first then = reads_both r s t first then
  hands_both r (Some k) s (Some l) t (Some m) first then = record {
    took = taken_joins r.player (accepted k ++ r.instalments.items) s.player (accepted l ++ s.instalments.items) t.player
        (accepted m ++ t.instalments.items) first.took then.took;
    handed = λ so. then.handed (first.handed so);
  }
  hands_both r None s (Some l) t m first then = absurd first
  hands_both r (Some k) s None t m first then = absurd first
  hands_both r None s None t (Some m) first then = absurd then
  hands_both r (Some k) s (Some l) t None first then = absurd then
