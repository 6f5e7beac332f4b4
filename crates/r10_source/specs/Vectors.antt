-- A source of three messages, pumped to a port that has room for two.
use Rattle.std.specs.Prelude.{◌≡◌, ℕ, true, false, List, [], ◌∷◌, Option, Some, None, Result, Ok, Err, refl}
use Rattle.std.proofs.Common.{lit≤}
use Rattle.r10_body.specs.Messages.{uart_message}
use Rattle.r10_body.specs.declared.entry.Sample.{Sample}
use Rattle.r10_body.specs.declared.entry.Timed.{Timed}
use Rattle.r10_body.specs.declared.gap.Gap.{Gap}
use Rattle.r10_body.specs.declared.gap.Gap.TheVariants.{Whole, Lost}
use Rattle.r10_body.specs.declared.message.Kind.TheVariants as kinds
use Rattle.r10_body.specs.declared.refusal.Refusal.{Refusal}
use Rattle.r10_body.specs.declared.refusal.Refusal.TheVariants.{BadMessage, Overflow}
use Rattle.r10_body.specs.declared.spec.ChannelSpec.{ChannelSpec}
use Rattle.r10_port.specs.Ends.{Ring, Sending}
use Rattle.r10_source.specs.declared.source.Given.TheVariants.{Item, Later, End}
use Rattle.r10_source.specs.declared.source.Given.TheVariants as given
use Rattle.r10_source.specs.declared.source.SourceItem.{SourceItem}
use Rattle.r10_source.specs.declared.source.SourceItem.TheVariants as brings
use Rattle.r10_source.specs.Given.{GivesNext}
use Rattle.r10_source.specs.Pumps.{Tried, tries, counts, PumpsSource, accepted_of}

abbrev channel : ChannelSpec
channel = record { id = 5; kind = kinds.Uart; capacity = 2; check = 0; bytes = 524288; number = 65535; bits = 0 }

abbrev timed : ℕ → Timed
timed count = record { count = count; message = uart_message false 0 [] }

abbrev sample : ℕ → Gap → Sample
sample count gap = record { count = count; message = uart_message false 0 []; gap = gap }

abbrev port : Ring → List Sample → Option ℕ → ℕ → ℕ → Sending
port ring sent last lost free = record {
  ring = ring;
  lane = record { spec = channel; waiting = sent; last = last; missed = lost; lost = lost; erased = 0 };
  free = free;
}

abbrev turn : ℕ → SourceItem
turn count = brings.Message (timed count)

abbrev tried : ℕ → Result (Unit {0}) Refusal → Tried
tried count answer = tries (timed count) answer

-- the first of what is left; nothing yet; nothing at all
an_item : GivesNext (Item 1 (uart_message false 0 [])) (turn 1 ∷ turn 2 ∷ []) (turn 2 ∷ [])
an_item = refl

a_loss : GivesNext (given.Lost 40) (brings.Lost 40 ∷ turn 2 ∷ []) (turn 2 ∷ [])
a_loss = refl

not_yet : GivesNext Later (turn 2 ∷ []) (turn 2 ∷ [])
not_yet = refl

the_end : GivesNext End [] []
the_end = (refl, refl)

-- in two turns two are accepted
two_turns : (ring : Ring) → PumpsSource 2 (turn 1 ∷ turn 2 ∷ turn 3 ∷ []) (turn 3 ∷ []) (port ring [] None 0 2)
    (port ring (sample 1 Whole ∷ sample 2 Whole ∷ []) (Some 2) 0 0) (record { accepted = 2; refused = 0; ended = false })
two_turns ring = record {
  tried = tried 1 (Ok tt) ∷ tried 2 (Ok tt) ∷ [];
  given = refl;
  offers = (
    port ring (sample 1 Whole ∷ []) (Some 1) 0 1,
    (refl, lit≤ tt),
    (port ring (sample 1 Whole ∷ sample 2 Whole ∷ []) (Some 2) 0 0, (refl, lit≤ tt), refl),
  );
  same = (refl, refl);
  sent = refl;
  accepted = refl;
  refused = refl;
  turns = lit≤ tt;
  ended = λ e. absurd (cc);
}

-- and in ten the third is refused, and the source ends
ten_turns : (ring : Ring) → PumpsSource 10 (turn 3 ∷ []) [] (port ring (sample 1 Whole ∷ sample 2 Whole ∷ []) (Some 2) 0 0)
    (port ring (sample 1 Whole ∷ sample 2 Whole ∷ []) (Some 2) 1 0) (record { accepted = 0; refused = 1; ended = true })
ten_turns ring = record {
  tried = tried 3 (Err Overflow) ∷ [];
  given = refl;
  offers = (port ring (sample 1 Whole ∷ sample 2 Whole ∷ []) (Some 2) 1 0, (refl, refl, refl), refl);
  same = (refl, refl);
  sent = refl;
  accepted = refl;
  refused = refl;
  turns = lit≤ tt;
  ended = λ e. refl;
}

-- only a loss makes a gap, and only of the next that is accepted, which tells how many were lost
marks : accepted_of 0 (tried 1 (Err BadMessage) ∷ tried 2 (Ok tt) ∷ tried 3 (Err Overflow) ∷ tried 4 (Err BadMessage)
    ∷ tried 5 (Err Overflow) ∷ tried 6 (Ok tt) ∷ tried 7 (Ok tt) ∷ [])
    ≡ sample 2 Whole ∷ sample 6 (Lost 2) ∷ sample 7 Whole ∷ []
marks = refl

-- those that were lost before count too, and the number stays at the greatest of 64 bits
lost_before : accepted_of 18446744073709551614 (tried 1 (Err Overflow) ∷ tried 2 (Err Overflow) ∷ tried 3 (Ok tt) ∷ []) ≡ sample 3
    (Lost 18446744073709551615) ∷ []
lost_before = refl

-- losses that the source knows of count with them, before the first message and between
losses_told : accepted_of 0 (counts 40 ∷ counts 2 ∷ tried 1 (Ok tt) ∷ tried 2 (Err Overflow) ∷ counts 5 ∷ tried 3 (Ok tt)
    ∷ tried 4 (Ok tt) ∷ counts 7 ∷ []) ≡ sample 1 (Lost 42) ∷ sample 3 (Lost 6) ∷ sample 4 Whole ∷ []
losses_told = refl
