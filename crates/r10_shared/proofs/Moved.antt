-- What is moved out of a channel's lane, and who has it then.
use Rattle.std.proofs.Common.{◌≡◌, ℕ, ◌<◌, ◌==◌, List, length, get_or, ◌≤◌, arith, refl, sym, ap, subst, ◌∙◌, Option, Some, None}
use Rattle.std.specs.Prelude.{IsSomeAnd, slice_index_or}
use Rattle.std.specs.List.{find, position}
use Rattle.r10_builder.proofs.First.{place_found, place_none}
use Rattle.r10_port.specs.Ends.{Receiving, Ring, Sending}
use Rattle.r10_shared.proofs.Matching.{DoneTo}
use Rattle.r10_shared.specs.Settling.{AreBegun, AreWrittenDown, Drains, receiving_of}
use Rattle.r10_shared.specs.declared.reading.Transcribing.{Transcribing}
use Rattle.r10_shared.specs.declared.report.FeedReport.{FeedReport}
use Rattle.r10_held.specs.declared.transcript.Transcript.{Transcript}

module _ (channel : ℕ) (lanes : List Receiving) (at : ℕ) (old : Receiving) (place : position (λ (lane : Receiving). lane.spec.id == channel) lanes ≡ Some at) (here : old ≡ get_or lanes at old) where
  found : receiving_of channel lanes ≡ Some old
  found = (place_found (λ (lane : Receiving). lane.spec.id == channel) lanes at old place).found ∙ ap (λ (l : Receiving). Some l) (sym here)

  pub within : at < length lanes
  within = (place_found (λ (lane : Receiving). lane.spec.id == channel) lanes at old place).within

  -- what is known of the channel's lane is known of it
  pub known_there : (P : Receiving → Type 0) → IsSomeAnd (receiving_of channel lanes) P → P old
  known_there P known = subst (λ (o : Option Receiving). IsSomeAnd o P) found known

  pub there_known : (P : Receiving → Type 0) → P old → IsSomeAnd (receiving_of channel lanes) P
  there_known P known = subst (λ (o : Option Receiving). IsSomeAnd o P) (sym found) known

-- where a channel's lane is, by other names
pub place_is : (channel channel' : ℕ) (lanes lanes' : List Receiving) (result answer : Option ℕ) → result ≡ position (λ (lane : Receiving). lane.spec.id == channel') lanes' → channel' ≡ channel → lanes' ≡ lanes → result ≡ answer
    → position (λ (lane : Receiving). lane.spec.id == channel) lanes ≡ answer
place_is channel channel' lanes lanes' result answer reported same all is =
    subst (λ (n : ℕ). position (λ (lane : Receiving). lane.spec.id == n) lanes ≡ answer) same (subst (λ (ls : List Receiving). position (λ (lane : Receiving). lane.spec.id == channel') ls ≡ answer) all (sym reported ∙ is))

-- a channel without a lane
pub nowhere : {T : Type 0} (channel : ℕ) (lanes : List Receiving) (P : Receiving → Type 0) → position (λ (lane : Receiving). lane.spec.id == channel) lanes ≡ None → IsSomeAnd (receiving_of channel lanes) P → T
nowhere channel lanes P none known = absurd (subst (λ (o : Option Receiving). IsSomeAnd o P) (place_none (λ (lane : Receiving). lane.spec.id == channel) lanes none) known)

-- ---- transcripts

-- a transcript with what a player wrote down
abbrev pub HasWritten : Transcribing → Transcript → Transcript → Type 0
HasWritten reading old new = new ≡ record old { instalments = reading.instalments }

pub all_written : (readings : List Transcribing) (transcripts : List Transcript) (place : ℕ) (readings' : List Transcribing) (later : List Transcript) → AreBegun readings transcripts → DoneTo HasWritten readings transcripts place readings' later → length readings ≤ place → AreWrittenDown readings later
all_written readings transcripts place readings' later begun done all = record {
  number = done.number ∙ begun.number;
  each = λ i a b inside.
      let was = begun.each i a b inside in
      let is : slice_index_or later i b ≡ record (slice_index_or transcripts i b) { instalments = (slice_index_or readings i a).instalments } = done.done i a b b (omega (arith, inside, all)) inside in (
        record {
          file = ap (λ (t : Transcript). t.file) is ∙ was.file;
          channels = ap (λ (t : Transcript). t.channels) is ∙ was.channels;
          first = ap (λ (t : Transcript). t.first) is ∙ was.first;
          last = ap (λ (t : Transcript). t.last) is ∙ was.last;
        },
        ap (λ (t : Transcript). t.instalments.items) is,
      );
}
