-- What players wrote down of what they read, and when it agrees with a recorder's files.
use Rattle.std.specs.Prelude.{◌≡◌, ℕ, ◌≤◌, List, [], ◌∷◌, length, take, drop}
use Rattle.std.specs.List.{AllByRecursion}
use Rattle.r10_body.specs.Packets.{Packet, file_entries}
use Rattle.r10_machine.specs.Replay.{Ordered, wanted}
use Rattle.r10_refinement.specs.KeptState.{Work}
use Rattle.r10_medium.specs.Disk.{Image}
use Rattle.r10_control.specs.Reading.{ShowsAt}
use Rattle.r10_held.specs.declared.transcript.Instalment.{Instalment}
use Rattle.r10_held.specs.declared.transcript.Transcript.{Transcript}

-- from a place on each begins where the one before it ended, and none ends before it begins
abbrev pub Follow : ℕ → List Instalment → Type 0
Follow at [] = Unit {0}
Follow at (i ∷ instalments) = (i.from ≡ at) × (i.from ≤ i.to) × Follow i.to instalments

-- where the first begins
abbrev pub beginning : List Instalment → ℕ
beginning [] = 0
beginning (i ∷ instalments) = i.from

-- of a file that shows these packets, an instalment ends among them, and has what is wanted of those from its beginning to its
-- end, in order
pub record IsPart (packets : List Packet) (channels : List ℕ) (first last : ℕ) (i : Instalment) : Type 0 where
  pub within : i.to ≤ length packets
  pub entries : Ordered (wanted channels first last (file_entries (drop i.from (take i.to packets)))) i.entries

-- the file of its number is there and shows packets, of which the transcript's instalments, one after the other, are parts
pub record Agrees (work : Work) (image : Image) (t : Transcript) : Type 0 where
  pub packets : List Packet
  pub shows : ShowsAt work image t.file packets
  pub follow : Follow (beginning t.instalments.items) t.instalments.items
  pub parts : AllByRecursion (IsPart packets t.channels t.first t.last) t.instalments.items

-- each of them does
abbrev pub AllAgree : Work → Image → List Transcript → Type 0
AllAgree work image transcripts = AllByRecursion (Agrees work image) transcripts
