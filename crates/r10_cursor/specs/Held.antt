-- Files of the recorder's small machine, as a medium shows them, and how far a cursor has come in one.
use Rattle.std.specs.Prelude.{◌≡◌, ℕ, ◌≤◌, List, length, take, drop, Option}
use Rattle.r10_medium.specs.Disk.{Image}
use Rattle.r10_dirchain.specs.declared.chain.ChainBlock.{ChainBlock}
use Rattle.r10_body.specs.Packets.{Packet, file_entries}
use Rattle.r10_machine.specs.Cuts.{Agree}
use Rattle.r10_machine.specs.Machine.{File, shown_entries}
use Rattle.r10_machine.specs.Replay.{wanted, Ordered}
use Rattle.r10_cursor.specs.Replays.{Reading}
use Rattle.r10_machine.specs.Finding.{ticks_of}
use Rattle.r10_cursor.specs.Files.{ShowsFile}
use Rattle.r10_cursor.specs.declared.written.Written.{Written}

-- the file of a number is this one: the packets that the medium shows of it say, on each channel, the entries that it shows,
-- and the times in their order
pub record IsHeldFile (image : Image) (chain : List ChainBlock) (written : Option Written) (file : ℕ) (f : File) : Type 0 where
  pub packets : List Packet
  pub shows : ShowsFile image chain written file packets
  pub inside : f.shown ≤ length f.entries
  pub agree : Agree (file_entries packets) (shown_entries f)
  pub ticks : ticks_of (file_entries packets) ≡ ticks_of (shown_entries f)

-- the first of a file's packets, so many, say on each channel the first n of its entries, which it shows
pub record IsCovered (packets : List Packet) (f : File) (count n : ℕ) : Type 0 where
  pub within : count ≤ length packets
  pub inside : n ≤ f.shown
  pub agree : Agree (file_entries (take count packets)) (take n f.entries)

-- a cursor that had covered the first n entries has the next instalment in its queue, and has covered all that the file shows
pub record ReadingGoesOn (packets : List Packet) (f : File) (n : ℕ) (old new : Reading) : Type 0 where
  pub rest : new ≡ record old { covered = length packets; queue = new.queue }
  pub queue : Ordered (wanted old.channels old.from old.to (drop n (shown_entries f))) new.queue
  pub covered : IsCovered packets f new.covered f.shown
