-- What is kept of a file that is judged to its end.
use Rattle.std.proofs.Common.{ℕ, Bool, List, sym, ◌∙◌, subst}
use Rattle.r10_body.specs.Packets.{Packet}
use Rattle.r10_body.proofs.OneMeaning.{one_list}
use Rattle.r10_file_rules.specs.Tracks.{IsTracked}
use Rattle.r10_file_rules.specs.declared.tracks.Tracks.{Tracks}
use Rattle.r10_judge.specs.Judged.{KeepsRulesSoFar, TracksStrictFile, SaysClosed}

-- the packets that were taken are those of the file
pub kept_file : (closed : Bool) (tracks : Tracks) (bytes : List ℕ) → KeepsRulesSoFar closed tracks bytes → SaysClosed bytes closed → TracksStrictFile closed tracks bytes
kept_file closed tracks bytes goes (text, entries, (packets, are, say)) = record {
  text = text;
  entries = entries;
  packets = packets;
  bytes_are = are;
  say = say;
  tracked = subst (λ (ps : List Packet). IsTracked tracks ps) (one_list goes.packets packets goes.keep.strict say.file.each (sym goes.bytes_are ∙ are)) goes.tracked;
}
