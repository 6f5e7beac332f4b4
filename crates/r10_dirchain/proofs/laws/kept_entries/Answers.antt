use Rattle.r10_dirchain.proofs.KeptEntries.{kept_bytes}
use Rattle.r10_dirchain.proofs.laws.kept_entries.Goals as goal

pub returns : goal.returns
returns c = record { bytes = kept_bytes }
