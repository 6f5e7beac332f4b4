-- Lists of files with a last one.
pub use Rattle.r10_volume.proofs.Ends.{all_front, all_with}
pub use Rattle.r10_machine.proofs.Growing.{append_last as last_is}
