-- What a recorder keeps, as contracts see it.
use Rattle.r10_refinement.specs.KeptState.{Kept}
use Rattle.r10_control.specs.Work.{work_of}
use Rattle.r10_control.specs.declared.keeping.Keeping.{Keeping}

abbrev pub kept_of : Keeping → Kept
kept_of k = record {
  config = k.settings;
  work = work_of k.work;
  tick = k.tick;
  last_event = k.last_event;
  generation = k.generation;
  taken = k.taken.items;
  erased = k.erased.items;
  found = k.found;
}
