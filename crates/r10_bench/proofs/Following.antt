-- A builder stays after its lane.
use Rattle.std.proofs.Common.{◌≡◌, ◌≤◌, ℕ, Option, None, MatchOption, sym, ap, subst, ◌∙◌, arith}
use Rattle.r10_body.specs.declared.entry.Sample.{Sample}
use Rattle.r10_body.specs.declared.spec.ChannelSpec.{ChannelSpec}
use Rattle.r10_builder.specs.Packing.{last_sample_count}
use Rattle.r10_builder.specs.State.{BuilderState, HasRoomForTwo, IsReadyWith, Pushed}
use Rattle.r10_builder.specs.declared.closed.Closed.{Closed}
use Rattle.r10_bench.specs.BuilderAfterLane.{IsBehind}
use Rattle.r10_builder.proofs.Lists.{last_more}

-- what comes at this count comes later too, or at once
pub later : (spec next : ChannelSpec) (n m : ℕ) (b : BuilderState) → IsBehind spec n b → next ≡ spec → n ≤ m → IsBehind next m b
later spec next n m b behind same up = record {
  same = behind.same ∙ sym same;
  later = omega (arith, behind.later, up);
  ready = behind.ready;
}

-- a sample that joined the others is the last one
pub joined : (old new : BuilderState) (s : Sample) (closed : Option Closed) → closed ≡ None → new.spec ≡ old.spec → Pushed old s closed new → MatchOption closed (HasRoomForTwo new) (λ closed. IsReadyWith closed new) → IsBehind old.spec s.count new
joined old new s closed none same pushed ready =
    let p : Pushed old s None new = subst (λ o. Pushed old s o new) none pushed in
    let r : HasRoomForTwo new = subst (λ o. MatchOption o (HasRoomForTwo new) (λ closed. IsReadyWith closed new)) none ready in
    record {
      same = same;
      later = omega (arith, ap (λ samples. last_sample_count 0 samples) p.1, last_more 0 old.samples s);
      ready = r;
    }
