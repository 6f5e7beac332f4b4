-- A new recorder is sound.
use Rattle.std.proofs.Common.{◌≡◌, ◌≤◌, ℕ, Bool, true, false, cond, List, [], ◌∷◌, length, map, Option, Some, None, refl, sym, ap, subst, arith, zero, suc, IfSome, lit<}
use Rattle.std.specs.List.{AllByRecursion, last_or}
use Rattle.r10_body.specs.declared.spec.ChannelSpec.{ChannelSpec}
use Rattle.r10_machine.specs.Config.{Config}
use Rattle.r10_machine.specs.Machine.{File, fresh, fresh_lane, cursor_of}
use Rattle.r10_machine.specs.SoundParts.{IsSoundLane, IsSoundCursor, LaneClimbs, Climbs, own_files, is_open}
use Rattle.r10_machine.specs.EventChecks.{most_files}
use Rattle.r10_machine.specs.Sound.{IsSound, IsOwnFile, IsOthersFile, IsFoundFile}
use Rattle.r10_machine.proofs.LastFiles.{counts_same, climb_same}
use Rattle.r10_machine.proofs.Entering.{all_each}
use Rattle.r10_machine.proofs.Grown.{last_of}

specs_kept : (specs : List ChannelSpec) → map (λ lane. lane.spec) (map fresh_lane specs) ≡ specs
specs_kept [] = refl
specs_kept (c ∷ cs) = ap (λ (specs : List ChannelSpec). c ∷ specs) (specs_kept cs)

lanes_sound : (specs : List ChannelSpec) → AllByRecursion IsSoundLane (map fresh_lane specs)
lanes_sound [] = tt
lanes_sound (c ∷ cs) = (record { held = omega arith; messages = tt; counts = tt; gaps = tt; missed = omega arith }, lanes_sound cs)

lanes_climb : (specs : List ChannelSpec) → AllByRecursion (LaneClimbs []) (map fresh_lane specs)
lanes_climb [] = tt
lanes_climb (c ∷ cs) = (omega arith, lanes_climb cs)

pub none_own : (files : List File) → AllByRecursion IsFoundFile files → own_files files ≡ []
none_own [] all = refl
none_own (f ∷ files) ((shown, foreign), all) = by f.own foreign (none_own files all)
  where
    by : (b : Bool) → b ≡ false → own_files files ≡ [] → cond b (f ∷ own_files files) (own_files files) ≡ []
    by false is rest = rest
    by true is rest = cc

none_open : (files : List File) → AllByRecursion IsFoundFile files → elim (last_or None files) as (λ o. Bool) [ None ↦ false | Some f ↦ is_open f ] ≡ false
none_open files all = by (last_or None files) refl
  where
    by : (o : Option File) → last_or None files ≡ o → elim o as (λ o. Bool) [ None ↦ false | Some f ↦ is_open f ] ≡ false
    by None last = refl
    by (Some f) last = rw (last_of IsFoundFile files f last all).1 refl

pub new_is_sound : (s : Config) (files : List File) (failures : ℕ) → AllByRecursion IsFoundFile files → length files ≤ most_files s → IsSound s (fresh s.channels files failures)
new_is_sound s files failures found few =
    let own : own_files files ≡ own_files [] = none_own files found in
    record {
      channels = specs_kept s.channels;
      lanes = lanes_sound s.channels;
      tick = tt;
      event = tt;
      most = few;
      shown = all_each IsFoundFile (λ f. f.shown ≤ length f.entries) (λ f its. omega (arith, its.0)) files found;
      generation = lit< tt;
      cursors = none;
      work = record {
        recording = sym (none_open files found);
        own = subst (AllByRecursion (IsOwnFile s)) (sym own) tt;
        others = all_each IsFoundFile IsOthersFile (λ f its foreign. its.0) files found;
        lanes = climb_same [] files own (map fresh_lane s.channels) (lanes_climb s.channels);
        times = subst (λ (l : List ℕ). Climbs 0 l 0) (sym (counts_same s.time [] files own)) (omega arith);
        events = subst (λ (l : List ℕ). Climbs 0 l 0) (sym (counts_same s.event [] files own)) (omega arith);
      };
    }
  where
    none : (id : ℕ) → IfSome (cursor_of id (fresh s.channels files failures)) (IsSoundCursor (fresh s.channels files failures))
    none zero = tt
    none (suc id) = tt
