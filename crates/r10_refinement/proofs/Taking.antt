-- What lanes lose joins the file: pumps and stops.
use Rattle.std.proofs.Common.{◌≡◌, ◌≤◌, ℕ, Bool, true, false, cond, List, [], ◌∷◌, ◌++◌, Some, None, refl, sym, ap, ◌∙◌}
use Rattle.r10_body.specs.declared.entry.Entry.{Entry}
use Rattle.r10_body.specs.declared.spec.ChannelSpec.{ChannelSpec}
use Rattle.r10_medium.specs.Disk.{Image}
use Rattle.r10_dirchain.specs.declared.chain.ChainBlock.{ChainBlock}
use Rattle.r10_volume.specs.Holding.{HoldsFiles, OpenState}
use Rattle.r10_machine.specs.Calls.{Pumps, Stops, lanes_without, without}
use Rattle.r10_machine.specs.Limits.{IsConfig}
use Rattle.r10_machine.specs.Machine.{File, Lane, Machine, change_first, is_channel, with_entries}
use Rattle.r10_machine.specs.declared.mode.Mode.TheVariants as modes
use Rattle.r10_machine.specs.declared.mode.Stopped.{Stopped}
use Rattle.r10_machine.specs.EventChecks.{refusal}
use Rattle.r10_machine.specs.Step.{Step}
use Rattle.r10_machine.specs.declared.event.Event.TheVariants.{Pump, Stop}
use Rattle.r10_machine.specs.declared.reply.Reply.TheVariants as replies
use Rattle.r10_refinement.specs.Grown.{AreGrown}
use Rattle.r10_refinement.specs.KeptState.{Kept, mode_of, idle, recording}
use Rattle.r10_refinement.specs.Means.{LanesAreCounted, LaneIsCounted, KeptStepsTo, KeptStandsFor}
use Rattle.r10_refinement.proofs.Growing.{numbers_grow}
use Rattle.r10_refinement.proofs.Lasting.{closed_numbers}
use Rattle.r10_refinement.proofs.Leading.{StepsStaySound, failing, no_fewer, numbers_at}
use Rattle.r10_refinement.proofs.Owning.{last_follows}

-- ---- lanes that lost some of what waits

count_without : (files : List File) (x : ChannelSpec) (t e n : ℕ) (l : Lane) → LaneIsCounted files x t e l → LaneIsCounted files x t e (without n l)
count_without files x t e n l is = record { spec_is = is.spec_is; erased_is = is.erased_is; taken_is = is.taken_is }

counts_pumped : (channel n : ℕ) (files : List File) (specs : List ChannelSpec) (taken erased : List ℕ) (lanes : List Lane) → LanesAreCounted files specs taken erased lanes
    → LanesAreCounted files specs taken erased (change_first (is_channel channel) (without n) lanes)
counts_pumped channel n files [] [] [] [] are = tt
counts_pumped channel n files (x ∷ specs) (t ∷ taken) (e ∷ erased) (l ∷ lanes) are = by (is_channel channel l) (counts_pumped channel n files specs taken erased lanes are.1)
  where
    by : (b : Bool) → LanesAreCounted files specs taken erased (change_first (is_channel channel) (without n) lanes)
        → LanesAreCounted files (x ∷ specs) (t ∷ taken) (e ∷ erased) (cond b (without n l ∷ lanes) (l ∷ change_first (is_channel channel) (without n) lanes))
    by true rest = (count_without files x t e n l are.0, are.1)
    by false rest = (are.0, rest)
counts_pumped channel n files [] [] [] (l ∷ lanes) are = absurd are
counts_pumped channel n files [] [] (e ∷ erased) lanes are = absurd are
counts_pumped channel n files [] (t ∷ taken) erased lanes are = absurd are
counts_pumped channel n files (x ∷ specs) [] erased lanes are = absurd are
counts_pumped channel n files (x ∷ specs) (t ∷ taken) [] lanes are = absurd are
counts_pumped channel n files (x ∷ specs) (t ∷ taken) (e ∷ erased) [] are = absurd are

counts_stopped : (entries : List Entry) (files : List File) (specs : List ChannelSpec) (taken erased : List ℕ) (lanes : List Lane) → LanesAreCounted files specs taken erased lanes → LanesAreCounted files specs taken erased (lanes_without entries lanes)
counts_stopped entries files [] [] [] [] are = tt
counts_stopped entries files (x ∷ specs) (t ∷ taken) (e ∷ erased) (l ∷ lanes) are = (count_without files x t e _ l are.0, counts_stopped entries files specs taken erased lanes are.1)
counts_stopped entries files [] [] [] (l ∷ lanes) are = absurd are
counts_stopped entries files [] [] (e ∷ erased) lanes are = absurd are
counts_stopped entries files [] (t ∷ taken) erased lanes are = absurd are
counts_stopped entries files (x ∷ specs) [] erased lanes are = absurd are
counts_stopped entries files (x ∷ specs) (t ∷ taken) [] lanes are = absurd are
counts_stopped entries files (x ∷ specs) (t ∷ taken) (e ∷ erased) [] are = absurd are

-- ---- calls

pub pumped : StepsStaySound → (k : Kept) (old new : Image) (before now : ℕ) (m : Machine) (chain : List ChainBlock) (o later : OpenState) (files : List File) (f : File) (channel most n : ℕ) (more : List Entry) (grown : List ℕ)
    → IsConfig k.config → KeptStandsFor k old before m → k.work ≡ recording chain o → m.files ≡ files ++ f ∷ [] → f.own ≡ true → refusal k.config m (Pump channel most) ≡ None
    → Pumps k.config (failing now m) channel most n (record m { lanes = change_first (is_channel channel) (without n) m.lanes; files = files ++ with_entries more f ∷ []; failures = now })
    → AreGrown more k.config.channels k.taken grown → HoldsFiles k.config new chain (Some later) (files ++ with_entries more f ∷ []) → before ≤ now
    → KeptStepsTo k m (Pump channel most) (replies.Moved n) (record k { work = recording chain later; taken = grown }) new now (record m { lanes = change_first (is_channel channel) (without n) m.lanes; files = files ++ with_entries more f ∷ []; failures = now })
pumped law k old new before now m chain o later files f channel most n more grown limits means at is own fine does grows holds less =
    let done : Machine = record m { lanes = change_first (is_channel channel) (without n) m.lanes; files = files ++ with_entries more f ∷ []; failures = now } in
    let step : Step k.config m (Pump channel most) (replies.Moved n) done = (no_fewer k old before now m means less, (fine, does)) in
    let numbers = numbers_at k (recording chain o) m at means.numbers in
    record {
      step = step;
      means = record {
        mode = means.mode ∙ ap mode_of at;
        tick = means.tick;
        counted = refl;
        files = holds;
        numbers = (
          numbers.0,
          numbers.1,
          counts_pumped channel n (files ++ with_entries more f ∷ []) k.config.channels grown k.erased m.lanes (numbers_grow files m.files f more own is k.config.channels k.taken grown k.erased m.lanes grows numbers.2),
          last_follows k.found files m.files f (with_entries more f) refl is numbers.3,
        );
        sound = law k.config m (Pump channel most) (replies.Moved n) done limits means.sound step;
      };
    }

pub stopped : StepsStaySound → (k : Kept) (old new : Image) (before now : ℕ) (m : Machine) (chain made : List ChainBlock) (o : OpenState) (files : List File) (f g : File) (said : Stopped) (entries : List Entry) (grown : List ℕ)
    → IsConfig k.config → KeptStandsFor k old before m → k.work ≡ recording chain o → m.files ≡ files ++ f ∷ [] → f.own ≡ true → g.own ≡ true → g.entries ≡ f.entries ++ entries → refusal k.config m Stop ≡ None
    → Stops k.config (failing now m) said (record m { mode = modes.Idle; lanes = lanes_without entries m.lanes; files = files ++ g ∷ []; failures = now })
    → AreGrown entries k.config.channels k.taken grown → HoldsFiles k.config new made None (files ++ g ∷ []) → before ≤ now
    → KeptStepsTo k m Stop (replies.Stopped said) (record k { work = idle made; taken = grown }) new now (record m { mode = modes.Idle; lanes = lanes_without entries m.lanes; files = files ++ g ∷ []; failures = now })
stopped law k old new before now m chain made o files f g said entries grown limits means at is own same longer fine does grows holds less =
    let done : Machine = record m { mode = modes.Idle; lanes = lanes_without entries m.lanes; files = files ++ g ∷ []; failures = now } in
    let step : Step k.config m Stop (replies.Stopped said) done = (no_fewer k old before now m means less, (fine, does)) in
    let numbers = numbers_at k (recording chain o) m at means.numbers in
    let more = numbers_grow files m.files f entries own is k.config.channels k.taken grown k.erased m.lanes grows numbers.2 in
    record {
      step = step;
      means = record {
        mode = refl;
        tick = means.tick;
        counted = refl;
        files = holds;
        numbers = (
          numbers.0,
          numbers.1,
          counts_stopped entries (files ++ g ∷ []) k.config.channels grown k.erased m.lanes
              (closed_numbers files (with_entries entries f) g (same ∙ sym own) longer k.config.channels grown k.erased m.lanes more),
          last_follows k.found files m.files f g (same ∙ sym own) is numbers.3,
        );
        sound = law k.config m Stop (replies.Stopped said) done limits means.sound step;
      };
    }
