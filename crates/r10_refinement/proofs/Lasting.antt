-- The last file changes, and the channels' numbers with it.
use Rattle.std.proofs.Common.{◌≡◌, ◌≤◌, ◌+◌, ℕ, Bool, true, false, cond, List, [], ◌∷◌, ◌++◌, length, Some, None, refl, sym, ap, ◌∙◌, subst}
use Rattle.std.specs.Prelude.{IsSomeAnd}
use Rattle.std.specs.List.{flat_map, last_or}
use Rattle.r10_count.specs.Checks.{first_broken}
use Rattle.r10_body.specs.Files.{on_channel}
use Rattle.r10_body.specs.declared.entry.Entry.{Entry}
use Rattle.r10_body.specs.declared.spec.ChannelSpec.{ChannelSpec}
use Rattle.r10_medium.specs.Disk.{Image}
use Rattle.r10_dirchain.specs.declared.chain.ChainBlock.{ChainBlock}
use Rattle.r10_volume.specs.Holding.{HoldsFiles, OpenState}
use Rattle.r10_machine.specs.Calls.{shown_whole}
use Rattle.r10_machine.specs.Checks.{recording_checks}
use Rattle.r10_machine.specs.Limits.{IsConfig}
use Rattle.r10_machine.specs.Machine.{File, Lane, Machine, change_last, last_size, saturated, with_last}
use Rattle.r10_machine.specs.Room.{area, cost_of}
use Rattle.r10_machine.specs.SoundParts.{own_files}
use Rattle.r10_machine.specs.declared.mode.Mode.{Mode}
use Rattle.r10_machine.specs.declared.mode.Mode.TheVariants as modes
use Rattle.r10_machine.proofs.Growing.{append_last}
use Rattle.r10_machine.specs.ControlCalls.{closed_in, own_entries}
use Rattle.r10_machine.specs.EventChecks.{refusal}
use Rattle.r10_machine.specs.Step.{Step}
use Rattle.r10_machine.specs.declared.event.Event.TheVariants.{Commit, Seal}
use Rattle.r10_machine.specs.declared.reply.Reply.TheVariants as replies
use Rattle.r10_refinement.specs.KeptState.{Kept, mode_of, idle, recording}
use Rattle.r10_refinement.specs.Means.{LanesAreCounted, KeptStepsTo, KeptStandsFor}
use Rattle.r10_refinement.proofs.Leading.{StepsStaySound, failing, no_fewer, numbers_at}
use Rattle.r10_refinement.proofs.Owning.{last_follows}

-- ---- lists

pub last_changes : (change : File → File) (files : List File) (f : File) → change_last change (files ++ f ∷ []) ≡ files ++ change f ∷ []
last_changes change [] f = refl
last_changes change (x ∷ []) f = refl
last_changes change (x ∷ y ∷ files) f = ap (λ (l : List File). x ∷ l) (last_changes change (y ∷ files) f)

own_last : (b c : Bool) (f g : File) → c ≡ b → g.entries ≡ f.entries → flat_map (λ (x : File). x.entries) (cond c (g ∷ []) []) ≡ flat_map (λ (x : File). x.entries) (cond b (f ∷ []) [])
own_last true true f g is same = ap (λ (l : List Entry). l ++ []) same
own_last false false f g is same = refl
own_last true false f g is same = cc
own_last false true f g is same = cc

own_list : (files : List File) (f g : File) → g.own ≡ f.own → g.entries ≡ f.entries → flat_map (λ (x : File). x.entries) (own_files (files ++ g ∷ [])) ≡ flat_map (λ (x : File). x.entries) (own_files (files ++ f ∷ []))
own_list [] f g own same = own_last f.own g.own f g own same
own_list (x ∷ files) f g own same = by x.own (own_list files f g own same)
  where
    by : (b : Bool) → flat_map (λ (x : File). x.entries) (own_files (files ++ g ∷ [])) ≡ flat_map (λ (x : File). x.entries) (own_files (files ++ f ∷ []))
        → flat_map (λ (x : File). x.entries) (cond b (x ∷ own_files (files ++ g ∷ [])) (own_files (files ++ g ∷ []))) ≡ flat_map (λ (x : File). x.entries) (cond b (x ∷ own_files (files ++ f ∷ [])) (own_files (files ++ f ∷ [])))
    by true rest = ap (λ (l : List Entry). x.entries ++ l) rest
    by false rest = rest

-- ---- numbers

counts_stay : (old new : List File) → ((channel : ℕ) → own_entries channel new ≡ own_entries channel old) → (specs : List ChannelSpec) (taken erased : List ℕ) (lanes : List Lane)
    → LanesAreCounted old specs taken erased lanes → LanesAreCounted new specs taken erased lanes
counts_stay old new same [] [] [] [] are = tt
counts_stay old new same (x ∷ specs) (t ∷ taken) (e ∷ erased) (l ∷ lanes) are = (
  record { spec_is = are.0.spec_is; erased_is = are.0.erased_is; taken_is = are.0.taken_is ∙ ap (λ (es : List Entry). saturated (e + length es)) (sym (same x.id)) },
  counts_stay old new same specs taken erased lanes are.1,
)
counts_stay old new same [] [] [] (l ∷ lanes) are = absurd are
counts_stay old new same [] [] (e ∷ erased) lanes are = absurd are
counts_stay old new same [] (t ∷ taken) erased lanes are = absurd are
counts_stay old new same (x ∷ specs) [] erased lanes are = absurd are
counts_stay old new same (x ∷ specs) (t ∷ taken) [] lanes are = absurd are
counts_stay old new same (x ∷ specs) (t ∷ taken) (e ∷ erased) [] are = absurd are

pub numbers_stay : (files later : List File) (f g : File) → g.own ≡ f.own → g.entries ≡ f.entries → later ≡ files ++ f ∷ [] → (specs : List ChannelSpec) (taken erased : List ℕ) (lanes : List Lane)
    → LanesAreCounted later specs taken erased lanes → LanesAreCounted (files ++ g ∷ []) specs taken erased lanes
numbers_stay files later f g own same is specs taken erased lanes are =
    counts_stay (files ++ f ∷ []) (files ++ g ∷ []) (λ channel. ap (on_channel channel) (own_list files f g own same)) specs taken erased lanes
    (subst (λ (l : List File). LanesAreCounted l specs taken erased lanes) is are)

-- ---- commits

may_record : (mode : Mode) → mode ≡ modes.Recording → first_broken (recording_checks mode) ≡ None
may_record mode is = subst (λ v. first_broken (recording_checks v) ≡ None) (sym is) refl

pub committed : StepsStaySound → (k : Kept) (old new : Image) (before now : ℕ) (m : Machine) (chain made : List ChainBlock) (o later : OpenState) (files : List File) (f : File) (size : ℕ)
    → IsConfig k.config → KeptStandsFor k old before m → k.work ≡ recording chain o → m.files ≡ files ++ f ∷ [] → HoldsFiles k.config new made (Some later) (files ++ shown_whole size f ∷ []) → before ≤ now
    → KeptStepsTo k m Commit replies.Done (record k { work = recording made later }) new now (record m { files = files ++ shown_whole size f ∷ []; failures = now })
committed law k old new before now m chain made o later files f size limits means at is holds more =
    let shown : List File = files ++ shown_whole size f ∷ [] in
    let done : Machine = record m { files = shown; failures = now } in
    let size_is : last_size done ≡ size = ap (λ g. elim g [ None ↦ 0 | Some x ↦ x.size ]) (append_last None files (shown_whole size f)) in
    let changed : shown ≡ change_last (shown_whole (last_size done)) m.files =
    sym (last_changes (shown_whole size) files f) ∙ ap (λ n. change_last (shown_whole n) (files ++ f ∷ [])) (sym size_is) ∙ ap (λ (l : List File). change_last (shown_whole (last_size done)) l) (sym is) in
    let step : Step k.config m Commit replies.Done done = (
      no_fewer k old before now m means more,
      (may_record m.mode (means.mode ∙ ap mode_of at), ap (λ (l : List File). record m { files = l; failures = now }) changed),
    ) in
    let numbers = numbers_at k (recording chain o) m at means.numbers in
    record {
      step = step;
      means = record {
        mode = means.mode ∙ ap mode_of at;
        tick = means.tick;
        counted = refl;
        files = holds;
        numbers = (numbers.0, numbers.1, numbers_stay files m.files f (shown_whole size f) refl refl is k.config.channels k.taken k.erased m.lanes numbers.2, last_follows k.found files m.files f (shown_whole size f) refl is numbers.3);
        sound = law k.config m Commit replies.Done done limits means.sound step;
      };
    }

pub closed_numbers : (files : List File) (f g : File) → g.own ≡ f.own → g.entries ≡ f.entries → (specs : List ChannelSpec) (taken erased : List ℕ) (lanes : List Lane)
    → LanesAreCounted (files ++ f ∷ []) specs taken erased lanes → LanesAreCounted (files ++ g ∷ []) specs taken erased lanes
closed_numbers files f g own same specs taken erased lanes are = numbers_stay files (files ++ f ∷ []) f g own same refl specs taken erased lanes are

-- ---- seals

pub sealed : StepsStaySound → (k : Kept) (old new : Image) (before now : ℕ) (m : Machine) (chain made : List ChainBlock) (files : List File) (f : File) (size : ℕ)
    → IsConfig k.config → KeptStandsFor k old before m → k.work ≡ idle chain → m.files ≡ files ++ f ∷ [] → refusal k.config m Seal ≡ None → cost_of f ≤ area k.config f
    → HoldsFiles k.config new made None (files ++ closed_in size f ∷ []) → before ≤ now → KeptStepsTo k m Seal replies.Done (record k { work = idle made }) new now (record m { files = files ++ closed_in size f ∷ []; failures = now })
sealed law k old new before now m chain made files f size limits means at is fine room holds more =
    let shown : List File = files ++ closed_in size f ∷ [] in
    let done : Machine = record m { files = shown; failures = now } in
    let size_is : last_size done ≡ size = ap (λ g. elim g [ None ↦ 0 | Some x ↦ x.size ]) (append_last None files (closed_in size f)) in
    let changed : shown ≡ change_last (closed_in (last_size done)) m.files =
    sym (last_changes (closed_in size) files f) ∙ ap (λ n. change_last (closed_in n) (files ++ f ∷ [])) (sym size_is) ∙ ap (λ (l : List File). change_last (closed_in (last_size done)) l) (sym is) in
    let last : last_or None m.files ≡ Some f = ap (λ (l : List File). last_or None l) is ∙ append_last None files f in
    let step : Step k.config m Seal replies.Done done = (
      no_fewer k old before now m means more,
      (
        fine,
        subst (λ o. IsSomeAnd o (λ x. (cost_of x ≤ area k.config x) × (done ≡ with_last (closed_in (last_size done)) (failing now m)))) (sym last)
            (room, ap (λ (l : List File). record m { files = l; failures = now }) changed),
      ),
    ) in
    let numbers = numbers_at k (idle chain) m at means.numbers in
    record {
      step = step;
      means = record {
        mode = means.mode ∙ ap mode_of at;
        tick = means.tick;
        counted = refl;
        files = holds;
        numbers = (numbers.0, numbers.1, numbers_stay files m.files f (closed_in size f) refl refl is k.config.channels k.taken k.erased m.lanes numbers.2, last_follows k.found files m.files f (closed_in size f) refl is numbers.3);
        sound = law k.config m Seal replies.Done done limits means.sound step;
      };
    }
