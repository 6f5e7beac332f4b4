-- A whole recording.
use Rattle.std.proofs.Common.{◌≡◌, ◌⊎◌, ◌≤◌, ℕ, true, false, List, [], ◌∷◌, length, zip, is_some, inl, inr, refl, ap, subst, sym, ◌∙◌, true≢false}
use Rattle.std.specs.List.{AllByRecursion, list_any}
use Rattle.r10_account.specs.Accepted.{accepted_entries}
use Rattle.r10_account.specs.Account.{IsAccount}
use Rattle.r10_account.specs.FilesOfOthers.{AreStillFirst, may_erase}
use Rattle.r10_body.specs.Channels.{spec_of}
use Rattle.r10_machine.specs.Checks.{is_working}
use Rattle.r10_machine.specs.Config.{Config}
use Rattle.r10_machine.specs.Machine.{File, Machine, fresh}
use Rattle.r10_machine.specs.EventChecks.{most_files}
use Rattle.r10_machine.specs.Limits.{IsConfig}
use Rattle.r10_machine.specs.Says.{MediumHas, MediumSays}
use Rattle.r10_machine.specs.Sound.{IsFoundFile}
use Rattle.r10_machine.specs.Step.{Run}
use Rattle.r10_machine.specs.declared.event.Event.{Event as EventValue}
use Rattle.r10_machine.specs.declared.mode.Mode.{Mode}
use Rattle.r10_machine.specs.declared.mode.Mode.TheVariants as modes
use Rattle.r10_machine.specs.declared.reply.Reply.{Reply as ReplyValue}
use Rattle.r10_medium.proofs.PowerLoss.{joined, weakened}
use Rattle.r10_medium.specs.Disk.{Disk, Image, MayLeave}
use Rattle.r10_medium.specs.PowerLoss.{Leaves, Settled}
use Rattle.r10_refinement.proofs.Keeping.{safe_says}
use Rattle.r10_refinement.specs.Again.{AreAgain}
use Rattle.r10_refinement.specs.KeptState.{Work, mode_of, unmounted, idle, recording, failed}
use Rattle.r10_refinement.specs.PowerLossInCalls.{IsLeft}
use Rattle.r10_refinement.specs.Safe.{IsSafeOrFailed}
use Rattle.r10_world.specs.State.{WorldState}
use Rattle.r10_volume.specs.Formatted.{IsFormatted}
use Rattle.r10_world.specs.PowerLoss.{IsLeftNew, IsSafeIn, RecordsNew, RecordsRun, Recovers, RunsSafely}

-- the laws of files that are found, and of what was accepted
abbrev pub FilesAreFound : Type 0
FilesAreFound = (s : Config) (image : Image) (files : List File) → MediumHas s image files → AllByRecursion IsFoundFile files × (length files ≤ most_files s)

abbrev pub RecordingsAccount : Type 0
RecordingsAccount = (s : Config) (channel : ℕ) (files : List File) (failures : ℕ) (events : List EventValue) (replies : List ReplyValue) (images : List Image) (new : Machine) → IsConfig s → AllByRecursion IsFoundFile files → length files ≤ most_files s
    → is_some (spec_of s.channels channel) ≡ true → Run s (fresh s.channels files failures) events replies images new → IsAccount channel new (accepted_entries channel 0 events replies)

abbrev pub FoundFilesStay : Type 0
FoundFilesStay = (s : Config) (files : List File) (failures : ℕ) (events : List EventValue) (replies : List ReplyValue) (images : List Image) (new : Machine) → IsConfig s → AllByRecursion IsFoundFile files → length files ≤ most_files s
    → Run s (fresh s.channels files failures) events replies images new → list_any may_erase (zip events replies) ≡ false → AreStillFirst files new.files

-- ---- what a power loss leaves then

safe_in : (s : Config) (work : Work) (mode : Mode) (files : List File) (disk : Disk) → mode ≡ mode_of work → IsSafeOrFailed s work files disk → IsSafeIn s mode files disk
safe_in s unmounted mode files disk is (inr safe) = subst (λ (m : Mode). IsSafeIn s m files disk) (sym is) safe
safe_in s (idle chain) mode files disk is (inr safe) = subst (λ (m : Mode). IsSafeIn s m files disk) (sym is) safe
safe_in s (recording chain o) mode files disk is (inr safe) = subst (λ (m : Mode). IsSafeIn s m files disk) (sym is) safe
safe_in s failed mode files disk is safe = subst (λ (m : Mode). IsSafeIn s m files disk) (sym is) tt
safe_in s unmounted mode files disk is (inl fails) = cc
safe_in s (idle chain) mode files disk is (inl fails) = cc
safe_in s (recording chain o) mode files disk is (inl fails) = cc

settled_in : (s : Config) (work : Work) (mode : Mode) (files : List File) (disk : Disk) → mode ≡ mode_of work → is_working mode ≡ true → IsSafeOrFailed s work files disk → Settled (λ image. MediumSays s image files) disk
settled_in s work mode files disk is works (inr safe) = safe_says s work files disk safe
settled_in s work mode files disk is works (inl fails) =
    let none : is_working modes.Failed ≡ true = subst (λ (w : Work). is_working (mode_of w) ≡ true) fails (subst (λ (m : Mode). is_working m ≡ true) is works) in
    absurd (true≢false (sym none))

-- ---- the whole

pub records_so : {M : Type 0} → FilesAreFound → RecordingsAccount → FoundFilesStay → (disk : M → Disk) (s : Config) (medium : M) (old new : WorldState M) (files : List File) (events : List EventValue) (replies : List ReplyValue) → Recovers disk s (disk medium) files old → old.recorder.kept.config ≡ s → old.recorder.medium ≡ medium
    → RunsSafely disk old events replies new → RecordsRun s files events replies (disk medium) (disk new.recorder.medium)
records_so are_found account stay disk s medium old new files events replies recovers config same safely =
    let m : Machine = fresh s.channels recovers.finds.again (disk medium).failures in
    let all = safely m recovers.stands in
    let ran = all.ran in
    let ended = disk new.recorder.medium in
    let later = new.recorder.kept in
    let means = ran.stands.joined.means in
    let ends : later.config ≡ s = ran.config ∙ config in
    let held : Settled (λ image. MediumSays s image files) (disk medium) → IsSafeOrFailed s later.work ran.machine.files ended = λ settled.
    subst (λ (k : Config). IsSafeOrFailed k later.work ran.machine.files ended) ends (all.held (recovers.safe settled)) in
    let found = are_found s (disk medium).blocks recovers.finds.again recovers.finds.has in
    let run : Run s m events replies ran.images ran.machine = subst (λ (k : Config). Run k m events replies ran.images ran.machine) config ran.run in
    record {
      again = recovers.finds.again;
      has = recovers.finds.has;
      same = recovers.finds.same;
      images = ran.images;
      machine = ran.machine;
      run = run;
      says = subst (λ (k : Config). MediumSays k ended.blocks ran.machine.files) ends ran.stands.says;
      failures = means.counted;
      accounts = λ channel there. account s channel recovers.finds.again (disk medium).failures events replies ran.images ran.machine (subst IsConfig config recovers.stands.limits) found.0 found.1 there run;
      found = stay s recovers.finds.again (disk medium).failures events replies ran.images ran.machine (subst IsConfig config recovers.stands.limits) found.0 found.1 run;
      left = λ settled. subst (λ (k : Config). Leaves (IsLeft k m events replies) (disk medium) ended) config
          (subst (λ (x : _). Leaves (IsLeft old.recorder.kept.config m events replies) (disk x) ended) same (all.left (recovers.safe settled)));
      settled = λ settled works. settled_in s later.work ran.machine.mode ran.machine.files ended means.mode works (held settled);
      durable = λ settled. safe_in s later.work ran.machine.mode ran.machine.files ended means.mode (held settled);
    }

-- ---- on a medium that was formatted for it

none_again : (again : List File) → AreAgain [] again → again ≡ []
none_again [] same = refl
none_again (f ∷ files) same = absurd same

pub records_new : (s : Config) (events : List EventValue) (replies : List ReplyValue) (old mid new : Disk)
    → old.failures ≤ mid.failures
    → Leaves (λ image. MayLeave old image ⊎ IsFormatted s old.blocks image) old mid → Settled (IsFormatted s old.blocks) mid
    → RecordsRun s [] events replies mid new → RecordsNew s events replies old new
records_new s events replies old mid new no_fewer formats formatted ran =
    let none : Settled (λ image. MediumSays s image []) mid = λ image may. (formatted image may).has.0 in
    let first : fresh s.channels ran.again mid.failures ≡ fresh s.channels [] mid.failures = ap (λ (l : List File). fresh s.channels l mid.failures) (none_again ran.again ran.same) in
    let m : Machine = fresh s.channels [] mid.failures in
    let so : Image → Type 0 = IsLeftNew s m events replies old in
    record {
      failures_before = mid.failures;
      no_fewer = no_fewer;
      images = ran.images;
      machine = ran.machine;
      run = subst (λ (x : Machine). Run s x events replies ran.images ran.machine) first ran.run;
      says = ran.says;
      failures = ran.failures;
      accounts = ran.accounts;
      left = joined so old mid new (weakened (λ image. MayLeave old image ⊎ IsFormatted s old.blocks image) so old mid (λ image is. inl is) formats)
          (weakened (IsLeft s m events replies) so mid new (λ image is. inr is) (subst (λ (x : Machine). Leaves (IsLeft s x events replies) mid new) first (ran.left none)));
      settled = ran.settled none;
      durable = ran.durable none;
    }
