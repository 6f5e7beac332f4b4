-- Calls keep what is known of what a lock keeps.
use Rattle.std.proofs.Common.{◌≡◌, ℕ, ◌+◌, ◌-◌, ◌^◌, List, [], ◌∷◌, ◌++◌, length, min, Option, None, Some, Result, Ok, Err, sym, ap, subst, ◌∙◌, inl, inr, ⊎_elim, length-append, arith}
use Rattle.std.specs.Prelude.{IfErr, OnOk, MatchResult}
use Rattle.std.proofs.lemmas.List.{append-nil}
use Rattle.r10_body.specs.declared.entry.Entry.{Entry}
use Rattle.r10_body.specs.declared.entry.Sample.{Sample}
use Rattle.r10_body.specs.declared.refusal.Glance.{Glance}
use Rattle.r10_body.specs.declared.refusal.Refusal.{Refusal}
use Rattle.r10_body.specs.declared.spec.ChannelSpec.{ChannelSpec}
use Rattle.r10_body.proofs.ChannelLists.{none_on_any}
use Rattle.r10_control.specs.Checks.{recorder_refusal}
use Rattle.r10_control.specs.Effects.{CommitEffect, EraseEffect, PumpEffect, StartEffect}
use Rattle.r10_control.specs.Own.{AreOwn, OwnGrow, OwnStay}
use Rattle.r10_control.specs.Refused.{RefusesCall, RefusesOpen}
use Rattle.r10_control.specs.State.{RecorderState}
use Rattle.r10_control.specs.Taking.{RefusesReadied, StepsByTaking, Part, TookAll, entries_of}
use Rattle.r10_control.specs.RecorderStatus.{last_shown}
use Rattle.r10_control.proofs.Stops.{none_of}
use Rattle.r10_gauge.specs.Published.{commits_of}
use Rattle.r10_machine.specs.declared.event.Event.{Event as EventValue}
use Rattle.r10_machine.specs.declared.event.Event.TheVariants as events
use Rattle.r10_machine.specs.declared.mode.Stopped.{Stopped}
use Rattle.r10_machine.specs.declared.reply.Reply.{Reply as ReplyValue}
use Rattle.r10_refinement.specs.Grown.{AreGrown}
use Rattle.r10_refinement.specs.KeptState.{Kept, Work, unmounted, idle, recording, failed}
use Rattle.r10_medium.specs.Disk.{Disk, Image, Unchanged}
use Rattle.r10_port.specs.Ends.{Receiving, TookReceived}
use Rattle.r10_held.specs.Account.{Accounted, ChannelAccounts, ChannelBounds, IsAccounted, IsBounded}
use Rattle.r10_held.specs.LockFact.{LanesAccounted, LockFact, outlet_received, outlet_spec}
use Rattle.r10_held.specs.Naming.{AreNamed, ChannelRing, ring_for}
use Rattle.r10_held.specs.Publishing.{LastIsShown, next_triple, triple_of}
use Rattle.r10_held.proofs.Accounts.{all_erased, all_stay, all_stay_within, all_take, all_within, none_grown}
use Rattle.r10_held.proofs.Leavings.{FailedOrSettles, KeepsNumbers, SameOrFailed, Settles, TellsStill, answered, call_tells, commit_left, erase_turns, open_tells, pump_refused, pump_tells, refused_left, settles_so, start_left, stop_refused, tells_after, where_done, where_refused, works}
use Rattle.r10_gauge.proofs.Steps.{last_triple_push as last_behind}

-- ---- the account, whatever the lanes

module _ {M L : Type 0} (disk : M → Disk) (spec_of : L → ChannelSpec) (received_of : L → List Sample) (old new : RecorderState M L) where
  abbrev Before : Type 0
  Before = Accounted disk spec_of received_of old

  abbrev After : Type 0
  After = Accounted disk spec_of received_of new

  -- the numbers are within what was received, whether the recorder failed before or not
  within : Before → ChannelBounds spec_of received_of old.kept.config.channels old.kept.taken old.kept.erased old.lanes
  within was = ⊎_elim (λ bounded. bounded.each) (λ accounted. all_within spec_of received_of accounted.own old.kept.config.channels old.kept.taken old.kept.erased old.lanes accounted.each) was

  fails_within : KeepsNumbers old.kept new.kept → new.lanes ≡ old.lanes → new.kept.config ≡ old.kept.config → Before → new.kept.work ≡ failed → After
  fails_within keeps lanes config was fails = inl (record { fails = fails; each = rw (config, keeps.numbers.0, keeps.numbers.1, lanes) (within was) })

  -- a call that takes nothing from lanes
  pub stays_accounted : KeepsNumbers old.kept new.kept → OwnStay old.kept (disk old.medium).blocks new.kept (disk new.medium).blocks → new.lanes ≡ old.lanes → new.kept.config ≡ old.kept.config → Before → After
  stays_accounted keeps owned lanes config was = ⊎_elim (λ bounded. fails_within keeps lanes config was (keeps.fails bounded.fails)) (λ accounted. ⊎_elim (λ fails. fails_within keeps lanes config was fails) (λ grow. inr (record {
    own = accounted.own ++ owned.more;
    is_own = grow accounted.own accounted.is_own;
    each = rw (config, keeps.numbers.0, keeps.numbers.1, lanes) (all_stay spec_of received_of accounted.own owned.more old.kept.config.channels old.kept.taken old.kept.erased old.lanes owned.others accounted.each);
  })) owned.own) was

  -- an erase that answered Ok
  erased_accounted : (new.kept.taken ≡ old.kept.taken) × (new.kept.erased ≡ old.kept.taken) → AreOwn new.kept (disk new.medium).blocks [] → (old.kept.work ≡ failed → ⊥) → new.lanes ≡ old.lanes → new.kept.config ≡ old.kept.config
      → Before → After
  erased_accounted turned owned able lanes config was = ⊎_elim (λ bounded. absurd (able bounded.fails)) (λ accounted. inr (record {
    own = [];
    is_own = owned;
    each = rw (config, turned.0, turned.1, lanes) (all_erased spec_of received_of accounted.own old.kept.config.channels old.kept.taken old.kept.erased old.lanes accounted.each);
  })) was

  pub erases_account : (lacks : Refusal → Type 0) (result : Result (Unit {0}) Refusal) → OnOk result (recorder_refusal old.kept events.Erase ≡ None) → OnOk result (EraseEffect old.kept (disk old.medium) new.kept (disk new.medium))
      → IfErr result (RefusesCall disk (recorder_refusal old.kept events.Erase) lacks old.kept new.kept old.medium new.medium)
      → MatchResult result (λ v. AreOwn new.kept (disk new.medium).blocks []) (λ r. OwnStay old.kept (disk old.medium).blocks new.kept (disk new.medium).blocks) → new.lanes ≡ old.lanes → new.kept.config ≡ old.kept.config → Before → After
  erases_account lacks (Ok v) passed effect refused owned lanes config was =
      erased_accounted (erase_turns old.kept new.kept (disk old.medium) (disk new.medium) effect) owned (works old.kept.work _ passed) lanes config was
  erases_account lacks (Err r) passed effect refused owned lanes config was =
      stays_accounted (settles_so old.kept new.kept (refused_left disk (recorder_refusal old.kept events.Erase) lacks old.kept new.kept old.medium new.medium r refused)).numbers owned lanes config was

  -- a call that takes from lanes
  module _ (took : L → List Sample → L → Type 0) (gives : (a b : L) (xs : List Sample) → took a xs b → (spec_of b ≡ spec_of a) × (received_of b ≡ received_of a ++ xs)) where
    taken_accounted : (parts : List Part) → TookAll took spec_of parts old.lanes new.lanes → new.kept.erased ≡ old.kept.erased → OwnGrow old.kept (disk old.medium).blocks new.kept (disk new.medium).blocks (entries_of parts)
        → new.kept.config ≡ old.kept.config → ((own : List Entry) → ChannelAccounts spec_of received_of own old.kept.config.channels old.kept.taken old.kept.erased old.lanes → AreGrown (entries_of parts) old.kept.config.channels old.kept.taken new.kept.taken)
        → (old.kept.work ≡ failed → (new.kept.work ≡ failed) × (new.kept.taken ≡ old.kept.taken)) → Before → After
    taken_accounted parts gave erased owned config counts fails was = ⊎_elim
        (λ (bounded : IsBounded spec_of received_of old). let still = fails bounded.fails in inl (record {
          fails = still.0;
          each = rw (config, still.1, erased) (all_stay_within took spec_of received_of gives parts old.kept.config.channels old.kept.taken old.kept.erased old.lanes new.lanes gave bounded.each);
        }))
        (λ (accounted : IsAccounted disk spec_of received_of old).
        let each : ChannelAccounts spec_of received_of (accounted.own ++ entries_of parts) old.kept.config.channels new.kept.taken old.kept.erased new.lanes =
        all_take took spec_of received_of gives accounted.own parts old.kept.config.channels old.kept.taken new.kept.taken old.kept.erased old.lanes new.lanes (counts accounted.own accounted.each) gave accounted.each in
        ⊎_elim
        (λ now. inl (record {
          fails = now;
          each = rw (config, erased) (all_within spec_of received_of (accounted.own ++ entries_of parts) old.kept.config.channels new.kept.taken old.kept.erased new.lanes each);
        }))
        (λ grow. inr (record { own = accounted.own ++ entries_of parts; is_own = grow accounted.own accounted.is_own; each = rw (config, erased) each }))
        owned)
        was

    pub takes_account : {T : Type 0} (quiet : L → Option (List Sample)) (order : List ℕ) (most : ℕ → ℕ) (says : T → List Part → Type 0) (bare : Result T Refusal → Type 0) (before now : ℕ) (event : EventValue) (reply : T → ReplyValue) (result : Result T Refusal)
        → StepsByTaking took quiet spec_of order most says bare old.kept (disk old.medium).blocks before event reply result new.kept (disk new.medium).blocks now old.lanes new.lanes
        → OnOk result (old.kept.work ≡ failed → ⊥) → IfErr result (FailedOrSettles old.kept new.kept) → new.kept.config ≡ old.kept.config → Before → After
    takes_account quiet order most says bare before now event reply (Ok v) takes able left config was =
        taken_accounted takes.parts takes.taken (ap (λ (k : Kept). k.erased) takes.numbers) takes.own config (λ own each. takes.counts) (λ fails. absurd (able fails)) was
    takes_account quiet order most says bare before now event reply (Err r) takes able left config was =
        ⊎_elim
        (λ fails.
        let stays : new.kept.taken ≡ old.kept.taken = ap (λ (k : Kept). k.taken) fails in
        let gone : new.kept.erased ≡ old.kept.erased = ap (λ (k : Kept). k.erased) fails in
        inl (record {
          fails = ap (λ (k : Kept). k.work) fails;
          each = rw (config, stays, gone)
              (all_stay_within took spec_of received_of gives takes.parts old.kept.config.channels old.kept.taken old.kept.erased old.lanes new.lanes takes.taken (within was));
        }))
        (λ settles. let same = settles.0.numbers.numbers in
        ⊎_elim (λ failing. absurd (settles.1 failing))
        (λ none. taken_accounted takes.parts takes.taken same.1 takes.own config
        (λ own each. rw (none_of takes.parts none, same.0) (none_grown spec_of received_of own old.kept.config.channels old.kept.taken old.kept.erased old.lanes each)) (λ fails. (settles.0.numbers.fails fails, same.0)) was)
        takes.none)
        left

    -- a call that looks at lanes alone
    pub looks_accounted : TookAll took spec_of [] old.lanes new.lanes → new.kept ≡ old.kept → new.medium ≡ old.medium → Before → After
    looks_accounted gave kept medium was =
        taken_accounted [] gave (ap (λ (k : Kept). k.erased) kept) (inr (λ own is. let more : own ++ entries_of [] ≡ own = append-nil own in rw (kept, medium, more) is)) (ap (λ (k : Kept). k.config) kept)
        (λ own each. rw kept (none_grown spec_of received_of own old.kept.config.channels old.kept.taken old.kept.erased old.lanes each)) (λ fails. (ap (λ (k : Kept). k.work) kept ∙ fails, ap (λ (k : Kept). k.taken) kept)) was

-- ---- a call that only read

pub reads_own : (k later : Kept) (old new : Image) → SameOrFailed k later → new ≡ old → OwnStay k old later new
reads_own k later old new left same = record {
  more = [];
  own = ⊎_elim (λ kept. inr (λ own is. subst (λ (x : Kept). AreOwn x new (own ++ [])) (sym kept) (rw (same, append-nil own) is))) (λ fails. inl (ap (λ (x : Kept). x.work) fails)) left;
  others = none_on_any k.config.channels;
}

-- ---- over outlets

outlet_gives : (a b : Receiving) (xs : List Sample) → TookReceived a xs b → (outlet_spec b ≡ outlet_spec a) × (outlet_received b ≡ outlet_received a ++ xs)
outlet_gives a b xs took = (took.same.1, took.received)

pub named_still : (rings : List ChannelRing) (parts : List Part) (lanes later : List Receiving) → TookAll TookReceived outlet_spec parts lanes later → AreNamed rings lanes → AreNamed rings later
named_still rings parts [] [] took named = tt
named_still rings parts (a ∷ lanes) (b ∷ later) took named =
    (ap (λ (s : ChannelSpec). ring_for s.id rings) took.0.same.1 ∙ named.0 ∙ ap (λ r. Some r) (sym took.0.same.0), named_still rings parts lanes later took.1 named.1)
named_still rings parts [] (b ∷ later) took named = absurd took
named_still rings parts (a ∷ lanes) [] took named = absurd took

module _ {M : Type 0} (disk : M → Disk) (rings : List ChannelRing) (old new : RecorderState M Receiving) where
  pub lanes_stay : KeepsNumbers old.kept new.kept → OwnStay old.kept (disk old.medium).blocks new.kept (disk new.medium).blocks → new.lanes ≡ old.lanes → new.kept.config ≡ old.kept.config → LanesAccounted disk rings old → LanesAccounted disk rings new
  lanes_stay keeps owned lanes config was = record {
    named = subst (AreNamed rings) (sym lanes) was.named;
    accounted = stays_accounted disk outlet_spec outlet_received old new keeps owned lanes config was.accounted;
  }

  pub lanes_erase : (lacks : Refusal → Type 0) (result : Result (Unit {0}) Refusal) → OnOk result (recorder_refusal old.kept events.Erase ≡ None) → OnOk result (EraseEffect old.kept (disk old.medium) new.kept (disk new.medium))
      → IfErr result (RefusesCall disk (recorder_refusal old.kept events.Erase) lacks old.kept new.kept old.medium new.medium)
      → MatchResult result (λ v. AreOwn new.kept (disk new.medium).blocks []) (λ r. OwnStay old.kept (disk old.medium).blocks new.kept (disk new.medium).blocks) → new.lanes ≡ old.lanes → new.kept.config ≡ old.kept.config
      → LanesAccounted disk rings old → LanesAccounted disk rings new
  lanes_erase lacks result passed effect refused owned lanes config was = record {
    named = subst (AreNamed rings) (sym lanes) was.named;
    accounted = erases_account disk outlet_spec outlet_received old new lacks result passed effect refused owned lanes config was.accounted;
  }

  pub lanes_take : {T : Type 0} (quiet : Receiving → Option (List Sample)) (order : List ℕ) (most : ℕ → ℕ) (says : T → List Part → Type 0) (bare : Result T Refusal → Type 0) (before now : ℕ) (event : EventValue) (reply : T → ReplyValue) (result : Result T Refusal)
      → StepsByTaking TookReceived quiet outlet_spec order most says bare old.kept (disk old.medium).blocks before event reply result new.kept (disk new.medium).blocks now old.lanes new.lanes
      → OnOk result (old.kept.work ≡ failed → ⊥) → IfErr result (FailedOrSettles old.kept new.kept) → new.kept.config ≡ old.kept.config → LanesAccounted disk rings old → LanesAccounted disk rings new
  lanes_take quiet order most says bare before now event reply result takes able left config was = record {
    named = named_still rings takes.parts old.lanes new.lanes takes.taken was.named;
    accounted = takes_account disk outlet_spec outlet_received old new TookReceived outlet_gives quiet order most says bare before now event reply result takes able left config was.accounted;
  }

  pub lanes_looked : TookAll TookReceived outlet_spec [] old.lanes new.lanes → new.kept ≡ old.kept → new.medium ≡ old.medium → LanesAccounted disk rings old → LanesAccounted disk rings new
  lanes_looked gave kept medium was = record {
    named = named_still rings [] old.lanes new.lanes gave was.named;
    accounted = looks_accounted disk outlet_spec outlet_received old new TookReceived outlet_gives gave kept medium was.accounted;
  }

-- ---- what is published

last_stays : (later work : Work) (published : List Glance) → TellsStill later work → LastIsShown work published → LastIsShown later published
last_stays unmounted work published still was = tt
last_stays (idle chain) work published still was = tt
last_stays failed work published still was = tt
last_stays (recording made p) (recording chain o) published still was = λ some. was some ∙ ap (triple_of (commits_of published)) (sym still)
last_stays (recording made p) unmounted published still was = absurd still
last_stays (recording made p) (idle chain) published still was = absurd still
last_stays (recording made p) failed published still was = absurd still

one_more : (published : List Glance) (x : Glance) → commits_of (published ++ x ∷ []) ≡ min (length published) (2 ^ 64 - 1)
one_more published x = let longer : length (published ++ x ∷ []) ≡ length published + 1 = length-append published (x ∷ []) in omega (arith, longer)

last_is_next : (work : Work) (published : List Glance) → LastIsShown work (published ++ next_triple published work ∷ [])
last_is_next unmounted published = tt
last_is_next (idle chain) published = tt
last_is_next failed published = tt
last_is_next (recording chain o) published = λ some.
    last_behind published (next_triple published (recording chain o)) ∙ ap (λ n. triple_of n (last_shown (recording chain o))) (sym (one_more published (next_triple published (recording chain o))))

module _ {M : Type 0} (disk : M → Disk) (rings : List ChannelRing) (old new : RecorderState M Receiving) (published : List Glance) where
  -- nothing is published
  pub stays_known : LanesAccounted disk rings new → TellsStill new.kept.work old.kept.work → LockFact disk rings old published → LockFact disk rings new published
  stays_known lanes still was = record { lanes = lanes; last = last_stays new.kept.work old.kept.work published still was.last }

  -- a call that takes nothing from lanes, and publishes nothing
  pub settles_known : Settles old.kept new.kept → OwnStay old.kept (disk old.medium).blocks new.kept (disk new.medium).blocks → new.lanes ≡ old.lanes → new.kept.config ≡ old.kept.config → LockFact disk rings old published → LockFact disk rings new published
  settles_known settles owned lanes config was = stays_known (lanes_stay disk rings old new settles.numbers owned lanes config was.lanes) settles.tells was

  -- and that only read
  pub reads_known : {T : Type 0} {F : Refusal → Type 0} (result : Result T Refusal) → OnOk result (new.kept ≡ old.kept) → IfErr result F → ((r : Refusal) → F r → SameOrFailed old.kept new.kept) → Unchanged (disk old.medium) (disk new.medium)
      → new.lanes ≡ old.lanes → new.kept.config ≡ old.kept.config → LockFact disk rings old published → LockFact disk rings new published
  reads_known result kept refused fails same lanes config was =
      let left : SameOrFailed old.kept new.kept = answered result kept refused (λ is. inl is) fails in
      settles_known (settles_so old.kept new.kept left) (reads_own old.kept new.kept (disk old.medium).blocks (disk new.medium).blocks left same.reads) lanes config was

  -- a call that publishes where it answers Ok
  pub published_known : {T : Type 0} {F : Refusal → Type 0} (result : Result T Refusal) (later : List Glance) → MatchResult result (λ v. later ≡ published ++ next_triple published new.kept.work ∷ []) (λ r. later ≡ published) → LanesAccounted disk rings new
      → IfErr result F → ((r : Refusal) → F r → TellsStill new.kept.work old.kept.work) → LockFact disk rings old published → LockFact disk rings new later
  published_known (Ok v) later is lanes refused tells was = record { lanes = lanes; last = subst (LastIsShown new.kept.work) (sym is) (last_is_next new.kept.work published) }
  published_known (Err r) later is lanes refused tells was = subst (LockFact disk rings new) (sym is) (stays_known lanes (tells r refused) was)

  -- a pump
  pub pump_known : (channel most : ℕ) (lacks : Refusal → Type 0) (quiet : Receiving → Option (List Sample)) (order : List ℕ) (bound : ℕ → ℕ) (says : ℕ → List Part → Type 0) (bare : Result ℕ Refusal → Type 0) (before now : ℕ) (event : EventValue) (reply : ℕ → ReplyValue) (result : Result ℕ Refusal)
      → OnOk result (recorder_refusal old.kept (events.Pump channel most) ≡ None) → OnOk result (PumpEffect old.kept (disk old.medium) new.kept (disk new.medium)) → IfErr result (RefusesReadied disk (recorder_refusal old.kept (events.Pump channel most)) lacks old.kept new.kept old.medium new.medium)
      → StepsByTaking TookReceived quiet outlet_spec order bound says bare old.kept (disk old.medium).blocks before event reply result new.kept (disk new.medium).blocks now old.lanes new.lanes
      → new.kept.config ≡ old.kept.config → LockFact disk rings old published → LockFact disk rings new published
  pump_known channel most lacks quiet order bound says bare before now event reply result passed effect refused takes config was =
      let left : IfErr result (FailedOrSettles old.kept new.kept) = where_refused result refused (pump_refused disk lacks old.kept new.kept old.medium new.medium channel most) in
      stays_known (lanes_take disk rings old new quiet order bound says bare before now event reply result takes (where_done result passed (works old.kept.work _)) left config was.lanes)
      (answered result effect left (pump_tells old.kept new.kept (disk old.medium) (disk new.medium)) (tells_after old.kept new.kept)) was

  -- a stop
  pub stop_known : (lacks : Refusal → Type 0) (quiet : Receiving → Option (List Sample)) (order : List ℕ) (bound : ℕ → ℕ) (says : Stopped → List Part → Type 0) (bare : Result Stopped Refusal → Type 0) (before now : ℕ) (event : EventValue) (reply : Stopped → ReplyValue) (result : Result Stopped Refusal)
      (later : List Glance) → OnOk result (recorder_refusal old.kept events.Stop ≡ None) → IfErr result (RefusesReadied disk (recorder_refusal old.kept events.Stop) lacks old.kept new.kept old.medium new.medium)
      → StepsByTaking TookReceived quiet outlet_spec order bound says bare old.kept (disk old.medium).blocks before event reply result new.kept (disk new.medium).blocks now old.lanes new.lanes
      → new.kept.config ≡ old.kept.config → MatchResult result (λ v. later ≡ published ++ next_triple published new.kept.work ∷ []) (λ r. later ≡ published) → LockFact disk rings old published → LockFact disk rings new later
  stop_known lacks quiet order bound says bare before now event reply result later passed refused takes config grows was =
      let left : IfErr result (FailedOrSettles old.kept new.kept) = where_refused result refused (stop_refused disk lacks old.kept new.kept old.medium new.medium) in
      published_known result later grows (lanes_take disk rings old new quiet order bound says bare before now event reply result takes (where_done result passed (works old.kept.work _)) left config was.lanes)
      left (tells_after old.kept new.kept) was

  -- a start
  pub start_known : (name setup : List ℕ) (lacks : Refusal → Type 0) (result : Result (Unit {0}) Refusal) (later : List Glance) → OnOk result (recorder_refusal old.kept (events.Start name setup) ≡ None)
      → OnOk result (StartEffect name setup old.kept (disk old.medium) new.kept (disk new.medium)) → IfErr result (RefusesCall disk (recorder_refusal old.kept (events.Start name setup)) lacks old.kept new.kept old.medium new.medium)
      → OwnStay old.kept (disk old.medium).blocks new.kept (disk new.medium).blocks → new.lanes ≡ old.lanes → new.kept.config ≡ old.kept.config
      → MatchResult result (λ v. later ≡ published ++ next_triple published new.kept.work ∷ []) (λ r. later ≡ published) → LockFact disk rings old published → LockFact disk rings new later
  start_known name setup lacks result later passed effect refused owned lanes config grows was =
      published_known result later grows (lanes_stay disk rings old new (start_left disk lacks old.kept new.kept old.medium new.medium name setup result passed effect refused) owned lanes config was.lanes)
      refused (call_tells disk lacks old.kept new.kept old.medium new.medium (recorder_refusal old.kept (events.Start name setup))) was

  -- a commit
  pub commit_known : (lacks : Refusal → Type 0) (result : Result (Unit {0}) Refusal) (later : List Glance) → OnOk result (recorder_refusal old.kept events.Commit ≡ None)
      → OnOk result (CommitEffect old.kept (disk old.medium) new.kept (disk new.medium)) → IfErr result (RefusesOpen disk (recorder_refusal old.kept events.Commit) lacks old.kept new.kept old.medium new.medium)
      → OwnStay old.kept (disk old.medium).blocks new.kept (disk new.medium).blocks → new.lanes ≡ old.lanes → new.kept.config ≡ old.kept.config
      → MatchResult result (λ v. later ≡ published ++ next_triple published new.kept.work ∷ []) (λ r. later ≡ published) → LockFact disk rings old published → LockFact disk rings new later
  commit_known lacks result later passed effect refused owned lanes config grows was =
      published_known result later grows (lanes_stay disk rings old new (commit_left disk lacks old.kept new.kept old.medium new.medium result passed effect refused) owned lanes config was.lanes)
      refused (open_tells disk lacks old.kept new.kept old.medium new.medium (recorder_refusal old.kept events.Commit)) was

  -- an erase
  pub erase_known : (lacks : Refusal → Type 0) (result : Result (Unit {0}) Refusal) (later : List Glance) → OnOk result (recorder_refusal old.kept events.Erase ≡ None)
      → OnOk result (EraseEffect old.kept (disk old.medium) new.kept (disk new.medium)) → IfErr result (RefusesCall disk (recorder_refusal old.kept events.Erase) lacks old.kept new.kept old.medium new.medium)
      → MatchResult result (λ v. AreOwn new.kept (disk new.medium).blocks []) (λ r. OwnStay old.kept (disk old.medium).blocks new.kept (disk new.medium).blocks) → new.lanes ≡ old.lanes → new.kept.config ≡ old.kept.config
      → MatchResult result (λ v. later ≡ published ++ next_triple published new.kept.work ∷ []) (λ r. later ≡ published) → LockFact disk rings old published → LockFact disk rings new later
  erase_known lacks result later passed effect refused owned lanes config grows was =
      published_known result later grows (lanes_erase disk rings old new lacks result passed effect refused owned lanes config was.lanes) refused (call_tells disk lacks old.kept new.kept old.medium new.medium (recorder_refusal old.kept events.Erase)) was
