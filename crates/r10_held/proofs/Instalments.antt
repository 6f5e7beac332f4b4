-- What an advance gives a cursor.
use Rattle.std.proofs.Common.{◌≡◌, ◌∙◌, ◌<◌, ℕ, Bool, true, false, List, [], ◌∷◌, length, None, refl, sym, subst, ap, arith, length-append}
use Rattle.std.specs.Prelude.{◌==◌, Result, Ok, Err, IfErr, IfOk}
use mathlib.Core.List.{IsPrefix}
use Rattle.std.proofs.lemmas.Bool.Decides.{nat_tests}
use Rattle.r10_body.specs.declared.refusal.Glance.{Glance}
use Rattle.r10_body.specs.declared.refusal.Refusal.{Refusal}
use Rattle.r10_body.specs.declared.refusal.Refusal.TheVariants.{Behind, Failed, NotMounted, Stale, Unread}
use Rattle.r10_control.specs.Calls.{AdvancesRecorder}
use Rattle.r10_control.specs.Checks.{advancing_checks}
use Rattle.r10_control.specs.State.{RecorderState}
use Rattle.r10_count.specs.Checks.{first_broken}
use Rattle.r10_cursor.specs.declared.cursor.Cursor.{Cursor}
use Rattle.r10_gauge.specs.Published.{LookingEnd, commits_of}
use Rattle.r10_held.specs.LockFact.{LockFact}
use Rattle.r10_held.specs.Naming.{ChannelRing}
use Rattle.r10_held.specs.State.{HeldState}
use Rattle.r10_machine.specs.Checks.{is_mounted, is_working}
use Rattle.r10_machine.specs.declared.mode.Mode.{Mode}
use Rattle.r10_refinement.specs.KeptState.{mode_of}
use Rattle.r10_medium.specs.Disk.{Disk}
use Rattle.r10_held.specs.Advancing.{AdvancesHeld, AdvancesUnderLock, SaysBehind, TakesInstalment}
use Rattle.r10_held.proofs.Agreeing.{read_shows as shows}

-- ---- a file that is there shows packets

-- ---- a cursor that goes on was read to the end

last_holds : {F : Type 0} (a b c d : Bool) (e f g h : F) → first_broken ((a, e) ∷ (b, f) ∷ (c, g) ∷ (d, h) ∷ []) ≡ None → d ≡ true
last_holds true true true true e f g h none = refl
last_holds true true true false e f g h none = absurd (cc (none))
last_holds true true false d e f g h none = absurd (cc (none))
last_holds true false c d e f g h none = absurd (cc (none))
last_holds false b c d e f g h none = absurd (cc (none))

no_length : {A : Type 0} (xs : List A) → (length xs == 0) ≡ true → xs ≡ []
no_length [] none = refl
no_length (x ∷ xs) none = absurd (grind (arith, nat_tests, none))

read_to_end : (mode : Mode) (generation : ℕ) (c : Cursor) → first_broken (advancing_checks mode generation c) ≡ None → c.reading.queue ≡ []
read_to_end mode generation c none = no_length c.reading.queue (last_holds (is_working mode) (is_mounted mode) (c.generation == generation) (length c.reading.queue == 0) Failed NotMounted Stale Unread none)

taken : {M L : Type 0} (disk : M → Disk) (old new : RecorderState M L) (c d : Cursor) (n : ℕ) → AdvancesRecorder disk old new c d (Ok n) → TakesInstalment c d n
taken disk old new c d n a =
    let shown = shows old.kept.work (disk old.medium).blocks c.file a.there in
    record { given = read_to_end (mode_of old.kept.work) old.kept.generation c a.passed; packets = shown.0; advances = a.advances shown.0 shown.1; place = a.place; length_is = a.queued }

-- ---- under a lock

pub taken_held : {M : Type 0} (disk : M → Disk) (seen : List Glance) (old new : HeldState M) (c d : Cursor) (result : Result ℕ Refusal) → AdvancesHeld disk seen old new c d result → IfOk result (λ n. TakesInstalment c d n)
taken_held disk seen old new c d (Ok n) a = taken disk old.recorder new.recorder c d n (a.advances a.at_least)
taken_held disk seen old new c d (Err r) a = tt

-- the lock's value and the pass stay as they were while the value is compared with what the pass has seen
pub under_lock : {M : Type 0} (disk : M → Disk) (rings : List ChannelRing) (p q r : LookingEnd) (old held new : HeldState M) (c d : Cursor) (result : Result ℕ Refusal) → held ≡ old → q ≡ p → r ≡ q
    → LockFact disk rings old.recorder old.published → old.cell ≡ p.cell → IsPrefix p.seen old.published → AdvancesHeld disk q.seen held new c d result → AdvancesUnderLock disk rings r c d result
under_lock {M} disk rings p q r old held new c d result same met end fact cell prefix advances =
    subst (λ (z : LookingEnd). AdvancesUnderLock disk rings z c d result) (sym (end ∙ met))
    (record {
      old = old;
      new = new;
      fact = fact;
      gauge = cell;
      published = prefix;
      advances = subst (λ (z : LookingEnd). AdvancesHeld disk z.seen old new c d result) met (subst (λ (s : HeldState M). AdvancesHeld disk q.seen s new c d result) same advances);
    })

-- who has published all that was seen is not after
pub not_behind : {M : Type 0} (p q : LookingEnd) (old held : HeldState M) (seen : Glance) (result : Result ℕ Refusal) → held ≡ old → q ≡ p → IsPrefix p.seen old.published
    → IfErr result (SaysBehind (commits_of held.published < commits_of q.seen)) → result ≡ Err (Behind seen) → ⊥
not_behind {M} p q old held seen result same met (rest, is) only answer =
    let less : commits_of held.published < commits_of q.seen = subst (λ (r : Result ℕ Refusal). IfErr r (SaysBehind (commits_of held.published < commits_of q.seen))) answer only in
    let near : commits_of old.published < commits_of p.seen = subst (λ (z : LookingEnd). commits_of old.published < commits_of z.seen) met (subst (λ (s : HeldState M). commits_of s.published < commits_of q.seen) same less) in
    omega (arith, near, length-append p.seen rest, ap (λ (l : List Glance). length l) is)
