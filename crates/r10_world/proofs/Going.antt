-- Runs, one event after another.
use Rattle.std.proofs.Common.{◌≡◌, ◌≤◌, ◌<◌, ◌+◌, ℕ, arith, List, [], ◌∷◌, ◌++◌, length, take, drop, get_or, Option, refl, sym, ap, ◌∙◌, subst}
use Rattle.std.proofs.lemmas.Grind.{common_steps}
use Rattle.std.proofs.lemmas.List.{take_more, take-append-le}
use Rattle.r10_machine.specs.Config.{Config}
use Rattle.r10_machine.specs.Limits.{IsConfig}
use Rattle.r10_machine.specs.Machine.{Lane, Machine}
use Rattle.r10_refinement.specs.KeptState.{Kept}
use Rattle.r10_medium.specs.Disk.{Disk, Image}
use Rattle.r10_cursor.specs.declared.cursor.Cursor.{Cursor}
use Rattle.r10_world.specs.Answering.{AnswersEach, IsAnswered}
use Rattle.r10_world.specs.RepresentedParts.{PartsStepTo, PartsRunTo, PartsStandFor}
use Rattle.r10_world.specs.State.{WorldState}
use Rattle.r10_world.specs.WorldSteps.{WorldRuns, RecorderStepsTo}
use Rattle.r10_machine.specs.Says.{MediumSays}
use Rattle.r10_machine.specs.Step.{Run, Step}
use Rattle.r10_machine.specs.declared.event.Event.{Event as EventValue}
use Rattle.r10_machine.specs.declared.reply.Reply.{Reply as ReplyValue}

abbrev pub RunsJoin : Type 0
RunsJoin = (s : Config) (old mid new : Machine) (es fs : List EventValue) (rs qs : List ReplyValue) (is ks : List Image) → Run s old es rs is mid → Run s mid fs qs ks new → Run s old (es ++ fs) (rs ++ qs) (is ++ ks) new

-- no events are a run
begins : {M : Type 0} (disk : M → Disk) (w : WorldState M) → WorldRuns disk w [] [] w
begins disk w = λ m stands. record { images = []; machine = m; run = refl; stands = stands; config = refl }

pub none_behind : {A : Type 0} (xs : List A) → drop (length xs) xs ≡ []
none_behind [] = refl
none_behind (x ∷ xs) = none_behind xs

pub begun : {M : Type 0} (disk : M → Disk) (w : WorldState M) (n : ℕ) (xs : List ReplyValue) → n ≡ length xs → WorldRuns disk w [] (drop n xs) w
begun disk w n xs is = rw (is, none_behind xs) (begins disk w)

whole : {A : Type 0} (xs : List A) → take (length xs) xs ≡ xs
whole [] = refl
whole {A} (x ∷ xs) = ap (λ (l : List A). x ∷ l) (whole xs)

pub all_of : {A : Type 0} (n : ℕ) (xs : List A) → n ≡ length xs → take n xs ≡ xs
all_of n xs is = rw is (whole xs)

-- and a run goes on with a step
goes_on : RunsJoin → (k mid later : Kept) (m : Machine) (es : List EventValue) (rs : List ReplyValue) (event : EventValue) (reply : ReplyValue) (image new : Image) (failures now : ℕ) (lanes lanes' : List Lane) (slots after : List (Option Cursor))
    → PartsRunTo k m es rs mid image failures lanes slots → ((machine : Machine) → PartsStandFor mid image failures lanes slots machine → PartsStepTo mid machine event reply later new now lanes' after)
    → PartsRunTo k m (es ++ event ∷ []) (rs ++ reply ∷ []) later new now lanes' after
goes_on law k mid later m es rs event reply image new failures now lanes lanes' slots after ran go =
    let next = go ran.machine ran.stands in
    let step : Step k.config ran.machine event reply next.machine = subst (λ (s : Config). Step s ran.machine event reply next.machine) ran.config next.on.step in
    let says : MediumSays k.config new next.machine.files = subst (λ (s : Config). MediumSays s new next.machine.files) ran.config next.on.says in
    record {
      images = ran.images ++ new ∷ [];
      machine = next.machine;
      run = law k.config m ran.machine next.machine es (event ∷ []) rs (reply ∷ []) ran.images (new ∷ []) ran.run (next.machine, step, says, refl);
      stands = record {
        limits = subst IsConfig (sym next.on.config) ran.stands.limits;
        joined = next.on.joined;
        lanes_are = next.lanes_are;
        says = subst (λ (s : Config). MediumSays s new next.machine.files) (sym next.on.config) next.on.says;
      };
      config = next.on.config ∙ ran.config;
    }

-- a list after its first ones, with one element more
pub drop_one_more : {A : Type 0} (n : ℕ) (xs ys : List A) (x : A) → n ≤ length xs → ys ≡ xs ++ x ∷ [] → drop n ys ≡ drop n xs ++ x ∷ []
drop_one_more n xs ys x within longer = grind (arith, common_steps)

pub take_one_more : {A : Type 0} (n : ℕ) (xs ys : List A) (x : A) → n ≤ length xs → ys ≡ xs ++ x ∷ [] → take n ys ≡ take n xs
take_one_more n xs ys x within longer = rw longer (take-append-le n xs (x ∷ []) within)

-- one event more, and its reply after those before
pub run_more : {M : Type 0} (disk : M → Disk) (start mid new : WorldState M) (events : List EventValue) (i n : ℕ) (event : EventValue) (reply : ReplyValue) (xs ys : List ReplyValue) → RunsJoin
    → i < length events → event ≡ get_or events i event → n ≤ length xs → ys ≡ xs ++ reply ∷ []
    → WorldRuns disk start (take i events) (drop n xs) mid → RecorderStepsTo disk mid.recorder mid.slots event reply new.recorder new.slots → WorldRuns disk start (take (i + 1) events) (drop n ys) new
run_more disk start mid new events i n event reply xs ys law here is within longer runs tells = λ m stands.
    let more : take (i + 1) events ≡ take i events ++ event ∷ [] = take_more events i event here ∙ ap (λ (e : EventValue). take i events ++ e ∷ []) (sym is) in
    let before = disk mid.recorder.medium in
    let after = disk new.recorder.medium in
    rw (more, drop_one_more n xs ys reply within longer)
    (goes_on law start.recorder.kept mid.recorder.kept new.recorder.kept m (take i events) (drop n xs) event reply before.blocks after.blocks before.failures after.failures
    mid.recorder.lanes new.recorder.lanes mid.slots new.slots (runs m stands) tells)

-- ---- events in turn

pub begun_each : {M : Type 0} (disk : M → Disk) (w : WorldState M) (n : ℕ) (xs : List ReplyValue) → n ≡ length xs → AnswersEach disk w [] (drop n xs) w
begun_each disk w n xs is = rw (is, none_behind xs) refl

each_more : {M : Type 0} (disk : M → Disk) (start mid new : WorldState M) (es : List EventValue) (rs : List ReplyValue) (event : EventValue) (reply : ReplyValue) → AnswersEach disk start es rs mid → IsAnswered disk mid event reply new
    → AnswersEach disk start (es ++ event ∷ []) (rs ++ reply ∷ []) new
each_more {M} disk start mid new [] [] event reply same one = (new, subst (λ (w : WorldState M). IsAnswered disk w event reply new) same one, refl)
each_more disk start mid new (e ∷ es) (r ∷ rs) event reply (next, first, rest) one = (next, first, each_more disk next mid new es rs event reply rest one)
each_more disk start mid new [] (r ∷ rs) event reply each one = absurd each
each_more disk start mid new (e ∷ es) [] event reply each one = absurd each

pub answer_more : {M : Type 0} (disk : M → Disk) (start mid new : WorldState M) (events : List EventValue) (i n : ℕ) (event : EventValue) (reply : ReplyValue) (xs ys : List ReplyValue) → i < length events → event ≡ get_or events i event → n ≤ length xs
    → ys ≡ xs ++ reply ∷ [] → AnswersEach disk start (take i events) (drop n xs) mid → IsAnswered disk mid event reply new → AnswersEach disk start (take (i + 1) events) (drop n ys) new
answer_more disk start mid new events i n event reply xs ys here is within longer each one =
    let more : take (i + 1) events ≡ take i events ++ event ∷ [] = take_more events i event here ∙ ap (λ (e : EventValue). take i events ++ e ∷ []) (sym is) in
    rw (more, drop_one_more n xs ys reply within longer) (each_more disk start mid new (take i events) (drop n xs) event reply each one)
