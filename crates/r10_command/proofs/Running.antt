-- Rounds of a run, and what is left of one on a fresh medium.
use Rattle.std.proofs.Common.{◌≡◌, ℕ, ◌+◌, ◌≤◌, List, [], ◌∷◌, ◌++◌, length, take, drop, length-append, Option, Some, None, IfSome, subst, refl, ◌∙◌, arith}
use Rattle.std.specs.List.{concat, last_or}
use Rattle.std.specs.Io.KnownBytes.{Appends, Keeps}
use Rattle.std.proofs.KnownBytes.{Appends-kept}
use Rattle.r10_machine.specs.Config.{Config}
use Rattle.r10_machine.specs.Machine.{Machine, change_last, fresh}
use Rattle.r10_medium.specs.Disk.{Disk, Image}
use Rattle.r10_world.specs.State.{WorldState}
use Rattle.r10_world.specs.WorldSteps.{WorldRuns, WorldStandsFor}
use Rattle.r10_machine.specs.Says.{MediumSays}
use Rattle.r10_machine.specs.Step.{Run}
use Rattle.r10_machine.specs.declared.event.Event.{Event}
use Rattle.r10_machine.specs.declared.reply.Reply.{Reply}
use Rattle.r10_command.specs.Lines.{RunsAndWrites, WritesLines}
use Rattle.r10_command.specs.Sim.{IsScript, PlaysScript, Simulates, WritesLeft}
use Rattle.r10_command.proofs.Rounds.{rounds_join, take_split}

abbrev pub RunsJoin : Type 0
RunsJoin = (s : Config) (old mid new : Machine) (es fs : List Event) (rs qs : List Reply) (is ks : List Image) → Run s old es rs is mid → Run s mid fs qs ks new → Run s old (es ++ fs) (rs ++ qs) (is ++ ks) new

-- so many events were run, and their lines written
abbrev pub Done : {M : Type 0} → (M → Disk) → WorldState M → List Event → ℕ → WorldState M → Option (List ℕ) → Option (List ℕ) → Type 0
Done disk start events done world old new =
    (m : Machine) → WorldStandsFor disk start m → (ran : RunsAndWrites disk start.recorder.kept.config m (take done events) world old new) × (length ran.replies ≡ done)

-- one round more
pub round_more : {M : Type 0} (disk : M → Disk) (start mid new : WorldState M) (events : List Event) (done n : ℕ) (ss : List Reply) (a b c : Option (List ℕ)) → RunsJoin
    → done ≤ length events → length ss ≡ n → mid.recorder.kept.config ≡ start.recorder.kept.config
    → Done disk start events done mid a b → WorldRuns disk mid (take n (drop done events)) ss new → WritesLines b c done ss
    → Done disk start events (done + n) new a c
round_more disk start mid new events done n ss a b c law inside many same so_far runs wrote = λ m stands.
    let first = so_far m stands in
    let ran = first.0 in
    let second = runs ran.machine ran.stands in
    let s = start.recorder.kept.config in
    let at : done ≡ 0 + length ran.replies = omega (arith, first.1) in
    let long : length (ran.replies ++ ss) ≡ done + n = omega (arith, length-append ran.replies ss, first.1, many) in
    let later : Run s ran.machine (take n (drop done events)) ss second.images second.machine =
    subst (λ (k : Config). Run k ran.machine (take n (drop done events)) ss second.images second.machine) same second.run in
    let whole : Run s m (take (done + n) events) (ran.replies ++ ss) (ran.images ++ second.images) second.machine =
    rw (take_split done n events inside) (law s m ran.machine second.machine (take done events) (take n (drop done events)) ran.replies ss ran.images second.images ran.run later) in (
      record {
        replies = ran.replies ++ ss;
        images = ran.images ++ second.images;
        machine = second.machine;
        run = whole;
        stands = second.stands;
        lines = rounds_join a b c 0 done ran.replies ss at ran.lines wrote;
      },
      long,
    )

-- the medium after the last event may stand as the run's last image
ends_in : (s : Config) (old new : Machine) (es : List Event) (rs : List Reply) (is : List Image) (image : Image) → Run s old es rs is new → MediumSays s image new.files
    → Run s old es rs (change_last (λ (i : Image). image) is) new
ends_in s old new [] [] [] image run says = run
ends_in s old new [] [] (i ∷ is) image run says = absurd run
ends_in s old new [] (r ∷ rs) [] image run says = absurd run
ends_in s old new [] (r ∷ rs) (i ∷ is) image run says = absurd run
ends_in s old new (e ∷ es) [] [] image run says = absurd run
ends_in s old new (e ∷ es) [] (i ∷ is) image run says = absurd run
ends_in s old new (e ∷ es) (r ∷ rs) [] image run says = absurd run
ends_in s old new (e ∷ []) (r ∷ []) (i ∷ []) image run says = (run.0, run.1, subst (λ (m : Machine). MediumSays s image m.files) run.3 says, run.3)
ends_in s old new (e ∷ []) (r ∷ []) (i ∷ j ∷ is) image run says = absurd run.3
ends_in s old new (e ∷ []) (r ∷ q ∷ rs) (i ∷ []) image run says = absurd run.3
ends_in s old new (e ∷ []) (r ∷ q ∷ rs) (i ∷ j ∷ is) image run says = absurd run.3
ends_in s old new (e ∷ f ∷ es) (r ∷ []) (i ∷ []) image run says = absurd run.3
ends_in s old new (e ∷ f ∷ es) (r ∷ q ∷ rs) (i ∷ []) image run says = absurd run.3
ends_in s old new (e ∷ f ∷ es) (r ∷ rs) (i ∷ j ∷ is) image run says = (run.0, run.1, run.2, ends_in s run.0 new (f ∷ es) rs (j ∷ is) image run.3 says)

put_last : (o : Option Image) (i : Image) (is : List Image) (image : Image) → last_or o (change_last (λ (i : Image). image) (i ∷ is)) ≡ Some image
put_last o i [] image = refl
put_last o i (j ∷ is) image = put_last (Some i) j is image

last_is : (is : List Image) (image : Image) → last_or (Some image) (change_last (λ (i : Image). image) is) ≡ Some image
last_is [] image = refl
last_is (i ∷ is) image = put_last (Some image) i is image

pub plays : {M : Type 0} (disk : M → Disk) (s config : Config) (events reported : List Event) (world : WorldState M) (old new : Option (List ℕ)) → config ≡ s → reported ≡ events
    → world.recorder.kept.config ≡ s → (disk world.recorder.medium).failures ≡ 0 → RunsAndWrites disk config (fresh s.channels [] 0) reported world old new
    → PlaysScript s events (disk world.recorder.medium).blocks old new
plays disk s config events reported world old new same all kept never ran =
    let image = (disk world.recorder.medium).blocks in
    let run : Run s (fresh s.channels [] 0) events ran.replies ran.images ran.machine = rw (same, all) at ran.run in
    let says : MediumSays s image ran.machine.files = subst (λ (k : Config). MediumSays k image ran.machine.files) kept ran.stands.says in
    record {
      replies = ran.replies;
      ran = record {
        images = change_last (λ (i : Image). image) ran.images;
        end = ran.machine;
        run = ends_in s (fresh s.channels [] 0) ran.machine events ran.replies ran.images image run says;
        unfailed = ran.stands.joined.means.counted ∙ never;
        says = says;
        last = last_is ran.images image;
      };
      lines = ran.lines;
    }

-- the bytes that were read are those that the reader had left, if it says them
pub left_is_written : (remaining : Option (List ℕ)) (all text : List ℕ) (settings : Config) (events : List Event) (image : Image) (before later old new : Option (List ℕ))
    → IfSome remaining (λ left. all ≡ left) → text ≡ all → IsScript text settings events → PlaysScript settings events image before later → Appends old new (concat image)
    → IfSome remaining (λ left. WritesLeft left old new)
left_is_written None all text settings events image before later old new whole same script played written = tt
left_is_written (Some bytes) all text settings events image before later old new whole same script played written =
    let spelled : IsScript bytes settings events = rw (same ∙ whole) at script in
    (settings, events, played.replies, image, spelled, played.ran, written)

pub played_is_written : (remaining : Option (List ℕ)) (all text : List ℕ) (settings : Config) (events : List Event) (image : Image) (old now new : Option (List ℕ))
    → IfSome remaining (λ left. all ≡ left) → text ≡ all → IsScript text settings events → PlaysScript settings events image old now → Keeps now new
    → IfSome remaining (λ left. Simulates left old new)
played_is_written None all text settings events image old now new whole same script played kept = tt
played_is_written (Some bytes) all text settings events image old now new whole same script played kept =
    let spelled : IsScript bytes settings events = rw (same ∙ whole) at script in
    (settings, events, image, spelled, record { replies = played.replies; ran = played.ran; lines = Appends-kept old now new _ played.lines kept })
