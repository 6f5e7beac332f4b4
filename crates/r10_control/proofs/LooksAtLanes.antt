-- A look at each lane, by which nothing is taken, and what is known by it.
use Rattle.std.proofs.Common.{◌≡◌, ◌≤◌, ◌<◌, ◌+◌, ℕ, zero, suc, List, [], ◌∷◌, ◌++◌, length, map, set, take, get_or, Option, Some, None, refl, sym, ap, ◌∙◌, subst, arith}
use Rattle.std.specs.Prelude.{IfSome, if◌then◌else◌, slice_index_or}
use Rattle.std.proofs.lemmas.List.{length-map}
use Rattle.r10_body.specs.Files.{on_channel}
use Rattle.r10_body.specs.Sequence.{last_count}
use Rattle.r10_body.specs.declared.entry.Entry.{Entry}
use Rattle.r10_body.specs.declared.entry.Sample.{Sample}
use Rattle.r10_body.specs.declared.spec.ChannelSpec.{ChannelSpec}
use Rattle.r10_dirchain.specs.declared.chain.ChainBlock.{ChainBlock}
use Rattle.r10_volume.specs.Holding.{OpenState}
use Rattle.r10_machine.specs.Checks.{is_mounted, last_tick}
use Rattle.r10_machine.specs.Config.{Config}
use Rattle.r10_machine.specs.Finding.{channel_status, free_bytes, status_of}
use Rattle.r10_machine.specs.Limits.{IsConfig}
use Rattle.r10_machine.specs.Machine.{File, Lane, Machine, Tick}
use Rattle.r10_machine.specs.declared.event.Event.TheVariants as events
use Rattle.r10_machine.specs.declared.mode.Mode.{Mode}
use Rattle.r10_machine.specs.declared.mode.Mode.TheVariants as modes
use Rattle.r10_machine.specs.declared.reply.Reply.TheVariants as replies
use Rattle.r10_refinement.specs.KeptState.{Kept, Work, mode_of, unmounted, idle, recording, failed}
use Rattle.r10_refinement.specs.Means.{LanesAreCounted, HasFiles, KeptStandsFor, NumbersAre}
use Rattle.r10_medium.specs.Disk.{Image}
use Rattle.r10_openfile.specs.Stopping.{AllEnd, TookAll}
use Rattle.r10_cursor.specs.declared.books.Books.{Books}
use Rattle.r10_cursor.proofs.Sizes.{none_shrinks}
use Rattle.r10_control.specs.Lanes.{WaitQuietly}
use Rattle.r10_control.specs.Leading.{KeptStepsTaking, none_taken}
use Rattle.r10_control.specs.Owns.{IsRecorded, Owns, OwnsWork}
use Rattle.r10_control.specs.RecorderStatus.{TellsLane, TellsLanes, TellsRecorder, erased_told, free_in, held_of, without_lost}
use Rattle.r10_control.specs.declared.status.LaneStatus.{LaneStatus}
use Rattle.r10_control.specs.declared.status.RecorderStatus.{RecorderStatus}
use Rattle.r10_control.proofs.Leading.{none_left}
use Rattle.r10_control.proofs.Statuses.{StatusIsTold, files_told, tick_told}
pub use Rattle.r10_openfile.proofs.AllLanes.{none_yet as none_took}

-- ---- lane by lane

took_at : {L : Type 0} (took : L → List Sample → L → Type 0) (spec_of : L → ChannelSpec) (lanes now : List L) (i : ℕ) (d e : L) → i < length lanes → TookAll took spec_of [] lanes now → took (get_or lanes i d) [] (get_or now i e)
took_at took spec_of [] now i d e lt all = absurd (omega (arith, lt))
took_at took spec_of (a ∷ lanes) [] i d e lt all = absurd all
took_at took spec_of (a ∷ lanes) (b ∷ now) zero d e lt all = all.0
took_at took spec_of (a ∷ lanes) (b ∷ now) (suc i) d e lt all = took_at took spec_of lanes now i d e (omega (arith, lt)) all.1

set_took : {L : Type 0} (took : L → List Sample → L → Type 0) (spec_of : L → ChannelSpec) (lanes now : List L) (i : ℕ) (d x : L) → i < length lanes → TookAll took spec_of [] lanes now → took (get_or lanes i d) [] x → TookAll took spec_of [] lanes (set now i x)
set_took took spec_of [] now i d x lt all gave = absurd (omega (arith, lt))
set_took took spec_of (a ∷ lanes) [] i d x lt all gave = absurd all
set_took took spec_of (a ∷ lanes) (b ∷ now) zero d x lt all gave = (gave, all.1)
set_took took spec_of (a ∷ lanes) (b ∷ now) (suc i) d x lt all gave = (all.0, set_took took spec_of lanes now i d x (omega (arith, lt)) all.1 gave)

-- what is reported of a lane from which nothing was taken is reported of it as it was
told_before : {L : Type 0} (took : L → List Sample → L → Type 0) (quiet : L → Option (List Sample)) (spec_of : L → ChannelSpec) (mode : Mode) (old now : L) (e : ℕ) (t : LaneStatus)
    → ((a b : L) (xs : List Sample) → took a xs b → spec_of b ≡ spec_of a)
    → ((a b : L) (xs waiting : List Sample) → took a xs b → quiet a ≡ Some waiting → (rest : List Sample) × (quiet b ≡ Some rest) × (waiting ≡ xs ++ rest))
    → took old [] now → TellsLane quiet spec_of mode now e t → TellsLane quiet spec_of mode old e t
told_before took quiet spec_of mode old now e t keeps stays gave reported =
    (reported.0 ∙ ap (λ (s : ChannelSpec). s.id) (keeps old now [] gave), by (quiet old) refl, reported.2)
  where
    by : (q : Option (List Sample)) → quiet old ≡ q → IfSome q (λ waiting. t.held ≡ length waiting)
    by None is = tt
    by (Some waiting) is =
        let (rest, there, whole) = stays old now [] waiting gave is in
        subst (λ (q : Option (List Sample)). IfSome q (λ w. t.held ≡ length w)) there reported.1 ∙ ap length (sym whole)

tells_next : {L : Type 0} (quiet : L → Option (List Sample)) (spec_of : L → ChannelSpec) (mode : Mode) (lanes : List L) (erased : List ℕ) (reported : List LaneStatus) (i : ℕ) (d : L) (t : LaneStatus) → i < length lanes → length erased ≡ length lanes
    → TellsLane quiet spec_of mode (get_or lanes i d) (slice_index_or erased i 0) t → TellsLanes quiet spec_of mode (take i lanes) (take i erased) reported → TellsLanes quiet spec_of mode (take (suc i) lanes) (take (suc i) erased) (reported ++ t ∷ [])
tells_next quiet spec_of mode [] erased reported i d t lt same one all = absurd (omega (arith, lt))
tells_next quiet spec_of mode (a ∷ lanes) [] reported i d t lt same one all = absurd (omega (arith, same))
tells_next quiet spec_of mode (a ∷ lanes) (e ∷ erased) [] zero d t lt same one all = (one, tt)
tells_next quiet spec_of mode (a ∷ lanes) (e ∷ erased) (u ∷ reported) zero d t lt same one all = absurd all
tells_next quiet spec_of mode (a ∷ lanes) (e ∷ erased) [] (suc i) d t lt same one all = absurd all
tells_next quiet spec_of mode (a ∷ lanes) (e ∷ erased) (u ∷ reported) (suc i) d t lt same one all = (all.0, tells_next quiet spec_of mode lanes erased reported i d t (omega (arith, lt)) (omega (arith, same)) one all.1)

-- one lane more
pub record Further {L : Type 0} (took : L → List Sample → L → Type 0) (quiet : L → Option (List Sample)) (spec_of : L → ChannelSpec) (mode : Mode) (lanes now : List L) (erased : List ℕ) (reported : List LaneStatus) (n : ℕ) : Type 0 where
  pub took_all : TookAll took spec_of [] lanes now
  pub tells : TellsLanes quiet spec_of mode (take n lanes) (take n erased) reported

pub one_further : {L : Type 0} (took : L → List Sample → L → Type 0) (quiet : L → Option (List Sample)) (spec_of : L → ChannelSpec) (mode : Mode) (lanes now : List L) (erased : List ℕ) (reported : List LaneStatus) (i : ℕ) (one x : L) (t : LaneStatus)
    → ((a b : L) (xs : List Sample) → took a xs b → spec_of b ≡ spec_of a)
    → ((a b : L) (xs waiting : List Sample) → took a xs b → quiet a ≡ Some waiting → (rest : List Sample) × (quiet b ≡ Some rest) × (waiting ≡ xs ++ rest))
    → ((a b c : L) (xs : List Sample) → took a xs b → took b [] c → took a xs c)
    → one ≡ get_or now i one → i < length lanes → length erased ≡ length lanes → Further took quiet spec_of mode lanes now erased reported i → took one [] x → TellsLane quiet spec_of mode one (slice_index_or erased i 0) t
    → Further took quiet spec_of mode lanes (set now i x) erased (reported ++ t ∷ []) (i + 1)
one_further took quiet spec_of mode lanes now erased reported i one x t keeps stays joins here lt same far gave told_one =
    let first = get_or lanes i one in
    let before : took first [] one = subst (λ l. took first [] l) (sym here) (took_at took spec_of lanes now i one one lt far.took_all) in
    let more : suc i ≡ i + 1 = omega arith in
    record {
      took_all = set_took took spec_of lanes now i one x lt far.took_all (joins first one x [] before gave);
      tells = subst (λ (n : ℕ). TellsLanes quiet spec_of mode (take n lanes) (take n erased) (reported ++ t ∷ [])) more
          (tells_next quiet spec_of mode lanes erased reported i one t lt same (told_before took quiet spec_of mode first one (slice_index_or erased i 0) t keeps stays before told_one) far.tells);
    }

-- ---- what a recorder is known to be stays

same_specs : {L : Type 0} (took : L → List Sample → L → Type 0) (spec_of : L → ChannelSpec) (lanes now : List L) → ((a b : L) (xs : List Sample) → took a xs b → spec_of b ≡ spec_of a) → TookAll took spec_of [] lanes now → map spec_of now ≡ map spec_of lanes
same_specs took spec_of [] [] keeps all = refl
same_specs took spec_of [] (b ∷ now) keeps all = absurd all
same_specs took spec_of (a ∷ lanes) [] keeps all = absurd all
same_specs took spec_of (a ∷ lanes) (b ∷ now) keeps all = rw (keeps a b [] all.0, same_specs took spec_of lanes now keeps all.1) refl

end_still : {L : Type 0} (took : L → List Sample → L → Type 0) (spec_of : L → ChannelSpec) (reached : L → ℕ) (entries : List Entry) (lanes now : List L) → ((a b : L) (xs : List Sample) → took a xs b → spec_of b ≡ spec_of a)
    → ((a b : L) (xs : List Sample) → took a xs b → reached a ≤ reached b) → TookAll took spec_of [] lanes now → AllEnd spec_of reached lanes entries → AllEnd spec_of reached now entries
end_still took spec_of reached entries [] [] keeps rises all ends = tt
end_still took spec_of reached entries [] (b ∷ now) keeps rises all ends = absurd all
end_still took spec_of reached entries (a ∷ lanes) [] keeps rises all ends = absurd all
end_still took spec_of reached entries (a ∷ lanes) (b ∷ now) keeps rises all ends =
    (subst (λ (s : ChannelSpec). last_count 0 (on_channel s.id entries) ≤ reached b) (sym (keeps a b [] all.0)) (omega (arith, ends.0, rises a b [] all.0)), end_still took spec_of reached entries lanes now keeps rises all.1 ends.1)

recorded_still : {L N : Type 0} (spec_of : L → ChannelSpec) (reached : L → ℕ) (spec_of' : N → ChannelSpec) (reached' : N → ℕ) (s : Config) (tick : Option Tick) (last_event : Option ℕ) (image : Image) (chain : List ChainBlock) (o : OpenState) (lanes : List L) (now : List N)
    → ((entries : List Entry) → AllEnd spec_of reached lanes entries → AllEnd spec_of' reached' now entries) → IsRecorded spec_of reached s tick last_event image chain o lanes → IsRecorded spec_of' reached' s tick last_event image chain o now
recorded_still spec_of reached spec_of' reached' s tick last_event image chain o lanes now ends is = record {
  text = is.text;
  entries = is.entries;
  shown = is.shown;
  carries = is.carries;
  lanes_end = ends is.entries is.lanes_end;
  times_end = is.times_end;
  events_end = is.events_end;
  ticked = is.ticked;
  time_is = is.time_is;
  event_is = is.event_is;
  builders = is.builders;
  room = is.room;
  counts = is.counts;
  cost = is.cost;
  on = is.on;
  listed = is.listed;
}

pub work_still : {L N : Type 0} (spec_of : L → ChannelSpec) (reached : L → ℕ) (spec_of' : N → ChannelSpec) (reached' : N → ℕ) (k : Kept) (w : Work) (image : Image) (lanes : List L) (now : List N)
    → ((entries : List Entry) → AllEnd spec_of reached lanes entries → AllEnd spec_of' reached' now entries) → OwnsWork spec_of reached k w image lanes → OwnsWork spec_of' reached' k w image now
work_still spec_of reached spec_of' reached' k unmounted image lanes now ends owns = tt
work_still spec_of reached spec_of' reached' k (idle chain) image lanes now ends owns = owns
work_still spec_of reached spec_of' reached' k (recording chain o) image lanes now ends owns = (owns.0, recorded_still spec_of reached spec_of' reached' k.config k.tick k.last_event image chain o lanes now ends owns.1)
work_still spec_of reached spec_of' reached' k failed image lanes now ends owns = tt

pub owns_looked : {L : Type 0} (took : L → List Sample → L → Type 0) (spec_of : L → ChannelSpec) (reached : L → ℕ) (k : Kept) (image : Image) (books : Books) (lanes now : List L) → ((a b : L) (xs : List Sample) → took a xs b → spec_of b ≡ spec_of a)
    → ((a b : L) (xs : List Sample) → took a xs b → reached a ≤ reached b) → TookAll took spec_of [] lanes now → Owns spec_of reached k image lanes books → Owns spec_of reached k image now books
owns_looked took spec_of reached k image books lanes now keeps rises all owns = record {
  limits = owns.limits;
  blocks = owns.blocks;
  specs = same_specs took spec_of lanes now keeps all ∙ owns.specs;
  generation = owns.generation;
  taken = owns.taken;
  erased = owns.erased;
  work = work_still spec_of reached spec_of reached k k.work image lanes now (λ entries ends. end_still took spec_of reached entries lanes now keeps rises all ends) owns.work;
  judged = owns.judged;
}

-- ---- as the machine tells it

-- erases took alike of each
abbrev ErasedAlike : Mode → List ℕ → List Lane → Type 0
ErasedAlike mode [] [] = Unit {0}
ErasedAlike mode (e ∷ erased) (l ∷ machines) = (erased_told mode e ≡ erased_told mode l.erased) × ErasedAlike mode erased machines
ErasedAlike mode erased machines = ⊥

counted_alike : (mode : Mode) (files : List File) (specs : List ChannelSpec) (taken erased : List ℕ) (machines : List Lane) → LanesAreCounted files specs taken erased machines → ErasedAlike mode erased machines
counted_alike mode files [] [] [] [] are = tt
counted_alike mode files (x ∷ specs) (t ∷ taken) (e ∷ erased) (l ∷ machines) are = (ap (erased_told mode) (sym are.0.erased_is), counted_alike mode files specs taken erased machines are.1)
counted_alike mode files [] [] [] (l ∷ machines) are = absurd are
counted_alike mode files [] [] (e ∷ erased) machines are = absurd are
counted_alike mode files [] (t ∷ taken) erased machines are = absurd are
counted_alike mode files (x ∷ specs) [] erased machines are = absurd are
counted_alike mode files (x ∷ specs) (t ∷ taken) [] machines are = absurd are
counted_alike mode files (x ∷ specs) (t ∷ taken) (e ∷ erased) [] are = absurd are

failed_alike : (machines : List Lane) (erased : List ℕ) → length erased ≡ length machines → ErasedAlike modes.Failed erased machines
failed_alike [] [] same = tt
failed_alike [] (e ∷ erased) same = absurd (omega (arith, same))
failed_alike (l ∷ machines) [] same = absurd (omega (arith, same))
failed_alike (l ∷ machines) (e ∷ erased) same = (refl, failed_alike machines erased (omega (arith, same)))

alike : (k : Kept) (w : Work) (m : Machine) → NumbersAre (record k { work = w }) m → length k.erased ≡ length m.lanes → ErasedAlike (mode_of w) k.erased m.lanes
alike k unmounted m numbers same = counted_alike modes.Unmounted m.files k.config.channels k.taken k.erased m.lanes numbers.2
alike k (idle chain) m numbers same = counted_alike modes.Idle m.files k.config.channels k.taken k.erased m.lanes numbers.2
alike k (recording chain o) m numbers same = counted_alike modes.Recording m.files k.config.channels k.taken k.erased m.lanes numbers.2
alike k failed m numbers same = failed_alike m.lanes k.erased same

one_lane : (t : LaneStatus) (channel held erased : ℕ) → t.channel ≡ channel → t.held ≡ held → t.erased ≡ erased → t ≡ record { channel = channel; held = held; erased = erased }
one_lane t channel held erased a b c = rw (← a, ← b, ← c) refl

lanes_alike : {L : Type 0} (quiet : L → Option (List Sample)) (spec_of : L → ChannelSpec) (mode : Mode) (lanes : List L) (machines : List Lane) (erased : List ℕ) (reported : List LaneStatus) → map spec_of lanes ≡ map (λ (l : Lane). l.spec) machines
    → ErasedAlike mode erased machines → WaitQuietly quiet lanes machines → TellsLanes quiet spec_of mode lanes erased reported → reported ≡ map held_of (map (channel_status mode) machines)
lanes_alike quiet spec_of mode [] [] [] [] specs erases waits tells = refl
lanes_alike quiet spec_of mode [] [] [] (t ∷ reported) specs erases waits tells = absurd tells
lanes_alike quiet spec_of mode [] [] (e ∷ erased) reported specs erases waits tells = absurd erases
lanes_alike quiet spec_of mode [] (l ∷ machines) erased reported specs erases waits tells = absurd waits
lanes_alike quiet spec_of mode (a ∷ lanes) [] erased reported specs erases waits tells = absurd waits
lanes_alike quiet spec_of mode (a ∷ lanes) (l ∷ machines) [] reported specs erases waits tells = absurd erases
lanes_alike quiet spec_of mode (a ∷ lanes) (l ∷ machines) (e ∷ erased) [] specs erases waits tells = absurd tells
lanes_alike quiet spec_of mode (a ∷ lanes) (l ∷ machines) (e ∷ erased) (t ∷ reported) specs erases waits tells =
    let same : spec_of a ≡ l.spec = cc (specs) in
    let others : map spec_of lanes ≡ map (λ (x : Lane). x.spec) machines = cc (specs) in
    let held : t.held ≡ length l.waiting = subst (λ (q : Option (List Sample)). IfSome q (λ w. t.held ≡ length w)) waits.0 tells.0.1 in
    ap (λ (x : LaneStatus). x ∷ reported) (one_lane t l.spec.id (length l.waiting) (erased_told mode l.erased) (tells.0.0 ∙ ap (λ (s : ChannelSpec). s.id) same) held (tells.0.2 ∙ erases.0))
    ∙ ap (λ (rest : List LaneStatus). held_of (channel_status mode l) ∷ rest) (lanes_alike quiet spec_of mode lanes machines erased reported others erases.1 waits.1 tells.1)

made : (s : RecorderStatus) (mode : Mode) (tick : Option ℕ) (files free : ℕ) (channels : List LaneStatus) → s.mode ≡ mode → s.tick ≡ tick → s.files ≡ files → s.free ≡ free → s.channels ≡ channels
    → s ≡ record { mode = mode; tick = tick; files = files; free = free; channels = channels }
made s mode tick files free channels a b c d e = rw (← a, ← b, ← c, ← d, ← e) refl

pub looks_alike : {L : Type 0} (quiet : L → Option (List Sample)) (spec_of : L → ChannelSpec) (k : Kept) (image : Image) (n : ℕ) (m : Machine) (lanes : List L) (s : RecorderStatus) → KeptStandsFor k image n m → map spec_of lanes ≡ k.config.channels
    → length k.erased ≡ length lanes → WaitQuietly quiet lanes m.lanes → ((i : Image) (x : Machine) → x.mode ≡ mode_of k.work → HasFiles k.config k.work i x.files → free_in k.config k.work ≡ free_bytes k.config x)
    → TellsRecorder quiet spec_of k lanes s → s ≡ without_lost (status_of k.config m)
looks_alike quiet spec_of k image n m lanes s means specs numbered waits free tells =
    let same : map spec_of lanes ≡ map (λ (l : Lane). l.spec) m.lanes = specs ∙ sym means.sound.channels in
    let more : length (map spec_of lanes) ≡ length lanes = simp length-map in
    let most : length (map (λ (l : Lane). l.spec) m.lanes) ≡ length m.lanes = simp length-map in
    let long : length k.erased ≡ length m.lanes = numbered ∙ sym more ∙ ap (λ (ss : List ChannelSpec). length ss) same ∙ most in
    made s m.mode (last_tick m) (if is_mounted m.mode then length m.files else 0) (free_bytes k.config m) (map held_of (map (channel_status m.mode) m.lanes))
    (tells.mode ∙ sym means.mode)
    (tells.tick ∙ sym (ap (λ (t : Option Tick). elim t [ None ↦ None | Some tick ↦ Some tick.count ]) means.tick ∙ tick_told k.tick))
    (tells.files ∙ sym (ap (λ (x : Mode). if is_mounted x then length m.files else 0) means.mode ∙ files_told k.config k.work image m.files means.files))
    (tells.free ∙ free image m means.mode means.files)
    (lanes_alike quiet spec_of (mode_of k.work) lanes m.lanes k.erased s.channels same (alike k k.work m means.numbers long) waits tells.channels ∙ ap (λ (x : Mode). map held_of (map (channel_status x) m.lanes)) (sym means.mode))

pub looked : StatusIsTold → (k : Kept) (image : Image) (n : ℕ) (m : Machine) → IsConfig k.config → KeptStandsFor k image n m → KeptStepsTaking none_taken k m events.Status (replies.Status (status_of k.config m)) k image n
looked law k image n m limits means = record {
  machine = record m { failures = n };
  led = law k image image n n m limits means refl (omega arith);
  lanes = none_left m.lanes;
  cursors = refl;
  sizes = λ again. none_shrinks m.files;
}
