-- Entries join the last file, and the channels' numbers with it.
use Rattle.std.proofs.Common.{◌≡◌, ◌≤◌, ◌+◌, ℕ, Bool, true, false, ◌==◌, cond, List, [], ◌∷◌, ◌++◌, length, Some, None, refl, sym, ap, ◌∙◌, subst, arith, append_assoc}
use Rattle.std.specs.Prelude.{IsSomeAnd}
use Rattle.std.specs.List.{AllByRecursion, flat_map, last_or}
use Rattle.std.specs.List.{AllByRecursion, IsDistinct, flat_map, last_or}
use Rattle.std.proofs.lemmas.List.{append-nil, length-append}
use Rattle.std.proofs.lemmas.List.Elements.{filter-append}
use Rattle.r10_count.specs.declared.civil.Parts.{Parts}
use Rattle.r10_body.specs.Files.{on_channel}
use Rattle.r10_body.specs.Rules.{is_entry_on}
use Rattle.r10_body.specs.declared.entry.Entry.{Entry}
use Rattle.r10_body.specs.declared.spec.ChannelSpec.{ChannelSpec}
use Rattle.r10_medium.specs.Disk.{Image}
use Rattle.r10_dirchain.specs.declared.chain.ChainBlock.{ChainBlock}
use Rattle.r10_volume.specs.Holding.{HoldsFiles, OpenState}
use Rattle.r10_machine.specs.Calls.{TicksIn, shown_whole, empty_file, time_entry}
use Rattle.r10_machine.specs.Checks.{is_recording}
use Rattle.r10_machine.specs.Config.{Config}
use Rattle.r10_machine.specs.Limits.{IsConfig, channel_ids}
use Rattle.r10_machine.proofs.Ranges.{ids_distinct, parts_of}
use Rattle.r10_machine.specs.Machine.{File, Lane, Machine, Tick as MachineTick, change_last, last_size, saturated, with_entries, with_last}
use Rattle.r10_machine.specs.Room.{fits}
use Rattle.r10_machine.specs.SoundParts.{own_files}
use Rattle.r10_machine.specs.declared.mode.Mode.TheVariants as modes
use Rattle.r10_machine.proofs.Growing.{append_last}
use Rattle.r10_machine.specs.ControlCalls.{event_entry, own_entries}
use Rattle.r10_machine.specs.EventChecks.{refusal}
use Rattle.r10_machine.specs.Step.{Step}
use Rattle.r10_machine.specs.declared.event.Event.TheVariants.{Tick, Event, Start}
use Rattle.r10_machine.specs.declared.reply.Reply.TheVariants as replies
use Rattle.r10_refinement.specs.Grown.{AreGrown}
use Rattle.r10_refinement.specs.KeptState.{Kept, mode_of, idle, recording}
use Rattle.r10_refinement.specs.Means.{LanesAreCounted, LaneIsCounted, KeptStepsTo, KeptStandsFor}
use Rattle.r10_refinement.proofs.Lasting.{last_changes}
use Rattle.r10_refinement.proofs.Leading.{StepsStaySound, failing, no_fewer, numbers_at}
use Rattle.r10_refinement.proofs.Owning.{begun_follows, last_follows}

-- ---- lists

own_last : (b c : Bool) (f g : File) (more : List Entry) → b ≡ true → c ≡ true → g.entries ≡ f.entries ++ more
    → flat_map (λ (x : File). x.entries) (cond c (g ∷ []) []) ≡ flat_map (λ (x : File). x.entries) (cond b (f ∷ []) []) ++ more
own_last true true f g more one two same = append-nil g.entries ∙ same ∙ ap (λ (l : List Entry). l ++ more) (sym (append-nil f.entries))
own_last true false f g more one two same = cc
own_last false c f g more one two same = cc

own_grown : (files : List File) (f g : File) (more : List Entry) → f.own ≡ true → g.own ≡ true → g.entries ≡ f.entries ++ more
    → flat_map (λ (x : File). x.entries) (own_files (files ++ g ∷ [])) ≡ flat_map (λ (x : File). x.entries) (own_files (files ++ f ∷ [])) ++ more
own_grown [] f g more one two same = own_last f.own g.own f g more one two same
own_grown (x ∷ files) f g more one two same = by x.own (own_grown files f g more one two same)
  where
    by : (b : Bool) → flat_map (λ (x : File). x.entries) (own_files (files ++ g ∷ [])) ≡ flat_map (λ (x : File). x.entries) (own_files (files ++ f ∷ [])) ++ more
        → flat_map (λ (x : File). x.entries) (cond b (x ∷ own_files (files ++ g ∷ [])) (own_files (files ++ g ∷ []))) ≡ flat_map (λ (x : File). x.entries) (cond b (x ∷ own_files (files ++ f ∷ [])) (own_files (files ++ f ∷ []))) ++ more
    by true rest = ap (λ (l : List Entry). x.entries ++ l) rest ∙ sym (append_assoc x.entries (flat_map (λ (x : File). x.entries) (own_files (files ++ f ∷ []))) more)
    by false rest = rest

own_first : (c : Bool) (g : File) → c ≡ true → flat_map (λ (x : File). x.entries) (cond c (g ∷ []) []) ≡ [] ++ g.entries
own_first true g one = append-nil g.entries
own_first false g one = cc

own_begun : (files : List File) (g : File) → g.own ≡ true → flat_map (λ (x : File). x.entries) (own_files (files ++ g ∷ [])) ≡ flat_map (λ (x : File). x.entries) (own_files files) ++ g.entries
own_begun [] g one = own_first g.own g one
own_begun (x ∷ files) g one = by x.own (own_begun files g one)
  where
    by : (b : Bool) → flat_map (λ (x : File). x.entries) (own_files (files ++ g ∷ [])) ≡ flat_map (λ (x : File). x.entries) (own_files files) ++ g.entries
        → flat_map (λ (x : File). x.entries) (cond b (x ∷ own_files (files ++ g ∷ [])) (own_files (files ++ g ∷ []))) ≡ flat_map (λ (x : File). x.entries) (cond b (x ∷ own_files files) (own_files files)) ++ g.entries
    by true rest = ap (λ (l : List Entry). x.entries ++ l) rest ∙ sym (append_assoc x.entries (flat_map (λ (x : File). x.entries) (own_files files)) g.entries)
    by false rest = rest

-- ---- numbers

count_grows : (old new : List File) (more : List Entry) (x : ChannelSpec) (t u e : ℕ) (l : Lane) → own_entries x.id new ≡ own_entries x.id old ++ on_channel x.id more → u ≡ saturated (t + length (on_channel x.id more))
    → LaneIsCounted old x t e l → LaneIsCounted new x u e l
count_grows old new more x t u e l same grown is = record {
  spec_is = is.spec_is;
  erased_is = is.erased_is;
  taken_is = omega (arith, grown, is.taken_is, ap (λ (es : List Entry). length es) same, length-append (own_entries x.id old) (on_channel x.id more));
}

counts_grow : (old new : List File) (more : List Entry) → ((channel : ℕ) → own_entries channel new ≡ own_entries channel old ++ on_channel channel more) → (specs : List ChannelSpec) (taken grown erased : List ℕ) (lanes : List Lane)
    → AreGrown more specs taken grown → LanesAreCounted old specs taken erased lanes → LanesAreCounted new specs grown erased lanes
counts_grow old new more same [] [] [] [] [] grows are = tt
counts_grow old new more same (x ∷ specs) (t ∷ taken) (u ∷ grown) (e ∷ erased) (l ∷ lanes) grows are = (count_grows old new more x t u e l (same x.id) grows.0 are.0, counts_grow old new more same specs taken grown erased lanes grows.1 are.1)
counts_grow old new more same [] [] [] [] (l ∷ lanes) grows are = absurd are
counts_grow old new more same [] [] [] (e ∷ erased) lanes grows are = absurd are
counts_grow old new more same [] [] (u ∷ grown) erased lanes grows are = absurd grows
counts_grow old new more same [] (t ∷ taken) grown erased lanes grows are = absurd grows
counts_grow old new more same (x ∷ specs) [] grown erased lanes grows are = absurd grows
counts_grow old new more same (x ∷ specs) (t ∷ taken) [] erased lanes grows are = absurd grows
counts_grow old new more same (x ∷ specs) (t ∷ taken) (u ∷ grown) [] lanes grows are = absurd are
counts_grow old new more same (x ∷ specs) (t ∷ taken) (u ∷ grown) (e ∷ erased) [] grows are = absurd are

pub numbers_grow : (files later : List File) (f : File) (more : List Entry) → f.own ≡ true → later ≡ files ++ f ∷ [] → (specs : List ChannelSpec) (taken grown erased : List ℕ) (lanes : List Lane)
    → AreGrown more specs taken grown → LanesAreCounted later specs taken erased lanes → LanesAreCounted (files ++ with_entries more f ∷ []) specs grown erased lanes
numbers_grow files later f more own is specs taken grown erased lanes grows are =
    counts_grow (files ++ f ∷ []) (files ++ with_entries more f ∷ []) more
    (λ channel. ap (on_channel channel) (own_grown files f (with_entries more f) more own own refl) ∙ filter-append (is_entry_on channel) (flat_map (λ (x : File). x.entries) (own_files (files ++ f ∷ []))) more)
    specs taken grown erased lanes grows (subst (λ (l : List File). LanesAreCounted l specs taken erased lanes) is are)

numbers_begin : (files : List File) (g : File) → g.own ≡ true → (specs : List ChannelSpec) (taken grown erased : List ℕ) (lanes : List Lane)
    → AreGrown g.entries specs taken grown → LanesAreCounted files specs taken erased lanes → LanesAreCounted (files ++ g ∷ []) specs grown erased lanes
numbers_begin files g own specs taken grown erased lanes grows are =
    counts_grow files (files ++ g ∷ []) g.entries
    (λ channel. ap (on_channel channel) (own_begun files g own) ∙ filter-append (is_entry_on channel) (flat_map (λ (x : File). x.entries) (own_files files)) g.entries)
    specs taken grown erased lanes grows are

-- ---- the last file gets entries

grown_last : (files later : List File) (f : File) (more : List Entry) → later ≡ files ++ f ∷ [] → files ++ with_entries more f ∷ [] ≡ change_last (with_entries more) later
grown_last files later f more is = sym (last_changes (with_entries more) files f) ∙ ap (λ (l : List File). change_last (with_entries more) l) (sym is)

pub tick_recorded : StepsStaySound → (k : Kept) (old new : Image) (before now : ℕ) (m : Machine) (chain : List ChainBlock) (o later : OpenState) (files : List File) (f : File) (count : ℕ) (parts : Parts) (grown : List ℕ)
    → IsConfig k.config → KeptStandsFor k old before m → k.work ≡ recording chain o → m.files ≡ files ++ f ∷ [] → f.own ≡ true → refusal k.config m (Tick count parts) ≡ None
    → fits k.config f (time_entry k.config (record { count = count; civil = parts })) ≡ true → AreGrown (time_entry k.config (record { count = count; civil = parts }) ∷ []) k.config.channels k.taken grown
    → HoldsFiles k.config new chain (Some later) (files ++ with_entries (time_entry k.config (record { count = count; civil = parts }) ∷ []) f ∷ []) → before ≤ now
    → KeptStepsTo k m (Tick count parts) replies.Done (record k { work = recording chain later; tick = Some (record { count = count; civil = parts }); taken = grown }) new now (record m { tick = Some (record { count = count; civil = parts }); files = files ++ with_entries (time_entry k.config (record { count = count; civil = parts }) ∷ []) f ∷ []; failures = now })
tick_recorded law k old new before now m chain o later files f count parts grown limits means at is own fine room grows holds more =
    let clock : MachineTick = record { count = count; civil = parts } in
    let e : Entry = time_entry k.config clock in
    let done : Machine = record m { tick = Some clock; files = files ++ with_entries (e ∷ []) f ∷ []; failures = now } in
    let last : last_or None m.files ≡ Some f = ap (λ (l : List File). last_or None l) is ∙ append_last None files f in
    let does : TicksIn true k.config (failing now m) clock done = (
      subst (λ o. IsSomeAnd o (λ x. fits k.config x e ≡ true)) (sym last) room,
      ap (λ (l : List File). record m { tick = Some clock; files = l; failures = now }) (grown_last files m.files f (e ∷ []) is),
    ) in
    let step : Step k.config m (Tick count parts) replies.Done done = (
      no_fewer k old before now m means more,
      (fine, subst (λ mode. TicksIn (is_recording mode) k.config (failing now m) clock done) (sym (means.mode ∙ ap mode_of at)) does),
    ) in
    let numbers = numbers_at k (recording chain o) m at means.numbers in
    record {
      step = step;
      means = record {
        mode = means.mode ∙ ap mode_of at;
        tick = refl;
        counted = refl;
        files = holds;
        numbers = (numbers.0, numbers.1, numbers_grow files m.files f (e ∷ []) own is k.config.channels k.taken grown k.erased m.lanes grows numbers.2, last_follows k.found files m.files f (with_entries (e ∷ []) f) refl is numbers.3);
        sound = law k.config m (Tick count parts) replies.Done done limits means.sound step;
      };
    }

pub event_recorded : StepsStaySound → (k : Kept) (old new : Image) (before now : ℕ) (m : Machine) (chain : List ChainBlock) (o later : OpenState) (files : List File) (f : File) (number count : ℕ) (grown : List ℕ)
    → IsConfig k.config → KeptStandsFor k old before m → k.work ≡ recording chain o → m.files ≡ files ++ f ∷ [] → f.own ≡ true → refusal k.config m (Event number count) ≡ None
    → fits k.config f (event_entry k.config number count f) ≡ true → AreGrown (event_entry k.config number count f ∷ []) k.config.channels k.taken grown
    → HoldsFiles k.config new chain (Some later) (files ++ with_entries (event_entry k.config number count f ∷ []) f ∷ []) → before ≤ now
    → KeptStepsTo k m (Event number count) replies.Done (record k { work = recording chain later; last_event = Some count; taken = grown }) new now (record m { last_event = Some count; files = files ++ with_entries (event_entry k.config number count f ∷ []) f ∷ []; failures = now })
event_recorded law k old new before now m chain o later files f number count grown limits means at is own fine room grows holds more =
    let e : Entry = event_entry k.config number count f in
    let done : Machine = record m { last_event = Some count; files = files ++ with_entries (e ∷ []) f ∷ []; failures = now } in
    let last : last_or None m.files ≡ Some f = ap (λ (l : List File). last_or None l) is ∙ append_last None files f in
    let step : Step k.config m (Event number count) replies.Done done = (
      no_fewer k old before now m means more,
      (
        fine,
        subst (λ o. IsSomeAnd o (λ x. (fits k.config x (event_entry k.config number count x) ≡ true) × (done ≡ with_last (with_entries (event_entry k.config number count x ∷ [])) (record (failing now m) { last_event = Some count })))) (sym last)
            (room, ap (λ (l : List File). record m { last_event = Some count; files = l; failures = now }) (grown_last files m.files f (e ∷ []) is)),
      ),
    ) in
    let numbers = numbers_at k (recording chain o) m at means.numbers in
    record {
      step = step;
      means = record {
        mode = means.mode ∙ ap mode_of at;
        tick = means.tick;
        counted = refl;
        files = holds;
        numbers = (refl, numbers.1, numbers_grow files m.files f (e ∷ []) own is k.config.channels k.taken grown k.erased m.lanes grows numbers.2, last_follows k.found files m.files f (with_entries (e ∷ []) f) refl is numbers.3);
        sound = law k.config m (Event number count) replies.Done done limits means.sound step;
      };
    }

pub file_started : StepsStaySound → (k : Kept) (old new : Image) (before now : ℕ) (m : Machine) (chain made : List ChainBlock) (later : OpenState) (clock : MachineTick) (name setup : List ℕ) (size : ℕ) (grown : List ℕ)
    → IsConfig k.config → KeptStandsFor k old before m → k.work ≡ idle chain → k.tick ≡ Some clock → refusal k.config m (Start name setup) ≡ None
    → fits k.config (empty_file k.config m.files name setup) (time_entry k.config clock) ≡ true → AreGrown (time_entry k.config clock ∷ []) k.config.channels k.taken grown
    → HoldsFiles k.config new made (Some later) (m.files ++ shown_whole size (with_entries (time_entry k.config clock ∷ []) (empty_file k.config m.files name setup)) ∷ []) → before ≤ now
    → KeptStepsTo k m (Start name setup) replies.Done (record k { work = recording made later; taken = grown }) new now (record m { mode = modes.Recording; files = m.files ++ shown_whole size (with_entries (time_entry k.config clock ∷ []) (empty_file k.config m.files name setup)) ∷ []; failures = now })
file_started law k old new before now m chain made later clock name setup size grown limits means at ticks fine room grows holds more =
    let e : Entry = time_entry k.config clock in
    let g : File = shown_whole size (with_entries (e ∷ []) (empty_file k.config m.files name setup)) in
    let done : Machine = record m { mode = modes.Recording; files = m.files ++ g ∷ []; failures = now } in
    let size_is : last_size done ≡ size = ap (λ g. elim g [ None ↦ 0 | Some x ↦ x.size ]) (append_last None m.files g) in
    let step : Step k.config m (Start name setup) replies.Done done = (
      no_fewer k old before now m means more,
      (
        fine,
        subst (λ o. IsSomeAnd o (λ t. (fits k.config (empty_file k.config m.files name setup) (time_entry k.config t) ≡ true)
            × (done ≡ record (failing now m) { mode = modes.Recording; files = m.files ++ shown_whole (last_size done) (with_entries (time_entry k.config t ∷ []) (empty_file k.config m.files name setup)) ∷ [] }))) (sym (means.tick ∙ ticks))
            (room, ap (λ n. record m { mode = modes.Recording; files = m.files ++ shown_whole n (with_entries (e ∷ []) (empty_file k.config m.files name setup)) ∷ []; failures = now }) (sym size_is)),
      ),
    ) in
    let numbers = numbers_at k (idle chain) m at means.numbers in
    record {
      step = step;
      means = record {
        mode = refl;
        tick = means.tick;
        counted = refl;
        files = holds;
        numbers = (numbers.0, numbers.1, numbers_begin m.files g refl k.config.channels k.taken grown k.erased m.lanes grows numbers.2, begun_follows k.found m.files g refl numbers.3);
        sound = law k.config m (Start name setup) replies.Done done limits means.sound step;
      };
    }

-- ---- times and events are on channels of their own

none_on : (e : Entry) (id : ℕ) (b : Bool) → (e.channel == id) ≡ b → b ≡ false → length (on_channel id (e ∷ [])) ≡ 0
none_on e id true on off = cc
none_on e id false on off = rw on refl

none_grown : (e : Entry) (files : List File) (specs : List ChannelSpec) (taken erased : List ℕ) (lanes : List Lane) → AllByRecursion (λ (id : ℕ). (e.channel == id) ≡ false) (channel_ids specs)
    → LanesAreCounted files specs taken erased lanes → AreGrown (e ∷ []) specs taken taken
none_grown e files [] [] [] [] apart are = tt
none_grown e files (x ∷ specs) (t ∷ taken) (n ∷ erased) (l ∷ lanes) apart are = (
  omega (arith, are.0.taken_is, none_on e x.id (e.channel == x.id) refl apart.0),
  none_grown e files specs taken erased lanes apart.1 are.1,
)
none_grown e files [] [] [] (l ∷ lanes) apart are = absurd are
none_grown e files [] [] (n ∷ erased) lanes apart are = absurd are
none_grown e files [] (t ∷ taken) erased lanes apart are = absurd are
none_grown e files (x ∷ specs) [] erased lanes apart are = absurd are
none_grown e files (x ∷ specs) (t ∷ taken) [] lanes apart are = absurd are
none_grown e files (x ∷ specs) (t ∷ taken) (n ∷ erased) [] apart are = absurd are

pub time_grows_none : (s : Config) (e : Entry) (files : List File) (taken erased : List ℕ) (lanes : List Lane) → IsConfig s → e.channel ≡ s.time → LanesAreCounted files s.channels taken erased lanes → AreGrown (e ∷ []) s.channels taken taken
unfolding IsDistinct
time_grows_none s e files taken erased lanes limits on are =
    let distinct = ids_distinct [] (s.time ∷ s.event ∷ channel_ids s.channels) (parts_of s limits).ids in
    none_grown e files s.channels taken erased lanes (subst (λ n. AllByRecursion (λ (id : ℕ). (n == id) ≡ false) (channel_ids s.channels)) (sym on) distinct.0.1) are

pub event_grows_none : (s : Config) (e : Entry) (files : List File) (taken erased : List ℕ) (lanes : List Lane) → IsConfig s → e.channel ≡ s.event → LanesAreCounted files s.channels taken erased lanes → AreGrown (e ∷ []) s.channels taken taken
unfolding IsDistinct
event_grows_none s e files taken erased lanes limits on are =
    let distinct = ids_distinct [] (s.time ∷ s.event ∷ channel_ids s.channels) (parts_of s limits).ids in
    none_grown e files s.channels taken erased lanes (subst (λ n. AllByRecursion (λ (id : ℕ). (n == id) ≡ false) (channel_ids s.channels)) (sym on) distinct.1.0) are
