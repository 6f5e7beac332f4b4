-- A pump, as a step of the machine.
use Rattle.std.proofs.Common.{◌≡◌, ◌≤◌, ◌+◌, ℕ, zero, suc, Bool, true, false, cond, ◌==◌, List, [], ◌∷◌, ◌++◌, length, map, take, find, Some, None, refl, sym, ap, ◌∙◌, subst, arith}
use Rattle.std.specs.Prelude.{IfSome, IsSomeAnd, is_some, slice_get}
use Rattle.std.specs.List.{AllByRecursion, last_or}
use Rattle.std.proofs.lemmas.Bool.{eq-eqb, eqb-true, le-leb, ne_eqb}
use Rattle.std.proofs.lemmas.List.{append-nil}
use Rattle.r10_openfile.specs.Entering.{IsAskedFor}
use Rattle.r10_body.specs.Cost.{entry_cost}
use Rattle.r10_body.specs.declared.entry.Entry.{Entry}
use Rattle.r10_body.specs.declared.entry.Sample.{Sample}
use Rattle.r10_body.specs.declared.refusal.Refusal.TheVariants.{Medium, NoSuchChannel, OutOfMemory}
use Rattle.r10_body.specs.declared.spec.ChannelSpec.{ChannelSpec}
use Rattle.r10_builder.specs.Packing.{entry_on}
use Rattle.r10_count.specs.Checks.{first_broken}
use Rattle.r10_dirchain.specs.declared.chain.ChainBlock.{ChainBlock}
use Rattle.r10_volume.specs.Holding.{HoldsFiles, IsWritten, OpenState}
use Rattle.r10_machine.specs.Calls.{Pumps, without}
use Rattle.r10_machine.specs.Checks.{recording_checks}
use Rattle.r10_machine.specs.Config.{Config}
use Rattle.r10_machine.specs.Limits.{IsConfig}
use Rattle.r10_machine.specs.Machine.{File, Lane, Machine, change_first, change_last, is_channel, lane_in, lane_of, last_file, with_entries, with_lane, with_last}
use Rattle.r10_machine.specs.Room.{area as area_of, cost_of}
use Rattle.r10_machine.specs.declared.mode.Mode.TheVariants as modes
use Rattle.r10_refinement.specs.Grown.{AreGrown}
use Rattle.r10_refinement.specs.KeptState.{Kept, Work, mode_of, recording, failed}
use Rattle.r10_refinement.specs.Means.{HasFiles, KeptStepsTo, KeptStandsFor, NumbersAre}
use Rattle.r10_refinement.proofs.Leading.{StepsStaySound, failed_before, failed_so}
use Rattle.r10_medium.specs.Disk.{Image, Rose}
use Rattle.r10_mux.specs.declared.fault.Full.{Full}
use Rattle.r10_mux.specs.declared.fault.Full.TheVariants as lacking
use Rattle.r10_openfile.proofs.Ends.{last_is}
use Rattle.r10_openfile.specs.Machines.{HasWaiting, refusal_of_full}
use Rattle.r10_openfile.specs.Pumping.{entries_on}
use Rattle.r10_openfile.specs.Stopping.{ChannelsAreApart}
use Rattle.r10_openfile.proofs.Fitting.{lacks_first, pump_fails, pumps_in}
use Rattle.r10_cursor.proofs.Sizes.{last_grows, none_shrinks}
use Rattle.r10_cursor.specs.Staying.{NoneShrinks}
use Rattle.r10_control.specs.Checks.{recorder_refusal}
use Rattle.r10_control.specs.Leading.{AreLeft, KeptStepsTaking, none_taken}
use Rattle.r10_control.specs.Taking.{MovedSamples, MovesAny, one_part, taken_of}
use Rattle.r10_control.proofs.Apart.{apart_of}
use Rattle.r10_control.proofs.Lacking.{medium_full_leads}
use Rattle.r10_control.proofs.Leading.{memory_leads}
use Rattle.r10_machine.specs.EventChecks.{refusal}
use Rattle.r10_machine.specs.Says.{MediumSays}
use Rattle.r10_machine.specs.Step.{Lacks, entry_has_room, needed}
use Rattle.r10_machine.specs.declared.event.Event.{Event as EventValue}
use Rattle.r10_machine.specs.declared.event.Event.TheVariants.{Pump}
use Rattle.r10_machine.specs.declared.reply.Reply.{Reply as ReplyValue}
use Rattle.r10_machine.specs.declared.reply.Reply.TheVariants as replies
pub use Rattle.r10_refinement.proofs.Lasting.{last_changes}

-- the law of pumps
abbrev pub PumpsAreLed : Type 0
PumpsAreLed = (k : Kept) (old new : Image) (n later : ℕ) (m : Machine) (chain : List ChainBlock) (file after : OpenState) (files : List File) (f : File) (channel most moved : ℕ) (more : List Entry) (grown : List ℕ) → IsConfig k.config → KeptStandsFor k old n m
    → k.work ≡ recording chain file → m.files ≡ files ++ f ∷ [] → f.own ≡ true → refusal k.config m (Pump channel most) ≡ None
    → Pumps k.config (record m { failures = later }) channel most moved (record m { lanes = change_first (is_channel channel) (without moved) m.lanes; files = files ++ with_entries more f ∷ []; failures = later })
    → AreGrown more k.config.channels k.taken grown → HoldsFiles k.config new chain (Some after) (files ++ with_entries more f ∷ []) → n ≤ later
    → KeptStepsTo k m (Pump channel most) (replies.Moved moved) (record k { work = recording chain after; taken = grown }) new later (record m { lanes = change_first (is_channel channel) (without moved) m.lanes; files = files ++ with_entries more f ∷ []; failures = later })

-- ---- the channel's lane

found_alike : (channel : ℕ) (lanes : List Lane) → is_some (lane_in channel lanes) ≡ is_some (find (λ (spec : ChannelSpec). spec.id == channel) (map (λ (l : Lane). l.spec) lanes))
found_alike channel [] = refl
found_alike channel (l ∷ lanes) = by (l.spec.id == channel) (found_alike channel lanes)
  where
    by : (t : Bool) → is_some (lane_in channel lanes) ≡ is_some (find (λ (spec : ChannelSpec). spec.id == channel) (map (λ (x : Lane). x.spec) lanes))
        → is_some (cond t (Some l) (lane_in channel lanes)) ≡ is_some (cond t (Some l.spec) (find (λ (spec : ChannelSpec). spec.id == channel) (map (λ (x : Lane). x.spec) lanes)))
    by true rest = refl
    by false rest = rest

-- it is there, and all of this waits in it
pub record Found (channel : ℕ) (waiting : List Sample) (lanes : List Lane) : Type 0 where
  pub lane : Lane
  pub is : lane_in channel lanes ≡ Some lane
  pub id : lane.spec.id ≡ channel
  pub waits : lane.waiting ≡ waiting

found : (channel : ℕ) (waiting : List Sample) (lanes : List Lane) → is_some (lane_in channel lanes) ≡ true → AllByRecursion (λ (l : Lane). l.spec.id ≡ channel → l.waiting ≡ waiting) lanes → Found channel waiting lanes
found channel waiting [] there all = absurd (cc)
found channel waiting (l ∷ lanes) there all = by (l.spec.id == channel) refl there (λ later. found channel waiting lanes later all.1)
  where
    by : (t : Bool) → (l.spec.id == channel) ≡ t → is_some (cond t (Some l) (lane_in channel lanes)) ≡ true → (is_some (lane_in channel lanes) ≡ true → Found channel waiting lanes) → Found channel waiting (l ∷ lanes)
    by true is there rest = record { lane = l; is = rw is refl; id = eqb-true l.spec.id channel is; waits = all.0 (eqb-true l.spec.id channel is) }
    by false is there rest = let it = rest there in record { lane = it.lane; is = rw is it.is; id = it.id; waits = it.waits }

-- ---- what lanes lost

left_less : (taken : ℕ → ℕ) (l : Lane) (n : ℕ) → taken l.spec.id ≡ n → without n l ≡ record (without (taken l.spec.id) l) { erased = l.erased }
left_less taken l n is = ap (λ (k : ℕ). without k l) (sym is)

others_left : (taken : ℕ → ℕ) (channel : ℕ) (lanes : List Lane) → ((c : ℕ) → (c ≡ channel → ⊥) → taken c ≡ 0) → AllByRecursion (λ (other : ChannelSpec). other.id ≡ channel → ⊥) (map (λ (l : Lane). l.spec) lanes) → AreLeft taken lanes lanes
others_left taken channel [] none differ = tt
others_left taken channel (l ∷ lanes) none differ = (left_less taken l 0 (none l.spec.id differ.0), others_left taken channel lanes none differ.1)

first_left : (taken : ℕ → ℕ) (channel n : ℕ) (lanes : List Lane) → taken channel ≡ n → ((c : ℕ) → (c ≡ channel → ⊥) → taken c ≡ 0) → ChannelsAreApart (map (λ (l : Lane). l.spec) lanes) → AreLeft taken lanes (change_first (is_channel channel) (without n) lanes)
first_left taken channel n [] some none apart = tt
first_left taken channel n (l ∷ lanes) some none apart = by (l.spec.id == channel) refl (first_left taken channel n lanes some none apart.1)
  where
    no : true ≡ false → ⊥
    no e = cc

    by : (t : Bool) → (l.spec.id == channel) ≡ t → AreLeft taken lanes (change_first (is_channel channel) (without n) lanes)
        → AreLeft taken (l ∷ lanes) (cond t (without n l ∷ lanes) (l ∷ change_first (is_channel channel) (without n) lanes))
    by true is rest =
        let same : l.spec.id ≡ channel = eqb-true l.spec.id channel is in (
          left_less taken l n (ap taken same ∙ some),
          others_left taken channel lanes none (subst (λ (c : ℕ). AllByRecursion (λ (other : ChannelSpec). other.id ≡ c → ⊥) (map (λ (x : Lane). x.spec) lanes)) same apart.0),
        )
    by false is rest = (left_less taken l 0 (none l.spec.id (λ same. no (sym (eq-eqb l.spec.id channel same) ∙ is))), rest)

pub left_alike : (a b : ℕ → ℕ) (lanes later : List Lane) → ((c : ℕ) → a c ≡ b c) → AreLeft a lanes later → AreLeft b lanes later
left_alike a b [] [] same left = tt
left_alike a b [] (y ∷ later) same left = absurd left
left_alike a b (x ∷ lanes) [] same left = absurd left
left_alike a b (x ∷ lanes) (y ∷ later) same left = (left.0 ∙ ap (λ (k : ℕ). record (without k x) { erased = y.erased }) (same x.spec.id), left_alike a b lanes later same left.1)

-- a part is of its channel alone
own_taken : (channel : ℕ) (samples rest : List Sample) → taken_of (one_part channel samples rest ∷ []) channel ≡ length samples
own_taken channel samples rest = rw (eq-eqb channel channel refl) (ap (λ (xs : List Sample). length xs) (append-nil samples))

others_taken : (channel : ℕ) (samples rest : List Sample) (c : ℕ) → (c ≡ channel → ⊥) → taken_of (one_part channel samples rest ∷ []) c ≡ 0
others_taken channel samples rest c differs = rw (ne_eqb c channel differs) refl

empty_either : (t : Bool) (xs : List Sample) → xs ≡ [] → 0 ≡ length (cond t xs [] ++ [])
empty_either true xs none = sym (ap (λ (l : List Sample). length (l ++ [])) none)
empty_either false xs none = refl

none_of : (channel : ℕ) (samples rest : List Sample) → samples ≡ [] → (c : ℕ) → none_taken c ≡ taken_of (one_part channel samples rest ∷ []) c
none_of channel samples rest none c = empty_either (c == channel) samples none

-- ---- the last file

pub record Last (P : File → Type 0) (files : List File) : Type 0 where
  pub front : List File
  pub file : File
  pub is : files ≡ front ++ file ∷ []
  pub has : P file

split_last : (P : File → Type 0) (x : File) (xs : List File) → IsSomeAnd (last_or (Some x) xs) P → Last P (x ∷ xs)
split_last P x [] has = record { front = []; file = x; is = refl; has = has }
split_last P x (y ∷ ys) has = let rest = split_last P y ys has in record { front = x ∷ rest.front; file = rest.file; is = ap (λ (fs : List File). x ∷ fs) rest.is; has = rest.has }

pub last_of : (P : File → Type 0) (files : List File) → IsSomeAnd (last_or None files) P → Last P files
last_of P [] has = absurd has
last_of P (x ∷ xs) has = split_last P x xs has

-- ---- room

room_at : (s : Config) (m : Machine) (f : File) (channel most : ℕ) (lane : Lane) (waiting : List Sample) → lane_of channel m ≡ Some lane → last_file m ≡ Some f → lane.waiting ≡ waiting
    → IfSome (slice_get (take most waiting) 0) (λ x. cost_of f + entry_cost (entry_on channel x) ≤ area_of s f) → entry_has_room s m (Pump channel most) ≡ true
room_at s m f channel zero lane waiting there last waits fits = rw (entry_has_room, needed, there, last) refl
room_at s m f channel (suc most) lane [] there last waits fits = rw (entry_has_room, needed, there, last, waits) refl
room_at s m f channel (suc most) lane (x ∷ waiting) there last waits fits = rw (entry_has_room, needed, there, last, waits) (le-leb (cost_of f + entry_cost (entry_on lane.spec.id x)) (area_of s f) (omega (arith, fits)))

-- ---- memory that was asked for

pub means_readied : (k : Kept) (image : Image) (n : ℕ) (m : Machine) (chain : List ChainBlock) (o r : OpenState) → k.work ≡ recording chain o → IsAskedFor o r → KeptStandsFor k image n m → KeptStandsFor (record k { work = recording chain r }) image n m
means_readied k image n m chain o r at readied means = record {
  mode = means.mode ∙ ap mode_of at;
  tick = means.tick;
  counted = means.counted;
  files = readied.holds k.config image chain m.files (subst (λ (w : Work). HasFiles k.config w image m.files) at means.files);
  numbers = subst (λ (w : Work). NumbersAre (record k { work = w }) m) at means.numbers;
  sound = means.sound;
}

pub leads_readied : (a b : ℕ → ℕ) (k : Kept) (m : Machine) (event : EventValue) (reply : ReplyValue) (image : Image) (n : ℕ) (chain : List ChainBlock) (o r : OpenState) → k.work ≡ recording chain o → IsAskedFor o r → ((c : ℕ) → a c ≡ b c)
    → KeptStepsTaking a k m event reply k image n → KeptStepsTaking b k m event reply (record k { work = recording chain r }) image n
leads_readied a b k m event reply image n chain o r at readied alike leads = record {
  machine = leads.machine;
  led = record { step = leads.led.step; means = means_readied k image n leads.machine chain o r at readied leads.led.means };
  lanes = left_alike a b m.lanes leads.machine.lanes alike leads.lanes;
  cursors = leads.cursors;
  sizes = leads.sizes;
}

-- ---- the steps

pub same_check : (k : Kept) (image : Image) (n : ℕ) (m : Machine) (channel most : ℕ) → KeptStandsFor k image n m → refusal k.config m (Pump channel most) ≡ recorder_refusal k (Pump channel most)
same_check k image n m channel most means =
    ap (λ mode. first_broken (recording_checks mode ++ (is_some (lane_of channel m), NoSuchChannel) ∷ [])) means.mode
    ∙ ap (λ (b : Bool). first_broken (recording_checks (mode_of k.work) ++ (b, NoSuchChannel) ∷ []))
    (found_alike channel m.lanes ∙ ap (λ (specs : List ChannelSpec). is_some (find (λ (spec : ChannelSpec). spec.id == channel) specs)) means.sound.channels)

module _ (law : StepsStaySound) (led : PumpsAreLed) (k : Kept) (old new : Image) (before now : ℕ) (m : Machine) (chain : List ChainBlock) (o after : OpenState) (channel most area : ℕ) (samples rest : List Sample) (limits : IsConfig k.config) (means : KeptStandsFor k old before m)
    (at : k.work ≡ recording chain o) (fine : recorder_refusal k (Pump channel most) ≡ None) (there : is_some (find (λ (spec : ChannelSpec). spec.id == channel) k.config.channels) ≡ true)
    (ends ends' : List Entry → Type 0) (end : (files : List File) (f : File) → HoldsFiles k.config old chain (Some o) (files ++ f ∷ []) → ends f.entries)
    (area_is : (files : List File) (f : File) → HoldsFiles k.config old chain (Some o) (files ++ f ∷ []) → area ≡ area_of k.config f)
    (cost_is : (files : List File) (f : File) → HoldsFiles k.config old chain (Some o) (files ++ f ∷ []) → o.recording.cost ≡ cost_of f)
    (waits : HasWaiting m.lanes (one_part channel samples rest)) (more : before ≤ now) where
  abbrev Had : File → Type 0
  Had f = IsWritten k.config old o f

  held : HoldsFiles k.config old chain (Some o) m.files
  held = subst (λ (w : Work). HasFiles k.config w old m.files) at means.files

  its : Last Had m.files
  its = last_of Had m.files held.last

  split : HoldsFiles k.config old chain (Some o) (its.front ++ its.file ∷ [])
  split = subst (λ (fs : List File). HoldsFiles k.config old chain (Some o) fs) its.is held

  is_last : last_or None m.files ≡ Some its.file
  is_last = ap (λ (fs : List File). last_or None fs) its.is ∙ last_is None its.front its.file

  lane : Found channel (samples ++ rest) m.lanes
  lane = found channel (samples ++ rest) m.lanes (found_alike channel m.lanes ∙ ap (λ (specs : List ChannelSpec). is_some (find (λ (spec : ChannelSpec). spec.id == channel) specs)) means.sound.channels ∙ there) waits

  checked : refusal k.config m (Pump channel most) ≡ None
  checked = same_check k old before m channel most means ∙ fine

  lanes_apart : ChannelsAreApart (map (λ (l : Lane). l.spec) m.lanes)
  lanes_apart = subst ChannelsAreApart (sym means.sound.channels) (apart_of k.config limits).lanes

  abbrev taken : ℕ → ℕ
  taken = taken_of (one_part channel samples rest ∷ [])

  -- so many were moved
  pub pump_done : (n : ℕ) (grown : List ℕ) → MovedSamples ends ends' channel most area samples rest o old after new n → AreGrown (entries_on channel samples) k.config.channels k.taken grown
      → KeptStepsTaking (taken_of (one_part channel samples rest ∷ [])) k m (Pump channel most) (replies.Moved n) (record k { work = recording chain after; taken = grown }) new now
  pump_done n grown moved grows =
      let f : File = its.file in
      let files : List File = its.front in
      let es : List Entry = entries_on channel samples in
      let lost : List Lane = change_first (is_channel channel) (without n) m.lanes in
      let said = moved.moves k.config chain files f split (end files f split) (area_is files f split) lane.lane lane.id lane.waits in
      let does = pumps_in k.config (record m { failures = now }) f channel lane.lane most n samples rest moved.full after.recording lane.is is_last said moved.some in
      let made : with_last (with_entries (entries_on lane.lane.spec.id samples)) (with_lane channel (without n) (record m { failures = now })) ≡ record m { lanes = lost; files = files ++ with_entries es f ∷ []; failures = now } =
      ap (λ (c : ℕ). with_last (with_entries (entries_on c samples)) (with_lane channel (without n) (record m { failures = now }))) lane.id
      ∙ ap (λ (fs : List File). record m { lanes = lost; files = fs; failures = now }) (ap (λ (fs : List File). change_last (with_entries es) fs) its.is ∙ last_changes (with_entries es) files f) in
      record {
        machine = record m { lanes = lost; files = files ++ with_entries es f ∷ []; failures = now };
        led = led k old new before now m chain o after files f channel most n es grown limits means at its.is its.has.own checked
            (subst (λ (x : Machine). Pumps k.config (record m { failures = now }) channel most n x) made does)
            grows (moved.on.holds k.config chain files f split (end files f split)) more;
        lanes = first_left taken channel n m.lanes (own_taken channel samples rest ∙ sym moved.number) (others_taken channel samples rest) lanes_apart;
        cursors = refl;
        sizes = λ again. subst (λ (fs : List File). NoneShrinks fs (files ++ with_entries es f ∷ [])) (sym its.is) (last_grows files f (with_entries es f) (omega arith));
      }

  -- the first has no room
  full_leads : (f : Full) → Lacks k.config m (Pump channel most) (refusal_of_full f) → new ≡ old → KeptStepsTaking none_taken k m (Pump channel most) (replies.Refused (refusal_of_full f)) k new now
  full_leads lacking.Medium lacks same = medium_full_leads law k old new before now m (Pump channel most) limits means same more checked lacks

  pub pump_full : (f : Full) → samples ≡ [] → IsAskedFor o after → new ≡ old → MovesAny ends channel most area 0 [] rest (Some f) o old after
      → KeptStepsTaking (taken_of (one_part channel samples rest ∷ [])) k m (Pump channel most) (replies.Refused (refusal_of_full f)) (record k { work = recording chain after }) new now
  pump_full f none readied same moves =
      let waits : lane.lane.waiting ≡ [] ++ rest = lane.waits ∙ ap (λ (xs : List Sample). xs ++ rest) none in
      let said = moves k.config chain its.front its.file split (end its.front its.file split) (area_is its.front its.file split) lane.lane lane.id waits in
      leads_readied none_taken (taken_of (one_part channel samples rest ∷ [])) k m (Pump channel most) (replies.Refused (refusal_of_full f)) new now chain o after at readied (none_of channel samples rest none)
      (full_leads f (lacks_first k.config m its.file channel lane.lane most [] rest f after.recording lane.is is_last said) same)

  -- and none was taken from any lane
  pub pump_shown : (f : Full) → samples ≡ [] → IsAskedFor o after → new ≡ old → MovesAny ends channel most area 0 [] rest (Some f) o old after
      → KeptStepsTaking none_taken k m (Pump channel most) (replies.Refused (refusal_of_full f)) (record k { work = recording chain after }) new now
  pump_shown f none readied same moves =
      let leads = pump_full f none readied same moves in
      record { machine = leads.machine; led = leads.led; lanes = left_alike (taken_of (one_part channel samples rest ∷ [])) none_taken m.lanes leads.machine.lanes (λ c. sym (none_of channel samples rest none c)) leads.lanes; cursors = leads.cursors; sizes = leads.sizes }

  has_room_first : IfSome (slice_get (take most (samples ++ rest)) 0) (λ x. o.recording.cost + entry_cost (entry_on channel x) ≤ area) → entry_has_room k.config m (Pump channel most) ≡ true
  has_room_first fits =
      room_at k.config m its.file channel most lane.lane (samples ++ rest) lane.is is_last lane.waits
      (subst (λ (a : ℕ). IfSome (slice_get (take most (samples ++ rest)) 0) (λ x. cost_of its.file + entry_cost (entry_on channel x) ≤ a)) (area_is its.front its.file split)
      (subst (λ (c : ℕ). IfSome (slice_get (take most (samples ++ rest)) 0) (λ x. c + entry_cost (entry_on channel x) ≤ area)) (cost_is its.front its.file split) fits))

  -- memory is refused
  pub pump_lacks : samples ≡ [] → IsAskedFor o after → new ≡ old → IfSome (slice_get (take most rest) 0) (λ x. o.recording.cost + entry_cost (entry_on channel x) ≤ area)
      → KeptStepsTaking (taken_of (one_part channel samples rest ∷ [])) k m (Pump channel most) (replies.Refused OutOfMemory) (record k { work = recording chain after }) new now
  pump_lacks none readied same fits =
      leads_readied none_taken (taken_of (one_part channel samples rest ∷ [])) k m (Pump channel most) (replies.Refused OutOfMemory) new now chain o after at readied (none_of channel samples rest none)
      (memory_leads law k old new before now m (Pump channel most) limits means same more checked refl
      (has_room_first (subst (λ (xs : List Sample). IfSome (slice_get (take most (xs ++ rest)) 0) (λ x. o.recording.cost + entry_cost (entry_on channel x) ≤ area)) (sym none) fits)))

  -- the medium failed
  first_room : (most : ℕ) (xs ys : List Sample) (P : Sample → Type 0) → IsSomeAnd (slice_get xs 0) P → IfSome (slice_get (take most (xs ++ ys)) 0) P
  first_room most [] ys P has = absurd has
  first_room zero (x ∷ xs) ys P has = tt
  first_room (suc most) (x ∷ xs) ys P has = has

  pub pump_failed : length samples ≤ most → Rose before now → IsSomeAnd (slice_get samples 0) (λ x. o.recording.cost + entry_cost (entry_on channel x) ≤ area)
      → ((files : List File) (f : File) → HoldsFiles k.config old chain (Some o) (files ++ f ∷ []) → ends f.entries → MediumSays k.config new (files ++ f ∷ []))
      → KeptStepsTaking (taken_of (one_part channel samples rest ∷ [])) k m (Pump channel most) (replies.Refused Medium) (record k { work = failed }) new now
  pump_failed few rose room says =
      let lost : List Lane = change_first (is_channel channel) (without (length samples)) m.lanes in
      let later : Machine = record m { mode = modes.Failed; lanes = lost; failures = now } in
      record {
        machine = later;
        led = failed_so law k old new before now m later (Pump channel most) limits means more rose checked refl
            (has_room_first (first_room most samples rest (λ x. o.recording.cost + entry_cost (entry_on channel x) ≤ area) room))
            (failed_before k.config (record m { failures = now }) (Pump channel most) lost (pump_fails channel most (length samples) m.lanes few)) means.tick refl
            (subst (λ (fs : List File). MediumSays k.config new fs) (sym its.is) (says its.front its.file split (end its.front its.file split)));
        lanes = first_left taken channel (length samples) m.lanes (own_taken channel samples rest) (others_taken channel samples rest) lanes_apart;
        cursors = refl;
        sizes = λ again. none_shrinks m.files;
      }
