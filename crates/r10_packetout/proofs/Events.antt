-- How many events there are, where entries are taken in.
use Rattle.std.proofs.Common.{◌≡◌, ℕ, ◌+◌, ◌%◌, ◌<◌, Bool, true, false, cond, ◌==◌, List, [], ◌∷◌, ◌++◌, length, find, get_or, set, Option, Some, None, ◌≤◌, refl, sym, ap, ◌∙◌, arith}
use Rattle.std.specs.Prelude.{count_by, IsSomeAnd}
use Rattle.std.proofs.lemmas.Bool.{eqb-true, eq-eqb, false≢true}
use Rattle.std.proofs.lemmas.List.{get_or-set_same, get_or-set_other}
use Rattle.std.proofs.lemmas.List.Elements.{filter-append}
use Rattle.std.proofs.lemmas.List.Sums.{sum_by-append}
use Rattle.r10_body.specs.Content.{Content, setup, time, event, uart, bus, arinc, discrete, message, node, root, report, timed, type_of}
use Rattle.r10_body.specs.Files.{on_channel}
use Rattle.r10_body.specs.Gaps.{IsSoundGap}
use Rattle.r10_body.specs.Messages.{channel_refusal, is_kind}
use Rattle.r10_body.specs.Packets.{Packet, packet_entries, file_entries}
use Rattle.r10_body.specs.Rules.{is_entry_on, is_event_of}
use Rattle.r10_body.specs.declared.entry.Entry.{Entry}
use Rattle.r10_body.specs.declared.entry.Sample.{Sample}
use Rattle.r10_body.specs.declared.message.Kind.{Kind}
use Rattle.r10_body.specs.declared.message.Kind.TheVariants as kinds
use Rattle.r10_body.specs.declared.message.Message.{Message}
use Rattle.r10_body.specs.declared.message.Message.TheVariants as messages
use Rattle.r10_body.proofs.Sums.{same_sum}
use Rattle.r10_body.proofs.Events.{none_of, one_event}
use Rattle.r10_builder.specs.Packing.{entry_on, last_sample_count}
use Rattle.r10_builder.specs.State.{BuilderState}
use Rattle.r10_builder.proofs.Messages.{taken}
use Rattle.r10_builder.specs.Grows.{Grows, all_held, taken_in}
use Rattle.r10_builder.specs.Settings.{BuilderTakes, is_of}
use Rattle.r10_packetout.specs.Carries.{EventsAreCounted, HasNoEvents, occurrences}

-- ---- a packet of another type has none

none_at : (q : ℕ) (p : Packet) (c : Content) → type_of c == 2 ≡ false → count_by (is_event_of q) (packet_entries (record p { content = c })) ≡ 0
none_at q p (setup text) e = refl
none_at q p (time civil) e = refl
none_at q p (event one) e = absurd (let no : true ≡ false = e in cc)
none_at q p (uart es) e = none_of (λ d. timed d.count (messages.Uart d.message)) q p.channel p.gap es (λ d g. refl)
none_at q p (bus es) e = none_of (λ d. timed d.count (messages.Bus1553 d.message)) q p.channel p.gap es (λ d g. refl)
none_at q p (arinc es) e = none_of (λ d. timed d.count (messages.Arinc d.message)) q p.channel p.gap es (λ d g. refl)
none_at q p (discrete bits es) e = none_of (λ d. timed d.count (messages.Discrete d.message)) q p.channel p.gap es (λ d g. refl)
none_at q p (message es) e = none_of (λ d. timed d.count (messages.Message d.message)) q p.channel p.gap es (λ d g. refl)
none_at q p (node es) e = refl
none_at q p (root es) e = refl
none_at q p (report loss) e = refl

pub no_events : (p : Packet) → type_of p.content == 2 ≡ false → HasNoEvents (packet_entries p)
no_events p other = λ q. none_at q p p.content other

-- ---- what was taken in

-- the same entries on each channel have the same events
pub same_events : (xs ys : List Entry) → ((channel : ℕ) → on_channel channel xs ≡ on_channel channel ys) → (q : ℕ) → count_by (is_event_of q) xs ≡ count_by (is_event_of q) ys
same_events xs ys same q = same_sum (λ (e : Entry). cond (is_event_of q e) 1 0) xs ys same

two_parts : (q : ℕ) (xs ys : List Entry) → count_by (is_event_of q) (xs ++ ys) ≡ count_by (is_event_of q) xs + count_by (is_event_of q) ys
two_parts q xs ys = sum_by-append _ xs ys

events_more : (q : ℕ) (packets packets' : List Packet) (builders builders' : List BuilderState) (more : List Entry) → Grows packets builders more packets' builders'
    → count_by (is_event_of q) (taken_in packets' builders') ≡ count_by (is_event_of q) (taken_in packets builders) + count_by (is_event_of q) more
events_more q packets packets' builders builders' more grows =
    same_events (taken_in packets' builders') (taken_in packets builders ++ more) (λ channel. grows channel ∙ sym (filter-append (is_entry_on channel) (taken_in packets builders) more)) q
    ∙ two_parts q (taken_in packets builders) more

-- builders that take in no event hold none, where no packet is written
pub held_joined : (packets : List Packet) (builders builders' : List BuilderState) (more : List Entry) → HasNoEvents (all_held builders) → HasNoEvents more → Grows packets builders more packets builders' → HasNoEvents (all_held builders')
held_joined packets builders builders' more none plain grows = λ q.
    omega (arith, events_more q packets packets builders builders' more grows, two_parts q (file_entries packets) (all_held builders'), two_parts q (file_entries packets) (all_held builders), none q, plain q)

-- nor where packets are written that say no more than one that has none
pub held_closed : (packets now : List Packet) (builders builders' : List BuilderState) (more : List Entry) (p : Packet) → HasNoEvents (all_held builders) → HasNoEvents more → HasNoEvents (packet_entries p)
    → file_entries now ≡ file_entries packets ++ packet_entries p → Grows packets builders more now builders' → HasNoEvents (all_held builders')
held_closed packets now builders builders' more p none plain off says grows = λ q.
    let files : count_by (is_event_of q) (file_entries now) ≡ count_by (is_event_of q) (file_entries packets) + count_by (is_event_of q) (packet_entries p) =
    ap (λ (es : List Entry). count_by (is_event_of q) es) says ∙ two_parts q (file_entries packets) (packet_entries p) in
    omega (
      arith,
      events_more q packets now builders builders' more grows,
      two_parts q (file_entries now) (all_held builders'),
      two_parts q (file_entries packets) (all_held builders),
      files,
      none q,
      plain q,
      off q,
    )

-- ---- what is counted

pub counted_on : (counts : List ℕ) (entries more : List Entry) → EventsAreCounted counts entries → HasNoEvents more → EventsAreCounted counts (entries ++ more)
counted_on counts entries more are none = λ q. are q ∙ ap (λ n. n % 65536) (let same : count_by (is_event_of q) entries ≡ count_by (is_event_of q) (entries ++ more) = omega (arith, two_parts q entries more, none q) in same)

counted_at : (counts : List ℕ) (entries : List Entry) (number q : ℕ) (e : Entry) (b : Bool) → number == q ≡ b → is_event_of q e ≡ b → number < length counts → EventsAreCounted counts entries
    → get_or (set counts number ((get_or counts number 0 + 1) % 65536)) q 0 ≡ occurrences q (entries ++ e ∷ [])
counted_at counts entries number q e true on is lt are =
    let same : number ≡ q = eqb-true number q on in
    let now : get_or (set counts number ((get_or counts number 0 + 1) % 65536)) number 0 ≡ (get_or counts number 0 + 1) % 65536 = get_or-set_same counts number ((get_or counts number 0 + 1) % 65536) 0 lt in
    let had : get_or counts number 0 ≡ count_by (is_event_of q) entries % 65536 = are number ∙ ap (λ n. occurrences n entries) same in
    let has : count_by (is_event_of q) (entries ++ e ∷ []) ≡ count_by (is_event_of q) entries + 1 = omega (arith, two_parts q entries (e ∷ []), one_event q e true is) in
    ap (λ n. get_or (set counts number ((get_or counts number 0 + 1) % 65536)) n 0) (sym same) ∙ now
    ∙ (let next : (get_or counts number 0 + 1) % 65536 ≡ (count_by (is_event_of q) entries + 1) % 65536 = omega (arith, had) in next) ∙ ap (λ n. n % 65536) (sym has)
counted_at counts entries number q e false off is lt are =
    let other : get_or (set counts number ((get_or counts number 0 + 1) % 65536)) q 0 ≡ get_or counts q 0 =
    get_or-set_other counts number q ((get_or counts number 0 + 1) % 65536) 0 (λ same. absurd (let no : true ≡ false = sym (eq-eqb number q (sym same)) ∙ off in cc)) in
    let has : count_by (is_event_of q) (entries ++ e ∷ []) ≡ count_by (is_event_of q) entries = omega (arith, two_parts q entries (e ∷ []), one_event q e false is) in
    other ∙ are q ∙ ap (λ n. n % 65536) (sym has)

-- one event more of its number
pub counted_more : (counts : List ℕ) (entries : List Entry) (number : ℕ) (e : Entry) → ((q : ℕ) → is_event_of q e ≡ (number == q)) → number < length counts → EventsAreCounted counts entries
    → EventsAreCounted (set counts number ((get_or counts number 0 + 1) % 65536)) (entries ++ e ∷ [])
counted_more counts entries number e is lt are = λ q. counted_at counts entries number q e (number == q) refl (is q) lt are

-- the events are in packets alone
pub in_packets : (packets : List Packet) (builders : List BuilderState) (entries : List Entry) (q : ℕ) → ((channel : ℕ) → on_channel channel (taken_in packets builders) ≡ on_channel channel entries) → HasNoEvents (all_held builders)
    → count_by (is_event_of q) (file_entries packets) ≡ count_by (is_event_of q) entries
in_packets packets builders entries q same none = omega (arith, same_events (taken_in packets builders) entries same q, two_parts q (file_entries packets) (all_held builders), none q)

-- ---- a sample that its channel takes is none

plain_at : (kind : Kind) (q : ℕ) (e : Entry) (m : Message) → e.message ≡ m → is_kind kind m ≡ true → count_by (is_event_of q) (e ∷ []) ≡ 0
plain_at kind q e (messages.Uart m) same is = rw same refl
plain_at kind q e (messages.Bus1553 m) same is = rw same refl
plain_at kind q e (messages.Arinc m) same is = rw same refl
plain_at kind q e (messages.Discrete m) same is = rw same refl
plain_at kind q e (messages.Message m) same is = rw same refl
plain_at kind q e (messages.Time civil) same is = rw same refl
plain_at kinds.Uart q e (messages.Event n o) same is = absurd (false≢true is)
plain_at kinds.Bus1553 q e (messages.Event n o) same is = absurd (false≢true is)
plain_at kinds.Arinc q e (messages.Event n o) same is = absurd (false≢true is)
plain_at kinds.Discrete q e (messages.Event n o) same is = absurd (false≢true is)
plain_at kinds.Message q e (messages.Event n o) same is = absurd (false≢true is)

found_plain : (channel : ℕ) (s : Sample) (builder : Option BuilderState) → IsSomeAnd builder (λ b. (channel_refusal b.spec s.message ≡ None) × (last_sample_count 0 b.samples ≤ s.count) × IsSoundGap s.gap) → HasNoEvents (entry_on channel s ∷ [])
found_plain channel s None takes = absurd takes
found_plain channel s (Some b) takes = λ q. plain_at b.spec.kind q (entry_on channel s) s.message refl (taken b.spec s.message takes.0).kind

pub sample_plain : (channel : ℕ) (s : Sample) (builders : List BuilderState) → BuilderTakes channel s builders → HasNoEvents (entry_on channel s ∷ [])
sample_plain channel s builders takes = found_plain channel s (find (is_of channel) builders) takes
