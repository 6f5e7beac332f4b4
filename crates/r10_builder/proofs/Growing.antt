-- What packets and builders say together, where one of them changes.
use Rattle.std.proofs.Common.{◌≡◌, ℕ, zero, suc, ◌+◌, ◌<◌, Bool, true, false, ◌==◌, List, [], ◌∷◌, ◌++◌, length, map, get_or, set, refl, sym, ap, subst, ◌∙◌, arith, append_assoc}
use Rattle.std.specs.Prelude.{count_by, cond}
use Rattle.std.specs.List.{AllByRecursion, sum_by}
use Rattle.std.proofs.lemmas.Bool.{eqb-true, eq-eqb, ne_eqb}
use Rattle.std.proofs.lemmas.List.{append-nil}
use Rattle.std.proofs.lemmas.List.Elements.{filter-append}
use Rattle.std.proofs.lemmas.List.Sums.{sum_by-append, sum_by-set}
use Rattle.r10_body.specs.Cost.{entry_cost, file_cost}
use Rattle.r10_body.specs.Files.{on_channel}
use Rattle.r10_body.specs.Packets.{Packet, packet_entries, file_entries}
use Rattle.r10_body.specs.Rules.{is_entry_on}
use Rattle.r10_body.specs.declared.entry.Entry.{Entry}
use Rattle.r10_body.specs.declared.entry.Sample.{Sample}
use Rattle.r10_body.proofs.ChannelLists.{channel_more, packet_off_channel}
use Rattle.r10_body.proofs.Sums.{same_sum}
use Rattle.r10_builder.specs.Packing.{entry_on}
use Rattle.r10_builder.specs.State.{BuilderState}
use Rattle.r10_builder.specs.Grows.{BuildersAreApart, Grows, HasNoneOf, all_held, held, is_open_builder, taken_in}
use Rattle.r10_builder.proofs.Places.{not_first}

-- ---- samples of a channel

pub all_on : (channel : ℕ) (samples : List Sample) → on_channel channel (map (entry_on channel) samples) ≡ map (entry_on channel) samples
all_on channel [] = refl
all_on channel (s ∷ samples) = rw (eq-eqb channel channel refl) (ap (λ es. entry_on channel s ∷ es) (all_on channel samples))

none_on : (channel other : ℕ) (samples : List Sample) → other == channel ≡ false → on_channel channel (map (entry_on other) samples) ≡ []
none_on channel other [] off = refl
none_on channel other (s ∷ samples) off = rw off (none_on channel other samples off)

two_of : {A B : Type 0} (f : A → B) (xs ys : List A) → map f (xs ++ ys) ≡ map f xs ++ map f ys
two_of f [] ys = refl
two_of f (x ∷ xs) ys = ap (λ t. f x ∷ t) (two_of f xs ys)

-- ---- builders

pub split : (channel : ℕ) (b : BuilderState) (builders : List BuilderState) → on_channel channel (all_held (b ∷ builders)) ≡ on_channel channel (held b) ++ on_channel channel (all_held builders)
split channel b builders = filter-append (is_entry_on channel) (held b) (all_held builders)

pub none_held : (builders : List BuilderState) (channel : ℕ) → HasNoneOf channel builders → on_channel channel (all_held builders) ≡ []
none_held [] channel none = refl
none_held (b ∷ builders) channel none =
    split channel b builders
    ∙ ap (λ (es : List Entry). es ++ on_channel channel (all_held builders)) (none_on channel b.spec.id b.samples (ne_eqb b.spec.id channel none.0))
    ∙ none_held builders channel none.1

pub one_held : (builders : List BuilderState) (i : ℕ) (d : BuilderState) → i < length builders → BuildersAreApart builders → on_channel (get_or builders i d).spec.id (all_held builders) ≡ held (get_or builders i d)
one_held [] i d lt apart = absurd (omega arith)
one_held (b ∷ builders) zero d lt apart =
    split b.spec.id b builders
    ∙ ap (λ (es : List Entry). es ++ on_channel b.spec.id (all_held builders)) (all_on b.spec.id b.samples)
    ∙ ap (λ (es : List Entry). held b ++ es) (none_held builders b.spec.id apart.0) ∙ append-nil (held b)
one_held (b ∷ builders) (suc i) d lt apart =
    let here : ℕ = (get_or builders i d).spec.id in
    let off : b.spec.id == here ≡ false = ne_eqb b.spec.id here (λ e. not_first b d builders i (omega arith) apart.0 (sym e)) in
    split here b builders
    ∙ ap (λ (es : List Entry). es ++ on_channel here (all_held builders)) (none_on here b.spec.id b.samples off)
    ∙ one_held builders i d (omega arith) apart.1

-- the others' channels stay where one changes
others_held : (channel : ℕ) (builders : List BuilderState) (i : ℕ) (d new : BuilderState) → i < length builders → new.spec ≡ (get_or builders i d).spec → new.spec.id == channel ≡ false
    → on_channel channel (all_held (set builders i new)) ≡ on_channel channel (all_held builders)
others_held channel [] i d new lt same off = absurd (omega arith)
others_held channel (b ∷ builders) zero d new lt same off =
    let was : b.spec.id == channel ≡ false = ap (λ s. s.id == channel) (sym same) ∙ off in
    split channel new builders ∙ ap (λ (es : List Entry). es ++ on_channel channel (all_held builders)) (none_on channel new.spec.id new.samples off)
    ∙ sym (split channel b builders ∙ ap (λ (es : List Entry). es ++ on_channel channel (all_held builders)) (none_on channel b.spec.id b.samples was))
others_held channel (b ∷ builders) (suc i) d new lt same off =
    split channel b (set builders i new)
    ∙ ap (λ (es : List Entry). on_channel channel (held b) ++ es) (others_held channel builders i d new (omega arith) same off)
    ∙ sym (split channel b builders)

apart_from : (b d new : BuilderState) (builders : List BuilderState) (i : ℕ) → i < length builders → new.spec ≡ (get_or builders i d).spec → AllByRecursion (λ (c : BuilderState). c.spec.id ≡ b.spec.id → ⊥) builders
    → AllByRecursion (λ (c : BuilderState). c.spec.id ≡ b.spec.id → ⊥) (set builders i new)
apart_from b d new [] i lt same all = absurd (omega arith)
apart_from b d new (c ∷ builders) zero lt same all = (λ e. all.0 (ap (λ s. s.id) (sym same) ∙ e), all.1)
apart_from b d new (c ∷ builders) (suc i) lt same all = (all.0, apart_from b d new builders i (omega arith) same all.1)

same_apart : (b new : BuilderState) (builders : List BuilderState) → new.spec ≡ b.spec → AllByRecursion (λ (c : BuilderState). c.spec.id ≡ b.spec.id → ⊥) builders → AllByRecursion (λ (c : BuilderState). c.spec.id ≡ new.spec.id → ⊥) builders
same_apart b new builders same all = rw same all

pub still_apart : (builders : List BuilderState) (i : ℕ) (d new : BuilderState) → i < length builders → BuildersAreApart builders → new.spec ≡ (get_or builders i d).spec → BuildersAreApart (set builders i new)
still_apart [] i d new lt apart same = absurd (omega arith)
still_apart (b ∷ builders) zero d new lt apart same = (same_apart b new builders same apart.0, apart.1)
still_apart (b ∷ builders) (suc i) d new lt apart same = (apart_from b d new builders i (omega arith) same apart.0, still_apart builders i d new (omega arith) apart.1 same)

-- of the new list the changed one is what it holds
now_held : (builders : List BuilderState) (i : ℕ) (d new : BuilderState) → i < length builders → BuildersAreApart builders → new.spec ≡ (get_or builders i d).spec → on_channel new.spec.id (all_held (set builders i new)) ≡ held new
now_held [] i d new lt apart same = absurd (omega arith)
now_held (b ∷ builders) zero d new lt apart same = one_held (new ∷ builders) 0 d (omega arith) (same_apart b new builders same apart.0, apart.1)
now_held (b ∷ builders) (suc i) d new lt apart same =
    let other : new.spec.id ≡ b.spec.id → ⊥ = λ e. not_first b d builders i (omega arith) apart.0 (ap (λ s. s.id) (sym same) ∙ e) in
    split new.spec.id b (set builders i new)
    ∙ ap (λ (es : List Entry). es ++ on_channel new.spec.id (all_held (set builders i new))) (none_on new.spec.id b.spec.id b.samples (ne_eqb b.spec.id new.spec.id (λ e. other (sym e))))
    ∙ now_held builders i d new (omega arith) apart.1 same

-- ---- a builder changes, and what it no longer holds stands in packets

-- entries in packets, then those that builders hold
pub both : (channel : ℕ) (packets : List Packet) (builders : List BuilderState) → on_channel channel (taken_in packets builders) ≡ on_channel channel (file_entries packets) ++ on_channel channel (all_held builders)
both channel packets builders = filter-append (is_entry_on channel) (file_entries packets) (all_held builders)

moved_at : (packets packets' : List Packet) (builders : List BuilderState) (i : ℕ) (d new : BuilderState) (more written : List Sample) (channel : ℕ) (b : Bool) → new.spec.id == channel ≡ b
    → i < length builders → BuildersAreApart builders → new.spec ≡ (get_or builders i d).spec → written ++ new.samples ≡ (get_or builders i d).samples ++ more
    → on_channel channel (file_entries packets') ≡ on_channel channel (file_entries packets) ++ on_channel channel (map (entry_on new.spec.id) written)
    → on_channel channel (taken_in packets' (set builders i new)) ≡ on_channel channel (taken_in packets builders) ++ on_channel channel (map (entry_on new.spec.id) more)
moved_at packets packets' builders i d new more written channel true on lt apart same samples files =
    let id : ℕ = new.spec.id in
    let is : id ≡ channel = eqb-true id channel on in
    let old : BuilderState = get_or builders i d in
    let ids : id ≡ old.spec.id = ap (λ s. s.id) same in
    let had : on_channel id (all_held builders) ≡ map (entry_on id) old.samples = subst (λ (n : ℕ). on_channel n (all_held builders) ≡ map (entry_on n) old.samples) (sym ids) (one_held builders i d lt apart) in
    let has : on_channel id (all_held (set builders i new)) ≡ map (entry_on id) new.samples = now_held builders i d new lt apart same in
    let before : List Entry = on_channel id (file_entries packets) in
    let here : on_channel id (file_entries packets') ≡ before ++ map (entry_on id) written =
    subst (λ (n : ℕ). on_channel n (file_entries packets') ≡ on_channel n (file_entries packets) ++ on_channel n (map (entry_on id) written)) (sym is) files ∙ ap (λ (es : List Entry). before ++ es) (all_on id written) in
    let seam : map (entry_on id) written ++ map (entry_on id) new.samples ≡ map (entry_on id) old.samples ++ map (entry_on id) more =
    sym (two_of (entry_on id) written new.samples) ∙ ap (map (entry_on id)) samples ∙ two_of (entry_on id) old.samples more in
    subst (λ (n : ℕ). on_channel n (taken_in packets' (set builders i new)) ≡ on_channel n (taken_in packets builders) ++ on_channel n (map (entry_on id) more)) is
    (both id packets' (set builders i new)
    ∙ ap (λ (es : List Entry). es ++ on_channel id (all_held (set builders i new))) here
    ∙ ap (λ (es : List Entry). (before ++ map (entry_on id) written) ++ es) has
    ∙ append_assoc before (map (entry_on id) written) (map (entry_on id) new.samples)
    ∙ ap (λ (es : List Entry). before ++ es) seam
    ∙ sym (append_assoc before (map (entry_on id) old.samples) (map (entry_on id) more))
    ∙ ap (λ (es : List Entry). (before ++ es) ++ map (entry_on id) more) (sym had)
    ∙ ap (λ (es : List Entry). es ++ map (entry_on id) more) (sym (both id packets builders))
    ∙ ap (λ (es : List Entry). on_channel id (taken_in packets builders) ++ es) (sym (all_on id more)))
moved_at packets packets' builders i d new more written channel false off lt apart same samples files =
    let id : ℕ = new.spec.id in
    let before : List Entry = on_channel channel (file_entries packets) in
    let here : on_channel channel (file_entries packets') ≡ before = files ∙ ap (λ (es : List Entry). before ++ es) (none_on channel id written off) ∙ append-nil before in
    both channel packets' (set builders i new)
    ∙ ap (λ (es : List Entry). es ++ on_channel channel (all_held (set builders i new))) here
    ∙ ap (λ (es : List Entry). before ++ es) (others_held channel builders i d new lt same off)
    ∙ sym (both channel packets builders)
    ∙ sym (append-nil (on_channel channel (taken_in packets builders)))
    ∙ ap (λ (es : List Entry). on_channel channel (taken_in packets builders) ++ es) (sym (none_on channel id more off))

pub joins : (packets : List Packet) (builders : List BuilderState) (i : ℕ) (d new : BuilderState) (more : List Sample)
    → i < length builders → BuildersAreApart builders → new.spec ≡ (get_or builders i d).spec → new.samples ≡ (get_or builders i d).samples ++ more
    → Grows packets builders (map (entry_on new.spec.id) more) packets (set builders i new)
joins packets builders i d new more lt apart same samples = λ channel.
    moved_at packets packets builders i d new more [] channel (new.spec.id == channel) refl lt apart same samples (sym (append-nil (on_channel channel (file_entries packets))))

pub closes : (packets : List Packet) (builders : List BuilderState) (i : ℕ) (d new : BuilderState) (more : List Sample) (p : Packet) (written : List Sample)
    → i < length builders → BuildersAreApart builders → new.spec ≡ (get_or builders i d).spec → written ++ new.samples ≡ (get_or builders i d).samples ++ more
    → packet_entries p ≡ map (entry_on new.spec.id) written → Grows packets builders (map (entry_on new.spec.id) more) (packets ++ p ∷ []) (set builders i new)
closes packets builders i d new more p written lt apart same samples says = λ channel.
    moved_at packets (packets ++ p ∷ []) builders i d new more written channel (new.spec.id == channel) refl lt apart same samples
    (channel_more channel packets p ∙ ap (λ (es : List Entry). on_channel channel (file_entries packets) ++ on_channel channel es) says)

-- ---- a packet of another channel

between_at : (packets : List Packet) (builders : List BuilderState) (p : Packet) (channel : ℕ) (b : Bool) → p.channel == channel ≡ b → HasNoneOf p.channel builders
    → on_channel channel (taken_in (packets ++ p ∷ []) builders) ≡ on_channel channel (taken_in packets builders) ++ on_channel channel (packet_entries p)
between_at packets builders p channel true on none =
    let is : p.channel ≡ channel = eqb-true p.channel channel on in
    let nothing : on_channel channel (all_held builders) ≡ [] = subst (λ (n : ℕ). on_channel n (all_held builders) ≡ []) is (none_held builders p.channel none) in
    let before : List Entry = on_channel channel (file_entries packets) in
    both channel (packets ++ p ∷ []) builders
    ∙ ap (λ (es : List Entry). es ++ on_channel channel (all_held builders)) (channel_more channel packets p)
    ∙ ap (λ (es : List Entry). (before ++ on_channel channel (packet_entries p)) ++ es) nothing
    ∙ append-nil (before ++ on_channel channel (packet_entries p))
    ∙ ap (λ (es : List Entry). es ++ on_channel channel (packet_entries p)) (sym (both channel packets builders ∙ ap (λ (es : List Entry). before ++ es) nothing ∙ append-nil before))
between_at packets builders p channel false off none =
    let before : List Entry = on_channel channel (file_entries packets) in
    let gone : on_channel channel (packet_entries p) ≡ [] = packet_off_channel channel p off in
    both channel (packets ++ p ∷ []) builders
    ∙ ap (λ (es : List Entry). es ++ on_channel channel (all_held builders)) (channel_more channel packets p ∙ ap (λ (es : List Entry). before ++ es) gone ∙ append-nil before)
    ∙ sym (both channel packets builders)
    ∙ sym (append-nil (on_channel channel (taken_in packets builders)))
    ∙ ap (λ (es : List Entry). on_channel channel (taken_in packets builders) ++ es) (sym gone)

pub between : (packets : List Packet) (builders : List BuilderState) (p : Packet) → HasNoneOf p.channel builders → Grows packets builders (packet_entries p) (packets ++ p ∷ []) builders
between packets builders p none = λ channel. between_at packets builders p channel (p.channel == channel) refl none

-- ---- one after the other

pub goes_on : (a : List Packet) (b : List BuilderState) (more : List Entry) (c : List Packet) (d : List BuilderState) (most : List Entry) (e : List Packet) (f : List BuilderState)
    → Grows a b more c d → Grows c d most e f → Grows a b (more ++ most) e f
goes_on a b more c d most e f first second = λ channel.
    second channel ∙ ap (λ (es : List Entry). es ++ on_channel channel most) (first channel)
    ∙ append_assoc (on_channel channel (taken_in a b)) (on_channel channel more) (on_channel channel most)
    ∙ ap (λ (es : List Entry). on_channel channel (taken_in a b) ++ es) (sym (filter-append (is_entry_on channel) more most))

pub same_cost : (a : List Packet) (b : List BuilderState) (entries : List Entry) → ((channel : ℕ) → on_channel channel (taken_in a b) ≡ on_channel channel entries)
    → (text : List ℕ) → file_cost text (taken_in a b) ≡ file_cost text entries
same_cost a b entries same text = ap (λ n. 152 + length text + n) (same_sum entry_cost (taken_in a b) entries same)

pub cost_more : (text : List ℕ) (a : List Packet) (b : List BuilderState) (more : List Entry) (c : List Packet) (d : List BuilderState)
    → Grows a b more c d → file_cost text (taken_in c d) ≡ file_cost text (taken_in a b) + sum_by entry_cost more
cost_more text a b more c d grows =
    let all : List Entry = taken_in a b ++ more in
    let same : file_cost text (taken_in c d) ≡ file_cost text all = same_cost c d all (λ channel. grows channel ∙ sym (filter-append (is_entry_on channel) (taken_in a b) more)) text in
    omega (arith, same, sum_by-append entry_cost (taken_in a b) more)

-- ---- how many are open

pub one_changed : (builders : List BuilderState) (i : ℕ) (d new : BuilderState) → i < length builders
    → count_by is_open_builder (set builders i new) + count_by is_open_builder (get_or builders i d ∷ []) ≡ count_by is_open_builder builders + count_by is_open_builder (new ∷ [])
one_changed builders i d new lt = omega (arith, sum_by-set (λ (b : BuilderState). cond (is_open_builder b) 1 0) builders i new d lt)
