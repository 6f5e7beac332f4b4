-- Under its directory entry a file is at fault first at one place and in one way, and then it is no strict file with that closing.
use Rattle.std.proofs.Common.{◌≡◌, ℕ, ◌<◌, ◌≤◌, ◌⊎◌, inl, inr, Bool, false, Option, None, IfSome, List, [], ◌∷◌, ◌++◌, length, count_by, refl, sym, ap, ◌∙◌, subst, arith, append_assoc, true≢false}
use Rattle.std.proofs.lemmas.List.{append-nil, length-append, length-take}
use Rattle.r10_packet.specs.Framing.{header_at}
use Rattle.r10_indexbody.specs.declared.loss.LossBody.{LossBody}
use Rattle.r10_body.proofs.Lone.{packet-length}
use Rattle.r10_body.specs.Foreign.{IsForeignPacket}
use Rattle.r10_body.specs.Packets.{Packet, packet_bytes, file_bytes}
use Rattle.r10_body.specs.Rules.{EachFollows, EndsIndex, MayFollow, is_index, is_closed_file, last_report, report_from, report_of}
use Rattle.r10_body.specs.Faults.{HasFault, IsFollowedByFlagged, ReadsPacket, BreaksRule, IsWrongHere, IsAtFault, first_packet}
use Rattle.r10_body.specs.Faults as broken_rules
use Rattle.r10_body.specs.declared.fault.FileFault.{FileFault}
use Rattle.r10_body.specs.declared.fault.FileFault.TheVariants.{Rule}
use Rattle.r10_packet_rules.proofs.Faults.{one_fault, apart}
use Rattle.r10_packet_rules.proofs.Fronts.{first_joined}
use Rattle.r10_packet_rules.proofs.OneWayApart.{packet_long, first_again}
use Rattle.r10_packet_rules.proofs.Written.{packet_foreign}
use Rattle.r10_body.proofs.Indexes.{none_at, not_closed, not_whole, part_of}
use Rattle.r10_body.proofs.Injective.{one_follower}
use Rattle.r10_body.proofs.Lists.{same_behind}
use Rattle.r10_judge.specs.Judged.{SaysClosed}
use Rattle.r10_judge.proofs.Answering.{answered_behind, no_report, reads_behind}
use Rattle.r10_judge.proofs.Judging.{behind, keeps_all}

-- ---- what stands after packets that keep the rules

-- another packet that keeps them stands first there
pub record GoesOnWith (closed : Bool) (before : List Packet) (rest : List ℕ) : Type 0 where
  pub packet : Packet
  pub more : List ℕ
  pub may : MayFollow before packet
  pub unclosed : closed ≡ false → is_index packet ≡ false
  pub first : rest ≡ packet_bytes packet ++ more
  pub answered : IfSome (report_of packet) (λ loss. IsFollowedByFlagged loss more)

no_bytes : (closed : Bool) (before : List Packet) (rest : List ℕ) → GoesOnWith closed before rest → length rest ≡ 0 → ⊥
no_bytes closed before rest on none = omega (arith, none, ap length on.first, length-append (packet_bytes on.packet) on.more, packet-length on.packet)

its_reading : (closed : Bool) (before : List Packet) (rest : List ℕ) (on : GoesOnWith closed before rest) → ReadsPacket rest on.packet
its_reading closed before rest on =
    (on.may.fits, on.may.checksums, ap first_packet on.first ∙ first_again (packet_bytes on.packet) on.more (packet_foreign on.packet on.may.fits))

its_answer : (closed : Bool) (before : List Packet) (rest : List ℕ) (on : GoesOnWith closed before rest) → IfSome (report_of on.packet) (λ loss. IsFollowedByFlagged loss (behind rest))
its_answer closed before rest on =
    let there : behind rest ≡ on.more = ap behind on.first ∙ reads_behind (packet_bytes on.packet) on.more (packet_foreign on.packet on.may.fits) in
    subst (λ (l : List ℕ). IfSome (report_of on.packet) (λ loss. IsFollowedByFlagged loss l)) (sym there) on.answered

-- then nothing is wrong there
nothing_wrong : (closed : Bool) (before : List Packet) (rest : List ℕ) (fault : FileFault) → GoesOnWith closed before rest → IsWrongHere before rest closed fault → ⊥
nothing_wrong closed before rest fault on (broken_rules.packet some has) =
    apart (packet_bytes on.packet) on.more fault (packet_foreign on.packet on.may.fits) (subst (λ (b : List ℕ). HasFault b fault) on.first has)
nothing_wrong closed before rest (Rule n) on (broken_rules.rule foreign broken least) =
    keeps_all closed before rest on.packet n (its_reading closed before rest on) on.may on.unclosed (its_answer closed before rest on) broken
nothing_wrong closed before rest fault on (broken_rules.no_time none one) = no_bytes closed before rest on none
nothing_wrong closed before rest fault on (broken_rules.no_index none some shut open_end) = no_bytes closed before rest on none

-- ---- two lists of packets at the front of the same bytes

-- they are the same, or one of them goes on
data Meets (closed : Bool) (ps qs : List Packet) (r s : List ℕ) : Type 0 where
  same : ps ≡ qs → r ≡ s → Meets closed ps qs r s
  left_on : GoesOnWith closed qs s → Meets closed ps qs r s
  right_on : GoesOnWith closed ps r → Meets closed ps qs r s

goes_on_with : (closed : Bool) (before qs : List Packet) (q : Packet) (r s : List ℕ) → EachFollows before (q ∷ qs) → (closed ≡ false → count_by is_index (q ∷ qs) ≡ 0) → IfSome (report_from (report_of q) qs) (λ loss. IsFollowedByFlagged loss s) → r ≡ (packet_bytes q ++ file_bytes qs) ++ s
    → GoesOnWith closed (before ++ []) r
goes_on_with closed before qs q r s each unclosed last is = record {
  packet = q;
  more = file_bytes qs ++ s;
  may = subst (λ (b : List Packet). MayFollow b q) (sym (append-nil before)) each.0;
  unclosed = λ open_file. (none_at q qs (part_of q) (unclosed open_file)).0;
  first = is ∙ append_assoc (packet_bytes q) (file_bytes qs) s;
  answered = answered_behind before qs q s each.1 last;
}

meets : (closed : Bool) (o w : Option LossBody) (before ps qs : List Packet) (r s : List ℕ) → EachFollows before ps → EachFollows before qs → (closed ≡ false → count_by is_index ps ≡ 0) → (closed ≡ false → count_by is_index qs ≡ 0)
    → IfSome (report_from o ps) (λ loss. IsFollowedByFlagged loss r) → IfSome (report_from w qs) (λ loss. IsFollowedByFlagged loss s)
    → file_bytes ps ++ r ≡ file_bytes qs ++ s → Meets closed (before ++ ps) (before ++ qs) r s
meets closed o w before [] [] r s f g u v a b e = same refl e
meets closed o w before [] (q ∷ qs) r s f g u v a b e = right_on (goes_on_with closed before qs q r s g v b e)
meets closed o w before (p ∷ ps) [] r s f g u v a b e = left_on (goes_on_with closed before ps p s r f u a (sym e))
meets closed o w before (p ∷ ps) (q ∷ qs) r s f g u v a b e =
    let spread : packet_bytes p ++ (file_bytes ps ++ r) ≡ packet_bytes q ++ (file_bytes qs ++ s) = sym (append_assoc (packet_bytes p) (file_bytes ps) r) ∙ e ∙ append_assoc (packet_bytes q) (file_bytes qs) s in
    let is : p ≡ q = one_follower before p q (file_bytes ps ++ r) (file_bytes qs ++ s) f.0 g.0 spread in
    let left : file_bytes ps ++ r ≡ file_bytes qs ++ s = same_behind (packet_bytes p) (packet_bytes q) (file_bytes ps ++ r) (file_bytes qs ++ s) (ap packet_bytes is) spread in
    let each : EachFollows (before ++ p ∷ []) qs = subst (λ (x : Packet). EachFollows (before ++ x ∷ []) qs) (sym is) g.1 in
    let on : Meets closed ((before ++ p ∷ []) ++ ps) ((before ++ p ∷ []) ++ qs) r s =
    meets closed (report_of p) (report_of q) (before ++ p ∷ []) ps qs r s f.1 each (λ o. (none_at p ps (part_of p) (u o)).3) (λ o. (none_at q qs (part_of q) (v o)).3) a b left in
    let front : (before ++ p ∷ []) ++ ps ≡ before ++ p ∷ ps = append_assoc before (p ∷ []) ps in
    let other : (before ++ p ∷ []) ++ qs ≡ before ++ q ∷ qs = append_assoc before (p ∷ []) qs ∙ ap (λ (x : Packet). before ++ x ∷ qs) is in
    subst (λ (b : List Packet). Meets closed b (before ++ q ∷ qs) r s) front (subst (λ (b : List Packet). Meets closed ((before ++ p ∷ []) ++ ps) b r s) other on)

-- ---- one place

same_place : (bytes : List ℕ) (closed : Bool) (offset : ℕ) (fault : FileFault) (place : ℕ) (other : FileFault) (x : IsAtFault bytes closed offset fault) (y : IsAtFault bytes closed place other)
    → (x.packets ≡ y.packets) × (x.rest ≡ y.rest)
same_place bytes closed offset fault place other x y =
    elim (meets closed None None [] x.packets y.packets x.rest y.rest x.strict y.strict x.unclosed y.unclosed x.answered y.answered (sym x.bytes_are ∙ y.bytes_are)) [
      | same ps rs ↦ (ps, rs)
      | left_on on ↦ absurd (nothing_wrong closed y.packets y.rest other on y.wrong)
      | right_on on ↦ absurd (nothing_wrong closed x.packets x.rest fault on x.wrong)
    ]

pub one_offset : (bytes : List ℕ) (closed : Bool) (offset : ℕ) (fault : FileFault) (place : ℕ) (other : FileFault) → IsAtFault bytes closed offset fault → IsAtFault bytes closed place other → offset ≡ place
one_offset bytes closed offset fault place other x y =
    x.offset_is ∙ ap (λ (ps : List Packet). length (file_bytes ps)) (same_place bytes closed offset fault place other x y).0 ∙ sym y.offset_is

-- ---- one fault

-- a packet of any recorder has bytes
not_empty : (rest : List ℕ) → IsForeignPacket (first_packet rest) → length rest ≡ 0 → ⊥
not_empty rest foreign none = omega (arith, none, packet_long (first_packet rest) foreign, length-take (header_at rest).packet_len rest)

-- and no fault of framing, data checksum or body
no_fault : (rest : List ℕ) (fault : FileFault) → IsForeignPacket (first_packet rest) → HasFault rest fault → ⊥
no_fault rest fault foreign has = apart (first_packet rest) _ fault foreign (subst (λ (b : List ℕ). HasFault b fault) (sym (first_joined rest)) has)

some_there : (before : List Packet) (rest : List ℕ) → (0 < length rest) ⊎ (length before ≡ 0) → length rest ≡ 0 → 1 ≤ length before → ⊥
some_there before rest (inl some) none packets = omega (arith, some, none)
some_there before rest (inr first) none packets = omega (arith, first, packets)

same_rule : (m n : ℕ) → m ≤ n → n ≤ m → Rule m ≡ Rule n
same_rule m n less more = let is : m ≡ n = omega (arith, less, more) in ap Rule is

one_wrong : (before : List Packet) (rest : List ℕ) (closed : Bool) (f g : FileFault) → IsWrongHere before rest closed f → IsWrongHere before rest closed g → f ≡ g
one_wrong before rest closed f g (broken_rules.packet some has) (broken_rules.packet more too) = one_fault rest f g has too
one_wrong before rest closed f g (broken_rules.packet some has) (broken_rules.rule foreign broken least) = absurd (no_fault rest f foreign has)
one_wrong before rest closed f g (broken_rules.packet some has) (broken_rules.no_time none one) = absurd (some_there before rest some none (omega (arith, one)))
one_wrong before rest closed f g (broken_rules.packet some has) (broken_rules.no_index none two shut open_end) = absurd (some_there before rest some none (omega (arith, two)))
one_wrong before rest closed f g (broken_rules.rule foreign broken least) (broken_rules.packet some has) = absurd (no_fault rest g foreign has)
one_wrong before rest closed (Rule m) (Rule n) (broken_rules.rule foreign broken least) (broken_rules.rule too other first) = same_rule m n (least n other) (first m broken)
one_wrong before rest closed f g (broken_rules.rule foreign broken least) (broken_rules.no_time none one) = absurd (not_empty rest foreign none)
one_wrong before rest closed f g (broken_rules.rule foreign broken least) (broken_rules.no_index none two shut open_end) = absurd (not_empty rest foreign none)
one_wrong before rest closed f g (broken_rules.no_time none one) (broken_rules.packet some has) = absurd (some_there before rest some none (omega (arith, one)))
one_wrong before rest closed f g (broken_rules.no_time none one) (broken_rules.rule foreign broken least) = absurd (not_empty rest foreign none)
one_wrong before rest closed f g (broken_rules.no_time none one) (broken_rules.no_time too other) = refl
one_wrong before rest closed f g (broken_rules.no_time none one) (broken_rules.no_index too two shut open_end) = absurd (omega (arith, one, two))
one_wrong before rest closed f g (broken_rules.no_index none two shut open_end) (broken_rules.packet some has) = absurd (some_there before rest some none (omega (arith, two)))
one_wrong before rest closed f g (broken_rules.no_index none two shut open_end) (broken_rules.rule foreign broken least) = absurd (not_empty rest foreign none)
one_wrong before rest closed f g (broken_rules.no_index none two shut open_end) (broken_rules.no_time too one) = absurd (omega (arith, one, two))
one_wrong before rest closed f g (broken_rules.no_index none two shut open_end) (broken_rules.no_index too more still open_too) = refl

pub one_reason : (bytes : List ℕ) (closed : Bool) (offset : ℕ) (fault : FileFault) (place : ℕ) (other : FileFault) → IsAtFault bytes closed offset fault → IsAtFault bytes closed place other → fault ≡ other
one_reason bytes closed offset fault place other x y =
    let at = same_place bytes closed offset fault place other x y in
    one_wrong y.packets y.rest closed fault other
    (subst (λ (b : List Packet). IsWrongHere b y.rest closed fault) at.0 (subst (λ (r : List ℕ). IsWrongHere x.packets r closed fault) at.1 x.wrong)) y.wrong

-- ---- none of a strict file

nothing_missing : (packets : List Packet) (closed : Bool) (fault : FileFault) → 2 ≤ length packets → is_closed_file packets ≡ closed → EndsIndex packets → IsWrongHere packets [] closed fault → ⊥
nothing_missing packets closed fault two is ends (broken_rules.packet some has) = some_there packets [] some refl (omega (arith, two))
nothing_missing packets closed fault two is ends (broken_rules.rule foreign broken least) = not_empty [] foreign refl
nothing_missing packets closed fault two is ends (broken_rules.no_time none one) = omega (arith, two, one)
nothing_missing packets closed fault two is ends (broken_rules.no_index none some shut open_end) = true≢false (sym shut ∙ sym is ∙ not_closed packets (ends open_end))

pub strict_apart : (bytes : List ℕ) (closed : Bool) (offset : ℕ) (fault : FileFault) → IsAtFault bytes closed offset fault → SaysClosed bytes closed → ⊥
strict_apart bytes closed offset fault x (text, entries, (all, they, say)) =
    elim (meets closed None None [] x.packets all x.rest [] x.strict say.file.each x.unclosed (λ open_file. say.file.index (not_whole all (say.closed_is ∙ open_file))) x.answered
    (no_report (last_report all) (λ loss. IsFollowedByFlagged loss []) say.file.reports) (sym x.bytes_are ∙ they ∙ sym (append-nil (file_bytes all)))) [
      | same ps rs ↦
          nothing_missing all closed fault say.file.start say.closed_is say.file.index
          (subst (λ (b : List Packet). IsWrongHere b [] closed fault) ps (subst (λ (r : List ℕ). IsWrongHere x.packets r closed fault) rs x.wrong))
      | left_on on ↦ no_bytes closed all [] on refl
      | right_on on ↦ nothing_wrong closed x.packets x.rest fault on x.wrong
    ]
