-- A file has one list of packets.
use Rattle.std.proofs.Common.{◌≡◌, ℕ, ◌+◌, ◌<◌, Bool, true, false, Option, None, Some, List, [], ◌∷◌, ◌++◌, length, drop, refl, sym, ap, subst, ◌∙◌, arith, append_assoc}
use Rattle.std.proofs.lemmas.List.{drop_at, length-append}
use Rattle.r10_count.specs.Bytes.{flag_at}
use Rattle.r10_packet.specs.Sums.{data_checksum}
use Rattle.r10_packet.specs.Header.{header_bytes, checksum_bits}
use Rattle.r10_packet.specs.Packet.{least_filler}
use Rattle.r10_packet.specs.Framing.{header_at}
use Rattle.r10_packet.proofs.Fields.{header_again}
use Rattle.r10_packet.proofs.Lengths.{header_length}
use Rattle.r10_packet.specs.declared.header.Header.{Header}
use Rattle.r10_body.proofs.Lone.{packet-length}
use Rattle.r10_indexbody.specs.declared.loss.LossBody.{LossBody}
use Rattle.r10_body.specs.Gaps.{told_lost}
use Rattle.r10_body.specs.Rules.{MayFollow, EachFollows, IsGapTold, last_report}
use Rattle.r10_body.specs.Packets.{Packet, FitsPacket, flagged, packet_body, packet_rest, packet_bytes, header_of, file_bytes}
use Rattle.r10_body.proofs.Gaps.{plain_gap}
use Rattle.r10_body.proofs.Lists.{same_front, same_behind}
use Rattle.r10_body.proofs.Bodies.{one_content}
use Rattle.r10_body.proofs.Sentences.{header_fits}

same_flags : (b c : Bool) (m n : ℕ) → m < 4 → n < 4 → flag_at 4 b + m ≡ flag_at 4 c + n → (b ≡ c) × (m ≡ n)
same_flags true true m n f g e = (refl, omega arith)
same_flags false false m n f g e = (refl, omega arith)
same_flags true false m n f g e = absurd (omega arith)
same_flags false true m n f g e = absurd (omega arith)

same_packet : (p q : Packet) → p.channel ≡ q.channel → p.sequence ≡ q.sequence → p.check ≡ q.check → p.counter ≡ q.counter → p.content ≡ q.content → record p { gap = q.gap } ≡ q
same_packet p q a b d e f =
    ap (λ x. record p { channel = x; gap = q.gap }) a ∙ ap (λ x. record p { channel = q.channel; sequence = x; gap = q.gap }) b
    ∙ ap (λ x. record q { check = x; counter = p.counter; content = p.content }) d
    ∙ ap (λ x. record q { counter = x; content = p.content }) e ∙ ap (λ x. record q { content = x }) f

-- the same bytes are those of one packet, but for how many messages were lost before it
pub one_packet : (p q : Packet) (x y : List ℕ) → FitsPacket p → FitsPacket q → packet_bytes p ++ x ≡ packet_bytes q ++ y → (record p { gap = q.gap } ≡ q) × (flagged p ≡ flagged q)
unfolding packet_bytes
one_packet p q x y fp fq same =
    let hp = header_of p in
    let hq = header_of q in
    let front_p : packet_bytes p ++ x ≡ header_bytes hp ++ (packet_rest p ++ x) = append_assoc (header_bytes hp) (packet_rest p) x in
    let front_q : packet_bytes q ++ y ≡ header_bytes hq ++ (packet_rest q ++ y) = append_assoc (header_bytes hq) (packet_rest q) y in
    let apart : header_bytes hp ++ (packet_rest p ++ x) ≡ header_bytes hq ++ (packet_rest q ++ y) = sym front_p ∙ same ∙ front_q in
    let headers : hp ≡ hq = sym (header_again hp (packet_rest p ++ x) (header_fits p fp)) ∙ ap header_at apart ∙ header_again hq (packet_rest q ++ y) (header_fits q fq) in
    let flags = same_flags (flagged p) (flagged q) p.check q.check fp.check fq.check (ap (λ (h : Header). h.flags) headers) in
    let counters : p.counter ≡ q.counter = ap (λ (h : Header). h.counter) headers in
    let rests : packet_rest p ++ x ≡ packet_rest q ++ y =
    sym (drop_at (header_bytes hp) (packet_rest p ++ x) 24 (header_length hp)) ∙ ap (drop 24) apart ∙ drop_at (header_bytes hq) (packet_rest q ++ y) 24 (header_length hq) in
    let behind_p : List ℕ = least_filler (checksum_bits p.check) (packet_body p) in
    let behind_q : List ℕ = least_filler (checksum_bits q.check) (packet_body q) in
    let sum_p : List ℕ = data_checksum (checksum_bits p.check) (packet_body p ++ behind_p) in
    let sum_q : List ℕ = data_checksum (checksum_bits q.check) (packet_body q ++ behind_q) in
    let spread_p : packet_rest p ++ x ≡ packet_body p ++ (behind_p ++ (sum_p ++ x)) = append_assoc (packet_body p ++ behind_p) sum_p x ∙ append_assoc (packet_body p) behind_p (sum_p ++ x) in
    let spread_q : packet_rest q ++ y ≡ packet_body q ++ (behind_q ++ (sum_q ++ y)) = append_assoc (packet_body q ++ behind_q) sum_q y ∙ append_assoc (packet_body q) behind_q (sum_q ++ y) in
    let bodies : packet_body p ≡ packet_body q = same_front (packet_body p) (packet_body q) (behind_p ++ (sum_p ++ x)) (behind_q ++ (sum_q ++ y)) (ap (λ (h : Header). h.data_len) headers) (sym spread_p ∙ rests ∙ spread_q) in
    let contents : p.content ≡ q.content = one_content p.counter q.counter p.content q.content counters fp.content fq.content (ap (λ (h : Header). h.data_type) headers) bodies in
    (same_packet p q (ap (λ (h : Header). h.channel) headers) (ap (λ (h : Header). h.sequence) headers) flags.1 counters contents, flags.0)

-- of what was lost before a packet its bytes have the flag alone
pub same_bytes : (p q : Packet) → record p { gap = q.gap } ≡ q → flagged p ≡ flagged q → packet_bytes p ≡ packet_bytes q
unfolding packet_bytes
same_bytes p q rest flags =
    ap (λ b. header_bytes (record (header_of p) { flags = flag_at 4 b + p.check }) ++ packet_rest p) flags ∙ ap packet_bytes rest

pub packet_some : (p : Packet) → 0 < length (packet_bytes p)
packet_some p = omega (arith, packet-length p)

with_gap : (p q : Packet) → record p { gap = q.gap } ≡ q → p.gap ≡ q.gap → p ≡ q
with_gap p q rest gaps = ap (λ g. record p { gap = g }) gaps ∙ rest

pub one_plain : (p q : Packet) (x y : List ℕ) → FitsPacket p → FitsPacket q → told_lost p.gap ≡ 0 → told_lost q.gap ≡ 0 → packet_bytes p ++ x ≡ packet_bytes q ++ y → p ≡ q
one_plain p q x y fp fq a b same =
    let one = one_packet p q x y fp fq same in
    with_gap p q one.0 (plain_gap p.gap q.gap one.1 a b fp.gap fq.gap)

-- after the same packets the gap is reported
one_gap : (reported : Option LossBody) (p q : Packet) → IsGapTold reported p → IsGapTold reported q → flagged p ≡ flagged q → FitsPacket p → FitsPacket q → p.gap ≡ q.gap
one_gap None p q a b e fp fq = plain_gap p.gap q.gap e a b fp.gap fq.gap
one_gap (Some loss) p q a b e fp fq = a.1 ∙ sym b.1

pub one_follower : (before : List Packet) (p q : Packet) (x y : List ℕ) → MayFollow before p → MayFollow before q → packet_bytes p ++ x ≡ packet_bytes q ++ y → p ≡ q
one_follower before p q x y mp mq same =
    let one = one_packet p q x y mp.fits mq.fits same in
    with_gap p q one.0 (one_gap (last_report before) p q mp.reports.0 mq.reports.0 one.1 mp.fits mq.fits)

-- a file has one list of packets
pub one_file : (before ps qs : List Packet) → EachFollows before ps → EachFollows before qs → file_bytes ps ≡ file_bytes qs → ps ≡ qs
one_file before [] [] f g e = refl
one_file before [] (q ∷ qs) f g e = absurd (omega (arith, packet_some q, length-append (packet_bytes q) (file_bytes qs), ap (λ (b : List ℕ). length b) e))
one_file before (p ∷ ps) [] f g e = absurd (omega (arith, packet_some p, length-append (packet_bytes p) (file_bytes ps), ap (λ (b : List ℕ). length b) e))
one_file before (p ∷ ps) (q ∷ qs) f g e =
    let first : p ≡ q = one_follower before p q (file_bytes ps) (file_bytes qs) f.0 g.0 e in
    let behind : file_bytes ps ≡ file_bytes qs = same_behind (packet_bytes p) (packet_bytes q) (file_bytes ps) (file_bytes qs) (ap packet_bytes first) e in
    let rest : ps ≡ qs = one_file (before ++ p ∷ []) ps qs f.1 (subst (λ (r : Packet). EachFollows (before ++ r ∷ []) qs) (sym first) g.1) behind in
    ap (λ (r : Packet). r ∷ ps) first ∙ ap (λ (rs : List Packet). q ∷ rs) rest

-- packets whose bytes begin with those of others begin with the others
pub one_beginning : (before ps qs : List Packet) (rest : List ℕ) → EachFollows before ps → EachFollows before qs → file_bytes ps ++ rest ≡ file_bytes qs → (more : List Packet) × (qs ≡ ps ++ more)
one_beginning before [] qs rest f g e = (qs, refl)
one_beginning before (p ∷ ps) [] rest f g e =
    absurd (omega (arith, packet_some p, length-append (packet_bytes p ++ file_bytes ps) rest, length-append (packet_bytes p) (file_bytes ps), ap (λ (b : List ℕ). length b) e))
one_beginning before (p ∷ ps) (q ∷ qs) rest f g e =
    let spread : packet_bytes p ++ (file_bytes ps ++ rest) ≡ packet_bytes q ++ file_bytes qs = sym (append_assoc (packet_bytes p) (file_bytes ps) rest) ∙ e in
    let first : p ≡ q = one_follower before p q (file_bytes ps ++ rest) (file_bytes qs) f.0 g.0 spread in
    let behind : file_bytes ps ++ rest ≡ file_bytes qs = same_behind (packet_bytes p) (packet_bytes q) (file_bytes ps ++ rest) (file_bytes qs) (ap packet_bytes first) spread in
    let more = one_beginning (before ++ p ∷ []) ps qs rest f.1 (subst (λ (r : Packet). EachFollows (before ++ r ∷ []) qs) (sym first) g.1) behind in
    (more.0, ap (λ (rs : List Packet). q ∷ rs) more.1 ∙ ap (λ (r : Packet). r ∷ (ps ++ more.0)) (sym first))
