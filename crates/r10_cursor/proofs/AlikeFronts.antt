-- Files whose bytes begin alike.
use Rattle.std.proofs.Common.{◌≡◌, ℕ, zero, suc, ◌+◌, ◌≤◌, Bool, true, false, List, [], ◌∷◌, ◌++◌, length, take, drop, refl, sym, ap, ◌∙◌, arith}
use Rattle.std.specs.Prelude.{count_by, filter, nat_le}
use Rattle.std.proofs.lemmas.Bool.{leb-true, leb-false}
use Rattle.std.proofs.lemmas.List.{append-nil, length-append, nil_from_length, take-append-drop, take-take}
use Rattle.r10_medium.specs.Disk.{Image}
use Rattle.r10_blockout.specs.Blocks.{bytes_from}
use Rattle.r10_indexbody.specs.declared.entry.NodeEntry.{NodeEntry}
use Rattle.r10_body.specs.Packets.{Packet, file_bytes, packet_bytes}
use Rattle.r10_body.specs.Rules.{EachFollows, is_data, is_index, node_entry_of, node_entries}
use Rattle.r10_body.proofs.Indexes.{counted_first, counted_yes, entries_length}
use Rattle.r10_body.proofs.Injective.{one_beginning, one_file}
use Rattle.r10_cursor.specs.Shown.{ShowsPackets}
use Rattle.r10_cursor.specs.Files.{HasDataPackets}

-- the first bytes of a file are those of packets, and so is the whole
pub shown_front : (image : Image) (first short long : ℕ) (ps qs : List Packet) → short ≤ long → bytes_from image first short ≡ file_bytes ps → bytes_from image first long ≡ file_bytes qs
    → EachFollows [] ps → EachFollows [] qs → (more : List Packet) × (qs ≡ ps ++ more)
shown_front image first short long ps qs within front whole each follow =
    let rest : List ℕ = drop short (file_bytes qs) in
    let same : file_bytes ps ≡ take short (file_bytes qs) = sym front ∙ sym (take-take short long _ within) ∙ ap (take short) whole in
    one_beginning [] ps qs rest each follow (ap (λ (l : List ℕ). l ++ rest) same ∙ take-append-drop short (file_bytes qs))

-- ---- a file has one list of packets

pub one_had : (bytes : List ℕ) (ps qs : List Packet) → HasDataPackets bytes ps → HasDataPackets bytes qs → ps ≡ qs
one_had bytes ps qs p q =
    let all : p.all ≡ q.all = one_file [] p.all q.all p.each q.each (sym p.bytes_are ∙ q.bytes_are) in
    p.packets_are ∙ ap (filter is_data) all ∙ sym q.packets_are

no_more : (ps qs more : List Packet) → qs ≡ ps ++ more → length qs ≡ length ps → ps ≡ qs
no_more ps qs more is long =
    let none : more ≡ [] = nil_from_length more (omega (arith, long, length-append ps more, ap (λ (l : List Packet). length l) is)) in
    sym (is ∙ ap (λ (l : List Packet). ps ++ l) none ∙ append-nil ps)

named_long : (image : Image) (first : ℕ) (named : List NodeEntry) (ps : List Packet) → ShowsPackets image first named ps → length ps ≡ length named
named_long image first named ps shown = omega (arith, entries_length 0 ps, ap (λ (l : List NodeEntry). length l) shown.named_as)

one_of : (image : Image) (first : ℕ) (named : List NodeEntry) (ps qs : List Packet) → ShowsPackets image first named ps → ShowsPackets image first named qs → length (file_bytes ps) ≤ length (file_bytes qs) → ps ≡ qs
one_of image first named ps qs p q shorter =
    let more = shown_front image first (length (file_bytes ps)) (length (file_bytes qs)) ps qs shorter p.shows q.shows p.each q.each in
    no_more ps qs more.0 more.1 (named_long image first named qs q ∙ sym (named_long image first named ps p))

-- of the file that is written too
pub one_shown : (image : Image) (first : ℕ) (named : List NodeEntry) (ps qs : List Packet) → ShowsPackets image first named ps → ShowsPackets image first named qs → ps ≡ qs
one_shown image first named ps qs p q = by (nat_le (length (file_bytes ps)) (length (file_bytes qs))) refl
  where
    by : (b : Bool) → nat_le (length (file_bytes ps)) (length (file_bytes qs)) ≡ b → ps ≡ qs
    by true less = one_of image first named ps qs p q (leb-true (length (file_bytes ps)) (length (file_bytes qs)) less)
    by false more = let less : length (file_bytes qs) ≤ length (file_bytes ps) = omega (arith, leb-false (length (file_bytes ps)) (length (file_bytes qs)) more) in sym (one_of image first named qs ps q p less)

-- ---- packets without an index

pub plain : (n : ℕ) (ps : List Packet) → count_by is_index ps ≡ 0 → filter is_data (take n ps) ≡ take n ps
plain zero ps none = refl
plain (suc n) [] none = refl
plain (suc n) (p ∷ ps) none = by (is_index p) refl (plain n ps)
  where
    by : (b : Bool) → is_index p ≡ b → (count_by is_index ps ≡ 0 → filter is_data (take n ps) ≡ take n ps) → filter is_data (p ∷ take n ps) ≡ p ∷ take n ps
    by true i rest = absurd (omega (arith, none, counted_first is_index p ps, counted_yes is_index p i))
    by false i rest = rw i (ap (λ (l : List Packet). p ∷ l) (rest (omega (arith, none, counted_first is_index p ps))))

-- ---- names of the first packets

pub named_first : (n offset : ℕ) (packets : List Packet) → take n (node_entries offset packets) ≡ node_entries offset (take n packets)
named_first zero offset packets = refl
named_first (suc n) offset [] = refl
named_first (suc n) offset (p ∷ packets) = ap (λ (es : List NodeEntry). node_entry_of offset p ∷ es) (named_first n (offset + length (packet_bytes p)) packets)
