-- An entry's header and its fields.
use Rattle.std.proofs.Common.{◌≡◌, ℕ, zero, suc, ◌+◌, ◌*◌, ◌/◌, ◌%◌, ◌^◌, ◌<◌, List, ◌++◌, length, nat_eq, refl, sym, ap, ◌∙◌, arith}
use Rattle.r10_count.specs.Bytes.{le_bytes, flag_at}
use Rattle.r10_count.specs.Count.{stamp, IsCount}
use Rattle.r10_count.specs.Padding.{padded}
use Rattle.r10_message.specs.Message.{FitsMessageHeader, FitsMessage, message_header_bits, message_header, message_entry, message_of}
use Rattle.r10_message.specs.declared.entry.MessageEntry.{MessageEntry}
use Rattle.r10_message.specs.declared.header.MessageHeader.{MessageHeader}
use Rattle.r10_count.proofs.Fronts.{high_bit}

next_bit : (q : ℕ) → q < 2 → flag_at 30 (nat_eq q 1) ≡ 1073741824 * q
next_bit zero lt = refl
next_bit (suc zero) lt = refl
next_bit (suc (suc n)) lt = absurd (omega arith)

-- a header is made of its parts
pub parts_of : (header : ℕ) → header < 2 ^ 32
    → header ≡ flag_at 31 (nat_eq (header / 2147483648) 1) + flag_at 30 (nat_eq (header / 1073741824 % 2) 1) + 65536 * (header / 65536 % 16384) + header % 65536
parts_of header lt = omega (arith, high_bit (header / 2147483648) (omega arith), next_bit (header / 1073741824 % 2) (omega arith))

-- the entry that a header and bytes make
abbrev pub entry_of : ℕ → MessageHeader → List ℕ → MessageEntry
entry_of count h text = message_of count h.data_error h.format h.sub text

pub entry_read : (bytes rest behind text : List ℕ) (count header : ℕ) (h : MessageHeader) → IsCount count → FitsMessageHeader h → header ≡ message_header_bits h
    → bytes ≡ stamp count ++ rest → rest ≡ le_bytes 4 header ++ behind → behind ≡ padded text → length text ≡ h.length
    → FitsMessage (entry_of count h text) × (bytes ≡ message_entry (entry_of count h text))
entry_read bytes rest behind text count header h lc fits reported e1 e2 e3 n =
    let is : message_header (entry_of count h text) ≡ header = omega (arith, n, reported) in
    let low = fits.length in (
      record { count = lc; sub = fits.sub; bytes = omega (arith, n) },
      e1 ∙ ap (λ t. stamp count ++ t) (e2 ∙ ap (λ t. le_bytes 4 header ++ t) e3) ∙ ap (λ n. stamp count ++ le_bytes 4 n ++ padded text) (sym is),
    )
