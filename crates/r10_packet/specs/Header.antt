-- The primary header of a packet.
use Rattle.std.specs.Prelude.{ℕ, ◌^◌, ◌%◌, ◌<◌, Bool, List, [], ◌∷◌, ◌++◌, slice_index, ◌==◌, if◌then◌else◌}
use Rattle.r10_count.specs.Bytes.{le_bytes}
use Rattle.r10_count.specs.Count.{IsCount}
use Rattle.r10_packet.specs.Sums.{sum_of_words16}
use Rattle.r10_packet.specs.declared.header.Header.{Header}
use Rattle.r10_packet.specs.declared.check.Check.{Check}
use Rattle.r10_packet.specs.declared.check.Check.TheVariants.{Nothing, Sum8, Sum16, Sum32}

-- the fields have room
pub record FitsHeader (h : Header) : Type 0 where
  pub channel : h.channel < 2 ^ 16
  pub packet_len : h.packet_len < 2 ^ 32
  pub data_len : h.data_len < 2 ^ 32
  pub version : h.version < 2 ^ 8
  pub sequence : h.sequence < 2 ^ 8
  pub flags : h.flags < 2 ^ 8
  pub data_type : h.data_type < 2 ^ 8
  pub counter : IsCount h.counter

-- the fields that the header checksum covers
abbrev pub header_fields : Header → List ℕ
header_fields h =
    le_bytes 2 0xEB25 ++ le_bytes 2 h.channel ++ le_bytes 4 h.packet_len ++ le_bytes 4 h.data_len
    ++ le_bytes 1 h.version ++ le_bytes 1 h.sequence ++ le_bytes 1 h.flags ++ le_bytes 1 h.data_type
    ++ le_bytes 6 h.counter

-- the 24 bytes of a header
unfoldable pub header_bytes : Header → List ℕ
header_bytes h = header_fields h ++ le_bytes 2 (sum_of_words16 (header_fields h))

-- the bits of the data checksum that the flags tell
abbrev pub checksum_bits : ℕ → ℕ
checksum_bits flags = slice_index (0 ∷ 8 ∷ 16 ∷ 32 ∷ []) (flags % 4)

-- the bits of a data checksum, and the flags that tell it
abbrev pub check_bits_of : Check → ℕ
check_bits_of Nothing = 0
check_bits_of Sum8 = 8
check_bits_of Sum16 = 16
check_bits_of Sum32 = 32

abbrev pub flags_of : Check → ℕ
flags_of Nothing = 0
flags_of Sum8 = 1
flags_of Sum16 = 2
flags_of Sum32 = 3

-- the data checksum of so many bits, and whether one has so many
abbrev pub check_of_bits : ℕ → Check
check_of_bits bits = if bits == 8 then Sum8 else if bits == 16 then Sum16 else if bits == 32 then Sum32 else Nothing

abbrev pub is_check_width : ℕ → Bool
is_check_width bits = check_bits_of (check_of_bits bits) == bits
