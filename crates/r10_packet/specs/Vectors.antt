-- Packets written out, with the header and body that each says.
use Rattle.std.specs.Prelude.{◌≡◌, ℕ, List, [], ◌∷◌, ◌++◌, refl, Some, None, true, false, drop, take, map, replicate}
use Rattle.r10_packet.specs.declared.header.Header.{Header}
use Rattle.r10_packet.specs.declared.fault.PacketFault.TheVariants.{Truncated, Sync, HeaderSum, Length}
use Rattle.r10_packet.specs.Sums.{sum_of_bytes, sum_of_words16, sum_of_words32}
use Rattle.r10_packet.specs.Header.{header_bytes, checksum_bits, flags_of, check_of_bits, is_check_width}
use Rattle.r10_packet.specs.declared.check.Check.TheVariants.{Nothing, Sum8, Sum16, Sum32}
use Rattle.r10_packet.specs.Packet.{with_trailer, least_filler, IsPacket}
use Rattle.r10_packet.specs.Framing.{framing_fault, has_lengths, has_data_checksum, data_sum_of, header_at, body_at}
use Rattle.r10_packet.specs.declared.view.DataSum.TheVariants.{NoRoom, Wrong, Right}
use Rattle.std.proofs.Common.{lit<}

abbrev pub setup_header : Header
setup_header = record {
  channel = 0;
  packet_len = 32;
  data_len = 8;
  version = 8;
  sequence = 0;
  flags = 0;
  data_type = 1;
  counter = 1000;
}

abbrev pub setup_body_bytes : List ℕ
setup_body_bytes = 0x0C ∷ 0 ∷ 0 ∷ 0 ∷ 0x41 ∷ 0x42 ∷ 0x43 ∷ 0x44 ∷ []

abbrev pub setup_packet_bytes : List ℕ
setup_packet_bytes =
    0x25 ∷ 0xEB ∷ 0x00 ∷ 0x00 ∷ 0x20 ∷ 0x00 ∷ 0x00 ∷ 0x00 ∷ 0x08 ∷ 0x00 ∷ 0x00 ∷ 0x00 ∷ 0x08 ∷ 0x00 ∷ 0x00 ∷ 0x01 ∷ 0xE8 ∷ 0x03
    ∷ 0x00 ∷ 0x00 ∷ 0x00 ∷ 0x00 ∷ 0x3D ∷ 0xF0 ∷ 0x0C ∷ 0 ∷ 0 ∷ 0 ∷ 0x41 ∷ 0x42 ∷ 0x43 ∷ 0x44 ∷ []

pub setup_packet-is : IsPacket setup_packet_bytes setup_header setup_body_bytes
unfolding header_bytes
setup_packet-is = record {
  fits = record {
    channel = lit< tt;
    packet_len = lit< tt;
    data_len = lit< tt;
    version = lit< tt;
    sequence = lit< tt;
    flags = lit< tt;
    data_type = lit< tt;
    counter = lit< tt;
  };
  spelled = refl;
  packet_len = refl;
  data_len = refl;
}

-- the UART packet of two messages, without a data checksum and with one of 8, 16 and 32 bits
abbrev pub uart_body_bytes : List ℕ
uart_body_bytes = 0 ∷ 0 ∷ 0 ∷ 0x80 ∷ 0xE8 ∷ 0x03 ∷ 0 ∷ 0 ∷ 0 ∷ 0 ∷ 0 ∷ 0 ∷ 3 ∷ 0 ∷ 0 ∷ 0 ∷ 0x41 ∷ 0x42 ∷ 0x43 ∷ 0 ∷ 0xF2 ∷ 0x03 ∷ 0
    ∷ 0 ∷ 0 ∷ 0 ∷ 0 ∷ 0 ∷ 0 ∷ 0 ∷ 0 ∷ 0 ∷ []

abbrev pub uart_packet_header : ℕ → ℕ → Header
uart_packet_header len flags = record {
  channel = 5;
  packet_len = len;
  data_len = 32;
  version = 8;
  sequence = 0;
  flags = flags;
  data_type = 0x50;
  counter = 1000;
}

abbrev pub uart_packet : ℕ → ℕ → List ℕ
uart_packet len flags = header_bytes (uart_packet_header len flags)
    ++ with_trailer (checksum_bits flags) uart_body_bytes (least_filler (checksum_bits flags) uart_body_bytes)

pub header-0 : drop 22 (header_bytes (uart_packet_header 56 0)) ≡ 0x72 ∷ 0x3F ∷ []
unfolding header_bytes
header-0 = refl

pub header-8 : drop 22 (header_bytes (uart_packet_header 60 1)) ≡ 0x77 ∷ 0x3F ∷ []
unfolding header_bytes
header-8 = refl

pub header-16 : drop 22 (header_bytes (uart_packet_header 60 2)) ≡ 0x78 ∷ 0x3F ∷ []
unfolding header_bytes
header-16 = refl

pub header-32 : drop 22 (header_bytes (uart_packet_header 60 3)) ≡ 0x79 ∷ 0x3F ∷ []
unfolding header_bytes
header-32 = refl

pub tail-8 : drop 56 (uart_packet 60 1) ≡ 0 ∷ 0 ∷ 0 ∷ 0x29 ∷ []
unfolding header_bytes
tail-8 = refl

pub tail-16 : drop 56 (uart_packet 60 2) ≡ 0 ∷ 0 ∷ 0x61 ∷ 0xCA ∷ []
unfolding header_bytes
tail-16 = refl

pub tail-32 : drop 56 (uart_packet 60 3) ≡ 0x1E ∷ 0x4A ∷ 0x43 ∷ 0x80 ∷ []
unfolding header_bytes
tail-32 = refl

-- it is read as what it is
pub reads-header : header_at (uart_packet 60 3) ≡ uart_packet_header 60 3
unfolding header_bytes
reads-header = refl

pub reads-body : body_at (uart_packet 60 3) ≡ uart_body_bytes
unfolding header_bytes
reads-body = refl

pub no-fault : framing_fault (uart_packet 60 3) ≡ None
unfolding header_bytes
no-fault = refl

pub right-checksum : has_data_checksum (uart_packet 60 3) ≡ true
unfolding header_bytes
right-checksum = refl

pub truncated : framing_fault (take 59 (uart_packet 60 3)) ≡ Some Truncated
unfolding header_bytes
truncated = refl

pub no-bytes : framing_fault [] ≡ Some Truncated
no-bytes = refl

pub wrong-header-sum : framing_fault (0x25 ∷ 0xEB ∷ 1 ∷ drop 3 setup_packet_bytes) ≡ Some HeaderSum
wrong-header-sum = refl

pub wrong-sync : framing_fault (0x24 ∷ drop 1 setup_packet_bytes) ≡ Some Sync
wrong-sync = refl

pub time-header : header_bytes
    (record { channel = 1; packet_len = 36; data_len = 12; version = 8; sequence = 0; flags = 0; data_type = 0x11; counter = 1000 })
    ≡ 0x25 ∷ 0xEB ∷ 1 ∷ 0 ∷ 0x24 ∷ 0 ∷ 0 ∷ 0 ∷ 0x0C ∷ 0 ∷ 0 ∷ 0 ∷ 8 ∷ 0 ∷ 0 ∷ 0x11 ∷ 0xE8 ∷ 3 ∷ 0 ∷ 0 ∷ 0 ∷ 0 ∷ 0x46 ∷ 0 ∷ []
unfolding header_bytes
time-header = refl

-- each field at its place, its lowest byte first
pub each-field : take 22
    (header_bytes (record {
      channel = 0x0201;
      packet_len = 0x06050403;
      data_len = 0x0A090807;
      version = 0x0B;
      sequence = 0x0C;
      flags = 0x0D;
      data_type = 0x0E;
      counter = 0x14131211100F;
    })) ≡ 0x25 ∷ 0xEB ∷ 1 ∷ 2 ∷ 3 ∷ 4 ∷ 5 ∷ 6 ∷ 7 ∷ 8 ∷ 9 ∷ 10 ∷ 11 ∷ 12
    ∷ 13 ∷ 14 ∷ 15 ∷ 16 ∷ 17 ∷ 18 ∷ 19 ∷ 20 ∷ []
unfolding header_bytes
each-field = refl

-- lengths: not in whole words, and with a body that doesn't fit
pub broken-word : framing_fault (header_bytes (uart_packet_header 58 0) ++ uart_body_bytes ++ 0 ∷ 0 ∷ []) ≡ Some Length
unfolding header_bytes
broken-word = refl

pub too-short : framing_fault (header_bytes (uart_packet_header 52 0) ++ uart_body_bytes) ≡ Some Length
unfolding header_bytes
too-short = refl

pub greatest-length : has_lengths (uart_packet_header 524288 0) ≡ true
greatest-length = refl

pub too-long : has_lengths (uart_packet_header 524292 0) ≡ false
too-long = refl

pub long-setup : has_lengths (record setup_header { packet_len = 524292 }) ≡ true
long-setup = refl

-- any filler is read, and counts in the data checksum
pub other-filler : data_sum_of (uart_packet_header 60 1)
    (header_bytes (uart_packet_header 60 1) ++ with_trailer 8 uart_body_bytes (1 ∷ 2 ∷ 3 ∷ [])) ≡ Right
unfolding header_bytes
other-filler = refl

pub sum-without-filler : data_sum_of (uart_packet_header 60 1)
    (header_bytes (uart_packet_header 60 1) ++ uart_body_bytes ++ 1 ∷ 2 ∷ 3 ∷ 0x29 ∷ []) ≡ Wrong
unfolding header_bytes
sum-without-filler = refl

pub no-room : data_sum_of (uart_packet_header 56 1) (header_bytes (uart_packet_header 56 1) ++ uart_body_bytes) ≡ NoRoom
unfolding header_bytes
no-room = refl

-- a packet of another recorder with a secondary header: the bytes after the primary header are not its body
abbrev secondary : List ℕ
secondary =
    0x25 ∷ 0xEB ∷ 9 ∷ 0 ∷ 0x2C ∷ 0 ∷ 0 ∷ 0 ∷ 8 ∷ 0 ∷ 0 ∷ 0 ∷ 8 ∷ 0 ∷ 0x80 ∷ 0x68 ∷ 0xE8 ∷ 3 ∷ 0 ∷ 0 ∷ 0 ∷ 0 ∷ 0xD2 ∷ 0x57
    ∷ replicate 20 0

pub secondary-passes : framing_fault secondary ≡ None
secondary-passes = refl

pub secondary-flags : (header_at secondary).flags ≡ 0x80
secondary-flags = refl

pub secondary-right : data_sum_of (header_at secondary) secondary ≡ Right
secondary-right = refl

-- sums of what isn't whole words
pub sum-of-bytes : sum_of_bytes (0xFF ∷ 2 ∷ []) ≡ 1
sum-of-bytes = refl

pub sum-of-two : map sum_of_words16 ((0xFF ∷ 0xFF ∷ 2 ∷ []) ∷ (1 ∷ 2 ∷ []) ∷ []) ≡ 1 ∷ 0x0201 ∷ []
sum-of-two = refl

pub sum-of-four : map sum_of_words32 ((0xFF ∷ 0xFF ∷ 0xFF ∷ 0xFF ∷ 2 ∷ 1 ∷ 3 ∷ []) ∷ (1 ∷ 2 ∷ 3 ∷ 4 ∷ 5 ∷ []) ∷ (1 ∷ 2 ∷ []) ∷ [])
    ≡ 0x0003_0101 ∷ 0x0403_0206 ∷ 0x0201 ∷ []
sum-of-four = refl

-- the two low bits of the flags, and the widths
pub told-bits : map checksum_bits (0 ∷ 1 ∷ 2 ∷ 3 ∷ 4 ∷ 0xFE ∷ []) ≡ 0 ∷ 8 ∷ 16 ∷ 32 ∷ 0 ∷ 16 ∷ []
told-bits = refl

pub told-flags : map flags_of (Nothing ∷ Sum8 ∷ Sum16 ∷ Sum32 ∷ []) ≡ 0 ∷ 1 ∷ 2 ∷ 3 ∷ []
told-flags = refl

pub widths : map check_of_bits (0 ∷ 8 ∷ 16 ∷ 32 ∷ []) ≡ Nothing ∷ Sum8 ∷ Sum16 ∷ Sum32 ∷ []
widths = refl

pub other-widths : map is_check_width (0 ∷ 1 ∷ 8 ∷ 9 ∷ 16 ∷ 24 ∷ 32 ∷ 33 ∷ 64 ∷ []) ≡ true ∷ false ∷ true ∷ false ∷ true ∷ false
    ∷ true ∷ false ∷ false ∷ []
other-widths = refl
