-- A packet: its header, its body, filler and a data checksum, joined by both length fields.
use Rattle.std.specs.Prelude.{◌≡◌, ℕ, ◌+◌, ◌-◌, ◌/◌, ◌%◌, List, ◌++◌, length, replicate}
use Rattle.r10_packet.specs.Sums.{data_checksum}
use Rattle.r10_packet.specs.Header.{FitsHeader, header_bytes, checksum_bits}
use Rattle.r10_packet.specs.declared.header.Header.{Header}

-- body, filler and data checksum
abbrev pub with_trailer : ℕ → List ℕ → List ℕ → List ℕ
with_trailer bits body filler = body ++ filler ++ data_checksum bits (body ++ filler)

-- the least filler that makes the packet a multiple of 4 bytes, all zero
abbrev pub least_filler : ℕ → List ℕ → List ℕ
least_filler bits body = replicate ((4 - (length body + bits / 8) % 4) % 4) 0

-- a packet with some filler
pub record IsPacketWith (filler bytes : List ℕ) (h : Header) (body : List ℕ) : Type 0 where
  pub fits : FitsHeader h
  pub spelled : bytes ≡ header_bytes h ++ with_trailer (checksum_bits h.flags) body filler
  pub packet_len : h.packet_len ≡ length bytes
  pub data_len : h.data_len ≡ length body

-- a packet as the recorder writes it, and one that any recorder may have written
abbrev pub IsPacket : List ℕ → Header → List ℕ → Type 0
IsPacket bytes h body = IsPacketWith (least_filler (checksum_bits h.flags) body) bytes h body

abbrev pub IsForeignFrame : List ℕ → Header → List ℕ → Type 0
IsForeignFrame bytes h body = (filler : List ℕ) × IsPacketWith filler bytes h body

-- the header with the lengths of a body
abbrev pub framed : Header → List ℕ → Header
framed h body =
    let bits = checksum_bits h.flags in
    record h { packet_len = 24 + length (with_trailer bits body (least_filler bits body)); data_len = length body }

-- the one packet of a body that the recorder writes
abbrev pub framed_bytes : Header → List ℕ → List ℕ
framed_bytes h body =
    let bits = checksum_bits h.flags in
    header_bytes (framed h body) ++ with_trailer bits body (least_filler bits body)
