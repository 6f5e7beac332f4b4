-- How long a packet may be.
use Rattle.std.specs.Prelude.{ℕ, ◌-◌}

-- the most bytes that a packet has, but for another recorder's setup packet
abbrev pub longest_packet : ℕ
longest_packet = 524_288

-- the most bytes that its body, filler and data checksum have together
abbrev pub longest_body : ℕ
longest_body = longest_packet - 24
