-- The lines of entries.
use Rattle.std.specs.Prelude.{ℕ, List, [], ◌∷◌, ◌++◌, codes}
use Rattle.std.specs.Fmt.{decimal}
use Rattle.std.specs.Int.{w16, w32, to_be_bytes}
use Rattle.std.specs.List.{flat_map}
use Rattle.hex.specs.Hex.{encode_lower}
use Rattle.r10_body.specs.declared.entry.Entry.{Entry}
use Rattle.r10_body.specs.declared.gap.Gap.{Gap}
use Rattle.r10_body.specs.declared.gap.Gap.TheVariants.{Whole, Lost, Unknown}
use Rattle.r10_body.specs.declared.message.Message.{Message}
use Rattle.r10_body.specs.declared.message.Message.TheVariants as messages
use Rattle.r10_text.specs.Civil.{civil_text}
use Rattle.r10_count.specs.Printed.{flag_text}
use Rattle.r10_text.specs.Words.{spaced}

-- bytes in pairs of hex digits of lower case, a dash where there are none
abbrev pub bytes_text : List ℕ → List ℕ
bytes_text [] = codes "-"
bytes_text (b ∷ bs) = encode_lower (b ∷ bs)

-- a word of 16 bits in four hex digits
abbrev pub word_text : ℕ → List ℕ
word_text n = encode_lower (to_be_bytes w16 n)

-- 16-bit words, the high byte of each first
abbrev pub words_high_first : List ℕ → List ℕ
words_high_first words = flat_map (to_be_bytes w16) words

-- words of four hex digits each, a dash where there are none
abbrev pub words_text : List ℕ → List ℕ
words_text words = bytes_text (words_high_first words)

-- a number of 32 bits in eight hex digits
abbrev pub long_text : ℕ → List ℕ
long_text n = encode_lower (to_be_bytes w32 n)

abbrev pub message_text : Message → List ℕ
message_text (messages.Uart m) = spaced (codes "uart" ∷ flag_text m.parity ∷ decimal m.sub ∷ bytes_text m.bytes ∷ [])
message_text (messages.Bus1553 m) = spaced (codes "1553" ∷ word_text m.status ∷ word_text m.gap ∷ words_text m.words ∷ [])
message_text (messages.Arinc m) =
    spaced (codes "arinc" ∷ decimal m.bus ∷ flag_text m.format ∷ flag_text m.parity ∷ flag_text m.high ∷ long_text m.word ∷ [])
message_text (messages.Discrete m) = spaced (codes "discrete" ∷ long_text m.states ∷ [])
message_text (messages.Message m) =
    spaced (codes "message" ∷ flag_text m.data_error ∷ flag_text m.format ∷ decimal m.sub ∷ bytes_text m.bytes ∷ [])
message_text (messages.Time civil) = spaced (codes "time" ∷ civil_text civil ∷ [])
message_text (messages.Event number count) = spaced (codes "event" ∷ decimal number ∷ decimal count ∷ [])

-- how many messages were lost before an entry; `1+` where a file doesn't tell how many
abbrev pub gap_text : Gap → List ℕ
gap_text Whole = codes "0"
gap_text (Lost n) = decimal n
gap_text Unknown = codes "1+"

abbrev pub entry_text : Entry → List ℕ
entry_text e = spaced (codes "entry" ∷ decimal e.channel ∷ decimal e.count ∷ gap_text e.gap ∷ message_text e.message ∷ [])

-- an entry on a line of its own
abbrev pub entry_line : Entry → List ℕ
entry_line e = entry_text e ++ codes "\n"
