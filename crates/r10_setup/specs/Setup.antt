-- The body of a setup packet: the channel specific word, and the setup text as it is.
use Rattle.std.specs.Prelude.{◌≡◌, ℕ, ◌-◌, ◌≤◌, Bool, ◌&&◌, List, ◌++◌, length, nat_le}
use Rattle.r10_count.specs.Bytes.{le_bytes, u32_at, bit_of}
use Rattle.r10_count.specs.declared.reading.Reading.{Reading}
use Rattle.r10_count.specs.declared.reading.Reading.TheVariants.{Strict, Lenient, Neither}
use Rattle.r10_packet.specs.Limits.{longest_body}
use Rattle.r10_setup.specs.declared.body.SetupBody.{SetupBody}

-- the word: ASCII text, configuration unchanged, this release
abbrev pub setup_body : List ℕ → List ℕ
setup_body text = le_bytes 4 0x0C ++ text

-- the most bytes that such a text has: with its header and its word it fits the longest packet
abbrev pub longest_text : ℕ
longest_text = longest_body - 4

-- a packet has room for such a text
abbrev pub FitsSetup : List ℕ → Type 0
FitsSetup text = length text ≤ longest_text

-- the writer makes this body of the text
abbrev pub IsSetup : List ℕ → List ℕ → Type 0
IsSetup text body = body ≡ setup_body text

-- whoever wrote it: a word, and text
abbrev pub IsForeignSetup : List ℕ → Type 0
IsForeignSetup body = 4 ≤ length body

-- a reading that found this text
abbrev pub IsText : List ℕ → Reading SetupBody → Type 0
IsText text (Strict setup) = setup.text.now ≡ text
IsText text Lenient = ⊥
IsText text Neither = ⊥

-- there is a word, and it says that the text is XML, which isn't read
abbrev pub is_opaque_setup : List ℕ → Bool
is_opaque_setup body = nat_le 4 (length body) && bit_of 9 (u32_at body 0)
