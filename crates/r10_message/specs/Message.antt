-- The body of a message data packet: the channel specific data word, then for each message an intra-packet time stamp, an
-- intra-packet data header and the bytes.
use Rattle.std.specs.Prelude.{◌≡◌, ℕ, ◌+◌, ◌*◌, ◌/◌, ◌%◌, ◌^◌, ◌<◌, ◌==◌, Bool, not, ◌&&◌, nat_le, List, ◌++◌, length}
use Rattle.std.specs.List.{flat_map, AllByRecursion, concat}
use Rattle.r10_count.specs.Bytes.{le_bytes, flag_at, u32_at}
use Rattle.r10_count.specs.Count.{IsCount, stamp}
use Rattle.r10_count.specs.Form.{IsEntryBytes}
use Rattle.r10_count.specs.Padding.{padded}
use Rattle.r10_count.specs.Texts.{told_size}
use Rattle.r10_message.specs.declared.data.DataMessage.{DataMessage}
use Rattle.r10_message.specs.declared.entry.MessageEntry.{MessageEntry}
use Rattle.r10_message.specs.declared.header.MessageHeader.{MessageHeader}

-- the word has the number of messages, and says that each of them is whole
abbrev pub message_word : ℕ → List ℕ
message_word count = le_bytes 4 count

-- the 32 bits of a header: data error, format error, subchannel and length
abbrev pub message_header_bits : MessageHeader → ℕ
message_header_bits h = flag_at 31 h.data_error + flag_at 30 h.format + 2 ^ 16 * h.sub + h.length

-- the ranges of its parts
pub record FitsMessageHeader (h : MessageHeader) : Type 0 where
  pub sub : h.sub < 2 ^ 14
  pub length : h.length < 2 ^ 16

-- the header of an entry
abbrev pub header_of_message : MessageEntry → MessageHeader
header_of_message e = record {
  data_error = e.message.data_error;
  format = e.message.format;
  sub = e.message.sub;
  length = length e.message.bytes;
}

-- and its bits
abbrev pub message_header : MessageEntry → ℕ
message_header e = message_header_bits (header_of_message e)

-- a zero byte stands after an odd number of bytes
abbrev pub message_entry : MessageEntry → List ℕ
message_entry e = stamp e.count ++ le_bytes 4 (message_header e) ++ padded e.message.bytes

-- the length of an entry in the body
abbrev pub message_entry_size : MessageEntry → ℕ
message_entry_size e = 12 + length e.message.bytes + length e.message.bytes % 2

abbrev pub message_body : List MessageEntry → List ℕ
message_body entries = message_word (length entries) ++ flat_map message_entry entries

-- a message at a count
abbrev pub message_at : ℕ → DataMessage → MessageEntry
message_at count m = record { count = count; message = m }

abbrev pub message_of : ℕ → Bool → Bool → ℕ → List ℕ → MessageEntry
message_of count data_error format sub bytes =
    message_at count (record { data_error = data_error; format = format; sub = sub; bytes = bytes })

-- the ranges of the fields
pub record FitsMessage (e : MessageEntry) : Type 0 where
  pub count : IsCount e.count
  pub sub : e.message.sub < 2 ^ 14
  pub bytes : length e.message.bytes < 2 ^ 16

-- the messages of one packet: there is one, and there are no more than the word's 16 bits count
pub record FitsMessageBody (entries : List MessageEntry) : Type 0 where
  pub some : 0 < length entries
  pub counted : length entries < 2 ^ 16
  pub fields : AllByRecursion FitsMessage entries

-- the body that the writer makes of these entries
abbrev pub IsMessage : List MessageEntry → List ℕ → Type 0
IsMessage entries body = FitsMessageBody entries × (body ≡ message_body entries)

-- whoever wrote it: a word, and exactly as many entries as it tells
abbrev pub IsForeignMessage : List ℕ → Type 0
IsForeignMessage body =
    (word : ℕ) × (entries : List (List ℕ)) × (word < 2 ^ 32) × (word % 2 ^ 16 ≡ length entries)
    × AllByRecursion (IsEntryBytes 12 told_size) entries × (body ≡ le_bytes 4 word ++ concat entries)

-- there is a word, and it says that the entries are segments of messages, which aren't read
abbrev pub is_opaque_message : List ℕ → Bool
is_opaque_message body = nat_le 4 (length body) && not (u32_at body 0 / 2 ^ 16 % 4 == 0)
