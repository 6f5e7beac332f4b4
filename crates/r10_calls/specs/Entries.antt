-- Entries as a caller of another language has them.
use Rattle.std.specs.Prelude.{ℕ, List, [], false, length}
use Rattle.r10_body.specs.Gaps.{is_gap, told_lost}
use Rattle.r10_body.specs.declared.entry.Entry.{Entry}
use Rattle.r10_body.specs.declared.message.Message.{Message as MessageValue}
use Rattle.r10_body.specs.declared.message.Message.TheVariants.{Uart, Bus1553, Arinc, Discrete, Message, Time, Event}
use Rattle.r10_calls.specs.declared.entry_out.EntryOut.{EntryOut}

-- what every entry has
abbrev pub front : Entry → ℕ → EntryOut
front e kind = record {
  count = e.count;
  lost = told_lost e.gap;
  length = 0;
  word = 0;
  channel = e.channel;
  sub = 0;
  status = 0;
  gap_times = 0;
  number = 0;
  occurrence = 0;
  year = 0;
  month = 0;
  day = 0;
  hour = 0;
  minute = 0;
  second = 0;
  centi = 0;
  kind = kind;
  bus = 0;
  gap = is_gap e.gap;
  parity = false;
  format = false;
  data_error = false;
  high = false;
}

-- and what its message has
abbrev pub with_message_out : Entry → MessageValue → EntryOut
with_message_out e (Uart m) = record (front e 1) { parity = m.parity; sub = m.sub; length = length m.bytes }
with_message_out e (Bus1553 m) = record (front e 2) { status = m.status; gap_times = m.gap; length = length m.words }
with_message_out e (Arinc m) = record (front e 3) {
  bus = m.bus;
  format = m.format;
  parity = m.parity;
  high = m.high;
  word = m.word;
}
with_message_out e (Discrete m) = record (front e 4) { word = m.states }
with_message_out e (Message m) = record (front e 5) {
  data_error = m.data_error;
  format = m.format;
  sub = m.sub;
  length = length m.bytes;
}
with_message_out e (Time civil) =
    record (front e 6) {
      year = civil.year;
      month = civil.month;
      day = civil.day;
      hour = civil.hour;
      minute = civil.minute;
      second = civil.second;
      centi = civil.centi;
    }
with_message_out e (Event number count) = record (front e 7) { number = number; occurrence = count }

abbrev pub fields_of : Entry → EntryOut
fields_of e = with_message_out e e.message

abbrev pub message_out_bytes : MessageValue → List ℕ
message_out_bytes (Uart m) = m.bytes
message_out_bytes (Bus1553 m) = []
message_out_bytes (Arinc m) = []
message_out_bytes (Discrete m) = []
message_out_bytes (Message m) = m.bytes
message_out_bytes (Time civil) = []
message_out_bytes (Event number count) = []

abbrev pub message_words : MessageValue → List ℕ
message_words (Uart m) = []
message_words (Bus1553 m) = m.words
message_words (Arinc m) = []
message_words (Discrete m) = []
message_words (Message m) = []
message_words (Time civil) = []
message_words (Event number count) = []

abbrev pub out_bytes : Entry → List ℕ
out_bytes e = message_out_bytes e.message

abbrev pub words_of : Entry → List ℕ
words_of e = message_words e.message
