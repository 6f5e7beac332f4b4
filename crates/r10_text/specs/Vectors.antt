-- Texts written out.
use Rattle.std.specs.Prelude.{◌≡◌, ℕ, true, false, [], ◌∷◌, Some, None, codes, refl}
use Rattle.std.specs.Fmt.{digits}
use Rattle.hex.specs.Hex.{encode_with}
use Rattle.r10_body.specs.Messages.{arinc_message, bus_message, data_message, discrete_message, uart_message}
use Rattle.r10_body.specs.declared.entry.Entry.{Entry}
use Rattle.r10_body.specs.declared.fault.FileFault.TheVariants as file_faults
use Rattle.r10_body.specs.declared.gap.Gap.{Gap}
use Rattle.r10_body.specs.declared.gap.Gap.TheVariants.{Whole, Lost, Unknown}
use Rattle.r10_body.specs.declared.message.Message.TheVariants as messages
use Rattle.r10_body.specs.declared.refusal.Refusal.TheVariants as refusals
use Rattle.r10_machine.specs.declared.mode.Mode.TheVariants as modes
use Rattle.r10_machine.specs.declared.reply.Reply.TheVariants as replies
use Rattle.r10_text.specs.Civil.{civil_text}
use Rattle.r10_text.specs.Line.{message_text, words_high_first}
use Rattle.r10_text.specs.Refusals.{refusal_text}
use Rattle.r10_text.specs.Replies.{mode_text, reply_lines}

-- four digits a word, the high byte first
pub two_words-bytes : words_high_first (0x0821 ∷ 0xABCD ∷ []) ≡ 0x08 ∷ 0x21 ∷ 0xAB ∷ 0xCD ∷ []
two_words-bytes = refl

pub bus-text : message_text (bus_message 0x2000 0 (0x0821 ∷ 0xABCD ∷ [])) ≡ codes "1553 2000 0000 0821abcd"
unfolding encode_with
bus-text = refl

pub no_words-text : message_text (bus_message 0 7 []) ≡ codes "1553 0000 0007 -"
unfolding encode_with
no_words-text = refl

pub discrete-text : message_text (discrete_message 0x81) ≡ codes "discrete 00000081"
unfolding encode_with
discrete-text = refl

pub uart-text : message_text (uart_message true 16383 (0x41 ∷ 0xAB ∷ 0x0F ∷ [])) ≡ codes "uart 1 16383 41ab0f"
unfolding encode_with digits
uart-text = refl

pub no_bytes-text : message_text (uart_message false 0 []) ≡ codes "uart 0 0 -"
unfolding digits
no_bytes-text = refl

pub arinc-text : message_text (arinc_message 1 false true false 0x0034567F) ≡ codes "arinc 1 0 1 0 0034567f"
unfolding encode_with digits
arinc-text = refl

pub message-text : message_text (data_message true false 2 (0x0A ∷ [])) ≡ codes "message 1 0 2 0a"
unfolding encode_with digits
message-text = refl

pub event-text : message_text (messages.Event 3 1) ≡ codes "event 3 1"
unfolding digits
event-text = refl

pub nothing-lines : reply_lines 8 (replies.Next None) ≡ codes "8 none\n"
unfolding digits
nothing-lines = refl

-- ---- refusals

pub overflow-text : refusal_text refusals.Overflow ≡ codes "refused 12 Overflow"
unfolding digits
overflow-text = refl

pub bad_directory-text : refusal_text (refusals.BadDirectory 1) ≡ codes "refused 26 BadDirectory 1"
unfolding digits
bad_directory-text = refl

pub rule-text : refusal_text (refusals.BadFile 112 (file_faults.Rule 4)) ≡ codes "refused 27 BadFile 112 Rule 4"
unfolding digits
rule-text = refl

pub sum-text : refusal_text (refusals.BadFile 0 file_faults.HeaderSum) ≡ codes "refused 27 BadFile 0 HeaderSum"
unfolding digits
sum-text = refl

pub behind-text : refusal_text (refusals.Behind (record { commits = 2; file = 0; bytes = 112 })) ≡ codes "refused 29 Behind 2 0 112"
unfolding digits
behind-text = refl

-- ---- replies

pub done-lines : reply_lines 1 replies.Done ≡ codes "1 ok\n"
unfolding digits
done-lines = refl

pub stopped-lines : reply_lines 7 (replies.Stopped (record { taken = 6; left = 1 })) ≡ codes "7 stopped 6 1\n"
unfolding digits
stopped-lines = refl

pub refused-lines : reply_lines 6 (replies.Refused refusals.MediumFull) ≡ codes "6 refused 25 MediumFull\n"
unfolding digits
refused-lines = refl

-- a closed file, and one that is open and has a name of another recorder's: `A b/c`
pub file-lines : reply_lines 12 (replies.Files (
    record { name = codes "FLT1"; size = 272; blocks = 1; closed = true }
    ∷ record { name = codes "A b/c"; size = 16732; blocks = 33; closed = false }
    ∷ []))
    ≡ codes "12 files 2\nfile 0 FLT1 272 1 1\nfile 1 A?b?c 16732 33 0\n"
unfolding digits
file-lines = refl

pub no_file-lines : reply_lines 2 (replies.Files []) ≡ codes "2 files 0\n"
unfolding digits
no_file-lines = refl

-- a full lane, and one message lost
pub recording-lines : reply_lines 7 (replies.Status (record {
  mode = modes.Recording;
  tick = Some 1000;
  files = 1;
  free = 30964;
  channels = record { channel = 5; waiting = 2; lost = 1; erased = 0 } ∷ record { channel = 6; waiting = 0; lost = 0; erased = 3 }
      ∷ [];
}))
    ≡ codes "7 status recording 1000 1 30964\nchannel 5 2 1 0\nchannel 6 0 0 3\n"
unfolding digits
recording-lines = refl

pub unmounted-lines : reply_lines 1
    (replies.Status (record { mode = modes.Unmounted; tick = None; files = 0; free = 0; channels = [] }))
    ≡ codes "1 status unmounted - 0 0\n"
unfolding digits
unmounted-lines = refl

pub idle-text : mode_text modes.Idle ≡ codes "idle"
idle-text = refl

pub failed-text : mode_text modes.Failed ≡ codes "failed"
failed-text = refl

-- an empty message
abbrev pub empty_behind : Gap → ℕ → Entry
empty_behind gap count = record { channel = 5; count = count; message = uart_message false 0 []; gap = gap }

abbrev pub empty_entry : ℕ → Entry
empty_entry count = empty_behind Whole count

pub next-lines : reply_lines 11 (replies.Next (Some (empty_entry 1010))) ≡ codes "11 entry 5 1010 0 uart 0 0 -\n"
unfolding digits
next-lines = refl

-- after so many lost ones, and after some of which a file doesn't tell how many
pub behind-lost-lines : reply_lines 9 (replies.Next (Some (empty_behind (Lost 70000) 2000)))
    ≡ codes "9 entry 5 2000 70000 uart 0 0 -\n"
unfolding digits
behind-lost-lines = refl

pub behind-unknown-lines : reply_lines 9 (replies.Next (Some (empty_behind Unknown 2000))) ≡ codes "9 entry 5 2000 1+ uart 0 0 -\n"
unfolding digits
behind-unknown-lines = refl

pub found-lines : reply_lines 11 (replies.Found (Some (record { number = 1; entry = empty_entry 2000 })))
    ≡ codes "11 found 1 entry 5 2000 0 uart 0 0 -\n"
unfolding digits
found-lines = refl

pub found_nothing-lines : reply_lines 12 (replies.Found None) ≡ codes "12 none\n"
unfolding digits
found_nothing-lines = refl

pub count-lines : reply_lines 4 (replies.CountAt (Some 2201000)) ≡ codes "4 count 2201000\n"
unfolding digits
count-lines = refl

pub no_count-lines : reply_lines 5 (replies.CountAt None) ≡ codes "5 none\n"
unfolding digits
no_count-lines = refl

-- ---- times

pub early-text : civil_text (record { year = 7; month = 2; day = 9; hour = 2; minute = 4; second = 6; centi = 8 })
    ≡ codes "0007-02-09 02:04:06.08"
early-text = refl
