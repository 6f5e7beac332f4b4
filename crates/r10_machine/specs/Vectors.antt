-- Worked values: settings, the states of whole recordings, and the order of what they replay.
use Rattle.std.specs.Prelude.{◌≡◌, ℕ, ◌+◌, Bool, true, false, not, ◌&&◌, List, [], ◌∷◌, ◌++◌, refl, Some, slice_index_or}
use Rattle.std.proofs.Common.{arith, subst, zero, suc}
use Rattle.std.proofs.lemmas.Bool.{and_parts, not-true}
use Rattle.std.proofs.lemmas.List.Sorted.{IsPermutation-refl}
use Rattle.std.specs.List.Sorted.{IsSortedByKey}
use Rattle.std.specs.Ordering.{is_lt}
use Rattle.r10_count.specs.declared.civil.Parts.{Parts}
use Rattle.r10_body.specs.Messages.{uart_message}
use Rattle.r10_body.specs.declared.entry.Entry.{Entry}
use Rattle.r10_body.specs.declared.gap.Gap.{Gap}
use Rattle.r10_body.specs.declared.gap.Gap.TheVariants.{Whole, Lost}
use Rattle.r10_body.specs.declared.message.Message.{Message}
use Rattle.r10_body.specs.declared.message.Message.TheVariants.{Time}
use Rattle.r10_body.specs.declared.message.Kind.TheVariants as kinds
use Rattle.r10_body.specs.declared.spec.ChannelSpec.{ChannelSpec}
use Rattle.r10_machine.specs.declared.mode.Mode.TheVariants.{Idle, Recording}
use Rattle.r10_machine.specs.Config.{Config}
use Rattle.r10_machine.specs.Machine.{Machine, File, Cursor, fresh, with_lane}
use Rattle.r10_machine.specs.Replay.{Ordered, place_of, place_cmp}
use Rattle.r10_machine.specs.Calls.{accepted, overflowed, without, fresh_cursor}

abbrev pub leap_day : Parts
leap_day = record { year = 2024; month = 2; day = 29; hour = 12; minute = 34; second = 56; centi = 78 }

abbrev pub channel : ℕ → ℕ → ChannelSpec
channel id capacity = record {
  id = id;
  kind = kinds.Uart;
  capacity = capacity;
  check = 0;
  bytes = 524288;
  number = 65535;
  bits = 0;
}

abbrev pub settings : Config
settings = record {
  blocks = 64;
  directory = 2;
  volume = 0x56 ∷ 0x4F ∷ 0x4C ∷ [];
  nodes = 100;
  time = 1;
  event = 2;
  channels = channel 5 2 ∷ channel 6 4 ∷ [];
}

abbrev pub new : Machine
new = fresh settings.channels [] 0

abbrev pub text : List ℕ → Message
text bytes = uart_message false 0 bytes

abbrev pub entry : ℕ → ℕ → Message → Gap → Entry
entry channel count message gap = record { channel = channel; count = count; message = message; gap = gap }

abbrev pub first_time : Entry
first_time = entry 1 1000 (Time leap_day) Whole

abbrev pub name : List ℕ
name = 0x46 ∷ 0x4C ∷ 0x54 ∷ 0x31 ∷ []

abbrev pub setup_text : List ℕ
setup_text = 0x41 ∷ 0x42 ∷ 0x43 ∷ 0x44 ∷ []

-- a file as it was begun, and one that is closed with these entries
abbrev pub begun : File
begun = record {
  name = name;
  setup = setup_text;
  entries = first_time ∷ [];
  shown = 1;
  closed = false;
  own = true;
  first_block = 3;
  size = 68;
}

-- ---- entries in order

-- entries that stand in order already
abbrev is_before : Entry → Entry → Bool
is_before x y = is_lt (place_cmp (place_of x) (place_of y))

rises : List Entry → Bool
rises [] = true
rises (x ∷ []) = true
rises (x ∷ y ∷ ys) = not (is_before y x) && rises (y ∷ ys)

rising-sorted : (entries : List Entry) → rises entries ≡ true → IsSortedByKey place_of place_cmp entries
unfolding rises
rising-sorted [] rising k d low high = absurd (omega (arith, high))
rising-sorted (x ∷ []) rising k d low high = absurd (omega (arith, high))
rising-sorted (x ∷ y ∷ ys) rising zero d low high = not-true (is_before y x)
    (and_parts (not (is_before y x)) (rises (y ∷ ys)) rising).0
rising-sorted (x ∷ y ∷ ys) rising (suc k) d low high =
    let here : suc (k + 1) ≡ suc k + 1 = omega arith in
    subst (λ n. is_before (slice_index_or (x ∷ y ∷ ys) n d) (slice_index_or (y ∷ ys) k d) ≡ false) here
    (rising-sorted (y ∷ ys) (and_parts (not (is_before y x)) (rises (y ∷ ys)) rising).1 k d (omega arith) (omega (arith, high)))

stands : (entries : List Entry) → rises entries ≡ true → Ordered entries entries
stands entries rising = record { same = IsPermutation-refl entries; sorted = rising-sorted entries rising; stable = λ x. refl }

-- ---- a recorder without files

abbrev pub mounted : Machine
mounted = record new { mode = Idle }

abbrev pub ticked : Machine
ticked = record mounted { tick = Some (record { count = 1000; civil = leap_day }) }

abbrev pub started : Machine
started = record ticked { mode = Recording; files = begun ∷ [] }

-- a reader of the first file, on channel 5
abbrev pub reader : Cursor
reader = fresh_cursor 0 (5 ∷ []) 0 0 281474976710655

abbrev pub read : ℕ → List Entry → Machine → Machine
read covered queue m = record m { cursors = Some (record reader { covered = covered; queue = queue }) ∷ [] }

-- ---- the first recording, on a small medium with one channel

abbrev pub small : Config
small = record settings { blocks = 16; channels = channel 5 2 ∷ [] }

abbrev pub small_started : Machine
small_started = record (fresh small.channels [] 0) {
  mode = Recording;
  tick = Some (record { count = 1000; civil = leap_day });
  files = begun ∷ [];
}

abbrev pub two : List Entry
two = entry 5 1000 (text (0x41 ∷ 0x42 ∷ 0x43 ∷ [])) Whole ∷ entry 5 1010 (text []) Whole ∷ []

abbrev pub abc_offered : Machine
abc_offered = with_lane 5 (accepted 1000 (text (0x41 ∷ 0x42 ∷ 0x43 ∷ []))) small_started

abbrev pub both_offered : Machine
both_offered = with_lane 5 (accepted 1010 (text [])) abc_offered

abbrev pub both_pumped : Machine
both_pumped = record (with_lane 5 (without 2) both_offered) { files = record begun { entries = first_time ∷ two } ∷ [] }

-- the file in 272 bytes, which r10_body's vectors write out
abbrev pub small_stopped : Machine
small_stopped =
    record both_pumped {
      mode = Idle;
      files = record begun { entries = first_time ∷ two; shown = 3; closed = true; size = 272 }
          ∷ [];
    }

two-in-turn : rises two ≡ true
unfolding rises
two-in-turn = refl

pub two-in-order : Ordered two two
two-in-order = stands two two-in-turn

-- ---- a recording with a lost message

abbrev pub filled_lane : Machine
filled_lane = with_lane 5 (accepted 1002 (text (0x42 ∷ []))) (with_lane 5 (accepted 1001 (text (0x41 ∷ []))) started)

abbrev pub lost : Machine
lost = with_lane 5 overflowed filled_lane

abbrev pub first_two : List Entry
first_two = entry 5 1001 (text (0x41 ∷ [])) Whole ∷ entry 5 1002 (text (0x42 ∷ [])) Whole ∷ []

abbrev pub after_gap : Entry
after_gap = entry 5 1004 (text (0x44 ∷ [])) (Lost 1)

abbrev pub pumped : Machine
pumped = record (with_lane 5 (without 2) lost) { files = record begun { entries = first_time ∷ first_two } ∷ [] }

abbrev pub resumed : Machine
resumed = with_lane 5 (accepted 1004 (text (0x44 ∷ []))) pumped

-- the file with all four entries; the steps leave its size to the packing
abbrev pub whole : File
whole = record begun { entries = first_time ∷ first_two ++ after_gap ∷ []; shown = 4; closed = true; size = 212 }

abbrev pub stopped : Machine
stopped = record (with_lane 5 (without 1) resumed) { mode = Idle; files = whole ∷ [] }

abbrev pub replayed : List Entry
replayed = first_two ++ after_gap ∷ []

in-turn : rises replayed ≡ true
unfolding rises
in-turn = refl

pub replayed-in-order : Ordered replayed replayed
replayed-in-order = stands replayed in-turn

-- ---- three lost messages, and a second file

abbrev pub lost_three : Machine
lost_three = with_lane 5 overflowed (with_lane 5 overflowed lost)

-- the first file, closed with what waited
abbrev pub filled : File
filled = record begun { entries = first_time ∷ first_two; shown = 3; closed = true; size = 272 }

abbrev pub filled_stopped : Machine
filled_stopped = record (with_lane 5 (without 2) lost_three) { mode = Idle; files = filled ∷ [] }

abbrev pub ticked_again : Machine
ticked_again = record filled_stopped { tick = Some (record { count = 2000; civil = leap_day }) }

abbrev pub second_name : List ℕ
second_name = 0x46 ∷ 0x4C ∷ 0x54 ∷ 0x32 ∷ []

abbrev pub second_time : Entry
second_time = entry 1 2000 (Time leap_day) Whole

-- the block after the first file is its first
abbrev pub second_begun : File
second_begun = record begun { name = second_name; entries = second_time ∷ []; first_block = 4 }

abbrev pub started_again : Machine
started_again = record ticked_again { mode = Recording; files = filled ∷ second_begun ∷ [] }

abbrev pub offered_again : Machine
offered_again = with_lane 5 (accepted 2000 (text (0x44 ∷ []))) started_again

abbrev pub after_losses : Entry
after_losses = entry 5 2000 (text (0x44 ∷ [])) (Lost 3)

abbrev pub second_pumped : File
second_pumped = record second_begun { entries = second_time ∷ after_losses ∷ [] }

abbrev pub pumped_again : Machine
pumped_again = record (with_lane 5 (without 1) offered_again) { files = filled ∷ second_pumped ∷ [] }

-- 68 bytes, a report of 44 and a packet of 44
abbrev pub committed_again : Machine
committed_again = record pumped_again { files = filled ∷ record second_pumped { shown = 2; size = 156 } ∷ [] }

-- a reader of the second file, on channel 5
abbrev pub read_second : ℕ → List Entry → Machine → Machine
read_second covered queue m = record m { cursors = Some (record reader { file = 1; covered = covered; queue = queue }) ∷ [] }

alone-in-turn : rises (after_losses ∷ []) ≡ true
unfolding rises
alone-in-turn = refl

pub alone-in-order : Ordered (after_losses ∷ []) (after_losses ∷ [])
alone-in-order = stands (after_losses ∷ []) alone-in-turn

-- ---- the order of a replay

abbrev pub mixed : List Entry
mixed = entry 6 1000 (text []) Whole ∷ entry 5 2000 (text []) Whole ∷ entry 6 2000 (text (0x41 ∷ [])) Whole
    ∷ entry 6 2000 (text []) Whole ∷ []

mixed-in-turn : rises mixed ≡ true
unfolding rises
mixed-in-turn = refl

-- by count, then by channel, and else as they stood
pub by-count-first : Ordered mixed mixed
by-count-first = stands mixed mixed-in-turn
