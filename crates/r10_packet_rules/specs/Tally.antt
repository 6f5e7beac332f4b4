-- What entries come to, one by one.
use Rattle.std.specs.Prelude.{ℕ, ◌+◌, true, ◌&&◌, nat_le, max, List, Option, Some, None}
use Rattle.std.specs.List.{fold}
use Rattle.r10_body.specs.declared.entry.Timed.{Timed}
use Rattle.r10_body.specs.Cost.{each_entry, message_cost}
use Rattle.r10_packet_rules.specs.declared.facts.Spread.{Spread}
use Rattle.r10_packet_rules.specs.declared.tally.EntryTally.{EntryTally}

-- what an entry of a message costs
abbrev pub timed_cost : Timed → ℕ
timed_cost t = each_entry + message_cost t.message

-- the counts with one after them
abbrev pub spread_behind : Option Spread → ℕ → Spread
spread_behind None count = record { first = count; last = count; greatest = count; rise = true }
spread_behind (Some s) count = record {
  first = s.first;
  last = count;
  greatest = max s.greatest count;
  rise = s.rise && nat_le s.last count;
}

-- the sums with one entry more
abbrev pub tally_behind : EntryTally → ℕ → ℕ → EntryTally
tally_behind t count cost = record { entries = t.entries + 1; cost = t.cost + cost; counts = Some (spread_behind t.counts count) }

abbrev pub with_message : EntryTally → Timed → EntryTally
with_message t m = tally_behind t m.count (timed_cost m)

abbrev pub empty_tally : EntryTally
empty_tally = record { entries = 0; cost = 0; counts = None }

-- what messages come to
abbrev pub tally_of : List Timed → EntryTally
tally_of messages = fold with_message empty_tally messages
