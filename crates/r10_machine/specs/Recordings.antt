-- Whole recordings: each reply is one that the recorder may give, over the states of r10_machine's vectors.
use Rattle.std.specs.Prelude.{◌≡◌, ◌≢◌, ℕ, true, List, [], ◌∷◌, ◌++◌, drop, map, refl, Option, Some, None, slice_index_or}
use Rattle.std.proofs.Common.{lit<, lit≤, zero, suc}
use Rattle.r10_body.specs.declared.entry.Entry.{Entry}
use Rattle.r10_body.specs.declared.gap.Gap.TheVariants.{Whole, Lost}
use Rattle.r10_body.specs.declared.refusal.Refusal.TheVariants as refusals
use Rattle.r10_machine.specs.declared.mode.Mode.TheVariants.{Idle}
use Rattle.r10_machine.specs.Config.{Config}
use Rattle.r10_machine.specs.Machine.{Machine, Cursor, File, Lane, Sets, fresh, with_lane}
use Rattle.r10_machine.specs.Calls.{accepted, losing, overflowed, without}
use Rattle.r10_machine.specs.Vectors.{settings, new, mounted, ticked, started, begun, first_time, name, setup_text, leap_day, text}
use Rattle.r10_machine.specs.Vectors.{entry, read, small, small_started, two, two-in-order, abc_offered, both_offered, both_pumped}
use Rattle.r10_machine.specs.Vectors.{small_stopped, filled_lane, lost, pumped, resumed, stopped, replayed, replayed-in-order}
use Rattle.r10_machine.specs.Vectors.{lost_three, filled_stopped, ticked_again, second_name, started_again, offered_again}
use Rattle.r10_machine.specs.Vectors.{after_losses, pumped_again, committed_again, read_second, alone-in-order}
use Rattle.r10_machine.specs.declared.event.Event.{Event}
use Rattle.r10_machine.specs.declared.event.Event.TheVariants as ask
use Rattle.r10_machine.specs.declared.reply.Reply.{Reply}
use Rattle.r10_machine.specs.declared.reply.Reply.TheVariants as say
use Rattle.r10_machine.specs.Step.{Step}

-- the steps of a run, whatever the media between them say
abbrev pub Goes : Config → Machine → List Event → List Reply → Machine → Type 0
Goes s old [] [] end = end ≡ old
Goes s old (event ∷ events) (reply ∷ replies) end = (mid : Machine) × Step s old event reply mid × Goes s mid events replies end
Goes s old events replies end = ⊥

-- ---- words for the proofs

-- the first cursor
first-set : (cursors : List (Option Cursor)) (old new : Option Cursor) → Sets (old ∷ cursors) (new ∷ cursors) 0 new
first-set cursors old new = record { changed = refl; others = other-is }
  where
    other-is : (other : ℕ) → other ≢ 0 → slice_index_or (new ∷ cursors) other None ≡ slice_index_or (old ∷ cursors) other None
    other-is zero differs = absurd (differs refl)
    other-is (suc other) differs = refl

first-new : (new : Option Cursor) → Sets [] (new ∷ []) 0 new
first-new new = record { changed = refl; others = other-is }
  where
    other-is : (other : ℕ) → other ≢ 0 → slice_index_or (new ∷ []) other None ≡ slice_index_or [] other None
    other-is zero differs = absurd (differs refl)
    other-is (suc other) differs = refl

-- ---- the first recording

pub first-recording : Goes small (fresh small.channels [] 0)
    (ask.Mount ∷ ask.Tick 1000 leap_day ∷ ask.Start name setup_text
    ∷ ask.Offer 5 1000 (text (0x41 ∷ 0x42 ∷ 0x43 ∷ [])) ∷ ask.Offer 5 1010 (text []) ∷ ask.Pump 5 2 ∷ ask.Stop
    ∷ ask.Cursor 0 (5 ∷ []) 0 281474976710655 ∷ ask.Advance 0 ∷ ask.Next 0 ∷ ask.Next 0 ∷ ask.Next 0 ∷ [])
    (say.Done ∷ say.Done ∷ say.Done
    ∷ say.Done ∷ say.Done ∷ say.Moved 2 ∷ say.Stopped (record { taken = 0; left = 0 })
    ∷ say.Cursor 0 ∷ say.Advanced 2
    ∷ say.Next (Some (entry 5 1000 (text (0x41 ∷ 0x42 ∷ 0x43 ∷ [])) Whole)) ∷ say.Next (Some (entry 5 1010 (text []) Whole))
    ∷ say.Next None ∷ [])
    (read 3 [] small_stopped)
first-recording = (
  record (fresh small.channels [] 0) { mode = Idle },
  (lit≤ tt, (refl, refl)),
  (
    record small_started { mode = Idle; files = [] },
    (lit≤ tt, (refl, refl)),
    (
      small_started,
      (lit≤ tt, (refl, (refl, refl))),
      (
        abc_offered,
        (lit≤ tt, (refl, refl)),
        (
          both_offered,
          (lit≤ tt, (refl, refl)),
          (
            both_pumped,
            (lit≤ tt, (refl, (refl, λ some. lit< tt, refl))),
            (
              small_stopped,
              (lit≤ tt, (refl, (refl, refl, refl))),
              (
                read 0 [] small_stopped,
                (lit≤ tt, (refl, (refl, (first-new _, refl)))),
                (
                  read 3 two small_stopped,
                  (lit≤ tt, (refl, (two, two-in-order, refl, (first-set _ _ _, refl)))),
                  (
                    read 3 (drop 1 two) small_stopped,
                    (lit≤ tt, (refl, (refl, (first-set _ _ _, refl)))),
                    (
                      read 3 [] small_stopped,
                      (lit≤ tt, (refl, (refl, (first-set _ _ _, refl)))),
                      (
                        read 3 [] small_stopped,
                        (lit≤ tt, (refl, (refl, (first-set _ _ _, refl)))),
                        refl,
                      ),
                    ),
                  ),
                ),
              ),
            ),
          ),
        ),
      ),
    ),
  ),
)

-- ---- a recording with a lost message

pub a-lost-message : Goes settings new
    (ask.Mount ∷ ask.Tick 1000 leap_day ∷ ask.Start name setup_text
    ∷ ask.Offer 5 1001 (text (0x41 ∷ [])) ∷ ask.Offer 5 1002 (text (0x42 ∷ [])) ∷ ask.Offer 5 1003 (text (0x43 ∷ []))
    ∷ ask.Pump 5 2 ∷ ask.Offer 5 1004 (text (0x44 ∷ [])) ∷ ask.Stop
    ∷ ask.Cursor 0 (5 ∷ []) 0 281474976710655 ∷ ask.Advance 0 ∷ ask.Next 0 ∷ ask.Next 0 ∷ ask.Next 0 ∷ ask.Next 0 ∷ [])
    (say.Done ∷ say.Done ∷ say.Done
    ∷ say.Done ∷ say.Done ∷ say.Refused refusals.Overflow
    ∷ say.Moved 2 ∷ say.Done ∷ say.Stopped (record { taken = 1; left = 0 })
    ∷ say.Cursor 0 ∷ say.Advanced 3
    ∷ say.Next (Some (entry 5 1001 (text (0x41 ∷ [])) Whole)) ∷ say.Next (Some (entry 5 1002 (text (0x42 ∷ [])) Whole))
    ∷ say.Next (Some (entry 5 1004 (text (0x44 ∷ [])) (Lost 1))) ∷ say.Next None ∷ [])
    (read 4 [] stopped)
a-lost-message = (
  mounted,
  (lit≤ tt, (refl, refl)),
  (
    ticked,
    (lit≤ tt, (refl, refl)),
    (
      started,
      (lit≤ tt, (refl, (refl, refl))),
      (
        with_lane 5 (accepted 1001 (text (0x41 ∷ []))) started,
        (lit≤ tt, (refl, refl)),
        (
          filled_lane,
          (lit≤ tt, (refl, refl)),
          (
            lost,
            (lit≤ tt, (refl, refl)),
            (
              pumped,
              (lit≤ tt, (refl, (refl, λ some. lit< tt, refl))),
              (
                resumed,
                (lit≤ tt, (refl, refl)),
                (
                  stopped,
                  (lit≤ tt, (refl, (refl, refl, refl))),
                  (
                    read 0 [] stopped,
                    (lit≤ tt, (refl, (refl, (first-new _, refl)))),
                    (
                      read 4 replayed stopped,
                      (lit≤ tt, (refl, (replayed, replayed-in-order, refl, (first-set _ _ _, refl)))),
                      (
                        read 4 (drop 1 replayed) stopped,
                        (lit≤ tt, (refl, (refl, (first-set _ _ _, refl)))),
                        (
                          read 4 (drop 2 replayed) stopped,
                          (lit≤ tt, (refl, (refl, (first-set _ _ _, refl)))),
                          (
                            read 4 [] stopped,
                            (lit≤ tt, (refl, (refl, (first-set _ _ _, refl)))),
                            (
                              read 4 [] stopped,
                              (lit≤ tt, (refl, (refl, (first-set _ _ _, refl)))),
                              refl,
                            ),
                          ),
                        ),
                      ),
                    ),
                  ),
                ),
              ),
            ),
          ),
        ),
      ),
    ),
  ),
)

-- ---- a recording in which three messages are lost, and the first message of the next file tells so

pub three-lost-messages : Goes settings new
    (ask.Mount ∷ ask.Tick 1000 leap_day ∷ ask.Start name setup_text
    ∷ ask.Offer 5 1001 (text (0x41 ∷ [])) ∷ ask.Offer 5 1002 (text (0x42 ∷ []))
    ∷ ask.Offer 5 1003 (text (0x43 ∷ [])) ∷ ask.Offer 5 1004 (text (0x43 ∷ [])) ∷ ask.Offer 5 1005 (text (0x43 ∷ [])) ∷ ask.Stop
    ∷ ask.Tick 2000 leap_day ∷ ask.Start second_name setup_text ∷ ask.Offer 5 2000 (text (0x44 ∷ [])) ∷ ask.Pump 5 1 ∷ ask.Commit
    ∷ ask.Cursor 1 (5 ∷ []) 0 281474976710655 ∷ ask.Advance 0 ∷ ask.Next 0 ∷ ask.Next 0 ∷ [])
    (say.Done ∷ say.Done ∷ say.Done
    ∷ say.Done ∷ say.Done
    ∷ say.Refused refusals.Overflow ∷ say.Refused refusals.Overflow ∷ say.Refused refusals.Overflow
    ∷ say.Stopped (record { taken = 2; left = 0 })
    ∷ say.Done ∷ say.Done ∷ say.Done ∷ say.Moved 1 ∷ say.Done
    ∷ say.Cursor 0 ∷ say.Advanced 1 ∷ say.Next (Some (entry 5 2000 (text (0x44 ∷ [])) (Lost 3))) ∷ say.Next None ∷ [])
    (read_second 2 [] committed_again)
three-lost-messages = (
  mounted,
  (lit≤ tt, (refl, refl)),
  (
    ticked,
    (lit≤ tt, (refl, refl)),
    (
      started,
      (lit≤ tt, (refl, (refl, refl))),
      (
        with_lane 5 (accepted 1001 (text (0x41 ∷ []))) started,
        (lit≤ tt, (refl, refl)),
        (
          filled_lane,
          (lit≤ tt, (refl, refl)),
          (
            lost,
            (lit≤ tt, (refl, refl)),
            (
              with_lane 5 overflowed lost,
              (lit≤ tt, (refl, refl)),
              (
                lost_three,
                (lit≤ tt, (refl, refl)),
                (
                  filled_stopped,
                  (lit≤ tt, (refl, (refl, refl, refl))),
                  (
                    ticked_again,
                    (lit≤ tt, (refl, refl)),
                    (
                      started_again,
                      (lit≤ tt, (refl, (refl, refl))),
                      (
                        offered_again,
                        (lit≤ tt, (refl, refl)),
                        (
                          pumped_again,
                          (lit≤ tt, (refl, (refl, λ some. lit< tt, refl))),
                          (
                            committed_again,
                            (lit≤ tt, (refl, refl)),
                            (
                              read_second 0 [] committed_again,
                              (lit≤ tt, (refl, (refl, (first-new _, refl)))),
                              (
                                read_second 2 (after_losses ∷ []) committed_again,
                                (lit≤ tt, (refl, (after_losses ∷ [], alone-in-order, refl, (first-set _ _ _, refl)))),
                                (
                                  read_second 2 [] committed_again,
                                  (lit≤ tt, (refl, (refl, (first-set _ _ _, refl)))),
                                  (
                                    read_second 2 [] committed_again,
                                    (lit≤ tt, (refl, (refl, (first-set _ _ _, refl)))),
                                    refl,
                                  ),
                                ),
                              ),
                            ),
                          ),
                        ),
                      ),
                    ),
                  ),
                ),
              ),
            ),
          ),
        ),
      ),
    ),
  ),
)

-- ---- a recording whose driver tells of losses: before the first message, of none, and beside an overflow

abbrev told_first : Machine
told_first = with_lane 5 (losing 2) (with_lane 5 (losing 40) started)

abbrev told_between : Machine
told_between = with_lane 5 (losing 5) (with_lane 5 (accepted 1001 (text (0x41 ∷ []))) told_first)

abbrev told_full : Machine
told_full = with_lane 5 (accepted 1002 (text (0x42 ∷ []))) told_between

abbrev told_last : Machine
told_last = with_lane 5 (losing 3) (with_lane 5 overflowed told_full)

abbrev told_entries : List Entry
told_entries = entry 5 1001 (text (0x41 ∷ [])) (Lost 42) ∷ entry 5 1002 (text (0x42 ∷ [])) (Lost 5) ∷ []

abbrev told_pumped : Machine
told_pumped = record (with_lane 5 (without 2) told_last) { files = record begun { entries = first_time ∷ told_entries } ∷ [] }

abbrev told_resumed : Machine
told_resumed = with_lane 5 (accepted 1004 (text (0x44 ∷ []))) told_pumped

-- the steps leave its size to the packing
abbrev told_file : File
told_file = record begun {
  entries = first_time ∷ told_entries ++ entry 5 1004 (text (0x44 ∷ [])) (Lost 4)
      ∷ [];
  shown = 4;
  closed = true;
  size = 332;
}

abbrev told_stopped : Machine
told_stopped = record (with_lane 5 (without 1) told_resumed) { mode = Idle; files = told_file ∷ [] }

pub losses-outside : Goes settings started
    (ask.Lose 5 40 ∷ ask.Lose 5 2 ∷ ask.Offer 5 1001 (text (0x41 ∷ [])) ∷ ask.Lose 5 5 ∷ ask.Lose 99 7
    ∷ ask.Offer 5 1002 (text (0x42 ∷ []))
    ∷ ask.Offer 5 1003 (text (0x43 ∷ [])) ∷ ask.Lose 5 3 ∷ ask.Pump 5 2 ∷ ask.Lose 5 0 ∷ ask.Offer 5 1004 (text (0x44 ∷ []))
    ∷ ask.Stop ∷ [])
    (say.Done ∷ say.Done ∷ say.Done ∷ say.Done ∷ say.Refused refusals.NoSuchChannel ∷ say.Done
    ∷ say.Refused refusals.Overflow ∷ say.Done ∷ say.Moved 2 ∷ say.Done ∷ say.Done ∷ say.Stopped (record { taken = 1; left = 0 })
    ∷ [])
    told_stopped
losses-outside = (
  with_lane 5 (losing 40) started,
  (lit≤ tt, (refl, refl)),
  (
    told_first,
    (lit≤ tt, (refl, refl)),
    (
      with_lane 5 (accepted 1001 (text (0x41 ∷ []))) told_first,
      (lit≤ tt, (refl, refl)),
      (
        told_between,
        (lit≤ tt, (refl, refl)),
        (
          told_between,
          (lit≤ tt, (refl, refl)),
          (
            told_full,
            (lit≤ tt, (refl, refl)),
            (
              with_lane 5 overflowed told_full,
              (lit≤ tt, (refl, refl)),
              (
                told_last,
                (lit≤ tt, (refl, refl)),
                (
                  told_pumped,
                  (lit≤ tt, (refl, (refl, λ some. lit< tt, refl))),
                  (
                    told_pumped,
                    (lit≤ tt, (refl, refl)),
                    (
                      told_resumed,
                      (lit≤ tt, (refl, refl)),
                      (
                        told_stopped,
                        (lit≤ tt, (refl, (refl, refl, refl))),
                        refl,
                      ),
                    ),
                  ),
                ),
              ),
            ),
          ),
        ),
      ),
    ),
  ),
)

-- of all that was lost, reported or refused, the lane keeps the number
pub all-told : map (λ (l : Lane). l.lost) told_stopped.lanes ≡ 51 ∷ 0 ∷ []
all-told = refl
