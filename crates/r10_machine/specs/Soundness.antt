-- Sound states of the worked recordings, and states that are not: with another recorder's file, and an event in the open file.
use Rattle.std.specs.Prelude.{◌≡◌, ℕ, ◌^◌, true, false, [], ◌∷◌, refl, IfSome, Some}
use Rattle.std.proofs.Common.{lit<, lit≤, zero, suc, arith}
use Rattle.r10_body.specs.declared.entry.Entry.{Entry}
use Rattle.r10_body.specs.declared.message.Message.TheVariants.{Event}
use Rattle.r10_machine.specs.Machine.{Machine, File, cursor_of}
use Rattle.r10_machine.specs.SoundParts.{IsSoundCursor}
use Rattle.r10_machine.specs.Vectors.{settings, new, mounted, started, stopped, begun, first_time, read}
use Rattle.r10_machine.specs.ControlCalls.{event_entry}
use Rattle.r10_machine.specs.Sound.{IsSound, IsEntry, IsFoundFile}

abbrev pub found_file : File
found_file = record begun { name = 0x45 ∷ []; own = false }

abbrev pub event_at : ℕ → Entry
event_at count = event_entry settings 3 count begun

-- the event was recorded at 1001, and is not shown yet
abbrev pub marked : Machine
marked = record started {
  last_event = Some 1001;
  files = found_file
      ∷ record begun { first_block = 4; entries = first_time ∷ event_at 1001 ∷ [] } ∷ [];
}

none-open : (m : Machine) → m.cursors ≡ [] → (id : ℕ) → IfSome (cursor_of id m) (IsSoundCursor m)
none-open m is id = rw is (nothing id)
  where
    nothing : (id : ℕ) → IfSome (cursor_of id (record m { cursors = [] })) (IsSoundCursor m)
    nothing zero = tt
    nothing (suc id) = tt

differ : true ≡ false → ⊥
differ is = cc

unclosed : false ≡ true → ⊥
unclosed is = cc

pub new-sound : IsSound settings new
new-sound = record {
  channels = refl;
  lanes = (
    record { held = lit≤ tt; messages = tt; counts = tt; gaps = tt; missed = lit< tt },
    (record { held = lit≤ tt; messages = tt; counts = tt; gaps = tt; missed = lit< tt }, tt),
  );
  tick = tt;
  event = tt;
  most = lit≤ tt;
  shown = tt;
  generation = lit< tt;
  cursors = none-open new refl;
  work = record { recording = refl; own = tt; others = tt; lanes = (lit≤ tt, (lit≤ tt, tt)); times = lit≤ tt; events = lit≤ tt };
}

pub started-sound : IsSound settings started
started-sound = record {
  channels = refl;
  lanes = (
    record { held = lit≤ tt; messages = tt; counts = tt; gaps = tt; missed = lit< tt },
    (record { held = lit≤ tt; messages = tt; counts = tt; gaps = tt; missed = lit< tt }, tt),
  );
  tick = (lit< tt, refl);
  event = tt;
  most = lit≤ tt;
  shown = (lit≤ tt, tt);
  generation = lit< tt;
  cursors = none-open started refl;
  work = record {
    recording = refl;
    own = (
      record {
        first = refl;
        begun = lit< tt;
        entries = ((lit< tt, tt, (refl, refl, refl)), tt);
        room = lit≤ tt;
        whole = λ is. absurd (unclosed is);
      },
      tt,
    );
    others = (λ foreign. absurd (differ foreign), tt);
    lanes = (lit≤ tt, (lit≤ tt, tt));
    times = (lit≤ tt, lit≤ tt);
    events = lit≤ tt;
  };
}

-- a recording machine without an open file isn't sound
pub nothing-open : IsSound settings (record started { files = [] }) → ⊥
nothing-open sound = differ sound.work.recording

-- nor is one with a cursor that covers more than is shown
pub covers-too-much : IsSound settings (read 5 [] stopped) → ⊥
covers-too-much sound = omega (arith, (sound.cursors 0).1 refl)

pub found-as-it-is : IsFoundFile found_file
found-as-it-is = (refl, refl)

pub marked-sound : IsSound settings marked
marked-sound = record {
  channels = refl;
  lanes = (
    record { held = lit≤ tt; messages = tt; counts = tt; gaps = tt; missed = lit< tt },
    (record { held = lit≤ tt; messages = tt; counts = tt; gaps = tt; missed = lit< tt }, tt),
  );
  tick = (lit< tt, refl);
  event = lit< tt;
  most = lit≤ tt;
  shown = (lit≤ tt, (lit≤ tt, tt));
  generation = lit< tt;
  cursors = none-open marked refl;
  work = record {
    recording = refl;
    own = (
      record {
        first = refl;
        begun = lit< tt;
        entries = (
          (lit< tt, tt, (refl, refl, refl)),
          ((lit< tt, refl, lit≤ tt, lit< tt, refl), tt),
        );
        room = lit≤ tt;
        whole = λ is. absurd (unclosed is);
      },
      tt,
    );
    others = (λ foreign. refl, (λ foreign. absurd (differ foreign), tt));
    lanes = (lit≤ tt, (lit≤ tt, tt));
    times = (lit≤ tt, lit≤ tt);
    events = (lit≤ tt, lit≤ tt);
  };
}

-- the last event isn't before one that was recorded
pub event-later : IsSound settings (record marked { last_event = Some 1000 }) → ⊥
event-later sound = omega (arith, sound.work.events.1)

-- an event stands on its own channel
pub event-astray : IsEntry settings (record (event_at 1001) { channel = 5 }) → ⊥
event-astray entry = omega (arith, entry.1)

pub event-too-large : IsEntry settings (event_entry settings 4096 1001 begun) → ⊥
event-too-large entry = omega (arith, entry.2)

-- events of a number are counted modulo 65,536
pub event-counted-on : IsEntry settings (record (event_at 1001) { message = Event 3 65536 }) → ⊥
event-counted-on entry = omega (arith, entry.3)

pub event-out-of-range : IsSound settings (record marked { last_event = Some 281474976710656 }) → ⊥
event-out-of-range sound = omega (arith, sound.event)

-- another recorder's file shows all
pub found-hides : IsSound settings (record mounted { files = record found_file { shown = 0 } ∷ [] }) → ⊥
found-hides sound = omega (arith, sound.work.others.0 refl)

-- nothing is recorded into another recorder's file
pub found-open : IsSound settings (record started { files = found_file ∷ [] }) → ⊥
found-open sound = differ sound.work.recording

-- two directory blocks list eight files
pub nine-files : IsSound settings (record mounted {
  files = found_file ∷ found_file ∷ found_file ∷ found_file ∷ found_file
      ∷ found_file ∷ found_file ∷ found_file ∷ found_file ∷ [];
}) → ⊥
nine-files sound = omega (arith, sound.most)

pub past-all-generations : IsSound settings (record mounted { generation = 2 ^ 64 }) → ⊥
past-all-generations sound = omega (arith, sound.generation)

-- a cursor of an earlier generation may name a file that is gone, and one of this may not
pub file-gone : IsSound settings (read 0 [] mounted) → ⊥
file-gone sound = (sound.cursors 0).1 refl

pub file-gone-before : IsSoundCursor (record mounted { generation = 1 })
    (record { file = 0; channels = []; from = 0; to = 0; generation = 0; covered = 0; queue = [] })
file-gone-before = (lit≤ tt, λ same. absurd (omega (arith, same)))
