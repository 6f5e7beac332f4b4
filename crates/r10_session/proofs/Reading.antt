-- What readers wrote down, put together.
use Rattle.std.proofs.Common.{◌≡◌, ℕ, ◌+◌, ◌<◌, suc, List, [], ◌∷◌, ◌++◌, length, map, get_or, refl, sym, ap, subst, ◌∙◌, arith, Option, Some, None, Result, Ok, Err}
use Rattle.std.specs.List.{AllZip}
use Rattle.r10_body.specs.declared.refusal.Refusal.{Refusal}
use Rattle.r10_medium.specs.Disk.{Disk}
use Rattle.r10_session.specs.Counting.{entries_in}
use Rattle.r10_session.specs.Readers.{AreCursorsOpened, AreRead, IsReadBy, IsReadOf, OpensReader, cursors_in, fill, refusal_of}
use Rattle.r10_script.specs.declared.session.ReaderTable.{ReaderTable}
use Rattle.r10_shared.specs.Readings.{EachGoesOn, HasReadAll}
use Rattle.r10_shared.specs.Recorder.{Cursor, HeldState, Instalment, Player, Transcript, fresh_slot}
use Rattle.r10_shared.specs.Settling.{IsWrittenDown}
use Rattle.r10_shared.specs.declared.reading.Transcribing.{Transcribing}

-- ---- from places to pairs

one_read : (player : Player) (reading : Transcribing) (t : Transcript) → HasReadAll player reading → IsWrittenDown reading t → IsReadOf player.cursor t
one_read player reading t read down = record {
  file = down.0.file ∙ read.alike.file;
  channels = down.0.channels ∙ read.alike.channels;
  first = down.0.first ∙ read.alike.first;
  last = down.0.last ∙ read.alike.last;
  covered = reading.player.cursor.reading.covered;
  goes_on = subst (λ (l : List Instalment). EachGoesOn player.cursor.reading.covered l reading.player.cursor.reading.covered) (sym (down.1 ∙ read.written)) read.goes_on;
}

pub read_each : (players : List Player) (readings : List Transcribing) (transcripts : List Transcript) → length readings ≡ length players
    → ((i : ℕ) (d : Player) (e : Transcribing) → i < length players → HasReadAll (get_or players i d) (get_or readings i e)) → length transcripts ≡ length readings
    → ((i : ℕ) (a : Transcribing) (b : Transcript) → i < length readings → IsWrittenDown (get_or readings i a) (get_or transcripts i b)) → AllZip (λ (player : Player) (t : Transcript). IsReadOf player.cursor t) players transcripts
read_each [] [] [] same read many down = tt
read_each (p ∷ players) (r ∷ readings) (t ∷ transcripts) same read many down = (
  one_read p r t (read 0 p r (omega arith)) (down 0 r t (omega arith)),
  read_each players readings transcripts (omega (arith, same)) (λ i d e below. read (suc i) d e (omega (arith, below))) (omega (arith, many)) (λ i a b below. down (suc i) a b (omega (arith, below))),
)
read_each [] [] (t ∷ transcripts) same read many down = absurd (omega (arith, many))
read_each [] (r ∷ readings) transcripts same read many down = absurd (omega (arith, same))
read_each (p ∷ players) [] transcripts same read many down = absurd (omega (arith, same))
read_each (p ∷ players) (r ∷ readings) [] same read many down = absurd (omega (arith, many))

-- by their cursors
pub by_cursors : (players : List Player) (cursors : List Cursor) (transcripts : List Transcript) → map (λ (p : Player). p.cursor) players ≡ cursors → AllZip (λ (player : Player) (t : Transcript). IsReadOf player.cursor t) players transcripts → AllZip IsReadOf cursors transcripts
by_cursors players cursors transcripts are read = subst (λ (l : List Cursor). AllZip IsReadOf l transcripts) are (mapped players transcripts read)
  where
    mapped : (ps : List Player) (ts : List Transcript) → AllZip (λ (player : Player) (t : Transcript). IsReadOf player.cursor t) ps ts → AllZip IsReadOf (map (λ (p : Player). p.cursor) ps) ts
    mapped [] [] each = tt
    mapped (p ∷ ps) (t ∷ ts) each = (each.0, mapped ps ts each.1)
    mapped [] (t ∷ ts) each = absurd each
    mapped (p ∷ ps) [] each = absurd each

-- ---- all readers

abbrev numbers : List Transcript → List ℕ
numbers transcripts = map (λ (t : Transcript). entries_in t.instalments.items) transcripts

by_table : (table : ReaderTable) (generation : ℕ) (c : Cursor) (t : Transcript) → c ≡ fresh_slot generation table.channels table.file table.from table.to → IsReadOf c t → IsReadBy table t (entries_in t.instalments.items)
by_table table generation c t is read = record {
  file = read.file ∙ ap (λ (d : Cursor). d.file) is;
  channels = read.channels ∙ ap (λ (d : Cursor). d.reading.channels) is;
  first = read.first ∙ ap (λ (d : Cursor). d.reading.from) is;
  last = read.last ∙ ap (λ (d : Cursor). d.reading.to) is;
  covered = read.covered;
  goes_on = subst (λ (n : ℕ). EachGoesOn n t.instalments.items read.covered) (ap (λ (d : Cursor). d.reading.covered) is) read.goes_on;
  number = refl;
}

module _ {M : Type 0} (disk : M → Disk) where
  -- one that was opened, or refused
  one_more : (table : ReaderTable) (tables : List ReaderTable) (old next : HeldState M) (r : Option Refusal) (refused : List (Option Refusal)) (cursors rest : List Cursor) (opened : Result Cursor Refusal) (transcripts : List Transcript)
      → OpensReader disk old table opened next → r ≡ refusal_of opened → cursors ≡ cursors_in opened ++ rest → AllZip IsReadOf cursors transcripts
      → ((ts : List Transcript) → AllZip IsReadOf rest ts → AreRead tables (fill refused (numbers ts)) ts) → AreRead (table ∷ tables) (fill (r ∷ refused) (numbers transcripts)) transcripts
  one_more table tables old next r refused cursors rest (Err x) transcripts opens is are read others =
      subst (λ (o : Option Refusal). AreRead (table ∷ tables) (fill (o ∷ refused) (numbers transcripts)) transcripts) (sym is) (others transcripts (subst (λ (l : List Cursor). AllZip IsReadOf l transcripts) are read))
  one_more table tables old next r refused cursors rest (Ok c) transcripts opens is are read others =
      subst (λ (o : Option Refusal). AreRead (table ∷ tables) (fill (o ∷ refused) (numbers transcripts)) transcripts) (sym is) (first transcripts (subst (λ (l : List Cursor). AllZip IsReadOf l transcripts) are read))
    where
      first : (ts : List Transcript) → AllZip IsReadOf (c ∷ rest) ts → AreRead (table ∷ tables) (fill (None ∷ refused) (numbers ts)) ts
      first [] each = absurd each
      first (t ∷ ts) each = (by_table table old.recorder.kept.generation c t opens.0 each.0, others ts each.1)

  pub all_read : (tables : List ReaderTable) (old : HeldState M) (refused : List (Option Refusal)) (cursors : List Cursor) (new : HeldState M) (transcripts : List Transcript) → AreCursorsOpened disk old tables refused cursors new → AllZip IsReadOf cursors transcripts
      → AreRead tables (fill refused (numbers transcripts)) transcripts
  all_read [] old [] cursors new transcripts opened read = none cursors transcripts opened.0 read
    where
      none : (cs : List Cursor) (ts : List Transcript) → cs ≡ [] → AllZip IsReadOf cs ts → ts ≡ []
      none [] [] is each = refl
      none [] (t ∷ ts) is each = absurd each
      none (c ∷ cs) ts is each = absurd (cc)
  all_read (table ∷ tables) old (r ∷ refused) cursors new transcripts (next, opened, rest, opens, is, are, others) read =
      one_more table tables old next r refused cursors rest opened transcripts opens is are read (λ ts each. all_read tables next refused rest new ts others each)
  all_read [] old (r ∷ refused) cursors new transcripts opened read = absurd opened
  all_read (table ∷ tables) old [] cursors new transcripts opened read = absurd opened
