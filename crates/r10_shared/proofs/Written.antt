-- What a player wrote down, turn by turn.
use Rattle.std.proofs.Common.{◌≡◌, ℕ, ◌<◌, List, [], ◌∷◌, ◌++◌, map, length, get_or, take, drop, refl, sym, ap, subst, ◌∙◌, append_assoc, arith}
use Rattle.std.specs.List.{AllByRecursion}
use Rattle.atomic_table.specs.Seated.{TableId}
use Rattle.std.proofs.lemmas.List.{append-nil, drop_all, get_or-map, length-map, map-append, take_all}
use Rattle.r10_held.specs.Advancing.{TakesInstalment}
use Rattle.r10_held.specs.Recorder.{Cursor, Reading as CursorReading}
use Rattle.r10_held.specs.declared.player.Player.{Player}
use Rattle.r10_shared.specs.Readings.{EachGoesOn, HasReadAll, HasReadOn, IsAlike, IsTakenFrom, ReadsFrom, ReadsOn}
use Rattle.r10_shared.specs.declared.reading.Transcribing.{Transcribing}
use Rattle.r10_held.specs.declared.transcript.Instalment.{Instalment}
use Rattle.r10_shared.specs.ReadingLaws.{alike_stays}

-- nothing is taken
pub took_none : (player later : Player) (all : List Instalment) → later.pass.cell ≡ player.pass.cell → IsAlike player.cursor later.cursor → later.cursor.reading.covered ≡ player.cursor.reading.covered → HasReadOn player all later all
took_none player later all gauge alike covered = record { gauge = gauge; alike = alike; more = []; written = sym (append-nil all); goes_on = covered; taken = tt }

-- what was still to be given is dropped
pub passes_over : (player later : Player) (all : List Instalment) → later.pass ≡ player.pass → later.cursor ≡ record player.cursor { reading = record player.cursor.reading { queue = [] } } → HasReadOn player all later all
passes_over player later all same left =
    took_none player later all (ap (λ p. p.cell) same) (subst (IsAlike player.cursor) (sym left) (record { file = refl; generation = refl; channels = refl; first = refl; last = refl })) (ap (λ (c : Cursor). c.reading.covered) left)

pub took_nothing : (player later : Player) (before all : List Instalment) → later.pass.cell ≡ player.pass.cell → later.cursor ≡ player.cursor → all ≡ before → HasReadOn player before later all
took_nothing player later before all gauge same as_before =
    subst (λ (l : List Instalment). HasReadOn player before later l) (sym as_before) (took_none player later before gauge (subst (IsAlike player.cursor) (sym same) (alike_stays player.cursor)) (ap (λ (c : Cursor). c.reading.covered) same))

module _ (player : Player) (b : Cursor) (n : ℕ) (takes : TakesInstalment player.cursor b n) where
  alike_then : IsAlike player.cursor b
  alike_then = record {
    file = takes.place.0;
    generation = takes.place.1;
    channels = ap (λ (r : CursorReading). r.channels) takes.advances.covers;
    first = ap (λ (r : CursorReading). r.from) takes.advances.covers;
    last = ap (λ (r : CursorReading). r.to) takes.advances.covers;
  }

  alike_emptied : IsAlike player.cursor (record b { reading = record b.reading { queue = [] } })
  alike_emptied = record { file = alike_then.file; generation = alike_then.generation; channels = alike_then.channels; first = alike_then.first; last = alike_then.last }

  -- an instalment is written
  pub took_one : (before : List Instalment) (i : Instalment) (later : Player) (all : List Instalment) → i.from ≡ player.cursor.reading.covered → i.to ≡ b.reading.covered → i.entries ≡ b.reading.queue
      → later.pass.cell ≡ player.pass.cell → later.cursor ≡ record b { reading = record b.reading { queue = [] } } → all ≡ before ++ i ∷ [] → HasReadOn player before later all
  took_one before i later all begins ends has gauge same written = record {
    gauge = gauge;
    alike = subst (IsAlike player.cursor) (sym same) alike_emptied;
    more = i ∷ [];
    written = written;
    goes_on = (begins, ap (λ (c : Cursor). c.reading.covered) same ∙ sym ends);
    taken = (
      record {
        packets = takes.packets;
        to_is = ends ∙ ap (λ (r : CursorReading). r.covered) takes.advances.covers;
        entries = rw (begins, has) takes.advances.queues;
      },
      tt,
    );
  }

  -- nothing came to it
  pub took_idle : (before : List Instalment) (later : Player) (all : List Instalment) → b.reading.covered ≡ player.cursor.reading.covered → later.pass.cell ≡ player.pass.cell → later.cursor ≡ record b { reading = record b.reading { queue = [] } }
      → all ≡ before → HasReadOn player before later all
  took_idle before later all covered gauge same as_before =
      subst (λ (l : List Instalment). HasReadOn player before later l) (sym as_before) (took_none player later before gauge (subst (IsAlike player.cursor) (sym same) alike_emptied) (ap (λ (c : Cursor). c.reading.covered) same ∙ covered))

-- ---- players, at first and at last

-- one more player
pub players_more : (xs : List Transcribing) (x : Transcribing) (before rest all : List Player) → map (λ (r : Transcribing). r.player) xs ++ before ≡ all → before ≡ x.player ∷ rest → map (λ (r : Transcribing). r.player) (xs ++ x ∷ []) ++ rest ≡ all
players_more xs x before rest all so next =
    ap (λ (l : List Player). l ++ rest) (map-append (λ (r : Transcribing). r.player) xs (x ∷ [])) ∙ append_assoc (map (λ (r : Transcribing). r.player) xs) (x.player ∷ []) rest ∙ ap (λ (l : List Player). map (λ (r : Transcribing). r.player) xs ++ l) (sym next) ∙ so

module _ (readings : List Transcribing) (players : List Player) (is : map (λ (r : Transcribing). r.player) readings ≡ players) where
  pub as_many : length players ≡ length readings
  as_many = ap (λ (l : List Player). length l) (sym is) ∙ length-map readings (λ (r : Transcribing). r.player)

  player_is : (i : ℕ) (d : Player) (e : Transcribing) → i < length readings → get_or players i d ≡ (get_or readings i e).player
  player_is i d e inside = ap (λ (l : List Player). get_or l i d) (sym is) ∙ get_or-map (λ (r : Transcribing). r.player) readings i e d inside

  -- what is known of each player's gauge is known of each reading's
  pub at_gauge : (cell : TableId) → ((k : ℕ) (d : Player) → k < length players → (get_or players k d).pass.cell ≡ cell) → (k : ℕ) (d : Transcribing) → k < length readings → (get_or readings k d).player.pass.cell ≡ cell
  at_gauge cell known k d inside = ap (λ (p : Player). p.pass.cell) (sym (player_is k d.player d inside)) ∙ known k d.player (omega (arith, inside, as_many))

  -- each has read, where each read on from nothing
  pub have_read : (later : List Transcribing) → ((k : ℕ) (d : Transcribing) → k < length readings → (get_or readings k d).instalments.items ≡ []) → ((i : ℕ) (e : Transcribing) → i < length readings → ReadsOn (get_or readings i e) (get_or later i e))
      → (i : ℕ) (d : Player) (e : Transcribing) → i < length players → HasReadAll (get_or players i d) (get_or later i e)
  have_read later none reads i d e inside =
      let here : i < length readings = omega (arith, inside, as_many) in
      subst (λ (p : Player). ReadsFrom p [] (get_or later i e)) (sym (player_is i d e here)) (subst (λ (l : List Instalment). ReadsFrom (get_or readings i e).player l (get_or later i e)) (none i e here) (reads i e here))

-- what a slice of all leaves is all
pub whole_slice : {X : Type 0} (n : ℕ) (new old : List X) → n ≡ length old → length new ≡ length old → take n (new ++ drop (length new) old) ≡ new
whole_slice n new old all same =
    let none = drop_all (length new) old (omega (arith, same)) in
    ap (λ l. take n (new ++ l)) none ∙ ap (λ l. take n l) (append-nil new) ∙ take_all n new (omega (arith, all, same))
