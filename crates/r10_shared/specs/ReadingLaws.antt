-- What a player read first and then, it read in this order.
use Rattle.std.proofs.Common.{◌≡◌, ◌∙◌, ℕ, List, [], ◌∷◌, ◌++◌, refl, sym, subst, ap, append_assoc}
use Rattle.std.specs.List.{AllByRecursion}
use Rattle.std.proofs.lemmas.List.{append-nil}
use Rattle.r10_held.specs.Recorder.{Cursor}
use Rattle.r10_held.specs.declared.player.Player.{Player}
use Rattle.r10_held.specs.declared.transcript.Instalment.{Instalment}
use Rattle.r10_shared.specs.DeskLaws.{all_join}
use Rattle.r10_shared.specs.Readings.{EachGoesOn, HasReadOn, IsAlike, IsTakenFrom, ReadsOn}
use Rattle.r10_shared.specs.declared.reading.Transcribing.{Transcribing}

goes_join : (a b c : ℕ) (xs ys : List Instalment) → EachGoesOn a xs b → EachGoesOn b ys c → EachGoesOn a (xs ++ ys) c
goes_join a b c [] ys first second = subst (λ (n : ℕ). EachGoesOn n ys c) first second
goes_join a b c (x ∷ xs) ys first second = (first.0, goes_join x.to b c xs ys first.1 second)

pub alike_stays : (a : Cursor) → IsAlike a a
alike_stays a = record { file = refl; generation = refl; channels = refl; first = refl; last = refl }

alike_joins : (a b c : Cursor) → IsAlike a b → IsAlike b c → IsAlike a c
alike_joins a b c one other = record {
  file = other.file ∙ one.file;
  generation = other.generation ∙ one.generation;
  channels = other.channels ∙ one.channels;
  first = other.first ∙ one.first;
  last = other.last ∙ one.last;
}

-- nothing was taken
pub taken_stays : (player : Player) (all : List Instalment) → HasReadOn player all player all
taken_stays player all = record {
  gauge = refl;
  alike = alike_stays player.cursor;
  more = [];
  written = sym (append-nil all);
  goes_on = refl;
  taken = tt;
}

-- one turn, and then others
pub taken_joins : (player : Player) (before : List Instalment) (mid : Player) (then : List Instalment) (later : Player)
    (all : List Instalment) → HasReadOn player before mid then → HasReadOn mid then later all → HasReadOn player before later all
taken_joins player before mid then later all first second = record {
  gauge = second.gauge ∙ first.gauge;
  alike = alike_joins player.cursor mid.cursor later.cursor first.alike second.alike;
  more = first.more ++ second.more;
  written = second.written ∙ ap (λ (l : List Instalment). l ++ second.more) first.written
      ∙ append_assoc before first.more second.more;
  goes_on = goes_join player.cursor.reading.covered mid.cursor.reading.covered later.cursor.reading.covered first.more second.more
      first.goes_on second.goes_on;
  taken = all_join (IsTakenFrom player.cursor.reading.channels player.cursor.reading.from player.cursor.reading.to) first.more
      second.more first.taken
      (subst (λ (cs : List ℕ). AllByRecursion (IsTakenFrom cs player.cursor.reading.from player.cursor.reading.to) second.more)
      first.alike.channels
      (subst (λ (n : ℕ). AllByRecursion (IsTakenFrom mid.cursor.reading.channels n player.cursor.reading.to) second.more)
      first.alike.first
      (subst (λ (n : ℕ). AllByRecursion (IsTakenFrom mid.cursor.reading.channels mid.cursor.reading.from n) second.more)
      first.alike.last second.taken)));
}

pub reads_stay : (r : Transcribing) → ReadsOn r r
reads_stay r = taken_stays r.player r.instalments.items

pub reads_both : (r s t : Transcribing) → ReadsOn r s → ReadsOn s t → ReadsOn r t
reads_both r s t first then = taken_joins r.player r.instalments.items s.player s.instalments.items t.player t.instalments.items
    first then
