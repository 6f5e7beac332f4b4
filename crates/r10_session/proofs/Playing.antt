-- Players, one after the other.
use Rattle.std.proofs.Common.{◌≡◌, List, [], ◌∷◌, ◌++◌, map, append_assoc, sym, ap, ◌∙◌}
use Rattle.std.proofs.lemmas.List.{map-append}
use Rattle.r10_shared.specs.Recorder.{Cursor, Player}

pub one_more : (players : List Player) (before rest all : List Cursor) (cursor : Cursor) (player : Player) → map (λ (p : Player). p.cursor) players ++ before ≡ all → before ≡ cursor ∷ rest → player.cursor ≡ cursor
    → map (λ (p : Player). p.cursor) (players ++ player ∷ []) ++ rest ≡ all
one_more players before rest all cursor player so split is =
    ap (λ (l : List Cursor). l ++ rest) (map-append (λ (p : Player). p.cursor) players (player ∷ [])) ∙ append_assoc (map (λ (p : Player). p.cursor) players) (player.cursor ∷ []) rest
    ∙ ap (λ (c : Cursor). map (λ (p : Player). p.cursor) players ++ (c ∷ rest)) is ∙ ap (λ (l : List Cursor). map (λ (p : Player). p.cursor) players ++ l) (sym split) ∙ so
