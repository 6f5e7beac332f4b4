-- Cursors, opened one after the other.
use Rattle.std.proofs.Common.{◌≡◌, ℕ, ◌+◌, ◌<◌, ◌≤◌, List, [], ◌∷◌, ◌++◌, length, drop, get_or, append_assoc, refl, sym, ap, subst, ◌∙◌, Option, Result}
use Rattle.std.proofs.lemmas.List.{append-nil, drop_all, drop_more}
use Rattle.r10_body.specs.declared.refusal.Refusal.{Refusal}
use Rattle.r10_shared.specs.Recorder.{Cursor, HeldState}
use Rattle.r10_medium.specs.Disk.{Disk}
use Rattle.r10_session.specs.Readers.{AreCursorsOpened, OpensReader, cursors_in, refusal_of}
use Rattle.r10_script.specs.declared.session.ReaderTable.{ReaderTable}

-- whatever comes of the tables from a place on, after these it is what comes of all
abbrev pub OpenedTo : {M : Type 0} → (M → Disk) → HeldState M → List ReaderTable → ℕ → List (Option Refusal) → List Cursor → HeldState M → Type 0
OpenedTo {M} disk first tables place refused cursors now =
    (rs : List (Option Refusal)) (cs : List Cursor) (end : HeldState M) → AreCursorsOpened disk now (drop place tables) rs cs end → AreCursorsOpened disk first tables (refused ++ rs) (cursors ++ cs) end

module _ {M : Type 0} (disk : M → Disk) (first : HeldState M) (tables : List ReaderTable) where
  pub one_opened : (place : ℕ) (refused : List (Option Refusal)) (cursors : List Cursor) (now next : HeldState M) (table : ReaderTable) (opened : Result Cursor Refusal) → OpenedTo disk first tables place refused cursors now
      → place < length tables → table ≡ get_or tables place table → OpensReader disk now table opened next → OpenedTo disk first tables (place + 1) (refused ++ refusal_of opened ∷ []) (cursors ++ cursors_in opened) next
  one_opened place refused cursors now next table opened so within here opens rs cs end rest =
      let split : drop place tables ≡ table ∷ drop (place + 1) tables = drop_more tables place table within ∙ ap (λ (t : ReaderTable). t ∷ drop (place + 1) tables) (sym here) in
      let all : AreCursorsOpened disk first tables (refused ++ (refusal_of opened ∷ rs)) (cursors ++ (cursors_in opened ++ cs)) end =
      so (refusal_of opened ∷ rs) (cursors_in opened ++ cs) end
      (subst (λ (l : List ReaderTable). AreCursorsOpened disk now l (refusal_of opened ∷ rs) (cursors_in opened ++ cs) end) (sym split) (next, opened, cs, opens, refl, refl, rest)) in
      subst (λ (l : List (Option Refusal)). AreCursorsOpened disk first tables l ((cursors ++ cursors_in opened) ++ cs) end) (sym (append_assoc refused (refusal_of opened ∷ []) rs))
      (subst (λ (l : List Cursor). AreCursorsOpened disk first tables (refused ++ (refusal_of opened ∷ rs)) l end) (sym (append_assoc cursors (cursors_in opened) cs)) all)

  pub all_opened : (place : ℕ) (refused : List (Option Refusal)) (cursors : List Cursor) (now : HeldState M) → OpenedTo disk first tables place refused cursors now → length tables ≤ place → AreCursorsOpened disk first tables refused cursors now
  all_opened place refused cursors now so done =
      let all : AreCursorsOpened disk first tables (refused ++ []) (cursors ++ []) now = so [] [] now (subst (λ (l : List ReaderTable). AreCursorsOpened disk now l [] [] now) (sym (drop_all place tables done)) (refl, refl)) in
      subst (λ (l : List (Option Refusal)). AreCursorsOpened disk first tables l cursors now) (append-nil refused) (subst (λ (l : List Cursor). AreCursorsOpened disk first tables (refused ++ []) l now) (append-nil cursors) all)

  pub none_opened : (refused : List (Option Refusal)) (cursors : List Cursor) → refused ≡ [] → cursors ≡ [] → OpenedTo disk first tables 0 refused cursors first
  none_opened refused cursors none no_cursor rs cs end rest =
      subst (λ (l : List (Option Refusal)). AreCursorsOpened disk first tables (l ++ rs) (cursors ++ cs) end) (sym none) (subst (λ (l : List Cursor). AreCursorsOpened disk first tables rs (l ++ cs) end) (sym no_cursor) rest)
