-- The ends of readers, one after the other.
use Rattle.std.proofs.Common.{◌≡◌, ℕ, ◌+◌, ◌<◌, ◌≤◌, List, [], ◌∷◌, ◌++◌, length, drop, get_or, append_assoc, refl, sym, ap, ◌∙◌, Option, None, Some, arith}
use Rattle.std.proofs.lemmas.List.{append-nil, drop-drop, drop_all, drop_more, get_or-drop}
use Rattle.r10_body.specs.declared.refusal.Refusal.{Refusal}
use Rattle.r10_session.specs.declared.ended.ReaderEnd.{ReaderEnd}
use Rattle.r10_session.specs.declared.ended.ReaderEnd.TheVariants as ends
use Rattle.r10_session.specs.Readers.{fill}

-- a reader that has a number
pub a_number : (others : List (Option Refusal)) (numbers : List ℕ) (next n : ℕ) → n ≡ get_or numbers next 0 → fill (None ∷ others) (drop next numbers) ≡ ends.Read n ∷ fill others (drop (next + 1) numbers)
a_number others numbers next n is =
    let none_more : next + 0 ≡ next = omega arith in
    let here : get_or (drop next numbers) 0 0 ≡ n = get_or-drop next numbers 0 0 ∙ ap (λ (k : ℕ). get_or numbers k 0) none_more ∙ sym is in
    ap (λ (k : ℕ). ends.Read k ∷ fill others (drop 1 (drop next numbers))) here ∙ ap (λ (l : List ℕ). ends.Read n ∷ fill others l) (drop-drop 1 next numbers)

-- one end more
pub one_filled : (refused : List (Option Refusal)) (numbers : List ℕ) (place next after : ℕ) (ends' : List ReaderEnd) (r : Option Refusal) (end : ReaderEnd) → ends' ++ fill (drop place refused) (drop next numbers) ≡ fill refused numbers
    → place < length refused → get_or refused place None ≡ r → fill (r ∷ drop (place + 1) refused) (drop next numbers) ≡ end ∷ fill (drop (place + 1) refused) (drop after numbers)
    → (ends' ++ end ∷ []) ++ fill (drop (place + 1) refused) (drop after numbers) ≡ fill refused numbers
one_filled refused numbers place next after ends' r end so within here one =
    let split : drop place refused ≡ r ∷ drop (place + 1) refused = drop_more refused place None within ∙ ap (λ (o : Option Refusal). o ∷ drop (place + 1) refused) here in
    append_assoc ends' (end ∷ []) (fill (drop (place + 1) refused) (drop after numbers)) ∙ ap (λ (l : List ReaderEnd). ends' ++ l) (sym one ∙ ap (λ (l : List (Option Refusal)). fill l (drop next numbers)) (sym split)) ∙ so

pub all_filled : (refused : List (Option Refusal)) (numbers : List ℕ) (place next : ℕ) (ends' : List ReaderEnd) → ends' ++ fill (drop place refused) (drop next numbers) ≡ fill refused numbers → length refused ≤ place → ends' ≡ fill refused numbers
all_filled refused numbers place next ends' so done =
    sym (append-nil ends') ∙ ap (λ (l : List (Option Refusal)). ends' ++ fill l (drop next numbers)) (sym (drop_all place refused done)) ∙ so
