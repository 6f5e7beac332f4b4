-- Lines written in turn are the lines of all the replies.
use Rattle.std.proofs.Common.{◌≡◌, ℕ, ◌+◌, ◌≤◌, List, [], ◌∷◌, ◌++◌, length, take, drop, take-append-drop, Option, Some, None, append_assoc, ap, sym, ◌∙◌, refl, arith}
use Rattle.std.proofs.lemmas.List.{append-nil, length-take}
use Rattle.std.proofs.Math.Seq.{take-append-add}
use Rattle.std.specs.Io.KnownBytes.{Appends}
use Rattle.r10_text.specs.Replies.{reply_lines}
use Rattle.r10_machine.specs.declared.reply.Reply.{Reply}
use Rattle.r10_command.specs.Lines.{WritesLines, all_lines}

lines_join : (done later : ℕ) (rs ss : List Reply) → later ≡ done + length rs → all_lines done (rs ++ ss) ≡ all_lines done rs ++ all_lines later ss
lines_join done later [] ss at =
    let same : later ≡ done = omega (arith, at) in
    rw (same) refl
lines_join done later (r ∷ rs) ss at =
    let next : later ≡ done + 1 + length rs = omega (arith, at) in
    ap (λ t. reply_lines (done + 1) r ++ t) (lines_join (done + 1) later rs ss next) ∙ sym (append_assoc (reply_lines (done + 1) r) (all_lines (done + 1) rs) (all_lines later ss))

pub appends_join : (a b c : Option (List ℕ)) (x y : List ℕ) → Appends a b x → Appends b c y → Appends a c (x ++ y)
appends_join None b c x y first second = tt
appends_join (Some a) None c x y first second = absurd first
appends_join (Some a) (Some b) None x y first second = absurd second
appends_join (Some a) (Some b) (Some c) x y first second = second ∙ ap (λ t. t ++ y) first ∙ append_assoc a x y

pub rounds_join : (a b c : Option (List ℕ)) (done later : ℕ) (rs ss : List Reply) → later ≡ done + length rs
    → WritesLines a b done rs → WritesLines b c later ss → WritesLines a c done (rs ++ ss)
rounds_join a b c done later rs ss at first second =
    rw (lines_join done later rs ss at) (appends_join a b c (all_lines done rs) (all_lines later ss) first second)

-- the lines of one reply
pub one_reply : (b c : Option (List ℕ)) (number done : ℕ) (r : Reply) (lines : List ℕ) → number ≡ done + 1 → lines ≡ reply_lines number r → Appends b c lines → WritesLines b c done (r ∷ [])
one_reply b c number done r lines at are appended =
    let whole : lines ≡ all_lines done (r ∷ []) = rw (at) at are ∙ sym (append-nil (reply_lines (done + 1) r)) in
    rw whole at appended

-- no line yet
pub no_lines : (a : Option (List ℕ)) (done : ℕ) → WritesLines a a done []
no_lines None done = tt
no_lines (Some a) done = sym (append-nil a)

pub take_split : {A : Type 0} (i n : ℕ) (xs : List A) → i ≤ length xs → take (i + n) xs ≡ take i xs ++ take n (drop i xs)
take_split i n xs inside =
    let front : length (take i xs) ≡ i = omega (arith, length-take i xs, inside) in
    let whole : take i xs ++ drop i xs ≡ xs = take-append-drop i xs in
    let step : take (length (take i xs) + n) (take i xs ++ drop i xs) ≡ take i xs ++ take n (drop i xs) = take-append-add (take i xs) (drop i xs) n in
    rw (front, whole) at step
