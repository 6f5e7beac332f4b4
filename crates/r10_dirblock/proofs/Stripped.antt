-- A text that was padded is read again.
use Rattle.std.proofs.Common.{◌≡◌, ℕ, ◌+◌, ◌-◌, ◌<◌, Bool, true, false, List, ◌++◌, length, take, get_or, replicate, refl, ◌∙◌, ap, arith, length-take}
use Rattle.std.proofs.lemmas.List.{length-append, length-replicate, get_or_append_left, get_or-append_right, get_or-replicate, take_all, take_at}
use Rattle.std.specs.List.{suffix_len}
use Rattle.std.proofs.lemmas.List.Sums.{suffix_len_is, suffix_len-take_yes, suffix_len-le-length}
use Rattle.r10_dirblock.specs.Texts.{padded_text, is_padding, stripped, IsStripped}

none_behind : (text : List ℕ) → IsStripped text → 0 < length text → suffix_len is_padding text ≡ 0
none_behind text plain some =
    omega (arith, some, ap length plain, length-take (length text - suffix_len is_padding text) text, suffix_len-le-length is_padding text)

last_stays : (text : List ℕ) → IsStripped text → 0 < length text → (b : Bool) → is_padding (get_or text (length text - 1) 0) ≡ b → b ≡ false
last_stays text plain some false is = refl
last_stays text plain some true is = absurd (omega (
  arith,
  none_behind text plain some,
  suffix_len-take_yes is_padding text (length text) 0 some (omega arith) is,
  ap (suffix_len is_padding) (take_all (length text) text (omega arith)),
))

pub stripped_padded : (n : ℕ) (text : List ℕ) → IsStripped text → stripped (padded_text n text) ≡ text
stripped_padded n text plain =
    ap (λ (k : ℕ). take k field) (omega (arith, behind, long)) ∙ take_at text zeros (length text) refl
  where
    zeros : List ℕ
    zeros = replicate (n - length text) 0

    field : List ℕ
    field = text ++ zeros

    long : length field ≡ length text + (n - length text)
    long = length-append text zeros ∙ ap (λ (k : ℕ). length text + k) (length-replicate (n - length text) 0)

    behind : suffix_len is_padding field ≡ length field - length text
    behind = suffix_len_is is_padding field (length text) 0 (omega (arith, long))
        (λ k low high. ap is_padding (get_or-append_right text zeros (length text) k 0 refl low ∙ get_or-replicate (n - length text) (k - length text) 0 0 (omega (arith, low, high, long))))
        (λ some. ap is_padding (get_or_append_left text zeros 0 (length text - 1) (omega (arith, some))) ∙ last_stays text plain some _ refl)
