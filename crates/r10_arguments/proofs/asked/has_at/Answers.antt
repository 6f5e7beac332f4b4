use Rattle.std.proofs.Common.{rules, ◌≡◌, ◌<◌, ◌∙◌, length, string_bytes, sym}
use Rattle.std.proofs.lemmas.Slice.Eq.{bytes_eq-Decides}
use Rattle.std.specs.Bool.{Decides}
use Rattle.r10_arguments.proofs.Words.{word_is}
use Rattle.r10_arguments.proofs.asked.has_at.Goals as goal

pub returns-then-place-words : goal.returns-then-place-words
returns-then-place-words c =
    let decides : Decides c.eq.result (string_bytes c.index-words-place.result ≡ c.args.text.now) =
    rw (c.eq.ensures, c.as_str.ensures.value) (bytes_eq-Decides (string_bytes c.index-words-place.result) c.args.text.now) in
    let inside : c.args.place < length c.args.words.now = search rules in
    let at = word_is c.args.words.now c.args.place c.index-words-place.result inside c.index-words-place.is in
    (λ yes. (inside, at ∙ decides.0 yes), λ (lt, says). decides.1 (sym at ∙ says))
