-- The line of a refusal, after a number.
use Rattle.std.proofs.Common.{◌≡◌, ℕ, List, [], ◌∷◌, ◌++◌, codes, append-nil, ap, ◌∙◌, arith}
use Rattle.std.specs.Fmt.{decimal}
use Rattle.std.proofs.lemmas.Fmt.{decimal_digit}
use Rattle.r10_body.specs.declared.refusal.Refusal.{Refusal}
use Rattle.r10_session.specs.Text.{refused_line}
use Rattle.r10_text.specs.Refusals.{refusal_text}
use Rattle.r10_text.specs.Replies.{reply_lines}
use Rattle.r10_text.specs.Words.{line_of}
use Rattle.r10_machine.specs.declared.reply.Reply.TheVariants as replies

pub numbered : (r : Refusal) → reply_lines 0 (replies.Refused r) ≡ codes "0 " ++ refused_line r
numbered r = append-nil (line_of (decimal 0 ∷ refusal_text r ∷ [])) ∙ ap (λ (d : List ℕ). d ++ (32 ∷ refused_line r)) (decimal_digit 0 (omega arith))
