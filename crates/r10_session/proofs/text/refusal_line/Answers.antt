use Rattle.std.proofs.Common.{◌≡◌, string_bytes, ◌∙◌}
use Rattle.std.proofs.lemmas.Result.{IfOk-weaker}
use Rattle.r10_session.specs.Text.{refused_line}
use Rattle.r10_session.proofs.Refusing.{numbered}
use Rattle.r10_session.proofs.text.refusal_line.Goals as goal

pub returns : goal.returns
returns c =
    let line = refused_line c.args.refusal in
    let rest = c.behind_number.ensures line (c.as_str.ensures.value ∙ c.in_ok-lines.ensures ∙ numbered c.args.refusal) in
    IfOk-weaker c.from_str.result (λ text. string_bytes text ≡ c.behind_number.result.now) (λ text. string_bytes text ≡ line) (λ text is. is ∙ rest) c.from_str.ensures.ok
