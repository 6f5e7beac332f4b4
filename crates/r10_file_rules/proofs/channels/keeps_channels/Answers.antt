use Rattle.r10_file_rules.proofs.Either.{with_first, not_any}
use Rattle.r10_file_rules.proofs.channels.keeps_channels.Goals as goal

pub returns-then-is_at_home : goal.returns-then-is_at_home
returns-then-is_at_home c = λ packets p kept tells. with_first _ _ _ c.is_at_home.result c.suits_channel.result c.if-is_at_home.true (c.is_at_home.ensures p tells) (c.suits_channel.ensures packets p kept tells)

pub returns-else-is_at_home : goal.returns-else-is_at_home
returns-else-is_at_home c = λ packets p kept tells. not_any _ _ _ c.is_at_home.result c.if-is_at_home.false (c.is_at_home.ensures p tells)
