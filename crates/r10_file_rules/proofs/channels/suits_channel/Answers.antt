use Rattle.r10_file_rules.proofs.Either.{not_first}
use Rattle.r10_file_rules.proofs.channels.suits_channel.Goals as goal

pub returns-else-keeps_type : goal.returns-else-keeps_type
returns-else-keeps_type c = λ packets p kept tells. not_first _ _ c.keeps_type.result c.if-keeps_type.false (c.keeps_type.ensures packets p kept tells)
