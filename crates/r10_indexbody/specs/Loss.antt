-- The body of a loss report: the channel specific data word 0, the letters LOSS, a channel, a field of zeros, and how many
-- messages were lost on the channel.
use Rattle.std.specs.Prelude.{◌≡◌, ℕ, ◌^◌, ◌<◌, Bool, ◌&&◌, ◌==◌, List, ◌++◌, length, drop}
use Rattle.r10_count.specs.Bytes.{le_bytes, u32_at}
use Rattle.r10_indexbody.specs.declared.loss.LossBody.{LossBody}

-- the letters LOSS as a number
abbrev pub loss_letters : ℕ
loss_letters = 0x53534F4C

abbrev pub loss_body : LossBody → List ℕ
loss_body b = le_bytes 4 0 ++ le_bytes 4 loss_letters ++ le_bytes 2 b.channel ++ le_bytes 2 b.reserved ++ le_bytes 8 b.lost

-- the ranges of the fields
pub record FitsLoss (b : LossBody) : Type 0 where
  pub channel : b.channel < 2 ^ 16
  pub reserved : b.reserved < 2 ^ 16
  pub lost : b.lost < 2 ^ 64

-- the bytes tell these fields
abbrev pub IsLossBody : LossBody → List ℕ → Type 0
IsLossBody b body = FitsLoss b × (body ≡ loss_body b)

-- the bytes begin as a report's do, and are as many
abbrev pub is_loss_body : List ℕ → Bool
is_loss_body body = length body == 20 && u32_at body 0 == 0 && u32_at (drop 4 body) 0 == loss_letters
