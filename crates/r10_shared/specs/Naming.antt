-- Which sending end is whose.
use Rattle.std.specs.Prelude.{ℕ}
use Rattle.r10_port.specs.Ends.{Sending}

-- a channel, with the sending end of its lane
pub record SendingLine : Type 0 where
  pub channel : ℕ
  pub port : Sending
