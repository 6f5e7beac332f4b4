-- What a recorder is set to.
use Rattle.std.specs.Prelude.{ℕ, List}
use Rattle.r10_body.specs.declared.spec.ChannelSpec.{ChannelSpec}

pub record Config : Type 0 where
  -- the medium's blocks, and how many of them after block 0 are reserved for the directory
  pub blocks : ℕ
  pub directory : ℕ
  -- the volume's name
  pub volume : List ℕ
  -- how many node packets a root of an index names, in all groups but a file's last
  pub nodes : ℕ
  -- the channels of time and event entries
  pub time : ℕ
  pub event : ℕ
  pub channels : List ChannelSpec

abbrev pub config : ℕ → ℕ → List ℕ → ℕ → ℕ → ℕ → List ChannelSpec → Config
config blocks directory volume nodes time event channels =
    record {
      blocks = blocks;
      directory = directory;
      volume = volume;
      nodes = nodes;
      time = time;
      event = event;
      channels = channels;
    }
