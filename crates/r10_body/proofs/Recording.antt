-- The first recording is a file that says its setup and its entries.
use Rattle.std.specs.Prelude.{true, false, [], ◌∷◌, ◌++◌, refl}
use Rattle.std.proofs.Common.{inl, lit<, lit≤, arith, sym}
use Rattle.r10_packet.specs.Header.{header_bytes}
use Rattle.r10_body.specs.Packets.{packet_bytes, file_bytes}
use Rattle.r10_body.specs.Rules.{MayFollow, IsFile}
use Rattle.r10_body.specs.Files.{FileSays}
use Rattle.r10_body.specs.Vectors.{a_setup_packet, a_time_packet, uart_packet, a_node_packet, a_root_packet, data_packets, a_recording, recorded}
use Rattle.std.proofs.lemmas.Bool.{false≢true}

pub setup-first : MayFollow [] a_setup_packet
setup-first = record {
  fits = record { channel = lit< tt; sequence = lit< tt; gap = tt; check = lit< tt; counter = lit< tt; content = tt; short = lit≤ tt };
  checksums = λ _. refl;
  start = ((λ _. refl, λ _. refl), λ e. absurd (omega arith));
  channels = ((λ _. refl, λ _. refl), λ _. tt, λ _. refl);
  sequence = refl;
  counts = (tt, tt, tt);
  index = refl;
  counters = (λ e. tt, λ e. absurd (false≢true e));
  events = tt;
  reports = (refl, tt);
}

pub time-second : MayFollow (a_setup_packet ∷ []) a_time_packet
time-second = record {
  fits = record { channel = lit< tt; sequence = lit< tt; gap = tt; check = lit< tt; counter = lit< tt; content = refl; short = lit≤ tt };
  checksums = λ _. refl;
  start = ((λ e. absurd (false≢true e), λ e. absurd (omega arith)), λ _. refl);
  channels = ((λ e. absurd (false≢true e), λ e. absurd (omega arith)), λ _. (λ e. absurd (omega arith), tt), λ _. refl);
  sequence = refl;
  counts = ((refl, tt), (lit≤ tt, tt), (lit≤ tt, tt));
  index = refl;
  counters = (λ _. (refl, tt), λ e. absurd (false≢true e));
  events = tt;
  reports = (refl, tt);
}

pub uart-third : MayFollow (a_setup_packet ∷ a_time_packet ∷ []) uart_packet
uart-third = record {
  fits = record {
    channel = lit< tt;
    sequence = lit< tt;
    gap = tt;
    check = lit< tt;
    counter = lit< tt;
    content = (lit< tt, (record { count = lit< tt; sub = lit< tt; bytes = lit< tt }, (record { count = lit< tt; sub = lit< tt; bytes = lit< tt }, tt)));
    short = lit≤ tt;
  };
  checksums = λ e. refl;
  start = ((λ e. absurd (false≢true e), λ e. absurd (omega arith)), λ e. absurd (omega arith));
  channels = ((λ e. absurd (false≢true e), λ e. absurd (omega arith)), λ _. (λ e. absurd (omega arith), (λ e. absurd (omega arith), tt)), λ _. refl);
  sequence = refl;
  counts = ((refl, tt), (lit≤ tt, (lit≤ tt, tt)), (lit≤ tt, (lit≤ tt, tt)));
  index = refl;
  counters = (λ e. absurd (omega arith), λ e. absurd (false≢true e));
  events = tt;
  reports = (refl, tt);
}

pub node-fourth : MayFollow data_packets a_node_packet
unfolding packet_bytes header_bytes
node-fourth = record {
  fits = record {
    channel = lit< tt;
    sequence = lit< tt;
    gap = tt;
    check = lit< tt;
    counter = lit< tt;
    content = record { some = lit< tt; counted = lit< tt; fields = (record { counter = lit< tt; data_type = lit< tt; channel = lit< tt; offset = lit< tt }, (record { counter = lit< tt; data_type = lit< tt; channel = lit< tt; offset = lit< tt }, (record { counter = lit< tt; data_type = lit< tt; channel = lit< tt; offset = lit< tt }, tt))) };
    short = lit≤ tt;
  };
  checksums = λ _. refl;
  start = ((λ e. absurd (false≢true e), λ e. absurd (omega arith)), λ e. absurd (omega arith));
  channels = ((λ _. refl, λ _. refl), λ lt. absurd (omega arith), λ _. refl);
  sequence = refl;
  counts = (tt, tt, tt);
  index = (λ some. absurd (omega arith), refl);
  counters = (λ e. absurd (omega arith), λ _. refl);
  events = tt;
  reports = (refl, tt);
}

pub root-fifth : MayFollow (data_packets ++ a_node_packet ∷ []) a_root_packet
unfolding packet_bytes header_bytes
root-fifth = record {
  fits = record {
    channel = lit< tt;
    sequence = lit< tt;
    gap = tt;
    check = lit< tt;
    counter = lit< tt;
    content = record { some = lit< tt; counted = lit< tt; fields = (record { counter = lit< tt; offset = lit< tt }, (record { counter = lit< tt; offset = lit< tt }, tt)) };
    short = lit≤ tt;
  };
  checksums = λ _. refl;
  start = ((λ e. absurd (false≢true e), λ e. absurd (omega arith)), λ e. absurd (omega arith));
  channels = ((λ _. refl, λ _. refl), λ lt. absurd (omega arith), λ _. refl);
  sequence = refl;
  counts = (tt, tt, tt);
  index = ((lit< tt, inl refl), refl);
  counters = (λ e. absurd (omega arith), λ _. refl);
  events = tt;
  reports = (refl, tt);
}

-- the packets of data are an unclosed file
pub recording-says : FileSays (file_bytes data_packets) (0x41 ∷ 0x42 ∷ 0x43 ∷ 0x44 ∷ []) recorded false
recording-says = (
  data_packets,
  refl,
  record {
    file = record { each = (setup-first, (time-second, (uart-third, tt))); start = lit≤ tt; index = λ _. refl; reports = refl };
    setup_is = refl;
    entries_are = λ channel. refl;
    closed_is = refl;
  },
)

-- with the index they are a closed one
pub closed-says : FileSays (file_bytes a_recording) (0x41 ∷ 0x42 ∷ 0x43 ∷ 0x44 ∷ []) recorded true
closed-says = (
  a_recording,
  refl,
  record {
    file = record { each = (setup-first, (time-second, (uart-third, (node-fourth, (root-fifth, tt))))); start = lit≤ tt; index = λ e. absurd (false≢true (sym e)); reports = refl };
    setup_is = refl;
    entries_are = λ channel. refl;
    closed_is = refl;
  },
)

-- and without the root none
pub no-root : IsFile (data_packets ++ a_node_packet ∷ []) → ⊥
no-root file = omega (arith, file.index refl)
