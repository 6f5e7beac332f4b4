-- Entries of nodes and of roots as entries of a body.
use Rattle.std.specs.Prelude.{◌≡◌, ℕ, ◌+◌, ◌*◌, ◌/◌, ◌%◌, ◌^◌, ◌<◌, ◌≤◌, ◌==◌, ◌&&◌, ◌||◌, true, Some, List, [], ◌++◌, refl}
use Rattle.std.proofs.Common.{arith, lit<}
use Rattle.r10_count.specs.Bytes.{le_bytes}
use Rattle.r10_count.proofs.Fronts.{same_stamp, same_u32, same_u64}
use Rattle.r10_count.specs.Form.{Form}
use Rattle.r10_indexbody.specs.Index.{node_entry, root_entry, FitsNode, FitsRoot}
use Rattle.r10_indexbody.specs.declared.entry.NodeEntry.{NodeEntry}
use Rattle.r10_indexbody.specs.declared.entry.RootEntry.{RootEntry}

-- ---- nodes

pub twenty : (n : ℕ) → Some 20 ≡ Some n → 20 ≤ n
twenty n e = let is : 20 ≡ n = cc in omega arith

pub node-word : (n : ℕ) → 2147483648 + n % 65536 < 2 ^ 32
node-word n = omega arith

abbrev pub node_of : ℕ → ℕ → ℕ → ℕ → NodeEntry
node_of counter data_type channel offset = record { counter = counter; data_type = data_type; channel = channel; offset = offset }

same_node : (a b c d e f g h : ℕ) → a ≡ b → c ≡ d → e ≡ f → g ≡ h → node_of a c e g ≡ node_of b d f h
same_node a b c d e f g h counters types channels offsets = rw (counters, types, channels, offsets) refl

-- no other entry is spelled so
pub node-one : (e d : NodeEntry) → FitsNode e → FitsNode d → node_entry e ≡ node_entry d → e ≡ d
node-one e d fe fd same =
    let first = same_stamp e.counter d.counter (le_bytes 4 (65536 * e.data_type + e.channel) ++ le_bytes 8 e.offset)
    (le_bytes 4 (65536 * d.data_type + d.channel) ++ le_bytes 8 d.offset) fe.counter fd.counter same in
    let second = same_u32 (65536 * e.data_type + e.channel) (65536 * d.data_type + d.channel) (le_bytes 8 e.offset)
    (le_bytes 8 d.offset)
    (omega (arith, fe.data_type, fe.channel)) (omega (arith, fd.data_type, fd.channel)) first.1 in
    let third = same_u64 e.offset d.offset [] [] fe.offset fd.offset second.1 in
    same_node e.counter d.counter e.data_type d.data_type e.channel d.channel e.offset d.offset first.0
    (omega (arith, second.0, fe.channel, fd.channel)) (omega (arith, second.0, fe.channel, fd.channel)) third.0

abbrev pub node_form : Form NodeEntry
node_form = record {
  front = 20;
  reported = λ front. Some 20;
  count = λ e. e.counter;
  spelled = λ before e. node_entry e;
  size = λ e. 20;
  Fits = λ before e. FitsNode e;
  opens = λ counter e. true;
  suits = λ setting e. true;
  word = λ setting n. 2147483648 + n % 65536;
  agrees = λ word n. word / 2147483648 == 1 && word % 65536 == n;
  some = lit< tt;
  covers = λ front. twenty;
  sized = λ before e fits. refl;
  tells = λ before e fits. (lit< tt, refl);
  one = λ before e d. node-one e d;
  alone = λ e. refl;
  worded = λ setting. node-word;
}

-- ---- roots

pub sixteen : (n : ℕ) → Some 16 ≡ Some n → 16 ≤ n
sixteen n e = let is : 16 ≡ n = cc in omega arith

pub root-word : (n : ℕ) → n % 65536 < 2 ^ 32
root-word n = omega arith

abbrev pub root_of : ℕ → ℕ → RootEntry
root_of counter offset = record { counter = counter; offset = offset }

same_root : (a b c d : ℕ) → a ≡ b → c ≡ d → root_of a c ≡ root_of b d
same_root a b c d counters offsets = rw (counters, offsets) refl

pub root-one : (e d : RootEntry) → FitsRoot e → FitsRoot d → root_entry e ≡ root_entry d → e ≡ d
root-one e d fe fd same =
    let first = same_stamp e.counter d.counter (le_bytes 8 e.offset) (le_bytes 8 d.offset) fe.counter fd.counter same in
    let second = same_u64 e.offset d.offset [] [] fe.offset fd.offset first.1 in
    same_root e.counter d.counter e.offset d.offset first.0 second.0

abbrev pub root_form : Form RootEntry
root_form = record {
  front = 16;
  reported = λ front. Some 16;
  count = λ e. e.counter;
  spelled = λ before e. root_entry e;
  size = λ e. 16;
  Fits = λ before e. FitsRoot e;
  opens = λ counter e. true;
  suits = λ setting e. true;
  word = λ setting n. n % 65536;
  agrees = λ word n. word / 2147483648 == 0 && (word % 65536 == n || word % 65536 + 1 == n);
  some = lit< tt;
  covers = λ front. sixteen;
  sized = λ before e fits. refl;
  tells = λ before e fits. (lit< tt, refl);
  one = λ before e d. root-one e d;
  alone = λ e. refl;
  worded = λ setting. root-word;
}
