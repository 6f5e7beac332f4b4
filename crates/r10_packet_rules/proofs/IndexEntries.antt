-- The entries of index packets, where they stand.
use Rattle.std.proofs.Common.{◌≡◌, ℕ, ◌+◌, ◌*◌, ◌/◌, ◌%◌, ◌^◌, ◌<◌, ◌≤◌, List, [], ◌∷◌, ◌++◌, length, refl, sym, subst, ap, ◌∙◌, arith, length-append}
use Rattle.r10_count.specs.Bytes.{le_bytes}
use Rattle.r10_count.specs.Count.{IsCount, stamp}
use Rattle.r10_count.specs.Form.{Form, IsSpelled, SuitsAll}
use Rattle.r10_count.proofs.BodyParts.{entry_some}
use Rattle.r10_count.proofs.Fronts.{same_stamp, same_u32}
use Rattle.r10_indexbody.specs.Index.{FitsNode, node_entry}
use Rattle.r10_indexbody.specs.Entry.{node_form, node_of, root_form, root_of}
use Rattle.r10_indexbody.specs.declared.entry.NodeEntry.{NodeEntry}
use Rattle.r10_indexbody.specs.declared.entry.RootEntry.{RootEntry}
use Rattle.r10_packet_rules.specs.Glance.{AreEntries, StandsFirst}
use Rattle.r10_packet_rules.proofs.Scanned.{first_of, stuck, with_first}

-- ---- one entry

abbrev node_word : ℕ → ℕ
node_word packet = 65536 * (packet / 65536) + packet % 65536

pub node_stands : (bytes behind_stamp behind_word rest : List ℕ) (counter packet offset : ℕ) → IsCount counter → packet < 16777216 → offset < 2 ^ 64 → bytes ≡ stamp counter ++ behind_stamp
    → behind_stamp ≡ le_bytes 4 packet ++ behind_word → behind_word ≡ le_bytes 8 offset ++ rest → (e : NodeEntry) × StandsFirst node_form e bytes rest
node_stands bytes behind_stamp behind_word rest counter packet offset lc lp lo e1 e2 e3 =
    let e = node_of counter (packet / 65536) (packet % 65536) offset in
    let word : packet ≡ node_word packet = omega arith in
    let is : bytes ≡ node_entry e ++ rest = e1 ∙ ap (λ t. stamp counter ++ t) (e2 ∙ ap (λ t. le_bytes 4 packet ++ t) e3) ∙ ap (λ w. stamp counter ++ le_bytes 4 w ++ le_bytes 8 offset ++ rest) word in (
      e,
      record {
        fits = λ before. record { counter = lc; data_type = omega (arith, lp); channel = omega arith; offset = lo };
        spelled = λ before. is;
        opens = λ counter. refl;
        suits = λ setting. refl;
      },
    )

-- no node's entry has a higher bit
pub node_low : (bytes behind_stamp behind_word left : List ℕ) (counter packet : ℕ) (e : NodeEntry) → IsCount counter → packet < 2 ^ 32 → bytes ≡ stamp counter ++ behind_stamp
    → behind_stamp ≡ le_bytes 4 packet ++ behind_word → FitsNode e → bytes ≡ node_entry e ++ left → packet < 16777216
node_low bytes behind_stamp behind_word left counter packet e lc lp e1 e2 fits is =
    let word = 65536 * e.data_type + e.channel in
    let first = same_stamp counter e.counter behind_stamp (le_bytes 4 word ++ le_bytes 8 e.offset ++ left) lc fits.counter (sym e1 ∙ is) in
    let second = same_u32 packet word behind_word (le_bytes 8 e.offset ++ left) lp (omega (arith, fits.data_type, fits.channel)) (sym e2 ∙ first.1) in
    omega (arith, second.0, fits.data_type, fits.channel)

pub root_stands : (bytes behind_stamp rest : List ℕ) (counter offset : ℕ) → IsCount counter → offset < 2 ^ 64 → bytes ≡ stamp counter ++ behind_stamp → behind_stamp ≡ le_bytes 8 offset ++ rest
    → (e : RootEntry) × StandsFirst root_form e bytes rest
root_stands bytes behind_stamp rest counter offset lc lo e1 e2 = (
  root_of counter offset,
  record {
    fits = λ before. record { counter = lc; offset = lo };
    spelled = λ before. e1 ∙ ap (λ t. stamp counter ++ t) e2;
    opens = λ counter. refl;
    suits = λ setting. refl;
  },
)

-- ---- all entries

-- so many entries so far, and those that the rest is, are those of all bytes
pub record Stood {E : Type 0} (form : Form E) (bytes rest : List ℕ) (n : ℕ) : Type 0 where
  pub last : ℕ
  pub some : (tail : List E) → SuitsAll form 0 tail → IsSpelled form last tail rest → (all : List E) × AreEntries form 0 0 all bytes × (length all ≡ n + length tail)
  pub only : (all : List E) → AreEntries form 0 0 all bytes → (tail : List E) × SuitsAll form 0 tail × IsSpelled form last tail rest
  pub room : n + length rest ≤ length bytes

pub longer : {E : Type 0} (form : Form E) (e : E) (bytes rest : List ℕ) → StandsFirst form e bytes rest → length rest < length bytes
longer form e bytes rest is =
    omega (arith, entry_some form (form.spelled 0 e) (form.tells 0 e (is.fits 0)), length-append (form.spelled 0 e) rest, ap (λ (t : List ℕ). length t) (is.spelled 0))

pub stood_first : {E : Type 0} (form : Form E) (bytes rest : List ℕ) (e : E) → StandsFirst form e bytes rest → Stood form bytes rest 1
stood_first form bytes rest e is = record {
  last = form.count e;
  some = λ tail suits spelled. (
    e ∷ tail,
    record { opens = is.opens 0; suits = (is.suits 0, suits); spelled = with_first form 0 bytes rest e (is.fits 0) (is.spelled 0) tail spelled },
    omega arith,
  );
  only = λ all are.
      let behind = first_of form 0 bytes rest e (is.fits 0) (is.spelled 0) all are.spelled in
      let suits : SuitsAll form 0 (e ∷ behind.0) = subst (λ es. SuitsAll form 0 es) behind.1 are.suits in
      (behind.0, suits.1, behind.2);
  room = omega (arith, longer form e bytes rest is);
}

pub stood_more : {E : Type 0} (form : Form E) (bytes rest after : List ℕ) (n : ℕ) (e : E) → StandsFirst form e rest after → Stood form bytes rest n → Stood form bytes after (n + 1)
stood_more form bytes rest after n e is so_far = record {
  last = form.count e;
  some = λ tail suits spelled.
      let whole = so_far.some (e ∷ tail) (is.suits 0, suits) (with_first form so_far.last rest after e (is.fits so_far.last) (is.spelled so_far.last) tail spelled) in
      (whole.0, whole.1, whole.2 ∙ omega arith);
  only = λ all are.
      let left = so_far.only all are in
      let behind = first_of form so_far.last rest after e (is.fits so_far.last) (is.spelled so_far.last) left.0 left.2 in
      let suits : SuitsAll form 0 (e ∷ behind.0) = subst (λ es. SuitsAll form 0 es) behind.1 left.1 in
      (behind.0, suits.1, behind.2);
  room = omega (arith, longer form e rest after is, so_far.room);
}

pub stood_all : {E : Type 0} (form : Form E) (bytes rest : List ℕ) (n : ℕ) → rest ≡ [] → Stood form bytes rest n → (all : List E) × AreEntries form 0 0 all bytes × (n ≡ length all)
stood_all form bytes rest n e so_far = (let whole = so_far.some [] tt (tt, e) in (whole.0, whole.1, omega (arith, whole.2)))

pub stood_stuck : {E : Type 0} (form : Form E) (bytes rest : List ℕ) (n : ℕ) → 0 < length rest → ((before : ℕ) (d : E) (after : List ℕ) → form.Fits before d → rest ≡ form.spelled before d ++ after → ⊥)
    → Stood form bytes rest n → (all : List E) → AreEntries form 0 0 all bytes → ⊥
stood_stuck form bytes rest n lt none so_far all are =
    let left = so_far.only all are in
    stuck form 0 so_far.last rest left.0 lt (λ d after fits suits q. none so_far.last d after fits q) left.1 left.2
