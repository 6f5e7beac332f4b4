-- What entries come to that are read where they stand.
use Rattle.std.proofs.Common.{◌≡◌, ℕ, ◌+◌, ◌*◌, ◌^◌, ◌<◌, ◌≤◌, ◌&&◌, Bool, true, false, max, nat_le, Some, List, [], ◌∷◌, ◌++◌, length, map, refl, sym, subst, ap, ◌∙◌, arith, length-append}
use Rattle.std.specs.List.{fold}
use Rattle.std.proofs.lemmas.Bool.{leb-true}
use Rattle.r10_count.specs.Bytes.{le_bytes}
use Rattle.r10_count.specs.Form.{Form, IsSpelled, IsBody, OpensAll, SuitsAll, spelled_all}
use Rattle.r10_count.proofs.Bodies.{body_front, body_of, one_spelled}
use Rattle.r10_count.proofs.BodyParts.{entry_some}
use Rattle.r10_count.proofs.Spelling.{behind_first}
use Rattle.r10_body.specs.declared.entry.Timed.{Timed}
use Rattle.r10_packet_rules.specs.Glance.{AreEntries, IsGlimpse}
use Rattle.r10_packet_rules.specs.Tally.{empty_tally, tally_behind, tally_of, with_message}
use Rattle.r10_packet_rules.specs.declared.scan.Glimpse.{Glimpse}
use Rattle.r10_packet_rules.specs.declared.tally.EntryTally.{EntryTally}

-- ---- one entry

-- entries that stand there begin with the one that was found
pub first_of : {E : Type 0} (form : Form E) (count : ℕ) (rest after : List ℕ) (e : E) → form.Fits count e → rest ≡ form.spelled count e ++ after → (all : List E) → IsSpelled form count all rest
    → (tail : List E) × (all ≡ e ∷ tail) × IsSpelled form (form.count e) tail after
first_of form count rest after e fits q all s =
    behind_first form count (form.spelled count e) after e [] all all (form.tells count e fits) (λ d other same. form.one count e d fits other same) refl (s.0, sym q ∙ s.1)

-- and with it in front they stand there
pub with_first : {E : Type 0} (form : Form E) (count : ℕ) (rest after : List ℕ) (e : E) → form.Fits count e → rest ≡ form.spelled count e ++ after → (tail : List E) → IsSpelled form (form.count e) tail after
    → IsSpelled form count (e ∷ tail) rest
with_first form count rest after e fits q tail s = ((fits, s.0), q ∙ ap (λ t. form.spelled count e ++ t) s.1)

-- what stands after it, by the count that was glanced at
from_glimpse : {E : Type 0} (form : Form E) (said : E → Timed) (setting count : ℕ) (bytes after : List ℕ) (g : Glimpse) (e : E) → IsGlimpse form said setting count bytes g e
    → (tail : List E) → IsSpelled form g.count tail after → IsSpelled form (form.count e) tail after
from_glimpse form said setting count bytes after g e is tail s = subst (λ n. IsSpelled form n tail after) (is.count ∙ sym is.same) s

to_glimpse : {E : Type 0} (form : Form E) (said : E → Timed) (setting count : ℕ) (bytes after : List ℕ) (g : Glimpse) (e : E) → IsGlimpse form said setting count bytes g e
    → (tail : List E) → IsSpelled form (form.count e) tail after → IsSpelled form g.count tail after
to_glimpse form said setting count bytes after g e is tail s = subst (λ n. IsSpelled form n tail after) (is.same ∙ sym is.count) s

sums_with : {E : Type 0} (form : Form E) (said : E → Timed) (setting count : ℕ) (bytes : List ℕ) (tally : EntryTally) (g : Glimpse) (e : E)
    → IsGlimpse form said setting count bytes g e → with_message tally (said e) ≡ tally_behind tally g.count g.cost
sums_with form said setting count bytes tally g e is = sym (ap (λ n. tally_behind tally n g.cost) is.count ∙ ap (λ n. tally_behind tally (said e).count n) is.cost)

-- ---- all entries

-- what the entries so far come to, and those that the rest is, come to what all do
pub record Scanned {E : Type 0} (form : Form E) (said : E → Timed) (setting before : ℕ) (bytes : List ℕ) (count : ℕ) (rest : List ℕ) (tally : EntryTally) : Type 0 where
  pub some : (tail : List E) → SuitsAll form setting tail → IsSpelled form count tail rest
      → (all : List E) × AreEntries form setting before all bytes × (tally_of (map said all) ≡ fold with_message tally (map said tail))
  pub only : (all : List E) → AreEntries form setting before all bytes → (tail : List E) × SuitsAll form setting tail × IsSpelled form count tail rest
  pub few : tally.entries + length rest ≤ length bytes
  pub cheap : tally.cost + 29 * length rest ≤ 29 * length bytes

pub scanned_first : {E : Type 0} (form : Form E) (said : E → Timed) (setting before : ℕ) (bytes after : List ℕ) (g : Glimpse) (e : E)
    → IsGlimpse form said setting before (form.spelled before e) g e → bytes ≡ form.spelled before e ++ after → form.opens before e ≡ true
    → Scanned form said setting before bytes g.count after (tally_behind empty_tally g.count g.cost)
scanned_first form said setting before bytes after g e is q opens =
    let s = form.spelled before e in
    let long : length bytes ≡ length s + length after = ap (λ (t : List ℕ). length t) q ∙ length-append s after in
    let byte : 0 < length s = entry_some form s (form.tells before e is.fits) in
    record {
      some = λ tail suits spelled. (
        e ∷ tail,
        record { opens = opens; suits = (is.suits, suits); spelled = with_first form before bytes after e is.fits q tail (from_glimpse form said setting before s after g e is tail spelled) },
        ap (λ t. fold with_message t (map said tail)) (sums_with form said setting before s empty_tally g e is),
      );
      only = λ all are.
          let behind = first_of form before bytes after e is.fits q all are.spelled in
          let suits : SuitsAll form setting (e ∷ behind.0) = subst (λ es. SuitsAll form setting es) behind.1 are.suits in
          (behind.0, suits.1, to_glimpse form said setting before s after g e is behind.0 behind.2);
      few = omega arith;
      cheap = omega (arith, is.cheap);
    }

pub scanned_more : {E : Type 0} (form : Form E) (said : E → Timed) (setting before : ℕ) (bytes : List ℕ) (count : ℕ) (rest after : List ℕ) (tally : EntryTally) (g : Glimpse) (e : E)
    → IsGlimpse form said setting count (form.spelled count e) g e → rest ≡ form.spelled count e ++ after
    → Scanned form said setting before bytes count rest tally → Scanned form said setting before bytes g.count after (tally_behind tally g.count g.cost)
scanned_more form said setting before bytes count rest after tally g e is q so_far =
    let s = form.spelled count e in
    let long : length rest ≡ length s + length after = ap (λ (t : List ℕ). length t) q ∙ length-append s after in
    let byte : 0 < length s = entry_some form s (form.tells count e is.fits) in
    record {
      some = λ tail suits spelled.
          let whole = so_far.some (e ∷ tail) (is.suits, suits) (with_first form count rest after e is.fits q tail (from_glimpse form said setting count s after g e is tail spelled)) in
          (whole.0, whole.1, whole.2 ∙ ap (λ t. fold with_message t (map said tail)) (sums_with form said setting count s tally g e is));
      only = λ all are.
          let left = so_far.only all are in
          let behind = first_of form count rest after e is.fits q left.0 left.2 in
          let suits : SuitsAll form setting (e ∷ behind.0) = subst (λ es. SuitsAll form setting es) behind.1 left.1 in
          (behind.0, suits.1, to_glimpse form said setting count s after g e is behind.0 behind.2);
      few = omega (arith, so_far.few);
      cheap = omega (arith, so_far.cheap, is.cheap);
    }

-- with one entry or more: while the counts rise, the last one is the greatest
abbrev pub tally_at : ℕ → ℕ → ℕ → ℕ → ℕ → Bool → EntryTally
tally_at entries cost first last greatest rise = record { entries = entries; cost = cost; counts = Some (record { first = first; last = last; greatest = greatest; rise = rise }) }

pub record ScannedTo {E : Type 0} (form : Form E) (said : E → Timed) (setting before : ℕ) (bytes : List ℕ) (entries cost first last greatest : ℕ) (rise : Bool) (rest : List ℕ) : Type 0 where
  pub scanned : Scanned form said setting before bytes last rest (tally_at entries cost first last greatest rise)
  pub top : rise ≡ true → greatest ≡ last

pub scanned_one : {E : Type 0} (form : Form E) (said : E → Timed) (setting before : ℕ) (bytes after : List ℕ) (g : Glimpse) (e : E)
    → IsGlimpse form said setting before (form.spelled before e) g e → bytes ≡ form.spelled before e ++ after → form.opens before e ≡ true
    → ScannedTo form said setting before bytes 1 g.cost g.count g.count g.count true after
scanned_one form said setting before bytes after g e is q opens =
    let one = scanned_first form said setting before bytes after g e is q opens in
    let sum : 0 + g.cost ≡ g.cost = omega arith in
    record { scanned = subst (λ n. Scanned form said setting before bytes g.count after (tally_at 1 n g.count g.count g.count true)) sum one; top = λ _. refl }

same_rise : (rise : Bool) (last greatest count : ℕ) → (rise ≡ true → greatest ≡ last) → (rise && nat_le last count) ≡ (rise && nat_le greatest count)
same_rise true last greatest count top = ap (λ n. nat_le n count) (sym (top refl))
same_rise false last greatest count top = refl

new_top : (rise : Bool) (greatest count : ℕ) → (rise && nat_le greatest count) ≡ true → max greatest count ≡ count
new_top true greatest count is = let le : greatest ≤ count = leb-true greatest count is in omega (arith, le)
new_top false greatest count is = cc

pub scanned_on : {E : Type 0} (form : Form E) (said : E → Timed) (setting before : ℕ) (bytes : List ℕ) (entries cost first last greatest : ℕ) (rise : Bool) (rest after : List ℕ) (g : Glimpse) (e : E)
    → IsGlimpse form said setting last (form.spelled last e) g e → rest ≡ form.spelled last e ++ after → ScannedTo form said setting before bytes entries cost first last greatest rise rest
    → ScannedTo form said setting before bytes (entries + 1) (cost + g.cost) first g.count (max greatest g.count) (rise && nat_le greatest g.count) after
scanned_on form said setting before bytes entries cost first last greatest rise rest after g e is q so_far =
    let more = scanned_more form said setting before bytes last rest after (tally_at entries cost first last greatest rise) g e is q so_far.scanned in
    record {
      scanned = subst (λ b. Scanned form said setting before bytes g.count after (tally_at (entries + 1) (cost + g.cost) first g.count (max greatest g.count) b)) (same_rise rise last greatest g.count so_far.top) more;
      top = new_top rise greatest g.count;
    }

-- ---- no entries

-- none begins so
pub none_first : {E : Type 0} (form : Form E) (setting before : ℕ) (bytes : List ℕ) → ((d : E) (after : List ℕ) → form.Fits before d → form.suits setting d ≡ true → bytes ≡ form.spelled before d ++ after → ⊥)
    → (all : List E) → AreEntries form setting before all bytes → ⊥
none_first form setting before bytes none [] are = absurd are.opens
none_first form setting before bytes none (d ∷ ds) are = none d (spelled_all form (form.count d) ds) are.spelled.0.0 are.suits.0 are.spelled.1

-- the first one may not come first
pub none_opens : {E : Type 0} (form : Form E) (said : E → Timed) (setting before : ℕ) (bytes after : List ℕ) (g : Glimpse) (e : E)
    → IsGlimpse form said setting before (form.spelled before e) g e → bytes ≡ form.spelled before e ++ after → form.opens before e ≡ false → (all : List E) → AreEntries form setting before all bytes → ⊥
none_opens form said setting before bytes after g e is q closed all are =
    let behind = first_of form before bytes after e is.fits q all are.spelled in
    let opens : OpensAll form before (e ∷ behind.0) = subst (λ es. OpensAll form before es) behind.1 are.opens in
    let open_too : form.opens before e ≡ true = opens in
    absurd (cc (closed, open_too))

pub stuck : {E : Type 0} (form : Form E) (setting count : ℕ) (rest : List ℕ) (tail : List E) → 0 < length rest
    → ((d : E) (after : List ℕ) → form.Fits count d → form.suits setting d ≡ true → rest ≡ form.spelled count d ++ after → ⊥) → SuitsAll form setting tail → IsSpelled form count tail rest → ⊥
stuck form setting count rest [] lt none suits s = omega (arith, ap (λ (t : List ℕ). length t) s.1)
stuck form setting count rest (d ∷ ds) lt none suits s = none d (spelled_all form (form.count d) ds) s.0.0 suits.0 s.1

pub scanned_stuck : {E : Type 0} (form : Form E) (said : E → Timed) (setting before : ℕ) (bytes : List ℕ) (count : ℕ) (rest : List ℕ) (tally : EntryTally) → Scanned form said setting before bytes count rest tally
    → 0 < length rest → ((d : E) (after : List ℕ) → form.Fits count d → form.suits setting d ≡ true → rest ≡ form.spelled count d ++ after → ⊥)
    → (all : List E) → AreEntries form setting before all bytes → ⊥
scanned_stuck form said setting before bytes count rest tally so_far lt none all are = (let left = so_far.only all are in stuck form setting count rest left.0 lt none left.1 left.2)

pub scanned_all : {E : Type 0} (form : Form E) (said : E → Timed) (setting before : ℕ) (bytes : List ℕ) (count : ℕ) (rest : List ℕ) (tally : EntryTally) → Scanned form said setting before bytes count rest tally
    → rest ≡ [] → (all : List E) × AreEntries form setting before all bytes × (tally ≡ tally_of (map said all))
scanned_all form said setting before bytes count rest tally so_far e = (let whole = so_far.some [] tt (tt, e) in (whole.0, whole.1, sym whole.2))

-- ---- the body

number_from : {E : Type 0} (said : E → Timed) (t : EntryTally) (es : List E) → (fold with_message t (map said es)).entries ≡ t.entries + length es
number_from said t [] = omega arith
number_from said t (e ∷ es) = omega (arith, number_from said (with_message t (said e)) es)

pub number_is : {E : Type 0} (said : E → Timed) (t : EntryTally) (es : List E) → t ≡ tally_of (map said es) → t.entries ≡ length es
number_is said t es is = omega (arith, number_from said empty_tally es, ap (λ (u : EntryTally). u.entries) is)

-- the entries that were scanned are the body's, where word and number are
pub body_is : {E : Type 0} (form : Form E) (setting counter word number : ℕ) (rest body : List ℕ) (es : List E) → body ≡ le_bytes 4 word ++ rest → AreEntries form setting counter es rest → number ≡ length es
    → word ≡ form.word setting number → form.agrees word number ≡ true → IsBody form setting counter es body
body_is form setting counter word number rest body es e are n reported agrees = body_of form setting counter word number rest body es e n reported agrees are.spelled are.opens are.suits

-- a body's entries stand after its word
pub body_entries : {E : Type 0} (form : Form E) (setting counter word : ℕ) (rest body : List ℕ) → word < 2 ^ 32 → body ≡ le_bytes 4 word ++ rest → (es : List E) → IsBody form setting counter es body
    → AreEntries form setting counter es rest
body_entries form setting counter word rest body lt e es is =
    record { opens = is.opens; suits = is.suits; spelled = (body_front form setting counter word rest body lt e es is).1 }

-- and word and number are so
pub record Agrees {E : Type 0} (form : Form E) (setting word number : ℕ) : Type 0 where
  pub reported : word ≡ form.word setting number
  pub agrees : form.agrees word number ≡ true

pub body_agrees : {E : Type 0} (form : Form E) (setting counter word number : ℕ) (rest body : List ℕ) (ds es : List E) → word < 2 ^ 32 → body ≡ le_bytes 4 word ++ rest
    → AreEntries form setting counter ds rest → number ≡ length ds → IsBody form setting counter es body → Agrees form setting word number
body_agrees {E = E} form setting counter word number rest body ds es lt e are n is =
    let front = body_front form setting counter word rest body lt e es is in
    let same : es ≡ ds = one_spelled form counter es ds is.fits are.spelled.0 (sym front.1.1 ∙ are.spelled.1) in
    let count : length es ≡ number = ap (λ (t : List E). length t) same ∙ sym n in
    record {
      reported = front.0 ∙ ap (form.word setting) count;
      agrees = sym (ap (form.agrees word) count) ∙ ap (λ w. form.agrees w (length es)) front.0 ∙ is.agrees;
    }
