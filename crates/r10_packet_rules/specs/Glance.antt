-- Entries that are read where they stand.
use Rattle.std.specs.Prelude.{◌≡◌, ℕ, ◌*◌, ◌≤◌, true, List, ◌++◌, length}
use Rattle.r10_count.specs.Form.{Form, IsSpelled, OpensAll, SuitsAll}
use Rattle.r10_body.specs.declared.entry.Timed.{Timed}
use Rattle.r10_packet_rules.specs.Tally.{timed_cost}
use Rattle.r10_packet_rules.specs.declared.scan.Glimpse.{Glimpse}

-- the writer spells the entry with these bytes after one at a count, it may come in a channel of this setting, and this is its
-- message's count and its cost, which is at most so many times its bytes
pub record IsGlimpse {E : Type 0} (form : Form E) (said : E → Timed) (setting before : ℕ) (bytes : List ℕ) (g : Glimpse)
    (e : E) : Type 0 where
  pub fits : form.Fits before e
  pub suits : form.suits setting e ≡ true
  pub spelled : bytes ≡ form.spelled before e
  pub count : g.count ≡ (said e).count
  pub same : form.count e ≡ (said e).count
  pub cost : g.cost ≡ timed_cost (said e)
  pub cheap : g.cost ≤ 29 * length bytes

-- after any entry the writer spells this one with the front of the bytes, and it may come in any packet
pub record StandsFirst {E : Type 0} (form : Form E) (e : E) (bytes rest : List ℕ) : Type 0 where
  pub fits : (before : ℕ) → form.Fits before e
  pub spelled : (before : ℕ) → bytes ≡ form.spelled before e ++ rest
  pub opens : (counter : ℕ) → form.opens counter e ≡ true
  pub suits : (setting : ℕ) → form.suits setting e ≡ true

-- the writer makes these bytes of the entries after the word of a body, on a channel of this setting and in a packet of this
-- counter
pub record AreEntries {E : Type 0} (form : Form E) (setting counter : ℕ) (entries : List E) (bytes : List ℕ) : Type 0 where
  pub opens : OpensAll form counter entries
  pub suits : SuitsAll form setting entries
  pub spelled : IsSpelled form counter entries bytes
