-- How the entries of a body are spelled.
use Rattle.std.specs.Prelude.{◌≡◌, ◌^◌, ◌<◌, ◌≤◌, ℕ, Bool, true, IsTrue, Option, Some, List, [], ◌∷◌, ◌++◌, length, take}
use Rattle.std.specs.List.{concat, AllByRecursion}
use Rattle.r10_count.specs.Bytes.{le_bytes}

-- the bytes of one entry, whoever wrote it: the first of them tell how many there are, or that no entry begins so
abbrev pub IsEntryBytes : ℕ → (List ℕ → Option ℕ) → List ℕ → Type 0
IsEntryBytes front reported bytes = (front ≤ length bytes) × (reported (take front bytes) ≡ Some (length bytes))

-- Entries of one kind. Each is spelled after the one before, whose count it may look at; the first looks at the packet's counter.
pub record Form (E : Type 0) : Type 1 where
  -- how many bytes tell an entry's length, and the length that they tell
  pub front : ℕ
  pub reported : List ℕ → Option ℕ
  -- the count of its first data
  pub count : E → ℕ
  -- the bytes that the writer makes of it after an entry at a count, their number, and the ranges that its fields have there
  pub spelled : ℕ → E → List ℕ
  pub size : E → ℕ
  pub Fits : ℕ → E → Type 0
  -- whether it may come first in a packet of a counter, and whether it may come in a channel of a setting
  pub opens : ℕ → E → Bool
  pub suits : ℕ → E → Bool
  -- the channel specific data word of a channel of a setting and so many entries, and whether any writer's word goes with so many
  pub word : ℕ → ℕ → ℕ
  pub agrees : ℕ → ℕ → Bool
  -- an entry's length is known by some bytes, which are its own
  pub some : 0 < front
  pub covers : (bytes : List ℕ) (n : ℕ) → reported bytes ≡ Some n → front ≤ n
  -- the writer's spelling has its size, tells its length, and is that of no other entry
  pub sized : (before : ℕ) (e : E) → Fits before e → length (spelled before e) ≡ size e
  pub tells : (before : ℕ) (e : E) → Fits before e → IsEntryBytes front reported (spelled before e)
  pub one : (before : ℕ) (e d : E) → Fits before e → Fits before d → spelled before e ≡ spelled before d → e ≡ d
  -- an entry may come first in a packet whose counter is its count
  pub alone : (e : E) → opens (count e) e ≡ true
  -- the word has 32 bits
  pub worded : (setting n : ℕ) → word setting n < 2 ^ 32

-- the bytes of entries, each with its length
abbrev pub IsSplit : {E : Type 0} → Form E → List (List ℕ) → List ℕ → Type 0
IsSplit form parts bytes = AllByRecursion (IsEntryBytes form.front form.reported) parts × (bytes ≡ concat parts)

-- each entry after the one before, the first after a count
abbrev pub spelled_all : {E : Type 0} → Form E → ℕ → List E → List ℕ
spelled_all form before [] = []
spelled_all form before (e ∷ entries) = form.spelled before e ++ spelled_all form (form.count e) entries

abbrev pub FitsAll : {E : Type 0} → Form E → ℕ → List E → Type 0
FitsAll form before [] = Unit {0}
FitsAll form before (e ∷ entries) = form.Fits before e × FitsAll form (form.count e) entries

-- the bytes that the writer makes of these entries
abbrev pub IsSpelled : {E : Type 0} → Form E → ℕ → List E → List ℕ → Type 0
IsSpelled form before entries bytes = FitsAll form before entries × (bytes ≡ spelled_all form before entries)

-- there is a first entry, which may come first in a packet of this counter
abbrev pub OpensAll : {E : Type 0} → Form E → ℕ → List E → Type 0
OpensAll form counter [] = ⊥
OpensAll form counter (e ∷ entries) = IsTrue (form.opens counter e)

abbrev pub SuitsAll : {E : Type 0} → Form E → ℕ → List E → Type 0
SuitsAll form setting entries = AllByRecursion (λ e. IsTrue (form.suits setting e)) entries

-- the bytes of a word for these entries, and of the entries
abbrev pub body_bytes : {E : Type 0} → Form E → ℕ → ℕ → List E → List ℕ
body_bytes form setting counter entries = le_bytes 4 (form.word setting (length entries)) ++ spelled_all form counter entries

-- the body that the writer makes of these entries on a channel of this setting, in a packet of this counter:
-- at least one, and as many as its word tells
pub record IsBody {E : Type 0} (form : Form E) (setting counter : ℕ) (entries : List E) (body : List ℕ) : Type 0 where
  pub opens : OpensAll form counter entries
  pub suits : SuitsAll form setting entries
  pub agrees : form.agrees (form.word setting (length entries)) (length entries) ≡ true
  pub fits : FitsAll form counter entries
  pub spelled : body ≡ body_bytes form setting counter entries

-- whoever wrote it: a word, and exactly the entries that go with it
abbrev pub IsForeign : {E : Type 0} → Form E → List ℕ → Type 0
IsForeign form body =
    (word : ℕ) × (parts : List (List ℕ)) × (word < 2 ^ 32) × (form.agrees word (length parts) ≡ true)
    × AllByRecursion (IsEntryBytes form.front form.reported) parts × (body ≡ le_bytes 4 word ++ concat parts)
