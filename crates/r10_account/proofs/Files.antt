-- The entries of the files that a recorder began, as files change.
use Rattle.std.proofs.Common.{◌≡◌, ℕ, Bool, true, false, cond, List, [], ◌∷◌, ◌++◌, map, take, drop, length, Some, None, refl, sym, ap, ◌∙◌, arith}
use Rattle.std.specs.List.{flat_map, last_or}
use Rattle.std.proofs.lemmas.List.{append_assoc, append-nil, take-append-drop, take_all}
use Rattle.std.proofs.lemmas.List.Elements.{filter-append}
use Rattle.r10_body.specs.Files.{on_channel}
use Rattle.r10_body.specs.Rules.{is_entry_on}
use Rattle.r10_body.specs.declared.entry.Entry.{Entry}
use Rattle.r10_machine.specs.Machine.{File, change_last, shown_entries}
use Rattle.r10_machine.specs.ControlCalls.{own_entries}
use Rattle.r10_machine.specs.Needs.{shown_part}
use Rattle.r10_machine.specs.SoundParts.{own_files}
use Rattle.r10_account.specs.Account.{shown_own}
use Rattle.std.proofs.lemmas.Option.{same_Some}

abbrev all_own : List File → List Entry
all_own files = flat_map (λ (f : File). f.entries) (own_files files)

abbrev all_shown : List File → List Entry
all_shown files = flat_map shown_entries (own_files files)

-- own files but the last show all that they have
abbrev pub AllBehind : List File → Type 0
AllBehind [] = Unit {0}
AllBehind (x ∷ []) = Unit {0}
AllBehind (x ∷ y ∷ ys) = (x.own ≡ true → x.shown ≡ length x.entries) × AllBehind (y ∷ ys)

-- ---- the last file changes

-- where it is its own, it gets more
all_more : (change : File → File) (more : List Entry) → ((f : File) → ((change f).own ≡ f.own) × ((change f).entries ≡ f.entries ++ more))
    → (files : List File) (f : File) → last_or None files ≡ Some f → f.own ≡ true → all_own (change_last change files) ≡ all_own files ++ more
all_more change more same [] f is own = cc
all_more change more same (x ∷ []) f is own =
    let here : x.own ≡ true = ap (λ (g : File). g.own) (same_Some _ _ is) ∙ own in
    alone (change x).own x.own ((same x).0 ∙ here) here
  where
    alone : (b c : Bool) → b ≡ true → c ≡ true → flat_map (λ (f : File). f.entries) (cond b (change x ∷ []) []) ≡ flat_map (λ (f : File). f.entries) (cond c (x ∷ []) []) ++ more
    alone true true one two = append-nil (change x).entries ∙ (same x).1 ∙ ap (λ (l : List Entry). l ++ more) (sym (append-nil x.entries))
    alone true false one two = cc
    alone false c one two = cc
all_more change more same (x ∷ y ∷ ys) f is own = by x.own (all_more change more same (y ∷ ys) f is own)
  where
    by : (b : Bool) → all_own (change_last change (y ∷ ys)) ≡ all_own (y ∷ ys) ++ more
        → flat_map (λ (f : File). f.entries) (cond b (x ∷ own_files (change_last change (y ∷ ys))) (own_files (change_last change (y ∷ ys)))) ≡ flat_map (λ (f : File). f.entries) (cond b (x ∷ own_files (y ∷ ys)) (own_files (y ∷ ys))) ++ more
    by true rest = ap (λ (l : List Entry). x.entries ++ l) rest ∙ sym (append_assoc x.entries (all_own (y ∷ ys)) more)
    by false rest = rest

pub own_more : (channel : ℕ) (change : File → File) (more : List Entry) → ((f : File) → ((change f).own ≡ f.own) × ((change f).entries ≡ f.entries ++ more))
    → (files : List File) (f : File) → last_or None files ≡ Some f → f.own ≡ true → own_entries channel (change_last change files) ≡ own_entries channel files ++ on_channel channel more
own_more channel change more same files f is own =
    ap (on_channel channel) (all_more change more same files f is own) ∙ filter-append (is_entry_on channel) (all_own files) more

-- or it keeps its entries
all_kept : (change : File → File) → ((f : File) → ((change f).own ≡ f.own) × ((change f).entries ≡ f.entries)) → (files : List File) → all_own (change_last change files) ≡ all_own files
all_kept change same [] = refl
all_kept change same (x ∷ []) = alone (change x).own x.own (same x).0
  where
    alone : (b c : Bool) → b ≡ c → flat_map (λ (f : File). f.entries) (cond b (change x ∷ []) []) ≡ flat_map (λ (f : File). f.entries) (cond c (x ∷ []) [])
    alone true true is = ap (λ (l : List Entry). l ++ []) (same x).1
    alone false false is = refl
    alone true false is = cc
    alone false true is = cc
all_kept change same (x ∷ y ∷ ys) = by x.own (all_kept change same (y ∷ ys))
  where
    by : (b : Bool) → all_own (change_last change (y ∷ ys)) ≡ all_own (y ∷ ys)
        → flat_map (λ (f : File). f.entries) (cond b (x ∷ own_files (change_last change (y ∷ ys))) (own_files (change_last change (y ∷ ys)))) ≡ flat_map (λ (f : File). f.entries) (cond b (x ∷ own_files (y ∷ ys)) (own_files (y ∷ ys)))
    by true rest = ap (λ (l : List Entry). x.entries ++ l) rest
    by false rest = rest

pub own_kept : (channel : ℕ) (change : File → File) → ((f : File) → ((change f).own ≡ f.own) × ((change f).entries ≡ f.entries)) → (files : List File) → own_entries channel (change_last change files) ≡ own_entries channel files
own_kept channel change same files = ap (on_channel channel) (all_kept change same files)

pub behind_kept : (change : File → File) (files : List File) → AllBehind files → AllBehind (change_last change files)
behind_kept change [] all = tt
behind_kept change (x ∷ []) all = tt
behind_kept change (x ∷ y ∷ []) (here, all) = (here, tt)
behind_kept change (x ∷ y ∷ z ∷ zs) (here, all) = (here, behind_kept change (y ∷ z ∷ zs) all)

-- ---- a file more

all_appended : (files : List File) (g : File) → g.own ≡ true → all_own (files ++ g ∷ []) ≡ all_own files ++ g.entries
all_appended [] g own = by g.own own
  where
    by : (b : Bool) → b ≡ true → flat_map (λ (f : File). f.entries) (cond b (g ∷ []) []) ≡ g.entries
    by true is = append-nil g.entries
    by false is = cc
all_appended (x ∷ xs) g own = by x.own (all_appended xs g own)
  where
    by : (b : Bool) → all_own (xs ++ g ∷ []) ≡ all_own xs ++ g.entries
        → flat_map (λ (f : File). f.entries) (cond b (x ∷ own_files (xs ++ g ∷ [])) (own_files (xs ++ g ∷ []))) ≡ flat_map (λ (f : File). f.entries) (cond b (x ∷ own_files xs) (own_files xs)) ++ g.entries
    by true rest = ap (λ (l : List Entry). x.entries ++ l) rest ∙ sym (append_assoc x.entries (all_own xs) g.entries)
    by false rest = rest

pub own_appended : (channel : ℕ) (files : List File) (g : File) → g.own ≡ true → own_entries channel (files ++ g ∷ []) ≡ own_entries channel files ++ on_channel channel g.entries
own_appended channel files g own = ap (on_channel channel) (all_appended files g own) ∙ filter-append (is_entry_on channel) (all_own files) g.entries

pub behind_appended : (files : List File) (g : File) → ((f : File) → last_or None files ≡ Some f → f.own ≡ true → f.shown ≡ length f.entries) → AllBehind files → AllBehind (files ++ g ∷ [])
behind_appended [] g last all = tt
behind_appended (x ∷ []) g last all = (last x refl, tt)
behind_appended (x ∷ y ∷ ys) g last (here, all) = (here, behind_appended (y ∷ ys) g last all)

-- ---- what files show

whole : (f : File) → f.shown ≡ length f.entries → shown_entries f ≡ f.entries
whole f is = ap (λ (n : ℕ). take n f.entries) is ∙ take_all (length f.entries) f.entries (omega arith)

-- they show the front of what they have
all_front : (files : List File) → AllBehind files → (rest : List Entry) × (all_shown files ++ rest ≡ all_own files)
all_front [] all = ([], refl)
all_front (x ∷ []) all = by x.own
  where
    by : (b : Bool) → (rest : List Entry) × (flat_map shown_entries (cond b (x ∷ []) []) ++ rest ≡ flat_map (λ (f : File). f.entries) (cond b (x ∷ []) []))
    by true = (
      drop x.shown x.entries,
      ap (λ (l : List Entry). l ++ drop x.shown x.entries) (append-nil (shown_entries x)) ∙ take-append-drop x.shown x.entries ∙ sym (append-nil x.entries),
    )
    by false = ([], refl)
all_front (x ∷ y ∷ ys) (here, all) = by x.own here (all_front (y ∷ ys) all)
  where
    by : (b : Bool) → (b ≡ true → x.shown ≡ length x.entries) → (rest : List Entry) × (all_shown (y ∷ ys) ++ rest ≡ all_own (y ∷ ys))
        → (rest : List Entry) × (flat_map shown_entries (cond b (x ∷ own_files (y ∷ ys)) (own_files (y ∷ ys))) ++ rest ≡ flat_map (λ (f : File). f.entries) (cond b (x ∷ own_files (y ∷ ys)) (own_files (y ∷ ys))))
    by true here (rest, is) = (
      rest,
      ap (λ (l : List Entry). l ++ all_shown (y ∷ ys) ++ rest) (whole x (here refl))
          ∙ append_assoc x.entries (all_shown (y ∷ ys)) rest
          ∙ ap (λ (l : List Entry). x.entries ++ l) is,
    )
    by false here rest = rest

pub shown_front : (channel : ℕ) (files : List File) → AllBehind files → (rest : List Entry) × (shown_own channel files ++ rest ≡ own_entries channel files)
shown_front channel files all =
    let front = all_front files all in
    (on_channel channel front.0, sym (filter-append (is_entry_on channel) (all_shown files) front.0) ∙ ap (on_channel channel) front.1)

-- files of which the same is shown
shown_parts : (files : List File) → all_own (map shown_part files) ≡ all_shown files
shown_parts [] = refl
shown_parts (x ∷ xs) = by x.own (shown_parts xs)
  where
    by : (b : Bool) → all_own (map shown_part xs) ≡ all_shown xs
        → flat_map (λ (f : File). f.entries) (cond b (shown_part x ∷ own_files (map shown_part xs)) (own_files (map shown_part xs))) ≡ flat_map shown_entries (cond b (x ∷ own_files xs) (own_files xs))
    by true rest = ap (λ (l : List Entry). shown_entries x ++ l) rest
    by false rest = rest

pub shown_same : (channel : ℕ) (news ends : List File) → map shown_part news ≡ map shown_part ends → shown_own channel news ≡ shown_own channel ends
shown_same channel news ends same = ap (on_channel channel) (sym (shown_parts news) ∙ ap all_own same ∙ shown_parts ends)

-- no own files
pub none_behind : (files : List File) → own_files files ≡ [] → AllBehind files
none_behind [] none = tt
none_behind (x ∷ []) none = tt
none_behind (x ∷ y ∷ ys) none = by x.own none (none_behind (y ∷ ys))
  where
    by : (b : Bool) → cond b (x ∷ own_files (y ∷ ys)) (own_files (y ∷ ys)) ≡ [] → (own_files (y ∷ ys) ≡ [] → AllBehind (y ∷ ys)) → (b ≡ true → x.shown ≡ length x.entries) × AllBehind (y ∷ ys)
    by true none rest = cc
    by false none rest = (λ is. cc, rest none)
