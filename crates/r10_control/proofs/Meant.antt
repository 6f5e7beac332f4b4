-- The entries of the recorder's own files, as those of the machine's own files.
use Rattle.std.proofs.Common.{◌≡◌, ◌≤◌, ℕ, zero, suc, ◌-◌, inl, inr, Bool, true, false, ◌&&◌, cond, List, [], ◌∷◌, ◌++◌, length, map, replicate, take, drop, Option, None, Some, refl, sym, ap, subst, ◌∙◌, arith, append_assoc}
use Rattle.std.specs.Prelude.{IsSomeAnd, not}
use Rattle.std.specs.List.{All, AllByRecursion, flat_map, last_or}
use Rattle.std.proofs.lemmas.Bool.{false≢true}
use Rattle.std.proofs.lemmas.List.{append-nil, take_all}
use Rattle.std.proofs.lemmas.List.Elements.{All-head, All-tail}
use Rattle.r10_blockout.specs.Blocks.{bytes_from}
use Rattle.r10_body.specs.Files.{FileSays}
use Rattle.r10_body.specs.Packets.{file_entries}
use Rattle.r10_body.specs.declared.entry.Entry.{Entry}
use Rattle.r10_dirblock.specs.Block.{is_closed}
use Rattle.r10_dirblock.specs.declared.entry.Entry.{Entry as DirectoryEntry}
use Rattle.r10_dirchain.specs.Chain.{listed_files}
use Rattle.r10_dirchain.specs.declared.chain.ChainBlock.{ChainBlock}
use Rattle.r10_dirchain.proofs.RulesAsFacts.{usable_of}
use Rattle.r10_dirchain.proofs.Unique.{one_directory}
use Rattle.r10_machine.specs.Checks.{is_recording}
use Rattle.r10_machine.specs.Config.{Config}
use Rattle.r10_machine.specs.Cuts.{Agree}
use Rattle.r10_machine.specs.Machine.{File, Machine, shown_entries}
use Rattle.r10_machine.specs.Says.{Lists, MediumSays, SaysEach, SaysFile}
use Rattle.r10_machine.specs.Sound.{IsOwnFile, IsSoundWork, SoundWork}
use Rattle.r10_machine.specs.SoundParts.{is_open, own_files}
use Rattle.r10_refinement.specs.KeptState.{Kept, Work, unmounted, idle, recording, failed, mode_of}
use Rattle.r10_refinement.specs.Means.{HasFiles, KeptStandsFor, NumbersAre, OwnFilesAre, OwnFollow}
use Rattle.r10_medium.specs.Disk.{Image}
use Rattle.r10_openfile.specs.Carrying.{IsEnded}
use Rattle.r10_openfile.specs.Keeping.{ended_in}
use Rattle.r10_volume.specs.Holding.{IsWritten}
use Rattle.r10_volume.proofs.Carried.{carried_of}
use Rattle.r10_control.specs.Own.{AreEnded, AreOwn, EndAfter, OwnIn}
use Rattle.r10_openfile.proofs.BackToBack.{but_last}

abbrev entries_in : List File → List Entry
entries_in files = flat_map (λ (f : File). f.entries) (own_files files)

abbrev IsWhole : File → Type 0
IsWhole f = f.own ≡ true → (f.closed ≡ true) × (f.shown ≡ length f.entries)

abbrev IsShut : File → Type 0
IsShut f = f.own ≡ true → f.closed ≡ true

abbrev Closed : DirectoryEntry → Type 0
Closed e = is_closed e ≡ true

-- ---- what the medium says of own files that are closed

ended : (image : Image) (e : DirectoryEntry) (f : File) → Lists f e → SaysFile image f → (f.closed ≡ true) × (f.shown ≡ length f.entries) → IsEnded image e f.setup f.entries
ended image e f lists says whole =
    let all : take f.shown f.entries ≡ f.entries = take_all f.shown f.entries (omega (arith, whole.1)) in
    record {
      closed = lists.closed ∙ whole.0;
      says = subst (λ (b : List ℕ). FileSays b f.setup f.entries true) (sym (ap (λ (n : ℕ). bytes_from image n e.size) lists.first_block ∙ ap (λ (n : ℕ). bytes_from image f.first_block n) lists.size))
          (subst (λ (l : List Entry). FileSays (bytes_from image f.first_block f.size) f.setup l true) all
          (subst (λ (b : Bool). FileSays (bytes_from image f.first_block f.size) f.setup (shown_entries f) b) whole.0 says.says));
    }

-- whose each of them is
abbrev flags_of : List File → List Bool
flags_of files = map (λ (f : File). f.own) files

abbrev first_flag : List Bool → Bool
first_flag [] = false
first_flag (b ∷ flags) = b

abbrev other_flags : List Bool → List Bool
other_flags [] = []
other_flags (b ∷ flags) = flags

-- of files that are all its own
all_ended : (image : Image) (listed : List DirectoryEntry) (files : List File) (own : ℕ) → SaysEach image listed files → AllByRecursion IsWhole files → flags_of files ≡ replicate own true → AreEnded image listed (entries_in files)
all_ended image [] [] own each whole flags = refl
all_ended image [] (f ∷ files) own each whole flags = absurd each
all_ended image (e ∷ listed) [] own each whole flags = absurd each
all_ended image (e ∷ listed) (f ∷ files) zero each whole flags = absurd (cc (flags))
all_ended image (e ∷ listed) (f ∷ files) (suc own) each whole flags =
    by f.own (ap first_flag flags) refl (all_ended image listed files own each.2 whole.1 (ap other_flags flags))
  where
    by : (b : Bool) → b ≡ true → f.own ≡ b → AreEnded image listed (entries_in files) → AreEnded image (e ∷ listed) (flat_map (λ (x : File). x.entries) (cond b (f ∷ own_files files) (own_files files)))
    by true is own rest = (f.setup, f.entries, entries_in files, refl, ended image e f each.0 each.1 (whole.0 own), rest)
    by false is own rest = absurd (false≢true is)

-- of those that come after so many that were found
after_found : (image : Image) (listed : List DirectoryEntry) (files : List File) (n own : ℕ) → SaysEach image listed files → AllByRecursion IsWhole files → flags_of files ≡ replicate n false ++ replicate own true
    → (n ≤ length listed) × AreEnded image (drop n listed) (entries_in files)
after_found image listed files zero own each whole flags = (omega arith, all_ended image listed files own each whole flags)
after_found image [] [] (suc n) own each whole flags = absurd (cc (flags))
after_found image [] (f ∷ files) (suc n) own each whole flags = absurd each
after_found image (e ∷ listed) [] (suc n) own each whole flags = absurd each
after_found image (e ∷ listed) (f ∷ files) (suc n) own each whole flags =
    let rest = after_found image listed files n own each.2 whole.1 (ap other_flags flags) in
    (omega (arith, rest.0), by f.own (ap first_flag flags) rest.1)
  where
    by : (b : Bool) → b ≡ false → AreEnded image (drop n listed) (entries_in files) → AreEnded image (drop n listed) (flat_map (λ (x : File). x.entries) (cond b (f ∷ own_files files) (own_files files)))
    by true is rest = absurd (false≢true (sym is))
    by false is rest = rest

end_after : (found : Option ℕ) (image : Image) (listed : List DirectoryEntry) (files : List File) → SaysEach image listed files → AllByRecursion IsWhole files → OwnFollow found files → EndAfter found image listed (entries_in files)
end_after found image listed files each whole follow =
    let them = after_found image listed files follow.number follow.own each whole follow.flags in
    record { number = follow.number; found_is = follow.found_is; within = them.0; ended = them.1 }

none_left : (image : Image) (files : List File) (f : File) → SaysEach image [] (files ++ f ∷ []) → ⊥
none_left image [] f each = each
none_left image (g ∷ files) f each = each

-- of all files but the last
front_each : (image : Image) (listed : List DirectoryEntry) (files : List File) (f : File) → SaysEach image listed (files ++ f ∷ []) → SaysEach image (take (length listed - 1) listed) files
front_each image [] files f each = absurd (none_left image files f each)
front_each image (e ∷ []) [] f each = tt
front_each image (e ∷ d ∷ listed) [] f each = absurd each.2
front_each image (e ∷ []) (g ∷ files) f each = absurd (none_left image files f each.2)
front_each image (e ∷ d ∷ listed) (g ∷ files) f each =
    subst (λ (l : List DirectoryEntry). SaysEach image l (g ∷ files)) (sym (but_last e d listed)) (each.0, each.1, front_each image (d ∷ listed) files f each.2)

front_flags : (files : List File) (f : File) (n own : ℕ) → f.own ≡ true → flags_of (files ++ f ∷ []) ≡ replicate n false ++ replicate own true → (rest : ℕ) × (flags_of files ≡ replicate n false ++ replicate rest true)
front_flags [] f zero own is flags = (0, refl)
front_flags [] f (suc n) own is flags = absurd (false≢true (sym (ap first_flag flags) ∙ is))
front_flags (x ∷ files) f zero zero is flags = absurd (cc (flags))
front_flags (x ∷ files) f zero (suc own) is flags =
    let rest = front_flags files f zero own is (ap other_flags flags) in
    (suc rest.0, ap (λ (b : Bool). b ∷ flags_of files) (ap first_flag flags) ∙ ap (λ (l : List Bool). true ∷ l) rest.1)
front_flags (x ∷ files) f (suc n) own is flags =
    let rest = front_flags files f n own is (ap other_flags flags) in
    (rest.0, ap (λ (b : Bool). b ∷ flags_of files) (ap first_flag flags) ∙ ap (λ (l : List Bool). false ∷ l) rest.1)

front_follows : (found : Option ℕ) (all files : List File) (f : File) → f.own ≡ true → all ≡ files ++ f ∷ [] → OwnFollow found all → OwnFollow found files
front_follows found all files f own is follow =
    let front = front_flags files f follow.number follow.own own (sym (ap flags_of is) ∙ follow.flags) in
    record { number = follow.number; own = front.0; found_is = follow.found_is; flags = front.1 }

-- none of them is its own
none_entries : (files : List File) → flags_of files ≡ replicate (length files) false → entries_in files ≡ []
none_entries [] flags = refl
none_entries (f ∷ files) flags = by f.own (ap first_flag flags) (none_entries files (ap other_flags flags))
  where
    by : (b : Bool) → b ≡ false → entries_in files ≡ [] → flat_map (λ (x : File). x.entries) (cond b (f ∷ own_files files) (own_files files)) ≡ []
    by true is rest = absurd (false≢true (sym is))
    by false is rest = rest

-- ---- own files are closed, but for one that is recorded

abbrev LastShut : List File → Type 0
LastShut [] = Unit {0}
LastShut (f ∷ []) = IsShut f
LastShut (f ∷ g ∷ files) = LastShut (g ∷ files)

shut_of : (own closed : Bool) → (own && not closed) ≡ false → own ≡ true → closed ≡ true
shut_of true true is own = refl
shut_of true false is own = absurd (cc)
shut_of false closed is own = absurd (cc)

last_shut : (d : Option File) (files : List File) → elim (last_or d files) as (λ (o : Option File). Bool) [ None ↦ false | Some f ↦ is_open f ] ≡ false → LastShut files
last_shut d [] is = tt
last_shut d (f ∷ []) is = shut_of f.own f.closed is
last_shut d (f ∷ g ∷ files) is = last_shut (Some f) (g ∷ files) is

each_shut : (image : Image) (listed : List DirectoryEntry) (files : List File) → SaysEach image listed files → All Closed (take (length listed - 1) listed) → LastShut files → AllByRecursion IsShut files
each_shut image [] [] each front last = tt
each_shut image [] (f ∷ files) each front last = absurd each
each_shut image (e ∷ listed) [] each front last = absurd each
each_shut image (e ∷ []) (f ∷ []) each front last = (last, tt)
each_shut image (e ∷ []) (f ∷ g ∷ files) each front last = absurd each.2
each_shut image (e ∷ d ∷ listed) (f ∷ []) each front last = absurd each.2
each_shut image (e ∷ d ∷ listed) (f ∷ g ∷ files) each front last =
    let all : All Closed (e ∷ take (length (d ∷ listed) - 1) (d ∷ listed)) = subst (All Closed) (but_last e d listed) front in (
      λ own. sym each.0.closed ∙ All-head Closed e (take (length (d ∷ listed) - 1) (d ∷ listed)) all,
      each_shut image (d ∷ listed) (g ∷ files) each.2 (All-tail Closed e (take (length (d ∷ listed) - 1) (d ∷ listed)) all) last,
    )

front_shut : (image : Image) (listed : List DirectoryEntry) (files : List File) (f : File) → SaysEach image listed (files ++ f ∷ []) → All Closed (take (length listed - 1) listed) → AllByRecursion IsShut files
front_shut image listed [] f each front = tt
front_shut image [] (g ∷ files) f each front = absurd each
front_shut image (e ∷ []) (g ∷ files) f each front = absurd (none_left image files f each.2)
front_shut image (e ∷ d ∷ listed) (g ∷ files) f each front =
    let all : All Closed (e ∷ take (length (d ∷ listed) - 1) (d ∷ listed)) = subst (All Closed) (but_last e d listed) front in (
      λ own. sym each.0.closed ∙ All-head Closed e (take (length (d ∷ listed) - 1) (d ∷ listed)) all,
      front_shut image (d ∷ listed) files f each.2 (All-tail Closed e (take (length (d ∷ listed) - 1) (d ∷ listed)) all),
    )

each_whole : (s : Config) (files : List File) → AllByRecursion (IsOwnFile s) (own_files files) → AllByRecursion IsShut files → AllByRecursion IsWhole files
each_whole s [] own shut = tt
each_whole s (f ∷ files) own shut =
    by f.own refl own (λ all. each_whole s files all shut.1)
  where
    by : (b : Bool) → f.own ≡ b → AllByRecursion (IsOwnFile s) (cond b (f ∷ own_files files) (own_files files)) → (AllByRecursion (IsOwnFile s) (own_files files) → AllByRecursion IsWhole files) → AllByRecursion IsWhole (f ∷ files)
    by true is all rest = (λ own. (shut.0 own, all.0.whole (shut.0 own)), rest all.1)
    by false is all rest = (λ own. absurd (false≢true (sym is ∙ own)), rest all)

own_front : (s : Config) (files : List File) (f : File) → AllByRecursion (IsOwnFile s) (own_files (files ++ f ∷ [])) → AllByRecursion (IsOwnFile s) (own_files files)
own_front s [] f own = tt
own_front s (g ∷ files) f own =
    by g.own own (λ all. own_front s files f all)
  where
    by : (b : Bool) → AllByRecursion (IsOwnFile s) (cond b (g ∷ own_files (files ++ f ∷ [])) (own_files (files ++ f ∷ []))) → (AllByRecursion (IsOwnFile s) (own_files (files ++ f ∷ [])) → AllByRecursion (IsOwnFile s) (own_files files))
        → AllByRecursion (IsOwnFile s) (cond b (g ∷ own_files files) (own_files files))
    by true all rest = (all.0, rest all.1)
    by false all rest = rest all

-- the entries of a last one that is own come after those of the others
own_behind : (files : List File) (g : File) → g.own ≡ true → entries_in (files ++ g ∷ []) ≡ entries_in files ++ g.entries
own_behind [] g own = rw own (append-nil g.entries)
own_behind (f ∷ files) g own =
    by f.own (own_behind files g own)
  where
    by : (b : Bool) → entries_in (files ++ g ∷ []) ≡ entries_in files ++ g.entries
        → flat_map (λ (x : File). x.entries) (cond b (f ∷ own_files (files ++ g ∷ [])) (own_files (files ++ g ∷ []))) ≡ flat_map (λ (x : File). x.entries) (cond b (f ∷ own_files files) (own_files files)) ++ g.entries
    by true rest = ap (λ (l : List Entry). f.entries ++ l) rest ∙ sym (append_assoc f.entries (entries_in files) g.entries)
    by false rest = rest

-- ---- the machine's

last_of : (P : File → Type 0) (files : List File) → IsSomeAnd (last_or None files) P → (front : List File) × (f : File) × (files ≡ front ++ f ∷ []) × P f
last_of P [] last = absurd last
last_of P (f ∷ []) last = ([], f, refl, last)
last_of P (f ∷ g ∷ files) last = let rest = last_of P (g ∷ files) last in (f ∷ rest.0, rest.1, ap (λ (l : List File). f ∷ l) rest.2, rest.3)

all_own : (s : Config) (image : Image) (m : Machine) (chain : List ChainBlock) (found : Option ℕ) (says : MediumSays s image m.files) → says.chain ≡ chain → IsSoundWork s m → is_recording m.mode ≡ false → OwnFollow found m.files
    → EndAfter found image (listed_files chain) (entries_in m.files)
all_own s image m chain found says same sound idle_so follow =
    let closed = (usable_of s.directory s.blocks says.chain says.mounts).closed in
    let shut = each_shut image (listed_files says.chain) m.files says.each closed (last_shut None m.files (sym sound.recording ∙ idle_so)) in
    subst (λ (c : List ChainBlock). EndAfter found image (listed_files c) (entries_in m.files)) same (end_after found image (listed_files says.chain) m.files says.each (each_whole s m.files sound.own shut) follow)

pub meant_own : (k : Kept) (image : Image) (failures : ℕ) (m : Machine) → KeptStandsFor k image failures m → (k.work ≡ failed → ⊥) → AreOwn k image (flat_map (λ (f : File). f.entries) (own_files m.files))
meant_own k image failures m means works =
    by k.work refl means.files (subst (λ mode. SoundWork mode k.config m) means.mode means.sound.work) (ap is_recording means.mode) means.numbers
  where
    by_unmounted : (files : MediumSays k.config image m.files) → IsSoundWork k.config m → is_recording m.mode ≡ false → OwnFilesAre unmounted k.found m.files → OwnIn k.found unmounted image (entries_in m.files)
    by_unmounted says sound mode (inl none) = inl (none.0, none_entries m.files none.1)
    by_unmounted says sound mode (inr follow) = inr (says.chain, says.directory, all_own k.config image m says.chain k.found says refl sound mode follow)

    by : (w : Work) → k.work ≡ w → HasFiles k.config w image m.files → SoundWork (mode_of w) k.config m → is_recording m.mode ≡ is_recording (mode_of w) → NumbersAre (record k { work = w }) m → OwnIn k.found w image (entries_in m.files)
    by unmounted at files sound mode numbers = by_unmounted files.0 sound mode numbers.3
    by (idle chain) at files sound mode numbers = all_own k.config image m chain k.found files.says (one_directory image files.says.chain chain files.says.directory files.directory) sound mode numbers.3
    by (recording chain o) at files sound mode numbers =
        let split = last_of (IsWritten k.config image o) m.files files.last in
        let f = split.1 in
        let w : IsWritten k.config image o f = split.3 in
        let says = files.says in
        let same : says.chain ≡ chain = one_directory image says.chain chain says.directory files.directory in
        let closed = (usable_of k.config.directory k.config.blocks says.chain says.mounts).closed in
        let each : SaysEach image (listed_files says.chain) (split.0 ++ f ∷ []) = subst (λ (l : List File). SaysEach image (listed_files says.chain) l) split.2 says.each in
        let own = own_front k.config split.0 f (subst (λ (l : List File). AllByRecursion (IsOwnFile k.config) (own_files l)) split.2 sound.own) in
        let whole = each_whole k.config split.0 own (front_shut image (listed_files says.chain) split.0 f each closed) in
        let front = end_after k.found image (ended_in says.chain) split.0 (front_each image (listed_files says.chain) split.0 f each) whole (front_follows k.found m.files split.0 f w.own split.2 numbers.3) in
        record {
          ended = entries_in split.0;
          now = f.entries;
          own_is = ap entries_in split.2 ∙ own_behind split.0 f w.own;
          before = subst (λ (c : List ChainBlock). EndAfter k.found image (ended_in c) (entries_in split.0)) same front;
          text = f.setup;
          shown = f.shown;
          shows = record {
            carried = carried_of k.config image o f w;
            inside = w.cut.inside;
            agree = subst (λ (n : ℕ). Agree (file_entries (take n w.carries.packets)) (take f.shown f.entries)) w.shown w.cut.agree;
          };
        }
    by failed at files sound mode numbers = absurd (works at)
