-- The entries of a recorder's own files, through each of its calls.
use Rattle.std.proofs.Common.{◌≡◌, ◌⊎◌, ℕ, zero, suc, drop, ◌+◌, ◌-◌, ◌<◌, ◌≤◌, inl, inr, true, false, List, [], ◌∷◌, ◌++◌, length, take, Option, None, Some, refl, sym, ap, subst, ◌∙◌, arith, append_assoc, ◌*◌, Bool, length-append}
use Rattle.std.specs.Prelude.{IsSomeAnd, ◌≢◌}
use Rattle.std.specs.List.{AllByRecursion, last_or}
use Rattle.std.proofs.lemmas.Bool.{false≢true, ne_eqb}
use Rattle.std.specs.Option.{option_or}
use Rattle.std.proofs.lemmas.List.{append-nil, drop_all}
use Rattle.std.proofs.lemmas.List.Sums.{sum_by-cons}
use Rattle.r10_blockout.specs.Blocks.{bytes_from}
use Rattle.r10_blockout.specs.Output.{first_of}
use Rattle.r10_body.specs.Files.{FileSays, on_channel}
use Rattle.r10_body.specs.Sequence.{last_count}
use Rattle.r10_body.specs.declared.entry.Entry.{Entry}
use Rattle.r10_body.specs.declared.spec.ChannelSpec.{ChannelSpec}
use Rattle.r10_dirblock.specs.Block.{is_closed}
use Rattle.r10_dirblock.specs.declared.entry.Entry.{Entry as DirectoryEntry}
use Rattle.r10_dirchain.specs.Chain.{IsDirectory, at as at_place, listed_files}
use Rattle.r10_dirchain.specs.Mount.{blocks_in}
use Rattle.r10_dirchain.specs.Steps.{with_shutdown, last_listing}
use Rattle.r10_dirchain.specs.declared.chain.ChainBlock.{ChainBlock}
use Rattle.r10_dirchain.proofs.FileLists.{files-with_shutdown, files-updated, last_listing_is, last_of}
use Rattle.r10_dirchain.proofs.RulesAsFacts.{Stand, Stand-take, usable_of}
use Rattle.r10_dirchain.proofs.Unique.{one_directory}
use Rattle.r10_cursor.specs.Staying.{KeepListed}
use Rattle.r10_refinement.specs.KeptState.{Kept, Work, unmounted, idle, recording, failed}
use Rattle.r10_medium.specs.Disk.{Image, IsWhole}
use Rattle.r10_openfile.specs.Carrying.{EndsLast, IsEnded, IsShown}
use Rattle.r10_openfile.specs.Keeping.{ListsLast, ended_in}
use Rattle.r10_openfile.proofs.Grown.{carries_one}
use Rattle.r10_openfile.specs.Stopping.{AllEnd}
use Rattle.r10_volume.specs.Front.{KeepsFront}
use Rattle.r10_volume.specs.Holding.{OpenState}
use Rattle.r10_volume.specs.Listing.{block_behind, is_last_closed}
use Rattle.r10_volume.specs.Mounting.{IsUsable}
use Rattle.r10_volume.proofs.Listed.{placed_at}
use Rattle.std.proofs.lemmas.List.Elements.{All-cons, All-nil}
use Rattle.r10_body.specs.Packets.{Packet}
use Rattle.r10_body.proofs.ChannelLists.{none_on_any}
use Rattle.r10_dirchain.proofs.Usable.{place_rules_hold, placed}
use Rattle.r10_medium.proofs.PowerLoss.{below_puts}
use Rattle.r10_seal.specs.Sealing.{ListsSealed, SealsFile, sealed_entry}
use Rattle.r10_control.proofs.Seals.{sealed_some}
use Rattle.r10_control.specs.Own.{AreEnded, AreOwn, EndAfter, EndOpen, OwnGrow, OwnIn, OwnStay}
use Rattle.r10_openfile.specs.Entering.{IsAskedFor}
use Rattle.r10_control.proofs.Staying.{front_keeps, last_first, listed_keep}

-- ---- listed files

still_ended : (old new : Image) (e : DirectoryEntry) (text : List ℕ) (entries : List Entry) → bytes_from new e.first_block e.size ≡ bytes_from old e.first_block e.size → IsEnded old e text entries → IsEnded new e text entries
still_ended old new e text entries same ended = record { closed = ended.closed; says = subst (λ (b : List ℕ). FileSays b text entries true) (sym same) ended.says }

ended_keeps : (old new : Image) (listed : List DirectoryEntry) (own : List Entry) → KeepListed old new listed → AreEnded old listed own → AreEnded new listed own
ended_keeps old new [] own keeps is = is
ended_keeps old new (e ∷ listed) own keeps it = (it.0, it.1, it.2, it.3, still_ended old new e it.0 it.1 keeps.0 it.4, ended_keeps old new listed it.2 keeps.1 it.5)

keep_drop : (n : ℕ) (old new : Image) (listed : List DirectoryEntry) → KeepListed old new listed → KeepListed old new (drop n listed)
keep_drop zero old new listed keeps = keeps
keep_drop (suc n) old new [] keeps = keeps
keep_drop (suc n) old new (e ∷ listed) keeps = keep_drop n old new listed keeps.1

pub after_keeps : (found : Option ℕ) (old new : Image) (listed : List DirectoryEntry) (own : List Entry) → KeepListed old new listed → EndAfter found old listed own → EndAfter found new listed own
after_keeps found old new listed own keeps it =
    record { number = it.number; found_is = it.found_is; within = it.within; ended = ended_keeps old new (drop it.number listed) own (keep_drop it.number old new listed keeps) it.ended }

drop_more : (n : ℕ) (listed : List DirectoryEntry) (e : DirectoryEntry) → n ≤ length listed → drop n (listed ++ e ∷ []) ≡ drop n listed ++ e ∷ []
drop_more zero listed e within = refl
drop_more (suc n) [] e within = absurd (omega (arith, within))
drop_more (suc n) (d ∷ listed) e within = drop_more n listed e (omega (arith, within))

-- with one more after them, which is ended and says these entries
ended_with : (image : Image) (listed : List DirectoryEntry) (e : DirectoryEntry) (own : List Entry) (text : List ℕ) (here : List Entry) → IsEnded image e text here → AreEnded image listed own → AreEnded image (listed ++ e ∷ []) (own ++ here)
ended_with image [] e own text here ended is = (text, here, [], ap (λ (l : List Entry). l ++ here) is ∙ sym (append-nil here), ended, refl)
ended_with image (d ∷ listed) e own text here ended it = (it.0, it.1, it.2 ++ here, ap (λ (l : List Entry). l ++ here) it.3 ∙ append_assoc it.1 it.2 here, it.4, ended_with image listed e it.2 text here ended it.5)

pub after_with : (found : Option ℕ) (image : Image) (listed : List DirectoryEntry) (e : DirectoryEntry) (own : List Entry) (text : List ℕ) (here : List Entry) → IsEnded image e text here → EndAfter found image listed own → EndAfter found image (listed ++ e ∷ []) (own ++ here)
after_with found image listed e own text here ended it = record {
  number = it.number;
  found_is = it.found_is;
  within = omega (arith, it.within, length-append listed (e ∷ []));
  ended = subst (λ (l : List DirectoryEntry). AreEnded image l (own ++ here)) (sym (drop_more it.number listed e it.within)) (ended_with image (drop it.number listed) e own text here ended it.ended);
}

last_ended : (image : Image) (listed : List DirectoryEntry) (e : DirectoryEntry) (own : List Entry) → AreEnded image (listed ++ e ∷ []) own → is_closed e ≡ true
last_ended image [] e own it = it.4.closed
last_ended image (d ∷ listed) e own it = last_ended image listed e it.2 it.5

-- where the last one is not closed, all were found; so they are where another takes its place
left_found : (n : ℕ) (old new : Image) (listed : List DirectoryEntry) (e other : DirectoryEntry) (own : List Entry) → is_closed e ≡ false → n ≤ length (listed ++ e ∷ []) → AreEnded old (drop n (listed ++ e ∷ [])) own → AreEnded new (drop n (listed ++ other ∷ [])) own
left_found zero old new listed e other own left within is = absurd (false≢true (sym left ∙ last_ended old listed e own is))
left_found (suc zero) old new [] e other own left within is = is
left_found (suc (suc n)) old new [] e other own left within is = absurd (omega (arith, within))
left_found (suc n) old new (d ∷ listed) e other own left within is = left_found n old new listed e other own left (omega (arith, within)) is

pub after_left : (found : Option ℕ) (old new : Image) (listed : List DirectoryEntry) (e other : DirectoryEntry) (own : List Entry) → is_closed e ≡ false → EndAfter found old (listed ++ e ∷ []) own → EndAfter found new (listed ++ other ∷ []) own
after_left found old new listed e other own left it = record {
  number = it.number;
  found_is = it.found_is;
  within = omega (arith, it.within, length-append listed (e ∷ []), length-append listed (other ∷ []));
  ended = left_found it.number old new listed e other own left it.within it.ended;
}

-- ---- the bytes of listed files

room : (blocks n : ℕ) (listed : List DirectoryEntry) → n ≤ blocks → Stand blocks n listed → n + blocks_in listed ≤ blocks
room blocks n [] less stand = omega (arith, less)
room blocks n (e ∷ listed) less stand =
    let at = placed_at blocks n e stand.0 in
    omega (arith, room blocks (n + e.block_count) listed at.within stand.1, sum_by-cons (λ (x : DirectoryEntry). x.block_count) e listed)

-- where all blocks after the reserved ones stay
keep_from : (reserved : ℕ) (old new : Image) (listed : List DirectoryEntry) → IsWhole old → Stand (length old) (reserved + 1) listed → KeepsFront reserved (length old) old new → KeepListed old new listed
keep_from reserved old new [] whole stand same = tt
keep_from reserved old new (e ∷ listed) whole stand same =
    let at = placed_at (length old) (reserved + 1) e stand.0 in
    front_keeps reserved (length old) (reserved + 1) old new (e ∷ listed) whole same (omega arith) stand (room (length old) (reserved + 1) (e ∷ listed) (omega (arith, at.within)) stand)

pub all_keep : (reserved : ℕ) (old new : Image) (chain : List ChainBlock) → IsWhole old → IsUsable reserved old chain → KeepsFront reserved (length old) old new → KeepListed old new (listed_files chain)
all_keep reserved old new chain whole usable same = keep_from reserved old new (listed_files chain) whole (usable_of reserved (length old) chain usable.rules).stand same

-- of the files in front of the last one
pub ended_keep : (reserved first : ℕ) (old new : Image) (chain : List ChainBlock) → IsWhole old → IsUsable reserved old chain → ListsLast first chain → KeepsFront reserved first old new → KeepListed old new (ended_in chain)
ended_keep reserved first old new chain whole usable last same =
    let stand = (usable_of reserved (length old) chain usable.rules).stand in
    front_keeps reserved first (reserved + 1) old new (ended_in chain) whole same (omega arith) (Stand-take (length old) (reserved + 1) (length (listed_files chain) - 1) (listed_files chain) stand)
    (omega (arith, last_first (length old) (reserved + 1) first (listed_files chain) stand last))

-- ---- the last of them

pub last_split : (P : DirectoryEntry → Type 0) (listed : List DirectoryEntry) → IsSomeAnd (last_or None listed) P → (e : DirectoryEntry) × (listed ≡ take (length listed - 1) listed ++ e ∷ []) × P e
last_split P [] last = absurd last
last_split P (e ∷ []) last = (e, refl, last)
last_split P (e ∷ d ∷ listed) last =
    let rest = last_split P (d ∷ listed) last in
    (rest.0, ap (λ (l : List DirectoryEntry). e ∷ l) rest.1 ∙ ap (λ (k : ℕ). take k (e ∷ d ∷ listed) ++ rest.0 ∷ []) (sym (one_more e d listed)), rest.2)
  where
    one_more : (e d : DirectoryEntry) (listed : List DirectoryEntry) → length (e ∷ d ∷ listed) - 1 ≡ suc (length (d ∷ listed) - 1)
    one_more e d listed = omega arith

-- ---- where nothing changes, or the recorder failed

pub grow_none : (k : Kept) (image : Image) → OwnGrow k image k image []
grow_none k image = inr (λ own has. subst (λ (l : List Entry). AreOwn k image l) (sym (append-nil own)) has)

pub stay_by : (k later : Kept) (old new : Image) → OwnGrow k old later new [] → OwnStay k old later new
stay_by k later old new own = record { more = []; own = own; others = none_on_any k.config.channels }

pub stay_same : (k : Kept) (image : Image) → OwnStay k image k image
stay_same k image = stay_by k k image image (grow_none k image)

pub stay_failed : (k later : Kept) (old new : Image) → later.work ≡ failed → OwnStay k old later new
stay_failed k later old new is = stay_by k later old new (inl is)

-- ---- while a file is recorded

module _ (k : Kept) (image : Image) (chain : List ChainBlock) (o : OpenState) (at : k.work ≡ recording chain o) where
  pub end_open : (own : List Entry) → AreOwn k image own → EndOpen k.found image chain o own
  end_open own has = subst (λ (w : Work). OwnIn k.found w image own) at has

  -- the same were found
  own_in : (later : Kept) (w : Work) (new : Image) (own : List Entry) → later.work ≡ w → later.found ≡ k.found → OwnIn k.found w new own → AreOwn later new own
  own_in later w new own is stays has = subst (λ (f : Option ℕ). OwnIn f later.work new own) (sym stays) (subst (λ (x : Work). OwnIn k.found x new own) (sym is) has)

  -- only memory was asked for
  pub asked_own : (p : OpenState) (later : Kept) → later.work ≡ recording chain p → later.found ≡ k.found → IsAskedFor o p → OwnGrow k image later image []
  asked_own p later is stays asked = inr (λ own has.
      let it = end_open own has in
      own_in later (recording chain p) image (own ++ []) is stays
      (subst (λ (l : List Entry). EndOpen k.found image chain p l) (sym (append-nil own))
      (record { ended = it.ended; now = it.now; own_is = it.own_is; before = it.before; text = it.text; shown = it.shown; shows = asked.stays image it.text it.now it.shown it.shows })))

  module _ (new : Image) (made : List ChainBlock) (whole : IsWhole image) (usable : IsUsable k.config.directory image chain) (last : ListsLast (first_of o.recording.out.blocks) chain)
      (front : KeepsFront k.config.directory (first_of o.recording.out.blocks) image new) (ended : ended_in made ≡ ended_in chain) where
    before_stays : (own : List Entry) → EndAfter k.found image (ended_in chain) own → EndAfter k.found new (ended_in made) own
    before_stays own is =
        subst (λ (l : List DirectoryEntry). EndAfter k.found new l own) (sym ended)
        (after_keeps k.found image new (ended_in chain) own (ended_keep k.config.directory (first_of o.recording.out.blocks) image new chain whole usable last front) is)

    -- the file that is recorded took these in
    pub recorded_own : (p : OpenState) (later : Kept) (more : List Entry) → later.work ≡ recording made p → later.found ≡ k.found
        → ((text : List ℕ) (entries : List Entry) (n : ℕ) → IsShown image o text entries n → (m : ℕ) × IsShown new p text (entries ++ more) m) → OwnGrow k image later new more
    recorded_own p later more is stays shows = inr (λ own has.
        let it = end_open own has in
        let then = shows it.text it.now it.shown it.shows in
        own_in later (recording made p) new (own ++ more) is stays
        (record {
          ended = it.ended;
          now = it.now ++ more;
          own_is = ap (λ (l : List Entry). l ++ more) it.own_is ∙ append_assoc it.ended it.now more;
          before = before_stays it.ended it.before;
          text = it.text;
          shown = then.0;
          shows = then.1;
        }))

    -- it took them in and was closed
    pub stopped_own : (first : ℕ) (later : Kept) (more : List Entry) → later.work ≡ idle made → later.found ≡ k.found
        → ((text : List ℕ) (entries : List Entry) (n : ℕ) → IsShown image o text entries n → EndsLast new made first text (entries ++ more)) → OwnGrow k image later new more
    stopped_own first later more is stays ends = inr (λ own has.
        let it = end_open own has in
        let split = last_split (λ (e : DirectoryEntry). (e.first_block ≡ first) × IsEnded new e it.text (it.now ++ more)) (listed_files made) (ends it.text it.now it.shown it.shows) in
        let own_is : own ++ more ≡ it.ended ++ (it.now ++ more) = ap (λ (l : List Entry). l ++ more) it.own_is ∙ append_assoc it.ended it.now more in
        own_in later (idle made) new (own ++ more) is stays
        (subst (λ (l : List Entry). EndAfter k.found new (listed_files made) l) (sym own_is)
        (subst (λ (l : List DirectoryEntry). EndAfter k.found new l (it.ended ++ (it.now ++ more))) (sym split.1)
        (after_with k.found new (ended_in made) split.0 it.ended it.text (it.now ++ more) split.2.1 (before_stays it.ended it.before)))))

-- ---- what lanes give goes after whatever the file carries

ends_each : {L : Type 0} (spec_of : L → ChannelSpec) (reached : L → ℕ) (entries others : List Entry) → ((channel : ℕ) → on_channel channel entries ≡ on_channel channel others) → (lanes : List L) → AllEnd spec_of reached lanes entries → AllEnd spec_of reached lanes others
ends_each spec_of reached entries others same [] all = tt
ends_each spec_of reached entries others same (l ∷ lanes) all =
    (omega (arith, all.0, ap (λ (es : List Entry). last_count 0 es) (same (spec_of l).id)), ends_each spec_of reached entries others same lanes all.1)

pub ends_too : {L : Type 0} (spec_of : L → ChannelSpec) (reached : L → ℕ) (image : Image) (o : OpenState) (text other : List ℕ) (entries others : List Entry) (n m : ℕ) (lanes : List L) → IsShown image o text entries n → AllEnd spec_of reached lanes entries
    → IsShown image o other others m → AllEnd spec_of reached lanes others
ends_too spec_of reached image o text other entries others n m lanes was ends is =
    ends_each spec_of reached entries others (carries_one o.recording image text other entries others was.carried.carries is.carried.carries) lanes ends

-- ---- the calls on the directory

-- a directory is taken into use, whose blocks alone change
pub mounted_own : (k later : Kept) (old new : Image) (chain : List ChainBlock) → k.work ≡ unmounted → IsWhole old → IsUsable k.config.directory old chain → KeepsFront k.config.directory (length old) old new
    → later.work ≡ idle (with_shutdown 0x00 chain) → later.found ≡ option_or k.found (Some (length (listed_files chain))) → OwnGrow k old later new []
mounted_own k later old new chain at whole usable front is first = inr (λ own has.
    subst (λ (w : Work). OwnIn later.found w new (own ++ [])) (sym is)
    (subst (λ (l : List Entry). EndAfter later.found new (listed_files (with_shutdown 0x00 chain)) l) (sym (append-nil own))
    (subst (λ (l : List DirectoryEntry). EndAfter later.found new l own) (sym (files-with_shutdown 0x00 chain)) (by own (subst (λ (w : Work). OwnIn k.found w old own) at has)))))
  where
    by : (own : List Entry) → ((k.found ≡ None) × (own ≡ [])) ⊎ ((c : List ChainBlock) × IsDirectory old c × EndAfter k.found old (listed_files c) own) → EndAfter later.found new (listed_files chain) own
    by own (inl none) = record {
      number = length (listed_files chain);
      found_is = first ∙ ap (λ (o : Option ℕ). option_or o (Some (length (listed_files chain)))) none.0;
      within = omega arith;
      ended = subst (λ (l : List DirectoryEntry). AreEnded new l own) (sym (drop_all (length (listed_files chain)) (listed_files chain) (omega arith))) none.1;
    }
    by own (inr it) =
        let was : EndAfter k.found old (listed_files chain) own = subst (λ (c : List ChainBlock). EndAfter k.found old (listed_files c) own) (one_directory old it.0 chain it.1 usable.directory) it.2 in
        let now = after_keeps k.found old new (listed_files chain) own (all_keep k.config.directory old new chain whole usable front) was in
        record {
          number = now.number;
          found_is = first ∙ ap (λ (o : Option ℕ). option_or o (Some (length (listed_files chain)))) now.found_is;
          within = now.within;
          ended = now.ended;
        }

pub dismounted_own : (k later : Kept) (old new : Image) (chain : List ChainBlock) → k.work ≡ idle chain → IsWhole old → IsUsable k.config.directory old chain → KeepsFront k.config.directory (length old) old new
    → IsDirectory new (with_shutdown 0xFF chain) → later.work ≡ unmounted → later.found ≡ k.found → OwnGrow k old later new []
dismounted_own k later old new chain at whole usable front there is stays = inr (λ own has.
    let was : EndAfter k.found old (listed_files chain) own = subst (λ (w : Work). OwnIn k.found w old own) at has in
    let now = after_keeps k.found old new (listed_files chain) own (all_keep k.config.directory old new chain whole usable front) was in
    subst (λ (f : Option ℕ). OwnIn f later.work new (own ++ [])) (sym stays)
    (subst (λ (w : Work). OwnIn k.found w new (own ++ [])) (sym is)
    (subst (λ (l : List Entry). OwnIn k.found unmounted new l) (sym (append-nil own))
    (inr (with_shutdown 0xFF chain, there, subst (λ (l : List DirectoryEntry). EndAfter k.found new l own) (sym (files-with_shutdown 0xFF chain)) now)))))

-- no file is listed
pub erased_own : (later : Kept) (new : Image) (made : List ChainBlock) → later.work ≡ idle made → later.found ≡ Some 0 → listed_files made ≡ [] → AreOwn later new []
erased_own later new made is none empty =
    subst (λ (w : Work). OwnIn later.found w new []) (sym is)
    (record { number = 0; found_is = none; within = omega arith; ended = subst (λ (l : List DirectoryEntry). AreEnded new l []) (sym empty) refl })

-- a file is begun after all others
pub started_own : (k later : Kept) (old new : Image) (chain made : List ChainBlock) (o : OpenState) (text : List ℕ) (more : List Entry) (n : ℕ) → k.work ≡ idle chain → IsWhole old → IsUsable k.config.directory old chain
    → KeepsFront k.config.directory (block_behind k.config.directory (listed_files chain)) old new → ended_in made ≡ listed_files chain → IsShown new o text more n → later.work ≡ recording made o → later.found ≡ k.found → OwnGrow k old later new more
started_own k later old new chain made o text more n at whole usable front ended shows is stays = inr (λ own has.
    let was : EndAfter k.found old (listed_files chain) own = subst (λ (w : Work). OwnIn k.found w old own) at has in
    let now = after_keeps k.found old new (listed_files chain) own (listed_keep k.config.directory old new chain whole usable front) was in
    subst (λ (f : Option ℕ). OwnIn f later.work new (own ++ more)) (sym stays)
    (subst (λ (w : Work). OwnIn k.found w new (own ++ more)) (sym is)
    (record { ended = own; now = more; own_is = refl; before = subst (λ (l : List DirectoryEntry). EndAfter k.found new l own) (sym ended) now; text = text; shown = n; shows = shows })))

-- the last file is closed, which was left open

number_reserved : (reserved : ℕ) (image : Image) (chain : List ChainBlock) → IsUsable reserved image chain → 0 < length (listed_files chain) → (at_place chain (last_listing chain)).number ≤ reserved
number_reserved reserved image chain usable some =
    let found = last_of chain some in
    let place = placed reserved 1 chain (place_rules_hold reserved (length image) chain usable.rules) found.0 found.1.within in
    subst (λ (i : ℕ). (at_place chain i).number ≤ reserved) (sym (last_listing_is chain found.0 found.1)) (omega (arith, place.0, place.1))

number_some : (reserved : ℕ) (image : Image) (chain : List ChainBlock) → IsUsable reserved image chain → 0 < length (listed_files chain) → 1 ≤ (at_place chain (last_listing chain)).number
number_some reserved image chain usable some =
    let found = last_of chain some in
    let place = placed reserved 1 chain (place_rules_hold reserved (length image) chain usable.rules) found.0 found.1.within in
    subst (λ (i : ℕ). 1 ≤ (at_place chain i).number) (sym (last_listing_is chain found.0 found.1)) (omega (arith, place.0))

pub sealed_front : (reserved : ℕ) (old new : Image) (chain made : List ChainBlock) (nodes : ℕ) (e : DirectoryEntry) (packets : List Packet) → IsUsable reserved old chain → 0 < length (listed_files chain) → ListsSealed nodes e packets chain made old new → KeepsFront reserved e.first_block old new
sealed_front reserved old new chain made nodes e packets usable some closed =
    let number = (at_place chain (last_listing chain)).number in
    let low : number ≤ reserved = number_reserved reserved old chain usable some in
    let high : 1 ≤ number = number_some reserved old chain usable some in
    record {
      size = closed.turned.others.size ∙ closed.puts.size;
      zeroth = λ less.
          closed.turned.others.others 0 (All-cons (λ (m : ℕ). 0 ≢ m) number [] (λ same. absurd (omega (arith, same, high))) (All-nil (λ (m : ℕ). 0 ≢ m)))
          ∙ (below_puts e.first_block _ old closed.between closed.puts).blocks 0 less;
      blocks = λ n behind less.
          closed.turned.others.others n (All-cons (λ (m : ℕ). n ≢ m) number [] (λ same. absurd (omega (arith, same, behind, low))) (All-nil (λ (m : ℕ). n ≢ m)))
          ∙ (below_puts e.first_block _ old closed.between closed.puts).blocks n less;
    }

abbrev IsLeft : List DirectoryEntry → DirectoryEntry → Type 0
IsLeft listed e = (last_or None listed ≡ Some e) × (is_closed e ≡ false)

left : (listed : List DirectoryEntry) → is_last_closed listed ≡ false → (e : DirectoryEntry) → last_or None listed ≡ Some e → is_closed e ≡ false
left listed unsealed e found = subst (λ (o : Option DirectoryEntry). elim o as (λ (x : Option DirectoryEntry). Bool) [ None ↦ true | Some d ↦ is_closed d ] ≡ false) found unsealed

pub sealed_own : (k later : Kept) (old new : Image) (chain made : List ChainBlock) (nodes : ℕ) → k.work ≡ idle chain → is_last_closed (listed_files chain) ≡ false
    → ((e : DirectoryEntry) → last_or None (listed_files chain) ≡ Some e → SealsFile old chain e nodes (512 * (length old - e.first_block)) new made) → later.work ≡ idle made → later.found ≡ k.found → OwnGrow k old later new []
sealed_own k later old new chain made nodes at unsealed done is stays = inr (λ own has.
    let was : EndAfter k.found old (listed_files chain) own = subst (λ (w : Work). OwnIn k.found w old own) at has in
    let it = last_split (IsLeft (listed_files chain)) (listed_files chain) (sealed_some (IsLeft (listed_files chain)) (last_or None (listed_files chain)) unsealed (λ e found. (found, left (listed_files chain) unsealed e found))) in
    let e = it.0 in
    let seals = done e it.2.0 in
    let some : 0 < length (listed_files chain) = omega (arith, ap (λ (l : List DirectoryEntry). length l) it.1, length-append (ended_in chain) (e ∷ [])) in
    let entry = sealed_entry nodes seals.packets seals.closed.time.civil e in
    let listed : listed_files made ≡ ended_in chain ++ entry ∷ [] = ap (λ (c : List ChainBlock). listed_files c) seals.closed.made_is ∙ files-updated entry chain some in
    let then : EndAfter k.found new (listed_files made) own = subst (λ (l : List DirectoryEntry). EndAfter k.found new l own) (sym listed)
    (after_left k.found old new (ended_in chain) e entry own it.2.1 (subst (λ (l : List DirectoryEntry). EndAfter k.found old l own) it.1 was)) in
    subst (λ (f : Option ℕ). OwnIn f later.work new (own ++ [])) (sym stays)
    (subst (λ (w : Work). OwnIn k.found w new (own ++ [])) (sym is) (subst (λ (l : List Entry). EndAfter k.found new (listed_files made) l) (sym (append-nil own)) then)))

-- ---- where a call on the directory is refused

pub stay_idle : (k : Kept) (old new : Image) (chain made : List ChainBlock) → k.work ≡ idle chain → made ≡ chain → new ≡ old → OwnStay k old (record k { work = idle made }) new
stay_idle k old new chain made at same reads =
    subst (λ (l : List ChainBlock). OwnStay k old (record k { work = idle l }) new) (sym same)
    (subst (λ (x : Image). OwnStay k old (record k { work = idle chain }) x) (sym reads) (subst (λ (w : Work). OwnStay k old (record k { work = w }) old) at (stay_same k old)))

-- ---- entries of other channels

on_other : (channel : ℕ) (e : Entry) → (channel ≡ e.channel → ⊥) → on_channel channel (e ∷ []) ≡ []
on_other channel e other = rw (ne_eqb e.channel channel (λ same. other (sym same))) refl

pub none_of : (specs : List ChannelSpec) (e : Entry) → AllByRecursion (λ (spec : ChannelSpec). spec.id ≡ e.channel → ⊥) specs → AllByRecursion (λ (spec : ChannelSpec). on_channel spec.id (e ∷ []) ≡ []) specs
none_of [] e all = tt
none_of (spec ∷ specs) e all = (on_other spec.id e all.0, none_of specs e all.1)
