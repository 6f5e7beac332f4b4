-- What calls on the directory make of the files, as steps of the machine.
use Rattle.std.proofs.Common.{◌≡◌, ◌⊎◌, ⊎_elim, inl, inr, ◌≤◌, ◌+◌, ℕ, List, [], ◌∷◌, ◌++◌, Option, Some, None, true, false, map, refl, sym, ap, ◌∙◌, subst, arith, is_some}
use Rattle.std.specs.Prelude.{IsSomeAnd, Result}
use Rattle.r10_count.specs.Checks.{first_broken}
use Rattle.r10_dirchain.specs.Chain.{listed_files}
use Rattle.r10_dirchain.specs.declared.chain.ChainBlock.{ChainBlock}
use Rattle.r10_machine.proofs.Growing.{append_last}
use Rattle.r10_machine.specs.Calls.{Starts, empty_file, shown_whole, time_entry}
use Rattle.r10_machine.specs.Checks.{recording_checks}
use Rattle.r10_machine.specs.ControlCalls.{closed_in, erased_with}
use Rattle.r10_machine.specs.Machine.{File, Machine, Tick, change_last, last_size, with_entries, with_last}
use Rattle.r10_machine.specs.Room.{area, cost_of, fits}
use Rattle.r10_machine.specs.Says.{MediumSays}
use Rattle.r10_machine.specs.EventChecks.{refusal}
use Rattle.r10_machine.specs.declared.event.Event.TheVariants.{Commit, Erase, Seal, Start}
use Rattle.r10_machine.specs.declared.mode.Mode.TheVariants as modes
use Rattle.r10_machine.specs.declared.reply.Reply.TheVariants as replies
use Rattle.r10_refinement.specs.KeptState.{Kept, Work, mode_of, idle, recording}
use Rattle.r10_refinement.specs.Means.{HasFiles, KeptStandsFor}
use Rattle.r10_medium.proofs.PowerLoss.{weakened}
use Rattle.r10_medium.specs.Disk.{Disk, Image}
use Rattle.r10_medium.specs.PowerLoss.{Leaves, Settled}
use Rattle.r10_openfile.specs.Keeping.{Becomes, StopKeepsFiles, Keeps}
use Rattle.r10_openfile.specs.Starting.{begun_file}
use Rattle.r10_seal.specs.Leftover.{IsOpenOrClosed, IsLeftOpen, SealsLast, StaysOpen, shown_cost}
use Rattle.r10_seal.specs.Sealing.{sealed}
use Rattle.r10_refinement.specs.PowerLossInCalls.{Makes}
use Rattle.r10_refinement.specs.PowerLossInCalls.{IsEither as MachineEither}
use Rattle.r10_refinement.specs.Safe.{IsSafe}
use Rattle.r10_volume.specs.Holding.{HoldsFiles, OpenState}
use Rattle.r10_volume.specs.Listing.{is_last_closed}
use Rattle.r10_volume.specs.Settling.{IsSettled}
use Rattle.r10_control.specs.Started.{recorder_start_checks}
use Rattle.r10_control.proofs.Bytes.{holds_of}
use Rattle.r10_control.proofs.Commits.{same_check as commit_check}
use Rattle.r10_control.proofs.Erases.{checked as erase_checked, same_check as erase_check}
use Rattle.r10_control.proofs.Pumps.{last_changes}
use Rattle.r10_control.proofs.Seals.{Left, checked as seal_checked, left_open, same_check as seal_check, seals_so}
use Rattle.r10_control.proofs.Starts.{same_check as start_check}
use Rattle.r10_control.proofs.PowerLossPoints.{IsLeftEither, LeavesShown, idle_becomes, recorded_becomes, settled_idle}

-- ---- a commit

commit_makes : (k : Kept) (m : Machine) (front : List File) (f : File) (size : ℕ) (image : Image) → refusal k.config m Commit ≡ None → m.files ≡ front ++ f ∷ [] → MediumSays k.config image (front ++ shown_whole size f ∷ [])
    → Makes k.config m Commit image
commit_makes k m front f size image fine is says =
    let shown : List File = front ++ shown_whole size f ∷ [] in
    let made : Machine = record m { files = shown } in
    let size_is : last_size made ≡ size = ap (λ (g : Option File). elim g [ None ↦ 0 | Some x ↦ x.size ]) (append_last None front (shown_whole size f)) in
    let listed : change_last (shown_whole size) m.files ≡ shown = ap (λ (l : List File). change_last (shown_whole size) l) is ∙ last_changes (shown_whole size) front f in
    let changed : shown ≡ change_last (shown_whole (last_size made)) m.files = sym listed ∙ ap (λ n. change_last (shown_whole n) m.files) (sym size_is) in
    let does : made ≡ with_last (shown_whole (last_size made)) m = ap (λ (l : List File). record m { files = l }) changed in
    record { reply = replies.Done; made = made; step = (omega arith, (fine, does)); says = says }

pub commit_left : (k : Kept) (old new : Disk) (chain : List ChainBlock) (o : OpenState) (size : ℕ) → k.work ≡ recording chain o → first_broken (recording_checks (mode_of k.work)) ≡ None
    → ((front : List File) (f : File) → HoldsFiles k.config old.blocks chain (Some o) (front ++ f ∷ []) → Becomes k.config front f (front ++ shown_whole size f ∷ []) old new) → LeavesShown (λ m. Makes k.config m Commit) k old new
commit_left k old new chain o size at fine becomes =
    recorded_becomes (λ m. Makes k.config m Commit) k old new chain o at (λ m front f means is held kept. weakened
    (λ image. Keeps k.config front f old.blocks image ⊎ MediumSays k.config image (front ++ shown_whole size f ∷ []))
    (λ image. Keeps k.config front f old.blocks image ⊎ Makes k.config m Commit image) old new
    (λ image. ⊎_elim (λ keeps. inl keeps) (λ says. inr (commit_makes k m front f size image (commit_check k old.blocks old.failures m means ∙ fine) is says)))
    (becomes front f held kept))

-- ---- an erase

pub erase_left : (k : Kept) (old new : Disk) (chain : List ChainBlock) → k.work ≡ idle chain → erase_checked k ≡ None
    → ((files : List File) → HoldsFiles k.config old.blocks chain None files → Settled (λ image. MediumSays k.config image files) old → Leaves (λ image. MediumSays k.config image files ⊎ MediumSays k.config image []) old new)
    → LeavesShown (λ m. Makes k.config m Erase) k old new
erase_left k old new chain at fine leaves =
    idle_becomes (λ m. Makes k.config m Erase) k old new chain at (λ m means held settled. weakened
    (λ image. MediumSays k.config image m.files ⊎ MediumSays k.config image []) (λ image. MediumSays k.config image m.files ⊎ Makes k.config m Erase image) old new
    (λ image. ⊎_elim (λ says. inl says) (λ says. inr (record {
      reply = replies.Done;
      made = record m { files = []; generation = m.generation + 1; lanes = map (erased_with m.files) m.lanes };
      step = (omega arith, (erase_check k old.blocks old.failures m means ∙ fine, refl));
      says = says;
    })))
    (leaves m.files held settled))

-- ---- a start

start_makes : (k : Kept) (m : Machine) (clock : Tick) (name setup : List ℕ) (image : Image) → m.tick ≡ Some clock → refusal k.config m (Start name setup) ≡ None
    → fits k.config (empty_file k.config m.files name setup) (time_entry k.config clock) ≡ true → MediumSays k.config image (m.files ++ begun_file k.config m.files name setup clock.count clock.civil ∷ []) → Makes k.config m (Start name setup) image
start_makes k m clock name setup image ticks fine room says =
    let f : File = begun_file k.config m.files name setup clock.count clock.civil in
    let end : Machine = record m { mode = modes.Recording; files = m.files ++ f ∷ [] } in
    let size_is : last_size end ≡ f.size = ap (λ (o : Option File). elim o [ None ↦ 0 | Some x ↦ x.size ]) (append_last None m.files f) in
    let does : Starts k.config m name setup end =
    subst (λ (o : Option Tick). IsSomeAnd o (λ (t : Tick). (fits k.config (empty_file k.config m.files name setup) (time_entry k.config t) ≡ true)
    × (end ≡ record m { mode = modes.Recording; files = m.files ++ shown_whole (last_size end) (with_entries (time_entry k.config t ∷ []) (empty_file k.config m.files name setup)) ∷ [] }))) (sym ticks)
    (room, ap (λ n. record m { mode = modes.Recording; files = m.files ++ shown_whole n (with_entries (time_entry k.config clock ∷ []) (empty_file k.config m.files name setup)) ∷ [] }) (sym size_is)) in
    record { reply = replies.Done; made = end; step = (omega arith, (fine, does)); says = says }

pub start_left : (k : Kept) (old new : Disk) (chain : List ChainBlock) (clock : Tick) (name setup : List ℕ) → k.work ≡ idle chain → k.tick ≡ Some clock → first_broken (recorder_start_checks k.config k.work (is_some k.tick) name setup) ≡ None
    → ((files : List File) → HoldsFiles k.config old.blocks chain None files → fits k.config (empty_file k.config files name setup) (time_entry k.config clock) ≡ true)
    → ((files : List File) → HoldsFiles k.config old.blocks chain None files → Settled (λ image. MediumSays k.config image files) old
    → Leaves (λ image. MediumSays k.config image files ⊎ MediumSays k.config image (files ++ begun_file k.config files name setup clock.count clock.civil ∷ [])) old new)
    → LeavesShown (λ m. Makes k.config m (Start name setup)) k old new
start_left k old new chain clock name setup at ticks fine room leaves =
    idle_becomes (λ m. Makes k.config m (Start name setup)) k old new chain at (λ m means held settled. weakened
    (λ image. MediumSays k.config image m.files ⊎ MediumSays k.config image (m.files ++ begun_file k.config m.files name setup clock.count clock.civil ∷ []))
    (λ image. MediumSays k.config image m.files ⊎ Makes k.config m (Start name setup) image) old new
    (λ image. ⊎_elim (λ says. inl says) (λ says. inr (start_makes k m clock name setup image (means.tick ∙ ticks) (start_check k old.blocks old.failures m name setup means ∙ fine) (room m.files held) says)))
    (leaves m.files held settled))

-- ---- a seal

seal_makes : (k : Kept) (old : Image) (n : ℕ) (m : Machine) (chain : List ChainBlock) (nodes : ℕ) (l : Left k old chain nodes m) (size : ℕ) (image : Image) → refusal k.config m Seal ≡ None → cost_of l.f ≤ area k.config l.f
    → MediumSays k.config image (l.files ++ closed_in size l.f ∷ []) → Makes k.config m Seal image
seal_makes k old n m chain nodes l size image fine room says = record {
  reply = replies.Done;
  made = record m { files = l.files ++ closed_in size l.f ∷ [] };
  step = (omega arith, (fine, seals_so k old m.failures m chain nodes l size room));
  says = says;
}

pub seal_left : {T E : Type 0} (known : Machine → Type 0) (k : Kept) (old new : Disk) (chain made : List ChainBlock) (nodes : ℕ) (result : Result T E) → k.work ≡ idle chain → seal_checked k ≡ None → is_last_closed (listed_files chain) ≡ false → nodes ≡ k.config.nodes
    → ((files : List File) (f : File) → IsLeftOpen k.config old.blocks chain nodes files f → SealsLast nodes k.config files f old new made result)
    → ((files : List File) (f : File) → IsLeftOpen k.config old.blocks chain nodes files f → StaysOpen k.config files f old new ⊎ (shown_cost f ≤ area k.config f))
    → ((files : List File) (f : File) → HoldsFiles k.config old.blocks chain None (files ++ f ∷ []) → f.own ≡ false → shown_cost f ≡ cost_of f) → IsLeftEither known k Seal old new
seal_left known k old new chain made nodes result at fine unsealed nodes_are sealing room costs m means is safe = by (room l.files l.f l.left)
  where
    l : Left k old.blocks chain nodes m
    l = left_open k old.blocks old.failures m chain nodes means at unsealed nodes_are

    settled : IsSettled k.config (l.files ++ l.f ∷ []) old
    settled = subst (λ (fs : List File). IsSettled k.config fs old) l.all (settled_idle k.config chain m.files old (subst (λ (w : Work). IsSafe k.config w m.files old) at safe))

    was : (image : Image) → MediumSays k.config image (l.files ++ l.f ∷ []) → MediumSays k.config image m.files
    was image says = subst (λ (fs : List File). MediumSays k.config image fs) (sym l.all) says

    by : StaysOpen k.config l.files l.f old new ⊎ (shown_cost l.f ≤ area k.config l.f) → Leaves (MachineEither k.config m Seal) old new
    by (inl still) = weakened (λ image. MediumSays k.config image (l.files ++ l.f ∷ [])) (MachineEither k.config m Seal) old new (λ image says. inl (was image says)) (still.left settled)
    by (inr room) =
        let seals = sealing l.files l.f l.left in
        weakened (IsOpenOrClosed nodes k.config l.files l.f seals.packets) (MachineEither k.config m Seal) old new
        (λ image. ⊎_elim (λ says. inl (was image says)) (λ says. inr (seal_makes k old.blocks old.failures m chain nodes l (sealed nodes seals.packets l.f).size image (seal_check k old.blocks old.failures m means ∙ fine)
        (omega (arith, costs l.files l.f l.left.held l.own, room)) says)))
        (seals.moments settled)
