-- `from_loose` moves the pointer and the right to it from a loose box into a handle: a walk of its MIR.
use Rattle.std.proofs.Common.{List, [], ◌∷◌, ◌++◌, Some, sym, refl, subst}
use Rattle.std.proofs.raw_atomic.Walks.{proved_at}
use base.Logic.{SProp, ent, id⊢}
use base.Fml.{ftrue}
use mir.Val.{Val, vptr}
use prog.Wp.{WpFn}
use contract.Running.{tables}
use types.Kit.{‵, ◌⊛◌, ◌$◌, ◌∵◌, !, qed, done, move, keep, split, join, fsplit, fjoin, suffices}
use types.Part.{whole, sub, agg}
use types.Run.{enter, of_opd, no_more, and_then, stop, fld, returns}
use types.ByLocal.{alloc_all, pass_all, free_all, look_at, get, get_in, sets}
use denote.Exit.{no}
use denote.RattleType.{RattleType, owns}
use denote.RawPtr.{block_ptr}
use denote.Signature.{plain, types_at}
use denote.Steps.{nothing}
use denote.Triple.Walked.{says, Stays, walk_of, stay_dropped, ends_at}
use Rattle.std.proofs.alloc.Calls.{Goes-blank}
use Rattle.std.specs.contracts.impls.GlobalAllocator.TheImpl.{ghosts}
use Rattle.std.proofs.alloc.Global.TheLaws as heap_laws
use Rattle.r10_ends.proofs.Words.{both, Loose, loose_good, loose_out}
use Rattle.r10_ffi.proofs.Handles.{Z, handle_in}
use Rattle.r10_ffi.specs.contracts.held.LentRecorder.{the_row as R}
use Rattle.r10_ffi.specs.contracts.handle.Handle.from_loose as f
use Rattle.r10_ffi.proofs.handle.Handle.from_loose.Statement.{statement}
use Rattle.r10_ffi.proofs.handle.Handle.from_loose.Code as code

abbrev L : RattleType
L = Loose R Z heap_laws.the_row_laws ghosts

abbrev stayed : Stays f.ended.signature.params f.ended.kept
stayed = (stay_dropped (plain (λ _. L)) no, tt)

pub from_loose_spec : {M : Type 1} → statement M
from_loose_spec 𝓤 𝓛 𝓜 𝓡 wired =
    let c = f.clauses 𝓛 𝓜.mem 𝓡.returns in let 𝓣 = tables 𝓤 𝓛.H 𝓜 𝓡 𝓡.env in
    proved_at 𝓛 f.ended stayed c 𝓜 𝓡 (Goes-blank 𝓛 0 (plain (λ _. L)) no (λ κs x w. tt), tt) f.Key.name code.function (code.unfolded 𝓤 𝓛.H 𝓜 𝓡 wired) (λ z are.
    let v = z.0.3.0 in let Post : Val → SProp 𝓤 = (walk_of 𝓛 f.ended stayed c).post z in let Run : List Val → SProp 𝓤 = λ ws. WpFn 𝓤 𝓛.H 𝓣.C 𝓣.Λ code.function ws Post in
    qed 𝓛 ((‵ ftrue ⊛ ‵ (owns (types_at f.ended.signature.params z.0.0) z.0.3 z.0.4)) ∷ ‵ ftrue ∷ []) ∵
    split ! $ move ! (1 ∷ []) $ fsplit ! $ loose_out R Z heap_laws.the_row_laws ghosts ! v z.0.4.0 (λ b o h e ws fits.
    let typed = loose_good R Z heap_laws.the_row_laws ghosts b o h fits in
    suffices ! (Run (both (vptr b o) h ∷ [])) (subst (λ (us : List Val). ent 𝓤 (Run (both (vptr b o) h ∷ [])) (Run us)) (sym (λ i. ws i ++ [])) (id⊢ 𝓤 (Run (both (vptr b o) h ∷ [])))) $
    keep ! (0 ∷ 1 ∷ []) $ enter ! 𝓣.C 𝓣.Λ code.function _ Post $ alloc_all ! (λ l. pass_all ! refl (typed, tt) $
    sets ! (of_opd ! (get_in ! (fld ! refl (stop !)) (sub ! 0 refl (whole !)))) refl (tt, tt) $
    sets ! (of_opd ! (get_in ! (fld ! refl (stop !)) (sub ! 1 refl (whole !)))) refl fits $
    sets ! (of_opd ! (get ! refl)) refl (tt, tt) $
    sets ! (agg ! (and_then ! (get ! refl) (and_then ! (get ! refl) (no_more !)))) refl typed $
    handle_in ! b o h v.alloc v.value $
    returns ! (look_at ! 0 refl) $ free_all ! refl $
    suffices ! _ (ends_at 𝓛 f.ended stayed c z (both (vptr b o) h) (record { at = block_ptr b o; alloc = v.alloc; held = Some v.value }) (tt, tt) (tt, tt)) $ says ! refl $
    nothing ! $ nothing ! $ fjoin ! $ join ! $ nothing ! $ join ! $ done !)))
