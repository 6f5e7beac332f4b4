-- `into_loose` moves the pointer and the right to it from an open handle into a loose box: a walk of its MIR.
use Rattle.std.proofs.Common.{◌≡◌, List, [], ◌∷◌, ◌++◌, Option, Some, sym, refl, subst}
use Rattle.r10_ends.specs.Owning.{IsThere}
use Rattle.std.proofs.raw_atomic.Walks.{proved_at}
use base.Logic.{SProp, ent, id⊢}
use base.Fml.{ftrue}
use mir.Val.{Val, vptr}
use prog.Wp.{WpFn}
use contract.Monad.{fact}
use contract.Running.{tables}
use types.Kit.{‵, raw, ◌⊛◌, ◌$◌, ◌∵◌, !, qed, done, move, keep, split, join, fsplit, suffices, rewrite}
use types.Part.{whole, sub, agg}
use types.Run.{enter, of_opd, no_more, and_then, stop, fld, returns}
use types.ByLocal.{alloc_all, pass_all, free_all, look_at, get, get_in, sets}
use denote.Exit.{yes}
use denote.RattleType.{RattleType, owns}
use denote.RawPtr.{block_ptr}
use denote.Signature.{plain, types_at}
use denote.Steps.{nothing, heard}
use denote.Triple.Walked.{says, Stays, walk_of, stay_dropped, Goes-dropped, ends_at}
use Rattle.std.specs.contracts.impls.GlobalAllocator.TheImpl.{ghosts}
use Rattle.std.proofs.alloc.Global.TheLaws as heap_laws
use Rattle.r10_ends.proofs.There.{the_some}
use Rattle.r10_ends.proofs.Words.{both, Loose, loose_good, loose_in}
use Rattle.r10_ffi.proofs.Handles.{Z, H, handle_out}
use Rattle.r10_ffi.specs.declared.held.LentRecorder.{LentRecorder}
use Rattle.r10_ffi.specs.contracts.held.LentRecorder.{the_row as R}
use Rattle.r10_ffi.specs.contracts.handle.Handle.into_loose as f
use Rattle.r10_ffi.proofs.handle.Handle.into_loose.Statement.{statement}
use Rattle.r10_ffi.proofs.handle.Handle.into_loose.Code as code

abbrev L : RattleType
L = Loose R Z heap_laws.the_row_laws ghosts

abbrev stayed : Stays f.ended.signature.params f.ended.kept
stayed = (stay_dropped (plain (λ _. H)) yes, tt)

pub into_loose_spec : {M : Type 1} → statement M
into_loose_spec 𝓤 𝓛 𝓜 𝓡 wired =
    let c = f.clauses 𝓛 𝓜.mem 𝓡.returns in let 𝓣 = tables 𝓤 𝓛.H 𝓜 𝓡 𝓡.env in
    proved_at 𝓛 f.ended stayed c 𝓜 𝓡 (Goes-dropped 𝓛 0 (plain (λ _. H)) yes (λ κs x w. refl), tt) f.Key.name code.function (code.unfolded 𝓤 𝓛.H 𝓜 𝓡 wired) (λ z are.
    let v = z.0.3.0 in let Post : Val → SProp 𝓤 = (walk_of 𝓛 f.ended stayed c).post z in let Run : List Val → SProp 𝓤 = λ ws. WpFn 𝓤 𝓛.H 𝓣.C 𝓣.Λ code.function ws Post in
    qed 𝓛 ((‵ ftrue ⊛ ‵ (owns (types_at f.ended.signature.params z.0.0) z.0.3 z.0.4)) ∷ raw (fact 𝓤 (IsThere v.held)) ∷ []) ∵
    move ! (1 ∷ []) $ heard ! (IsThere v.held) (λ is. let x = (the_some v.held is).0 in let e₀ : v.held ≡ Some x = (the_some v.held is).1 in
    split ! $ move ! (1 ∷ []) $ fsplit ! $ rewrite ! 0 (λ (w : Option LentRecorder). ‵ (H.own_val (record { at = v.at; alloc = v.alloc; held = w }) z.0.4.0)) e₀ refl $
    handle_out ! v.at v.alloc x z.0.4.0 (λ b o h e ws fits.
    let typed = loose_good R Z heap_laws.the_row_laws ghosts b o h fits in
    suffices ! (Run (both (vptr b o) h ∷ [])) (subst (λ (us : List Val). ent 𝓤 (Run (both (vptr b o) h ∷ [])) (Run us)) (sym (λ i. ws i ++ [])) (id⊢ 𝓤 (Run (both (vptr b o) h ∷ [])))) $
    keep ! (0 ∷ 1 ∷ []) $ enter ! 𝓣.C 𝓣.Λ code.function _ Post $ alloc_all ! (λ l. pass_all ! refl (typed, tt) $
    sets ! (of_opd ! (get_in ! (fld ! refl (stop !)) (sub ! 0 refl (whole !)))) refl (tt, tt) $
    sets ! (of_opd ! (get_in ! (fld ! refl (stop !)) (sub ! 1 refl (whole !)))) refl fits $
    sets ! (of_opd ! (get ! refl)) refl (tt, tt) $
    sets ! (agg ! (and_then ! (get ! refl) (and_then ! (get ! refl) (no_more !)))) refl typed $
    loose_in R Z heap_laws.the_row_laws ghosts ! b o h v.alloc x $
    returns ! (look_at ! 0 refl) $ free_all ! refl $
    suffices ! _ (ends_at 𝓛 f.ended stayed c z (both (vptr b o) h) (record { at = block_ptr b o; alloc = v.alloc; value = x }) (tt, tt) (tt, tt)) $ says ! e₀ $
    nothing ! $ nothing ! $ join ! $ join ! $ nothing ! $ join ! $ done !))))
