-- `none` makes a handle that is not open, and so owns nothing: a walk of its MIR.
use Rattle.std.proofs.Common.{List, [], ◌∷◌, ◌++◌, None, sym, refl, subst, lit<}
use Rattle.std.proofs.raw_atomic.Walks.{proved_at}
use base.Logic.{SProp, ent, id⊢}
use base.Fml.{ftrue}
use mir.Val.{Val, vnull}
use prog.Wp.{WpFn}
use contract.Running.{tables}
use types.Kit.{‵, ◌⊛◌, ◌$◌, ◌∵◌, !, qed, done, move, keep, split, join, fsplit, suffices}
use types.Part.{agg}
use types.Run.{enter, no_more, and_then, lit, returns}
use types.ByLocal.{alloc_all, pass_all, free_all, look_at, get, sets}
use denote.Exit.{yes}
use denote.RattleType.{owns}
use denote.RawPtr.{null_ptr}
use denote.Signature.{plain, types_at}
use denote.Steps.{nothing}
use denote.Triple.Walked.{says, Stays, walk_of, stay_dropped, Goes-dropped, ends_at}
use Rattle.std.proofs.ResultValues.{and_tt}
use Rattle.std.proofs.alloc.Calls.{handle_tells}
use Rattle.std.proofs.alloc.Global.TheLaws as heap_laws
use Rattle.std.specs.contracts.impls.GlobalAllocator.TheImpl.{ghosts}
use Rattle.r10_ffi.specs.contracts.held.LentRecorder.{the_row as R}
use Rattle.r10_ends.proofs.Words.{al, both}
use Rattle.r10_ffi.proofs.Handles.{Z, none_in}
use Rattle.r10_ffi.specs.contracts.handle.Handle.none as f
use Rattle.r10_ffi.proofs.handle.Handle.none.Statement.{statement}
use Rattle.r10_ffi.proofs.handle.Handle.none.Code as code

abbrev stayed : Stays f.ended.signature.params f.ended.kept
stayed = (stay_dropped (plain (λ _. Z)) yes, tt)

pub none_spec : {M : Type 1} → statement M
none_spec 𝓤 𝓛 𝓜 𝓡 wired =
    let c = f.clauses 𝓛 𝓜.mem 𝓡.returns in let 𝓣 = tables 𝓤 𝓛.H 𝓜 𝓡 𝓡.env in
    proved_at 𝓛 f.ended stayed c 𝓜 𝓡 (Goes-dropped 𝓛 0 (plain (λ _. Z)) yes (λ κs x w. refl), tt) f.Key.name code.function (code.unfolded 𝓤 𝓛.H 𝓜 𝓡 wired) (λ z are.
    let a = z.0.3.0 in let Post : Val → SProp 𝓤 = (walk_of 𝓛 f.ended stayed c).post z in let Run : List Val → SProp 𝓤 = λ ws. WpFn 𝓤 𝓛.H 𝓣.C 𝓣.Λ code.function ws Post in
    qed 𝓛 ((‵ ftrue ⊛ ‵ (owns (types_at f.ended.signature.params z.0.0) z.0.3 z.0.4)) ∷ ‵ ftrue ∷ []) ∵
    split ! $ move ! (1 ∷ []) $ fsplit ! $ handle_tells (al R Z heap_laws.the_row_laws ghosts) ! a z.0.4.0 (λ h e fits.
    suffices ! (Run (h ∷ [])) (subst (λ (us : List Val). ent 𝓤 (Run (h ∷ [])) (Run us)) (sym (λ i. e i ++ [])) (id⊢ 𝓤 (Run (h ∷ [])))) $
    keep ! (0 ∷ []) $ enter ! 𝓣.C 𝓣.Λ code.function _ Post $ alloc_all ! (λ l. pass_all ! refl (fits, tt) $
    sets ! (agg ! (and_then ! (lit ! tt) (and_then ! (get ! refl) (no_more !)))) refl (and_tt _ fits.0, (record { fits = lit< tt }, (fits.1, tt))) $
    none_in ! h a $
    returns ! (look_at ! 0 refl) $ free_all ! refl $
    suffices ! _ (ends_at 𝓛 f.ended stayed c z (both vnull h) (record { at = null_ptr; alloc = a; held = None }) (tt, tt) (tt, tt)) $ says ! refl $
    nothing ! $ nothing ! $ join ! $ join ! $ nothing ! $ join ! $ done !)))
