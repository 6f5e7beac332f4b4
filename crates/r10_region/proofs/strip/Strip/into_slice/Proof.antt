-- `into_slice` takes the strip apart and lends what it owned for as long as the caller asks: a walk of its MIR.
use Rattle.std.proofs.Common.{ℕ, ◌*◌, ◌^◌, ◌<◌, List, [], ◌∷◌, length, refl, sym, subst, arith}
use Rattle.std.proofs.raw_atomic.Walks.{proved}
use Rattle.std.proofs.VecSteps.Shapes.{after}
use base.Fraction.{full_share}
use base.Logic.{id⊢}
use base.Fml.{ftrue, fsep, feq, flft, fauth}
use base.Stored.{coded_list}
use mir.Syntax.{named}
use prog.Wp.{Env, WpFn}
use contract.Running.{tables}
use types.Kit.{‵, prop, ◌⊛◌, at_ret, ◌$◌, ◌∵◌, !, qed, done, move, keep, drop, use1, use2, split, join, fsplit, fjoin, fpack, feq_i, feq_l, rewrite, regoal, suffices}
use types.Part.{whole, sub, agg}
use types.Run.{enter, of_opd, no_more, and_then, stop, fld, first, blocks, exec, returns}
use types.ByLocal.{alloc_all, pass_all, free_all, look_at, get, get_in, sets, sets_last, env}
use types.SemTy.{Arr, cells}
use types.Tokens.{name_new, bor_new}
use denote.Array.{Array}
use denote.ArrayMemory.{Array-apart}
use denote.Builtin.{u8}
use denote.Exit.{yes}
use denote.FollowSlice.{slice_of}
use denote.Index.{row, whole_in}
use denote.Memory.{mem}
use denote.RattleType.{RattleType}
use denote.RawPtr.{Ptr, block_ptr, lies_at, in_a_block}
use denote.Signature.{plain}
use denote.Slice.{MutSlice, Room, slice_val}
use denote.Steps.{nothing}
use denote.Triple.Walked.{says, Stays, walk_of, stay_dropped, Goes-dropped, ends_at}
use Rattle.r10_region.specs.declared.strip.Strip.{Strip}
use Rattle.r10_region.specs.contracts.strip.Strip.{the_row as S}
use Rattle.r10_region.proofs.strip.Strip.TheLaws.{lowers}
use Rattle.r10_region.specs.contracts.strip.Strip.into_slice as f
use Rattle.r10_region.proofs.strip.Strip.into_slice.Statement.{statement}
use Rattle.r10_region.proofs.strip.Strip.into_slice.Code as code

abbrev stayed : Stays f.ended.signature.params f.ended.kept
stayed = (stay_dropped (plain (λ _. S)) yes, tt)

abbrev B : RattleType
B = Array u8 512

pub into_slice_spec : {M : Type 1} → statement M
into_slice_spec 𝓤 𝓛 𝓜 𝓡 wired =
    let c = f.clauses 𝓛 𝓜.mem 𝓡.returns in let W = walk_of 𝓛 f.ended stayed c in let 𝓣 = tables 𝓤 𝓛.H 𝓜 𝓡 𝓡.env in
    proved 𝓛 f.ended stayed c 𝓜 𝓡 (Goes-dropped 𝓛 1 (plain (λ _. S)) yes (λ κs x w. refl), tt)
    f.Key.name code.function (code.unfolded 𝓤 𝓛.H 𝓜 𝓡 wired)
    (λ κs. ((λ d. lowers.lowered d ∷ []), tt)) (λ κs. (lowers.val_is, tt)) (λ κs qs bounds a g are.
    let κ = κs.0 in let q = qs.0 in let v = a.0 in let n = v.blocks in let xs = v.held in
    let at : Ptr → Strip = λ p. record v { at = p } in
    let y : Ptr → W.Ghost = λ p. ((κs, qs, bounds, (at p, tt), (lowers.lowered (at p) ∷ [], tt)), tt) in
    qed 𝓛 (((‵ (flft κ q) ⊛ ‵ ftrue) ⊛ ‵ (S.own_val v (lowers.lowered v ∷ [])) ⊛ ‵ ftrue) ∷ ‵ ftrue ∷ []) ∵
    move ! (1 ∷ []) $ drop ! $
    split ! $ split ! $ move ! (2 ∷ []) $ split ! $ fsplit ! $ drop ! $
    in_a_block ! v.at (λ p. lies_at (Array B n) full_share p xs) (id⊢ 𝓤 _) (λ b o e.
    regoal ! (λ p. prop (WpFn 𝓤 𝓛.H 𝓣.C 𝓣.Λ code.function (lowers.lowered (at p) ∷ []) (W.post (y p)))) e refl $
    let fit : n * 512 < 2 ^ 63 = v.fits in let fl : n < 2 ^ 64 = omega (arith, fit) in
    use1 𝓛 (‵ (fsep (feq ℕ (length xs) n) (row B full_share xs b o))) (Array-apart 𝓛 B full_share tt n xs b o) $ fsplit ! $ feq_l ! (λ l.
    keep ! (0 ∷ 2 ∷ []) $ enter ! _ _ _ _ _ $ alloc_all ! (λ ls. pass_all ! refl ((tt, (tt, (record { fits = fl }, tt))), tt) $
    let En : Env 𝓤 𝓛.H = env code.Mir.locals ls in
    sets ! (of_opd ! (get_in ! (fld ! refl (stop !)) (sub ! 0 refl (whole !)))) refl (tt, tt) $
    sets ! (of_opd ! (get_in ! (fld ! refl (stop !)) (sub ! 1 refl (whole !)))) refl (tt, record { fits = fl }) $
    first ! $ blocks ! $ sets_last ! (agg ! (and_then ! (get ! refl) (and_then ! (get ! refl) (no_more !)))) refl (tt, (tt, (record { fits = fl }, tt))) $
    exec ! 𝓣.C 𝓣.Λ En (after 3 (code.function).body) (at_ret En (W.post (y (block_ptr b o)))) $
    -- [the row; the token of κ; the locals]
    use1 𝓛 (‵ (cells (mem B) xs b o)) (whole_in 𝓛 B xs b o) $ feq_i ! ℕ (length xs) (length xs) refl $ fjoin ! $
    name_new ! tt ((coded_list B.coded).code xs) (λ γ.
    let All = Arr (mem B) (length xs) in let r : (MutSlice (named 0) κ B).Denot = record { ref_ptr = (b, o); ghost_name = γ; now = xs } in
    move ! (2 ∷ 1 ∷ []) $ fjoin ! $ fpack ! (List (List ℕ)) (λ ys. fsep (All.own_at ys b o) (fauth γ (All.coded.code ys))) xs $ bor_new ! tt κ $
    sets ! (of_opd ! (get ! refl)) refl (tt, (tt, (record { fits = fl }, tt))) $
    let room : Room B (length xs) = (subst (λ (m : ℕ). m < 2 ^ 64) (sym l) fl, subst (λ (m : ℕ). m * 512 < 2 ^ 63) (sym l) fit) in
    move ! (2 ∷ 0 ∷ []) $ use2 𝓛 (‵ ((MutSlice (named 0) κ B).own_val r (slice_val (b, o) (length xs) ∷ []))) (slice_of 𝓛 B (named 0) κ b o γ xs room) $
    rewrite ! 0 (λ (j : ℕ). ‵ ((MutSlice (named 0) κ B).own_val r (slice_val (b, o) j ∷ []))) l refl $
    returns ! (look_at ! 0 refl) $ free_all ! refl $ keep ! (0 ∷ 2 ∷ []) $
    suffices ! _ (ends_at 𝓛 f.ended stayed c (y (block_ptr b o)) (slice_val (b, o) n) r (tt, tt) (tt, tt)) $ says ! refl $
    nothing ! $ nothing ! $ join ! $ join ! $ nothing ! $ move ! (2 ∷ 0 ∷ []) $ join ! $ join ! $ done !)))))
