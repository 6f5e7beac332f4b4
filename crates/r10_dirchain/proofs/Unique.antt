-- A medium has one directory, or one first block at fault.
use Rattle.std.proofs.Common.{◌≡◌, ◌≢◌, ◌⊎◌, ℕ, ◌<◌, List, [], ◌∷◌, ◌++◌, map, length, drop, get_or, Result, Ok, Err, inl, inr, ⊎_elim, refl, sym, ap, ◌∙◌, subst, arith, length-append}
use Rattle.std.specs.List.{All, Contains}
use Rattle.std.proofs.Math.Seq.{drop-append_seam, get_or-append_seam}
use Rattle.std.proofs.lemmas.List.{get_or_append_left, get_or_default, get_or-map, length-map}
use Rattle.std.proofs.lemmas.List.Elements.{All-head, All-tail, All-drop, All-same}
use Rattle.r10_medium.specs.Disk.{Image, block_at}
use Rattle.r10_dirblock.specs.declared.block.DirBlock.{DirBlock}
use Rattle.r10_dirblock.specs.declared.read.DirFault.{DirFault}
use Rattle.r10_dirblock.specs.Block.{read_block, IsBlock}
use Rattle.r10_dirblock.proofs.BlockFields.{only}
use Rattle.r10_dirchain.specs.declared.chain.ChainBlock.{ChainBlock}
use Rattle.r10_dirchain.specs.Chain.{link, Linked, HoldsBlock, IsDirectory, blank_block}
use Rattle.r10_dirchain.specs.declared.read.ChainError.{ChainError}
use Rattle.r10_dirchain.specs.declared.read.ChainError.TheVariants.{BadDirectory, Medium, OutOfMemory}
use Rattle.r10_dirchain.specs.Bad.{LinksLead, IsUnfit, IsBad, IsChainError, IsNoFault, BlocksAreApart, numbers}
use Rattle.r10_dirchain.proofs.Directories.{one_block, same_block, apart}

one_link : (image : Image) (a b : ChainBlock) → HoldsBlock image a → HoldsBlock image b → a.number ≡ b.number → a ≡ b
one_link image a b ha hb e = pair a.number b.number a.block b.block e (same_block image a b ha hb e)
  where
    pair : (m n : ℕ) (d f : DirBlock) → m ≡ n → d ≡ f → ◌≡◌ {A = ChainBlock} (record { number = m; block = d }) (record { number = n; block = f })
    pair m n d f x y = rw (x, y)

cons_same : (x u : ChainBlock) (l m : List ChainBlock) → x ≡ u → l ≡ m → ◌≡◌ {A = List ChainBlock} (x ∷ l) (u ∷ m)
cons_same x u l m a b = rw (a, b)

-- two chains from one block on are one
one_chain : (image : Image) (a b : List ChainBlock) (back p other q : ℕ) → All (HoldsBlock image) a → All (HoldsBlock image) b
    → Linked back p (map link a) → Linked other q (map link b) → p ≡ q → a ≡ b
one_chain image [] b back p other q ha hb la lb e = absurd la
one_chain image (x ∷ a) [] back p other q ha hb la lb e = absurd lb
one_chain image (x ∷ []) (u ∷ []) back p other q ha hb la lb e =
    cons_same x u [] [] (one_link image x u (All-head (HoldsBlock image) x [] ha) (All-head (HoldsBlock image) u [] hb) (la.0 ∙ e ∙ sym lb.0)) refl
one_chain image (x ∷ []) (u ∷ v ∷ b) back p other q ha hb la lb e =
    let same = same_block image x u (All-head (HoldsBlock image) x [] ha) (All-head (HoldsBlock image) u (v ∷ b) hb) (la.0 ∙ e ∙ sym lb.0) in
    absurd (lb.2 (ap (λ (d : DirBlock). d.forward) (sym same) ∙ la.2 ∙ e))
one_chain image (x ∷ y ∷ a) (u ∷ []) back p other q ha hb la lb e =
    let same = same_block image x u (All-head (HoldsBlock image) x (y ∷ a) ha) (All-head (HoldsBlock image) u [] hb) (la.0 ∙ e ∙ sym lb.0) in
    absurd (la.2 (ap (λ (d : DirBlock). d.forward) same ∙ lb.2 ∙ sym e))
one_chain image (x ∷ y ∷ a) (u ∷ v ∷ b) back p other q ha hb la lb e =
    let same = one_link image x u (All-head (HoldsBlock image) x (y ∷ a) ha) (All-head (HoldsBlock image) u (v ∷ b) hb) (la.0 ∙ e ∙ sym lb.0) in
    cons_same x u (y ∷ a) (v ∷ b) same
    (one_chain image (y ∷ a) (v ∷ b) p x.block.forward q u.block.forward (All-tail (HoldsBlock image) x (y ∷ a) ha) (All-tail (HoldsBlock image) u (v ∷ b) hb) la.3 lb.3
    (ap (λ (c : ChainBlock). c.block.forward) same))

pub one_directory : (image : Image) (a b : List ChainBlock) → IsDirectory image a → IsDirectory image b → a ≡ b
one_directory image a b x y = one_chain image a b 1 1 1 1 x.holds y.holds x.linked y.linked refl

-- a list of blocks goes on after these with a block of this number, which links back to the last of them
pub record GoesOn (passed whole : List ChainBlock) (last n : ℕ) : Type 0 where
  pub next : ChainBlock
  pub more : List ChainBlock
  pub splits : whole ≡ passed ++ next ∷ more
  pub number : next.number ≡ n
  pub behind : next.block.reverse ≡ last

goes_on_behind : (x u : ChainBlock) (passed whole : List ChainBlock) (last n : ℕ) → u ≡ x → GoesOn passed whole last n → GoesOn (x ∷ passed) (u ∷ whole) last n
goes_on_behind x u passed whole last n same on = record {
  next = on.next;
  more = on.more;
  splits = cons_same u x whole (passed ++ on.next ∷ on.more) same on.splits;
  number = on.number;
  behind = on.behind;
}

-- a chain goes on after blocks that lead somewhere
along_chain : (image : Image) (passed chain : List ChainBlock) (back p other q last n : ℕ) → All (HoldsBlock image) passed → All (HoldsBlock image) chain
    → LinksLead back p (map link passed) last n → Linked other q (map link chain) → p ≡ q → back ≡ other → GoesOn passed chain last n
along_chain image passed [] back p other q last n hp hc leads l e f = absurd l
along_chain image [] (u ∷ []) back p other q last n hp hc leads l e f =
    record { next = u; more = []; splits = refl; number = l.0 ∙ sym e ∙ leads.1; behind = l.1 ∙ sym f ∙ leads.0 }
along_chain image [] (u ∷ v ∷ chain) back p other q last n hp hc leads l e f =
    record { next = u; more = v ∷ chain; splits = refl; number = l.0 ∙ sym e ∙ leads.1; behind = l.1 ∙ sym f ∙ leads.0 }
along_chain image (x ∷ passed) (u ∷ []) back p other q last n hp hc leads l e f =
    let same = same_block image x u (All-head (HoldsBlock image) x passed hp) (All-head (HoldsBlock image) u [] hc) (leads.0 ∙ e ∙ sym l.0) in
    absurd (leads.2 (ap (λ (d : DirBlock). d.forward) same ∙ l.2 ∙ sym e))
along_chain image (x ∷ passed) (u ∷ v ∷ chain) back p other q last n hp hc leads l e f =
    let same = one_link image x u (All-head (HoldsBlock image) x passed hp) (All-head (HoldsBlock image) u (v ∷ chain) hc) (leads.0 ∙ e ∙ sym l.0) in
    goes_on_behind x u passed (v ∷ chain) last n (sym same)
    (along_chain image passed (v ∷ chain) p x.block.forward q u.block.forward last n (All-tail (HoldsBlock image) x passed hp) (All-tail (HoldsBlock image) u (v ∷ chain) hc) leads.3 l.3
    (ap (λ (c : ChainBlock). c.block.forward) same) e)

-- two lists of blocks that lead somewhere lead to the same place, or one goes on after the other
along_passed : (image : Image) (a b : List ChainBlock) (back p other q last m final n : ℕ) → All (HoldsBlock image) a → All (HoldsBlock image) b
    → LinksLead back p (map link a) last m → LinksLead other q (map link b) final n → p ≡ q → back ≡ other
    → (m ≡ n) ⊎ (GoesOn a b last m ⊎ GoesOn b a final n)
along_passed image [] [] back p other q last m final n ha hb la lb e f = inl (sym la.1 ∙ e ∙ lb.1)
along_passed image [] (u ∷ b) back p other q last m final n ha hb la lb e f =
    inr (inl (record { next = u; more = b; splits = refl; number = lb.0 ∙ sym e ∙ la.1; behind = lb.1 ∙ sym f ∙ la.0 }))
along_passed image (x ∷ a) [] back p other q last m final n ha hb la lb e f =
    inr (inr (record { next = x; more = a; splits = refl; number = la.0 ∙ e ∙ lb.1; behind = la.1 ∙ f ∙ lb.0 }))
along_passed image (x ∷ a) (u ∷ b) back p other q last m final n ha hb la lb e f =
    let same = one_link image x u (All-head (HoldsBlock image) x a ha) (All-head (HoldsBlock image) u b hb) (la.0 ∙ e ∙ sym lb.0) in
    ⊎_elim (λ here. inl here)
    (λ on. inr (⊎_elim (λ there. inl (goes_on_behind x u a b last m (sym same) there)) (λ there. inr (goes_on_behind u x b a final n same there)) on))
    (along_passed image a b p x.block.forward q u.block.forward last m final n (All-tail (HoldsBlock image) x a ha) (All-tail (HoldsBlock image) u b hb) la.3 lb.3
    (ap (λ (c : ChainBlock). c.block.forward) same) e)

clash : (d : DirBlock) (fault : DirFault) (r : Result DirBlock DirFault) → r ≡ Ok d → r ≡ Err fault → ⊥
clash d fault r a b = cc

-- a block that the list goes on with can be taken
taken_there : (image : Image) (passed whole : List ChainBlock) (last n : ℕ) → All (HoldsBlock image) whole → BlocksAreApart whole → GoesOn passed whole last n
    → IsUnfit image last n ⊎ Contains (numbers passed) n → ⊥
taken_there image passed whole last n holds apart_whole on cannot = ⊎_elim unfit again cannot
  where
    b : ChainBlock
    b = on.next

    list : List ChainBlock
    list = passed ++ b ∷ on.more

    all : All (HoldsBlock image) list
    all = All-same (HoldsBlock image) list whole (sym on.splits) holds

    here : HoldsBlock image b
    here = All-head (HoldsBlock image) b on.more (All-same (HoldsBlock image) (b ∷ on.more) (drop (length passed) list) (sym (drop-append_seam passed (b ∷ on.more))) (All-drop (HoldsBlock image) (length passed) list all))

    is : IsBlock (block_at image n) b.block
    is = subst (λ (k : ℕ). IsBlock (block_at image k) b.block) on.number here.is

    unfit : IsUnfit image last n → ⊥
    unfit u = ⊎_elim (λ outside. omega (arith, here.within, on.number, outside))
        (λ other. ⊎_elim (λ none. clash b.block none.0 (read_block (block_at image n)) (only (block_at image n) b.block is) none.1)
        (λ elsewhere. elsewhere.2 (ap (λ (d : DirBlock). d.reverse) (one_block (block_at image n) elsewhere.0 b.block elsewhere.1 is) ∙ on.behind)) other) u

    again : Contains (numbers passed) n → ⊥
    again there =
        let k = there.0 in
        let k_within : k < length passed = omega (arith, there.1, length-map passed (λ (c : ChainBlock). c.number)) in
        let apart_list : BlocksAreApart list = subst BlocksAreApart on.splits apart_whole in
        let first : (get_or list k blank_block).number ≡ n =
        ap (λ (c : ChainBlock). c.number) (get_or_append_left passed (b ∷ on.more) blank_block k k_within) ∙ sym (get_or-map (λ (c : ChainBlock). c.number) passed k blank_block n k_within) ∙ there.2 in
        let second : (get_or list (length passed) blank_block).number ≡ n = ap (λ (c : ChainBlock). c.number) (get_or-append_seam passed b on.more blank_block) ∙ on.number in
        apart_list k (length passed) blank_block k_within (omega (arith, length-append passed (b ∷ on.more))) (first ∙ sym second)

chain_apart : (image : Image) (chain : List ChainBlock) → IsDirectory image chain → (i k : ℕ) (d : ChainBlock) → i < k → k < length chain → (get_or chain i d).number ≢ (get_or chain k d).number
chain_apart image chain is i k d lt within same =
    apart image chain is i k lt within
    (ap (λ (c : ChainBlock). c.number) (get_or_default chain i blank_block d (omega (arith, lt, within))) ∙ same ∙ ap (λ (c : ChainBlock). c.number) (get_or_default chain k d blank_block within))

pub not_both : (image : Image) (chain : List ChainBlock) (n : ℕ) → IsDirectory image chain → IsBad image n → ⊥
not_both image chain n is bad =
    taken_there image bad.passed chain bad.last n is.holds (chain_apart image chain is)
    (along_chain image bad.passed chain 1 1 1 1 bad.last n bad.holds is.holds bad.leads is.linked refl refl) bad.cannot

pub one_fault : (image : Image) (m n : ℕ) → IsBad image m → IsBad image n → m ≡ n
one_fault image m n a b =
    ⊎_elim (λ same. same)
    (λ on. ⊎_elim (λ there. absurd (taken_there image a.passed b.passed a.last m b.holds b.apart there a.cannot)) (λ there. absurd (taken_there image b.passed a.passed b.last n a.holds a.apart there b.cannot)) on)
    (along_passed image a.passed b.passed 1 1 1 1 a.last m b.last n a.holds b.holds a.leads b.leads refl refl)

pub no_fault : (image : Image) (e : ChainError) → IsChainError image e → (chain : List ChainBlock) → IsDirectory image chain → IsNoFault e
no_fault image (BadDirectory n) bad chain is = not_both image chain n is bad
no_fault image Medium bad chain is = tt
no_fault image OutOfMemory bad chain is = tt
