-- Chains that go on by a block.
use Rattle.std.proofs.Common.{◌≡◌, ◌≢◌, ◌⊎◌, ℕ, zero, suc, ◌+◌, ◌-◌, ◌<◌, true, false, List, [], ◌∷◌, ◌++◌, map, length, get_or, inl, inr, refl, sym, ap, ◌∙◌, subst, arith}
use Rattle.std.proofs.Math.Dec.{eqb}
use Rattle.std.specs.List.{All, AllByRecursion, AllPairs, Contains, IsDistinct, list_any}
use Rattle.std.proofs.lemmas.Bool.{ne_eqb, eqb-true, cases_lt}
use Rattle.std.proofs.lemmas.Bool.Decides.{eqb_tells}
use Rattle.std.proofs.lemmas.List.{map_push, get_or-map, length-map}
use Rattle.std.proofs.lemmas.List.Elements.{All-push, All-cons, All-map, All-weaker, All-contains, recursion_from_All}
use Rattle.std.proofs.lemmas.List.Quantifiers.{all_pairs_push}
use Rattle.std.proofs.lemmas.Map.Steps.{length-le_from_distinct_below}
use Rattle.std.proofs.lemmas.Map.Views.{Contains-from_any}
use Rattle.r10_medium.specs.Disk.{Image}
use Rattle.r10_dirblock.specs.declared.block.DirBlock.{DirBlock}
use Rattle.r10_dirchain.specs.declared.chain.ChainBlock.{ChainBlock}
use Rattle.r10_dirchain.specs.declared.read.ChainError.{ChainError}
use Rattle.r10_dirchain.specs.declared.read.ChainError.TheVariants.{BadDirectory, Medium, OutOfMemory}
use Rattle.r10_dirchain.specs.Chain.{Link, link, Linked, HoldsBlock, IsDirectory}
use Rattle.r10_dirchain.specs.Bad.{LinksLead, LinksBack, IsTakeError, IsBad, IsChainError, BlocksAreApart, numbers}
use Rattle.r10_dirchain.proofs.Directories.{same_block}

leads_more : (back n : ℕ) (ls : List Link) (last next : ℕ) (l : Link) → LinksLead back n ls last next
    → l.number ≡ next → l.back ≡ last → l.forward ≢ next → LinksLead back n (ls ++ l ∷ []) next l.forward
leads_more back n [] last next l leads at behind on = (at ∙ sym leads.1, behind ∙ sym leads.0, λ e. on (e ∙ leads.1), (leads.1, refl))
leads_more back n (m ∷ ls) last next l leads at behind on =
    (leads.0, leads.1, leads.2, leads_more n m.forward ls last next l leads.3 at behind on)

leads_to_last : (back n : ℕ) (ls : List Link) (last next : ℕ) (l : Link) → LinksLead back n ls last next
    → l.number ≡ next → l.back ≡ last → l.forward ≡ next → Linked back n (ls ++ l ∷ [])
leads_to_last back n [] last next l leads at behind ends = (at ∙ sym leads.1, behind ∙ sym leads.0, ends ∙ sym leads.1)
leads_to_last back n (m ∷ []) last next l leads at behind ends =
    (leads.0, leads.1, leads.2, leads_to_last n m.forward [] last next l leads.3 at behind ends)
leads_to_last back n (m ∷ k ∷ ls) last next l leads at behind ends =
    (leads.0, leads.1, leads.2, leads_to_last n m.forward (k ∷ ls) last next l leads.3 at behind ends)

-- ---- no block is passed twice

leads_first : (back n : ℕ) (ls : List Link) (last next : ℕ) (none : Link) → LinksLead back n ls last next → 0 < length ls
    → ((get_or ls 0 none).number ≡ n) × ((get_or ls 0 none).back ≡ back)
leads_first back n [] last next none leads some = absurd (omega (arith, some))
leads_first back n (x ∷ ls) last next none leads some = (leads.0, leads.1)

leads_back : (back n : ℕ) (ls : List Link) (last next : ℕ) (none : Link) → LinksLead back n ls last next → (i : ℕ) → suc i < length ls
    → (get_or ls (suc i) none).back ≡ (get_or ls i none).number
leads_back back n [] last next none leads i lt = absurd (omega (arith, lt))
leads_back back n (x ∷ []) last next none leads i lt = absurd (omega (arith, lt))
leads_back back n (x ∷ y ∷ ls) last next none leads zero lt = leads.3.1 ∙ sym leads.0
leads_back back n (x ∷ y ∷ ls) last next none leads (suc i) lt = leads_back n x.forward (y ∷ ls) last next none leads.3 i (omega (arith, lt))

leads_last : (back n : ℕ) (ls : List Link) (last next : ℕ) (none : Link) → LinksLead back n ls last next → (i : ℕ) → i + 1 ≡ length ls
    → (last ≡ (get_or ls i none).number) × (next ≢ (get_or ls i none).number)
leads_last back n [] last next none leads i e = absurd (omega (arith, e))
leads_last back n (x ∷ []) last next none leads zero e = (sym leads.3.0 ∙ sym leads.0, λ same. leads.2 (leads.3.1 ∙ same ∙ leads.0))
leads_last back n (x ∷ []) last next none leads (suc i) e = absurd (omega (arith, e))
leads_last back n (x ∷ y ∷ ls) last next none leads zero e = absurd (omega (arith, e))
leads_last back n (x ∷ y ∷ ls) last next none leads (suc i) e = leads_last n x.forward (y ∷ ls) last next none leads.3 i (omega (arith, e))

-- A block that links back to the last one passed is none of those, since each of them links back to another one.
pub fresh : (image : Image) (passed : List ChainBlock) (back n : ℕ) (block : DirBlock) (d : ChainBlock) → All (HoldsBlock image) passed → LinksLead 1 1 (map link passed) back n → BlocksAreApart passed
    → LinksBack image back n block → (i : ℕ) → i < length passed → (get_or passed i d).number ≢ n
fresh image passed back n block d holds leads apart taken i lt e =
    known i lt (ap (λ (b : DirBlock). b.reverse) (same_block image (get_or passed i d) (record { number = n; block = block }) (holds i d lt) (record { within = taken.within; is = taken.is }) e) ∙ taken.links_back) e
  where
    ls : List Link
    ls = map link passed

    long : length ls ≡ length passed
    long = length-map passed link

    final : ℕ
    final = length passed - 1

    here : (k : ℕ) → k < length passed → get_or ls k (link d) ≡ link (get_or passed k d)
    here k less = get_or-map link passed k d (link d) less

    known : (k : ℕ) → k < length passed → (get_or passed k d).block.reverse ≡ back → (get_or passed k d).number ≡ n → ⊥
    known zero less behind same =
        let first = leads_first 1 1 ls back n (link d) leads (omega (arith, less, long)) in
        let last = leads_last 1 1 ls back n (link d) leads final (omega (arith, less, long)) in
        let number : (get_or passed 0 d).number ≡ 1 = ap (λ (l : Link). l.number) (sym (here 0 less)) ∙ first.0 in
        let reverse : (get_or passed 0 d).block.reverse ≡ 1 = ap (λ (l : Link). l.back) (sym (here 0 less)) ∙ first.1 in
        last.1 (sym same ∙ number ∙ sym reverse ∙ behind ∙ last.0)
    known (suc k) less behind same =
        let last = leads_last 1 1 ls back n (link d) leads final (omega (arith, less, long)) in
        let before = leads_back 1 1 ls back n (link d) leads k (omega (arith, less, long)) in
        let final_within : final < length passed = omega (arith, less) in
        let k_within : k < length passed = omega (arith, less) in
        let reverse : (get_or passed (suc k) d).block.reverse ≡ (get_or passed k d).number =
        ap (λ (l : Link). l.back) (sym (here (suc k) less)) ∙ before ∙ ap (λ (l : Link). l.number) (here k k_within) in
        let ends : back ≡ (get_or passed final d).number = last.0 ∙ ap (λ (l : Link). l.number) (here final final_within) in
        apart k final d (omega (arith, less)) final_within (sym reverse ∙ behind ∙ ends)

-- ---- all blocks are passed

missing : (n : ℕ) (ns : List ℕ) → Contains ns n ⊎ AllByRecursion (λ (m : ℕ). eqb n m ≡ false) ns
missing n [] = inr tt
missing n (m ∷ ns) = elim (eqb_tells n m) [
  | inl same ↦ inl (0, omega arith, sym same.1)
  | inr differs ↦ elim (missing n ns) [
    | inl there ↦ inl (suc there.0, omega (arith, there.1), there.2)
    | inr none ↦ inr (differs.0, none)
  ]
]

distinct : (ns : List ℕ) → AllPairs (λ (a b : ℕ). a ≢ b) ns → IsDistinct eqb ns
unfolding IsDistinct
distinct [] apart = tt
distinct (n ∷ ns) apart = (
  recursion_from_All (λ (m : ℕ). eqb n m ≡ false) ns (λ k d lt. ne_eqb n (get_or ns k d) (apart 0 (suc k) d (omega arith) (omega (arith, lt)))),
  distinct ns (λ i j d lt within. apart (suc i) (suc j) d (omega (arith, lt)) (omega (arith, within))),
)

distinct_cons : (n : ℕ) (ns : List ℕ) → AllByRecursion (λ (m : ℕ). eqb n m ≡ false) ns → IsDistinct eqb ns → IsDistinct eqb (n ∷ ns)
unfolding IsDistinct
distinct_cons n ns none others = (none, others)

-- as many blocks as the medium has are all of them
pub all_passed : (image : Image) (passed : List ChainBlock) (d : ChainBlock) (n : ℕ) → All (HoldsBlock image) passed → BlocksAreApart passed → length passed ≡ length image → n < length image
    → Contains (numbers passed) n
all_passed image passed d n holds apart all within = elim (missing n (numbers passed)) [
  | inl there ↦ there
  | inr none ↦ absurd (omega (arith, length-le_from_distinct_below (n ∷ numbers passed) (length image) (distinct_cons n (numbers passed) none (distinct (numbers passed) pairs)) below, long, all))
]
  where
    long : length (numbers passed) ≡ length passed
    long = length-map passed (λ (b : ChainBlock). b.number)

    at : (k e : ℕ) → k < length passed → get_or (numbers passed) k e ≡ (get_or passed k d).number
    at k e less = get_or-map (λ (b : ChainBlock). b.number) passed k d e less

    pairs : AllPairs (λ (a b : ℕ). a ≢ b) (numbers passed)
    pairs i j e lt less =
        let j_within : j < length passed = omega (arith, less, long) in
        let i_within : i < length passed = omega (arith, lt, less, long) in
        λ same. apart i j d lt j_within (sym (at i e i_within) ∙ same ∙ at j e j_within)

    under : All (λ (m : ℕ). m < length image) (n ∷ numbers passed)
    under = All-cons (λ (m : ℕ). m < length image) n (numbers passed) within
        (All-map (λ (m : ℕ). m < length image) (λ (b : ChainBlock). b.number) passed (All-weaker (HoldsBlock image) (λ (b : ChainBlock). b.number < length image) (λ b is. is.within) passed holds))

    below : (q : ℕ) → list_any (eqb q) (n ∷ numbers passed) ≡ true → q < length image
    below q is = All-contains (λ (m : ℕ). m < length image) (n ∷ numbers passed) q under (Contains-from_any (λ x y e. eqb-true x y e) q (n ∷ numbers passed) is)

-- ---- a block was looked at after these
module _ (image : Image) (chain : List ChainBlock) (back n : ℕ) (holds : All (HoldsBlock image) chain) (leads : LinksLead 1 1 (map link chain) back n) where
  pub bad_of : BlocksAreApart chain → (e : ChainError) → IsTakeError image back n e → IsChainError image e
  bad_of apart (BadDirectory m) bad = subst (IsBad image) (sym bad.0) (record { passed = chain; last = back; holds = holds; apart = apart; leads = leads; cannot = inl bad.1 })
  bad_of apart Medium bad = tt
  bad_of apart OutOfMemory bad = tt

  pub bad_at_end : (d : ChainBlock) → BlocksAreApart chain → length chain ≡ length image → IsBad image n
  bad_at_end d apart all = record {
    passed = chain;
    last = back;
    holds = holds;
    apart = apart;
    leads = leads;
    cannot = elim (cases_lt n (length image)) [
      | inl within ↦ inr (all_passed image chain d n holds apart all within)
      | inr over ↦ inl (inl over)
    ];
  }

  module _ (block : DirBlock) (taken : LinksBack image back n block) where
    pub holds_more : All (HoldsBlock image) (chain ++ record { number = n; block = block } ∷ [])
    holds_more = All-push (HoldsBlock image) chain (record { number = n; block = block }) holds (record { within = taken.within; is = taken.is })

    pub apart_more : BlocksAreApart chain → BlocksAreApart (chain ++ record { number = n; block = block } ∷ [])
    apart_more apart = all_pairs_push (λ (a b : ChainBlock). a.number ≢ b.number) chain (record { number = n; block = block }) apart
        (λ k d lt. fresh image chain back n block d holds leads apart taken k lt)

    pub goes_on : block.forward ≢ n → LinksLead 1 1 (map link (chain ++ record { number = n; block = block } ∷ [])) n block.forward
    goes_on on = subst (λ (ls : List Link). LinksLead 1 1 ls n block.forward) (sym (map_push link chain (record { number = n; block = block })))
        (leads_more 1 1 (map link chain) back n (link (record { number = n; block = block })) leads refl taken.links_back on)

    pub ends_here : block.forward ≡ n → IsDirectory image (chain ++ record { number = n; block = block } ∷ [])
    ends_here ends = record {
      linked = subst (λ (ls : List Link). Linked 1 1 ls) (sym (map_push link chain (record { number = n; block = block })))
          (leads_to_last 1 1 (map link chain) back n (link (record { number = n; block = block })) leads refl taken.links_back ends);
      holds = holds_more;
    }
