-- What the rules of a directory that a recorder can use say of its blocks.
use Rattle.std.proofs.Common.{◌≡◌, ℕ, zero, suc, ◌+◌, ◌<◌, ◌≤◌, Bool, true, false, ◌&&◌, ◌==◌, nat_le, List, [], ◌∷◌, ◌++◌, length, None, refl, arith}
use Rattle.std.proofs.lemmas.Bool.{leb-true, eqb-true, and_parts}
use Rattle.r10_count.specs.Checks.{first_broken}
use Rattle.r10_medium.specs.Disk.{Image}
use Rattle.r10_dirchain.specs.declared.chain.ChainBlock.{ChainBlock}
use Rattle.r10_dirchain.specs.Chain.{at}
use Rattle.r10_dirchain.specs.OnMedium.{HasNext}
use Rattle.r10_dirchain.specs.Mount.{listed, place_rules, full_rules, stand_rules, closed_rules, mount_rules}
pub use Rattle.r10_count.proofs.Rules.{none_broken}

-- the front of those that hold
pub front_holds : {F : Type 0} (xs ys : List (Bool × F)) → first_broken (xs ++ ys) ≡ None → first_broken xs ≡ None
front_holds [] ys none = refl
front_holds ((true, f) ∷ xs) ys none = front_holds xs ys none
front_holds ((false, f) ∷ xs) ys none = absurd (cc)

pub placed : (reserved n : ℕ) (chain : List ChainBlock) → first_broken (place_rules reserved n chain) ≡ None → (i : ℕ) → i < length chain
    → ((at chain i).number ≡ n + i) × (n + i ≤ reserved)
placed reserved n [] none i lt = absurd (omega (arith, lt))
placed reserved n (b ∷ chain) none zero lt =
    let here = and_parts (b.number == n) (nat_le n reserved) (none_broken (b.number == n && nat_le n reserved) b.number (place_rules reserved (n + 1) chain) none).0 in
    (omega (arith, eqb-true b.number n here.0), omega (arith, leb-true n reserved here.1))
placed reserved n (b ∷ chain) none (suc i) lt =
    let rest = placed reserved (n + 1) chain (none_broken (b.number == n && nat_le n reserved) b.number (place_rules reserved (n + 1) chain) none).1 i (omega (arith, lt)) in
    (omega (arith, rest.0), omega (arith, rest.1))

pub place_rules_hold : (reserved blocks : ℕ) (chain : List ChainBlock) → first_broken (mount_rules reserved blocks chain) ≡ None → first_broken (place_rules reserved 1 chain) ≡ None
place_rules_hold reserved blocks chain none =
    front_holds (place_rules reserved 1 chain) (full_rules chain)
    (front_holds (place_rules reserved 1 chain ++ full_rules chain) (stand_rules blocks (reserved + 1) (listed chain))
    (front_holds (place_rules reserved 1 chain ++ full_rules chain ++ stand_rules blocks (reserved + 1) (listed chain)) (closed_rules (listed chain)) none))

pub has_next : (reserved : ℕ) (image : Image) (chain : List ChainBlock) → first_broken (mount_rules reserved (length image) chain) ≡ None → reserved + 2 ≤ length image → HasNext image chain
has_next reserved image chain none room = record {
  in_order = λ i lt. let is = placed reserved 1 chain places i lt in omega (arith, is.0);
  within = few chain places;
}
  where
    places : first_broken (place_rules reserved 1 chain) ≡ None
    places = place_rules_hold reserved (length image) chain none

    few : (l : List ChainBlock) → first_broken (place_rules reserved 1 l) ≡ None → length l + 1 < length image
    few [] none = omega (arith, room)
    few (b ∷ l) none = let last = placed reserved 1 (b ∷ l) none (length l) (omega arith) in omega (arith, last.1, room)
