-- The rules of a block, one after the other.
use Rattle.std.proofs.Common.{◌≡◌, ℕ, suc, ◌+◌, ◌-◌, ◌<◌, Bool, true, false, List, ◌∷◌, Some, nat_le, ◌==◌, ap, ◌∙◌, arith}
use Rattle.std.specs.List.{range_with_len}
use Rattle.std.specs.Int.{w32, from_be_bytes}
use Rattle.std.specs.Str.{bytes_eq}
use Rattle.r10_count.specs.Checks.{first_broken}
use Rattle.r10_dirblock.specs.declared.read.DirFault.{DirFault}
use Rattle.r10_dirblock.specs.declared.read.DirFault.TheVariants as directory_faults
use Rattle.r10_dirblock.specs.Block.{magic, part, entry_count, directory_entry_at, entry_rules, block_rules, has_room_for_size}

pub range_more : (i count : ℕ) → i < count → range_with_len i (count - i) ≡ i ∷ range_with_len (i + 1) (count - (i + 1))
range_more i count lt = let e : count - i ≡ suc (count - (i + 1)) = omega arith in ap (range_with_len i) e

pub at_rule : (bytes : List ℕ) (i : ℕ) (places : List ℕ) (answer : Bool) → has_room_for_size (directory_entry_at bytes i) ≡ answer
    → first_broken (entry_rules bytes (i ∷ places)) ≡ first_broken ((answer, directory_faults.Entry i) ∷ entry_rules bytes places)
at_rule bytes i places answer is = ap (λ (b : Bool). first_broken ((b, directory_faults.Entry i) ∷ entry_rules bytes places)) is

-- the rule of entry i holds
pub rule_holds : (bytes : List ℕ) (i count : ℕ) → i < count → has_room_for_size (directory_entry_at bytes i) ≡ true
    → first_broken (entry_rules bytes (range_with_len i (count - i))) ≡ first_broken (entry_rules bytes (range_with_len (i + 1) (count - (i + 1))))
rule_holds bytes i count lt holds =
    ap (λ (places : List ℕ). first_broken (entry_rules bytes places)) (range_more i count lt) ∙ at_rule bytes i _ true holds

-- the rule of entry i is the first that doesn't hold
pub rule_breaks : (bytes : List ℕ) (i count : ℕ) → i < count → has_room_for_size (directory_entry_at bytes i) ≡ false
    → first_broken (entry_rules bytes (range_with_len i (count - i))) ≡ Some (directory_faults.Entry i)
rule_breaks bytes i count lt breaks =
    ap (λ (places : List ℕ). first_broken (entry_rules bytes places)) (range_more i count lt) ∙ at_rule bytes i _ false breaks

heads_hold : (a b c : Bool) (f g h : DirFault) (rest : List (Bool × DirFault)) → a ≡ true → b ≡ true → c ≡ true
    → first_broken ((a, f) ∷ (b, g) ∷ (c, h) ∷ rest) ≡ first_broken rest
heads_hold a b c f g h rest x y z =
    ap (λ (t : Bool). first_broken ((t, f) ∷ (b, g) ∷ (c, h) ∷ rest)) x
    ∙ ap (λ (t : Bool). first_broken ((t, g) ∷ (c, h) ∷ rest)) y
    ∙ ap (λ (t : Bool). first_broken ((t, h) ∷ rest)) z

-- the rules before the entries hold
pub entries_left : (bytes : List ℕ) → bytes_eq (part 0 8 bytes) magic ≡ true → nat_le (entry_count bytes) 4 ≡ true → (from_be_bytes w32 (part 12 4 bytes) == 512) ≡ true
    → first_broken (block_rules bytes) ≡ first_broken (entry_rules bytes (range_with_len 0 (entry_count bytes)))
entries_left bytes x y z = heads_hold _ _ _ _ _ _ _ x y z
