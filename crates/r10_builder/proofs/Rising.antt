-- Counts that don't fall, over two lists one after the other.
use Rattle.std.proofs.Common.{ℕ, ◌≤◌, List, [], ◌∷◌, ◌++◌, arith}
use Rattle.r10_body.specs.Rules.{Rise}
use Rattle.r10_body.specs.declared.entry.Entry.{Entry}
use Rattle.r10_body.specs.Sequence.{last_count}

lower : (n m : ℕ) (entries : List Entry) → n ≤ m → Rise m entries → Rise n entries
lower n m [] le rise = tt
lower n m (e ∷ entries) le rise = (omega (arith, le, rise.0), rise.1)

pub rise_join : (n m : ℕ) (xs ys : List Entry) → Rise n xs → last_count n xs ≤ m → Rise m ys → Rise n (xs ++ ys)
rise_join n m [] ys rise le more = lower n m ys le more
rise_join n m (x ∷ xs) ys rise le more = (rise.0, rise_join x.count m xs ys rise.1 le more)

pub rise_behind : (n : ℕ) (xs : List Entry) (y : Entry) (ys : List Entry) → Rise n (xs ++ y ∷ ys) → last_count n xs ≤ y.count
rise_behind n [] y ys rise = rise.0
rise_behind n (x ∷ xs) y ys rise = rise_behind x.count xs y ys rise.1
