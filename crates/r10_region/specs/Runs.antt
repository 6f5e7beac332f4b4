-- Writes of neighbouring blocks that a disk may do at once: a run.
use Rattle.std.specs.Prelude.{◌≡◌, ℕ, ◌+◌, ◌-◌, ◌*◌, ◌&&◌, Bool, true, false, List, [], ◌∷◌, ◌++◌, take, drop, max, nat_le, nat_lt}
use Rattle.r10_region.specs.declared.operation.Operation.{Operation as OperationValue}
use Rattle.r10_region.specs.declared.operation.Operation.TheVariants.{Write, Sync}

-- it writes one of the blocks of a run from this one on, of so many blocks, or the next after them, of which there may be at
-- most so many
abbrev pub joins : ℕ → ℕ → ℕ → OperationValue → Bool
joins first count most (Write n bytes) = nat_le first n && (nat_le (n - first) count && nat_lt (n - first) most)
joins first count most Sync = false

-- how many blocks the run has then
abbrev pub run_length_with : ℕ → OperationValue → ℕ → ℕ
run_length_with first (Write n bytes) count = max count (n - first + 1)
run_length_with first Sync count = count

-- what the run writes then: the block's new bytes in its place
abbrev pub put_in_run : ℕ → OperationValue → List ℕ → List ℕ
put_in_run first (Write n bytes) run = take (512 * (n - first)) run ++ (bytes ++ drop (512 * (n - first) + 512) run)
put_in_run first Sync run = run

-- ---- the same for operations in turn

abbrev pub AllJoin : ℕ → ℕ → ℕ → List OperationValue → Type 0
AllJoin first count most [] = Unit {0}
AllJoin first count most (op ∷ ops) = (joins first count most op ≡ true) × AllJoin first (run_length_with first op count) most ops

abbrev pub grown_by_all : ℕ → List OperationValue → ℕ → ℕ
grown_by_all first [] count = count
grown_by_all first (op ∷ ops) count = grown_by_all first ops (run_length_with first op count)

abbrev pub put_all_in_run : ℕ → List OperationValue → List ℕ → List ℕ
put_all_in_run first [] run = run
put_all_in_run first (op ∷ ops) run = put_all_in_run first ops (put_in_run first op run)
