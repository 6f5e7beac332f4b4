use Rattle.std.proofs.Common.{map, ◌≡◌, ◌≤◌, ◌++◌, take, drop, length}
use Rattle.std.specs.List.{concat}
use Rattle.r10_count.proofs.append.append_all.Given as goal

-- what is written and the parts that are left are all parts, after what was there
abbrev pub invariant-loop-part : goal.invariant-loop-part
invariant-loop-part l = record {
  written : l.out.items ++ concat (map (λ part. part.now) (drop l.part-index l.parts)) ≡ l.fn.out.items ++ concat (map (λ part. part.now) l.parts);
  kept : take (length l.fn.out.items) l.out.items ≡ l.fn.out.items;
  longer : length l.fn.out.items ≤ length l.out.items;
  capacity : l.fn.out.cap ≤ l.out.cap;
}
