use Rattle.std.proofs.Common.{◌≡◌, ◌/◌, ℕ, refl, sym, ap, subst, ◌∙◌, List, [], ◌∷◌, ◌++◌, length, drop}
use Rattle.std.proofs.lemmas.List.{length-take-le, append_assoc}
use Rattle.r10_region.specs.Orders.{taken, HandsNext, TakesFirst}
use Rattle.r10_region.specs.Runs.{AllJoin, put_all_in_run}
use Rattle.r10_region.specs.declared.operation.Operation.TheVariants.{Write}
use Rattle.r10_region.specs.declared.operation.Operation.{Operation as OperationValue}
use Rattle.r10_region.proofs.Runs.{end_on, as_long}
use Rattle.r10_region.proofs.orders.Orders.hand_out_run.Goals as goal

pub copy_from_slice-requires : goal.copy_from_slice-requires
copy_from_slice-requires c = length-take-le 512 c.args.bytes.now c.requires ∙ sym c.has_its_bytes.ensures

pub returns-in-Some-Write : goal.returns-in-Some-Write
returns-in-Some-Write c =
    let j = c.join-blocks.ensures in let first = c.in-Some-Write.block in let bytes = c.in-Some-Write.contents in let put = c.copy_from_slice.new.self in
    let takes = subst (λ (op : OperationValue). TakesFirst op c.args.self.now c.pop.new.self) c.in-Some-Write.field-0-is c.in-Some-Write.ensures.takes in
    let are : put ≡ bytes = c.copy_from_slice.ensures.after in
    let long : length (put ++ drop 512 c.args.bytes.now) ≡ length c.args.bytes.now = as_long put (drop 512 c.args.bytes.now) c.args.bytes.now (ap length are ∙ c.has_its_bytes.ensures) c.requires refl in
    record {
      queue = end_on c.args.self.now c.pop.new.self c.join-blocks.new.self c.pop.ensures.queue j.queue;
      hands = HandsNext.run first bytes j.ops (record {
        more = j.takes.more ∙ ap (λ (xs : List OperationValue). xs ++ j.ops) takes.one_more ∙ append_assoc (taken c.args.self.now) (Write first bytes ∷ []) j.ops;
        known = takes.known ∙ ap (λ (xs : List OperationValue). Write first bytes ∷ xs) j.takes.known;
      }) (record {
        all_join = subst (λ (n : ℕ). AllJoin first 1 (n / 512) j.ops) long j.all_join;
        reported = ap (λ (n : ℕ). record { block = first; blocks = n; kind = 1 }) j.blocks_are;
        lent = j.lent ∙ ap (λ (xs : List ℕ). put_all_in_run first j.ops (xs ++ drop 512 c.args.bytes.now)) are;
      });
    }
