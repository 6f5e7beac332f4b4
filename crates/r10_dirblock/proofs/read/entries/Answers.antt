use Rattle.std.proofs.Common.{◌≡◌, ◌+◌, ◌-◌, ◌*◌, take, drop, take_all, length-drop, length, map, ap, ◌∙◌, sym, ◌++◌, List, [], ◌∷◌, arith}
use Rattle.std.specs.List.{range_with_len}
use Rattle.std.proofs.lemmas.List.FromFn.{map-range_with_len_more, length-map-range_with_len}
use Rattle.std.proofs.lemmas.List.Elements.{All-push, All-same}
use Rattle.r10_dirblock.specs.declared.entry.Entry.{Entry}
use Rattle.r10_dirblock.specs.Block.{directory_entry_of, directory_entry_at, FitsEntry}
use Rattle.r10_dirblock.proofs.read.entries.Goals as goal

pub push-requires : goal.push-requires
push-requires c = omega (arith, ap length c.loop-i.invariant.items, length-map-range_with_len (directory_entry_at c.args.bytes.now) 0 c.loop-i.i, c.count-i-end.ensures)

pub loop-i-preserved : goal.loop-i-preserved
loop-i-preserved c =
    let bytes = c.args.bytes.now in
    let at = 64 + 112 * c.loop-i.i in
    let rest : take (512 - at) (drop at bytes) ≡ drop at bytes = take_all (512 - at) (drop at bytes) (omega (arith, length-drop at bytes, c.told-bytes)) in
    let read : c.entry.result ≡ directory_entry_at bytes c.loop-i.i = c.entry.ensures.fields ∙ ap directory_entry_of rest in
    record {
      items = c.push.ensures ∙ ap (λ (l : List Entry). l ++ c.entry.result ∷ []) c.loop-i.invariant.items
          ∙ ap (λ (e : Entry). map (directory_entry_at bytes) (range_with_len 0 c.loop-i.i) ++ e ∷ []) read
          ∙ sym (map-range_with_len_more (directory_entry_at bytes) 0 c.loop-i.i c.loop-i.i (omega arith));
      fits = All-same FitsEntry c.push.new.self (c.loop-i.entries ++ c.entry.result ∷ []) c.push.ensures
          (All-push FitsEntry c.loop-i.entries c.entry.result c.loop-i.invariant.fits c.entry.ensures.fits);
    }

pub returns-clause-few : goal.returns-clause-few
returns-clause-few c = omega (arith, ap length c.loop-i.invariant.items, length-map-range_with_len (directory_entry_at c.args.bytes.now) 0 c.loop-i.i, c.count-i-end.ensures)
