use Rattle.std.proofs.Common.{rules, ◌≡◌, ◌-◌, ◌++◌, ℕ, List, length, length-append, take, get_or, replicate, subst, ◌<◌, ap, sym, ◌∙◌, take_all, arith}
use Rattle.std.specs.List.{flat_map}
use Rattle.std.proofs.lemmas.List.{flat_map_more, take_more, get_or_default}
use Rattle.std.proofs.lemmas.List.Elements.{All-more, All-same}
use Rattle.r10_dirblock.specs.declared.entry.Entry.{Entry}
use Rattle.r10_dirblock.specs.Block.{blank, entry_bytes, head_bytes, FitsEntry, HasRooms, IsBlock}
use Rattle.r10_dirblock.proofs.BlockFields.{only}
use Rattle.r10_dirblock.proofs.block.encode.Goals as goal
use Rattle.r10_dirblock.proofs.block.encode.Goals.{After-into_bytes}

pub loop-entry-init : goal.loop-entry-init
unfolding head_bytes
loop-entry-init c = record {
  bytes = search rules;
  len = omega (
    arith,
    ap length c.new-page.ensures,
    ap length c.push.ensures ∙ length-append c.new-page.result _,
    ap length c.push-2.ensures ∙ length-append c.push.new.self _,
    ap length c.push-3.ensures ∙ length-append c.push-2.new.self _,
    ap length c.push-4.ensures ∙ length-append c.push-3.new.self _,
    ap length c.push-5.ensures ∙ length-append c.push-4.new.self _,
    ap length c.push-6.ensures ∙ length-append c.push-5.new.self _,
    ap length c.push-7.ensures ∙ length-append c.push-6.new.self _,
    ap length c.to_be_bytes.ensures,
    ap length c.to_be_bytes-2.ensures,
    ap length c.to_be_bytes-3.ensures,
    ap length c.to_be_bytes-4.ensures,
  );
  fits = search rules;
}

pub loop-entry-preserved : goal.loop-entry-preserved
loop-entry-preserved c =
    let entries = c.args.block.now.entries in
    let i = c.loop-entry.entry-index in
    let listed : get_or c.as_slice-entry-items.result.now i blank ≡ get_or entries i blank = ap (λ (l : List Entry). get_or l i blank) c.as_slice-entry-items.ensures.items in
    let lt : i < length entries = omega (arith, ap length c.as_slice-entry-items.ensures.items) in
    let same : get_or c.as_slice-entry-items.result.now i _ ≡ get_or entries i blank = get_or_default c.as_slice-entry-items.result.now i _ blank (omega arith) ∙ listed in
    record {
      bytes = c.push_entry.ensures.bytes
          ∙ ap (λ (e : Entry). c.loop-entry.page ++ entry_bytes e) same
          ∙ ap (λ (l : List ℕ). l ++ entry_bytes (get_or entries i blank)) c.loop-entry.invariant.bytes
          ∙ flat_map_more entry_bytes (head_bytes 0x0F c.args.block.now) (take i entries) (get_or entries i blank)
          ∙ ap (λ (l : List Entry). head_bytes 0x0F c.args.block.now ++ flat_map entry_bytes l) (sym (take_more entries i blank lt));
      len = omega (arith, c.push_entry.ensures.len, c.loop-entry.invariant.len);
      fits = All-more FitsEntry entries i blank lt c.loop-entry.invariant.fits (subst FitsEntry same c.push_entry.ensures.fits);
    }

written : (c : After-into_bytes) → HasRooms c.args.block.now → IsBlock c.into_bytes.result c.args.block.now
written c rooms =
    let d = c.args.block.now in
    let all : take c.loop-entry.entry-index d.entries ≡ d.entries = take_all c.loop-entry.entry-index d.entries (omega (arith, ap length c.as_slice-entry-items.ensures.items)) in
    let zeros : List ℕ = replicate (512 - length c.loop-entry.page) 0 in
    record {
      revision = 0x0F;
      unused = zeros;
      spelled = c.into_bytes.ensures
          ∙ ap (λ (l : List ℕ). l ++ zeros) (c.loop-entry.invariant.bytes ∙ ap (λ (es : List Entry). head_bytes 0x0F d ++ flat_map entry_bytes es) all);
      rooms = rooms;
      head = record {
        volume = search rules;
        forward = search rules;
        reverse_link = search rules;
        entries = omega (arith, c.len.ensures.few, c.len.ensures.len);
      };
      entries = All-same FitsEntry d.entries (take c.loop-entry.entry-index d.entries) (sym all) c.loop-entry.invariant.fits;
    }

pub returns-clause-block : goal.returns-clause-block
returns-clause-block c = λ rooms. written (goal.at.returns-clause-block c).After-into_bytes rooms

pub returns-clause-again : goal.returns-clause-again
returns-clause-again c = λ rooms. only c.into_bytes.result c.args.block.now (written (goal.at.returns-clause-again c).After-into_bytes rooms)
