use Rattle.std.proofs.Common.{◌+◌, ◌-◌, ◌≤◌, ℕ, length, drop, replicate, sym, ap, ◌∙◌, arith}
use Rattle.std.proofs.lemmas.List.{drop-drop, drop-replicate, length-take-le}
use Rattle.std.proofs.lemmas.Slice.{drop-put_mid}
use Rattle.r10_dirblock.proofs.page.Page.push.Goals as goal

pub invariant_of-self : goal.invariant_of-self
invariant_of-self c =
    let w = c.self.inside.written in
    let n = length c.args.part.now in
    let bytes = c.self.inside.bytes in
    let room : w + n ≤ 512 = omega (arith, c.requires, ap length c.self.view_is, length-take-le w bytes (omega arith)) in
    record {
      within = room;
      zeros =
          drop-put_mid w (w + n - w) bytes c.copy_from_slice.new.self (w + n) (omega arith) (omega arith) (omega (arith, ap length c.copy_from_slice.ensures.after))
          ∙ sym (drop-drop n w bytes) ∙ ap (drop n) c.self.invariant.zeros ∙ drop-replicate n (512 - w) 0
          ∙ ap (λ (k : ℕ). replicate k 0) (omega (arith, room));
    }
