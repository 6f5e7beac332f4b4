use Rattle.std.proofs.Common.{◌≡◌, ℕ, map, ◌+◌, ◌++◌, ◌∷◌, [], List, length, length-append, ap, ◌∙◌, subst, sym, rules, arith}
use Rattle.r10_medium.specs.Disk.{Image}
use Rattle.r10_medium.proofs.PowerLoss.{unchanged_twice}
use Rattle.r10_dirchain.specs.declared.chain.ChainBlock.{ChainBlock}
use Rattle.r10_dirchain.specs.declared.read.ChainError.TheVariants.{BadDirectory}
use Rattle.r10_dirchain.specs.Chain.{link, HoldsBlock, IsDirectory, blank_block}
use Rattle.std.specs.List.{All}
use Rattle.r10_dirchain.specs.Bad.{LinksBack, IsTakeError, LinksLead, BlocksAreApart}
use Rattle.r10_dirchain.proofs.Links.{bad_of, bad_at_end, holds_more, apart_more, goes_on, ends_here}
use Rattle.r10_dirchain.proofs.Unique.{one_directory, no_fault}
use Rattle.r10_dirchain.proofs.read.read_chain.Goals as goal

pub returns-in-Err-clause-bad : goal.returns-in-Err-clause-bad
returns-in-Err-clause-bad g c =
    let image = (g.M.BlockMedium.disk c.args.medium.now).blocks in
    bad_of image c.loop.chain.items c.loop.back c.loop.number c.loop.invariant.holds c.loop.invariant.leads c.loop.invariant.apart c.in-Err.error
    (subst (λ (i : Image). IsTakeError i c.loop.back c.loop.number c.in-Err.error) c.loop.invariant.same.reads c.in-Err.ensures.bad)

pub returns-then-next-number-clause-read : goal.returns-then-next-number-clause-read
returns-then-next-number-clause-read g c =
    let image = (g.M.BlockMedium.disk c.args.medium.now).blocks in
    let taken : LinksBack image c.loop.back c.loop.number c.in-Ok.block =
    subst (λ (i : Image). LinksBack i c.loop.back c.loop.number c.in-Ok.block) c.loop.invariant.same.reads c.in-Ok.ensures.taken in
    let pushed : c.push.new.self.items ≡ c.loop.chain.items ++ (record { number = c.loop.number; block = c.in-Ok.block }) ∷ [] = search rules in
    subst (IsDirectory image) (sym pushed)
    (ends_here image c.loop.chain.items c.loop.back c.loop.number c.loop.invariant.holds c.loop.invariant.leads c.in-Ok.block taken c.if-next-number.true)

pub loop-preserved : goal.loop-preserved
loop-preserved g c =
    let disk = g.M.BlockMedium.disk in
    let image = (disk c.args.medium.now).blocks in
    let chain = c.loop.chain.items in
    let taken : LinksBack image c.loop.back c.loop.number c.in-Ok.block =
    subst (λ (i : Image). LinksBack i c.loop.back c.loop.number c.in-Ok.block) c.loop.invariant.same.reads c.in-Ok.ensures.taken in
    let pushed : c.push.new.self.items ≡ chain ++ (record { number = c.loop.number; block = c.in-Ok.block }) ∷ [] = search rules in
    record {
      same = unchanged_twice (disk c.args.medium.now) (disk c.loop.medium) (disk c.take_block.new.medium) c.loop.invariant.same c.take_block.ensures.same;
      no_fewer = omega (arith, c.loop.invariant.no_fewer, c.take_block.ensures.no_fewer);
      size = ap (λ (l : List ChainBlock). length l) pushed ∙ length-append chain (record { number = c.loop.number; block = c.in-Ok.block } ∷ []) ∙ ap (λ (n : ℕ). n + 1) c.loop.invariant.size;
      holds = subst (All (HoldsBlock image)) (sym pushed) (holds_more image chain c.loop.back c.loop.number c.loop.invariant.holds c.loop.invariant.leads c.in-Ok.block taken);
      leads = subst (λ (l : List ChainBlock). LinksLead 1 1 (map link l) c.loop.number c.in-Ok.block.forward) (sym pushed)
          (goes_on image chain c.loop.back c.loop.number c.loop.invariant.holds c.loop.invariant.leads c.in-Ok.block taken c.if-next-number.false);
      apart = subst BlocksAreApart (sym pushed) (apart_more image chain c.loop.back c.loop.number c.loop.invariant.holds c.loop.invariant.leads c.in-Ok.block taken c.loop.invariant.apart);
    }

pub returns-clause-bad : goal.returns-clause-bad
returns-clause-bad g c =
    bad_at_end (g.M.BlockMedium.disk c.args.medium.now).blocks c.loop.chain.items c.loop.back c.loop.number c.loop.invariant.holds c.loop.invariant.leads blank_block c.loop.invariant.apart
    (omega (arith, c.loop.invariant.size, c.loop-test.false, c.loop.auto.counter-end, c.blocks-end.ensures))

pub returns-in-Err-clause-only : goal.returns-in-Err-clause-only
returns-in-Err-clause-only g c =
    let image = (g.M.BlockMedium.disk c.args.medium.now).blocks in
    no_fault image c.in-Err.error
    (bad_of image c.loop.chain.items c.loop.back c.loop.number c.loop.invariant.holds c.loop.invariant.leads c.loop.invariant.apart c.in-Err.error
    (subst (λ (i : Image). IsTakeError i c.loop.back c.loop.number c.in-Err.error) c.loop.invariant.same.reads c.in-Err.ensures.bad))

pub returns-then-next-number-clause-only : goal.returns-then-next-number-clause-only
returns-then-next-number-clause-only g c = λ chain is.
    let image = (g.M.BlockMedium.disk c.args.medium.now).blocks in
    let taken : LinksBack image c.loop.back c.loop.number c.in-Ok.block =
    subst (λ (i : Image). LinksBack i c.loop.back c.loop.number c.in-Ok.block) c.loop.invariant.same.reads c.in-Ok.ensures.taken in
    let pushed : c.push.new.self.items ≡ c.loop.chain.items ++ (record { number = c.loop.number; block = c.in-Ok.block }) ∷ [] = search rules in
    pushed ∙ one_directory image (c.loop.chain.items ++ (record { number = c.loop.number; block = c.in-Ok.block }) ∷ []) chain
    (ends_here image c.loop.chain.items c.loop.back c.loop.number c.loop.invariant.holds c.loop.invariant.leads c.in-Ok.block taken c.if-next-number.true) is

pub returns-clause-only : goal.returns-clause-only
returns-clause-only g c =
    no_fault (g.M.BlockMedium.disk c.args.medium.now).blocks (BadDirectory c.loop.number)
    (bad_at_end (g.M.BlockMedium.disk c.args.medium.now).blocks c.loop.chain.items c.loop.back c.loop.number c.loop.invariant.holds c.loop.invariant.leads blank_block c.loop.invariant.apart
    (omega (arith, c.loop.invariant.size, c.loop-test.false, c.loop.auto.counter-end, c.blocks-end.ensures)))
