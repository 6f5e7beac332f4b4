use Rattle.std.proofs.Common.{rules, ◌≡◌, ◌++◌, ◌∙◌, ℕ, List, drop, sym, ap, subst}
use Rattle.r10_windowcheck.specs.Given.{AreTakenOver}
use Rattle.r10_windowcheck.proofs.Giving.{goes_on, not_broken, still_broken, stops}
use Rattle.r10_windowcheck.proofs.check.WindowCheck.feed.Goals as goal

pub returns-then-is_some : goal.returns-then-is_some
returns-then-is_some c = λ before given.
    still_broken c.args.self.broken c.args.self.walk before c.args.window.now c.args.self.pending.items (sym c.is_some.ensures ∙ c.if-is_some.true) given

pub returns-in-Some : goal.returns-in-Some
returns-in-Some c = λ before given.
    let so_far = not_broken c.args.self.broken c.args.self.walk before c.args.self.pending.items (sym c.is_some.ensures ∙ c.if-is_some.false) given in
    let all : c.deref.result.now ≡ c.args.self.pending.items ++ c.args.window.now = search rules in
    let taken = c.in_ok-taken.ensures in
    let at = c.in-Some.ensures.some in (
      stops c.args.self.walk c.take_packets.new.walk before c.args.window.now c.args.self.pending.items c.deref.result.now c.in_ok-taken.taken.length c.in_ok-taken.taken.fault c.in-Some.at
          all taken.walked taken.ends at.0 at.1 at.2 so_far,
      c.clear.ensures.items,
    )

pub returns : goal.returns
returns c = λ before given.
    let so_far = not_broken c.args.self.broken c.args.self.walk before c.args.self.pending.items (sym c.is_some.ensures ∙ c.if-is_some.false) given in
    let all : c.deref.result.now ≡ c.args.self.pending.items ++ c.args.window.now = search rules in
    let taken = c.in_ok-taken.ensures in
    let n = c.in_ok-taken.taken.length in
    let left : c.in_ok-left.left.pending.items ≡ drop n c.deref.result.now = c.in_ok-left.ensures ∙ ap (drop n) (sym c.deref.ensures.value) in
    subst (λ (l : List ℕ). AreTakenOver c.take_packets.new.walk (before ++ c.args.window.now) l) (sym left)
    (goes_on c.args.self.walk c.take_packets.new.walk before c.args.window.now c.args.self.pending.items c.deref.result.now n c.in_ok-taken.taken.fault
    all taken.walked taken.ends taken.closed c.in_default.ensures.none so_far)
