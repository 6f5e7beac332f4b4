use Rattle.std.proofs.Common.{rules, arith, ◌≡◌, ◌<◌, ◌+◌, ◌++◌, ◌∷◌, [], length, take, string_bytes, ap, sym, ◌∙◌}
use Rattle.std.proofs.lemmas.List.{take_more, length-take}
use Rattle.std.specs.Io.KnownBytes.{Appends}
use Rattle.r10_command.proofs.Rounds.{one_reply, rounds_join}
use Rattle.r10_command.proofs.play.write_lines.Goals as goal

pub loop-reply-preserved : goal.loop-reply-preserved
loop-reply-preserved g c =
    let contents = g.W.Write.contents in
    let replies = c.args.replies.now in
    let i = c.loop-reply.reply-index in
    let reply = c.reply-item.result in
    let inside : i < length replies = c.loop-reply-test.true in
    let wrote : Appends (contents c.loop-reply.writer) (contents c.write_all.new.self) (string_bytes c.in_ok-lines.lines) = search rules in
    let more : take (i + 1) replies ≡ take i replies ++ reply ∷ [] = take_more replies i reply inside ∙ ap (λ r. take i replies ++ r ∷ []) (sym c.reply-item.is) in
    let at : c.args.done + i ≡ c.args.done + length (take i replies) = omega (arith, length-take i replies, inside) in
    let number : c.loop-reply.number + 1 ≡ c.args.done + i + 1 = omega (arith, c.loop-reply.invariant.number) in
    record {
      number = omega (arith, c.loop-reply.invariant.number);
      lines = rw more (rounds_join _ (contents c.loop-reply.writer) _ c.args.done (c.args.done + i) (take i replies) (reply ∷ []) at c.loop-reply.invariant.lines
          (one_reply _ _ (c.loop-reply.number + 1) (c.args.done + i) reply (string_bytes c.in_ok-lines.lines) number c.in_ok-lines.ensures wrote));
    }
