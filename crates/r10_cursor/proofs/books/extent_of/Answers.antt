use Rattle.std.proofs.Common.{◌≡◌, ◌*◌, ◌-◌, min, arith}
use Rattle.r10_cursor.proofs.Clipping.{clipped, clipped_length}
use Rattle.r10_cursor.proofs.books.extent_of.Goals as goal

pub returns-then-size-gt-MOST_BYTES-clause-none : goal.returns-then-size-gt-MOST_BYTES-clause-none
returns-then-size-gt-MOST_BYTES-clause-none c = λ image whole long.
    let e = c.args.entry.now in
    omega (arith, clipped_length image e.first_block e.size whole, long, c.if-size-gt-MOST_BYTES.true, c.min-first.ensures, c.min-size.ensures, c.saturating_mul.ensures)

pub returns-clause-bytes : goal.returns-clause-bytes
returns-clause-bytes c = λ image whole long.
    let room : c.min-size.result ≡ min c.args.entry.now.size (512 * (c.args.blocks - c.min-first.result)) = omega (arith, c.min-size.ensures, c.saturating_mul.ensures) in
    clipped image c.args.blocks c.args.entry.now.first_block c.args.entry.now.size c.min-first.result c.min-size.result whole long c.min-first.ensures room

pub returns-clause-some : goal.returns-clause-some
returns-clause-some c = λ image whole long.
    let e = c.args.entry.now in
    omega (arith, clipped_length image e.first_block e.size whole, long, c.if-size-gt-MOST_BYTES.false, c.min-first.ensures, c.min-size.ensures, c.saturating_mul.ensures)
