use Rattle.std.proofs.Common.{sym, arith, length-take, ℕ}
use Rattle.bp_reader.proofs.Walks.{opens, opened}
use Rattle.bp_reader.proofs.words.quoted_at_front.Goals as goal

pub slice_bounds-result-end : goal.slice_bounds-result-end
slice_bounds-result-end c =
    let o = opens c.args.bytes.now c.in_ok-rest.rest.now c.in_ok-front.front.now c.in_ok-front.behind.now (sym c.in_ok-rest.ensures) (sym c.in_ok-front.ensures) in
    omega (arith, o.fits, length-take {A = ℕ})

pub returns : goal.returns
returns c = opened c.args.bytes.now c.in_ok-rest.rest.now c.in_ok-front.front.now c.in_ok-front.behind.now (sym c.in_ok-rest.ensures) (sym c.in_ok-front.ensures)
