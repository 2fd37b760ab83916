use Rattle.std.proofs.Common.{◌∙◌, List, Some, None, Option, length, sym, ap, arith}
use Rattle.std.proofs.lemmas.Option.{slice_get_within}
use Rattle.bp_run.specs.Configuration.{change}
use Rattle.bp_run.proofs.Turns.{length-change}
use Rattle.bp_floor.specs.inner.Seats.{PlainSeat}
use Rattle.bp_floor.specs.inner.SeatViews.{job_at}
use Rattle.bp_floor.proofs.Lists.{change_twice}
use Rattle.bp_floor.proofs.seats.Seats.give.Goals as goal

pub put-requires : goal.put-requires
put-requires c =
    let len = ap (λ (ss : List PlainSeat). length ss) c.take.ensures.left ∙ length-change (λ s. record s { job = None }) c.args.number c.args.self.now in
    let low = slice_get_within c.args.self.now c.args.number c.requires.seat c.requires.is_seat in
    omega (arith, len, low)

pub returns-in_ok-give : goal.returns-in_ok-give
returns-in_ok-give c = record {
  job = c.in-Some.job;
  given = c.give.new.self;
  old_is = λ s w. sym (ap (λ (x : Option PlainSeat). job_at x) w) ∙ sym c.take.ensures.given ∙ c.in-Some.is;
  seats = c.put.ensures ∙ ap (λ (ss : List PlainSeat). change (λ s. record s { job = Some c.give.new.self }) c.args.number ss) c.take.ensures.left
      ∙ change_twice (λ s. record s { job = Some c.give.new.self }) (λ s. record s { job = None }) c.args.number c.args.self.now;
  plain = c.in_ok-give.ensures.given;
  of_program = c.give.ensures.program;
  fresh = c.in_ok-give.ensures.fresh;
}
