use Rattle.std.proofs.Common.{◌-◌, arith, vec_len, Some}
use Rattle.bp_reader.proofs.Along.{ends, line_found, longer, passes, took, breaks, with_room}
use Rattle.bp_reader.proofs.input.Input.line.Goals as goal

pub returns-in-None-clause-line : goal.returns-in-None-clause-line
returns-in-None-clause-line g c =
    ends _ _ _ _ c.loop-self.line.items (c.args.room - vec_len c.loop-self.line) c.loop-self.invariant.so_far (rw c.in-None.is at c.in_ok-byte.ensures.given)

pub returns-in-Some-eq10-clause-line : goal.returns-in-Some-eq10-clause-line
returns-in-Some-eq10-clause-line g c =
    line_found _ _ _ _ c.loop-self.line.items (c.args.room - vec_len c.loop-self.line) c.loop-self.invariant.so_far (rw c.in-Some-eq10.field-0-test at (rw c.in-Some-eq10.is at c.in_ok-byte.ensures.given))

pub loop-self-smaller : goal.loop-self-smaller
loop-self-smaller g c = omega (arith, c.in_ok-push-in-Some.ensures.len, c.loop-self-test.true, c.len.ensures)

pub loop-self-preserved : goal.loop-self-preserved
loop-self-preserved g c = record {
  so_far = with_room c.args.room c.args.self.now.left c.byte.new.self.left c.push.new.self.items (c.args.room - vec_len c.push.new.self) (c.args.room - vec_len c.loop-self.line - 1) (omega (arith, c.in_ok-push-in-Some.ensures.len, c.loop-self-test.true, c.len.ensures))
      (rw c.in_ok-push-in-Some.ensures.items (longer _ _ _ _ c.loop-self.line.items (c.args.room - vec_len c.loop-self.line) c.loop-self.invariant.so_far c.in-Some.byte c.in-Some.byte-test.1 (rw c.in-Some.is at c.in_ok-byte.ensures.given) (omega (arith, c.loop-self-test.true, c.len.ensures))));
  within = omega (arith, c.in_ok-push-in-Some.ensures.len, c.loop-self-test.true, c.len.ensures);
  counts = omega (arith, c.byte.ensures.counts, c.loop-self.invariant.counts);
}

pub returns-in-None-2-clause-line : goal.returns-in-None-2-clause-line
returns-in-None-2-clause-line g c =
    ends _ _ _ _ c.loop-self.line.items (c.args.room - vec_len c.loop-self.line) c.loop-self.invariant.so_far (rw c.in-None-2.is at c.in_ok-byte-2.ensures.given)

pub returns-in-Some-eq10-2-clause-line : goal.returns-in-Some-eq10-2-clause-line
returns-in-Some-eq10-2-clause-line g c =
    line_found _ _ _ _ c.loop-self.line.items (c.args.room - vec_len c.loop-self.line) c.loop-self.invariant.so_far (rw c.in-Some-eq10-2.field-0-test at (rw c.in-Some-eq10-2.is at c.in_ok-byte-2.ensures.given))

pub returns-in-Some-2-clause-line : goal.returns-in-Some-2-clause-line
returns-in-Some-2-clause-line g c =
    passes _ _ _ _ c.loop-self.line.items (c.args.room - vec_len c.loop-self.line) c.loop-self.invariant.so_far c.in-Some-2.field-0 c.in-Some-2.field-0-test.1 (rw c.in-Some-2.is at c.in_ok-byte-2.ensures.given) (omega (arith, c.loop-self-test.false, c.len.ensures))

pub returns-in_err-byte-clause-failed : goal.returns-in_err-byte-clause-failed
returns-in_err-byte-clause-failed g c =
    λ e. breaks _ _ _ _ c.loop-self.line.items (c.args.room - vec_len c.loop-self.line) c.loop-self.invariant.so_far c.in_err-byte.ensures.failed

pub returns-in-Some-eq10-clause-taken : goal.returns-in-Some-eq10-clause-taken
returns-in-Some-eq10-clause-taken g c =
    took _ _ _ _ c.loop-self.line.items (c.args.room - vec_len c.loop-self.line) c.loop-self.invariant.so_far (Some 10) (rw c.in-Some-eq10.field-0-test at (rw c.in-Some-eq10.is at c.in_ok-byte.ensures.given))

pub returns-in_err-push-in-Some-clause-taken : goal.returns-in_err-push-in-Some-clause-taken
returns-in_err-push-in-Some-clause-taken g c =
    took _ _ _ _ c.loop-self.line.items (c.args.room - vec_len c.loop-self.line) c.loop-self.invariant.so_far (Some c.in-Some.byte) (rw c.in-Some.is at c.in_ok-byte.ensures.given)

pub returns-in_err-byte-2-clause-failed : goal.returns-in_err-byte-2-clause-failed
returns-in_err-byte-2-clause-failed g c =
    λ e. breaks _ _ _ _ c.loop-self.line.items (c.args.room - vec_len c.loop-self.line) c.loop-self.invariant.so_far c.in_err-byte-2.ensures.failed

pub returns-in-Some-eq10-2-clause-taken : goal.returns-in-Some-eq10-2-clause-taken
returns-in-Some-eq10-2-clause-taken g c =
    took _ _ _ _ c.loop-self.line.items (c.args.room - vec_len c.loop-self.line) c.loop-self.invariant.so_far (Some 10) (rw c.in-Some-eq10-2.field-0-test at (rw c.in-Some-eq10-2.is at c.in_ok-byte-2.ensures.given))

pub returns-in-Some-2-clause-taken : goal.returns-in-Some-2-clause-taken
returns-in-Some-2-clause-taken g c =
    took _ _ _ _ c.loop-self.line.items (c.args.room - vec_len c.loop-self.line) c.loop-self.invariant.so_far (Some c.in-Some-2.field-0) (rw c.in-Some-2.is at c.in_ok-byte-2.ensures.given)
