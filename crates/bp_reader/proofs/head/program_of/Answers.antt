use Rattle.std.proofs.Common.{ℕ, ◌+◌, ◌-◌, arith, length-append}
use Rattle.bp_reader.proofs.Programs.{ends, longer, whole, wrong, breaks}
use Rattle.bp_reader.proofs.head.program_of.Goals as goal

pub returns-in-Ok-None-clause-gets : goal.returns-in-Ok-None-clause-gets
returns-in-Ok-None-clause-gets g c =
    ends c.args.size _ _ _ c.loop.program.items (c.args.size - c.loop.counter) c.loop.invariant.so_far (rw c.in-Ok-None.field-0-is at c.in-Ok-None.ensures.given)

pub loop-preserved : goal.loop-preserved
loop-preserved g c = record {
  so_far = rw c.in_ok-push-in-Ok-Some.ensures.items
      (longer c.args.size c.args.input.now.left c.loop.input.left c.byte.new.self.left c.loop.program.items (c.args.size - c.loop.counter) c.loop.invariant.so_far (c.args.size - (c.loop.counter + 1)) c.in-Ok-Some.byte (rw c.in-Ok-Some.field-0-is at c.in-Ok-Some.ensures.given) (omega (arith, c.loop-test.true)));
  taken = rw c.in_ok-push-in-Ok-Some.ensures.items (omega (arith, length-append {A = ℕ}, c.loop.invariant.taken));
  counts = omega (arith, c.byte.ensures.counts, c.loop.invariant.counts);
}

pub returns-in-Ok-None-byte-clause-gets : goal.returns-in-Ok-None-byte-clause-gets
returns-in-Ok-None-byte-clause-gets g c =
    ends c.args.size _ _ _ c.loop.program.items (c.args.size - c.loop.counter) c.loop.invariant.so_far (rw c.in-Ok-None-byte.field-0-is at c.in-Ok-None-byte.ensures.given)

pub returns-in-Ok-Some-eq10-clause-gets : goal.returns-in-Ok-Some-eq10-clause-gets
returns-in-Ok-Some-eq10-clause-gets g c =
    whole c.args.size _ _ _ c.loop.program.items (c.args.size - c.loop.counter) c.loop.invariant.so_far (rw c.in-Ok-Some-eq10.field-0-0-test at (rw c.in-Ok-Some-eq10.field-0-is at c.in-Ok-Some-eq10.ensures.given)) (omega (arith, c.loop-test.false))

pub returns-in-Ok-Some-byte-clause-gets : goal.returns-in-Ok-Some-byte-clause-gets
returns-in-Ok-Some-byte-clause-gets g c =
    wrong c.args.size _ _ _ c.loop.program.items (c.args.size - c.loop.counter) c.loop.invariant.so_far c.in-Ok-Some-byte.field-0-0 (rw c.in-Ok-Some-byte.field-0-is at c.in-Ok-Some-byte.ensures.given) c.in-Ok-Some-byte.field-0-0-test.1 (omega (arith, c.loop-test.false))

pub returns-in-Err-clause-failed : goal.returns-in-Err-clause-failed
returns-in-Err-clause-failed g c =
    λ e. breaks c.args.size _ _ _ c.loop.program.items (c.args.size - c.loop.counter) c.loop.invariant.so_far c.in-Err.ensures.failed

pub returns-in-Err-byte-clause-failed : goal.returns-in-Err-byte-clause-failed
returns-in-Err-byte-clause-failed g c =
    λ e. breaks c.args.size _ _ _ c.loop.program.items (c.args.size - c.loop.counter) c.loop.invariant.so_far c.in-Err-byte.ensures.failed
