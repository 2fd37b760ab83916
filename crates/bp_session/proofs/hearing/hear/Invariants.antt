use Rattle.std.proofs.Common.{◌≡◌, ◌+◌, false, length}
use Rattle.bp_floor.specs.declared.phase.Phase.TheVariants as phase
use Rattle.bp_session.specs.inner.Hearing.{Hears}
use Rattle.bp_session.proofs.hearing.hear.Given as goal

abbrev pub invariant-loop-heard : goal.invariant-loop-heard
invariant-loop-heard l = record {
  hears : Hears l.fn.number l.fn.hearing l.fn.core l.hearing l.core;
  whole : l.core.broken ≡ false;
  rest : l.core.arbiter.phase ≡ phase.Rest;
  inside : l.core.out ≡ l.fn.core.out;
  count : length l.core.arbiter.records ≡ length l.fn.core.arbiter.records + l.heard;
}
