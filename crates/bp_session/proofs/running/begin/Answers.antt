use Rattle.std.proofs.Common.{[], subst}
use Rattle.bp_log.specs.Options.{PlainOptions}
use Rattle.bp_steps.specs.Steps as steps
use Rattle.bp_code.specs.Code.{code_of}
use Rattle.bp_arbiter.specs.Arbiters.{opened}
use Rattle.bp_core.specs.Cores.{KeepsProgram, IsCoreAt}
use Rattle.bp_session.proofs.Begins.{begins}
use Rattle.bp_session.proofs.running.begin.Goals as goal

pub returns-clause-serving : goal.returns-clause-serving
returns-clause-serving g c =
    let core = c.in_ok-core.core in
    let program = c.args.program in
    let same = c.options-options.ensures in
    begins g.L.Sink.written program c.args.header.now c.args.log.now core c.in_ok-telling.telling
    (subst (λ (o : PlainOptions). KeepsProgram (opened program o) core.arbiter) same c.in_ok-core.ensures.kept)
    (subst (λ (o : PlainOptions). IsCoreAt core core.jobs.items [] (steps.opened (code_of program o) o)) same c.in_ok-core.ensures.at)
    c.in_ok-telling.ensures.begins c.in_ok-telling.ensures.kept
