use Rattle.std.proofs.Common.{Some, sym, subst}
use Rattle.bp_args.specs.declared.command.Command.{Command}
use Rattle.bp_cli.specs.Asking.{AsksIn}
use Rattle.bp_cli.specs.Endings.{EndsIn}
use Rattle.bp_cli.specs.inner.Opening.{IsCounted}
use Rattle.bp_cli.specs.Outside.{outside}
use Rattle.bp_cli.proofs.Asking.{asks_measured}
use Rattle.bp_cli.proofs.commands.carry_out.Goals as goal

pub run_program-requires-clause-counted : goal.run_program-requires-clause-counted
run_program-requires-clause-counted g c κs within = subst (λ (x : Command). IsCounted x) c.in-Run.is c.requires.counted

pub returns-in-Large-clause-ends : goal.returns-in-Large-clause-ends
returns-in-Large-clause-ends g c =
    let seen = outside g.W.World.holds g.W.World.asked g.W.World.read_faults g.W.World.write_faults g.K.Sink.written g.K.Sink.faults in
    let before = seen c.args.world.now c.args.out.now in
    let after = seen c.args.world.now c.measure_large.new.out in
    let ended = c.measure_large.result in
    subst (λ (x : Command). EndsIn (Some x) ended.records before after ended.conclusion) (sym c.in-Large.is) (c.measure_large.ensures.ends before)

pub returns-in-Large-clause-asks : goal.returns-in-Large-clause-asks
returns-in-Large-clause-asks g c =
    let asked = g.W.World.asked c.args.world.now in
    let ended = c.measure_large.result in
    subst (λ (x : Command). AsksIn (Some x) asked asked ended.conclusion) (sym c.in-Large.is) (asks_measured c.in-Large.count asked ended.conclusion)
