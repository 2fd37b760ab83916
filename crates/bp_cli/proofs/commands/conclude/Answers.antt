use Rattle.std.proofs.Common.{Option, sym, subst}
use Rattle.std.specs.Prelude.{map, string_bytes}
use Rattle.bp_args.specs.declared.command.Command.{Command}
use Rattle.bp_cli.specs.Outside.{outside}
use Rattle.bp_cli.specs.Asking.{AsksIn}
use Rattle.bp_cli.specs.Endings.{EndsIn}
use Rattle.bp_cli.proofs.Words.{counted}
use Rattle.bp_cli.proofs.commands.conclude.Goals as goal

pub carry_out-requires-clause-counted : goal.carry_out-requires-clause-counted
carry_out-requires-clause-counted g c κs within = counted (map string_bytes c.args.words.now) c.in-Ok.command c.in-Ok.ensures.command

pub returns-in-Ok-clause-ends : goal.returns-in-Ok-clause-ends
returns-in-Ok-clause-ends g c =
    let seen = outside g.W.World.holds g.W.World.asked g.W.World.read_faults g.W.World.write_faults g.K.Sink.written g.K.Sink.faults in
    subst (λ (o : Option Command). EndsIn o c.carry_out.result.records (seen c.args.world.now c.args.out.now) (seen c.carry_out.new.world c.carry_out.new.out) c.carry_out.result.conclusion)
    (sym c.in-Ok.ensures.command) c.carry_out.ensures.ends

pub returns-in-Ok-clause-asks : goal.returns-in-Ok-clause-asks
returns-in-Ok-clause-asks g c =
    subst (λ (o : Option Command). AsksIn o (g.W.World.asked c.args.world.now) (g.W.World.asked c.carry_out.new.world) c.carry_out.result.conclusion) (sym c.in-Ok.ensures.command) c.carry_out.ensures.asks
