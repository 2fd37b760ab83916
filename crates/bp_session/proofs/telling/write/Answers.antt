use Rattle.std.proofs.Common.{refl}
use Rattle.bp_told.specs.declared.fault.RunFault.TheVariants.{Memory}
use Rattle.bp_session.specs.inner.Outlets.{given_to}
use Rattle.bp_session.proofs.Causes.{other_fault}
use Rattle.bp_session.proofs.Tells.{write_part}
use Rattle.bp_session.proofs.telling.write.Goals as goal

pub returns-in-Err-clause-stops : goal.returns-in-Err-clause-stops
returns-in-Err-clause-stops g c = (other_fault _ c.in-Err.fault Memory refl c.in-Err.ensures.memory, write_part g.L.Sink.written (given_to g.K.Sink c.args.outlets.now) (given_to g.K.Sink c.flush.new.self) c.args.telling.now c.flush.new.telling c.flush.ensures.part)
