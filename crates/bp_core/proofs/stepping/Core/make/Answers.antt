use Rattle.std.proofs.Common.{sym, ap, subst}
use Rattle.std.specs.Prelude.{OnErr}
use Rattle.std.proofs.lemmas.Result.{err_from_is_err_and}
use Rattle.bp_steps.specs.declared.step.CoreStep.{CoreStep}
use Rattle.bp_core.specs.Cores.{Cuts}
use Rattle.bp_core.proofs.Legal.{absorb_needs, slice_needs, seal_needs}
use Rattle.bp_core.specs.declared.stepping.Core.{Core}
use Rattle.bp_core.proofs.Playing.{still_cuts}
use Rattle.bp_core.proofs.stepping.Core.make.Goals as goal

pub absorb-requires : goal.absorb-requires
absorb-requires c =
    let n = absorb_needs c.args.self.now.arbiter c.args.self.now.jobs.items c.args.step c.in-Absorb.injector c.in-Absorb.item c.requires.legal c.in-Absorb.is in
    record { rest = n.rest; read = n.read; sound = n.sound }

pub carry_on-requires-clause-there : goal.carry_on-requires-clause-there
carry_on-requires-clause-there c =
    (slice_needs c.args.self.now.arbiter c.args.self.now.jobs.items c.args.step c.in-Slice.place c.in-Slice.nodes c.requires.legal c.in-Slice.is).there

pub carry_on-requires-clause-open : goal.carry_on-requires-clause-open
carry_on-requires-clause-open c =
    (slice_needs c.args.self.now.arbiter c.args.self.now.jobs.items c.args.step c.in-Slice.place c.in-Slice.nodes c.requires.legal c.in-Slice.is).open_still

pub carry_on-requires-clause-lent : goal.carry_on-requires-clause-lent
carry_on-requires-clause-lent c =
    (slice_needs c.args.self.now.arbiter c.args.self.now.jobs.items c.args.step c.in-Slice.place c.in-Slice.nodes c.requires.legal c.in-Slice.is).lent

pub seal-requires-clause-done : goal.seal-requires-clause-done
seal-requires-clause-done c = (seal_needs c.args.self.now.arbiter c.args.self.now.jobs.items c.args.step c.requires.legal c.in-Seal.is).1

pub returns-in-Err-clause-cut : goal.returns-in-Err-clause-cut
returns-in-Err-clause-cut c = still_cuts c.args.self.now _ _ (ap (λ (x : Core). x.arbiter) c.in-Err.ensures.same)

pub returns-in_err-_picked-in-Pick-clause-cut : goal.returns-in_err-_picked-in-Pick-clause-cut
returns-in_err-_picked-in-Pick-clause-cut c =
    let w = err_from_is_err_and c.from_residual.result c.from_residual.ensures.1 in
    rw w.1 (subst (λ (s : CoreStep). Cuts c.args.self.now c.pick.new.self s) (sym c.in-Pick.is) c.in_err-_picked-in-Pick.ensures.cut)

pub returns-in-Slice-clause-cut : goal.returns-in-Slice-clause-cut
returns-in-Slice-clause-cut c = subst (λ (s : CoreStep). OnErr c.carry_on.result (Cuts c.args.self.now c.carry_on.new.self s)) (sym c.in-Slice.is) c.carry_on.ensures.cut

pub returns-in-Seal-clause-cut : goal.returns-in-Seal-clause-cut
returns-in-Seal-clause-cut c = subst (λ (s : CoreStep). OnErr c.seal.result (Cuts c.args.self.now c.seal.new.self s)) (sym c.in-Seal.is) c.seal.ensures.cut
