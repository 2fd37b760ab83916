use Rattle.std.proofs.Common.{◌∙◌, All, ap, sym, subst}
use Rattle.std.specs.List.{AllZip}
use Rattle.js_meaning.specs.State.{Ground}
use Rattle.bp_thread.specs.Jobs.{IsOf}
use Rattle.bp_thread.specs.Carried.{Carries}
use Rattle.bp_arbiter.specs.Arbiters.{PlainArbiter, options_in}
use Rattle.test_cores.proofs.Somewhere.{after_handing}
use Rattle.test_cores.proofs.cores.carry_lent.Goals as goal

pub slice_first-requires : goal.slice_first-requires
slice_first-requires c =
    let s = c.requires.somewhere in
    let r = c.hand_out-jobs.ensures.can_run s.taken s.moment s.at in
    record {
      program = subst (λ (g : Ground). All (IsOf g.program) c.hand_out-jobs.result.items) (sym (c.ground.ensures ∙ ap (λ (x : PlainArbiter). x.floor.base) (c.arbiter.ensures ∙ c.hand_out-jobs.ensures.arbiter))) r.of_program;
    }

pub returns-clause-somewhere : goal.returns-clause-somewhere
returns-clause-somewhere c =
    let out = c.hand_out-jobs.new.self in
    let jobs = c.hand_out-jobs.result.items in
    let back = c.slice_first.new.jobs.items in
    let budget = (options_in out.arbiter).budget in
    after_handing c.args.core.now out c.hand_in.new.self jobs back c.requires.somewhere c.hand_out-jobs.ensures.jobs c.hand_out-jobs.ensures.arbiter c.hand_out-jobs.ensures.broken c.hand_in.ensures.at
    (subst (λ (g : Ground). AllZip (Carries g budget) jobs back) (c.ground.ensures ∙ ap (λ (x : PlainArbiter). x.floor.base) c.arbiter.ensures) (c.in_ok-slice_first.ensures budget))
