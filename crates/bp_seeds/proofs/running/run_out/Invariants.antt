use Rattle.std.proofs.Common.{◌≡◌, ◌-◌, false, length}
use Rattle.bp_run.specs.Story.{alone}
use Rattle.bp_code.specs.Code.{sealed_code_of as code_of}
use Rattle.bp_floor.specs.declared.phase.Phase.TheVariants.{Ready}
use Rattle.bp_seeds.proofs.Runs.{Runs}
use Rattle.bp_seeds.proofs.running.run_out.Given as goal

abbrev pub invariant-steps : goal.invariant-steps
invariant-steps l =
    let o = record l.fn.options { wait = false } in
    record {
      runs : Runs (code_of l.fn.program o) o l.arbiter;
      settled : ¬ (l.arbiter.phase ≡ Ready);
    }

abbrev pub decreases-steps : goal.decreases-steps
decreases-steps l =
    let o = record l.fn.options { wait = false } in
    length (alone (code_of l.fn.program o) o) - length l.arbiter.records
