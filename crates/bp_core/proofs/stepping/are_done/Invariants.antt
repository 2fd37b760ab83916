use Rattle.std.proofs.Common.{◌≡◌, drop}
use Rattle.std.specs.List.{list_all}
use Rattle.bp_core.specs.Cores.{has_outcome}
use Rattle.bp_core.proofs.stepping.are_done.Given as goal

abbrev pub invariant-loop-job : goal.invariant-loop-job
invariant-loop-job l = record {
  rest : list_all has_outcome l.jobs ≡ list_all has_outcome (drop l.job-index l.jobs);
}
