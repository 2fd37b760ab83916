use Rattle.std.proofs.Common.{◌≡◌, None}
use Rattle.js_frames.specs.Places.{plain_ground}
use Rattle.bp_thread.specs.Jobs.{plain_job, IsOf}
use Rattle.bp_thread.specs.Carried.{Carries}
use Rattle.bp_turns.proofs.Slices.{Begun}
use Rattle.bp_turns.proofs.carrying.carry.Given as goal

abbrev pub invariant-loop-slices : goal.invariant-loop-slices
invariant-loop-slices l = record {
  of_program : IsOf (plain_ground l.ground).program l.job;
  still : (plain_job l.job).outcome ≡ None;
  begun : Begun (plain_ground l.ground) l.budget l._slices l.job;
  carries : Carries (plain_ground l.ground) l.budget l.fn.job l.job;
}
