use Rattle.bp_pool.proofs.Going.{carries_on, still_not}
use Rattle.bp_turns.proofs.Slices.{begun_next}
use Rattle.bp_turns.proofs.carrying.carry.Goals as goal

pub loop-slices-preserved : goal.loop-slices-preserved
loop-slices-preserved c =
    let i = c.loop-slices.invariant in
    let b = i.begun in
    record {
      of_program = c.slice.ensures.program;
      still = still_not c.in_ok-slice.field-0 _ c.if-branch.false c.in_ok-slice.ensures.done;
      begun = begun_next _ c.args.budget c.loop-slices._slices c.args.slice c.in_ok-slice.field-0 c.loop-slices.job c.slice.new.self b c.requires.some_slice c.if-branch.false
          (c.in_ok-slice.ensures.stands c.args.budget b.begun b.made b.stands);
      carries = carries_on _ c.args.budget c.args.job.now c.loop-slices.job c.slice.new.self i.carries (c.in_ok-slice.ensures.carries c.args.budget);
    }
