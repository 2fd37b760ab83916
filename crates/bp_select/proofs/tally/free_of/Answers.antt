use Rattle.js_frames.specs.Places.{plain_ground}
use Rattle.bp_live.specs.Lives.{live_of}
use Rattle.bp_select.proofs.TallyLemmas.{free_same}
use Rattle.bp_select.proofs.tally.free_of.Goals as goal

pub returns-then-is_some-clause-free : goal.returns-then-is_some-clause-free
returns-then-is_some-clause-free c = c.in_ok-free.ensures (plain_ground c.args.ground.now) c.args.budget c.requires.ready.settled.known

pub returns-clause-free : goal.returns-clause-free
returns-clause-free c =
    let base = plain_ground c.args.ground.now in
    free_same base c.args.budget c.known_free-2.result (live_of c.args.stated.now) c.args.blocks.now.sets c.learn.new.blocks.sets c.learn.ensures.sets
    (c.known_free-2.ensures base c.args.budget c.learn.ensures.ready.settled.known)
