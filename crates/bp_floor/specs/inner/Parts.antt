-- What bodies did, but for what they state.
use Rattle.std.specs.Prelude.{pos, [], map}
use Rattle.js_meaning.specs.Bodies.{Origin}
use Rattle.js_frames.specs.Places.{plain_effects}
use Rattle.bp_run.specs.Bodies as run
use Rattle.bp_run.specs.Bodies.{Part}
use Rattle.bp_run.specs.Settling.{Ran}
use Rattle.bp_meaning.specs.After.{effect_of}
use Rattle.bp_floor.specs.declared.part.Ending.{Ending}
use Rattle.bp_floor.specs.declared.part.Ending.TheVariants.{Stopped, Ended, Broken, Violated, Spent}
use Rattle.bp_floor.specs.declared.part.Part as declared
use Rattle.bp_floor.specs.declared.part.Ran as declared_ran
use Rattle.bp_floor.specs.inner.Entries.{entry_seen}

-- a statement of nothing
abbrev pub nothing_stated : run.Statement (Unit {0})
nothing_stated = record { request = []; wait_for = tt; block = tt; interrupt = tt; priority = pos 0 }

abbrev pub ending_seen : Ending → run.Outcome (Unit {0})
ending_seen Stopped = run.Outcome.Stopped nothing_stated
ending_seen Ended = run.Outcome.Ended
ending_seen (Broken f l) = run.Outcome.Broken f l
ending_seen (Violated t) = run.Outcome.Violated t
ending_seen Spent = run.Outcome.Spent

abbrev pub part_seen : declared.Part → Part Origin (Unit {0})
part_seen p =
    record { effects = map effect_of (plain_effects p.effects); outcome = ending_seen p.ending }

abbrev pub ran_seen : declared_ran.Ran → Ran Origin (Unit {0})
ran_seen r = record { entry = entry_seen r.entry; part = part_seen r.part }

-- merging does not read what is stated
abbrev pub unstated : {Set : Type 0} → run.Outcome Set → run.Outcome (Unit {0})
unstated (run.Outcome.Stopped s) = run.Outcome.Stopped nothing_stated
unstated run.Outcome.Ended = run.Outcome.Ended
unstated (run.Outcome.Broken f l) = run.Outcome.Broken f l
unstated (run.Outcome.Violated t) = run.Outcome.Violated t
unstated run.Outcome.Spent = run.Outcome.Spent

abbrev pub unstated_part : {Origin Set : Type 0} → Part Origin Set → Part Origin (Unit {0})
unstated_part p = record { effects = p.effects; outcome = unstated p.outcome }

abbrev pub unstated_ran : {Origin Set : Type 0} → Ran Origin Set → Ran Origin (Unit {0})
unstated_ran r = record { entry = r.entry; part = unstated_part r.part }
