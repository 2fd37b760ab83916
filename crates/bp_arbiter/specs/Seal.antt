-- A turn ends, with a verdict or without one.
use Rattle.std.specs.Prelude.{◌≡◌, ◌⊎◌, false, List, [], ◌∷◌, ◌++◌, Option, Some, None}
use Rattle.js_value.specs.Value.{PlainSet}
use Rattle.js_meaning.specs.Bodies.{Origin, the_top}
use Rattle.bp_log.specs.declared.record.Record.{Record}
use Rattle.bp_log.specs.declared.record.Record.TheVariants.{End}
use Rattle.bp_log.specs.declared.trace.Line.{Line}
use Rattle.bp_log.specs.declared.verdict.Verdict.{Verdict}
use Rattle.bp_run.specs.Bodies.{Code}
use Rattle.bp_run.specs.Settling.{Pair, before, turn}
use Rattle.bp_run.specs.Story.{over}
use Rattle.bp_thread.specs.declared.job.Job.{Job}
use Rattle.bp_floor.specs.Floors.{StandsWith, code_on, phase_of}
use Rattle.bp_floor.specs.Forgetting.{forgotten}
use Rattle.bp_floor.specs.Loans.{filled_pair}
use Rattle.bp_arbiter.specs.declared.run.Run.{Run}
use Rattle.bp_arbiter.specs.Runs.{lines_in}

-- a verdict is recorded
abbrev pub ending : Option Verdict → List Record
ending None = []
ending (Some v) = End v ∷ []

abbrev pub ended_with : Option Verdict → Pair Origin → Pair Origin
ended_with None p = p
ended_with (Some v) p = record p { stand = over p.stand v }

-- the turn, and the line of its verdict, if it has one
abbrev pub after_turn : Code Origin PlainSet → Pair Origin → Pair Origin
after_turn l p = let q = turn l p in ended_with q.stand.verdict q

-- the turn of what was lent, as the floor shows it
abbrev pub turned_in : Run → List Job → Pair Origin
turned_in r jobs = forgotten the_top (turn (code_on r.floor) (filled_pair jobs r.floor.pair))

-- where the floor stands for a pair, its turn stands for the turn of the pair
pub record Turns (r : Run) (jobs : List Job) : Type 0 where
  pub stands : (taken : List Line) (p : Pair Origin) → StandsWith r.floor jobs taken p
      → forgotten the_top (turn (code_on r.floor) p) ≡ before taken (turned_in r jobs)

-- the turn is merged, and its verdict has its line and its record
pub record IsTurned (old : Run) (jobs : List Job) (new : Run) : Type 0 where
  pub turns : Turns old jobs
  pub pair_is : let q = turned_in old jobs in new.floor.pair ≡ ended_with q.stand.verdict q
  pub phase_is : new.floor.phase ≡ phase_of new.floor.pair
  pub whole : new.floor.broken ≡ false
  pub records : new.records.items ≡ old.records.items ++ ending (turned_in old jobs).stand.verdict
  pub drawn : new.draw.drawn ≡ old.draw.drawn

-- the lines are those of the turn
pub record HasTurned (old : Run) (jobs : List Job) (new : Run) : Type 0 where
  pub turns : Turns old jobs
  pub lines : lines_in new ≡ (turned_in old jobs).stand.lines

-- out of memory: the records are as before, and the lines are those from before or those of the turn
pub record IsCutOff (old : Run) (jobs : List Job) (new : Run) : Type 0 where
  pub records : new.records.items ≡ old.records.items
  pub lines : (lines_in new ≡ lines_in old) ⊎ HasTurned old jobs new
