-- What contracts see of an arbiter, and what it stands for.
use Rattle.std.specs.Prelude.{◌≡◌, ℕ, ◌≤◌, Bool, true, false, List, [], ◌++◌, map, Option, Some, None}
use Rattle.js_value.specs.Value.{PlainSet}
use Rattle.js_program.specs.PlainProgram.{PlainProgram}
use Rattle.js_meaning.specs.Bodies.{Origin, bare, the_top}
use Rattle.bp_log.specs.Options.{PlainOptions}
use Rattle.bp_log.specs.declared.record.Record.{Record}
use Rattle.bp_log.specs.declared.trace.Line.{Line}
use Rattle.bp_run.specs.Bodies.{Code}
use Rattle.bp_run.specs.Configuration.{Configuration, Stand, below, not_ended}
use Rattle.bp_run.specs.Settling.{Pair, settle, opening}
use Rattle.bp_run.specs.Story.{Next, story, next}
use Rattle.bp_thread.specs.declared.job.Job.{Job}
use Rattle.bp_floor.specs.declared.phase.Phase.{Phase}
use Rattle.bp_floor.specs.declared.phase.Phase.TheVariants.{Ready, Lent, Rest, Over}
use Rattle.bp_floor.specs.Forgetting.{forget}
use Rattle.bp_floor.specs.Floors.{PlainFloor, StandsWith, code_on}
use Rattle.bp_arbiter.specs.Calls.{RunCalls}

-- An arbiter: its floor, the words drawn, the injectors that have not ended, the first bad line, what
-- was recorded, and what can be done.
pub record PlainArbiter : Type 0 where
  pub floor : PlainFloor
  pub drawn : ℕ
  pub reading : List ℕ
  pub bad : Option (ℕ × ℕ)
  pub records : List Record
  pub phase : Phase
  -- memory ran out
  pub broken : Bool

-- before anything has run
abbrev pub opened : PlainProgram → PlainOptions → PlainArbiter
opened program o =
    record {
      floor =
          record { base = bare program; options = o; pair = opening; phase = Ready; broken = false };
      drawn = 0;
      reading = below o.injectors;
      bad = None;
      records = [];
      phase = Ready;
      broken = false;
    }

-- the code that it runs, and under which options
abbrev pub code_in : PlainArbiter → Code Origin PlainSet
code_in a = code_on a.floor

abbrev pub options_in : PlainArbiter → PlainOptions
options_in a = a.floor.options

-- where its b-threads stand, and its lines that were not taken yet
abbrev pub stand_in : PlainArbiter → Stand Origin
stand_in a = a.floor.pair.stand

-- its records lead to this configuration
abbrev pub Recounts : PlainArbiter → Configuration Origin → Type 0
Recounts a c = story (code_in a) (options_in a) a.records ≡ Some c

-- what comes next there
abbrev pub coming : PlainArbiter → Configuration Origin → Next
coming a c = next (code_in a) (options_in a) c

-- The words drawn are those of the story. Where there is a verdict, one more may have been drawn.
abbrev pub IsDrawn : Phase → ℕ → ℕ → Type 0
IsDrawn Ready drawn told = drawn ≡ told
IsDrawn Lent drawn told = drawn ≡ told
IsDrawn Rest drawn told = drawn ≡ told
IsDrawn Over drawn told = told ≤ drawn

-- The arbiter, after these lines were taken and together with the jobs that are lent, stands for a
-- pair: the pair settles to the story of the records.
pub record StandsFor (a : PlainArbiter) (jobs : List Job) (taken : List Line) (p : Pair Origin)
    : Type 0 where
  pub whole : a.broken ≡ false
  pub told : Configuration Origin
  pub story : Recounts a told
  pub settles : told.stand ≡ settle (code_in a) p
  pub reading : told.reading ≡ a.reading
  pub bad : told.bad ≡ a.bad
  pub drawn : IsDrawn a.phase a.drawn told.drawn
  pub floor : StandsWith a.floor jobs taken p
  pub calls : RunCalls p

-- the arbiter, without jobs that are lent, stands for some pair
pub record StandsSomewhere (a : PlainArbiter) : Type 0 where
  pub taken : List Line
  pub pair : Pair Origin
  pub stands : StandsFor a [] taken pair

-- The records are a story, also after memory ran out: the lines taken, then those to be taken, then the
-- rest are its lines.
pub record Tells (a : PlainArbiter) (taken : List Line) : Type 0 where
  pub told : Configuration Origin
  pub story : Recounts a told
  pub rest : List Line
  pub lines : told.stand.lines ≡ taken ++ ((stand_in a).lines ++ rest)

abbrev pub is_lent : Phase → Bool
is_lent Ready = false
is_lent Lent = true
is_lent Rest = false
is_lent Over = false

abbrev pub is_over : Phase → Bool
is_over Ready = false
is_over Lent = false
is_over Rest = false
is_over Over = true

-- memory did not run out before, and is not now
pub record HadMemory (old new : PlainArbiter) : Type 0 where
  pub before : old.broken ≡ false
  pub after : new.broken ≡ false

-- After memory ran out nothing was recorded, and what can be done is as before. Of each pair that the
-- arbiter stood for with such jobs, the lines taken and to be taken are the first of the story's. Where
-- memory had run out before, nothing has changed.
pub record IsGivenUp (IsLent : List Job → Type 0) (old new : PlainArbiter) : Type 0 where
  pub broken : new.broken ≡ true
  pub records : new.records ≡ old.records
  pub phase : new.phase ≡ old.phase
  pub tells : (jobs : List Job) (taken : List Line) (p : Pair Origin) → IsLent jobs
      → StandsFor old jobs taken p → Tells new taken
  pub stays : old.broken ≡ true → new ≡ old

-- what an arbiter keeps unless memory ran out
pub record Keeps (a : PlainArbiter) : Type 0 where
  pub steps : (stand_in a).transitions ≤ (options_in a).steps
  pub drawn : is_over a.phase ≡ false → a.drawn ≤ (stand_in a).transitions
  pub floor_phase : a.floor.phase ≡ a.phase
  pub floor_whole : a.floor.broken ≡ false

-- a floor shows where its b-threads stand; of one that has ended, that it has
pub record Shows (shown told : Stand Origin) : Type 0 where
  pub queue : shown.queue ≡ told.queue
  pub transitions : shown.transitions ≡ told.transitions
  pub verdict : shown.verdict ≡ told.verdict
  pub threads : shown.threads ≡ map (forget the_top) told.threads
  pub live : not_ended shown ≡ not_ended told
