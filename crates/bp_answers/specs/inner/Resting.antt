-- Where the b-threads of a run at rest stand.
use Rattle.std.specs.Prelude.{◌≡◌, ℕ, suc, List, [], ◌∷◌, ◌++◌, Option, Some, None, option_map}
use Rattle.std.specs.List.{cons_option}
use Rattle.js_value.specs.Value.{PlainSet}
use Rattle.js_program.specs.PlainProgram.{PlainProgram}
use Rattle.js_meaning.specs.Bodies.{Origin}
use Rattle.bp_log.specs.Options.{PlainOptions}
use Rattle.bp_run.specs.Bodies.{Statement}
use Rattle.bp_run.specs.Configuration.{Thread, Configuration}
use Rattle.bp_thread.specs.Views.{plain_statement}
use Rattle.bp_code.specs.Code.{code_of}
use Rattle.bp_floor.specs.Stops.{Stop as Stood, stop_in}
use Rattle.bp_arbiter.specs.Arbiters.{PlainArbiter, Recounts, options_in}
use Rattle.bp_explain.specs.declared.stops.Stop.{Stop}
use Rattle.bp_explain.specs.Explained.{words_of}
use Rattle.bp_explain.specs.States.{rest_text}

-- a live b-thread at a `bp.sync`
pub record PlainStop : Type 0 where
  pub number : ℕ
  pub name : List ℕ
  pub line : ℕ
  pub statement : Statement PlainSet

abbrev pub plain_stop : Stop → PlainStop
plain_stop s = record {
  number = s.number;
  name = s.name.now;
  line = s.line;
  statement = plain_statement s.statement.now;
}

abbrev pub stop_of : ℕ → List ℕ → Stood → PlainStop
stop_of n name p = record { number = n; name = name; line = p.0; statement = p.1 }

abbrev pub stop_at : PlainProgram → PlainOptions → ℕ → Thread Origin → Option PlainStop
stop_at program o n t = option_map (stop_of n t.name) (stop_in program o (Some t))

-- those that stand, from this number on
abbrev pub stops_from : PlainProgram → PlainOptions → ℕ → List (Thread Origin) → List PlainStop
stops_from program o n [] = []
stops_from program o n (t ∷ ts) = cons_option (stop_at program o n t) (stops_from program o (suc n) ts)

-- what was written is the state of the story to which the records lead, and that is no verdict
abbrev pub RestsAs : PlainArbiter → List ℕ → List ℕ → Type 0
RestsAs a before after =
    let program = a.floor.base.program in
    (c : Configuration Origin) → Recounts a c →
    (c.stand.verdict ≡ None)
    × (after ≡ before
    ++ rest_text (code_of program (options_in a)) (words_of program (options_in a)) c)
