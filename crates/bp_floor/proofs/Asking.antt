-- A board at rest asks its bench.
use Rattle.std.proofs.Common.{◌≡◌, ℕ, List, sym, ap, ◌∙◌, subst, Result}
use Rattle.js_value.specs.Value.{PlainSet}
use Rattle.js_meaning.specs.State.{Ground}
use Rattle.js_meaning.specs.Bodies.{ground_of}
use Rattle.bp_log.specs.Options.{PlainOptions}
use Rattle.bp_run.specs.Selecting.{Has, Live, Asked, live}
use Rattle.bp_meaning.specs.Membership.{member}
use Rattle.bp_select.specs.declared.answers.SelectFault.{SelectFault}
use Rattle.bp_select.specs.Answers.{AnswersAs}
use Rattle.bp_floor.specs.declared.board.Board.{Board}
use Rattle.bp_code.specs.Code.{sealed_code_of as code_of}
use Rattle.bp_floor.specs.inner.Boards.{stand_of}
use Rattle.bp_floor.specs.inner.Kept.{Running}
use Rattle.bp_floor.specs.inner.Transition.{IsResting}
use Rattle.bp_floor.proofs.Sound.{has_is, bench_live, rest_ground}

-- the sets are asked on the ground of its program
pub has_at_rest : (base : Ground) (o : PlainOptions) (b : Board) (budget : ℕ) → IsResting base o b → budget ≡ o.budget → member base budget ≡ (code_of base.program o).has
has_at_rest base o b budget s h =
    let r : Running = record { program = base.program; options = o } in
    ap (λ (g : Ground). member g budget) (rest_ground r base b s) ∙ ap (λ (n : ℕ). member (ground_of base.program o.budget) n) h ∙ sym (has_is base.program o)

pub live_at_rest : (base : Ground) (o : PlainOptions) (b : Board) → IsResting base o b → b.desk.bench.live ≡ live (code_of base.program o) (stand_of b)
live_at_rest base o b s = bench_live (record { program = base.program; options = o }) base b s

-- what the bench answers is what the definitions say of the board
pub asked_at_rest : {A B : Type 0} (base : Ground) (o : PlainOptions) (b : Board) (budget : ℕ) (view : B → A) (ask : Has PlainSet → List (Live PlainSet) → Asked A) (result : Result B SelectFault) → IsResting base o b → budget ≡ o.budget →
    AnswersAs view (ask (member base budget) b.desk.bench.live) result → AnswersAs view (ask (code_of base.program o).has (live (code_of base.program o) (stand_of b))) result
asked_at_rest base o b budget view ask result s h a =
    subst (λ (ts : List (Live PlainSet)). AnswersAs view (ask (code_of base.program o).has ts) result) (live_at_rest base o b s)
    (subst (λ (has : Has PlainSet). AnswersAs view (ask has b.desk.bench.live) result) (has_at_rest base o b budget s h) a)
