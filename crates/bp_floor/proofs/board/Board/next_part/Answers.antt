use Rattle.std.proofs.Common.{◌∙◌, List, map, sym, ap, subst}
use Rattle.std.specs.Vec.Iter.{into_iter_items}
use Rattle.std.proofs.lemmas.Result.{IfOk-weaker}
use Rattle.js_frames.specs.Places.{plain_ground}
use Rattle.js_meaning.specs.State.{Effect}
use Rattle.js_meaning.specs.Bodies.{Origin}
use Rattle.bp_meaning.specs.After.{effect_of}
use Rattle.bp_run.specs.Bodies as run
use Rattle.bp_thread.specs.declared.job.Job.{Job}
use Rattle.bp_floor.specs.inner.Entries.{entry_seen}
use Rattle.bp_floor.specs.inner.Parts.{part_seen}
use Rattle.bp_floor.specs.Returns.{Puts}
use Rattle.bp_floor.proofs.Lists.{nothing_to_come}
use Rattle.bp_floor.proofs.ReturnLemmas.{puts_nothing, puts_none_left}
use Rattle.bp_floor.proofs.board.Board.next_part.Goals as goal

pub returns-then-not-has_body-clause-puts : goal.returns-then-not-has_body-clause-puts
returns-then-not-has_body-clause-puts c =
    puts_nothing (entry_seen c.args.entry.now) (into_iter_items c.args.jobs.now) (plain_ground c.args.ground.now) c.args.self.now _ (sym c.has_body.ensures ∙ c.if-not-has_body.true)
    (ap (λ (es : List Effect). let p : run.Part Origin (Unit {0}) = record { effects = map effect_of es; outcome = run.Outcome.Ended } in p) c.new.ensures)

pub returns-in-None-clause-puts : goal.returns-in-None-clause-puts
returns-in-None-clause-puts c =
    puts_none_left (entry_seen c.args.entry.now) (into_iter_items c.args.jobs.now) (into_iter_items c.next.new.self) (plain_ground c.args.ground.now) c.args.self.now _
    (nothing_to_come c.args.jobs.now c.in-None.ensures.cases.0) (nothing_to_come c.next.new.self c.in-None.ensures.cases.1) (sym c.has_body.ensures ∙ c.if-not-has_body.false)

pub returns-in-Some-clause-puts : goal.returns-in-Some-clause-puts
returns-in-Some-clause-puts c =
    IfOk-weaker c.back.result _ _
    (λ p h. subst (λ (js : List Job). Puts (entry_seen c.args.entry.now) js (plain_ground c.args.ground.now) c.args.self.now (into_iter_items c.next.new.self) (plain_ground c.back.new.ground) c.back.new.self (part_seen p))
    (sym c.in-Some.ensures.items) (h (into_iter_items c.next.new.self))) c.back.ensures.puts
