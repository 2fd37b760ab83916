use Rattle.std.proofs.Common.{◌∙◌, ◌<◌, ℕ, ap, refl, subst}
use Rattle.std.specs.Prelude.{Vec}
use Rattle.std.specs.declared.alloc.Global.{Global}
use Rattle.bp_explain.specs.declared.stops.Stop.{Stop}
use Rattle.bp_answers.proofs.Rests.{stops_on, stops_past}
use Rattle.bp_answers.proofs.resting.stops.Goals.{in-Some+in_ok-push-in-Some, in-None}
use Rattle.bp_answers.proofs.resting.stops.Goals as goal

pub loop-number-preserved : goal.loop-number-preserved
loop-number-preserved c =
    let f = c.args.floor.now in
    let all = f.pair.stand.threads in
    let n = c.loop-number.number in
    let less = subst (λ (k : ℕ). n < k) c.count-number-end.ensures c.loop-number-test.true in
    elim c.match-stopped.branch [
      | in-Some+in_ok-push-in-Some w ↦
          stops_on f.base.program f.options all n c.loop-number.stops.items c.match-stopped.stops.items _ _ less (ap (λ (v : Vec Stop Global). v.items) w.stops-is ∙ w.in_ok-push-in-Some.ensures.items) w.in-Some.ensures w.name_of.ensures refl c.loop-number.invariant
      | in-None w ↦
          rw w.stops-is (stops_past f.base.program f.options all n c.loop-number.stops.items _ less w.in-None.ensures c.loop-number.invariant)
    ]
