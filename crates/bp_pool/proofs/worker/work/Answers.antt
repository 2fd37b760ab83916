use Rattle.std.proofs.Common.{rules, ◌≡◌, ◌∙◌, ap, sym, subst, ◌++◌, ◌∷◌, [], arith}
use Rattle.js_meaning.specs.State.{Ground}
use Rattle.bp_pool.specs.Seats.{Turned, IsOpen}
use Rattle.bp_pool.proofs.Moves.{pop_step, keeps_done, push_step}
use Rattle.bp_pool.proofs.worker.work.Goals as goal

pub pop_as-requires-clause-rule : goal.pop_as-requires-clause-rule
pop_as-requires-clause-rule g c = pop_step _ _ _ (let e = c.loop-pops.invariant.2 in omega arith)

pub turn-requires-clause-can_turn : goal.turn-requires-clause-can_turn
turn-requires-clause-can_turn g c = subst (λ (b : Ground). IsOpen b c.in-Some-pop_as.seat) (sym c.requires.base) c.in-Some-pop_as.ensures.rule.1.can

pub push_as-requires-clause-rule : goal.push_as-requires-clause-rule
push_as-requires-clause-rule g c =
    let turned = subst (λ (b : Ground). Turned b c.in-Some-pop_as.seat c.turn.new.seat) c.requires.base c.turn.ensures.turned in
    let opens = subst (λ (b : Ground). IsOpen b c.turn.new.seat) c.requires.base (c.turn.ensures.open (search rules)) in
    let took = c.in-Some-pop_as.ensures.rule in
    push_step _ _ _ _ _ _ _ (let e = c.loop-pops.invariant.2 in omega arith) (c.turn.ensures.view ∙ took.0, took.1) turned opens

pub loop-pops-preserved : goal.loop-pops-preserved
loop-pops-preserved g c =
    let took = c.in-Some-pop_as.ensures.rule in
    let same = c.turn.ensures.view ∙ took.0 in
    let turned = subst (λ (b : Ground). Turned b c.in-Some-pop_as.seat c.turn.new.seat) c.requires.base c.turn.ensures.turned in
    let more : c.push_reserved.new.self.items ≡ c.loop-pops.seats.items ++ c.turn.new.seat ∷ [] = search rules in (
      search rules,
      ap (λ v. v.lent) same ∙ c.loop-pops.invariant.1,
      ap (λ v. v.parts) same ∙ c.loop-pops.invariant.2,
      keeps_done _ _ _ _ _ _ _ _ c.loop-pops.invariant.1 c.loop-pops.invariant.3 (same, took.1) turned (c.turn.ensures.done (search rules)) more,
    )
