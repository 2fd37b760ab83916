use Rattle.std.proofs.Common.{rules, ◌≡◌, ◌∙◌, ap, subst, All, Result, Ok, IfOk}
use Rattle.std.proofs.lemmas.List.Elements.{All-head, All-rest}
use Rattle.std.proofs.lemmas.Result.{IfOk-at_ok}
use Rattle.std.specs.declared.alloc.AllocError.{AllocError}
use Rattle.crossbeam_queue.specs.Passes.{view}
use Rattle.bp_pool.specs.declared.worker.Worked.{Worked}
use Rattle.bp_pool.specs.Workers.{IsWork}
use Rattle.bp_pool.proofs.Steps.{merges}
use Rattle.bp_pool.proofs.Moves.{gathered, more_parts}
use Rattle.bp_pool.proofs.queue.gather.Goals as goal

pub absorb-requires-clause-rule : goal.absorb-requires-clause-rule
absorb-requires-clause-rule g c = merges _ _ _ _ _ c.loop-part.invariant.2

pub loop-part-preserved : goal.loop-part-preserved
loop-part-preserved g c =
    let Q = λ (w : Worked). IsWork g.L.Lending.base c.args.queue.now g.L.Lending.lent w in
    let P = λ (r : Result Worked AllocError). IfOk r Q in
    let was = c.loop-part.invariant in
    let step = c.in-Some.ensures.steps in
    let is : c.in-Some.part ≡ Ok c.in_ok-back.back = search rules in
    let mine = IfOk-at_ok Q is (All-head P _ _ (subst (All P) step.0 was.5)) in
    let rule = c.absorb.ensures.rule in
    let parts = more_parts (view c.loop-part.mine) (view c.in_ok-back.back.pass) (view c.absorb.new.pass) _ c.next.new.self.rest.len was.3 mine.part rule (search rules) in (
      search rules,
      ap (λ v. v.lent) rule ∙ was.1,
      parts.0,
      parts.1,
      gathered _ _ _ _ _ _ _ _ was.4 mine.holds rule c.in_ok-append.ensures.items,
      All-rest P _ _ _ step.0 was.5,
    )
