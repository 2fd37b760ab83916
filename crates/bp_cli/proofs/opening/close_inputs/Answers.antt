use Rattle.std.proofs.Common.{◌∙◌, ◌++◌, List, [], ◌∷◌, append_assoc, ap, sym, arith}
use Rattle.std.specs.Vec.Iter.{into_iter_items}
use Rattle.bp_cli.proofs.Opens.{closed_more}
use Rattle.bp_cli.proofs.opening.close_inputs.Goals as goal

pub loop-input-preserved : goal.loop-input-preserved
loop-input-preserved g c =
    let i = c.loop-input.invariant in
    let step = c.in-Some.ensures.steps.0 in
    let before = i.counts in
    let after = c.close_input.ensures.counts in
    record {
      all = append_assoc c.loop-input.yielded (c.in-Some.input ∷ []) (into_iter_items c.next.new.self) ∙ ap (λ (xs : List _). c.loop-input.yielded ++ xs) (sym step) ∙ i.all;
      risen = closed_more g.W.Input.Source.faults c.loop-input.yielded c.in-Some.input _ _ _ before after i.risen c.close_input.ensures.risen;
      counts = omega (arith, before, after);
      asked = c.close_input.ensures.asked ∙ i.asked;
      holds = c.close_input.ensures.keeps ∙ i.holds;
      writes = c.close_input.ensures.writes ∙ i.writes;
    }
