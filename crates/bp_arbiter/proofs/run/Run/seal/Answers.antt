use Rattle.std.proofs.Common.{◌∙◌, ap, sym, Some, option_map}
use Rattle.bp_draw.specs.Draws.{PlainDraw}
use Rattle.bp_arbiter.proofs.SealLemmas.{turned_ended}
use Rattle.bp_arbiter.proofs.run.Run.seal.Goals as goal

pub returns-in_ok-end-clause-turned : goal.returns-in_ok-end-clause-turned
returns-in_ok-end-clause-turned c =
    let e = c.in_ok-end.ensures.ended in
    turned_ended c.args.self.now c.end.new.self c.args.jobs.items c.seal.new.self c.reserve.new.self.items c.in_ok-verdict.verdict c.in_ok-phase.ensures.sealed c.in_ok-phase.ensures.stands
    (sym c.verdict.ensures ∙ ap (λ o. option_map (λ v. v.now) o) c.in-Some.is ∙ ap Some (sym c.in_ok-verdict.ensures)) (c.in_ok-phase.ensures.memory).after e.floor c.reserve.ensures.items e.records
    (ap (λ (d : PlainDraw). d.drawn) c.end.ensures.draw)
