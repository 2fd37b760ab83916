use Rattle.std.proofs.Common.{refl, sym, subst}
use Rattle.js_ops.specs.Answers.{AnswersAs}
use Rattle.js_meaning.specs.Expressions.{writes}
use Rattle.js_frames.specs.Places.{plain_ground, place_of}
use Rattle.js_frames.specs.inner.Leads.{Leads}
use Rattle.js_frames.proofs.SlotLemmas.{written, failed_goes}
use Rattle.js_frames.proofs.engine.Engine.write.Goals as goal

pub returns-in_ok-copied-in-Ok : goal.returns-in_ok-copied-in-Ok
returns-in_ok-copied-in-Ok c = λ a h.
    let base = plain_ground c.args.base.now in
    let old = place_of c.args.self.now in
    subst (Leads base old (writes c.args.line c.args.slot a) (record old { slots = c.set.new.self })) (sym c.give.ensures)
    (written base old c.args.slot c.args.line c.requires c.set.new.self c.in-Ok.value c.in_ok-copied-in-Ok.copied a (subst (AnswersAs a) c.in-Ok.is h) c.in_ok-copied-in-Ok.ensures c.set.ensures)

pub returns-in-Err : goal.returns-in-Err
returns-in-Err c = λ a h.
    failed_goes (plain_ground c.args.base.now) (place_of c.args.self.now) (writes c.args.line c.args.slot) a c.in-Err.fault c.args.line c.failed.result c.requires (subst (AnswersAs a) c.in-Err.is h) c.failed.ensures (λ f s. refl)
