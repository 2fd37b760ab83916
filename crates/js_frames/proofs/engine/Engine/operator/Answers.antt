use Rattle.std.proofs.Common.{sym, ap}
use Rattle.js_frames.specs.Places.{plain_ground, place_of, here}
use Rattle.js_frames.specs.inner.Leads.{operand_frame, waits_for}
use Rattle.js_frames.proofs.Steps.{wait_leads, means_ok}
use Rattle.js_frames.proofs.BeginLemmas.{operand_other}
use Rattle.js_frames.proofs.engine.Engine.operator.Goals as goal

pub returns-in-Or : goal.returns-in-Or
returns-in-Or c =
    let g = here c.args.base.now c.args.self.now in
    wait_leads (plain_ground c.args.base.now) (place_of c.args.self.now) _ _ c.wait.result _ _ c.requires.fits c.wait.ensures c.requires.right c.requires.left
    (λ s. ap (λ o. waits_for g (operand_frame o c.args.right c.args.number) c.args.left s) (sym c.in-Or.is))

pub returns-in-And : goal.returns-in-And
returns-in-And c =
    let g = here c.args.base.now c.args.self.now in
    wait_leads (plain_ground c.args.base.now) (place_of c.args.self.now) _ _ c.wait-in-And.result _ _ c.requires.fits c.wait-in-And.ensures c.requires.right c.requires.left
    (λ s. ap (λ o. waits_for g (operand_frame o c.args.right c.args.number) c.args.left s) (sym c.in-And.is))

pub returns-in_default : goal.returns-in_default
returns-in_default c =
    let g = here c.args.base.now c.args.self.now in
    means_ok (plain_ground c.args.base.now) _ _ _ _ c.begin_first.result c.begin_first.ensures
    (λ s. ap (λ f. waits_for g f c.args.left s) (operand_other c.args.operator c.args.right c.args.number c.in_default.not-Or c.in_default.not-And))
