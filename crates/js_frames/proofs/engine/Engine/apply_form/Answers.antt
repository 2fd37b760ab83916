use Rattle.js_data.specs.declared.fault.Fault.TheVariants as fault
use Rattle.js_program.specs.Builtins.{has_effect_in}
use Rattle.js_meaning.specs.State.{breaks}
use Rattle.js_meaning.specs.Forms.{takes_effect}
use Rattle.js_frames.specs.Places.{plain_ground, place_of}
use Rattle.js_frames.proofs.Steps.{means_ok, fails_at, if_true, if_false}
use Rattle.js_frames.proofs.engine.Engine.apply_form.Goals as goal

pub returns-then-has_effect_in : goal.returns-then-has_effect_in
returns-then-has_effect_in c = means_ok (plain_ground c.args.base.now) _ _ _ _ c.finish_form.result c.finish_form.ensures
    (λ s. if_true (has_effect_in (let m = c.args.self.now in m.mode) c.args.form) (takes_effect (let m = c.args.self.now in m.budget) c.args.line c.args.form c.args.args) (breaks fault.Mode c.args.line) s c.if-has_effect_in.ensures)

pub returns-else-has_effect_in : goal.returns-else-has_effect_in
returns-else-has_effect_in c = fails_at (plain_ground c.args.base.now) (place_of c.args.self.now) _ fault.Mode c.args.line c.requires
    (λ b. if_false (has_effect_in (let m = c.args.self.now in m.mode) c.args.form) (takes_effect (let m = c.args.self.now in m.budget) c.args.line c.args.form c.args.args) (breaks fault.Mode c.args.line) _ c.if-has_effect_in.ensures)

pub finish_form-requires : goal.finish_form-requires
finish_form-requires c = c.requires
