use Rattle.std.proofs.Common.{Some, sym, ap, ◌∙◌}
use Rattle.js_value.specs.Views.{plain_value}
use Rattle.std.specs.Prelude.{option_map, slice_set}
use Rattle.js_frames.specs.Places.{place_of}
use Rattle.js_frames.proofs.engine.Engine.put_constant.Goals as goal

pub returns-in-Some : goal.returns-in-Some
returns-in-Some c =
    let m = place_of c.args.self.now in
    ap (λ cs. record m { constants = Some cs }) c.set.ensures
    ∙ ap (λ o. record m { constants = option_map (λ cs. slice_set cs c.args.number (Some (plain_value c.args.value))) o }) (sym c.in-Some.is)
