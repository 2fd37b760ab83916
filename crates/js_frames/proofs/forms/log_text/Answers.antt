use Rattle.std.proofs.Common.{sym, ap, ◌∙◌}
use Rattle.std.specs.Prelude.{option_map}
use Rattle.js_data.specs.JsonText.{data_text}
use Rattle.js_value.specs.Views.{plain_value}
use Rattle.js_value.specs.DataValues.{value_data}
use Rattle.js_meaning.specs.Forms.{log_text}
use Rattle.js_frames.proofs.EffectLemmas.{other_text}
use Rattle.js_frames.proofs.BecomesLemmas.{ok_means}
use Rattle.js_frames.proofs.forms.log_text.Goals as goal

pub returns-in-List : goal.returns-in-List
returns-in-List c = ok_means c.json_text.result _ _ (ap (λ x. option_map data_text (value_data (plain_value x))) c.in-List.is ∙ ap (λ x. log_text (plain_value x)) (sym c.in-List.is)) c.json_text.ensures

pub returns-in-Fields : goal.returns-in-Fields
returns-in-Fields c = ok_means c.json_text-in-Fields.result _ _ (ap (λ x. option_map data_text (value_data (plain_value x))) c.in-Fields.is ∙ ap (λ x. log_text (plain_value x)) (sym c.in-Fields.is)) c.json_text-in-Fields.ensures

pub returns-in_default : goal.returns-in_default
returns-in_default c = ok_means c.text_of.result _ _ (other_text c.args.value.now c.in_default.not-Event c.in_default.not-List c.in_default.not-Fields) c.text_of.ensures
