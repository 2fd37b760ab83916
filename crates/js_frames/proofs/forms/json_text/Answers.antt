use Rattle.std.proofs.Common.{subst}
use Rattle.std.specs.Prelude.{option_map}
use Rattle.js_data.specs.Views.{plain_data}
use Rattle.js_data.specs.Event.{IsSortedExtra}
use Rattle.js_frames.proofs.forms.json_text.Goals as goal

pub data_text-requires : goal.data_text-requires
data_text-requires c = subst (λ o. IsSortedExtra (option_map plain_data o)) c.in-Some.is c.in_ok-data_of_value.ensures.sorted
