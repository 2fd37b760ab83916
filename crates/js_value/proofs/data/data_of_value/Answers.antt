use Rattle.std.proofs.Common.{◌≡◌, Option, Result, Ok, Err, IfOk, option_map}
use Rattle.js_data.specs.Event.{IsSortedExtra}
use Rattle.js_data.specs.Views.{plain_data}
use Rattle.js_data.specs.declared.data.Data.{Data}
use Rattle.js_value.specs.Value.{PlainValue, IsSortedValue}
use Rattle.js_value.specs.DataValues.{value_data}
use Rattle.js_value.specs.Views.{plain_value}
use Rattle.js_value.proofs.Sorted.{sorted_extra}
use Rattle.js_value.proofs.data.data_of_value.Goals as goal

sorted_answer : {E : Type 0} (r : Result (Option Data) E) (x : PlainValue) → IsSortedValue x → IfOk r (λ o. option_map plain_data o ≡ value_data x) → IfOk r (λ o. IsSortedExtra (option_map plain_data o))
sorted_answer (Ok o) x h is = sorted_extra x (option_map plain_data o) h is
sorted_answer (Err e) x h is = tt

pub returns-clause-sorted : goal.returns-clause-sorted
returns-clause-sorted c = sorted_answer c.data_of.result (plain_value c.args.v.now) c.keeps.ensures c.data_of.ensures
