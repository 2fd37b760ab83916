use Rattle.std.proofs.Common.{false, subst, ◌∷◌, []}
use Rattle.std.specs.Prelude.{OnOk}
use Rattle.js_names.specs.Entries.{entry}
use Rattle.js_names.specs.Taken.{TakesOwn}
use Rattle.js_names.proofs.scopes.declare_for_of.Goals as goal

pub returns : goal.returns
returns c =
    subst (λ r. OnOk c.declare_own.result (TakesOwn c.args.own.now c.declare_own.new.map (entry c.args.name.now r c.args.end c.args.owner false 0 ∷ []))) c.for_of_role-role.ensures c.declare_own.ensures
