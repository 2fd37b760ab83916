use Rattle.std.specs.Prelude.{option_copied}
use Rattle.js_names.specs.Taken.{keeps}
use Rattle.js_names.proofs.Taking.{vars_on_ok, vars_of_head}
use Rattle.js_names.proofs.declare.declare_start_vars.Goals as goal

pub returns-in-Declares : goal.returns-in-Declares
returns-in-Declares c =
    vars_on_ok (keeps (option_copied c.args.own)) c.declare_var_declarators.result c.args.map.now c.declare_var_declarators.new.map _ _
    (vars_of_head c.args.owner c.args.start.now c.in-Declares.field-0 c.in-Declares.kind c.in-Declares.declarators c.deref.result.now c.in-Declares.is c.deref.ensures.value)
    c.declare_var_declarators.ensures
