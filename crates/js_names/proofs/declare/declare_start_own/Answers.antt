use Rattle.js_names.proofs.Taking.{own_on_ok, own_of_head}
use Rattle.js_names.proofs.declare.declare_start_own.Goals as goal

pub returns-in-Declares : goal.returns-in-Declares
returns-in-Declares c =
    own_on_ok c.declare_own_declarators.result c.args.map.now c.declare_own_declarators.new.map _ _
    (own_of_head c.args.owner c.args.start.now c.in-Declares.field-0 c.in-Declares.kind c.in-Declares.declarators c.deref.result.now c.in-Declares.is c.deref.ensures.value)
    c.declare_own_declarators.ensures
