use Rattle.js_names.proofs.Taking.{own_of_declaration, own_on_ok}
use Rattle.js_names.proofs.declare.declare_own_stmt.Goals as goal

pub returns-in-Declaration : goal.returns-in-Declaration
returns-in-Declaration c =
    own_on_ok c.declare_own_declarators.result c.args.map.now c.declare_own_declarators.new.map _ _
    (own_of_declaration c.args.owner c.args.direct c.args.stmt.now c.in-Declaration.kind c.in-Declaration.declarators c.deref.result.now c.in-Declaration.is c.deref.ensures.value)
    c.declare_own_declarators.ensures
