use Rattle.bp_session.proofs.scoped.fn.in_scope.scope+FnOnce.call_once.Goals as goal

pub scope-requires : goal.scope-requires
scope-requires g c =
    let asked = c.requires.1.1.1 in
    let bounds = asked.1.1.1.1 in
    (bounds.0, (bounds.1, (asked.0, (asked.1.0, (asked.1.1.0, asked.1.1.1.0)))))
