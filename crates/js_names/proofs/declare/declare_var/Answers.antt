use Rattle.std.proofs.Common.{sym, ◌∙◌, ap}
use Rattle.std.specs.Prelude.{option_copied}
use Rattle.js_names.specs.Taken.{keeps}
use Rattle.js_names.proofs.Taking.{var_inserted, var_passed}
use Rattle.js_names.proofs.declare.declare_var.Goals as goal

pub returns : goal.returns
returns c =
    var_inserted (keeps (option_copied c.args.own)) c.args.map.now c.insert.new.self c.in_ok-from_str.field-0 c.as_str-text.result.now c.args.name.now.text c.merged-merged.result c.args.declared
    c.in_ok-from_str.ensures.ok c.as_str-text.ensures (sym c.if-not-keeps.false ∙ c.keeps.ensures) c.merged-merged.ensures c.in_ok-insert.ensures.updates

pub returns-then-not-keeps : goal.returns-then-not-keeps
returns-then-not-keeps c =
    var_passed (keeps (option_copied c.args.own)) c.args.map.now c.args.name.now.text c.args.declared
    (ap (keeps (option_copied c.args.own)) (sym c.as_str-text.ensures) ∙ (sym c.keeps.ensures ∙ c.if-not-keeps.true))
