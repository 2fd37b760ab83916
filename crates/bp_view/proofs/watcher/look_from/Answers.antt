use Rattle.std.proofs.Common.{◌∙◌, ap}
use Rattle.bp_view.specs.Growing.{last_of}
use Rattle.bp_view.proofs.Steps.{looks}
use Rattle.bp_view.proofs.Looks.{looked}
use Rattle.bp_view.proofs.watcher.look_from.Goals as goal

pub enter_as-requires : goal.enter_as-requires
enter_as-requires c x = looks _ _ x

pub returns-in-Ok-clause-last : goal.returns-in-Ok-clause-last
returns-in-Ok-clause-last c =
    ap last_of c.leave.ensures.1
    ∙ looked _ _ _ _ c.args.last c.last_in-last.result c.requires.last c.in-Ok.ensures.1 (c.as_slice.ensures ∙ c.get.ensures) c.last_in-last.ensures
