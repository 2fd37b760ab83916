use Rattle.std.proofs.Common.{◌∙◌, List, ap, map, refl}
use Rattle.std.specs.Borrow.{Bor}
use Rattle.std.proofs.lemmas.List.{map_push}
use Rattle.bp_live.specs.declared.stated.Stated.{Stated}
use Rattle.bp_live.specs.Lives.{lent}
use Rattle.bp_select.proofs.picking.keep.Goals as goal

pub returns-then-not-keeps : goal.returns-then-not-keeps
returns-then-not-keeps c = rw c.if-not-keeps.true refl

pub returns : goal.returns
returns c = rw c.if-not-keeps.false (ap (λ (xs : List (Bor Stated)). map lent xs) c.in_ok-push.ensures.items ∙ map_push lent c.args.kept.now.items _)
