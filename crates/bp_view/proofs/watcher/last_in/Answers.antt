use Rattle.std.proofs.Common.{◌≡◌, IfSome, ◌∙◌, subst, refl}
use Rattle.bp_view.proofs.Looks.{last_is}
use Rattle.bp_view.proofs.watcher.last_in.Goals as goal

pub returns-in-Some : goal.returns-in-Some
returns-in-Some c = subst (λ o. IfSome o (λ s. s ≡ c.in-Some.summary.now)) (c.in-Some.ensures.value ∙ last_is c.args.list.now) refl

pub returns-in-None : goal.returns-in-None
returns-in-None c = subst (λ o. IfSome o (λ s. s ≡ c.args.last)) (c.in-None.ensures.value ∙ last_is c.args.list.now) tt
