use Rattle.std.proofs.Common.{rules, ◌∙◌, ap, filter, not, nat_eq}
use Rattle.std.proofs.lemmas.Fn.{filter_same}
use Rattle.bp_arbiter.proofs.numbers.Numbers.take_away.Goals as goal

pub returns : goal.returns
returns c = filter_same _ (λ k. not (nat_eq c.args.number k)) _ (λ x b f' t. search rules) _ _ c.retain.ensures.filtered ∙ ap (filter (λ k. not (nat_eq c.args.number k))) c.self.view_is
