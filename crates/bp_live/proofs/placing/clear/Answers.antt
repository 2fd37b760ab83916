use Rattle.std.proofs.Common.{◌∙◌, List, ap, arith, sym, rules, slice_get}
use Rattle.std.proofs.lemmas.Fn.{filter_same}
use Rattle.bp_live.specs.declared.stated.Stated.{Stated}
use Rattle.bp_live.specs.Lists.{is_gap}
use Rattle.bp_live.proofs.Leaving.{gap_within, one_gap}
use Rattle.bp_live.proofs.placing.clear.Goals as goal

pub remove-left-requires : goal.remove-left-requires
remove-left-requires c =
    let within = gap_within c.args.items.now.items c.args.left (sym (c.is_gap.ensures ∙ ap (λ (xs : List Stated). is_gap (slice_get xs c.args.left)) c.as_slice.ensures.value) ∙ c.if-is_gap.true) in
    let len = c.args.items.now.ok.0 in
    omega (arith, within, len)

pub returns-then-is_gap : goal.returns-then-is_gap
returns-then-is_gap c =
    c.remove-left.ensures.items
    ∙ one_gap c.args.items.now.items c.args.left (sym (c.is_gap.ensures ∙ ap (λ (xs : List Stated). is_gap (slice_get xs c.args.left)) c.as_slice.ensures.value) ∙ c.if-is_gap.true)
    (sym c.requires.gone ∙ c.if-gone-eq1.true)

pub returns-else-gone-eq1 : goal.returns-else-gone-eq1
returns-else-gone-eq1 c = filter_same _ (λ (s : Stated). s.here) _ (λ x b f' t. search rules) _ _ c.retain.ensures.filtered
