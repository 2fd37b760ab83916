use Rattle.std.proofs.Common.{◌∙◌, nat_lt, rules, sym}
use Rattle.std.proofs.lemmas.List.Sorted.{IsPartitionPoint-from_clause, IsPartitionedBy-ltb}
use Rattle.bp_live.specs.declared.stated.Stated.{Stated}
use Rattle.bp_live.proofs.Numbered.{guessed}
use Rattle.bp_live.proofs.Putting.{order_rises, point_place}
use Rattle.bp_live.proofs.placing.place_of.Goals as goal

pub returns-then-is_at : goal.returns-then-is_at
returns-then-is_at c = guessed c.args.number c.guess_of-guess.result c.args.items.now c.requires (sym c.is_at.ensures ∙ c.if-is_at.true)

pub returns : goal.returns
returns c =
    let parted = IsPartitionedBy-ltb (λ (s : Stated). s.number) c.args.items.now c.args.number (order_rises c.args.items.now c.requires) in
    let point = IsPartitionPoint-from_clause (λ (s : Stated). nat_lt s.number c.args.number) _ _ c.partition_point.ensures.partitioned parted (λ a r q k. search rules) in
    point_place c.args.number c.args.items.now _ c.partition_point.ensures.bound point.0 point.1
