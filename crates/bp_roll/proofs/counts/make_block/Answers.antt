use Rattle.std.proofs.Common.{◌≡◌, ◌∷◌, ◌++◌, arith, rules, [], List, ℕ, length, subst, sym}
use Rattle.std.proofs.lemmas.List.{length_push}
use Rattle.bp_roll.specs.Counting.{AreSums}
use Rattle.bp_roll.proofs.CountLemmas.{block_more, count_more, has_room}
use Rattle.bp_roll.proofs.counts.make_block.Goals as goal

pub returns-in_ok-push-clause-room : goal.returns-in_ok-push-clause-room
returns-in_ok-push-clause-room c =
    let sums = c.args.sums.now.items in
    let items = c.args.items.now in
    let more : c.push.new.self.items ≡ sums ++ 0 ∷ [] = search rules in
    let l = length_push sums 0 in
    let a = c.requires.all in
    subst (λ (xs : List ℕ). AreSums xs (items ++ 0 ∷ [])) (sym more)
    (count_more (sums ++ 0 ∷ []) items (omega (arith, l, a)) (block_more sums items c.requires))

pub returns-else-items-len-clause-room : goal.returns-else-items-len-clause-room
returns-else-items-len-clause-room c =
    count_more c.args.sums.now.items c.args.items.now (has_room (length c.args.items.now) (length c.args.sums.now.items) (omega (arith, c.if-items-len.false, c.len.ensures))) c.requires
