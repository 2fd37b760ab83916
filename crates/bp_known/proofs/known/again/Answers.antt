use Rattle.std.proofs.Common.{◌≡◌, Option, IfOk, option_map, sym, subst}
use Rattle.std.specs.Borrow.{Bor}
use Rattle.js_value.specs.declared.value.EventSet.{EventSet}
use Rattle.js_frames.specs.Places.{plain_ground}
use Rattle.bp_meaning.specs.Membership.{member}
use Rattle.bp_known.specs.Known.{known_again}
use Rattle.bp_known.proofs.known.again.Goals as goal

pub returns-else-matches : goal.returns-else-matches
returns-else-matches c =
    let base = plain_ground c.args.ground.now in
    subst (λ (o : Option (Bor EventSet)). IfOk c.with_set.result (λ k. k ≡ known_again base c.args.budget c.args.number (option_map (λ x. x.now) o) c.args.told.now.event c.args.told.now.known)) (sym c.in-Some.is)
    (c.with_set.ensures (member base c.args.budget c.in-Some.set.now c.args.told.now.event) c.contains_as-answer.ensures.tells)

pub contains_as-answer-requires : goal.contains_as-answer-requires
contains_as-answer-requires c = c.forget.ensures (plain_ground c.args.ground.now) c.args.budget c.args.told.now.event
