use Rattle.std.proofs.Common.{ℕ, List, map, subst, sym}
use Rattle.js_value.specs.Value.{PlainSet}
use Rattle.js_frames.specs.Places.{plain_ground}
use Rattle.bp_select.specs.Blocks.{AreOf}
use Rattle.bp_known.specs.Known.{AreKnown, sets_in}
use Rattle.bp_live.specs.Lives.{lent}
use Rattle.bp_select.proofs.block_sets.Blocks.first_unblocked.Goals as goal

pub is_blocked-requires-clause-sets : goal.is_blocked-requires-clause-sets
is_blocked-requires-clause-sets c = subst (λ (es : List (ℕ × PlainSet)). AreOf (map lent c.args.blocking.now) (sets_in es)) (sym c.loop-place.invariant.sets) c.requires.sets

pub is_blocked-requires-clause-known : goal.is_blocked-requires-clause-known
is_blocked-requires-clause-known c =
    subst (λ (es : List (ℕ × PlainSet)). AreKnown (plain_ground c.args.ground.now) c.args.budget (sets_in es) c.loop-place.self.told) (sym c.loop-place.invariant.sets) c.loop-place.invariant.known
