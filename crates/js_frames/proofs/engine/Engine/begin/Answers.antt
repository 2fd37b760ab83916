-- What each node does that has begun.
use Rattle.std.proofs.Common.{refl}
use Rattle.js_frames.specs.Places.{plain_ground, place_of, here}
use Rattle.js_frames.specs.Fits.{IsShort}
use Rattle.js_frames.specs.Frames.{rest, resume}
use Rattle.js_frames.proofs.Steps.{begin_means, begin_gives, part_is, has_form}
use Rattle.js_frames.proofs.BeginLemmas.{operand_begins, short_begins}
use Rattle.js_frames.proofs.engine.Engine.begin.Goals as goal

pub returns-in-Number : goal.returns-in-Number
returns-in-Number c = begin_gives (plain_ground c.args.base.now) (place_of c.args.self.now) c.args.number c.node_of-node.result.now c.node_of-node.ensures.node _ c.in-Number.is _ _ c.give.ensures c.requires.fits (λ s. refl)

pub returns-in-Read : goal.returns-in-Read
returns-in-Read c = begin_means (plain_ground c.args.base.now) (place_of c.args.self.now) c.args.number c.node_of-node.result.now c.node_of-node.ensures.node _ c.in-Read.is _ c.read.result _ c.read.ensures (λ s. refl)

pub returns-in-Assign : goal.returns-in-Assign
returns-in-Assign c = begin_means (plain_ground c.args.base.now) (place_of c.args.self.now) c.args.number c.node_of-node.result.now c.node_of-node.ensures.node _ c.in-Assign.is _ c.assign.result _ c.assign.ensures (λ s. refl)

pub returns-in-Expression : goal.returns-in-Expression
unfolding resume rest
returns-in-Expression c = begin_means (plain_ground c.args.base.now) (place_of c.args.self.now) c.args.number c.node_of-node.result.now c.node_of-node.ensures.node _ c.in-Expression.is _ c.begin_dropped.result _ c.begin_dropped.ensures (λ s. refl)

pub begin_dropped-requires-clause-part : goal.begin_dropped-requires-clause-part
begin_dropped-requires-clause-part c = part_is (plain_ground c.args.base.now) (place_of c.args.self.now) c.args.number c.node_of-node.result.now c.node_of-node.ensures.node _ c.in-Expression.is c.node_of-node.ensures.parts 0 _ refl

pub operator-requires : goal.operator-requires
operator-requires c = record {
  number = c.requires.number;
  form = has_form (plain_ground c.args.base.now) (place_of c.args.self.now) c.args.number c.node_of-node.result.now c.node_of-node.ensures.node _ c.in-Binary.is IsShort tt;
  left = part_is (plain_ground c.args.base.now) (place_of c.args.self.now) c.args.number c.node_of-node.result.now c.node_of-node.ensures.node _ c.in-Binary.is c.node_of-node.ensures.parts 0 _ refl;
  right = part_is (plain_ground c.args.base.now) (place_of c.args.self.now) c.args.number c.node_of-node.result.now c.node_of-node.ensures.node _ c.in-Binary.is c.node_of-node.ensures.parts 1 _ refl;
  fits = c.requires.fits;
}

pub returns-in-Binary : goal.returns-in-Binary
returns-in-Binary c = begin_means (plain_ground c.args.base.now) (place_of c.args.self.now) c.args.number c.node_of-node.result.now c.node_of-node.ensures.node _ c.in-Binary.is _ c.operator.result _ c.operator.ensures (λ s. operand_begins (here c.args.base.now c.args.self.now) c.args.number c.node_of-node.result.now c.node_of-node.ensures.node _ _ s c.in-Binary.operator c.in-Binary.is)

pub begin_first-requires : goal.begin_first-requires
begin_first-requires c = record {
  number = c.requires.number;
  form = has_form (plain_ground c.args.base.now) (place_of c.args.self.now) c.args.number c.node_of-node.result.now c.node_of-node.ensures.node _ c.in-Index.is IsShort tt;
  part = part_is (plain_ground c.args.base.now) (place_of c.args.self.now) c.args.number c.node_of-node.result.now c.node_of-node.ensures.node _ c.in-Index.is c.node_of-node.ensures.parts 0 _ refl;
  fits = c.requires.fits;
}

pub returns-in-Index : goal.returns-in-Index
returns-in-Index c = begin_means (plain_ground c.args.base.now) (place_of c.args.self.now) c.args.number c.node_of-node.result.now c.node_of-node.ensures.node _ c.in-Index.is _ c.begin_first.result _ c.begin_first.ensures (λ s. short_begins (here c.args.base.now c.args.self.now) c.args.number c.node_of-node.result.now c.node_of-node.ensures.node _ c.in-Index.is s c.in-Index.part tt refl)

pub assign-requires-clause-part : goal.assign-requires-clause-part
assign-requires-clause-part c = part_is (plain_ground c.args.base.now) (place_of c.args.self.now) c.args.number c.node_of-node.result.now c.node_of-node.ensures.node _ c.in-Assign.is c.node_of-node.ensures.parts 0 _ refl

pub begin_member-requires-clause-part : goal.begin_member-requires-clause-part
begin_member-requires-clause-part c = part_is (plain_ground c.args.base.now) (place_of c.args.self.now) c.args.number c.node_of-node.result.now c.node_of-node.ensures.node _ c.in-Member.is c.node_of-node.ensures.parts 0 _ refl
