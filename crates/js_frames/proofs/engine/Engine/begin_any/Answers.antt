-- What each node does that has begun.
use Rattle.std.proofs.Common.{[], refl, sym, ap, ◌∙◌, subst}
use Rattle.js_frames.specs.Places.{plain_ground, place_of, here}
use Rattle.js_frames.specs.Fits.{AreNodes, IsShort, IsDeclaration, LoopFits}
use Rattle.js_meaning.specs.Variables.{undeclare}
use Rattle.js_program.specs.PlainProgram.{parts_of}
use Rattle.js_program.specs.Views.{plain_node_form}
use Rattle.js_frames.specs.declared.frame.Sequence.TheVariants.{Block}
use Rattle.js_frames.specs.Frames.{rest, resume, loop, starts_loop, sequence_from}
use Rattle.js_frames.specs.inner.Leads.{operand_frame}
use Rattle.js_frames.proofs.Steps.{begin_means, begin_waits, begin_gives, part_is, has_form, becomes_ok}
use Rattle.js_frames.proofs.BeginLemmas.{wait_for, long_begins, short_begins, operand_begins, operand_fits, block_begins, declaration_begins, for_parts}
use Rattle.js_frames.proofs.engine.Engine.begin_any.Goals as goal

pub returns-in-Number : goal.returns-in-Number
returns-in-Number c = begin_gives (plain_ground c.args.base.now) (place_of c.args.self.now) c.args.number c.node_of-node.result.now c.node_of-node.ensures.node _ c.in-Number.is _ _ c.give.ensures c.requires.fits (λ s. refl)

pub returns-in-Truth : goal.returns-in-Truth
returns-in-Truth c = begin_gives (plain_ground c.args.base.now) (place_of c.args.self.now) c.args.number c.node_of-node.result.now c.node_of-node.ensures.node _ c.in-Truth.is _ _ c.give-in-Truth.ensures c.requires.fits (λ s. refl)

pub returns-in-Null : goal.returns-in-Null
returns-in-Null c = begin_gives (plain_ground c.args.base.now) (place_of c.args.self.now) c.args.number c.node_of-node.result.now c.node_of-node.ensures.node _ c.in-Null.is _ _ c.give-in-Null.ensures c.requires.fits (λ s. refl)

pub returns-in-Undefined : goal.returns-in-Undefined
returns-in-Undefined c = begin_gives (plain_ground c.args.base.now) (place_of c.args.self.now) c.args.number c.node_of-node.result.now c.node_of-node.ensures.node _ c.in-Undefined.is _ _ c.give-in-Undefined.ensures c.requires.fits (λ s. refl)

pub returns-in-Break : goal.returns-in-Break
returns-in-Break c = begin_gives (plain_ground c.args.base.now) (place_of c.args.self.now) c.args.number c.node_of-node.result.now c.node_of-node.ensures.node _ c.in-Break.is _ _ refl c.requires.fits (λ s. refl)

pub returns-in-Continue : goal.returns-in-Continue
returns-in-Continue c = begin_gives (plain_ground c.args.base.now) (place_of c.args.self.now) c.args.number c.node_of-node.result.now c.node_of-node.ensures.node _ c.in-Continue.is _ _ refl c.requires.fits (λ s. refl)

pub returns-in-ReturnNothing : goal.returns-in-ReturnNothing
returns-in-ReturnNothing c = begin_gives (plain_ground c.args.base.now) (place_of c.args.self.now) c.args.number c.node_of-node.result.now c.node_of-node.ensures.node _ c.in-ReturnNothing.is _ _ refl c.requires.fits (λ s. refl)

pub returns-in-Empty : goal.returns-in-Empty
returns-in-Empty c = begin_gives (plain_ground c.args.base.now) (place_of c.args.self.now) c.args.number c.node_of-node.result.now c.node_of-node.ensures.node _ c.in-Empty.is _ _ c.leave.ensures c.requires.fits (λ s. refl)

pub returns-in-Text : goal.returns-in-Text
returns-in-Text c = begin_means (plain_ground c.args.base.now) (place_of c.args.self.now) c.args.number c.node_of-node.result.now c.node_of-node.ensures.node _ c.in-Text.is _ c.literal.result _ (becomes_ok (plain_ground c.args.base.now) (place_of c.args.self.now) _ _ c.literal.result c.requires.fits c.literal.ensures (λ s. refl)) (λ s. refl)

pub returns-in-Read : goal.returns-in-Read
returns-in-Read c = begin_means (plain_ground c.args.base.now) (place_of c.args.self.now) c.args.number c.node_of-node.result.now c.node_of-node.ensures.node _ c.in-Read.is _ c.read.result _ c.read.ensures (λ s. refl)

pub returns-in-Update : goal.returns-in-Update
returns-in-Update c = begin_means (plain_ground c.args.base.now) (place_of c.args.self.now) c.args.number c.node_of-node.result.now c.node_of-node.ensures.node _ c.in-Update.is _ c.update.result _ c.update.ensures (λ s. refl)

pub returns-in-Function : goal.returns-in-Function
returns-in-Function c = begin_means (plain_ground c.args.base.now) (place_of c.args.self.now) c.args.number c.node_of-node.result.now c.node_of-node.ensures.node _ c.in-Function.is _ c.function.result _ c.function.ensures (λ s. refl)

pub returns-in-Assign : goal.returns-in-Assign
returns-in-Assign c = begin_means (plain_ground c.args.base.now) (place_of c.args.self.now) c.args.number c.node_of-node.result.now c.node_of-node.ensures.node _ c.in-Assign.is _ c.assign.result _ c.assign.ensures (λ s. refl)

pub returns-in-ForOf : goal.returns-in-ForOf
returns-in-ForOf c = begin_means (plain_ground c.args.base.now) (place_of c.args.self.now) c.args.number c.node_of-node.result.now c.node_of-node.ensures.node _ c.in-ForOf.is _ c.for_of.result _ c.for_of.ensures (λ s. refl)

pub returns-in-List : goal.returns-in-List
returns-in-List c = begin_means (plain_ground c.args.base.now) (place_of c.args.self.now) c.args.number c.node_of-node.result.now c.node_of-node.ensures.node _ c.in-List.is _ c.begin_making.result _ c.begin_making.ensures (λ s. long_begins (here c.args.base.now c.args.self.now) c.args.number c.node_of-node.result.now c.node_of-node.ensures.node _ c.in-List.is s [] refl tt)

pub returns-in-Fields : goal.returns-in-Fields
returns-in-Fields c = begin_means (plain_ground c.args.base.now) (place_of c.args.self.now) c.args.number c.node_of-node.result.now c.node_of-node.ensures.node _ c.in-Fields.is _ c.begin_making-in-Fields.result _ c.begin_making-in-Fields.ensures (λ s. long_begins (here c.args.base.now c.args.self.now) c.args.number c.node_of-node.result.now c.node_of-node.ensures.node _ c.in-Fields.is s [] refl tt)

pub returns-in-Call : goal.returns-in-Call
returns-in-Call c = begin_means (plain_ground c.args.base.now) (place_of c.args.self.now) c.args.number c.node_of-node.result.now c.node_of-node.ensures.node _ c.in-Call.is _ c.begin_parts.result _ c.begin_parts.ensures (λ s. long_begins (here c.args.base.now c.args.self.now) c.args.number c.node_of-node.result.now c.node_of-node.ensures.node _ c.in-Call.is s [] refl tt)

pub returns-in-Method : goal.returns-in-Method
returns-in-Method c = begin_means (plain_ground c.args.base.now) (place_of c.args.self.now) c.args.number c.node_of-node.result.now c.node_of-node.ensures.node _ c.in-Method.is _ c.begin_parts-in-Method.result _ c.begin_parts-in-Method.ensures (λ s. long_begins (here c.args.base.now c.args.self.now) c.args.number c.node_of-node.result.now c.node_of-node.ensures.node _ c.in-Method.is s [] refl tt)

pub returns-in-Builtin : goal.returns-in-Builtin
returns-in-Builtin c = begin_means (plain_ground c.args.base.now) (place_of c.args.self.now) c.args.number c.node_of-node.result.now c.node_of-node.ensures.node _ c.in-Builtin.is _ c.begin_parts-in-Builtin.result _ c.begin_parts-in-Builtin.ensures (λ s. long_begins (here c.args.base.now c.args.self.now) c.args.number c.node_of-node.result.now c.node_of-node.ensures.node _ c.in-Builtin.is s [] refl tt)

pub returns-in-FloorDivide : goal.returns-in-FloorDivide
returns-in-FloorDivide c = begin_means (plain_ground c.args.base.now) (place_of c.args.self.now) c.args.number c.node_of-node.result.now c.node_of-node.ensures.node _ c.in-FloorDivide.is _ c.begin_parts-in-FloorDivide.result _ c.begin_parts-in-FloorDivide.ensures (λ s. long_begins (here c.args.base.now c.args.self.now) c.args.number c.node_of-node.result.now c.node_of-node.ensures.node _ c.in-FloorDivide.is s [] refl tt)

pub returns-in-Member : goal.returns-in-Member
returns-in-Member c = begin_waits (plain_ground c.args.base.now) (place_of c.args.self.now) c.args.number c.node_of-node.result.now c.node_of-node.ensures.node _ c.in-Member.is _ c.wait.result _ _ c.requires.fits c.wait.ensures (c.requires.number, has_form (plain_ground c.args.base.now) (place_of c.args.self.now) c.args.number c.node_of-node.result.now c.node_of-node.ensures.node _ c.in-Member.is IsShort tt) (part_is (plain_ground c.args.base.now) (place_of c.args.self.now) c.args.number c.node_of-node.result.now c.node_of-node.ensures.node _ c.in-Member.is c.node_of-node.ensures.parts 0 _ refl) (λ s. short_begins (here c.args.base.now c.args.self.now) c.args.number c.node_of-node.result.now c.node_of-node.ensures.node _ c.in-Member.is s _ tt refl)

pub returns-in-Index : goal.returns-in-Index
returns-in-Index c = begin_waits (plain_ground c.args.base.now) (place_of c.args.self.now) c.args.number c.node_of-node.result.now c.node_of-node.ensures.node _ c.in-Index.is _ c.wait-in-Index.result _ _ c.requires.fits c.wait-in-Index.ensures (c.requires.number, has_form (plain_ground c.args.base.now) (place_of c.args.self.now) c.args.number c.node_of-node.result.now c.node_of-node.ensures.node _ c.in-Index.is IsShort tt) (part_is (plain_ground c.args.base.now) (place_of c.args.self.now) c.args.number c.node_of-node.result.now c.node_of-node.ensures.node _ c.in-Index.is c.node_of-node.ensures.parts 0 _ refl) (λ s. short_begins (here c.args.base.now c.args.self.now) c.args.number c.node_of-node.result.now c.node_of-node.ensures.node _ c.in-Index.is s _ tt refl)

pub returns-in-Unary : goal.returns-in-Unary
returns-in-Unary c = begin_waits (plain_ground c.args.base.now) (place_of c.args.self.now) c.args.number c.node_of-node.result.now c.node_of-node.ensures.node _ c.in-Unary.is _ c.wait-in-Unary.result _ _ c.requires.fits c.wait-in-Unary.ensures (c.requires.number, has_form (plain_ground c.args.base.now) (place_of c.args.self.now) c.args.number c.node_of-node.result.now c.node_of-node.ensures.node _ c.in-Unary.is IsShort tt) (part_is (plain_ground c.args.base.now) (place_of c.args.self.now) c.args.number c.node_of-node.result.now c.node_of-node.ensures.node _ c.in-Unary.is c.node_of-node.ensures.parts 0 _ refl) (λ s. short_begins (here c.args.base.now c.args.self.now) c.args.number c.node_of-node.result.now c.node_of-node.ensures.node _ c.in-Unary.is s _ tt refl)

pub returns-in-Conditional : goal.returns-in-Conditional
unfolding resume rest
returns-in-Conditional c = begin_means (plain_ground c.args.base.now) (place_of c.args.self.now) c.args.number c.node_of-node.result.now c.node_of-node.ensures.node _ c.in-Conditional.is _ c.begin_choice.result _ c.begin_choice.ensures (λ s. refl)

pub begin_choice-requires-clause-part : goal.begin_choice-requires-clause-part
begin_choice-requires-clause-part c = part_is (plain_ground c.args.base.now) (place_of c.args.self.now) c.args.number c.node_of-node.result.now c.node_of-node.ensures.node _ c.in-Conditional.is c.node_of-node.ensures.parts 0 _ refl

pub begin_choice-requires-clause-yes : goal.begin_choice-requires-clause-yes
begin_choice-requires-clause-yes c = part_is (plain_ground c.args.base.now) (place_of c.args.self.now) c.args.number c.node_of-node.result.now c.node_of-node.ensures.node _ c.in-Conditional.is c.node_of-node.ensures.parts 1 _ refl

pub begin_choice-requires-clause-no : goal.begin_choice-requires-clause-no
begin_choice-requires-clause-no c = part_is (plain_ground c.args.base.now) (place_of c.args.self.now) c.args.number c.node_of-node.result.now c.node_of-node.ensures.node _ c.in-Conditional.is c.node_of-node.ensures.parts 2 _ refl

pub returns-in-IfElse : goal.returns-in-IfElse
unfolding resume rest
returns-in-IfElse c = begin_means (plain_ground c.args.base.now) (place_of c.args.self.now) c.args.number c.node_of-node.result.now c.node_of-node.ensures.node _ c.in-IfElse.is _ c.begin_choice-in-IfElse.result _ c.begin_choice-in-IfElse.ensures (λ s. refl)

pub begin_choice-requires-in-IfElse-clause-part : goal.begin_choice-requires-in-IfElse-clause-part
begin_choice-requires-in-IfElse-clause-part c = part_is (plain_ground c.args.base.now) (place_of c.args.self.now) c.args.number c.node_of-node.result.now c.node_of-node.ensures.node _ c.in-IfElse.is c.node_of-node.ensures.parts 0 _ refl

pub begin_choice-requires-in-IfElse-clause-yes : goal.begin_choice-requires-in-IfElse-clause-yes
begin_choice-requires-in-IfElse-clause-yes c = part_is (plain_ground c.args.base.now) (place_of c.args.self.now) c.args.number c.node_of-node.result.now c.node_of-node.ensures.node _ c.in-IfElse.is c.node_of-node.ensures.parts 1 _ refl

pub begin_choice-requires-in-IfElse-clause-no : goal.begin_choice-requires-in-IfElse-clause-no
begin_choice-requires-in-IfElse-clause-no c = part_is (plain_ground c.args.base.now) (place_of c.args.self.now) c.args.number c.node_of-node.result.now c.node_of-node.ensures.node _ c.in-IfElse.is c.node_of-node.ensures.parts 2 _ refl

pub returns-in-Expression : goal.returns-in-Expression
unfolding resume rest
returns-in-Expression c = begin_waits (plain_ground c.args.base.now) (place_of c.args.self.now) c.args.number c.node_of-node.result.now c.node_of-node.ensures.node _ c.in-Expression.is _ c.wait-in-Expression.result _ _ c.requires.fits c.wait-in-Expression.ensures tt (part_is (plain_ground c.args.base.now) (place_of c.args.self.now) c.args.number c.node_of-node.result.now c.node_of-node.ensures.node _ c.in-Expression.is c.node_of-node.ensures.parts 0 _ refl) (λ s. refl)

pub returns-in-Return : goal.returns-in-Return
unfolding resume rest
returns-in-Return c = begin_means (plain_ground c.args.base.now) (place_of c.args.self.now) c.args.number c.node_of-node.result.now c.node_of-node.ensures.node _ c.in-Return.is _ c.begin_returned.result _ c.begin_returned.ensures (λ s. refl)

pub begin_returned-requires-clause-part : goal.begin_returned-requires-clause-part
begin_returned-requires-clause-part c = part_is (plain_ground c.args.base.now) (place_of c.args.self.now) c.args.number c.node_of-node.result.now c.node_of-node.ensures.node _ c.in-Return.is c.node_of-node.ensures.parts 0 _ refl

pub returns-in-If : goal.returns-in-If
unfolding resume rest
returns-in-If c = begin_means (plain_ground c.args.base.now) (place_of c.args.self.now) c.args.number c.node_of-node.result.now c.node_of-node.ensures.node _ c.in-If.is _ c.begin_when.result _ c.begin_when.ensures (λ s. refl)

pub begin_when-requires-clause-part : goal.begin_when-requires-clause-part
begin_when-requires-clause-part c = part_is (plain_ground c.args.base.now) (place_of c.args.self.now) c.args.number c.node_of-node.result.now c.node_of-node.ensures.node _ c.in-If.is c.node_of-node.ensures.parts 0 _ refl

pub begin_when-requires-clause-body : goal.begin_when-requires-clause-body
begin_when-requires-clause-body c = part_is (plain_ground c.args.base.now) (place_of c.args.self.now) c.args.number c.node_of-node.result.now c.node_of-node.ensures.node _ c.in-If.is c.node_of-node.ensures.parts 1 _ refl

pub returns-in-Binary : goal.returns-in-Binary
returns-in-Binary c = begin_waits (plain_ground c.args.base.now) (place_of c.args.self.now) c.args.number c.node_of-node.result.now c.node_of-node.ensures.node _ c.in-Binary.is _ c.wait-in-Binary.result (operand_frame c.in-Binary.operator c.in-Binary.right c.args.number) _ c.requires.fits (wait_for _ _ _ _ _ _ c.operand.ensures c.wait-in-Binary.ensures) (operand_fits (let p = c.args.base.now in p.program) c.in-Binary.operator c.in-Binary.right c.args.number c.requires.number (part_is (plain_ground c.args.base.now) (place_of c.args.self.now) c.args.number c.node_of-node.result.now c.node_of-node.ensures.node _ c.in-Binary.is c.node_of-node.ensures.parts 1 _ refl) (has_form (plain_ground c.args.base.now) (place_of c.args.self.now) c.args.number c.node_of-node.result.now c.node_of-node.ensures.node _ c.in-Binary.is IsShort tt)) (part_is (plain_ground c.args.base.now) (place_of c.args.self.now) c.args.number c.node_of-node.result.now c.node_of-node.ensures.node _ c.in-Binary.is c.node_of-node.ensures.parts 0 _ refl) (λ s. operand_begins (here c.args.base.now c.args.self.now) c.args.number c.node_of-node.result.now c.node_of-node.ensures.node _ _ s c.in-Binary.operator c.in-Binary.is)

pub assign-requires-clause-part : goal.assign-requires-clause-part
assign-requires-clause-part c = part_is (plain_ground c.args.base.now) (place_of c.args.self.now) c.args.number c.node_of-node.result.now c.node_of-node.ensures.node _ c.in-Assign.is c.node_of-node.ensures.parts 0 _ refl

pub returns-in-Block : goal.returns-in-Block
returns-in-Block c = begin_means (plain_ground c.args.base.now) (place_of c.args.self.now) c.args.number c.node_of-node.result.now c.node_of-node.ensures.node _ c.in-Block.is _ c.block.result _ c.block.ensures (λ s. ap (λ ks. sequence_from (here c.args.base.now c.args.self.now) (Block c.args.number) 0 (undeclare ks s)) c.deref.ensures.value ∙ block_begins (here c.args.base.now c.args.self.now) c.args.number c.node_of-node.result.now c.node_of-node.ensures.node _ _ c.in-Block.is s)

pub returns-in-Declaration : goal.returns-in-Declaration
returns-in-Declaration c = begin_means (plain_ground c.args.base.now) (place_of c.args.self.now) c.args.number c.node_of-node.result.now c.node_of-node.ensures.node _ c.in-Declaration.is _ c.go_on_declaring.result _ c.go_on_declaring.ensures (λ s. declaration_begins (here c.args.base.now c.args.self.now) c.args.number c.node_of-node.result.now c.node_of-node.ensures.node _ _ c.in-Declaration.is s)

pub go_on_declaring-requires-clause-form : goal.go_on_declaring-requires-clause-form
go_on_declaring-requires-clause-form c = has_form (plain_ground c.args.base.now) (place_of c.args.self.now) c.args.number c.node_of-node.result.now c.node_of-node.ensures.node _ c.in-Declaration.is IsDeclaration tt

pub for_of-requires-clause-list : goal.for_of-requires-clause-list
for_of-requires-clause-list c = part_is (plain_ground c.args.base.now) (place_of c.args.self.now) c.args.number c.node_of-node.result.now c.node_of-node.ensures.node _ c.in-ForOf.is c.node_of-node.ensures.parts 0 _ refl

pub for_of-requires-clause-body : goal.for_of-requires-clause-body
for_of-requires-clause-body c = part_is (plain_ground c.args.base.now) (place_of c.args.self.now) c.args.number c.node_of-node.result.now c.node_of-node.ensures.node _ c.in-ForOf.is c.node_of-node.ensures.parts 1 _ refl

pub returns-in-While : goal.returns-in-While
returns-in-While c = begin_means (plain_ground c.args.base.now) (place_of c.args.self.now) c.args.number c.node_of-node.result.now c.node_of-node.ensures.node _ c.in-While.is _ c.test.result _ c.test.ensures (λ s. ap (λ t. loop (here c.args.base.now c.args.self.now) t s) c.cycle.ensures)

pub test-requires-clause-cycle : goal.test-requires-clause-cycle
test-requires-clause-cycle c = subst (LoopFits (let p = c.args.base.now in p.program)) (sym c.cycle.ensures) (record { test = part_is (plain_ground c.args.base.now) (place_of c.args.self.now) c.args.number c.node_of-node.result.now c.node_of-node.ensures.node _ c.in-While.is c.node_of-node.ensures.parts 0 _ refl; body = part_is (plain_ground c.args.base.now) (place_of c.args.self.now) c.args.number c.node_of-node.result.now c.node_of-node.ensures.node _ c.in-While.is c.node_of-node.ensures.parts 1 _ refl; next = tt })

pub returns-in-ForThree : goal.returns-in-ForThree
returns-in-ForThree c = begin_means (plain_ground c.args.base.now) (place_of c.args.self.now) c.args.number c.node_of-node.result.now c.node_of-node.ensures.node _ c.in-ForThree.is _ c.start_loop.result _ c.start_loop.ensures (λ s. ap (λ ks. starts_loop (here c.args.base.now c.args.self.now) ks c.in-ForThree.first c.cycle-in-ForThree.result s) c.deref-in-ForThree.ensures.value ∙ ap (λ t. starts_loop (here c.args.base.now c.args.self.now) (let v = c.in-ForThree.slots in v.items) c.in-ForThree.first t s) c.cycle-in-ForThree.ensures)

pub start_loop-requires-clause-first : goal.start_loop-requires-clause-first
start_loop-requires-clause-first c = (for_parts (let p = c.args.base.now in p.program) c.in-ForThree.first c.in-ForThree.test c.in-ForThree.next c.in-ForThree.body (subst (λ f. AreNodes (let p = c.args.base.now in p.program) (parts_of (plain_node_form f))) c.in-ForThree.is c.node_of-node.ensures.parts)).0

pub start_loop-requires-clause-cycle : goal.start_loop-requires-clause-cycle
start_loop-requires-clause-cycle c =
    let h = for_parts (let p = c.args.base.now in p.program) c.in-ForThree.first c.in-ForThree.test c.in-ForThree.next c.in-ForThree.body (subst (λ f. AreNodes (let p = c.args.base.now in p.program) (parts_of (plain_node_form f))) c.in-ForThree.is c.node_of-node.ensures.parts) in
    subst (LoopFits (let p = c.args.base.now in p.program)) (sym c.cycle-in-ForThree.ensures) (record { test = h.1; next = h.2; body = h.3 })
