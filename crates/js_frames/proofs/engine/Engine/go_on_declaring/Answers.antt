use Rattle.std.proofs.Common.{◌≡◌, ◌+◌, ℕ, List, Option, map, refl, sym, ap, ◌∙◌, subst, arith}
use Rattle.std.specs.Prelude.{slice_get, IfSome, IfNone, IfOk}
use Rattle.js_program.specs.PlainProgram.{PlainDeclared, parts_of}
use Rattle.js_program.specs.declared.node.Declared.{Declared}
use Rattle.js_program.specs.Views.{plain_node, plain_declared, plain_node_form}
use Rattle.js_value.specs.Views.{plain_value}
use Rattle.js_frames.specs.declared.step.Step.TheVariants.{Begin}
use Rattle.js_frames.specs.declared.frame.Part.TheVariants as part
use Rattle.js_frames.specs.declared.frame.Frame.TheVariants.{Waiting}
use Rattle.js_frames.specs.Places.{plain_ground, place_of, here}
use Rattle.js_frames.specs.Fits.{StackFits, IsDeclaration}
use Rattle.js_frames.specs.inner.Leads.{pushed}
use Rattle.js_frames.specs.inner.Giving.{Gave}
use Rattle.js_frames.proofs.Steps.{left}
use Rattle.js_frames.proofs.BeginLemmas.{form_here, declaration_only}
use Rattle.js_frames.proofs.VariableLemmas.{onward_first, onward_next, onward_put, onward_leads, onward_waits, declaring_over, declared_part}
use Rattle.js_frames.proofs.engine.Engine.go_on_declaring.Goals as goal

get_here : (at : ℕ) {o : Option PlainDeclared} {ds es : List Declared} → ds ≡ es → o ≡ slice_get (map plain_declared ds) at → slice_get (map plain_declared es) at ≡ o
get_here at e g = ap (λ l. slice_get (map plain_declared l) at) (sym e) ∙ sym g

pub node_of-requires : goal.node_of-requires
node_of-requires c = c.requires.number

pub unreachable-unreachable : goal.unreachable-unreachable
unreachable-unreachable c = declaration_only (let n = c.node_of.result.now in n.form) (form_here IsDeclaration (let b = c.args.base.now in b.program) c.args.number c.node_of.result.now c.node_of.ensures.node c.requires.form) c.in_default.not-Declaration

pub loop-declarator-init : goal.loop-declarator-init
loop-declarator-init c = onward_first (plain_ground c.args.base.now) (place_of c.args.self.now) c.args.number c.args.place

pub loop-declarator-preserved-in-None : goal.loop-declarator-preserved-in-None
loop-declarator-preserved-in-None c =
    onward_next (plain_ground c.args.base.now) (place_of c.args.self.now) c.args.number c.args.place (place_of c.loop-declarator.self) (place_of c.declare_without.new.self) c.loop-declarator.at _ (plain_node c.node_of.result.now) c.in-Declaration.kind _ (plain_declared c.in-Some.declarator) c.node_of.ensures.node (ap plain_node_form c.in-Declaration.is) c.loop-declarator.invariant refl (get_here _ c.deref.ensures.value c.in-Some.ensures.value) c.in-None.is c.declare_without.ensures

pub loop-declarator-preserved : goal.loop-declarator-preserved
loop-declarator-preserved c =
    let base = plain_ground c.args.base.now in
    let mid = place_of c.loop-declarator.self in
    let next = place_of c.begin_leaf.new.self in
    onward_put base (place_of c.args.self.now) c.args.number c.args.place mid next (place_of c.put.new.self) c.loop-declarator.at _ (plain_node c.node_of.result.now) c.in-Declaration.kind _ (plain_declared c.in-Some.declarator) c.in-Some-value.part (plain_value c.in-Some-found.value) c.node_of.ensures.node (ap plain_node_form c.in-Declaration.is) c.loop-declarator.invariant refl (get_here _ c.deref.ensures.value c.in-Some.ensures.value) c.in-Some-value.is
    (subst (λ o. IfSome o (λ value. Gave base mid c.in-Some-value.part (plain_value value) next)) c.in-Some-found.is c.in_ok-found-in-Some-value.ensures.some) c.put.ensures

pub loop-declarator-smaller : goal.loop-declarator-smaller
loop-declarator-smaller c = let room = c.in-Some.ensures.room in omega arith

pub begin_leaf-requires : goal.begin_leaf-requires
begin_leaf-requires c =
    let at = declared_part _ c.loop-declarator.at (plain_declared c.in-Some.declarator) c.in-Some-value.part (get_here _ c.deref.ensures.value c.in-Some.ensures.value) c.in-Some-value.is in
    c.node_of.ensures.parts at.0 c.in-Some-value.part (ap (λ f. slice_get (parts_of (plain_node_form f)) at.0) c.in-Declaration.is ∙ at.1)

pub returns-in-None-found : goal.returns-in-None-found
returns-in-None-found c =
    let base = plain_ground c.args.base.now in
    let mid = place_of c.loop-declarator.self in
    let next = place_of c.begin_leaf.new.self in
    let new = place_of c.wait.new.self in
    let frame = Waiting (part.Declared c.args.number (let d = c.in-Some.declarator in d.variable) (c.loop-declarator.at + 1)) in
    let at = declared_part _ c.loop-declarator.at (plain_declared c.in-Some.declarator) c.in-Some-value.part (get_here _ c.deref.ensures.value c.in-Some.ensures.value) c.in-Some-value.is in
    let still = subst (λ o. IfNone o (next ≡ mid)) c.in-None-found.is c.in_ok-found-in-Some-value.ensures.none in
    onward_waits base (place_of c.args.self.now) c.args.number c.args.place mid new c.loop-declarator.at (plain_node c.node_of.result.now) c.in-Declaration.kind _ (plain_declared c.in-Some.declarator) c.in-Some-value.part c.wait.result c.node_of.ensures.node (ap plain_node_form c.in-Declaration.is) c.loop-declarator.invariant (get_here _ c.deref.ensures.value c.in-Some.ensures.value) c.in-Some-value.is c.requires.fits (c.requires.number, c.requires.form)
    (c.node_of.ensures.parts at.0 c.in-Some-value.part (ap (λ f. slice_get (parts_of (plain_node_form f)) at.0) c.in-Declaration.is ∙ at.1))
    (subst (λ q. IfOk c.wait.result (λ step. (step ≡ Begin c.in-Some-value.part) × (new ≡ pushed q frame))) still c.wait.ensures)

pub returns : goal.returns
returns c =
    let base = plain_ground c.args.base.now in
    let old = place_of c.args.self.now in
    let mid = place_of c.loop-declarator.self in
    let h = c.loop-declarator.invariant in
    onward_leads base old c.args.number c.args.place mid mid c.loop-declarator.at _ h
    (left base mid _ _ c.leave.ensures (subst (StackFits (let b = c.args.base.now in b.program)) (sym h.stack_same) c.requires.fits)
    (λ s. declaring_over (here c.args.base.now c.args.self.now) c.args.number c.loop-declarator.at (plain_node c.node_of.result.now) c.in-Declaration.kind _ s c.node_of.ensures.node (ap plain_node_form c.in-Declaration.is) (get_here _ c.deref.ensures.value c.in_default-declarator_at.ensures.value)))
