use Rattle.std.proofs.Common.{◌<◌, Ok, sym, ap, ◌∙◌, arith}
use Rattle.std.specs.Prelude.{slice_get}
use Rattle.js_frames.specs.Places.{Place, plain_ground, place_of, setting_at}
use Rattle.js_frames.specs.Frames.{rest, resume}
use Rattle.js_frames.specs.declared.frame.Frame.TheVariants.{Waiting}
use Rattle.js_frames.specs.declared.frame.Part.TheVariants.{Statements}
use Rattle.js_frames.proofs.Steps.{left, means_ok, waits_still}
use Rattle.js_frames.proofs.CallLemmas.{next_statement, no_statement}
use Rattle.js_frames.proofs.AlongLemmas.{along_first, along_next, along_leads, along_fits}
use Rattle.js_frames.proofs.engine.Engine.go_on.Goals as goal

pub loop-statement-init : goal.loop-statement-init
loop-statement-init c = along_first (plain_ground c.args.base.now) (place_of c.args.self.now) c.args.sequence c.args.place

pub state_at_once-requires : goal.state_at_once-requires
state_at_once-requires c = c.statements_of.ensures.nodes c.loop-statement.at c.in-Some.statement (ap (λ ns. slice_get ns c.loop-statement.at) (sym c.statements_of.ensures.statements) ∙ sym c.in-Some.ensures.value)

pub loop-statement-preserved : goal.loop-statement-preserved
loop-statement-preserved c =
    along_next (plain_ground c.args.base.now) (place_of c.args.self.now) c.args.sequence c.args.place (place_of c.loop-statement.self) c.loop-statement.at c.loop-statement.invariant c.in-Some.statement (place_of c.state_at_once.new.self) (ap (λ ns. slice_get ns c.loop-statement.at) (sym c.statements_of.ensures.statements) ∙ sym c.in-Some.ensures.value) (c.state_at_once.ensures.done c.if-not-state_at_once.false)

pub loop-statement-smaller : goal.loop-statement-smaller
loop-statement-smaller c =
    let v = c.state_at_once.ensures.done c.if-not-state_at_once.false in
    let mid : Place = place_of c.loop-statement.self in
    let next : Place = place_of c.state_at_once.new.self in
    let less : next.fuel < mid.fuel = v.less in
    omega arith

pub returns-then-not-state_at_once : goal.returns-then-not-state_at_once
unfolding resume rest
returns-then-not-state_at_once c =
    let base = plain_ground c.args.base.now in
    let mid = place_of c.loop-statement.self in
    let get = ap (λ ns. slice_get ns c.loop-statement.at) (sym c.statements_of.ensures.statements) ∙ sym c.in-Some.ensures.value in
    along_leads (plain_ground c.args.base.now) (place_of c.args.self.now) c.args.sequence c.args.place (place_of c.loop-statement.self) c.loop-statement.at c.loop-statement.invariant (place_of c.wait.new.self) c.wait.result
    (means_ok base _ _ _ _ c.wait.result
    (waits_still base mid (place_of c.state_at_once.new.self) _ (Waiting (Statements c.args.sequence _)) c.in-Some.statement c.wait.result (along_fits (plain_ground c.args.base.now) (place_of c.args.self.now) c.args.sequence c.args.place (place_of c.loop-statement.self) c.loop-statement.at c.loop-statement.invariant c.requires.fits) (c.state_at_once.ensures.none c.if-not-state_at_once.true) c.wait.ensures c.requires.sequence (c.statements_of.ensures.nodes c.loop-statement.at c.in-Some.statement get))
    (λ s. next_statement (setting_at base mid) c.args.sequence c.loop-statement.at c.in-Some.statement s get))

pub returns : goal.returns
returns c =
    let base = plain_ground c.args.base.now in
    let mid = place_of c.loop-statement.self in
    let none = ap (λ ns. slice_get ns c.loop-statement.at) (sym c.statements_of.ensures.statements) ∙ sym c.in_default.ensures.value in
    along_leads (plain_ground c.args.base.now) (place_of c.args.self.now) c.args.sequence c.args.place (place_of c.loop-statement.self) c.loop-statement.at c.loop-statement.invariant mid (Ok c.leave.result)
    (left base mid _ _ c.leave.ensures (along_fits (plain_ground c.args.base.now) (place_of c.args.self.now) c.args.sequence c.args.place (place_of c.loop-statement.self) c.loop-statement.at c.loop-statement.invariant c.requires.fits)
    (λ s. no_statement (setting_at base mid) c.args.sequence c.loop-statement.at s none))
