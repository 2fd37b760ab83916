use Rattle.std.proofs.Common.{◌∙◌, ℕ, sym, ap, Err}
use Rattle.std.specs.Vec.Iter.{into_iter_items}
use Rattle.bp_floor.proofs.Lists.{nothing_to_come}
use Rattle.bp_core.proofs.Playing.{playing_begin, playing_next, playing_end, playing_refused, playing_cut, broken_cuts, playing_same, playing_first, keeps_on, playing_stays_not, playing_stays_end}
use Rattle.bp_core.specs.declared.play_fault.PlayFault.TheVariants as fault
use Rattle.bp_core.proofs.stepping.Core.play.Goals as goal

pub loop-step-init : goal.loop-step-init
loop-step-init c = record {
  playing = playing_begin c.args.self.now c.args.steps.items (into_iter_items c.into_iter-step-iterator.result) c.into_iter-step-iterator.ensures.into_iter_gives.0 c.requires.somewhere c.requires.inside;
}

pub loop-step-preserved : goal.loop-step-preserved
loop-step-preserved c = record {
  playing = playing_next c.args.self.now c.loop-step.self c.make.new.self c.args.steps.items (into_iter_items c.loop-step.step-iterator) (into_iter_items c.next.new.self) c.in-Some.step c.loop-step.at
      c.loop-step.invariant.playing c.in-Some.ensures.steps.0 c.if-self.false c.in-Ok.ensures.leads c.make.ensures.kept c.make.ensures.inside;
}

pub returns-then-not-is_legal-clause-ends : goal.returns-then-not-is_legal-clause-ends
returns-then-not-is_legal-clause-ends c =
    playing_refused c.args.self.now c.loop-step.self c.args.steps.items (into_iter_items c.loop-step.step-iterator) (into_iter_items c.next.new.self) c.in-Some.step c.loop-step.at
    c.loop-step.invariant.playing c.in-Some.ensures.steps.0 (sym c.is_legal.ensures ∙ c.if-not-is_legal.true)

pub returns-then-self-clause-ends : goal.returns-then-self-clause-ends
returns-then-self-clause-ends c =
    playing_cut c.args.self.now c.loop-step.self c.loop-step.self c.args.steps.items (into_iter_items c.loop-step.step-iterator) (into_iter_items c.next.new.self) c.in-Some.step c.loop-step.at
    c.loop-step.invariant.playing c.in-Some.ensures.steps.0 (broken_cuts c.loop-step.self c.in-Some.step c.if-self.true) c.if-self.true

pub returns-clause-played : goal.returns-clause-played
returns-clause-played c =
    playing_end c.args.self.now c.loop-step.self c.args.steps.items (into_iter_items c.loop-step.step-iterator) c.loop-step.at c.loop-step.invariant.playing (nothing_to_come c.loop-step.step-iterator c.in-None.ensures.steps.0)

pub returns-in-Err-clause-ends : goal.returns-in-Err-clause-ends
returns-in-Err-clause-ends c =
    playing_cut c.args.self.now c.loop-step.self c.make.new.self c.args.steps.items (into_iter_items c.loop-step.step-iterator) (into_iter_items c.next.new.self) c.in-Some.step c.loop-step.at
    c.loop-step.invariant.playing c.in-Some.ensures.steps.0 c.in-Err.ensures.cut c.in-Err.ensures.broken

pub returns-then-self-clause-stays : goal.returns-then-self-clause-stays
returns-then-self-clause-stays c = λ b l. ap (λ (n : ℕ). Err (fault.Memory n)) (playing_first c.args.self.now c.loop-step.self c.args.steps.items (into_iter_items c.loop-step.step-iterator) c.loop-step.at c.loop-step.invariant.playing b)

pub returns-then-not-is_legal-clause-stays : goal.returns-then-not-is_legal-clause-stays
returns-then-not-is_legal-clause-stays c = λ b l.
    playing_stays_not c.args.self.now c.loop-step.self c.args.steps.items (into_iter_items c.loop-step.step-iterator) c.loop-step.at _ c.loop-step.invariant.playing c.if-self.false b

pub returns-in-Err-clause-stays : goal.returns-in-Err-clause-stays
returns-in-Err-clause-stays c = λ b l.
    playing_stays_not c.args.self.now c.loop-step.self c.args.steps.items (into_iter_items c.loop-step.step-iterator) c.loop-step.at _ c.loop-step.invariant.playing c.if-self.false b

pub returns-clause-stays : goal.returns-clause-stays
returns-clause-stays c = λ b l.
    playing_stays_end c.args.self.now c.loop-step.self c.args.steps.items (into_iter_items c.loop-step.step-iterator) c.loop-step.at _ c.loop-step.invariant.playing (nothing_to_come c.loop-step.step-iterator c.in-None.ensures.steps.0) b l

pub returns-then-self-clause-same : goal.returns-then-self-clause-same
returns-then-self-clause-same c = λ b. playing_same c.args.self.now c.loop-step.self c.args.steps.items (into_iter_items c.loop-step.step-iterator) c.loop-step.at c.loop-step.invariant.playing b

pub returns-then-not-is_legal-clause-same : goal.returns-then-not-is_legal-clause-same
returns-then-not-is_legal-clause-same c = λ b. playing_same c.args.self.now c.loop-step.self c.args.steps.items (into_iter_items c.loop-step.step-iterator) c.loop-step.at c.loop-step.invariant.playing b

pub returns-in-Err-clause-same : goal.returns-in-Err-clause-same
returns-in-Err-clause-same c = λ b.
    playing_stays_not c.args.self.now c.loop-step.self c.args.steps.items (into_iter_items c.loop-step.step-iterator) c.loop-step.at _ c.loop-step.invariant.playing c.if-self.false b

pub returns-clause-same : goal.returns-clause-same
returns-clause-same c = λ b. playing_same c.args.self.now c.loop-step.self c.args.steps.items (into_iter_items c.loop-step.step-iterator) c.loop-step.at c.loop-step.invariant.playing b

pub returns-then-self-clause-kept : goal.returns-then-self-clause-kept
returns-then-self-clause-kept c = c.loop-step.invariant.playing.kept

pub returns-then-not-is_legal-clause-kept : goal.returns-then-not-is_legal-clause-kept
returns-then-not-is_legal-clause-kept c = c.loop-step.invariant.playing.kept

pub returns-in-Err-clause-kept : goal.returns-in-Err-clause-kept
returns-in-Err-clause-kept c = keeps_on c.args.self.now.arbiter c.loop-step.self.arbiter c.make.new.self.arbiter c.loop-step.invariant.playing.kept c.make.ensures.kept

pub returns-clause-kept : goal.returns-clause-kept
returns-clause-kept c = c.loop-step.invariant.playing.kept
