use Rattle.std.proofs.Common.{◌≡◌, ◌-◌, ◌<◌, ◌∙◌, ◌^◌, ℕ, length, take, drop, ap, sym, subst, arith, Ok}
use Rattle.std.specs.Prelude.{All, true}
use Rattle.std.proofs.lemmas.Result.{err_from_is_err_and}
use Rattle.js_data.specs.Event.{PlainEvent}
use Rattle.js_frames.specs.Places.{plain_ground}
use Rattle.bp_draw.specs.Words.{draw_word}
use Rattle.bp_meaning.specs.Membership.{member}
use Rattle.bp_run.specs.Selecting.{blocked}
use Rattle.bp_run.specs.Choosing.{choice}
use Rattle.bp_select.specs.declared.answers.Choice.{Choice}
use Rattle.bp_select.specs.Answers.{FaultAs, IsWithin, chosen_of}
use Rattle.bp_floor.specs.inner.Desks.{PlainDesk, Fits}
use Rattle.bp_floor.proofs.Behind.{chosen_answers, chosen_fault}
use Rattle.bp_floor.proofs.Settled.{settled_blocked, settled_low, rest_is, rest_length, fits_learned}
use Rattle.bp_floor.proofs.desk.Desk.choose.Goals as goal

pub learn-requires-clause-within : goal.learn-requires-clause-within
learn-requires-clause-within c =
    let r = rest_is c.blocked-left_out.result c.as_slice.result.now c.self.inside.queue c.as_slice.ensures in
    subst (λ (n : ℕ). IsWithin n c.in_ok-choice.choice) (rest_length c.blocked-left_out.result _ c.self.inside.queue r ∙ ap (λ (n : ℕ). length c.self.inside.queue - n) c.blocked-left_out.ensures) c.in_ok-choice.ensures.within

pub behind-requires : goal.behind-requires
behind-requires c =
    let q = c.self.inside.queue in
    let n = c.blocked-left_out.result in
    let r = rest_is n c.as_slice.result.now q c.as_slice.ensures in
    let d : PlainDesk = record { bench = c.self.inside.bench; queue = q; front = c.self.inside.front } in
    let low = settled_low (plain_ground c.args.ground.now) c.args.budget d c.settle.new.self c.settle.ensures.same c.self.invariant in
    let is = c.blocked-left_out.ensures in
    let few : length q < 2 ^ 32 = subst (λ (x : PlainDesk). length x.queue < 2 ^ 32) (sym c.self.view_is) c.requires.few in
    (length q - n, subst (λ (k : ℕ). IsWithin k c.in_ok-choice.choice) (rest_length n _ q r) c.in_ok-choice.ensures.within, omega (arith, low, is, few))

pub returns-in_err-choice-clause-chosen : goal.returns-in_err-choice-clause-chosen
returns-in_err-choice-clause-chosen c =
    let base = plain_ground c.args.ground.now in
    let p = err_from_is_err_and c.from_residual.result c.from_residual.ensures.1 in
    let has = member base c.args.budget in
    let word = draw_word c.args.draw.now.seed in
    let d : PlainDesk = record { bench = c.self.inside.bench; queue = c.self.inside.queue; front = c.self.inside.front } in
    let fits = subst (λ (x : PlainDesk). Fits x base c.args.budget) (sym c.self.view_is) c.requires.fits in
    let n = c.blocked-left_out.result in
    let front : All (λ (e : PlainEvent). blocked has d.bench.live e ≡ Ok true) (take n d.queue) = subst (λ (k : ℕ). All (λ (e : PlainEvent). blocked has d.bench.live e ≡ Ok true) (take k d.queue)) (sym c.blocked-left_out.ensures)
    (settled_blocked base c.args.budget d c.settle.new.self c.settle.ensures.none c.settle.ensures.same fits) in
    rw (p.1, p.2)
    (subst (λ (x : PlainDesk). FaultAs (choice has word c.args.strategy x.bench.live x.queue c.args.draw.now.drawn) c.in_err-choice.field-0.0) c.self.view_is
    (chosen_fault has word c.args.strategy d.bench.live n c.args.draw.now.drawn d.queue _ c.in_err-choice.field-0.0 (rest_is n c.as_slice.result.now d.queue c.as_slice.ensures) front c.in_err-choice.ensures.chosen))

pub returns-clause-chosen : goal.returns-clause-chosen
returns-clause-chosen c =
    let base = plain_ground c.args.ground.now in
    let has = member base c.args.budget in
    let word = draw_word c.args.draw.now.seed in
    let d : PlainDesk = record { bench = c.self.inside.bench; queue = c.self.inside.queue; front = c.self.inside.front } in
    let fits = subst (λ (x : PlainDesk). Fits x base c.args.budget) (sym c.self.view_is) c.requires.fits in
    let n = c.blocked-left_out.result in
    let drawn = c.choose.new.draw.drawn in
    let front : All (λ (e : PlainEvent). blocked has d.bench.live e ≡ Ok true) (take n d.queue) = subst (λ (k : ℕ). All (λ (e : PlainEvent). blocked has d.bench.live e ≡ Ok true) (take k d.queue)) (sym c.blocked-left_out.ensures)
    (settled_blocked base c.args.budget d c.settle.new.self c.settle.ensures.none c.settle.ensures.same fits) in
    subst (λ (x : PlainDesk). choice has word c.args.strategy x.bench.live x.queue c.args.draw.now.drawn ≡ Ok (chosen_of x.queue drawn c.behind.result)) c.self.view_is
    (subst (λ (x : Choice). choice has word c.args.strategy d.bench.live d.queue c.args.draw.now.drawn ≡ Ok (chosen_of d.queue drawn x)) (sym c.behind.ensures)
    (chosen_answers has word c.args.strategy d.bench.live n c.args.draw.now.drawn drawn d.queue _ c.in_ok-choice.choice (rest_is n c.as_slice.result.now d.queue c.as_slice.ensures) front c.in_ok-choice.ensures.chosen))

pub returns-clause-fits : goal.returns-clause-fits
returns-clause-fits c =
    let base = plain_ground c.args.ground.now in
    let word = draw_word c.args.draw.now.seed in
    let d : PlainDesk = record { bench = c.self.inside.bench; queue = c.self.inside.queue; front = c.self.inside.front } in
    let fits = subst (λ (x : PlainDesk). Fits x base c.args.budget) (sym c.self.view_is) c.requires.fits in
    let n = c.blocked-left_out.result in
    let r = rest_is n c.as_slice.result.now d.queue c.as_slice.ensures ∙ ap (λ (k : ℕ). drop k d.queue) c.blocked-left_out.ensures in
    let low = settled_low (plain_ground c.args.ground.now) c.args.budget d c.settle.new.self c.settle.ensures.same c.self.invariant in
    subst (λ (x : PlainDesk). Fits x base c.args.budget) (sym c.learn.ensures)
    (fits_learned base c.args.budget word c.args.strategy d c.choose.new.self c.settle.new.self _ c.args.draw.now.drawn c.choose.new.draw.drawn c.in_ok-choice.choice c.choose.ensures.same c.choose.ensures.fits c.settle.ensures.none
    c.settle.ensures.same low r c.in_ok-choice.ensures.within c.in_ok-choice.ensures.chosen fits)
