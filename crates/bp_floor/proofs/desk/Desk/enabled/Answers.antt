use Rattle.std.proofs.Common.{◌≡◌, ◌-◌, ◌<◌, ◌^◌, ℕ, length, take, sym, subst, arith, Ok}
use Rattle.std.specs.Prelude.{All, true, IfSome}
use Rattle.std.proofs.lemmas.Result.{err_from_is_err_and}
use Rattle.js_data.specs.Event.{PlainEvent}
use Rattle.js_frames.specs.Places.{plain_ground}
use Rattle.bp_meaning.specs.Membership.{member}
use Rattle.bp_run.specs.Selecting.{Enabled, blocked, selectable}
use Rattle.bp_select.specs.Answers.{FaultAs, enabled_of}
use Rattle.bp_floor.specs.inner.Desks.{PlainDesk, Fits}
use Rattle.bp_floor.proofs.Behind.{enabled_answers, enabled_fault, enabled_within}
use Rattle.bp_floor.proofs.Settled.{settled_blocked, settled_low, rest_is, rest_length}
use Rattle.bp_floor.proofs.desk.Desk.enabled.Goals as goal

pub enabled_behind-requires : goal.enabled_behind-requires
enabled_behind-requires c =
    let q = c.self.inside.queue in
    let n = c.blocked-left_out.result in
    let has = member (plain_ground c.args.ground.now) c.args.budget in
    let r = rest_is n c.as_slice.result.now q c.as_slice.ensures in
    let d : PlainDesk = record { bench = c.self.inside.bench; queue = q; front = c.self.inside.front } in
    let low = settled_low (plain_ground c.args.ground.now) c.args.budget d c.settle.new.self c.settle.ensures.same c.self.invariant in
    let is = c.blocked-left_out.ensures in
    let few : length q < 2 ^ 32 = subst (λ (x : PlainDesk). length x.queue < 2 ^ 32) (sym c.self.view_is) c.requires.few in
    let within = enabled_within has c.self.inside.bench.live _ (enabled_of c.in_ok-enabled.enabled) c.in_ok-enabled.ensures.enabled in
    (length q - n, subst (λ (k : ℕ). IfSome c.in_ok-enabled.enabled.outer (λ place. place < k)) (rest_length n _ q r) within, omega (arith, low, is, few))

pub returns-in_err-enabled-clause-enabled : goal.returns-in_err-enabled-clause-enabled
returns-in_err-enabled-clause-enabled c =
    let base = plain_ground c.args.ground.now in
    let p = err_from_is_err_and c.from_residual.result c.from_residual.ensures.1 in
    let has = member base c.args.budget in
    let d : PlainDesk = record { bench = c.self.inside.bench; queue = c.self.inside.queue; front = c.self.inside.front } in
    let fits = subst (λ (x : PlainDesk). Fits x base c.args.budget) (sym c.self.view_is) c.requires.fits in
    let n = c.blocked-left_out.result in
    let front : All (λ (e : PlainEvent). blocked has d.bench.live e ≡ Ok true) (take n d.queue) = subst (λ (k : ℕ). All (λ (e : PlainEvent). blocked has d.bench.live e ≡ Ok true) (take k d.queue)) (sym c.blocked-left_out.ensures)
    (settled_blocked base c.args.budget d c.settle.new.self c.settle.ensures.none c.settle.ensures.same fits) in
    rw (p.1, p.2)
    (subst (λ (x : PlainDesk). FaultAs (selectable has x.bench.live x.queue) c.in_err-enabled.field-0.0) c.self.view_is
    (enabled_fault has d.bench.live n d.queue _ c.in_err-enabled.field-0.0 (rest_is n c.as_slice.result.now d.queue c.as_slice.ensures) front c.in_err-enabled.ensures.enabled))

pub returns-clause-enabled : goal.returns-clause-enabled
returns-clause-enabled c =
    let base = plain_ground c.args.ground.now in
    let has = member base c.args.budget in
    let d : PlainDesk = record { bench = c.self.inside.bench; queue = c.self.inside.queue; front = c.self.inside.front } in
    let fits = subst (λ (x : PlainDesk). Fits x base c.args.budget) (sym c.self.view_is) c.requires.fits in
    let n = c.blocked-left_out.result in
    let front : All (λ (e : PlainEvent). blocked has d.bench.live e ≡ Ok true) (take n d.queue) = subst (λ (k : ℕ). All (λ (e : PlainEvent). blocked has d.bench.live e ≡ Ok true) (take k d.queue)) (sym c.blocked-left_out.ensures)
    (settled_blocked base c.args.budget d c.settle.new.self c.settle.ensures.none c.settle.ensures.same fits) in
    subst (λ (x : PlainDesk). selectable has x.bench.live x.queue ≡ Ok (enabled_of c.enabled_behind.result)) c.self.view_is
    (subst (λ (x : Enabled). selectable has d.bench.live d.queue ≡ Ok x) (sym c.enabled_behind.ensures)
    (enabled_answers has d.bench.live n d.queue _ (enabled_of c.in_ok-enabled.enabled) (rest_is n c.as_slice.result.now d.queue c.as_slice.ensures) front c.in_ok-enabled.ensures.enabled))
