use Rattle.std.proofs.Common.{◌∙◌, false, map, ap, subst}
use Rattle.js_frames.specs.Places.{plain_ground}
use Rattle.bp_floor.specs.declared.phase.Phase.TheVariants as phase
use Rattle.bp_floor.specs.Floors.{PlainFloor}
use Rattle.bp_floor.specs.Loans.{AreLent, standing}
use Rattle.bp_floor.specs.inner.Seats.{seated}
use Rattle.bp_floor.proofs.Numbered.{lent_distinct}
use Rattle.bp_floor.proofs.Sealing.{floor_of, run_on, ready_now, can_lend, lent_sound, lent_filled, lent_stands}
use Rattle.bp_floor.proofs.floor.Floor.lend.Goals as goal

pub lend-requires : goal.lend-requires
lend-requires c =
    let f = c.self.inside in
    let base = plain_ground f.ground in
    let r = run_on base f.options in
    let s = ready_now base f.options f.board f.phase f.broken c.args.self.now c.self.view_is c.requires.ready (c.self.invariant c.if-self.false) in
    (r, can_lend r base f.board s)

pub invariant_of-self-2 : goal.invariant_of-self-2
invariant_of-self-2 c = λ _.
    let f = c.self.inside in
    let base = plain_ground f.ground in
    let r = run_on base f.options in
    let s = ready_now base f.options f.board f.phase f.broken c.args.self.now c.self.view_is c.requires.ready (c.self.invariant c.if-self.false) in
    let out = c.in_ok-jobs.ensures r (can_lend r base f.board s) in
    lent_sound r base f.board c.lend.new.self c.in_ok-jobs.jobs.items s out

pub returns-clause-filled : goal.returns-clause-filled
returns-clause-filled c =
    let f = c.self.inside in
    let base = plain_ground f.ground in
    let r = run_on base f.options in
    let s = ready_now base f.options f.board f.phase f.broken c.args.self.now c.self.view_is c.requires.ready (c.self.invariant c.if-self.false) in
    let out = c.in_ok-jobs.ensures r (can_lend r base f.board s) in
    lent_filled r f.board c.lend.new.self c.in_ok-jobs.jobs.items out ∙ ap (λ (x : PlainFloor). x.pair) c.self.view_is

pub returns-clause-lent : goal.returns-clause-lent
returns-clause-lent c =
    let f = c.self.inside in
    let base = plain_ground f.ground in
    let r = run_on base f.options in
    let s = ready_now base f.options f.board f.phase f.broken c.args.self.now c.self.view_is c.requires.ready (c.self.invariant c.if-self.false) in
    let out = c.in_ok-jobs.ensures r (can_lend r base f.board s) in
    subst (λ (x : PlainFloor). AreLent x.base.program x.options (standing x.pair.stand.threads) x.pair.entries c.in_ok-jobs.jobs.items) c.self.view_is out.lent

pub returns-clause-stands : goal.returns-clause-stands
returns-clause-stands c =
    let f = c.self.inside in
    let base = plain_ground f.ground in
    let r = run_on base f.options in
    let s = ready_now base f.options f.board f.phase f.broken c.args.self.now c.self.view_is c.requires.ready (c.self.invariant c.if-self.false) in
    let out = c.in_ok-jobs.ensures r (can_lend r base f.board s) in
    lent_stands c.args.self.now (floor_of base f.options (record f.board { seats = c.lend.new.self }) phase.Lent false) c.in_ok-jobs.jobs.items
    (lent_filled r f.board c.lend.new.self c.in_ok-jobs.jobs.items out ∙ ap (λ (x : PlainFloor). x.pair) c.self.view_is)

pub returns-clause-distinct : goal.returns-clause-distinct
returns-clause-distinct c =
    let f = c.self.inside in
    let base = plain_ground f.ground in
    let r = run_on base f.options in
    let s = ready_now base f.options f.board f.phase f.broken c.args.self.now c.self.view_is c.requires.ready (c.self.invariant c.if-self.false) in
    let out = c.in_ok-jobs.ensures r (can_lend r base f.board s) in
    lent_distinct base.program f.options (standing (map seated f.board.seats)) f.board.wave c.in_ok-jobs.jobs.items s.rises out.lent
