use Rattle.std.proofs.Common.{refl, sym, subst}
use Rattle.js_frames.specs.Places.{plain_ground}
use Rattle.bp_floor.specs.Floors.{PlainFloor, StandsFor, GoesFrom, code_on}
use Rattle.bp_floor.specs.inner.Transition.{floor_on}
use Rattle.bp_floor.proofs.Shown.{goes_from, goes_like}
use Rattle.bp_floor.proofs.floor.Floor.go.Goals as goal

pub returns-clause-stands : goal.returns-clause-stands
returns-clause-stands c = λ taken p s.
    let f = c.self.inside in
    let base = plain_ground f.ground in
    let e = c.args.event.now in
    let w = c.in_ok-went.went in
    let new = floor_on base f.options c.go.new.self in
    goes_like (code_on c.args.self.now) taken p e c.args.place w new _ refl
    (subst (λ (x : PlainFloor). GoesFrom (code_on x) taken p e c.args.place w new) c.self.view_is
    (goes_from (floor_on base f.options f.board) e c.args.place w new taken p c.in_ok-went.ensures.goes (subst (λ (x : PlainFloor). StandsFor x taken p) (sym c.self.view_is) s)))
