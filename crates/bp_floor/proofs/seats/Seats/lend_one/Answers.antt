use Rattle.std.proofs.Common.{[], ◌∷◌, IfOk, option_to_list, refl, sym, subst}
use Rattle.js_frames.specs.Places.{plain_ground}
use Rattle.bp_floor.specs.declared.entry.Entry.{Entry}
use Rattle.bp_floor.specs.inner.Entries.{entry_seen}
use Rattle.bp_floor.specs.inner.TakenOut.{Lends}
use Rattle.bp_floor.proofs.LoanLemmas.{started}
use Rattle.bp_floor.proofs.seats.Seats.lend_one.Goals as goal

pub returns-in_ok-top-in-Top : goal.returns-in_ok-top-in-Top
returns-in_ok-top-in-Top c =
    let j = c.in_ok-top-in-Top.field-0 in
    subst (λ (x : Entry). Lends (plain_ground c.args.ground.now) c.args.options (entry_seen x) c.args.self.now c.args.self.now (j ∷ [])) (sym c.in-Top.is)
    (refl, j, refl, started _ _ _ _ _ _ _ c.in_ok-top-in-Top.ensures.made c.in_ok-top-in-Top.ensures.program c.budget.ensures.budget c.in_ok-top-in-Top.ensures.fresh)

pub returns-in-Stops : goal.returns-in-Stops
returns-in-Stops c =
    subst (λ (n : Entry). IfOk c.lend_handler.result (λ j. Lends (plain_ground c.args.ground.now) c.args.options (entry_seen n) c.args.self.now c.args.self.now (option_to_list j))) (sym c.in-Stops.is) c.lend_handler.ensures
