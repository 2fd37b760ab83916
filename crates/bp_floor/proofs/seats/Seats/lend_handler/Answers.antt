use Rattle.std.proofs.Common.{[], ◌∷◌, Option, option_map, refl, sym, subst}
use Rattle.js_frames.specs.Places.{plain_ground}
use Rattle.bp_run.specs.Settling.Entry.{Stops}
use Rattle.bp_floor.specs.declared.entry.Handler.{Handler}
use Rattle.bp_floor.specs.inner.Entries.{handler_seen}
use Rattle.bp_floor.specs.inner.TakenOut.{Lends}
use Rattle.bp_floor.proofs.seats.Seats.lend_handler.Goals as goal

pub returns-in_ok-handler_job-in-Some : goal.returns-in_ok-handler_job-in-Some
returns-in_ok-handler_job-in-Some c =
    let j = c.in_ok-handler_job-in-Some.field-0 in
    subst (λ (h : Option Handler). Lends (plain_ground c.args.ground.now) c.args.options (Stops c.args.number (option_map handler_seen h)) c.args.self.now c.args.self.now (j ∷ [])) (sym c.in-Some.is)
    (refl, refl, j, refl, c.in_ok-handler_job-in-Some.ensures)
