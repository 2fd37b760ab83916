use Rattle.std.proofs.Common.{◌∙◌, List, Some, sym, ap, slice_get, option_map}
use Rattle.js_meaning.specs.Bodies.{Origin}
use Rattle.js_frames.specs.Places.{plain_ground}
use Rattle.bp_run.specs.Settling.{Entry}
use Rattle.bp_floor.specs.Stops.{stop_in}
use Rattle.bp_floor.specs.inner.Kept.{Running, runs_in}
use Rattle.bp_floor.specs.Floors.{PlainFloor}
use Rattle.bp_floor.proofs.Sound.{rests_now, rest_nobody}
use Rattle.bp_floor.proofs.Stopped.{told, no_job}
use Rattle.bp_floor.proofs.floor.Floor.stopped.Goals as goal

pub returns-in-None : goal.returns-in-None
returns-in-None c =
    let f = c.self.inside in
    let base = plain_ground f.ground in
    let r : Running = record { program = base.program; options = f.options } in
    let rests = rests_now base f.options f.board f.phase f.broken c.args.self.now c.self.view_is c.requires.rest (c.self.invariant (ap (λ (x : PlainFloor). x.broken) c.self.view_is ∙ c.requires.sound)) in
    let waiting = rests.waiting ∙ ap (λ (ns : List (Entry Origin)). runs_in ns) (rest_nobody r base f.board rests) in
    absurd (no_job r f.board.seats c.args.number rests.own waiting (ap Some (sym c.if-has_ended.false) ∙ c.has_ended.ensures) (sym c.job.ensures ∙ ap (option_map (λ j. j.now)) c.in-None.is))

pub returns-in-Some : goal.returns-in-Some
returns-in-Some c =
    let f = c.self.inside in
    let base = plain_ground f.ground in
    let r : Running = record { program = base.program; options = f.options } in
    let rests = rests_now base f.options f.board f.phase f.broken c.args.self.now c.self.view_is c.requires.rest (c.self.invariant (ap (λ (x : PlainFloor). x.broken) c.self.view_is ∙ c.requires.sound)) in
    let waiting = rests.waiting ∙ ap (λ (ns : List (Entry Origin)). runs_in ns) (rest_nobody r base f.board rests) in
    let t = told r f.board.seats c.args.number c.in-Some.job.now rests.own waiting (ap Some (sym c.if-has_ended.false) ∙ c.has_ended.ensures) (sym c.job.ensures ∙ ap (option_map (λ j. j.now)) c.in-Some.is) in
    c.stop_of_job.ensures r.program r.options c.args.number t.own t.out t.outcome
    ∙ sym t.stop
    ∙ ap (λ (x : PlainFloor). stop_in x.base.program x.options (slice_get x.pair.stand.threads c.args.number)) c.self.view_is
