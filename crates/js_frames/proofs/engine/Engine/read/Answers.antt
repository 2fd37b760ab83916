use Rattle.std.proofs.Common.{sym, ap, ◌∙◌, subst}
use Rattle.js_meaning.specs.State.{gives}
use Rattle.js_meaning.specs.Variables.{if_declared, held}
use Rattle.js_data.specs.declared.fault.Fault.TheVariants as fault
use Rattle.js_frames.specs.declared.step.Completion.TheVariants.{Normal}
use Rattle.js_frames.specs.Places.{plain_ground, place_of, state_at}
use Rattle.js_frames.specs.inner.Leads.{Leads}
use Rattle.js_frames.proofs.Steps.{fails_at, completes_at}
use Rattle.js_frames.proofs.VariableLemmas.{held_here}
use Rattle.js_frames.proofs.engine.Engine.read.Goals as goal

pub returns-in-None : goal.returns-in-None
returns-in-None c =
    let base = plain_ground c.args.base.now in
    let old = place_of c.args.self.now in
    fails_at base old _ fault.Early c.args.line c.requires (λ b. ap (λ o. if_declared c.args.line o gives (state_at old b)) (c.in-None.ensures ∙ sym (held_here base c.args.variable old b)))

pub returns-in_ok-copied-in-Some : goal.returns-in_ok-copied-in-Some
returns-in_ok-copied-in-Some c =
    let base = plain_ground c.args.base.now in
    let old = place_of c.args.self.now in
    subst (Leads base old (λ s. if_declared c.args.line (held base c.args.variable s) gives s) old) (sym c.give.ensures)
    (completes_at base old _ (Normal c.in_ok-copied-in-Some.copied) c.requires (λ b.
    ap (λ y. gives y (state_at old b)) c.in_ok-copied-in-Some.ensures
    ∙ ap (λ o. if_declared c.args.line o gives (state_at old b)) (c.in-Some.ensures ∙ sym (held_here base c.args.variable old b))))
