use Rattle.std.proofs.Common.{◌≡◌, ◌∙◌, true, sym, ap, subst, [], List}
use Rattle.js_meaning.specs.Bodies.{Origin}
use Rattle.bp_log.specs.declared.trace.Line.{Line}
use Rattle.bp_run.specs.Settling.{Pair}
use Rattle.bp_thread.specs.declared.job.Job.{Job}
use Rattle.bp_steps.specs.declared.step.CoreStep.TheVariants.{Absorb}
use Rattle.bp_steps.specs.Steps.{pair_at}
use Rattle.bp_core.specs.declared.stepping.Core.{Core}
use Rattle.bp_arbiter.specs.Absorb.{absorbed, fits, with_item}
use Rattle.bp_arbiter.specs.Arbiters.{StandsFor, is_over, stand_in}
use Rattle.bp_core.specs.Moments.{IsAt}
use Rattle.bp_core.specs.Cores.{Makes}
use Rattle.bp_core.proofs.Leads.{nothing_lent, alone, enters, on_ok3}
use Rattle.bp_core.proofs.stepping.Core.absorb.Goals as goal

pub returns-clause-leads : goal.returns-clause-leads
returns-clause-leads c =
    let a = c.args.self.now.arbiter in
    let jobs = c.args.self.now.jobs.items in
    let b = c.absorb.new.self in
    let x = c.args.item in
    let j = c.args.injector in
    let f = c.requires.rest in
    let new : Core = record (c.args.self.now) { arbiter = b } in
    on_ok3 c.absorb.result (b ≡ absorbed j x a) (fits (stand_in a) x ≡ true) ((taken : List Line) (p : Pair Origin) → StandsFor a [] taken p → StandsFor b [] taken (with_item x p)) (Makes c.args.self.now new (Absorb j x))
    (λ is room stands taken m h.
    let n = enters a jobs taken m h.at f j c.requires.read (c.keeps.ensures.complete ∙ ap is_over f) x b c.requires.sound room is (stands taken (pair_at m) (alone a jobs taken m h.at f)) in
    record {
      next = n.0;
      leads = n.1;
      at = record { whole = c.if-self.false; at = subst (λ (js : List Job). IsAt b js taken n.0) (sym (nothing_lent a jobs taken m h.at f).0) n.2 };
    })
    c.absorb.ensures.absorbed c.absorb.ensures.fits c.absorb.ensures.stands
