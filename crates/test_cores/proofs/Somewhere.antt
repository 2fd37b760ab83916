-- A core that plays lists is somewhere still.
use Rattle.std.proofs.Common.{◌≡◌, ◌∙◌, ◌∷◌, [], ℕ, List, get_or, set, sym, subst}
use Rattle.std.specs.List.{AllZip}
use Rattle.js_meaning.specs.State.{Ground}
use Rattle.bp_steps.specs.declared.step.CoreStep.{CoreStep}
use Rattle.bp_thread.specs.declared.job.Job.{Job}
use Rattle.bp_thread.specs.Carried.{Carries}
use Rattle.bp_arbiter.specs.Arbiters.{PlainArbiter, options_in}
use Rattle.bp_core.specs.declared.stepping.Core.{Core}
use Rattle.bp_core.specs.Moments.{IsAt}
use Rattle.bp_core.specs.declared.play_fault.PlayFault.{PlayFault}
use Rattle.bp_core.specs.declared.play_fault.PlayFault.TheVariants as fault
use Rattle.bp_core.specs.Cores.{IsCoreAt, IsSomewhere, Plays, PlayEnds, HandsIn}
use Rattle.bp_core.proofs.Begun.{all_carried_self}

pub after_steps : (old new : Core) (steps : List CoreStep) → IsSomewhere old old.jobs.items → Plays old new steps → IsSomewhere new new.jobs.items
after_steps old new steps s p =
    let x = p s.taken s.moment s.at in
    record { taken = s.taken; moment = x.next; at = x.at }

pub after_refusal : (old new : Core) (steps : List CoreStep) (f : PlayFault) (at : ℕ) (step : CoreStep) → IsSomewhere old old.jobs.items → f ≡ fault.Illegal at step → PlayEnds old new steps f → IsSomewhere new new.jobs.items
after_refusal old new steps f at step s is p =
    let r = subst (λ (x : PlayFault). PlayEnds old new steps x) is p in
    after_steps old new r.front s r.made

pub after_handing : (old out new : Core) (jobs back : List Job) → IsSomewhere old old.jobs.items → jobs ≡ old.jobs.items → out.arbiter ≡ old.arbiter → out.broken ≡ old.broken →
    HandsIn out back new → AllZip (Carries out.arbiter.floor.base (options_in out.arbiter).budget) jobs back → IsSomewhere new new.jobs.items
after_handing old out new jobs back s e a b h c =
    let there : IsCoreAt out jobs s.taken s.moment = record {
      whole = b ∙ (s.at).whole;
      at = subst (λ (js : List Job). IsAt out.arbiter js s.taken s.moment) (sym e) (subst (λ (x : PlainArbiter). IsAt x old.jobs.items s.taken s.moment) (sym a) (s.at).at);
    } in
    let r = h jobs s.taken s.moment there c in
    record { taken = s.taken; moment = record s.moment { lent = r.0 }; at = r.1 }

-- the first job was carried on, and the others are as they were
pub first_carried : (base : Ground) (budget : ℕ) (jobs : List Job) (e x : Job) → e ≡ get_or jobs 0 e → Carries base budget e x → AllZip (Carries base budget) jobs (set jobs 0 x)
first_carried base budget [] e x is c = tt
first_carried base budget (j ∷ js) e x is c = (subst (λ (y : Job). Carries base budget y x) is c, all_carried_self base budget js)
