-- What comes next doesn't depend on what ended b-threads ran, nor on the lines that were taken.
use Rattle.std.proofs.Common.{◌≡◌, ℕ, List, ◌++◌, refl, sym, ap, ◌∙◌, Option, Some, None, Ok, Err, if◌then◌else◌, ◌==◌}
use Rattle.bp_log.specs.Options.{PlainOptions}
use Rattle.bp_log.specs.declared.trace.Line.{Line}
use Rattle.bp_log.specs.declared.verdict.Verdict.{Verdict}
use Rattle.bp_log.specs.declared.verdict.Verdict.TheVariants as verdict
use Rattle.bp_run.specs.Bodies.{Code, SetFault}
use Rattle.bp_run.specs.Configuration.{Configuration, Stand}
use Rattle.bp_run.specs.Settling.{Pair, before}
use Rattle.bp_run.specs.Selecting.{Live, live, Asked}
use Rattle.bp_run.specs.Choosing.{Choice, choice, Touched, reach}
use Rattle.bp_run.specs.Story.{Next, next, next_unless, next_choice, next_chosen, next_idle, fault_verdict, set_verdict}
use Rattle.bp_run.specs.Story.Next.{Ends}
use Rattle.bp_run.proofs.Stories.{next_lineless}
use Rattle.bp_floor.specs.Forgetting.{forgotten_in, forgotten}
use Rattle.bp_floor.proofs.Stepping.{live_forgotten}
use Rattle.bp_floor.proofs.Forgetting.{name_forgotten}

fault_forgotten : {O : Type 0} (o : O) (s : Stand O) (x : ℕ × SetFault) → fault_verdict (forgotten_in o s) x ≡ fault_verdict s x
fault_forgotten o s x = ap (λ (name : List ℕ). set_verdict name x.1) (name_forgotten o s.threads x.0)

chosen_forgotten : {O : Type 0} (o : O) (s : Stand O) (ch : Choice) (x : Asked (List Touched)) → next_chosen (forgotten_in o s) ch x ≡ next_chosen s ch x
chosen_forgotten o s ch (Err y) = ap (λ (v : Verdict). Ends v) (fault_forgotten o s y)
chosen_forgotten o s ch (Ok reached) = refl

-- the configuration, with what ended b-threads ran forgotten
forgetful : {O : Type 0} → O → Configuration O → Configuration O
forgetful o c = record c { stand = forgotten_in o c.stand }

idle_forgotten : {O : Type 0} (p : PlainOptions) (o : O) (c : Configuration O) (b : Option (ℕ × ℕ)) → next_idle p (forgetful o c) b ≡ next_idle p c b
unfolding forgetful
idle_forgotten p o c (Some bad) = refl
idle_forgotten p o c None = refl

choice_forgotten : {O S : Type 0} (l : Code O S) (p : PlainOptions) (o : O) (c : Configuration O) (x : Asked (Option Choice)) → next_choice l p (forgetful o c) x ≡ next_choice l p c x
unfolding forgetful
choice_forgotten l p o c (Err y) = ap (λ (v : Verdict). Ends v) (fault_forgotten o c.stand y)
choice_forgotten l p o c (Ok None) = idle_forgotten p o c c.bad
choice_forgotten l p o c (Ok (Some ch)) =
    ap (λ (n : Next). if c.stand.transitions == p.steps then Ends (verdict.Steps p.steps) else n)
    (ap (λ (ts : List (Live _)). next_chosen (forgotten_in o c.stand) ch (reach l.has ch.event ts)) (live_forgotten l o c.stand)
    ∙ chosen_forgotten o c.stand ch (reach l.has ch.event (live l c.stand)))

unless_forgotten : {O S : Type 0} (l : Code O S) (p : PlainOptions) (o : O) (c : Configuration O) (v : Option Verdict) → next_unless l p (forgetful o c) v ≡ next_unless l p c v
unfolding forgetful
unless_forgotten l p o c (Some v) = refl
unless_forgotten l p o c None =
    ap (λ (ts : List (Live _)). next_choice l p (forgetful o c) (choice l.has l.word p.strategy ts c.stand.queue c.drawn)) (live_forgotten l o c.stand)
    ∙ choice_forgotten l p o c (choice l.has l.word p.strategy (live l c.stand) c.stand.queue c.drawn)

next_forgotten : {O S : Type 0} (l : Code O S) (p : PlainOptions) (o : O) (c : Configuration O) → next l p (forgetful o c) ≡ next l p c
unfolding next forgetful
next_forgotten l p o c = unless_forgotten l p o c c.stand.verdict

-- what comes next where a pair stands is what comes next on a floor that stands for it
pub next_stands : {O S : Type 0} (l : Code O S) (p : PlainOptions) (o : O) (taken : List Line) (q r : Pair O) (c : Configuration O) → forgotten o q ≡ before taken r →
    next l p (record c { stand = q.stand }) ≡ next l p (record c { stand = r.stand })
unfolding forgetful
next_stands l p o taken q r c h =
    sym (next_forgotten l p o (record c { stand = q.stand }))
    ∙ ap (λ (x : Pair _). next l p (record c { stand = x.stand })) h
    ∙ next_lineless l p (record c { stand = r.stand }) (taken ++ r.stand.lines)
