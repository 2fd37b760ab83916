-- A list of steps is played one after the other.
use Rattle.std.proofs.Common.{◌≡◌, ◌<◌, ◌+◌, ℕ, true, false, List, [], ◌∷◌, ◌++◌, length, length-append, arith, refl, sym, ap, ◌∙◌, subst, Option, append_assoc, append-nil, inl, inr}
use Rattle.js_program.specs.PlainProgram.{PlainProgram}
use Rattle.js_meaning.specs.Bodies.{Origin}
use Rattle.bp_log.specs.Options.{PlainOptions}
use Rattle.bp_log.specs.declared.record.Record.{Record}
use Rattle.bp_steps.specs.declared.step.CoreStep.{CoreStep}
use Rattle.bp_steps.specs.Steps.{Moment, pair_at, after_step}
use Rattle.bp_steps.proofs.Played.{steps_on, one_step, last}
use Rattle.bp_code.specs.Nodes.{nodes_of}
use Rattle.bp_code.specs.Code.{sealed_code_of as code_of}
use Rattle.bp_core.specs.declared.stepping.Core.{Core}
use Rattle.bp_arbiter.specs.Arbiters.{PlainArbiter, Tells, code_in, options_in}
use Rattle.bp_core.specs.Moments.{step_on}
use Rattle.bp_core.specs.Cores.{IsSomewhere, Makes, KeepsProgram, Plays, IsRefused, AreBetween, Cuts, IsCutOff, is_legal}
use Rattle.bp_core.proofs.Legal.{refused}
use Rattle.bp_arbiter.proofs.Told.{stands_tells}

-- the same program and options lead to the same
step_same : (a b : PlainArbiter) (m : Moment Origin) (s : CoreStep) → KeepsProgram a b → step_on a m s ≡ step_on b m s
step_same a b m s k =
    let leads : PlainProgram → PlainOptions → Option (Moment Origin) = λ p o. after_step (code_of p o) o (nodes_of p o) m s in
    sym (ap (λ (p : PlainProgram). leads p (options_in b)) k.program ∙ ap (λ (o : PlainOptions). leads a.floor.base.program o) k.options)

-- these steps are left, and those before them were made
pub record Playing (start now : Core) (all rest : List CoreStep) (at : ℕ) : Type 0 where
  pub front : List CoreStep
  pub all_is : all ≡ front ++ rest
  pub place : at ≡ length front
  pub made : Plays start now front
  pub kept : KeepsProgram start.arbiter now.arbiter
  pub somewhere : now.broken ≡ false → IsSomewhere now now.jobs.items
  pub inside : now.out ≡ false
  -- where memory had run out before, nothing was made
  pub idle : start.broken ≡ true → (now ≡ start) × (at ≡ 0)

pub playing_begin : (c : Core) (all rest : List CoreStep) → rest ≡ all → (c.broken ≡ false → IsSomewhere c c.jobs.items) → c.out ≡ false → Playing c c all rest 0
playing_begin c all rest e s i =
    record {
      front = [];
      all_is = sym e;
      place = refl;
      made = λ taken m h. record { next = m; leads = last (code_in c.arbiter) (options_in c.arbiter) (nodes_of c.arbiter.floor.base.program (options_in c.arbiter)) m; at = h };
      kept = record { program = refl; options = refl };
      somewhere = s;
      inside = i;
      idle = λ w. (refl, refl);
    }

made_more : (start now new : Core) (front : List CoreStep) (s : CoreStep) → Plays start now front → KeepsProgram start.arbiter now.arbiter → Makes now new s → Plays start new (front ++ s ∷ [])
made_more start now new front s p k q taken m h =
    let x = p taken m h in
    let y = q taken x.next x.at in
    let a = start.arbiter in
    let nodes = nodes_of a.floor.base.program (options_in a) in
    record {
      next = y.next;
      leads = steps_on (code_in a) (options_in a) nodes front (s ∷ []) m x.next x.leads
          ∙ one_step (code_in a) (options_in a) nodes s [] x.next y.next (step_same a now.arbiter x.next s k ∙ y.leads)
          ∙ last (code_in a) (options_in a) nodes y.next;
      at = y.at;
    }

-- the next step is made of the same program
pub keeps_on : (a b c : PlainArbiter) → KeepsProgram a b → KeepsProgram b c → KeepsProgram a c
keeps_on a b c k l = record { program = l.program ∙ k.program; options = l.options ∙ k.options }

pub playing_next : (start now new : Core) (all rest next : List CoreStep) (s : CoreStep) (at : ℕ) → Playing start now all rest at → rest ≡ s ∷ next → now.broken ≡ false → Makes now new s → KeepsProgram now.arbiter new.arbiter → new.out ≡ now.out →
    Playing start new all next (at + 1)
playing_next start now new all rest next s at p e w q k i =
    let there = p.somewhere w in
    let step = q there.taken there.moment there.at in
    let place = p.place in
    let longer = length-append p.front (s ∷ []) in
    record {
      front = p.front ++ s ∷ [];
      all_is = p.all_is ∙ ap (λ (xs : List CoreStep). p.front ++ xs) e ∙ sym (append_assoc p.front (s ∷ []) next);
      place = omega (arith, place, longer);
      made = made_more start now new p.front s p.made p.kept q;
      kept = keeps_on start.arbiter now.arbiter new.arbiter p.kept k;
      somewhere = λ _. record { taken = there.taken; moment = step.next; at = step.at };
      inside = i ∙ p.inside;
      idle = λ b. absurd (let y = (p.idle b).0 in let z : true ≡ false = sym b ∙ ap (λ (c : Core). c.broken) (sym y) ∙ w in cc);
    }

pub playing_end : (start now : Core) (all rest : List CoreStep) (at : ℕ) → Playing start now all rest at → rest ≡ [] → Plays start now all
playing_end start now all rest at p e = subst (λ (xs : List CoreStep). Plays start now xs) (sym (p.all_is ∙ ap (λ (xs : List CoreStep). p.front ++ xs) e ∙ append-nil p.front)) p.made

pub playing_refused : (start now : Core) (all rest next : List CoreStep) (s : CoreStep) (at : ℕ) → Playing start now all rest at → rest ≡ s ∷ next → is_legal now.arbiter now.jobs.items s ≡ false → IsRefused start now all at s
playing_refused start now all rest next s at p e w =
    record {
      front = p.front;
      rest = next;
      all = p.all_is ∙ ap (λ (xs : List CoreStep). p.front ++ xs) e;
      place = p.place;
      made = p.made;
      illegal = λ taken m h. refused now.arbiter now.jobs.items taken m h.at s w;
    }

between_same : (a b : PlainArbiter) (m : Moment Origin) (s : CoreStep) (records : List Record) → KeepsProgram a b → AreBetween b m s records → AreBetween a m s records
between_same a b m s records k (inl e) = inl e
between_same a b m s records k (inr r) = inr (r.0, step_same a b m s k ∙ r.1, r.2)

-- memory runs out in the next step
pub playing_cut : (start now new : Core) (all rest next : List CoreStep) (s : CoreStep) (at : ℕ) → Playing start now all rest at → rest ≡ s ∷ next → Cuts now new s → new.broken ≡ true → IsCutOff start new all at
playing_cut start now new all rest next s at p e q w =
    record {
      front = p.front;
      step = s;
      rest = next;
      all = p.all_is ∙ ap (λ (xs : List CoreStep). p.front ++ xs) e;
      place = p.place;
      made = λ taken m h.
          let x = p.made taken m h in
          let y = q taken x.next x.at in
          record { next = x.next; leads = x.leads; records = between_same start.arbiter now.arbiter x.next s new.arbiter.records p.kept y.records; tells = y.tells };
      broken = w;
    }

-- memory had run out, so it was at no moment
pub broken_cuts : (c : Core) (s : CoreStep) → c.broken ≡ true → Cuts c c s
broken_cuts c s w taken m h = absurd (let y = h.whole in let z : true ≡ false = sym w ∙ y in cc)

-- nothing but the core's own flag has changed
pub still_cuts : (c new : Core) (s : CoreStep) → new.arbiter ≡ c.arbiter → Cuts c new s
still_cuts c new s e taken m h =
    record {
      records = inl (ap (λ (x : PlainArbiter). x.records) e ∙ (h.at).records);
      tells = subst (λ (x : PlainArbiter). Tells x taken) (sym e) (stands_tells c.arbiter c.jobs.items taken (pair_at m) (h.at).stands);
    }

-- memory had run out, so no step is made
pub playing_same : (start now : Core) (all rest : List CoreStep) (at : ℕ) → Playing start now all rest at → start.broken ≡ true → now ≡ start
playing_same start now all rest at p b = (p.idle b).0

pub playing_first : (start now : Core) (all rest : List CoreStep) (at : ℕ) → Playing start now all rest at → start.broken ≡ true → at ≡ 0
playing_first start now all rest at p b = (p.idle b).1

-- a step was to be made
pub playing_stays_not : (start now : Core) (all rest : List CoreStep) (at : ℕ) (P : Type 0) → Playing start now all rest at → now.broken ≡ false → start.broken ≡ true → P
playing_stays_not start now all rest at P p w b = absurd (let y = (p.idle b).0 in let z : true ≡ false = sym b ∙ ap (λ (c : Core). c.broken) (sym y) ∙ w in cc)

pub playing_stays_end : (start now : Core) (all rest : List CoreStep) (at : ℕ) (P : Type 0) → Playing start now all rest at → rest ≡ [] → start.broken ≡ true → 0 < length all → P
playing_stays_end start now all rest at P p e b l =
    absurd
    (let i = (p.idle b).1 in
    let place = p.place in
    let sum = ap length (p.all_is ∙ ap (λ (xs : List CoreStep). p.front ++ xs) e ∙ append-nil p.front) in
    omega (arith, i, place, sum, l))
