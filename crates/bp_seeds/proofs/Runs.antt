-- Runs without injectors, which are moved on to their ends.
use Rattle.std.proofs.Common.{◌≡◌, ◌∙◌, ◌+◌, ◌≤◌, Bool, true, false, nat_lt, List, [], ◌∷◌, ◌++◌, length, length-append, Some, refl, sym, ap, arith}
use Rattle.std.specs.Prelude.{option_map, option_and_then, option_to_list}
use Rattle.js_value.specs.Value.{PlainSet}
use Rattle.js_program.specs.PlainProgram.{PlainProgram}
use Rattle.js_meaning.specs.Bodies.{Origin}
use Rattle.bp_log.specs.Options.{PlainOptions}
use Rattle.bp_log.specs.Records.{is_complete, verdict_of}
use Rattle.bp_log.specs.declared.record.Record.{Record}
use Rattle.bp_log.specs.declared.trace.Line.{Line}
use Rattle.bp_log.specs.declared.verdict.Verdict.{Verdict}
use Rattle.bp_run.specs.Bodies.{Code}
use Rattle.bp_run.specs.Configuration.{Configuration, not_ended}
use Rattle.bp_run.specs.Settling.{Entry, Pair, opening}
use Rattle.bp_run.specs.Story.{Next, story, alone, record_of}
use Rattle.bp_run.specs.Story.Next.{Ends, Selects, Waits}
use Rattle.bp_run.proofs.Stories.{begins_alone, only_alone}
use Rattle.bp_run.proofs.Injectors.{verdict_told}
use Rattle.bp_run.proofs.Waiting.{story_same, alone_same, only_waiting_runs_wait}
use Rattle.bp_code.specs.Code as whole
use Rattle.bp_code.specs.Code.{sealed_code_of as code_of}
use Rattle.bp_arbiter.specs.declared.picked.Picked.{Picked}
use Rattle.bp_arbiter.specs.declared.picked.Picked.TheVariants as picked
use Rattle.bp_arbiter.specs.Arbiters.{PlainArbiter, opened, code_in, options_in, stand_in, Recounts, coming, StandsFor, StandsSomewhere, is_lent, Shows}
use Rattle.bp_arbiter.specs.Pick.{after_pick, phase_after}
use Rattle.bp_turns.specs.Turning.{Settles}
use Rattle.bp_turns.proofs.Arbiters.{same_code, recounts_at, coming_at}
use Rattle.bp_turns.proofs.Turned.{settles_somewhere}
use Rattle.bp_explain.specs.Seeds.{kind_text, kind_in, kind_alone}

-- the arbiter runs this code under these options, and nothing of it is lent
pub record Runs (l : Code Origin PlainSet) (o : PlainOptions) (a : PlainArbiter) : Type 0 where
  pub stands : StandsSomewhere a
  pub code : code_in a ≡ l
  pub options : options_in a ≡ o
  pub unlent : is_lent a.phase ≡ false

pub opened_runs : (p : PlainProgram) (o : PlainOptions) (a : PlainArbiter) → a ≡ opened p o → StandsFor a [] [] opening → Runs (code_of p o) o a
opened_runs p o a e s = record {
  stands = record { taken = []; pair = opening; stands = s };
  code = ap code_in e;
  options = ap options_in e;
  unlent = ap (λ (x : PlainArbiter). is_lent x.phase) e;
}

pub settled_runs : (l : Code Origin PlainSet) (o : PlainOptions) (a b : PlainArbiter) → Settles a b → Runs l o a → Runs l o b
settled_runs l o a b s r = record {
  stands = settles_somewhere a b s r.stands;
  code = s.code ∙ r.code;
  options = s.options ∙ r.options;
  unlent = s.unlent r.unlent;
}

unlent_after : (k : Picked) (ns : List (Entry Origin)) → is_lent (phase_after k ns) ≡ false
unlent_after picked.Moved [] = refl
unlent_after picked.Moved (n ∷ ns) = refl
unlent_after picked.Wait ns = refl
unlent_after picked.Over ns = refl

pub picked_runs : (l : Code Origin PlainSet) (o : PlainOptions) (a b : PlainArbiter) (k : Picked) → Runs l o a → b.floor.base ≡ a.floor.base → options_in b ≡ options_in a → b.phase ≡ phase_after k b.floor.pair.entries →
    ((taken : List Line) (p : Pair Origin) (c : Configuration Origin) → StandsFor a [] taken p → Recounts a c → StandsFor b [] taken (after_pick (code_in a) p (coming a c))) →
    Runs l o b
picked_runs l o a b k r base same phase stands =
    let u = r.stands in
    let w = u.stands in
    record {
      stands = record { taken = u.taken; pair = after_pick (code_in a) u.pair (coming a w.told); stands = stands u.taken u.pair w.told w w.story };
      code = same_code a b (ap (λ g. g.program) base) same ∙ r.code;
      options = same ∙ r.options;
      unlent = ap is_lent phase ∙ unlent_after k b.floor.pair.entries;
    }

told_in : (l : Code Origin PlainSet) (o : PlainOptions) (a : PlainArbiter) (r : Runs l o a) → story l o a.records ≡ Some r.stands.stands.told
told_in l o a r = recounts_at l o a r.stands.stands.told r.code r.options r.stands.stands.story

-- what was recorded begins the records of the one run
pub within_alone : (l : Code Origin PlainSet) (o : PlainOptions) (a : PlainArbiter) → o.injectors ≡ 0 → Runs l o a → length a.records ≤ length (alone l o)
within_alone l o a i r =
    let b = begins_alone l o a.records r.stands.stands.told i (told_in l o a r) in
    let all = ap length b.whole in
    let both = length-append a.records b.later in
    omega (arith, all, both)

one_record : (x : Next) → (x ≡ Waits → ⊥) → length (option_to_list (record_of x)) ≡ 1
one_record (Ends v) h = refl
one_record (Selects ch reached) h = refl
one_record Waits h = absurd (h refl)

never_waits : (l : Code Origin PlainSet) (o : PlainOptions) (a : PlainArbiter) (c : Configuration Origin) → o.wait ≡ false → code_in a ≡ l → options_in a ≡ o → coming a c ≡ Waits → ⊥
never_waits l o a c w k p h =
    let waits : o.wait ≡ true = only_waiting_runs_wait l o c (sym (coming_at l o a c k p) ∙ h) in
    cc

-- a pick records something
pub picked_grows : (l : Code Origin PlainSet) (o : PlainOptions) (a b : PlainArbiter) → o.wait ≡ false → Runs l o a →
    ((c : Configuration Origin) → Recounts a c → b.records ≡ a.records ++ option_to_list (record_of (coming a c))) → length a.records + 1 ≡ length b.records
picked_grows l o a b w r recorded =
    let c = r.stands.stands.told in
    let more = option_to_list (record_of (coming a c)) in
    let all = ap length (recorded c r.stands.stands.story) in
    let both = length-append a.records more in
    let single = one_record (coming a c) (λ h. never_waits l o a c w r.code r.options h) in
    omega (arith, all, both, single)

kind_of_over : (l : Code Origin PlainSet) (o : PlainOptions) (c : Configuration Origin) (v : Verdict) (alive : Bool) → story l o (alone l o) ≡ Some c → c.stand.verdict ≡ Some v → alive ≡ nat_lt 0 (not_ended c.stand) →
    kind_alone l o ≡ Some (kind_text alive v)
unfolding kind_alone
kind_of_over l o c v alive s e a =
    ap (option_and_then kind_in) s ∙ ap (option_map (kind_text (nat_lt 0 (not_ended c.stand)))) e ∙ ap (λ (b : Bool). Some (kind_text b v)) (sym a)

without_waiting : (l : Code Origin PlainSet) (o : PlainOptions) → o.injectors ≡ 0 → kind_alone l (record o { wait = false }) ≡ kind_alone l o
unfolding kind_alone
without_waiting l o i =
    ap (λ (rs : List Record). option_and_then kind_in (story l (record o { wait = false }) rs)) (alone_same l o false i)
    ∙ ap (option_and_then kind_in) (story_same l o false (alone l o) i)

same_ends : (p : PlainProgram) (o : PlainOptions) → kind_alone (code_of p (record o { wait = false })) (record o { wait = false }) ≡ kind_alone (whole.code_of p o) (record o { wait = false })
unfolding code_of
same_ends p o = refl

-- a run that is over has ended as the one run ends
pub ends_so : (p : PlainProgram) (o : PlainOptions) (a : PlainArbiter) (v : Verdict) (alive : Bool) → o.injectors ≡ 0 → Runs (code_of p (record o { wait = false })) (record o { wait = false }) a →
    is_complete a.records ≡ true → verdict_of a.records ≡ Some v → ((c : Configuration Origin) → Recounts a c → Shows (stand_in a) c.stand) → alive ≡ nat_lt 0 (not_ended (stand_in a)) →
    kind_alone (whole.code_of p o) o ≡ Some (kind_text alive v)
ends_so p o a v alive i r complete verdict shows live =
    let o' : PlainOptions = record o { wait = false } in
    let l = code_of p o' in
    let c = r.stands.stands.told in
    let s = told_in l o' a r in
    let all = only_alone l o' a.records c i s complete in
    let seen = shows c r.stands.stands.story in
    sym (without_waiting (whole.code_of p o) o i) ∙ sym (same_ends p o)
    ∙ kind_of_over l o' c v alive (ap (story l o') (sym all) ∙ s) (verdict_told l o' a.records v c s verdict) (live ∙ ap (nat_lt 0) seen.live)

-- lines that were taken change nothing of it
pub taken_runs : (l : Code Origin PlainSet) (o : PlainOptions) (a b : PlainArbiter) (lines : List Line) → Runs l o a → b.floor.base ≡ a.floor.base → options_in b ≡ options_in a → b.phase ≡ a.phase →
    ((taken : List Line) (p : Pair Origin) → StandsFor a [] taken p → StandsFor b [] (taken ++ lines) p) → Runs l o b
taken_runs l o a b lines r base same phase stands =
    let u = r.stands in
    record {
      stands = record { taken = u.taken ++ lines; pair = u.pair; stands = stands u.taken u.pair u.stands };
      code = same_code a b (ap (λ g. g.program) base) same ∙ r.code;
      options = same ∙ r.options;
      unlent = ap is_lent phase ∙ r.unlent;
    }
