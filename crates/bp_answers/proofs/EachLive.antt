-- Each live b-thread has a line of a state.
use Rattle.std.proofs.Common.{◌≡◌, ◌∙◌, ℕ, suc, ◌+◌, Bool, true, false, List, [], ◌∷◌, Option, Some, None, refl, ap, sym, arith}
use Rattle.std.specs.Prelude.{slice_get, if◌then◌else◌}
use Rattle.std.specs.List.{AllZip, cons_option, filter_map}
use Rattle.js_value.specs.Value.{PlainSet}
use Rattle.js_program.specs.PlainProgram.{PlainProgram}
use Rattle.js_meaning.specs.State as js
use Rattle.js_meaning.specs.Bodies.{Origin, evaluation}
use Rattle.bp_log.specs.Options.{PlainOptions}
use Rattle.bp_run.specs.Bodies.{Statement}
use Rattle.bp_run.specs.Configuration.{Stand, Thread}
use Rattle.bp_run.specs.Selecting.{Live, at_stop, live_from}
use Rattle.bp_meaning.specs.After.{outcome_of, stopped_with}
use Rattle.bp_meaning.specs.Statements.{statement_of}
use Rattle.bp_code.specs.Code.{code_of, ground_for}
use Rattle.bp_thread.specs.Jobs.{stop_line}
use Rattle.bp_explain.specs.Explained.{words_of}
use Rattle.bp_explain.specs.Standing.{Standing, standing, standing_at}
use Rattle.bp_answers.specs.Laws.{IsStandingOf, EachLiveIsTold}

module _ (p : PlainProgram) (o : PlainOptions) (s : Stand Origin) where
  abbrev Zipped : List (Live PlainSet) → List (Standing PlainSet) → Type 0
  Zipped ls xs = AllZip (IsStandingOf p o s) ls xs

  -- one b-thread more, that stops or does not, where its body comes to this
  module _ (n : ℕ) (t : Thread Origin) (at : slice_get s.threads n ≡ Some t) (ls : List (Live PlainSet)) (xs : List (Standing PlainSet)) (rest : Zipped ls xs) where
    stopped : (st : Option (Statement PlainSet)) (line : ℕ) → (words_of p o).line t.origin t.replies ≡ Some line →
        Zipped (cons_option (at_stop n (stopped_with st line)) ls) (cons_option (standing_at t.name (Some line) (stopped_with st line)) xs)
    stopped None line e = rest
    stopped (Some st) line e = (record { thread = t; at = at; name = refl; line = e; statement = refl }, rest)

    one : (ended : Bool) (x : js.Outcome) → (words_of p o).line t.origin t.replies ≡ stop_line x →
        Zipped (cons_option (if ended then None else at_stop n (outcome_of x)) ls) (cons_option (if ended then None else standing_at t.name (stop_line x) (outcome_of x)) xs)
    one true x e = rest
    one false (js.went c w) e = rest
    one false (js.broken f line left) e = rest
    one false (js.violated text left) e = rest
    one false (js.spent left) e = rest
    one false (js.stopped statement priority line left) e = stopped (statement_of statement priority) line e

  each_from : (n : ℕ) (ts : List (Thread Origin)) → ((i : ℕ) → slice_get s.threads (n + i) ≡ slice_get ts i) →
      Zipped (live_from (code_of p o) n ts) (filter_map (standing (code_of p o) (words_of p o)) ts)
  each_from n [] h = tt
  each_from n (t ∷ ts) h =
      let here : n + 0 ≡ n = omega arith in
      let later : (i : ℕ) → slice_get s.threads (suc n + i) ≡ slice_get ts i =
      λ i. let e : suc n + i ≡ n + suc i = omega arith in ap (slice_get s.threads) e ∙ h (suc i) in
      one n t (ap (slice_get s.threads) (sym here) ∙ h 0) (live_from (code_of p o) (suc n) ts) (filter_map (standing (code_of p o) (words_of p o)) ts) (each_from (suc n) ts later) t.ended
      (evaluation (ground_for p o.budget t.origin) o.budget t.origin t.replies) refl

pub each_live_is_told : EachLiveIsTold
each_live_is_told p o s =
    each_from p o s 0 s.threads (λ i. let e : 0 + i ≡ i = omega arith in ap (slice_get s.threads) e)
