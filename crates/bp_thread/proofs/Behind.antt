-- What a machine did begins what comes of it.
use Rattle.std.proofs.Common.{◌≡◌, ℕ, List, [], ◌∷◌, ◌++◌, drop, length, Option, Some, None, refl, sym, ap, subst, ◌∙◌, append_assoc, append-nil}
use Rattle.std.proofs.lemmas.List.{append_cancel_left}
use Rattle.std.specs.Prelude.{slice_get, Ok}
use Rattle.js_data.specs.Event.{PlainEvent}
use Rattle.js_value.specs.Value as v
use Rattle.js_value.specs.Value.{PlainValue, is_truthy}
use Rattle.js_value.specs.Lists.{values_in}
use Rattle.js_value.specs.Views.{plain_value}
use Rattle.js_program.specs.PlainProgram as p
use Rattle.js_program.specs.PlainProgram.{PlainNodeForm, PlainNode, parts_of}
use Rattle.js_meaning.specs.State.{Ground, Setting, State, Effect, normal, broke, continued, returned, Outcome, went, broken, violated, spent, stopped, effects_of, effects_since}
use Rattle.js_meaning.specs.Bodies.{evaluation}
use Rattle.js_meaning.specs.Forms.{asks}
use Rattle.js_meaning.specs.Meaning.{eval, iterations_of, allowed}
use Rattle.js_meaning.proofs.Walk.{bind, either, leaves_walk, gives_walk, slot_walk, writes_walk, sequence_walk, in_order_walk, for_each_from_walk, combines_walk, declaration_walk, each_walk, each_of_walk, perhaps_walk}
use Rattle.js_meaning.proofs.Following.{Sure, sure_ways, iterations_sure, eval_sure, left_follows}
use Rattle.js_frames.specs.declared.frame.Part.{Part}
use Rattle.js_frames.specs.declared.frame.Part.TheVariants.{First, Second, Further, Or, And, Choice, When, Assigned, AssignedWith, Declared, Dropped, Returned, Statements, Started, Tested, Between, Listed, Walked}
use Rattle.js_frames.specs.declared.frame.Iteration.{Iteration}
use Rattle.js_frames.specs.declared.frame.Iteration.TheVariants.{OfLoop, OfItems}
use Rattle.js_frames.specs.declared.frame.Frame.{Frame}
use Rattle.js_frames.specs.declared.frame.Frame.TheVariants.{Waiting, Iterating, Called}
use Rattle.js_frames.specs.declared.step.Step.{Step}
use Rattle.js_frames.specs.declared.step.Step.TheVariants.{Begin, Give, Ask, Fail, Violate}
use Rattle.js_frames.specs.Frames.{statements_of, parts_from, declares_from, declaring_from, rest, again, resume, plug, step_outcome, future}
use Rattle.js_frames.specs.Places.{place_of, setting_at, state_at, plain_effects}
use Rattle.js_frames.specs.Runs.{Stands}
use Rattle.bp_thread.specs.declared.job.Job.{Job}
use Rattle.bp_thread.specs.Jobs.{plain_job, StandsAt, IsWhole}

-- effects come after these
abbrev Behind : List Effect → Outcome → Type 0
Behind es o = (more : List Effect) × (effects_of o ≡ es ++ more)

module _ (g : Setting) where
  -- what follows on each state
  abbrev Goes : (State → Outcome) → Type 0
  Goes f = Sure g f f

  eval_goes : (n : ℕ) → Goes (eval g n)
  eval_goes n = eval_sure g n

  loop_goes : (test : Option ℕ) (body : ℕ) (next : Option ℕ) → Goes (iterations_of g test body next)
  unfolding iterations_of
  loop_goes test body next = record { at = λ s. (iterations_sure g (eval g) eval_goes (allowed g.budget s) test body next).at s }

  parts_go : (o : Option PlainNode) (done : List PlainValue) → Goes (parts_from g o done)
  parts_go None done = (sure_ways g).spending
  parts_go (Some node) done =
      in_order_walk g (Sure g) (sure_ways g) (eval g) (eval g) eval_goes (drop (length done) (parts_of node.form)) done _ _
      (combines_walk g (Sure g) (sure_ways g) (eval g) (eval g) eval_goes node.line node.form)

  declares_go : (form : PlainNodeForm) (place : ℕ) → Goes (declares_from g form place)
  declares_go (p.declaration kind ds) place = declaration_walk g (Sure g) (sure_ways g) (eval g) (eval g) eval_goes kind (drop place ds)
  declares_go _ place = leaves_walk g (Sure g) (sure_ways g)

  declaring_goes : (o : Option PlainNode) (place : ℕ) → Goes (declaring_from g o place)
  declaring_goes None place = leaves_walk g (Sure g) (sure_ways g)
  declaring_goes (Some node) place = declares_go node.form place

  rest_goes : (part : Part) (x : PlainValue) → Goes (rest g part x)
  unfolding rest
  rest_goes (First n) x = parts_go (slice_get g.base.program.nodes n) (x ∷ [])
  rest_goes (Second n first) x = parts_go (slice_get g.base.program.nodes n) (plain_value first ∷ x ∷ [])
  rest_goes (Further n done) x = parts_go (slice_get g.base.program.nodes n) (done ++ x ∷ [])
  rest_goes (Or right) x = either g (Sure g) (sure_ways g) (is_truthy x) (gives_walk g (Sure g) (sure_ways g) x) (eval_goes right)
  rest_goes (And right) x = either g (Sure g) (sure_ways g) (is_truthy x) (eval_goes right) (gives_walk g (Sure g) (sure_ways g) x)
  rest_goes (Choice a b) x = either g (Sure g) (sure_ways g) (is_truthy x) (eval_goes a) (eval_goes b)
  rest_goes (When body) x = either g (Sure g) (sure_ways g) (is_truthy x) (eval_goes body) (leaves_walk g (Sure g) (sure_ways g))
  rest_goes (Assigned k line) x = slot_walk g (Sure g) (sure_ways g) line k _ _ (λ _. writes_walk g (Sure g) (sure_ways g) line k (Ok x))
  rest_goes (AssignedWith op old k line) x = writes_walk g (Sure g) (sure_ways g) line k _
  rest_goes (Declared n variable place) x = bind g (Sure g) (sure_ways g) _ _ ((sure_ways g).declaring variable x) (λ _. declaring_goes (slice_get g.base.program.nodes n) place)
  rest_goes Dropped x = leaves_walk g (Sure g) (sure_ways g)
  rest_goes Returned x = (sure_ways g).completing (returned x)
  rest_goes (Statements which place) x = sequence_walk g (Sure g) (sure_ways g) (eval g) (eval g) eval_goes (drop place (statements_of g.base.program which))
  rest_goes (Started t) x = loop_goes t.test t.body t.next
  rest_goes (Tested t) x =
      either g (Sure g) (sure_ways g) (is_truthy x)
      ((sure_ways g).iterating _ _ _ _ (eval_goes t.body) (bind g (Sure g) (sure_ways g) _ _ (perhaps_walk g (Sure g) (sure_ways g) (eval g) (eval g) eval_goes t.next) (λ _. loop_goes t.test t.body t.next)))
      (leaves_walk g (Sure g) (sure_ways g))
  rest_goes (Between t) x = loop_goes t.test t.body t.next
  rest_goes (Listed k body line) x = each_of_walk g (Sure g) (sure_ways g) (eval g) (eval g) eval_goes line k body x
  rest_goes (Walked w) x =
      for_each_from_walk g (Sure g) (sure_ways g) (eval g) (eval g) eval_goes w.line (v.function w.code w.captured) (v.list w.items) w.index (drop w.index (values_in w.items))

  again_goes : (iteration : Iteration) → Goes (again g iteration)
  unfolding again
  again_goes (OfLoop t) = bind g (Sure g) (sure_ways g) _ _ (perhaps_walk g (Sure g) (sure_ways g) (eval g) (eval g) eval_goes t.next) (λ _. loop_goes t.test t.body t.next)
  again_goes (OfItems k body items place) = each_walk g (Sure g) (sure_ways g) (eval g) (eval g) eval_goes k body (drop place (values_in items))

  goes_behind : (es : List Effect) (f : State → Outcome) → Goes f → (s : State) → (more : List Effect) × (s.effects ≡ es ++ more) → Behind es (f s)
  goes_behind es f goes s b =
      let l = left_follows g s (f s) (goes.at s) in
      (b.0 ++ l.added, l.effects ∙ ap (λ (xs : List Effect). xs ++ l.added) b.1 ∙ append_assoc es b.0 l.added)

  resume_behind : (es : List Effect) (f : Frame) (o : Outcome) → Behind es o → Behind es (resume g f o)
  unfolding resume
  resume_behind es (Waiting part) (went (normal x) s) b = goes_behind es (rest g part x) (rest_goes part x) s b
  resume_behind es (Iterating iteration) (went (normal x) s) b = goes_behind es (again g iteration) (again_goes iteration) s b
  resume_behind es (Iterating iteration) (went continued s) b = goes_behind es (again g iteration) (again_goes iteration) s b
  resume_behind es (Waiting part) (went broke s) b = b
  resume_behind es (Waiting part) (went continued s) b = b
  resume_behind es (Waiting part) (went (returned x) s) b = b
  resume_behind es (Iterating iteration) (went broke s) b = b
  resume_behind es (Iterating iteration) (went (returned x) s) b = b
  resume_behind es (Called slots active) (went c s) b = b
  resume_behind es (Waiting part) (broken f line e) b = b
  resume_behind es (Iterating iteration) (broken f line e) b = b
  resume_behind es (Called slots active) (broken f line e) b = b
  resume_behind es (Waiting part) (violated text e) b = b
  resume_behind es (Iterating iteration) (violated text e) b = b
  resume_behind es (Called slots active) (violated text e) b = b
  resume_behind es (Waiting part) (spent e) b = b
  resume_behind es (Iterating iteration) (spent e) b = b
  resume_behind es (Called slots active) (spent e) b = b
  resume_behind es (Waiting part) (stopped x y line e) b = b
  resume_behind es (Iterating iteration) (stopped x y line e) b = b
  resume_behind es (Called slots active) (stopped x y line e) b = b

  plug_behind : (es : List Effect) (fs : List Frame) (o : Outcome) → Behind es o → Behind es (plug g fs o)
  unfolding plug
  plug_behind es [] o b = b
  plug_behind es (f ∷ fs) o b = resume_behind es f (plug g fs o) (plug_behind es fs o b)

  asks_behind : (es : List Effect) (line : ℕ) (x y : PlainValue) (replies : List PlainEvent) (s : State) → (more : List Effect) × (s.effects ≡ es ++ more) → Behind es (asks g.budget line x y replies s)
  asks_behind es line x y [] s b = b
  asks_behind es line x y (e ∷ later) s b = b

  step_behind : (es : List Effect) (step : Step) (s : State) → (more : List Effect) × (s.effects ≡ es ++ more) → Behind es (step_outcome g step s)
  unfolding step_outcome
  step_behind es (Begin n) s b = goes_behind es (eval g n) (eval_goes n) s b
  step_behind es (Give c) s b = b
  step_behind es (Ask x y line) s b = asks_behind es line (plain_value x) (plain_value y) s.replies s b
  step_behind es (Fail f line) s b = b
  step_behind es (Violate text) s b = b

-- what was made stays, whatever replies come
pub made_begins : (base : Ground) (budget begun : ℕ) (made : List Effect) (j : Job) (later : List PlainEvent) → StandsAt base budget begun made j →
    (more : List Effect) × (effects_of (evaluation base budget (plain_job j).origin ((plain_job j).replies ++ later)) ≡ made ++ more)
unfolding Stands future
made_begins base budget begun made j later at =
    let c = at.stands in
    let engine = (at.machine).engine in
    let g = setting_at base (place_of engine) in
    subst (λ (o : Outcome). Behind made o) (c.comes later)
    (plug_behind g made (place_of engine).stack _
    (step_behind g made c.next (state_at (place_of engine) (record { taken = made; delivered = c.delivered; replies = later })) (plain_effects engine.effects, refl)))

-- and what a whole job has begins what it has at last
pub whole_begins : (base : Ground) (budget : ℕ) (j : Job) → IsWhole base budget j →
    (more : List Effect) × (effects_since (evaluation base budget (plain_job j).origin (plain_job j).replies) ≡ (plain_job j).effects ++ more)
whole_begins base budget j w =
    let es = (plain_job j).effects in
    let b = made_begins base budget w.begun (w.before ++ es) j [] w.stands in
    let same = ap (λ (rs : List PlainEvent). effects_of (evaluation base budget (plain_job j).origin rs)) (append-nil (plain_job j).replies) in
    (b.0, append_cancel_left w.before _ _ (sym w.since ∙ sym same ∙ b.1 ∙ append_assoc w.before es b.0))
