-- What waits adds no fuel where no reply is left.
use Rattle.std.proofs.Common.{◌≡◌, ℕ, ◌≤◌, List, [], ◌∷◌, ◌++◌, drop, length, Option, Some, None, arith}
use Rattle.std.specs.Prelude.{slice_get, Ok}
use Rattle.js_value.specs.Value as v
use Rattle.js_value.specs.Value.{PlainValue, is_truthy}
use Rattle.js_value.specs.Lists.{values_in}
use Rattle.js_value.specs.Views.{plain_value}
use Rattle.js_ops.specs.Operators.{value_of}
use Rattle.js_program.specs.PlainProgram as p
use Rattle.js_program.specs.PlainProgram.{PlainNodeForm, PlainNode, parts_of}
use Rattle.js_meaning.specs.State.{Setting, State, normal, broke, continued, returned, left_by, Outcome, went, broken, violated, spent, stopped}
use Rattle.js_meaning.specs.Meaning.{eval, iterations_of, allowed}
use Rattle.js_meaning.proofs.Later.{none_later}
use Rattle.js_meaning.proofs.Walk.{bind, either, leaves_walk, gives_walk, slot_walk, writes_walk, sequence_walk, in_order_walk, for_each_from_walk, combines_walk, declaration_walk, each_walk, each_of_walk, perhaps_walk, node_walk}
use Rattle.js_meaning.proofs.Following.{Well, Sure, sure_ways, iterations_sure, eval_sure, left_follows, later_of}
use Rattle.js_frames.specs.declared.frame.Part.{Part}
use Rattle.js_frames.specs.declared.frame.Part.TheVariants.{First, Second, Further, Or, And, Choice, When, Assigned, AssignedWith, Declared, Dropped, Returned, Statements, Started, Tested, Between, Listed, Walked}
use Rattle.js_frames.specs.declared.frame.Iteration.{Iteration}
use Rattle.js_frames.specs.declared.frame.Iteration.TheVariants.{OfLoop, OfItems}
use Rattle.js_frames.specs.declared.frame.Frame.{Frame}
use Rattle.js_frames.specs.declared.frame.Frame.TheVariants.{Waiting, Iterating, Called}
use Rattle.js_frames.specs.Frames.{statements_of, parts_from, declares_from, declaring_from, rest, again, resume, plug}
use Rattle.js_frames.specs.inner.Leads.{node_does}

module _ (g : Setting) where
  -- goes well from every state
  abbrev Goes : (State → Outcome) → Type 0
  Goes f = Sure g f f

  begins_well : (n : ℕ) → Goes (eval g n)
  begins_well n = eval_sure g n

  loop_goes : (test : Option ℕ) (body : ℕ) (next : Option ℕ) → Goes (iterations_of g test body next)
  unfolding iterations_of
  loop_goes test body next = record { at = λ s. (iterations_sure g (eval g) begins_well (allowed g.budget s) test body next).at s }

  node_goes : (n : ℕ) → Goes (node_does g n)
  node_goes n = node_walk g (Sure g) (sure_ways g) (eval g) (eval g) begins_well (iterations_of g) (iterations_of g) loop_goes (slice_get g.base.program.nodes n)

  parts_go : (o : Option PlainNode) (done : List PlainValue) → Goes (parts_from g o done)
  parts_go None done = (sure_ways g).spending
  parts_go (Some node) done =
      in_order_walk g (Sure g) (sure_ways g) (eval g) (eval g) begins_well (drop (length done) (parts_of node.form)) done _ _
      (combines_walk g (Sure g) (sure_ways g) (eval g) (eval g) begins_well node.line node.form)

  declares_go : (form : PlainNodeForm) (place : ℕ) → Goes (declares_from g form place)
  declares_go (p.declaration kind ds) place = declaration_walk g (Sure g) (sure_ways g) (eval g) (eval g) begins_well kind (drop place ds)
  declares_go _ place = leaves_walk g (Sure g) (sure_ways g)

  declaring_goes : (o : Option PlainNode) (place : ℕ) → Goes (declaring_from g o place)
  declaring_goes None place = leaves_walk g (Sure g) (sure_ways g)
  declaring_goes (Some node) place = declares_go node.form place

  rest_goes : (part : Part) (x : PlainValue) → Goes (rest g part x)
  unfolding rest
  rest_goes (First n) x = parts_go (slice_get g.base.program.nodes n) (x ∷ [])
  rest_goes (Second n first) x = parts_go (slice_get g.base.program.nodes n) (plain_value first ∷ x ∷ [])
  rest_goes (Further n done) x = parts_go (slice_get g.base.program.nodes n) (done ++ x ∷ [])
  rest_goes (Or right) x = either g (Sure g) (sure_ways g) (is_truthy x) (gives_walk g (Sure g) (sure_ways g) x) (begins_well right)
  rest_goes (And right) x = either g (Sure g) (sure_ways g) (is_truthy x) (begins_well right) (gives_walk g (Sure g) (sure_ways g) x)
  rest_goes (Choice a b) x = either g (Sure g) (sure_ways g) (is_truthy x) (begins_well a) (begins_well b)
  rest_goes (When body) x = either g (Sure g) (sure_ways g) (is_truthy x) (begins_well body) (leaves_walk g (Sure g) (sure_ways g))
  rest_goes (Assigned k line) x = slot_walk g (Sure g) (sure_ways g) line k _ _ (λ _. writes_walk g (Sure g) (sure_ways g) line k (Ok x))
  rest_goes (AssignedWith op old k line) x = writes_walk g (Sure g) (sure_ways g) line k (value_of op (plain_value old) x)
  rest_goes (Declared n variable place) x = bind g (Sure g) (sure_ways g) _ _ ((sure_ways g).declaring variable x) (λ _. declaring_goes (slice_get g.base.program.nodes n) place)
  rest_goes Dropped x = leaves_walk g (Sure g) (sure_ways g)
  rest_goes Returned x = (sure_ways g).completing (returned x)
  rest_goes (Statements which place) x = sequence_walk g (Sure g) (sure_ways g) (eval g) (eval g) begins_well (drop place (statements_of g.base.program which))
  rest_goes (Started t) x = loop_goes t.test t.body t.next
  rest_goes (Tested t) x =
      either g (Sure g) (sure_ways g) (is_truthy x)
      ((sure_ways g).iterating _ _ _ _ (begins_well t.body) (bind g (Sure g) (sure_ways g) _ _ (perhaps_walk g (Sure g) (sure_ways g) (eval g) (eval g) begins_well t.next) (λ _. loop_goes t.test t.body t.next)))
      (leaves_walk g (Sure g) (sure_ways g))
  rest_goes (Between t) x = loop_goes t.test t.body t.next
  rest_goes (Listed k body line) x = each_of_walk g (Sure g) (sure_ways g) (eval g) (eval g) begins_well line k body x
  rest_goes (Walked w) x =
      for_each_from_walk g (Sure g) (sure_ways g) (eval g) (eval g) begins_well w.line (v.function w.code w.captured) (v.list w.items) w.index (drop w.index (values_in w.items))

  again_goes : (iteration : Iteration) → Goes (again g iteration)
  unfolding again
  again_goes (OfLoop t) = bind g (Sure g) (sure_ways g) _ _ (perhaps_walk g (Sure g) (sure_ways g) (eval g) (eval g) begins_well t.next) (λ _. loop_goes t.test t.body t.next)
  again_goes (OfItems k body items place) = each_walk g (Sure g) (sure_ways g) (eval g) (eval g) begins_well k body (drop place (values_in items))

  -- no reply and no more fuel than this is left
  abbrev Low : ℕ → Outcome → Type 0
  Low fuel (went c s) = (s.replies ≡ []) × (s.fuel ≤ fuel)
  Low fuel (broken f line l) = l.fuel ≤ fuel
  Low fuel (violated text l) = l.fuel ≤ fuel
  Low fuel (spent l) = l.fuel ≤ fuel
  Low fuel (stopped x y line l) = l.fuel ≤ fuel

  low_of : (fuel : ℕ) (s : State) (o : Outcome) → Well g s o → s.replies ≡ [] → s.fuel ≤ fuel → Low fuel o
  low_of fuel s (went c t) h none le = let less : t.fuel ≤ s.fuel = (left_follows g s (went c t) h).less_fuel none in (none_later (later_of g s t c h) none, omega arith)
  low_of fuel s (broken f line l) h none le = let less : l.fuel ≤ s.fuel = (left_follows g s (broken f line l) h).less_fuel none in omega arith
  low_of fuel s (violated text l) h none le = let less : l.fuel ≤ s.fuel = (left_follows g s (violated text l) h).less_fuel none in omega arith
  low_of fuel s (spent l) h none le = let less : l.fuel ≤ s.fuel = (left_follows g s (spent l) h).less_fuel none in omega arith
  low_of fuel s (stopped x y line l) h none le = let less : l.fuel ≤ s.fuel = (left_follows g s (stopped x y line l) h).less_fuel none in omega arith

  -- a state with no more fuel goes on to no more
  goes_low : (fuel : ℕ) (f : State → Outcome) → Goes f → (s : State) → (s.replies ≡ []) × (s.fuel ≤ fuel) → Low fuel (f s)
  goes_low fuel f goes s l = low_of fuel s (f s) (goes.at s) l.0 l.1

  resume_low : (fuel : ℕ) (f : Frame) (o : Outcome) → Low fuel o → Low fuel (resume g f o)
  unfolding resume
  resume_low fuel (Waiting part) (went (normal x) s) l = goes_low fuel (rest g part x) (rest_goes part x) s l
  resume_low fuel (Iterating iteration) (went (normal x) s) l = goes_low fuel (again g iteration) (again_goes iteration) s l
  resume_low fuel (Iterating iteration) (went continued s) l = goes_low fuel (again g iteration) (again_goes iteration) s l
  resume_low fuel (Waiting part) (went broke s) l = l
  resume_low fuel (Waiting part) (went continued s) l = l
  resume_low fuel (Waiting part) (went (returned x) s) l = l
  resume_low fuel (Iterating iteration) (went broke s) l = l
  resume_low fuel (Iterating iteration) (went (returned x) s) l = l
  resume_low fuel (Called slots active) (went c s) l = l
  resume_low fuel (Waiting part) (broken f line e) l = l
  resume_low fuel (Iterating iteration) (broken f line e) l = l
  resume_low fuel (Called slots active) (broken f line e) l = l
  resume_low fuel (Waiting part) (violated text e) l = l
  resume_low fuel (Iterating iteration) (violated text e) l = l
  resume_low fuel (Called slots active) (violated text e) l = l
  resume_low fuel (Waiting part) (spent e) l = l
  resume_low fuel (Iterating iteration) (spent e) l = l
  resume_low fuel (Called slots active) (spent e) l = l
  resume_low fuel (Waiting part) (stopped x y line e) l = l
  resume_low fuel (Iterating iteration) (stopped x y line e) l = l
  resume_low fuel (Called slots active) (stopped x y line e) l = l

  plug_low : (fuel : ℕ) (fs : List Frame) (o : Outcome) → Low fuel o → Low fuel (plug g fs o)
  unfolding plug
  plug_low fuel [] o l = l
  plug_low fuel (f ∷ fs) o l = resume_low fuel f (plug g fs o) (plug_low fuel fs o l)

  low_left : (fuel : ℕ) (o : Outcome) → Low fuel o → (left_by o).fuel ≤ fuel
  low_left fuel (went c s) l = l.1
  low_left fuel (broken f line e) l = l
  low_left fuel (violated text e) l = l
  low_left fuel (spent e) l = l
  low_left fuel (stopped x y line e) l = l

  -- a node that has begun with this much fuel leaves no more at the end of all that waits
  pub node_leaves : (n : ℕ) (s : State) (fs : List Frame) → s.replies ≡ [] → (left_by (plug g fs (node_does g n s))).fuel ≤ s.fuel
  node_leaves n s fs none =
      low_left s.fuel (plug g fs (node_does g n s)) (plug_low s.fuel fs (node_does g n s) (goes_low s.fuel (node_does g n) (node_goes n) s (none, omega arith)))
