-- The bound of the recursion is never met: `eval` is what `does` makes of `eval` itself.
use Rattle.std.proofs.Common.{◌≡◌, ℕ, zero, suc, ◌+◌, ◌-◌, ◌*◌, ◌≤◌, cond, List, [], ◌∷◌, length, Option, Some, None, refl, sym, ap, ◌∙◌, subst, arith}
use Rattle.std.specs.Prelude.{slice_get}
use Rattle.js_data.specs.Event.{PlainEvent}
use Rattle.js_value.specs.Value.{PlainValue, is_truthy}
use Rattle.js_program.specs.declared.node.Variable.{Variable}
use Rattle.js_program.specs.declared.node.Variable.TheVariants.{Slot, Constant}
use Rattle.js_program.specs.PlainProgram.{PlainNode}
use Rattle.js_meaning.specs.State.{Setting, State, Completion, normal, broke, continued, returned, Outcome, went, broken, violated, spent, spends, stopped, ◌>>=◌, leaves}
use Rattle.js_meaning.specs.Variables.{set_variable}
use Rattle.js_meaning.specs.Calls.{after_call}
use Rattle.js_meaning.specs.Forms.{asks}
use Rattle.js_meaning.specs.Statements.{after_iteration, perhaps, one_iteration, iterations}
use Rattle.js_meaning.specs.Meaning.{does_node, begins_with, begins, within, allowed, eval, iterations_of}
use Rattle.js_meaning.proofs.Walk.{Ways, bind, either, leaves_walk, tests_walk, perhaps_walk, one_iteration_walk, node_walk}

-- no more nodes are allowed than m
abbrev Few : ℕ → ℕ → Outcome → Type 0
Few b m (went c s) = allowed b s ≤ m
Few b m _ = Unit {0}

-- the same outcome, after which no more nodes are allowed than m
record Agree (b m : ℕ) (o o' : Outcome) : Type 0 where
  same : o ≡ o'
  few : Few b m o

-- two ways agree from each state in which no more nodes are allowed than m
record Agreeing (b m : ℕ) (f f' : State → Outcome) : Type 0 where
  at : (s : State) → allowed b s ≤ m → Agree b m (f s) (f' s)

done : {b m : ℕ} (o : Outcome) → Few b m o → Agree b m o o
done o few = record { same = refl; few = few }

more_self : (b m k : ℕ) (o : Outcome) → m ≤ k → Few b m o → Few b k o
more_self b m k (went c s) le h = omega arith
more_self b m k (broken f line l) le h = tt
more_self b m k (violated text l) le h = tt
more_self b m k (spent l) le h = tt
more_self b m k (stopped x y line l) le h = tt

more : {b m k : ℕ} {o o' : Outcome} → m ≤ k → Agree b m o o' → Agree b k o o'
more {b} {m} {k} {o} le h = record { same = h.same; few = more_self b m k o le h.few }

both_spent : {b m : ℕ} {o o' : Outcome} (s : State) → o ≡ spends s → o' ≡ spends s → Agree b m o o'
both_spent {b} {m} {o} {o'} s p q = record { same = p ∙ sym q; few = subst (Few b m) (sym p) tt }

bind_self : (b m : ℕ) (o : Outcome) (c c' : PlainValue → State → Outcome) → Few b m o → ((x : PlainValue) → Agreeing b m (c x) (c' x)) → Agree b m (o >>= c) (o >>= c')
bind_self b m (went (normal x) s) c c' few h = (h x).at s few
bind_self b m (went broke s) c c' few h = done _ few
bind_self b m (went continued s) c c' few h = done _ few
bind_self b m (went (returned x) s) c c' few h = done _ few
bind_self b m (broken x line l) c c' few h = done _ few
bind_self b m (violated text l) c c' few h = done _ few
bind_self b m (spent l) c c' few h = done _ few
bind_self b m (stopped x y line l) c c' few h = done _ few

binds : {b m : ℕ} {o o' : Outcome} (c c' : PlainValue → State → Outcome) → Agree b m o o' → ((x : PlainValue) → Agreeing b m (c x) (c' x)) → Agree b m (o >>= c) (o' >>= c')
binds {b} {m} {o} {o'} c c' a h =
    let r = bind_self b m o c c' a.few h in
    record { same = r.same ∙ ap (λ x. x >>= c') a.same; few = r.few }

iteration_self : (b m : ℕ) (o : Outcome) (c c' : State → Outcome) → Few b m o → Agreeing b m c c' → Agree b m (after_iteration o c) (after_iteration o c')
iteration_self b m (went (normal x) s) c c' few h = h.at s few
iteration_self b m (went broke s) c c' few h = done _ few
iteration_self b m (went continued s) c c' few h = h.at s few
iteration_self b m (went (returned x) s) c c' few h = done _ few
iteration_self b m (broken x line l) c c' few h = done _ few
iteration_self b m (violated text l) c c' few h = done _ few
iteration_self b m (spent l) c c' few h = done _ few
iteration_self b m (stopped x y line l) c c' few h = done _ few

iterates_on : {b m : ℕ} {o o' : Outcome} (c c' : State → Outcome) → Agree b m o o' → Agreeing b m c c' → Agree b m (after_iteration o c) (after_iteration o' c')
iterates_on {b} {m} {o} {o'} c c' a h =
    let r = iteration_self b m o c c' a.few h in
    record { same = r.same ∙ ap (λ x. after_iteration x c') a.same; few = r.few }

call_few : (b m : ℕ) (slots : List (Option PlainValue)) (n : ℕ) (o : Outcome) → Few b m o → Few b m (after_call slots n o)
call_few b m slots n (went c s) few = few
call_few b m slots n (broken x line l) few = few
call_few b m slots n (violated text l) few = few
call_few b m slots n (spent l) few = few
call_few b m slots n (stopped x y line l) few = few

calls_back : {b m : ℕ} {o o' : Outcome} (slots : List (Option PlainValue)) (n : ℕ) → Agree b m o o' → Agree b m (after_call slots n o) (after_call slots n o')
calls_back {b} {m} {o} slots n a = record { same = ap (after_call slots n) a.same; few = call_few b m slots n o a.few }

asks_self : (b m line : ℕ) (x y : PlainValue) (rs : List PlainEvent) (s : State) → s.replies ≡ rs → allowed b s ≤ m → Agree b m (asks b line x y rs s) (asks b line x y rs s)
asks_self b m line x y [] s is le = done _ tt
asks_self b m line x y (e ∷ es) s is le =
    let few : s.fuel + b * suc (length es) ≤ m = subst (λ r. s.fuel + b * length r ≤ m) is le in
    done _ (grind arith)

declared_few : (b m : ℕ) (x : Variable) (y : PlainValue) (s : State) → allowed b s ≤ m → Agree b m (leaves (set_variable x y s)) (leaves (set_variable x y s))
declared_few b m (Slot k) y s le = done _ le
declared_few b m (Constant k) y s le = done _ le

agreeing_ways : (g : Setting) (m : ℕ) → Ways g (Agreeing g.budget m)
agreeing_ways g m = record {
  completing = λ c. record { at = λ s le. done _ le };
  breaking = λ f line. record { at = λ s le. done _ tt };
  spending = record { at = λ s le. done _ tt };
  violating = λ text h. record { at = λ s le. done _ tt };
  asking = λ line x y h. record { at = λ s le. asks_self g.budget m line x y s.replies s refl le };
  acting = λ x h. record { at = λ s le. done _ le };
  changing = λ k x f f' h. record { at = λ s le. h.at _ le };
  declaring = λ x y. record { at = declared_few g.budget m x y };
  looking = λ f f' h. record { at = λ s le. (h s.slots s.constants s.calls).at s le };
  binding = λ f f' c c' a h. record { at = λ s le. binds c c' (a.at s le) h };
  iterating = λ f f' c c' a h. record { at = λ s le. iterates_on c c' (a.at s le) h };
  entering = λ slots n f f' h. record { at = λ s le. calls_back s.slots s.calls (h.at (record s { slots = slots; calls = n }) le) };
}

-- ---- parts and iterations

-- two ways to evaluate parts agree where no more nodes are allowed than m, and each begins a node
record Evs (b m : ℕ) (ev ev' : ℕ → State → Outcome) : Type 0 where
  agree : (k n : ℕ) (s : State) → k ≤ m → allowed b s ≤ k → Agree b (k - 1) (ev n s) (ev' n s)
  dry : (n : ℕ) (s : State) → allowed b s ≡ 0 → ev n s ≡ spends s
  dry' : (n : ℕ) (s : State) → allowed b s ≡ 0 → ev' n s ≡ spends s

parts : {b m : ℕ} {ev ev' : ℕ → State → Outcome} → Evs b m ev ev' → (k : ℕ) → k ≤ m → (n : ℕ) → Agreeing b k (ev n) (ev' n)
parts h k le n = record { at = λ s few. more (omega arith) (h.agree k n s le few) }

-- no iteration begins where no node does
dry_iterations : (way : ℕ → State → Outcome) (k : ℕ) (test : Option ℕ) (body : ℕ) (next : Option ℕ) (s : State) → ((n : ℕ) → way n s ≡ spends s) → iterations way k test body next s ≡ spends s
dry_iterations way zero test body next s dry = refl
dry_iterations way (suc k) None body next s dry = ap (λ o. after_iteration o (λ later. perhaps way next later >>= λ _. iterations way k None body next)) (dry body)
dry_iterations way (suc k) (Some test) body next s dry =
    ap (λ o. o >>= λ x. cond (is_truthy x) (λ now. after_iteration (way body now) (λ later. perhaps way next later >>= λ _. iterations way k (Some test) body next)) leaves) (dry test)

module _ (g : Setting) (m : ℕ) (ev ev' : ℕ → State → Outcome) (h : Evs g.budget m ev ev') where
  -- a body begins a node, so after it one less is allowed
  iteration_agrees : (k : ℕ) → suc k ≤ m → (test : Option ℕ) (body : ℕ) (next : Option ℕ) (again again' : State → Outcome) → Agreeing g.budget k again again' → Agreeing g.budget (suc k) (one_iteration ev test body next again) (one_iteration ev' test body next again')
  iteration_agrees k le test body next again again' a =
      bind g (Agreeing g.budget (suc k)) (agreeing_ways g (suc k)) _ _ (tests_walk g (Agreeing g.budget (suc k)) (agreeing_ways g (suc k)) ev ev' (parts h (suc k) le) test)
      (λ x. either g (Agreeing g.budget (suc k)) (agreeing_ways g (suc k)) (is_truthy x) body_and_next (leaves_walk g (Agreeing g.budget (suc k)) (agreeing_ways g (suc k))))
    where
      behind : Agreeing g.budget k (λ later. perhaps ev next later >>= λ _. again) (λ later. perhaps ev' next later >>= λ _. again')
      behind = bind g (Agreeing g.budget k) (agreeing_ways g k) _ _ (perhaps_walk g (Agreeing g.budget k) (agreeing_ways g k) ev ev' (parts h k (omega arith)) next) (λ _. a)

      body_and_next : Agreeing g.budget (suc k) (λ now. after_iteration (ev body now) (λ later. perhaps ev next later >>= λ _. again)) (λ now. after_iteration (ev' body now) (λ later. perhaps ev' next later >>= λ _. again'))
      body_and_next = record { at = λ s few. more (omega arith) (iterates_on _ _ (more (omega arith) (h.agree (suc k) body s le few)) behind) }

  iterations_agree : (test : Option ℕ) (body : ℕ) (next : Option ℕ) (k n n' : ℕ) → k ≤ n → k ≤ n' → k ≤ m → Agreeing g.budget k (iterations ev n test body next) (iterations ev' n' test body next)
  iterations_agree test body next zero n n' le le' lm = record {
    at = λ s few. both_spent s (dry_iterations ev n test body next s (λ i. h.dry i s (omega arith))) (dry_iterations ev' n' test body next s (λ i. h.dry' i s (omega arith)));
  }
  iterations_agree test body next (suc k) zero n' le le' lm = absurd (omega arith)
  iterations_agree test body next (suc k) (suc n) zero le le' lm = absurd (omega arith)
  iterations_agree test body next (suc k) (suc n) (suc n') le le' lm =
      iteration_agrees k lm test body next (iterations ev n test body next) (iterations ev' n' test body next) (iterations_agree test body next k n n' (omega arith) (omega arith) (omega arith))

-- ---- the knot

-- no node begins where none is allowed
within_dry : (g : Setting) (k n : ℕ) (s : State) → allowed g.budget s ≡ 0 → within g k n s ≡ spends s
unfolding within
within_dry g zero n s e = refl
within_dry g (suc k) n s e =
    let none : s.fuel ≡ 0 = omega arith in
    ap (λ f. begins_with f (does_node g (within g k) (iterations (within g k) k) (slice_get g.base.program.nodes n)) s) none

-- what begins with fuel
begins_agree : (b m f : ℕ) (go go' : State → Outcome) (s : State) → s.fuel ≡ f → Agreeing b m go go' → allowed b s ≤ suc m → Agree b m (begins_with f go s) (begins_with f go' s)
begins_agree b m zero go go' s is h l = done _ tt
begins_agree b m (suc f) go go' s is h l = h.at (record s { fuel = f }) (omega arith)

node_agrees : (g : Setting) (m : ℕ) (ev ev' : ℕ → State → Outcome) (repeat repeat' : Option ℕ → ℕ → Option ℕ → State → Outcome) → Evs g.budget m ev ev' →
    ((test : Option ℕ) (body : ℕ) (next : Option ℕ) → Agreeing g.budget m (repeat test body next) (repeat' test body next)) →
    (o : Option PlainNode) → Agreeing g.budget m (does_node g ev repeat o) (does_node g ev' repeat' o)
node_agrees g m ev ev' repeat repeat' h r o = node_walk g (Agreeing g.budget m) (agreeing_ways g m) ev ev' (parts h m (omega arith)) repeat repeat' r o

within_agree : (g : Setting) (top m k k' : ℕ) → m ≤ top → m ≤ k → m ≤ k' → (n : ℕ) (s : State) → allowed g.budget s ≤ m → Agree g.budget (m - 1) (within g k n s) (within g k' n s)
unfolding within
within_agree g top zero k k' lt le le' n s l = both_spent s (within_dry g k n s (omega arith)) (within_dry g k' n s (omega arith))
within_agree g zero (suc m) k k' lt le le' n s l = absurd (omega arith)
within_agree g (suc top) (suc m) zero k' lt le le' n s l = absurd (omega arith)
within_agree g (suc top) (suc m) (suc k) zero lt le le' n s l = absurd (omega arith)
within_agree g (suc top) (suc m) (suc k) (suc k') lt le le' n s l =
    let evs : Evs g.budget m (within g k) (within g k') = record {
      agree = λ j i now jm low. within_agree g top j k k' (omega arith) (omega arith) (omega arith) i now low;
      dry = within_dry g k;
      dry' = within_dry g k';
    } in
    more (omega arith) (begins_agree g.budget m s.fuel _ _ s refl
    (node_agrees g m (within g k) (within g k') (iterations (within g k) k) (iterations (within g k') k') evs
    (λ test body next. iterations_agree g m (within g k) (within g k') evs test body next m k k' (omega arith) (omega arith) (omega arith))
    (slice_get g.base.program.nodes n)) l)

-- a bound that is large enough serves
pub enough : (g : Setting) (k n : ℕ) (s : State) → allowed g.budget s ≤ k → within g k n s ≡ eval g n s
unfolding eval
enough g k n s le = (within_agree g (allowed g.budget s) (allowed g.budget s) k (allowed g.budget s) (omega arith) le (omega arith) n s (omega arith)).same

within_evs : (g : Setting) (m k : ℕ) → m ≤ k → Evs g.budget m (within g k) (eval g)
unfolding eval
within_evs g m k le = record {
  agree = λ j i now jm low. more (omega arith) (within_agree g (allowed g.budget now) (allowed g.budget now) k (allowed g.budget now) (omega arith) (omega arith) (omega arith) i now (omega arith));
  dry = within_dry g k;
  dry' = λ n s e. within_dry g (allowed g.budget s) n s e;
}

evs : (g : Setting) (m : ℕ) → Evs g.budget m (eval g) (eval g)
unfolding eval
evs g m = record {
  agree = λ j i now jm low. more (omega arith) (within_agree g (allowed g.budget now) (allowed g.budget now) (allowed g.budget now) (allowed g.budget now) (omega arith) (omega arith) (omega arith) i now (omega arith));
  dry = λ n s e. within_dry g (allowed g.budget s) n s e;
  dry' = λ n s e. within_dry g (allowed g.budget s) n s e;
}

iterations_of_agree : (g : Setting) (m k : ℕ) (ev : ℕ → State → Outcome) → Evs g.budget m ev (eval g) → (test : Option ℕ) (body : ℕ) (next : Option ℕ) → m ≤ k → Agreeing g.budget m (iterations ev k test body next) (iterations_of g test body next)
unfolding iterations_of
iterations_of_agree g m k ev h test body next le = record {
  at = λ s few. more few ((iterations_agree g m ev (eval g) h test body next (allowed g.budget s) k (allowed g.budget s) (omega arith) (omega arith) few).at s (omega arith));
}

-- the equation of `eval`
pub eval_begins : (g : Setting) (n : ℕ) (s : State) → eval g n s ≡ begins (does_node g (eval g) (iterations_of g) (slice_get g.base.program.nodes n)) s
unfolding within
eval_begins g n s =
    let m : ℕ = allowed g.budget s in
    let h : Evs g.budget m (within g m) (eval g) = within_evs g m m (omega arith) in
    sym (enough g (suc m) n s (omega arith))
    ∙ (begins_agree g.budget m s.fuel _ _ s refl
    (node_agrees g m (within g m) (eval g) (iterations (within g m) m) (iterations_of g) h (λ test body next. iterations_of_agree g m m (within g m) h test body next (omega arith)) (slice_get g.base.program.nodes n))
    (omega arith)).same

-- the equation of `iterations_of`
pub iterations_again : (g : Setting) (test : Option ℕ) (body : ℕ) (next : Option ℕ) (s : State) → iterations_of g test body next s ≡ one_iteration (eval g) test body next (iterations_of g test body next) s
iterations_again g test body next s =
    let m : ℕ = allowed g.budget s in
    let h : Evs g.budget m (eval g) (eval g) = evs g m in
    sym ((iterations_of_agree g m (suc m) (eval g) h test body next (omega arith)).at s (omega arith)).same
    ∙ ((one_iteration_walk g (Agreeing g.budget m) (agreeing_ways g m) (eval g) (eval g) (parts h m (omega arith)) test body next (iterations (eval g) m test body next) (iterations_of g test body next)
    (iterations_of_agree g m m (eval g) h test body next (omega arith))).at s (omega arith)).same

-- a completion leaves at least one node less
pub went_fewer : (g : Setting) (n : ℕ) (s t : State) (c : Completion) → eval g n s ≡ went c t → allowed g.budget t ≤ allowed g.budget s - 1
went_fewer g n s t c is = subst (Few g.budget (allowed g.budget s - 1)) is ((evs g (allowed g.budget s)).agree (allowed g.budget s) n s (omega arith) (omega arith)).few
