-- With more replies an evaluation that stopped goes on, and every other one is the same.
use Rattle.std.proofs.Common.{◌≡◌, ℕ, zero, suc, ◌+◌, List, [], ◌∷◌, ◌++◌, length, Option, refl, sym, ap, ◌∙◌, subst, arith}
use Rattle.std.specs.Prelude.{slice_get, drop}
use Rattle.std.proofs.Math.Seq.{drop-append_seam}
use Rattle.std.proofs.lemmas.List.{append_assoc, append-nil}
use Rattle.js_data.specs.Event.{PlainEvent}
use Rattle.js_value.specs.Value.{PlainValue}
use Rattle.js_program.specs.declared.node.Variable.{Variable}
use Rattle.js_program.specs.declared.node.Variable.TheVariants.{Slot, Constant}
use Rattle.js_meaning.specs.State.{Ground, Setting, Effect, State, normal, broke, continued, returned, Left, Outcome, went, broken, violated, spent, stopped, ◌>>=◌, leaves, effects_of, effects_since}
use Rattle.js_meaning.specs.Variables.{set_variable}
use Rattle.js_meaning.specs.Calls.{after_call}
use Rattle.js_meaning.specs.Forms.{asks}
use Rattle.js_meaning.specs.Statements.{after_iteration, iterations}
use Rattle.js_meaning.specs.Meaning.{does_node, begins_with, within, allowed, eval}
use Rattle.js_meaning.specs.Bodies.{Origin, setting_of, start_of, evaluation}
use Rattle.js_meaning.specs.Replies.{with_more, TookAll, Behind, GoesOn}
use Rattle.js_meaning.proofs.Later.{none_later}
use Rattle.js_meaning.proofs.Walk.{Ways, one_iteration_walk, node_walk, body_walk}
use Rattle.js_meaning.proofs.Following.{Well, Sure, sure_ways, within_sure, eval_sure, left_follows, later_of}
use Rattle.js_meaning.proofs.Bound.{enough}

module _ (g : Setting) (more : List PlainEvent) where
  -- with more replies the second way is as the first one or goes on, and it goes well from every state
  record Way (f f' : State → Outcome) : Type 0 where
    goes : (s : State) → GoesOn more (f s) (f' (with_more more s))
    sure : Sure g f f'

  took_all : (s : State) (o : Outcome) → Well g s o → s.replies ≡ [] → TookAll o
  took_all s (went c t) h none = none_later (later_of g s t c h) none
  took_all s (broken f line l) h none = tt
  took_all s (violated text l) h none = tt
  took_all s (spent l) h none = tt
  took_all s (stopped x y line l) h none = tt

  -- goes on from a state
  onward : (es : List Effect) (s : State) (o : Outcome) → Well g s o → (added : List Effect) → s.effects ≡ es ++ added → (length more ≡ 1 → s.delivered ≡ length es) → (length more ≡ 1 → s.replies ≡ []) → Behind more es o
  onward es s o h added are delivered none = record {
    added = added ++ (left_follows g s o h).added;
    effects_are = (left_follows g s o h).effects ∙ ap (λ x. x ++ (left_follows g s o h).added) are ∙ append_assoc es added (left_follows g s o h).added;
    delivered = λ one. (left_follows g s o h).same_delivered (none one) ∙ delivered one;
    took_all = λ one. took_all s o h (none one);
  }

  bind_behind : (es : List Effect) (o : Outcome) (c c' : PlainValue → State → Outcome) → ((x : PlainValue) → Sure g (c x) (c' x)) → Behind more es o → Behind more es (o >>= c')
  bind_behind es (went (normal x) s) c c' h b = onward es s (c' x s) ((h x).at s) b.added b.effects_are b.delivered b.took_all
  bind_behind es (went broke s) c c' h b = b
  bind_behind es (went continued s) c c' h b = b
  bind_behind es (went (returned x) s) c c' h b = b
  bind_behind es (broken f line l) c c' h b = b
  bind_behind es (violated text l) c c' h b = b
  bind_behind es (spent l) c c' h b = b
  bind_behind es (stopped x y line l) c c' h b = b

  bind_goes : (o o' : Outcome) (c c' : PlainValue → State → Outcome) → ((x : PlainValue) → Way (c x) (c' x)) → GoesOn more o o' → GoesOn more (o >>= c) (o' >>= c')
  bind_goes (went (normal x) s) o' c c' h e = subst (λ r. GoesOn more (c x s) (r >>= c')) (sym e) ((h x).goes s)
  bind_goes (went broke s) o' c c' h e = ap (λ r. r >>= c') e
  bind_goes (went continued s) o' c c' h e = ap (λ r. r >>= c') e
  bind_goes (went (returned x) s) o' c c' h e = ap (λ r. r >>= c') e
  bind_goes (broken f line l) o' c c' h e = ap (λ r. r >>= c') e
  bind_goes (violated text l) o' c c' h e = ap (λ r. r >>= c') e
  bind_goes (spent l) o' c c' h e = ap (λ r. r >>= c') e
  bind_goes (stopped x y line l) o' c c' h e = bind_behind l.effects o' c c' (λ z. (h z).sure) e

  iteration_behind : (es : List Effect) (o : Outcome) (c c' : State → Outcome) → Sure g c c' → Behind more es o → Behind more es (after_iteration o c')
  iteration_behind es (went (normal x) s) c c' h b = onward es s (c' s) (h.at s) b.added b.effects_are b.delivered b.took_all
  iteration_behind es (went broke s) c c' h b = record { added = b.added; effects_are = b.effects_are; delivered = b.delivered; took_all = b.took_all }
  iteration_behind es (went continued s) c c' h b = onward es s (c' s) (h.at s) b.added b.effects_are b.delivered b.took_all
  iteration_behind es (went (returned x) s) c c' h b = b
  iteration_behind es (broken f line l) c c' h b = b
  iteration_behind es (violated text l) c c' h b = b
  iteration_behind es (spent l) c c' h b = b
  iteration_behind es (stopped x y line l) c c' h b = b

  iteration_goes : (o o' : Outcome) (c c' : State → Outcome) → Way c c' → GoesOn more o o' → GoesOn more (after_iteration o c) (after_iteration o' c')
  iteration_goes (went (normal x) s) o' c c' h e = subst (λ r. GoesOn more (c s) (after_iteration r c')) (sym e) (h.goes s)
  iteration_goes (went broke s) o' c c' h e = ap (λ r. after_iteration r c') e
  iteration_goes (went continued s) o' c c' h e = subst (λ r. GoesOn more (c s) (after_iteration r c')) (sym e) (h.goes s)
  iteration_goes (went (returned x) s) o' c c' h e = ap (λ r. after_iteration r c') e
  iteration_goes (broken f line l) o' c c' h e = ap (λ r. after_iteration r c') e
  iteration_goes (violated text l) o' c c' h e = ap (λ r. after_iteration r c') e
  iteration_goes (spent l) o' c c' h e = ap (λ r. after_iteration r c') e
  iteration_goes (stopped x y line l) o' c c' h e = iteration_behind l.effects o' c c' h.sure e

  call_behind : (es : List Effect) (slots : List (Option PlainValue)) (n : ℕ) (o : Outcome) → Behind more es o → Behind more es (after_call slots n o)
  call_behind es slots n (went c s) b = record { added = b.added; effects_are = b.effects_are; delivered = b.delivered; took_all = b.took_all }
  call_behind es slots n (broken f line l) b = b
  call_behind es slots n (violated text l) b = b
  call_behind es slots n (spent l) b = b
  call_behind es slots n (stopped x y line l) b = b

  call_goes : (slots : List (Option PlainValue)) (n : ℕ) (o o' : Outcome) → GoesOn more o o' → GoesOn more (after_call slots n o) (after_call slots n o')
  call_goes slots n (went c s) o' e = ap (after_call slots n) e
  call_goes slots n (broken f line l) o' e = ap (after_call slots n) e
  call_goes slots n (violated text l) o' e = ap (after_call slots n) e
  call_goes slots n (spent l) o' e = ap (after_call slots n) e
  call_goes slots n (stopped x y line l) o' e = call_behind l.effects slots n o' e

  -- a stop and the first of more replies
  asks_behind : (line : ℕ) (x y : PlainValue) (rs : List PlainEvent) (s : State) → Behind rs s.effects (asks g.budget line x y rs s)
  asks_behind line x y [] s = record { added = []; effects_are = sym (append-nil s.effects); delivered = λ one. absurd (omega arith); took_all = λ one. tt }
  asks_behind line x y (e ∷ []) s = record { added = []; effects_are = sym (append-nil s.effects); delivered = λ one. refl; took_all = λ one. refl }
  asks_behind line x y (e ∷ f ∷ es) s = record { added = []; effects_are = sym (append-nil s.effects); delivered = λ one. refl; took_all = λ one. absurd (omega arith) }

  asks_goes : (line : ℕ) (x y : PlainValue) (rs : List PlainEvent) (s : State) → GoesOn more (asks g.budget line x y rs s) (asks g.budget line x y (rs ++ more) (with_more more s))
  asks_goes line x y [] s = asks_behind line x y more (with_more more s)
  asks_goes line x y (e ∷ es) s = refl

  declared_goes : (x : Variable) (y : PlainValue) (s : State) → GoesOn more (leaves (set_variable x y s)) (leaves (set_variable x y (with_more more s)))
  declared_goes (Slot k) y s = refl
  declared_goes (Constant k) y s = refl

  ways : Ways g Way
  ways = record {
    completing = λ c. record { goes = λ s. refl; sure = (sure_ways g).completing c };
    breaking = λ f line. record { goes = λ s. refl; sure = (sure_ways g).breaking f line };
    spending = record { goes = λ s. refl; sure = (sure_ways g).spending };
    violating = λ text h. record { goes = λ s. refl; sure = (sure_ways g).violating text h };
    asking = λ line x y h. record { goes = λ s. asks_goes line x y s.replies s; sure = (sure_ways g).asking line x y h };
    acting = λ x h. record { goes = λ s. refl; sure = (sure_ways g).acting x h };
    changing = λ k x f f' h. record { goes = λ s. h.goes _; sure = (sure_ways g).changing k x f f' h.sure };
    declaring = λ x y. record { goes = declared_goes x y; sure = (sure_ways g).declaring x y };
    looking = λ f f' h. record { goes = λ s. (h s.slots s.constants s.calls).goes s; sure = (sure_ways g).looking f f' (λ slots constants n. (h slots constants n).sure) };
    binding = λ f f' c c' a h. record { goes = λ s. bind_goes (f s) (f' (with_more more s)) c c' h (a.goes s); sure = (sure_ways g).binding f f' c c' a.sure (λ x. (h x).sure) };
    iterating = λ f f' c c' a h. record { goes = λ s. iteration_goes (f s) (f' (with_more more s)) c c' h (a.goes s); sure = (sure_ways g).iterating f f' c c' a.sure h.sure };
    entering = λ slots n f f' h. record {
      goes = λ s. call_goes s.slots s.calls (f (record s { slots = slots; calls = n })) (f' (with_more more (record s { slots = slots; calls = n }))) (h.goes (record s { slots = slots; calls = n }));
      sure = (sure_ways g).entering slots n f f' h.sure;
    };
  }

  iterations_way : (ev : ℕ → State → Outcome) → ((n : ℕ) → Way (ev n) (ev n)) → (k : ℕ) (test : Option ℕ) (body : ℕ) (next : Option ℕ) → Way (iterations ev k test body next) (iterations ev k test body next)
  iterations_way ev h zero test body next = ways.spending
  iterations_way ev h (suc k) test body next = one_iteration_walk g Way ways ev ev h test body next _ _ (iterations_way ev h k test body next)

  begins_goes : (go : State → Outcome) → Way go go → (fuel : ℕ) (s : State) → GoesOn more (begins_with fuel go s) (begins_with fuel go (with_more more s))
  begins_goes go h zero s = refl
  begins_goes go h (suc fuel) s = h.goes (record s { fuel = fuel })

  within_way : (k n : ℕ) → Way (within g k n) (within g k n)
  unfolding within
  within_way zero n = ways.spending
  within_way (suc k) n = record {
    goes = λ s. begins_goes (does_node g (within g k) (iterations (within g k) k) (slice_get g.base.program.nodes n))
        (node_walk g Way ways (within g k) (within g k) (within_way k) (iterations (within g k) k) (iterations (within g k) k) (iterations_way (within g k) (within_way k) k) (slice_get g.base.program.nodes n)) s.fuel s;
    sure = within_sure g (suc k) n;
  }

  -- a bound that is enough for both
  eval_goes : (n : ℕ) (s : State) → GoesOn more (eval g n s) (eval g n (with_more more s))
  eval_goes n s =
      let bound : ℕ = allowed g.budget s + allowed g.budget (with_more more s) in
      subst (λ o. GoesOn more o (eval g n (with_more more s))) (enough g bound n s (omega arith))
      (subst (λ o. GoesOn more (within g bound n s) o) (enough g bound n (with_more more s) (omega arith)) ((within_way bound n).goes s))

pub eval_goes_on : (g : Setting) (n : ℕ) (s : State) (more : List PlainEvent) → GoesOn more (eval g n s) (eval g n (with_more more s))
eval_goes_on g n s more = eval_goes g more n s

pub body_goes_on : (base : Ground) (budget : ℕ) (o : Origin) (replies more : List PlainEvent) → GoesOn more (evaluation base budget o replies) (evaluation base budget o (replies ++ more))
unfolding evaluation
body_goes_on base budget o replies more =
    let g : Setting = setting_of base budget o in
    (body_walk g (Way g more) (ways g more) (eval g) (eval g) (λ n. record { goes = eval_goes g more n; sure = eval_sure g n }) o).goes (start_of base budget o replies)

-- what comes after the front
since : (es : List Effect) (e : PlainEvent) (o : Outcome) → Behind (e ∷ []) es o → effects_of o ≡ es ++ effects_since o
since es e o b =
    b.effects_are ∙ ap (λ x. es ++ x) (sym (ap (λ n. drop n (effects_of o)) (b.delivered refl) ∙ ap (drop (length es)) b.effects_are ∙ drop-append_seam es b.added))

pub reply_delivers : (base : Ground) (budget : ℕ) (o : Origin) (replies : List PlainEvent) (e : PlainEvent) (statement priority : PlainValue) (line : ℕ) (l : Left) →
    evaluation base budget o replies ≡ stopped statement priority line l →
    effects_of (evaluation base budget o (replies ++ e ∷ [])) ≡ l.effects ++ effects_since (evaluation base budget o (replies ++ e ∷ []))
reply_delivers base budget o replies e statement priority line l is =
    since l.effects e (evaluation base budget o (replies ++ e ∷ [])) (subst (λ x. GoesOn (e ∷ []) x (evaluation base budget o (replies ++ e ∷ []))) is (body_goes_on base budget o replies (e ∷ [])))
