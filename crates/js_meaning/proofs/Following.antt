-- What any outcome leaves follows on the state, and does to the run what the mode allows, under any
-- bound of the recursion.
use Rattle.std.proofs.Common.{◌≡◌, ℕ, zero, suc, true, false, List, [], ◌∷◌, Option, Some, None, refl, sym, ap, ◌∙◌}
use Rattle.std.specs.Prelude.{slice_get, option_map, length}
use Rattle.std.proofs.lemmas.Bool.{false≢true}
use Rattle.js_data.specs.Event.{PlainEvent}
use Rattle.js_value.specs.Value.{PlainValue}
use Rattle.js_program.specs.declared.builtin.Builtin.{Builtin}
use Rattle.js_program.specs.declared.builtin.Builtin.TheVariants as form
use Rattle.js_program.specs.declared.builtin.Mode.{Mode}
use Rattle.js_program.specs.Builtins.{has_effect_in}
use Rattle.js_program.specs.declared.node.Variable.{Variable}
use Rattle.js_program.specs.declared.node.Variable.TheVariants.{Slot, Constant}
use Rattle.js_meaning.specs.State.{Ground, Setting, State, Completion, normal, broke, continued, returned, Left, left_by, Outcome, went, broken, violated, spent, spends, stopped, ◌>>=◌}
use Rattle.js_meaning.specs.Variables.{set_slot, set_variable}
use Rattle.js_meaning.specs.Calls.{after_call}
use Rattle.js_meaning.specs.Forms.{asks}
use Rattle.js_meaning.specs.Statements.{after_iteration, iterations}
use Rattle.js_meaning.specs.Meaning.{does_node, begins_with, within, allowed, eval}
use Rattle.js_meaning.specs.Bodies.{Origin, function, mode_of, setting_of, start_of, evaluation}
use Rattle.js_meaning.specs.Later.{Later, Beyond, Follows}
use Rattle.js_meaning.specs.Modes.{acts, OnlyAnswers, StandsOnGround}
use Rattle.js_meaning.proofs.Later.{later_refl, same_beyond, later_trans, beyond_trans, set_later, declared_later, added_later, begun_later, spent_beyond, replied_later, returned_later, in_body_beyond}
use Rattle.js_meaning.proofs.Walk.{Ways, one_iteration_walk, node_walk, body_walk}

-- a state that follows; where forms do not act, it has the same effects
record On (g : Setting) (s t : State) : Type 0 where
  later : Later g.budget s t
  kept : acts g.mode ≡ false → t.effects ≡ s.effects

record Ended (g : Setting) (s : State) (l : Left) : Type 0 where
  beyond : Beyond g.budget s l
  kept : acts g.mode ≡ false → l.effects ≡ s.effects

-- ended by a form, where it has its effect
record By (g : Setting) (f : Builtin) (s : State) (l : Left) : Type 0 where
  beyond : Beyond g.budget s l
  has_effect : has_effect_in g.mode f ≡ true

record Out (g : Setting) (s : State) (l : Left) : Type 0 where
  ended : Ended g s l
  none : l.fuel ≡ 0

abbrev Holds : Setting → State → Outcome → Type 0
Holds g s (went c t) = On g s t
Holds g s (broken f line l) = Ended g s l
Holds g s (violated text l) = By g form.Assert s l
Holds g s (spent l) = Out g s l
Holds g s (stopped x y line l) = By g form.Sync s l

pub record Well (g : Setting) (s : State) (o : Outcome) : Type 0 where
  holds : Holds g s o

-- the second way goes well from every state
pub record Sure (g : Setting) (f f' : State → Outcome) : Type 0 where
  pub at : (s : State) → Well g s (f' s)

done : {g : Setting} {s : State} (o : Outcome) → Holds g s o → Well g s o
done o h = record { holds = h }

on_refl : (g : Setting) (s : State) → On g s s
on_refl g s = record { later = later_refl g.budget s; kept = λ _. refl }

on_trans : {g : Setting} {s t u : State} → On g s t → On g t u → On g s u
on_trans x y = record { later = later_trans x.later y.later; kept = λ a. y.kept a ∙ x.kept a }

ended_trans : {g : Setting} {s t : State} {l : Left} → On g s t → Ended g t l → Ended g s l
ended_trans x y = record { beyond = beyond_trans x.later y.beyond; kept = λ a. y.kept a ∙ x.kept a }

by_trans : {g : Setting} {f : Builtin} {s t : State} {l : Left} → On g s t → By g f t l → By g f s l
by_trans x y = record { beyond = beyond_trans x.later y.beyond; has_effect = y.has_effect }

from_self : (g : Setting) (s t : State) (o : Outcome) → On g s t → Holds g t o → Holds g s o
from_self g s t (went c u) x h = on_trans x h
from_self g s t (broken f line l) x h = ended_trans x h
from_self g s t (violated text l) x h = by_trans x h
from_self g s t (spent l) x h = record { ended = ended_trans x h.ended; none = h.none }
from_self g s t (stopped x' y line l) x h = by_trans x h

-- from an earlier state
from : {g : Setting} {s t : State} {o : Outcome} → On g s t → Well g t o → Well g s o
from {g} {s} {t} {o} x h = record { holds = from_self g s t o x h.holds }

bind_self : (g : Setting) (s : State) (o : Outcome) (c : PlainValue → State → Outcome) → Holds g s o → ((x : PlainValue) → Sure g (c x) (c x)) → Well g s (o >>= c)
bind_self g s (went (normal x) t) c l h = from l ((h x).at t)
bind_self g s (went broke t) c l h = done _ l
bind_self g s (went continued t) c l h = done _ l
bind_self g s (went (returned x) t) c l h = done _ l
bind_self g s (broken x line e) c l h = done _ l
bind_self g s (violated text e) c l h = done _ l
bind_self g s (spent e) c l h = done _ l
bind_self g s (stopped x y line e) c l h = done _ l

iteration_self : (g : Setting) (s : State) (o : Outcome) (c : State → Outcome) → Holds g s o → Sure g c c → Well g s (after_iteration o c)
iteration_self g s (went (normal x) t) c l h = from l (h.at t)
iteration_self g s (went broke t) c l h = done _ l
iteration_self g s (went continued t) c l h = from l (h.at t)
iteration_self g s (went (returned x) t) c l h = done _ l
iteration_self g s (broken x line e) c l h = done _ l
iteration_self g s (violated text e) c l h = done _ l
iteration_self g s (spent e) c l h = done _ l
iteration_self g s (stopped x y line e) c l h = done _ l

call_self : (g : Setting) (s : State) (slots : List (Option PlainValue)) (n : ℕ) (o : Outcome) → Holds g (record s { slots = slots; calls = n }) o → Well g s (after_call s.slots s.calls o)
call_self g s slots n (went c t) l = done _ (record { later = returned_later g.budget s slots n t l.later; kept = l.kept })
call_self g s slots n (broken x line e) l = done _ (record { beyond = in_body_beyond g.budget s slots n e l.beyond; kept = l.kept })
call_self g s slots n (violated text e) l = done _ (record { beyond = in_body_beyond g.budget s slots n e l.beyond; has_effect = l.has_effect })
call_self g s slots n (spent e) l = done _ (record { ended = record { beyond = in_body_beyond g.budget s slots n e l.ended.beyond; kept = l.ended.kept }; none = l.none })
call_self g s slots n (stopped x y line e) l = done _ (record { beyond = in_body_beyond g.budget s slots n e l.beyond; has_effect = l.has_effect })

asks_self : (g : Setting) (line : ℕ) (x y : PlainValue) (rs : List PlainEvent) (s : State) → s.replies ≡ rs → has_effect_in g.mode form.Sync ≡ true → Well g s (asks g.budget line x y rs s)
asks_self g line x y [] s is h = done _ (record { beyond = same_beyond g.budget s; has_effect = h })
asks_self g line x y (e ∷ es) s is h = done _ (record { later = replied_later g.budget s e es is; kept = λ _. refl })

sure_once : {g : Setting} {f f' : State → Outcome} → Sure g f f' → Sure g f' f'
sure_once h = record { at = h.at }

spends_well : (g : Setting) (s : State) → Well g s (spends s)
spends_well g s = done _ (record { ended = record { beyond = spent_beyond g.budget s; kept = λ _. refl }; none = refl })

pub sure_ways : (g : Setting) → Ways g (Sure g)
sure_ways g = record {
  completing = λ c. record { at = λ s. done _ (on_refl g s) };
  breaking = λ f line. record { at = λ s. done _ (record { beyond = same_beyond g.budget s; kept = λ _. refl }) };
  spending = record { at = spends_well g };
  violating = λ text h. record { at = λ s. done _ (record { beyond = same_beyond g.budget s; has_effect = h }) };
  asking = λ line x y h. record { at = λ s. asks_self g line x y s.replies s refl h };
  acting = λ x h. record { at = λ s. done _ (record { later = added_later g.budget x s; kept = λ a. absurd (false≢true (sym a ∙ h)) }) };
  changing = λ k x f f' h. record { at = λ s. from (record { later = set_later g.budget k x s; kept = λ _. refl }) (h.at (set_slot k x s)) };
  declaring = λ x y. record { at = λ s. done _ (record { later = declared_later g.budget x y s; kept = λ _. same_effects x y s }) };
  looking = λ f f' h. record { at = λ s. (h s.slots s.constants s.calls).at s };
  binding = λ f f' c c' a h. record { at = λ s. bind_self g s (f' s) c' (a.at s).holds (λ x. sure_once (h x)) };
  iterating = λ f f' c c' a h. record { at = λ s. iteration_self g s (f' s) c' (a.at s).holds (sure_once h) };
  entering = λ slots n f f' h. record { at = λ s. call_self g s slots n (f' (record s { slots = slots; calls = n })) (h.at (record s { slots = slots; calls = n })).holds };
}
  where
    same_effects : (x : Variable) (y : PlainValue) (s : State) → (set_variable x y s).effects ≡ s.effects
    same_effects (Slot k) y s = refl
    same_effects (Constant k) y s = refl

-- ---- the knot

pub iterations_sure : (g : Setting) (ev : ℕ → State → Outcome) → ((n : ℕ) → Sure g (ev n) (ev n)) → (k : ℕ) (test : Option ℕ) (body : ℕ) (next : Option ℕ) → Sure g (iterations ev k test body next) (iterations ev k test body next)
iterations_sure g ev h zero test body next = record { at = spends_well g }
iterations_sure g ev h (suc k) test body next = one_iteration_walk g (Sure g) (sure_ways g) ev ev h test body next _ _ (iterations_sure g ev h k test body next)

begins_well : (g : Setting) (fuel : ℕ) (go : State → Outcome) (s : State) → s.fuel ≡ fuel → Sure g go go → Well g s (begins_with fuel go s)
begins_well g zero go s is h = spends_well g s
begins_well g (suc fuel) go s is h = from (record { later = begun_later g.budget s fuel is; kept = λ _. refl }) (h.at (record s { fuel = fuel }))

pub within_sure : (g : Setting) (k n : ℕ) → Sure g (within g k n) (within g k n)
unfolding within
within_sure g zero n = record { at = spends_well g }
within_sure g (suc k) n = record {
  at = λ s. begins_well g s.fuel (does_node g (within g k) (iterations (within g k) k) (slice_get g.base.program.nodes n)) s refl
      (node_walk g (Sure g) (sure_ways g) (within g k) (within g k) (within_sure g k) (iterations (within g k) k) (iterations (within g k) k)
      (iterations_sure g (within g k) (within_sure g k) k) (slice_get g.base.program.nodes n));
}

eval_well : (g : Setting) (n : ℕ) (s : State) → Well g s (eval g n s)
unfolding eval
eval_well g n s = (within_sure g (allowed g.budget s) n).at s

pub eval_sure : (g : Setting) (n : ℕ) → Sure g (eval g n) (eval g n)
eval_sure g n = record { at = eval_well g n }

evaluation_well : (base : Ground) (budget : ℕ) (o : Origin) (replies : List PlainEvent) → Well (setting_of base budget o) (start_of base budget o replies) (evaluation base budget o replies)
unfolding evaluation
evaluation_well base budget o replies =
    (body_walk (setting_of base budget o) (Sure (setting_of base budget o)) (sure_ways (setting_of base budget o)) (eval (setting_of base budget o)) (eval (setting_of base budget o))
    (eval_sure (setting_of base budget o)) o).at (start_of base budget o replies)

-- ---- what follows from it

follows : (g : Setting) (s : State) (o : Outcome) → Holds g s o → Follows g.budget s o
follows g s (went c t) h = h.later
follows g s (broken f line l) h = h.beyond
follows g s (violated text l) h = h.beyond
follows g s (spent l) h = (h.ended.beyond, h.none)
follows g s (stopped x y line l) h = h.beyond

answers : (g : Setting) (s : State) (o : Outcome) → Holds g s o → OnlyAnswers g.mode s o
answers g s (went c t) h = h.kept
answers g s (broken f line l) h = h.kept
answers g s (violated text l) h = h.has_effect
answers g s (spent l) h = h.ended.kept
answers g s (stopped x y line l) h = h.has_effect

on_ground : (g : Setting) (s : State) (o : Outcome) → s.constants ≡ None → Holds g s o → StandsOnGround o
on_ground g s (went c t) none h = no_list t.constants (h.later.constants ∙ ap (option_map length) none)
  where
    no_list : (o : Option (List (Option PlainValue))) → option_map length o ≡ None → o ≡ None
    no_list None e = refl
    no_list (Some cs) e = absurd (some_none e)
      where
        some_none : Some (length cs) ≡ None → ⊥
        some_none e = cc
on_ground g s (broken f line l) none h = tt
on_ground g s (violated text l) none h = tt
on_ground g s (spent l) none h = tt
on_ground g s (stopped x y line l) none h = tt

pub left_follows : (g : Setting) (s : State) (o : Outcome) → Well g s o → Beyond g.budget s (left_by o)
left_follows g s (went c t) h = h.holds.later.left
left_follows g s (broken f line l) h = h.holds.beyond
left_follows g s (violated text l) h = h.holds.beyond
left_follows g s (spent l) h = h.holds.ended.beyond
left_follows g s (stopped x y line l) h = h.holds.beyond

pub later_of : (g : Setting) (s t : State) (c : Completion) → Well g s (went c t) → Later g.budget s t
later_of g s t c h = h.holds.later

pub eval_follows : (g : Setting) (n : ℕ) (s : State) → Follows g.budget s (eval g n s)
eval_follows g n s = follows g s (eval g n s) (eval_well g n s).holds

pub body_follows : (base : Ground) (budget : ℕ) (o : Origin) (replies : List PlainEvent) → Follows budget (start_of base budget o replies) (evaluation base budget o replies)
body_follows base budget o replies = follows (setting_of base budget o) (start_of base budget o replies) (evaluation base budget o replies) (evaluation_well base budget o replies).holds

pub eval_answers : (g : Setting) (n : ℕ) (s : State) → OnlyAnswers g.mode s (eval g n s)
eval_answers g n s = answers g s (eval g n s) (eval_well g n s).holds

pub body_answers : (base : Ground) (budget : ℕ) (o : Origin) (replies : List PlainEvent) → OnlyAnswers (mode_of o) (start_of base budget o replies) (evaluation base budget o replies)
body_answers base budget o replies = answers (setting_of base budget o) (start_of base budget o replies) (evaluation base budget o replies) (evaluation_well base budget o replies).holds

pub eval_on_ground : (g : Setting) (n : ℕ) (s : State) → s.constants ≡ None → StandsOnGround (eval g n s)
eval_on_ground g n s none = on_ground g s (eval g n s) none (eval_well g n s).holds

pub body_on_ground : (base : Ground) (budget : ℕ) (mode : Mode) (f : PlainValue) (args : List PlainValue) (replies : List PlainEvent) → StandsOnGround (evaluation base budget (function mode f args) replies)
body_on_ground base budget mode f args replies =
    on_ground (setting_of base budget (function mode f args)) (start_of base budget (function mode f args) replies) (evaluation base budget (function mode f args) replies) refl
    (evaluation_well base budget (function mode f args) replies).holds
