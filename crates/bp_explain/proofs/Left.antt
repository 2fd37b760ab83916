-- What a strategy leaves, one event after the other, and what is chosen of it.
use Rattle.std.proofs.Common.{◌≡◌, ◌∙◌, ℕ, suc, ◌+◌, ◌≤◌, arith, Bool, true, false, List, [], ◌∷◌, ◌++◌, append-nil, length, map, drop, filter, refl, ap, sym, Option, Some, None, ◌||◌}
use Rattle.std.specs.Prelude.{option_map, slice_get, nat_eq}
use Rattle.std.specs.List.{list_any}
use Rattle.std.proofs.lemmas.List.{drop_all}
use Rattle.std.proofs.lemmas.Bool.{eqb-true}
use Rattle.js_data.specs.Event.{PlainEvent}
use Rattle.js_value.specs.Value.{PlainSet}
use Rattle.bp_log.specs.declared.options.Strategy.{Strategy}
use Rattle.bp_log.specs.declared.options.Strategy.TheVariants.{Simple, Ordered, Priority}
use Rattle.bp_run.specs.Selecting.{Live}
use Rattle.bp_run.specs.Choosing.{Choice, chosen, drawn_of, is_first_of, remaining}
use Rattle.bp_explain.specs.declared.stops.Stop.{Stop}
use Rattle.bp_explain.specs.Stops.{live_of}
use Rattle.bp_explain.specs.inner.Leaving.{event_drawn, leaves}

all_kept : (es : List PlainEvent) → filter (λ e. true) es ≡ es
all_kept [] = refl
all_kept (e ∷ es) = ap (λ (xs : List PlainEvent). e ∷ xs) (all_kept es)

any_seen : (p : Live PlainSet → Bool) (ss : List Stop) → list_any (λ s. p (live_of s)) ss ≡ list_any p (map live_of ss)
any_seen p [] = refl
any_seen p (s ∷ ss) = ap (λ (b : Bool). p (live_of s) || b) (any_seen p ss)

filter_same : (p q : PlainEvent → Bool) (es : List PlainEvent) → ((e : PlainEvent) → p e ≡ q e) → filter p es ≡ filter q es
filter_same p q es h = λ i. filter (λ e. h e i) es

left_are : (strategy : Strategy) (ss : List Stop) (inner : List PlainEvent) → filter (leaves strategy ss inner) inner ≡ remaining strategy (map live_of ss) inner
left_are Simple ss inner = all_kept inner
left_are Ordered ss inner =
    filter_same (leaves Ordered ss inner) (λ e. list_any (is_first_of inner e) (map live_of ss)) inner (λ e. any_seen (is_first_of inner e) ss)
left_are Priority ss inner = refl

-- at the end those are left that the strategy leaves
pub left_last : (strategy : Strategy) (ss : List Stop) (inner : List PlainEvent) (i : ℕ) (found : List PlainEvent) → length inner ≤ i → found ++ filter (leaves strategy ss inner) (drop i inner) ≡ filter (leaves strategy ss inner) inner →
    found ≡ remaining strategy (map live_of ss) inner
left_last strategy ss inner i found h w =
    sym (append-nil found) ∙ sym (ap (λ (es : List PlainEvent). found ++ filter (leaves strategy ss inner) es) (drop_all i inner h)) ∙ w ∙ left_are strategy ss inner

-- ---- the choice

drawn_place : (word : ℕ → ℕ) (drawn : ℕ) (left : List PlainEvent) (ch : Choice) → drawn_of word drawn left ≡ Some ch → ch.place ≡ None
drawn_place word drawn [] ch h = absurd (cc)
drawn_place word drawn (e ∷ []) ch h = let k : (record { event = e; place = None; drawn = drawn }) ≡ ch = cc in ap (λ (c : Choice). c.place) (sym k)
drawn_place word drawn (e ∷ f ∷ rest) ch h = placed _ h
  where
    placed : (x : Option PlainEvent) → option_map (λ x. record { event = x; place = None; drawn = drawn + 1 }) x ≡ Some ch → ch.place ≡ None
    placed None h = absurd (cc)
    placed (Some x) h = let k : (record { event = x; place = None; drawn = drawn + 1 }) ≡ ch = cc in ap (λ (c : Choice). c.place) (sym k)

-- one of the candidates is drawn
pub is_drawn : (word : ℕ → ℕ) (s : Strategy) (ts : List (Live PlainSet)) (queue inner : List PlainEvent) (drawn : ℕ) (outer : Option ℕ) (ch : Choice) → nat_eq (length inner) 0 ≡ false → chosen word s ts queue drawn inner outer ≡ Some ch →
    (event_drawn word drawn (remaining s ts inner) ≡ Some ch.event) × (ch.place ≡ None)
is_drawn word s ts queue [] drawn outer ch n h = absurd (cc)
is_drawn word s ts queue (e ∷ es) drawn outer ch n h = (ap (λ (x : Option Choice). option_map (λ c. c.event) x) h, drawn_place word drawn (remaining s ts (e ∷ es)) ch h)

-- or one of the queue is taken
pub is_queued : (word : ℕ → ℕ) (s : Strategy) (ts : List (Live PlainSet)) (queue inner : List PlainEvent) (drawn : ℕ) (place : ℕ) (ch : Choice) → nat_eq (length inner) 0 ≡ true → chosen word s ts queue drawn inner (Some place) ≡ Some ch →
    (slice_get queue place ≡ Some ch.event) × (ch.place ≡ Some place)
is_queued word s ts queue (e ∷ es) drawn place ch n h = let k = eqb-true (suc (length es)) 0 n in absurd (omega (arith, k))
is_queued word s ts queue [] drawn place ch n h = placed (slice_get queue place) h
  where
    placed : (x : Option PlainEvent) → option_map (λ e. record { event = e; place = Some place; drawn = drawn }) x ≡ Some ch → (x ≡ Some ch.event) × (ch.place ≡ Some place)
    placed None h = absurd (cc)
    placed (Some x) h =
        let k : (record { event = x; place = Some place; drawn = drawn }) ≡ ch = cc in (ap (λ (c : Choice). Some c.event) k, ap (λ (c : Choice). c.place) (sym k))
