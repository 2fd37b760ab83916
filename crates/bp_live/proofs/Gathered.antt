-- Events that are gathered without repeats are the distinct ones.
use Rattle.std.proofs.Common.{◌≡◌, Bool, true, false, not, ◌&&◌, ◌||◌, List, [], ◌∷◌, ◌++◌, refl, ap, sym, ◌∙◌, subst, append_assoc, append-nil, filter, cond, if◌then◌else◌, fold}
use Rattle.std.specs.List.{list_any}
use Rattle.std.proofs.lemmas.List.Folds.{list_any-append}
use Rattle.js_data.specs.Event.{PlainEvent, same_event}
use Rattle.js_data.proofs.SameEvent.{same_event-sound}
use Rattle.bp_run.specs.Selecting.{distinct}
use Rattle.bp_run.proofs.Chosen.{among, other}
use Rattle.bp_roll.specs.Keys.{same_sym}

-- e at the end, unless it is there
abbrev pub with_new : List PlainEvent → PlainEvent → List PlainEvent
with_new xs e = if list_any (same_event e) xs then xs else xs ++ e ∷ []

abbrev pub with_all : List PlainEvent → List PlainEvent → List PlainEvent
with_all xs es = fold with_new xs es

-- ---- filters

-- what fails a test is no loss to what passes it
drop_failing_at : (p : PlainEvent → Bool) (e x : PlainEvent) (xs : List PlainEvent) (b : Bool) → p e ≡ false → same_event e x ≡ b → filter p (filter (other e) xs) ≡ filter p xs →
    filter p (cond (not b) (x ∷ filter (other e) xs) (filter (other e) xs)) ≡ cond (p x) (x ∷ filter p xs) (filter p xs)
drop_failing_at p e x xs true h k ih =
    let q : p x ≡ false = subst (λ (y : PlainEvent). p y ≡ false) (same_event-sound e x k) h in
    rw q ih
drop_failing_at p e x xs false h k ih = ap (λ (ys : List PlainEvent). cond (p x) (x ∷ ys) ys) ih

filter-filter-other : (p : PlainEvent → Bool) (e : PlainEvent) (xs : List PlainEvent) → p e ≡ false → filter p (filter (other e) xs) ≡ filter p xs
filter-filter-other p e [] h = refl
filter-filter-other p e (x ∷ xs) h = drop_failing_at p e x xs (same_event e x) h refl (filter-filter-other p e xs h)

both_at : (p q : PlainEvent → Bool) (e x : PlainEvent) (xs : List PlainEvent) (b : Bool) → other e x ≡ b → q x ≡ (b && p x) → filter q xs ≡ filter p (filter (other e) xs) →
    cond (q x) (x ∷ filter q xs) (filter q xs) ≡ filter p (cond b (x ∷ filter (other e) xs) (filter (other e) xs))
both_at p q e x xs true h k ih = rw (k, ih) refl
both_at p q e x xs false h k ih = rw (k, ih) refl

-- two tests one after the other
filter-both : (p q : PlainEvent → Bool) (e : PlainEvent) (xs : List PlainEvent) → ((x : PlainEvent) → q x ≡ (other e x && p x)) → filter q xs ≡ filter p (filter (other e) xs)
filter-both p q e [] h = refl
filter-both p q e (x ∷ xs) h = both_at p q e x xs (other e x) refl (h x) (filter-both p q e xs h)

-- ---- one more

not_or : (a b c : Bool) → not (a || (b || false)) ≡ (not b && not a)
not_or true true c = refl
not_or true false c = refl
not_or false true c = refl
not_or false false c = refl

not_among : (acc : List PlainEvent) (e x : PlainEvent) → not (among x (acc ++ e ∷ [])) ≡ (other e x && not (among x acc))
not_among acc e x =
    ap (λ (b : Bool). not b) (list_any-append (same_event x) acc (e ∷ []))
    ∙ not_or (among x acc) (same_event x e) true
    ∙ ap (λ (b : Bool). not b && not (among x acc)) (same_sym x e)

-- ---- all

gathered_at : (acc : List PlainEvent) (e : PlainEvent) (ds : List PlainEvent) (b : Bool) → among e acc ≡ b →
    (if b then acc else acc ++ e ∷ []) ++ filter (λ x. not (among x (if b then acc else acc ++ e ∷ []))) ds
    ≡ acc ++ cond (not b) (e ∷ filter (λ x. not (among x acc)) (filter (other e) ds)) (filter (λ x. not (among x acc)) (filter (other e) ds))
gathered_at acc e ds true h =
    ap (λ (xs : List PlainEvent). acc ++ xs) (sym (filter-filter-other (λ x. not (among x acc)) e ds (ap (λ (b : Bool). not b) h)))
gathered_at acc e ds false h =
    append_assoc acc (e ∷ []) (filter (λ x. not (among x (acc ++ e ∷ []))) ds)
    ∙ ap (λ (xs : List PlainEvent). acc ++ e ∷ xs) (filter-both (λ x. not (among x acc)) (λ x. not (among x (acc ++ e ∷ []))) e ds (λ x. not_among acc e x))

gathered_from : (acc xs : List PlainEvent) → with_all acc xs ≡ acc ++ filter (λ x. not (among x acc)) (distinct xs)
gathered_from acc [] = sym (append-nil acc)
gathered_from acc (e ∷ es) = gathered_from (with_new acc e) es ∙ gathered_at acc e (distinct es) (among e acc) refl

filter_all : (xs : List PlainEvent) → filter (λ x. true) xs ≡ xs
filter_all [] = refl
filter_all (x ∷ xs) = ap (λ (ys : List PlainEvent). x ∷ ys) (filter_all xs)

pub gathered : (xs : List PlainEvent) → with_all [] xs ≡ distinct xs
gathered xs = gathered_from [] xs ∙ filter_all (distinct xs)
