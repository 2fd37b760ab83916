-- A transition doesn't read what an ended b-thread ran and received.
use Rattle.std.proofs.Common.{◌≡◌, ℕ, zero, suc, Bool, true, false, List, [], ◌∷◌, ◌++◌, map, refl, sym, ap, ◌∙◌, Option, Some, None, Ok, if◌then◌else◌, ◌==◌, slice_get, option_map, append_assoc, arith}
use Rattle.std.specs.List.{cons_option}
use Rattle.std.proofs.lemmas.Option.{slice_get-map}
use Rattle.js_data.specs.Event.{PlainEvent}
use Rattle.bp_log.specs.declared.trace.Line.{Line}
use Rattle.bp_run.specs.Bodies.{Code}
use Rattle.bp_run.specs.Configuration.{Stand, Thread, change}
use Rattle.bp_run.specs.Settling.{Entry, Pair, before}
use Rattle.bp_run.specs.Settling.Entry.{Runs, Stops}
use Rattle.bp_run.specs.Selecting.{Live, stated, live_from, live}
use Rattle.bp_run.specs.Choosing.{Touched, reach}
use Rattle.bp_run.specs.Choosing.Touched.{Moves, Interrupts}
use Rattle.bp_run.specs.Numbers.{number_in, touch_at, touch_of}
use Rattle.bp_run.specs.Story.{touch, touch_all, step, stepped, entry_of, handler_body}
use Rattle.bp_run.proofs.Numbers.{reach_each}
use Rattle.bp_run.proofs.Before.{before_step}
use Rattle.bp_floor.specs.Forgetting.{forget, forgotten_in, forgotten}
use Rattle.bp_floor.proofs.Forgetting.{forget_twice_at, forget_end_at, forgets_twice}

-- ---- b-threads

stated_at : {O S : Type 0} (l : Code O S) (o : O) (n : ℕ) (b : Bool) (t : Thread O) → t.ended ≡ b → stated l n (forget o t) ≡ stated l n t
stated_at l o n true t h = rw h refl
stated_at l o n false t h = rw h refl

live_forgotten_from : {O S : Type 0} (l : Code O S) (o : O) (n : ℕ) (ts : List (Thread O)) → live_from l n (map (forget o) ts) ≡ live_from l n ts
live_forgotten_from l o n [] = refl
live_forgotten_from l o n (t ∷ ts) =
    ap (λ (x : Option (Live _)). cons_option x (live_from l (suc n) (map (forget o) ts))) (stated_at l o n t.ended t refl)
    ∙ ap (λ (xs : List (Live _)). cons_option (stated l n t) xs) (live_forgotten_from l o (suc n) ts)

-- who is live
pub live_forgotten : {O S : Type 0} (l : Code O S) (o : O) (s : Stand O) → live l (forgotten_in o s) ≡ live l s
live_forgotten l o s = live_forgotten_from l o 0 s.threads

-- a change that an ended b-thread forgets
Forgettable : {O : Type 0} → O → (Thread O → Thread O) → Type 0
Forgettable {O} o f = (t : Thread O) → forget o (f (forget o t)) ≡ forget o (f t)

changed : {O : Type 0} (o : O) (f : Thread O → Thread O) (i : ℕ) (ts : List (Thread O)) → Forgettable o f → map (forget o) (change f i (map (forget o) ts)) ≡ map (forget o) (change f i ts)
unfolding Forgettable
changed o f i [] h = refl
changed o f zero (t ∷ ts) h =
    ap (λ (x : Thread _). x ∷ map (forget o) (map (forget o) ts)) (h t) ∙ ap (λ (xs : List (Thread _)). forget o (f t) ∷ xs) (forgets_twice o ts)
changed o f (suc i) (t ∷ ts) h =
    ap (λ (x : Thread _). x ∷ map (forget o) (change f i (map (forget o) ts))) (forget_twice_at o t.ended t refl)
    ∙ ap (λ (xs : List (Thread _)). forget o t ∷ xs) (changed o f i ts h)

moves_at : {O : Type 0} (o : O) (e : PlainEvent) (b : Bool) (t : Thread O) → t.ended ≡ b →
    forget o (record (forget o t) { replies = (forget o t).replies ++ e ∷ [] }) ≡ forget o (record t { replies = t.replies ++ e ∷ [] })
moves_at o e true t h = rw h refl
moves_at o e false t h = rw h refl

touched : {O : Type 0} (o : O) (e : PlainEvent) (x : Touched) (ts : List (Thread O)) → map (forget o) (touch e x (map (forget o) ts)) ≡ map (forget o) (touch e x ts)
unfolding Forgettable
touched o e (Moves i) ts = changed o (λ t. record t { replies = t.replies ++ e ∷ [] }) i ts (λ t. moves_at o e t.ended t refl)
touched o e (Interrupts i) ts = changed o (λ t. record t { ended = true }) i ts (λ t. forget_end_at o t.ended t refl)

-- forgetting once more changes nothing of what is touched
touched_all : {O : Type 0} (o : O) (e : PlainEvent) (xs : List Touched) (ts us : List (Thread O)) → map (forget o) ts ≡ map (forget o) us →
    map (forget o) (touch_all e xs ts) ≡ map (forget o) (touch_all e xs us)
touched_all o e [] ts us h = h
touched_all o e (x ∷ xs) ts us h =
    touched_all o e xs (touch e x ts) (touch e x us)
    (sym (touched o e x ts) ∙ ap (λ (vs : List (Thread _)). map (forget o) (touch e x vs)) h ∙ touched o e x us)

-- ---- entries

same_number : (m : ℕ) (b : Bool) (x : Option Touched) (y : Touched) → (m == m) ≡ b → (if b then Some y else x) ≡ None → ⊥
same_number m true x y e h = cc
same_number m false x y e h = absurd (grind (arith, e))

passed : (b : Bool) (y : Touched) (t : Option Touched) → (if b then Some y else t) ≡ None → (t ≡ None → ⊥) → ⊥
passed true y t h k = cc
passed false y t h k = k h

is_there : (front : List Touched) (x : Touched) (rest : List Touched) → touch_at (number_in x) (front ++ x ∷ rest) ≡ None → ⊥
is_there [] x rest h = same_number (number_in x) (number_in x == number_in x) (touch_at (number_in x) rest) x refl h
is_there (y ∷ front) x rest h = passed (number_in y == number_in x) y (touch_at (number_in x) (front ++ x ∷ rest)) h (is_there front x rest)

unstated : {O S : Type 0} (l : Code O S) (e : PlainEvent) (t : Option (Live S)) (x : Option Touched) → t ≡ None → touch_of l.has e t ≡ Ok x → x ≡ None
unstated l e None x h k = cc
unstated l e (Some t) x h k = absurd (cc)

ended_is : {O S : Type 0} (l : Code O S) (e : PlainEvent) (i : ℕ) (u : Thread O) (x : Option Touched) (b : Bool) → u.ended ≡ b → touch_of l.has e (stated l i u) ≡ Ok x → (x ≡ None → ⊥) → b ≡ false
ended_is l e i u x false h k n = refl
ended_is l e i u x true h k n = absurd (n (unstated l e (stated l i u) x (rw h refl) k))

-- who is reached has not ended
reached_goes : {O S : Type 0} (l : Code O S) (s : Stand O) (e : PlainEvent) (front : List Touched) (x : Touched) (rest : List Touched) (u : Thread O) →
    reach l.has e (live l s) ≡ Ok (front ++ x ∷ rest) → slice_get s.threads (number_in x) ≡ Some u → u.ended ≡ false
reached_goes l s e front x rest u h k =
    ended_is l e (number_in x) u (touch_at (number_in x) (front ++ x ∷ rest)) u.ended refl (reach_each l s e (front ++ x ∷ rest) (number_in x) u h k) (is_there front x rest)

same_body : {O S : Type 0} (l : Code O S) (o : O) (e : PlainEvent) (t : Option (Thread O)) → ((u : Thread O) → t ≡ Some u → u.ended ≡ false) → handler_body l e (option_map (forget o) t) ≡ handler_body l e t
same_body l o e None h = refl
same_body l o e (Some u) h = let g = h u refl in rw g refl

same_entries : {O S : Type 0} (l : Code O S) (o : O) (s : Stand O) (e : PlainEvent) (front rest : List Touched) → reach l.has e (live l s) ≡ Ok (front ++ rest) →
    map (entry_of l (forgotten_in o s) e) rest ≡ map (entry_of l s e) rest
same_entries l o s e front [] h = refl
same_entries l o s e front (Moves i ∷ rest) h =
    ap (λ (ns : List (Entry _)). Runs i ∷ ns)
    (same_entries l o s e (front ++ Moves i ∷ []) rest (h ∙ ap (λ (xs : List Touched). Ok xs) (sym (append_assoc front (Moves i ∷ []) rest))))
same_entries l o s e front (Interrupts i ∷ rest) h =
    ap (λ (b : Option _). Stops i b ∷ map (entry_of l (forgotten_in o s) e) rest)
    (ap (handler_body l e) (slice_get-map (forget o) s.threads i) ∙ same_body l o e (slice_get s.threads i) (λ u k. reached_goes l s e front (Interrupts i) rest u h k))
    ∙ ap (λ (ns : List (Entry _)). entry_of l s e (Interrupts i) ∷ ns)
    (same_entries l o s e (front ++ Interrupts i ∷ []) rest (h ∙ ap (λ (xs : List Touched). Ok xs) (sym (append_assoc front (Interrupts i ∷ []) rest))))

-- ---- the transition

pub stepped_forgotten : {O S : Type 0} (l : Code O S) (o : O) (s : Stand O) (e : PlainEvent) (place : Option ℕ) (r : List Touched) → reach l.has e (live l s) ≡ Ok r →
    forgotten o (stepped l (forgotten_in o s) e place r) ≡ forgotten o (stepped l s e place r)
unfolding step
stepped_forgotten l o s e place r h =
    ap (λ (ts : List (Thread _)). record { stand = record (step s e place r) { threads = ts }; entries = map (entry_of l (forgotten_in o s) e) r })
    (touched_all o e r (map (forget o) s.threads) s.threads (forgets_twice o s.threads))
    ∙ ap (λ (ns : List (Entry _)). record { stand = forgotten_in o (step s e place r); entries = ns }) (same_entries l o s e [] r h)

-- who is live on a floor is live where it stands
pub live_stands : {O S : Type 0} (l : Code O S) (o : O) (taken : List Line) (p q : Pair O) → forgotten o p ≡ before taken q → live l q.stand ≡ live l p.stand
live_stands l o taken p q h = ap (λ (x : Pair _). live l x.stand) (sym h) ∙ live_forgotten l o p.stand

-- a transition on a floor is one where it stands
pub stepped_stands : {O S : Type 0} (l : Code O S) (o : O) (taken : List Line) (p q : Pair O) (e : PlainEvent) (place : Option ℕ) (r : List Touched) → forgotten o p ≡ before taken q →
    reach l.has e (live l q.stand) ≡ Ok r → forgotten o (stepped l p.stand e place r) ≡ before taken (forgotten o (stepped l q.stand e place r))
stepped_stands l o taken p q e place r h k =
    sym (stepped_forgotten l o p.stand e place r (ap (λ (ts : List (Live _)). reach l.has e ts) (sym (live_stands l o taken p q h)) ∙ k))
    ∙ ap (λ (x : Pair _). forgotten o (stepped l x.stand e place r)) h
    ∙ ap (λ (x : Pair _). forgotten o x) (before_step l taken q e place r)
