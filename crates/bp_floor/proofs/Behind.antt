-- Events at the queue's front that are blocked need not be asked: what can be selected is that of the rest, further on.
use Rattle.std.proofs.Common.{◌≡◌, ℕ, zero, suc, ◌+◌, ◌<◌, ◌%◌, Bool, true, false, List, [], ◌∷◌, ◌++◌, length, refl, sym, ap, ◌∙◌, subst, arith, Option, Some, None, Ok, Err, slice_get, option_map, take, drop}
use Rattle.std.specs.Prelude.{All, IfSome}
use Rattle.std.proofs.Math.Seq.{take-add}
use Rattle.std.proofs.lemmas.List.{take_all}
use Rattle.std.proofs.lemmas.List.Elements.{All-append, All-nil, All-cons, All-head, All-tail}
use Rattle.js_data.specs.Event.{PlainEvent}
use Rattle.js_value.specs.Value.{PlainSet}
use Rattle.js_meaning.specs.State.{Ground}
use Rattle.bp_sets.specs.declared.fault.SetFault.TheVariants as set_fault
use Rattle.bp_log.specs.declared.options.Strategy.{Strategy}
use Rattle.bp_meaning.specs.Membership.{member}
use Rattle.bp_run.specs.Selecting.{Live, Has, Asked, without_fault, blocked, unblocked, first_unblocked, candidates, Enabled, or_queued, selectable}
use Rattle.bp_run.specs.Choosing.{Choice as Chosen, drawn_of, queued_at, chosen, remaining, choice}
use Rattle.bp_run.proofs.Chosen.{nothing_chosen}
use Rattle.bp_select.specs.declared.answers.SelectFault.{SelectFault}
use Rattle.bp_select.specs.declared.answers.SelectFault.TheVariants.{Set, Memory}
use Rattle.bp_select.specs.declared.answers.Choice.{Choice}
use Rattle.bp_select.specs.declared.answers.Choice.TheVariants.{Internal, External, Nothing}
use Rattle.bp_select.specs.Answers.{FaultAs, IsWithin, chosen_of}
use Rattle.bp_floor.specs.inner.Desks.{IsBlocked, block_sets, shifted, enabled_behind}
use Rattle.bp_floor.proofs.Fronts.{blocked_front}

-- a choice whose place is so much further on
abbrev pub chosen_behind : ℕ → Chosen → Chosen
chosen_behind n c = record c { place = option_map (λ p. n + p) c.place }

abbrev next_place : {S : Type 0} → Has S → List (Live S) → ℕ → List PlainEvent → Asked Bool → Asked (Option ℕ)
next_place has ts k es x = elim x [ Err y ↦ Err y | Ok b ↦ elim b [ true ↦ first_unblocked has ts (suc k) es | false ↦ Ok (Some k) ] ]

-- ---- the first one that nobody blocks

skips : {S : Type 0} (has : Has S) (ts : List (Live S)) (n k : ℕ) (queue : List PlainEvent) → All (λ e. blocked has ts e ≡ Ok true) (take n queue) → first_unblocked has ts k queue ≡ first_unblocked has ts (k + n) (drop n queue)
skips has ts zero k queue h = let e : k ≡ k + 0 = omega arith in ap (λ (m : ℕ). first_unblocked has ts m queue) e
skips has ts (suc n) k [] h = refl
skips has ts (suc n) k (x ∷ xs) h =
    let e : suc k + n ≡ k + suc n = omega arith in
    ap (λ (a : Asked Bool). next_place has ts k xs a) (All-head (λ e. blocked has ts e ≡ Ok true) x (take n xs) h) ∙ skips has ts n (suc k) xs (All-tail (λ e. blocked has ts e ≡ Ok true) x (take n xs) h) ∙ ap (λ (m : ℕ). first_unblocked has ts m (drop n xs)) e

further_at : {S : Type 0} (has : Has S) (ts : List (Live S)) (n k : ℕ) (es : List PlainEvent) (x : Asked Bool) → first_unblocked has ts (suc (n + k)) es ≡ without_fault (option_map (λ p. n + p)) (first_unblocked has ts (suc k) es) →
    next_place has ts (n + k) es x ≡ without_fault (option_map (λ p. n + p)) (next_place has ts k es x)
further_at has ts n k es (Err y) h = refl
further_at has ts n k es (Ok true) h = h
further_at has ts n k es (Ok false) h = refl

further : {S : Type 0} (has : Has S) (ts : List (Live S)) (n k : ℕ) (queue : List PlainEvent) → first_unblocked has ts (n + k) queue ≡ without_fault (option_map (λ p. n + p)) (first_unblocked has ts k queue)
further has ts n k [] = refl
further has ts n k (x ∷ xs) =
    let e : suc (n + k) ≡ n + suc k = omega arith in
    further_at has ts n k xs (blocked has ts x) (ap (λ (m : ℕ). first_unblocked has ts m xs) e ∙ further has ts n (suc k) xs)

-- of a queue whose front is blocked it is that of the rest, further on
pub first_behind : {S : Type 0} (has : Has S) (ts : List (Live S)) (n : ℕ) (queue : List PlainEvent) → All (λ e. blocked has ts e ≡ Ok true) (take n queue) →
    first_unblocked has ts 0 queue ≡ without_fault (option_map (λ p. n + p)) (first_unblocked has ts 0 (drop n queue))
first_behind has ts n queue h =
    let e : 0 + n ≡ n + 0 = omega arith in
    skips has ts n 0 queue h ∙ ap (λ (m : ℕ). first_unblocked has ts m (drop n queue)) e ∙ further has ts n 0 (drop n queue)

-- ---- what can be selected

outer_behind : (n : ℕ) (x : Asked (Option ℕ)) →
    (let a : Asked Enabled = without_fault (λ place. record { inner = []; outer = place }) (without_fault (option_map (λ p. n + p)) x) in
    let b : Asked Enabled = without_fault (λ place. record { inner = []; outer = place }) x in a ≡ without_fault (enabled_behind n) b)
outer_behind n (Err y) = refl
outer_behind n (Ok o) = refl

queued_behind : {S : Type 0} (has : Has S) (ts : List (Live S)) (n : ℕ) (queue : List PlainEvent) (x : Asked (List PlainEvent)) → All (λ e. blocked has ts e ≡ Ok true) (take n queue) →
    or_queued has ts queue x ≡ without_fault (enabled_behind n) (or_queued has ts (drop n queue) x)
queued_behind has ts n queue (Err y) h = refl
queued_behind has ts n queue (Ok (e ∷ es)) h = refl
queued_behind has ts n queue (Ok []) h =
    ap (λ (x : Asked (Option ℕ)). let a : Asked Enabled = without_fault (λ place. record { inner = []; outer = place }) x in a) (first_behind has ts n queue h)
    ∙ outer_behind n (first_unblocked has ts 0 (drop n queue))

pub selectable_behind : {S : Type 0} (has : Has S) (ts : List (Live S)) (n : ℕ) (queue : List PlainEvent) → All (λ e. blocked has ts e ≡ Ok true) (take n queue) →
    selectable has ts queue ≡ without_fault (enabled_behind n) (selectable has ts (drop n queue))
unfolding selectable
selectable_behind has ts n queue h = queued_behind has ts n queue (unblocked has ts (candidates ts)) h

-- ---- what is chosen

dropped_get : {A : Type 0} (n p : ℕ) (xs : List A) → slice_get xs (n + p) ≡ slice_get (drop n xs) p
dropped_get zero p xs = let e : 0 + p ≡ p = omega arith in ap (λ (i : ℕ). slice_get xs i) e
dropped_get (suc n) p [] = refl
dropped_get (suc n) p (x ∷ xs) = let e : suc n + p ≡ suc (n + p) = omega arith in ap (λ (i : ℕ). slice_get (x ∷ xs) i) e ∙ dropped_get n p xs

abbrev at_place : ℕ → ℕ → PlainEvent → Chosen
at_place d p e = record { event = e; place = Some p; drawn = d }

placed_behind : (n p d : ℕ) (o : Option PlainEvent) → option_map (at_place d (n + p)) o ≡ option_map (chosen_behind n) (option_map (at_place d p) o)
placed_behind n p d None = refl
placed_behind n p d (Some e) = refl

drawn_behind : (n d : ℕ) (o : Option PlainEvent) →
    (let a : Option Chosen = option_map (λ e. record { event = e; place = None; drawn = d }) o in a ≡ option_map (chosen_behind n) a)
drawn_behind n d None = refl
drawn_behind n d (Some e) = refl

inner_behind : (word : ℕ → ℕ) (n d : ℕ) (xs : List PlainEvent) → drawn_of word d xs ≡ option_map (chosen_behind n) (drawn_of word d xs)
inner_behind word n d [] = refl
inner_behind word n d (e ∷ []) = refl
inner_behind word n d (e ∷ f ∷ rest) = drawn_behind n (d + 1) (slice_get (e ∷ f ∷ rest) (word d % length (e ∷ f ∷ rest)))

queue_behind : (n d : ℕ) (queue : List PlainEvent) (o : Option ℕ) → queued_at d queue (option_map (λ p. n + p) o) ≡ option_map (chosen_behind n) (queued_at d (drop n queue) o)
queue_behind n d queue None = refl
queue_behind n d queue (Some p) = ap (λ (x : Option PlainEvent). option_map (at_place d (n + p)) x) (dropped_get n p queue) ∙ placed_behind n p d (slice_get (drop n queue) p)

chosen_further : {S : Type 0} (word : ℕ → ℕ) (s : Strategy) (ts : List (Live S)) (n d : ℕ) (queue inner : List PlainEvent) (o : Option ℕ) →
    chosen word s ts queue d inner (option_map (λ p. n + p) o) ≡ option_map (chosen_behind n) (chosen word s ts (drop n queue) d inner o)
chosen_further word s ts n d queue [] o = queue_behind n d queue o
chosen_further word s ts n d queue (e ∷ es) o = inner_behind word n d (remaining s ts (e ∷ es))

asked_further : {S : Type 0} (word : ℕ → ℕ) (s : Strategy) (ts : List (Live S)) (n d : ℕ) (queue : List PlainEvent) (x : Asked Enabled) →
    (let a : Asked (Option Chosen) = without_fault (λ y. chosen word s ts queue d y.inner y.outer) (without_fault (enabled_behind n) x) in
    let b : Asked (Option Chosen) = without_fault (λ y. chosen word s ts (drop n queue) d y.inner y.outer) x in a ≡ without_fault (option_map (chosen_behind n)) b)
asked_further word s ts n d queue (Err y) = refl
asked_further word s ts n d queue (Ok x) = ap (λ (o : Option Chosen). Ok o) (chosen_further word s ts n d queue x.inner x.outer)

pub choice_behind : {S : Type 0} (has : Has S) (word : ℕ → ℕ) (s : Strategy) (ts : List (Live S)) (n d : ℕ) (queue : List PlainEvent) → All (λ e. blocked has ts e ≡ Ok true) (take n queue) →
    choice has word s ts queue d ≡ without_fault (option_map (chosen_behind n)) (choice has word s ts (drop n queue) d)
unfolding choice
choice_behind has word s ts n d queue h =
    ap (λ (x : Asked Enabled). let a : Asked (Option Chosen) = without_fault (λ y. chosen word s ts queue d y.inner y.outer) x in a) (selectable_behind has ts n queue h)
    ∙ asked_further word s ts n d queue (selectable has ts (drop n queue))

-- ---- as the bench answers it

pub fault_behind : {A B : Type 0} (f : A → B) (x : Asked A) (y : SelectFault) → FaultAs x y → FaultAs (without_fault f x) y
fault_behind f x (Set n (set_fault.Broken g line)) h = rw h refl
fault_behind f x (Set n set_fault.Spent) h = rw h refl
fault_behind f x (Set n (set_fault.NotTruth line)) h = rw h refl
fault_behind f x (Set n set_fault.Memory) h = h
fault_behind f x Memory h = tt

choice_shifted : (n d : ℕ) (queue : List PlainEvent) (c : Choice) → option_map (chosen_behind n) (chosen_of (drop n queue) d c) ≡ chosen_of queue d (shifted n c)
choice_shifted n d queue (Internal e) = refl
choice_shifted n d queue (External p) = sym (placed_behind n p d (slice_get (drop n queue) p)) ∙ ap (λ (x : Option PlainEvent). option_map (at_place d (n + p)) x) (sym (dropped_get n p queue))
choice_shifted n d queue Nothing = refl

-- the choice among the rest, further on
pub chosen_answers : {S : Type 0} (has : Has S) (word : ℕ → ℕ) (s : Strategy) (ts : List (Live S)) (n d drawn : ℕ) (queue rest : List PlainEvent) (c : Choice) → rest ≡ drop n queue → All (λ e. blocked has ts e ≡ Ok true) (take n queue) →
    choice has word s ts rest d ≡ Ok (chosen_of rest drawn c) → choice has word s ts queue d ≡ Ok (chosen_of queue drawn (shifted n c))
chosen_answers has word s ts n d drawn queue rest c r h a =
    let e = subst (λ (es : List PlainEvent). choice has word s ts es d ≡ Ok (chosen_of es drawn c)) r a in
    choice_behind has word s ts n d queue h ∙ ap (λ (x : Asked (Option Chosen)). without_fault (option_map (chosen_behind n)) x) e ∙ ap (λ (o : Option Chosen). Ok o) (choice_shifted n drawn queue c)

pub chosen_fault : {S : Type 0} (has : Has S) (word : ℕ → ℕ) (s : Strategy) (ts : List (Live S)) (n d : ℕ) (queue rest : List PlainEvent) (f : SelectFault) → rest ≡ drop n queue → All (λ e. blocked has ts e ≡ Ok true) (take n queue) →
    FaultAs (choice has word s ts rest d) f → FaultAs (choice has word s ts queue d) f
chosen_fault has word s ts n d queue rest f r h a =
    let e = subst (λ (es : List PlainEvent). FaultAs (choice has word s ts es d) f) r a in
    subst (λ (x : Asked (Option Chosen)). FaultAs x f) (sym (choice_behind has word s ts n d queue h)) (fault_behind (option_map (chosen_behind n)) (choice has word s ts (drop n queue) d) f e)

pub enabled_answers : {S : Type 0} (has : Has S) (ts : List (Live S)) (n : ℕ) (queue rest : List PlainEvent) (x : Enabled) → rest ≡ drop n queue → All (λ e. blocked has ts e ≡ Ok true) (take n queue) →
    selectable has ts rest ≡ Ok x → selectable has ts queue ≡ Ok (enabled_behind n x)
enabled_answers has ts n queue rest x r h a =
    let e = subst (λ (es : List PlainEvent). selectable has ts es ≡ Ok x) r a in
    selectable_behind has ts n queue h ∙ ap (λ (y : Asked Enabled). without_fault (enabled_behind n) y) e

pub enabled_fault : {S : Type 0} (has : Has S) (ts : List (Live S)) (n : ℕ) (queue rest : List PlainEvent) (f : SelectFault) → rest ≡ drop n queue → All (λ e. blocked has ts e ≡ Ok true) (take n queue) →
    FaultAs (selectable has ts rest) f → FaultAs (selectable has ts queue) f
enabled_fault has ts n queue rest f r h a =
    let e = subst (λ (es : List PlainEvent). FaultAs (selectable has ts es) f) r a in
    subst (λ (x : Asked Enabled). FaultAs x f) (sym (selectable_behind has ts n queue h)) (fault_behind (enabled_behind n) (selectable has ts (drop n queue)) f e)

-- the first unblocked place is within the queue
within_at : {S : Type 0} (has : Has S) (ts : List (Live S)) (k p n : ℕ) (es : List PlainEvent) (x : Asked Bool) → next_place has ts k es x ≡ Ok (Some p) → n ≡ suc (length es) → (first_unblocked has ts (suc k) es ≡ Ok (Some p) → p < suc k + length es) → p < k + n
within_at has ts k p n es (Err y) m e ih = absurd (cc)
within_at has ts k p n es (Ok false) m e ih = let f : k ≡ p = cc in omega (arith, f, e)
within_at has ts k p n es (Ok true) m e ih = let a = ih m in omega (arith, a, e)

first_within : {S : Type 0} (has : Has S) (ts : List (Live S)) (k : ℕ) (queue : List PlainEvent) (p : ℕ) → first_unblocked has ts k queue ≡ Ok (Some p) → p < k + length queue
first_within has ts k [] p h = absurd (cc)
first_within has ts k (e ∷ es) p h = within_at has ts k p (suc (length es)) es (blocked has ts e) h refl (λ m. first_within has ts (suc k) es p m)

outer_within : {S : Type 0} (has : Has S) (ts : List (Live S)) (queue : List PlainEvent) (x : Asked (List PlainEvent)) (y : Enabled) → or_queued has ts queue x ≡ Ok y → IfSome y.outer (λ p. p < length queue)
outer_within has ts queue (Err z) y h = absurd (cc)
outer_within has ts queue (Ok (e ∷ es)) y h = let f : record { inner = e ∷ es; outer = None } ≡ y = cc in subst (λ (w : Enabled). IfSome w.outer (λ p. p < length queue)) f tt
outer_within has ts queue (Ok []) y h = within_queue (first_unblocked has ts 0 queue) refl h
  where
    within_queue : (z : Asked (Option ℕ)) → first_unblocked has ts 0 queue ≡ z → (let a : Asked Enabled = without_fault (λ place. record { inner = []; outer = place }) z in a ≡ Ok y) → IfSome y.outer (λ p. p < length queue)
    within_queue (Err w) q m = absurd (cc)
    within_queue (Ok None) q m = let f : record { inner = []; outer = None } ≡ y = cc in subst (λ (w : Enabled). IfSome w.outer (λ p. p < length queue)) f tt
    within_queue (Ok (Some p)) q m =
        let f : record { inner = []; outer = Some p } ≡ y = cc in
        let a = first_within has ts 0 queue p q in
        subst (λ (w : Enabled). IfSome w.outer (λ p. p < length queue)) f (omega (arith, a))

pub enabled_within : {S : Type 0} (has : Has S) (ts : List (Live S)) (queue : List PlainEvent) (y : Enabled) → selectable has ts queue ≡ Ok y → IfSome y.outer (λ p. p < length queue)
unfolding selectable
enabled_within has ts queue y h = outer_within has ts queue (unblocked has ts (candidates ts)) y h

-- ---- what is learned of it

front_at : {S : Type 0} (has : Has S) (ts : List (Live S)) (k p : ℕ) (e : PlainEvent) (es : List PlainEvent) (x : Asked Bool) → blocked has ts e ≡ x → next_place has ts k es x ≡ Ok (Some (k + suc p)) →
    (first_unblocked has ts (suc k) es ≡ Ok (Some (suc k + p)) → All (λ y. blocked has ts y ≡ Ok true) (take p es)) → All (λ y. blocked has ts y ≡ Ok true) (take (suc p) (e ∷ es))
front_at has ts k p e es (Err y) q m ih = absurd (cc)
front_at has ts k p e es (Ok false) q m ih = let f : k ≡ k + suc p = cc in absurd (omega (arith, f))
front_at has ts k p e es (Ok true) q m ih =
    let n : k + suc p ≡ suc k + p = omega arith in
    All-cons (λ y. blocked has ts y ≡ Ok true) e (take p es) q (ih (m ∙ ap (λ (i : ℕ). let a : Asked (Option ℕ) = Ok (Some i) in a) n))

first_front : {S : Type 0} (has : Has S) (ts : List (Live S)) (k p : ℕ) (queue : List PlainEvent) → first_unblocked has ts k queue ≡ Ok (Some (k + p)) → All (λ e. blocked has ts e ≡ Ok true) (take p queue)
first_front has ts k p [] h = absurd (cc)
first_front has ts k zero (e ∷ es) h = All-nil (λ y. blocked has ts y ≡ Ok true)
first_front has ts k (suc p) (e ∷ es) h = front_at has ts k p e es (blocked has ts e) refl h (λ m. first_front has ts (suc k) p es m)

place_is : (word : ℕ → ℕ) (d : ℕ) (xs : List PlainEvent) (ch : Chosen) → drawn_of word d xs ≡ Some ch → ch.place ≡ None
place_is word d [] ch h = absurd (cc)
place_is word d (e ∷ []) ch h = let f : record { event = e; place = None; drawn = d } ≡ ch = cc in sym (ap (λ (c : Chosen). c.place) f)
place_is word d (e ∷ f ∷ rest) ch h = place_at (slice_get (e ∷ f ∷ rest) (word d % length (e ∷ f ∷ rest))) h
  where
    place_at : (o : Option PlainEvent) → option_map (λ x. record { event = x; place = None; drawn = d + 1 }) o ≡ Some ch → ch.place ≡ None
    place_at None m = absurd (cc)
    place_at (Some x) m = let g : record { event = x; place = None; drawn = d + 1 } ≡ ch = cc in sym (ap (λ (c : Chosen). c.place) g)

queued_place : (d : ℕ) (queue : List PlainEvent) (o : Option ℕ) (ch : Chosen) → queued_at d queue o ≡ Some ch → ch.place ≡ o
queued_place d queue None ch h = absurd (cc)
queued_place d queue (Some p) ch h = place_at (slice_get queue p) h
  where
    place_at : (o : Option PlainEvent) → option_map (at_place d p) o ≡ Some ch → ch.place ≡ Some p
    place_at None m = absurd (cc)
    place_at (Some x) m = let g : at_place d p x ≡ ch = cc in sym (ap (λ (c : Chosen). c.place) g)

outer_first : {S : Type 0} (has : Has S) (word : ℕ → ℕ) (s : Strategy) (ts : List (Live S)) (queue : List PlainEvent) (d p : ℕ) (x : Asked (List PlainEvent)) (ch : Chosen) → ch.place ≡ Some p →
    (let a : Asked (Option Chosen) = without_fault (λ y. chosen word s ts queue d y.inner y.outer) (or_queued has ts queue x) in a ≡ Ok (Some ch)) → first_unblocked has ts 0 queue ≡ Ok (Some p)
outer_first has word s ts queue d p (Err y) ch h k = absurd (cc)
outer_first has word s ts queue d p (Ok (e ∷ es)) ch h k =
    let a : drawn_of word d (remaining s ts (e ∷ es)) ≡ Some ch = cc in
    let b = place_is word d (remaining s ts (e ∷ es)) ch a in
    let z : None ≡ Some p = sym b ∙ h in absurd (cc)
outer_first has word s ts queue d p (Ok []) ch h k = first_at (first_unblocked has ts 0 queue) k
  where
    first_at : (z : Asked (Option ℕ)) →
        (let b : Asked Enabled = without_fault (λ place. record { inner = []; outer = place }) z in let a : Asked (Option Chosen) = without_fault (λ y. chosen word s ts queue d y.inner y.outer) b in a ≡ Ok (Some ch)) → z ≡ Ok (Some p)
    first_at (Err y) m = absurd (cc)
    first_at (Ok o) m =
        let a : queued_at d queue o ≡ Some ch = cc in
        ap (λ (q : Option ℕ). Ok q) (sym (queued_place d queue o ch a) ∙ h)

choice_first : {S : Type 0} (has : Has S) (word : ℕ → ℕ) (s : Strategy) (ts : List (Live S)) (queue : List PlainEvent) (d p : ℕ) (ch : Chosen) → ch.place ≡ Some p → choice has word s ts queue d ≡ Ok (Some ch) → first_unblocked has ts 0 queue ≡ Ok (Some p)
unfolding choice selectable
choice_first has word s ts queue d p ch h k = outer_first has word s ts queue d p (unblocked has ts (candidates ts)) ch h k

all_get : (P : PlainEvent → Type 0) (es : List PlainEvent) → ((i : ℕ) (e : PlainEvent) → slice_get es i ≡ Some e → P e) → All P es
all_get P [] h = All-nil P
all_get P (e ∷ es) h = All-cons P e es (h 0 e refl) (all_get P es (λ i x k. h (suc i) x k))

-- how many more are known to be blocked
abbrev pub more_learned : ℕ → Choice → ℕ
more_learned n (Internal e) = 0
more_learned n (External p) = p
more_learned n Nothing = n

there : (es : List PlainEvent) (i : ℕ) → i < length es → (e : PlainEvent) × (slice_get es i ≡ Some e)
there [] i h = absurd (omega arith)
there (e ∷ es) zero h = (e, refl)
there (e ∷ es) (suc i) h = there es i (omega (arith, h))

-- those before what is chosen are blocked, and all where nothing is
learns : {S : Type 0} (has : Has S) (word : ℕ → ℕ) (s : Strategy) (ts : List (Live S)) (rest : List PlainEvent) (d drawn : ℕ) (c : Choice) → IsWithin (length rest) c → choice has word s ts rest d ≡ Ok (chosen_of rest drawn c) →
    All (λ e. blocked has ts e ≡ Ok true) (take (more_learned (length rest) c) rest)
learns has word s ts rest d drawn (Internal e) w h = All-nil (λ y. blocked has ts y ≡ Ok true)
learns has word s ts rest d drawn (External p) w h =
    let t = there rest p w in
    let ch = at_place drawn p t.0 in
    let a : choice has word s ts rest d ≡ Ok (Some ch) = h ∙ ap (λ (o : Option PlainEvent). let x : Asked (Option Chosen) = Ok (option_map (at_place drawn p) o) in x) t.1 in
    let e : p ≡ 0 + p = omega arith in
    first_front has ts 0 p rest (choice_first has word s ts rest d p ch refl a ∙ ap (λ (i : ℕ). let x : Asked (Option ℕ) = Ok (Some i) in x) e)
learns has word s ts rest d drawn Nothing w h =
    let all = nothing_chosen has word s ts rest d h in
    subst (λ (es : List PlainEvent). All (λ e. blocked has ts e ≡ Ok true) es) (sym (take_all (length rest) rest (omega arith)))
    (all_get (λ e. blocked has ts e ≡ Ok true) rest (λ i e m. all e (Some i) m))

-- together with those that were known
pub learns_more : (base : Ground) (budget : ℕ) (word : ℕ → ℕ) (s : Strategy) (ts : List (Live PlainSet)) (away : List PlainSet) (queue rest : List PlainEvent) (n d drawn : ℕ) (c : Choice) → away ≡ [] → rest ≡ drop n queue →
    IsWithin (length rest) c → choice (member base budget) word s ts rest d ≡ Ok (chosen_of rest drawn c) → All (IsBlocked base budget (block_sets ts ++ away)) (take n queue) →
    All (IsBlocked base budget (block_sets ts ++ away)) (take (n + more_learned (length rest) c) queue)
learns_more base budget word s ts away queue rest n d drawn c a r w h k =
    let m = more_learned (length rest) c in
    let more = blocked_front base budget ts away (take m rest) a (learns (member base budget) word s ts rest d drawn c w h) in
    subst (λ (es : List PlainEvent). All (IsBlocked base budget (block_sets ts ++ away)) es) (sym (take-add n m queue))
    (All-append (IsBlocked base budget (block_sets ts ++ away)) (take n queue) (take m (drop n queue)) k
    (subst (λ (es : List PlainEvent). All (IsBlocked base budget (block_sets ts ++ away)) (take m es)) r more))
