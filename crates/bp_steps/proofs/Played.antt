-- Turns are played as they are settled.
use Rattle.std.proofs.Common.{◌≡◌, ℕ, zero, suc, ◌+◌, ◌<◌, ◌≤◌, Bool, true, false, not, ◌&&◌, List, [], ◌∷◌, ◌++◌, Option, Some, None, refl, sym, ap, ◌∙◌, append_assoc, append-nil, length, map, arith, length-append}
use Rattle.std.specs.Prelude.{if◌then◌else◌, nat_lt, is_none, option_and_then, option_map, slice_get}
use Rattle.std.specs.List.{list_all}
use Rattle.bp_log.specs.Options.{PlainOptions}
use Rattle.bp_log.specs.declared.verdict.Verdict.{Verdict}
use Rattle.bp_run.specs.Bodies.{Code}
use Rattle.bp_run.specs.Configuration.{change}
use Rattle.bp_run.specs.Settling.{Body, Pair, turn, at_rest, settle_in}
use Rattle.bp_steps.specs.declared.step.CoreStep.{CoreStep}
use Rattle.bp_steps.specs.declared.step.CoreStep.TheVariants.{Slice, Seal}
use Rattle.bp_steps.specs.Steps.{Moment, Nodes, pair_at, bodies, fresh, lends, at_pair, is_lent, sliced, slice_of, turned_with, sealed, after_step, played}
use Rattle.bp_steps.specs.Schedules.{slices_from, turn_steps, settling_in}

-- ---- lists

got_at : {A : Type 0} (xs ys : List A) (y : A) → slice_get (xs ++ y ∷ ys) (length xs) ≡ Some y
got_at [] ys y = refl
got_at (x ∷ xs) ys y = got_at xs ys y

change_at : {A : Type 0} (f : A → A) (xs ys : List A) (y : A) → change f (length xs) (xs ++ y ∷ ys) ≡ xs ++ f y ∷ ys
change_at f [] ys y = refl
change_at f (x ∷ xs) ys y = ap (λ l. x ∷ l) (change_at f xs ys y)

-- as many that are done
abbrev done : {A : Type 0} → List A → List (Option ℕ)
done xs = map (λ x. None) xs

done_length : {A : Type 0} (xs : List A) → length (done xs) ≡ length xs
done_length [] = refl
done_length (x ∷ xs) = ap suc (done_length xs)

done_more : {A : Type 0} (xs : List A) (y : A) (rest : List (Option ℕ)) → done xs ++ None ∷ rest ≡ done (xs ++ y ∷ []) ++ rest
done_more [] y rest = refl
done_more (x ∷ xs) y rest = ap (λ (l : List (Option ℕ)). None ∷ l) (done_more xs y rest)

all_done : {A : Type 0} (xs : List A) → list_all is_none (done xs) ≡ true
all_done [] = refl
all_done (x ∷ xs) = all_done xs

-- ---- pairs

-- where this many turns lead, or fewer that come to rest
unfoldable pub rest_in : {O S : Type 0} → Code O S → ℕ → Pair O → Pair O
rest_in l zero p = p
rest_in l (suc n) p = elim (at_rest p) [ true ↦ p | false ↦ rest_in l n (turn l p) ]

pub resting_there : {O S : Type 0} (l : Code O S) (n : ℕ) (p : Pair O) → at_rest p ≡ true → rest_in l n p ≡ p
unfolding rest_in
resting_there l zero p h = refl
resting_there l (suc n) p h = rw (rest_in, h) refl

pub resting_on : {O S : Type 0} (l : Code O S) (n : ℕ) (p : Pair O) → at_rest p ≡ false → rest_in l (suc n) p ≡ rest_in l n (turn l p)
unfolding rest_in
resting_on l n p h = rw (rest_in, h) refl

pub rest_stand : {O S : Type 0} (l : Code O S) (n : ℕ) (p : Pair O) → (rest_in l n p).stand ≡ settle_in l n p
unfolding settle_in rest_in
rest_stand l zero p = refl
rest_stand l (suc n) p = at (at_rest p) refl (rest_stand l n (turn l p))
  where
    at : (b : Bool) → at_rest p ≡ b → (rest_in l n (turn l p)).stand ≡ settle_in l n (turn l p) → (rest_in l (suc n) p).stand ≡ settle_in l (suc n) p
    at true h k = rw (settle_in, rest_in, h) refl
    at false h k = rw (settle_in, rest_in, h) k

pub over_rests : {O : Type 0} (p : Pair O) (v : Verdict) → p.stand.verdict ≡ Some v → at_rest p ≡ true
over_rests p v h = rw h refl

pub no_more_steps : {O S : Type 0} (l : Code O S) (budget n : ℕ) (c : Bool) (p : Pair O) → at_rest p ≡ true → settling_in l budget c n p ≡ []
unfolding settling_in
no_more_steps l budget zero c p h = refl
no_more_steps l budget (suc n) c p h = rw (settling_in, h) refl

more_steps : {O S : Type 0} (l : Code O S) (budget n : ℕ) (p : Pair O) → at_rest p ≡ false → settling_in l budget true (suc n) p ≡ turn_steps l budget p ++ settling_in l budget true n (turn l p)
unfolding settling_in
more_steps l budget n p h = rw (settling_in, h) refl

-- ---- steps

module _ {O S : Type 0} (l : Code O S) (o : PlainOptions) (nodes : Nodes O) where
  pub last : (x : Moment O) → played l o nodes [] x ≡ Some x
  unfolding played
  last x = refl

  pub one_step : (s : CoreStep) (rest : List CoreStep) (m m' : Moment O) → after_step l o nodes m s ≡ Some m' → played l o nodes (s ∷ rest) m ≡ played l o nodes rest m'
  unfolding played
  one_step s rest m m' h = ap (λ (x : Option (Moment O)). option_and_then (played l o nodes rest) x) h

  on_at : (xs ys : List CoreStep) (x : Option (Moment O)) (m' : Moment O) → option_and_then (played l o nodes xs) x ≡ Some m' →
      ((n : Moment O) → played l o nodes xs n ≡ Some m' → played l o nodes (xs ++ ys) n ≡ played l o nodes ys m') → option_and_then (played l o nodes (xs ++ ys)) x ≡ played l o nodes ys m'
  on_at xs ys None m' h k = absurd (cc)
  on_at xs ys (Some n) m' h k = k n h

  pub steps_on : (xs ys : List CoreStep) (m m' : Moment O) → played l o nodes xs m ≡ Some m' → played l o nodes (xs ++ ys) m ≡ played l o nodes ys m'
  unfolding played
  steps_on [] ys m m' h = let e : m ≡ m' = cc in ap (λ (x : Moment O). played l o nodes ys x) e
  steps_on (s ∷ xs) ys m m' h = on_at xs ys (after_step l o nodes m s) m' h (λ n k. steps_on xs ys n m' k)

  module _ (some : 0 < o.budget) (fits : (b : Body O) → nodes b ≤ o.budget) where
    not_more : (n k : ℕ) → n ≤ k → nat_lt (0 + k) n ≡ false
    not_more n k h = search (arith)

    whole : (b : Body O) → sliced (nodes b) o.budget 0 ≡ None
    whole b = rw (not_more (nodes b) o.budget (fits b)) refl

    positive : nat_lt 0 o.budget ≡ true
    positive = search (arith)

    sliced_at : (m : Moment O) (i : ℕ) (b : Body O) → is_lent m ≡ true → slice_get (bodies l (pair_at m)) i ≡ Some b → slice_get m.lent i ≡ Some (Some 0) →
        after_step l o nodes m (Slice i o.budget) ≡ Some (record m { lent = change (λ y. None) i m.lent })
    unfolding after_step
    sliced_at m i b h g k =
        ap (λ (t : Bool). if t then option_map (λ x. record m { lent = change (λ y. x) i m.lent }) (slice_of nodes o.budget (slice_get (bodies l (pair_at m)) i) (slice_get m.lent i)) else None) (ap (λ (t : Bool). t && nat_lt 0 o.budget) h ∙ positive)
        ∙ ap (λ (x : Option (Body O)). option_map (λ x. record m { lent = change (λ y. x) i m.lent }) (slice_of nodes o.budget x (slice_get m.lent i))) g
        ∙ ap (λ (x : Option (Option ℕ)). option_map (λ x. record m { lent = change (λ y. x) i m.lent }) (slice_of nodes o.budget (Some b) x)) k
        ∙ ap (λ (x : Option ℕ). Some (record m { lent = change (λ y. x) i m.lent })) (whole b)

    pub slices_played : (front bs : List (Body O)) (m : Moment O) → is_lent m ≡ true → bodies l (pair_at m) ≡ front ++ bs → m.lent ≡ done front ++ fresh bs →
        played l o nodes (slices_from o.budget (length front) bs) m ≡ Some (record m { lent = done (front ++ bs) })
    unfolding played
    slices_played front [] m h e k =
        ap (λ (x : List (Option ℕ)). Some (record m { lent = x })) (k ∙ append-nil (done front) ∙ ap (λ (x : List (Body O)). done x) (sym (append-nil front)))
    slices_played front (b ∷ bs) m h e k =
        let at : slice_get (bodies l (pair_at m)) (length front) ≡ Some b = ap (λ (x : List (Body O)). slice_get x (length front)) e ∙ got_at front bs b in
        let lent : slice_get m.lent (length front) ≡ Some (Some 0) =
        ap (λ (x : List (Option ℕ)). slice_get x (length front)) k ∙ ap (λ (n : ℕ). slice_get (done front ++ Some 0 ∷ fresh bs) n) (sym (done_length front)) ∙ got_at (done front) (fresh bs) (Some 0) in
        let n : Moment O = record m { lent = change (λ y. None) (length front) m.lent } in
        let next : n.lent ≡ done (front ++ b ∷ []) ++ fresh bs =
        ap (λ (x : List (Option ℕ)). change (λ y. None) (length front) x) k ∙ ap (λ (i : ℕ). change (λ y. None) i (done front ++ Some 0 ∷ fresh bs)) (sym (done_length front))
        ∙ change_at (λ y. None) (done front) (fresh bs) (Some 0) ∙ done_more front b (fresh bs) in
        let long : length (front ++ b ∷ []) ≡ suc (length front) = omega (arith, length-append front (b ∷ [])) in
        one_step (Slice (length front) o.budget) (slices_from o.budget (suc (length front)) bs) m n (sliced_at m (length front) b h at lent)
        ∙ ap (λ (i : ℕ). played l o nodes (slices_from o.budget i bs) n) (sym long)
        ∙ slices_played (front ++ b ∷ []) bs n h (e ∙ sym (append_assoc front (b ∷ []) bs)) next
        ∙ ap (λ (x : List (Body O)). Some (record m { lent = done x })) (append_assoc front (b ∷ []) bs)

    sealed_at : (m : Moment O) (bs : List (Body O)) → is_lent m ≡ true → m.lent ≡ done bs → after_step l o nodes m Seal ≡ Some (sealed l m (turn l (pair_at m)))
    unfolding after_step
    sealed_at m bs h k =
        ap (λ (t : Bool). if t then Some (sealed l m (turn l (pair_at m))) else None) (ap (λ (t : Bool). t && list_all is_none m.lent) h ∙ ap (λ (x : List (Option ℕ)). list_all is_none x) k ∙ all_done bs)

    any_lent : (m : Moment O) (p : Pair O) (v : Option Verdict) (x : List (Option ℕ)) → turned_with l (record m { lent = x }) p v ≡ turned_with l m p v
    any_lent m p None x = refl
    any_lent m p (Some v) x = refl

    -- a turn is played
    pub turn_played : (m : Moment O) → is_lent m ≡ true → m.lent ≡ fresh (bodies l (pair_at m)) → played l o nodes (turn_steps l o.budget (pair_at m)) m ≡ Some (sealed l m (turn l (pair_at m)))
    turn_played m h k =
        let bs = bodies l (pair_at m) in
        let n : Moment O = record m { lent = done bs } in
        steps_on (slices_from o.budget 0 bs) (Seal ∷ []) m n (slices_played [] bs m h refl k)
        ∙ one_step Seal [] n (sealed l n (turn l (pair_at n))) (sealed_at n bs h refl)
        ∙ last (sealed l n (turn l (pair_at n)))
        ∙ ap (λ (x : Moment O). Some x) (any_lent m (turn l (pair_at m)) (turn l (pair_at m)).stand.verdict (done bs))

    pub sealed_over : (m : Moment O) (p q : Pair O) (v : Option Verdict) → turned_with l (at_pair l m p) q v ≡ turned_with l m q v
    sealed_over m p q None = refl
    sealed_over m p q (Some v) = refl

    pub lent_at : (p : Pair O) → at_rest p ≡ false → lends l p ≡ fresh (bodies l p)
    lent_at p h = ap (λ (b : Bool). fresh (if b then [] else bodies l p)) h

    pub restless_lent : (m : Moment O) (p : Pair O) → at_rest p ≡ false → is_lent (at_pair l m p) ≡ true
    restless_lent m p h = ap not h

    still : (m : Moment O) (p : Pair O) → p.stand.verdict ≡ None → played l o nodes [] (at_pair l m p) ≡ Some (sealed l m p)
    still m p h = last (at_pair l m p) ∙ ap (λ (v : Option Verdict). Some (turned_with l m p v)) (sym h)

    -- turn after turn is played
    pub settling_played : (n : ℕ) (m : Moment O) (p : Pair O) → p.stand.verdict ≡ None → played l o nodes (settling_in l o.budget true n p) (at_pair l m p) ≡ Some (sealed l m (rest_in l n p))
    unfolding rest_in settling_in
    settling_played zero m p h = still m p h
    settling_played (suc n) m p h = by_rest (at_rest p) refl (settling_played n m (turn l p))
      where
        by_verdict : (v : Option Verdict) → at_rest p ≡ false → (turn l p).stand.verdict ≡ v →
            ((turn l p).stand.verdict ≡ None → played l o nodes (settling_in l o.budget true n (turn l p)) (at_pair l m (turn l p)) ≡ Some (sealed l m (rest_in l n (turn l p)))) →
            played l o nodes (settling_in l o.budget true n (turn l p)) (turned_with l m (turn l p) v) ≡ Some (sealed l m (rest_in l n (turn l p)))
        by_verdict None r e k = k e
        by_verdict (Some v) r e k =
            ap (λ (xs : List CoreStep). played l o nodes xs (turned_with l m (turn l p) (Some v))) (no_more_steps l o.budget n true (turn l p) (over_rests (turn l p) v e))
            ∙ last (turned_with l m (turn l p) (Some v))
            ∙ ap (λ (w : Option Verdict). Some (turned_with l m (turn l p) w)) (sym e)
            ∙ ap (λ (q : Pair O). Some (sealed l m q)) (sym (resting_there l n (turn l p) (over_rests (turn l p) v e)))

        by_rest : (b : Bool) → at_rest p ≡ b →
            ((turn l p).stand.verdict ≡ None → played l o nodes (settling_in l o.budget true n (turn l p)) (at_pair l m (turn l p)) ≡ Some (sealed l m (rest_in l n (turn l p)))) →
            played l o nodes (settling_in l o.budget true (suc n) p) (at_pair l m p) ≡ Some (sealed l m (rest_in l (suc n) p))
        by_rest true r k =
            ap (λ (xs : List CoreStep). played l o nodes xs (at_pair l m p)) (no_more_steps l o.budget (suc n) true p r) ∙ still m p h
            ∙ ap (λ (q : Pair O). Some (sealed l m q)) (sym (resting_there l (suc n) p r))
        by_rest false r k =
            let q = turn l p in
            ap (λ (xs : List CoreStep). played l o nodes xs (at_pair l m p)) (more_steps l o.budget n p r)
            ∙ steps_on (turn_steps l o.budget p) (settling_in l o.budget true n q) (at_pair l m p) (sealed l (at_pair l m p) q) (turn_played (at_pair l m p) (restless_lent m p r) (lent_at p r))
            ∙ ap (λ (x : Moment O). played l o nodes (settling_in l o.budget true n q) x) (sealed_over m p q q.stand.verdict)
            ∙ by_verdict q.stand.verdict r refl k
            ∙ ap (λ (x : Pair O). Some (sealed l m x)) (sym (resting_on l n p r))
