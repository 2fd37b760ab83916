-- What is known of the queue's front, while block sets leave the bench and come back.
use Rattle.std.proofs.Common.{◌≡◌, ℕ, zero, suc, ◌+◌, ◌<◌, Bool, true, false, ◌||◌, List, [], ◌∷◌, ◌++◌, refl, sym, ap, ◌∙◌, subst, arith, append-nil, Option, Some, None, Ok, Err, nat_lt, nat_eq, take, option_to_list, if◌then◌else◌, slice_get}
use Rattle.std.specs.Prelude.{All}
use Rattle.std.specs.List.{list_any, cons_option}
use Rattle.std.proofs.lemmas.Bool.{lt-ltb, le-ltb, eq-eqb, ne_eqb}
use Rattle.std.proofs.lemmas.List.Folds.{list_any-append}
use Rattle.std.proofs.lemmas.List.Elements.{All-weaker, All-nil}
use Rattle.js_data.specs.Event.{PlainEvent}
use Rattle.js_value.specs.Value.{PlainSet}
use Rattle.js_meaning.specs.State.{Ground}
use Rattle.bp_run.specs.Bodies.{Statement, Outcome}
use Rattle.bp_run.specs.Bodies.Outcome.{Stopped, Ended, Broken, Violated, Spent}
use Rattle.bp_run.specs.Selecting.{Live, Asked, by_number, both, blocked}
use Rattle.bp_meaning.specs.Membership.{Membership, member}
use Rattle.bp_thread.specs.Views.{stated_set}
use Rattle.bp_live.specs.Placing.{placed, live_at}
use Rattle.bp_floor.specs.inner.Seats.{PlainSeat, outcome_in, stop_at, statement_at, stated_from}
use Rattle.bp_floor.specs.inner.Kept.{AreFrom}
use Rattle.bp_floor.specs.inner.Desks.{PlainFront, IsRestated, IsBlocked, is_fault, is_yes, block_sets, no_block, block_at, block_stated, block_in, block_of_seat}
use Rattle.bp_floor.proofs.Places.{numbers, statement_number, stated_above}

-- ---- one statement for another

or_first : (a b c : Bool) → (a || (b || c)) ≡ (b || (a || c))
or_first true true c = refl
or_first true false c = refl
or_first false b c = refl

or_apart : (y r l : Bool) → ((y || r) || l) ≡ (r || (y || l))
or_apart true true l = refl
or_apart true false l = refl
or_apart false r l = refl

or_turn : (a b : Bool) → (a || b) ≡ (b || a)
or_turn true true = refl
or_turn true false = refl
or_turn false true = refl
or_turn false false = refl

-- of x and what is away or of what comes and what is away then, it is the same
or_changed : (x y r a l : Bool) → (a || x) ≡ (y || l) → ((y || r) || l) ≡ ((x || r) || a)
or_changed x y r a l h = or_apart y r l ∙ ap (λ (b : Bool). r || b) (sym h ∙ or_turn a x) ∙ sym (or_apart x r a)

-- the block sets of all but the b-thread of this number
abbrev others : ℕ → List (Live PlainSet) → List PlainSet
others n [] = []
others n (t ∷ ts) = if nat_lt n t.number then block_sets (t ∷ ts) else if nat_eq n t.number then block_sets ts else t.statement.block ∷ others n ts

module _ (f : PlainSet → Bool) (none : f no_block ≡ false) where
  at_case : (b c : Bool) (s at : PlainSet) (ss rest : List PlainSet) → list_any f ss ≡ (f at || list_any f rest) →
      list_any f (s ∷ ss) ≡ (f (if b then no_block else if c then s else at) || list_any f (if b then s ∷ ss else if c then ss else s ∷ rest))
  at_case true c s at ss rest h = rw none refl
  at_case false true s at ss rest h = refl
  at_case false false s at ss rest h = ap (λ (x : Bool). f s || x) h ∙ or_first (f s) (f at) (list_any f rest)

  any_at : (n : ℕ) (ts : List (Live PlainSet)) → list_any f (block_sets ts) ≡ (f (block_at n ts) || list_any f (others n ts))
  any_at n [] = rw none refl
  any_at n (t ∷ ts) = at_case (nat_lt n t.number) (nat_eq n t.number) t.statement.block (block_at n ts) (block_sets ts) (others n ts) (any_at n ts)

  any_stated : (n : ℕ) (o : Option (Statement PlainSet)) (ts : List (Live PlainSet)) → list_any f (block_sets (cons_option (live_at n o) ts)) ≡ (f (block_stated o) || list_any f (block_sets ts))
  any_stated n None ts = rw none refl
  any_stated n (Some s) ts = refl

  placed_case : (b c : Bool) (n : ℕ) (o : Option (Statement PlainSet)) (t : Live PlainSet) (ts us : List (Live PlainSet)) (rest : List PlainSet) → list_any f (block_sets us) ≡ (f (block_stated o) || list_any f rest) →
      list_any f (block_sets (if b then cons_option (live_at n o) (t ∷ ts) else if c then cons_option (live_at n o) ts else t ∷ us))
      ≡ (f (block_stated o) || list_any f (if b then block_sets (t ∷ ts) else if c then block_sets ts else t.statement.block ∷ rest))
  placed_case true c n o t ts us rest h = any_stated n o (t ∷ ts)
  placed_case false true n o t ts us rest h = any_stated n o ts
  placed_case false false n o t ts us rest h = ap (λ (x : Bool). f t.statement.block || x) h ∙ or_first (f t.statement.block) (f (block_stated o)) (list_any f rest)

  any_placed : (n : ℕ) (o : Option (Statement PlainSet)) (ts : List (Live PlainSet)) → list_any f (block_sets (placed n o ts)) ≡ (f (block_stated o) || list_any f (others n ts))
  any_placed n o [] = any_stated n o []
  any_placed n o (t ∷ ts) = placed_case (nat_lt n t.number) (nat_eq n t.number) n o t ts (placed n o ts) (others n ts) (any_placed n o ts)

  any_option : (o : Option PlainSet) → list_any f (option_to_list o) ≡ f (stated_set o)
  any_option None = sym none
  any_option (Some s) = or_turn (f s) false

  -- what was asked of the sets on the bench and of those away is answered alike by those that are there then
  any_restated : (n : ℕ) (o : Option (Statement PlainSet)) (ts : List (Live PlainSet)) (before after : Option PlainSet) (away left : List PlainSet) → block_at n ts ≡ stated_set before → block_stated o ≡ stated_set after →
      away ++ option_to_list before ≡ option_to_list after ++ left → list_any f (block_sets (placed n o ts) ++ left) ≡ list_any f (block_sets ts ++ away)
  any_restated n o ts before after away left b a h =
      let x = f (block_at n ts) in
      let y = f (block_stated o) in
      let turned : (list_any f away || x) ≡ (y || list_any f left) =
      ap (λ (s : PlainSet). list_any f away || f s) b ∙ ap (λ (z : Bool). list_any f away || z) (sym (any_option before)) ∙ sym (list_any-append f away (option_to_list before)) ∙ ap (λ (ss : List PlainSet). list_any f ss) h
      ∙ list_any-append f (option_to_list after) left ∙ ap (λ (z : Bool). z || list_any f left) (any_option after) ∙ ap (λ (s : PlainSet). f s || list_any f left) (sym a) in
      list_any-append f (block_sets (placed n o ts)) left ∙ ap (λ (z : Bool). z || list_any f left) (any_placed n o ts)
      ∙ or_changed x y (list_any f (others n ts)) (list_any f away) (list_any f left) turned
      ∙ ap (λ (z : Bool). z || list_any f away) (sym (any_at n ts)) ∙ sym (list_any-append f (block_sets ts) away)

-- ---- the front stays known

pub known_where : (P : PlainEvent → Type 0) (n : ℕ) (queue : List PlainEvent) → (0 < n → All P (take n queue)) → All P (take n queue)
known_where P zero queue h = All-nil P
known_where P (suc n) queue h = h (omega arith)

module _ (base : Ground) (budget : ℕ) where
  pub known_restated : (n : ℕ) (o : Option (Statement PlainSet)) (ts : List (Live PlainSet)) (before after : Option PlainSet) (old new : PlainFront) (queue : List PlainEvent) → block_at n ts ≡ stated_set before →
      stated_set after ≡ block_stated o → (0 < new.blocked → IsRestated before after old new) →
      All (IsBlocked base budget (block_sets ts ++ old.away)) (take old.blocked queue) → All (IsBlocked base budget (block_sets (placed n o ts) ++ new.away)) (take new.blocked queue)
  known_restated n o ts before after old new queue b a h k =
      known_where (IsBlocked base budget (block_sets (placed n o ts) ++ new.away)) new.blocked queue
      (λ some. let r = h some in
      subst (λ (m : ℕ). All (IsBlocked base budget (block_sets (placed n o ts) ++ new.away)) (take m queue)) (sym r.blocked)
      (All-weaker (IsBlocked base budget (block_sets ts ++ old.away)) (IsBlocked base budget (block_sets (placed n o ts) ++ new.away))
      (λ e x. record {
        told = any_restated (λ s. is_fault (member base budget s e)) refl n o ts before after old.away new.away b (sym a) r.sets ∙ x.told;
        had = any_restated (λ s. is_yes (member base budget s e)) refl n o ts before after old.away new.away b (sym a) r.sets ∙ x.had;
      }) (take old.blocked queue) k))

  -- ---- an event that is known to be blocked is so

  blocked_one : (m : Membership) (n : ℕ) (rest : Asked Bool) (x y : Bool) → (is_fault m || x) ≡ false → (x ≡ false → rest ≡ Ok y) → (let a : Asked Bool = both (λ a b. a || b) (by_number n m) rest in a ≡ Ok (is_yes m || y))
  blocked_one (Ok b) n rest x y h k = rw (k h) refl
  blocked_one (Err f) n rest x y h k = absurd (cc)

  pub blocked_known : (ts : List (Live PlainSet)) (e : PlainEvent) → list_any (λ s. is_fault (member base budget s e)) (block_sets ts) ≡ false →
      blocked (member base budget) ts e ≡ Ok (list_any (λ s. is_yes (member base budget s e)) (block_sets ts))
  blocked_known [] e h = refl
  blocked_known (t ∷ ts) e h =
      blocked_one (member base budget t.statement.block e) t.number (blocked (member base budget) ts e) (list_any (λ s. is_fault (member base budget s e)) (block_sets ts)) (list_any (λ s. is_yes (member base budget s e)) (block_sets ts)) h
      (λ k. blocked_known ts e k)

  pub front_blocked : (ts : List (Live PlainSet)) (away : List PlainSet) (es : List PlainEvent) → away ≡ [] → All (IsBlocked base budget (block_sets ts ++ away)) es → All (λ e. blocked (member base budget) ts e ≡ Ok true) es
  front_blocked ts away es h k =
      All-weaker (IsBlocked base budget (block_sets ts ++ away)) (λ e. blocked (member base budget) ts e ≡ Ok true)
      (λ e x. let ss = none_away h in
      blocked_known ts e (ap (λ (us : List PlainSet). list_any (λ s. is_fault (member base budget s e)) us) (sym ss) ∙ x.told)
      ∙ ap (λ (b : Bool). Ok b) (ap (λ (us : List PlainSet). list_any (λ s. is_yes (member base budget s e)) us) (sym ss) ∙ x.had)) es k
    where
      none_away : away ≡ [] → block_sets ts ++ away ≡ block_sets ts
      none_away h = ap (λ (us : List PlainSet). block_sets ts ++ us) h ∙ append-nil (block_sets ts)

  -- ---- and one that is blocked is known to be

  record Told (m : Membership) (rest : Asked Bool) (b : Bool) : Type 0 where
    here : is_fault m ≡ false
    later : Bool
    rest_is : rest ≡ Ok later
    both_are : (is_yes m || later) ≡ b

  told_one : (m : Membership) (n : ℕ) (rest : Asked Bool) (b : Bool) → (let a : Asked Bool = both (λ a b. a || b) (by_number n m) rest in a ≡ Ok b) → Told m rest b
  told_one (Ok a) n (Ok c) b h = record { here = refl; later = c; rest_is = refl; both_are = cc }
  told_one (Ok a) n (Err x) b h = absurd (cc)
  told_one (Err f) n rest b h = absurd (cc)

  told_all : (ts : List (Live PlainSet)) (e : PlainEvent) (b : Bool) → blocked (member base budget) ts e ≡ Ok b →
      (list_any (λ s. is_fault (member base budget s e)) (block_sets ts) ≡ false) × (list_any (λ s. is_yes (member base budget s e)) (block_sets ts) ≡ b)
  told_all [] e b h = (refl, cc)
  told_all (t ∷ ts) e b h =
      let o = told_one (member base budget t.statement.block e) t.number (blocked (member base budget) ts e) b h in
      let r = told_all ts e o.later o.rest_is in
      (rw o.here r.0, ap (λ (c : Bool). is_yes (member base budget t.statement.block e) || c) r.1 ∙ o.both_are)

  pub blocked_front : (ts : List (Live PlainSet)) (away : List PlainSet) (es : List PlainEvent) → away ≡ [] → All (λ e. blocked (member base budget) ts e ≡ Ok true) es → All (IsBlocked base budget (block_sets ts ++ away)) es
  blocked_front ts away es h k =
      All-weaker (λ e. blocked (member base budget) ts e ≡ Ok true) (IsBlocked base budget (block_sets ts ++ away))
      (λ e x. let t = told_all ts e true x in
      subst (λ (ss : List PlainSet). IsBlocked base budget ss e) (sym (ap (λ (us : List PlainSet). block_sets ts ++ us) h ∙ append-nil (block_sets ts))) (record { told = t.0; had = t.1 })) es k

-- ---- what a b-thread blocks stands on the bench

block_front : (n : ℕ) (ts : List (Live PlainSet)) → AreFrom (suc n) (numbers ts) → block_at n ts ≡ no_block
block_front n [] h = refl
block_front n (t ∷ ts) h = let a = h.0 in let e : nat_lt n t.number ≡ true = lt-ltb n t.number (omega (arith, a)) in rw e refl

block_here : (k : ℕ) (b : Bool) (o : Option (Outcome PlainSet)) (ts : List (Live PlainSet)) → AreFrom (suc k) (numbers ts) → block_at k (cons_option (if b then None else stop_at k o) ts) ≡ (if b then no_block else block_in o)
block_here k true o ts h = block_front k ts h
block_here k false None ts h = block_front k ts h
block_here k false (Some (Stopped s)) ts h =
    let a : nat_lt k k ≡ false = le-ltb k k (omega arith) in
    let b : nat_eq k k ≡ true = eq-eqb k k refl in
    rw (a, b) refl
block_here k false (Some Ended) ts h = block_front k ts h
block_here k false (Some (Broken f l)) ts h = block_front k ts h
block_here k false (Some (Violated x)) ts h = block_front k ts h
block_here k false (Some Spent) ts h = block_front k ts h

block_past : (k m : ℕ) (o : Option (Live PlainSet)) (ts : List (Live PlainSet)) → k < m → ((t : Live PlainSet) → o ≡ Some t → t.number ≡ k) → block_at m (cons_option o ts) ≡ block_at m ts
block_past k m None ts l h = refl
block_past k m (Some t) ts l h =
    let e = h t refl in
    let a : nat_lt m t.number ≡ false = le-ltb m t.number (omega (arith, e, l)) in
    let b : nat_eq m t.number ≡ false = ne_eqb m t.number (λ f. let g : m ≡ k = f ∙ e in omega (arith, g, l)) in
    rw (a, b) refl

block_from : (k i : ℕ) (ss : List PlainSeat) → block_at (k + i) (stated_from k ss) ≡ block_of_seat (slice_get ss i)
block_from k i [] = refl
block_from k zero (s ∷ ss) =
    let e : k + 0 ≡ k = omega arith in
    ap (λ (n : ℕ). block_at n (stated_from k (s ∷ ss))) e ∙ block_here k s.ended (outcome_in s.job) (stated_from (suc k) ss) (stated_above (suc k) ss)
block_from k (suc i) (s ∷ ss) =
    let e : k + suc i ≡ suc k + i = omega arith in
    block_past k (k + suc i) (statement_at k s) (stated_from (suc k) ss) (omega arith) (statement_number k s) ∙ ap (λ (n : ℕ). block_at n (stated_from (suc k) ss)) e ∙ block_from (suc k) i ss

pub block_stands : (i : ℕ) (ss : List PlainSeat) (ts : List (Live PlainSet)) (s : PlainSet) → ts ≡ stated_from 0 ss → s ≡ block_of_seat (slice_get ss i) → block_at i ts ≡ s
block_stands i ss ts s h k =
    let e : 0 + i ≡ i = omega arith in
    ap (λ (us : List (Live PlainSet)). block_at i us) h ∙ ap (λ (n : ℕ). block_at n (stated_from 0 ss)) (sym e) ∙ block_from 0 i ss ∙ sym k
