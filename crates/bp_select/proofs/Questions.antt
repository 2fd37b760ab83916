-- Steps of the questions over b-threads and events.
use Rattle.std.proofs.Common.{◌≡◌, ℕ, ◌+◌, ◌<◌, ◌≤◌, Bool, true, false, not, ◌||◌, List, [], ◌∷◌, ◌++◌, length, map, drop, get_or, refl, ap, sym, ◌∙◌, append_assoc, append-nil, Option, Some, None, Result, Ok, Err, if◌then◌else◌}
use Rattle.std.proofs.lemmas.List.{drop_all, map_push}
use Rattle.std.proofs.Math.Bool.{or-false, or_assoc}
use Rattle.js_data.specs.Event.{PlainEvent}
use Rattle.js_data.proofs.Shared.{drop_is}
use Rattle.js_value.specs.Value.{PlainSet}
use Rattle.bp_sets.specs.declared.fault.SetFault.TheVariants as set_fault
use Rattle.bp_run.specs.Bodies as run
use Rattle.bp_run.specs.Selecting.{Live, Has, Asked, by_number, both, blocked, unblocked, blocker}
use Rattle.bp_live.specs.declared.stated.Stated.{Stated}
use Rattle.bp_select.specs.declared.answers.SelectFault.{SelectFault}
use Rattle.bp_select.specs.declared.answers.SelectFault.TheVariants.{Set, Memory}
use Rattle.bp_live.specs.Lives.{live_of}
use Rattle.bp_select.specs.Answers.{FaultAs}

-- ---- lists

-- ---- faults

-- the fault of a part is that of the whole
pub fault_on : {A B : Type 0} (x : Asked A) (y : Asked B) (f : SelectFault) → ((z : ℕ × run.SetFault) → x ≡ Err z → y ≡ Err z) → FaultAs x f → FaultAs y f
fault_on x y (Set n (set_fault.Broken g l)) h k = h (n, run.SetFault.Broken g l) k
fault_on x y (Set n set_fault.Spent) h k = h (n, run.SetFault.Spent) k
fault_on x y (Set n (set_fault.NotTruth l)) h k = h (n, run.SetFault.NotTruth l) k
fault_on x y (Set n set_fault.Memory) h k = k
fault_on x y Memory h k = tt

-- ---- whether an event is blocked

-- what was said so far, and what is still said
abbrev pub seen : Bool → Asked Bool → Asked Bool
seen b x = let first : Asked Bool = Ok b in both (λ a c. a || c) first x

seen_twice : (b c : Bool) (x : Asked Bool) → seen b (seen c x) ≡ seen (b || c) x
seen_twice b c (Err z) = refl
seen_twice b c (Ok d) = ap (λ (r : Bool). Ok r) (sym (or_assoc b c d))

seen_none : (x : Asked Bool) → x ≡ seen false x
seen_none (Err z) = refl
seen_none (Ok d) = refl

blocked_of : {A : Type 0} (f : A → Live PlainSet) (has : Has PlainSet) (x : A) (rest : List A) (e : PlainEvent) (c : Bool) →
    by_number (f x).number (has (f x).statement.block e) ≡ Ok c → blocked has (map f (x ∷ rest)) e ≡ seen c (blocked has (map f rest) e)
blocked_of f has x rest e c h = rw h refl

pub blocked_first : {A : Type 0} (f : A → Live PlainSet) (has : Has PlainSet) (all : List A) (e : PlainEvent) → blocked has (map f all) e ≡ seen false (blocked has (map f (drop 0 all)) e)
blocked_first f has all e = seen_none (blocked has (map f all) e)

pub blocked_step : {A : Type 0} (f : A → Live PlainSet) (has : Has PlainSet) (all : List A) (i : ℕ) (x : A) (e : PlainEvent) (b c d : Bool) → i < length all → x ≡ get_or all i x → d ≡ (b || c) →
    by_number (f x).number (has (f x).statement.block e) ≡ Ok c → blocked has (map f all) e ≡ seen b (blocked has (map f (drop i all)) e) →
    blocked has (map f all) e ≡ seen d (blocked has (map f (drop (i + 1) all)) e)
blocked_step {A = A} f has all i x e b c d h k m q w =
    w ∙ ap (λ (xs : List A). seen b (blocked has (map f xs) e)) (drop_is all i x h k)
    ∙ ap (λ (r : Asked Bool). seen b r) (blocked_of f has x (drop (i + 1) all) e c q)
    ∙ seen_twice b c (blocked has (map f (drop (i + 1) all)) e)
    ∙ ap (λ (r : Bool). seen r (blocked has (map f (drop (i + 1) all)) e)) (sym m)

pub blocked_last : {A : Type 0} (f : A → Live PlainSet) (has : Has PlainSet) (all : List A) (i : ℕ) (e : PlainEvent) (b : Bool) → length all ≤ i →
    blocked has (map f all) e ≡ seen b (blocked has (map f (drop i all)) e) → blocked has (map f all) e ≡ Ok b
blocked_last {A = A} f has all i e b h w =
    w ∙ ap (λ (xs : List A). seen b (blocked has (map f xs) e)) (drop_all i all h) ∙ ap (λ (r : Bool). Ok r) (or-false b)

pub blocked_fault : {A : Type 0} (f : A → Live PlainSet) (has : Has PlainSet) (all : List A) (i : ℕ) (x : A) (e : PlainEvent) (b : Bool) (g : SelectFault) → i < length all → x ≡ get_or all i x →
    blocked has (map f all) e ≡ seen b (blocked has (map f (drop i all)) e) →
    FaultAs (by_number (f x).number (has (f x).statement.block e)) g → FaultAs (blocked has (map f all) e) g
blocked_fault {A = A} f has all i x e b g h k w q =
    fault_on (by_number (f x).number (has (f x).statement.block e)) (blocked has (map f all) e) g
    (λ z m. w ∙ ap (λ (xs : List A). seen b (blocked has (map f xs) e)) (drop_is all i x h k) ∙ (rw m refl)) q

-- ---- which events nobody blocks

abbrev pub behind : List PlainEvent → Asked (List PlainEvent) → Asked (List PlainEvent)
behind kept (Ok r) = Ok (kept ++ r)
behind kept (Err z) = Err z

behind_one : (kept : List PlainEvent) (e : PlainEvent) (b : Bool) (x : Asked (List PlainEvent)) →
    behind kept (let first : Asked Bool = Ok b in both (λ c rest. if c then rest else e ∷ rest) first x) ≡ behind (if b then kept else kept ++ e ∷ []) x
behind_one kept e true (Ok r) = refl
behind_one kept e true (Err z) = refl
behind_one kept e false (Ok r) = ap (λ (xs : List PlainEvent). Ok xs) (sym (append_assoc kept (e ∷ []) r))
behind_one kept e false (Err z) = refl

unblocked_of : (has : Has PlainSet) (ts : List (Live PlainSet)) (kept : List PlainEvent) (e : PlainEvent) (rest : List PlainEvent) (b : Bool) → blocked has ts e ≡ Ok b →
    behind kept (unblocked has ts (e ∷ rest)) ≡ behind (if b then kept else kept ++ e ∷ []) (unblocked has ts rest)
unblocked_of has ts kept e rest b h = rw h (behind_one kept e b (unblocked has ts rest))

module _ {A : Type 0} (f : A → PlainEvent) (has : Has PlainSet) (ts : List (Live PlainSet)) where
  kept_map : (kept new : List A) (x : A) (b : Bool) → new ≡ (if not b then kept ++ x ∷ [] else kept) → map f new ≡ (if b then map f kept else map f kept ++ f x ∷ [])
  kept_map kept new x true n = ap (λ (xs : List A). map f xs) n
  kept_map kept new x false n = ap (λ (xs : List A). map f xs) n ∙ map_push f kept x

  pub unblocked_step : (all : List A) (i : ℕ) (x : A) (kept new : List A) (b : Bool) → i < length all → x ≡ get_or all i x →
      blocked has ts (f x) ≡ Ok b → new ≡ (if not b then kept ++ x ∷ [] else kept) → unblocked has ts (map f all) ≡ behind (map f kept) (unblocked has ts (map f (drop i all))) →
      unblocked has ts (map f all) ≡ behind (map f new) (unblocked has ts (map f (drop (i + 1) all)))
  unblocked_step all i x kept new b h k m n w =
      w ∙ ap (λ (xs : List A). behind (map f kept) (unblocked has ts (map f xs))) (drop_is all i x h k)
      ∙ unblocked_of has ts (map f kept) (f x) (map f (drop (i + 1) all)) b m
      ∙ ap (λ (xs : List PlainEvent). behind xs (unblocked has ts (map f (drop (i + 1) all)))) (sym (kept_map kept new x b n))

  pub unblocked_last : (all : List A) (i : ℕ) (kept : List A) → length all ≤ i →
      unblocked has ts (map f all) ≡ behind (map f kept) (unblocked has ts (map f (drop i all))) → unblocked has ts (map f all) ≡ Ok (map f kept)
  unblocked_last all i kept h w =
      w ∙ ap (λ (xs : List A). behind (map f kept) (unblocked has ts (map f xs))) (drop_all i all h) ∙ ap (λ (xs : List PlainEvent). Ok xs) (append-nil (map f kept))

  pub unblocked_fault : (all : List A) (i : ℕ) (x : A) (kept : List A) (g : SelectFault) → i < length all → x ≡ get_or all i x →
      unblocked has ts (map f all) ≡ behind (map f kept) (unblocked has ts (map f (drop i all))) → FaultAs (blocked has ts (f x)) g → FaultAs (unblocked has ts (map f all)) g
  unblocked_fault all i x kept g h k w q =
      fault_on (blocked has ts (f x)) (unblocked has ts (map f all)) g
      (λ z m. w ∙ ap (λ (xs : List A). behind (map f kept) (unblocked has ts (map f xs))) (drop_is all i x h k) ∙ (rw m refl)) q

-- ---- who blocks

blocker_of : (has : Has PlainSet) (x : Stated) (rest : List Stated) (e : PlainEvent) (x' : Result Bool run.SetFault) → has (live_of x).statement.block e ≡ x' →
    (let a : Asked (Option ℕ) = elim x' [ Err f ↦ Err ((live_of x).number, f) | Ok b ↦ elim b [ true ↦ Ok (Some (live_of x).number) | false ↦ blocker has (map live_of rest) e ] ] in
    blocker has (map live_of (x ∷ rest)) e ≡ a)
unfolding blocker
blocker_of has x rest e x' h = rw h refl

told_ok : (n : ℕ) (x : Result Bool run.SetFault) (b : Bool) → by_number n x ≡ Ok b → x ≡ Ok b
told_ok n (Ok a) b h = let e : a ≡ b = cc in ap (λ (c : Bool). Ok c) e
told_ok n (Err f) b h = absurd (cc)

told_err : (n : ℕ) (x : Result Bool run.SetFault) (z : ℕ × run.SetFault) → by_number n x ≡ Err z → (f : run.SetFault) × (x ≡ Err f) × (z ≡ (n, f))
told_err n (Ok a) z h = absurd (cc)
told_err n (Err f) z h = (f, refl, err_same (n, f) z h)
  where
    err_same : (y z : ℕ × run.SetFault) → (let a : Asked Bool = Err y in a ≡ Err z) → z ≡ y
    err_same y z h = cc

pub blocker_step : (has : Has PlainSet) (all : List Stated) (i : ℕ) (x : Stated) (e : PlainEvent) → i < length all → x ≡ get_or all i x →
    by_number (live_of x).number (has (live_of x).statement.block e) ≡ Ok false → blocker has (map live_of all) e ≡ blocker has (map live_of (drop i all)) e →
    blocker has (map live_of all) e ≡ blocker has (map live_of (drop (i + 1) all)) e
blocker_step has all i x e h k q w =
    w ∙ ap (λ (xs : List Stated). blocker has (map live_of xs) e) (drop_is all i x h k)
    ∙ blocker_of has x (drop (i + 1) all) e (Ok false) (told_ok (live_of x).number (has (live_of x).statement.block e) false q)

pub blocker_found : (has : Has PlainSet) (all : List Stated) (i : ℕ) (x : Stated) (e : PlainEvent) → i < length all → x ≡ get_or all i x →
    by_number (live_of x).number (has (live_of x).statement.block e) ≡ Ok true → blocker has (map live_of all) e ≡ blocker has (map live_of (drop i all)) e →
    blocker has (map live_of all) e ≡ Ok (Some (live_of x).number)
blocker_found has all i x e h k q w =
    w ∙ ap (λ (xs : List Stated). blocker has (map live_of xs) e) (drop_is all i x h k)
    ∙ blocker_of has x (drop (i + 1) all) e (Ok true) (told_ok (live_of x).number (has (live_of x).statement.block e) true q)

pub blocker_none : (has : Has PlainSet) (all : List Stated) (i : ℕ) (e : PlainEvent) → length all ≤ i → blocker has (map live_of all) e ≡ blocker has (map live_of (drop i all)) e →
    blocker has (map live_of all) e ≡ Ok None
unfolding blocker
blocker_none has all i e h w = w ∙ ap (λ (xs : List Stated). blocker has (map live_of xs) e) (drop_all i all h)

pub blocker_fault : (has : Has PlainSet) (all : List Stated) (i : ℕ) (x : Stated) (e : PlainEvent) (f : SelectFault) → i < length all → x ≡ get_or all i x →
    blocker has (map live_of all) e ≡ blocker has (map live_of (drop i all)) e →
    FaultAs (by_number (live_of x).number (has (live_of x).statement.block e)) f → FaultAs (blocker has (map live_of all) e) f
blocker_fault has all i x e f h k w q =
    fault_on (by_number (live_of x).number (has (live_of x).statement.block e)) (blocker has (map live_of all) e) f
    (λ z m.
    let t = told_err (live_of x).number (has (live_of x).statement.block e) z m in
    w ∙ ap (λ (xs : List Stated). blocker has (map live_of xs) e) (drop_is all i x h k)
    ∙ blocker_of has x (drop (i + 1) all) e (Err t.0) t.1 ∙ ap (λ (y : ℕ × run.SetFault). Err y) (sym t.2)) q
