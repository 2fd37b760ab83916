-- The first request of each b-thread that is among some events.
use Rattle.std.proofs.Common.{◌≡◌, ℕ, ◌+◌, ◌<◌, ◌≤◌, Bool, true, false, ◌||◌, List, [], ◌∷◌, ◌++◌, length, map, drop, get_or, refl, ap, sym, ◌∙◌, append_assoc, append-nil, filter, find, if◌then◌else◌, Option, Some, None}
use Rattle.std.specs.List.{list_any}
use Rattle.std.proofs.lemmas.List.Folds.{list_any-append}
use Rattle.std.proofs.lemmas.List.{drop_all, map_push}
use Rattle.std.proofs.Math.Bool.{or-false, or_assoc}
use Rattle.indexmap.specs.IndexSet.{insert_key}
use Rattle.js_data.specs.Event.{PlainEvent, same_event}
use Rattle.js_data.proofs.SameEvent.{same_event-sound}
use Rattle.js_data.proofs.Shared.{drop_is}
use Rattle.js_value.specs.Value.{PlainSet}
use Rattle.bp_run.specs.Selecting.{Live}
use Rattle.bp_run.specs.Choosing.{is_first_of}
use Rattle.bp_live.specs.Candidates.{is_first}
use Rattle.bp_roll.specs.Keys.{same_sym}

-- ---- keys of events

module _ {K : Type 0} (f : K → PlainEvent) where
  abbrev pub same_by : K → K → Bool
  same_by a b = same_event (f a) (f b)

  abbrev pub among : List K → PlainEvent → Bool
  among ks e = list_any (λ k. same_event e (f k)) ks

  or_true : (a b : Bool) → a ≡ true → b ≡ true → b ≡ (b || a)
  or_true a true h k = refl
  or_true a false h k = absurd (cc)

  or_false : (a b : Bool) → a ≡ false → b ≡ (b || a)
  or_false true true h = refl
  or_false false true h = refl
  or_false false false h = refl
  or_false true false h = absurd (cc)

  -- a key that is there already
  there : (ks : List K) (k : K) (e : PlainEvent) (d : Bool) → same_event e (f k) ≡ d → among ks (f k) ≡ true → among ks e ≡ (among ks e || same_event e (f k))
  there ks k e true h m = or_true (same_event e (f k)) (among ks e) h (ap (λ (z : PlainEvent). among ks z) (same_event-sound e (f k) h) ∙ m)
  there ks k e false h m = or_false (same_event e (f k)) (among ks e) h

  or_twice : (a b : Bool) → (a || (b || false)) ≡ (a || b)
  or_twice a b = ap (λ c. a || c) (or-false b)

  more_at : (ks : List K) (k : K) (e : PlainEvent) (b : Bool) → among ks (f k) ≡ b → among (if b then ks else ks ++ k ∷ []) e ≡ (among ks e || same_event e (f k))
  more_at ks k e true m = there ks k e (same_event e (f k)) refl m
  more_at ks k e false m = list_any-append (λ x. same_event e (f x)) ks (k ∷ []) ∙ or_twice (among ks e) (same_event e (f k))

  -- one key more
  pub among_more : (ks new : List K) (k : K) (e : PlainEvent) → new ≡ insert_key same_by ks k → among new e ≡ (among ks e || same_event e (f k))
  among_more ks new k e h = ap (λ (xs : List K). among xs e) h ∙ more_at ks k e (among ks (f k)) refl

-- ---- the keys of all

module _ {A : Type 0} (f : A → PlainEvent) where
  abbrev pub later : PlainEvent → ℕ → List A → Bool
  later e i xs = list_any (same_event e) (map f (drop i xs))

  pub keys_step : (all : List A) (i : ℕ) (x : A) (e : PlainEvent) (old new whole : Bool) → i < length all → x ≡ get_or all i x → new ≡ (old || same_event e (f x)) →
      (old || later e i all) ≡ whole → (new || later e (i + 1) all) ≡ whole
  keys_step all i x e old new whole h k m w =
      ap (λ (b : Bool). b || later e (i + 1) all) m ∙ or_assoc old (same_event e (f x)) (later e (i + 1) all)
      ∙ ap (λ (xs : List A). old || list_any (same_event e) (map f xs)) (sym (drop_is all i x h k)) ∙ w

  pub keys_last : (all : List A) (i : ℕ) (e : PlainEvent) (found whole : Bool) → length all ≤ i → (found || later e i all) ≡ whole → found ≡ whole
  keys_last all i e found whole h w = sym (or-false found) ∙ sym (ap (λ (xs : List A). found || list_any (same_event e) (map f xs)) (drop_all i all h)) ∙ w

-- ---- the first one

pub found_here : (p : PlainEvent → Bool) (all : List PlainEvent) (i : ℕ) (r : PlainEvent) (whole : Option PlainEvent) → i < length all → r ≡ get_or all i r → p r ≡ true → whole ≡ find p (drop i all) → Some r ≡ whole
found_here p all i r whole h k m w = sym (w ∙ ap (λ (xs : List PlainEvent). find p xs) (drop_is all i r h k) ∙ (rw m refl))

pub found_later : (p : PlainEvent → Bool) (all : List PlainEvent) (i : ℕ) (r : PlainEvent) (whole : Option PlainEvent) → i < length all → r ≡ get_or all i r → p r ≡ false → whole ≡ find p (drop i all) →
    whole ≡ find p (drop (i + 1) all)
found_later p all i r whole h k m w = w ∙ ap (λ (xs : List PlainEvent). find p xs) (drop_is all i r h k) ∙ (rw m refl)

find_same : (p q : PlainEvent → Bool) (xs : List PlainEvent) → ((x : PlainEvent) → p x ≡ q x) → find p xs ≡ find q xs
find_same p q xs h = λ i. find (λ x. h x i) xs

abbrev same_as : PlainEvent → Option PlainEvent → Bool
same_as e o = elim o [ None ↦ false | Some r ↦ same_event r e ]

-- where it was found, and where none was
pub first_found : (test : PlainEvent → Bool) (e r : PlainEvent) (t : Live PlainSet) → Some r ≡ find test t.statement.request → is_first test e t ≡ same_event r e
first_found test e r t h = ap (λ (o : Option PlainEvent). same_as e o) (sym h)

pub first_missing : (test : PlainEvent → Bool) (e : PlainEvent) (t : Live PlainSet) → None ≡ find test t.statement.request → is_first test e t ≡ false
first_missing test e t h = ap (λ (o : Option PlainEvent). same_as e o) (sym h)

any_same : (p q : Live PlainSet → Bool) (ts : List (Live PlainSet)) → ((t : Live PlainSet) → p t ≡ q t) → list_any p ts ≡ list_any q ts
any_same p q ts h = λ i. list_any (λ t. h t i) ts

-- among events that are told alike
pub firsts_of : (inner : List PlainEvent) (test : PlainEvent → Bool) (ts : List (Live PlainSet)) (e : PlainEvent) → ((r : PlainEvent) → test r ≡ list_any (same_event r) inner) →
    list_any (is_first test e) ts ≡ list_any (is_first_of inner e) ts
firsts_of inner test ts e h =
    any_same (is_first test e) (is_first_of inner e) ts
    (λ t. ap (λ (o : Option PlainEvent). same_as e o) (find_same test (λ r. list_any (same_event r) inner) t.statement.request h))

-- ---- the firsts of all

abbrev pub any_later : {A : Type 0} → (A → Live PlainSet) → (Live PlainSet → Bool) → ℕ → List A → Bool
any_later f q i all = list_any q (map f (drop i all))

pub firsts_more : {A : Type 0} (f : A → Live PlainSet) (q : Live PlainSet → Bool) (all : List A) (i : ℕ) (x : A) (e r : PlainEvent) (old new whole : Bool) → i < length all → x ≡ get_or all i x → q (f x) ≡ same_event r e →
    new ≡ (old || same_event e r) → (old || any_later f q i all) ≡ whole → (new || any_later f q (i + 1) all) ≡ whole
firsts_more {A} f q all i x e r old new whole h k m n w =
    let rest = any_later f q (i + 1) all in
    ap (λ (b : Bool). b || rest) n ∙ or_assoc old (same_event e r) rest
    ∙ ap (λ (b : Bool). old || (b || rest)) (same_sym e r ∙ sym m)
    ∙ ap (λ (xs : List A). old || list_any q (map f xs)) (sym (drop_is all i x h k)) ∙ w

pub firsts_same : {A : Type 0} (f : A → Live PlainSet) (q : Live PlainSet → Bool) (all : List A) (i : ℕ) (x : A) (old whole : Bool) → i < length all → x ≡ get_or all i x → q (f x) ≡ false →
    (old || any_later f q i all) ≡ whole → (old || any_later f q (i + 1) all) ≡ whole
firsts_same {A} f q all i x old whole h k m w =
    let rest = any_later f q (i + 1) all in
    ap (λ (b : Bool). old || (b || rest)) (sym m)
    ∙ ap (λ (xs : List A). old || list_any q (map f xs)) (sym (drop_is all i x h k)) ∙ w

pub firsts_last : {A : Type 0} (f : A → Live PlainSet) (q : Live PlainSet → Bool) (all : List A) (i : ℕ) (found whole : Bool) → length all ≤ i → (found || any_later f q i all) ≡ whole → found ≡ whole
firsts_last {A} f q all i found whole h w =
    sym (or-false found) ∙ sym (ap (λ (xs : List A). found || list_any q (map f xs)) (drop_all i all h)) ∙ w

-- ---- those that are kept

module _ {A : Type 0} (f : A → PlainEvent) (p : PlainEvent → Bool) where
  kept_one : (x : A) (old new rest : List A) (b : Bool) → p (f x) ≡ b → new ≡ (if b then old ++ x ∷ [] else old) → map f new ++ filter p (map f rest) ≡ map f old ++ filter p (map f (x ∷ rest))
  kept_one x old new rest true h n =
      ap (λ (xs : List A). map f xs ++ filter p (map f rest)) n ∙ ap (λ (es : List PlainEvent). es ++ filter p (map f rest)) (map_push f old x)
      ∙ append_assoc (map f old) (f x ∷ []) (filter p (map f rest)) ∙ ap (λ (es : List PlainEvent). map f old ++ es) (sym (rw h refl))
  kept_one x old new rest false h n = ap (λ (xs : List A). map f xs ++ filter p (map f rest)) n ∙ ap (λ (es : List PlainEvent). map f old ++ es) (sym (rw h refl))

  pub kept_step : (all : List A) (i : ℕ) (x : A) (old new : List A) (whole : List PlainEvent) (b : Bool) → i < length all → x ≡ get_or all i x → b ≡ p (f x) → new ≡ (if b then old ++ x ∷ [] else old) →
      map f old ++ filter p (map f (drop i all)) ≡ whole → map f new ++ filter p (map f (drop (i + 1) all)) ≡ whole
  kept_step all i x old new whole b h k m n w =
      kept_one x old new (drop (i + 1) all) b (sym m) n
      ∙ ap (λ (xs : List A). map f old ++ filter p (map f xs)) (sym (drop_is all i x h k)) ∙ w

  pub kept_last : (all : List A) (i : ℕ) (kept : List A) → length all ≤ i → map f kept ++ filter p (map f (drop i all)) ≡ filter p (map f all) → map f kept ≡ filter p (map f all)
  kept_last all i kept h w = sym (append-nil (map f kept)) ∙ sym (ap (λ (xs : List A). map f kept ++ filter p (map f xs)) (drop_all i all h)) ∙ w

-- ---- copies

pub copies_step : {A : Type 0} (f : A → PlainEvent) (all : List A) (i : ℕ) (x : A) (old new whole : List PlainEvent) → i < length all → x ≡ get_or all i x → new ≡ old ++ f x ∷ [] →
    old ++ map f (drop i all) ≡ whole → new ++ map f (drop (i + 1) all) ≡ whole
copies_step f all i x old new whole h k n w =
    ap (λ (es : List PlainEvent). es ++ map f (drop (i + 1) all)) n ∙ append_assoc old (f x ∷ []) (map f (drop (i + 1) all))
    ∙ ap (λ xs. old ++ map f xs) (sym (drop_is all i x h k)) ∙ w

pub copies_last : {A : Type 0} (f : A → PlainEvent) (all : List A) (i : ℕ) (old whole : List PlainEvent) → length all ≤ i → old ++ map f (drop i all) ≡ whole → old ≡ whole
copies_last f all i old whole h w = sym (append-nil old) ∙ sym (ap (λ xs. old ++ map f xs) (drop_all i all h)) ∙ w
