-- What is known of events, where one block set changes.
use Rattle.std.proofs.Common.{◌≡◌, ℕ, zero, suc, ◌+◌, ◌<◌, ◌≤◌, arith, Bool, true, false, not, ◌&&◌, nat_eq, List, [], ◌∷◌, ◌++◌, length, map, set, get_or, refl, ap, sym, ◌∙◌, subst, Option, Some, None, Ok, Err, IsOk, if◌then◌else◌}
use Rattle.std.proofs.lemmas.Bool.{eq-eqb, eqb-true, ne_eqb}
use Rattle.std.proofs.lemmas.Option.{slice_get-get_or}
use Rattle.js_data.specs.Event.{PlainEvent}
use Rattle.js_value.specs.Value.{PlainSet}
use Rattle.js_meaning.specs.State.{Ground}
use Rattle.bp_meaning.specs.Membership.{Membership, member}
use Rattle.bp_known.specs.declared.known.Known.{Known}
use Rattle.bp_known.specs.declared.known.Known.TheVariants.{Unknown, Free, Blocked}
use Rattle.bp_known.specs.declared.known.Told.{Told}
use Rattle.bp_known.specs.Known.{Sets, restated, IsFree, IsBlockedBy, IsKnown, AreKnown, known_again, told_again, with_membership, without, with_answer}

none_some : {A : Type 0} {a : A} → None ≡ Some a → ⊥
none_some e = cc

some_one : {A : Type 0} {a b : A} → Some a ≡ Some b → a ≡ b
some_one e = cc

ok_is : (m : Membership) (b : Bool) → m ≡ Ok b → IsOk m
ok_is m b h = subst (λ (x : Membership). IsOk x) (sym h) refl

-- ---- block sets by number

pub restated_here : (n : ℕ) (o : Option PlainSet) (sets : Sets) → restated n o sets n ≡ o
restated_here n o sets = ap (λ (b : Bool). if b then o else sets n) (eq-eqb n n refl)

pub restated_apart : (n i : ℕ) (o : Option PlainSet) (sets : Sets) → nat_eq n i ≡ false → restated n o sets i ≡ sets i
restated_apart n i o sets h = ap (λ (b : Bool). if b then o else sets i) h

pub restated_at : (n i : ℕ) (o : Option PlainSet) (sets : Sets) → nat_eq n i ≡ true → restated n o sets i ≡ o
restated_at n i o sets h = ap (λ (b : Bool). if b then o else sets i) h

apart_back : (m n : ℕ) → nat_eq m n ≡ false → nat_eq n m ≡ false
apart_back m n h = ne_eqb n m (λ q. differ (sym q))
  where
    differ : m ≡ n → ⊥
    differ q = (let t : nat_eq m n ≡ true = eq-eqb m n q in cc)

-- ---- a list that is changed from its front

abbrev pub halfway : {A : Type 0} → (A → A) → ℕ → List A → List A
halfway f zero xs = xs
halfway f (suc n) [] = []
halfway f (suc n) (x ∷ xs) = f x ∷ halfway f n xs

halfway_next : {A : Type 0} (f : A → A) (xs : List A) (n : ℕ) (x y : A) → n < length xs → x ≡ get_or (halfway f n xs) n x → y ≡ f x → set (halfway f n xs) n y ≡ halfway f (suc n) xs
halfway_next f [] n x y low h k = absurd (omega arith)
halfway_next f (z ∷ zs) zero x y low h k = ap (λ w. w ∷ zs) (k ∙ ap f h)
halfway_next f (z ∷ zs) (suc n) x y low h k = ap (λ ws. f z ∷ ws) (halfway_next f zs n x y (omega (arith, low)) h k)

pub halfway_step : {A : Type 0} (f : A → A) (xs : List A) (n : ℕ) (x y : A) → n < length xs → x ≡ get_or (halfway f n xs) n x → y ≡ f x → set (halfway f n xs) n y ≡ halfway f (n + 1) xs
halfway_step f xs n x y low h k =
    let e : suc n ≡ n + 1 = omega arith in
    halfway_next f xs n x y low h k ∙ ap (λ m. halfway f m xs) e

pub halfway_all : {A : Type 0} (f : A → A) (xs : List A) (n : ℕ) → length xs ≤ n → halfway f n xs ≡ map f xs
halfway_all f [] zero low = refl
halfway_all f [] (suc n) low = refl
halfway_all f (x ∷ xs) zero low = absurd (omega (arith, low))
halfway_all f (x ∷ xs) (suc n) low = ap (λ ws. f x ∷ ws) (halfway_all f xs n (omega (arith, low)))

pub length_halfway : {A : Type 0} (f : A → A) (xs : List A) (n : ℕ) → length (halfway f n xs) ≡ length xs
length_halfway f xs zero = refl
length_halfway f [] (suc n) = refl
length_halfway f (x ∷ xs) (suc n) = ap suc (length_halfway f xs n)

same_at : {A : Type 0} (xs : List A) (n : ℕ) (x y : A) → n < length xs → x ≡ get_or xs n x → y ≡ get_or xs n y → x ≡ y
same_at xs n x y low a b = a ∙ some_one (sym (slice_get-get_or xs n x low) ∙ slice_get-get_or xs n y low) ∙ sym b

-- one more of them
pub renewed_step : (f : Told → Told) (ts us : List Told) (n : ℕ) (x y : Told) (k : Known) → us ≡ halfway f n ts → n < length us → x ≡ get_or us n x → y ≡ get_or us n y →
    (let t : Told = record { event = x.event; known = k } in t ≡ f x) → set us n (record { event = y.event; known = k }) ≡ halfway f (n + 1) ts
renewed_step f ts us n x y k h low a b e =
    let len : length us ≡ length ts = ap (λ (vs : List Told). length vs) h ∙ length_halfway f ts n in
    let new : Told = record { event = y.event; known = k } in
    ap (λ (vs : List Told). set vs n new) h
    ∙ halfway_step f ts n x new (omega (arith, low, len)) (a ∙ ap (λ (vs : List Told). get_or vs n x) h)
    (ap (λ (t : Told). let u : Told = record { event = t.event; known = k } in u) (sym (same_at us n x y low a b)) ∙ e)

module _ (base : Ground) (budget : ℕ) where
  -- what is known rests on the sets alone
  pub known_by : (f g : Sets) (e : PlainEvent) (k : Known) → ((i : ℕ) → f i ≡ g i) → IsKnown base budget f e k → IsKnown base budget g e k
  known_by f g e Unknown h k = tt
  known_by f g e Free h k = record { none = λ i s at. k.none i s (h i ∙ at) }
  known_by f g e (Blocked n) h k = record { tell = λ i s at. k.tell i s (h i ∙ at); set = k.set; there = sym (h n) ∙ k.there; has = k.has }

  -- ---- a set is gone

  gone_at : (n i : ℕ) (sets : Sets) (s : PlainSet) → restated n None sets i ≡ Some s → sets i ≡ Some s
  gone_at n i sets s h = by (nat_eq n i) refl
    where
      by : (b : Bool) → nat_eq n i ≡ b → sets i ≡ Some s
      by true e = absurd (none_some (sym (restated_at n i None sets e) ∙ h))
      by false e = sym (restated_apart n i None sets e) ∙ h

  free_without : (n : ℕ) (sets : Sets) (e : PlainEvent) → IsFree base budget sets e → IsFree base budget (restated n None sets) e
  free_without n sets e k = record { none = λ i s at. k.none i s (gone_at n i sets s at) }

  blocked_without : (n m : ℕ) (sets : Sets) (e : PlainEvent) → nat_eq m n ≡ false → IsBlockedBy base budget sets e m → IsBlockedBy base budget (restated n None sets) e m
  blocked_without n m sets e other k = record {
    tell = λ i s at. k.tell i s (gone_at n i sets s at);
    set = k.set;
    there = restated_apart n m None sets (apart_back m n other) ∙ k.there;
    has = k.has;
  }

  pub known_without : (n : ℕ) (sets : Sets) (e : PlainEvent) (k : Known) → IsKnown base budget sets e k → IsKnown base budget (restated n None sets) e (without n k)
  known_without n sets e Unknown h = tt
  known_without n sets e Free h = free_without n sets e h
  known_without n sets e (Blocked m) h = by (nat_eq m n) refl
    where
      by : (b : Bool) → nat_eq m n ≡ b → IsKnown base budget (restated n None sets) e (if b then Unknown else Blocked m)
      by true q = tt
      by false q = blocked_without n m sets e q h

  -- ---- a set more

  module _ (n : ℕ) (sets : Sets) (e : PlainEvent) (s : PlainSet) where
    -- what holds of the set and of all others
    all_more : (P : PlainSet → Type 0) → P s → ((i : ℕ) (t : PlainSet) → sets i ≡ Some t → P t) → (i : ℕ) (t : PlainSet) → restated n (Some s) sets i ≡ Some t → P t
    all_more P p q i t h = by (nat_eq n i) refl
      where
        by : (b : Bool) → nat_eq n i ≡ b → P t
        by true k = subst P (some_one (sym (restated_at n i (Some s) sets k) ∙ h)) p
        by false k = q i t (sym (restated_apart n i (Some s) sets k) ∙ h)

    free_more : member base budget s e ≡ Ok false → IsFree base budget sets e → IsFree base budget (restated n (Some s) sets) e
    free_more h k = record { none = all_more (λ t. member base budget t e ≡ Ok false) h k.none }

    free_taken : member base budget s e ≡ Ok true → IsFree base budget sets e → IsBlockedBy base budget (restated n (Some s) sets) e n
    free_taken h k = record {
      tell = all_more (λ t. IsOk (member base budget t e)) (ok_is (member base budget s e) true h) (λ i t at. ok_is (member base budget t e) false (k.none i t at));
      set = s;
      there = restated_here n (Some s) sets;
      has = h;
    }

    blocked_more : (m : ℕ) (b : Bool) → nat_eq m n ≡ false → member base budget s e ≡ Ok b → IsBlockedBy base budget sets e m → IsBlockedBy base budget (restated n (Some s) sets) e m
    blocked_more m b other h k = record {
      tell = all_more (λ t. IsOk (member base budget t e)) (ok_is (member base budget s e) b h) k.tell;
      set = k.set;
      there = restated_apart n m (Some s) sets (apart_back m n other) ∙ k.there;
      has = k.has;
    }

    blocked_still : (m : ℕ) → nat_eq m n ≡ true → member base budget s e ≡ Ok true → IsBlockedBy base budget sets e m → IsBlockedBy base budget (restated n (Some s) sets) e m
    blocked_still m is h k = record {
      tell = all_more (λ t. IsOk (member base budget t e)) (ok_is (member base budget s e) true h) k.tell;
      set = s;
      there = restated_at n m (Some s) sets (eq-eqb n m (sym (eqb-true m n is)));
      has = h;
    }

    pub known_with : (k : Known) (b : Bool) → member base budget s e ≡ Ok b → IsKnown base budget sets e k → IsKnown base budget (restated n (Some s) sets) e (with_answer n b k)
    known_with Unknown b h k = tt
    known_with Free true h k = free_taken h k
    known_with Free false h k = free_more h k
    known_with (Blocked m) b h k = by (nat_eq m n) b refl h
      where
        by : (c d : Bool) → nat_eq m n ≡ c → member base budget s e ≡ Ok d → IsKnown base budget (restated n (Some s) sets) e (if c && not d then Unknown else Blocked m)
        by true true q h = blocked_still m q h k
        by true false q h = tt
        by false d q h = blocked_more m d q h k

  -- ---- all that is told

  pub none_told : (sets : Sets) (ts : List Told) → ts ≡ [] → AreKnown base budget sets ts
  none_told sets [] h = tt
  none_told sets (t ∷ ts) h = absurd (cc)

  pub told_at : (sets : Sets) (ts : List Told) (i : ℕ) (d : Told) → AreKnown base budget sets ts → i < length ts → IsKnown base budget sets (get_or ts i d).event (get_or ts i d).known
  told_at sets [] i d h low = absurd (omega arith)
  told_at sets (t ∷ ts) zero d h low = h.0
  told_at sets (t ∷ ts) (suc i) d h low = told_at sets ts i d h.1 (omega (arith, low))

  pub told_more : (sets : Sets) (ts : List Told) (t : Told) → AreKnown base budget sets ts → IsKnown base budget sets t.event t.known → AreKnown base budget sets (ts ++ t ∷ [])
  told_more sets [] t h k = (k, tt)
  told_more sets (x ∷ xs) t h k = (h.0, told_more sets xs t h.1 k)

  pub told_by : (f g : Sets) (ts : List Told) → ((i : ℕ) → f i ≡ g i) → AreKnown base budget f ts → AreKnown base budget g ts
  told_by f g [] h k = tt
  told_by f g (t ∷ ts) h k = (known_by f g t.event t.known h k.0, told_by f g ts h k.1)

  -- ---- one set changes

  pub known_still : (n : ℕ) (sets : Sets) (o : Option PlainSet) (e : PlainEvent) (k : Known) → IsKnown base budget sets e k → IsKnown base budget (restated n o sets) e (known_again base budget n o e k)
  known_still n sets None e k h = known_without n sets e k h
  known_still n sets (Some s) e k h = by (member base budget s e) refl
    where
      by : (m : Membership) → member base budget s e ≡ m → IsKnown base budget (restated n (Some s) sets) e (with_membership n m k)
      by (Ok b) q = known_with n sets e s k b q h
      by (Err f) q = tt

  pub told_still : (n : ℕ) (sets : Sets) (o : Option PlainSet) (ts : List Told) → AreKnown base budget sets ts → AreKnown base budget (restated n o sets) (map (told_again base budget n o) ts)
  told_still n sets o [] h = tt
  told_still n sets o (t ∷ ts) h = (known_still n sets o t.event t.known h.0, told_still n sets o ts h.1)

  -- what was unknown stays so
  pub unknown_again : (n : ℕ) (s : PlainSet) (e : PlainEvent) (k : Known) → k ≡ Unknown → Unknown ≡ known_again base budget n (Some s) e k
  unknown_again n s e k h = by (member base budget s e) ∙ ap (λ (x : Known). with_membership n (member base budget s e) x) (sym h)
    where
      by : (m : Membership) → Unknown ≡ with_membership n m Unknown
      by (Ok b) = refl
      by (Err f) = refl

  -- what is told of an event where it is found
  pub known_here : (sets : Sets) (seen ts : List Told) (i : ℕ) (x : Told) (e : PlainEvent) → ts ≡ seen → i < length seen → ((d : Told) → (get_or seen i d).event ≡ e) → x ≡ get_or ts i x → AreKnown base budget sets seen →
      IsKnown base budget sets e x.known
  known_here sets seen ts i x e view low same at h =
      let is : x ≡ get_or seen i x = at ∙ ap (λ (us : List Told). get_or us i x) view in
      subst (λ (f : PlainEvent). IsKnown base budget sets f x.known) (ap (λ (t : Told). t.event) is ∙ same x)
      (subst (λ (t : Told). IsKnown base budget sets t.event t.known) (sym is) (told_at sets seen i x h low))
