-- Numbers that come into lists and leave them.
use Rattle.std.proofs.Common.{◌≡◌, ◌⊎◌, inl, inr, ℕ, zero, suc, ◌+◌, ◌<◌, ◌≤◌, arith, Bool, true, false, ◌||◌, nat_eq, List, [], ◌∷◌, length, take, get_or, slice_index, insert, remove, refl, ap, sym, ◌∙◌, subst, Option, Some, None, slice_get, Vec, Result, Ok, Err, OnOk}
use Rattle.std.specs.declared.alloc.Global.{Global}
use Rattle.std.specs.Map.{lookup}
use Rattle.std.specs.Option.{option_map_or}
use Rattle.std.proofs.lemmas.Bool.{eq-eqb, eqb-true, ne_eqb, or_cases, or_left, or_right}
use Rattle.std.proofs.lemmas.List.{take_all}
use Rattle.std.proofs.lemmas.List.Folds.{list_any_more}
use Rattle.std.proofs.lemmas.List.Sorted.{list_any-IsPermutation, IsPermutation-insert, IsPermutation-remove}
use Rattle.bp_roll.specs.Rolls.{is_in, is_noted, numbers_at}
use Rattle.bp_roll.specs.Lists.{AreListed, Lists, is_listed, items_at, plain_lists}

-- ---- one list

none_some : {A : Type 0} {a : A} → None ≡ Some a → ⊥
none_some e = cc

some_one : {A : Type 0} {a b : A} → Some a ≡ Some b → a ≡ b
some_one e = cc

behind : (a b : Bool) → a ≡ false → (a || b) ≡ true → b ≡ true
behind true b e h = absurd (cc)
behind false b e h = h

pub got : (xs : List ℕ) (i m : ℕ) → slice_get xs i ≡ Some m → (i < length xs) × (m ≡ get_or xs i m)
got [] i m h = absurd (none_some h)
got (x ∷ xs) zero m h = (omega arith, sym (some_one h))
got (x ∷ xs) (suc i) m h = let r = got xs i m h in let low = r.0 in (omega (arith, low), r.1)

module _ (n m : ℕ) (xs : List ℕ) (at : ℕ) where
  pub in_insert : is_in n xs ≡ true → is_in n (insert xs at m) ≡ true
  in_insert h = sym (list_any-IsPermutation (nat_eq n) (m ∷ xs) (insert xs at m) (IsPermutation-insert xs at m)) ∙ or_right (nat_eq n m) (is_in n xs) h

  pub in_remove : slice_get xs at ≡ Some m → nat_eq n m ≡ false → is_in n xs ≡ true → is_in n (remove xs at) ≡ true
  in_remove g e h =
      let is = got xs at m g in
      behind (nat_eq n m) (is_in n (remove xs at)) e (sym (list_any-IsPermutation (nat_eq n) xs (m ∷ remove xs at) (IsPermutation-remove xs at m is.0 is.1)) ∙ h)

pub in_inserted : (m : ℕ) (xs : List ℕ) (at : ℕ) → is_in m (insert xs at m) ≡ true
in_inserted m xs at = sym (list_any-IsPermutation (nat_eq m) (m ∷ xs) (insert xs at m) (IsPermutation-insert xs at m)) ∙ or_left (nat_eq m m) (is_in m xs) (eq-eqb m m refl)

pub in_found : (m : ℕ) (xs : List ℕ) (at : ℕ) → slice_get xs at ≡ Some m → is_in m xs ≡ true
in_found m [] at h = absurd (none_some h)
in_found m (x ∷ xs) zero h = or_left (nat_eq m x) (is_in m xs) (eq-eqb m x (sym (some_one h)))
in_found m (x ∷ xs) (suc at) h = or_right (nat_eq m x) (is_in m xs) (in_found m xs at h)

-- ---- lists by keys

-- the list of one key is this one, and all others stay
module _ (old new : Lists) (key : ℕ) (w : Vec ℕ Global) (here : lookup (nat_eq key) new ≡ Some w) (apart : (q : ℕ) → nat_eq key q ≡ false → lookup (nat_eq q) new ≡ lookup (nat_eq q) old) where
  pub listed_here : (n : ℕ) → is_in n w.items ≡ true → is_listed new key n ≡ true
  listed_here n h = ap (λ (o : Option (Vec ℕ Global)). is_in n (option_map_or (λ v. v.items) o [])) here ∙ h

  pub listed_kept : (n : ℕ) → (is_in n (items_at old key) ≡ true → is_in n w.items ≡ true) → (k : ℕ) → is_listed old k n ≡ true → is_listed new k n ≡ true
  listed_kept n grows k h = by (nat_eq key k) refl
    where
      by : (b : Bool) → nat_eq key k ≡ b → is_listed new k n ≡ true
      by true e =
          let q : key ≡ k = eqb-true key k e in
          subst (λ (j : ℕ). is_listed new j n ≡ true) q (listed_here n (grows (subst (λ (j : ℕ). is_listed old j n ≡ true) (sym q) h)))
      by false e = ap (λ (o : Option (Vec ℕ Global)). is_in n (option_map_or (λ v. v.items) o [])) (apart k e) ∙ h

-- what is found of a key that is not there
pub nobody_at : (es : Lists) (key n : ℕ) → lookup (nat_eq key) es ≡ None → is_in n (items_at es key) ≡ true → ⊥
nobody_at es key n h k = (let e : is_in n (items_at es key) ≡ false = ap (λ (o : Option (Vec ℕ Global)). is_in n (option_map_or (λ v. v.items) o [])) h in cc)

-- ---- many keys of one number

pub in_more : (k i : ℕ) (ks : List ℕ) → i < length ks → is_in k (take (i + 1) ks) ≡ true → (is_in k (take i ks) ≡ true) ⊎ (k ≡ slice_index ks i)
in_more k i ks low h = by (or_cases (is_in k (take i ks)) (nat_eq k (slice_index ks i)) (sym (list_any_more (nat_eq k) ks i 0 low) ∙ h))
  where
    by : (is_in k (take i ks) ≡ true) ⊎ (nat_eq k (slice_index ks i) ≡ true) → (is_in k (take i ks) ≡ true) ⊎ (k ≡ slice_index ks i)
    by (inl e) = inl e
    by (inr e) = inr (eqb-true k (slice_index ks i) e)

-- one more key
pub enter_step : (old new : Lists) (keys : List ℕ) (i number : ℕ) → i < length keys → is_listed new (slice_index keys i) number ≡ true → ((k n : ℕ) → is_listed old k n ≡ true → is_listed new k n ≡ true) →
    ((k : ℕ) → is_in k (take i keys) ≡ true → is_listed old k number ≡ true) → (k : ℕ) → is_in k (take (i + 1) keys) ≡ true → is_listed new k number ≡ true
enter_step old new keys i number low here others before k h = by (in_more k i keys low h)
  where
    by : (is_in k (take i keys) ≡ true) ⊎ (k ≡ slice_index keys i) → is_listed new k number ≡ true
    by (inl e) = others k number (before k e)
    by (inr e) = subst (λ (j : ℕ). is_listed new j number ≡ true) (sym e) here

pub enter_all : (new : Lists) (keys : List ℕ) (i number : ℕ) → length keys ≤ i → ((k : ℕ) → is_in k (take i keys) ≡ true → is_listed new k number ≡ true) → (k : ℕ) → is_in k keys ≡ true → is_listed new k number ≡ true
enter_all new keys i number low there k h = there k (ap (λ (ks : List ℕ). is_in k ks) (take_all i keys low) ∙ h)

-- ---- the keys that are kept of each number

pub listed_more : (lists lists' kept : Lists) → ((k n : ℕ) → is_listed lists k n ≡ true → is_listed lists' k n ≡ true) → AreListed lists kept → AreListed lists' kept
listed_more lists lists' kept grows h n k e = grows k n (h n k e)

module _ (lists kept kept' : Lists) (number : ℕ) (apart : (q : ℕ) → nat_eq number q ≡ false → lookup (nat_eq q) kept' ≡ lookup (nat_eq q) kept) (h : AreListed lists kept) where
  stays : (n k : ℕ) → nat_eq number n ≡ false → is_in k (items_at kept' n) ≡ true → is_listed lists k n ≡ true
  stays n k e w = h n k (sym (ap (λ (o : Option (Vec ℕ Global)). is_in k (option_map_or (λ v. v.items) o [])) (apart n e)) ∙ w)

  -- it gives up its keys
  pub listed_left : (lists' : Lists) → ((k n : ℕ) → nat_eq n number ≡ false → is_listed lists k n ≡ true → is_listed lists' k n ≡ true) → lookup (nat_eq number) kept' ≡ None → AreListed lists' kept'
  listed_left lists' others none n k w = by (nat_eq number n) refl
    where
      by : (b : Bool) → nat_eq number n ≡ b → is_listed lists' k n ≡ true
      by true e = absurd (nobody_at kept' number k none (subst (λ (m : ℕ). is_in k (items_at kept' m) ≡ true) (sym (eqb-true number n e)) w))
      by false e = others k n (ne_eqb n number (λ q. (let t : nat_eq number n ≡ true = eq-eqb number n (sym q) in cc))) (stays n k e w)

  -- these are its keys from now on
  pub listed_kept_at : (keys : Vec ℕ Global) → lookup (nat_eq number) kept' ≡ Some keys → ((k : ℕ) → is_in k keys.items ≡ true → is_listed lists k number ≡ true) → AreListed lists kept'
  listed_kept_at keys some there n k w = by (nat_eq number n) refl
    where
      by : (b : Bool) → nat_eq number n ≡ b → is_listed lists k n ≡ true
      by true e =
          let q : number ≡ n = eqb-true number n e in
          let own : is_in k (items_at kept' number) ≡ true = subst (λ (m : ℕ). is_in k (items_at kept' m) ≡ true) (sym q) w in
          subst (λ (m : ℕ). is_listed lists k m ≡ true) q (there k (sym (ap (λ (o : Option (Vec ℕ Global)). is_in k (option_map_or (λ v. v.items) o [])) some) ∙ own))
      by false e = stays n k e w

-- ---- as contracts see them

pub plain_at : (es : Lists) (k : ℕ) → numbers_at (plain_lists es) k ≡ items_at es k
plain_at [] k = refl
plain_at (e ∷ es) k = by (nat_eq k e.0) refl (plain_at es k)
  where
    by : (b : Bool) → nat_eq k e.0 ≡ b → numbers_at (plain_lists es) k ≡ items_at es k → numbers_at (plain_lists (e ∷ es)) k ≡ items_at (e ∷ es) k
    by true h ih = rw h refl
    by false h ih = rw h ih

pub plain_listed : (es : Lists) (k n : ℕ) → is_noted (plain_lists es) k n ≡ is_listed es k n
plain_listed es k n = ap (λ (ns : List ℕ). is_in n ns) (plain_at es k)

pub noted_there : {E : Type 0} (r : Result (Unit {0}) E) (lists : Lists) (keys : List ℕ) (n : ℕ) → OnOk r ((k : ℕ) → is_in k keys ≡ true → is_listed lists k n ≡ true) → OnOk r ((k : ℕ) → is_in k keys ≡ true → is_noted (plain_lists lists) k n ≡ true)
noted_there (Ok x) lists keys n h = λ k w. plain_listed lists k n ∙ h k w
noted_there (Err x) lists keys n h = h
