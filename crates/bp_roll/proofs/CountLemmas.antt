-- Counts, and those of each block together.
use Rattle.std.proofs.Common.{◌≡◌, ℕ, zero, suc, ◌+◌, ◌*◌, ◌-◌, ◌/◌, ◌<◌, ◌≤◌, arith, Bool, true, false, nat_eq, nat_lt, List, [], ◌∷◌, ◌++◌, drop, length, take, set, get_or, refl, ap, sym, ◌∙◌, subst}
use Rattle.std.specs.Prelude.{sum}
use Rattle.std.proofs.lemmas.Bool.{eq-eqb, eqb-true, ltb-true, ltb-false}
use Rattle.std.proofs.lemmas.List.{length-set, length_push, get_or-set_same, get_or-set_other, take-set-le, take_all, take_more}
use Rattle.std.proofs.lemmas.List.Sums.{sum_by-append, sum_by-cons, sum_by-take-le, sum_by_push}
use Rattle.std.proofs.Math.Seq.{take-add}
use Rattle.bp_roll.specs.Counting.{AreSums, count_at, of_block}

-- ---- counts

pub counts_push : (xs : List ℕ) (n : ℕ) → count_at (xs ++ 0 ∷ []) n ≡ count_at xs n
counts_push [] zero = refl
counts_push [] (suc n) = refl
counts_push (x ∷ xs) zero = refl
counts_push (x ∷ xs) (suc n) = counts_push xs n

pub counts_past : (xs : List ℕ) (n : ℕ) → length xs ≤ n → count_at xs n ≡ 0
counts_past [] n h = refl
counts_past (x ∷ xs) zero h = absurd (omega (arith, h))
counts_past (x ∷ xs) (suc n) h = counts_past xs n (omega (arith, h))

-- what stands there, whatever stands elsewhere
pub count_is : (xs : List ℕ) (n d : ℕ) → n < length xs → get_or xs n d ≡ count_at xs n
count_is [] n d low = absurd (omega (arith, low))
count_is (x ∷ xs) zero d low = refl
count_is (x ∷ xs) (suc n) d low = count_is xs n d (omega (arith, low))

pub counts_other : (xs : List ℕ) (n c m : ℕ) → nat_eq m n ≡ false → count_at (set xs n c) m ≡ count_at xs m
counts_other xs n c m e = get_or-set_other xs n m c 0 (λ q. (let t : nat_eq m n ≡ true = eq-eqb m n q in cc))

-- ---- sums of the first of them

pub sum_more : (xs : List ℕ) (n : ℕ) → n < length xs → sum (take (n + 1) xs) ≡ sum (take n xs) + count_at xs n
sum_more xs n low = ap (λ (ys : List ℕ). sum ys) (take_more xs n 0 low) ∙ sum_by_push (λ x. x) (take n xs) (count_at xs n)

sum_push : (xs : List ℕ) (k : ℕ) → sum (take k (xs ++ 0 ∷ [])) ≡ sum (take k xs)
sum_push [] zero = refl
sum_push [] (suc zero) = refl
sum_push [] (suc (suc k)) = refl
sum_push (x ∷ xs) zero = refl
sum_push (x ∷ xs) (suc k) = sum_by-cons (λ y. y) x (take k (xs ++ 0 ∷ [])) ∙ ap (λ (n : ℕ). x + n) (sum_push xs k) ∙ sym (sum_by-cons (λ y. y) x (take k xs))

sum_rises : (xs : List ℕ) (a c : ℕ) → a ≤ c → sum (take a xs) ≤ sum (take c xs)
sum_rises [] zero zero h = omega arith
sum_rises [] zero (suc c) h = omega arith
sum_rises [] (suc a) zero h = omega arith
sum_rises [] (suc a) (suc c) h = omega arith
sum_rises (x ∷ xs) zero c h = omega arith
sum_rises (x ∷ xs) (suc a) zero h = absurd (omega (arith, h))
sum_rises (x ∷ xs) (suc a) (suc c) h =
    let ih = sum_rises xs a c (omega (arith, h)) in
    let p = sum_by-cons (λ y. y) x (take a xs) in
    let q = sum_by-cons (λ y. y) x (take c xs) in
    omega (arith, ih, p, q)

sum_has : (xs : List ℕ) (a n c : ℕ) → a ≤ n → n < c → n < length xs → sum (take a xs) + count_at xs n ≤ sum (take c xs)
sum_has xs a n c h k low =
    let p = sum_rises xs a n h in
    let q = sum_more xs n low in
    let r = sum_rises xs (n + 1) c (omega (arith, k)) in
    omega (arith, p, q, r)

-- once one behind which they end is another
sum_set : (xs : List ℕ) (n c k : ℕ) → n < length xs → n < k → sum (take k (set xs n c)) + count_at xs n ≡ sum (take k xs) + c
sum_set [] n c k low h = absurd (omega (arith, low))
sum_set (x ∷ xs) n c zero low h = absurd (omega (arith, h))
sum_set (x ∷ xs) zero c (suc k) low h =
    let p = sum_by-cons (λ y. y) c (take k xs) in
    let q = sum_by-cons (λ y. y) x (take k xs) in
    omega (arith, p, q)
sum_set (x ∷ xs) (suc n) c (suc k) low h =
    let ih = sum_set xs n c k (omega (arith, low)) (omega (arith, h)) in
    let p = sum_by-cons (λ y. y) x (take k (set xs n c)) in
    let q = sum_by-cons (λ y. y) x (take k xs) in
    omega (arith, ih, p, q)

sum_before : (xs : List ℕ) (n c k : ℕ) → k ≤ n → sum (take k (set xs n c)) ≡ sum (take k xs)
sum_before xs n c k h = ap (λ (ys : List ℕ). sum ys) (take-set-le k xs n c h)

sum_all : (xs : List ℕ) (k : ℕ) → length xs ≤ k → sum (take k xs) ≡ sum xs
sum_all xs k h = ap (λ (ys : List ℕ). sum ys) (take_all k xs h)

-- ---- sums of blocks

-- the counts up to the end of a block
block_end : (xs : List ℕ) (i : ℕ) → sum (take (64 * (i + 1)) xs) ≡ sum (take (64 * i) xs) + of_block xs i
block_end xs i =
    let k : 64 * (i + 1) ≡ 64 * i + 64 = omega arith in
    ap (λ (n : ℕ). sum (take n xs)) k ∙ ap (λ (ys : List ℕ). sum ys) (take-add (64 * i) 64 xs) ∙ sum_by-append (λ x. x) (take (64 * i) xs) (take 64 (drop (64 * i) xs))

block_is : (xs : List ℕ) (i c : ℕ) → sum (take (64 * (i + 1)) xs) ≡ sum (take (64 * i) xs) + c → c ≡ of_block xs i
block_is xs i c h = let p = block_end xs i in omega (arith, p, h)

-- a sum is what its block adds
each_adds : (sums xs : List ℕ) (i : ℕ) → AreSums sums xs → i < length sums → sum (take (64 * (i + 1)) xs) ≡ sum (take (64 * i) xs) + count_at sums i
each_adds sums xs i h low = block_end xs i ∙ ap (λ (n : ℕ). sum (take (64 * i) xs) + n) (sym (h.each i low))

pub blocks_push : (xs : List ℕ) (b : ℕ) → of_block (xs ++ 0 ∷ []) b ≡ of_block xs b
blocks_push xs b =
    let p = block_end (xs ++ 0 ∷ []) b in
    let q = block_end xs b in
    let r = sum_push xs (64 * (b + 1)) in
    let t = sum_push xs (64 * b) in
    omega (arith, p, q, r, t)

pub no_sums : AreSums [] []
no_sums = record { each = λ i low. absurd (omega (arith, low)); all = omega arith }

-- one block more
pub block_more : (sums xs : List ℕ) → AreSums sums xs → AreSums (sums ++ 0 ∷ []) xs
block_more sums xs h = record {
  each = λ i low. block_is xs i (count_at (sums ++ 0 ∷ []) i) (by i (nat_lt i (length sums)) refl (omega (arith, low, long)));
  all = let a = h.all in omega (arith, a, long);
}
  where
    long : length (sums ++ 0 ∷ []) ≡ length sums + 1
    long = length_push sums 0

    by : (i : ℕ) (b : Bool) → nat_lt i (length sums) ≡ b → i ≤ length sums → sum (take (64 * (i + 1)) xs) ≡ sum (take (64 * i) xs) + count_at (sums ++ 0 ∷ []) i
    by i true e low = each_adds sums xs i h (ltb-true i (length sums) e) ∙ ap (λ (n : ℕ). sum (take (64 * i) xs) + n) (sym (counts_push sums i))
    by i false e low =
        let a = h.all in
        let m : length sums ≤ i = ltb-false i (length sums) e in
        let p = sum_all xs (64 * (i + 1)) (omega (arith, a, m)) in
        let q = sum_all xs (64 * i) (omega (arith, a, m)) in
        let z = counts_push sums i ∙ counts_past sums i m in
        omega (arith, p, q, z)

-- one count more, where there is a block for it
pub count_more : (sums xs : List ℕ) → length xs < 64 * length sums → AreSums sums xs → AreSums sums (xs ++ 0 ∷ [])
count_more sums xs room h = record {
  each = λ i low. h.each i low ∙ sym (blocks_push xs i);
  all = let l = length_push xs 0 in omega (arith, room, l);
}

pub has_room : (n l : ℕ) → n / 64 < l → n < 64 * l
has_room n l h = omega (arith, h)

pub block_within : (sums xs : List ℕ) (n : ℕ) → AreSums sums xs → n < length xs → n / 64 < length sums
block_within sums xs n h low = let a = h.all in omega (arith, a, low)

-- a count is part of its block
pub block_has : (sums xs : List ℕ) (n : ℕ) → AreSums sums xs → n < length xs → count_at xs n ≤ count_at sums (n / 64)
block_has sums xs n h low =
    let b = block_within sums xs n h low in
    let p = each_adds sums xs (n / 64) h b in
    let q = sum_has xs (64 * (n / 64)) n (64 * (n / 64 + 1)) (omega arith) (omega arith) low in
    omega (arith, p, q)

-- a count is another, and so is its block
pub sums_set : (sums xs : List ℕ) (n c s : ℕ) → AreSums sums xs → n < length xs → s ≡ (count_at sums (n / 64) - count_at xs n) + c → AreSums (set sums (n / 64) s) (set xs n c)
sums_set sums xs n c s h low is = record {
  each = λ i within. block_is (set xs n c) i (count_at (set sums (n / 64) s) i) (by i (subst (λ (m : ℕ). i < m) (length-set sums (n / 64) s) within) (nat_lt i (n / 64)) refl (nat_eq i (n / 64)) refl);
  all = let a = h.all in let p = length-set sums (n / 64) s in let q = length-set xs n c in omega (arith, a, p, q);
}
  where
    by : (i : ℕ) → i < length sums → (a : Bool) → nat_lt i (n / 64) ≡ a → (b : Bool) → nat_eq i (n / 64) ≡ b → sum (take (64 * (i + 1)) (set xs n c)) ≡ sum (take (64 * i) (set xs n c)) + count_at (set sums (n / 64) s) i
    by i within true e true f = let l = ltb-true i (n / 64) e in let m = eqb-true i (n / 64) f in absurd (omega (arith, l, m))
    by i within true e false f =
        let l = ltb-true i (n / 64) e in
        sum_before xs n c (64 * (i + 1)) (omega (arith, l)) ∙ each_adds sums xs i h within
        ∙ ap (λ (m : ℕ). m + count_at sums i) (sym (sum_before xs n c (64 * i) (omega (arith, l))))
        ∙ ap (λ (m : ℕ). sum (take (64 * i) (set xs n c)) + m) (sym (counts_other sums (n / 64) s i f))
    by i within false e true f =
        let m = eqb-true i (n / 64) f in
        let p = sum_set xs n c (64 * (i + 1)) low (omega (arith, m)) in
        let q = sum_before xs n c (64 * i) (omega (arith, m)) in
        let r = each_adds sums xs i h within in
        let t = subst (λ (j : ℕ). count_at xs n ≤ count_at sums j) (sym m) (block_has sums xs n h low) in
        let u = ap (λ (j : ℕ). count_at sums j) m in
        let v : count_at (set sums (n / 64) s) i ≡ s = ap (λ (j : ℕ). count_at (set sums (n / 64) s) j) m ∙ get_or-set_same sums (n / 64) s 0 (block_within sums xs n h low) in
        omega (arith, p, q, r, t, u, v, is)
    by i within false e false f =
        let g : (i ≡ n / 64) → ⊥ = λ q. (let t : nat_eq i (n / 64) ≡ true = eq-eqb i (n / 64) q in cc) in
        let l = ltb-false i (n / 64) e in
        let p = sum_set xs n c (64 * (i + 1)) low (omega (arith, g, l)) in
        let q = sum_set xs n c (64 * i) low (omega (arith, g, l)) in
        let r = each_adds sums xs i h within in
        let v = counts_other sums (n / 64) s i f in
        omega (arith, p, q, r, v)

-- ---- all of them

pub total_next : (sums xs : List ℕ) (i t : ℕ) → AreSums sums xs → i < length sums → t ≡ sum (take (64 * i) xs) → t + count_at sums i ≡ sum (take (64 * (i + 1)) xs)
total_next sums xs i t h low was = let p = each_adds sums xs i h low in omega (arith, p, was)

-- those before one block more are past this, and so are all
pub total_over : (sums xs : List ℕ) (i t most : ℕ) → AreSums sums xs → i < length sums → t ≡ sum (take (64 * i) xs) → ((t + count_at sums i < most) → ⊥) → most ≤ sum xs
total_over sums xs i t most h low was over =
    let p = total_next sums xs i t h low was in
    let q = sum_by-take-le (λ x. x) xs (64 * (i + 1)) in
    omega (arith, p, q, over)

pub total_last : (sums xs : List ℕ) (i t : ℕ) → AreSums sums xs → length sums ≤ i → t ≡ sum (take (64 * i) xs) → t ≡ sum xs
total_last sums xs i t h past was = let a = h.all in was ∙ sum_all xs (64 * i) (omega (arith, a, past))

-- a block that is not empty begins below the last count
pub block_begins : (sums xs : List ℕ) (i : ℕ) → AreSums sums xs → i < length sums → 0 < count_at sums i → 64 * i < length xs
block_begins sums xs i h low some = by (nat_lt (64 * i) (length xs)) refl
  where
    by : (b : Bool) → nat_lt (64 * i) (length xs) ≡ b → 64 * i < length xs
    by true e = ltb-true (64 * i) (length xs) e
    by false e =
        let m = ltb-false (64 * i) (length xs) e in
        let p = each_adds sums xs i h low in
        let q = sum_all xs (64 * i) m in
        let r = sum_all xs (64 * (i + 1)) (omega (arith, m)) in
        absurd (omega (arith, p, q, r, some))

-- what is left behind the last of them
pub spent : (xs : List ℕ) (n rest place : ℕ) → length xs ≤ n → sum (take n xs) + rest ≡ place → sum xs ≤ place
spent xs n rest place past was = let p = sum_all xs n past in omega (arith, p, was)

-- what is left behind one block more
pub rest_next : (sums xs : List ℕ) (i rest place : ℕ) → AreSums sums xs → i < length sums → count_at sums i ≤ rest → sum (take (64 * i) xs) + rest ≡ place → sum (take (64 * (i + 1)) xs) + (rest - count_at sums i) ≡ place
rest_next sums xs i rest place h low le was = let p = each_adds sums xs i h low in omega (arith, p, le, was)
