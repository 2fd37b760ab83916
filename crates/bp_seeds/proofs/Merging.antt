-- Counts of two ranges of seeds are those of one range.
use Rattle.std.proofs.Common.{◌≡◌, ◌∙◌, ℕ, zero, suc, ◌+◌, ◌≤◌, Bool, true, false, List, [], ◌∷◌, ◌++◌, length, Option, Some, None, refl, sym, ap, arith, subst}
use Rattle.std.specs.Prelude.{if◌then◌else◌, ◌||◌}
use Rattle.std.specs.Str.{bytes_eq}
use Rattle.std.specs.List.{list_any}
use Rattle.std.proofs.lemmas.Slice.Eq.{bytes_eq-Decides}
use Rattle.bp_explain.specs.Seeds.{Counted, count_more, count_one, count_all, ends_from}
use Rattle.bp_seeds.specs.inner.Merged.{merged, total, counts_from}

abbrev pub one : ℕ × List ℕ → Counted
one e = record { kind = e.1; count = 1; first = e.0 }

abbrev pub more : ℕ → Counted → Counted
more n x = record x { count = x.count + n }

-- where the first is or isn't of the kind
pub more_at : (e x : Counted) (xs : List Counted) (b : Bool) → bytes_eq x.kind e.kind ≡ b →
    count_more e (x ∷ xs) ≡ (if b then more e.count x ∷ xs else x ∷ count_more e xs)
more_at e x xs b h = ap (λ (c : Bool). if c then more e.count x ∷ xs else x ∷ count_more e xs) h

abbrev has : List ℕ → List Counted → Bool
has kind xs = list_any (λ x. bytes_eq x.kind kind) xs

has_at : (kind : List ℕ) (x : Counted) (xs : List Counted) (b : Bool) → bytes_eq x.kind kind ≡ b → has kind (x ∷ xs) ≡ (b || has kind xs)
has_at kind x xs b h = ap (λ (c : Bool). c || has kind xs) h

-- a kind that is there stays
has_more_by : (kind : List ℕ) (e x : Counted) (xs : List Counted) (b c : Bool) → bytes_eq x.kind kind ≡ b → bytes_eq x.kind e.kind ≡ c →
    (has kind xs ≡ true → has kind (count_more e xs) ≡ true) → has kind (x ∷ xs) ≡ true → has kind (count_more e (x ∷ xs)) ≡ true
has_more_by kind e x xs true true p q on h = ap (has kind) (more_at e x xs true q) ∙ has_at kind (more e.count x) xs true p
has_more_by kind e x xs true false p q on h = ap (has kind) (more_at e x xs false q) ∙ has_at kind x (count_more e xs) true p
has_more_by kind e x xs false true p q on h =
    ap (has kind) (more_at e x xs true q) ∙ has_at kind (more e.count x) xs false p ∙ (sym (has_at kind x xs false p) ∙ h)
has_more_by kind e x xs false false p q on h =
    ap (has kind) (more_at e x xs false q) ∙ has_at kind x (count_more e xs) false p ∙ on (sym (has_at kind x xs false p) ∙ h)

has_more : (kind : List ℕ) (e : Counted) (xs : List Counted) → has kind xs ≡ true → has kind (count_more e xs) ≡ true
has_more kind e [] h = absurd (cc)
has_more kind e (x ∷ xs) h =
    has_more_by kind e x xs (bytes_eq x.kind kind) (bytes_eq x.kind e.kind) refl refl (has_more kind e xs) h

-- a kind that was counted is there
has_made_by : (e x : Counted) (xs : List Counted) (b : Bool) → bytes_eq x.kind e.kind ≡ b → has e.kind (count_more e xs) ≡ true →
    has e.kind (count_more e (x ∷ xs)) ≡ true
has_made_by e x xs true p on = ap (has e.kind) (more_at e x xs true p) ∙ has_at e.kind (more e.count x) xs true p
has_made_by e x xs false p on = ap (has e.kind) (more_at e x xs false p) ∙ has_at e.kind x (count_more e xs) false p ∙ on

bytes_same : (xs : List ℕ) → bytes_eq xs xs ≡ true
bytes_same xs = (bytes_eq-Decides xs xs).1 refl

has_made : (e : Counted) (xs : List Counted) → has e.kind (count_more e xs) ≡ true
has_made e [] = has_at e.kind e [] true (bytes_same e.kind)
has_made e (x ∷ xs) = has_made_by e x xs (bytes_eq x.kind e.kind) refl (has_made e xs)

-- counting two kinds, of which one is there, in either order
turned_by : (d e x : Counted) (xs : List Counted) (b c : Bool) → bytes_eq x.kind d.kind ≡ b → bytes_eq x.kind e.kind ≡ c →
    (has d.kind xs ≡ true → count_more e (count_more d xs) ≡ count_more d (count_more e xs)) → has d.kind (x ∷ xs) ≡ true →
    count_more e (count_more d (x ∷ xs)) ≡ count_more d (count_more e (x ∷ xs))
turned_by d e x xs true true p q on h =
    ap (count_more e) (more_at d x xs true p) ∙ more_at e (more d.count x) xs true q
    ∙ ap (λ (n : ℕ). record x { count = n } ∷ xs) (omega arith)
    ∙ sym (ap (count_more d) (more_at e x xs true q) ∙ more_at d (more e.count x) xs true p)
turned_by d e x xs true false p q on h =
    ap (count_more e) (more_at d x xs true p) ∙ more_at e (more d.count x) xs false q
    ∙ sym (ap (count_more d) (more_at e x xs false q) ∙ more_at d x (count_more e xs) true p)
turned_by d e x xs false true p q on h =
    ap (count_more e) (more_at d x xs false p) ∙ more_at e x (count_more d xs) true q
    ∙ sym (ap (count_more d) (more_at e x xs true q) ∙ more_at d (more e.count x) xs false p)
turned_by d e x xs false false p q on h =
    ap (count_more e) (more_at d x xs false p) ∙ more_at e x (count_more d xs) false q
    ∙ ap (λ (ys : List Counted). x ∷ ys) (on (sym (has_at d.kind x xs false p) ∙ h))
    ∙ sym (ap (count_more d) (more_at e x xs false q) ∙ more_at d x (count_more e xs) false p)

turned : (d e : Counted) (xs : List Counted) → has d.kind xs ≡ true → count_more e (count_more d xs) ≡ count_more d (count_more e xs)
turned d e [] h = absurd (cc)
turned d e (x ∷ xs) h = turned_by d e x xs (bytes_eq x.kind d.kind) (bytes_eq x.kind e.kind) refl refl (turned d e xs) h

-- one more of a kind that is there, before or after the merging
merged_there : (d : Counted) (xs ys : List Counted) → has d.kind xs ≡ true → merged (count_more d xs) ys ≡ count_more d (merged xs ys)
merged_there d xs [] h = refl
merged_there d xs (y ∷ ys) h =
    ap (λ (zs : List Counted). merged zs ys) (turned d y xs h) ∙ merged_there d (count_more y xs) ys (has_more d.kind y xs h)

-- as many and as many more of a kind
summed_by : (d y x : Counted) (xs : List Counted) (b : Bool) → y.kind ≡ d.kind → bytes_eq x.kind y.kind ≡ b →
    count_more (more d.count y) xs ≡ count_more d (count_more y xs) → count_more (more d.count y) (x ∷ xs) ≡ count_more d (count_more y (x ∷ xs))
summed_by d y x xs true k p on =
    let q : bytes_eq x.kind d.kind ≡ true = ap (bytes_eq x.kind) (sym k) ∙ p in
    more_at (more d.count y) x xs true p ∙ ap (λ (n : ℕ). record x { count = n } ∷ xs) (omega arith)
    ∙ sym (ap (count_more d) (more_at y x xs true p) ∙ more_at d (more y.count x) xs true q)
summed_by d y x xs false k p on =
    let q : bytes_eq x.kind d.kind ≡ false = ap (bytes_eq x.kind) (sym k) ∙ p in
    more_at (more d.count y) x xs false p ∙ ap (λ (zs : List Counted). x ∷ zs) on
    ∙ sym (ap (count_more d) (more_at y x xs false p) ∙ more_at d x (count_more y xs) false q)

summed : (d y : Counted) (xs : List Counted) → y.kind ≡ d.kind → count_more (more d.count y) xs ≡ count_more d (count_more y xs)
summed d y [] k = sym (more_at d y [] true (ap (bytes_eq y.kind) (sym k) ∙ bytes_same y.kind))
summed d y (x ∷ xs) k = summed_by d y x xs (bytes_eq x.kind y.kind) k refl (summed d y xs k)

same_kind : (a b : List ℕ) → bytes_eq a b ≡ true → a ≡ b
same_kind a b h = (bytes_eq-Decides a b).0 h

-- one more end, before or after the merging
merged_more_by : (d : Counted) (xs : List Counted) (y : Counted) (ys : List Counted) (b : Bool) → bytes_eq y.kind d.kind ≡ b →
    merged (count_more y xs) (count_more d ys) ≡ count_more d (merged (count_more y xs) ys) → merged xs (count_more d (y ∷ ys)) ≡ count_more d (merged xs (y ∷ ys))
merged_more_by d xs y ys true p on =
    let k = same_kind y.kind d.kind p in
    ap (merged xs) (more_at d y ys true p) ∙ ap (λ (zs : List Counted). merged zs ys) (summed d y xs k)
    ∙ merged_there d (count_more y xs) ys (subst (λ (s : List ℕ). has s (count_more y xs) ≡ true) k (has_made y xs))
merged_more_by d xs y ys false p on = ap (merged xs) (more_at d y ys false p) ∙ on

merged_more : (d : Counted) (xs ys : List Counted) → merged xs (count_more d ys) ≡ count_more d (merged xs ys)
merged_more d xs [] = refl
merged_more d xs (y ∷ ys) = merged_more_by d xs y ys (bytes_eq y.kind d.kind) refl (merged_more d (count_more y xs) ys)

merged_one : (e : ℕ × List ℕ) (xs ys : List Counted) → merged xs (count_one e ys) ≡ count_one e (merged xs ys)
merged_one e xs ys = merged_more (one e) xs ys

-- ends that are counted to others, before or after the merging
merged_all : (es : List (ℕ × List ℕ)) (xs ys : List Counted) → merged xs (count_all es ys) ≡ count_all es (merged xs ys)
merged_all [] xs ys = refl
merged_all (e ∷ es) xs ys = merged_all es xs (count_one e ys) ∙ ap (count_all es) (merged_one e xs ys)

all_append : (es fs : List (ℕ × List ℕ)) (xs : List Counted) → count_all (es ++ fs) xs ≡ count_all fs (count_all es xs)
all_append [] fs xs = refl
all_append (e ∷ es) fs xs = all_append es fs (count_one e xs)

abbrev pub onto : ℕ → List (ℕ × List ℕ) → Option (List ℕ) → List (ℕ × List ℕ)
onto seed es None = es
onto seed es (Some k) = (seed, k) ∷ es

onto_append : (seed : ℕ) (es fs : List (ℕ × List ℕ)) (k : Option (List ℕ)) → onto seed (es ++ fs) k ≡ onto seed es k ++ fs
onto_append seed es fs None = refl
onto_append seed es fs (Some k) = refl

pub ends_on : (kind : ℕ → Option (List ℕ)) (n seed : ℕ) (k : Option (List ℕ)) → kind seed ≡ k → ends_from kind (suc n) seed ≡ onto seed (ends_from kind n (seed + 1)) k
ends_on kind n seed k h = ap (onto seed (ends_from kind n (seed + 1))) h

nothing_first : (kind : ℕ → Option (List ℕ)) (m seed : ℕ) → ends_from kind (zero + m) seed ≡ ends_from kind m (seed + zero)
nothing_first kind m seed =
    let a : zero + m ≡ m = omega arith in
    let b : seed + zero ≡ seed = omega arith in
    ap (λ (j : ℕ). ends_from kind j seed) a ∙ ap (λ (s : ℕ). ends_from kind m s) (sym b)

ends_append : (kind : ℕ → Option (List ℕ)) (n m seed : ℕ) → ends_from kind (n + m) seed ≡ ends_from kind n seed ++ ends_from kind m (seed + n)
ends_append kind zero m seed = nothing_first kind m seed
ends_append kind (suc n) m seed =
    let k = kind seed in
    let steps : suc n + m ≡ suc (n + m) = omega arith in
    let later : seed + 1 + n ≡ seed + suc n = omega arith in
    ap (λ (j : ℕ). ends_from kind j seed) steps
    ∙ ends_on kind (n + m) seed k refl
    ∙ ap (λ (es : List (ℕ × List ℕ)). onto seed es k) (ends_append kind n m (seed + 1) ∙ ap (λ (s : ℕ). ends_from kind n (seed + 1) ++ ends_from kind m s) later)
    ∙ onto_append seed (ends_from kind n (seed + 1)) (ends_from kind m (seed + suc n)) k
    ∙ ap (λ (es : List (ℕ × List ℕ)). es ++ ends_from kind m (seed + suc n)) (sym (ends_on kind n seed k refl))

-- the counts of a range are those of its parts, merged
pub counts_append : (kind : ℕ → Option (List ℕ)) (n m seed : ℕ) → counts_from kind (n + m) seed ≡ merged (counts_from kind n seed) (counts_from kind m (seed + n))
counts_append kind n m seed =
    ap (λ (es : List (ℕ × List ℕ)). count_all es []) (ends_append kind n m seed)
    ∙ all_append (ends_from kind n seed) (ends_from kind m (seed + n)) []
    ∙ sym (merged_all (ends_from kind m (seed + n)) (counts_from kind n seed) [])

-- one seed more
pub counts_next : (kind : ℕ → Option (List ℕ)) (n seed : ℕ) (k : List ℕ) → kind (seed + n) ≡ Some k →
    counts_from kind (n + 1) seed ≡ count_more (record { kind = k; count = 1; first = seed + n }) (counts_from kind n seed)
counts_next kind n seed k h =
    counts_append kind n 1 seed ∙ ap (λ (es : List (ℕ × List ℕ)). merged (counts_from kind n seed) (count_all es [])) (ends_on kind 0 (seed + n) (Some k) h)

-- ---- how many are counted

total_more_by : (e x : Counted) (xs : List Counted) (b : Bool) → bytes_eq x.kind e.kind ≡ b → total (count_more e xs) ≡ total xs + e.count →
    total (count_more e (x ∷ xs)) ≡ total (x ∷ xs) + e.count
total_more_by e x xs true p on = ap total (more_at e x xs true p) ∙ omega arith
total_more_by e x xs false p on = ap total (more_at e x xs false p) ∙ omega (arith, on)

pub total_more : (e : Counted) (xs : List Counted) → total (count_more e xs) ≡ total xs + e.count
total_more e [] = omega arith
total_more e (x ∷ xs) = total_more_by e x xs (bytes_eq x.kind e.kind) refl (total_more e xs)

pub total_all : (es : List (ℕ × List ℕ)) (xs : List Counted) → total (count_all es xs) ≡ total xs + length es
total_all [] xs = omega arith
total_all (e ∷ es) xs =
    let more : total (count_one e xs) ≡ total xs + 1 = total_more (one e) xs in
    total_all es (count_one e xs) ∙ omega (arith, more)

onto_length : (seed : ℕ) (es : List (ℕ × List ℕ)) (n : ℕ) (k : Option (List ℕ)) → length es ≤ n → length (onto seed es k) ≤ n + 1
onto_length seed es n None h = omega (arith, h)
onto_length seed es n (Some k) h = omega (arith, h)

ends_length : (kind : ℕ → Option (List ℕ)) (n seed : ℕ) → length (ends_from kind n seed) ≤ n
ends_length kind zero seed = omega arith
ends_length kind (suc n) seed =
    let all = ap length (ends_on kind n seed (kind seed) refl) in
    let most = onto_length seed (ends_from kind n (seed + 1)) n (kind seed) (ends_length kind n (seed + 1)) in
    omega (arith, all, most)

pub total_counts : (kind : ℕ → Option (List ℕ)) (n seed : ℕ) → total (counts_from kind n seed) ≤ n
total_counts kind n seed =
    let all = total_all (ends_from kind n seed) [] in
    let most = ends_length kind n seed in
    omega (arith, all, most)

pub total_merged : (xs ys : List Counted) → total (merged xs ys) ≡ total xs + total ys
total_merged xs [] = omega arith
total_merged xs (y ∷ ys) = total_merged (count_more y xs) ys ∙ omega (arith, total_more y xs)
