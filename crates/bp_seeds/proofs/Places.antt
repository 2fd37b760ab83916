-- Where a kind stands among counts.
use Rattle.std.proofs.Common.{◌≡◌, ◌∙◌, ℕ, suc, ◌+◌, ◌<◌, ◌≤◌, Bool, true, false, List, [], ◌∷◌, ◌++◌, length, drop, Option, Some, None, refl, sym, ap, subst, arith}
use Rattle.std.specs.Prelude.{if◌then◌else◌, slice_get, slice_index_or, slice_set, option_map}
use Rattle.std.specs.Str.{bytes_eq}
use Rattle.std.proofs.Math.ListN.{drop_of_length-le}
use Rattle.std.proofs.Math.Seq.{drop-cons}
use Rattle.std.proofs.lemmas.Option.{slice_get_within, get_or_from_slice_get, slice_get-get_or}
use Rattle.bp_explain.specs.Seeds.{Counted, count_more}
use Rattle.bp_seeds.specs.inner.Merged.{place_of, total}
use Rattle.bp_seeds.proofs.Merging.{more, more_at}

place_at : (kind : List ℕ) (x : Counted) (xs : List Counted) (b : Bool) → bytes_eq x.kind kind ≡ b →
    place_of kind (x ∷ xs) ≡ (if b then Some 0 else option_map suc (place_of kind xs))
place_at kind x xs b h = ap (λ (c : Bool). if c then Some 0 else option_map suc (place_of kind xs)) h

-- a place among those from one on
abbrev pub from : ℕ → Option ℕ → Option ℕ
from i p = option_map (λ n. i + n) p

from_zero : (p : Option ℕ) → p ≡ from 0 p
from_zero None = refl
from_zero (Some n) = ap Some (omega arith)

from_suc : (i : ℕ) (p : Option ℕ) → from i (option_map suc p) ≡ from (i + 1) p
from_suc i None = refl
from_suc i (Some n) = ap Some (omega arith)

pub looked_at_first : (kind : List ℕ) (xs : List Counted) → place_of kind xs ≡ from 0 (place_of kind xs)
looked_at_first kind xs = from_zero (place_of kind xs)

drops : (xs : List Counted) (i : ℕ) (x : Counted) → slice_get xs i ≡ Some x → drop i xs ≡ x ∷ drop (i + 1) xs
drops xs i x h =
    let next : suc i ≡ i + 1 = omega arith in
    drop-cons xs i x (slice_get_within xs i x h)
    ∙ ap (λ (y : Counted). y ∷ drop (suc i) xs) (get_or_from_slice_get xs i x x h)
    ∙ ap (λ (n : ℕ). x ∷ drop n xs) next

-- the kind is not that of this place
pub looked_on : (kind : List ℕ) (xs : List Counted) (i : ℕ) (x : Counted) → slice_get xs i ≡ Some x → bytes_eq x.kind kind ≡ false →
    place_of kind xs ≡ from i (place_of kind (drop i xs)) → place_of kind xs ≡ from (i + 1) (place_of kind (drop (i + 1) xs))
looked_on kind xs i x at p h =
    h ∙ ap (λ (ys : List Counted). from i (place_of kind ys)) (drops xs i x at) ∙ ap (from i) (place_at kind x (drop (i + 1) xs) false p)
    ∙ from_suc i (place_of kind (drop (i + 1) xs))

-- or it is
pub found : (kind : List ℕ) (xs : List Counted) (i : ℕ) (x : Counted) → slice_get xs i ≡ Some x → bytes_eq x.kind kind ≡ true →
    place_of kind xs ≡ from i (place_of kind (drop i xs)) → Some i ≡ place_of kind xs
found kind xs i x at p h =
    let same : i + 0 ≡ i = omega arith in
    sym (h ∙ ap (λ (ys : List Counted). from i (place_of kind ys)) (drops xs i x at) ∙ ap (from i) (place_at kind x (drop (i + 1) xs) true p) ∙ ap Some same)

none_left : (xs : List Counted) (i : ℕ) → length xs ≤ i → drop i xs ≡ []
none_left xs i h = drop_of_length-le xs h

-- or there is no more place
pub not_found : (kind : List ℕ) (xs : List Counted) (i : ℕ) → length xs ≤ i → place_of kind xs ≡ from i (place_of kind (drop i xs)) → None ≡ place_of kind xs
not_found kind xs i e h = sym (h ∙ ap (λ (ys : List Counted). from i (place_of kind ys)) (none_left xs i e))

-- ---- counting at a place

later_place : (p : Option ℕ) (i : ℕ) → option_map suc p ≡ Some i → (n : ℕ) × (p ≡ Some n) × (i ≡ suc n)
later_place None i h = absurd (cc)
later_place (Some n) i h = (n, refl, grind arith)

-- the entry at a place that was found
abbrev Counts_at : Counted → List Counted → ℕ → Counted → Type 0
Counts_at e xs i x = (count_more e xs ≡ slice_set xs i (more e.count x)) × (x.count ≤ total xs)

here : (e y : Counted) (ys : List Counted) (i : ℕ) (x : Counted) → bytes_eq y.kind e.kind ≡ true → i ≡ 0 → y ≡ x → Counts_at e (y ∷ ys) i x
here e y ys i x p k h =
    subst (λ (z : Counted). Counts_at e (y ∷ ys) i z) h
    (subst (λ (j : ℕ). Counts_at e (y ∷ ys) j y) (sym k) (more_at e y ys true p, omega arith))

there : (e y : Counted) (ys : List Counted) (i n : ℕ) (x : Counted) → bytes_eq y.kind e.kind ≡ false → i ≡ suc n → Counts_at e ys n x → Counts_at e (y ∷ ys) i x
there e y ys i n x p k h =
    let few = h.1 in
    subst (λ (j : ℕ). Counts_at e (y ∷ ys) j x) (sym k)
    (more_at e y ys false p ∙ ap (λ (zs : List Counted). y ∷ zs) h.0, omega (arith, few))

same_Some : {A : Type 0} (x y : A) → Some x ≡ Some y → x ≡ y
same_Some x y h = grind arith

counted_by : (e y : Counted) (ys : List Counted) (i : ℕ) (x : Counted) (b : Bool) → bytes_eq y.kind e.kind ≡ b →
    ((n : ℕ) → place_of e.kind ys ≡ Some n → slice_get ys n ≡ Some x → Counts_at e ys n x) →
    place_of e.kind (y ∷ ys) ≡ Some i → slice_get (y ∷ ys) i ≡ Some x → Counts_at e (y ∷ ys) i x
counted_by e y ys i x true p on h at =
    let k : 0 ≡ i = same_Some 0 i (sym (place_at e.kind y ys true p) ∙ h) in
    here e y ys i x p (sym k) (same_Some y x (subst (λ (j : ℕ). slice_get (y ∷ ys) j ≡ Some x) (sym k) at))
counted_by e y ys i x false p on h at =
    let l = later_place (place_of e.kind ys) i (sym (place_at e.kind y ys false p) ∙ h) in
    there e y ys i l.0 x p l.2 (on l.0 l.1 (subst (λ (j : ℕ). slice_get (y ∷ ys) j ≡ Some x) l.2 at))

pub counted_at : (e : Counted) (xs : List Counted) (i : ℕ) (x : Counted) → place_of e.kind xs ≡ Some i → slice_get xs i ≡ Some x → Counts_at e xs i x
counted_at e [] i x h at = absurd (cc)
counted_at e (y ∷ ys) i x h at =
    counted_by e y ys i x (bytes_eq y.kind e.kind) refl (λ n. counted_at e ys n x) h at

none_later : (p : Option ℕ) → option_map suc p ≡ None → p ≡ None
none_later None h = refl
none_later (Some n) h = absurd (cc)

not_counted_by : (e y : Counted) (ys : List Counted) (b : Bool) → bytes_eq y.kind e.kind ≡ b → (place_of e.kind ys ≡ None → count_more e ys ≡ ys ++ e ∷ []) →
    place_of e.kind (y ∷ ys) ≡ None → count_more e (y ∷ ys) ≡ y ∷ ys ++ e ∷ []
not_counted_by e y ys true p on h = absurd (let k = sym (place_at e.kind y ys true p) ∙ h in cc)
not_counted_by e y ys false p on h =
    more_at e y ys false p ∙ ap (λ (zs : List Counted). y ∷ zs) (on (none_later (place_of e.kind ys) (sym (place_at e.kind y ys false p) ∙ h)))

pub not_counted : (e : Counted) (xs : List Counted) → place_of e.kind xs ≡ None → count_more e xs ≡ xs ++ e ∷ []
not_counted e [] h = refl
not_counted e (y ∷ ys) h = not_counted_by e y ys (bytes_eq y.kind e.kind) refl (not_counted e ys) h

-- a place is within the list
within_by : (kind : List ℕ) (x : Counted) (xs : List Counted) (i : ℕ) (b : Bool) → bytes_eq x.kind kind ≡ b →
    ((n : ℕ) → place_of kind xs ≡ Some n → n < length xs) → place_of kind (x ∷ xs) ≡ Some i → i < length (x ∷ xs)
within_by kind x xs i true p on h = let k : 0 ≡ i = same_Some 0 i (sym (place_at kind x xs true p) ∙ h) in omega (arith, k)
within_by kind x xs i false p on h =
    let l = later_place (place_of kind xs) i (sym (place_at kind x xs false p) ∙ h) in
    let k = l.2 in
    let few = on l.0 l.1 in
    omega (arith, k, few)

within : (kind : List ℕ) (xs : List Counted) (i : ℕ) → place_of kind xs ≡ Some i → i < length xs
within kind [] i h = absurd (cc)
within kind (x ∷ xs) i h = within_by kind x xs i (bytes_eq x.kind kind) refl (λ n. within kind xs n) h

pub placed : (kind : List ℕ) (xs : List Counted) (i : ℕ) → Some i ≡ place_of kind xs → i < length xs
placed kind xs i h = within kind xs i (sym h)

-- as an index reads it
read_at : (e : Counted) (xs : List Counted) (i : ℕ) (x d : Counted) → Some i ≡ place_of e.kind xs → slice_index_or xs i d ≡ x → Counts_at e xs i x
read_at e xs i x d h at =
    counted_at e xs i x (sym h) (slice_get-get_or xs i d (placed e.kind xs i h) ∙ ap Some at)

pub set_at : (e : Counted) (xs : List Counted) (i : ℕ) (x d : Counted) → Some i ≡ place_of e.kind xs → slice_index_or xs i d ≡ x → slice_set xs i (more e.count x) ≡ count_more e xs
set_at e xs i x d h at = sym (read_at e xs i x d h at).0

pub few_at : (e : Counted) (xs : List Counted) (i : ℕ) (x d : Counted) → Some i ≡ place_of e.kind xs → slice_index_or xs i d ≡ x → x.count ≤ total xs
few_at e xs i x d h at = (read_at e xs i x d h at).1
