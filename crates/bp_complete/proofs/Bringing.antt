-- What injectors bring, and what one more record says of them.
use Rattle.std.proofs.Common.{◌≡◌, ℕ, ◌<◌, ◌≤◌, Bool, true, false, not, ◌||◌, ◌==◌, nat_eq, List, [], ◌∷◌, ◌++◌, length, refl, sym, ap, subst, ◌∙◌, append_assoc, append-nil, Some, None, if◌then◌else◌, arith, cond}
use Rattle.std.specs.Prelude.{filter, slice_get}
use Rattle.std.specs.List.{list_any, cons_option}
use Rattle.std.proofs.lemmas.Bool.{eq-eqb, eqb-true, or_parts, or_left, false≢true, true≢false}
use Rattle.std.proofs.lemmas.Option.{same_Some}
use Rattle.std.proofs.lemmas.List.Elements.{filter_map-append}
use mathlib.Core.List.{IsPrefix}
use Rattle.js_data.specs.Event.{PlainEvent}
use Rattle.bp_log.specs.declared.item.Item.{Item}
use Rattle.bp_log.specs.declared.item.Item.TheVariants as item
use Rattle.bp_log.specs.declared.record.Record.{Record}
use Rattle.bp_log.specs.declared.record.Record.TheVariants.{In, Bad, Eof, Sel, End}
use Rattle.bp_run.specs.Injectors.{has_last_of}
use Rattle.bp_steps.specs.Merging.{item_by, items_by}
use Rattle.bp_complete.specs.Completions.{AreBrought, MergesBrought}

-- ---- what is left of what an injector brings

offered_left : (b : Bool) (e : PlainEvent) (xs rest : List Item) → AreBrought (cons_option (if b then Some (item.Offered e) else None) xs ++ rest) → AreBrought (xs ++ rest)
offered_left true e xs rest h = h
offered_left false e xs rest h = h

last_left : (b : Bool) (x : Item) (xs rest : List Item) → b ≡ false → AreBrought (cons_option (if b then Some x else None) xs ++ rest) → AreBrought (xs ++ rest)
last_left true x xs rest f h = absurd (true≢false f)
last_left false x xs rest f h = h

-- while the last of it has not come, it brings what is left
pub brought_left : (j : ℕ) (rs : List Record) (rest : List Item) → has_last_of j rs ≡ false → AreBrought (items_by j rs ++ rest) → AreBrought rest
brought_left j [] rest f h = h
brought_left j (In k e ∷ rs) rest f h = brought_left j rs rest f (offered_left (j == k) e (items_by j rs) rest h)
brought_left j (Bad k n ∷ rs) rest f h =
    let none = or_parts (nat_eq j k) (has_last_of j rs) f in
    brought_left j rs rest none.1 (last_left (j == k) (item.Bad n) (items_by j rs) rest none.0 h)
brought_left j (Eof k ∷ rs) rest f h =
    let none = or_parts (nat_eq j k) (has_last_of j rs) f in
    brought_left j rs rest none.1 (last_left (j == k) item.End (items_by j rs) rest none.0 h)
brought_left j (Sel e ∷ rs) rest f h = brought_left j rs rest f h
brought_left j (End v ∷ rs) rest f h = brought_left j rs rest f h

-- ---- one more record

items_more : (j : ℕ) (rs : List Record) (r : Record) → items_by j (rs ++ r ∷ []) ≡ items_by j rs ++ items_by j (r ∷ [])
items_more j rs r = filter_map-append (item_by j) rs (r ∷ [])

-- it says nothing of this injector
items_same : (j : ℕ) (rs : List Record) (r : Record) → items_by j (r ∷ []) ≡ [] → items_by j (rs ++ r ∷ []) ≡ items_by j rs
items_same j rs r e = items_more j rs r ∙ ap (λ (xs : List Item). items_by j rs ++ xs) e ∙ append-nil (items_by j rs)

-- a record of no injector
pub merges_same : (brought : List (List Item)) (rs : List Record) (r : Record) → ((j : ℕ) → items_by j (r ∷ []) ≡ []) → MergesBrought rs brought → MergesBrought (rs ++ r ∷ []) brought
merges_same brought rs r none m = λ j items h. subst (λ (xs : List Item). IsPrefix xs items) (sym (items_same j rs r (none j))) (m j items h)

one_by : (b : Bool) (x : Item) → cons_option (if b then Some x else None) [] ≡ (if b then x ∷ [] else [])
one_by true x = refl
one_by false x = refl

-- the record of an item of injector j, as each injector sees it
abbrev pub IsItemOf : ℕ → Item → Record → Type 0
IsItemOf j x r = (k : ℕ) → items_by k (r ∷ []) ≡ (if nat_eq k j then x ∷ [] else [])

pub item_in : (j : ℕ) (e : PlainEvent) → IsItemOf j (item.Offered e) (In j e)
item_in j e = λ k. one_by (k == j) (item.Offered e)

pub item_bad : (j n : ℕ) → IsItemOf j (item.Bad n) (Bad j n)
item_bad j n = λ k. one_by (k == j) (item.Bad n)

pub item_end : (j : ℕ) → IsItemOf j item.End (Eof j)
item_end j = λ k. one_by (k == j) item.End

merges_at : (brought : List (List Item)) (rs : List Record) (r : Record) (j k : ℕ) (x : Item) (more own items : List Item) (b : Bool) → nat_eq k j ≡ b → items_by k (r ∷ []) ≡ (if b then x ∷ [] else []) →
    slice_get brought j ≡ Some own → items_by j rs ++ x ∷ more ≡ own → slice_get brought k ≡ Some items → IsPrefix (items_by k rs) items → IsPrefix (items_by k (rs ++ r ∷ [])) items
merges_at brought rs r j k x more own items true e one at left here p =
    let same : k ≡ j = eqb-true k j e in
    let whole : own ≡ items = same_Some own items (sym at ∙ ap (λ (n : ℕ). slice_get brought n) (sym same) ∙ here) in (
      more,
      ap (λ (xs : List Item). xs ++ more) (items_more k rs r ∙ ap (λ (xs : List Item). items_by k rs ++ xs) one)
          ∙ append_assoc (items_by k rs) (x ∷ []) more
          ∙ ap (λ (n : ℕ). items_by n rs ++ x ∷ more) same
          ∙ left
          ∙ whole,
    )
merges_at brought rs r j k x more own items false e one at left here p = subst (λ (xs : List Item). IsPrefix xs items) (sym (items_same k rs r one)) p

-- the record of the next item that injector j brings
pub merges_next : (brought : List (List Item)) (rs : List Record) (r : Record) (j : ℕ) (x : Item) (more own : List Item) → IsItemOf j x r → slice_get brought j ≡ Some own → items_by j rs ++ x ∷ more ≡ own →
    MergesBrought rs brought → MergesBrought (rs ++ r ∷ []) brought
merges_next brought rs r j x more own one at left m = λ k items h. merges_at brought rs r j k x more own items (nat_eq k j) refl (one k) at left h (m k items h)

-- ---- who is read

pub first_read : (ks : List ℕ) → (ks ≡ [] → ⊥) → (j : ℕ) × (list_any (nat_eq j) ks ≡ true)
first_read [] h = absurd (h refl)
first_read (j ∷ ks) h = (j, or_left (nat_eq j j) (list_any (nat_eq j) ks) (eq-eqb j j refl))

-- as many are left or fewer
fewer_at : (b : Bool) (k : ℕ) (xs ks : List ℕ) → length xs ≤ length ks → length (cond b (k ∷ xs) xs) ≤ length (k ∷ ks)
fewer_at true k xs ks h = omega (arith, h)
fewer_at false k xs ks h = omega (arith, h)

fewer : (p : ℕ → Bool) (ks : List ℕ) → length (filter p ks) ≤ length ks
fewer p [] = omega arith
fewer p (k ∷ ks) = fewer_at (p k) k (filter p ks) ks (fewer p ks)

less_at : (b : Bool) (j k : ℕ) (xs ks : List ℕ) → length xs ≤ length ks → (b || list_any (nat_eq j) ks) ≡ true → (list_any (nat_eq j) ks ≡ true → length xs < length ks) → length (cond (not b) (k ∷ xs) xs) < length (k ∷ ks)
less_at true j k xs ks h r ih = omega (arith, h)
less_at false j k xs ks h r ih = let less = ih r in omega (arith, less)

-- and fewer, where one that was read is read no more
pub read_less : (j : ℕ) (ks : List ℕ) → list_any (nat_eq j) ks ≡ true → length (filter (λ k. not (nat_eq j k)) ks) < length ks
read_less j [] h = absurd (false≢true h)
read_less j (k ∷ ks) h = less_at (nat_eq j k) j k (filter (λ i. not (nat_eq j i)) ks) ks (fewer (λ i. not (nat_eq j i)) ks) h (λ r. read_less j ks r)
