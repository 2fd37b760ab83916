-- Facts of summaries that never go back.
use Rattle.std.proofs.Common.{arith, ◌≡◌, ℕ, ◌<◌, ◌≤◌, List, [], ◌∷◌, ◌++◌, Bool, true, false, not, ◌&&◌, nat_lt, Some, IfSome, All, ◌⊎◌, inl, inr, refl, sym, ap, ◌∙◌, subst, append_assoc, append-nil}
use Rattle.std.specs.List.{Contains}
use Rattle.std.proofs.lemmas.List.Elements.{Contains-append_right, Contains-push, All-cons, All-nil}
use Rattle.std.proofs.lemmas.Bool.Decides.{nat_tests}
use mathlib.Core.List.{IsPrefix}
use Rattle.bp_view.specs.declared.summary.Summary.{Summary}
use Rattle.bp_view.specs.Growing.{is_before, grows, last_of}

pub both_true : (a b : Bool) → (a && b) ≡ true → (a ≡ true) × (b ≡ true)
both_true true b e = (refl, e)
both_true false b e = cc

pub true_both : (a b : Bool) → a ≡ true → b ≡ true → (a && b) ≡ true
true_both true b e f = f
true_both false b e f = cc

less_trans : (a b c : ℕ) → nat_lt a b ≡ true → nat_lt b c ≡ true → nat_lt a c ≡ true
less_trans a b c e f = grind (arith, nat_tests)

less : (a b : ℕ) → nat_lt a b ≡ true → b ≤ a → ⊥
less a b e f = grind (arith, nat_tests)

is_less : (a b : ℕ) → a < b → nat_lt a b ≡ true
is_less a b e = grind (arith, nat_tests)

below : (a b : ℕ) → nat_lt a b ≡ true → a < b
below a b e = grind (arith, nat_tests)

not_below : (a b : ℕ) → nat_lt a b ≡ false → b ≤ a
not_below a b e = grind (arith, nat_tests)

not_less : (a : ℕ) → a < a → ⊥
not_less a e = omega arith

before_trans : (x y z : Summary) → is_before x y ≡ true → is_before y z ≡ true → is_before x z ≡ true
before_trans x y z e f =
    let a = both_true (nat_lt x.records y.records) (not x.over) e in
    let b = both_true (nat_lt y.records z.records) (not y.over) f in
    true_both (nat_lt x.records z.records) (not x.over) (less_trans x.records y.records z.records a.0 b.0) a.1

pub is_before_from : (x y : Summary) → x.records < y.records → x.over ≡ false → is_before x y ≡ true
is_before_from x y fewer not_over = true_both (nat_lt x.records y.records) (not x.over) (is_less x.records y.records fewer) (ap not not_over)

same_some : (x y : Summary) → Some x ≡ Some y → x ≡ y
same_some x y e = cc

to_last : (x r : Summary) (rs : List Summary) (s : Summary) → grows (x ∷ (r ∷ rs)) ≡ true → last_of (r ∷ rs) ≡ Some s → is_before x s ≡ true
to_last x r [] s g l = let a = both_true (is_before x r) true g in subst (λ t. is_before x t ≡ true) (same_some r s l) a.0
to_last x r (q ∷ qs) s g l =
    let a = both_true (is_before x r) (grows (r ∷ (q ∷ qs))) g in
    let b = both_true (is_before r q) (grows (q ∷ qs)) a.1 in
    to_last x q qs s (true_both (is_before x q) (grows (q ∷ qs)) (before_trans x r q a.0 b.0) b.1) l

-- the last of a front is before the last of all
beyond : (xs : List Summary) (r : Summary) (rs : List Summary) (l s : Summary) → grows (xs ++ r ∷ rs) ≡ true → last_of xs ≡ Some l → last_of (xs ++ r ∷ rs) ≡ Some s → is_before l s ≡ true
beyond [] r rs l s g a b = cc
beyond (x ∷ []) r rs l s g a b = subst (λ t. is_before t s ≡ true) (same_some x l a) (to_last x r rs s g b)
beyond (x ∷ (y ∷ ys)) r rs l s g a b = beyond (y ∷ ys) r rs l s (both_true (is_before x y) (grows (y ∷ (ys ++ r ∷ rs))) g).1 a b

pub grows_snoc : (xs : List Summary) (l s : Summary) → grows xs ≡ true → last_of xs ≡ Some l → is_before l s ≡ true → grows (xs ++ s ∷ []) ≡ true
grows_snoc [] l s g a h = cc
grows_snoc (x ∷ []) l s g a h = true_both (is_before x s) true (subst (λ t. is_before t s ≡ true) (sym (same_some x l a)) h) refl
grows_snoc (x ∷ (y ∷ ys)) l s g a h =
    let b = both_true (is_before x y) (grows (y ∷ ys)) g in
    true_both (is_before x y) (grows (y ∷ (ys ++ s ∷ []))) b.0 (grows_snoc (y ∷ ys) l s b.1 a h)

-- one more is shown, with more records than the last, which is not over
pub shows_more : (xs : List Summary) (l s : Summary) → grows xs ≡ true → last_of xs ≡ Some l → IfSome (last_of xs) (λ t. t.records < s.records) → IfSome (last_of xs) (λ t. t.over ≡ false) → grows (xs ++ s ∷ []) ≡ true
shows_more xs l s g a more not_over =
    grows_snoc xs l s g a (is_before_from l s (subst (λ o. IfSome o (λ t. t.records < s.records)) a more) (subst (λ o. IfSome o (λ t. t.over ≡ false)) a not_over))

pub last_snoc : (xs : List Summary) (s : Summary) → last_of (xs ++ s ∷ []) ≡ Some s
last_snoc [] s = refl
last_snoc (x ∷ []) s = refl
last_snoc (x ∷ (y ∷ ys)) s = last_snoc (y ∷ ys) s

pub has_the_last : (xs : List Summary) (s : Summary) → last_of xs ≡ Some s → Contains xs s
has_the_last [] s e = cc
has_the_last (x ∷ []) s e = subst (λ t. Contains (t ∷ []) s) (sym (same_some x s e)) (Contains-push [] s)
has_the_last (x ∷ (y ∷ ys)) s e = Contains-append_right (x ∷ []) (y ∷ ys) s (has_the_last (y ∷ ys) s e)

-- each is the last or before it
pub all_before : (x : Summary) (xs : List Summary) (t : Summary) → grows (x ∷ xs) ≡ true → last_of (x ∷ xs) ≡ Some t → All (λ y. (y ≡ t) ⊎ (is_before y t ≡ true)) (x ∷ xs)
all_before x [] t g e = All-cons (λ y. (y ≡ t) ⊎ (is_before y t ≡ true)) x [] (inl (same_some x t e)) (All-nil (λ y. (y ≡ t) ⊎ (is_before y t ≡ true)))
all_before x (r ∷ rs) t g e = All-cons (λ y. (y ≡ t) ⊎ (is_before y t ≡ true)) x (r ∷ rs) (inr (to_last x r rs t g e)) (all_before r rs t (both_true (is_before x r) (grows (r ∷ rs)) g).1 e)

-- What was seen before and what is seen now, with the last of each.
pub record SeesOn (seen now : List Summary) (last s : Summary) : Type 0 where
  pub grow : grows now ≡ true
  pub was : last_of seen ≡ Some last
  pub is : last_of now ≡ Some s
  pub longer : IsPrefix seen now

-- more records are seen now
is_news : (seen now : List Summary) (last s : Summary) → SeesOn seen now last s → last.records < s.records → (rest : List Summary) → seen ++ rest ≡ now → is_before last s ≡ true
is_news seen now last s h fewer [] e =
    let same : last ≡ s = same_some last s (sym h.was ∙ ap last_of (sym (append-nil seen) ∙ e) ∙ h.is) in
    absurd (not_less last.records (subst (λ t. last.records < t.records) (sym same) fewer))
is_news seen now last s h fewer (r ∷ rs) e = beyond seen r rs last s (ap grows e ∙ h.grow) h.was (ap last_of e ∙ h.is)

pub news : (seen now : List Summary) (last s : Summary) → SeesOn seen now last s → last.records < s.records → is_before last s ≡ true
news seen now last s h fewer = is_news seen now last s h fewer h.longer.0 h.longer.1

-- no more records are seen now, and so nothing more
is_no_news : (seen now : List Summary) (last s : Summary) → SeesOn seen now last s → s.records ≤ last.records → (rest : List Summary) → seen ++ rest ≡ now → seen ≡ now
is_no_news seen now last s h le [] e = sym (append-nil seen) ∙ e
is_no_news seen now last s h le (r ∷ rs) e =
    let b = beyond seen r rs last s (ap grows e ∙ h.grow) h.was (ap last_of e ∙ h.is) in
    absurd (less last.records s.records (both_true (nat_lt last.records s.records) (not last.over) b).0 le)

pub no_news : (seen now : List Summary) (last s : Summary) → SeesOn seen now last s → s.records ≤ last.records → seen ≡ now
no_news seen now last s h le = is_no_news seen now last s h le h.longer.0 h.longer.1

pub has_some : (x : Summary) (xs : List Summary) → (l : Summary) × (last_of (x ∷ xs) ≡ Some l)
has_some x [] = (x, refl)
has_some x (y ∷ ys) = has_some y ys

-- what could be followed by a summary can be followed by a later one
later_snoc : (x : Summary) (xs : List Summary) (s t : Summary) → grows (x ∷ xs) ≡ true → grows ((x ∷ xs) ++ s ∷ []) ≡ true → is_before s t ≡ true → grows ((x ∷ xs) ++ t ∷ []) ≡ true
later_snoc x xs s t g h e =
    let a = has_some x xs in
    grows_snoc (x ∷ xs) a.0 t g a.1 (before_trans a.0 s t (beyond (x ∷ xs) s [] a.0 s h a.1 (last_snoc (x ∷ xs) s)) e)

-- what could be followed by what was seen last can be followed by what is seen last now
follows_by : (first : Summary) (lines : List Summary) (s : Summary) (seen now : List Summary) (last : Summary) → SeesOn seen now last s → grows (first ∷ lines) ≡ true → grows (first ∷ (lines ++ last ∷ [])) ≡ true → (b : Bool) → nat_lt last.records s.records ≡ b → grows (first ∷ (lines ++ s ∷ [])) ≡ true
follows_by first lines s seen now last h g f true e = later_snoc first lines last s g f (news seen now last s h (below last.records s.records e))
follows_by first lines s seen now last h g f false e =
    let same : seen ≡ now = no_news seen now last s h (not_below last.records s.records e) in
    subst (λ t. grows (first ∷ (lines ++ t ∷ [])) ≡ true) (same_some last s (sym h.was ∙ ap last_of same ∙ h.is)) f

pub follows_later : (first : Summary) (lines : List Summary) (behind s : Summary) (seen now : List Summary) (last : Summary) → SeesOn seen now last s → last_of seen ≡ Some behind → grows (first ∷ lines) ≡ true → grows (first ∷ (lines ++ behind ∷ [])) ≡ true → grows (first ∷ (lines ++ s ∷ [])) ≡ true
follows_later first lines behind s seen now last h is g f =
    follows_by first lines s seen now last h g (subst (λ t. grows (first ∷ (lines ++ t ∷ [])) ≡ true) (same_some behind last (sym is ∙ h.was)) f) (nat_lt last.records s.records) refl

pub prefix_on : (xs ys zs : List Summary) → IsPrefix xs ys → IsPrefix ys zs → IsPrefix xs zs
prefix_on xs ys zs (a, e) (b, f) = (a ++ b, sym (append_assoc xs a b) ∙ ap (λ l. l ++ b) e ∙ f)
