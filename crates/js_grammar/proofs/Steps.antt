-- What each step of a reader gives, from what its parts give.
use Rattle.std.proofs.Common.{◌≡◌, ℕ, zero, suc, ◌≤◌, ◌<◌, Bool, true, false, nat_le, if◌then◌else◌, List, [], ◌∷◌, length, Option, Some, None, refl, arith}
use Rattle.std.proofs.lemmas.Bool.{leb-true}
use Rattle.js_data.proofs.Shared.{OfSome}
use Rattle.js_lexer.specs.declared.token.Token.{Token}
use Rattle.js_tree.specs.declared.ending.Ending.{Ending}
use Rattle.js_lexer.specs.declared.sort.Sort.{Sort}
use Rattle.js_lexer.specs.declared.sort.Sort.TheVariants.{Semicolon}
use Rattle.js_grammar.specs.Sorts.{is, sort}
use Rattle.js_grammar.specs.Ends.{end_absent}
use Rattle.js_grammar.specs.Grammar.{End, end_mark, end_none}
use Rattle.js_grammar.specs.Reading.{Found, and_then, after, if_some, after_some, within, Iteration, again, done, next_iteration, iterations, run, ended_rest, ended}
use Rattle.js_grammar.proofs.Marks.{is-true}

pub weaker : {B : Type 0} (P Q : B → Type 0) (o : Option B) → OfSome P o → ((b : B) → P b → Q b) → OfSome Q o
weaker P Q None h g = tt
weaker P Q (Some b) h g = g b h

pub if-gives : {B : Type 0} (Q : B → Type 0) (b : Bool) (x y : Option B) → (b ≡ true → OfSome Q x) → (b ≡ false → OfSome Q y) → OfSome Q (if b then x else y)
if-gives Q true x y f g = f refl
if-gives Q false x y f g = g refl

pub then-gives : {A B : Type 0} (P : A → List Token → Type 0) (Q : B → Type 0) (o : Found A) (k : A → List Token → Option B) →
    OfSome (λ x. P x.0 x.1) o → ((a : A) (r : List Token) → P a r → OfSome Q (k a r)) → OfSome Q (and_then o k)
then-gives P Q None k h g = tt
then-gives P Q (Some (a, ts)) k h g = g a ts h

pub after-gives : {B : Type 0} (M : List Token → Type 0) (Q : B → Type 0) (k : Sort) (ts : List Token) (f : List Token → Option B) →
    M ts → ((t : Token) (r : List Token) → M (t ∷ r) → sort t ≡ k → OfSome Q (f r)) → OfSome Q (after k ts f)
after-gives M Q k [] f m g = tt
after-gives M Q k (t ∷ ts) f m g = if-gives Q (is k t) _ _ (λ e. g t ts m (is-true k t e)) (λ e. tt)

pub some-gives : {A B : Type 0} (Q : B → Type 0) (o : Option A) (f : A → Option B) → ((x : A) → o ≡ Some x → OfSome Q (f x)) → OfSome Q (if_some o f)
some-gives Q None f g = tt
some-gives Q (Some x) f g = g x refl

pub after_some-gives : {A B : Type 0} (M : List Token → Type 0) (Q : B → Type 0) (h : Token → Option A) (ts : List Token) (f : A → List Token → Option B) →
    M ts → ((t : Token) (x : A) (r : List Token) → M (t ∷ r) → h t ≡ Some x → OfSome Q (f x r)) → OfSome Q (after_some h ts f)
after_some-gives M Q h [] f m g = tt
after_some-gives M Q h (t ∷ ts) f m g = some-gives Q (h t) (λ x. f x ts) (λ x e. g t x ts m e)

pub within-gives : {B : Type 0} (Q : B → Type 0) (n room : ℕ) (o : Option B) → (n ≤ room → OfSome Q o) → OfSome Q (within n room o)
within-gives Q n room o g = if-gives Q (nat_le n room) _ _ (λ e. g (leb-true n room e)) (λ e. tt)

ended_rest-gives : (b : Ending) (ts : List Token) → OfSome (End b ts) (ended_rest b ts)
ended_rest-gives b [] = end_none refl
ended_rest-gives b (t ∷ ts) =
    if-gives (End b (t ∷ ts)) (is Semicolon t) _ _ (λ e. end_mark (is-true Semicolon t e))
    (λ _. if-gives (End b (t ∷ ts)) (end_absent b (t ∷ ts)) _ _ (λ e. end_none e) (λ e. tt))

go_on-gives : {B : Type 0} (P : List Token → Type 0) (Q : B → Type 0) (o : Option (List Token)) (f : List Token → Option B) →
    OfSome P o → ((r : List Token) → P r → OfSome Q (f r)) → OfSome Q (if_some o f)
go_on-gives P Q None f h g = tt
go_on-gives P Q (Some r) f h g = g r h

pub ended-gives : {B : Type 0} (Q : B → Type 0) (b : Ending) (ts : List Token) (f : List Token → Option B) →
    ((r : List Token) → End b ts r → OfSome Q (f r)) → OfSome Q (ended b ts f)
ended-gives Q b ts f g = go_on-gives (End b ts) Q (ended_rest b ts) f (ended_rest-gives b ts) g

-- a loop

abbrev pub IterationGives : {S : Type 0} → (S → List Token → Type 0) → (S → List Token → Type 0) → Iteration S → Type 0
IterationGives I Q (again s ts) = I s ts
IterationGives I Q (done s ts) = Q s ts

pub next-gives : {S : Type 0} (I Q : S → List Token → Type 0) (go : S → List Token → Found S) (o : Option (Iteration S)) →
    OfSome (IterationGives I Q) o → ((s : S) (ts : List Token) → I s ts → OfSome (λ x. Q x.0 x.1) (go s ts)) → OfSome (λ x. Q x.0 x.1) (next_iteration go o)
next-gives I Q go None h g = tt
next-gives I Q go (Some (again s ts)) h g = g s ts h
next-gives I Q go (Some (done s ts)) h g = h

pub iterations-gives : {S : Type 0} (I Q : S → List Token → Type 0) (step : S → List Token → Option (Iteration S)) →
    ((s : S) (ts : List Token) → I s ts → OfSome (IterationGives I Q) (step s ts)) →
    (n : ℕ) (s : S) (ts : List Token) → I s ts → OfSome (λ x. Q x.0 x.1) (iterations step n s ts)
unfolding iterations
iterations-gives I Q step keep zero s ts i = tt
iterations-gives I Q step keep (suc n) s ts i = next-gives I Q (iterations step n) (step s ts) (keep s ts i) (iterations-gives I Q step keep n)

pub run-gives : {S : Type 0} (I Q : S → List Token → Type 0) (step : S → List Token → Option (Iteration S)) →
    ((s : S) (ts : List Token) → I s ts → OfSome (IterationGives I Q) (step s ts)) →
    (s : S) (ts : List Token) → I s ts → OfSome (λ x. Q x.0 x.1) (run step s ts)
unfolding run
run-gives I Q step keep s ts i = iterations-gives I Q step keep (suc (length ts)) s ts i

-- each iteration but the last takes a token
abbrev pub Shortens : {S : Type 0} → (S → List Token → Option (Iteration S)) → Type 0
Shortens {S} step = (s : S) (ts : List Token) → OfSome (IterationGives (λ z r. length r < length ts) (λ z r. Unit {0})) (step s ts)

next-same : {S : Type 0} (f g : S → List Token → Found S) (n : ℕ) (o : Option (Iteration S)) →
    OfSome (IterationGives (λ z r. length r < n) (λ z r. Unit {0})) o →
    ((s : S) (ts : List Token) → length ts < n → f s ts ≡ g s ts) → next_iteration f o ≡ next_iteration g o
next-same f g n None h e = refl
next-same f g n (Some (again s ts)) h e = e s ts h
next-same f g n (Some (done s ts)) h e = refl

iterations-enough : {S : Type 0} (step : S → List Token → Option (Iteration S)) → Shortens step →
    (n m : ℕ) (s : S) (ts : List Token) → length ts < n → length ts < m → iterations step n s ts ≡ iterations step m s ts
unfolding iterations
iterations-enough step short zero m s ts h k = absurd (omega arith)
iterations-enough step short (suc n) zero s ts h k = absurd (omega arith)
iterations-enough step short (suc n) (suc m) s ts h k =
    next-same (iterations step n) (iterations step m) (length ts) (step s ts) (short s ts) (λ z r l. iterations-enough step short n m z r (omega arith) (omega arith))

-- a loop is its first iteration, and then the loop
pub run-iteration : {S : Type 0} (step : S → List Token → Option (Iteration S)) → Shortens step → (s : S) (ts : List Token) →
    run step s ts ≡ next_iteration (run step) (step s ts)
unfolding run iterations
run-iteration step short s ts =
    next-same (iterations step (length ts)) (λ z r. iterations step (suc (length r)) z r) (length ts) (step s ts) (short s ts)
    (λ z r l. iterations-enough step short (length ts) (suc (length r)) z r (omega arith) (omega arith))
