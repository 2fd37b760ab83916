-- Steps of reading token by token, and what is read without a tree in it: what was read, and what follows.
use Rattle.std.specs.Prelude.{ℕ, zero, suc, nat_le, List, [], ◌∷◌, ◌++◌, length, Option, Some, None, if◌then◌else◌}
use Rattle.js_lexer.specs.declared.token.Token.{Token}
use Rattle.js_tree.specs.declared.tree.Name.{Name}
use Rattle.js_tree.specs.declared.tree.Fix.TheVariants.{After}
use Rattle.js_tree.specs.declared.ending.Ending.{Ending}
use Rattle.js_tree.specs.declared.ending.Ending.TheVariants.{Closed}
use Rattle.js_tree.specs.Plain as p
use Rattle.js_tree.specs.Plain.{PlainExpr, at, PlainStmt, on}
use Rattle.js_lexer.specs.declared.sort.Sort.{Sort}
use Rattle.js_lexer.specs.declared.sort.Sort.TheVariants.{LeftBrace, LeftParen, RightParen, Semicolon, Comma}
use Rattle.js_grammar.specs.Sorts.{is, spot, named, numbered, quoted}
use Rattle.js_grammar.specs.Operators.{step}
use Rattle.js_grammar.specs.Arrows.{starts_arrow}
use Rattle.js_grammar.specs.Ends.{end_absent}

-- what was read, and what follows it
abbrev pub Found : Type 0 → Type 0
Found A = Option (A × List Token)

abbrev pub and_then : {A B : Type 0} → Found A → (A → List Token → Option B) → Option B
and_then None k = None
and_then (Some (a, ts)) k = k a ts

abbrev pub if_some : {A B : Type 0} → Option A → (A → Option B) → Option B
if_some None f = None
if_some (Some a) f = f a

abbrev pub tail : List Token → List Token
tail [] = []
tail (t ∷ ts) = ts

-- goes on after a token of the sort
abbrev pub after : {B : Type 0} → Sort → List Token → (List Token → Option B) → Option B
after k [] f = None
after k (t ∷ ts) f = if is k t then f ts else None

-- goes on after a token that holds something, as a name
abbrev pub after_some : {A B : Type 0} → (Token → Option A) → List Token →
    (A → List Token → Option B) → Option B
after_some g [] f = None
after_some g (t ∷ ts) f = if_some (g t) (λ x. f x ts)

abbrev pub within : {B : Type 0} → ℕ → ℕ → Option B → Option B
within n room o = if nat_le n room then o else None

-- one iteration of a loop goes on or ends it
pub data Iteration (S : Type 0) : Type 0 where
  again : S → List Token → Iteration S
  done : S → List Token → Iteration S

abbrev pub next_iteration : {S : Type 0} → (S → List Token → Found S) → Option (Iteration S) →
    Found S
next_iteration go None = None
next_iteration go (Some (again s ts)) = go s ts
next_iteration go (Some (done s ts)) = Some (s, ts)

-- at most this many iterations
unfoldable pub iterations : {S : Type 0} → (S → List Token → Option (Iteration S)) → ℕ → S →
    List Token → Found S
iterations step zero s ts = None
iterations step (suc n) s ts = next_iteration (iterations step n) (step s ts)

-- a loop in which each iteration but the last takes a token
unfoldable pub run : {S : Type 0} → (S → List Token → Option (Iteration S)) → S → List Token →
    Found S
run step s ts = iterations step (suc (length ts)) s ts

-- `;`, or its absence
abbrev pub ended_rest : Ending → List Token → Option (List Token)
ended_rest ends [] = Some []
ended_rest ends (t ∷ ts) = if is Semicolon t then Some ts
    else (if end_absent ends (t ∷ ts) then Some (t ∷ ts) else None)

abbrev pub ended : {B : Type 0} → Ending → List Token → (List Token → Option B) → Option B
ended ends ts f = if_some (ended_rest ends ts) f

abbrev pub next_param : List Name → List Token → Option (Iteration (List Name))
next_param xs [] = None
next_param xs (t ∷ ts) = if is RightParen t then Some (done xs ts)
    else (if is Comma t then Some (again xs ts) else None)

abbrev pub params_step : List Name → List Token → Option (Iteration (List Name))
params_step xs [] = None
params_step xs (t ∷ ts) = if is RightParen t then Some (done xs ts)
    else if_some (named t) (λ x. next_param (xs ++ x ∷ []) ts)

abbrev pub params : List Token → Found (List Name)
params ts = run params_step [] ts

-- `=>` on the same line
abbrev pub arrow_after : List Name → List Token → Found (List Name)
arrow_after xs ts = if starts_arrow ts then Some (xs, tail ts) else None

abbrev pub header_at : Option Name → Token → List Token → Found (List Name)
header_at (Some x) t ts = arrow_after (x ∷ []) ts
header_at None t ts = if is LeftParen t then and_then (params ts) arrow_after else None

abbrev pub header : List Token → Found (List Name)
header [] = None
header (t ∷ ts) = header_at (named t) t ts

-- the parameters of a function, and `{`
abbrev pub opening : List Token → Found (List Name)
opening ts =
    after LeftParen ts (λ ms. and_then (params ms) (λ xs r. after LeftBrace r (λ m. Some (xs, m))))

-- forms without parts

abbrev pub number_at : Token → List Token → Found PlainExpr
number_at t ts = if_some (numbered t) (λ n. Some (at 0 t.line (p.number n), ts))

abbrev pub text_at : Token → List Token → Found PlainExpr
text_at t ts = if_some (quoted t) (λ x. Some (at 0 t.line (p.text x), ts))

abbrev pub use_at : Token → List Token → Found PlainExpr
use_at t ts = if_some (named t) (λ x. Some (at 0 t.line (p.use_of x), ts))

-- `++` or `--` after a name
abbrev pub postfix_at : Token → List Token → Found PlainExpr
postfix_at t ts =
    if_some (named t) (λ x. after_some step ts (λ s r. Some (at 0 t.line (p.update s After x), r)))

abbrev pub break_at : Token → List Token → Found PlainStmt
break_at t ts = ended Closed ts (λ z. Some (on t.line (p.break_of (spot t)), z))

abbrev pub continue_at : Token → List Token → Found PlainStmt
continue_at t ts = ended Closed ts (λ z. Some (on t.line (p.continue_of (spot t)), z))
