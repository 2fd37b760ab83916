-- What holds of each part of a form holds of each number that its node names.
use Rattle.std.proofs.Common.{◌≡◌, ℕ, zero, suc, ◌+◌, ◌<◌, ◌≤◌, List, [], ◌∷◌, ◌++◌, refl, length, drop, arith, Option, Some, None, Bool, true, false, if◌then◌else◌}
use Rattle.std.specs.Prelude.{is_some, option_to_list}
use Rattle.std.specs.List.{filter_map, list_all}
use Rattle.js_tree.specs.Plain as t
use Rattle.js_tree.specs.Plain.{PlainExpr, PlainForm, PlainDeclarators, PlainStmtForm}
use Rattle.js_program.specs.declared.builtin.Builtin.{Builtin}
use Rattle.js_program.specs.declared.node.Variable.{Variable}
use Rattle.js_program.specs.PlainProgram.{PlainDeclared, undefined, read, parts_of}
use Rattle.js_names.specs.Entries.{is_present, own_of_start}
use Rattle.js_names.specs.Forms.{called_builtin, value_builtin, is_undefined}
use Rattle.js_names.specs.Mentions.{Mention}
use Rattle.js_resolver.specs.Variables.{named_at}
use Rattle.js_resolver.specs.Pieces.{part}
use Rattle.js_resolver.specs.NodeForms.{fresh, method_of, floors_division, call_node, member_node, expr_node, perhaps_part, parts_after, declared_of, has_start, for_node, stmt_node}

abbrev pub Every : (ℕ → Type 0) → List ℕ → Type 0
Every P [] = Unit {0}
Every P (x ∷ xs) = P x × Every P xs

pub every_append : (P : ℕ → Type 0) (xs ys : List ℕ) → Every P xs → Every P ys → Every P (xs ++ ys)
every_append P [] ys h k = k
every_append P (x ∷ xs) ys h k = (h.0, every_append P xs ys h.1 k)

pub every_more : (P Q : ℕ → Type 0) (xs : List ℕ) → ((n : ℕ) → P n → Q n) → Every P xs → Every Q xs
every_more P Q [] f h = tt
every_more P Q (x ∷ xs) f h = (f x h.0, every_more P Q xs f h.1)

pub every_part : (P : ℕ → Type 0) (k : ℕ) (xs : List ℕ) → k < length xs → Every P xs → P (part k xs)
every_part P k [] l h = absurd (omega arith)
every_part P zero (x ∷ xs) l h = h.0
every_part P (suc k) (x ∷ xs) l h = every_part P k xs (omega arith) h.1

pub every_drop : (P : ℕ → Type 0) (k : ℕ) (xs : List ℕ) → Every P xs → Every P (drop k xs)
every_drop P zero xs h = h
every_drop P (suc k) [] h = tt
every_drop P (suc k) (x ∷ xs) h = every_drop P k xs h.1

pub every_all : (test : ℕ → Bool) (xs : List ℕ) → Every (λ n. test n ≡ true) xs → list_all test xs ≡ true
every_all test [] h = refl
every_all test (x ∷ xs) h = rw h.0 (every_all test xs h.1)

-- how many parts a form has at least

abbrev pub call_need : Option Builtin → Bool → ℕ
call_need o floors = (if is_some o then 0 else 1) + (if floors then 2 else 0)

abbrev pub form_need : PlainForm → ℕ
form_need (t.member e word) = if is_some (value_builtin e word) then 0 else 1
form_need (t.index e i) = 2
form_need (t.call e es) = call_need (called_builtin e) (floors_division (called_builtin e) es)
form_need (t.unary s e) = 1
form_need (t.binary op l r) = 2
form_need (t.conditional l m r) = 3
form_need (t.assign op name e) = 1
form_need _ = 0

abbrev pub expr_need : PlainExpr → ℕ
expr_need (t.at parens line form) = form_need form

abbrev pub truth_need : Bool → ℕ
truth_need b = if b then 1 else 0

abbrev pub declared_need : PlainDeclarators → ℕ
declared_need t.no_declarators = 0
declared_need (t.declarator_in name value end ds) = truth_need (is_present value) + declared_need ds

abbrev pub stmt_need : PlainStmtForm → ℕ
stmt_need (t.declaration kind ds) = declared_need ds
stmt_need (t.expression e) = 1
stmt_need (t.if_alone e s) = 2
stmt_need (t.if_else e s other) = 3
stmt_need (t.while_of e s) = 2
stmt_need (t.for_three start test next s) = ((truth_need (has_start start) + truth_need (is_present test)) + truth_need (is_present next)) + 1
stmt_need (t.for_of kind name e s) = 2
stmt_need (t.return_of spot e) = 1
stmt_need _ = 0

kept_member : (P : ℕ → Type 0) (o : Option Builtin) (word : List ℕ) (xs : List ℕ) → (if is_some o then 0 else 1) ≤ length xs → Every P xs → Every P (parts_of (member_node o word xs))
kept_member P None word xs l h = (every_part P 0 xs (omega arith) h, tt)
kept_member P (Some f) word xs l h = h

kept_call : (P : ℕ → Type 0) (o : Option Builtin) (word : Option (List ℕ)) (floors : Bool) (xs : List ℕ) → call_need o floors ≤ length xs → Every P xs → Every P (parts_of (call_node o word floors xs))
kept_call P (Some f) word true xs l h = (every_part P 0 xs (omega arith) h, (every_part P 1 xs (omega arith) h, every_drop P 2 xs h))
kept_call P (Some f) word false xs l h = h
kept_call P None (Some word) floors xs l h =
    let k : 0 < length xs = elim floors as (λ b. (1 + (if b then 2 else 0) ≤ length xs) → 0 < length xs) [ true ↦ λ m. omega arith | false ↦ λ m. omega arith ] l in
    (every_part P 0 xs k h, every_drop P 1 xs h)
kept_call P None None floors xs l h =
    let k : 0 < length xs = elim floors as (λ b. (1 + (if b then 2 else 0) ≤ length xs) → 0 < length xs) [ true ↦ λ m. omega arith | false ↦ λ m. omega arith ] l in
    (every_part P 0 xs k h, every_drop P 1 xs h)

kept_use : (P : ℕ → Type 0) (b : Bool) (v : Variable) → Every P (parts_of (if b then undefined else read v))
kept_use P true v = tt
kept_use P false v = tt

-- an expression's node names its parts alone
pub kept_expr : (P : ℕ → Type 0) (ps : List Mention) (form : PlainForm) (xs : List ℕ) → form_need form ≤ length xs → Every P xs → Every P (parts_of (expr_node ps form xs))
kept_expr P ps (t.number i) xs l h = tt
kept_expr P ps (t.text text) xs l h = tt
kept_expr P ps (t.truth b) xs l h = tt
kept_expr P ps t.null xs l h = tt
kept_expr P ps (t.use_of name) xs l h = kept_use P (is_undefined name.text) (named_at ps name.spot.at)
kept_expr P ps (t.list es) xs l h = h
kept_expr P ps (t.fields fs) xs l h = h
kept_expr P ps (t.member e word) xs l h = kept_member P (value_builtin e word) word xs l h
kept_expr P ps (t.index e i) xs l h = (every_part P 0 xs (omega arith) h, (every_part P 1 xs (omega arith) h, tt))
kept_expr P ps (t.call e es) xs l h = kept_call P (called_builtin e) (method_of e) (floors_division (called_builtin e) es) xs l h
kept_expr P ps (t.unary s e) xs l h = (every_part P 0 xs (omega arith) h, tt)
kept_expr P ps (t.update s f name) xs l h = tt
kept_expr P ps (t.binary op a b) xs l h = (every_part P 0 xs (omega arith) h, (every_part P 1 xs (omega arith) h, tt))
kept_expr P ps (t.conditional a m b) xs l h = (every_part P 0 xs (omega arith) h, (every_part P 1 xs (omega arith) h, (every_part P 2 xs (omega arith) h, tt)))
kept_expr P ps (t.assign op name e) xs l h = (every_part P 0 xs (omega arith) h, tt)
kept_expr P ps (t.arrow_value spot names e) xs l h = tt
kept_expr P ps (t.arrow_block spot names ss) xs l h = tt
kept_expr P ps (t.function spot names ss) xs l h = tt

kept_perhaps : (P : ℕ → Type 0) (b : Bool) (xs : List ℕ) → truth_need b ≤ length xs → Every P xs → Every P (option_to_list (perhaps_part b xs))
kept_perhaps P true xs l h = (every_part P 0 xs l h, tt)
kept_perhaps P false xs l h = tt

kept_after : (P : ℕ → Type 0) (b : Bool) (xs : List ℕ) → Every P xs → Every P (parts_after b xs)
kept_after P true xs h = every_drop P 1 xs h
kept_after P false xs h = h

length_drop-1 : (xs : List ℕ) → length xs ≤ 1 + length (drop 1 xs)
length_drop-1 [] = omega arith
length_drop-1 (x ∷ xs) = omega arith

length_after : (b : Bool) (xs : List ℕ) → length xs ≤ truth_need b + length (parts_after b xs)
length_after true xs = length_drop-1 xs
length_after false xs = omega arith

pub kept_declared : (P : ℕ → Type 0) (ps : List Mention) (ds : PlainDeclarators) (xs : List ℕ) → declared_need ds ≤ length xs → Every P xs → Every P (filter_map (λ (d : PlainDeclared). d.value) (declared_of ps ds xs))
kept_declared P ps t.no_declarators xs l h = tt
kept_declared P ps (t.declarator_in name (t.present e) end ds) xs l h =
    let m : declared_need ds ≤ length (drop 1 xs) = omega (arith, length_drop-1 xs) in (every_part P 0 xs (omega arith) h, kept_declared P ps ds (drop 1 xs) m (every_drop P 1 xs h))
kept_declared P ps (t.declarator_in name t.absent end ds) xs l h = kept_declared P ps ds xs (omega arith) h

kept_for : (P : ℕ → Type 0) (slots : List ℕ) (a b c : Bool) (xs : List ℕ) → ((truth_need a + truth_need b) + truth_need c) + 1 ≤ length xs → Every P xs → Every P (parts_of (for_node slots a b c xs))
kept_for P slots a b c xs l h =
    let ys = parts_after a xs in
    let zs = parts_after b ys in
    let rest = parts_after c zs in
    let la = length_after a xs in
    let lb = length_after b ys in
    let lc = length_after c zs in
    let hy = kept_after P a xs h in
    let hz = kept_after P b ys hy in
    let hr = kept_after P c zs hz in
    let first = option_to_list (perhaps_part a xs) in
    let second = option_to_list (perhaps_part b ys) in
    let third = option_to_list (perhaps_part c zs) in
    every_append P ((first ++ second) ++ third) (part 0 rest ∷ [])
    (every_append P (first ++ second) third (every_append P first second (kept_perhaps P a xs (omega arith) h) (kept_perhaps P b ys (omega arith) hy)) (kept_perhaps P c zs (omega arith) hz))
    (every_part P 0 rest (omega arith) hr, tt)

-- and so does a statement's
pub kept_stmt : (P : ℕ → Type 0) (ps : List Mention) (form : PlainStmtForm) (xs : List ℕ) → stmt_need form ≤ length xs → Every P xs → Every P (parts_of (stmt_node ps form xs))
kept_stmt P ps t.empty xs l h = tt
kept_stmt P ps (t.block ss) xs l h = h
kept_stmt P ps (t.declaration kind ds) xs l h = kept_declared P ps ds xs l h
kept_stmt P ps (t.expression e) xs l h = (every_part P 0 xs (omega arith) h, tt)
kept_stmt P ps (t.if_alone e s) xs l h = (every_part P 0 xs (omega arith) h, (every_part P 1 xs (omega arith) h, tt))
kept_stmt P ps (t.if_else e s other) xs l h = (every_part P 0 xs (omega arith) h, (every_part P 1 xs (omega arith) h, (every_part P 2 xs (omega arith) h, tt)))
kept_stmt P ps (t.while_of e s) xs l h = (every_part P 0 xs (omega arith) h, (every_part P 1 xs (omega arith) h, tt))
kept_stmt P ps (t.for_three start test next s) xs l h = kept_for P (fresh ps (own_of_start 0 start)) (has_start start) (is_present test) (is_present next) xs l h
kept_stmt P ps (t.for_of kind name e s) xs l h = (every_part P 0 xs (omega arith) h, (every_part P 1 xs (omega arith) h, tt))
kept_stmt P ps (t.break_of spot) xs l h = tt
kept_stmt P ps (t.continue_of spot) xs l h = tt
kept_stmt P ps (t.return_nothing spot) xs l h = tt
kept_stmt P ps (t.return_of spot e) xs l h = (every_part P 0 xs (omega arith) h, tt)
