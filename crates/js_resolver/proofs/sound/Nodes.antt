-- Where each name and each function of a tree fits, the nodes and the bodies of its program fit.
use Rattle.std.proofs.Common.{◌≡◌, ◌∙◌, ℕ, zero, suc, ◌+◌, ◌≤◌, List, [], ◌∷◌, ◌++◌, refl, ap, subst, length, append_assoc, arith, Option, Some, None, Bool, true, false, ◌&&◌, ◌||◌, if◌then◌else◌, nat_eq}
use Rattle.std.proofs.lemmas.Bool.{le-leb, eq-eqb, and_from, and_parts}
use Rattle.std.proofs.lemmas.List.Folds.{list_all-append}
use Rattle.std.specs.Prelude.{is_some, nat_lt, option_map, slice_get}
use Rattle.std.specs.List.{list_all, flat_map}
use Rattle.js_tree.specs.declared.tree.Name.{Name}
use Rattle.js_tree.specs.declared.tree.Spot.{Spot}
use Rattle.js_tree.specs.declared.tree.DeclareKind.{DeclareKind}
use Rattle.js_tree.specs.declared.tree.DeclareKind.TheVariants.{Const as const_word, Let as let_word, Var as var_word}
use Rattle.js_tree.specs.Plain as t
use Rattle.js_tree.specs.Plain.{PlainExpr, PlainForm, PlainExprs, PlainFields, PlainPerhaps, PlainDeclarators, PlainStart, PlainStmt, PlainStmtForm, PlainStmts, PlainItem}
use Rattle.js_tree.specs.Nesting.{is_object}
use Rattle.js_program.specs.declared.builtin.Builtin.{Builtin}
use Rattle.js_program.specs.PlainProgram as n
use Rattle.js_program.specs.PlainProgram.{PlainNodeForm, PlainNode, PlainBody, PlainContent, PlainProgram, parts_of, content_parts}
use Rattle.js_program.specs.Sound.{variables_declared, all_below, variable_fits, function_fits, form_fits, found_fits, node_fits, body_fits}
use Rattle.js_names.specs.declared.mention.Around.{Around}
use Rattle.js_names.specs.declared.mention.Role.TheVariants.{Parameter}
use Rattle.js_names.specs.declared.mention.What.{What}
use Rattle.js_names.specs.Entries.{Entry, top, is_present, own_of_all, own_of, own_of_start, own_declarators, own_declarator}
use Rattle.js_names.specs.Scopes.{Scope, for_of_role, block_scope, for_three_scope, list_scope, for_of_scope, function_scope}
use Rattle.js_names.specs.Forms.{is_undefined, is_reserved, object_of, called_builtin, value_builtin}
use Rattle.js_names.specs.Unresolved.{Unresolved, one_mention, read_mention, assign_mention, declared_role, member_mentions, in_function, in_loop, begin_mention, parameter_mentions, expr_mentions, form_mentions, exprs_mentions, fields_mentions, perhaps_mentions, declarators_mentions, start_mentions, stmt_mentions, stmt_form_mentions, stmts_mentions, item_mentions}
use Rattle.js_names.specs.Mentions.{Mention, functions_of, is_var}
use Rattle.js_names.specs.Slots.{assigned_in, slots_of, captures, held_by, parameter_in}
use Rattle.js_resolver.specs.Variables.{around_of, named_at, slot_at, code_at, second, capture_slots, slots_among, body_of}
use Rattle.js_resolver.specs.Pieces.{Piece, none, beside, after, closed, function_piece, one_value}
use Rattle.js_resolver.specs.NodeForms.{fresh, keys_of, method_of, floors_division, call_node, member_node, expr_node, declared_of, parts_after, stmt_node}
use Rattle.js_resolver.specs.Nodes.{expr_piece, expr_parts, form_parts, exprs_piece, arguments_piece, fields_piece, perhaps_piece, declarators_piece, start_piece, stmt_piece, stmt_parts, stmts_piece, item_piece, items_piece}
use Rattle.js_resolver.proofs.sound.Found.{in_whole}
use Rattle.js_resolver.proofs.sound.Parts.{Every, every_append, every_more, every_all, every_part, kept_expr, kept_declared, kept_stmt}
use Rattle.js_resolver.proofs.sound.Lists.{vars_fit}
use Rattle.js_resolver.proofs.sound.Order.{expr_orderly, form_orderly, declarators_orderly, stmt_form_orderly}

-- how many slots a function has
abbrev pub slots_in : List Mention → ℕ → ℕ
slots_in ps f = length (slots_of (assigned_in ps) f ps)

-- how many parameters the mentions of a function declare
abbrev pub parameter_count : List Mention → ℕ → ℕ
parameter_count ps f = length (held_by f (flat_map parameter_in ps))

-- the constants that a function may declare: none, and the top level any
abbrev pub declarable : PlainProgram → ℕ → ℕ
declarable p f = if nat_eq f top then length p.constants else 0

-- the name at an offset of the text is a variable of this function
abbrev pub FitsAt : PlainProgram → List Mention → ℕ → ℕ → Type 0
FitsAt p ps f at = variable_fits (slots_in ps f) (length p.constants) (named_at ps at) ≡ true

-- it is one in a slot
abbrev pub SlotAt : List Mention → ℕ → ℕ → Type 0
SlotAt ps f at = nat_lt (slot_at ps at) (slots_in ps f) ≡ true

-- a name that is declared is a variable that its function may declare, and in a block or a `for` it is one in a slot
pub record DeclaresAt (p : PlainProgram) (ps : List Mention) (f at : ℕ) (whole : Bool) : Type 0 where
  pub declared : variable_fits (slots_in ps f) (declarable p f) (named_at ps at) ≡ true
  pub slot : whole ≡ false → SlotAt ps f at

-- a function is there, what it copies is there around it, and its slots hold its parameters and what it copies
pub record FunctionFits (p : PlainProgram) (ps : List Mention) (around f : ℕ) : Type 0 where
  pub there : function_fits p (slots_in ps around) (code_at ps f) ≡ true
  pub copies : option_map (λ (b : PlainBody). b.captures) (slice_get p.functions (code_at ps f)) ≡ Some (capture_slots ps f)
  pub room : parameter_count ps f + length (captures (assigned_in ps) f ps) ≤ slots_in ps f
  pub inner : nat_eq f top ≡ false

abbrev pub fine_of : PlainProgram → List Mention → What → Unresolved → Type 0
fine_of p ps (What.Declares role) s = DeclaresAt p ps s.around.owner s.name.spot.at (is_var role || in_whole s.scopes)
fine_of p ps What.Reads s = FitsAt p ps s.around.owner s.name.spot.at
fine_of p ps What.Assigns s = SlotAt ps s.around.owner s.name.spot.at
fine_of p ps What.Misuses s = ⊥
fine_of p ps What.Begins s = FunctionFits p ps (second top (functions_of s.scopes)) s.around.owner
fine_of p ps _ s = Unit {0}

abbrev pub AllFine : PlainProgram → List Mention → List Unresolved → Type 0
AllFine p ps [] = Unit {0}
AllFine p ps (s ∷ ss) = fine_of p ps s.what s × AllFine p ps ss

abbrev pub is_parameter_mention : What → Bool
is_parameter_mention (What.Declares Parameter) = true
is_parameter_mention _ = false

-- how many parameters of a function some mentions declare
abbrev pub counted : ℕ → List Unresolved → ℕ
counted f [] = 0
counted f (s ∷ ss) = (if is_parameter_mention s.what && nat_eq s.around.owner f then 1 else 0) + counted f ss

-- mentions of a program that fit
pub record IsCovered (p : PlainProgram) (ps : List Mention) (ms : List Unresolved) : Type 0 where
  pub fine : AllFine p ps ms
  pub count : (f : ℕ) → counted f ms ≤ parameter_count ps f

pub fine_left : (p : PlainProgram) (ps : List Mention) (xs ys : List Unresolved) → AllFine p ps (xs ++ ys) → AllFine p ps xs
fine_left p ps [] ys h = tt
fine_left p ps (x ∷ xs) ys h = (h.0, fine_left p ps xs ys h.1)

pub fine_right : (p : PlainProgram) (ps : List Mention) (xs ys : List Unresolved) → AllFine p ps (xs ++ ys) → AllFine p ps ys
fine_right p ps [] ys h = h
fine_right p ps (x ∷ xs) ys h = fine_right p ps xs ys h.1

counted-append : (f : ℕ) (xs ys : List Unresolved) → counted f (xs ++ ys) ≡ counted f xs + counted f ys
counted-append f [] ys = omega arith
counted-append f (x ∷ xs) ys = omega (arith, counted-append f xs ys)

pub covered_left : (p : PlainProgram) (ps : List Mention) (xs ys : List Unresolved) → IsCovered p ps (xs ++ ys) → IsCovered p ps xs
covered_left p ps xs ys h = record { fine = fine_left p ps xs ys h.fine; count = λ f. omega (arith, h.count f, counted-append f xs ys) }

pub covered_right : (p : PlainProgram) (ps : List Mention) (xs ys : List Unresolved) → IsCovered p ps (xs ++ ys) → IsCovered p ps ys
covered_right p ps xs ys h = record { fine = fine_right p ps xs ys h.fine; count = λ f. omega (arith, h.count f, counted-append f xs ys) }

pub covered_rest : (p : PlainProgram) (ps : List Mention) (x : Unresolved) (ys : List Unresolved) → IsCovered p ps (x ∷ ys) → IsCovered p ps ys
covered_rest p ps x ys h = covered_right p ps (x ∷ []) ys h

counted_parameters : (f : ℕ) (scopes : List Scope) (names : List Name) → counted f (parameter_mentions scopes (in_function f) names) ≡ length names
counted_parameters f scopes [] = refl
counted_parameters f scopes (x ∷ xs) =
    ap (λ (b : Bool). (if b then 1 else 0) + counted f (parameter_mentions scopes (in_function f) xs)) (eq-eqb f f refl) ∙ omega (arith, counted_parameters f scopes xs)

-- nodes that stand in a program from b on
abbrev pub Stands : PlainProgram → ℕ → List PlainNode → Type 0
Stands p b xs = (i : ℕ) (x : PlainNode) → slice_get xs i ≡ Some x → slice_get p.nodes (b + i) ≡ Some x

slice_get-left : (xs ys : List PlainNode) (i : ℕ) (x : PlainNode) → slice_get xs i ≡ Some x → slice_get (xs ++ ys) i ≡ Some x
slice_get-left [] ys i x h = cc
slice_get-left (y ∷ xs) ys zero x h = h
slice_get-left (y ∷ xs) ys (suc i) x h = slice_get-left xs ys i x h

slice_get-right : (xs ys : List PlainNode) (i : ℕ) (x : PlainNode) → slice_get ys i ≡ Some x → slice_get (xs ++ ys) (length xs + i) ≡ Some x
slice_get-right [] ys i x h = subst (λ k. slice_get ys k ≡ Some x) (omega arith) h
slice_get-right (y ∷ xs) ys i x h =
    let e : suc (length xs + i) ≡ length (y ∷ xs) + i = omega arith in subst (λ k. slice_get (y ∷ (xs ++ ys)) k ≡ Some x) e (slice_get-right xs ys i x h)

stands_left : (p : PlainProgram) (b : ℕ) (xs ys : List PlainNode) → Stands p b (xs ++ ys) → Stands p b xs
stands_left p b xs ys h = λ i x e. h i x (slice_get-left xs ys i x e)

stands_right : (p : PlainProgram) (b : ℕ) (xs ys : List PlainNode) → Stands p b (xs ++ ys) → Stands p (b + length xs) ys
stands_right p b xs ys h = λ i x e.
    let d : b + (length xs + i) ≡ (b + length xs) + i = omega arith in subst (λ k. slice_get p.nodes k ≡ Some x) d (h (length xs + i) x (slice_get-right xs ys i x e))

-- a node fits a function at every depth
abbrev pub NodeFits : PlainProgram → List Mention → ℕ → ℕ → Type 0
NodeFits p ps f k = (depth : ℕ) → node_fits p (slots_in ps f) (declarable p f) depth k ≡ true

-- a form declares what its function may declare
abbrev DeclaresFit : PlainProgram → List Mention → ℕ → PlainNodeForm → Type 0
DeclaresFit p ps f form = list_all (variable_fits (slots_in ps f) (declarable p f)) (variables_declared form) ≡ true

node_good : (p : PlainProgram) (ps : List Mention) (f k : ℕ) (x : PlainNode) → slice_get p.nodes k ≡ Some x → form_fits p (slots_in ps f) x.form ≡ true → DeclaresFit p ps f x.form → Every (NodeFits p ps f) (parts_of x.form) → NodeFits p ps f k
unfolding node_fits
node_good p ps f k x e fits d h zero = refl
node_good p ps f k x e fits d h (suc depth) =
    let test = node_fits p (slots_in ps f) (declarable p f) depth in
    ap (found_fits p (slots_in ps f) (declarable p f) test) e
    ∙ and_from _ _ fits (and_from _ _ d (every_all test (parts_of x.form) (every_more (NodeFits p ps f) (λ m. test m ≡ true) (parts_of x.form) (λ m g. g depth) h)))

-- a piece fits a function: its parts do, and its functions' bodies fit the program
pub record IsGood (p : PlainProgram) (ps : List Mention) (f : ℕ) (x : Piece) : Type 0 where
  pub parts : Every (NodeFits p ps f) x.parts
  pub bodies : (depth : ℕ) → list_all (body_fits p 0 depth) x.functions ≡ true

good_none : (p : PlainProgram) (ps : List Mention) (f : ℕ) → IsGood p ps f none
good_none p ps f = record { parts = tt; bodies = λ depth. refl }

good_beside : (p : PlainProgram) (ps : List Mention) (f : ℕ) (x y : Piece) → IsGood p ps f x → IsGood p ps f y → IsGood p ps f (beside x y)
good_beside p ps f x y h k = record {
  parts = every_append (NodeFits p ps f) x.parts y.parts h.parts k.parts;
  bodies = λ depth. list_all-append (body_fits p 0 depth) x.functions y.functions ∙ and_from _ _ (h.bodies depth) (k.bodies depth);
}

good_closed : (p : PlainProgram) (ps : List Mention) (f b line : ℕ) (form : List ℕ → PlainNodeForm) (x : Piece) → Stands p b (x.nodes ++ record { line = line; form = form x.parts } ∷ []) → form_fits p (slots_in ps f) (form x.parts) ≡ true
    → DeclaresFit p ps f (form x.parts) → Every (NodeFits p ps f) (parts_of (form x.parts)) → IsGood p ps f x → IsGood p ps f (closed b line form x)
good_closed p ps f b line form x s fits d h g =
    let node : PlainNode = record { line = line; form = form x.parts } in
    let at : slice_get p.nodes (after b x) ≡ Some node =
    subst (λ k. slice_get p.nodes k ≡ Some node) (omega arith) (stands_right p b x.nodes (node ∷ []) s 0 node refl)
    in
    record { parts = (node_good p ps f (after b x) node at fits d h, tt); bodies = g.bodies }

no_variables : (p : PlainProgram) (slots : ℕ) (o : Option Builtin) (w : Option (List ℕ)) (floors : Bool) (xs : List ℕ) → form_fits p slots (call_node o w floors xs) ≡ true
no_variables p slots (Some f) w true xs = refl
no_variables p slots (Some f) w false xs = refl
no_variables p slots None (Some word) floors xs = refl
no_variables p slots None None floors xs = refl

member_fits : (p : PlainProgram) (slots : ℕ) (o : Option Builtin) (word : List ℕ) (xs : List ℕ) → form_fits p slots (member_node o word xs) ≡ true
member_fits p slots (Some f) word xs = refl
member_fits p slots None word xs = refl

one_variable : (a : Bool) → a ≡ true → ((a && true) && true) ≡ true
one_variable a h = rw h refl

some_variables : (a : Bool) → a ≡ true → (a && true) ≡ true
some_variables a h = rw h refl

-- a name that is read
use_fits : (p : PlainProgram) (ps : List Mention) (scopes : List Scope) (a : Around) (name : Name) (xs : List ℕ) → AllFine p ps (read_mention scopes a name) → form_fits p (slots_in ps a.owner) (expr_node ps (t.use_of name) xs) ≡ true
use_fits p ps scopes a name xs h =
    let cases : (b c : Bool) → AllFine p ps (if b then one_mention scopes a What.Misuses name else (if c then [] else one_mention scopes a What.Reads name)) → form_fits p (slots_in ps a.owner) (if c then n.undefined else n.read (named_at ps name.spot.at)) ≡ true =
    λ b c. elim b as (λ b. AllFine p ps (if b then one_mention scopes a What.Misuses name else (if c then [] else one_mention scopes a What.Reads name)) → form_fits p (slots_in ps a.owner) (if c then n.undefined else n.read (named_at ps name.spot.at)) ≡ true) [
      | true ↦ λ k. absurd k.0
      | false ↦ elim c as (λ c. AllFine p ps (if c then [] else one_mention scopes a What.Reads name) → form_fits p (slots_in ps a.owner) (if c then n.undefined else n.read (named_at ps name.spot.at)) ≡ true) [ true ↦ λ k. refl | false ↦ λ k. one_variable _ k.0 ]
    ]
    in
    cases (is_object name.text) (is_undefined name.text) h

-- a name that is assigned
assigned_fits : (p : PlainProgram) (ps : List Mention) (scopes : List Scope) (a : Around) (name : Name) → AllFine p ps (assign_mention scopes a name) → SlotAt ps a.owner name.spot.at
assigned_fits p ps scopes a name h =
    elim (is_reserved name.text) as (λ b. AllFine p ps (if b then one_mention scopes a What.Misuses name else one_mention scopes a What.Assigns name) → SlotAt ps a.owner name.spot.at) [ true ↦ λ k. absurd k.0 | false ↦ λ k. k.0 ] h

declared_fits : (p : PlainProgram) (ps : List Mention) (scopes : List Scope) (a : Around) (kind : DeclareKind) (ds : PlainDeclarators) (xs : List ℕ) → AllFine p ps (declarators_mentions scopes a kind ds) → DeclaresFit p ps a.owner (n.declaration kind (declared_of ps ds xs))
unfolding declarators_mentions
declared_fits p ps scopes a kind t.no_declarators xs h = refl
declared_fits p ps scopes a kind (t.declarator_in name value end ds) xs h =
    and_from _ _ h.0.declared (declared_fits p ps scopes a kind ds (parts_after (is_present value) xs) (fine_right p ps (perhaps_mentions scopes a value) (declarators_mentions scopes a kind ds) h.1))

abbrev pub FreshFit : List Mention → ℕ → List Entry → Type 0
FreshFit ps f entries = all_below (slots_in ps f) (fresh ps entries) ≡ true

fresh_append : (ps : List Mention) (f : ℕ) (xs ys : List Entry) → FreshFit ps f xs → FreshFit ps f ys → FreshFit ps f (xs ++ ys)
fresh_append ps f [] ys h k = k
fresh_append ps f (x ∷ xs) ys h k = let both = and_parts _ _ h in and_from _ _ both.0 (fresh_append ps f xs ys both.1 k)

fresh_declarator : (ps : List Mention) (f owner : ℕ) (direct : Bool) (kind : DeclareKind) (name : Name) (value : PlainPerhaps) (end : ℕ) → ((is_var (declared_role kind) || false) ≡ false → SlotAt ps f name.spot.at) → FreshFit ps f (own_declarator owner direct kind name value end)
fresh_declarator ps f owner direct const_word name value end h = some_variables _ (h refl)
fresh_declarator ps f owner direct let_word name value end h = some_variables _ (h refl)
fresh_declarator ps f owner direct var_word name value end h = refl

fresh_declarators : (p : PlainProgram) (ps : List Mention) (scopes : List Scope) (a : Around) (owner : ℕ) (direct : Bool) (kind : DeclareKind) (ds : PlainDeclarators) → in_whole scopes ≡ false → AllFine p ps (declarators_mentions scopes a kind ds)
    → FreshFit ps a.owner (own_declarators owner direct kind ds)
unfolding declarators_mentions
fresh_declarators p ps scopes a owner direct kind t.no_declarators e h = refl
fresh_declarators p ps scopes a owner direct kind (t.declarator_in name value end ds) e h =
    fresh_append ps a.owner (own_declarator owner direct kind name value end) (own_declarators owner direct kind ds)
    (fresh_declarator ps a.owner owner direct kind name value end (λ k. h.0.slot (ap (λ b. is_var (declared_role kind) || b) e ∙ k)))
    (fresh_declarators p ps scopes a owner direct kind ds e (fine_right p ps (perhaps_mentions scopes a value) (declarators_mentions scopes a kind ds) h.1))

fresh_stmt : (p : PlainProgram) (ps : List Mention) (scopes : List Scope) (a : Around) (owner : ℕ) (direct : Bool) (s : PlainStmt) → in_whole scopes ≡ false → AllFine p ps (stmt_mentions scopes a s) → FreshFit ps a.owner (own_of owner direct s)
unfolding stmt_mentions stmt_form_mentions
fresh_stmt p ps scopes a owner direct (t.on line (t.declaration kind ds)) e h = fresh_declarators p ps scopes a owner direct kind ds e h
fresh_stmt p ps scopes a owner direct (t.on line _) e h = refl

-- the slots of a block fit where its mentions do
fresh_all : (p : PlainProgram) (ps : List Mention) (scopes : List Scope) (a : Around) (owner : ℕ) (direct : Bool) (ss : PlainStmts) → in_whole scopes ≡ false → AllFine p ps (stmts_mentions scopes a ss) → FreshFit ps a.owner (own_of_all owner direct ss)
unfolding stmts_mentions
fresh_all p ps scopes a owner direct t.no_stmts e h = refl
fresh_all p ps scopes a owner direct (t.stmt_in s ss) e h =
    fresh_append ps a.owner (own_of owner direct s) (own_of_all owner direct ss) (fresh_stmt p ps scopes a owner direct s e (fine_left p ps (stmt_mentions scopes a s) (stmts_mentions scopes a ss) h))
    (fresh_all p ps scopes a owner direct ss e (fine_right p ps (stmt_mentions scopes a s) (stmts_mentions scopes a ss) h))

fresh_start : (p : PlainProgram) (ps : List Mention) (scopes : List Scope) (a : Around) (owner : ℕ) (start : PlainStart) → in_whole scopes ≡ false → AllFine p ps (start_mentions scopes a start) → FreshFit ps a.owner (own_of_start owner start)
unfolding start_mentions
fresh_start p ps scopes a owner t.nothing e h = refl
fresh_start p ps scopes a owner (t.declared line kind ds) e h = fresh_declarators p ps scopes a owner false kind ds e h
fresh_start p ps scopes a owner (t.started e) d h = refl

each_no_var : (kind : DeclareKind) (b : Bool) → b ≡ false → (is_var (for_of_role kind) || b) ≡ false
each_no_var const_word b h = h
each_no_var let_word b h = h
each_no_var var_word b h = h

-- the innermost function of some scopes
abbrev pub IsWithin : List Scope → ℕ → Type 0
IsWithin scopes f = (x : ℕ) → second top (x ∷ functions_of scopes) ≡ f

pub length_slots : (slots vs : List ℕ) → length (slots_among slots vs) ≡ length vs
length_slots slots [] = refl
length_slots slots (v ∷ vs) = omega (arith, length_slots slots vs)

good_function : (p : PlainProgram) (ps : List Mention) (owner : ℕ) (inner : List Scope) (spot : Spot) (names : List Name) (ms : List Unresolved) (content : List ℕ → PlainContent) (x : Piece)
    → IsCovered p ps (begin_mention inner spot.at spot ++ (parameter_mentions inner (in_function spot.at) names ++ ms)) → Every (NodeFits p ps spot.at) (content_parts (content x.parts)) → IsGood p ps spot.at x → IsGood p ps owner (function_piece ps spot names content x)
unfolding body_of
good_function p ps owner inner spot names ms content x c h g =
    let f = spot.at in
    let fits : FunctionFits p ps (second top (functions_of inner)) f = c.fine.0 in
    let params = parameter_mentions inner (in_function f) names in
    let rest = covered_left p ps params ms (covered_rest p ps _ (params ++ ms) c) in
    let room : length names + length (capture_slots ps f) ≤ slots_in ps f =
    omega (arith, fits.room, rest.count f, counted_parameters f inner names, length_slots (slots_of (assigned_in ps) (around_of ps f) ps) (captures (assigned_in ps) f ps))
    in
    let none_declared : declarable p f ≡ 0 = ap (λ (b : Bool). if b then length p.constants else 0) fits.inner in
    let parts = content_parts (content x.parts) in
    let content_fits : (depth : ℕ) → list_all (node_fits p (slots_in ps f) 0 depth) parts ≡ true = λ depth.
    every_all (node_fits p (slots_in ps f) 0 depth) parts
    (every_more (NodeFits p ps f) (λ m. node_fits p (slots_in ps f) 0 depth m ≡ true) parts (λ m k. subst (λ d. node_fits p (slots_in ps f) d depth m ≡ true) none_declared (k depth)) h)
    in
    record { parts = tt; bodies = λ depth. and_from _ _ (and_from _ _ (and_from _ _ (le-leb _ _ room) (vars_fit ps f)) (content_fits depth)) (g.bodies depth) }

-- a function's node, and its scopes
function_fine : (p : PlainProgram) (ps : List Mention) (scopes : List Scope) (f at : ℕ) (names : List Name) (ss : PlainStmts) → IsWithin scopes f → FunctionFits p ps (second top (functions_of (function_scope at names ss ∷ scopes))) at → form_fits p (slots_in ps f) (n.function (code_at ps at)) ≡ true
unfolding functions_of function_scope
function_fine p ps scopes f at names ss w h = one_variable _ (subst (λ k. function_fits p (slots_in ps k) (code_at ps at) ≡ true) (w at) h.there)

within_function : (scopes : List Scope) (at : ℕ) (names : List Name) (ss : PlainStmts) → IsWithin (function_scope at names ss ∷ scopes) at
unfolding functions_of function_scope
within_function scopes at names ss x = refl

within_block : (scopes : List Scope) (f owner : ℕ) (ss : PlainStmts) → IsWithin scopes f → IsWithin (block_scope owner ss ∷ scopes) f
unfolding functions_of block_scope
within_block scopes f owner ss w x = w x

within_for : (scopes : List Scope) (f owner : ℕ) (start : PlainStart) (s : PlainStmt) → IsWithin scopes f → IsWithin (for_three_scope owner start s ∷ scopes) f
unfolding functions_of for_three_scope
within_for scopes f owner start s w x = w x

within_list : (scopes : List Scope) (f owner : ℕ) (kind : DeclareKind) (name : Name) → IsWithin scopes f → IsWithin (list_scope owner kind name ∷ scopes) f
unfolding functions_of list_scope
within_list scopes f owner kind name w x = w x

within_each : (scopes : List Scope) (f owner : ℕ) (kind : DeclareKind) (name : Name) (s : PlainStmt) → IsWithin scopes f → IsWithin (for_of_scope owner kind name s ∷ scopes) f
unfolding functions_of for_of_scope
within_each scopes f owner kind name s w x = w x

call_declares : (p : PlainProgram) (ps : List Mention) (f : ℕ) (o : Option Builtin) (w : Option (List ℕ)) (floors : Bool) (xs : List ℕ) → DeclaresFit p ps f (call_node o w floors xs)
call_declares p ps f (Some g) w true xs = refl
call_declares p ps f (Some g) w false xs = refl
call_declares p ps f None (Some word) floors xs = refl
call_declares p ps f None None floors xs = refl

-- fields have as many keys as parts
abbrev HasKeys : PlainForm → List ℕ → Type 0
HasKeys (t.fields fs) xs = length (keys_of fs) ≡ length xs
HasKeys _ xs = Unit {0}

fields_keys : (ps : List Mention) (b : ℕ) (fs : PlainFields) → length (keys_of fs) ≡ length (fields_piece ps b fs).parts
unfolding fields_piece expr_piece
fields_keys ps b t.no_fields = refl
fields_keys ps b (t.field_in key (t.at parens line form) fs) = omega (arith, fields_keys ps (after b (expr_piece ps b (t.at parens line form))) fs)

form_keys : (ps : List Mention) (b : ℕ) (form : PlainForm) → HasKeys form (form_parts ps b form).parts
unfolding form_parts
form_keys ps b (t.fields fs) = fields_keys ps b fs
form_keys ps b _ = tt

-- what an expression's node names is there
expr_fine : (p : PlainProgram) (ps : List Mention) (scopes : List Scope) (a : Around) (form : PlainForm) (xs : List ℕ) → HasKeys form xs → IsWithin scopes a.owner → AllFine p ps (form_mentions scopes a form) → form_fits p (slots_in ps a.owner) (expr_node ps form xs) ≡ true
unfolding form_mentions
expr_fine p ps scopes a (t.number i) xs q w h = refl
expr_fine p ps scopes a (t.text text) xs q w h = refl
expr_fine p ps scopes a (t.truth v) xs q w h = refl
expr_fine p ps scopes a t.null xs q w h = refl
expr_fine p ps scopes a (t.use_of name) xs q w h = use_fits p ps scopes a name xs h
expr_fine p ps scopes a (t.list es) xs q w h = refl
expr_fine p ps scopes a (t.fields fs) xs q w h = eq-eqb _ _ q
expr_fine p ps scopes a (t.member e word) xs q w h = member_fits p (slots_in ps a.owner) (value_builtin e word) word xs
expr_fine p ps scopes a (t.index e i) xs q w h = refl
expr_fine p ps scopes a (t.call e es) xs q w h = no_variables p (slots_in ps a.owner) (called_builtin e) (method_of e) (floors_division (called_builtin e) es) xs
expr_fine p ps scopes a (t.unary s e) xs q w h = refl
expr_fine p ps scopes a (t.update s f name) xs q w h = one_variable _ (assigned_fits p ps scopes a name h)
expr_fine p ps scopes a (t.binary op l r) xs q w h = refl
expr_fine p ps scopes a (t.conditional l m r) xs q w h = refl
expr_fine p ps scopes a (t.assign op name e) xs q w h = one_variable _ (assigned_fits p ps scopes a name (fine_left p ps (assign_mention scopes a name) (expr_mentions scopes a e) h))
expr_fine p ps scopes a (t.arrow_value spot names e) xs q w h = function_fine p ps scopes a.owner spot.at names t.no_stmts w h.0
expr_fine p ps scopes a (t.arrow_block spot names ss) xs q w h = function_fine p ps scopes a.owner spot.at names ss w h.0
expr_fine p ps scopes a (t.function spot names ss) xs q w h = function_fine p ps scopes a.owner spot.at names ss w h.0

-- an expression declares nothing
expr_declares : (p : PlainProgram) (ps : List Mention) (f : ℕ) (form : PlainForm) (xs : List ℕ) → DeclaresFit p ps f (expr_node ps form xs)
expr_declares p ps f (t.use_of name) xs =
    elim (is_undefined name.text) as (λ b. DeclaresFit p ps f (if b then n.undefined else n.read (named_at ps name.spot.at))) [ true ↦ refl | false ↦ refl ]
expr_declares p ps f (t.member e word) xs = elim (value_builtin e word) as (λ o. DeclaresFit p ps f (member_node o word xs)) [ Some v ↦ refl | None ↦ refl ]
expr_declares p ps f (t.call e es) xs = call_declares p ps f (called_builtin e) (method_of e) (floors_division (called_builtin e) es) xs
expr_declares p ps f _ xs = refl

-- and what a statement's does
stmt_fine : (p : PlainProgram) (ps : List Mention) (scopes : List Scope) (a : Around) (form : PlainStmtForm) (xs : List ℕ) → AllFine p ps (stmt_form_mentions scopes a form) → form_fits p (slots_in ps a.owner) (stmt_node ps form xs) ≡ true
unfolding stmt_form_mentions block_scope for_three_scope list_scope
stmt_fine p ps scopes a t.empty xs h = refl
stmt_fine p ps scopes a (t.block ss) xs h = some_variables _ (fresh_all p ps (block_scope a.owner ss ∷ scopes) a 0 false ss refl h)
stmt_fine p ps scopes a (t.declaration kind ds) xs h = refl
stmt_fine p ps scopes a (t.expression e) xs h = refl
stmt_fine p ps scopes a (t.if_alone e s) xs h = refl
stmt_fine p ps scopes a (t.if_else e s other) xs h = refl
stmt_fine p ps scopes a (t.while_of e s) xs h = refl
stmt_fine p ps scopes a (t.for_three start test next s) xs h =
    let inner = for_three_scope a.owner start s ∷ scopes in
    some_variables _ (fresh_start p ps inner a 0 start refl (fine_left p ps (start_mentions inner a start) (perhaps_mentions inner a test ++ (perhaps_mentions inner a next ++ stmt_mentions inner (in_loop a) s)) h))
stmt_fine p ps scopes a (t.for_of kind name e s) xs h = one_variable _ (h.0.slot (each_no_var kind _ refl))
stmt_fine p ps scopes a (t.break_of spot) xs h = refl
stmt_fine p ps scopes a (t.continue_of spot) xs h = refl
stmt_fine p ps scopes a (t.return_nothing spot) xs h = refl
stmt_fine p ps scopes a (t.return_of spot e) xs h = refl

-- and it declares what it may
stmt_declares : (p : PlainProgram) (ps : List Mention) (scopes : List Scope) (a : Around) (form : PlainStmtForm) (xs : List ℕ) → AllFine p ps (stmt_form_mentions scopes a form) → DeclaresFit p ps a.owner (stmt_node ps form xs)
unfolding stmt_form_mentions
stmt_declares p ps scopes a (t.declaration kind ds) xs h = declared_fits p ps scopes a kind ds xs h
stmt_declares p ps scopes a _ xs h = refl

-- a piece is good, if its mentions fit and its nodes stand in the program
abbrev Yields : PlainProgram → List Mention → ℕ → ℕ → List Unresolved → Piece → Type 0
Yields p ps owner b ms x = IsCovered p ps ms → Stands p b x.nodes → IsGood p ps owner x

yields_beside : (p : PlainProgram) (ps : List Mention) (owner b : ℕ) (r s : List Unresolved) (x y : Piece) → Yields p ps owner b r x → Yields p ps owner (after b x) s y → Yields p ps owner b (r ++ s) (beside x y)
yields_beside p ps owner b r s x y f g = λ c h.
    good_beside p ps owner x y (f (covered_left p ps r s c) (stands_left p b x.nodes y.nodes h)) (g (covered_right p ps r s c) (stands_right p b x.nodes y.nodes h))

yields_three : (p : PlainProgram) (ps : List Mention) (owner b : ℕ) (q r s : List Unresolved) (x y z : Piece) → Yields p ps owner b q x → Yields p ps owner (after b x) r y → Yields p ps owner (after b (beside x y)) s z
    → Yields p ps owner b (q ++ (r ++ s)) (beside (beside x y) z)
yields_three p ps owner b q r s x y z f g h =
    subst (λ ms. Yields p ps owner b ms (beside (beside x y) z)) (append_assoc q r s) (yields_beside p ps owner b (q ++ r) s (beside x y) z (yields_beside p ps owner b q r x y f g) h)

yields_four : (p : PlainProgram) (ps : List Mention) (owner b : ℕ) (q r s u : List Unresolved) (x y z w : Piece) → Yields p ps owner b q x → Yields p ps owner (after b x) r y → Yields p ps owner (after b (beside x y)) s z
    → Yields p ps owner (after b (beside (beside x y) z)) u w → Yields p ps owner b (q ++ (r ++ (s ++ u))) (beside (beside (beside x y) z) w)
yields_four p ps owner b q r s u x y z w f g h k =
    subst (λ ms. Yields p ps owner b ms (beside (beside (beside x y) z) w)) (append_assoc q r (s ++ u)) (yields_three p ps owner b (q ++ r) s u (beside x y) z w (yields_beside p ps owner b q r x y f g) h k)

yields_none : (p : PlainProgram) (ps : List Mention) (owner b : ℕ) (ms : List Unresolved) → Yields p ps owner b ms none
yields_none p ps owner b ms c h = good_none p ps owner

yields_rest : (p : PlainProgram) (ps : List Mention) (owner b : ℕ) (s : Unresolved) (ms : List Unresolved) (x : Piece) → Yields p ps owner b ms x → Yields p ps owner b (s ∷ ms) x
yields_rest p ps owner b s ms x f = λ c h. f (covered_rest p ps s ms c) h

yields_member : (p : PlainProgram) (ps : List Mention) (owner b : ℕ) (scopes : List Scope) (a : Around) (object : Option Name) (word : List ℕ) (v : Bool) (ms : List Unresolved) (x : Piece)
    → Yields p ps owner b ms x → Yields p ps owner b (member_mentions scopes a object word v ms) (if v then none else x)
yields_member p ps owner b scopes a object word true ms x f c h = good_none p ps owner
yields_member p ps owner b scopes a None word false ms x f c h = f c h
yields_member p ps owner b scopes a (Some object) word false ms x f c h = absurd c.fine.0

yields_head : (p : PlainProgram) (ps : List Mention) (owner b : ℕ) (o : Option Builtin) (w : Bool) (ms : List Unresolved) (x y : Piece)
    → Yields p ps owner b ms x → Yields p ps owner b ms y → Yields p ps owner b (if is_some o then [] else ms) (if is_some o then none else (if w then y else x))
yields_head p ps owner b (Some o) w ms x y f g c h = good_none p ps owner
yields_head p ps owner b None true ms x y f g c h = g c h
yields_head p ps owner b None false ms x y f g c h = f c h

yields_argument : (p : PlainProgram) (ps : List Mention) (owner b : ℕ) (opens : Bool) (ms : List Unresolved) (x y : Piece) → Yields p ps owner b ms x → Yields p ps owner b ms y → Yields p ps owner b ms (if opens then y else x)
yields_argument p ps owner b true ms x y f g = g
yields_argument p ps owner b false ms x y f g = f

yields_function : (p : PlainProgram) (ps : List Mention) (owner b : ℕ) (inner : List Scope) (spot : Spot) (names : List Name) (ms : List Unresolved) (content : List ℕ → PlainContent) (x : Piece)
    → ((P : ℕ → Type 0) → Every P x.parts → Every P (content_parts (content x.parts))) → Yields p ps spot.at b ms x
    → Yields p ps owner b (begin_mention inner spot.at spot ++ (parameter_mentions inner (in_function spot.at) names ++ ms)) (function_piece ps spot names content x)
yields_function p ps owner b inner spot names ms content x keeps f = λ c h.
    let params = parameter_mentions inner (in_function spot.at) names in
    let g : IsGood p ps spot.at x = f (covered_right p ps params ms (covered_rest p ps _ (params ++ ms) c)) h in
    good_function p ps owner inner spot names ms content x c (keeps (NodeFits p ps spot.at) g.parts) g

mutual
  unfolding expr_piece expr_parts form_parts exprs_piece arguments_piece fields_piece perhaps_piece declarators_piece start_piece stmt_piece stmt_parts stmts_piece expr_mentions form_mentions exprs_mentions fields_mentions perhaps_mentions declarators_mentions start_mentions stmt_mentions stmt_form_mentions stmts_mentions

  expr_good : (p : PlainProgram) (ps : List Mention) (scopes : List Scope) (a : Around) (b : ℕ) (e : PlainExpr) → IsWithin scopes a.owner → Yields p ps a.owner b (expr_mentions scopes a e) (expr_piece ps b e)
  expr_good p ps scopes a b (t.at parens line form) w c h =
      let x = form_parts ps b form in
      let node : PlainNode = record { line = line; form = expr_node ps form x.parts } in
      let g : IsGood p ps a.owner x = form_good p ps scopes a b form w c (stands_left p b x.nodes (node ∷ []) h) in
      good_closed p ps a.owner b line (expr_node ps form) x h (expr_fine p ps scopes a form x.parts (form_keys ps b form) w c.fine) (expr_declares p ps a.owner form x.parts) (kept_expr (NodeFits p ps a.owner) ps form x.parts (form_orderly ps b form).count g.parts) g

  parts_good : (p : PlainProgram) (ps : List Mention) (scopes : List Scope) (a : Around) (b : ℕ) (e : PlainExpr) → IsWithin scopes a.owner → Yields p ps a.owner b (expr_mentions scopes a e) (expr_parts ps b e)
  parts_good p ps scopes a b (t.at parens line form) w = form_good p ps scopes a b form w

  form_good : (p : PlainProgram) (ps : List Mention) (scopes : List Scope) (a : Around) (b : ℕ) (form : PlainForm) → IsWithin scopes a.owner → Yields p ps a.owner b (form_mentions scopes a form) (form_parts ps b form)
  form_good p ps scopes a b (t.number i) w = yields_none p ps a.owner b []
  form_good p ps scopes a b (t.text text) w = yields_none p ps a.owner b []
  form_good p ps scopes a b (t.truth v) w = yields_none p ps a.owner b []
  form_good p ps scopes a b t.null w = yields_none p ps a.owner b []
  form_good p ps scopes a b (t.use_of name) w = yields_none p ps a.owner b (read_mention scopes a name)
  form_good p ps scopes a b (t.list es) w = exprs_good p ps scopes a b es w
  form_good p ps scopes a b (t.fields fs) w = fields_good p ps scopes a b fs w
  form_good p ps scopes a b (t.member e word) w =
      yields_member p ps a.owner b scopes a (object_of e) word (is_some (value_builtin e word)) (expr_mentions scopes a e) (expr_piece ps b e) (expr_good p ps scopes a b e w)
  form_good p ps scopes a b (t.index e i) w =
      let x = expr_piece ps b e in
      yields_beside p ps a.owner b (expr_mentions scopes a e) (expr_mentions scopes a i) x (expr_piece ps (after b x) i) (expr_good p ps scopes a b e w) (expr_good p ps scopes a (after b x) i w)
  form_good p ps scopes a b (t.call e es) w =
      let o = called_builtin e in
      let x = if is_some o then none else (if is_some (method_of e) then expr_parts ps b e else expr_piece ps b e) in
      yields_beside p ps a.owner b (if is_some o then [] else expr_mentions scopes a e) (exprs_mentions scopes a es) x (arguments_piece ps (after b x) (floors_division o es) es)
      (yields_head p ps a.owner b o (is_some (method_of e)) (expr_mentions scopes a e) (expr_piece ps b e) (expr_parts ps b e) (expr_good p ps scopes a b e w) (parts_good p ps scopes a b e w))
      (arguments_good p ps scopes a (after b x) (floors_division o es) es w)
  form_good p ps scopes a b (t.unary s e) w = expr_good p ps scopes a b e w
  form_good p ps scopes a b (t.update s f name) w = yields_none p ps a.owner b (assign_mention scopes a name)
  form_good p ps scopes a b (t.binary op l r) w =
      let x = expr_piece ps b l in
      yields_beside p ps a.owner b (expr_mentions scopes a l) (expr_mentions scopes a r) x (expr_piece ps (after b x) r) (expr_good p ps scopes a b l w) (expr_good p ps scopes a (after b x) r w)
  form_good p ps scopes a b (t.conditional l m r) w =
      let x = expr_piece ps b l in
      let y = expr_piece ps (after b x) m in
      let d = after b (beside x y) in
      yields_three p ps a.owner b (expr_mentions scopes a l) (expr_mentions scopes a m) (expr_mentions scopes a r) x y (expr_piece ps d r) (expr_good p ps scopes a b l w) (expr_good p ps scopes a (after b x) m w) (expr_good p ps scopes a d r w)
  form_good p ps scopes a b (t.assign op name e) w = λ c h. expr_good p ps scopes a b e w (covered_right p ps (assign_mention scopes a name) (expr_mentions scopes a e) c) h
  form_good p ps scopes a b (t.arrow_value spot names e) w =
      let inner = function_scope spot.at names t.no_stmts ∷ scopes in
      yields_function p ps a.owner b inner spot names (expr_mentions inner (in_function spot.at) e) one_value (expr_piece ps b e)
      (λ P h. (every_part P 0 (expr_piece ps b e).parts (expr_orderly ps b e).count h, tt)) (expr_good p ps inner (in_function spot.at) b e (within_function scopes spot.at names t.no_stmts))
  form_good p ps scopes a b (t.arrow_block spot names ss) w =
      let inner = function_scope spot.at names ss ∷ scopes in
      yields_function p ps a.owner b inner spot names (stmts_mentions inner (in_function spot.at) ss) n.statements (stmts_piece ps b ss) (λ P h. h) (stmts_good p ps inner (in_function spot.at) b ss (within_function scopes spot.at names ss))
  form_good p ps scopes a b (t.function spot names ss) w =
      let inner = function_scope spot.at names ss ∷ scopes in
      yields_function p ps a.owner b inner spot names (stmts_mentions inner (in_function spot.at) ss) n.statements (stmts_piece ps b ss) (λ P h. h) (stmts_good p ps inner (in_function spot.at) b ss (within_function scopes spot.at names ss))

  exprs_good : (p : PlainProgram) (ps : List Mention) (scopes : List Scope) (a : Around) (b : ℕ) (es : PlainExprs) → IsWithin scopes a.owner → Yields p ps a.owner b (exprs_mentions scopes a es) (exprs_piece ps b es)
  exprs_good p ps scopes a b t.no_exprs w = yields_none p ps a.owner b []
  exprs_good p ps scopes a b (t.expr_in e es) w =
      let x = expr_piece ps b e in
      yields_beside p ps a.owner b (expr_mentions scopes a e) (exprs_mentions scopes a es) x (exprs_piece ps (after b x) es) (expr_good p ps scopes a b e w) (exprs_good p ps scopes a (after b x) es w)

  arguments_good : (p : PlainProgram) (ps : List Mention) (scopes : List Scope) (a : Around) (b : ℕ) (opens : Bool) (es : PlainExprs) → IsWithin scopes a.owner → Yields p ps a.owner b (exprs_mentions scopes a es) (arguments_piece ps b opens es)
  arguments_good p ps scopes a b opens t.no_exprs w = yields_none p ps a.owner b []
  arguments_good p ps scopes a b opens (t.expr_in e es) w =
      let x = if opens then expr_parts ps b e else expr_piece ps b e in
      yields_beside p ps a.owner b (expr_mentions scopes a e) (exprs_mentions scopes a es) x (exprs_piece ps (after b x) es)
      (yields_argument p ps a.owner b opens (expr_mentions scopes a e) (expr_piece ps b e) (expr_parts ps b e) (expr_good p ps scopes a b e w) (parts_good p ps scopes a b e w))
      (exprs_good p ps scopes a (after b x) es w)

  fields_good : (p : PlainProgram) (ps : List Mention) (scopes : List Scope) (a : Around) (b : ℕ) (fs : PlainFields) → IsWithin scopes a.owner → Yields p ps a.owner b (fields_mentions scopes a fs) (fields_piece ps b fs)
  fields_good p ps scopes a b t.no_fields w = yields_none p ps a.owner b []
  fields_good p ps scopes a b (t.field_in key e fs) w =
      let x = expr_piece ps b e in
      yields_beside p ps a.owner b (expr_mentions scopes a e) (fields_mentions scopes a fs) x (fields_piece ps (after b x) fs) (expr_good p ps scopes a b e w) (fields_good p ps scopes a (after b x) fs w)

  perhaps_good : (p : PlainProgram) (ps : List Mention) (scopes : List Scope) (a : Around) (b : ℕ) (e : PlainPerhaps) → IsWithin scopes a.owner → Yields p ps a.owner b (perhaps_mentions scopes a e) (perhaps_piece ps b e)
  perhaps_good p ps scopes a b t.absent w = yields_none p ps a.owner b []
  perhaps_good p ps scopes a b (t.present e) w = expr_good p ps scopes a b e w

  declarators_good : (p : PlainProgram) (ps : List Mention) (scopes : List Scope) (a : Around) (b : ℕ) (kind : DeclareKind) (ds : PlainDeclarators) → IsWithin scopes a.owner
      → Yields p ps a.owner b (declarators_mentions scopes a kind ds) (declarators_piece ps b ds)
  declarators_good p ps scopes a b kind t.no_declarators w = yields_none p ps a.owner b []
  declarators_good p ps scopes a b kind (t.declarator_in name value end ds) w =
      let x = perhaps_piece ps b value in
      yields_rest p ps a.owner b _ (perhaps_mentions scopes a value ++ declarators_mentions scopes a kind ds) (beside x (declarators_piece ps (after b x) ds))
      (yields_beside p ps a.owner b (perhaps_mentions scopes a value) (declarators_mentions scopes a kind ds) x (declarators_piece ps (after b x) ds) (perhaps_good p ps scopes a b value w) (declarators_good p ps scopes a (after b x) kind ds w))

  start_good : (p : PlainProgram) (ps : List Mention) (scopes : List Scope) (a : Around) (b : ℕ) (s : PlainStart) → IsWithin scopes a.owner → Yields p ps a.owner b (start_mentions scopes a s) (start_piece ps b s)
  start_good p ps scopes a b t.nothing w = yields_none p ps a.owner b []
  start_good p ps scopes a b (t.declared line kind ds) w = λ c h.
      let x = declarators_piece ps b ds in
      let form = λ (parts : List ℕ). n.declaration kind (declared_of ps ds parts) in
      let node : PlainNode = record { line = line; form = form x.parts } in
      let g : IsGood p ps a.owner x = declarators_good p ps scopes a b kind ds w c (stands_left p b x.nodes (node ∷ []) h) in
      good_closed p ps a.owner b line form x h refl (declared_fits p ps scopes a kind ds x.parts c.fine) (kept_declared (NodeFits p ps a.owner) ps ds x.parts (declarators_orderly ps b ds).count g.parts) g
  start_good p ps scopes a b (t.started e) w = expr_good p ps scopes a b e w

  stmt_good : (p : PlainProgram) (ps : List Mention) (scopes : List Scope) (a : Around) (b : ℕ) (s : PlainStmt) → IsWithin scopes a.owner → Yields p ps a.owner b (stmt_mentions scopes a s) (stmt_piece ps b s)
  stmt_good p ps scopes a b (t.on line form) w c h =
      let x = stmt_parts ps b form in
      let node : PlainNode = record { line = line; form = stmt_node ps form x.parts } in
      let g : IsGood p ps a.owner x = stmt_form_good p ps scopes a b form w c (stands_left p b x.nodes (node ∷ []) h) in
      good_closed p ps a.owner b line (stmt_node ps form) x h (stmt_fine p ps scopes a form x.parts c.fine) (stmt_declares p ps scopes a form x.parts c.fine) (kept_stmt (NodeFits p ps a.owner) ps form x.parts (stmt_form_orderly ps b form).count g.parts) g

  stmt_form_good : (p : PlainProgram) (ps : List Mention) (scopes : List Scope) (a : Around) (b : ℕ) (form : PlainStmtForm) → IsWithin scopes a.owner → Yields p ps a.owner b (stmt_form_mentions scopes a form) (stmt_parts ps b form)
  stmt_form_good p ps scopes a b t.empty w = yields_none p ps a.owner b []
  stmt_form_good p ps scopes a b (t.block ss) w = stmts_good p ps (block_scope a.owner ss ∷ scopes) a b ss (within_block scopes a.owner a.owner ss w)
  stmt_form_good p ps scopes a b (t.declaration kind ds) w = declarators_good p ps scopes a b kind ds w
  stmt_form_good p ps scopes a b (t.expression e) w = expr_good p ps scopes a b e w
  stmt_form_good p ps scopes a b (t.if_alone e s) w =
      let x = expr_piece ps b e in
      yields_beside p ps a.owner b (expr_mentions scopes a e) (stmt_mentions scopes a s) x (stmt_piece ps (after b x) s) (expr_good p ps scopes a b e w) (stmt_good p ps scopes a (after b x) s w)
  stmt_form_good p ps scopes a b (t.if_else e s other) w =
      let x = expr_piece ps b e in
      let y = stmt_piece ps (after b x) s in
      let d = after b (beside x y) in
      yields_three p ps a.owner b (expr_mentions scopes a e) (stmt_mentions scopes a s) (stmt_mentions scopes a other) x y (stmt_piece ps d other) (expr_good p ps scopes a b e w) (stmt_good p ps scopes a (after b x) s w) (stmt_good p ps scopes a d other w)
  stmt_form_good p ps scopes a b (t.while_of e s) w =
      let x = expr_piece ps b e in
      yields_beside p ps a.owner b (expr_mentions scopes a e) (stmt_mentions scopes (in_loop a) s) x (stmt_piece ps (after b x) s) (expr_good p ps scopes a b e w) (stmt_good p ps scopes (in_loop a) (after b x) s w)
  stmt_form_good p ps scopes a b (t.for_three start test next s) w =
      let inner = for_three_scope a.owner start s ∷ scopes in
      let v = within_for scopes a.owner a.owner start s w in
      let x = start_piece ps b start in
      let y = perhaps_piece ps (after b x) test in
      let c = after b (beside x y) in
      let z = perhaps_piece ps c next in
      let d = after b (beside (beside x y) z) in
      yields_four p ps a.owner b (start_mentions inner a start) (perhaps_mentions inner a test) (perhaps_mentions inner a next) (stmt_mentions inner (in_loop a) s) x y z (stmt_piece ps d s)
      (start_good p ps inner a b start v) (perhaps_good p ps inner a (after b x) test v) (perhaps_good p ps inner a c next v) (stmt_good p ps inner (in_loop a) d s v)
  stmt_form_good p ps scopes a b (t.for_of kind name e s) w =
      let listed = list_scope a.owner kind name ∷ scopes in
      let inner = for_of_scope a.owner kind name s ∷ scopes in
      let v = within_each scopes a.owner a.owner kind name s w in
      let x = expr_piece ps b e in
      yields_rest p ps a.owner b _ (expr_mentions listed a e ++ stmt_mentions inner (in_loop a) s) (beside x (stmt_piece ps (after b x) s))
      (yields_beside p ps a.owner b (expr_mentions listed a e) (stmt_mentions inner (in_loop a) s) x (stmt_piece ps (after b x) s) (expr_good p ps listed a b e (within_list scopes a.owner a.owner kind name w)) (stmt_good p ps inner (in_loop a) (after b x) s v))
  stmt_form_good p ps scopes a b (t.break_of spot) w = λ c h. good_none p ps a.owner
  stmt_form_good p ps scopes a b (t.continue_of spot) w = λ c h. good_none p ps a.owner
  stmt_form_good p ps scopes a b (t.return_nothing spot) w = λ c h. good_none p ps a.owner
  stmt_form_good p ps scopes a b (t.return_of spot e) w = yields_rest p ps a.owner b _ (expr_mentions scopes a e) (expr_piece ps b e) (expr_good p ps scopes a b e w)

  stmts_good : (p : PlainProgram) (ps : List Mention) (scopes : List Scope) (a : Around) (b : ℕ) (ss : PlainStmts) → IsWithin scopes a.owner → Yields p ps a.owner b (stmts_mentions scopes a ss) (stmts_piece ps b ss)
  stmts_good p ps scopes a b t.no_stmts w = yields_none p ps a.owner b []
  stmts_good p ps scopes a b (t.stmt_in s ss) w =
      let x = stmt_piece ps b s in
      yields_beside p ps a.owner b (stmt_mentions scopes a s) (stmts_mentions scopes a ss) x (stmts_piece ps (after b x) ss) (stmt_good p ps scopes a b s w) (stmts_good p ps scopes a (after b x) ss w)

item_good : (p : PlainProgram) (ps : List Mention) (scopes : List Scope) (b : ℕ) (i : PlainItem) → IsWithin scopes top → Yields p ps top b (item_mentions scopes i) (item_piece ps b i)
unfolding item_piece item_mentions
item_good p ps scopes b (t.statement spot s) w = stmt_good p ps scopes (in_function top) b s w
item_good p ps scopes b (t.function_of spot name names ss) w =
    let inner = function_scope spot.at names ss ∷ scopes in
    let ms = stmts_mentions inner (in_function spot.at) ss in
    yields_rest p ps top b _ (begin_mention inner spot.at spot ++ (parameter_mentions inner (in_function spot.at) names ++ ms)) (function_piece ps spot names n.statements (stmts_piece ps b ss))
    (yields_function p ps top b inner spot names ms n.statements (stmts_piece ps b ss) (λ P h. h) (stmts_good p ps inner (in_function spot.at) b ss (within_function scopes spot.at names ss)))

-- the items of a program whose mentions fit
pub items_good : (p : PlainProgram) (ps : List Mention) (scopes : List Scope) (b : ℕ) (is : List PlainItem) → IsWithin scopes top → IsCovered p ps (flat_map (item_mentions scopes) is) → Stands p b (items_piece ps b is).nodes → IsGood p ps top (items_piece ps b is)
unfolding items_piece
items_good p ps scopes b [] w c h = good_none p ps top
items_good p ps scopes b (i ∷ is) w c h =
    let x = item_piece ps b i in
    yields_beside p ps top b (item_mentions scopes i) (flat_map (item_mentions scopes) is) x (items_piece ps (after b x) is) (item_good p ps scopes b i w) (items_good p ps scopes (after b x) is w) c h
