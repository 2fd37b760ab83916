-- What the node of a form is, from the numbers of its parts.
use Rattle.std.specs.Prelude.{ℕ, Bool, true, false, ◌&&◌, List, [], ◌∷◌, Option, Some, None, is_some, map, drop, if◌then◌else◌}
use Rattle.js_tree.specs.declared.tree.Operator.TheVariants.{Divide}
use Rattle.js_tree.specs.Plain as t
use Rattle.js_tree.specs.Plain.{PlainExpr, PlainForm, PlainExprs, PlainFields, PlainDeclarators, PlainStart, PlainStmtForm}
use Rattle.js_program.specs.declared.builtin.Builtin.{Builtin}
use Rattle.js_program.specs.declared.builtin.Builtin.TheVariants.{Floor}
use Rattle.js_program.specs.PlainProgram as n
use Rattle.js_program.specs.PlainProgram.{PlainNodeForm, PlainDeclared}
use Rattle.js_names.specs.Entries.{Entry, own_of_all, own_of_start, is_present}
use Rattle.js_names.specs.Forms.{called_builtin, value_builtin, is_undefined}
use Rattle.js_names.specs.Mentions.{Mention}
use Rattle.js_resolver.specs.Variables.{named_at, slot_at, code_at}
use Rattle.js_resolver.specs.Pieces.{part}

-- what the node of a form is

abbrev pub is_division : PlainExpr → Bool
is_division (t.at parens line (t.binary Divide l r)) = true
is_division _ = false

abbrev pub begins_with_division : PlainExprs → Bool
begins_with_division t.no_exprs = false
begins_with_division (t.expr_in e es) = is_division e

-- the word of a method that is called
abbrev pub method_of : PlainExpr → Option (List ℕ)
method_of (t.at parens line (t.member e word)) =
    if is_some (value_builtin e word) then None else Some word
method_of _ = None

abbrev pub is_floor : Builtin → Bool
is_floor Floor = true
is_floor _ = false

abbrev pub floors_division : Option Builtin → PlainExprs → Bool
floors_division None es = false
floors_division (Some f) es = is_floor f && begins_with_division es

abbrev pub call_node : Option Builtin → Option (List ℕ) → Bool → List ℕ → PlainNodeForm
call_node (Some f) word is_division parts =
    if is_division then n.floor_divide (part 0 parts) (part 1 parts) (drop 2 parts)
    else n.builtin f parts
call_node None (Some word) is_division parts = n.method (part 0 parts) word (drop 1 parts)
call_node None None is_division parts = n.call (part 0 parts) (drop 1 parts)

abbrev pub member_node : Option Builtin → List ℕ → List ℕ → PlainNodeForm
member_node None word parts = n.member (part 0 parts) word
member_node (Some f) word parts = n.builtin f parts

-- the keys of fields
abbrev pub keys_of : PlainFields → List (List ℕ)
keys_of t.no_fields = []
keys_of (t.field_in key e fs) = key ∷ keys_of fs

-- the form of a node, from the numbers of its parts in the order in which they begin
abbrev pub expr_node : List Mention → PlainForm → List ℕ → PlainNodeForm
expr_node ps (t.number i) parts = n.number i
expr_node ps (t.text text) parts = n.text text
expr_node ps (t.truth b) parts = n.truth b
expr_node ps t.null parts = n.null
expr_node ps (t.use_of name) parts =
    if is_undefined name.text then n.undefined else n.read (named_at ps name.spot.at)
expr_node ps (t.list es) parts = n.list parts
expr_node ps (t.fields fs) parts = n.fields (keys_of fs) parts
expr_node ps (t.member e word) parts = member_node (value_builtin e word) word parts
expr_node ps (t.index e i) parts = n.index (part 0 parts) (part 1 parts)
expr_node ps (t.call e es) parts =
    call_node (called_builtin e) (method_of e) (floors_division (called_builtin e) es) parts
expr_node ps (t.unary s e) parts = n.unary s (part 0 parts)
expr_node ps (t.update s f name) parts = n.update s f (slot_at ps name.spot.at)
expr_node ps (t.binary op l r) parts = n.binary op (part 0 parts) (part 1 parts)
expr_node ps (t.conditional l m r) parts = n.conditional (part 0 parts) (part 1 parts) (part 2 parts)
expr_node ps (t.assign op name e) parts = n.assign op (slot_at ps name.spot.at) (part 0 parts)
expr_node ps (t.arrow_value spot names e) parts = n.function (code_at ps spot.at)
expr_node ps (t.arrow_block spot names ss) parts = n.function (code_at ps spot.at)
expr_node ps (t.function spot names ss) parts = n.function (code_at ps spot.at)

-- the slots of a block's variables, which are not declared yet as it begins
abbrev pub fresh : List Mention → List Entry → List ℕ
fresh ps entries = map (λ (e : Entry). slot_at ps e.declared.offset) entries

-- a part that may be absent, and the parts after it
abbrev pub perhaps_part : Bool → List ℕ → Option ℕ
perhaps_part false parts = None
perhaps_part true parts = Some (part 0 parts)

abbrev pub parts_after : Bool → List ℕ → List ℕ
parts_after false parts = parts
parts_after true parts = drop 1 parts

abbrev pub declared_of : List Mention → PlainDeclarators → List ℕ → List PlainDeclared
declared_of ps t.no_declarators parts = []
declared_of ps (t.declarator_in name value end ds) parts =
    record { variable = named_at ps name.spot.at; value = perhaps_part (is_present value) parts }
    ∷ declared_of ps ds (parts_after (is_present value) parts)

abbrev pub has_start : PlainStart → Bool
has_start t.nothing = false
has_start (t.declared line kind ds) = true
has_start (t.started e) = true

abbrev pub for_node : List ℕ → Bool → Bool → Bool → List ℕ → PlainNodeForm
for_node slots start test next parts =
    let later = parts_after start parts in
    let last = parts_after test later in
    n.for_three slots (perhaps_part start parts) (perhaps_part test later) (perhaps_part next last)
    (part 0 (parts_after next last))

abbrev pub stmt_node : List Mention → PlainStmtForm → List ℕ → PlainNodeForm
stmt_node ps t.empty parts = n.empty
stmt_node ps (t.block ss) parts = n.block (fresh ps (own_of_all 0 false ss)) parts
stmt_node ps (t.declaration kind ds) parts = n.declaration kind (declared_of ps ds parts)
stmt_node ps (t.expression e) parts = n.expression (part 0 parts)
stmt_node ps (t.if_alone e s) parts = n.if_alone (part 0 parts) (part 1 parts)
stmt_node ps (t.if_else e s other) parts = n.if_else (part 0 parts) (part 1 parts) (part 2 parts)
stmt_node ps (t.while_of e s) parts = n.while_of (part 0 parts) (part 1 parts)
stmt_node ps (t.for_three start test next s) parts =
    for_node (fresh ps (own_of_start 0 start)) (has_start start) (is_present test) (is_present next)
    parts
stmt_node ps (t.for_of kind name e s) parts =
    n.for_of (slot_at ps name.spot.at) (part 0 parts) (part 1 parts)
stmt_node ps (t.break_of spot) parts = n.break_of
stmt_node ps (t.continue_of spot) parts = n.continue_of
stmt_node ps (t.return_nothing spot) parts = n.return_nothing
stmt_node ps (t.return_of spot e) parts = n.return_of (part 0 parts)
