-- Trees as plain data: what the grammar and the rules of names speak of.
use Rattle.std.specs.Prelude.{ℕ, ℤ, Bool, List, [], ◌∷◌}
use Rattle.js_tree.specs.declared.tree.Name.{Name}
use Rattle.js_tree.specs.declared.tree.Spot.{Spot}
use Rattle.js_tree.specs.declared.tree.Sign.{Sign}
use Rattle.js_tree.specs.declared.tree.Step.{Step}
use Rattle.js_tree.specs.declared.tree.Fix.{Fix}
use Rattle.js_tree.specs.declared.tree.Operator.{Operator}
use Rattle.js_tree.specs.declared.tree.AssignOp.{AssignOp}
use Rattle.js_tree.specs.declared.tree.DeclareKind.{DeclareKind}

mutual
  -- an expression: how many pairs of parentheses stand round it, the line of its first token after them,
  -- and its form
  pub data PlainExpr : Type 0 where
    at : ℕ → ℕ → PlainForm → PlainExpr

  pub data PlainForm : Type 0 where
    number : ℤ → PlainForm
    text : List ℕ → PlainForm
    truth : Bool → PlainForm
    null : PlainForm
    use_of : Name → PlainForm
    list : PlainExprs → PlainForm
    fields : PlainFields → PlainForm
    member : PlainExpr → List ℕ → PlainForm
    index : PlainExpr → PlainExpr → PlainForm
    call : PlainExpr → PlainExprs → PlainForm
    unary : Sign → PlainExpr → PlainForm
    update : Step → Fix → Name → PlainForm
    binary : Operator → PlainExpr → PlainExpr → PlainForm
    conditional : PlainExpr → PlainExpr → PlainExpr → PlainForm
    assign : AssignOp → Name → PlainExpr → PlainForm
    arrow_value : Spot → List Name → PlainExpr → PlainForm
    arrow_block : Spot → List Name → PlainStmts → PlainForm
    function : Spot → List Name → PlainStmts → PlainForm

  pub data PlainExprs : Type 0 where
    no_exprs : PlainExprs
    expr_in : PlainExpr → PlainExprs → PlainExprs

  -- keys and values
  pub data PlainFields : Type 0 where
    no_fields : PlainFields
    field_in : List ℕ → PlainExpr → PlainFields → PlainFields

  -- an expression that may be absent
  pub data PlainPerhaps : Type 0 where
    absent : PlainPerhaps
    present : PlainExpr → PlainPerhaps

  -- declared names with their values, and the places after them
  pub data PlainDeclarators : Type 0 where
    no_declarators : PlainDeclarators
    declarator_in : Name → PlainPerhaps → ℕ → PlainDeclarators → PlainDeclarators

  -- what a `for` begins with
  pub data PlainStart : Type 0 where
    nothing : PlainStart
    declared : ℕ → DeclareKind → PlainDeclarators → PlainStart
    started : PlainExpr → PlainStart

  -- a statement: the line of its first token, and its form
  pub data PlainStmt : Type 0 where
    on : ℕ → PlainStmtForm → PlainStmt

  pub data PlainStmtForm : Type 0 where
    empty : PlainStmtForm
    block : PlainStmts → PlainStmtForm
    declaration : DeclareKind → PlainDeclarators → PlainStmtForm
    expression : PlainExpr → PlainStmtForm
    if_alone : PlainExpr → PlainStmt → PlainStmtForm
    if_else : PlainExpr → PlainStmt → PlainStmt → PlainStmtForm
    while_of : PlainExpr → PlainStmt → PlainStmtForm
    for_three : PlainStart → PlainPerhaps → PlainPerhaps → PlainStmt → PlainStmtForm
    for_of : DeclareKind → Name → PlainExpr → PlainStmt → PlainStmtForm
    break_of : Spot → PlainStmtForm
    continue_of : Spot → PlainStmtForm
    return_nothing : Spot → PlainStmtForm
    return_of : Spot → PlainExpr → PlainStmtForm

  pub data PlainStmts : Type 0 where
    no_stmts : PlainStmts
    stmt_in : PlainStmt → PlainStmts → PlainStmts

-- what a program lists, with the place of its first token
pub data PlainItem : Type 0 where
  statement : Spot → PlainStmt → PlainItem
  function_of : Spot → Name → List Name → PlainStmts → PlainItem

-- a declarator and a field alone
pub record PlainDeclarator : Type 0 where
  pub name : Name
  pub value : PlainPerhaps
  pub end : ℕ

pub record PlainField : Type 0 where
  pub key : List ℕ
  pub value : PlainExpr

-- lists of trees, as a tree holds them

abbrev pub exprs_of : List PlainExpr → PlainExprs
exprs_of [] = no_exprs
exprs_of (e ∷ es) = expr_in e (exprs_of es)

abbrev pub fields_of : List PlainField → PlainFields
fields_of [] = no_fields
fields_of (f ∷ fs) = field_in f.key f.value (fields_of fs)

abbrev pub declarators_of : List PlainDeclarator → PlainDeclarators
declarators_of [] = no_declarators
declarators_of (d ∷ ds) = declarator_in d.name d.value d.end (declarators_of ds)

abbrev pub stmts_of : List PlainStmt → PlainStmts
stmts_of [] = no_stmts
stmts_of (s ∷ ss) = stmt_in s (stmts_of ss)
