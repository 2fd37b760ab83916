use Rattle.std.proofs.Common.{◌≡◌, ◌<◌, ◌≤◌, ◌+◌, ◌*◌, length, map, Some}
use Rattle.js_tree.specs.Plain.{exprs_of, fields_of, declarators_of, stmts_of}
use Rattle.js_tree.specs.Views.{plain_expr, plain_field, plain_declarator, plain_stmt}
use Rattle.js_tree.specs.Nesting.{nesting, deepest, deepest_field, deepest_declarator, deepest_stmt}
use Rattle.js_grammar.specs.Reading.{run}
use Rattle.js_grammar.specs.Expressions.{called_step, called, elements_step, elements, fields_step, fields, declarators_step, declarators_of_kind, operated_step, operators, statements_step, statements}
use Rattle.js_grammar.specs.Reader.{readers}
use Rattle.js_cursor.specs.Read.{left}
use Rattle.js_descent.proofs.descent.+descent.Given as goal

-- each call has less room, or the same room and a tighter form

abbrev pub decreases-assignment : goal.decreases-assignment
decreases-assignment l = 64 * l.room + 1

abbrev pub decreases-operand : goal.decreases-operand
decreases-operand l = 64 * l.room + 1

abbrev pub decreases-arrow : goal.decreases-arrow
decreases-arrow l = 64 * l.inner + 10

abbrev pub decreases-assign : goal.decreases-assign
decreases-assign l = 64 * l.inner + 10

abbrev pub decreases-choice : goal.decreases-choice
decreases-choice l = 64 * l.inner + 31

abbrev pub decreases-operators : goal.decreases-operators
decreases-operators l = 64 * l.inner + 25

abbrev pub decreases-chain : goal.decreases-chain
decreases-chain l = 64 * l.inner + 24

abbrev pub decreases-signed : goal.decreases-signed
decreases-signed l = 64 * l.inner + 23

abbrev pub decreases-called : goal.decreases-called
decreases-called l = 64 * l.inner + 21

abbrev pub decreases-index : goal.decreases-index
decreases-index l = 64 * l.inner + 10

abbrev pub decreases-call : goal.decreases-call
decreases-call l = 64 * l.inner + 10

abbrev pub decreases-primary : goal.decreases-primary
decreases-primary l = 64 * l.inner + 20

abbrev pub decreases-round : goal.decreases-round
decreases-round l = 64 * l.inner + 10

abbrev pub decreases-function : goal.decreases-function
decreases-function l = 64 * l.inner + 10

abbrev pub decreases-elements : goal.decreases-elements
decreases-elements l = 64 * l.inner + 5

abbrev pub decreases-field : goal.decreases-field
decreases-field l = 64 * l.inner + 5

abbrev pub decreases-fields : goal.decreases-fields
decreases-fields l = 64 * l.inner + 6

abbrev pub decreases-declarator : goal.decreases-declarator
decreases-declarator l = 64 * l.inner + 5

abbrev pub decreases-declarators : goal.decreases-declarators
decreases-declarators l = 64 * l.inner + 6

abbrev pub decreases-statements : goal.decreases-statements
decreases-statements l = 64 * l.inner + 5

abbrev pub decreases-closed : goal.decreases-closed
decreases-closed l = 64 * l.inner + 6

abbrev pub decreases-body : goal.decreases-body
decreases-body l = 64 * l.inner + 5

abbrev pub decreases-test : goal.decreases-test
decreases-test l = 64 * l.inner + 6

abbrev pub decreases-declaration : goal.decreases-declaration
decreases-declaration l = 64 * l.inner + 10

abbrev pub decreases-if_of : goal.decreases-if_of
decreases-if_of l = 64 * l.inner + 10

abbrev pub decreases-while_of : goal.decreases-while_of
decreases-while_of l = 64 * l.inner + 10

abbrev pub decreases-start : goal.decreases-start
decreases-start l = 64 * l.inner + 10

abbrev pub decreases-perhaps : goal.decreases-perhaps
decreases-perhaps l = 64 * l.inner + 10

abbrev pub decreases-for_three : goal.decreases-for_three
decreases-for_three l = 64 * l.inner + 11

abbrev pub decreases-for_of : goal.decreases-for_of
decreases-for_of l = 64 * l.inner + 11

abbrev pub decreases-for_any : goal.decreases-for_any
decreases-for_any l = 64 * l.inner + 12

abbrev pub decreases-return_of : goal.decreases-return_of
decreases-return_of l = 64 * l.inner + 10

abbrev pub decreases-evaluation : goal.decreases-evaluation
decreases-evaluation l = 64 * l.inner + 10

abbrev pub decreases-statement : goal.decreases-statement
decreases-statement l = 64 * l.room + 1

-- the loops

abbrev pub invariant-called-more : goal.invariant-called-more
invariant-called-more l = record {
  same : run (called_step l.inner (readers l.inner) l.line) (plain_expr l.left.tree) (left l.cursor) ≡ called l.inner (readers l.inner) (left l.fn.cursor);
  measured : l.left.depth ≡ nesting (plain_expr l.left.tree);
  within : l.left.depth ≤ l.inner + 1;
  few : length l.cursor.rest.now < length l.fn.cursor.rest.now;
}

abbrev pub decreases-called-more : goal.decreases-called-more
decreases-called-more l = length l.cursor.rest.now

abbrev pub invariant-chain-more : goal.invariant-chain-more
invariant-chain-more l = record {
  same : run (operated_step l.inner (readers l.inner) l.line l.level) (plain_expr l.left.tree) (left l.cursor) ≡ run (operated_step l.inner (readers l.inner) l.line l.level) (plain_expr l.fn.first.tree) (left l.fn.cursor);
  measured : l.left.depth ≡ nesting (plain_expr l.left.tree);
  within : l.left.depth ≤ l.inner + 1;
  few : length l.cursor.rest.now ≤ length l.fn.cursor.rest.now;
}

abbrev pub decreases-chain-more : goal.decreases-chain-more
decreases-chain-more l = length l.cursor.rest.now

abbrev pub invariant-operators-tighter : goal.invariant-operators-tighter
invariant-operators-tighter l = record {
  same : operators l.inner (readers l.inner) l.tight (left l.fn.cursor) ≡ Some (plain_expr l.left.tree, left l.cursor);
  measured : l.left.depth ≡ nesting (plain_expr l.left.tree);
  within : l.left.depth ≤ l.inner + 1;
  few : length l.cursor.rest.now < length l.fn.cursor.rest.now;
}

abbrev pub invariant-elements-more : goal.invariant-elements-more
invariant-elements-more l = record {
  same : run (elements_step l.inner (readers l.inner) l.close) (map plain_expr l.all.tree.items) (left l.cursor) ≡ elements l.inner (readers l.inner) l.close (left l.fn.cursor);
  measured : l.all.depth ≡ deepest (exprs_of (map plain_expr l.all.tree.items));
  within : l.all.depth ≤ l.inner;
  few : length l.cursor.rest.now ≤ length l.fn.cursor.rest.now;
}

abbrev pub decreases-elements-more : goal.decreases-elements-more
decreases-elements-more l = length l.cursor.rest.now

abbrev pub invariant-fields-more : goal.invariant-fields-more
invariant-fields-more l = record {
  same : run (fields_step l.inner (readers l.inner)) (map plain_field l.all.tree.items) (left l.cursor) ≡ fields l.inner (readers l.inner) (left l.fn.cursor);
  measured : l.all.depth ≡ deepest_field (fields_of (map plain_field l.all.tree.items));
  within : l.all.depth ≤ l.inner;
  few : length l.cursor.rest.now ≤ length l.fn.cursor.rest.now;
}

abbrev pub decreases-fields-more : goal.decreases-fields-more
decreases-fields-more l = length l.cursor.rest.now

abbrev pub invariant-declarators-more : goal.invariant-declarators-more
invariant-declarators-more l = record {
  same : run (declarators_step l.inner (readers l.inner) l.kind) (map plain_declarator l.all.tree.items) (left l.cursor) ≡ declarators_of_kind l.inner (readers l.inner) l.kind (left l.fn.cursor);
  measured : l.all.depth ≡ deepest_declarator (declarators_of (map plain_declarator l.all.tree.items));
  within : l.all.depth ≤ l.inner;
  few : length l.cursor.rest.now ≤ length l.fn.cursor.rest.now;
}

abbrev pub decreases-declarators-more : goal.decreases-declarators-more
decreases-declarators-more l = length l.cursor.rest.now

abbrev pub invariant-statements-more : goal.invariant-statements-more
invariant-statements-more l = record {
  same : run (statements_step l.inner (readers l.inner)) (map plain_stmt l.all.tree.items) (left l.cursor) ≡ statements l.inner (readers l.inner) (left l.fn.cursor);
  measured : l.all.depth ≡ deepest_stmt (stmts_of (map plain_stmt l.all.tree.items));
  within : l.all.depth ≤ l.inner;
  few : length l.cursor.rest.now ≤ length l.fn.cursor.rest.now;
}

abbrev pub decreases-statements-more : goal.decreases-statements-more
decreases-statements-more l = length l.cursor.rest.now
