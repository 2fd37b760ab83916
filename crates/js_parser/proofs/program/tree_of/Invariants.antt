use Rattle.std.proofs.Common.{◌≡◌, ◌-◌, length, map}
use Rattle.js_tree.specs.declared.limits.TheConstants.{MOST_NESTING}
use Rattle.js_tree.specs.Views.{plain_item}
use Rattle.js_grammar.specs.Reading.{run}
use Rattle.js_grammar.specs.Statements.{items_step}
use Rattle.js_grammar.specs.Reader.{readers}
use Rattle.js_cursor.specs.Read.{left}
use Rattle.js_parser.specs.Parse.{all_items}
use Rattle.js_parser.proofs.program.tree_of.Given as goal

abbrev pub invariant-more : goal.invariant-more
invariant-more l =
    run (items_step (MOST_NESTING - 1) (readers (MOST_NESTING - 1))) (map plain_item l.items.items) (left l.cursor) ≡ all_items l.rest

abbrev pub decreases-more : goal.decreases-more
decreases-more l = length l.cursor.rest.now
