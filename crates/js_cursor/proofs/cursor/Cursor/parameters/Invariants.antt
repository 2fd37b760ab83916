use Rattle.std.proofs.Common.{◌≡◌, ◌≤◌, length}
use Rattle.js_grammar.specs.Reading.{run, params_step, params}
use Rattle.js_cursor.proofs.cursor.Cursor.parameters.Given as goal

abbrev pub invariant-more : goal.invariant-more
invariant-more l = record {
  same : run params_step l.names.items l.self.rest.now ≡ params l.initial.self.rest.now;
  few : length l.self.rest.now ≤ length l.initial.self.rest.now;
}

abbrev pub decreases-more : goal.decreases-more
decreases-more l = length l.self.rest.now
