use Rattle.std.proofs.Common.{◌≡◌, ◌≤◌, ◌++◌, length, take}
use Rattle.js_names.specs.Mentions.{functions_of}
use Rattle.js_names.specs.Views.{scopes_of}
use Rattle.js_names.proofs.steps.functions_of.Given as goal

abbrev pub invariant-loop-i : goal.invariant-loop-i
invariant-loop-i l = record {
  within : l.i ≤ length l.scopes;
  same : l.functions.items ++ functions_of (scopes_of (take l.i l.scopes)) ≡ functions_of (scopes_of l.scopes);
}

abbrev pub decreases-loop-i : goal.decreases-loop-i
decreases-loop-i l = l.i
