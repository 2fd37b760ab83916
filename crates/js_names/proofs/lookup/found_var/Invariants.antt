use Rattle.std.proofs.Common.{◌≡◌, ◌≤◌, length, take}
use Rattle.js_names.specs.Mentions.{found_var}
use Rattle.js_names.specs.Views.{scopes_of}
use Rattle.js_names.proofs.lookup.found_var.Given as goal

abbrev pub invariant-loop-i : goal.invariant-loop-i
invariant-loop-i l = record {
  within : l.i ≤ length l.scopes;
  same : found_var (scopes_of l.scopes) l.name ≡ found_var (scopes_of (take l.i l.scopes)) l.name;
}

abbrev pub decreases-loop-i : goal.decreases-loop-i
decreases-loop-i l = l.i
