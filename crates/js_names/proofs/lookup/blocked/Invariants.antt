use Rattle.std.proofs.Common.{◌≡◌, ◌≤◌, length, take}
use Rattle.js_names.specs.Mentions.{blocked}
use Rattle.js_names.specs.Views.{scopes_of}
use Rattle.js_names.proofs.lookup.blocked.Given as goal

abbrev pub invariant-loop-i : goal.invariant-loop-i
invariant-loop-i l = record {
  within : l.i ≤ length l.scopes;
  same : blocked (scopes_of l.scopes) l.name l.offset ≡ blocked (scopes_of (take l.i l.scopes)) l.name l.offset;
}

abbrev pub decreases-loop-i : goal.decreases-loop-i
decreases-loop-i l = l.i
