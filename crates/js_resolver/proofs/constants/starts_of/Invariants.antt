use Rattle.std.proofs.Common.{◌≡◌, map, take}
use Rattle.std.specs.Prelude.{unwrap_or}
use Rattle.js_program.specs.PlainProgram.{undeclared}
use Rattle.js_program.specs.Views.{plain_constant}
use Rattle.js_resolver.specs.inner.Starts.{start_in}
use Rattle.js_resolver.proofs.constants.starts_of.Given as goal

abbrev pub invariant-loop-constant : goal.invariant-loop-constant
invariant-loop-constant l = map plain_constant l.found.items ≡ map (λ q. unwrap_or (start_in l.starts q) undeclared) (take l.constant-index l.constants)
