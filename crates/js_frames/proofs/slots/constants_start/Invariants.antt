use Rattle.std.proofs.Common.{◌≡◌, ◌++◌, map, drop}
use Rattle.js_meaning.specs.Variables.{constant_start}
use Rattle.js_frames.proofs.slots.constants_start.Given as goal

abbrev pub invariant-loop-number : goal.invariant-loop-number
invariant-loop-number l = l.constants ++ map constant_start (drop l.number (let p = l.program in p.constants)) ≡ map constant_start (let p = l.program in p.constants)
