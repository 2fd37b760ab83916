-- Runs of a program under many seeds.
use Rattle.std.specs.Prelude.{◌≡◌, ◌≤◌, ◌<◌, ℕ, ◌+◌, ◌^◌, List}
use Rattle.js_program.specs.PlainProgram.{PlainProgram}
use Rattle.bp_script.specs.Programs.{IsProgram}
use Rattle.bp_seeds.specs.declared.sweep.Sweep.{Sweep}

-- the bytes are a program
abbrev pub HasProgram : List ℕ → Type 0
HasProgram bytes = (program : PlainProgram) × IsProgram bytes program

-- the number of seeds is one of 32 bits, each seed one of 64, and the runs have no injectors
pub record IsSweep (s : Sweep) : Type 0 where
  pub few : s.count < 2 ^ 32
  pub last : s.first + s.count ≤ 2 ^ 64
  pub alone : s.options.injectors ≡ 0
