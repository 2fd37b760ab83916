use Rattle.std.proofs.Common.{◌≡◌, drop, map}
use Rattle.js_program.specs.Builtins.{form_row, row_named}
use Rattle.js_program.proofs.builtin.row_named.Given as goal

-- a row with the word is found among the rows that are left exactly where it is one of all
abbrev pub invariant-loop-row : goal.invariant-loop-row
invariant-loop-row l = row_named (map form_row (drop l.row-index l.rows)) l.word ≡ row_named (map form_row l.rows) l.word
