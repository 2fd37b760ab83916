-- The bytes that stand in a JSON text as they are.
use Rattle.std.specs.Prelude.{◌≢◌, ◌≤◌, ℕ}

-- 34 is the quotation mark, 92 the backslash; what is below 32 has an escape
abbrev pub StandsAsItIs : ℕ → Type 0
StandsAsItIs x = (32 ≤ x) × (x ≢ 34) × (x ≢ 92)
