-- What stands at the head of a log.
use Rattle.std.specs.Prelude.{ℕ, List}
use Rattle.bp_log.specs.Options.{PlainOptions}

pub record PlainHeader : Type 0 where
  pub options : PlainOptions
  pub program : List ℕ
