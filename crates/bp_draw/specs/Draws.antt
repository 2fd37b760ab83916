-- What contracts see of a draw.
use Rattle.std.specs.Prelude.{ℕ}

pub record PlainDraw : Type 0 where
  pub seed : ℕ
  pub drawn : ℕ
