-- Text that is written in pieces.
use Rattle.std.specs.Prelude.{◌≡◌, ℕ, List, ◌++◌, Option}
use Rattle.bp_base.specs.Pieces.{Appends}

-- a front of the text was written, and the rest waits on the page
pub record Shows (before : Option (List ℕ)) (text page : List ℕ) (after : Option (List ℕ))
    : Type 0 where
  pub front : List ℕ
  pub is_text : text ≡ front ++ page
  pub written : Appends before front after

-- the same of a front of the text
pub record ShowsFront (before : Option (List ℕ)) (text page : List ℕ) (after : Option (List ℕ))
    : Type 0 where
  pub shown : List ℕ
  pub rest : List ℕ
  pub is_text : text ≡ shown ++ rest
  pub shows : Shows before shown page after
