-- Words with commas between.
use Rattle.std.specs.Prelude.{ℕ, Bool, true, false, List, [], ◌∷◌, ◌++◌, codes}

abbrev pub comma : Bool → List ℕ
comma false = []
comma true = codes ", "

-- a comma stands before the first where something stands before it
abbrev pub listed_from : {A : Type 0} → Bool → (A → List ℕ) → List A → List ℕ
listed_from later text [] = []
listed_from later text (x ∷ xs) = comma later ++ (text x ++ listed_from true text xs)

abbrev pub listed : {A : Type 0} → (A → List ℕ) → List A → List ℕ
listed text xs = listed_from false text xs
