-- What requests ask of the world, computed.
use Rattle.std.proofs.Common.{◌≡◌, ℕ, List, [], ◌∷◌, Option, Some, None, refl}
use Rattle.std.specs.Prelude.{codes, option_and_then}
use Rattle.bpx_cli.specs.Requests.{request_of}
use Rattle.bpx_cli.specs.Asking.{name_of, WasAskedFor}

abbrev p : List ℕ
p = codes "p"

-- the name that words ask for
abbrev name_in : List (List ℕ) → Option (List ℕ)
name_in words = option_and_then name_of (request_of words)

pub check : name_in (codes "check" ∷ p ∷ []) ≡ Some p
check = refl

pub state : name_in (codes "state" ∷ p ∷ codes "3" ∷ []) ≡ Some p
state = refl

pub why : name_in (codes "why" ∷ p ∷ codes "1" ∷ []) ≡ Some p
why = refl

pub seeds : name_in (codes "seeds" ∷ p ∷ codes "0" ∷ codes "9" ∷ []) ≡ Some p
seeds = refl

pub help : name_in (codes "--help" ∷ []) ≡ None
help = refl

pub no_command : name_in (codes "run" ∷ p ∷ []) ≡ None
no_command = refl

pub once : WasAskedFor (Some p) (Some (codes "q" ∷ [])) (Some (codes "q" ∷ p ∷ []))
once = refl

pub never_twice : WasAskedFor (Some p) (Some []) (Some (p ∷ p ∷ [])) → ⊥
never_twice e = cc

pub no_other : WasAskedFor (Some p) (Some []) (Some (codes "pq" ∷ [])) → ⊥
no_other e = cc

pub never_without_a_name : WasAskedFor None (Some []) (Some (p ∷ [])) → ⊥
never_without_a_name e = cc
