-- Programs that are loaded, or not.
use Rattle.std.proofs.Common.{◌≡◌, ℕ, List, Option, refl, subst, sym}
use Rattle.bp_base.specs.Worlds.{Holdings}
use Rattle.js_program.specs.PlainProgram.{PlainProgram}
use Rattle.bp_script.specs.Programs.{IsProgram}
use Rattle.bp_loading.specs.Loading.{IsUnder, IsUnloaded as IsNotLoaded}
use Rattle.bp_loading.specs.declared.unloaded.Unloaded.{Unloaded}
use Rattle.bp_loading.specs.declared.unloaded.Unloaded.TheVariants as unloaded
use Rattle.bpx_cli.specs.declared.ended.Ended.{Ended}
use Rattle.bpx_cli.specs.declared.ended.Ended.TheVariants.{NotRead}
use Rattle.bpx_cli.specs.Answers.{IsProgramOf, IsUnloaded}
use Rattle.bpx_cli.specs.inner.Ends.{unloaded_of}

-- what was loaded under a name that is this one
pub loaded_of : (holds : Option Holdings) (name said bytes : List ℕ) (program : PlainProgram) → said ≡ name → IsUnder holds said bytes → IsProgram bytes program → IsProgramOf holds name program
loaded_of holds name said bytes program e u p =
    record { bytes = bytes; under = subst (λ (n : List ℕ). IsUnder holds n bytes) e u; accepted = p }

-- nothing was
unloaded_so : (holds : Option Holdings) (name said : List ℕ) (why : Unloaded) → said ≡ name → IsNotLoaded holds said why → IsUnloaded holds name (unloaded_of why)
unloaded_so holds name said (unloaded.Refused refusal) e u = (u.0, subst (λ (n : List ℕ). IsUnder holds n u.0) e u.1, u.2)
unloaded_so holds name said unloaded.NotRead e u = tt
unloaded_so holds name said unloaded.NoMemory e u = tt

pub is_unloaded : (holds : Option Holdings) (name said : List ℕ) (why : Unloaded) (end : Ended) → said ≡ name → IsNotLoaded holds said why → end ≡ unloaded_of why → IsUnloaded holds name end
is_unloaded holds name said why end e u k = subst (λ (x : Ended). IsUnloaded holds name x) (sym k) (unloaded_so holds name said why e u)

-- a command ends with a fault of reading only where that was the reason
pub not_read : (why : Unloaded) (end : Ended) → end ≡ unloaded_of why → end ≡ NotRead → why ≡ unloaded.NotRead
not_read (unloaded.Refused refusal) end e k = let f : ⊥ = cc in absurd f
not_read unloaded.NotRead end e k = refl
not_read unloaded.NoMemory end e k = let f : ⊥ = cc in absurd f
