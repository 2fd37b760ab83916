-- Programs that are not loaded.
use Rattle.std.proofs.Common.{◌≡◌, ℕ, zero, suc, ◌<◌, List, [], ◌∷◌, length, sym, subst, arith}
use Rattle.std.specs.Prelude.{Option, Some, None, IsSome, IfSome}
use Rattle.bp_base.specs.Worlds.{Holdings, Opens}
use Rattle.bp_log.specs.declared.limits.TheConstants.{MOST_BYTES}
use Rattle.bp_script.specs.Faults.{IsScriptFault}
use Rattle.bp_script.specs.declared.reading.ScriptFault.{ScriptFault}
use Rattle.bp_loading.specs.declared.unloaded.Unloaded.{Unloaded}
use Rattle.bp_loading.specs.declared.unloaded.Unloaded.TheVariants.{NotRead}
use Rattle.bp_loading.specs.Loading.{IsUnder, IsTooLong, IsUnloaded}
use Rattle.bp_loading.specs.inner.Unaccepted.{unaccepted_as}

longer : (n : ℕ) → (bytes : List ℕ) × (n < length bytes)
longer zero = (0 ∷ [], omega arith)
longer (suc n) = let l = longer n in let h = l.1 in (0 ∷ l.0, omega (arith, h))

-- what is left of an input that is too long is what the world holds
pub too_long : (holds : Option Holdings) (name : List ℕ) (left : Option (List ℕ)) (limit : ℕ) → Opens holds name left →
    limit ≡ MOST_BYTES → IfSome left (λ bytes. limit < length bytes) → IsTooLong holds name
too_long None name left limit o e h = let l = longer MOST_BYTES in (l.0, tt, l.1)
too_long (Some held) name (Some bytes) limit o e h = (bytes, sym o.1, subst (λ (n : ℕ). n < length bytes) e h)
too_long (Some held) name None limit o e h =
    let f : IsSome {T = List ℕ} None = subst (λ (x : Option (List ℕ)). IsSome x) (sym o.1) o.0 in cc

-- why a program is not accepted
pub unloaded_fault : (holds : Option Holdings) (name bytes : List ℕ) (fault : ScriptFault) (u : Unloaded) → u ≡ unaccepted_as fault → IsUnder holds name bytes → IsScriptFault bytes fault → IsUnloaded holds name u
unloaded_fault holds name bytes (ScriptFault.Refused refusal) u e under f = subst (λ (x : Unloaded). IsUnloaded holds name x) (sym e) (bytes, under, f)
unloaded_fault holds name bytes ScriptFault.Memory u e under f = subst (λ (x : Unloaded). IsUnloaded holds name x) (sym e) tt

-- that is a refusal or out of memory
pub fault_read : (fault : ScriptFault) (u : Unloaded) → u ≡ unaccepted_as fault → u ≡ NotRead → ⊥
fault_read (ScriptFault.Refused refusal) u e n = cc
fault_read ScriptFault.Memory u e n = cc
