-- Bytes that are not an accepted program.
use Rattle.std.specs.Prelude.{ℕ, ◌<◌, List, length, Option}
use Rattle.bp_base.specs.Worlds.{Holdings}
use Rattle.bp_log.specs.declared.limits.TheConstants.{MOST_BYTES}
use Rattle.bp_script.specs.declared.reading.ScriptFault.{ScriptFault}
use Rattle.bp_loading.specs.declared.unloaded.Unloaded.{Unloaded}
use Rattle.bp_loading.specs.declared.unloaded.Unloaded.TheVariants.{Refused, NoMemory}
use Rattle.bp_loading.specs.Loading.{IsUnder}

-- the program of that name is too long
abbrev pub IsTooLong : Option Holdings → List ℕ → Type 0
IsTooLong holds name = (bytes : List ℕ) × IsUnder holds name bytes × (MOST_BYTES < length bytes)

-- why a program is not loaded that is not accepted
abbrev pub unaccepted_as : ScriptFault → Unloaded
unaccepted_as (ScriptFault.Refused refusal) = Refused refusal
unaccepted_as ScriptFault.Memory = NoMemory
