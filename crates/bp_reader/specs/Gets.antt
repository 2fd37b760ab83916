-- What was read of a header.
use Rattle.std.specs.Prelude.{◌≡◌, ℕ, List, Option, Some, None, Result, Ok, Err, IfSome, IsSomeAnd}
use Rattle.bp_reading.specs.Heads.{Refusal, version, header, record_line, cut}
use Rattle.bp_reader.specs.declared.fault.LogFault.{LogFault}
use Rattle.bp_reader.specs.declared.fault.LogFault.TheVariants as fault

-- the refusal that the fault tells; one of reading or memory tells none
abbrev pub refusal_of : LogFault → Option Refusal
refusal_of fault.Version = Some version
refusal_of fault.Header = Some header
refusal_of (fault.Line n) = Some (record_line n)
refusal_of fault.Cut = Some cut
refusal_of fault.Read = None
refusal_of fault.Memory = None

-- the definition refuses what the fault tells
abbrev pub MeansRead : {X : Type 0} → LogFault → Result (X × List ℕ) Refusal → Type 0
MeansRead f read = IfSome (refusal_of f) (λ r. read ≡ Err r)

-- what was answered, seen by view, is what the definition reads
abbrev pub Gets : {A X : Type 0} →
    (A → X) → Result A LogFault → Result (X × List ℕ) Refusal → Option (List ℕ) → Type 0
Gets view (Ok x) read after = IsSomeAnd after (λ rest. read ≡ Ok (view x, rest))
Gets view (Err f) read after = MeansRead f read
