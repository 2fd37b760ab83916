-- Verdicts in which no text is longer than a value may be.
use Rattle.std.proofs.Common.{◌≡◌, ℕ, ◌<◌, true, refl}
use Rattle.std.proofs.lemmas.Bool.{lt-ltb}
use Rattle.bp_log.specs.declared.verdict.Place.{Place}
use Rattle.bp_log.specs.declared.verdict.Place.TheVariants.{Top, Thread}
use Rattle.bp_log.specs.declared.verdict.Verdict.{Verdict}
use Rattle.bp_log.specs.declared.verdict.Verdict.TheVariants as verdict
use Rattle.bp_reading.specs.Reading.{Stage, is_known}
use Rattle.bp_records.proofs.Short.{IsShortText}

abbrev pub IsShortPlace : Place → Type 0
IsShortPlace Top = Unit {0}
IsShortPlace (Thread name) = IsShortText name

-- of a run with this many injectors
abbrev pub IsShortVerdict : ℕ → Verdict → Type 0
IsShortVerdict most (verdict.Violated place t) = IsShortPlace place × IsShortText t
IsShortVerdict most (verdict.Fault place line f) = IsShortPlace place
IsShortVerdict most (verdict.Spent place) = IsShortPlace place
IsShortVerdict most (verdict.Bad j line) = j < most
IsShortVerdict most _ = Unit {0}

pub short_known : (s : Stage) (v : Verdict) → IsShortVerdict s.injectors v → is_known s v ≡ true
short_known s (verdict.Bad j line) h = lt-ltb j s.injectors h
short_known s _ h = refl
