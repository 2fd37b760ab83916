-- A log that is kept, or none.
use Rattle.std.specs.Prelude.{◌≡◌, ℕ, ◌≤◌, List, ◌++◌, Option, Some, None, IsSomeAnd}
use Rattle.bp_base.specs.Counts.{Rose}
use Rattle.bp_base.specs.Pieces.{Appends, AppendsFront}
use Rattle.bp_told.specs.Pages.{Shows, ShowsFront}

-- there is a log before and after, and R of the two; or there is none
abbrev pub OfLog : {L : Type 0} → (L → L → Type 0) → Option L → Option L → Type 0
OfLog R None None = Unit {0}
OfLog R (Some before) (Some after) = R before after
OfLog R None (Some after) = ⊥
OfLog R (Some before) None = ⊥

-- the log got the text
abbrev pub LogGets : {L : Type 0} → (L → Option (List ℕ)) → Option L → List ℕ → Option L → Type 0
LogGets written before text after = OfLog (λ l m. Appends (written l) text (written m)) before after

-- the log got a front of the text
abbrev pub LogGetsFront : {L : Type 0} → (L → Option (List ℕ)) → Option L → List ℕ → Option L → Type 0
LogGetsFront written before text after =
    OfLog (λ l m. AppendsFront (written l) text (written m)) before after

-- the log got the text, and maybe more after it
abbrev pub LogHolds : {L : Type 0} → (L → Option (List ℕ)) → Option L → List ℕ → Option L → Type 0
LogHolds written before text after =
    OfLog (λ l m. (more : List ℕ) × Appends (written l) (text ++ more) (written m)) before after

-- the log got a front of the text, and the rest waits on the page
abbrev pub LogShows : {L : Type 0} → (L → Option (List ℕ)) → Option L → List ℕ → List ℕ → Option L
    → Type 0
LogShows written before text page after =
    OfLog (λ l m. Shows (written l) text page (written m)) before after

-- the log got the text, or it waits on the page, and maybe more after it
abbrev pub LogWaits : {L : Type 0} → (L → Option (List ℕ)) → Option L → List ℕ → List ℕ → Option L
    → Type 0
LogWaits written before text page after =
    OfLog (λ l m. (more : List ℕ) × Shows (written l) (text ++ more) page (written m)) before after

-- the same of a front of the text
abbrev pub LogShowsFront : {L : Type 0} → (L → Option (List ℕ)) → Option L → List ℕ → List ℕ → Option L
    → Type 0
LogShowsFront written before text page after =
    OfLog (λ l m. ShowsFront (written l) text page (written m)) before after

-- there is a log, and it failed
abbrev pub LogFails : {L : Type 0} → (L → ℕ) → Option L → Option L → Type 0
LogFails faults before after = IsSomeAnd before (λ l. IsSomeAnd after (λ m. Rose (faults l) (faults m)))

-- the log keeps its name, and its count of faults never falls
abbrev pub LogStays : {L : Type 0} → (L → Option (List ℕ)) → (L → ℕ) → Option L → Option L → Type 0
LogStays made_as faults before after =
    OfLog (λ l m. (made_as m ≡ made_as l) × (faults l ≤ faults m)) before after
