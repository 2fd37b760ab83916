-- Watching, from one look to the next.
use Rattle.std.specs.Prelude.{ℕ, Bool, false, List, Option}
use Rattle.bp_view.specs.declared.summary.Summary.{Summary}
use Rattle.bp_view.specs.declared.watching.LineFault.{LineFault}
use Rattle.bp_view.specs.declared.watching.LineFault.TheVariants as fault
use Rattle.bp_view.specs.declared.watching.Watched.{Watched}
use Rattle.bp_view.specs.declared.watching.Watched.TheVariants.{Write, Memory}
use Rattle.bp_view.specs.Watching.{IsWatched, EndsWatching}

-- how watching ends where a line was not written
abbrev pub broken_by : LineFault → Watched
broken_by fault.Write = Write
broken_by fault.Memory = Memory

-- what was watched so far is watched on, with what is seen and written now
abbrev pub WatchesOn : List Summary → Option (List ℕ) → List Summary → Option (List ℕ) → Bool → Type 0
WatchesOn seen old now new over =
    (first : Summary) (before : Option (List ℕ))
    → IsWatched first seen false before old → IsWatched first now over before new

-- and ends so where a line was not written
abbrev pub BreaksWatching : List Summary → Option (List ℕ) → List Summary → Option (List ℕ) →
    LineFault → Type 0
BreaksWatching seen old now new f =
    (first : Summary) (before : Option (List ℕ))
    → IsWatched first seen false before old → EndsWatching first now before new (broken_by f)
