-- What an ended b-thread ran and received is read by nobody.
use Rattle.std.specs.Prelude.{◌≡◌, false, List, [], ◌∷◌, Some, map, slice_get, if◌then◌else◌}
use Rattle.bp_run.specs.Configuration.{Thread, Stand}
use Rattle.bp_run.specs.Settling.{Entry, Pair}
use Rattle.bp_run.specs.Settling.Entry.{The_top, Runs, Stops}

-- a b-thread that has ended, with this body in place of its own
abbrev pub forget : {Origin : Type 0} → Origin → Thread Origin → Thread Origin
forget o t = if t.ended then record t { origin = o; replies = [] } else t

abbrev pub forgotten_in : {Origin : Type 0} → Origin → Stand Origin → Stand Origin
forgotten_in o s = record s { threads = map (forget o) s.threads }

abbrev pub forgotten : {Origin : Type 0} → Origin → Pair Origin → Pair Origin
forgotten o p = record p { stand = forgotten_in o p.stand }

-- those that go on have not ended
abbrev pub IsGoing : {O : Type 0} → List (Thread O) → Entry O → Type 0
IsGoing ts The_top = Unit {0}
IsGoing {O} ts (Runs i) = (t : Thread O) → slice_get ts i ≡ Some t → t.ended ≡ false
IsGoing ts (Stops i b) = Unit {0}

abbrev pub AreGoing : {O : Type 0} → List (Thread O) → List (Entry O) → Type 0
AreGoing ts [] = Unit {0}
AreGoing ts (n ∷ ns) = IsGoing ts n × AreGoing ts ns
