-- What the records of a run say of its injectors.
use Rattle.std.specs.Prelude.{ℕ, Bool, true, false, nat_eq, List}
use Rattle.std.specs.List.{list_any}
use Rattle.bp_log.specs.declared.record.Record.{Record}
use Rattle.bp_log.specs.declared.record.Record.TheVariants.{In, Bad, Eof, Sel, End}

-- nothing of the injector comes after it: that it ended, or its bad line
abbrev pub is_last_of : ℕ → Record → Bool
is_last_of j (In k e) = false
is_last_of j (Bad k n) = nat_eq j k
is_last_of j (Eof k) = nat_eq j k
is_last_of j (Sel e) = false
is_last_of j (End v) = false

-- the last of the injector is among the records
abbrev pub has_last_of : ℕ → List Record → Bool
has_last_of j records = list_any (is_last_of j) records

abbrev pub is_bad : Record → Bool
is_bad (In j e) = false
is_bad (Bad j n) = true
is_bad (Eof j) = false
is_bad (Sel e) = false
is_bad (End v) = false

-- some injector's bad line is among the records
abbrev pub has_bad : List Record → Bool
has_bad records = list_any is_bad records
