-- What a b-thread stated, as the definitions see it of a live one.
use Rattle.std.specs.Borrow.{Bor}
use Rattle.js_value.specs.Value.{PlainSet}
use Rattle.bp_run.specs.Selecting.{Live}
use Rattle.bp_thread.specs.Views.{plain_statement}
use Rattle.bp_live.specs.declared.stated.Stated.{Stated}

abbrev pub live_of : Stated → Live PlainSet
live_of s = record { number = s.number; statement = plain_statement s.statement }

-- one that is lent
abbrev pub lent : Bor Stated → Live PlainSet
lent s = live_of s.now
