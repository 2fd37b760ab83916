-- Each form of a line, of a verdict and of a record, as text.
use Rattle.std.proofs.Common.{◌≡◌, ℕ, true, false, List, [], ◌∷◌, ◌++◌, refl}
use Rattle.std.specs.Prelude.{Some, None, codes, map}
use Rattle.std.specs.Fmt.{digits}
use Rattle.js_data.specs.Event.{PlainEvent}
use Rattle.js_data.specs.declared.fault.Fault.TheVariants.{Mistyped}
use Rattle.bp_log.specs.Options.{default_options}
use Rattle.bp_log.specs.declared.version.Version.TheVariants.{First, Second}
use Rattle.bp_log.specs.declared.record.Record.TheVariants.{In, Bad, Eof, Sel, End}
use Rattle.bp_log.specs.declared.trace.Line.TheVariants as line
use Rattle.bp_log.specs.declared.verdict.Place.TheVariants.{Top, Thread}
use Rattle.bp_log.specs.declared.verdict.Verdict.TheVariants as verdict
use Rattle.bp_log.specs.Texts.{line_text, lines_text}
use Rattle.bp_log.specs.Logs.{record_text, records_text, version_of, wait_at, log_text}

abbrev x : PlainEvent
x = record { name = codes "x"; extra = None }

-- a quote, a backslash, a line feed, a control character and a letter of two bytes
abbrev odd : List ℕ
odd = codes "a\"\\" ++ 10 ∷ 1 ∷ 195 ∷ 164 ∷ []

abbrev odd_text : List ℕ
odd_text = codes "\"a\\\"\\\\\\n\\u0001" ++ 195 ∷ 164 ∷ codes "\""

pub transitions_as_text : lines_text (line.Event x ∷ line.External x ∷ []) ≡ codes "event [\"x\"]\nexternal [\"x\"]\n"
unfolding lines_text line_text
transitions_as_text = refl

pub bodies_as_text :
    lines_text (line.Log Top (codes "t") ∷ line.Log (Thread (codes "A")) (codes "u") ∷ line.Done (codes "A") ∷ line.Interrupted (codes "B") ∷ [])
    ≡ codes "log top \"t\"\nlog \"A\" \"u\"\ndone \"A\"\ninterrupted \"B\"\n"
unfolding lines_text line_text
bodies_as_text = refl

pub names_are_quoted : line_text (line.Log (Thread odd) odd) ≡ codes "log " ++ odd_text ++ codes " " ++ odd_text
unfolding line_text
names_are_quoted = refl

pub ends_as_text :
    lines_text (line.Verdict (verdict.Quiet 7) ∷ line.Verdict (verdict.Steps 10) ∷ line.Verdict (verdict.Bad 3 12) ∷ [])
    ≡ codes "verdict quiet 7\nverdict limit steps 10\nverdict bad 3 12\n"
unfolding lines_text line_text digits
ends_as_text = refl

pub failures_as_text :
    lines_text (line.Verdict (verdict.Violated (Thread (codes "A")) (codes "m")) ∷ line.Verdict (verdict.Fault Top 4 Mistyped) ∷ line.Verdict (verdict.Spent (Thread (codes "A"))) ∷ [])
    ≡ codes "verdict violated \"A\" \"m\"\nverdict fault top 4 type\nverdict spent \"A\"\n"
unfolding lines_text line_text digits
failures_as_text = refl

pub limits_as_text :
    lines_text (line.Verdict verdict.Queue ∷ line.Verdict verdict.Threads ∷ line.Verdict verdict.Weight ∷ [])
    ≡ codes "verdict limit queue 16384\nverdict limit bthreads 4096\nverdict limit weight 16777216\n"
unfolding lines_text line_text digits
limits_as_text = refl

pub records_as_text :
    records_text (In 0 x ∷ Bad 1 3 ∷ Eof 2 ∷ Sel x ∷ End (verdict.Quiet 2) ∷ [])
    ≡ codes "in 0 [\"x\"]\nbad 1 3\neof 2\nsel [\"x\"]\nend quiet 2\n"
unfolding record_text records_text digits
records_as_text = refl

pub log_as_text :
    log_text Second (record { options = record default_options { injectors = 1 }; program = codes "let a = 1\n" }) (Eof 0 ∷ End (verdict.Quiet 0) ∷ [])
    ≡ codes "bp-log 2\nstrategy simple\nseed 0\nbudget 1000000\nsteps 100000\ninjectors 1\nwait yes\nprogram 10\nlet a = 1\n\neof 0\nend quiet 0\n"
unfolding record_text records_text log_text digits
log_as_text = refl

pub first_log_as_text :
    log_text First (record { options = record default_options { injectors = 1 }; program = codes "let a = 1\n" }) (Eof 0 ∷ End (verdict.Quiet 0) ∷ [])
    ≡ codes "bp-log 1\nstrategy simple\nseed 0\nbudget 1000000\nsteps 100000\ninjectors 1\nprogram 10\nlet a = 1\n\neof 0\nend quiet 0\n"
unfolding record_text records_text log_text digits
first_log_as_text = refl

pub log_of_a_run_that_does_not_wait :
    log_text Second (record { options = record default_options { wait = false }; program = [] }) (End (verdict.Quiet 0) ∷ [])
    ≡ codes "bp-log 2\nstrategy simple\nseed 0\nbudget 1000000\nsteps 100000\ninjectors 0\nwait no\nprogram 0\n\nend quiet 0\n"
unfolding record_text records_text log_text digits
log_of_a_run_that_does_not_wait = refl

pub versions_of_lines :
    map version_of (codes "bp-log 1" ∷ codes "bp-log 2" ∷ codes "bp-log 3" ∷ codes "bp-log 22" ∷ [])
    ≡ Some First ∷ Some Second ∷ None ∷ None ∷ []
versions_of_lines = refl

pub waits_of_names : map wait_at (codes "yes" ∷ codes "no" ∷ codes "Yes" ∷ [] ∷ []) ≡ Some true ∷ Some false ∷ None ∷ None ∷ []
waits_of_names = refl
