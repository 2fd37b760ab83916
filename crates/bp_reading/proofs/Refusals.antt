-- The definitions compute: what is refused, and where; and what the second version says of waiting.
use Rattle.std.proofs.Common.{◌≡◌, ℕ, true, false, List, [], ◌∷◌, ◌++◌, Ok, Err, refl}
use Rattle.std.specs.Prelude.{codes, map}
use Rattle.std.proofs.Math.ListN.{replicate}
use Rattle.js_data.specs.Event.{PlainEvent}
use Rattle.js_data.proofs.Shared.{named}
use Rattle.bp_log.specs.Options.{default_options}
use Rattle.bp_log.specs.declared.version.Version.TheVariants.{First, Second}
use Rattle.bp_log.specs.declared.record.Record.TheVariants.{In, Bad, Eof, Sel, End}
use Rattle.bp_log.specs.declared.verdict.Verdict.TheVariants as verdict
use Rattle.bp_log.specs.Logs.{version_line}
use Rattle.bp_reading.specs.Words.{most_64}
use Rattle.bp_reading.specs.Lines.{record_at}
use Rattle.bp_reading.specs.Heads.{version, header, record_line, cut, line_at, said, field, version_at, strategy_line_at, field_at, program_at, choice_at, limits_at, options_at, wait_line_at, settings_at, body_at, header_at}
use Rattle.bp_reading.specs.Reading.{Stage, first_stage, can_stand, after, found, finished, refused, next_at}

-- ---- the header

abbrev first_line : List ℕ
first_line = version_line First ++ codes "\n"

pub no_first_line : header_at (version_line First) ≡ Err cut
unfolding version_at choice_at options_at settings_at body_at header_at
no_first_line = refl

pub another_version : header_at (codes "bp-log 3\n") ≡ Err version
unfolding version_at choice_at options_at settings_at body_at header_at
another_version = refl

-- as many bytes as a first line may not yet be refused for
pub long_first_line : version_at (replicate 200 120) ≡ Err cut
unfolding version_at
long_first_line = refl

pub unknown_strategy : header_at (first_line ++ codes "strategy fast\n") ≡ Err header
unfolding version_at strategy_line_at choice_at options_at settings_at body_at header_at
unknown_strategy = refl

pub no_strategy : header_at (first_line ++ codes "strategy simple") ≡ Err cut
unfolding version_at strategy_line_at choice_at options_at settings_at body_at header_at
no_strategy = refl

pub seed_of_65_bits : header_at (first_line ++ codes "strategy simple\nseed 18446744073709551616\n") ≡ Err header
unfolding version_at strategy_line_at field_at choice_at options_at settings_at body_at header_at
seed_of_65_bits = refl

pub no_steps : header_at (first_line ++ codes "strategy simple\nseed 0\nbudget 1\nsteps 0\n") ≡ Err header
unfolding version_at strategy_line_at field_at choice_at limits_at options_at settings_at body_at header_at
no_steps = refl

-- a line of nine bytes where six may be
pub too_long_line : said header (field (codes "seed ") 0 most_64) (line_at 6 (codes "seed 1234\n")) ≡ Err header
too_long_line = refl

-- the lines before the program
abbrev head : List ℕ
head = first_line ++ codes "strategy simple\nseed 0\nbudget 1\nsteps 1\ninjectors 0\n"

pub short_program : header_at (head ++ codes "program 3\nx=") ≡ Err cut
unfolding version_at strategy_line_at field_at wait_line_at program_at choice_at limits_at options_at settings_at body_at header_at
short_program = refl

pub nothing_behind_the_program : header_at (head ++ codes "program 3\nx=1") ≡ Err cut
unfolding version_at strategy_line_at field_at wait_line_at program_at choice_at limits_at options_at settings_at body_at header_at
nothing_behind_the_program = refl

pub longer_program : header_at (head ++ codes "program 3\nx=12\n") ≡ Err header
unfolding version_at strategy_line_at field_at wait_line_at program_at choice_at limits_at options_at settings_at body_at header_at
longer_program = refl

-- ---- the second version

abbrev second : List ℕ
second = version_line Second ++ codes "\nstrategy simple\nseed 0\nbudget 1\nsteps 1\ninjectors 0\n"

pub nothing_of_waiting : header_at (second ++ codes "program 0\n\n") ≡ Err header
unfolding version_at strategy_line_at field_at wait_line_at program_at choice_at limits_at options_at settings_at body_at header_at
nothing_of_waiting = refl

pub another_answer : header_at (second ++ codes "wait Yes\n") ≡ Err header
unfolding version_at strategy_line_at field_at wait_line_at choice_at limits_at options_at settings_at body_at header_at
another_answer = refl

pub cut_in_waiting : header_at (second ++ codes "wait yes") ≡ Err cut
unfolding version_at strategy_line_at field_at wait_line_at choice_at limits_at options_at settings_at body_at header_at
cut_in_waiting = refl

-- a run that does not wait
pub waits_for_nobody : header_at (second ++ codes "wait no\nprogram 0\n\nend") ≡ Ok ((Second, record { options = record default_options { budget = 1; steps = 1; wait = false }; program = [] }), codes "end")
unfolding version_at strategy_line_at field_at wait_line_at program_at choice_at limits_at options_at settings_at body_at header_at
waits_for_nobody = refl

-- the first version says nothing of it: its runs wait
pub waits_in_the_first : header_at (head ++ codes "program 0\n\nend") ≡ Ok ((First, record { options = record default_options { budget = 1; steps = 1 }; program = [] }), codes "end")
unfolding version_at strategy_line_at field_at wait_line_at program_at choice_at limits_at options_at settings_at body_at header_at
waits_in_the_first = refl

pub cut_before_waiting : header_at second ≡ Err cut
unfolding version_at strategy_line_at field_at wait_line_at choice_at limits_at options_at settings_at body_at header_at
cut_before_waiting = refl

pub waiting_in_the_first : header_at (head ++ codes "wait yes\n") ≡ Err header
unfolding version_at strategy_line_at field_at wait_line_at choice_at limits_at options_at settings_at body_at header_at
waiting_in_the_first = refl

-- ---- records

-- after two records, of two injectors the second of which has ended
abbrev third : Stage
third = record { version = First; injectors = 2; over = 1 ∷ []; lines = 2; ended = false }

pub record_on_the_third_line : next_at third (codes "eof 0\nend quiet 0\n") ≡ found (Eof 0) (codes "end quiet 0\n")
unfolding record_at next_at
record_on_the_third_line = refl

pub no_record : next_at third (codes "end quit 0\n") ≡ refused (record_line 3)
unfolding record_at next_at
no_record = refl

pub injector_ended_before : next_at third (codes "eof 1\n") ≡ refused (record_line 3)
unfolding record_at next_at
injector_ended_before = refl

pub no_third_record : next_at third [] ≡ refused cut
unfolding next_at
no_third_record = refl

pub third_record_without_line_end : next_at third (codes "eof 0") ≡ refused cut
unfolding record_at next_at
third_record_without_line_end = refl

-- the greatest number of records stood before, and one fewer
pub one_record_too_many : next_at (record third { lines = 2_100_000 }) (codes "eof 0\n") ≡ refused (record_line 2_100_001)
unfolding record_at next_at
one_record_too_many = refl

pub no_room_for_an_end : next_at (record third { lines = 2_100_000 }) [] ≡ refused cut
unfolding next_at
no_room_for_an_end = refl

pub last_record : next_at (record third { lines = 2_099_999 }) (codes "eof 0\n") ≡ found (Eof 0) []
unfolding record_at next_at
last_record = refl

-- the second record was the end
pub good_end : next_at (record third { ended = true }) [] ≡ finished
unfolding next_at
good_end = refl

pub more_behind_the_end : next_at (record third { ended = true }) (codes "e") ≡ refused (record_line 3)
unfolding next_at
more_behind_the_end = refl

-- ---- who can stand, and what is known after a record

abbrev e : PlainEvent
e = named (codes "e")

pub injectors_that_are_read : map (can_stand third) (In 0 e ∷ In 1 e ∷ In 2 e ∷ Bad 0 7 ∷ Bad 1 7 ∷ Bad 2 7 ∷ Eof 0 ∷ Eof 1 ∷ Eof 2 ∷ [])
    ≡ true ∷ false ∷ false ∷ true ∷ false ∷ false ∷ true ∷ false ∷ false ∷ []
injectors_that_are_read = refl

-- an end may name an injector that has ended, and none that is not there
pub injectors_that_are_there : map (can_stand third) (End (verdict.Bad 0 7) ∷ End (verdict.Bad 1 7) ∷ End (verdict.Bad 2 7) ∷ []) ≡ true ∷ true ∷ false ∷ []
injectors_that_are_there = refl

-- `bad` and `eof` end their injectors, each record is one line, and `end` is the last one
pub what_is_known : after (after (after (after (first_stage First 3) (In 0 e)) (Bad 1 7)) (Eof 2)) (Sel e) ≡ record { version = First; injectors = 3; over = 1 ∷ 2 ∷ []; lines = 4; ended = false }
what_is_known = refl

pub what_is_known_at_the_end : after third (End (verdict.Quiet 0)) ≡ record { version = First; injectors = 2; over = 1 ∷ []; lines = 3; ended = true }
what_is_known_at_the_end = refl
