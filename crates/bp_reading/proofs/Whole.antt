-- A log's text is read as its header and its records.
use Rattle.std.proofs.Common.{Bool, sym, ◌≡◌, ℕ, ◌<◌, ◌≤◌, ◌^◌, true, false, List, [], ◌∷◌, ◌++◌, length, Some, None, Ok, refl, ap, ◌∙◌, arith, append_assoc, inl, inr, length-append}
use Rattle.std.specs.Prelude.{decimal, codes}
use Rattle.std.proofs.lemmas.Bool.{lt-leb, le-leb}
use Rattle.std.proofs.lemmas.Bool.Decides.{eqb_tells}
use Rattle.std.proofs.lemmas.Fmt.{length-decimal-le}
use Rattle.bp_log.specs.Options.{PlainOptions, AreOptions}
use Rattle.bp_log.specs.Header.{PlainHeader}
use Rattle.bp_log.specs.Logs.{record_text, records_text, log_text, strategy_name, version_line, wait_name, can_say}
use Rattle.bp_log.specs.declared.version.Version.{Version}
use Rattle.bp_log.specs.declared.version.Version.TheVariants.{First, Second}
use Rattle.bp_log.specs.declared.limits.TheConstants.{MOST_BYTES, MOST_BUDGET, MOST_STEPS, MOST_INJECTORS}
use Rattle.bp_log.specs.declared.options.Strategy.{Strategy}
use Rattle.bp_log.specs.declared.options.Strategy.TheVariants.{Simple, Ordered, Priority}
use Rattle.bp_log.specs.declared.record.Record.{Record}
use Rattle.bp_reading.specs.declared.limits.TheConstants.{MOST_LINE_BYTES, MOST_RECORDS}
use Rattle.bp_reading.specs.Words.{most_64, behind}
use Rattle.bp_reading.specs.Heads.{◌>>=◌, version_at, strategy_line_at, field_at, program_at, choice_at, limits_at, options_at, wait_line_at, settings_at, body_at, header_at}
use Rattle.bp_reading.specs.Reading.{Stage, first_stage, after, can_stand, Says, next_at, found, finished}
use Rattle.bp_reading.specs.Laws.{IsHeader, IsRecord, AreRecords, Stands, LogsAreRead}
use Rattle.bp_reading.proofs.Lines.{lacks, lacks-append, line_is, room_is}
use Rattle.bp_reading.proofs.Numbers.{number_back, lacks-decimal}
use Rattle.bp_reading.proofs.Spelled.{options_then}
use Rattle.bp_reading.proofs.Texts.{lacks-record}
use Rattle.bp_reading.proofs.Law.{regrouped, header_then, header_regrouped, wait_then, body_then}
use Rattle.bp_reading.proofs.Back.{record_back}

pub next_back : (s : Stage) (r : Record) (rest : List ℕ) → IsRecord r → s.ended ≡ false → s.lines < MOST_RECORDS → can_stand s r ≡ true → length (record_text r) ≤ MOST_LINE_BYTES → next_at s (record_text r ++ 10 ∷ rest) ≡ found r rest
unfolding next_at
next_back s r rest h going few can short =
    rw (going, lt-leb MOST_RECORDS s.lines few, room_is s.version, line_is MOST_LINE_BYTES (record_text r) rest (lacks-record r h) short, record_back r h, can) refl

end_back : (s : Stage) → s.ended ≡ true → next_at s [] ≡ finished
unfolding next_at
end_back s e = rw e refl

pub records_back : (rs : List Record) (s : Stage) → AreRecords rs → Stands s rs → Says s (records_text rs) rs None
unfolding records_text
records_back [] s h k = end_back s k
records_back (r ∷ rs) s h k =
    (records_text rs, ap (next_at s) (regrouped r rs) ∙ next_back s r (records_text rs) h.0 k.0 k.1 k.2 k.3, records_back rs (after s r) h.1 k.4)

behind_is : (w x : List ℕ) → behind w (w ++ x) ≡ Some x
behind_is [] x = refl
behind_is (c ∷ w) x = elim (eqb_tells c c) [ inl same ↦ rw same.0 (behind_is w x) | inr other ↦ absurd (other.1 refl) ]

version_back : (v : Version) (rest : List ℕ) → version_at (version_line v ++ 10 ∷ rest) ≡ Ok (v, rest)
unfolding version_at
version_back First rest = refl
version_back Second rest = refl

wait_back : (b : Bool) (rest : List ℕ) → wait_line_at Second (codes "wait " ++ (wait_name b ++ 10 ∷ rest)) ≡ Ok (b, rest)
unfolding wait_line_at
wait_back true rest = refl
wait_back false rest = refl

strategy_back : (s : Strategy) (rest : List ℕ) → strategy_line_at (codes "strategy " ++ (strategy_name s ++ 10 ∷ rest)) ≡ Ok (s, rest)
unfolding strategy_line_at
strategy_back Simple rest = refl
strategy_back Ordered rest = refl
strategy_back Priority rest = refl

field_back : (w : List ℕ) (least most n : ℕ) (rest : List ℕ) → lacks 10 w ≡ true → length w ≤ 20 → most < 2 ^ 64 → least ≤ n → n ≤ most → field_at w least most (w ++ (decimal n ++ 10 ∷ rest)) ≡ Ok (n, rest)
unfolding field_at
field_back w least most n rest h short small low fits =
    let some : length (decimal n) ≤ 20 = length-decimal-le 20 n (omega arith) (omega (arith, small, fits)) (omega (arith, small, fits)) in
    rw (← append_assoc w (decimal n) (10 ∷ rest), line_is MOST_LINE_BYTES (w ++ decimal n) rest (lacks-append 10 w (decimal n) h (lacks-decimal 10 (omega arith) n (omega (arith, small, fits)))) (omega (arith, length-append w (decimal n), short, some)), behind_is w (decimal n), number_back most n small fits, le-leb least n low) refl

pub program_back : (p rest : List ℕ) → program_at (length p) (p ++ 10 ∷ rest) ≡ Ok (p, rest)
unfolding program_at
program_back [] rest = refl
program_back (b ∷ p) rest = ap (λ r. r >>= λ q. Ok (b ∷ q.0, q.1)) (program_back p rest)

options_back : (o : PlainOptions) (rest : List ℕ) → o.seed < 2 ^ 64 → AreOptions o → options_at (options_then o (10 ∷ rest)) ≡ Ok (record o { wait = true }, rest)
unfolding options_at choice_at limits_at options_then
options_back o rest small k =
    rw (
      strategy_back o.strategy _,
      field_back (codes "seed ") 0 most_64 o.seed _ refl (omega arith) (omega arith) (omega arith) (omega (arith, small)),
      field_back (codes "budget ") 1 MOST_BUDGET o.budget _ refl (omega arith) (omega arith) k.some_budget k.budget,
      field_back (codes "steps ") 1 MOST_STEPS o.steps _ refl (omega arith) (omega arith) k.some_steps k.steps,
      field_back (codes "injectors ") 0 MOST_INJECTORS o.injectors _ refl (omega arith) (omega arith) (omega arith) k.injectors,
    ) refl

settings_back : (v : Version) (h : PlainHeader) (rest : List ℕ) → IsHeader h → can_say v h.options.wait ≡ true
    → settings_at v (options_then h.options (wait_then v h.options.wait (10 ∷ rest))) ≡ Ok (h.options, rest)
unfolding settings_at wait_line_at
settings_back First h rest k m =
    rw (options_back h.options rest k.seed k.options) (ap (λ (b : Bool). Ok (record h.options { wait = b }, rest)) (sym m))
settings_back Second h rest k m =
    rw (options_back h.options (codes "wait " ++ (wait_name h.options.wait ++ 10 ∷ rest)) k.seed k.options, wait_back h.options.wait rest) refl

body_back : (v : Version) (h : PlainHeader) (rest : List ℕ) → IsHeader h → can_say v h.options.wait ≡ true → body_at v (body_then v h rest) ≡ Ok (h, rest)
unfolding body_at
body_back v h rest k m =
    rw (
      settings_back v h _ k m,
      field_back (codes "program ") 0 MOST_BYTES (length h.program) _ refl (omega arith) (omega arith) (omega arith) k.program,
      program_back h.program rest,
    ) refl

header_back : (v : Version) (h : PlainHeader) (rest : List ℕ) → IsHeader h → can_say v h.options.wait ≡ true → header_at (header_then v h rest) ≡ Ok ((v, h), rest)
unfolding header_at header_then
header_back v h rest k m = rw (version_back v _, body_back v h rest k m) refl

pub logs_are_read : LogsAreRead
unfolding log_text
logs_are_read v h rs k l m n = (ap header_at (header_regrouped v h (records_text rs)) ∙ header_back v h (records_text rs) k m, records_back rs (first_stage v h.options.injectors) l n)
