-- What is read up to a good end is a log.
use Rattle.std.proofs.Common.{◌≡◌, ◌∙◌, ℕ, ◌<◌, ◌≤◌, ◌^◌, Bool, true, false, List, [], ◌∷◌, length, Option, Some, None, Ok, refl, sym, ap, subst, inl, inr, arith}
use Rattle.std.specs.Prelude.{nat_le, codes}
use Rattle.std.proofs.lemmas.Bool.{leb-true, leb-false}
use Rattle.std.proofs.lemmas.Option.{cond_some, none-some}
use Rattle.js_data.proofs.Shared.{chained}
use Rattle.bp_log.specs.Options.{PlainOptions, AreOptions}
use Rattle.bp_log.specs.Header.{PlainHeader}
use Rattle.bp_log.specs.Logs.{records_text, log_text}
use Rattle.bp_log.specs.declared.limits.TheConstants.{MOST_BYTES, MOST_BUDGET, MOST_STEPS, MOST_INJECTORS}
use Rattle.bp_log.specs.declared.options.Strategy.{Strategy}
use Rattle.bp_log.specs.declared.version.Version.{Version}
use Rattle.bp_log.specs.declared.record.Record.{Record}
use Rattle.bp_reading.specs.declared.limits.TheConstants.{MOST_LINE_BYTES, MOST_RECORDS}
use Rattle.bp_reading.specs.Words.{most_64, number_behind}
use Rattle.bp_reading.specs.Lines.{record_at}
use Rattle.bp_reading.specs.Heads.{whole, line_at, line_room, header, from_least, field, version_at, strategy_line_at, field_at, program_at, choice_at, limits_at, options_at, wait_line_at, settings_at, body_at, header_at}
use Rattle.bp_reading.specs.Reading.{Stage, first_stage, after, can_stand, Says, if_stands, front_at, found, finished, next_at}
use Rattle.bp_reading.specs.Laws.{IsHeader, AreRecords, Stands, ReadLogsAreTexts, LinesAreTexts, Spells}
use Rattle.bp_reading.proofs.Lines.{room_is}
use Rattle.bp_reading.proofs.Back.{record_back}
use Rattle.bp_reading.proofs.Law.{header_then, header_regrouped}
use Rattle.bp_reading.proofs.Again.{chosen, record_again}
use Rattle.bp_reading.proofs.Told.{ok_is, bound, said_parts, program_again, header_again, line_short, goes_on, front_finished, front_found, ends_no_line, many_no_line, records_again, complete_again}
use Rattle.bp_reading.proofs.Ranges.{word_most, record_low}

-- ---- the header

field_fits : (w bytes rest : List ℕ) (least most n : ℕ) → most < 2 ^ 64 → field_at w least most bytes ≡ Ok (n, rest) → (least ≤ n) × (n ≤ most)
unfolding field_at
field_fits w bytes rest least most n small h =
    let p = said_parts header (field w least most) (line_at MOST_LINE_BYTES bytes) n rest h in
    let q = chained (from_least least) (number_behind w most p.0) n p.2 in
    let r = cond_some (nat_le least q.0) q.0 n q.2 in
    subst (λ (m : ℕ). (least ≤ m) × (m ≤ most)) r.1 (leb-true least q.0 r.0, word_most w p.0 most q.0 small q.1)

choice_fits : (bytes rest : List ℕ) (c : Strategy × ℕ) → choice_at bytes ≡ Ok (c, rest) → c.1 < 2 ^ 64
unfolding choice_at
choice_fits bytes rest c h =
    let s = bound (strategy_line_at bytes) _ (c, rest) h in
    let n = bound (field_at (codes "seed ") 0 most_64 s.0.1) _ (c, rest) s.2 in
    let fits = (field_fits (codes "seed ") s.0.1 n.0.1 0 most_64 n.0.0 (omega arith) n.1).1 in
    subst (λ (q : (Strategy × ℕ) × List ℕ). q.0.1 < 2 ^ 64) (ok_is _ _ _ refl n.2) (omega (arith, fits))

limits_fit : (bytes rest : List ℕ) (l : ℕ × ℕ) → limits_at bytes ≡ Ok (l, rest) → ((1 ≤ l.0) × (l.0 ≤ MOST_BUDGET)) × ((1 ≤ l.1) × (l.1 ≤ MOST_STEPS))
unfolding limits_at
limits_fit bytes rest l h =
    let b = bound (field_at (codes "budget ") 1 MOST_BUDGET bytes) _ (l, rest) h in
    let s = bound (field_at (codes "steps ") 1 MOST_STEPS b.0.1) _ (l, rest) b.2 in
    let budget = field_fits (codes "budget ") bytes b.0.1 1 MOST_BUDGET b.0.0 (omega arith) b.1 in
    let steps = field_fits (codes "steps ") b.0.1 s.0.1 1 MOST_STEPS s.0.0 (omega arith) s.1 in
    subst (λ (q : (ℕ × ℕ) × List ℕ). ((1 ≤ q.0.0) × (q.0.0 ≤ MOST_BUDGET)) × ((1 ≤ q.0.1) × (q.0.1 ≤ MOST_STEPS))) (ok_is _ _ _ refl s.2) (budget, steps)

options_fit : (bytes rest : List ℕ) (o : PlainOptions) → options_at bytes ≡ Ok (o, rest) → (o.seed < 2 ^ 64) × AreOptions o
unfolding options_at
options_fit bytes rest o h =
    let c = bound (choice_at bytes) _ (o, rest) h in
    let l = bound (limits_at c.0.1) _ (o, rest) c.2 in
    let i = bound (field_at (codes "injectors ") 0 MOST_INJECTORS l.0.1) _ (o, rest) l.2 in
    let limits = limits_fit c.0.1 l.0.1 l.0.0 l.1 in
    let injectors = field_fits (codes "injectors ") l.0.1 i.0.1 0 MOST_INJECTORS i.0.0 (omega arith) i.1 in
    subst (λ (q : PlainOptions × List ℕ). (q.0.seed < 2 ^ 64) × AreOptions q.0) (ok_is _ _ _ refl i.2) (
      choice_fits bytes c.0.1 c.0.0 c.1,
      record { some_budget = limits.0.0; budget = limits.0.1; some_steps = limits.1.0; steps = limits.1.1; injectors = injectors.1 },
    )

-- options in their ranges, whether the run waits or not
abbrev InRange : PlainOptions → Type 0
InRange o = (o.seed < 2 ^ 64) × AreOptions o

still : (o : PlainOptions) (b : Bool) → InRange o → InRange (record o { wait = b })
still o b h = (h.0, record { some_budget = h.1.some_budget; budget = h.1.budget; some_steps = h.1.some_steps; steps = h.1.steps; injectors = h.1.injectors })

settings_fit : (v : Version) (bytes rest : List ℕ) (o : PlainOptions) → settings_at v bytes ≡ Ok (o, rest) → InRange o
unfolding settings_at
settings_fit v bytes rest o h =
    let p = bound (options_at bytes) _ (o, rest) h in
    let w = bound (wait_line_at v p.0.1) _ (o, rest) p.2 in
    subst (λ (q : PlainOptions × List ℕ). InRange q.0) (ok_is _ _ _ refl w.2) (still p.0.0 w.0.0 (options_fit bytes p.0.1 p.0.0 p.1))

body_fits : (v : Version) (bytes rest : List ℕ) (h : PlainHeader) → body_at v bytes ≡ Ok (h, rest) → IsHeader h
unfolding body_at
body_fits v bytes rest h k =
    let o = bound (settings_at v bytes) _ (h, rest) k in
    let n = bound (field_at (codes "program ") 0 MOST_BYTES o.0.1) _ (h, rest) o.2 in
    let p = bound (program_at n.0.0 n.0.1) _ (h, rest) n.2 in
    let options = settings_fit v bytes o.0.1 o.0.0 o.1 in
    let size = (field_fits (codes "program ") o.0.1 n.0.1 0 MOST_BYTES n.0.0 (omega arith) n.1).1 in
    let length_is = (program_again n.0.0 n.0.1 p.0.0 p.0.1 p.1).0 in
    subst (λ (q : PlainHeader × List ℕ). IsHeader q.0) (ok_is _ _ _ refl p.2) (record { seed = options.0; options = options.1; program = omega (arith, size, length_is) })

pub header_fits : (bytes rest : List ℕ) (v : Version) (h : PlainHeader) → header_at bytes ≡ Ok ((v, h), rest) → IsHeader h
unfolding header_at
header_fits bytes rest v h k =
    let f = bound (version_at bytes) _ ((v, h), rest) k in
    let b = bound (body_at f.0.0 f.0.1) _ ((v, h), rest) f.2 in
    subst (λ (q : (Version × PlainHeader) × List ℕ). IsHeader q.0.1) (ok_is _ _ _ refl b.2) (body_fits f.0.0 f.0.1 b.0.1 b.0.0 b.1)

-- ---- the records

-- a line stands before the end, among not too many, and isn't too long
pub record Room (s : Stage) (line : List ℕ) : Type 0 where
  pub going : s.ended ≡ false
  pub few : s.lines < MOST_RECORDS
  pub short : length line ≤ MOST_LINE_BYTES

front_fits : (s : Stage) (bytes line rest : List ℕ) → front_at s bytes ≡ whole line rest → Room s line
front_fits s bytes line rest h = elim (chosen s.ended _ _ _ h) [
  | inl over ↦ absurd (ends_no_line bytes line rest over.1)
  | inr going ↦ elim (chosen (nat_le MOST_RECORDS s.lines) _ _ _ going.1) [
    | inl full ↦ absurd (many_no_line bytes line rest full.1)
    | inr more ↦ record { going = going.0; few = leb-false MOST_RECORDS s.lines more.0; short = subst (λ (n : ℕ). length line ≤ n) (room_is s.version) (line_short bytes (line_room s.version) line rest more.1) }
  ]
]

is_over : (s : Stage) (bytes : List ℕ) → next_at s bytes ≡ finished → s.ended ≡ true
unfolding next_at
is_over s bytes h = elim (chosen s.ended _ _ _ (front_finished s (front_at s bytes) h)) [
  | inl over ↦ over.0
  | inr going ↦ absurd (goes_on s bytes going.1)
]

-- the record is that of a line
pub found_line : (s : Stage) (bytes rest : List ℕ) (r : Record) → next_at s bytes ≡ found r rest → (line : List ℕ) × Room s line × (record_at line ≡ Some r) × (can_stand s r ≡ true)
unfolding next_at
found_line s bytes rest r h =
    let p = front_found s (front_at s bytes) r rest h in
    let q = chained (if_stands s) (record_at p.0) r p.2 in
    let t = cond_some (can_stand s q.0) q.0 r q.2 in
    (p.0, front_fits s bytes p.0 rest p.1, q.1 ∙ ap (λ (x : Record). Some x) t.1, subst (λ (x : Record). can_stand s x ≡ true) t.1 t.0)

records_stand : (rs : List Record) (s : Stage) (bytes : List ℕ) → Says s bytes rs None → Stands s rs
records_stand [] s bytes h = is_over s bytes h
records_stand (r ∷ rs) s bytes h =
    let p = found_line s bytes h.0 r h.1 in
    let short = subst (λ (l : List ℕ). length l ≤ MOST_LINE_BYTES) (record_again p.0 r p.2) p.1.short in
    (p.1.going, p.1.few, p.3, short, records_stand rs (after s r) h.0 h.2)

records_low : (rs : List Record) (s : Stage) (bytes : List ℕ) → Says s bytes rs None → AreRecords rs
records_low [] s bytes h = tt
records_low (r ∷ rs) s bytes h =
    let p = found_line s bytes h.0 r h.1 in
    (record_low p.0 r p.2, records_low rs (after s r) h.0 h.2)

-- ---- the laws

pub read_logs_are_texts : ReadLogsAreTexts
unfolding log_text
read_logs_are_texts bytes rest v h rs k l =
    let s = first_stage v h.options.injectors in
    let said = header_again bytes rest v h k in
    record {
      text = said.0 ∙ ap (header_then v h) (records_again rs s rest l) ∙ sym (header_regrouped v h (records_text rs));
      version = said.1;
      complete = complete_again rs s rest refl l;
      header = header_fits bytes rest v h k;
      records = records_low rs s rest l;
      stands = records_stand rs s rest l;
    }

spelled : (line : List ℕ) (o : Option Record) → record_at line ≡ o → Spells line o
spelled line (Some r) h = (record_low line r h, record_again line r h)
spelled line None h = λ r k e. none-some _ (sym h ∙ ap record_at e ∙ record_back r k)

pub lines_are_texts : LinesAreTexts
lines_are_texts line = spelled line (record_at line) refl
