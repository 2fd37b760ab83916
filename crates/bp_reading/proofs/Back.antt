-- The record of a record's text is that record.
use Rattle.std.proofs.Common.{◌≡◌, ℕ, ◌<◌, ◌^◌, true, List, [], ◌∷◌, ◌++◌, Option, Some, None, option_map, option_and_then, refl, sym, ap, ◌∙◌, arith, append-nil, subst}
use Rattle.std.specs.Prelude.{decimal}
use Rattle.std.specs.Str.{is_utf8, IsUtf8}
use Rattle.std.proofs.lemmas.Str.{IsUtf8-from_is_utf8, is_utf8-from_IsUtf8}
use Rattle.std.proofs.lemmas.Slice.Eq.{bytes_eq-Decides}
use Rattle.json.specs.Json as source
use Rattle.json.specs.Print.{print, print_from, quoted}
use Rattle.json.specs.Tree.{json_tokens}
use Rattle.json.proofs.Printed.Utf8.{IsUtf8-quoted}
use Rattle.serde_json.specs.Data as json
use Rattle.serde_json.specs.Read.{read}
use Rattle.js_data.specs.Event.{PlainEvent, IsEvent}
use Rattle.js_data.specs.JsonText.{event_text, quoted_text}
use Rattle.js_json.proofs.Law.{event_back, read_print}
use Rattle.js_json.proofs.Escapes.{quoted_is}
use Rattle.std.specs.Option.{option_or}
use Rattle.js_data.specs.Faults.{fault_name}
use Rattle.js_data.specs.declared.fault.Fault.{Fault}
use Rattle.js_data.specs.declared.fault.Fault.TheVariants as fault
use Rattle.bp_log.specs.Texts.{place_text}
use Rattle.bp_log.specs.Logs.{record_text}
use Rattle.bp_log.specs.declared.record.Record.{Record}
use Rattle.bp_log.specs.declared.record.Record.TheVariants.{In, Bad, Eof, Sel, End}
use Rattle.bp_log.specs.declared.verdict.Place.{Place}
use Rattle.bp_log.specs.declared.verdict.Place.TheVariants.{Top, Thread}
use Rattle.bp_log.specs.declared.verdict.Verdict.{Verdict}
use Rattle.bp_log.specs.declared.verdict.Verdict.TheVariants as verdict
use Rattle.bp_reading.specs.Words.{text_at, compact_event_at, number_at, numbers_at, most_32}
use Rattle.bp_reading.specs.Lines.{place_at, said_at, fault_at, kind_at, blamed_at, spent_by, verdict_at, handed_at, record_at}
use Rattle.bp_log.specs.Verdicts.{IsPlace, IsVerdict}
use Rattle.bp_reading.specs.Laws.{IsRecord}
use Rattle.bp_reading.proofs.Spelled.{spelled_verdict, spelled_record, record_is}
use Rattle.bp_reading.proofs.Lines.{around_is}
use Rattle.bp_reading.proofs.Numbers.{number_back, lacks-decimal}
use Rattle.bp_reading.proofs.Quotes.{to_quote_is}

printed : (s : List ℕ) → print (json_tokens (source.string s)) ≡ quoted_text s
unfolding print_from
printed s = append-nil (quoted s) ∙ quoted_is s

read_quoted : (s : List ℕ) → read (quoted_text s) ≡ Some (json.string s)
read_quoted s = ap read (sym (printed s)) ∙ read_print (source.string s) (json.string s) tt (omega arith) refl

pub text_back : (s : List ℕ) → is_utf8 s ≡ true → text_at (quoted_text s) ≡ Some s
text_back s h =
    let u : IsUtf8 (quoted_text s) = subst IsUtf8 (quoted_is s) (IsUtf8-quoted s (IsUtf8-from_is_utf8 s h)) in
    rw (is_utf8-from_IsUtf8 (quoted_text s) u, read_quoted s, (bytes_eq-Decides (quoted_text s) (quoted_text s)).1 refl) refl

event_again : (e : PlainEvent) → IsEvent e → compact_event_at (event_text e) ≡ Some e
event_again e h = rw (event_back e h, (bytes_eq-Decides (event_text e) (event_text e)).1 refl) refl

number_32 : (n : ℕ) → n < 2 ^ 32 → number_at most_32 (decimal n) ≡ Some n
number_32 n h = number_back most_32 n (omega arith) (omega (arith, h))

numbers_back : (m n : ℕ) → m < 2 ^ 32 → n < 2 ^ 32 → numbers_at (decimal m ++ 32 ∷ decimal n) ≡ Some (m, n)
numbers_back m n h k = rw (around_is 32 (decimal m) (decimal n) (lacks-decimal 32 (omega arith) m (omega (arith, h))), number_32 m h, number_32 n k) refl

-- ---- verdicts

place_back : (p : Place) (rest : List ℕ) → IsPlace p → place_at (place_text p ++ rest) ≡ Some (p, rest)
place_back Top rest h = refl
place_back (Thread name) rest h = rw (to_quote_is name rest, text_back name h) refl

place_alone : (p : Place) → IsPlace p → place_at (place_text p) ≡ Some (p, [])
place_alone p h = ap place_at (sym (append-nil (place_text p))) ∙ place_back p [] h

fault_back : (f : Fault) → fault_at (fault_name f) ≡ Some f
fault_back fault.Whole = refl
fault_back fault.Fraction = refl
fault_back fault.Zero = refl
fault_back fault.Mistyped = refl
fault_back fault.Early = refl
fault_back fault.Index = refl
fault_back fault.Weight = refl
fault_back fault.Nesting = refl
fault_back fault.Depth = refl
fault_back fault.Mode = refl
fault_back fault.Statement = refl
fault_back fault.Truth = refl

said_back : (p : Place) (t : List ℕ) → is_utf8 t ≡ true → said_at (p, 32 ∷ quoted_text t) ≡ Some (verdict.Violated p t)
said_back p t h = ap (option_map (verdict.Violated p)) (text_back t h)

kind_back : (p : Place) (n : ℕ) (f : Fault) → n < 2 ^ 32 → kind_at p (decimal n ++ 32 ∷ fault_name f) ≡ Some (verdict.Fault p n f)
kind_back p n f h = rw (around_is 32 (decimal n) (fault_name f) (lacks-decimal 32 (omega arith) n (omega (arith, h))), number_32 n h, fault_back f) refl

violated_back : (p : Place) (t : List ℕ) → IsPlace p → is_utf8 t ≡ true → option_and_then said_at (place_at (place_text p ++ 32 ∷ quoted_text t)) ≡ Some (verdict.Violated p t)
violated_back p t h k = ap (option_and_then said_at) (place_back p (32 ∷ quoted_text t) h) ∙ said_back p t k

faulty_back : (p : Place) (n : ℕ) (f : Fault) → IsPlace p → n < 2 ^ 32 → option_and_then blamed_at (place_at (place_text p ++ 32 ∷ (decimal n ++ 32 ∷ fault_name f))) ≡ Some (verdict.Fault p n f)
faulty_back p n f h k = ap (option_and_then blamed_at) (place_back p (32 ∷ (decimal n ++ 32 ∷ fault_name f)) h) ∙ kind_back p n f k

spent_back : (p : Place) → IsPlace p → option_and_then (λ (q : Place × List ℕ). spent_by q.0 q.1) (place_at (place_text p)) ≡ Some (verdict.Spent p)
spent_back p h = ap (option_and_then (λ (q : Place × List ℕ). spent_by q.0 q.1)) (place_alone p h)

first : {A : Type 0} {x : A} {o : Option A} → o ≡ Some x → option_or o None ≡ Some x
first h = ap (λ o. option_or o None) h

verdict_back : (v : Verdict) → IsVerdict v → verdict_at (spelled_verdict v) ≡ Some v
verdict_back (verdict.Quiet n) h = rw (number_32 n h) refl
verdict_back (verdict.Violated p t) h = first (violated_back p t h.0 h.1)
verdict_back (verdict.Fault p n f) h = first (faulty_back p n f h.0 h.1)
verdict_back (verdict.Spent p) h = spent_back p h
verdict_back (verdict.Steps n) h = rw (number_32 n h) refl
verdict_back verdict.Queue h = rw (number_back 16384 16384 (omega arith) (omega arith)) refl
verdict_back verdict.Threads h = rw (number_back 4096 4096 (omega arith) (omega arith)) refl
verdict_back verdict.Weight h = rw (number_back 16777216 16777216 (omega arith) (omega arith)) refl
verdict_back (verdict.Bad j line) h = rw (numbers_back j line h.0 h.1) refl

-- ---- records

handed_back : (j : ℕ) (e : PlainEvent) → j < 2 ^ 32 → IsEvent e → handed_at (decimal j ++ 32 ∷ event_text e) ≡ Some (In j e)
handed_back j e h k = rw (around_is 32 (decimal j) (event_text e) (lacks-decimal 32 (omega arith) j (omega (arith, h))), number_32 j h, event_again e k) refl

spelled_back : (r : Record) → IsRecord r → record_at (spelled_record r) ≡ Some r
unfolding record_at
spelled_back (In j e) h = first (handed_back j e h.0 h.1)
spelled_back (Bad j line) h = rw (numbers_back j line h.0 h.1) refl
spelled_back (Eof j) h = rw (number_32 j h) refl
spelled_back (Sel e) h = rw (event_again e h) refl
spelled_back (End v) h = ap (option_map End) (verdict_back v h)

pub record_back : (r : Record) → IsRecord r → record_at (record_text r) ≡ Some r
record_back r h = ap record_at (record_is r) ∙ spelled_back r h
