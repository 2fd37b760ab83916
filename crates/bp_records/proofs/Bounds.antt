-- How long the texts of events, verdicts and records are at most.
use Rattle.std.proofs.Common.{ℕ, suc, ◌+◌, ◌*◌, ◌<◌, ◌≤◌, ◌^◌, Bool, true, false, List, [], ◌∷◌, ◌++◌, length, Option, Some, None, arith, ℤ, pos, negsuc, if◌then◌else◌, length-append}
use Rattle.std.specs.Prelude.{decimal, flat_map, ◌==◌, ◌||◌, nat_lt}
use Rattle.std.proofs.lemmas.Bool.{ltb-true}
use Rattle.std.proofs.lemmas.Fmt.{length-decimal-le}
use Rattle.js_data.specs.Whole.{IsWhole}
use Rattle.js_data.specs.Data.{PlainData, null, truth, whole, text, list, fields, DataList, no_data, item, DataFields, no_fields, field, IsHeld, AreHeld, AreHeldFields, data_weight, data_list_weight, data_fields_weight}
use Rattle.js_data.specs.Event.{PlainEvent, IsEvent, IsHeldExtra, extra_weight}
use Rattle.js_data.specs.JsonText.{event_text, data_text, data_list_text, data_fields_text, extra_text, quoted_text, escaped_byte, comma}
use Rattle.js_data.specs.Faults.{fault_name}
use Rattle.js_data.specs.declared.fault.Fault.{Fault}
use Rattle.js_data.specs.declared.fault.Fault.TheVariants as fault
use Rattle.bp_log.specs.Texts.{place_text}
use Rattle.bp_log.specs.Logs.{record_text}
use Rattle.bp_log.specs.declared.record.Record.TheVariants.{In, Bad, Eof, Sel, End}
use Rattle.bp_log.specs.declared.verdict.Place.{Place}
use Rattle.bp_log.specs.declared.verdict.Place.TheVariants.{Top, Thread}
use Rattle.bp_log.specs.declared.verdict.Verdict.{Verdict}
use Rattle.bp_log.specs.declared.verdict.Verdict.TheVariants as verdict
use Rattle.bp_reading.specs.declared.limits.TheConstants.{MOST_LINE_BYTES}
use Rattle.bp_log.specs.Verdicts.{IsVerdict}
use Rattle.bp_reading.proofs.Spelled.{spelled_verdict, record_is}
use Rattle.bp_records.proofs.Verdicts.{IsShortPlace, IsShortVerdict}

-- ---- texts in quotation marks: at most six bytes for each byte

six_if : (b : Bool) (xs ys : List ℕ) → length xs ≤ 6 → length ys ≤ 6 → length (if b then xs else ys) ≤ 6
six_if true xs ys h k = h
six_if false xs ys h k = k

six_for_one : (x : ℕ) → length (escaped_byte x) ≤ 6
six_for_one x =
    six_if ((x == 34) || (x == 92)) _ _ (omega arith)
    (six_if (x == 8) _ _ (omega arith)
    (six_if (x == 9) _ _ (omega arith)
    (six_if (x == 10) _ _ (omega arith)
    (six_if (x == 12) _ _ (omega arith)
    (six_if (x == 13) _ _ (omega arith)
    (six_if (nat_lt x 32) _ _ (omega arith) (omega arith)))))))

six_for_each : (s : List ℕ) → length (flat_map escaped_byte s) ≤ 6 * length s
six_for_each [] = omega arith
six_for_each (x ∷ s) = omega (arith, length-append (escaped_byte x) (flat_map escaped_byte s), six_for_one x, six_for_each s)

quoted_most : (s : List ℕ) → length (quoted_text s) ≤ 6 * length s + 2
quoted_most s = omega (arith, length-append (flat_map escaped_byte s) (34 ∷ []), six_for_each s)

-- ---- data and events: at most twenty bytes for each unit of weight

whole_most : (z : ℤ) → IsWhole z → length (data_text (whole z)) ≤ 17
whole_most (pos n) h = let k : n < 9_007_199_254_740_992 = ltb-true n 9_007_199_254_740_992 h in omega (arith, length-decimal-le 16 n (omega arith) (omega (arith, k)) (omega (arith, k)))
whole_most (negsuc n) h = let k : n < 9_007_199_254_740_991 = ltb-true n 9_007_199_254_740_991 h in omega (arith, length-decimal-le 16 (suc n) (omega arith) (omega (arith, k)) (omega (arith, k)))

comma_most : (later : Bool) → length (comma later) ≤ 1
comma_most true = omega arith
comma_most false = omega arith

mutual
  data_most : (d : PlainData) → IsHeld d → length (data_text d) + 1 ≤ 20 * data_weight d
  data_most null h = omega arith
  data_most (truth true) h = omega arith
  data_most (truth false) h = omega arith
  data_most (whole z) h = omega (arith, whole_most z h)
  data_most (text s) h = omega (arith, quoted_most s)
  data_most (list ds) h = omega (arith, data_list_most false ds h)
  data_most (fields fs) h = omega (arith, data_fields_most false fs h)

  data_list_most : (later : Bool) (ds : DataList) → AreHeld ds → length (data_list_text later ds) ≤ 20 * data_list_weight ds + 1
  data_list_most later no_data h = omega arith
  data_list_most later (item d ds) h =
      omega (arith, length-append (comma later) (data_text d ++ data_list_text true ds), length-append (data_text d) (data_list_text true ds), comma_most later, data_most d h.0, data_list_most true ds h.1)

  data_fields_most : (later : Bool) (fs : DataFields) → AreHeldFields fs → length (data_fields_text later fs) ≤ 20 * data_fields_weight fs + 1
  data_fields_most later no_fields h = omega arith
  data_fields_most later (field k d fs) h =
      omega (
        arith,
        length-append (comma later) (quoted_text k ++ 58 ∷ (data_text d ++ data_fields_text true fs)),
        length-append (quoted_text k) (58 ∷ (data_text d ++ data_fields_text true fs)),
        length-append (data_text d) (data_fields_text true fs),
        comma_most later,
        quoted_most k,
        data_most d h.1,
        data_fields_most true fs h.2,
      )

extra_most : (x : Option PlainData) → IsHeldExtra x → length (extra_text x) ≤ 20 * extra_weight x + 2
extra_most None h = omega arith
extra_most (Some d) h = omega (arith, length-append (data_text d) (93 ∷ []), data_most d h)

event_most : (e : PlainEvent) → IsEvent e → length (event_text e) ≤ 20_480
event_most e h =
    omega (arith, length-append (quoted_text e.name) (extra_text e.extra), quoted_most e.name, extra_most e.extra h.held, h.weight)

-- ---- verdicts and records

place_most : (p : Place) → IsShortPlace p → length (place_text p) ≤ 393_212
place_most Top h = omega arith
place_most (Thread name) h = omega (arith, quoted_most name, h)

fault_most : (f : Fault) → length (fault_name f) ≤ 9
fault_most fault.Whole = omega arith
fault_most fault.Fraction = omega arith
fault_most fault.Zero = omega arith
fault_most fault.Mistyped = omega arith
fault_most fault.Early = omega arith
fault_most fault.Index = omega arith
fault_most fault.Weight = omega arith
fault_most fault.Nesting = omega arith
fault_most fault.Depth = omega arith
fault_most fault.Mode = omega arith
fault_most fault.Statement = omega arith
fault_most fault.Truth = omega arith

number_most : (n : ℕ) → n < 2 ^ 32 → length (decimal n) ≤ 10
number_most n h = length-decimal-le 10 n (omega arith) (omega (arith, h)) (omega (arith, h))

verdict_most : (most : ℕ) (v : Verdict) → IsVerdict v → IsShortVerdict most v → length (spelled_verdict v) ≤ 786_500
verdict_most most (verdict.Quiet n) h k = omega (arith, number_most n h)
verdict_most most (verdict.Violated place t) h k = omega (arith, length-append (place_text place) (32 ∷ quoted_text t), place_most place k.0, quoted_most t, k.1)
verdict_most most (verdict.Fault place line f) h k =
    omega (arith, length-append (place_text place) (32 ∷ (decimal line ++ (32 ∷ fault_name f))), length-append (decimal line) (32 ∷ fault_name f), place_most place k, number_most line h.1, fault_most f)
verdict_most most (verdict.Spent place) h k = omega (arith, place_most place k)
verdict_most most (verdict.Steps n) h k = omega (arith, number_most n h)
verdict_most most verdict.Queue h k = omega (arith, number_most 16384 (omega arith))
verdict_most most verdict.Threads h k = omega (arith, number_most 4096 (omega arith))
verdict_most most verdict.Weight h k = omega (arith, number_most 16777216 (omega arith))
verdict_most most (verdict.Bad j line) h k = omega (arith, length-append (decimal j) (32 ∷ decimal line), number_most j h.0, number_most line h.1)

pub selected_fits : (e : PlainEvent) → IsEvent e → length (record_text (Sel e)) ≤ MOST_LINE_BYTES
selected_fits e h = rw (record_is (Sel e)) (omega (arith, event_most e h))

pub end_fits : (most : ℕ) (v : Verdict) → IsVerdict v → IsShortVerdict most v → length (record_text (End v)) ≤ MOST_LINE_BYTES
end_fits most v h k = rw (record_is (End v)) (omega (arith, verdict_most most v h k))

pub handed_fits : (j : ℕ) (e : PlainEvent) → j < 2 ^ 32 → IsEvent e → length (record_text (In j e)) ≤ MOST_LINE_BYTES
handed_fits j e k h = rw (record_is (In j e)) (omega (arith, length-append (decimal j) (32 ∷ event_text e), number_most j k, event_most e h))

pub bad_fits : (j line : ℕ) → j < 2 ^ 32 → line < 2 ^ 32 → length (record_text (Bad j line)) ≤ MOST_LINE_BYTES
bad_fits j line h k = rw (record_is (Bad j line)) (omega (arith, length-append (decimal j) (32 ∷ decimal line), number_most j h, number_most line k))

pub over_fits : (j : ℕ) → j < 2 ^ 32 → length (record_text (Eof j)) ≤ MOST_LINE_BYTES
over_fits j h = rw (record_is (Eof j)) (omega (arith, number_most j h))
