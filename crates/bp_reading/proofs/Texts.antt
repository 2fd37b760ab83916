-- The texts of events and of verdicts have no LF.
use Rattle.std.proofs.Common.{◌≡◌, ℕ, suc, ◌<◌, ◌^◌, Bool, true, false, List, [], ◌∷◌, ◌++◌, Option, Some, None, refl, arith, ℤ, pos, negsuc}
use Rattle.std.specs.Prelude.{decimal}
use Rattle.std.proofs.lemmas.Bool.{ltb-true}
use Rattle.js_data.specs.Whole.{IsWhole}
use Rattle.js_data.specs.Data.{PlainData, null, truth, whole, text, list, fields, DataList, no_data, item, DataFields, no_fields, field, IsHeld, AreHeld, AreHeldFields}
use Rattle.js_data.specs.Event.{PlainEvent, IsEvent, IsHeldExtra}
use Rattle.js_data.specs.JsonText.{event_text, data_text, data_list_text, data_fields_text, extra_text, quoted_text, comma}
use Rattle.js_data.specs.Faults.{fault_name}
use Rattle.js_data.specs.declared.fault.Fault.{Fault}
use Rattle.js_data.specs.declared.fault.Fault.TheVariants as fault
use Rattle.bp_log.specs.Texts.{place_text}
use Rattle.bp_log.specs.Logs.{record_text}
use Rattle.bp_log.specs.declared.record.Record.{Record}
use Rattle.bp_log.specs.declared.record.Record.TheVariants.{In, Bad, Eof, Sel, End}
use Rattle.bp_log.specs.declared.verdict.Place.{Place}
use Rattle.bp_log.specs.declared.verdict.Place.TheVariants.{Top, Thread}
use Rattle.bp_log.specs.declared.verdict.Verdict.{Verdict}
use Rattle.bp_log.specs.declared.verdict.Verdict.TheVariants as verdict
use Rattle.bp_log.specs.Verdicts.{IsVerdict}
use Rattle.bp_reading.specs.Laws.{IsRecord}
use Rattle.bp_reading.proofs.Lines.{lacks, lacks-append}
use Rattle.bp_reading.proofs.Numbers.{lacks-decimal}
use Rattle.bp_reading.proofs.Quotes.{lacks-quoted}
use Rattle.bp_reading.proofs.Spelled.{spelled_verdict, spelled_record, record_is}

lacks_whole : (z : ℤ) → IsWhole z → lacks 10 (data_text (whole z)) ≡ true
lacks_whole (pos n) h = let k : n < 9_007_199_254_740_992 = ltb-true n 9_007_199_254_740_992 h in lacks-decimal 10 (omega arith) n (omega arith)
lacks_whole (negsuc n) h = let k : n < 9_007_199_254_740_991 = ltb-true n 9_007_199_254_740_991 h in lacks-decimal 10 (omega arith) (suc n) (omega arith)

lacks_comma : (later : Bool) (t : List ℕ) → lacks 10 t ≡ true → lacks 10 (comma later ++ t) ≡ true
lacks_comma true t h = h
lacks_comma false t h = h

mutual
  lacks_data : (d : PlainData) → IsHeld d → lacks 10 (data_text d) ≡ true
  lacks_data null h = refl
  lacks_data (truth true) h = refl
  lacks_data (truth false) h = refl
  lacks_data (whole z) h = lacks_whole z h
  lacks_data (text t) h = lacks-quoted t
  lacks_data (list ds) h = lacks_list false ds h
  lacks_data (fields fs) h = lacks_fields false fs h

  lacks_list : (later : Bool) (ds : DataList) → AreHeld ds → lacks 10 (data_list_text later ds) ≡ true
  lacks_list later no_data h = refl
  lacks_list later (item d ds) h = lacks_comma later _ (lacks-append 10 (data_text d) (data_list_text true ds) (lacks_data d h.0) (lacks_list true ds h.1))

  lacks_fields : (later : Bool) (fs : DataFields) → AreHeldFields fs → lacks 10 (data_fields_text later fs) ≡ true
  lacks_fields later no_fields h = refl
  lacks_fields later (field k d fs) h =
      lacks_comma later _ (lacks-append 10 (quoted_text k) _ (lacks-quoted k) (lacks-append 10 (data_text d) (data_fields_text true fs) (lacks_data d h.1) (lacks_fields true fs h.2)))

lacks_extra : (x : Option PlainData) → IsHeldExtra x → lacks 10 (extra_text x) ≡ true
lacks_extra None h = refl
lacks_extra (Some d) h = lacks-append 10 (data_text d) (93 ∷ []) (lacks_data d h) refl

pub lacks-event : (e : PlainEvent) → IsEvent e → lacks 10 (event_text e) ≡ true
lacks-event e h = lacks-append 10 (quoted_text e.name) (extra_text e.extra) (lacks-quoted e.name) (lacks_extra e.extra h.held)

lacks-place : (p : Place) → lacks 10 (place_text p) ≡ true
lacks-place Top = refl
lacks-place (Thread name) = lacks-quoted name

lacks-fault : (f : Fault) → lacks 10 (fault_name f) ≡ true
lacks-fault fault.Whole = refl
lacks-fault fault.Fraction = refl
lacks-fault fault.Zero = refl
lacks-fault fault.Mistyped = refl
lacks-fault fault.Early = refl
lacks-fault fault.Index = refl
lacks-fault fault.Weight = refl
lacks-fault fault.Nesting = refl
lacks-fault fault.Depth = refl
lacks-fault fault.Mode = refl
lacks-fault fault.Statement = refl
lacks-fault fault.Truth = refl

lacks-number : (n : ℕ) → n < 2 ^ 32 → lacks 10 (decimal n) ≡ true
lacks-number n h = lacks-decimal 10 (omega arith) n (omega (arith, h))

-- two numbers with a blank between them
lacks-numbers : (m n : ℕ) → m < 2 ^ 32 → n < 2 ^ 32 → lacks 10 (decimal m ++ 32 ∷ decimal n) ≡ true
lacks-numbers m n h k = lacks-append 10 (decimal m) (32 ∷ decimal n) (lacks-number m h) (lacks-number n k)

lacks-verdict : (v : Verdict) → IsVerdict v → lacks 10 (spelled_verdict v) ≡ true
lacks-verdict (verdict.Quiet n) h = lacks-number n h
lacks-verdict (verdict.Violated place t) h = lacks-append 10 (place_text place) (32 ∷ quoted_text t) (lacks-place place) (lacks-quoted t)
lacks-verdict (verdict.Fault place line f) h =
    lacks-append 10 (place_text place) (32 ∷ (decimal line ++ 32 ∷ fault_name f)) (lacks-place place)
    (lacks-append 10 (decimal line) (32 ∷ fault_name f) (lacks-number line h.1) (lacks-fault f))
lacks-verdict (verdict.Spent place) h = lacks-place place
lacks-verdict (verdict.Steps n) h = lacks-number n h
lacks-verdict verdict.Queue h = lacks-number 16384 (omega arith)
lacks-verdict verdict.Threads h = lacks-number 4096 (omega arith)
lacks-verdict verdict.Weight h = lacks-number 16777216 (omega arith)
lacks-verdict (verdict.Bad j line) h = lacks-numbers j line h.0 h.1

lacks-spelled : (r : Record) → IsRecord r → lacks 10 (spelled_record r) ≡ true
lacks-spelled (In j e) h = lacks-append 10 (decimal j) (32 ∷ event_text e) (lacks-number j h.0) (lacks-event e h.1)
lacks-spelled (Bad j line) h = lacks-numbers j line h.0 h.1
lacks-spelled (Eof j) h = lacks-number j h
lacks-spelled (Sel e) h = lacks-event e h
lacks-spelled (End v) h = lacks-verdict v h

-- no record's text has an LF
pub lacks-record : (r : Record) → IsRecord r → lacks 10 (record_text r) ≡ true
lacks-record r h = rw (record_is r) (lacks-spelled r h)
