-- What is read keeps what records keep: numbers are in their ranges, texts are UTF-8, events are within the limits.
use Rattle.std.proofs.Common.{◌≡◌, ◌∙◌, ℕ, ◌<◌, ◌≤◌, ◌^◌, true, List, [], ◌∷◌, Some, option_and_then, subst, inl, inr, arith, ◌++◌, IsUtf8, refl, sym, append-nil}
use Rattle.std.specs.Prelude.{◌==◌, ◌&&◌, nat_le, codes}
use Rattle.std.specs.Str.{bytes_eq, is_utf8}
use Rattle.std.proofs.lemmas.Bool.{and_parts, leb-true}
use Rattle.std.proofs.lemmas.Str.{IsUtf8-from_is_utf8, is_utf8-from_IsUtf8}
use Rattle.std.proofs.lemmas.Option.{cond_some, none-some}
use Rattle.std.proofs.lemmas.Slice.Eq.{bytes_eq-Decides}
use Rattle.serde_json.specs.Read.{read}
use Rattle.js_data.specs.Event.{PlainEvent, event_weight, event_nesting, IsSortedExtra, IsHeldExtra, IsEvent}
use Rattle.js_data.specs.JsonText.{event_text, quoted_text, extra_text}
use Rattle.js_data.specs.declared.event.TheConstants.Event as event
use Rattle.js_data.proofs.Shared.{chained, mapped}
use Rattle.js_json.specs.Json.{event_from, within_limits, event_at}
use Rattle.js_json.proofs.Ordered.{sorted_read}
use Rattle.bp_log.specs.declared.limits.TheConstants.{MOST_WAITING, MOST_THREADS, MOST_WEIGHT}
use Rattle.bp_log.specs.declared.record.Record.{Record}
use Rattle.bp_log.specs.declared.record.Record.TheVariants.{Eof, Sel, End}
use Rattle.bp_log.specs.declared.verdict.Place.{Place}
use Rattle.bp_log.specs.declared.verdict.Verdict.{Verdict}
use Rattle.bp_log.specs.declared.verdict.Verdict.TheVariants as verdict
use Rattle.bp_reading.specs.Words.{behind, around, number_at, number_behind, numbers_at, most_32, if_compact, compact_event_at, text_at, quoted_front}
use Rattle.bp_reading.specs.Lines.{place_at, quiet_at, steps_at, if_same, limit_at, bad_end_at, limits_at, numbered_at, said_at, violated_at, fault_at, kind_at, blamed_at, faulty_at, spent_at, placed_at, verdict_at, handed_at, in_at, bad_at, eof_at, sel_at, end_at, record_at, top_at, name_at, thread_at}
use Rattle.bp_log.specs.Verdicts.{IsPlace, IsVerdict}
use Rattle.bp_reading.specs.Laws.{IsRecord}
use Rattle.bp_reading.proofs.Numbers.{number_text}
use Rattle.bp_reading.proofs.Unquoted.{past_ascii, utf8_unquoted}
use Rattle.bp_reading.proofs.Held.{held_event}
use Rattle.bp_reading.proofs.Again.{at_each_record, either, chosen, spent_parts, text_spelled}

-- ---- words

number_low : (n : ℕ) (bytes : List ℕ) → number_at most_32 bytes ≡ Some n → n < 2 ^ 32
number_low n bytes h = let p = (number_text most_32 n bytes (omega arith) h).1 in omega (arith, p)

pub word_most : (w line : List ℕ) (most n : ℕ) → most < 2 ^ 64 → number_behind w most line ≡ Some n → n ≤ most
word_most w line most n small h =
    let p = chained (number_at most) (behind w line) n h in
    (number_text most n p.0 small p.2).1

word_low : (w line : List ℕ) (n : ℕ) → number_behind w most_32 line ≡ Some n → n < 2 ^ 32
word_low w line n h = let p = word_most w line most_32 n (omega arith) h in omega (arith, p)

numbers_low : (bytes : List ℕ) (p : ℕ × ℕ) → numbers_at bytes ≡ Some p → (p.0 < 2 ^ 32) × (p.1 < 2 ^ 32)
numbers_low bytes p h =
    let a = chained _ (around 32 bytes) p h in
    let b = chained _ (number_at most_32 a.0.0) p a.2 in
    let c = mapped _ (number_at most_32 a.0.1) p b.2 in
    subst (λ (q : ℕ × ℕ). (q.0 < 2 ^ 32) × (q.1 < 2 ^ 32)) c.2 (number_low b.0 a.0.0 b.1, number_low c.0 a.0.1 c.1)

text_low : (bytes s : List ℕ) → text_at bytes ≡ Some s → is_utf8 s ≡ true
text_low bytes s h = elim (chosen (is_utf8 bytes) _ _ _ h) [
  | inl good ↦
      let u = subst IsUtf8 (text_spelled bytes s h ∙ sym (append-nil (quoted_text s))) (IsUtf8-from_is_utf8 bytes good.0) in
      is_utf8-from_IsUtf8 s (utf8_unquoted s [] u).0
  | inr bad ↦ absurd (none-some _ bad.1)
]

name_low : (bytes : List ℕ) (n : List ℕ × List ℕ) → name_at bytes ≡ Some n → is_utf8 n.0 ≡ true
name_low bytes n h =
    let a = chained _ (quoted_front bytes) n h in
    let b = mapped _ (text_at a.0.0) n a.2 in
    subst (λ (q : List ℕ × List ℕ). is_utf8 q.0 ≡ true) b.2 (text_low a.0.0 b.0 b.1)

place_low : (bytes : List ℕ) (p : Place × List ℕ) → place_at bytes ≡ Some p → IsPlace p.0
place_low bytes p h = elim (either (top_at bytes) (thread_at bytes) p h) [
  | inl top ↦ let a = mapped _ (behind (codes "top") bytes) p top in subst (λ (q : Place × List ℕ). IsPlace q.0) a.2 tt
  | inr thread ↦
      let n = mapped _ (name_at bytes) p thread in
      subst (λ (q : Place × List ℕ). IsPlace q.0) n.2 (name_low bytes n.0 n.1)
]

-- what is read of an event, but that its texts are UTF-8
record IsRead (e : PlainEvent) : Type 0 where
  weight : event_weight e ≤ event.MOST_WEIGHT
  nesting : event_nesting e ≤ event.MOST_NESTING
  sorted : IsSortedExtra e.extra
  held : IsUtf8 (extra_text e.extra) → IsHeldExtra e.extra

event_read : (bytes : List ℕ) (e : PlainEvent) → event_at bytes ≡ Some e → IsUtf8 bytes × IsRead e
event_read bytes e h = elim (chosen (is_utf8 bytes) _ _ _ h) [
  | inl good ↦
      let a = chained within_limits (option_and_then event_from (read bytes)) e good.1 in
      let b = cond_some (nat_le (event_weight a.0) event.MOST_WEIGHT && nat_le (event_nesting a.0) event.MOST_NESTING) a.0 e a.2 in
      let c = and_parts _ _ b.0 in
      let d = chained event_from (read bytes) a.0 a.1 in (
        IsUtf8-from_is_utf8 bytes good.0,
        subst IsRead b.1 (record {
          weight = leb-true _ _ c.0;
          nesting = leb-true _ _ c.1;
          sorted = sorted_read bytes d.0 a.0 d.1 d.2;
          held = held_event d.0 a.0 d.2;
        }),
      )
  | inr bad ↦ absurd (none-some _ bad.1)
]

event_low : (bytes : List ℕ) (e : PlainEvent) → compact_event_at bytes ≡ Some e → IsEvent e
event_low bytes e h =
    let a = chained (if_compact bytes) (event_at bytes) e h in
    let b = cond_some (bytes_eq (event_text a.0) bytes) a.0 e a.2 in
    let c = event_read bytes a.0 a.1 in
    let text = past_ascii (91 ∷ []) (quoted_text a.0.name ++ extra_text a.0.extra) refl (subst IsUtf8 (sym ((bytes_eq-Decides (event_text a.0) bytes).0 b.0)) c.0) in
    let parts = utf8_unquoted a.0.name (extra_text a.0.extra) text in
    subst IsEvent b.1 (record {
      weight = c.1.weight;
      nesting = c.1.nesting;
      sorted = c.1.sorted;
      utf8 = is_utf8-from_IsUtf8 a.0.name parts.0;
      held = c.1.held parts.1;
    })

-- ---- verdicts

limit_low : (word line : List ℕ) (limit : ℕ) (v w : Verdict) → IsVerdict v → limit_at word limit v line ≡ Some w → IsVerdict w
limit_low word line limit v w fits h =
    let a = chained (if_same limit v) (number_behind word limit line) w h in
    let b = cond_some (a.0 == limit) v w a.2 in
    subst IsVerdict b.1 fits

quiet_low : (line : List ℕ) (v : Verdict) → quiet_at line ≡ Some v → IsVerdict v
quiet_low line v h =
    let a = mapped verdict.Quiet (number_behind (codes "quiet ") most_32 line) v h in
    subst IsVerdict a.2 (word_low (codes "quiet ") line a.0 a.1)

steps_low : (line : List ℕ) (v : Verdict) → steps_at line ≡ Some v → IsVerdict v
steps_low line v h =
    let a = mapped verdict.Steps (number_behind (codes "limit steps ") most_32 line) v h in
    subst IsVerdict a.2 (word_low (codes "limit steps ") line a.0 a.1)

limits_low : (line : List ℕ) (v : Verdict) → limits_at line ≡ Some v → IsVerdict v
limits_low line v h = elim (either (limit_at (codes "limit queue ") MOST_WAITING verdict.Queue line) _ v h) [
  | inl queue ↦ limit_low (codes "limit queue ") line MOST_WAITING verdict.Queue v tt queue
  | inr more ↦ elim (either (limit_at (codes "limit bthreads ") MOST_THREADS verdict.Threads line) _ v more) [
    | inl threads ↦ limit_low (codes "limit bthreads ") line MOST_THREADS verdict.Threads v tt threads
    | inr weight ↦ limit_low (codes "limit weight ") line MOST_WEIGHT verdict.Weight v tt weight
  ]
]

bad_end_low : (line : List ℕ) (v : Verdict) → bad_end_at line ≡ Some v → IsVerdict v
bad_end_low line v h =
    let a = mapped _ (option_and_then numbers_at (behind (codes "bad ") line)) v h in
    let b = chained numbers_at (behind (codes "bad ") line) a.0 a.1 in
    subst IsVerdict a.2 (numbers_low b.0 a.0 b.2)

numbered_low : (line : List ℕ) (v : Verdict) → numbered_at line ≡ Some v → IsVerdict v
numbered_low line v h = elim (either (quiet_at line) _ v h) [
  | inl quiet ↦ quiet_low line v quiet
  | inr h1 ↦ elim (either (steps_at line) _ v h1) [
    | inl steps ↦ steps_low line v steps
    | inr h2 ↦ elim (either (limits_at line) (bad_end_at line) v h2) [ inl limits ↦ limits_low line v limits | inr bad ↦ bad_end_low line v bad ]
  ]
]

violated_low : (line : List ℕ) (v : Verdict) → violated_at line ≡ Some v → IsVerdict v
violated_low line v h =
    let a = chained _ (behind (codes "violated ") line) v h in
    let b = chained said_at (place_at a.0) v a.2 in
    let c = chained _ (behind (32 ∷ []) b.0.1) v b.2 in
    let d = mapped _ (text_at c.0) v c.2 in
    subst IsVerdict d.2 (place_low a.0 b.0 b.1, text_low c.0 d.0 d.1)

faulty_low : (line : List ℕ) (v : Verdict) → faulty_at line ≡ Some v → IsVerdict v
faulty_low line v h =
    let a = chained _ (behind (codes "fault ") line) v h in
    let b = chained blamed_at (place_at a.0) v a.2 in
    let c = chained (kind_at b.0.0) (behind (32 ∷ []) b.0.1) v b.2 in
    let d = chained _ (around 32 c.0) v c.2 in
    let e = chained _ (number_at most_32 d.0.0) v d.2 in
    let f = mapped _ (fault_at d.0.1) v e.2 in
    subst IsVerdict f.2 (place_low a.0 b.0 b.1, number_low e.0 d.0.0 e.1)

spent_low : (line : List ℕ) (v : Verdict) → spent_at line ≡ Some v → IsVerdict v
spent_low line v h =
    let a = chained _ (behind (codes "spent ") line) v h in
    let b = chained _ (place_at a.0) v a.2 in
    subst IsVerdict (spent_parts b.0.0 b.0.1 v b.2).1 (place_low a.0 b.0 b.1)

placed_low : (line : List ℕ) (v : Verdict) → placed_at line ≡ Some v → IsVerdict v
placed_low line v h = elim (either (violated_at line) _ v h) [
  | inl violated ↦ violated_low line v violated
  | inr more ↦ elim (either (faulty_at line) (spent_at line) v more) [ inl faulty ↦ faulty_low line v faulty | inr spent ↦ spent_low line v spent ]
]

verdict_low : (line : List ℕ) (v : Verdict) → verdict_at line ≡ Some v → IsVerdict v
verdict_low line v h = elim (either (numbered_at line) (placed_at line) v h) [ inl numbered ↦ numbered_low line v numbered | inr placed ↦ placed_low line v placed ]

-- ---- records

in_low : (line : List ℕ) (r : Record) → in_at line ≡ Some r → IsRecord r
in_low line r h =
    let a = chained handed_at (behind (codes "in ") line) r h in
    let b = chained _ (around 32 a.0) r a.2 in
    let c = chained _ (number_at most_32 b.0.0) r b.2 in
    let d = mapped _ (compact_event_at b.0.1) r c.2 in
    subst IsRecord d.2 (number_low c.0 b.0.0 c.1, event_low b.0.1 d.0 d.1)

bad_low : (line : List ℕ) (r : Record) → bad_at line ≡ Some r → IsRecord r
bad_low line r h =
    let a = mapped _ (option_and_then numbers_at (behind (codes "bad ") line)) r h in
    let b = chained numbers_at (behind (codes "bad ") line) a.0 a.1 in
    subst IsRecord a.2 (numbers_low b.0 a.0 b.2)

eof_low : (line : List ℕ) (r : Record) → eof_at line ≡ Some r → IsRecord r
eof_low line r h =
    let a = mapped Eof (number_behind (codes "eof ") most_32 line) r h in
    subst IsRecord a.2 (word_low (codes "eof ") line a.0 a.1)

sel_low : (line : List ℕ) (r : Record) → sel_at line ≡ Some r → IsRecord r
sel_low line r h =
    let a = mapped Sel (option_and_then compact_event_at (behind (codes "sel ") line)) r h in
    let b = chained compact_event_at (behind (codes "sel ") line) a.0 a.1 in
    subst IsRecord a.2 (event_low b.0 a.0 b.2)

end_low : (line : List ℕ) (r : Record) → end_at line ≡ Some r → IsRecord r
end_low line r h =
    let a = mapped End (option_and_then verdict_at (behind (codes "end ") line)) r h in
    let b = chained verdict_at (behind (codes "end ") line) a.0 a.1 in
    subst IsRecord a.2 (verdict_low b.0 a.0 b.2)

-- the record that a line says is in its ranges
pub record_low : (line : List ℕ) (r : Record) → record_at line ≡ Some r → IsRecord r
record_low = at_each_record (λ line r. IsRecord r) in_low bad_low eof_low sel_low end_low
