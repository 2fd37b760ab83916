-- What is read is spelled so.
use Rattle.std.proofs.Common.{◌≡◌, ◌⊎◌, ◌∙◌, ◌<◌, ◌^◌, ℕ, sym, ap, ap₂, List, [], ◌++◌, ◌∷◌, Option, Some, None, Bool, true, false, cond, refl, inl, inr, arith, option_and_then, append-nil}
use Rattle.std.specs.Prelude.{◌==◌, ◌&&◌, not, decimal, codes}
use Rattle.std.specs.Option.{option_or}
use Rattle.std.specs.Str.{bytes_eq, is_utf8}
use Rattle.std.proofs.lemmas.Bool.Decides.{eqb_tells}
use Rattle.std.proofs.lemmas.Bool.{eqb-true}
use Rattle.std.proofs.lemmas.Slice.Eq.{bytes_eq-Decides}
use Rattle.std.proofs.lemmas.Option.{same_Some, cond_some, none-some}
use Rattle.serde_json.specs.Find.{as_str}
use Rattle.serde_json.specs.Read.{read}
use Rattle.js_data.specs.Event.{PlainEvent}
use Rattle.js_data.specs.Faults.{fault_name}
use Rattle.js_data.specs.JsonText.{event_text, quoted_text}
use Rattle.js_data.specs.declared.fault.Fault.{Fault}
use Rattle.js_data.specs.declared.fault.Fault.TheVariants as fault
use Rattle.js_data.proofs.Shared.{chained, mapped}
use Rattle.js_json.specs.Json.{event_at}
use Rattle.bp_log.specs.Texts.{place_text}
use Rattle.bp_log.specs.Logs.{record_text, strategy_name, strategy_at}
use Rattle.bp_log.specs.declared.limits.TheConstants.{MOST_WAITING, MOST_THREADS, MOST_WEIGHT}
use Rattle.bp_log.specs.declared.options.Strategy.{Strategy}
use Rattle.bp_log.specs.declared.options.Strategy.TheVariants.{Simple, Ordered, Priority}
use Rattle.bp_log.specs.declared.record.Record.{Record}
use Rattle.bp_log.specs.declared.record.Record.TheVariants.{Eof, Sel, End}
use Rattle.bp_log.specs.declared.verdict.Place.{Place}
use Rattle.bp_log.specs.declared.verdict.Verdict.{Verdict}
use Rattle.bp_log.specs.declared.verdict.Verdict.TheVariants as verdict
use Rattle.bp_reading.specs.Words.{behind, around, number_at, number_behind, numbers_at, most_32, if_compact, compact_event_at, if_quoted, text_at, onto_front, to_quote, quoted_front}
use Rattle.bp_reading.specs.Lines.{top_at, name_at, thread_at, place_at, quiet_at, steps_at, if_same, limit_at, bad_end_at, limits_at, numbered_at, said_at, violated_at, fault_at, kind_at, blamed_at, faulty_at, spent_by, spent_at, placed_at, verdict_at, handed_at, in_at, bad_at, eof_at, sel_at, end_at, record_at}
use Rattle.bp_reading.proofs.Numbers.{number_text}
use Rattle.bp_reading.proofs.Spelled.{spelled_verdict, spelled_record, record_is}

-- ---- answers taken apart

pub either : {A : Type 0} (o p : Option A) (y : A) → option_or o p ≡ Some y → (o ≡ Some y) ⊎ (p ≡ Some y)
either None p y h = inr h
either (Some x) p y h = inl h

pub chosen : {A : Type 0} (t : Bool) (x y z : A) → cond t x y ≡ z → ((t ≡ true) × (x ≡ z)) ⊎ ((t ≡ false) × (y ≡ z))
chosen true x y z h = inl (refl, h)
chosen false x y z h = inr (refl, h)

-- the value, where the test holds, else one of the rest
tried : {A : Type 0} (t : Bool) (x : A) (o : Option A) (y : A) → cond t (Some x) o ≡ Some y → ((t ≡ true) × (x ≡ y)) ⊎ (o ≡ Some y)
tried true x o y h = inl (refl, same_Some x y h)
tried false x o y h = inr h

-- ---- words

pub behind_spelled : (w bytes rest : List ℕ) → behind w bytes ≡ Some rest → bytes ≡ w ++ rest
behind_spelled [] bytes rest h = same_Some bytes rest h
behind_spelled (c ∷ w) [] rest h = absurd (none-some _ h)
behind_spelled (c ∷ w) (b ∷ bytes) rest h = elim (eqb_tells b c) [
  | inl same ↦ ap₂ (λ (x : ℕ) (xs : List ℕ). x ∷ xs) same.1 (behind_spelled w bytes rest (rw same.0 at h))
  | inr other ↦ absurd (none-some _ (rw other.0 at h))
]

pub onto_front_parts : (b : ℕ) (o : Option (List ℕ × List ℕ)) (front more : List ℕ) → onto_front b o ≡ Some (front, more) → (f : List ℕ) × (front ≡ b ∷ f) × (o ≡ Some (f, more))
onto_front_parts b None front more h = absurd (none-some _ h)
onto_front_parts b (Some p) front more h =
    let s = same_Some _ _ h in
    (p.0, sym (ap (λ (q : List ℕ × List ℕ). q.0) s), ap (λ (m : List ℕ). Some (p.0, m)) (ap (λ (q : List ℕ × List ℕ). q.1) s))

around_spelled : (c : ℕ) (bytes a b : List ℕ) → around c bytes ≡ Some (a, b) → bytes ≡ a ++ (c ∷ b)
around_spelled c [] a b h = absurd (none-some _ h)
around_spelled c (x ∷ bytes) a b h = elim (eqb_tells x c) [
  | inl same ↦
      let s = same_Some _ _ (rw same.0 at h) in
      ap₂ (λ (y : ℕ) (ys : List ℕ). y ∷ ys) same.1 (ap (λ (q : List ℕ × List ℕ). q.1) s) ∙ ap (λ (l : List ℕ). l ++ (c ∷ b)) (ap (λ (q : List ℕ × List ℕ). q.0) s)
  | inr other ↦
      let p = onto_front_parts x (around c bytes) a b (rw other.0 at h) in
      ap (λ (t : List ℕ). x ∷ t) (around_spelled c bytes p.0 b p.2) ∙ ap (λ (t : List ℕ). t ++ (c ∷ b)) (sym p.1)
]

number_spelled : (n : ℕ) (bytes : List ℕ) → number_at most_32 bytes ≡ Some n → bytes ≡ decimal n
number_spelled n bytes h = (number_text most_32 n bytes (omega arith) h).0

pub word_spelled : (w line : List ℕ) (most n : ℕ) → most < 2 ^ 64 → number_behind w most line ≡ Some n → line ≡ w ++ decimal n
word_spelled w line most n small h =
    let p = chained (number_at most) (behind w line) n h in
    behind_spelled w line p.0 p.1 ∙ ap (λ (t : List ℕ). w ++ t) (number_text most n p.0 small p.2).0

-- two numbers with a blank between them
numbers_spelled : (bytes : List ℕ) (p : ℕ × ℕ) → numbers_at bytes ≡ Some p → bytes ≡ decimal p.0 ++ (32 ∷ decimal p.1)
numbers_spelled bytes p h =
    let a = chained _ (around 32 bytes) p h in
    let b = chained _ (number_at most_32 a.0.0) p a.2 in
    let c = mapped _ (number_at most_32 a.0.1) p b.2 in
    around_spelled 32 bytes a.0.0 a.0.1 a.1
    ∙ ap₂ (λ (x y : List ℕ). x ++ (32 ∷ y)) (number_spelled b.0 a.0.0 b.1) (number_spelled c.0 a.0.1 c.1)
    ∙ ap (λ (q : ℕ × ℕ). decimal q.0 ++ (32 ∷ decimal q.1)) c.2

event_spelled : (bytes : List ℕ) (e : PlainEvent) → compact_event_at bytes ≡ Some e → bytes ≡ event_text e
event_spelled bytes e h =
    let a = chained (if_compact bytes) (event_at bytes) e h in
    let b = cond_some (bytes_eq (event_text a.0) bytes) a.0 e a.2 in
    sym ((bytes_eq-Decides (event_text a.0) bytes).0 b.0) ∙ ap (λ (x : PlainEvent). event_text x) b.1

pub text_spelled : (bytes s : List ℕ) → text_at bytes ≡ Some s → bytes ≡ quoted_text s
text_spelled bytes s h = elim (chosen (is_utf8 bytes) _ _ _ h) [
  | inl good ↦
      let a = chained (if_quoted bytes) (option_and_then as_str (read bytes)) s good.1 in
      let b = cond_some (bytes_eq (quoted_text a.0) bytes) a.0 s a.2 in
      sym ((bytes_eq-Decides (quoted_text a.0) bytes).0 b.0) ∙ ap (λ (x : List ℕ). quoted_text x) b.1
  | inr bad ↦ absurd (none-some _ bad.1)
]

pub quote_parts : (bytes : List ℕ) (escaped : Bool) (front more : List ℕ) → to_quote escaped bytes ≡ Some (front, more) → bytes ≡ front ++ more
quote_parts [] escaped front more h = absurd (none-some _ h)
quote_parts (b ∷ bytes) escaped front more h = elim (chosen (not escaped && (b == 34)) _ _ _ h) [
  | inl here ↦
      let s = same_Some _ _ here.1 in
      ap₂ (λ (x y : List ℕ). x ++ y) (ap (λ (q : List ℕ × List ℕ). q.0) s) (ap (λ (q : List ℕ × List ℕ). q.1) s)
  | inr past ↦
      let p = onto_front_parts b _ front more past.1 in
      ap (λ (t : List ℕ). b ∷ t) (quote_parts bytes _ p.0 more p.2) ∙ ap (λ (t : List ℕ). t ++ more) (sym p.1)
]

front_spelled : (bytes a b : List ℕ) → quoted_front bytes ≡ Some (a, b) → bytes ≡ a ++ b
front_spelled bytes a b h =
    let p = chained (λ (rest : List ℕ). onto_front 34 (to_quote false rest)) (behind (34 ∷ []) bytes) (a, b) h in
    let q = onto_front_parts 34 (to_quote false p.0) a b p.2 in
    behind_spelled (34 ∷ []) bytes p.0 p.1 ∙ ap (λ (t : List ℕ). 34 ∷ t) (quote_parts p.0 false q.0 b q.2) ∙ ap (λ (t : List ℕ). t ++ b) (sym q.1)

-- ---- places and names

name_spelled : (bytes : List ℕ) (n : List ℕ × List ℕ) → name_at bytes ≡ Some n → bytes ≡ quoted_text n.0 ++ n.1
name_spelled bytes n h =
    let a = chained _ (quoted_front bytes) n h in
    let b = mapped _ (text_at a.0.0) n a.2 in
    front_spelled bytes a.0.0 a.0.1 a.1
    ∙ ap (λ (x : List ℕ). x ++ a.0.1) (text_spelled a.0.0 b.0 b.1)
    ∙ ap (λ (q : List ℕ × List ℕ). quoted_text q.0 ++ q.1) b.2

place_spelled : (bytes : List ℕ) (p : Place × List ℕ) → place_at bytes ≡ Some p → bytes ≡ place_text p.0 ++ p.1
place_spelled bytes p h = elim (either (top_at bytes) (thread_at bytes) p h) [
  | inl top ↦
      let a = mapped _ (behind (codes "top") bytes) p top in
      behind_spelled (codes "top") bytes a.0 a.1 ∙ ap (λ (q : Place × List ℕ). place_text q.0 ++ q.1) a.2
  | inr thread ↦
      let n = mapped _ (name_at bytes) p thread in
      name_spelled bytes n.0 n.1 ∙ ap (λ (q : Place × List ℕ). place_text q.0 ++ q.1) n.2
]

named : (name word : List ℕ) (f g : Fault) → word ≡ fault_name f → (bytes_eq name word ≡ true) × (f ≡ g) → name ≡ fault_name g
named name word f g e h = (bytes_eq-Decides name word).0 h.0 ∙ e ∙ ap (λ (x : Fault). fault_name x) h.1

fault_spelled : (name : List ℕ) (g : Fault) → fault_at name ≡ Some g → name ≡ fault_name g
fault_spelled name g h =
    elim (tried (bytes_eq name (codes "whole")) fault.Whole _ g h) [
      | inl a ↦ named name (codes "whole") fault.Whole g refl a
      | inr h1 ↦
          elim (tried (bytes_eq name (codes "fraction")) fault.Fraction _ g h1) [
            | inl a ↦ named name (codes "fraction") fault.Fraction g refl a
            | inr h2 ↦
                elim (tried (bytes_eq name (codes "zero")) fault.Zero _ g h2) [
                  | inl a ↦ named name (codes "zero") fault.Zero g refl a
                  | inr h3 ↦
                      elim (tried (bytes_eq name (codes "type")) fault.Mistyped _ g h3) [
                        | inl a ↦ named name (codes "type") fault.Mistyped g refl a
                        | inr h4 ↦
                            elim (tried (bytes_eq name (codes "early")) fault.Early _ g h4) [
                              | inl a ↦ named name (codes "early") fault.Early g refl a
                              | inr h5 ↦
                                  elim (tried (bytes_eq name (codes "index")) fault.Index _ g h5) [
                                    | inl a ↦ named name (codes "index") fault.Index g refl a
                                    | inr h6 ↦
                                        elim (tried (bytes_eq name (codes "weight")) fault.Weight _ g h6) [
                                          | inl a ↦ named name (codes "weight") fault.Weight g refl a
                                          | inr h7 ↦
                                              elim (tried (bytes_eq name (codes "nesting")) fault.Nesting _ g h7) [
                                                | inl a ↦ named name (codes "nesting") fault.Nesting g refl a
                                                | inr h8 ↦
                                                    elim (tried (bytes_eq name (codes "depth")) fault.Depth _ g h8) [
                                                      | inl a ↦ named name (codes "depth") fault.Depth g refl a
                                                      | inr h9 ↦
                                                          elim (tried (bytes_eq name (codes "mode")) fault.Mode _ g h9) [
                                                            | inl a ↦ named name (codes "mode") fault.Mode g refl a
                                                            | inr h10 ↦
                                                                elim (tried (bytes_eq name (codes "statement")) fault.Statement _ g h10) [
                                                                  | inl a ↦ named name (codes "statement") fault.Statement g refl a
                                                                  | inr h11 ↦
                                                                      named name (codes "truth") fault.Truth g refl (cond_some (bytes_eq name (codes "truth")) fault.Truth g h11)
                                                                ]
                                                          ]
                                                    ]
                                              ]
                                        ]
                                  ]
                            ]
                      ]
                ]
          ]
    ]

titled : (name word : List ℕ) (s t : Strategy) → word ≡ strategy_name s → (bytes_eq name word ≡ true) × (s ≡ t) → name ≡ strategy_name t
titled name word s t e h = (bytes_eq-Decides name word).0 h.0 ∙ e ∙ ap (λ (x : Strategy). strategy_name x) h.1

pub strategy_spelled : (name : List ℕ) (t : Strategy) → strategy_at name ≡ Some t → name ≡ strategy_name t
strategy_spelled name t h =
    elim (tried (bytes_eq name (codes "simple")) Simple _ t h) [
      | inl a ↦ titled name (codes "simple") Simple t refl a
      | inr h1 ↦
          elim (tried (bytes_eq name (codes "ordered")) Ordered _ t h1) [
            | inl a ↦ titled name (codes "ordered") Ordered t refl a
            | inr h2 ↦
                titled name (codes "priority") Priority t refl (cond_some (bytes_eq name (codes "priority")) Priority t h2)
          ]
    ]

-- ---- verdicts

limit_spelled : (word line : List ℕ) (limit : ℕ) (v w : Verdict) → limit < 2 ^ 64 → limit_at word limit v line ≡ Some w → (line ≡ word ++ decimal limit) × (v ≡ w)
limit_spelled word line limit v w small h =
    let a = chained (if_same limit v) (number_behind word limit line) w h in
    let b = cond_some (a.0 == limit) v w a.2 in
    (word_spelled word line limit a.0 small a.1 ∙ ap (λ (n : ℕ). word ++ decimal n) (eqb-true a.0 limit b.0), b.1)

quiet_spelled : (line : List ℕ) (v : Verdict) → quiet_at line ≡ Some v → line ≡ spelled_verdict v
quiet_spelled line v h =
    let a = mapped verdict.Quiet (number_behind (codes "quiet ") most_32 line) v h in
    word_spelled (codes "quiet ") line most_32 a.0 (omega arith) a.1 ∙ ap spelled_verdict a.2

steps_spelled : (line : List ℕ) (v : Verdict) → steps_at line ≡ Some v → line ≡ spelled_verdict v
steps_spelled line v h =
    let a = mapped verdict.Steps (number_behind (codes "limit steps ") most_32 line) v h in
    word_spelled (codes "limit steps ") line most_32 a.0 (omega arith) a.1 ∙ ap spelled_verdict a.2

limits_spelled : (line : List ℕ) (v : Verdict) → limits_at line ≡ Some v → line ≡ spelled_verdict v
limits_spelled line v h = elim (either (limit_at (codes "limit queue ") MOST_WAITING verdict.Queue line) _ v h) [
  | inl queue ↦ let a = limit_spelled (codes "limit queue ") line MOST_WAITING verdict.Queue v (omega arith) queue in a.0 ∙ ap spelled_verdict a.1
  | inr more ↦ elim (either (limit_at (codes "limit bthreads ") MOST_THREADS verdict.Threads line) _ v more) [
    | inl threads ↦ let a = limit_spelled (codes "limit bthreads ") line MOST_THREADS verdict.Threads v (omega arith) threads in a.0 ∙ ap spelled_verdict a.1
    | inr weight ↦ let a = limit_spelled (codes "limit weight ") line MOST_WEIGHT verdict.Weight v (omega arith) weight in a.0 ∙ ap spelled_verdict a.1
  ]
]

bad_end_spelled : (line : List ℕ) (v : Verdict) → bad_end_at line ≡ Some v → line ≡ spelled_verdict v
bad_end_spelled line v h =
    let a = mapped _ (option_and_then numbers_at (behind (codes "bad ") line)) v h in
    let b = chained numbers_at (behind (codes "bad ") line) a.0 a.1 in
    behind_spelled (codes "bad ") line b.0 b.1 ∙ ap (λ (t : List ℕ). codes "bad " ++ t) (numbers_spelled b.0 a.0 b.2) ∙ ap spelled_verdict a.2

numbered_spelled : (line : List ℕ) (v : Verdict) → numbered_at line ≡ Some v → line ≡ spelled_verdict v
numbered_spelled line v h = elim (either (quiet_at line) _ v h) [
  | inl quiet ↦ quiet_spelled line v quiet
  | inr h1 ↦ elim (either (steps_at line) _ v h1) [
    | inl steps ↦ steps_spelled line v steps
    | inr h2 ↦ elim (either (limits_at line) (bad_end_at line) v h2) [ inl limits ↦ limits_spelled line v limits | inr bad ↦ bad_end_spelled line v bad ]
  ]
]

violated_spelled : (line : List ℕ) (v : Verdict) → violated_at line ≡ Some v → line ≡ spelled_verdict v
violated_spelled line v h =
    let a = chained _ (behind (codes "violated ") line) v h in
    let b = chained said_at (place_at a.0) v a.2 in
    let c = chained _ (behind (32 ∷ []) b.0.1) v b.2 in
    let d = mapped _ (text_at c.0) v c.2 in
    let text = behind_spelled (32 ∷ []) b.0.1 c.0 c.1 ∙ ap (λ (t : List ℕ). 32 ∷ t) (text_spelled c.0 d.0 d.1) in
    let rest = place_spelled a.0 b.0 b.1 ∙ ap (λ (t : List ℕ). place_text b.0.0 ++ t) text in
    behind_spelled (codes "violated ") line a.0 a.1 ∙ ap (λ (t : List ℕ). codes "violated " ++ t) rest ∙ ap spelled_verdict d.2

faulty_spelled : (line : List ℕ) (v : Verdict) → faulty_at line ≡ Some v → line ≡ spelled_verdict v
faulty_spelled line v h =
    let a = chained _ (behind (codes "fault ") line) v h in
    let b = chained blamed_at (place_at a.0) v a.2 in
    let c = chained (kind_at b.0.0) (behind (32 ∷ []) b.0.1) v b.2 in
    let d = chained _ (around 32 c.0) v c.2 in
    let e = chained _ (number_at most_32 d.0.0) v d.2 in
    let f = mapped _ (fault_at d.0.1) v e.2 in
    let kind = around_spelled 32 c.0 d.0.0 d.0.1 d.1 ∙ ap₂ (λ (x y : List ℕ). x ++ (32 ∷ y)) (number_spelled e.0 d.0.0 e.1) (fault_spelled d.0.1 f.0 f.1) in
    let rest = place_spelled a.0 b.0 b.1 ∙ ap (λ (t : List ℕ). place_text b.0.0 ++ t) (behind_spelled (32 ∷ []) b.0.1 c.0 c.1 ∙ ap (λ (t : List ℕ). 32 ∷ t) kind) in
    behind_spelled (codes "fault ") line a.0 a.1 ∙ ap (λ (t : List ℕ). codes "fault " ++ t) rest ∙ ap spelled_verdict f.2

pub spent_parts : (p : Place) (bytes : List ℕ) (v : Verdict) → spent_by p bytes ≡ Some v → (bytes ≡ []) × (verdict.Spent p ≡ v)
spent_parts p [] v h = (refl, same_Some _ _ h)
spent_parts p (b ∷ bytes) v h = absurd (none-some _ h)

spent_spelled : (line : List ℕ) (v : Verdict) → spent_at line ≡ Some v → line ≡ spelled_verdict v
spent_spelled line v h =
    let a = chained _ (behind (codes "spent ") line) v h in
    let b = chained _ (place_at a.0) v a.2 in
    let c = spent_parts b.0.0 b.0.1 v b.2 in
    let rest = place_spelled a.0 b.0 b.1 ∙ ap (λ (t : List ℕ). place_text b.0.0 ++ t) c.0 ∙ append-nil (place_text b.0.0) in
    behind_spelled (codes "spent ") line a.0 a.1 ∙ ap (λ (t : List ℕ). codes "spent " ++ t) rest ∙ ap spelled_verdict c.1

placed_spelled : (line : List ℕ) (v : Verdict) → placed_at line ≡ Some v → line ≡ spelled_verdict v
placed_spelled line v h = elim (either (violated_at line) _ v h) [
  | inl violated ↦ violated_spelled line v violated
  | inr more ↦ elim (either (faulty_at line) (spent_at line) v more) [ inl faulty ↦ faulty_spelled line v faulty | inr spent ↦ spent_spelled line v spent ]
]

verdict_again : (line : List ℕ) (v : Verdict) → verdict_at line ≡ Some v → line ≡ spelled_verdict v
verdict_again line v h = elim (either (numbered_at line) (placed_at line) v h) [ inl numbered ↦ numbered_spelled line v numbered | inr placed ↦ placed_spelled line v placed ]

-- ---- records

in_spelled : (line : List ℕ) (r : Record) → in_at line ≡ Some r → line ≡ spelled_record r
in_spelled line r h =
    let a = chained handed_at (behind (codes "in ") line) r h in
    let b = chained _ (around 32 a.0) r a.2 in
    let c = chained _ (number_at most_32 b.0.0) r b.2 in
    let d = mapped _ (compact_event_at b.0.1) r c.2 in
    let rest = around_spelled 32 a.0 b.0.0 b.0.1 b.1 ∙ ap₂ (λ (x y : List ℕ). x ++ (32 ∷ y)) (number_spelled c.0 b.0.0 c.1) (event_spelled b.0.1 d.0 d.1) in
    behind_spelled (codes "in ") line a.0 a.1 ∙ ap (λ (t : List ℕ). codes "in " ++ t) rest ∙ ap spelled_record d.2

bad_spelled : (line : List ℕ) (r : Record) → bad_at line ≡ Some r → line ≡ spelled_record r
bad_spelled line r h =
    let a = mapped _ (option_and_then numbers_at (behind (codes "bad ") line)) r h in
    let b = chained numbers_at (behind (codes "bad ") line) a.0 a.1 in
    behind_spelled (codes "bad ") line b.0 b.1 ∙ ap (λ (t : List ℕ). codes "bad " ++ t) (numbers_spelled b.0 a.0 b.2) ∙ ap spelled_record a.2

eof_spelled : (line : List ℕ) (r : Record) → eof_at line ≡ Some r → line ≡ spelled_record r
eof_spelled line r h =
    let a = mapped Eof (number_behind (codes "eof ") most_32 line) r h in
    word_spelled (codes "eof ") line most_32 a.0 (omega arith) a.1 ∙ ap spelled_record a.2

sel_spelled : (line : List ℕ) (r : Record) → sel_at line ≡ Some r → line ≡ spelled_record r
sel_spelled line r h =
    let a = mapped Sel (option_and_then compact_event_at (behind (codes "sel ") line)) r h in
    let b = chained compact_event_at (behind (codes "sel ") line) a.0 a.1 in
    behind_spelled (codes "sel ") line b.0 b.1 ∙ ap (λ (t : List ℕ). codes "sel " ++ t) (event_spelled b.0 a.0 b.2) ∙ ap spelled_record a.2

end_spelled : (line : List ℕ) (r : Record) → end_at line ≡ Some r → line ≡ spelled_record r
end_spelled line r h =
    let a = mapped End (option_and_then verdict_at (behind (codes "end ") line)) r h in
    let b = chained verdict_at (behind (codes "end ") line) a.0 a.1 in
    behind_spelled (codes "end ") line b.0 b.1 ∙ ap (λ (t : List ℕ). codes "end " ++ t) (verdict_again b.0 a.0 b.2) ∙ ap spelled_record a.2

-- what holds of a line and its record at each kind of record, holds at every record that a line says
pub at_each_record : (P : List ℕ → Record → Type 0)
    → ((line : List ℕ) (r : Record) → in_at line ≡ Some r → P line r) → ((line : List ℕ) (r : Record) → bad_at line ≡ Some r → P line r)
    → ((line : List ℕ) (r : Record) → eof_at line ≡ Some r → P line r) → ((line : List ℕ) (r : Record) → sel_at line ≡ Some r → P line r)
    → ((line : List ℕ) (r : Record) → end_at line ≡ Some r → P line r) → (line : List ℕ) (r : Record) → record_at line ≡ Some r → P line r
unfolding record_at
at_each_record P entered bad over selected ended line r h = elim (either (in_at line) _ r h) [
  | inl a ↦ entered line r a
  | inr h1 ↦ elim (either (bad_at line) _ r h1) [
    | inl a ↦ bad line r a
    | inr h2 ↦ elim (either (eof_at line) _ r h2) [
      | inl a ↦ over line r a
      | inr h3 ↦ elim (either (sel_at line) (end_at line) r h3) [ inl a ↦ selected line r a | inr a ↦ ended line r a ]
    ]
  ]
]

spelled_again : (line : List ℕ) (r : Record) → record_at line ≡ Some r → line ≡ spelled_record r
spelled_again = at_each_record (λ line r. line ≡ spelled_record r) in_spelled bad_spelled eof_spelled sel_spelled end_spelled

-- a line that says a record is the record's text
pub record_again : (line : List ℕ) (r : Record) → record_at line ≡ Some r → line ≡ record_text r
record_again line r h = spelled_again line r h ∙ sym (record_is r)
