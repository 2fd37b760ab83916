-- What is read as a header and a complete list is their text.
use Rattle.std.proofs.Common.{◌≡◌, ◌∙◌, ◌<◌, ◌≤◌, ◌-◌, ◌^◌, ℕ, zero, suc, sym, ap, ap₂, subst, Bool, true, false, List, [], ◌++◌, ◌∷◌, length, Option, Some, None, Result, Ok, Err, refl, inl, inr, arith, append_assoc}
use Rattle.std.specs.Prelude.{◌==◌, decimal, codes, nat_le, is_ok, if◌then◌else◌}
use Rattle.std.specs.Str.{bytes_eq}
use Rattle.std.proofs.lemmas.Bool.Decides.{eqb_tells}
use Rattle.std.proofs.lemmas.Bool.{false≢true}
use Rattle.std.proofs.lemmas.Option.{cond_some, same_Some}
use Rattle.std.proofs.lemmas.Slice.Eq.{bytes_eq-Decides}
use Rattle.js_data.proofs.Shared.{chained}
use Rattle.bp_log.specs.Options.{PlainOptions}
use Rattle.bp_log.specs.Header.{PlainHeader}
use Rattle.bp_log.specs.Logs.{record_text, records_text, strategy_name, strategy_at, version_line, version_of, wait_name, wait_at, can_say}
use Rattle.bp_log.specs.declared.limits.TheConstants.{MOST_BYTES, MOST_BUDGET, MOST_STEPS, MOST_INJECTORS}
use Rattle.bp_log.specs.declared.options.Strategy.{Strategy}
use Rattle.bp_log.specs.Records.{is_complete}
use Rattle.bp_log.specs.declared.version.Version.{Version}
use Rattle.bp_log.specs.declared.version.Version.TheVariants.{First, Second}
use Rattle.bp_log.specs.declared.record.Record.{Record}
use Rattle.bp_log.specs.declared.record.Record.TheVariants.{In, Bad, Eof, Sel, End}
use Rattle.bp_reading.specs.declared.limits.TheConstants.{MOST_LINE_BYTES, MOST_RECORDS}
use Rattle.bp_reading.specs.Words.{most_64, behind, number_behind}
use Rattle.bp_reading.specs.Lines.{record_at}
use Rattle.bp_reading.specs.Heads.{Front, nothing, partial, excess, whole, onto, line_at, Refusal, version, header, cut, ◌>>=◌, or_else, said, line_room, version_at, strategy_behind, strategy_line_at, from_least, field, field_at, program_at, choice_at, limits_at, options_at, wait_behind, wait_line_at, settings_at, body_at, header_at}
use Rattle.bp_reading.specs.Reading.{Stage, after, Says, if_stands, next_record, behind_end, too_many, front_at, Next, found, finished, refused, next_found, next_of, next_at}
use Rattle.bp_reading.proofs.Spelled.{options_then}
use Rattle.bp_reading.proofs.Law.{regrouped, wait_then, body_then, header_then}
use Rattle.bp_reading.proofs.Again.{chosen, behind_spelled, word_spelled, strategy_spelled, record_again}

-- ---- answers taken apart

value : {A : Type 0} → A → Result A Refusal → A
value x (Ok y) = y
value x (Err e) = x

pub ok_is : {A : Type 0} (r : Result A Refusal) (x y : A) → r ≡ Ok x → r ≡ Ok y → x ≡ y
unfolding value
ok_is r x y h k = ap (value x) (sym h ∙ k)

err_ok : {A : Type 0} (e : Refusal) (x : A) → Err e ≡ Ok x → ⊥
err_ok e x h = false≢true (ap is_ok h)

pub bound : {A B : Type 0} (r : Result A Refusal) (f : A → Result B Refusal) (y : B) → (r >>= f) ≡ Ok y → (x : A) × (r ≡ Ok x) × (f x ≡ Ok y)
bound (Ok x) f y h = (x, refl, h)
bound (Err e) f y h = absurd (err_ok e y h)

or_parts : {A : Type 0} (f : Refusal) (r rest : List ℕ) (o : Option A) (x : A) → or_else f r o ≡ Ok (x, rest) → (o ≡ Some x) × (r ≡ rest)
or_parts f r rest None x h = absurd (err_ok f (x, rest) h)
or_parts {A} f r rest (Some y) x h =
    let e = ok_is _ (y, r) (x, rest) refl h in
    (ap (λ (p : A × List ℕ). Some p.0) e, ap (λ (p : A × List ℕ). p.1) e)

pub said_parts : {A : Type 0} (f : Refusal) (says : List ℕ → Option A) (front : Front) (x : A) (rest : List ℕ) → said f says front ≡ Ok (x, rest) → (line : List ℕ) × (front ≡ whole line rest) × (says line ≡ Some x)
said_parts f says nothing x rest h = absurd (err_ok cut (x, rest) h)
said_parts f says partial x rest h = absurd (err_ok cut (x, rest) h)
said_parts f says excess x rest h = absurd (err_ok f (x, rest) h)
said_parts f says (whole line r) x rest h =
    let p = or_parts f r rest (says line) x h in
    (line, ap (λ (t : List ℕ). whole line t) p.1, p.0)

-- ---- lines

kind : Front → ℕ
kind nothing = 0
kind partial = 1
kind excess = 2
kind (whole line rest) = 3

apart : (a b : Front) (m n : ℕ) → kind a ≡ m → kind b ≡ n → (m ≡ n → ⊥) → a ≡ b → ⊥
apart a b m n h k d e = d (sym h ∙ ap kind e ∙ k)

line_of : Front → List ℕ
line_of (whole line rest) = line
line_of _ = []

rest_of : Front → List ℕ
rest_of (whole line rest) = rest
rest_of _ = []

whole_is : (a b c d : List ℕ) → whole a b ≡ whole c d → (a ≡ c) × (b ≡ d)
unfolding line_of rest_of
whole_is a b c d h = (ap line_of h, ap rest_of h)

onto_parts : (b : ℕ) (front : Front) (line rest : List ℕ) → onto b front ≡ whole line rest → (l : List ℕ) × (line ≡ b ∷ l) × (front ≡ whole l rest)
unfolding kind
onto_parts b nothing line rest h = absurd (apart nothing (whole line rest) 0 3 refl refl (λ d. omega arith) h)
onto_parts b partial line rest h = absurd (apart partial (whole line rest) 1 3 refl refl (λ d. omega arith) h)
onto_parts b excess line rest h = absurd (apart excess (whole line rest) 2 3 refl refl (λ d. omega arith) h)
onto_parts b (whole l r) line rest h =
    let e = whole_is (b ∷ l) r line rest h in
    (l, sym e.0, ap (λ (t : List ℕ). whole l t) e.1)

pub line_spelled : (bytes : List ℕ) (room : ℕ) (line rest : List ℕ) → line_at room bytes ≡ whole line rest → bytes ≡ line ++ (10 ∷ rest)
unfolding kind
line_spelled [] room line rest h = absurd (apart partial (whole line rest) 1 3 refl refl (λ d. omega arith) h)
line_spelled (b ∷ bytes) room line rest h = elim (eqb_tells b 10) [
  | inl same ↦
      let e = whole_is [] bytes line rest (rw same.0 at h) in
      ap₂ (λ (x : ℕ) (t : List ℕ). x ∷ t) same.1 e.1 ∙ ap (λ (l : List ℕ). l ++ (10 ∷ rest)) e.0
  | inr other ↦ elim (chosen (room == 0) _ _ _ (rw other.0 at h)) [
    | inl none ↦ absurd (apart excess (whole line rest) 2 3 refl refl (λ d. omega arith) none.1)
    | inr some ↦
        let p = onto_parts b (line_at (room - 1) bytes) line rest some.1 in
        ap (λ (t : List ℕ). b ∷ t) (line_spelled bytes (room - 1) p.0 rest p.2) ∙ ap (λ (l : List ℕ). l ++ (10 ∷ rest)) (sym p.1)
  ]
]

-- the same line stands there, whatever follows
pub line_other : (bytes : List ℕ) (room : ℕ) (line rest other : List ℕ) → line_at room bytes ≡ whole line rest → line_at room (line ++ (10 ∷ other)) ≡ whole line other
unfolding kind
line_other [] room line rest other h = absurd (apart partial (whole line rest) 1 3 refl refl (λ d. omega arith) h)
line_other (b ∷ bytes) room line rest other h = elim (eqb_tells b 10) [
  | inl same ↦
      let e = whole_is [] bytes line rest (rw same.0 at h) in
      subst (λ (l : List ℕ). line_at room (l ++ (10 ∷ other)) ≡ whole l other) e.0 refl
  | inr differs ↦ elim (chosen (room == 0) _ _ _ (rw differs.0 at h)) [
    | inl none ↦ absurd (apart excess (whole line rest) 2 3 refl refl (λ d. omega arith) none.1)
    | inr some ↦
        let p = onto_parts b (line_at (room - 1) bytes) line rest some.1 in
        subst (λ (l : List ℕ). line_at room (l ++ (10 ∷ other)) ≡ whole l other) (sym p.1)
        (rw (differs.0, some.0) (ap (onto b) (line_other bytes (room - 1) p.0 rest other p.2)))
  ]
]

pub line_short : (bytes : List ℕ) (room : ℕ) (line rest : List ℕ) → line_at room bytes ≡ whole line rest → length line ≤ room
unfolding kind
line_short [] room line rest h = absurd (apart partial (whole line rest) 1 3 refl refl (λ d. omega arith) h)
line_short (b ∷ bytes) room line rest h = elim (eqb_tells b 10) [
  | inl same ↦ subst (λ (l : List ℕ). length l ≤ room) (whole_is [] bytes line rest (rw same.0 at h)).0 (omega arith)
  | inr other ↦ elim (eqb_tells room 0) [
    | inl none ↦ absurd (apart excess (whole line rest) 2 3 refl refl (λ d. omega arith) (rw (other.0, none.0) at h))
    | inr some ↦
        let p = onto_parts b (line_at (room - 1) bytes) line rest (rw (other.0, some.0) at h) in
        let short = line_short bytes (room - 1) p.0 rest p.2 in
        subst (λ (l : List ℕ). length l ≤ room) (sym p.1) (omega (arith, short, some.1))
  ]
]

-- a line is never nothing
onto_some : (b : ℕ) (front : Front) → onto b front ≡ nothing → front ≡ nothing
unfolding kind
onto_some b nothing h = refl
onto_some b partial h = absurd (apart partial nothing 1 0 refl refl (λ d. omega arith) h)
onto_some b excess h = absurd (apart excess nothing 2 0 refl refl (λ d. omega arith) h)
onto_some b (whole l r) h = absurd (apart (whole (b ∷ l) r) nothing 3 0 refl refl (λ d. omega arith) h)

line_some : (bytes : List ℕ) (room : ℕ) → line_at room bytes ≡ nothing → ⊥
unfolding kind
line_some [] room h = apart partial nothing 1 0 refl refl (λ d. omega arith) h
line_some (b ∷ bytes) room h = elim (chosen (b == 10) _ _ _ h) [
  | inl same ↦ apart (whole [] bytes) nothing 3 0 refl refl (λ d. omega arith) same.1
  | inr other ↦ elim (chosen (room == 0) _ _ _ other.1) [
    | inl none ↦ apart excess nothing 2 0 refl refl (λ d. omega arith) none.1
    | inr some ↦ line_some bytes (room - 1) (onto_some b (line_at (room - 1) bytes) some.1)
  ]
]

-- ---- the header

version_spelled : (line : List ℕ) (v : Version) → version_of line ≡ Some v → line ≡ version_line v
version_spelled line v h = elim (chosen (bytes_eq line (version_line First)) _ _ _ h) [
  | inl first ↦ (bytes_eq-Decides line (version_line First)).0 first.0 ∙ ap version_line (same_Some First v first.1)
  | inr other ↦ let second = cond_some (bytes_eq line (version_line Second)) Second v other.1 in
      (bytes_eq-Decides line (version_line Second)).0 second.0 ∙ ap version_line second.1
]

version_again : (bytes rest : List ℕ) (v : Version) → version_at bytes ≡ Ok (v, rest) → bytes ≡ version_line v ++ (10 ∷ rest)
unfolding version_at
version_again bytes rest v h =
    let p = said_parts version version_of (line_at MOST_LINE_BYTES bytes) v rest h in
    line_spelled bytes MOST_LINE_BYTES p.0 rest p.1 ∙ ap (λ (l : List ℕ). l ++ (10 ∷ rest)) (version_spelled p.0 v p.2)

wait_spelled : (name : List ℕ) (b : Bool) → wait_at name ≡ Some b → name ≡ wait_name b
wait_spelled name b h = elim (chosen (bytes_eq name (wait_name true)) _ _ _ h) [
  | inl first ↦ (bytes_eq-Decides name (wait_name true)).0 first.0 ∙ ap wait_name (same_Some true b first.1)
  | inr other ↦ let second = cond_some (bytes_eq name (wait_name false)) false b other.1 in
      (bytes_eq-Decides name (wait_name false)).0 second.0 ∙ ap wait_name second.1
]

-- what is read of waiting is what is said, and the first version says that a run waits
wait_again : (v : Version) (bytes rest : List ℕ) (b : Bool) → wait_line_at v bytes ≡ Ok (b, rest) → (10 ∷ bytes ≡ wait_then v b (10 ∷ rest)) × (can_say v b ≡ true)
unfolding wait_line_at
wait_again First bytes rest b h =
    let e = ok_is _ (true, bytes) (b, rest) refl h in
    (ap (λ (q : Bool × List ℕ). 10 ∷ q.1) e, sym (ap (λ (q : Bool × List ℕ). q.0) e))
wait_again Second bytes rest b h =
    let p = said_parts header wait_behind (line_at MOST_LINE_BYTES bytes) b rest h in
    let q = chained wait_at (behind (codes "wait ") p.0) b p.2 in (
      ap (λ (t : List ℕ). 10 ∷ t) (line_spelled bytes MOST_LINE_BYTES p.0 rest p.1
          ∙ ap (λ (l : List ℕ). l ++ (10 ∷ rest)) (behind_spelled (codes "wait ") p.0 q.0 q.1 ∙ ap (λ (t : List ℕ). codes "wait " ++ t) (wait_spelled q.0 b q.2))),
      refl,
    )

strategy_again : (bytes rest : List ℕ) (s : Strategy) → strategy_line_at bytes ≡ Ok (s, rest) → bytes ≡ codes "strategy " ++ (strategy_name s ++ (10 ∷ rest))
unfolding strategy_line_at
strategy_again bytes rest s h =
    let p = said_parts header strategy_behind (line_at MOST_LINE_BYTES bytes) s rest h in
    let q = chained strategy_at (behind (codes "strategy ") p.0) s p.2 in
    line_spelled bytes MOST_LINE_BYTES p.0 rest p.1
    ∙ ap (λ (l : List ℕ). l ++ (10 ∷ rest)) (behind_spelled (codes "strategy ") p.0 q.0 q.1 ∙ ap (λ (t : List ℕ). codes "strategy " ++ t) (strategy_spelled q.0 s q.2))

field_again : (w bytes rest : List ℕ) (least most n : ℕ) → most < 2 ^ 64 → field_at w least most bytes ≡ Ok (n, rest) → bytes ≡ w ++ (decimal n ++ (10 ∷ rest))
unfolding field_at
field_again w bytes rest least most n small h =
    let p = said_parts header (field w least most) (line_at MOST_LINE_BYTES bytes) n rest h in
    let q = chained (from_least least) (number_behind w most p.0) n p.2 in
    let r = cond_some (nat_le least q.0) q.0 n q.2 in
    line_spelled bytes MOST_LINE_BYTES p.0 rest p.1
    ∙ ap (λ (l : List ℕ). l ++ (10 ∷ rest)) (word_spelled w p.0 most q.0 small q.1 ∙ ap (λ (m : ℕ). w ++ decimal m) r.1)
    ∙ append_assoc w (decimal n) (10 ∷ rest)

pub program_again : (n : ℕ) (bytes p rest : List ℕ) → program_at n bytes ≡ Ok (p, rest) → (length p ≡ n) × (bytes ≡ p ++ (10 ∷ rest))
unfolding program_at
program_again zero [] p rest h = absurd (err_ok cut (p, rest) h)
program_again zero (b ∷ bytes) p rest h = elim (eqb_tells b 10) [
  | inl same ↦
      let e = ok_is _ ([], bytes) (p, rest) refl (rw same.0 at h) in
      let front : [] ≡ p = ap (λ (q : List ℕ × List ℕ). q.0) e in
      (sym (ap (λ (l : List ℕ). length l) front), ap₂ (λ (x : ℕ) (t : List ℕ). x ∷ t) same.1 (ap (λ (q : List ℕ × List ℕ). q.1) e) ∙ ap (λ (l : List ℕ). l ++ (10 ∷ rest)) front)
  | inr other ↦ absurd (err_ok header (p, rest) (rw other.0 at h))
]
program_again (suc n) [] p rest h = absurd (err_ok cut (p, rest) h)
program_again (suc n) (b ∷ bytes) p rest h =
    let x = bound (program_at n bytes) (λ (q : List ℕ × List ℕ). Ok (b ∷ q.0, q.1)) (p, rest) h in
    let y = program_again n bytes x.0.0 x.0.1 x.1 in
    let e = ok_is _ (b ∷ x.0.0, x.0.1) (p, rest) refl x.2 in
    let front : b ∷ x.0.0 ≡ p = ap (λ (q : List ℕ × List ℕ). q.0) e in (
      sym (ap (λ (l : List ℕ). length l) front) ∙ ap (λ (m : ℕ). suc m) y.0,
      ap (λ (t : List ℕ). b ∷ t) y.1 ∙ ap₂ (λ (l t : List ℕ). l ++ (10 ∷ t)) front (ap (λ (q : List ℕ × List ℕ). q.1) e),
    )

choice_again : (bytes rest : List ℕ) (c : Strategy × ℕ) → choice_at bytes ≡ Ok (c, rest)
    → bytes ≡ codes "strategy " ++ (strategy_name c.0 ++ (10 ∷ (codes "seed " ++ (decimal c.1 ++ (10 ∷ rest)))))
unfolding choice_at
choice_again bytes rest c h =
    let s = bound (strategy_line_at bytes) _ (c, rest) h in
    let n = bound (field_at (codes "seed ") 0 most_64 s.0.1) _ (c, rest) s.2 in
    let e = ok_is _ _ _ refl n.2 in
    strategy_again bytes s.0.1 s.0.0 s.1
    ∙ ap (λ (t : List ℕ). codes "strategy " ++ (strategy_name s.0.0 ++ (10 ∷ t))) (field_again (codes "seed ") s.0.1 n.0.1 0 most_64 n.0.0 (omega arith) n.1)
    ∙ ap (λ (q : (Strategy × ℕ) × List ℕ). codes "strategy " ++ (strategy_name q.0.0 ++ (10 ∷ (codes "seed " ++ (decimal q.0.1 ++ (10 ∷ q.1)))))) e

limits_again : (bytes rest : List ℕ) (l : ℕ × ℕ) → limits_at bytes ≡ Ok (l, rest)
    → bytes ≡ codes "budget " ++ (decimal l.0 ++ (10 ∷ (codes "steps " ++ (decimal l.1 ++ (10 ∷ rest)))))
unfolding limits_at
limits_again bytes rest l h =
    let b = bound (field_at (codes "budget ") 1 MOST_BUDGET bytes) _ (l, rest) h in
    let s = bound (field_at (codes "steps ") 1 MOST_STEPS b.0.1) _ (l, rest) b.2 in
    let e = ok_is _ _ _ refl s.2 in
    field_again (codes "budget ") bytes b.0.1 1 MOST_BUDGET b.0.0 (omega arith) b.1
    ∙ ap (λ (t : List ℕ). codes "budget " ++ (decimal b.0.0 ++ (10 ∷ t))) (field_again (codes "steps ") b.0.1 s.0.1 1 MOST_STEPS s.0.0 (omega arith) s.1)
    ∙ ap (λ (q : (ℕ × ℕ) × List ℕ). codes "budget " ++ (decimal q.0.0 ++ (10 ∷ (codes "steps " ++ (decimal q.0.1 ++ (10 ∷ q.1)))))) e

options_again : (bytes rest : List ℕ) (o : PlainOptions) → options_at bytes ≡ Ok (o, rest) → (bytes ≡ options_then o (10 ∷ rest)) × (o.wait ≡ true)
unfolding options_at options_then
options_again bytes rest o h =
    let c = bound (choice_at bytes) _ (o, rest) h in
    let l = bound (limits_at c.0.1) _ (o, rest) c.2 in
    let i = bound (field_at (codes "injectors ") 0 MOST_INJECTORS l.0.1) _ (o, rest) l.2 in
    let e = ok_is _ _ _ refl i.2 in
    let last = field_again (codes "injectors ") l.0.1 i.0.1 0 MOST_INJECTORS i.0.0 (omega arith) i.1 in
    let limits = limits_again c.0.1 l.0.1 l.0.0 l.1 ∙ ap (λ (t : List ℕ). codes "budget " ++ (decimal l.0.0.0 ++ (10 ∷ (codes "steps " ++ (decimal l.0.0.1 ++ (10 ∷ t)))))) last in (
      choice_again bytes c.0.1 c.0.0 c.1
          ∙ ap (λ (t : List ℕ). codes "strategy " ++ (strategy_name c.0.0.0 ++ (10 ∷ (codes "seed " ++ (decimal c.0.0.1 ++ (10 ∷ t)))))) limits
          ∙ ap (λ (q : PlainOptions × List ℕ). options_then q.0 (10 ∷ q.1)) e,
      sym (ap (λ (q : PlainOptions × List ℕ). q.0.wait) e),
    )

-- waiting is no part of the other options' text
options_then-wait : (o : PlainOptions) (b : Bool) (more : List ℕ) → options_then (record o { wait = b }) more ≡ options_then o more
unfolding options_then
options_then-wait o b more = refl

settings_again : (v : Version) (bytes rest : List ℕ) (o : PlainOptions) → settings_at v bytes ≡ Ok (o, rest) → (bytes ≡ options_then o (wait_then v o.wait (10 ∷ rest))) × (can_say v o.wait ≡ true)
unfolding settings_at
settings_again v bytes rest o h =
    let p = bound (options_at bytes) _ (o, rest) h in
    let w = bound (wait_line_at v p.0.1) _ (o, rest) p.2 in
    let e = ok_is _ _ _ refl w.2 in
    let said = wait_again v p.0.1 w.0.1 w.0.0 w.1 in (
      (options_again bytes p.0.1 p.0.0 p.1).0
          ∙ ap (options_then p.0.0) said.0
          ∙ sym (options_then-wait p.0.0 w.0.0 (wait_then v w.0.0 (10 ∷ w.0.1)))
          ∙ ap (λ (q : PlainOptions × List ℕ). options_then q.0 (wait_then v q.0.wait (10 ∷ q.1))) e,
      subst (λ (q : PlainOptions × List ℕ). can_say v q.0.wait ≡ true) e said.1,
    )

pub body_again : (v : Version) (bytes rest : List ℕ) (h : PlainHeader) → body_at v bytes ≡ Ok (h, rest) → (bytes ≡ body_then v h rest) × (can_say v h.options.wait ≡ true)
unfolding body_at
body_again v bytes rest h k =
    let o = bound (settings_at v bytes) _ (h, rest) k in
    let n = bound (field_at (codes "program ") 0 MOST_BYTES o.0.1) _ (h, rest) o.2 in
    let p = bound (program_at n.0.0 n.0.1) _ (h, rest) n.2 in
    let e = ok_is _ _ _ refl p.2 in
    let program = program_again n.0.0 n.0.1 p.0.0 p.0.1 p.1 in
    let size = field_again (codes "program ") o.0.1 n.0.1 0 MOST_BYTES n.0.0 (omega arith) n.1 in
    let tail = size ∙ ap₂ (λ (m : ℕ) (t : List ℕ). codes "program " ++ (decimal m ++ (10 ∷ t))) (sym program.0) program.1 in
    let said = settings_again v bytes o.0.1 o.0.0 o.1 in (
      said.0
          ∙ ap (λ (t : List ℕ). options_then o.0.0 (wait_then v o.0.0.wait (10 ∷ t))) tail
          ∙ ap (λ (q : PlainHeader × List ℕ). body_then v q.0 q.1) e,
      subst (λ (q : PlainHeader × List ℕ). can_say v q.0.options.wait ≡ true) e said.1,
    )

pub header_again : (bytes rest : List ℕ) (v : Version) (h : PlainHeader) → header_at bytes ≡ Ok ((v, h), rest) → (bytes ≡ header_then v h rest) × (can_say v h.options.wait ≡ true)
unfolding header_at header_then
header_again bytes rest v h k =
    let f = bound (version_at bytes) _ ((v, h), rest) k in
    let b = bound (body_at f.0.0 f.0.1) _ ((v, h), rest) f.2 in
    let e = ok_is _ _ _ refl b.2 in
    let said = body_again f.0.0 f.0.1 b.0.1 b.0.0 b.1 in (
      version_again bytes f.0.1 f.0.0 f.1
          ∙ ap (λ (t : List ℕ). version_line f.0.0 ++ (10 ∷ t)) said.0
          ∙ ap (λ (q : (Version × PlainHeader) × List ℕ). version_line q.0.0 ++ (10 ∷ body_then q.0.0 q.0.1 q.1)) e,
      subst (λ (q : (Version × PlainHeader) × List ℕ). can_say q.0.0 q.0.1.options.wait ≡ true) e said.1,
    )

-- ---- the records

sort : Next → ℕ
sort (found r rest) = 0
sort finished = 1
sort (refused f) = 2

unlike : (a b : Next) (m n : ℕ) → sort a ≡ m → sort b ≡ n → (m ≡ n → ⊥) → a ≡ b → ⊥
unlike a b m n h k d e = d (sym h ∙ ap sort e ∙ k)

of_found : Record → Next → Record
of_found r (found s rest) = s
of_found r _ = r

rest_found : Next → List ℕ
rest_found (found s rest) = rest
rest_found _ = []

pub found_is : (r s : Record) (a b : List ℕ) → found r a ≡ found s b → (r ≡ s) × (a ≡ b)
unfolding of_found rest_found
found_is r s a b h = (ap (of_found r) h, ap rest_found h)

never_ends : (s : Stage) (rest : List ℕ) (o : Option Record) → next_found s rest o ≡ finished → ⊥
unfolding sort
never_ends s rest None h = unlike _ finished 2 1 refl refl (λ d. omega arith) h
never_ends s rest (Some r) h = unlike (found r rest) finished 0 1 refl refl (λ d. omega arith) h

pub front_finished : (s : Stage) (front : Front) → next_of s front ≡ finished → front ≡ nothing
unfolding sort
front_finished s nothing h = refl
front_finished s partial h = absurd (unlike (refused cut) finished 2 1 refl refl (λ d. omega arith) h)
front_finished s excess h = absurd (unlike _ finished 2 1 refl refl (λ d. omega arith) h)
front_finished s (whole line rest) h = absurd (never_ends s rest (next_record s line) h)

ends_nothing : (bytes : List ℕ) → behind_end bytes ≡ nothing → bytes ≡ []
unfolding kind
ends_nothing [] h = refl
ends_nothing (b ∷ bytes) h = absurd (apart excess nothing 2 0 refl refl (λ d. omega arith) h)

many_something : (bytes : List ℕ) → too_many bytes ≡ nothing → ⊥
unfolding kind
many_something [] h = apart partial nothing 1 0 refl refl (λ d. omega arith) h
many_something (b ∷ bytes) h = apart excess nothing 2 0 refl refl (λ d. omega arith) h

-- before the end the bytes don't end well
pub goes_on : (s : Stage) (bytes : List ℕ) → (if nat_le MOST_RECORDS s.lines then too_many bytes else line_at (line_room s.version) bytes) ≡ nothing → ⊥
goes_on s bytes h = elim (chosen (nat_le MOST_RECORDS s.lines) _ _ _ h) [
  | inl full ↦ many_something bytes full.1
  | inr more ↦ line_some bytes (line_room s.version) more.1
]

pub finished_again : (s : Stage) (bytes : List ℕ) → next_at s bytes ≡ finished → bytes ≡ []
unfolding next_at
finished_again s bytes h = elim (chosen s.ended _ _ _ (front_finished s (front_at s bytes) h)) [
  | inl over ↦ ends_nothing bytes over.1
  | inr going ↦ absurd (goes_on s bytes going.1)
]

found_parts : (s : Stage) (rest other : List ℕ) (o : Option Record) (r : Record) → next_found s rest o ≡ found r other → (o ≡ Some r) × (rest ≡ other)
unfolding sort
found_parts s rest other None r h = absurd (unlike _ (found r other) 2 0 refl refl (λ d. omega arith) h)
found_parts s rest other (Some q) r h =
    let e = found_is q r rest other h in
    (ap (λ (x : Record). Some x) e.0, e.1)

pub front_found : (s : Stage) (front : Front) (r : Record) (rest : List ℕ) → next_of s front ≡ found r rest → (line : List ℕ) × (front ≡ whole line rest) × (next_record s line ≡ Some r)
unfolding sort
front_found s nothing r rest h = absurd (unlike finished (found r rest) 1 0 refl refl (λ d. omega arith) h)
front_found s partial r rest h = absurd (unlike (refused cut) (found r rest) 2 0 refl refl (λ d. omega arith) h)
front_found s excess r rest h = absurd (unlike _ (found r rest) 2 0 refl refl (λ d. omega arith) h)
front_found s (whole line other) r rest h =
    let p = found_parts s other rest (next_record s line) r h in
    (line, ap (λ (t : List ℕ). whole line t) p.1, p.0)

pub ends_no_line : (bytes line rest : List ℕ) → behind_end bytes ≡ whole line rest → ⊥
unfolding kind
ends_no_line [] line rest h = apart nothing (whole line rest) 0 3 refl refl (λ d. omega arith) h
ends_no_line (b ∷ bytes) line rest h = apart excess (whole line rest) 2 3 refl refl (λ d. omega arith) h

pub many_no_line : (bytes line rest : List ℕ) → too_many bytes ≡ whole line rest → ⊥
unfolding kind
many_no_line [] line rest h = apart partial (whole line rest) 1 3 refl refl (λ d. omega arith) h
many_no_line (b ∷ bytes) line rest h = apart excess (whole line rest) 2 3 refl refl (λ d. omega arith) h

front_line : (s : Stage) (bytes line rest : List ℕ) → front_at s bytes ≡ whole line rest → bytes ≡ line ++ (10 ∷ rest)
front_line s bytes line rest h = elim (chosen s.ended _ _ _ h) [
  | inl over ↦ absurd (ends_no_line bytes line rest over.1)
  | inr going ↦ elim (chosen (nat_le MOST_RECORDS s.lines) _ _ _ going.1) [
    | inl full ↦ absurd (many_no_line bytes line rest full.1)
    | inr more ↦ line_spelled bytes (line_room s.version) line rest more.1
  ]
]

pub found_again : (s : Stage) (bytes rest : List ℕ) (r : Record) → next_at s bytes ≡ found r rest → bytes ≡ record_text r ++ (10 ∷ rest)
unfolding next_at
found_again s bytes rest r h =
    let p = front_found s (front_at s bytes) r rest h in
    let q = chained (if_stands s) (record_at p.0) r p.2 in
    let t = cond_some _ q.0 r q.2 in
    front_line s bytes p.0 rest p.1 ∙ ap (λ (l : List ℕ). l ++ (10 ∷ rest)) (record_again p.0 q.0 q.1 ∙ ap (λ (x : Record). record_text x) t.1)

pub records_again : (rs : List Record) (s : Stage) (bytes : List ℕ) → Says s bytes rs None → bytes ≡ records_text rs
unfolding records_text
records_again [] s bytes h = finished_again s bytes h
records_again (r ∷ rs) s bytes h =
    found_again s bytes h.0 r h.1 ∙ ap (λ (t : List ℕ). record_text r ++ (10 ∷ t)) (records_again rs (after s r) h.0 h.2) ∙ sym (regrouped r rs)

never_stops : (s : Stage) (bytes : List ℕ) → s.ended ≡ false → next_at s bytes ≡ finished → ⊥
unfolding next_at
never_stops s bytes e h = elim (chosen s.ended _ _ _ (front_finished s (front_at s bytes) h)) [
  | inl over ↦ false≢true (sym e ∙ over.0)
  | inr going ↦ goes_on s bytes going.1
]

nothing_follows : (s : Stage) (bytes rest : List ℕ) (r : Record) → s.ended ≡ true → next_at s bytes ≡ found r rest → ⊥
unfolding next_at
nothing_follows s bytes rest r e h =
    let p = front_found s (front_at s bytes) r rest h in
    elim (chosen s.ended _ _ _ p.1) [
      | inl over ↦ ends_no_line bytes p.0 rest over.1
      | inr going ↦ false≢true (sym going.0 ∙ e)
    ]

pub complete_again : (rs : List Record) (s : Stage) (bytes : List ℕ) → s.ended ≡ false → Says s bytes rs None → is_complete rs ≡ true
complete_again [] s bytes e h = absurd (never_stops s bytes e h)
complete_again (In j x ∷ rs) s bytes e h = complete_again rs (after s (In j x)) h.0 e h.2
complete_again (Bad j n ∷ rs) s bytes e h = complete_again rs (after s (Bad j n)) h.0 e h.2
complete_again (Eof j ∷ rs) s bytes e h = complete_again rs (after s (Eof j)) h.0 e h.2
complete_again (Sel x ∷ rs) s bytes e h = complete_again rs (after s (Sel x)) h.0 e h.2
complete_again (End v ∷ []) s bytes e h = refl
complete_again (End v ∷ (r ∷ rs)) s bytes e h = absurd (nothing_follows (after s (End v)) h.0 h.2.0 r refl h.2.1)
