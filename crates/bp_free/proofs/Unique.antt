-- There is one answer about each trace.
use Rattle.std.proofs.Common.{◌≡◌, ◌⊎◌, inl, inr, ℕ, ◌+◌, ◌-◌, ◌^◌, ◌<◌, ◌≤◌, min, Bool, true, false, nat_lt, List, [], ◌∷◌, ◌++◌, length, Some, refl, sym, ap, ◌∙◌, subst, arith, append_assoc, append-nil, length-append}
use Rattle.std.proofs.lemmas.Bool.{ltb-true, ltb-false}
use Rattle.std.proofs.lemmas.Option.{same_Some}
use Rattle.std.proofs.lemmas.List.{append_cancel_left}
use Rattle.js_data.specs.Event.{PlainEvent}
use Rattle.bp_log.specs.Options.{PlainOptions}
use Rattle.bp_log.specs.Texts.{line_text, lines_text, whole_line}
use Rattle.bp_log.specs.declared.trace.Line.{Line}
use Rattle.bp_log.specs.declared.trace.Line.TheVariants as trace
use Rattle.bp_run.specs.Bodies.{Code}
use Rattle.bp_run.specs.Configuration.{Stand}
use Rattle.bp_run.specs.Settling.{settle, opening}
use Rattle.bp_run.specs.Story.{line_of_choice}
use Rattle.bp_reading.proofs.Lines.{cut_same}
use Rattle.bp_free.specs.declared.answer.Answer.{Answer}
use Rattle.bp_free.specs.declared.answer.Answer.TheVariants.{Yes, No}
use Rattle.bp_free.specs.declared.answer.Reason.{Reason}
use Rattle.bp_free.specs.Free.{free_from, free}
use Rattle.bp_free.specs.Nexts.{SelectsReal}
use Rattle.bp_free.specs.Traces.{FreeRun, free_text, IsTrace}
use Rattle.bp_free.specs.Wrong.{IsFirstWrong}
use Rattle.bp_free.specs.Reasons.{line_in, reason_of, reason_behind}
use Rattle.bp_free.specs.Audits.{IsPast, IsWrongAmong, IsWrongBehind, IsNoTrace, IsAudit}
use Rattle.bp_free.specs.Reads.{Only}
use Rattle.bp_free.proofs.Lines.{lacks_line}
use Rattle.bp_free.proofs.Further.{adds, free_more, free_then, goes_on, first_of, none_of, longer}
use Rattle.bp_free.proofs.Open.{finished}
use Rattle.bp_free.proofs.Reading.{lines_append, lines_at, only_none, only_longer, only_event}
use Rattle.bp_free.proofs.Choosing.{apart}

-- ---- lists

none_left : (a m n : List PlainEvent) → a ≡ (a ++ m) ++ n → m ≡ []
none_left a [] n h = refl
none_left a (x ∷ m) n h =
    absurd (let k = ap (λ (xs : List PlainEvent). length xs) h in let i = length-append (a ++ x ∷ m) n in let j = length-append a (x ∷ m) in omega (arith, k, i, j))

-- two lists, each of which begins with the other
both_begin : (a b m n : List PlainEvent) → b ≡ a ++ m → a ≡ b ++ n → a ≡ b
both_begin a b m n h k =
    let none : m ≡ [] = none_left a m n (k ∙ ap (λ (xs : List PlainEvent). xs ++ n) h) in
    sym (append-nil a) ∙ ap (λ (xs : List PlainEvent). a ++ xs) (sym none) ∙ sym h

-- of two beginnings of one list the shorter begins the longer
begins_with : {A : Type 0} (a b c d : List A) → a ++ b ≡ c ++ d → length c ≤ length a → (x : List A) × (a ≡ c ++ x)
begins_with {A} a b [] d h n = (a, refl)
begins_with {A} [] b (y ∷ c) d h n = absurd (omega (arith, n))
begins_with {A} (x ∷ a) b (y ∷ c) d h n =
    let first : x ≡ y = ap (head_or x) h in
    let r = begins_with a b c d (ap tail_of h) (omega (arith, n)) in
    (r.0, ap (λ (z : A). z ∷ a) first ∙ ap (λ (zs : List A). y ∷ zs) r.1)
  where
    head_or : A → List A → A
    head_or z [] = z
    head_or z (w ∷ ws) = w

    tail_of : List A → List A
    tail_of [] = []
    tail_of (w ∷ ws) = ws

-- beginnings of one length are the same, and so is what follows
same_split : {A : Type 0} (a b c d : List A) → a ++ b ≡ c ++ d → length a ≡ length c → (a ≡ c) × (b ≡ d)
same_split {A} a b c d h n =
    let x = begins_with a b c d h (omega (arith, n)) in
    let none : x.0 ≡ [] = empty_tail x.0 (let k = ap (λ (zs : List A). length zs) x.1 in let i = length-append c x.0 in omega (arith, k, i, n)) in
    let same : a ≡ c = x.1 ∙ ap (λ (zs : List A). c ++ zs) none ∙ append-nil c in
    (same, append_cancel_left c b d (ap (λ (zs : List A). zs ++ b) (sym same) ∙ h))
  where
    empty_tail : (zs : List A) → length zs ≡ 0 → zs ≡ []
    empty_tail [] k = refl
    empty_tail (z ∷ zs) k = absurd (omega (arith, k))

-- a list is empty or has a last one
data Ending (es : List PlainEvent) : Type 0 where
  none : es ≡ [] → Ending es
  last : (fs : List PlainEvent) (e : PlainEvent) → es ≡ fs ++ e ∷ [] → Ending es

ending_of : (es : List PlainEvent) → Ending es
ending_of [] = none refl
ending_of (e ∷ es) = elim (ending_of es) [
  | none h ↦ last [] e (ap (λ (xs : List PlainEvent). e ∷ xs) h)
  | last fs f h ↦ last (e ∷ fs) f (ap (λ (xs : List PlainEvent). e ∷ xs) h)
]

-- ---- lines

no_lines : (u v : List ℕ) → lines_text [] ++ u ≡ lines_text [] ++ v → u ≡ v
unfolding lines_text
no_lines u v h = h

cons_at : (d : Line) (ds : List Line) → lines_text (d ∷ ds) ≡ line_text d ++ 10 ∷ lines_text ds
unfolding lines_text
cons_at d ds = append_assoc (line_text d) (10 ∷ []) (lines_text ds)

first_at : (d : Line) (ds : List Line) (rest : List ℕ) → lines_text (d ∷ ds) ++ rest ≡ line_text d ++ 10 ∷ (lines_text ds ++ rest)
first_at d ds rest = ap (λ (x : List ℕ). x ++ rest) (cons_at d ds) ∙ append_assoc (line_text d) (10 ∷ lines_text ds) rest

-- as many lines are the same lines where they begin the same bytes
same_lines : (xs ys : List Line) (u v : List ℕ) → length xs ≡ length ys → lines_text xs ++ u ≡ lines_text ys ++ v → (lines_text xs ≡ lines_text ys) × (u ≡ v)
same_lines [] [] u v n h = (refl, no_lines u v h)
same_lines [] (y ∷ ys) u v n h = absurd (omega (arith, n))
same_lines (x ∷ xs) [] u v n h = absurd (omega (arith, n))
same_lines (x ∷ xs) (y ∷ ys) u v n h =
    let p = cut_same 10 (line_text x) (line_text y) (lines_text xs ++ u) (lines_text ys ++ v) (lacks_line x) (lacks_line y) (sym (first_at x xs u) ∙ h ∙ first_at y ys v) in
    let k = same_lines xs ys u v (omega (arith, n)) p.rest in
    (cons_at x xs ∙ ap (λ (t : List ℕ). t ++ 10 ∷ lines_text xs) p.front ∙ ap (λ (t : List ℕ). line_text y ++ 10 ∷ t) k.0 ∙ sym (cons_at y ys), k.1)

-- the text of a free run is that of its lines and the line of its end
run_lines : {O S : Type 0} {l : Code O S} {o : PlainOptions} (w : FreeRun l o) → free_text w ≡ lines_text (w.stand.lines ++ trace.Verdict w.verdict ∷ [])
unfolding lines_text
run_lines w = sym (lines_append w.stand.lines (trace.Verdict w.verdict ∷ []) ∙ ap (λ (x : List ℕ). lines_text w.stand.lines ++ x) (append-nil (whole_line (trace.Verdict w.verdict))))

-- ---- the first wrong line

first_at_most : {O S : Type 0} (l : Code O S) (o : PlainOptions) (bytes : List ℕ) (j k : ℕ) (b : Bool) → nat_lt j k ≡ b → IsFirstWrong l o bytes j → IsFirstWrong l o bytes k → k ≤ j
first_at_most l o bytes j k true h v w = absurd (v.wrong (w.earlier j (ltb-true j k h)))
first_at_most l o bytes j k false h v w = ltb-false j k h

one_line : {O S : Type 0} (l : Code O S) (o : PlainOptions) (bytes : List ℕ) (j k : ℕ) → IsFirstWrong l o bytes j → IsFirstWrong l o bytes k → j ≡ k
one_line l o bytes j k v w =
    let up = first_at_most l o bytes j k (nat_lt j k) refl v w in
    let down = first_at_most l o bytes k j (nat_lt k j) refl w v in
    omega (arith, up, down)

-- ---- events are known from lines

module _ {O S : Type 0} (l : Code O S) (o : PlainOptions) (real : SelectsReal l o) where
  only_along : (es fs : List PlainEvent) (s t : Stand O) → free l o es ≡ Some s → Only l o (lines_text s.lines) es → free_from l o fs s ≡ Some t → Only l o (lines_text t.lines) (es ++ fs)
  only_along es [] s t h known k =
      subst (λ (x : List PlainEvent). Only l o (lines_text t.lines) x) (sym (append-nil es)) (subst (λ (x : Stand O). Only l o (lines_text x.lines) es) (none_of l o s t k) known)
  only_along es (e ∷ fs) s t h known k =
      let f = first_of l o e fs s t k in
      let c = f.comes in
      let d = line_of_choice e c.place in
      let g = adds l o e s f.next c in
      let a = apart l o s c.enabled e c.place c.goes (real es s c.enabled h c.goes) c.placed in
      let here = only_event l o es e c.place s h a known in
      let lines : f.next.lines ≡ (s.lines ++ d ∷ []) ++ g.more = g.lines ∙ sym (append_assoc s.lines (d ∷ []) g.more) in
      let there : Only l o (lines_text f.next.lines) (es ++ e ∷ []) =
      subst (λ (x : List ℕ). Only l o x (es ++ e ∷ [])) (sym (ap (λ (x : List Line). lines_text x) lines ∙ lines_append (s.lines ++ d ∷ []) g.more)) (only_longer l o (lines_text (s.lines ++ d ∷ [])) (lines_text g.more) (es ++ e ∷ []) here) in
      subst (λ (x : List PlainEvent). Only l o (lines_text t.lines) x) (append_assoc es (e ∷ []) fs)
      (only_along (es ++ e ∷ []) fs f.next t (free_then l o es e s f.next h (goes_on l o e s f.next c)) there f.later)

  starts : free l o [] ≡ Some (settle l opening)
  unfolding free free_from
  starts = refl

  from_start : (es : List PlainEvent) (s : Stand O) → free l o es ≡ Some s → free_from l o es (settle l opening) ≡ Some s
  unfolding free
  from_start es s k = k

  only_all : (es : List PlainEvent) (s : Stand O) → free l o es ≡ Some s → Only l o (lines_text s.lines) es
  only_all es s h = only_along [] es (settle l opening) s starts (only_none l o (lines_text (settle l opening).lines)) (from_start es s h)

  -- two free runs with one text have the same events
  same_events : (v w : FreeRun l o) → free_text v ≡ free_text w → v.events ≡ w.events
  same_events v w h =
      let a = only_all v.events v.stand v.leads w (whole_line (trace.Verdict v.verdict)) (sym h) in
      let b = only_all w.events w.stand w.leads v (whole_line (trace.Verdict w.verdict)) h in
      both_begin v.events w.events a.0 b.0 a.1 b.1

  one_yes : (bytes : List ℕ) (n m : ℕ) → IsTrace l o bytes n → IsTrace l o bytes m → n ≡ m
  one_yes bytes n m t u = sym t.many ∙ ap (λ (es : List PlainEvent). length es) (same_events t.run u.run (sym t.text ∙ u.text)) ∙ u.many

  -- ---- the events of a wrong line

  split_from : (fs gs : List PlainEvent) (s t : Stand O) → free_from l o (fs ++ gs) s ≡ Some t → (u : Stand O) × (free_from l o fs s ≡ Some u) × (free_from l o gs u ≡ Some t)
  unfolding free_from
  split_from [] gs s t h = (s, refl, h)
  split_from (e ∷ fs) gs s t h =
      let f = first_of l o e (fs ++ gs) s t h in
      let k = split_from fs gs f.next t f.later in
      (k.0, rw (goes_on l o e s f.next f.comes) k.1, k.2)

  split_at : (fs gs : List PlainEvent) (t : Stand O) → free l o (fs ++ gs) ≡ Some t → (u : Stand O) × (free l o fs ≡ Some u) × (free_from l o gs u ≡ Some t)
  unfolding free
  split_at fs gs t h = split_from fs gs (settle l opening) t h

  last_said : (fs : List PlainEvent) (f : PlainEvent) (s : Stand O) (said ahead : List Line) → free l o (fs ++ f ∷ []) ≡ Some s → s.lines ≡ said ++ ahead → IsPast l o (fs ++ f ∷ []) (length said) → Only l o (lines_text said) (fs ++ f ∷ [])
  last_said fs f s said ahead h e past =
      let k = split_at fs (f ∷ []) s h in
      let u = k.0 in
      let w = first_of l o f [] u s k.2 in
      let c = w.comes in
      let d = line_of_choice f c.place in
      let g = adds l o f u w.next c in
      let here = only_event l o fs f c.place u k.1 (apart l o u c.enabled f c.place c.goes (real fs u c.enabled k.1 c.goes) c.placed) (only_all fs u k.1) in
      let lines : said ++ ahead ≡ (u.lines ++ d ∷ []) ++ g.more =
      sym e ∙ ap (λ (x : Stand O). x.lines) (sym (none_of l o w.next s w.later)) ∙ g.lines ∙ sym (append_assoc u.lines (d ∷ []) g.more) in
      let there = past fs f u refl k.1 in
      let long = length-append u.lines (d ∷ []) in
      let x = begins_with said ahead (u.lines ++ d ∷ []) g.more lines (omega (arith, there, long)) in
      subst (λ (y : List ℕ). Only l o y (fs ++ f ∷ [])) (sym (ap (λ (y : List Line). lines_text y) x.1 ∙ lines_append (u.lines ++ d ∷ []) x.0))
      (only_longer l o (lines_text (u.lines ++ d ∷ [])) (lines_text x.0) (fs ++ f ∷ []) here)

  only_said : (es : List PlainEvent) (s : Stand O) (said ahead : List Line) → free l o es ≡ Some s → s.lines ≡ said ++ ahead → IsPast l o es (length said) → Only l o (lines_text said) es
  only_said es s said ahead h e past = elim (ending_of es) [
    | none k ↦ subst (λ (x : List PlainEvent). Only l o (lines_text said) x) (sym k) (only_none l o (lines_text said))
    | last fs f k ↦ subst (λ (x : List PlainEvent). Only l o (lines_text said) x) (sym k)
        (last_said fs f s said ahead (ap (free l o) (sym k) ∙ h) e (subst (λ (x : List PlainEvent). IsPast l o x (length said)) k past))
  ]

  -- no further event is among them
  no_more : (es fs xs : List PlainEvent) (s t : Stand O) (n : ℕ) → free l o es ≡ Some s → free l o fs ≡ Some t → fs ≡ es ++ xs → n ≤ length s.lines → IsPast l o fs n → xs ≡ []
  no_more es fs xs s t n h k e few past = elim (ending_of xs) [
    | none m ↦ m
    | last ys f m ↦
        let all : fs ≡ (es ++ ys) ++ f ∷ [] = e ∙ ap (λ (x : List PlainEvent). es ++ x) m ∙ sym (append_assoc es ys (f ∷ [])) in
        let u = split_at (es ++ ys) (f ∷ []) t (ap (free l o) (sym all) ∙ k) in
        let g = longer l o ys s u.0 (sym (free_more l o es ys s h) ∙ u.1) in
        let there = past (es ++ ys) f u.0 all u.1 in
        let long = ap (λ (x : List Line). length x) g.lines ∙ length-append s.lines g.more in
        absurd (omega (arith, there, long, few))
  ]

  module _ (bytes : List ℕ) (n : ℕ) (r q : Reason) where
    among_begin : (a : IsWrongAmong l o bytes n r) (b : IsWrongAmong l o bytes n q) → lines_text a.said ≡ lines_text b.said → (x y : List PlainEvent) × (a.events ++ x ≡ b.events ++ y)
    among_begin a b same =
        let w = finished l o b.events b.stand b.leads in
        let g = longer l o w.events b.stand w.run.stand w.leads in
        let tail = whole_line (trace.Verdict w.run.verdict) in
        let lines : w.run.stand.lines ≡ b.said ++ (b.ahead ++ g.more) = g.lines ∙ ap (λ (x : List Line). x ++ g.more) b.lines ∙ append_assoc b.said b.ahead g.more in
        let text : free_text w.run ≡ lines_text a.said ++ (lines_text (b.ahead ++ g.more) ++ tail) =
        ap (λ (x : List Line). lines_text x ++ tail) lines ∙ ap (λ (x : List ℕ). x ++ tail) (lines_append b.said (b.ahead ++ g.more)) ∙ append_assoc (lines_text b.said) (lines_text (b.ahead ++ g.more)) tail
        ∙ ap (λ (x : List ℕ). x ++ (lines_text (b.ahead ++ g.more) ++ tail)) (sym same) in
        let k = only_said a.events a.stand a.said a.ahead a.leads a.lines a.past w.run (lines_text (b.ahead ++ g.more) ++ tail) text in
        (k.0, w.events, sym k.1 ∙ w.all)

    as_said : (a : IsWrongAmong l o bytes n r) (b : IsWrongAmong l o bytes n q) → length a.said ≡ length b.said
    as_said a b = let u = a.number in let v = b.number in omega (arith, u, v)

    enough : (a : IsWrongAmong l o bytes n r) → length a.said ≤ length a.stand.lines
    enough a = let k = ap (λ (x : List Line). length x) a.lines ∙ length-append a.said a.ahead in omega (arith, k)

    enough_too : (b : IsWrongAmong l o bytes n q) → length b.said ≤ length b.stand.lines
    enough_too b = let k = ap (λ (x : List Line). length x) b.lines ∙ length-append b.said b.ahead in omega (arith, k)

    by_length : (a : IsWrongAmong l o bytes n r) (b : IsWrongAmong l o bytes n q) (x y : List PlainEvent) (t : Bool) → a.events ++ x ≡ b.events ++ y → nat_lt (length a.events) (length b.events) ≡ t → a.events ≡ b.events
    by_length a b x y true h k =
        let less = ltb-true (length a.events) (length b.events) k in
        let z = begins_with b.events y a.events x (sym h) (omega (arith, less)) in
        let few = enough a in
        let many = as_said a b in
        let none = no_more a.events b.events z.0 a.stand b.stand (length b.said) a.leads b.leads z.1 (omega (arith, few, many)) b.past in
        sym (z.1 ∙ ap (λ (e : List PlainEvent). a.events ++ e) none ∙ append-nil a.events)
    by_length a b x y false h k =
        let most = ltb-false (length a.events) (length b.events) k in
        let z = begins_with a.events x b.events y h (omega (arith, most)) in
        let few = enough_too b in
        let many = as_said a b in
        let none = no_more b.events a.events z.0 b.stand a.stand (length a.said) b.leads a.leads z.1 (omega (arith, few, many)) a.past in
        z.1 ∙ ap (λ (e : List PlainEvent). b.events ++ e) none ∙ append-nil b.events

    reasons_among : IsWrongAmong l o bytes n r → IsWrongAmong l o bytes n q → r ≡ q
    reasons_among a b =
        let many = as_said a b in
        let p = same_lines a.said b.said a.rest b.rest many (sym a.text ∙ b.text) in
        let k = among_begin a b p.0 in
        let events = by_length a b k.0 k.1 (nat_lt (length a.events) (length b.events)) k.2 refl in
        let stand : a.stand ≡ b.stand = same_Some a.stand b.stand (sym a.leads ∙ ap (free l o) events ∙ b.leads) in
        let ahead = same_split a.said a.ahead b.said b.ahead (sym a.lines ∙ ap (λ (x : Stand O). x.lines) stand ∙ b.lines) many in
        a.reason
        ∙ ap (λ (x : Stand O). reason_of l o x a.ahead (line_in a.rest)) stand
        ∙ ap (λ (x : List Line). reason_of l o b.stand x (line_in a.rest)) ahead.1
        ∙ ap (λ (x : List ℕ). reason_of l o b.stand b.ahead (line_in x)) p.1
        ∙ sym b.reason

    reasons_mixed : IsWrongAmong l o bytes n r → IsWrongBehind l o bytes n q → ⊥
    reasons_mixed a b =
        let ds = b.run.stand.lines ++ trace.Verdict b.run.verdict ∷ [] in
        let long = length-append b.run.stand.lines (trace.Verdict b.run.verdict ∷ []) in
        let u = a.number in
        let v = b.number in
        let p = same_lines a.said ds a.rest b.rest (omega (arith, long, u, v)) (sym a.text ∙ b.text ∙ ap (λ (x : List ℕ). x ++ b.rest) (run_lines b.run)) in
        let k = only_said a.events a.stand a.said a.ahead a.leads a.lines a.past b.run [] (run_lines b.run ∙ sym p.0 ∙ sym (append-nil (lines_text a.said))) in
        let g = longer l o k.0 a.stand b.run.stand (sym (free_more l o a.events k.0 a.stand a.leads) ∙ ap (free l o) (sym k.1) ∙ b.run.leads) in
        let more = ap (λ (x : List Line). length x) g.lines ∙ length-append a.stand.lines g.more in
        let few = enough a in
        omega (arith, more, few, u, v)

    reasons_behind : IsWrongBehind l o bytes n r → IsWrongBehind l o bytes n q → r ≡ q
    reasons_behind a b =
        let ds = a.run.stand.lines ++ trace.Verdict a.run.verdict ∷ [] in
        let es = b.run.stand.lines ++ trace.Verdict b.run.verdict ∷ [] in
        let long = length-append a.run.stand.lines (trace.Verdict a.run.verdict ∷ []) in
        let wide = length-append b.run.stand.lines (trace.Verdict b.run.verdict ∷ []) in
        let u = a.number in
        let v = b.number in
        let p = same_lines ds es a.rest b.rest (omega (arith, long, wide, u, v)) (ap (λ (x : List ℕ). x ++ a.rest) (sym (run_lines a.run)) ∙ sym a.text ∙ b.text ∙ ap (λ (x : List ℕ). x ++ b.rest) (run_lines b.run)) in
        a.reason ∙ ap (λ (x : List ℕ). reason_behind (line_in x)) p.1 ∙ sym b.reason

  one_reason : (bytes : List ℕ) (n : ℕ) (r q : Reason) → IsWrongAmong l o bytes n r ⊎ IsWrongBehind l o bytes n r → IsWrongAmong l o bytes n q ⊎ IsWrongBehind l o bytes n q → r ≡ q
  one_reason bytes n r q (inl a) (inl b) = reasons_among bytes n r q a b
  one_reason bytes n r q (inl a) (inr b) = absurd (reasons_mixed bytes n r q a b)
  one_reason bytes n r q (inr a) (inl b) = absurd (reasons_mixed bytes n q r b a)
  one_reason bytes n r q (inr a) (inr b) = reasons_behind bytes n r q a b

  one_no : (bytes : List ℕ) (n m : ℕ) (r q : Reason) → IsNoTrace l o bytes n r → IsNoTrace l o bytes m q → No n r ≡ No m q
  one_no bytes n m r q a b =
      let line = one_line l o bytes a.line b.line a.first b.first in
      let number : n ≡ m = a.told ∙ ap (λ (k : ℕ). min k (2 ^ 32 - 1)) line ∙ sym b.told in
      let reason : r ≡ q = one_reason bytes b.line r q (subst (λ (k : ℕ). IsWrongAmong l o bytes k r ⊎ IsWrongBehind l o bytes k r) line a.why) b.why in
      ap (λ (k : ℕ). No k r) number ∙ ap (λ (x : Reason). No m x) reason

  -- there is one answer
  pub one_answer : (bytes : List ℕ) (a b : Answer) → IsAudit l o bytes a → IsAudit l o bytes b → a ≡ b
  one_answer bytes (Yes n) (Yes m) h k = ap (λ (x : ℕ). Yes x) (one_yes bytes n m h k)
  one_answer bytes (Yes n) (No m q) h k = absurd (k.none n h)
  one_answer bytes (No n r) (Yes m) h k = absurd (h.none m k)
  one_answer bytes (No n r) (No m q) h k = one_no bytes n m r q h k
