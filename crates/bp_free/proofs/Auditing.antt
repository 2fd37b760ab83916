-- How far a trace was read, and what can be answered there.
use Rattle.std.proofs.Common.{◌≡◌, ◌⊎◌, inl, inr, ℕ, ◌+◌, ◌-◌, ◌^◌, min, List, [], ◌∷◌, ◌++◌, length, Some, if◌then◌else◌, refl, sym, ap, ◌∙◌, subst, arith, append_assoc, append-nil, length-append}
use Rattle.std.proofs.lemmas.Option.{same_Some}
use Rattle.std.proofs.lemmas.List.{append_cancel_left}
use Rattle.js_data.specs.Event.{PlainEvent}
use Rattle.bp_log.specs.Options.{PlainOptions}
use Rattle.bp_log.specs.Texts.{line_text, lines_text, whole_line}
use Rattle.bp_log.specs.declared.trace.Line.{Line}
use Rattle.bp_log.specs.declared.trace.Line.TheVariants as trace
use Rattle.bp_log.specs.declared.verdict.Verdict.{Verdict}
use Rattle.bp_run.specs.Bodies.{Code}
use Rattle.bp_run.specs.Configuration.{Stand}
use Rattle.bp_run.specs.Settling.{settle, opening}
use Rattle.bp_log.specs.declared.verdict.Verdict.TheVariants as verdict
use Rattle.bp_run.specs.Story.{line_of_choice}
use Rattle.bp_run.proofs.Growing.{grown_settle}
use Rattle.bp_reading.proofs.Lines.{cut_same}
use Rattle.bp_free.specs.declared.answer.Reason.{Reason}
use Rattle.bp_free.specs.Free.{IsFreeEnd, free, free_from}
use Rattle.bp_free.specs.Nexts.{MayBeNext}
use Rattle.bp_free.specs.Traces.{FreeRun, IsTrace, free_text}
use Rattle.bp_free.specs.Wrong.{IsFirstWrong, IsRight}
use Rattle.bp_free.specs.Reasons.{line_in, reason_behind, reason_of}
use Rattle.bp_free.specs.Audits.{IsNoTrace}
use Rattle.bp_free.specs.Reads.{Only, IsRead}
use Rattle.bp_free.proofs.Lines.{lacks_line}
use Rattle.bp_free.proofs.Further.{Comes, goes_on, adds, free_then, first_of, none_of}
use Rattle.bp_free.proofs.Reading.{only_none, only_longer, only_event, IsApart, NextLine, next_at, first_wrong, lines_append, lines_at, ByEvent, ByEnd, tail, one_more, apart_at, right_with}

-- the same with the last one apart
same_last : (es fs : List PlainEvent) (e f : PlainEvent) → es ++ e ∷ [] ≡ fs ++ f ∷ [] → es ≡ fs
same_last [] [] e f h = refl
same_last [] (x ∷ []) e f h = absurd (let n = ap (λ (xs : List PlainEvent). length xs) h in omega (arith, n))
same_last [] (x ∷ y ∷ fs) e f h = absurd (let n = ap (λ (xs : List PlainEvent). length xs) h in omega (arith, n))
same_last (x ∷ []) [] e f h = absurd (let n = ap (λ (xs : List PlainEvent). length xs) h in omega (arith, n))
same_last (x ∷ y ∷ es) [] e f h = absurd (let n = ap (λ (xs : List PlainEvent). length xs) h in omega (arith, n))
same_last (x ∷ es) (y ∷ fs) e f h =
    let first : x ≡ y = ap (head_or x) h in
    let rest : es ++ e ∷ [] ≡ fs ++ f ∷ [] = ap tail_of h in
    ap (λ (z : PlainEvent). z ∷ es) first ∙ ap (λ (zs : List PlainEvent). y ∷ zs) (same_last es fs e f rest)
  where
    head_or : PlainEvent → List PlainEvent → PlainEvent
    head_or d [] = d
    head_or d (z ∷ zs) = z

    tail_of : List PlainEvent → List PlainEvent
    tail_of [] = []
    tail_of (z ∷ zs) = zs

module _ {O S : Type 0} (l : Code O S) (o : PlainOptions) (bytes : List ℕ) where
  -- at the start
  pub started : IsRead l o bytes [] (settle l opening) [] (settle l opening).lines bytes
  unfolding free free_from lines_text
  started = record {
    leads = refl;
    lines = refl;
    text = refl;
    only = only_none l o (lines_text []);
    past = λ es e s h k. absurd (none_last es e h);
  }
    where
      none_last : (es : List PlainEvent) (e : PlainEvent) → [] ≡ es ++ e ∷ [] → ⊥
      none_last es e h = let n = ap (λ (xs : List PlainEvent). length xs) h in let m = length-append es (e ∷ []) in omega (arith, n, m)

  -- lines that are due were there
  pub passed : (es : List PlainEvent) (s : Stand O) (said now ahead : List Line) (rest left : List ℕ) → IsRead l o bytes es s said (now ++ ahead) rest → rest ≡ lines_text now ++ left → IsRead l o bytes es s (said ++ now) ahead left
  passed es s said now ahead rest left r h = record {
    leads = r.leads;
    lines = r.lines ∙ sym (append_assoc said now ahead);
    text = r.text ∙ ap (λ (x : List ℕ). lines_text said ++ x) h ∙ sym (append_assoc (lines_text said) (lines_text now) left) ∙ ap (λ (x : List ℕ). x ++ left) (sym (lines_append said now));
    only = subst (λ (x : List ℕ). Only l o x es) (sym (lines_append said now)) (only_longer l o (lines_text said) (lines_text now) es r.only);
    past = λ fs f b e k. let w = r.past fs f b e k in let n = length-append said now in omega (arith, w, n);
  }

  -- the line of an event that may come was there
  pub record Chosen (es : List PlainEvent) (e : PlainEvent) (s u : Stand O) (said : List Line) (d : Line) (left : List ℕ) : Type 0 where
    pub more : List Line
    pub read : IsRead l o bytes (es ++ e ∷ []) u (said ++ d ∷ []) more left
    pub transitions : u.transitions ≡ s.transitions + 1

  pub chosen : (es : List PlainEvent) (e : PlainEvent) (s u : Stand O) (said : List Line) (rest left : List ℕ) (c : Comes l o e s u) → IsApart l o s e c.place → IsRead l o bytes es s said [] rest →
      rest ≡ line_text (line_of_choice e c.place) ++ 10 ∷ left → Chosen es e s u said (line_of_choice e c.place) left
  unfolding lines_text
  chosen es e s u said rest left c a r h =
      let d = line_of_choice e c.place in
      let g = adds l o e s u c in
      let all : s.lines ≡ said = r.lines ∙ append-nil said in
      let same : lines_text (s.lines ++ d ∷ []) ≡ lines_text (said ++ d ∷ []) = ap (λ (x : List Line). lines_text (x ++ d ∷ [])) all in
      record {
        more = g.more;
        read = record {
          leads = free_then l o es e s u r.leads (goes_on l o e s u c);
          lines = g.lines ∙ ap (λ (x : List Line). x ++ d ∷ g.more) all ∙ sym (append_assoc said (d ∷ []) g.more);
          text = r.text ∙ ap (λ (x : List ℕ). lines_text said ++ x) h ∙ sym (lines_at said d [] left);
          only = subst (λ (x : List ℕ). Only l o x (es ++ e ∷ [])) same
              (only_event l o es e c.place s r.leads a (subst (λ (x : List Line). Only l o (lines_text x) es) (sym all) r.only));
          past = λ fs f b k w.
              let fs_are : fs ≡ es = sym (same_last es fs e f k) in
              let b_is : b ≡ s = same_Some b s (sym w ∙ ap (free l o) fs_are ∙ r.leads) in
              let n : length b.lines ≡ length said = ap (λ (t : Stand O). length t.lines) b_is ∙ ap (λ (x : List Line). length x) all in
              let m = length-append said (d ∷ []) in
              omega (arith, n, m);
        };
        transitions = g.transitions;
      }

  -- ---- answers

  -- no whole trace begins so
  no_trace : (es : List PlainEvent) (s : Stand O) (said ahead : List Line) (rest : List ℕ) → IsRead l o bytes es s said ahead rest →
      ((d : Line) (more : List ℕ) → NextLine l o s ahead d → rest ≡ line_text d ++ 10 ∷ more → ⊥) → (m : ℕ) → ¬ IsTrace l o bytes m
  no_trace es s said ahead rest r none m t =
      let w = t.run in
      let at : free_text w ≡ lines_text said ++ rest = sym t.text ∙ r.text in
      let k = r.only w rest at in
      let n = next_at l o s said ahead w k.0 r.lines (tail l o es s w k.0 r.leads k.1) in
      none n.line n.rest n.next (append_cancel_left (lines_text said) _ _ (sym at ∙ n.text))

  pub refused : (es : List PlainEvent) (s : Stand O) (said ahead : List Line) (rest : List ℕ) (n : ℕ) (why : Reason) → IsRead l o bytes es s said ahead rest →
      ((d : Line) (more : List ℕ) → NextLine l o s ahead d → rest ≡ line_text d ++ 10 ∷ more → ⊥) → why ≡ reason_of l o s ahead (line_in rest) → n ≡ min (length said + 1) (2 ^ 32 - 1) → IsNoTrace l o bytes n why
  refused es s said ahead rest n why r none because told = record {
    line = length said + 1;
    first = subst (λ (x : List ℕ). IsFirstWrong l o x (length said + 1)) (sym r.text) (first_wrong l o es s said ahead rest r.leads r.lines r.only none);
    none = no_trace es s said ahead rest r none;
    why = inl (record {
      events = es;
      stand = s;
      leads = r.leads;
      said = said;
      ahead = ahead;
      lines = r.lines;
      past = r.past;
      rest = rest;
      text = r.text;
      number = refl;
      reason = because;
    });
    told = told;
  }

  many_from : (es : List PlainEvent) (s t : Stand O) → free_from l o es s ≡ Some t → t.transitions ≡ s.transitions + length es
  many_from [] s t h = let e = ap (λ (u : Stand O). u.transitions) (none_of l o s t h) in omega (arith, e)
  many_from (e ∷ es) s t h =
      let f = first_of l o e es s t h in
      let a = (adds l o e s f.next f.comes).transitions in
      let k = many_from es f.next t f.later in
      omega (arith, a, k)

  pub many : (es : List PlainEvent) (s : Stand O) → free l o es ≡ Some s → s.transitions ≡ length es
  unfolding free
  many es s h = let k = many_from es (settle l opening) s h in let z = (grown_settle l opening).transitions in omega (arith, k, z)

  text_here : (es : List PlainEvent) (s : Stand O) (v : Verdict) (said : List Line) (rest left : List ℕ) → IsRead l o bytes es s said [] rest → rest ≡ line_text (trace.Verdict v) ++ 10 ∷ left →
      bytes ≡ (lines_text s.lines ++ whole_line (trace.Verdict v)) ++ left
  text_here es s v said rest left r h =
      r.text ∙ ap (λ (x : List ℕ). lines_text said ++ x) (h ∙ sym (append_assoc (line_text (trace.Verdict v)) (10 ∷ []) left))
      ∙ sym (append_assoc (lines_text said) (whole_line (trace.Verdict v)) left)
      ∙ ap (λ (x : List Line). (lines_text x ++ whole_line (trace.Verdict v)) ++ left) (sym (r.lines ∙ append-nil said))

  pub accepted : (es : List PlainEvent) (s : Stand O) (v : Verdict) (said : List Line) (rest : List ℕ) (n : ℕ) → IsRead l o bytes es s said [] rest → IsFreeEnd l o s v → rest ≡ line_text (trace.Verdict v) ++ 10 ∷ [] →
      n ≡ s.transitions → IsTrace l o bytes n
  accepted es s v said rest n r e h k = record {
    run = record { events = es; stand = s; verdict = v; leads = r.leads; ends = e };
    text = text_here es s v said rest [] r h ∙ append-nil (lines_text s.lines ++ whole_line (trace.Verdict v));
    many = sym (many es s r.leads) ∙ sym k;
  }

  -- the run that ends here is not the whole trace
  behind_tail : (es : List PlainEvent) (s : Stand O) (v : Verdict) (w : FreeRun l o) (more : List PlainEvent) (later : List ℕ) → ByEvent l o s w more ⊎ ByEnd l o s w more →
      free_text w ≡ lines_text s.lines ++ (line_text (trace.Verdict v) ++ 10 ∷ later) → later ≡ []
  behind_tail es s v w more later (inl t) h =
      let d = line_of_choice t.event t.comes.place in
      let c = append_cancel_left (lines_text s.lines) _ _ (sym t.text ∙ h) in
      let p = cut_same 10 (line_text d) (line_text (trace.Verdict v)) t.rest later (lacks_line d) (lacks_line (trace.Verdict v)) c in
      absurd (apart_at l o t.event t.comes.place v (sym p.front))
  behind_tail es s v w more later (inr t) h =
      let c = append_cancel_left (lines_text s.lines) _ _ (sym t.text ∙ h) in
      let p = cut_same 10 (line_text (trace.Verdict w.verdict)) (line_text (trace.Verdict v)) [] later (lacks_line (trace.Verdict w.verdict)) (lacks_line (trace.Verdict v)) c in
      sym p.rest

  not_empty : (line rest later : List ℕ) → (line ++ 10 ∷ []) ++ later ≡ [] → ⊥
  not_empty line rest later h = let n = ap (λ (xs : List ℕ). length xs) h in let m = length-append (line ++ 10 ∷ []) later in let k = length-append line (10 ∷ []) in omega (arith, n, m, k)

  behind_wrong : (es : List PlainEvent) (s : Stand O) (v : Verdict) (said : List Line) (left : List ℕ) → free l o es ≡ Some s → s.lines ≡ said → Only l o (lines_text said) es →
      ¬ IsRight l o (lines_text (said ++ trace.Verdict v ∷ []) ++ left) (length (said ++ trace.Verdict v ∷ []) + 1)
  unfolding lines_text
  behind_wrong es s v said left h all known right =
      let w = right.begins.run in
      let ds = said ++ trace.Verdict v ∷ [] in
      let m = one_more l o ds left right.front right.there in
      let at : free_text w ≡ lines_text ds ++ (m.0 ++ right.begins.rest) =
      right.begins.text ∙ ap (λ (x : List ℕ). x ++ right.begins.rest) m.2 ∙ append_assoc (lines_text ds) m.0 right.begins.rest in
      let here : free_text w ≡ lines_text said ++ (line_text (trace.Verdict v) ++ 10 ∷ (m.0 ++ right.begins.rest)) = at ∙ lines_at said (trace.Verdict v) [] (m.0 ++ right.begins.rest) in
      let k = known w _ here in
      let none = behind_tail es s v w k.0 (m.0 ++ right.begins.rest) (tail l o es s w k.0 h k.1)
      (here ∙ ap (λ (x : List Line). lines_text x ++ (line_text (trace.Verdict v) ++ 10 ∷ (m.0 ++ right.begins.rest))) (sym all)) in
      not_empty m.1.line m.1.rest right.begins.rest (ap (λ (x : List ℕ). x ++ right.begins.rest) (sym m.1.front_is) ∙ none)

  no_trace_behind : (es : List PlainEvent) (s : Stand O) (v : Verdict) (said : List Line) (rest left : List ℕ) → IsRead l o bytes es s said [] rest → rest ≡ line_text (trace.Verdict v) ++ 10 ∷ left →
      (left ≡ [] → ⊥) → (m : ℕ) → ¬ IsTrace l o bytes m
  no_trace_behind es s v said rest left r h some m t =
      let w = t.run in
      let at : free_text w ≡ lines_text said ++ rest = sym t.text ∙ r.text in
      let k = r.only w rest at in
      let all : s.lines ≡ said = r.lines ∙ append-nil said in
      some (behind_tail es s v w k.0 left (tail l o es s w k.0 r.leads k.1)
      (at ∙ ap (λ (x : List ℕ). lines_text said ++ x) h ∙ ap (λ (x : List Line). lines_text x ++ (line_text (trace.Verdict v) ++ 10 ∷ left)) (sym all)))

  pub refused_behind : (es : List PlainEvent) (s : Stand O) (v : Verdict) (said : List Line) (rest left : List ℕ) (n : ℕ) (why : Reason) → IsRead l o bytes es s said [] rest → IsFreeEnd l o s v →
      rest ≡ line_text (trace.Verdict v) ++ 10 ∷ left → (left ≡ [] → ⊥) → why ≡ reason_behind (line_in left) → n ≡ min (length said + 2) (2 ^ 32 - 1) → IsNoTrace l o bytes n why
  unfolding lines_text
  refused_behind es s v said rest left n why r e h some because told =
      let ds = said ++ trace.Verdict v ∷ [] in
      let all : s.lines ≡ said = r.lines ∙ append-nil said in
      let long : length ds ≡ length said + 1 = length-append said (trace.Verdict v ∷ []) in
      let w : FreeRun l o = record { events = es; stand = s; verdict = v; leads = r.leads; ends = e } in
      let whole_text : free_text w ≡ lines_text ds ++ [] =
      ap (λ (x : List Line). lines_text x ++ whole_line (trace.Verdict v)) all ∙ sym (lines_at said (trace.Verdict v) [] []) in
      let bytes_are : bytes ≡ lines_text ds ++ left = r.text ∙ ap (λ (x : List ℕ). lines_text said ++ x) h ∙ sym (lines_at said (trace.Verdict v) [] left) in
      let number : length ds + 1 ≡ length said + 2 = omega (arith, long) in
      record {
        line = length said + 2;
        first = record {
          counted = omega arith;
          wrong = subst (λ (k : ℕ). ¬ IsRight l o bytes k) number (subst (λ (x : List ℕ). ¬ IsRight l o x (length ds + 1)) (sym bytes_are) (behind_wrong es s v said left r.leads all r.only));
          earlier = λ k below. subst (λ (x : List ℕ). IsRight l o x k) (sym bytes_are) (right_with l o w ds [] left k whole_text (omega (arith, below, long)));
        };
        none = no_trace_behind es s v said rest left r h some;
        why = inr (record {
          run = w;
          rest = left;
          text = text_here es s v said rest left r h;
          number = ap (λ (x : List Line). length x + 2) (sym all);
          reason = because;
        });
        told = told;
      }

  -- ---- the same in the words of the definitions

  may_be_next : (s : Stand O) (d : Line) → NextLine l o s [] d → MayBeNext l o s d
  may_be_next s d (inl n) =
      let c = n.2 in
      inl (record { event = n.0; place = c.place; comes = record { enabled = c.enabled; goes = c.goes; placed = c.placed; free = rw (c.reach_is, c.light) refl }; line = n.3 })
  may_be_next s d (inr n) = inr (record { verdict = n.0; ends = n.1; line = n.2 })

  -- where the run rests, the next line is none that may come
  pub refused_at_rest : (es : List PlainEvent) (s : Stand O) (said : List Line) (rest : List ℕ) (n : ℕ) (why : Reason) → IsRead l o bytes es s said [] rest →
      ((d : Line) (more : List ℕ) → MayBeNext l o s d → rest ≡ line_text d ++ 10 ∷ more → ⊥) → why ≡ reason_of l o s [] (line_in rest) → n ≡ min (length said + 1) (2 ^ 32 - 1) → IsNoTrace l o bytes n why
  refused_at_rest es s said rest n why r none because told = refused es s said [] rest n why r (λ d more m. none d more (may_be_next s d m)) because told

  -- a line that is due is not there
  pub refused_ahead : (es : List PlainEvent) (s : Stand O) (said : List Line) (d : Line) (later : List Line) (rest : List ℕ) (n : ℕ) (why : Reason) → IsRead l o bytes es s said (d ∷ later) rest →
      ((more : List ℕ) → rest ≡ line_text d ++ 10 ∷ more → ⊥) → why ≡ reason_of l o s (d ∷ later) (line_in rest) → n ≡ min (length said + 1) (2 ^ 32 - 1) → IsNoTrace l o bytes n why
  refused_ahead es s said d later rest n why r none because told =
      refused es s said (d ∷ later) rest n why r (λ x more m e. none more (e ∙ ap (λ (y : Line). line_text y ++ 10 ∷ more) m)) because told
