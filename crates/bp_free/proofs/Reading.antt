-- Reading the trace of a free run line by line: its events are known from its lines, and a line that may
-- not come next is wrong.
use Rattle.std.proofs.Common.{◌≡◌, ◌⊎◌, inl, inr, ℕ, suc, ◌+◌, ◌≤◌, Bool, true, false, ◌==◌, List, [], ◌∷◌, ◌++◌, length, take, drop, get_or, Option, Some, None, option_map, refl, sym, ap, ◌∙◌, subst, arith, append_assoc, append-nil, length-take, if◌then◌else◌}
use Rattle.std.proofs.lemmas.Option.{same_Some}
use Rattle.std.proofs.lemmas.List.{append_cancel_left, take-append-drop}
use Rattle.std.proofs.lemmas.Grind.{flat_map-append}
use Rattle.std.proofs.lemmas.Bool.{false≢true}
use Rattle.std.proofs.lemmas.Bool.Decides.{eqb_tells}
use Rattle.js_data.specs.Event.{PlainEvent}
use Rattle.js_data.proofs.Shared.{mapped}
use Rattle.bp_log.specs.Options.{PlainOptions}
use Rattle.bp_log.specs.Texts.{line_text, lines_text, whole_line}
use Rattle.bp_log.specs.declared.trace.Line.{Line}
use Rattle.bp_log.specs.declared.trace.Line.TheVariants as trace
use Rattle.bp_log.specs.declared.verdict.Verdict.{Verdict}
use Rattle.bp_run.specs.Bodies.{Code}
use Rattle.bp_run.specs.Configuration.{Stand}
use Rattle.bp_run.specs.Selecting.{Enabled}
use Rattle.bp_run.specs.Story.{line_of_choice}
use Rattle.bp_reading.proofs.Lines.{lacks, lacks_parts, cut_same}
use Rattle.bp_free.specs.Due.{Goes, due}
use Rattle.bp_free.specs.Free.{IsFreeEnd, free, free_from, place_in}
use Rattle.bp_free.specs.Traces.{FreeRun, free_text}
use Rattle.bp_free.specs.Wrong.{IsFirstWrong, IsRight, first_lines}
use Rattle.bp_free.specs.Reads.{Only}
use Rattle.bp_free.proofs.Lines.{lacks_line}
use Rattle.bp_free.proofs.Further.{Comes, adds, free_more, first_of, none_of, longer}
use Rattle.bp_free.proofs.Open.{finished}

-- ---- texts of lines

pub lines_append : (a b : List Line) → lines_text (a ++ b) ≡ lines_text a ++ lines_text b
unfolding lines_text
lines_append a b = flat_map-append whole_line a b

lines_cons : (d : Line) (ds : List Line) → lines_text (d ∷ ds) ≡ line_text d ++ 10 ∷ lines_text ds
unfolding lines_text
lines_cons d ds = append_assoc (line_text d) (10 ∷ []) (lines_text ds)

-- a line between lines
pub lines_at : (a : List Line) (d : Line) (ds : List Line) (rest : List ℕ) → lines_text (a ++ d ∷ ds) ++ rest ≡ lines_text a ++ (line_text d ++ 10 ∷ (lines_text ds ++ rest))
lines_at a d ds rest =
    ap (λ (x : List ℕ). x ++ rest) (lines_append a (d ∷ ds) ∙ ap (λ (x : List ℕ). lines_text a ++ x) (lines_cons d ds))
    ∙ append_assoc (lines_text a) (line_text d ++ 10 ∷ lines_text ds) rest
    ∙ ap (λ (x : List ℕ). lines_text a ++ x) (append_assoc (line_text d) (10 ∷ lines_text ds) rest)

-- ---- what stands after the events that are known

pub record ByEvent {O S : Type 0} (l : Code O S) (o : PlainOptions) (s : Stand O) (w : FreeRun l o) (more : List PlainEvent) : Type 0 where
  pub event : PlainEvent
  pub later : List PlainEvent
  pub next : Stand O
  pub comes : Comes l o event s next
  pub is : more ≡ event ∷ later
  pub rest : List ℕ
  pub text : free_text w ≡ lines_text s.lines ++ (line_text (line_of_choice event comes.place) ++ 10 ∷ rest)

pub record ByEnd {O S : Type 0} (l : Code O S) (o : PlainOptions) (s : Stand O) (w : FreeRun l o) (more : List PlainEvent) : Type 0 where
  pub is : more ≡ []
  pub ends : IsFreeEnd l o s w.verdict
  pub text : free_text w ≡ lines_text s.lines ++ (line_text (trace.Verdict w.verdict) ++ 10 ∷ [])

module _ {O S : Type 0} (l : Code O S) (o : PlainOptions) where
  tail_at : (es : List PlainEvent) (s : Stand O) (w : FreeRun l o) (more : List PlainEvent) → free_from l o more s ≡ Some w.stand → ByEvent l o s w more ⊎ ByEnd l o s w more
  tail_at es s w [] h =
      let same : s ≡ w.stand = none_of l o s w.stand h in
      inr (record {
        is = refl;
        ends = subst (λ (t : Stand O). IsFreeEnd l o t w.verdict) (sym same) w.ends;
        text = ap (λ (t : Stand O). lines_text t.lines ++ whole_line (trace.Verdict w.verdict)) (sym same);
      })
  tail_at es s w (e ∷ later) h =
      let f = first_of l o e later s w.stand h in
      let a = adds l o e s f.next f.comes in
      let k = longer l o later f.next w.stand f.later in
      let d = line_of_choice e f.comes.place in
      let lines : w.stand.lines ≡ s.lines ++ d ∷ (a.more ++ k.more) =
      k.lines ∙ ap (λ (ls : List Line). ls ++ k.more) a.lines ∙ append_assoc s.lines (d ∷ a.more) k.more in
      inl (record {
        event = e;
        later = later;
        next = f.next;
        comes = f.comes;
        is = refl;
        rest = lines_text (a.more ++ k.more) ++ whole_line (trace.Verdict w.verdict);
        text = ap (λ (ls : List Line). lines_text ls ++ whole_line (trace.Verdict w.verdict)) lines ∙ lines_at s.lines d (a.more ++ k.more) (whole_line (trace.Verdict w.verdict));
      })

  pub tail : (es : List PlainEvent) (s : Stand O) (w : FreeRun l o) (more : List PlainEvent) → free l o es ≡ Some s → w.events ≡ es ++ more → ByEvent l o s w more ⊎ ByEnd l o s w more
  tail es s w more h e = tail_at es s w more (sym (free_more l o es more s h) ∙ ap (free l o) (sym e) ∙ w.leads)

  -- ---- the events are known

  pub only_none : (front : List ℕ) → Only l o front []
  only_none front = λ w rest h. (w.events, refl)

  pub only_longer : (front more : List ℕ) (es : List PlainEvent) → Only l o front es → Only l o (front ++ more) es
  only_longer front more es h = λ w rest e. h w (more ++ rest) (e ∙ append_assoc front more rest)

  not_so : ◌≡◌ {A = ℕ} 118 101 → ⊥
  not_so h = omega (arith, h)

  -- the text of a line of an event begins with e, that of a verdict with v
  pub apart_at : (e : PlainEvent) (place : Option ℕ) (v : Verdict) → line_text (trace.Verdict v) ≡ line_text (line_of_choice e place) → ⊥
  unfolding line_text
  apart_at e None v h = not_so (ap (λ (t : List ℕ). get_or t 0 0) h)
  apart_at e (Some i) v h = not_so (ap (λ (t : List ℕ). get_or t 0 0) h)

  -- no other event that can be selected has this line
  abbrev pub IsApart : Stand O → PlainEvent → Option ℕ → Type 0
  IsApart s e place = (x : Enabled) (f : PlainEvent) (q : Option ℕ) → due l o s ≡ Goes x → place_in x s.queue f ≡ Some q → line_text (line_of_choice f q) ≡ line_text (line_of_choice e place) → f ≡ e

  only_tail : (es : List PlainEvent) (e : PlainEvent) (place : Option ℕ) (s : Stand O) (w : FreeRun l o) (more : List PlainEvent) (rest : List ℕ) → IsApart s e place →
      w.events ≡ es ++ more → free_text w ≡ lines_text s.lines ++ (line_text (line_of_choice e place) ++ 10 ∷ rest) →
      ByEvent l o s w more ⊎ ByEnd l o s w more → (later : List PlainEvent) × (w.events ≡ (es ++ e ∷ []) ++ later)
  only_tail es e place s w more rest a k h (inr t) =
      let c = append_cancel_left (lines_text s.lines) _ _ (sym t.text ∙ h) in
      let p = cut_same 10 (line_text (trace.Verdict w.verdict)) (line_text (line_of_choice e place)) [] rest (lacks_line (trace.Verdict w.verdict)) (lacks_line (line_of_choice e place)) c in
      absurd (apart_at e place w.verdict p.front)
  only_tail es e place s w more rest a k h (inl t) =
      let d = line_of_choice t.event t.comes.place in
      let c = append_cancel_left (lines_text s.lines) _ _ (sym t.text ∙ h) in
      let p = cut_same 10 (line_text d) (line_text (line_of_choice e place)) t.rest rest (lacks_line d) (lacks_line (line_of_choice e place)) c in
      let same : t.event ≡ e = a t.comes.enabled t.event t.comes.place t.comes.goes t.comes.placed p.front in
      (t.later, k ∙ ap (λ (fs : List PlainEvent). es ++ fs) (t.is ∙ ap (λ (f : PlainEvent). f ∷ t.later) same) ∙ sym (append_assoc es (e ∷ []) t.later))

  -- after the line of an event
  pub only_event : (es : List PlainEvent) (e : PlainEvent) (place : Option ℕ) (s : Stand O) → free l o es ≡ Some s → IsApart s e place → Only l o (lines_text s.lines) es →
      Only l o (lines_text (s.lines ++ line_of_choice e place ∷ [])) (es ++ e ∷ [])
  unfolding lines_text
  only_event es e place s h a known = λ w rest k.
      let at = k ∙ lines_at s.lines (line_of_choice e place) [] rest in
      let m = known w _ at in
      only_tail es e place s w m.0 rest a m.1 at (tail es s w m.0 h m.1)

  -- ---- the next line

  abbrev pub NextEvent : Stand O → Line → Type 0
  NextEvent s d = (e : PlainEvent) × (u : Stand O) × (c : Comes l o e s u) × (d ≡ line_of_choice e c.place)

  abbrev pub NextEnd : Stand O → Line → Type 0
  NextEnd s d = (v : Verdict) × IsFreeEnd l o s v × (d ≡ trace.Verdict v)

  -- this line may come next, where these are ahead
  abbrev pub NextLine : Stand O → List Line → Line → Type 0
  NextLine s (a ∷ later) d = d ≡ a
  NextLine s [] d = NextEvent s d ⊎ NextEnd s d

  pub record Next (s : Stand O) (said ahead : List Line) (w : FreeRun l o) : Type 0 where
    pub line : Line
    pub next : NextLine s ahead line
    pub rest : List ℕ
    pub text : free_text w ≡ lines_text said ++ (line_text line ++ 10 ∷ rest)

  next_due : (s : Stand O) (said : List Line) (a : Line) (later : List Line) (w : FreeRun l o) (more : List ℕ) → s.lines ≡ said ++ a ∷ later → free_text w ≡ lines_text s.lines ++ more → Next s said (a ∷ later) w
  next_due s said a later w more e h = record {
    line = a;
    next = refl;
    rest = lines_text later ++ more;
    text = h ∙ ap (λ (ls : List Line). lines_text ls ++ more) e ∙ lines_at said a later more;
  }

  pub next_at : (s : Stand O) (said ahead : List Line) (w : FreeRun l o) (more : List PlainEvent) → s.lines ≡ said ++ ahead → ByEvent l o s w more ⊎ ByEnd l o s w more → Next s said ahead w
  next_at s said (a ∷ later) w more e (inl t) = next_due s said a later w _ e t.text
  next_at s said (a ∷ later) w more e (inr t) = next_due s said a later w _ e t.text
  next_at s said [] w more e (inl t) = record {
    line = line_of_choice t.event t.comes.place;
    next = inl (t.event, t.next, t.comes, refl);
    rest = t.rest;
    text = t.text ∙ ap (λ (ls : List Line). lines_text ls ++ (line_text (line_of_choice t.event t.comes.place) ++ 10 ∷ t.rest)) (e ∙ append-nil said);
  }
  next_at s said [] w more e (inr t) = record {
    line = trace.Verdict w.verdict;
    next = inr (w.verdict, t.ends, refl);
    rest = [];
    text = t.text ∙ ap (λ (ls : List Line). lines_text ls ++ (line_text (trace.Verdict w.verdict) ++ 10 ∷ [])) (e ∙ append-nil said);
  }

  -- ---- lines that are counted

  pub record FirstLine (bytes front : List ℕ) : Type 0 where
    pub line : List ℕ
    pub rest : List ℕ
    pub bytes_are : bytes ≡ line ++ 10 ∷ rest
    pub front_is : front ≡ line ++ 10 ∷ []
    pub short : lacks 10 line ≡ true

  first_if : (b : ℕ) (bytes front : List ℕ) (t : Bool) → (b == 10) ≡ t → (t ≡ true → b ≡ 10) → option_map (λ f. b ∷ f) (first_lines (if t then 0 else 1) bytes) ≡ Some front →
      ((f : List ℕ) → first_lines 1 bytes ≡ Some f → FirstLine bytes f) → FirstLine (b ∷ bytes) front
  first_if b bytes front true q k h ih =
      let e : b ∷ [] ≡ front = same_Some _ _ h in
      record { line = []; rest = bytes; bytes_are = ap (λ (x : ℕ). x ∷ bytes) (k refl); front_is = sym e ∙ ap (λ (x : ℕ). x ∷ []) (k refl); short = refl }
  first_if b bytes front false q k h ih =
      let m = mapped (λ f. b ∷ f) (first_lines 1 bytes) front h in
      let r = ih m.0 m.1 in
      record {
        line = b ∷ r.line;
        rest = r.rest;
        bytes_are = ap (λ (x : List ℕ). b ∷ x) r.bytes_are;
        front_is = sym m.2 ∙ ap (λ (x : List ℕ). b ∷ x) r.front_is;
        short = rw (q, r.short) refl;
      }

  first_line : (bytes front : List ℕ) → first_lines 1 bytes ≡ Some front → FirstLine bytes front
  first_line [] front h = absurd (cc)
  first_line (b ∷ bytes) front h = elim (eqb_tells b 10) [
    | inl same ↦ first_if b bytes front true same.0 (λ _. same.1) (rw same.0 at h) (λ f k. first_line bytes f k)
    | inr other ↦ first_if b bytes front false other.0 (λ t. absurd (false≢true t)) (rw other.0 at h) (λ f k. first_line bytes f k)
  ]

  -- so many lines of bytes that begin with a line
  line_past : (a : List ℕ) (n : ℕ) (rest : List ℕ) → lacks 10 a ≡ true → first_lines (suc n) (a ++ 10 ∷ rest) ≡ option_map (λ f. a ++ 10 ∷ f) (first_lines n rest)
  line_past [] n rest h = refl
  line_past (x ∷ a) n rest h =
      let p = lacks_parts 10 x a h in
      rw (p.other, line_past a n rest p.rest) (map_twice (first_lines n rest))
    where
      map_twice : (q : Option (List ℕ)) → option_map (λ f. x ∷ f) (option_map (λ f. a ++ 10 ∷ f) q) ≡ option_map (λ f. x ∷ (a ++ 10 ∷ f)) q
      map_twice None = refl
      map_twice (Some f) = refl

  lines_past : (ds : List Line) (n : ℕ) (rest : List ℕ) → first_lines (length ds + n) (lines_text ds ++ rest) ≡ option_map (λ f. lines_text ds ++ f) (first_lines n rest)
  unfolding lines_text
  lines_past [] n rest = let z : 0 + n ≡ n = omega arith in ap (λ (m : ℕ). first_lines m rest) z ∙ nothing_before (first_lines n rest)
    where
      nothing_before : (q : Option (List ℕ)) → q ≡ option_map (λ f. f) q
      nothing_before None = refl
      nothing_before (Some f) = refl
  lines_past (d ∷ ds) n rest =
      let k : suc (length ds) + n ≡ suc (length ds + n) = omega arith in
      let at = lines_at [] d ds rest in
      ap (λ (m : ℕ). first_lines m (lines_text (d ∷ ds) ++ rest)) k
      ∙ ap (first_lines (suc (length ds + n))) at
      ∙ line_past (line_text d) (length ds + n) (lines_text ds ++ rest) (lacks_line d)
      ∙ ap (option_map (λ f. line_text d ++ 10 ∷ f)) (lines_past ds n rest)
      ∙ put_together (first_lines n rest)
    where
      put_together : (q : Option (List ℕ)) → option_map (λ f. line_text d ++ 10 ∷ f) (option_map (λ f. lines_text ds ++ f) q) ≡ option_map (λ f. lines_text (d ∷ ds) ++ f) q
      put_together None = refl
      put_together (Some f) = ap (λ (x : List ℕ). Some x) (sym (lines_at [] d ds f))

  -- ---- lines that are right

  pub right_before : (es : List PlainEvent) (s : Stand O) (said ahead : List Line) (rest : List ℕ) (k : ℕ) → free l o es ≡ Some s → s.lines ≡ said ++ ahead → k ≤ length said → IsRight l o (lines_text said ++ rest) k
  unfolding lines_text
  right_before es s said ahead rest k h e w =
      let r = finished l o es s h in
      let g = longer l o r.events s r.run.stand r.leads in
      let n : length (take k said) ≡ k = length-take k said ∙ (omega (arith, w)) in
      let cut = sym (take-append-drop k said) in
      let bytes : lines_text said ++ rest ≡ lines_text (take k said) ++ (lines_text (drop k said) ++ rest) =
      ap (λ (x : List Line). lines_text x ++ rest) cut ∙ ap (λ (x : List ℕ). x ++ rest) (lines_append (take k said) (drop k said)) ∙ append_assoc (lines_text (take k said)) (lines_text (drop k said)) rest in
      let m : length (take k said) + 0 ≡ k = omega (arith, n) in
      let more = drop k said ++ ahead ++ g.more in
      let lines : r.run.stand.lines ≡ take k said ++ more =
      g.lines ∙ ap (λ (x : List Line). x ++ g.more) (e ∙ ap (λ (x : List Line). x ++ ahead) cut ∙ append_assoc (take k said) (drop k said) ahead) ∙ append_assoc (take k said) (drop k said ++ ahead) g.more in
      let tail = whole_line (trace.Verdict r.run.verdict) in
      record {
        front = lines_text (take k said);
        there = ap (λ (x : List ℕ). first_lines k x) bytes ∙ ap (λ (x : ℕ). first_lines x (lines_text (take k said) ++ (lines_text (drop k said) ++ rest))) (sym m)
            ∙ lines_past (take k said) 0 (lines_text (drop k said) ++ rest) ∙ ap (λ (x : List ℕ). Some x) (append-nil (lines_text (take k said)));
        begins = record {
          run = r.run;
          rest = lines_text more ++ tail;
          text = ap (λ (x : List Line). lines_text x ++ tail) lines ∙ ap (λ (x : List ℕ). x ++ tail) (lines_append (take k said) more) ∙ append_assoc (lines_text (take k said)) (lines_text more) tail;
        };
      }

  -- ---- a line that is wrong

  pub one_more : (said : List Line) (rest front : List ℕ) → first_lines (length said + 1) (lines_text said ++ rest) ≡ Some front → (g : List ℕ) × FirstLine rest g × (front ≡ lines_text said ++ g)
  one_more said rest front h =
      let m = mapped (λ f. lines_text said ++ f) (first_lines 1 rest) front (sym (lines_past said 1 rest) ∙ h) in
      (m.0, first_line rest m.0 m.1, sym m.2)

  pub wrong_line : (es : List PlainEvent) (s : Stand O) (said ahead : List Line) (rest : List ℕ) → free l o es ≡ Some s → s.lines ≡ said ++ ahead → Only l o (lines_text said) es →
      ((d : Line) (more : List ℕ) → NextLine s ahead d → rest ≡ line_text d ++ 10 ∷ more → ⊥) → ¬ IsRight l o (lines_text said ++ rest) (length said + 1)
  wrong_line es s said ahead rest h e known none right =
      let m = one_more said rest right.front right.there in
      let f = m.1 in
      let w = right.begins.run in
      let at : free_text w ≡ lines_text said ++ (m.0 ++ right.begins.rest) =
      right.begins.text ∙ ap (λ (x : List ℕ). x ++ right.begins.rest) m.2 ∙ append_assoc (lines_text said) m.0 right.begins.rest in
      let k = known w _ at in
      let n = next_at s said ahead w k.0 e (tail es s w k.0 h k.1) in
      let both = append_cancel_left (lines_text said) _ _ (sym n.text ∙ at ∙ ap (λ (x : List ℕ). lines_text said ++ (x ++ right.begins.rest)) f.front_is ∙ ap (λ (x : List ℕ). lines_text said ++ x) (append_assoc f.line (10 ∷ []) right.begins.rest)) in
      let c = cut_same 10 (line_text n.line) f.line n.rest right.begins.rest (lacks_line n.line) f.short both in
      none n.line f.rest n.next (f.bytes_are ∙ ap (λ (x : List ℕ). x ++ 10 ∷ f.rest) (sym c.front))

  pub first_wrong : (es : List PlainEvent) (s : Stand O) (said ahead : List Line) (rest : List ℕ) → free l o es ≡ Some s → s.lines ≡ said ++ ahead → Only l o (lines_text said) es →
      ((d : Line) (more : List ℕ) → NextLine s ahead d → rest ≡ line_text d ++ 10 ∷ more → ⊥) → IsFirstWrong l o (lines_text said ++ rest) (length said + 1)
  first_wrong es s said ahead rest h e known none = record {
    counted = omega arith;
    wrong = wrong_line es s said ahead rest h e known none;
    earlier = λ k w. right_before es s said ahead rest k h e (omega (arith, w));
  }

  -- the first lines of the text of a free run are right
  pub right_with : (w : FreeRun l o) (ds : List Line) (more rest : List ℕ) (k : ℕ) → free_text w ≡ lines_text ds ++ more → k ≤ length ds → IsRight l o (lines_text ds ++ rest) k
  right_with w ds more rest k h n =
      let cut = sym (take-append-drop k ds) in
      let split : (x : List ℕ) → lines_text ds ++ x ≡ lines_text (take k ds) ++ (lines_text (drop k ds) ++ x) =
      λ x. ap (λ (y : List Line). lines_text y ++ x) cut ∙ ap (λ (y : List ℕ). y ++ x) (lines_append (take k ds) (drop k ds)) ∙ append_assoc (lines_text (take k ds)) (lines_text (drop k ds)) x in
      let long : length (take k ds) ≡ k = length-take k ds ∙ (omega (arith, n)) in
      let m : length (take k ds) + 0 ≡ k = omega (arith, long) in
      record {
        front = lines_text (take k ds);
        there = ap (λ (x : List ℕ). first_lines k x) (split rest) ∙ ap (λ (x : ℕ). first_lines x (lines_text (take k ds) ++ (lines_text (drop k ds) ++ rest))) (sym m)
            ∙ lines_past (take k ds) 0 (lines_text (drop k ds) ++ rest) ∙ ap (λ (x : List ℕ). Some x) (append-nil (lines_text (take k ds)));
        begins = record { run = w; rest = lines_text (drop k ds) ++ more; text = h ∙ split more };
      }
