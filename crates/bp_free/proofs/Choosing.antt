-- Where a free run rests: what its next line may be, and how the line tells the event.
use Rattle.std.proofs.Common.{◌≡◌, ◌⊎◌, inl, inr, ℕ, Bool, true, false, List, [], ◌∷◌, Option, Some, None, refl, sym, ap, ◌∙◌, subst, slice_get, if◌then◌else◌}
use Rattle.std.specs.List.{list_any, All, AllByRecursion}
use Rattle.std.specs.Str.{bytes_eq}
use Rattle.std.proofs.lemmas.Bool.{false≢true, or_cases}
use Rattle.std.proofs.lemmas.Slice.Eq.{bytes_eq-Decides}
use Rattle.std.proofs.lemmas.Option.{same_Some, none-some}
use Rattle.std.proofs.lemmas.List.Elements.{recursion_from_All}
use Rattle.js_data.specs.Event.{PlainEvent, IsEvent, same_event}
use Rattle.js_data.specs.JsonText.{event_text}
use Rattle.js_data.proofs.SameEvent.{same_event-sound}
use Rattle.js_data.proofs.Shared.{chained}
use Rattle.js_json.specs.Json.{event_at}
use Rattle.js_json.proofs.Law.{event_back}
use Rattle.bp_log.specs.Options.{PlainOptions}
use Rattle.bp_log.specs.Texts.{line_text}
use Rattle.bp_log.specs.declared.trace.Line.{Line}
use Rattle.bp_log.specs.declared.trace.Line.TheVariants as trace
use Rattle.bp_log.specs.declared.verdict.Verdict.{Verdict}
use Rattle.bp_run.specs.Bodies.{Code}
use Rattle.bp_run.specs.Configuration.{Stand}
use Rattle.bp_run.specs.Selecting.{Enabled}
use Rattle.bp_run.specs.Story.{line_of_choice}
use Rattle.bp_reading.specs.Words.{compact_event_at, if_compact}
use Rattle.bp_free.specs.Due.{Due, Ends, Goes, Idles, due}
use Rattle.bp_free.specs.Free.{EndsBy, StopsAt, place_among, place_in, stop_of}
use Rattle.bp_free.specs.Nexts.{AreReal, MayBeNext}
use Rattle.bp_free.specs.Reasons.{external_in, internal_in}
use Rattle.bp_free.proofs.Reading.{IsApart}

-- ---- an event is read back from its line

compact_at : (t : List ℕ) (e : PlainEvent) → event_text e ≡ t → if_compact t e ≡ Some e
compact_at t e h = rw ((bytes_eq-Decides (event_text e) t).1 h) refl

compact_back : (e : PlainEvent) → IsEvent e → compact_event_at (event_text e) ≡ Some e
compact_back e h = rw (event_back e h) (compact_at (event_text e) e refl)

pub internal_back : (e : PlainEvent) → IsEvent e → internal_in (line_text (trace.Event e)) ≡ Some e
unfolding line_text
internal_back e h = compact_back e h

pub external_back : (e : PlainEvent) → IsEvent e → external_in (line_text (trace.External e)) ≡ Some e
unfolding line_text
external_back e h = compact_back e h

pub internal_not_external : (e : PlainEvent) → internal_in (line_text (trace.External e)) ≡ None
unfolding line_text
internal_not_external e = refl

pub external_not_internal : (e : PlainEvent) → external_in (line_text (trace.Event e)) ≡ None
unfolding line_text
external_not_internal e = refl

pub internal_not_verdict : (v : Verdict) → internal_in (line_text (trace.Verdict v)) ≡ None
unfolding line_text
internal_not_verdict v = refl

pub external_not_verdict : (v : Verdict) → external_in (line_text (trace.Verdict v)) ≡ None
unfolding line_text
external_not_verdict v = refl

-- what is read is there
compact_spelled : (t : List ℕ) (e : PlainEvent) → compact_event_at t ≡ Some e → t ≡ event_text e
compact_spelled t e h = let c = chained (if_compact t) (event_at t) e h in by_text c.0 (bytes_eq (event_text c.0) t) refl c.2
  where
    by_text : (f : PlainEvent) (b : Bool) → bytes_eq (event_text f) t ≡ b → (if b then Some f else None) ≡ Some e → t ≡ event_text e
    by_text f true q k = sym ((bytes_eq-Decides (event_text f) t).0 q) ∙ ap event_text (same_Some f e k)
    by_text f false q k = absurd (none-some _ k)

pub compact_is : (t : List ℕ) (e : PlainEvent) → compact_event_at t ≡ Some e → t ≡ event_text e
compact_is t e h = compact_spelled t e h

-- ---- events that can be selected are real

any_real : (e : PlainEvent) (cs : List PlainEvent) → AllByRecursion IsEvent cs → list_any (same_event e) cs ≡ true → IsEvent e
any_real e [] a h = absurd (false≢true h)
any_real e (c ∷ cs) a h = elim (or_cases (same_event e c) (list_any (same_event e) cs) h) [
  | inl here ↦ subst IsEvent (sym (same_event-sound e c here)) a.0
  | inr there ↦ any_real e cs a.1 there
]

pub if_any : (b : Bool) (q : Option ℕ) → (if b then Some None else None) ≡ Some q → b ≡ true
if_any true q h = refl
if_any false q h = absurd (none-some _ h)

pub at_place : (i : ℕ) (e f : PlainEvent) (b : Bool) (q : Option ℕ) → same_event e f ≡ b → (if b then Some (Some i) else None) ≡ Some q → e ≡ f
at_place i e f true q s h = same_event-sound e f s
at_place i e f false q s h = absurd (none-some _ h)

placed_real_at : (inner : List PlainEvent) (outer : Option ℕ) (queue : List PlainEvent) (e : PlainEvent) (q : Option ℕ) → AreReal (record { inner = inner; outer = outer }) queue → place_among inner outer queue e ≡ Some q → IsEvent e
placed_real_at (c ∷ cs) outer queue e q r h = any_real e (c ∷ cs) (recursion_from_All IsEvent (c ∷ cs) r.inner) (if_any (list_any (same_event e) (c ∷ cs)) q h)
placed_real_at [] None queue e q r h = absurd (none-some _ h)
placed_real_at [] (Some i) queue e q r h =
    let c = chained (λ f. if same_event e f then Some (Some i) else None) (slice_get queue i) q h in
    subst IsEvent (sym (at_place i e c.0 (same_event e c.0) q refl c.2)) (r.outer i c.0 refl c.1)

pub placed_real : (x : Enabled) (queue : List PlainEvent) (e : PlainEvent) (q : Option ℕ) → AreReal x queue → place_in x queue e ≡ Some q → IsEvent e
placed_real x queue e q r h = placed_real_at x.inner x.outer queue e q r h

-- ---- lines tell events apart

pub same_goes : (x y : Enabled) → Goes x ≡ Goes y → x ≡ y
same_goes x y h = ap (λ (d : Due). elim d [ Ends v ↦ x | Goes z ↦ z | Idles v ↦ x ]) h

lines_apart : (e f : PlainEvent) (p q : Option ℕ) → IsEvent e → IsEvent f → line_text (line_of_choice f q) ≡ line_text (line_of_choice e p) → f ≡ e
lines_apart e f None None r s h = same_Some f e (sym (internal_back f s) ∙ ap internal_in h ∙ internal_back e r)
lines_apart e f (Some i) (Some j) r s h = same_Some f e (sym (external_back f s) ∙ ap external_in h ∙ external_back e r)
lines_apart e f None (Some j) r s h = absurd (none-some _ (sym (internal_not_external f) ∙ ap internal_in h ∙ internal_back e r))
lines_apart e f (Some i) None r s h = absurd (none-some _ (sym (external_not_internal f) ∙ ap external_in h ∙ external_back e r))

module _ {O S : Type 0} (l : Code O S) (o : PlainOptions) (s : Stand O) where
  pub apart : (x : Enabled) (e : PlainEvent) (place : Option ℕ) → due l o s ≡ Goes x → AreReal x s.queue → place_in x s.queue e ≡ Some place → IsApart l o s e place
  apart x e place g r p = λ y f q h k same.
      let z : y ≡ x = same_goes y x (sym h ∙ g) in
      let at : place_in x s.queue f ≡ Some q = ap (λ (w : Enabled). place_in w s.queue f) (sym z) ∙ k in
      lines_apart e f place q (placed_real x s.queue e place r p) (placed_real x s.queue f q r at) same

  -- ---- what the next line may be

  ends_by : (v w : Verdict) (d : Due) → (d ≡ Ends v) ⊎ (d ≡ Idles v) → EndsBy l s w d → w ≡ v
  ends_by v w d (inl h) e = subst (EndsBy l s w) h e
  ends_by v w d (inr h) e = subst (EndsBy l s w) h e

  not_goes : (v : Verdict) (x : Enabled) (d : Due) → (d ≡ Ends v) ⊎ (d ≡ Idles v) → d ≡ Goes x → ⊥
  not_goes v x d (inl h) g = let q : Ends v ≡ Goes x = sym h ∙ g in absurd (cc)
  not_goes v x d (inr h) g = let q : Idles v ≡ Goes x = sym h ∙ g in absurd (cc)

  -- only this verdict
  pub next_verdict : (v : Verdict) (d : Line) → (due l o s ≡ Ends v) ⊎ (due l o s ≡ Idles v) → MayBeNext l o s d → d ≡ trace.Verdict v
  next_verdict v d h (inl n) = absurd (not_goes v n.comes.enabled (due l o s) h n.comes.goes)
  next_verdict v d h (inr n) = n.line ∙ ap (λ (w : Verdict). trace.Verdict w) (ends_by v n.verdict (due l o s) h n.ends)

  -- an event that can be selected and does not stop the run, or a verdict with which one does
  pub record NextChosen (x : Enabled) (d : Line) : Type 0 where
    pub event : PlainEvent
    pub place : Option ℕ
    pub placed : place_in x s.queue event ≡ Some place
    pub goes : stop_of l s event ≡ None
    pub line : d ≡ line_of_choice event place

  pub record NextStop (x : Enabled) (d : Line) : Type 0 where
    pub verdict : Verdict
    pub stops : StopsAt l s x verdict
    pub line : d ≡ trace.Verdict verdict

  pub next_open : (x : Enabled) (d : Line) → due l o s ≡ Goes x → MayBeNext l o s d → NextChosen x d ⊎ NextStop x d
  next_open x d g (inl n) =
      let z : n.comes.enabled ≡ x = same_goes n.comes.enabled x (sym n.comes.goes ∙ g) in
      inl (record {
        event = n.event;
        place = n.place;
        placed = ap (λ (w : Enabled). place_in w s.queue n.event) (sym z) ∙ n.comes.placed;
        goes = n.comes.free;
        line = n.line;
      })
  next_open x d g (inr n) = inr (record { verdict = n.verdict; stops = subst (EndsBy l s n.verdict) g n.ends; line = n.line })
