-- One more record of a story.
use Rattle.std.proofs.Common.{◌≡◌, ℕ, ◌<◌, Bool, true, false, not, ◌&&◌, ◌||◌, inl, inr, eqb-true, nat_eq, zero, suc, List, [], ◌∷◌, ◌++◌, refl, ap, sym, ◌∙◌, Option, Some, None, filter, arith}
use Rattle.std.specs.Prelude.{option_and_then, if◌then◌else◌}
use Rattle.std.specs.List.{list_any}
use Rattle.js_data.specs.Event.{PlainEvent, same_event}
use Rattle.bp_log.specs.Options.{PlainOptions}
use Rattle.bp_log.specs.Records.{is_complete}
use Rattle.bp_log.specs.Verdicts.{same_verdict}
use Rattle.bp_log.specs.declared.record.Record.{Record}
use Rattle.bp_log.specs.declared.record.Record.TheVariants.{In, Bad, Eof, Sel, End}
use Rattle.bp_log.specs.declared.trace.Line.{Line}
use Rattle.bp_log.specs.declared.verdict.Verdict.{Verdict}
use Rattle.bp_log.proofs.Equality.{verdict_path}
use Rattle.js_data.proofs.SameEvent.{same_event-sound}
use Rattle.js_data.proofs.Shared.{any_filter, if_false}
use Rattle.std.proofs.lemmas.List.Folds.{list_any-append}
use Rattle.std.proofs.lemmas.Bool.{and_right, and_left, or_cases, false_from_ne_true}
use Rattle.std.proofs.lemmas.Option.{cond_some}
use Rattle.bp_run.specs.Bodies.{Code}
use Rattle.bp_run.specs.Configuration.{Configuration, below}
use Rattle.bp_run.specs.Settling.{initial}
use Rattle.bp_run.specs.Story.{Next, next, may_come, is_over, has_room, move, over_with, if_selected, if_ended, after_record, record_of, story_from, story}
use Rattle.bp_run.specs.Story.Next.{Ends, Selects, Waits}
use Rattle.bp_run.proofs.Stories.{story_on, story_prefix}
use Rattle.bp_replay.specs.Following.{ReadsBelow, enters}

and_then_some : {A : Type 0} (x : Option A) → option_and_then (λ (a : A). Some a) x ≡ x
and_then_some None = refl
and_then_some (Some a) = refl

pub one_record : {O S : Type 0} (l : Code O S) (o : PlainOptions) (c : Configuration O) (r : Record) → story_from l o (r ∷ []) c ≡ after_record l o c r
unfolding story_from
one_record l o c (In j e) = and_then_some (after_record l o c (In j e))
one_record l o c (Bad j n) = and_then_some (after_record l o c (Bad j n))
one_record l o c (Eof j) = and_then_some (after_record l o c (Eof j))
one_record l o c (Sel e) = and_then_some (after_record l o c (Sel e))
one_record l o c (End v) = and_then_some (after_record l o c (End v))

-- a story that isn't complete goes on by one record
pub one_more : {O S : Type 0} (l : Code O S) (o : PlainOptions) (rs : List Record) (c : Configuration O) (r : Record) → story l o rs ≡ Some c → is_complete rs ≡ false → story l o (rs ++ r ∷ []) ≡ after_record l o c r
unfolding story
one_more l o rs c r h k = story_on l o rs (r ∷ []) (initial l o.injectors) c h k ∙ one_record l o c r

-- the lines after one more record begin with those before it
pub more_lines : {O S : Type 0} (l : Code O S) (o : PlainOptions) (rs : List Record) (c d : Configuration O) (r : Record) → story l o rs ≡ Some c → story l o (rs ++ r ∷ []) ≡ Some d →
    (more : List Line) × (d.stand.lines ≡ c.stand.lines ++ more)
unfolding story
more_lines l o rs c d r h k =
    let f = story_prefix l o rs (r ∷ []) (initial l o.injectors) d k in
    let e : f.0 ≡ c = let i = f.1 in cc in
    (f.2.0, f.2.1 ∙ ap (λ (x : Configuration _). x.stand.lines ++ f.2.0) e)

-- ---- what an injector says

-- the run makes another record, or none
abbrev pub MakesOther : Next → Record → Type 0
MakesOther x r = (made : Record) → record_of x ≡ Some made → made ≡ r → ⊥

not_selected : {O S : Type 0} (l : Code O S) (c : Configuration O) (e : PlainEvent) (x : Next) → MakesOther x (Sel e) → if_selected l c e x ≡ None
not_selected l c e (Ends v) h = refl
not_selected l c e Waits h = refl
not_selected l c e (Selects ch r) h =
    if_false (same_event e ch.event) (Some (move l c ch r)) None
    (false_from_ne_true (same_event e ch.event) (λ k. h (Sel ch.event) refl (ap (λ (f : PlainEvent). Sel f) (sym (same_event-sound e ch.event k)))))

not_ended : {O : Type 0} (c : Configuration O) (v : Verdict) (x : Next) → MakesOther x (End v) → if_ended c v x ≡ None
not_ended c v (Selects ch r) h = refl
not_ended c v Waits h = refl
not_ended c v (Ends w) h =
    if_false (same_verdict v w) (Some (over_with c v)) None (false_from_ne_true (same_verdict v w) (λ k. h (End w) refl (ap (λ (f : Verdict). End f) (sym (verdict_path v w k)))))

shut : (a b c : Bool) → (b && c) ≡ false → ((a && b) && c) ≡ false
shut true b c h = h
shut false b c h = refl

-- a record that neither enters nor is made leads to nothing
pub leads_nowhere : {O S : Type 0} (l : Code O S) (o : PlainOptions) (c : Configuration O) (r : Record) → enters c.reading c.stand r ≡ false → MakesOther (next l o c) r → after_record l o c r ≡ None
unfolding after_record
leads_nowhere l o c (In j e) h k = if_false _ _ None (shut (not (is_over c)) (list_any (nat_eq j) c.reading) (has_room c.stand) h)
leads_nowhere l o c (Bad j n) h k = if_false _ _ None (and_right (not (is_over c)) (list_any (nat_eq j) c.reading) h)
leads_nowhere l o c (Eof j) h k = if_false _ _ None (and_right (not (is_over c)) (list_any (nat_eq j) c.reading) h)
leads_nowhere l o c (Sel e) h k = not_selected l c e (next l o c) k
leads_nowhere l o c (End v) h k = not_ended c v (next l o c) k

over_is : {O : Type 0} (c : Configuration O) (v : Option Verdict) (w : Verdict) → c.stand.verdict ≡ v → v ≡ Some w → not (elim v [ None ↦ false | Some u ↦ true ]) ≡ false
over_is c v w h e = ap (λ (x : Option Verdict). not (elim x [ None ↦ false | Some u ↦ true ])) e

-- after a verdict nothing enters
pub leads_nowhere_over : {O S : Type 0} (l : Code O S) (o : PlainOptions) (c : Configuration O) (w : Verdict) (r : Record) → c.stand.verdict ≡ Some w → MakesOther (next l o c) r → after_record l o c r ≡ None
unfolding after_record
leads_nowhere_over l o c w (In j e) h k =
    if_false _ _ None
    (and_left (not (is_over c) && list_any (nat_eq j) c.reading) (has_room c.stand) (and_left (not (is_over c)) (list_any (nat_eq j) c.reading) (over_is c c.stand.verdict w refl h)))
leads_nowhere_over l o c w (Bad j n) h k = if_false _ _ None (and_left (not (is_over c)) (list_any (nat_eq j) c.reading) (over_is c c.stand.verdict w refl h))
leads_nowhere_over l o c w (Eof j) h k = if_false _ _ None (and_left (not (is_over c)) (list_any (nat_eq j) c.reading) (over_is c c.stand.verdict w refl h))
leads_nowhere_over l o c w (Sel e) h k = not_selected l c e (next l o c) k
leads_nowhere_over l o c w (End v) h k = not_ended c v (next l o c) k

-- ---- an end

ended_told : {O : Type 0} (c d : Configuration O) (v : Verdict) (x : Next) → if_ended c v x ≡ Some d → (x ≡ Ends v) × (d ≡ over_with c v)
ended_told c d v (Selects ch r) h = absurd (cc)
ended_told c d v Waits h = absurd (cc)
ended_told c d v (Ends w) h = ended_if c d v w (same_verdict v w) refl h
  where
    ended_if : {O : Type 0} (c d : Configuration O) (v w : Verdict) (b : Bool) → same_verdict v w ≡ b → (if b then Some (over_with c v) else None) ≡ Some d → (Ends w ≡ Ends v) × (d ≡ over_with c v)
    ended_if c d v w false e h = absurd (cc)
    ended_if c d v w true e h = (ap (λ (f : Verdict). Ends f) (sym (verdict_path v w e)), sym (let k : over_with c v ≡ d = cc in k))

-- what an end says is what comes next, and leads to the line of its verdict
pub end_told : {O S : Type 0} (l : Code O S) (o : PlainOptions) (c d : Configuration O) (v : Verdict) → after_record l o c (End v) ≡ Some d → (next l o c ≡ Ends v) × (d ≡ over_with c v)
unfolding after_record
end_told l o c d v h = ended_told c d v (next l o c) h

-- ---- the injectors that are read

is_it : (j n : ℕ) → (nat_eq j n || false) ≡ true → j ≡ n
is_it j n h = eqb-true j n (elim (or_cases (nat_eq j n) false h) [ inl k ↦ k | inr k ↦ absurd (cc) ])

below_any : (n j : ℕ) → list_any (nat_eq j) (below n) ≡ true → j < n
below_any zero j h = absurd (cc)
below_any (suc n) j h =
    elim (or_cases (list_any (nat_eq j) (below n)) (nat_eq j n || false) (sym (list_any-append (nat_eq j) (below n) (n ∷ [])) ∙ h)) [
      | inl k ↦ let less = below_any n j k in omega (arith, less)
      | inr k ↦ let same = is_it j n k in omega (arith, same)
    ]

pub reads_first : {O S : Type 0} (l : Code O S) (n : ℕ) → ReadsBelow n (initial l n)
unfolding initial
reads_first l n = below_any n

reads_same : {O : Type 0} (n : ℕ) (c d : Configuration O) → c.reading ≡ d.reading → ReadsBelow n c → ReadsBelow n d
reads_same n c d e h = λ j k. h j (ap (λ (xs : List ℕ). list_any (nat_eq j) xs) e ∙ k)

reads_fewer : {O : Type 0} (n i : ℕ) (c d : Configuration O) → filter (λ k. not (nat_eq i k)) c.reading ≡ d.reading → ReadsBelow n c → ReadsBelow n d
reads_fewer n i c d e h = λ j k. h j (any_filter (nat_eq j) (λ k. not (nat_eq i k)) c.reading (ap (λ (xs : List ℕ). list_any (nat_eq j) xs) e ∙ k))

sel_reading : {O S : Type 0} (l : Code O S) (c d : Configuration O) (e : PlainEvent) (x : Next) → if_selected l c e x ≡ Some d → c.reading ≡ d.reading
sel_reading l c d e (Ends v) h = absurd (cc)
sel_reading l c d e Waits h = absurd (cc)
sel_reading l c d e (Selects ch r) h = ap (λ (x : Configuration _). x.reading) (cond_some (same_event e ch.event) (move l c ch r) d h).1

end_reading : {O : Type 0} (c d : Configuration O) (v : Verdict) (x : Next) → if_ended c v x ≡ Some d → c.reading ≡ d.reading
end_reading c d v (Selects ch r) h = absurd (cc)
end_reading c d v Waits h = absurd (cc)
end_reading c d v (Ends w) h = ap (λ (x : Configuration _). x.reading) (cond_some (same_verdict v w) (over_with c v) d h).1

pub reads_after : {O S : Type 0} (l : Code O S) (o : PlainOptions) (n : ℕ) (c d : Configuration O) (r : Record) → after_record l o c r ≡ Some d → ReadsBelow n c → ReadsBelow n d
unfolding after_record
reads_after l o n c d (In j e) h b = reads_same n c d (ap (λ (x : Configuration _). x.reading) (cond_some (may_come c j && has_room c.stand) _ d h).1) b
reads_after l o n c d (Bad j m) h b = reads_fewer n j c d (ap (λ (x : Configuration _). x.reading) (cond_some (may_come c j) _ d h).1) b
reads_after l o n c d (Eof j) h b = reads_fewer n j c d (ap (λ (x : Configuration _). x.reading) (cond_some (may_come c j) _ d h).1) b
reads_after l o n c d (Sel e) h b = reads_same n c d (sel_reading l c d e (next l o c) h) b
reads_after l o n c d (End v) h b = reads_same n c d (end_reading c d v (next l o c) h) b
