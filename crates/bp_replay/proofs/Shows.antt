-- What is printed as a log is followed.
use Rattle.std.proofs.Common.{◌≡◌, inl, inr, true, false, List, [], ◌∷◌, ◌++◌, refl, ap, sym, ◌∙◌, subst, append_assoc, Option, Some, None, Ok, Err, IsSome}
use Rattle.std.specs.Prelude.{Result, OnOk}
use Rattle.std.proofs.lemmas.List.{append_cancel_left}
use Rattle.js_data.proofs.Shared.{none_of}
use Rattle.js_meaning.specs.Bodies.{Origin}
use Rattle.bp_log.specs.Records.{verdict_of}
use Rattle.bp_log.specs.declared.record.Record.{Record}
use Rattle.bp_log.specs.declared.record.Record.TheVariants.{End}
use Rattle.bp_log.specs.declared.trace.Line.{Line}
use Rattle.bp_log.specs.declared.trace.Line.TheVariants as trace
use Rattle.bp_log.specs.declared.verdict.Verdict.{Verdict}
use Rattle.bp_log.proofs.Complete.{verdict_complete, verdict_by_last}
use Rattle.bp_run.specs.Configuration.{Configuration}
use Rattle.bp_run.specs.Settling.{Pair}
use Rattle.bp_run.specs.Story.{story}
use Rattle.bp_thread.specs.declared.job.Job.{Job}
use Rattle.bp_floor.specs.declared.phase.Phase.{Phase}
use Rattle.bp_floor.specs.declared.phase.Phase.TheVariants.{Ready, Lent, Rest, Over}
use Rattle.bp_floor.specs.Floors.{is_idle}
use Rattle.bp_arbiter.specs.Arbiters.{PlainArbiter, Recounts, StandsFor, options_in, stand_in, is_lent}
use Rattle.bp_turns.specs.Turning.{StandsAfter, Closes, Settles}
use Rattle.bp_turns.proofs.Arbiters.{same_code, recounts_at}
use Rattle.bp_replay.specs.Courses.{Course, code_in}
use Rattle.bp_replay.specs.Following.{Runs, IsOnWay, StaysAt, IsThere, IsSaid}
use Rattle.bp_replay.proofs.Tales.{one_more, end_told}
use Rattle.bp_replay.proofs.Steps.{recounts_course}

-- the arbiter after settling and the taking of its lines, of which those of the course are printed
pub record Settled (c : Course) (more : List Line) (a : PlainArbiter) (said : List Line) : Type 0 where
  pub there : IsThere c a
  pub said_is : said ≡ more

none_or : (x : Option Verdict) → x ≡ None → IsSome x → ⊥
none_or None h k = absurd (cc)
none_or (Some v) h k = absurd (cc)

at_rest_phase : (f : Phase) → (f ≡ Ready → ⊥) → is_lent f ≡ false → (f ≡ Over → ⊥) → f ≡ Rest
at_rest_phase Ready h u o = absurd (h refl)
at_rest_phase Lent h u o = absurd (cc)
at_rest_phase Rest h u o = refl
at_rest_phase Over h u o = absurd (o refl)

module _ (c : Course) (taken : List Line) (a mid b : PlainArbiter) (lines said : List Line) (w : IsOnWay c taken a) (s : Settles a mid) (busy : mid.phase ≡ Ready → ⊥) (lines_are : (stand_in mid).lines ≡ lines)
    (exact : (t : List Line) (p : Pair Origin) → StandsFor mid [] t p → is_idle mid.phase ≡ true → (d : Configuration Origin) → Recounts mid d → d.stand.lines ≡ t ++ (stand_in mid).lines)
    (base : b.floor.base ≡ mid.floor.base) (options : options_in b ≡ options_in mid) (records : b.records ≡ mid.records) (phase : b.phase ≡ mid.phase)
    (stands : (jobs : List Job) (t : List Line) (p : Pair Origin) → StandsFor mid jobs t p → StandsFor b jobs (t ++ lines) p) (is_said : IsSaid b lines said) where
  runs_mid : Runs c mid
  runs_mid = record { code = s.code ∙ (w.runs).code; options = s.options ∙ (w.runs).options; told = (w.runs).told; going = (w.runs).going; reads = (w.runs).reads }

  runs_b : Runs c b
  runs_b = record {
    code = same_code mid b (ap (λ x. x.program) base) options ∙ runs_mid.code;
    options = options ∙ runs_mid.options;
    told = (w.runs).told;
    going = (w.runs).going;
    reads = (w.runs).reads;
  }

  here : StandsAfter mid taken
  here = s.stands taken w.stands

  -- the run goes on
  settled_on : mid.records ≡ a.records → Settled c w.more b said
  settled_on same =
      let rs : mid.records ≡ c.records = same ∙ w.records in
      let none : verdict_of b.records ≡ None = ap verdict_of (records ∙ rs) ∙ none_of (verdict_of c.records) (verdict_complete c.records ∙ (w.runs).going) in
      let rest : mid.phase ≡ Rest = at_rest_phase mid.phase busy (s.unlent w.unlent) (λ o. none_or (verdict_of b.records) none (is_said.over (phase ∙ o))) in
      let whole : c.told.stand.lines ≡ taken ++ lines =
      exact taken here.0 here.1 (ap is_idle rest) c.told (recounts_course c mid runs_mid rs) ∙ ap (λ (ls : List Line). taken ++ ls) lines_are in
      record {
        there = record {
          runs = runs_b;
          stays = subst (λ (f : Phase). StaysAt c b f) (sym (phase ∙ rest)) (records ∙ rs, (here.0, subst (λ (ls : List Line). StandsFor b [] ls here.0) (sym whole) (stands [] taken here.0 here.1)));
        };
        said_is = is_said.going none ∙ append_cancel_left taken lines w.more (sym whole ∙ w.lines);
      }

  -- it has ended by itself
  settled_over : Closes a mid → Settled c w.more b said
  settled_over k =
      let v = k.verdict in
      let verdict = k.comes c.told (recounts_course c a w.runs w.records) in
      let rs : mid.records ≡ c.records ++ End v ∷ [] = k.records ∙ ap (λ (xs : List Record). xs ++ End v ∷ []) w.records in
      let d = (here.1).told in
      let story_is : story (code_in c) c.options (c.records ++ End v ∷ []) ≡ Some d =
      ap (λ (xs : List Record). story (code_in c) c.options xs) (sym rs) ∙ recounts_at (code_in c) c.options mid d runs_mid.code runs_mid.options (here.1).story in
      let ends = end_told (code_in c) c.options c.told d v (sym (one_more (code_in c) c.options c.records c.told (End v) (w.runs).told (w.runs).going) ∙ story_is) in
      let whole : taken ++ lines ≡ taken ++ (w.more ++ trace.Verdict v ∷ []) =
      ap (λ (ls : List Line). taken ++ ls) (sym lines_are)
      ∙ sym (exact taken here.0 here.1 (ap is_idle k.over) d (here.1).story)
      ∙ ap (λ (x : Configuration Origin). x.stand.lines) ends.1
      ∙ ap (λ (ls : List Line). ls ++ trace.Verdict v ∷ []) w.lines
      ∙ append_assoc taken w.more (trace.Verdict v ∷ []) in
      let last : verdict_of b.records ≡ Some v = ap verdict_of (records ∙ rs) ∙ verdict_by_last c.records (End v) in
      record {
        there = record {
          runs = runs_b;
          stays = subst (λ (f : Phase). StaysAt c b f) (sym (phase ∙ k.over)) (v, records ∙ rs, verdict);
        };
        said_is = is_said.ended (some_at last) w.more (trace.Verdict v) (append_cancel_left taken lines (w.more ++ trace.Verdict v ∷ []) whole);
      }
    where
      some_at : {x : Option Verdict} {u : Verdict} → x ≡ Some u → IsSome x
      some_at {x} {u} h = subst (λ (y : Option Verdict). IsSome y) (sym h) refl

  pub settled : Settled c w.more b said
  settled = elim s.recorded [ inl h ↦ settled_on h.0 | inr k ↦ settled_over k ]

-- ---- answers

pub ok_any : {T E X : Type 0} (r : Result T E) → X → OnOk r X
ok_any (Ok t) x = x
ok_any (Err e) x = tt
