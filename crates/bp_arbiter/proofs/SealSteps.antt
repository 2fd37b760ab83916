-- What the sealing of a turn leaves.
use Rattle.std.proofs.Common.{◌≡◌, ◌≤◌, ◌<◌, ℕ, Bool, true, false, List, [], ◌++◌, length, refl, sym, ap, ◌∙◌, subst, arith, Option, Some, None, is_some, append-nil, inl, inr}
use Rattle.js_meaning.specs.Bodies.{Origin}
use Rattle.bp_log.specs.Options.{PlainOptions}
use Rattle.bp_log.specs.Records.{is_complete}
use Rattle.bp_log.specs.declared.record.Record.{Record}
use Rattle.bp_log.specs.declared.record.Record.TheVariants.{End}
use Rattle.bp_log.specs.declared.trace.Line.{Line}
use Rattle.bp_log.specs.declared.verdict.Verdict.{Verdict}
use Rattle.bp_log.proofs.Complete.{complete_by_last}
use Rattle.bp_run.specs.Configuration.{Configuration}
use Rattle.bp_run.specs.Settling.{Pair}
use Rattle.bp_run.specs.Story.Next.{Ends}
use Rattle.bp_run.proofs.Growing.{grown_turn}
use Rattle.bp_thread.specs.declared.job.Job.{Job}
use Rattle.bp_thread.specs.Carried.{AreCarriedOut}
use Rattle.bp_floor.specs.declared.phase.Phase.{Phase}
use Rattle.bp_floor.specs.declared.phase.Phase.TheVariants.{Ready, Lent}
use Rattle.bp_floor.specs.Floors as floors
use Rattle.bp_floor.specs.Floors.{code_on}
use Rattle.bp_floor.specs.Loans.{filled_pair}
use Rattle.bp_arbiter.specs.declared.run.Run.{Run}
use Rattle.bp_arbiter.specs.Arbiters.{PlainArbiter, StandsFor, Tells, Keeps, Recounts, coming, code_in, options_in, stand_in, is_over}
use Rattle.bp_arbiter.specs.Sound.{IsSound}
use Rattle.bp_arbiter.specs.Lend.{AreBack}
use Rattle.bp_arbiter.specs.Runs.{seen, IsBeside}
use Rattle.bp_arbiter.specs.Seal.{ending, ended_with, after_turn, turned_in, IsTurned, IsCutOff}
use Rattle.bp_arbiter.proofs.Told.{stands_tells, tells_same}
use Rattle.bp_arbiter.proofs.Standing.{sound_of, sound_broken}
use Rattle.bp_arbiter.proofs.SealLemmas.{stands_sealed, tells_turned, verdict_next, verdict_kept, over_verdict, has_grown}
use Rattle.bp_arbiter.proofs.LendLemmas.{carried_stands, back_done}
use Rattle.bp_arbiter.proofs.Turnings.{IsAt}

ending_complete : (rs : List Record) (v : Option Verdict) → is_complete rs ≡ false → is_complete (rs ++ ending v) ≡ is_some v
ending_complete rs None h = ap is_complete (append-nil rs) ∙ h
ending_complete rs (Some v) h = complete_by_last rs (End v)

ended_transitions : (q : Pair Origin) (v : Option Verdict) → (ended_with v q).stand.transitions ≡ q.stand.transitions
ended_transitions q None = refl
ended_transitions q (Some v) = refl

turned_transitions : (r r' : Run) (jobs : List Job) → IsTurned r jobs r' → r'.floor.pair.stand.transitions ≡ r.floor.pair.stand.transitions
turned_transitions r r' jobs t =
    ap (λ (q : Pair Origin). q.stand.transitions) t.pair_is ∙ ended_transitions (turned_in r jobs) (turned_in r jobs).stand.verdict
    ∙ (grown_turn (code_on r.floor) (filled_pair jobs r.floor.pair)).transitions

module _ (a : PlainArbiter) (r : Run) (i : IsAt Lent a r) (jobs : List Job) where
  -- what the floor asks back
  pub floor_back : AreBack a jobs → floors.AreBack r.floor jobs
  floor_back h = back_done (seen r Lent false) jobs (subst (λ (x : PlainArbiter). AreBack x jobs) i.is h)

  lent_phase : r.floor.phase ≡ Lent
  lent_phase = (((i.sound).standing refl).keeps).floor_phase

  going : is_complete r.records.items ≡ false
  going = (i.sound).over

  carried : (lent : List Job) (taken : List Line) (p : Pair Origin) → StandsFor a lent taken p → AreCarriedOut a.floor.base (options_in a).budget lent jobs → StandsFor (seen r Lent false) jobs taken p
  carried lent taken p s c = subst (λ (x : PlainArbiter). StandsFor x jobs taken p) i.is (carried_stands a lent jobs taken p c s)

  back_stands : (h : AreBack a jobs) → StandsFor (seen r Lent false) jobs h.taken h.pair
  back_stands h = carried h.lent h.taken h.pair h.stands h.carried

  module _ (r' : Run) (b : IsBeside r r') where
    seed_same : r'.draw.seed ≡ r'.floor.options.seed
    seed_same = b.seed ∙ (i.sound).seed_is ∙ ap (λ (o : PlainOptions). o.seed) (sym b.options)

    cut_tells : (f : Phase) (w : Bool) → IsCutOff r jobs r' → (taken : List Line) (p : Pair Origin) → StandsFor (seen r Lent false) jobs taken p → Tells (seen r' f w) taken
    cut_tells f w u taken p s =
        elim u.lines [
          | inl e ↦ tells_same (seen r Lent false) (seen r' f w) taken b.program b.options u.records e (stands_tells (seen r Lent false) jobs taken p s)
          | inr e ↦ tells_turned r jobs taken p s i.phased lent_phase e.turns (seen r' f w) b.program b.options u.records e.lines
        ]

    -- after memory ran out
    pub cut_off : (f : Phase) (w : Bool) → IsCutOff r jobs r' → (lent : List Job) (taken : List Line) (p : Pair Origin) → StandsFor a lent taken p → AreCarriedOut a.floor.base (options_in a).budget lent jobs →
        Tells (seen r' f w) taken
    cut_off f w u lent taken p s c = cut_tells f w u taken p (carried lent taken p s c)

    pub cut_sound : AreBack a jobs → IsCutOff r jobs r' → IsSound r'.draw.seed (seen r' Lent true)
    cut_sound h u =
        sound_broken r'.draw.seed (seen r' Lent true) h.taken seed_same (ap is_complete u.records ∙ going) (cut_tells Lent true u h.taken h.pair (back_stands h)) refl

    module _ (t : IsTurned r jobs r') where
      pub seal_stands : (lent : List Job) (taken : List Line) (p : Pair Origin) → StandsFor a lent taken p → AreCarriedOut a.floor.base (options_in a).budget lent jobs →
          StandsFor (seen r' r'.floor.phase false) [] taken (after_turn (code_in a) p)
      seal_stands lent taken p s c =
          subst (λ (x : PlainArbiter). StandsFor (seen r' r'.floor.phase false) [] taken (after_turn (code_in x) p)) (sym i.is)
          (stands_sealed r jobs taken p (carried lent taken p s c) i.phased lent_phase t.turns r' b t going)

      pub seal_over : (lent : List Job) (taken : List Line) (p : Pair Origin) → StandsFor (seen r Lent false) jobs taken p → (c : Configuration Origin) → Recounts a c → (v : Verdict) → r'.floor.pair.stand.verdict ≡ Some v → coming a c ≡ Ends v
      seal_over lent taken p s c h v e =
          ap (λ (x : PlainArbiter). coming x c) i.is
          ∙ verdict_next r jobs taken p s i.phased lent_phase t.turns v c (subst (λ (x : PlainArbiter). Recounts x c) i.is h) (sym (verdict_kept r r' jobs t) ∙ e)

      pub seal_over_back : AreBack a jobs → (c : Configuration Origin) → Recounts a c → (v : Verdict) → r'.floor.pair.stand.verdict ≡ Some v → coming a c ≡ Ends v
      seal_over_back h = seal_over h.lent h.taken h.pair (back_stands h)

      pub seal_grows : r'.floor.phase ≡ Ready → length (stand_in a).threads < length r'.floor.pair.stand.threads
      seal_grows e = subst (λ (x : PlainArbiter). length (stand_in x).threads < length r'.floor.pair.stand.threads) (sym i.is) (has_grown r r' jobs t e)

      over_same : is_complete r'.records.items ≡ is_over r'.floor.phase
      over_same =
          ap is_complete t.records ∙ ending_complete r.records.items (turned_in r jobs).stand.verdict going
          ∙ sym (ap is_over t.phase_is ∙ over_verdict r'.floor.pair.stand.verdict r'.floor.pair.entries ∙ ap is_some (verdict_kept r r' jobs t))

      keeps_same : Keeps (seen r' r'.floor.phase false)
      keeps_same =
          let k = ((i.sound).standing refl).keeps in
          let n = turned_transitions r r' jobs t in
          let few = k.drawn refl in
          let d = t.drawn in
          record {
            steps = subst (λ (o : PlainOptions). r'.floor.pair.stand.transitions ≤ o.steps) (sym b.options) (subst (λ (m : ℕ). m ≤ r.floor.options.steps) (sym n) k.steps);
            drawn = λ o. omega (arith, n, few, d);
            floor_phase = refl;
            floor_whole = t.whole;
          }

      -- the arbiter after a turn
      pub seal_sound : AreBack a jobs → IsSound r'.draw.seed (seen r' r'.floor.phase false)
      seal_sound h =
          sound_of r'.draw.seed (seen r' r'.floor.phase false) [] h.taken (after_turn (code_on r.floor) h.pair) seed_same over_same
          (stands_sealed r jobs h.taken h.pair (back_stands h) i.phased lent_phase t.turns r' b t going) (λ u. refl) keeps_same
