-- What each call of an arbiter leaves.
use Rattle.std.proofs.Common.{◌≡◌, ◌≤◌, ◌+◌, Bool, true, false, List, [], ◌++◌, refl, sym, ap, ◌∙◌, subst, arith, option_to_list, append-nil}
use Rattle.js_meaning.specs.Bodies.{Origin, the_top}
use Rattle.bp_log.specs.Options.{PlainOptions}
use Rattle.bp_log.specs.Records.{is_complete}
use Rattle.bp_log.specs.declared.record.Record.TheVariants.{Sel, End}
use Rattle.bp_log.specs.declared.trace.Line.{Line}
use Rattle.bp_log.proofs.Complete.{complete_by_last}
use Rattle.bp_run.specs.Configuration.{Configuration}
use Rattle.bp_run.specs.Settling.{Pair}
use Rattle.bp_run.specs.Choosing.{Choice, Touched}
use Rattle.bp_run.specs.Story.{Next, record_of, step, stepped}
use Rattle.bp_run.specs.Story.Next.{Ends, Selects, Waits}
use Rattle.bp_run.proofs.Stories.{selects_steps}
use Rattle.bp_thread.specs.declared.job.Job.{Job}
use Rattle.bp_floor.specs.declared.phase.Phase.{Phase}
use Rattle.bp_floor.specs.declared.phase.Phase.TheVariants.{Rest}
use Rattle.bp_floor.specs.Forgetting.{forgotten}
use Rattle.bp_floor.specs.Floors.{PlainFloor, IsPhased, code_on}
use Rattle.bp_arbiter.specs.declared.run.Run.{Run}
use Rattle.bp_arbiter.specs.declared.picked.Picked.TheVariants as picked
use Rattle.bp_arbiter.specs.Arbiters.{PlainArbiter, StandsFor, Tells, Keeps, Recounts, coming, code_in, stand_in, is_over}
use Rattle.bp_arbiter.specs.Sound.{IsSound, IsStanding}
use Rattle.bp_arbiter.specs.Pick.{after_pick, picked_of, phase_after}
use Rattle.bp_arbiter.specs.Runs.{seen, next_in, configuration_of, HasCome, IsBeside, IsUnheard}
use Rattle.bp_arbiter.proofs.Told.{tells_same}
use Rattle.bp_arbiter.proofs.Standing.{sound_of}
use Rattle.bp_arbiter.proofs.PickLemmas.{next_is, stands_on, phase_come, moved_not_over as not_over}

-- an arbiter whose memory never ran out, in this phase
pub record IsAt (f : Phase) (a : PlainArbiter) (r : Run) : Type 0 where
  pub is : a ≡ seen r f false
  pub sound : IsSound r.draw.seed (seen r f false)
  pub phased : IsPhased r.floor

pub at_phase : (f : Phase) (a : PlainArbiter) (r : Run) (g : Phase) (b : Bool) → seen r g b ≡ a → a.phase ≡ f → b ≡ false → IsSound r.draw.seed (seen r g b) → (r.floor.broken ≡ false → IsPhased r.floor) → IsAt f a r
at_phase f a r g b v h w s k =
    let same : seen r g b ≡ seen r f false = ap (λ (x : Bool). seen r g x) w ∙ ap (λ (x : Phase). seen r x false) (ap (λ (x : PlainArbiter). x.phase) v ∙ h) in
    let sound : IsSound r.draw.seed (seen r f false) = subst (λ (x : PlainArbiter). IsSound r.draw.seed x) same s in
    record {
      is = sym v ∙ same;
      sound = sound;
      phased = k ((sound.standing refl).keeps).floor_whole;
    }

moved_transitions : (f : PlainFloor) (ch : Choice) (reached : List Touched) (g : PlainFloor) → g.pair ≡ forgotten the_top (stepped (code_on f) f.pair.stand ch.event ch.place reached) →
    g.pair.stand.transitions ≡ f.pair.stand.transitions + 1
unfolding step
moved_transitions f ch reached g h = ap (λ (x : Pair Origin). x.stand.transitions) h

-- ---- a pick

module _ (a : PlainArbiter) (r r' : Run) (i : IsAt Rest a r) (b : IsBeside r r') where
  standing : IsStanding (seen r Rest false)
  standing = (i.sound).standing refl

  rests : r.floor.phase ≡ Rest
  rests = (standing.keeps).floor_phase

  going : is_complete r.records.items ≡ false
  going = (i.sound).over

  stands_alone : StandsFor (seen r Rest false) [] standing.taken standing.pair
  stands_alone = subst (λ (js : List Job). StandsFor (seen r Rest false) js standing.taken standing.pair) (standing.unlent refl) standing.stands

  pub pick_next : (c : Configuration Origin) → Recounts a c → coming a c ≡ next_in r
  pick_next c h =
      ap (λ (x : PlainArbiter). coming x c) i.is
      ∙ next_is r standing.taken standing.pair stands_alone i.phased rests c (subst (λ (x : PlainArbiter). Recounts x c) i.is h)

  pub pick_stands : HasCome r (next_in r) r' → (taken : List Line) (p : Pair Origin) (c : Configuration Origin) → StandsFor a [] taken p → Recounts a c →
      StandsFor (seen r' r'.floor.phase false) [] taken (after_pick (code_in a) p (coming a c))
  pick_stands h taken p c s k =
      let l = subst (λ (x : PlainArbiter). StandsFor x [] taken p) i.is s in
      subst (λ (n : Next). StandsFor (seen r' r'.floor.phase false) [] taken (after_pick (code_in a) p n)) (sym (pick_next c k))
      (subst (λ (x : PlainArbiter). StandsFor (seen r' r'.floor.phase false) [] taken (after_pick (code_in x) p (next_in r))) (sym i.is)
      (stands_on r taken p l i.phased rests r' b going (next_in r) refl h))

  pub pick_phase : HasCome r (next_in r) r' → r'.floor.phase ≡ phase_after (picked_of (next_in r)) r'.floor.pair.entries
  pick_phase h = phase_come r r' (next_in r) i.phased rests h

  over_at : (n : Next) → HasCome r n r' → is_complete r'.records.items ≡ is_over r'.floor.phase
  over_at (Ends v) h =
      ap is_complete h.records ∙ complete_by_last r.records.items (End v) ∙ sym (ap (λ (f : PlainFloor). is_over f.phase) h.floor)
  over_at (Selects ch reached) h =
      ap is_complete h.records ∙ complete_by_last r.records.items (Sel ch.event)
      ∙ sym (ap is_over (phase_come r r' (Selects ch reached) i.phased rests h) ∙ not_over r'.floor.pair.entries)
  over_at Waits h = ap is_complete h.records ∙ going ∙ sym (ap (λ (f : PlainFloor). is_over f.phase) h.floor ∙ ap is_over rests)

  keeps_at : (n : Next) → next_in r ≡ n → HasCome r n r' → r'.draw.drawn ≤ r.draw.drawn + 1 → Keeps (seen r' r'.floor.phase false)
  keeps_at (Ends v) e h d =
      record {
        steps = subst (λ (f : PlainFloor). f.pair.stand.transitions ≤ f.options.steps) (sym h.floor) (standing.keeps).steps;
        drawn = λ o. absurd (let x : is_over r'.floor.phase ≡ true = ap (λ (f : PlainFloor). is_over f.phase) h.floor in cc);
        floor_phase = refl;
        floor_whole = ap (λ (f : PlainFloor). f.broken) h.floor ∙ (standing.keeps).floor_whole;
      }
  keeps_at (Selects ch reached) e h d =
      let t = moved_transitions r.floor ch reached r'.floor h.pair_is in
      let less = selects_steps (code_on r.floor) r.floor.options (configuration_of r) ch reached e (standing.keeps).steps in
      let few = (standing.keeps).drawn refl in
      let o = b.options in
      record {
        steps = subst (λ (x : PlainOptions). r'.floor.pair.stand.transitions ≤ x.steps) (sym o) (omega (arith, t, less));
        drawn = λ k. omega (arith, t, few, d);
        floor_phase = refl;
        floor_whole = h.whole;
      }
  keeps_at Waits e h d =
      let few = (standing.keeps).drawn refl in
      let same = h.drawn in
      record {
        steps = subst (λ (f : PlainFloor). f.pair.stand.transitions ≤ f.options.steps) (sym h.floor) (standing.keeps).steps;
        drawn = λ o. subst (λ (f : PlainFloor). r'.draw.drawn ≤ f.pair.stand.transitions) (sym h.floor) (omega (arith, few, same));
        floor_phase = refl;
        floor_whole = ap (λ (f : PlainFloor). f.broken) h.floor ∙ (standing.keeps).floor_whole;
      }

  seed_same : r'.draw.seed ≡ r'.floor.options.seed
  seed_same = b.seed ∙ (i.sound).seed_is ∙ ap (λ (o : PlainOptions). o.seed) (sym b.options)

  -- the arbiter after a pick
  pub pick_sound : HasCome r (next_in r) r' → r'.draw.drawn ≤ r.draw.drawn + 1 → IsSound r'.draw.seed (seen r' r'.floor.phase false)
  pick_sound h d =
      sound_of r'.draw.seed (seen r' r'.floor.phase false) [] standing.taken (after_pick (code_on r.floor) standing.pair (next_in r)) seed_same (over_at (next_in r) h)
      (stands_on r standing.taken standing.pair stands_alone i.phased rests r' b going (next_in r) refl h) (λ u. refl) (keeps_at (next_in r) refl h d)

  counted_at : (n : Next) → HasCome r n r' → picked_of n ≡ picked.Moved → r'.floor.pair.stand.transitions ≡ r.floor.pair.stand.transitions + 1
  counted_at (Ends v) h e = absurd (cc)
  counted_at (Selects ch reached) h e = moved_transitions r.floor ch reached r'.floor h.pair_is
  counted_at Waits h e = absurd (cc)

  pub pick_counted : HasCome r (next_in r) r' → picked_of (next_in r) ≡ picked.Moved → r'.floor.pair.stand.transitions ≡ (stand_in a).transitions + 1
  pick_counted h e = counted_at (next_in r) h e ∙ ap (λ (x : PlainArbiter). (stand_in x).transitions + 1) (sym i.is)

  -- after memory ran out
  pub unheard_tells : (f : Phase) (w : Bool) → IsUnheard r r' → (taken : List Line) → Tells (seen r Rest false) taken → Tells (seen r' f w) taken
  unheard_tells f w u taken t = tells_same (seen r Rest false) (seen r' f w) taken b.program b.options u.records u.lines t

  recorded_at : (n : Next) → HasCome r n r' → r'.records.items ≡ r.records.items ++ option_to_list (record_of n)
  recorded_at (Ends v) h = h.records
  recorded_at (Selects ch reached) h = h.records
  recorded_at Waits h = h.records ∙ sym (append-nil r.records.items)

  pub pick_recorded : HasCome r (next_in r) r' → (c : Configuration Origin) → Recounts a c → r'.records.items ≡ a.records ++ option_to_list (record_of (coming a c))
  pick_recorded h c k =
      recorded_at (next_in r) h ∙ ap (λ (x : PlainArbiter). x.records ++ option_to_list (record_of (next_in r))) (sym i.is)
      ∙ ap (λ (n : Next). a.records ++ option_to_list (record_of n)) (sym (pick_next c k))
