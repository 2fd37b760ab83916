-- Every story has a legal schedule.
use Rattle.std.proofs.Common.{◌≡◌, ℕ, zero, suc, ◌+◌, ◌<◌, ◌≤◌, Bool, true, false, ◌&&◌, List, [], ◌∷◌, ◌++◌, Option, Some, None, refl, sym, ap, ◌∙◌, subst, append_assoc, append-nil, length, arith}
use Rattle.std.specs.Prelude.{if◌then◌else◌, is_none, is_some, option_and_then, option_map}
use Rattle.js_data.specs.Event.{PlainEvent, same_event}
use Rattle.js_data.proofs.SameEvent.{same_event-sound}
use Rattle.bp_log.specs.Options.{PlainOptions}
use Rattle.bp_log.specs.Verdicts.{same_verdict}
use Rattle.bp_log.specs.declared.item.Item.{Item}
use Rattle.bp_log.specs.declared.item.Item.TheVariants as item
use Rattle.bp_log.specs.declared.limits.TheConstants.{MOST_THREADS}
use Rattle.bp_log.specs.declared.record.Record.{Record}
use Rattle.bp_log.specs.declared.record.Record.TheVariants.{In, Bad, Eof, Sel, End}
use Rattle.bp_log.specs.declared.verdict.Verdict.{Verdict}
use Rattle.bp_log.proofs.Equality.{verdict_path}
use Rattle.bp_run.specs.Bodies.{Code}
use Rattle.bp_run.specs.Configuration.{Configuration, Stand, Thread}
use Rattle.bp_run.specs.Settling.{Body, Pair, turn, opening, initial, at_rest, settle}
use Rattle.bp_run.specs.Choosing.{Choice, Touched}
use Rattle.bp_run.specs.Choosing.Touched.{Moves, Interrupts}
use Rattle.bp_run.specs.Story.{Next, next, step, stepped, touch, touch_all, move, is_over, may_come, over_with, if_selected, if_ended, after_record, story_from, story}
use Rattle.bp_run.specs.Story.Next.{Ends, Selects, Waits}
use Rattle.bp_run.proofs.Stories.{story_first, nothing_after}
use Rattle.bp_run.proofs.Turns.{turn_counts, turn_within, restless, length-change}
use Rattle.bp_steps.specs.declared.step.CoreStep.{CoreStep}
use Rattle.bp_steps.specs.declared.step.CoreStep.TheVariants.{Absorb, Pick}
use Rattle.bp_steps.specs.Merging.{record_by}
use Rattle.bp_steps.specs.Steps.{Moment, Nodes, pair_at, at_pair, ends_at, is_resting, picked, absorbed, sealed, turned_with, opened, after_step, played, Legal, made_by}
use Rattle.bp_steps.specs.Schedules.{turn_steps, settling_in, settling, goes_on, picking, steps_of, schedule_from, schedule_of}
use Rattle.bp_steps.specs.Schedules as schedules
use Rattle.bp_steps.proofs.Played.{rest_in, rest_stand, resting_there, resting_on, steps_on, one_step, last, turn_played, settling_played, restless_lent, lent_at, no_more_steps}

-- ---- settling comes to rest

rested : {O S : Type 0} (l : Code O S) (n : ℕ) (p : Pair O) (b : Bool) → at_rest p ≡ b → (at_rest p ≡ false → at_rest (rest_in l n p) ≡ true) → at_rest (rest_in l n p) ≡ true
rested l n p true h k = ap (λ (q : Pair _). at_rest q) (resting_there l n p h) ∙ h
rested l n p false h k = k h

rests_more : {O S : Type 0} (l : Code O S) (n : ℕ) (p : Pair O) (b : Bool) → at_rest p ≡ b → (at_rest p ≡ false → at_rest (rest_in l n (turn l p)) ≡ true) → at_rest (rest_in l (suc n) p) ≡ true
rests_more l n p true h k = ap (λ (q : Pair _). at_rest q) (resting_there l (suc n) p h) ∙ h
rests_more l n p false h k = ap (λ (q : Pair _). at_rest q) (resting_on l n p h) ∙ k h

-- with enough turns it is at rest
pub comes_to_rest : {O S : Type 0} (l : Code O S) (n : ℕ) (p : Pair O) → length p.stand.threads ≤ MOST_THREADS → MOST_THREADS + 1 ≤ n + length p.stand.threads → at_rest (rest_in l n p) ≡ true
comes_to_rest l zero p w a = absurd (omega (arith, w, a))
comes_to_rest l (suc n) p w a =
    rests_more l n p (at_rest p) refl
    (λ r. rested l n (turn l p) (at_rest (turn l p)) refl
    (λ s.
    let some = restless (turn l p) s in
    let count = turn_counts l p in
    comes_to_rest l n (turn l p) (turn_within l p w) (omega (arith, a, some, count))))

-- ---- how many b-threads there are

few_zero : {O S : Type 0} (l : Code O S) (p : Pair O) → length p.stand.threads ≤ MOST_THREADS → length (rest_in l zero p).stand.threads ≤ MOST_THREADS
unfolding rest_in
few_zero l p w = w

settle_is : {O S : Type 0} (l : Code O S) (p : Pair O) → (rest_in l (MOST_THREADS + 1) p).stand ≡ settle l p
unfolding settle
settle_is l p = rest_stand l (MOST_THREADS + 1) p

pub settled_few : {O S : Type 0} (l : Code O S) (n : ℕ) (p : Pair O) → length p.stand.threads ≤ MOST_THREADS → length (rest_in l n p).stand.threads ≤ MOST_THREADS
settled_few l zero p w = few_zero l p w
settled_few l (suc n) p w = few_at (at_rest p) refl (settled_few l n (turn l p) (turn_within l p w))
  where
    few_at : (b : Bool) → at_rest p ≡ b → length (rest_in l n (turn l p)).stand.threads ≤ MOST_THREADS → length (rest_in l (suc n) p).stand.threads ≤ MOST_THREADS
    few_at true h k = subst (λ (q : Pair _). length q.stand.threads ≤ MOST_THREADS) (sym (resting_there l (suc n) p h)) w
    few_at false h k = subst (λ (q : Pair _). length q.stand.threads ≤ MOST_THREADS) (sym (resting_on l n p h)) k

touched_length : {O : Type 0} (e : PlainEvent) (x : Touched) (ts : List (Thread O)) → length (touch e x ts) ≡ length ts
touched_length e (Moves i) ts = length-change (λ t. record t { replies = t.replies ++ e ∷ [] }) i ts
touched_length e (Interrupts i) ts = length-change (λ t. record t { ended = true }) i ts

touched_all_length : {O : Type 0} (e : PlainEvent) (xs : List Touched) (ts : List (Thread O)) → length (touch_all e xs ts) ≡ length ts
touched_all_length e [] ts = refl
touched_all_length e (x ∷ xs) ts = touched_all_length e xs (touch e x ts) ∙ touched_length e x ts

stepped_length : {O S : Type 0} (l : Code O S) (s : Stand O) (e : PlainEvent) (place : Option ℕ) (xs : List Touched) → length (stepped l s e place xs).stand.threads ≡ length s.threads
unfolding step
stepped_length l s e place xs = touched_all_length e xs s.threads

stepped_verdict : {O S : Type 0} (l : Code O S) (s : Stand O) (e : PlainEvent) (place : Option ℕ) (xs : List Touched) → (stepped l s e place xs).stand.verdict ≡ s.verdict
unfolding step
stepped_verdict l s e place xs = refl

-- ---- nothing but the end follows a verdict

next_over : {O S : Type 0} (l : Code O S) (o : PlainOptions) (c : Configuration O) (v : Verdict) → c.stand.verdict ≡ Some v → next l o c ≡ Ends v
unfolding next
next_over l o c v h = rw h refl

comes_not : {O : Type 0} (c : Configuration O) (j : ℕ) (v : Verdict) → c.stand.verdict ≡ Some v → may_come c j ≡ false
comes_not c j v h = rw h refl

in_not : {O S : Type 0} (l : Code O S) (o : PlainOptions) (c m : Configuration O) (j : ℕ) (e : PlainEvent) → may_come c j ≡ false → after_record l o c (In j e) ≡ Some m → ⊥
unfolding after_record
in_not l o c m j e h k = let z = rw h at k in cc

bad_not : {O S : Type 0} (l : Code O S) (o : PlainOptions) (c m : Configuration O) (j n : ℕ) → may_come c j ≡ false → after_record l o c (Bad j n) ≡ Some m → ⊥
unfolding after_record
bad_not l o c m j n h k = let z = rw h at k in cc

eof_not : {O S : Type 0} (l : Code O S) (o : PlainOptions) (c m : Configuration O) (j : ℕ) → may_come c j ≡ false → after_record l o c (Eof j) ≡ Some m → ⊥
unfolding after_record
eof_not l o c m j h k = let z = rw h at k in cc

sel_not : {O S : Type 0} (l : Code O S) (o : PlainOptions) (c m : Configuration O) (e : PlainEvent) (v : Verdict) → next l o c ≡ Ends v → after_record l o c (Sel e) ≡ Some m → ⊥
unfolding after_record
sel_not l o c m e v h k = let z = rw h at k in cc

ended_if : {O : Type 0} (c m : Configuration O) (v w : Verdict) (b : Bool) → same_verdict v w ≡ b → (if b then Some (over_with c v) else None) ≡ Some m → v ≡ w
ended_if c m v w true h k = verdict_path v w h
ended_if c m v w false h k = absurd (cc)

end_is : {O S : Type 0} (l : Code O S) (o : PlainOptions) (c m : Configuration O) (v w : Verdict) → next l o c ≡ Ends w → after_record l o c (End v) ≡ Some m → v ≡ w
unfolding after_record
end_is l o c m v w h k = let z = rw h at k in ended_if c m v w (same_verdict v w) refl z

only_end : {O S : Type 0} (l : Code O S) (o : PlainOptions) (c d : Configuration O) (v : Verdict) (r : Record) (rs : List Record) → c.stand.verdict ≡ Some v → story_from l o (r ∷ rs) c ≡ Some d → r ∷ rs ≡ End v ∷ []
unfolding story_from
only_end l o c d v (In j e) rs h k = let b = story_first l o (In j e) rs c d k in absurd (in_not l o c b.0 j e (comes_not c j v h) b.1)
only_end l o c d v (Bad j n) rs h k = let b = story_first l o (Bad j n) rs c d k in absurd (bad_not l o c b.0 j n (comes_not c j v h) b.1)
only_end l o c d v (Eof j) rs h k = let b = story_first l o (Eof j) rs c d k in absurd (eof_not l o c b.0 j (comes_not c j v h) b.1)
only_end l o c d v (Sel e) rs h k = let b = story_first l o (Sel e) rs c d k in absurd (sel_not l o c b.0 e v (next_over l o c v h) b.1)
only_end l o c d v (End w) [] h k = let b = story_first l o (End w) [] c d k in ap (λ (x : Verdict). End x ∷ []) (end_is l o c b.0 w v (next_over l o c v h) b.1)
only_end l o c d v (End w) (r ∷ rs) h k = absurd (cc)

-- ---- a settling that is not closed

left_out : {O S : Type 0} (l : Code O S) (budget n : ℕ) (p : Pair O) → at_rest p ≡ false → is_some (turn l p).stand.verdict ≡ true → settling_in l budget false (suc n) p ≡ []
unfolding settling_in
left_out l budget n p h k = rw (settling_in, h, k) refl

not_left_out : {O S : Type 0} (l : Code O S) (budget n : ℕ) (p : Pair O) → at_rest p ≡ false → is_some (turn l p).stand.verdict ≡ false →
    settling_in l budget false (suc n) p ≡ turn_steps l budget p ++ settling_in l budget false n (turn l p)
unfolding settling_in
not_left_out l budget n p h k = rw (settling_in, h, k) refl

no_turns : {O S : Type 0} (l : Code O S) (budget : ℕ) (p : Pair O) → settling_in l budget false zero p ≡ []
unfolding settling_in
no_turns l budget p = refl

none_left : {A : Type 0} (x : Option A) → is_some x ≡ false → x ≡ None
none_left None h = refl
none_left (Some x) h = absurd (cc)

module _ {O S : Type 0} (l : Code O S) (o : PlainOptions) (nodes : Nodes O) (some : 0 < o.budget) (fits : (b : Body O) → nodes b ≤ o.budget) where
  -- these steps lead from a moment to one with these records more
  pub record Reaches (steps : List CoreStep) (m : Moment O) (rs : List Record) : Type 0 where
    pub there : Moment O
    pub leads : played l o nodes steps m ≡ Some there
    pub records : there.records ≡ m.records ++ rs

  stays : (steps : List CoreStep) (m : Moment O) → steps ≡ [] → Reaches steps m []
  stays steps m h = record { there = m; leads = ap (λ (xs : List CoreStep). played l o nodes xs m) h ∙ last l o nodes m; records = sym (append-nil m.records) }

  unclosed : (n : ℕ) (m : Moment O) (p : Pair O) → Reaches (settling_in l o.budget false n p) (at_pair l m p) []
  unclosed zero m p = stays (settling_in l o.budget false zero p) (at_pair l m p) (no_turns l o.budget p)
  unclosed (suc n) m p = by_rest (at_rest p) refl (unclosed n m (turn l p))
    where
      by_verdict : (b : Bool) → is_some (turn l p).stand.verdict ≡ b → at_rest p ≡ false → Reaches (settling_in l o.budget false n (turn l p)) (at_pair l m (turn l p)) [] → Reaches (settling_in l o.budget false (suc n) p) (at_pair l m p) []
      by_verdict true k h r = stays (settling_in l o.budget false (suc n) p) (at_pair l m p) (left_out l o.budget n p h k)
      by_verdict false k h r =
          let q = turn l p in
          let none = none_left q.stand.verdict k in
          record {
            there = r.there;
            leads = ap (λ (xs : List CoreStep). played l o nodes xs (at_pair l m p)) (not_left_out l o.budget n p h k)
                ∙ steps_on l o nodes (turn_steps l o.budget p) (settling_in l o.budget false n q) (at_pair l m p) (sealed l (at_pair l m p) q)
                (turn_played l o nodes some fits (at_pair l m p) (restless_lent l o nodes some fits m p h) (lent_at l o nodes some fits p h))
                ∙ ap (λ (v : Option Verdict). played l o nodes (settling_in l o.budget false n q) (turned_with l (at_pair l m p) q v)) none
                ∙ r.leads;
            records = r.records;
          }

      by_rest : (b : Bool) → at_rest p ≡ b → Reaches (settling_in l o.budget false n (turn l p)) (at_pair l m (turn l p)) [] → Reaches (settling_in l o.budget false (suc n) p) (at_pair l m p) []
      by_rest true h r = stays (settling_in l o.budget false (suc n) p) (at_pair l m p) (no_more_steps l o.budget (suc n) false p h)
      by_rest false h r = by_verdict (is_some (turn l p).stand.verdict) refl h r

  -- ---- records, one after the other

  -- nothing is to be run there, and no verdict is there
  pub record IsIdle (m : Moment O) : Type 0 where
    pub rests : at_rest (pair_at m) ≡ true
    pub going : m.told.stand.verdict ≡ None
    pub few : length m.told.stand.threads ≤ MOST_THREADS

  resting : (m : Moment O) → IsIdle m → is_resting m ≡ true
  resting m i = ap (λ (b : Bool). b && is_none m.told.stand.verdict) i.rests ∙ ap (λ (v : Option Verdict). is_none v) i.going

  abbrev Goes : List Record → Type 0
  Goes rs = (m : Moment O) (d : Configuration O) → IsIdle m → story_from l o rs m.told ≡ Some d → Reaches (schedule_from l o rs m.told) m rs

  no_record : (c : Configuration O) → schedule_from l o [] c ≡ []
  unfolding schedule_from
  no_record c = refl

  one_record : (r : Record) (rs : List Record) (c d : Configuration O) → after_record l o c r ≡ Some d → schedule_from l o (r ∷ rs) c ≡ steps_of l o c r rs ++ schedule_from l o rs d
  unfolding schedule_from
  one_record r rs c d h = ap (λ (x : Option (Configuration O)). steps_of l o c r rs ++ schedules.steps_on (schedule_from l o rs) x) h

  -- steps that lead on, and then others
  then_on : (xs ys : List CoreStep) (m n : Moment O) (qs rs : List Record) → played l o nodes xs m ≡ Some n → n.records ≡ m.records ++ qs → Reaches ys n rs → Reaches (xs ++ ys) m (qs ++ rs)
  then_on xs ys m n qs rs h k r =
      record {
        there = r.there;
        leads = steps_on l o nodes xs ys m n h ∙ r.leads;
        records = r.records ∙ ap (λ (x : List Record). x ++ rs) k ∙ append_assoc m.records qs rs;
      }

  -- ---- after a settling

  over_none : (c : Configuration O) (v : Verdict) → c.stand.verdict ≡ Some v → (if is_over c then [] else Pick ∷ []) ≡ []
  over_none c v h = ap (λ (x : Option Verdict). if (elim x [ None ↦ false | Some w ↦ true ]) then [] else Pick ∷ []) h

  end_none : (c d : Configuration O) (v : Verdict) → c.stand.verdict ≡ Some v → story_from l o (End v ∷ []) c ≡ Some d → schedule_from l o (End v ∷ []) c ≡ []
  end_none c d v h k =
      let b = story_first l o (End v) [] c d k in
      one_record (End v) [] c b.0 b.1 ∙ ap (λ (xs : List CoreStep). xs ++ schedule_from l o [] b.0) (over_none c v h) ∙ no_record b.0

  settled_on : (m : Moment O) (p : Pair O) (rs : List Record) (c d : Configuration O) → c ≡ record m.told { stand = settle l p } → p.stand.verdict ≡ None → length p.stand.threads ≤ MOST_THREADS → story_from l o rs c ≡ Some d → Goes rs →
      Reaches (settling l o.budget (goes_on rs) p ++ schedule_from l o rs c) (at_pair l m p) rs
  settled_on m p [] c d e v w h g =
      let r = unclosed (MOST_THREADS + 1) m p in
      record {
        there = r.there;
        leads = ap (λ (xs : List CoreStep). played l o nodes (settling l o.budget false p ++ xs) (at_pair l m p)) (no_record c)
            ∙ ap (λ (xs : List CoreStep). played l o nodes xs (at_pair l m p)) (append-nil (settling l o.budget false p)) ∙ r.leads;
        records = r.records;
      }
  settled_on m p (r ∷ rs) c d e v w h g =
      let q = rest_in l (MOST_THREADS + 1) p in
      let stand : q.stand ≡ settle l p = settle_is l p in
      let there : c ≡ record m.told { stand = q.stand } = e ∙ ap (λ (s : Stand O). record m.told { stand = s }) (sym stand) in
      let rest : at_rest q ≡ true = comes_to_rest l (MOST_THREADS + 1) p w (omega arith) in
      let few = settled_few l (MOST_THREADS + 1) p w in
      let sealed_there : played l o nodes (settling l o.budget true p) (at_pair l m p) ≡ Some (sealed l m q) = settling_played l o nodes some fits (MOST_THREADS + 1) m p v in
      at q.stand.verdict refl there rest few sealed_there
    where
      at : (x : Option Verdict) → (rest_in l (MOST_THREADS + 1) p).stand.verdict ≡ x → c ≡ record m.told { stand = (rest_in l (MOST_THREADS + 1) p).stand } → at_rest (rest_in l (MOST_THREADS + 1) p) ≡ true →
          length (rest_in l (MOST_THREADS + 1) p).stand.threads ≤ MOST_THREADS → played l o nodes (settling l o.budget true p) (at_pair l m p) ≡ Some (sealed l m (rest_in l (MOST_THREADS + 1) p)) →
          Reaches (settling l o.budget true p ++ schedule_from l o (r ∷ rs) c) (at_pair l m p) (r ∷ rs)
      at None x there rest few s =
          let q = rest_in l (MOST_THREADS + 1) p in
          let n = at_pair l m q in
          let lands : played l o nodes (settling l o.budget true p) (at_pair l m p) ≡ Some n = s ∙ ap (λ (y : Option Verdict). Some (turned_with l m q y)) x in
          let story = subst (λ (y : Configuration O). story_from l o (r ∷ rs) y ≡ Some d) there h in
          then_on (settling l o.budget true p) (schedule_from l o (r ∷ rs) c) (at_pair l m p) n [] (r ∷ rs) lands (sym (append-nil m.records))
          (subst (λ (y : Configuration O). Reaches (schedule_from l o (r ∷ rs) y) n (r ∷ rs)) (sym there) (g n d (record { rests = rest; going = x; few = few }) story))
      at (Some w) x there rest few s =
          let q = rest_in l (MOST_THREADS + 1) p in
          let n = turned_with l m q (Some w) in
          let lands : played l o nodes (settling l o.budget true p) (at_pair l m p) ≡ Some n = s ∙ ap (λ (y : Option Verdict). Some (turned_with l m q y)) x in
          let ended : c.stand.verdict ≡ Some w = ap (λ (y : Configuration O). y.stand.verdict) there ∙ x in
          let all : r ∷ rs ≡ End w ∷ [] = only_end l o c d w r rs ended h in
          subst (λ (ys : List Record). Reaches (settling l o.budget true p ++ schedule_from l o ys c) (at_pair l m p) ys) (sym all)
          (record {
            there = n;
            leads = ap (λ (xs : List CoreStep). played l o nodes (settling l o.budget true p ++ xs) (at_pair l m p)) (end_none c d w ended (subst (λ (ys : List Record). story_from l o ys c ≡ Some d) all h))
                ∙ ap (λ (xs : List CoreStep). played l o nodes xs (at_pair l m p)) (append-nil (settling l o.budget true p)) ∙ lands;
            records = refl;
          })

  -- ---- one record

  -- an item that comes
  came : (j : ℕ) (x : Item) (r : Record) (rs : List Record) (m : Moment O) (c d : Configuration O) → IsIdle m → record_by j x ≡ Some r → after_record l o m.told r ≡ Some c → steps_of l o m.told r rs ≡ Absorb j x ∷ [] →
      c.stand.verdict ≡ m.told.stand.verdict → c.stand.threads ≡ m.told.stand.threads → story_from l o rs c ≡ Some d → Goes rs → Reaches (schedule_from l o (r ∷ rs) m.told) m (r ∷ rs)
  unfolding after_step
  came j x r rs m c d i k e steps v t h g =
      let n : Moment O = record m { told = c; records = m.records ++ r ∷ [] } in
      let leads : after_step l o nodes m (Absorb j x) ≡ Some n =
      ap (λ (b : Bool). if b then option_and_then (absorbed l o m) (record_by j x) else None) (resting m i)
      ∙ ap (λ (y : Option Record). option_and_then (absorbed l o m) y) k
      ∙ ap (λ (y : Option (Configuration O)). option_map (λ q. record m { told = q; records = m.records ++ r ∷ [] }) y) e in
      let idle : IsIdle n = record {
        rests = ap (λ (w : Option Verdict). elim w [ None ↦ elim m.entries [ [] ↦ true | y ∷ ys ↦ false ] | Some u ↦ true ]) v ∙ i.rests;
        going = v ∙ i.going;
        few = subst (λ (ts : List (Thread O)). length ts ≤ MOST_THREADS) (sym t) i.few;
      } in
      subst (λ (xs : List CoreStep). Reaches xs m (r ∷ rs)) (sym (one_record r rs m.told c e ∙ ap (λ (xs : List CoreStep). xs ++ schedule_from l o rs c) steps))
      (then_on (Absorb j x ∷ []) (schedule_from l o rs c) m n (r ∷ []) rs (one_step l o nodes (Absorb j x) [] m n leads ∙ last l o nodes n) refl (g n d idle h))

  picks : (m : Moment O) (x : Next) → IsIdle m → next l o m.told ≡ x → after_step l o nodes m Pick ≡ Some (picked l m x)
  unfolding after_step
  picks m x i e = ap (λ (b : Bool). if b then Some (picked l m (next l o m.told)) else None) (resting m i) ∙ ap (λ (y : Next). Some (picked l m y)) e

  same_if : (m : Moment O) (e : PlainEvent) (ch : Choice) (reached : List Touched) (b : Bool) (c : Configuration O) → same_event e ch.event ≡ b → (if b then Some (move l m.told ch reached) else None) ≡ Some c → (e ≡ ch.event) × (move l m.told ch reached ≡ c)
  same_if m e ch reached true c h k = (same_event-sound e ch.event h, cc)
  same_if m e ch reached false c h k = absurd (cc)

  selected_at : (m : Moment O) (e : PlainEvent) (rs : List Record) (x : Next) (c d : Configuration O) → next l o m.told ≡ x → if_selected l m.told e x ≡ Some c → IsIdle m → story_from l o rs c ≡ Some d → Goes rs →
      Reaches (picking l o.budget m.told x rs ++ schedule_from l o rs c) m (Sel e ∷ rs)
  selected_at m e rs (Ends v) c d n k i h g = absurd (cc)
  selected_at m e rs Waits c d n k i h g = absurd (cc)
  selected_at m e rs (Selects ch reached) c d n k i h g =
      let s = same_if m e ch reached (same_event e ch.event) c refl k in
      let p = stepped l m.told.stand ch.event ch.place reached in
      let was : Moment O = record m { told = record m.told { drawn = ch.drawn }; records = m.records ++ Sel ch.event ∷ [] } in
      let few : length p.stand.threads ≤ MOST_THREADS = subst (λ (k : ℕ). k ≤ MOST_THREADS) (sym (stepped_length l m.told.stand ch.event ch.place reached)) i.few in
      let r = settled_on was p rs c d (sym s.1) (stepped_verdict l m.told.stand ch.event ch.place reached ∙ i.going) few h g in
      then_on (Pick ∷ []) (settling l o.budget (goes_on rs) p ++ schedule_from l o rs c) m (picked l m (Selects ch reached)) (Sel e ∷ []) rs
      (one_step l o nodes Pick [] m (picked l m (Selects ch reached)) (picks m (Selects ch reached) i n) ∙ last l o nodes (picked l m (Selects ch reached)))
      (ap (λ (y : PlainEvent). m.records ++ Sel y ∷ []) (sym s.0)) r

  selected : (m : Moment O) (e : PlainEvent) (rs : List Record) (c d : Configuration O) → after_record l o m.told (Sel e) ≡ Some c → IsIdle m → story_from l o rs c ≡ Some d → Goes rs → Reaches (schedule_from l o (Sel e ∷ rs) m.told) m (Sel e ∷ rs)
  unfolding after_record
  selected m e rs c d k i h g =
      subst (λ (xs : List CoreStep). Reaches xs m (Sel e ∷ rs)) (sym (one_record (Sel e) rs m.told c k))
      (selected_at m e rs (next l o m.told) c d refl k i h g)

  ended_at : (m : Moment O) (v : Verdict) (x : Next) (c : Configuration O) → next l o m.told ≡ x → if_ended m.told v x ≡ Some c → IsIdle m → Reaches (Pick ∷ []) m (End v ∷ [])
  ended_at m v (Selects ch reached) c n k i = absurd (cc)
  ended_at m v Waits c n k i = absurd (cc)
  ended_at m v (Ends w) c n k i =
      let same : v ≡ w = ended_if m.told c v w (same_verdict v w) refl k in
      record {
        there = ends_at m w;
        leads = one_step l o nodes Pick [] m (ends_at m w) (picks m (Ends w) i n) ∙ last l o nodes (ends_at m w);
        records = ap (λ (y : Verdict). m.records ++ End y ∷ []) (sym same);
      }

  ended : (m : Moment O) (v : Verdict) (c : Configuration O) → after_record l o m.told (End v) ≡ Some c → IsIdle m → Reaches (schedule_from l o (End v ∷ []) m.told) m (End v ∷ [])
  unfolding after_record
  ended m v c k i =
      let steps : schedule_from l o (End v ∷ []) m.told ≡ Pick ∷ [] =
      one_record (End v) [] m.told c k
      ∙ ap (λ (xs : List CoreStep). xs ++ schedule_from l o [] c) (ap (λ (x : Option Verdict). if (elim x [ None ↦ false | Some w ↦ true ]) then [] else Pick ∷ []) i.going)
      ∙ ap (λ (xs : List CoreStep). Pick ∷ xs) (no_record c) in
      subst (λ (xs : List CoreStep). Reaches xs m (End v ∷ [])) (sym steps) (ended_at m v (next l o m.told) c refl k i)

  -- what an item leaves
  record KeepsStand (old new : Configuration O) : Type 0 where
    pub verdict : new.stand.verdict ≡ old.stand.verdict
    pub threads : new.stand.threads ≡ old.stand.threads

  kept_if : (b : Bool) (c e d : Configuration O) → KeepsStand c e → (if b then Some e else None) ≡ Some d → KeepsStand c d
  kept_if true c e d k h = let same : e ≡ d = cc in subst (λ (x : Configuration O). KeepsStand c x) same k
  kept_if false c e d k h = absurd (cc)

  in_keeps : (c d : Configuration O) (j : ℕ) (e : PlainEvent) → after_record l o c (In j e) ≡ Some d → KeepsStand c d
  unfolding after_record
  in_keeps c d j e h = kept_if _ c _ d (record { verdict = refl; threads = refl }) h

  bad_keeps : (c d : Configuration O) (j n : ℕ) → after_record l o c (Bad j n) ≡ Some d → KeepsStand c d
  unfolding after_record
  bad_keeps c d j n h = kept_if _ c _ d (record { verdict = refl; threads = refl }) h

  eof_keeps : (c d : Configuration O) (j : ℕ) → after_record l o c (Eof j) ≡ Some d → KeepsStand c d
  unfolding after_record
  eof_keeps c d j h = kept_if _ c _ d (record { verdict = refl; threads = refl }) h

  -- the records of a story are made
  goes : (rs : List Record) → Goes rs
  goes [] m d i h = stays (schedule_from l o [] m.told) m (no_record m.told)
  goes (In j e ∷ rs) m d i h =
      let b = story_first l o (In j e) rs m.told d h in
      let k = in_keeps m.told b.0 j e b.1 in
      came j (item.Offered e) (In j e) rs m b.0 d i refl b.1 refl k.verdict k.threads b.2 (goes rs)
  goes (Bad j n ∷ rs) m d i h =
      let b = story_first l o (Bad j n) rs m.told d h in
      let k = bad_keeps m.told b.0 j n b.1 in
      came j (item.Bad n) (Bad j n) rs m b.0 d i refl b.1 refl k.verdict k.threads b.2 (goes rs)
  goes (Eof j ∷ rs) m d i h =
      let b = story_first l o (Eof j) rs m.told d h in
      let k = eof_keeps m.told b.0 j b.1 in
      came j item.End (Eof j) rs m b.0 d i refl b.1 refl k.verdict k.threads b.2 (goes rs)
  goes (Sel e ∷ rs) m d i h =
      let b = story_first l o (Sel e) rs m.told d h in
      selected m e rs b.0 d b.1 i b.2 (goes rs)
  goes (End v ∷ []) m d i h = let b = story_first l o (End v) [] m.told d h in ended m v b.0 b.1 i
  goes (End v ∷ r ∷ rs) m d i h = absurd (let z : None ≡ Some d = sym (nothing_after l o [] rs v r m.told) ∙ h in cc)

  -- every story has a legal schedule
  pub schedule_made : (rs : List Record) (c : Configuration O) → story l o rs ≡ Some c → (m : Moment O) × (played l o nodes (schedule_of l o rs) (opened l o) ≡ Some m) × (m.records ≡ rs)
  unfolding story initial schedule_of
  schedule_made rs c h =
      let r = settled_on (opened l o) opening rs (initial l o.injectors) c refl refl (omega arith) h (goes rs) in
      (r.there, r.leads, r.records)

  -- its records are those of the story
  pub schedule_makes : (rs : List Record) (c : Configuration O) → story l o rs ≡ Some c → made_by l o nodes (schedule_of l o rs) ≡ Some rs
  schedule_makes rs c h =
      let s = schedule_made rs c h in
      ap (λ (x : Option (Moment O)). option_map (λ (m : Moment O). m.records) x) s.1 ∙ ap (λ (ys : List Record). Some ys) s.2

  pub schedule_legal : (rs : List Record) (c : Configuration O) → story l o rs ≡ Some c → Legal l o nodes (schedule_of l o rs) (opened l o)
  schedule_legal rs c h = ap (λ (x : Option (Moment O)). is_some x) (schedule_made rs c h).1
