-- Every story can be completed: what comes next is recorded, and where the run waits, the next item of
-- an injector that is read.
use Rattle.std.proofs.Common.{◌≡◌, ℕ, zero, suc, ◌+◌, ◌*◌, ◌<◌, ◌≤◌, Bool, true, false, not, ◌&&◌, nat_eq, List, [], ◌∷◌, ◌++◌, length, refl, sym, ap, subst, ◌∙◌, append_assoc, append-nil, Option, Some, None, option_and_then, arith, length-append}
use Rattle.std.specs.Prelude.{slice_get, slice_index_or, option_to_list}
use Rattle.std.specs.List.{list_any, All}
use Rattle.std.proofs.lemmas.Bool.{lt-ltb, eqb-false, not-true, false≢true}
use Rattle.std.proofs.lemmas.Option.{slice_get-get_or}
use Rattle.js_data.specs.Event.{PlainEvent}
use Rattle.bp_log.specs.Options.{PlainOptions}
use Rattle.bp_log.specs.Records.{is_complete, Complete}
use Rattle.bp_log.specs.declared.limits.TheConstants.{MOST_WAITING}
use Rattle.bp_log.specs.declared.item.Item.{Item}
use Rattle.bp_log.specs.declared.item.Item.TheVariants as item
use Rattle.bp_log.specs.declared.record.Record.{Record}
use Rattle.bp_log.specs.declared.record.Record.TheVariants.{In, Bad, Eof, Sel, End}
use Rattle.bp_log.specs.declared.verdict.Verdict.{Verdict}
use Rattle.bp_log.proofs.Complete.{complete_by_last}
use Rattle.bp_run.specs.Bodies.{Code}
use Rattle.bp_run.specs.Configuration.{Configuration}
use Rattle.bp_run.specs.Settling.{initial, queued}
use Rattle.bp_run.specs.Choosing.{Choice, Touched}
use Rattle.bp_run.specs.Story.{Next, next, move, may_come, has_room, read_out, first_bad, after_record, story_from, story, over_with, record_of, after_next}
use Rattle.bp_run.specs.Story.Next.{Ends, Selects, Waits}
use Rattle.bp_run.specs.Injectors.{has_last_of}
use Rattle.bp_run.proofs.Stories.{goes_on, story_on, move_transitions, nobody_waited, waits_not}
use Rattle.bp_run.proofs.Injectors.{who_is_read}
use Rattle.bp_steps.specs.Merging.{items_by}
use Rattle.bp_complete.specs.Completions.{AreBrought, MergesBrought, Completion}
use Rattle.bp_complete.proofs.Kept.{within, move_queue, IsWaiting, waits}
use Rattle.bp_complete.proofs.Bringing.{brought_left, merges_same, merges_next, item_in, item_bad, item_end, first_read, read_less}

-- ---- items that may come

comes_at : (v : Option Verdict) (b : Bool) → v ≡ None → b ≡ true → (not (elim v [ None ↦ false | Some w ↦ true ]) && b) ≡ true
comes_at None true h k = refl
comes_at None false h k = absurd (false≢true k)
comes_at (Some w) b h k = absurd (cc)

both_true : (a b : Bool) → a ≡ true → b ≡ true → (a && b) ≡ true
both_true true b h k = k
both_true false b h k = absurd (false≢true h)

-- the record of an item leads on where it may come
led_in : {O S : Type 0} (l : Code O S) (o : PlainOptions) (c : Configuration O) (j : ℕ) (e : PlainEvent) → may_come c j ≡ true → has_room c.stand ≡ true → after_record l o c (In j e) ≡ Some (record c { stand = queued e c.stand })
unfolding after_record
led_in l o c j e h k = rw (both_true (may_come c j) (has_room c.stand) h k) refl

led_bad : {O S : Type 0} (l : Code O S) (o : PlainOptions) (c : Configuration O) (j n : ℕ) → may_come c j ≡ true → after_record l o c (Bad j n) ≡ Some (record (read_out c j) { bad = first_bad c.bad j n })
unfolding after_record
led_bad l o c j n h = rw h refl

led_end : {O S : Type 0} (l : Code O S) (o : PlainOptions) (c : Configuration O) (j : ℕ) → may_come c j ≡ true → after_record l o c (Eof j) ≡ Some (read_out c j)
unfolding after_record
led_end l o c j h = rw h refl

-- ---- one more record of a story

story_more : {O S : Type 0} (l : Code O S) (o : PlainOptions) (c m : Configuration O) (r : Record) → after_record l o c r ≡ Some m → story_from l o (r ∷ []) c ≡ Some m
unfolding story_from
story_more l o c m (In j e) h = ap (λ (x : Option (Configuration _)). option_and_then (story_from l o []) x) h
story_more l o c m (Bad j n) h = ap (λ (x : Option (Configuration _)). option_and_then (story_from l o []) x) h
story_more l o c m (Eof j) h = ap (λ (x : Option (Configuration _)). option_and_then (story_from l o []) x) h
story_more l o c m (Sel e) h = ap (λ (x : Option (Configuration _)). option_and_then (story_from l o []) x) h
story_more l o c m (End v) h = ap (λ (x : Option (Configuration _)). option_and_then (story_from l o []) x) h

goes_to : {O S : Type 0} (l : Code O S) (o : PlainOptions) (rs : List Record) (c m : Configuration O) (r : Record) → story l o rs ≡ Some c → is_complete rs ≡ false → after_record l o c r ≡ Some m → story l o (rs ++ r ∷ []) ≡ Some m
unfolding story
goes_to l o rs c m r h k a = story_on l o rs (r ∷ []) (initial l o.injectors) c h k ∙ story_more l o c m r a

module _ {O S : Type 0} (l : Code O S) (o : PlainOptions) (brought : List (List Item)) where
  -- a story that is not complete, and one record more
  record Step (rs : List Record) (c : Configuration O) : Type 0 where
    entry : Record
    after : Configuration O
    leads : story l o (rs ++ entry ∷ []) ≡ Some after
    going : is_complete (entry ∷ []) ≡ false
    merges : MergesBrought (rs ++ entry ∷ []) brought
    -- twice the events that may be selected yet, the room of the queue and those who are read get less
    less : 2 * c.stand.transitions + length c.stand.queue + length after.reading < 2 * after.stand.transitions + length after.stand.queue + length c.reading

  step_selects : (rs : List Record) (c : Configuration O) (ch : Choice) (r : List Touched) → next l o c ≡ Selects ch r → story l o rs ≡ Some c → is_complete rs ≡ false → MergesBrought rs brought → Step rs c
  step_selects rs c ch r h s k m =
      let more = move_transitions l c ch r in
      let longer = (move_queue l o c ch r h).0 in
      record {
        entry = Sel ch.event;
        after = move l c ch r;
        leads = ap (λ (x : Next). story l o (rs ++ option_to_list (record_of x))) (sym h) ∙ goes_on l o rs c s k ∙ ap (λ (x : Next). Some (after_next l c x)) h;
        going = refl;
        merges = merges_same brought rs (Sel ch.event) (λ j. refl) m;
        less = omega (arith, more, longer);
      }

  module _ (rs : List Record) (c : Configuration O) (j : ℕ) (own : List Item) (s : story l o rs ≡ Some c) (k : is_complete rs ≡ false) (m : MergesBrought rs brought) (w : IsWaiting c) (read : list_any (nat_eq j) c.reading ≡ true)
      (room : length c.stand.queue ≤ MOST_WAITING) (at : slice_get brought j ≡ Some own) where
    may : may_come c j ≡ true
    may = comes_at c.stand.verdict (list_any (nat_eq j) c.reading) w.going read

    space : has_room c.stand ≡ true
    space = let other = eqb-false (length c.stand.queue) MOST_WAITING w.space in lt-ltb (length c.stand.queue) MOST_WAITING (omega (arith, room, other))

    shorter : length (read_out c j).reading < length c.reading
    shorter = read_less j c.reading read

    -- the next item that the injector brings comes
    step_brings : (rest : List Item) → AreBrought rest → items_by j rs ++ rest ≡ own → Step rs c
    step_brings [] b left = absurd b
    step_brings (item.Offered e ∷ more) b left =
        let longer = length-append c.stand.queue (e ∷ []) in
        record {
          entry = In j e;
          after = record c { stand = queued e c.stand };
          leads = goes_to l o rs c _ (In j e) s k (led_in l o c j e may space);
          going = refl;
          merges = merges_next brought rs (In j e) j (item.Offered e) more own (item_in j e) at left m;
          less = omega (arith, longer);
        }
    step_brings (item.Bad n ∷ more) b left =
        let less = shorter in
        record {
          entry = Bad j n;
          after = record (read_out c j) { bad = first_bad c.bad j n };
          leads = goes_to l o rs c _ (Bad j n) s k (led_bad l o c j n may);
          going = refl;
          merges = merges_next brought rs (Bad j n) j (item.Bad n) more own (item_bad j n) at left m;
          less = omega (arith, less);
        }
    step_brings (item.Failed ∷ more) b left = absurd b
    step_brings (item.End ∷ more) b left =
        let less = shorter in
        record {
          entry = Eof j;
          after = read_out c j;
          leads = goes_to l o rs c _ (Eof j) s k (led_end l o c j may);
          going = refl;
          merges = merges_next brought rs (Eof j) j item.End more own (item_end j) at left m;
          less = omega (arith, less);
        }

  brings_at : (j : ℕ) → All AreBrought brought → j < length brought → (own : List Item) × (slice_get brought j ≡ Some own) × AreBrought own
  brings_at j b h = (slice_index_or brought j [], slice_get-get_or brought j [] h, b j [] h)

  module _ (many : length brought ≡ o.injectors) (all : All AreBrought brought) where
    step_waits : (rs : List Record) (c : Configuration O) → next l o c ≡ Waits → story l o rs ≡ Some c → is_complete rs ≡ false → MergesBrought rs brought → Step rs c
    step_waits rs c h s k m =
        let kept = within l o rs c s in
        let w = waits l o c h in
        let j = first_read c.reading (λ e. waits_not l o c (nobody_waited o c e) h) in
        let known = kept.known j.0 j.1 in
        let own = brings_at j.0 all (omega (arith, known, many)) in
        let p = m j.0 own.0 own.1 in
        let none = not-true (has_last_of j.0 rs) (sym (who_is_read l o rs c j.0 s known) ∙ j.1) in
        step_brings rs c j.0 own.0 s k m w j.1 kept.room own.1 p.0 (brought_left j.0 rs p.0 none (subst (λ (xs : List Item). AreBrought xs) (sym p.1) own.2)) p.1

    -- a completion of one record more is one
    shifted : (rs : List Record) (r : Record) → Completion l o (rs ++ r ∷ []) brought → Completion l o rs brought
    shifted rs r n =
        let same = append_assoc rs (r ∷ []) n.later in
        record {
          later = r ∷ n.later;
          last = n.last;
          story = ap (λ (xs : List Record). story l o xs) (sym same) ∙ n.story;
          complete = subst (λ (xs : List Record). Complete xs) same n.complete;
          merges = subst (λ (xs : List Record). MergesBrought xs brought) same n.merges;
        }

    -- what comes next is recorded, and the rest is completed
    completes_next : (n : ℕ) (rs : List Record) (c : Configuration O) (x : Next) → next l o c ≡ x → story l o rs ≡ Some c → is_complete rs ≡ false → MergesBrought rs brought →
        (Step rs c → Completion l o rs brought) → Completion l o rs brought
    completes_next n rs c (Ends v) h s k m on = record {
      later = End v ∷ [];
      last = over_with c v;
      story = ap (λ (x : Next). story l o (rs ++ option_to_list (record_of x))) (sym h) ∙ goes_on l o rs c s k ∙ ap (λ (x : Next). Some (after_next l c x)) h;
      complete = complete_by_last rs (End v);
      merges = merges_same brought rs (End v) (λ j. refl) m;
    }
    completes_next n rs c (Selects ch r) h s k m on = on (step_selects rs c ch r h s k m)
    completes_next n rs c Waits h s k m on = on (step_waits rs c h s k m)

    completes_in : (n : ℕ) (rs : List Record) (c : Configuration O) → 2 * o.steps + MOST_WAITING + length c.reading < n + 2 * c.stand.transitions + length c.stand.queue →
        story l o rs ≡ Some c → is_complete rs ≡ false → MergesBrought rs brought → Completion l o rs brought
    completes_in zero rs c f s k m = let w = within l o rs c s in let a = w.room in let b = w.steps in absurd (omega (arith, a, b, f))
    completes_in (suc n) rs c f s k m =
        completes_next n rs c (next l o c) refl s k m
        (λ step.
        let less = step.less in
        shifted rs step.entry (completes_in n (rs ++ step.entry ∷ []) step.after (omega (arith, f, less)) step.leads (complete_by_last rs step.entry ∙ step.going) step.merges))

    completed : (b : Bool) (rs : List Record) (c : Configuration O) → is_complete rs ≡ b → story l o rs ≡ Some c → MergesBrought rs brought → Completion l o rs brought
    completed true rs c e s m =
        let same = append-nil rs in
        record {
          later = [];
          last = c;
          story = ap (λ (xs : List Record). story l o xs) same ∙ s;
          complete = ap (λ (xs : List Record). is_complete xs) same ∙ e;
          merges = subst (λ (xs : List Record). MergesBrought xs brought) (sym same) m;
        }
    completed false rs c e s m = completes_in (2 * o.steps + MOST_WAITING + length c.reading + 1) rs c (omega arith) s e m

    pub completes : (rs : List Record) (c : Configuration O) → story l o rs ≡ Some c → MergesBrought rs brought → Completion l o rs brought
    completes rs c s m = completed (is_complete rs) rs c refl s m
