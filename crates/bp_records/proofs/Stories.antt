-- The records of every story can stand in a log.
use Rattle.std.proofs.Common.{◌≡◌, ℕ, zero, suc, ◌+◌, ◌*◌, ◌<◌, ◌≤◌, Bool, true, false, not, ◌&&◌, ◌||◌, ◌==◌, nat_eq, nat_lt, List, [], ◌∷◌, ◌++◌, length, Option, Some, None, refl, sym, ap, ◌∙◌, subst, arith, if◌then◌else◌, length-append}
use Rattle.std.specs.List.{list_any}
use Rattle.std.specs.Prelude.{filter, remove}
use Rattle.std.proofs.lemmas.Bool.{and_parts, eqb-true, false≢true, ltb-true, lt-ltb, or_from, not-true, not_from_false}
use Rattle.std.specs.Cmp.Derive.{both_true}
use Rattle.std.proofs.lemmas.List.Filters.{length-filter_both}
use Rattle.std.proofs.lemmas.Map.Views.{any-filter_same}
use Rattle.std.proofs.lemmas.List.Folds.{list_any-append}
use Rattle.js_data.specs.Event.{PlainEvent}
use Rattle.js_data.proofs.Shared.{OfSome}
use Rattle.bp_log.specs.Options.{PlainOptions, AreOptions}
use Rattle.bp_log.specs.Records.{is_complete}
use Rattle.bp_log.specs.declared.limits.TheConstants.{MOST_WAITING}
use Rattle.bp_log.specs.declared.version.Version.{Version}
use Rattle.bp_log.specs.declared.record.Record.{Record}
use Rattle.bp_log.specs.declared.record.Record.TheVariants.{In, Bad, Eof, Sel, End}
use Rattle.bp_log.specs.declared.verdict.Verdict.{Verdict}
use Rattle.bp_log.specs.Logs.{record_text}
use Rattle.bp_reading.specs.declared.limits.TheConstants.{MOST_RECORDS, MOST_LINE_BYTES}
use Rattle.bp_reading.specs.Reading.{Stage, is_live, after, can_stand, first_stage}
use Rattle.bp_reading.specs.Laws.{AreRecords, IsRecord, Stands}
use Rattle.bp_run.specs.Bodies.{Code}
use Rattle.bp_run.specs.Configuration.{Configuration}
use Rattle.bp_run.specs.Settling.{queued, initial, opening}
use Rattle.bp_run.specs.Choosing.{Choice, Touched}
use Rattle.bp_run.specs.Story.{next, move, may_come, has_room, is_over, read_out, first_bad, if_ended, after_record, story_from, without, stepped}
use Rattle.bp_run.specs.Story.Next.{Selects}
use Rattle.bp_run.proofs.Stories.{leads_if, selected_moves, ended_with, story_first, selects_steps, move_transitions}
use Rattle.bp_run.proofs.Injectors.{below_any, length_below}
use Rattle.bp_run.proofs.Growing.{grown_settle}
use Rattle.bp_records.proofs.Runs.{initial_short, ShortCode, ShortConfiguration, ShortNext, move_short, next_short}
use Rattle.bp_records.proofs.Short.{IsLight}
use Rattle.bp_records.proofs.Verdicts.{IsShortVerdict, short_known}
use Rattle.bp_records.proofs.Bounds.{selected_fits, end_fits, handed_fits, bad_fits, over_fits}

-- ---- lists

-- one fewer at most
remove_most : {A : Type 0} (xs : List A) (i : ℕ) → length xs ≤ length (remove xs i) + 1
remove_most [] i = omega arith
remove_most (x ∷ xs) zero = omega arith
remove_most (x ∷ xs) (suc i) = omega (arith, remove_most xs i)

remove_least : {A : Type 0} (xs : List A) (i : ℕ) → length (remove xs i) ≤ length xs
remove_least [] zero = omega arith
remove_least [] (suc i) = omega arith
remove_least (x ∷ xs) zero = omega arith
remove_least (x ∷ xs) (suc i) = omega (arith, remove_least xs i)

kept_one : (j k : ℕ) (ks : List ℕ) (b : Bool) → nat_eq j k ≡ b → (b || list_any (nat_eq j) ks) ≡ true → (list_any (nat_eq j) ks ≡ true → 1 ≤ length (filter (nat_eq j) ks))
    → 1 ≤ length (if b then k ∷ filter (nat_eq j) ks else filter (nat_eq j) ks)
kept_one j k ks true e h rest = omega arith
kept_one j k ks false e h rest = rest h

pub some_kept : (j : ℕ) (ks : List ℕ) → list_any (nat_eq j) ks ≡ true → 1 ≤ length (filter (nat_eq j) ks)
some_kept j [] h = absurd (false≢true h)
some_kept j (k ∷ ks) h = kept_one j k ks (nat_eq j k) refl h (some_kept j ks)

twice_not : (b : Bool) → b ≡ not (not b)
twice_not true = refl
twice_not false = refl

-- the numbers without one that is among them are fewer
fewer : (j : ℕ) (ks : List ℕ) → list_any (nat_eq j) ks ≡ true → length (filter (λ k. not (nat_eq j k)) ks) + 1 ≤ length ks
fewer j ks h = omega (arith, length-filter_both (λ k. not (nat_eq j k)) (nat_eq j) (λ k. twice_not (nat_eq j k)) ks, some_kept j ks h)

-- ---- what is known of a run so far, and of the stage at which its log stands

-- an injector that is read is there, and did not end
abbrev pub Reads : List ℕ → Stage → Type 0
Reads reading s = (j : ℕ) → list_any (nat_eq j) reading ≡ true → is_live s j ≡ true

pub record Holds {O : Type 0} (P : O → Type 0) (o : PlainOptions) (c : Configuration O) (s : Stage) : Type 0 where
  pub short : ShortConfiguration s.injectors P c
  pub going : s.ended ≡ false
  pub reads : Reads c.reading s
  pub room : length c.stand.queue ≤ MOST_WAITING
  pub steps : c.stand.transitions ≤ o.steps
  -- two records a transition at most, one for each event that waits, and one for each injector that ended
  pub lines : s.lines + length c.reading ≤ 2 * c.stand.transitions + length c.stand.queue + o.injectors

few : {O : Type 0} (P : O → Type 0) (o : PlainOptions) (c : Configuration O) (s : Stage) → AreOptions o → Holds P o c s → s.lines < MOST_RECORDS
few P o c s fine h = omega (arith, h.lines, h.room, h.steps, fine.steps, fine.injectors)

-- an injector that ends is not read any more
gone : (j : ℕ) (reading : List ℕ) (s : Stage) → Reads reading s → (i : ℕ) → list_any (nat_eq i) (filter (λ k. not (nat_eq j k)) reading) ≡ true → is_live (record s { over = s.over ++ j ∷ []; lines = s.lines + 1 }) i ≡ true
gone j reading s r i h =
    let same = any-filter_same (nat_eq i) (λ k. not (nat_eq j k)) (not (nat_eq j i)) (λ k e. ap (λ (n : ℕ). not (nat_eq j n)) (sym (eqb-true i k e))) reading in
    let p = and_parts (not (nat_eq j i)) (list_any (nat_eq i) reading) (sym same ∙ h) in
    let q = and_parts (nat_lt i s.injectors) (not (list_any (λ k. k == i) s.over)) (r i p.1) in
    both_true q.0 (not_from_false _ (list_any-append (λ k. k == i) s.over (j ∷ []) ∙ or_from _ _ (not-true _ q.1) (or_from (nat_eq j i) false (not-true _ p.0) refl)))

module _ {O S : Type 0} (P : O → Type 0) (l : Code O S) (short : ShortCode P l) (o : PlainOptions) (fine : AreOptions o) where
  handed : (j : ℕ) (e : PlainEvent) (c : Configuration O) (s : Stage) → Holds P o c s → has_room c.stand ≡ true → Holds P o (record c { stand = queued e c.stand }) (record s { lines = s.lines + 1 })
  handed j e c s h room = record {
    short = record { stand = record { threads = h.short.stand.threads; verdict = h.short.stand.verdict }; bad = h.short.bad };
    going = h.going;
    reads = h.reads;
    room = let few = ltb-true (length c.stand.queue) MOST_WAITING room in omega (arith, few, length-append c.stand.queue (e ∷ []));
    steps = h.steps;
    lines = omega (arith, h.lines, length-append c.stand.queue (e ∷ []));
  }

  read_to_end : (j : ℕ) (b : Option (ℕ × ℕ)) (c : Configuration O) (s : Stage) → Holds P o c s → OfSome (λ x. x.0 < s.injectors) b → list_any (nat_eq j) c.reading ≡ true
      → Holds P o (record (read_out c j) { bad = b }) (record s { over = s.over ++ j ∷ []; lines = s.lines + 1 })
  read_to_end j b c s h known read = record {
    short = record { stand = h.short.stand; bad = known };
    going = h.going;
    reads = gone j c.reading s h.reads;
    room = h.room;
    steps = h.steps;
    lines = omega (arith, h.lines, fewer j c.reading read);
  }

  waits_less : (c : Configuration O) (place : Option ℕ) → (length (without c.stand.queue place) ≤ length c.stand.queue) × (length c.stand.queue ≤ length (without c.stand.queue place) + 1)
  waits_less c None = (omega arith, omega arith)
  waits_less c (Some i) = (remove_least c.stand.queue i, remove_most c.stand.queue i)

  moved : (c : Configuration O) (s : Stage) (ch : Choice) (r : List Touched) → Holds P o c s → next l o c ≡ Selects ch r → IsLight ch.event → Holds P o (move l c ch r) (record s { lines = s.lines + 1 })
  unfolding Rattle.bp_run.specs.Story.step
  moved c s ch r h n light =
      let left = selects_steps l o c ch r n h.steps in
      let made = move_transitions l c ch r in
      let less = waits_less c ch.place in
      let grown = grown_settle l (stepped l c.stand ch.event ch.place r) in
      record {
        short = move_short s.injectors P l short c ch r light h.short;
        going = h.going;
        reads = h.reads;
        room = grown.room (omega (arith, less.0, h.room));
        steps = omega (arith, left, made);
        lines = omega (arith, h.lines, less.1, grown.longer, made);
      }

  -- ---- a complete story, record by record

  ends_known : (c : Configuration O) (s : Stage) (v : Verdict) (d : Configuration O) → Holds P o c s → if_ended c v (next l o c) ≡ Some d → IsShortVerdict s.injectors v
  ends_known c s v d h k = subst (ShortNext s.injectors) (ended_with c d v (next l o c) k).0 (next_short s.injectors P l short o c h.short)

  no_more : (v : Verdict) (r : Record) (rs : List Record) (c d : Configuration O) → story_from l o (End v ∷ r ∷ rs) c ≡ Some d → ⊥
  unfolding story_from
  no_more v r rs c d k = cc

  first_known : (b : Option (ℕ × ℕ)) (j n : ℕ) (s : Stage) → OfSome (λ (x : ℕ × ℕ). x.0 < s.injectors) b → j < s.injectors → OfSome (λ (x : ℕ × ℕ). x.0 < s.injectors) (first_bad b j n)
  first_known None j n s h k = k
  first_known (Some x) j n s h k = h

  -- the record can stand next, and after it the same is known
  record Steps (c m : Configuration O) (s : Stage) (r : Record) : Type 0 where
    can : can_stand s r ≡ true
    fits : length (record_text r) ≤ MOST_LINE_BYTES
    on : Holds P o m (after s r)

  may : (c : Configuration O) (j : ℕ) → may_come c j ≡ true → list_any (nat_eq j) c.reading ≡ true
  may c j h = (and_parts (not (is_over c)) (list_any (nat_eq j) c.reading) h).1

  handed_on : (j : ℕ) (e : PlainEvent) (c m : Configuration O) (s : Stage) → Holds P o c s → IsRecord (In j e) → after_record l o c (In j e) ≡ Some m → Steps c m s (In j e)
  unfolding after_record
  handed_on j e c m s h are f =
      let p = leads_if (may_come c j && has_room c.stand) (record c { stand = queued e c.stand }) m f in
      let q = and_parts (may_come c j) (has_room c.stand) p.0 in
      record {
        can = h.reads j (may c j q.0);
        fits = handed_fits j e are.0 are.1;
        on = subst (λ (x : Configuration O). Holds P o x (after s (In j e))) p.1 (handed j e c s h q.1);
      }

  bad_on : (j n : ℕ) (c m : Configuration O) (s : Stage) → Holds P o c s → IsRecord (Bad j n) → after_record l o c (Bad j n) ≡ Some m → Steps c m s (Bad j n)
  unfolding after_record
  bad_on j n c m s h are f =
      let p = leads_if (may_come c j) (record (read_out c j) { bad = first_bad c.bad j n }) m f in
      let live = h.reads j (may c j p.0) in
      let there = ltb-true j s.injectors (and_parts (nat_lt j s.injectors) (not (list_any (λ k. k == j) s.over)) live).0 in
      record {
        can = live;
        fits = bad_fits j n are.0 are.1;
        on = subst (λ (x : Configuration O). Holds P o x (after s (Bad j n))) p.1 (read_to_end j (first_bad c.bad j n) c s h (first_known c.bad j n s h.short.bad there) (may c j p.0));
      }

  over_on : (j : ℕ) (c m : Configuration O) (s : Stage) → Holds P o c s → IsRecord (Eof j) → after_record l o c (Eof j) ≡ Some m → Steps c m s (Eof j)
  unfolding after_record
  over_on j c m s h are f =
      let p = leads_if (may_come c j) (read_out c j) m f in
      record {
        can = h.reads j (may c j p.0);
        fits = over_fits j are;
        on = subst (λ (x : Configuration O). Holds P o x (after s (Eof j))) p.1 (read_to_end j c.bad c s h h.short.bad (may c j p.0));
      }

  selected_on : (e : PlainEvent) (c m : Configuration O) (s : Stage) → Holds P o c s → IsRecord (Sel e) → after_record l o c (Sel e) ≡ Some m → Steps c m s (Sel e)
  unfolding after_record
  selected_on e c m s h are f =
      let p = selected_moves l c m e (next l o c) f in
      record {
        can = refl;
        fits = selected_fits e are;
        on = subst (λ (x : Configuration O). Holds P o x (after s (Sel e))) p.leads (moved c s p.choice p.reached h p.comes (subst IsLight p.event are.weight));
      }

  end_stands : (v : Verdict) (c m : Configuration O) (s : Stage) → Holds P o c s → IsRecord (End v) → after_record l o c (End v) ≡ Some m → Stands s (End v ∷ [])
  unfolding after_record
  end_stands v c m s h are f =
      let known = ends_known c s v m h f in
      (h.going, few P o c s fine h, short_known s v known, end_fits s.injectors v are known, refl)

  pub story_stands : (records : List Record) (c d : Configuration O) (s : Stage) → Holds P o c s → AreRecords records → is_complete records ≡ true → story_from l o records c ≡ Some d → Stands s records
  story_stands [] c d s h are whole k = absurd (false≢true whole)
  story_stands (In j e ∷ rs) c d s h are whole k =
      let f = story_first l o (In j e) rs c d k in
      let t = handed_on j e c f.0 s h are.0 f.1 in
      (h.going, few P o c s fine h, t.can, t.fits, story_stands rs f.0 d (after s (In j e)) t.on are.1 whole f.2)
  story_stands (Bad j n ∷ rs) c d s h are whole k =
      let f = story_first l o (Bad j n) rs c d k in
      let t = bad_on j n c f.0 s h are.0 f.1 in
      (h.going, few P o c s fine h, t.can, t.fits, story_stands rs f.0 d (after s (Bad j n)) t.on are.1 whole f.2)
  story_stands (Eof j ∷ rs) c d s h are whole k =
      let f = story_first l o (Eof j) rs c d k in
      let t = over_on j c f.0 s h are.0 f.1 in
      (h.going, few P o c s fine h, t.can, t.fits, story_stands rs f.0 d (after s (Eof j)) t.on are.1 whole f.2)
  story_stands (Sel e ∷ rs) c d s h are whole k =
      let f = story_first l o (Sel e) rs c d k in
      let t = selected_on e c f.0 s h are.0 f.1 in
      (h.going, few P o c s fine h, t.can, t.fits, story_stands rs f.0 d (after s (Sel e)) t.on are.1 whole f.2)
  story_stands (End v ∷ []) c d s h are whole k =
      let f = story_first l o (End v) [] c d k in
      end_stands v c f.0 s h are.0 f.1
  story_stands (End v ∷ r ∷ rs) c d s h are whole k = absurd (no_more v r rs c d k)

-- ---- from the beginning

pub begins : {O S : Type 0} (v : Version) (P : O → Type 0) (l : Code O S) (short : ShortCode P l) (o : PlainOptions) → AreOptions o → Holds P o (initial l o.injectors) (first_stage v o.injectors)
unfolding initial
begins v P l short o fine =
    let grown = grown_settle l opening in
    record {
      short = initial_short o.injectors P l short o.injectors;
      going = refl;
      reads = λ j h. both_true (lt-ltb j o.injectors (below_any o.injectors j h)) refl;
      room = grown.room (omega arith);
      steps = omega (arith, grown.transitions);
      lines = omega (arith, length_below o.injectors);
    }
