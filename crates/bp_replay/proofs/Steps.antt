-- One record of a log, followed.
use Rattle.std.proofs.Common.{◌≡◌, ℕ, ◌<◌, true, false, ◌&&◌, nat_eq, nat_lt, List, [], ◌∷◌, ◌++◌, length, refl, ap, sym, ◌∙◌, subst, arith, Option, Some, None, Ok, Err, length-append}
use Rattle.std.specs.Prelude.{Result, option_to_list}
use Rattle.std.specs.List.{list_any}
use Rattle.std.proofs.lemmas.Bool.{false_from_ne_true}
use Rattle.js_data.proofs.Shared.{one_answer}
use Rattle.js_meaning.specs.Bodies.{Origin}
use Rattle.bp_log.specs.Records.{is_complete}
use Rattle.bp_log.specs.declared.limits.TheConstants.{MOST_WAITING}
use Rattle.bp_log.specs.declared.item.Item.{Item}
use Rattle.bp_log.specs.declared.item.Item.TheVariants as item
use Rattle.bp_log.specs.declared.record.Record.{Record}
use Rattle.bp_log.specs.declared.record.Record.TheVariants.{In, Bad, Eof, Sel, End}
use Rattle.bp_log.specs.declared.trace.Line.{Line}
use Rattle.bp_log.specs.declared.verdict.Verdict.{Verdict}
use Rattle.bp_log.proofs.Complete.{complete_by_last}
use Rattle.bp_run.specs.Configuration.{Configuration}
use Rattle.bp_run.specs.Settling.{Entry, Pair}
use Rattle.bp_run.specs.Story.{Next, has_room, over_with, record_of, story}
use Rattle.bp_run.specs.Story.Next.{Ends, Selects, Waits}
use Rattle.bp_run.proofs.Stories.{story_end, verdict_next}
use Rattle.bp_floor.specs.declared.phase.Phase.{Phase}
use Rattle.bp_floor.specs.declared.phase.Phase.TheVariants.{Ready, Lent, Rest, Over}
use Rattle.bp_floor.specs.Floors.{is_idle}
use Rattle.bp_arbiter.specs.declared.picked.Picked.{Picked}
use Rattle.bp_arbiter.specs.declared.picked.Picked.TheVariants as picked
use Rattle.bp_arbiter.specs.Arbiters as arbiter
use Rattle.bp_arbiter.specs.Arbiters.{PlainArbiter, Recounts, StandsFor, Shows, options_in, stand_in, is_lent}
use Rattle.bp_arbiter.specs.Absorb.{with_item, absorbed}
use Rattle.bp_arbiter.specs.Pick.{picked_of, after_pick, phase_after}
use Rattle.bp_turns.specs.Turning.{StandsAfter}
use Rattle.bp_turns.proofs.Arbiters.{same_code, recounts_at, recounts_in, coming_at}
use Rattle.bp_replay.specs.declared.fault.ReplayFault.{ReplayFault}
use Rattle.bp_replay.specs.declared.fault.ReplayFault.TheVariants as fault
use Rattle.bp_replay.specs.Courses.{Course, code_in, coming, led}
use Rattle.bp_replay.specs.Following.{Runs, IsOnWay, StaysAt, IsThere, IsSomewhere, IsSaidBy, enters, onto, Makes, Compared, Followed}
use Rattle.bp_replay.proofs.Tales.{one_record, one_more, more_lines, MakesOther, leads_nowhere, leads_nowhere_over, reads_after}

-- ---- where an arbiter is

-- at rest its records are those of the course, whose lines were taken
pub stays_rest : (c : Course) (a : PlainArbiter) → IsThere c a → a.phase ≡ Rest → (a.records ≡ c.records) × StandsAfter a c.told.stand.lines
stays_rest c a t e = let w : StaysAt c a Rest = subst (λ (f : Phase). StaysAt c a f) e t.stays in w

stays_at_over : (c : Course) (a : PlainArbiter) (f : Phase) → StaysAt c a f → (f ≡ Rest → ⊥) → (v : Verdict) × (a.records ≡ c.records ++ End v ∷ []) × (c.told.stand.verdict ≡ Some v)
stays_at_over c a Ready w h = absurd w
stays_at_over c a Lent w h = absurd w
stays_at_over c a Rest w h = absurd (h refl)
stays_at_over c a Over w h = w

-- and else its run has ended
pub stays_over : (c : Course) (a : PlainArbiter) → IsThere c a → (a.phase ≡ Rest → ⊥) → (v : Verdict) × (a.records ≡ c.records ++ End v ∷ []) × (c.told.stand.verdict ≡ Some v)
stays_over c a t h = stays_at_over c a a.phase t.stays h

pub recounts_course : (c : Course) (a : PlainArbiter) → Runs c a → a.records ≡ c.records → Recounts a c.told
recounts_course c a r e = recounts_in (code_in c) c.options a c.told r.code r.options (ap (λ (rs : List Record). story (code_in c) c.options rs) e ∙ r.told)

pub told_at : (c : Course) (a : PlainArbiter) (d : Configuration Origin) → Runs c a → a.records ≡ c.records → Recounts a d → d ≡ c.told
told_at c a d r e h =
    one_answer (story (code_in c) c.options a.records) d c.told (recounts_at (code_in c) c.options a d r.code r.options h) (ap (λ (rs : List Record). story (code_in c) c.options rs) e ∙ r.told)

reading_at : (c : Course) (a : PlainArbiter) → IsThere c a → a.phase ≡ Rest → c.told.reading ≡ a.reading
reading_at c a t e =
    let w = stays_rest c a t e in
    let s = w.1.1 in
    ap (λ (x : Configuration Origin). x.reading) (sym (told_at c a s.told t.runs w.0 s.story)) ∙ s.reading

-- an injector that isn't there isn't read
pub unread_above : (a : PlainArbiter) (n j : ℕ) → n ≡ (options_in a).injectors → IsSomewhere a → a.phase ≡ Rest → (j < n → ⊥) → false ≡ list_any (nat_eq j) a.reading
unread_above a n j e w r h =
    let c = w.0 in
    let t = w.1 in
    sym (false_from_ne_true (list_any (nat_eq j) a.reading)
    (λ k. h (subst (λ (m : ℕ). j < m) (ap (λ o. o.injectors) (sym (t.runs).options) ∙ sym e) ((t.runs).reads j (ap (λ (xs : List ℕ). list_any (nat_eq j) xs) (reading_at c a t r) ∙ k)))))

-- what may enter is seen by the arbiter
pub enters_same : (c : Course) (a : PlainArbiter) (r : Record) → IsThere c a → a.phase ≡ Rest → (a.broken ≡ false → is_idle a.phase ≡ true → (d : Configuration Origin) → Recounts a d → Shows (stand_in a) d.stand) →
    enters c.told.reading c.told.stand r ≡ enters a.reading (stand_in a) r
enters_same c a (In j e) t f shows =
    let w = stays_rest c a t f in
    let s = w.1.1 in
    let q = shows s.whole (ap is_idle f) c.told (recounts_course c a t.runs w.0) in
    ap (λ (xs : List ℕ). list_any (nat_eq j) xs && has_room c.told.stand) (reading_at c a t f)
    ∙ ap (λ (n : ℕ). list_any (nat_eq j) a.reading && nat_lt n MOST_WAITING) (ap (λ xs. length xs) (sym q.queue))
enters_same c a (Bad j n) t f shows = ap (λ (xs : List ℕ). list_any (nat_eq j) xs) (reading_at c a t f)
enters_same c a (Eof j) t f shows = ap (λ (xs : List ℕ). list_any (nat_eq j) xs) (reading_at c a t f)
enters_same c a (Sel e) t f shows = refl
enters_same c a (End v) t f shows = refl

-- ---- one more record

module _ (c : Course) (a b : PlainArbiter) (r : Record) (runs : Runs c a) (code : arbiter.code_in b ≡ arbiter.code_in a) (options : options_in b ≡ options_in a) (records : b.records ≡ c.records ++ r ∷ [])
    (unlent : is_lent b.phase ≡ false) (stands : StandsAfter b c.told.stand.lines) where
  abbrev told : Configuration Origin
  told = (stands.1).told

  story_is : story (code_in c) c.options (c.records ++ r ∷ []) ≡ Some told
  story_is =
      ap (λ (rs : List Record). story (code_in c) c.options rs) (sym records)
      ∙ recounts_at (code_in c) c.options b told (code ∙ runs.code) (options ∙ runs.options) (stands.1).story

  led_is : led c r ≡ Some told
  led_is = sym (one_more (code_in c) c.options c.records c.told r runs.told runs.going) ∙ story_is

  way_on : is_complete (r ∷ []) ≡ false → IsOnWay (onto c r told) c.told.stand.lines b
  way_on h =
      let m = more_lines (code_in c) c.options c.records c.told told r runs.told story_is in
      record {
        runs = record {
          code = code ∙ runs.code;
          options = options ∙ runs.options;
          told = story_is;
          going = complete_by_last c.records r ∙ h;
          reads = reads_after (code_in c) c.options c.options.injectors c.told told r led_is runs.reads;
        };
        records = records;
        unlent = unlent;
        stands = stands;
        more = m.0;
        lines = m.1;
      }

-- the record was made
pub makes_on : (c : Course) (a b : PlainArbiter) (r : Record) → Runs c a → arbiter.code_in b ≡ arbiter.code_in a → options_in b ≡ options_in a → b.records ≡ c.records ++ r ∷ [] → is_lent b.phase ≡ false →
    StandsAfter b c.told.stand.lines → Makes c r b
makes_on c a b (In j e) runs p q rs u s = (told c a b (In j e) runs p q rs u s, led_is c a b (In j e) runs p q rs u s, way_on c a b (In j e) runs p q rs u s refl)
makes_on c a b (Bad j n) runs p q rs u s = (told c a b (Bad j n) runs p q rs u s, led_is c a b (Bad j n) runs p q rs u s, way_on c a b (Bad j n) runs p q rs u s refl)
makes_on c a b (Eof j) runs p q rs u s = (told c a b (Eof j) runs p q rs u s, led_is c a b (Eof j) runs p q rs u s, way_on c a b (Eof j) runs p q rs u s refl)
makes_on c a b (Sel e) runs p q rs u s = (told c a b (Sel e) runs p q rs u s, led_is c a b (Sel e) runs p q rs u s, way_on c a b (Sel e) runs p q rs u s refl)
makes_on c a b (End v) runs p q rs u s = (told c a b (End v) runs p q rs u s, led_is c a b (End v) runs p q rs u s, rs)

-- ---- an item

-- the arbiter once a record has entered
record Entered (c : Course) (r : Record) (a b : PlainArbiter) : Type 0 where
  pub code : arbiter.code_in b ≡ arbiter.code_in a
  pub options : options_in b ≡ options_in a
  pub records : b.records ≡ a.records ++ r ∷ []
  pub phase : b.phase ≡ a.phase

entered : (c : Course) (r : Record) (a : PlainArbiter) (k : ℕ) (i : Item) → IsSaidBy r k i → Entered c r a (absorbed k i a)
entered c (In j e) a k i s =
    subst (λ (x : Item). Entered c (In j e) a (absorbed k x a)) (sym s.1)
    (subst (λ (n : ℕ). Entered c (In j e) a (absorbed n (item.Offered e) a)) (sym s.0) (record { code = refl; options = refl; records = refl; phase = refl }))
entered c (Bad j n) a k i s =
    subst (λ (x : Item). Entered c (Bad j n) a (absorbed k x a)) (sym s.1)
    (subst (λ (m : ℕ). Entered c (Bad j n) a (absorbed m (item.Bad n) a)) (sym s.0) (record { code = refl; options = refl; records = refl; phase = refl }))
entered c (Eof j) a k i s =
    subst (λ (x : Item). Entered c (Eof j) a (absorbed k x a)) (sym s.1)
    (subst (λ (m : ℕ). Entered c (Eof j) a (absorbed m item.End a)) (sym s.0) (record { code = refl; options = refl; records = refl; phase = refl }))
entered c (Sel e) a k i s = absurd s
entered c (End v) a k i s = absurd s

-- the record has entered
pub makes_entered : (c : Course) (r : Record) (a b : PlainArbiter) (k : ℕ) (i : Item) → IsThere c a → a.phase ≡ Rest → IsSaidBy r k i → b ≡ absorbed k i a →
    ((taken : List Line) (p : Pair Origin) → StandsFor a [] taken p → StandsFor b [] taken (with_item i p)) → Makes c r b
makes_entered c r a b k i t f s e stands =
    let w = stays_rest c a t f in
    let n = subst (λ (x : PlainArbiter). Entered c r a x) (sym e) (entered c r a k i s) in
    makes_on c a b r t.runs n.code n.options (n.records ∙ ap (λ (rs : List Record). rs ++ r ∷ []) w.0) (ap is_lent (n.phase ∙ f)) (with_item i w.1.0, stands c.told.stand.lines w.1.0 w.1.1)

-- ---- what the run makes

pub made_of : (x : Next) → (picked_of x ≡ picked.Wait → ⊥) → (made : Record) × (record_of x ≡ Some made)
made_of (Ends v) h = (End v, refl)
made_of (Selects ch reached) h = (Sel ch.event, refl)
made_of Waits h = absurd (h refl)

waits_at : (x : Next) → picked_of x ≡ picked.Wait → record_of x ≡ None
waits_at (Ends v) h = absurd (cc)
waits_at (Selects ch reached) h = absurd (cc)
waits_at Waits h = refl

other_than_none : (x : Next) (r : Record) → record_of x ≡ None → MakesOther x r
other_than_none x r h = λ made k e. absurd (cc)

other_than : (x : Next) (made r : Record) → record_of x ≡ Some made → ¬ (made ≡ r) → MakesOther x r
other_than x made r h n = λ other k e. n (one_answer (record_of x) made other h k ∙ e)

pub unlent_after : (k : Picked) (ns : List (Entry Origin)) → is_lent (phase_after k ns) ≡ false
unlent_after picked.Moved [] = refl
unlent_after picked.Moved (n ∷ ns) = refl
unlent_after picked.Wait ns = refl
unlent_after picked.Over ns = refl

-- a pick at rest
pub record Picks (c : Course) (a b : PlainArbiter) (k : Picked) : Type 0 where
  pub picked_is : k ≡ picked_of (coming c)
  pub records : b.records ≡ c.records ++ option_to_list (record_of (coming c))
  pub stands : StandsAfter b c.told.stand.lines
  pub code : arbiter.code_in b ≡ arbiter.code_in a
  pub options : options_in b ≡ options_in a
  pub unlent : is_lent b.phase ≡ false

pub picks : (c : Course) (a b : PlainArbiter) (k : Picked) → IsThere c a → a.phase ≡ Rest →
    ((d : Configuration Origin) → Recounts a d → k ≡ picked_of (arbiter.coming a d)) →
    ((d : Configuration Origin) → Recounts a d → b.records ≡ a.records ++ option_to_list (record_of (arbiter.coming a d))) →
    ((t : List Line) (p : Pair Origin) (d : Configuration Origin) → StandsFor a [] t p → Recounts a d → StandsFor b [] t (after_pick (arbiter.code_in a) p (arbiter.coming a d))) →
    b.phase ≡ phase_after k b.floor.pair.entries → b.floor.base ≡ a.floor.base → options_in b ≡ options_in a → Picks c a b k
picks c a b k t f kp rec st ph base q =
    let w = stays_rest c a t f in
    let h = recounts_course c a t.runs w.0 in
    let at = coming_at (code_in c) c.options a c.told (t.runs).code (t.runs).options in
    record {
      picked_is = kp c.told h ∙ ap picked_of at;
      records = rec c.told h ∙ ap (λ (rs : List Record). rs ++ option_to_list (record_of (arbiter.coming a c.told))) w.0 ∙ ap (λ (x : Next). c.records ++ option_to_list (record_of x)) at;
      stands = (after_pick (arbiter.code_in a) w.1.0 (arbiter.coming a c.told), st c.told.stand.lines w.1.0 c.told w.1.1 h);
      code = same_code a b (ap (λ x. x.program) base) q;
      options = q;
      unlent = ap is_lent ph ∙ unlent_after k b.floor.pair.entries;
    }

-- where the run waits, no record of it comes next
pub waits_parts : (c : Course) (r : Record) (k : Picked) → k ≡ picked_of (coming c) → k ≡ picked.Wait → enters c.told.reading c.told.stand r ≡ false → (led c r ≡ None) × (None ≡ record_of (coming c))
waits_parts c r k e w n =
    let none = waits_at (coming c) (sym e ∙ w) in
    (leads_nowhere (code_in c) c.options c.told r n (other_than_none (coming c) r none), sym none)

some_records : (rs : List Record) (r : Record) → 0 < length (rs ++ r ∷ [])
some_records rs r = let n = length-append rs (r ∷ []) in omega (arith, n)

pub records_made : (c : Course) (b : PlainArbiter) (made : Record) → b.records ≡ c.records ++ option_to_list (record_of (coming c)) → record_of (coming c) ≡ Some made → b.records ≡ c.records ++ made ∷ []
records_made c b made h e = h ∙ ap (λ (x : Option Record). c.records ++ option_to_list x) e

pub some_made : (b : PlainArbiter) (rs : List Record) (r : Record) → b.records ≡ rs ++ r ∷ [] → 0 < length b.records
some_made b rs r h = subst (λ (xs : List Record). 0 < length xs) (sym h) (some_records rs r)

-- what was made was compared
pub followed_made : (c : Course) (a b : PlainArbiter) (k : Picked) (made r : Record) (n : ℕ) (result : Result (Unit {0}) ReplayFault) → Runs c a → Picks c a b k → record_of (coming c) ≡ Some made → enters c.told.reading c.told.stand r ≡ false →
    Compared made r n result → Followed c r n b result
followed_made c a b k made r n (Ok x) runs p e u h =
    makes_on c a b r runs p.code p.options (records_made c b made p.records e ∙ ap (λ (y : Record). c.records ++ y ∷ []) h) p.unlent p.stands
followed_made c a b k made r n (Err (fault.Log f)) runs p e u h = h
followed_made c a b k made r n (Err (fault.Differs number expected other)) runs p e u h =
    (h.0, h.1, leads_nowhere (code_in c) c.options c.told r u (other_than (coming c) made r e h.3), h.2 ∙ sym e)
followed_made c a b k made r n (Err fault.Program) runs p e u h = h
followed_made c a b k made r n (Err fault.Write) runs p e u h = h
followed_made c a b k made r n (Err fault.Memory) runs p e u h = tt

end_leads : (c : Course) (v : Verdict) → coming c ≡ Ends v → led c (End v) ≡ Some (over_with c.told v)
end_leads c v h = sym (one_record (code_in c) c.options c.told (End v)) ∙ story_end (code_in c) c.options c.told v h

-- the end that the run has come to was compared
pub followed_over : (c : Course) (a : PlainArbiter) (r : Record) (n : ℕ) (result : Result (Unit {0}) ReplayFault) (v : Verdict) → a.records ≡ c.records ++ End v ∷ [] → c.told.stand.verdict ≡ Some v →
    Compared (End v) r n result → Followed c r n a result
followed_over c a r n (Ok x) v e w h =
    subst (λ (y : Record). Makes c y a) h (over_with c.told v, end_leads c v (verdict_next (code_in c) c.options c.told v w), e)
followed_over c a r n (Err (fault.Log f)) v e w h = h
followed_over c a r n (Err (fault.Differs number expected other)) v e w h =
    let ends = verdict_next (code_in c) c.options c.told v w in
    let made : record_of (coming c) ≡ Some (End v) = ap record_of ends in
    (h.0, h.1, leads_nowhere_over (code_in c) c.options c.told v r w (other_than (coming c) (End v) r made h.3), h.2 ∙ sym made)
followed_over c a r n (Err fault.Program) v e w h = h
followed_over c a r n (Err fault.Write) v e w h = h
followed_over c a r n (Err fault.Memory) v e w h = tt

-- an item that enters leaves the program
pub absorbed_program : (j : ℕ) (i : Item) (a b : PlainArbiter) → b ≡ absorbed j i a → b.floor.base.program ≡ a.floor.base.program
absorbed_program j (item.Offered e) a b h = ap (λ (x : PlainArbiter). x.floor.base.program) h
absorbed_program j (item.Bad n) a b h = ap (λ (x : PlainArbiter). x.floor.base.program) h
absorbed_program j item.Failed a b h = ap (λ (x : PlainArbiter). x.floor.base.program) h
absorbed_program j item.End a b h = ap (λ (x : PlainArbiter). x.floor.base.program) h
