-- With no injectors it is nothing whether a run waits; and a run that doesn't wait never waits.
use Rattle.std.proofs.Common.{◌≡◌, ◌∙◌, ℕ, zero, suc, ◌+◌, Bool, true, false, not, ◌||◌, ◌&&◌, ◌==◌, nat_eq, List, [], ◌∷◌, length, filter, Option, Some, None, Ok, Err, if◌then◌else◌, option_and_then, option_map, refl, sym, ap}
use Rattle.bp_log.specs.Options.{PlainOptions}
use Rattle.bp_log.specs.Texts.{lines_text}
use Rattle.bp_log.specs.declared.limits.TheConstants.{MOST_WAITING}
use Rattle.bp_log.specs.declared.record.Record.{Record}
use Rattle.bp_log.specs.declared.record.Record.TheVariants.{In, Bad, Eof, Sel, End}
use Rattle.bp_log.specs.declared.verdict.Verdict.{Verdict}
use Rattle.bp_log.specs.declared.verdict.Verdict.TheVariants as verdict
use Rattle.bp_run.specs.Bodies.{Code}
use Rattle.bp_run.specs.Configuration.{Configuration}
use Rattle.bp_run.specs.Settling.{initial, queued}
use Rattle.bp_run.specs.Selecting.{Asked, live}
use Rattle.bp_run.specs.Choosing.{Choice, choice}
use Rattle.bp_run.specs.Story.{Next, next, next_unless, next_choice, next_idle, waits_for_none, move, may_come, has_room, read_out, first_bad, if_selected, if_ended, after_record, story_from, story, alone_from, alone}
use Rattle.bp_run.specs.Story.Next.{Ends, Selects, Waits}
use Rattle.bp_run.specs.Text.{text}
use Rattle.bp_run.proofs.Stories.{leads_if, selected_moves, ended_with, nobody_waited, waits_not, initial_reading, alone_next, alone_on}

-- the same options, of a run that waits or doesn't
abbrev pub waiting : PlainOptions → Bool → PlainOptions
waiting o b = record o { wait = b }

-- ---- what comes next where nobody is read

idle_same : {O : Type 0} (o : PlainOptions) (b : Bool) (c : Configuration O) (x : Option (ℕ × ℕ)) → c.reading ≡ [] → next_idle (waiting o b) c x ≡ next_idle o c x
idle_same o b c (Some bad) i = refl
idle_same o b c None i =
    ap (λ (e : Bool). if length c.stand.queue == MOST_WAITING then Ends verdict.Queue else if e then Ends (verdict.Quiet c.stand.transitions) else Waits)
    (nobody_waited (waiting o b) c i ∙ sym (nobody_waited o c i))

choice_same : {O S : Type 0} (l : Code O S) (o : PlainOptions) (b : Bool) (c : Configuration O) (x : Asked (Option Choice)) → c.reading ≡ [] → next_choice l (waiting o b) c x ≡ next_choice l o c x
choice_same l o b c (Err f) i = refl
choice_same l o b c (Ok None) i = idle_same o b c c.bad i
choice_same l o b c (Ok (Some ch)) i = refl

unless_same : {O S : Type 0} (l : Code O S) (o : PlainOptions) (b : Bool) (c : Configuration O) (v : Option Verdict) → c.reading ≡ [] → next_unless l (waiting o b) c v ≡ next_unless l o c v
unless_same l o b c (Some v) i = refl
unless_same l o b c None i = choice_same l o b c (choice l.has l.word o.strategy (live l c.stand) c.stand.queue c.drawn) i

next_same : {O S : Type 0} (l : Code O S) (o : PlainOptions) (b : Bool) (c : Configuration O) → c.reading ≡ [] → next l (waiting o b) c ≡ next l o c
unfolding next
next_same l o b c i = unless_same l o b c c.stand.verdict i

-- ---- the records that are a story

after_same : {O S : Type 0} (l : Code O S) (o : PlainOptions) (b : Bool) (c : Configuration O) (r : Record) → c.reading ≡ [] → after_record l (waiting o b) c r ≡ after_record l o c r
unfolding after_record
after_same l o b c (In j e) i = refl
after_same l o b c (Bad j n) i = refl
after_same l o b c (Eof j) i = refl
after_same l o b c (Sel e) i = ap (if_selected l c e) (next_same l o b c i)
after_same l o b c (End v) i = ap (if_ended c v) (next_same l o b c i)

-- nobody begins to be read
nobody_begins : {O S : Type 0} (l : Code O S) (o : PlainOptions) (c m : Configuration O) (r : Record) → after_record l o c r ≡ Some m → c.reading ≡ [] → m.reading ≡ []
unfolding after_record
nobody_begins l o c m (In j e) h i = ap (λ (x : Configuration _). x.reading) (sym (leads_if (may_come c j && has_room c.stand) (record c { stand = queued e c.stand }) m h).1) ∙ i
nobody_begins l o c m (Bad j n) h i =
    ap (λ (x : Configuration _). x.reading) (sym (leads_if (may_come c j) (record (read_out c j) { bad = first_bad c.bad j n }) m h).1)
    ∙ ap (λ (ks : List ℕ). filter (λ k. not (nat_eq j k)) ks) i
nobody_begins l o c m (Eof j) h i =
    ap (λ (x : Configuration _). x.reading) (sym (leads_if (may_come c j) (read_out c j) m h).1)
    ∙ ap (λ (ks : List ℕ). filter (λ k. not (nat_eq j k)) ks) i
nobody_begins l o c m (Sel e) h i = ap (λ (x : Configuration _). x.reading) (sym (selected_moves l c m e (next l o c) h).leads) ∙ i
nobody_begins l o c m (End v) h i = ap (λ (x : Configuration _). x.reading) (sym (ended_with c m v (next l o c) h).1) ∙ i

then_same : {A B : Type 0} (f g : A → Option B) (x : Option A) → ((y : A) → x ≡ Some y → f y ≡ g y) → option_and_then f x ≡ option_and_then g x
then_same f g None h = refl
then_same f g (Some y) h = h y refl

-- after one record, where the rest is the same
on_same : {O S : Type 0} (l : Code O S) (o : PlainOptions) (b : Bool) (c : Configuration O) (r : Record) (rs : List Record) → c.reading ≡ [] →
    ((m : Configuration O) → m.reading ≡ [] → story_from l (waiting o b) rs m ≡ story_from l o rs m) →
    option_and_then (story_from l (waiting o b) rs) (after_record l (waiting o b) c r) ≡ option_and_then (story_from l o rs) (after_record l o c r)
on_same l o b c r rs i later =
    ap (option_and_then (story_from l (waiting o b) rs)) (after_same l o b c r i)
    ∙ then_same (story_from l (waiting o b) rs) (story_from l o rs) (after_record l o c r) (λ m h. later m (nobody_begins l o c m r h i))

story_from_same : {O S : Type 0} (l : Code O S) (o : PlainOptions) (b : Bool) (rs : List Record) (c : Configuration O) → c.reading ≡ [] → story_from l (waiting o b) rs c ≡ story_from l o rs c
unfolding story_from
story_from_same l o b [] c i = refl
story_from_same l o b (In j e ∷ rs) c i = on_same l o b c (In j e) rs i (story_from_same l o b rs)
story_from_same l o b (Bad j n ∷ rs) c i = on_same l o b c (Bad j n) rs i (story_from_same l o b rs)
story_from_same l o b (Eof j ∷ rs) c i = on_same l o b c (Eof j) rs i (story_from_same l o b rs)
story_from_same l o b (Sel e ∷ rs) c i = on_same l o b c (Sel e) rs i (story_from_same l o b rs)
story_from_same l o b (End v ∷ []) c i = on_same l o b c (End v) [] i (story_from_same l o b [])
story_from_same l o b (End v ∷ r ∷ rs) c i = refl

nobody_at_first : {O S : Type 0} (l : Code O S) (o : PlainOptions) → o.injectors ≡ 0 → (initial l o.injectors).reading ≡ []
nobody_at_first l o i = ap (λ (n : ℕ). (initial l n).reading) i ∙ initial_reading l

pub story_same : {O S : Type 0} (l : Code O S) (o : PlainOptions) (b : Bool) (rs : List Record) → o.injectors ≡ 0 → story l (waiting o b) rs ≡ story l o rs
unfolding story
story_same l o b rs i = story_from_same l o b rs (initial l o.injectors) (nobody_at_first l o i)

pub text_same : {O S : Type 0} (l : Code O S) (o : PlainOptions) (b : Bool) (rs : List Record) → o.injectors ≡ 0 → text l (waiting o b) rs ≡ text l o rs
unfolding text
text_same l o b rs i = ap (λ (x : Option (Configuration _)). option_map (λ c. lines_text c.stand.lines) x) (story_same l o b rs i)

-- ---- the run alone

alone_next_same : {O S : Type 0} (l : Code O S) (o : PlainOptions) (b : Bool) (n : ℕ) (c : Configuration O) (x : Next) → c.reading ≡ [] →
    ((m : Configuration O) → m.reading ≡ [] → alone_from l (waiting o b) n m ≡ alone_from l o n m) → alone_next l (waiting o b) n c x ≡ alone_next l o n c x
alone_next_same l o b n c (Ends v) i later = refl
alone_next_same l o b n c (Selects ch r) i later = ap (λ (rs : List Record). Sel ch.event ∷ rs) (later (move l c ch r) i)
alone_next_same l o b n c Waits i later = refl

alone_from_same : {O S : Type 0} (l : Code O S) (o : PlainOptions) (b : Bool) (n : ℕ) (c : Configuration O) → c.reading ≡ [] → alone_from l (waiting o b) n c ≡ alone_from l o n c
unfolding alone_from
alone_from_same l o b zero c i = refl
alone_from_same l o b (suc n) c i =
    alone_on l (waiting o b) n c (next l o c) (next_same l o b c i)
    ∙ alone_next_same l o b n c (next l o c) i (alone_from_same l o b n)
    ∙ sym (alone_on l o n c (next l o c) refl)

pub alone_same : {O S : Type 0} (l : Code O S) (o : PlainOptions) (b : Bool) → o.injectors ≡ 0 → alone l (waiting o b) ≡ alone l o
unfolding alone
alone_same l o b i = alone_from_same l o b (o.steps + 1) (initial l o.injectors) (nobody_at_first l o i)

-- ---- who waits

or_true : (b : Bool) → (b || true) ≡ true
or_true true = refl
or_true false = refl

-- nothing is waited for by a run that doesn't wait
unwaited : {O : Type 0} (o : PlainOptions) (c : Configuration O) → o.wait ≡ false → waits_for_none o c ≡ true
unwaited o c e = ap (λ (b : Bool). (length c.reading == 0) || not b) e ∙ or_true (length c.reading == 0)

waits_at : {O S : Type 0} (l : Code O S) (o : PlainOptions) (c : Configuration O) (b : Bool) → o.wait ≡ b → next l o c ≡ Waits → b ≡ true
waits_at l o c true e h = refl
waits_at l o c false e h = absurd (waits_not l o c (unwaited o c e) h)

pub only_waiting_runs_wait : {O S : Type 0} (l : Code O S) (o : PlainOptions) (c : Configuration O) → next l o c ≡ Waits → o.wait ≡ true
only_waiting_runs_wait l o c h = waits_at l o c o.wait refl h
