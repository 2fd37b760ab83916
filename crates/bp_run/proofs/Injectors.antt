-- Who is still read is told by the records, and a run ends quietly only where every injector was heard
-- to its end.
use Rattle.std.proofs.Common.{◌≡◌, ℕ, zero, suc, ◌<◌, Bool, true, false, not, ◌&&◌, ◌||◌, ◌==◌, nat_eq, nat_lt, List, [], ◌∷◌, length, Option, Some, None, is_some, refl, sym, ap, subst, ◌∙◌, inl, inr, arith, if◌then◌else◌, Ok, Err, length-append}
use Rattle.std.specs.List.{list_any}
use Rattle.std.specs.Prelude.{filter, slice_get}
use Rattle.std.proofs.Math.Bool.{or-false, or_assoc, and-true, and_comm}
use Rattle.std.proofs.lemmas.Bool.{eq-eqb, eqb-true, eqb-false, or_cases, or_left, or_right, false≢true}
use Rattle.std.proofs.lemmas.Option.{same_Some, none-some}
use Rattle.std.proofs.lemmas.List.Folds.{list_any-append}
use Rattle.std.proofs.lemmas.Map.Views.{any-filter_same}
use Rattle.bp_log.specs.Options.{PlainOptions}
use Rattle.bp_log.specs.Records.{verdict_of}
use Rattle.bp_log.specs.declared.limits.TheConstants.{MOST_WAITING, MOST_WEIGHT}
use Rattle.bp_log.specs.declared.record.Record.{Record}
use Rattle.bp_log.specs.declared.record.Record.TheVariants.{In, Bad, Eof, Sel, End}
use Rattle.bp_log.specs.declared.verdict.Verdict.{Verdict}
use Rattle.bp_log.specs.declared.verdict.Verdict.TheVariants as verdict
use Rattle.bp_run.specs.Bodies.{Code, SetFault}
use Rattle.bp_run.specs.Bodies.SetFault.{Broken, Spent, NotTruth}
use Rattle.bp_run.specs.Configuration.{Configuration, Stand, below, name_in}
use Rattle.bp_run.specs.Settling.{initial, queued, opening}
use Rattle.bp_run.specs.Selecting.{Asked, live}
use Rattle.bp_run.specs.Choosing.{Choice, choice, Touched, reach}
use Rattle.bp_run.specs.Story.{Next, next, next_unless, next_choice, next_chosen, next_idle, waits_for_none, set_verdict, fault_verdict, weight_after, step, stepped, move, may_come, has_room, read_out, first_bad, after_record, story_from, story}
use Rattle.bp_run.specs.Story.Next.{Ends, Selects, Waits}
use Rattle.bp_run.specs.Injectors.{is_last_of, has_last_of, is_bad, has_bad}
use Rattle.bp_run.proofs.Growing.{grown_settle}
use Rattle.bp_run.proofs.Stories.{leads_if, selects, selected_moves, ended_with, story_first}

-- ---- numbers of injectors

same_answers : (b d : Bool) → (b ≡ true → d ≡ true) → (d ≡ true → b ≡ true) → b ≡ d
same_answers true d h k = sym (h refl)
same_answers false true h k = absurd (false≢true (k refl))
same_answers false false h k = refl

nat_eq_turned : (j k : ℕ) → nat_eq j k ≡ nat_eq k j
nat_eq_turned j k = same_answers (nat_eq j k) (nat_eq k j) (λ h. eq-eqb k j (sym (eqb-true j k h))) (λ h. eq-eqb j k (sym (eqb-true k j h)))

pub below_any : (n j : ℕ) → list_any (nat_eq j) (below n) ≡ true → j < n
below_any zero j h = absurd (false≢true h)
below_any (suc n) j h =
    elim (or_cases (list_any (nat_eq j) (below n)) (nat_eq j n || false) (sym (list_any-append (nat_eq j) (below n) (n ∷ [])) ∙ h)) [
      | inl k ↦ let less = below_any n j k in omega (arith, less)
      | inr k ↦ let same = eqb-true j n (sym (or-false (nat_eq j n)) ∙ k) in omega (arith, same)
    ]

last_below : (n j : ℕ) (b : Bool) → nat_eq j n ≡ b → j < suc n → (j < n → list_any (nat_eq j) (below n) ≡ true) → (list_any (nat_eq j) (below n) || (nat_eq j n || false)) ≡ true
last_below n j true e h rest = or_right (list_any (nat_eq j) (below n)) (nat_eq j n || false) (or_left (nat_eq j n) false e)
last_below n j false e h rest =
    let other = eqb-false j n e in
    or_left (list_any (nat_eq j) (below n)) (nat_eq j n || false) (rest (omega (arith, other)))

pub any_below : (n j : ℕ) → j < n → list_any (nat_eq j) (below n) ≡ true
any_below zero j h = absurd (omega (arith, h))
any_below (suc n) j h = list_any-append (nat_eq j) (below n) (n ∷ []) ∙ last_below n j (nat_eq j n) refl h (any_below n j)

pub length_below : (n : ℕ) → length (below n) ≡ n
length_below zero = refl
length_below (suc n) = omega (arith, length-append (below n) (n ∷ []), length_below n)

-- ---- who is read

-- the others stay
pub any_without : (j k : ℕ) (ks : List ℕ) → list_any (nat_eq j) (filter (λ i. not (nat_eq k i)) ks) ≡ (list_any (nat_eq j) ks && not (nat_eq j k))
any_without j k ks =
    any-filter_same (nat_eq j) (λ i. not (nat_eq k i)) (not (nat_eq k j)) (λ i e. ap (λ (n : ℕ). not (nat_eq k n)) (sym (eqb-true j i e))) ks
    ∙ ap (λ (b : Bool). not b && list_any (nat_eq j) ks) (nat_eq_turned k j)
    ∙ and_comm (not (nat_eq j k)) (list_any (nat_eq j) ks)

both_not : (a b d : Bool) → ((a && not b) && not d) ≡ (a && not (b || d))
both_not true true d = refl
both_not true false d = refl
both_not false b d = refl

read_as_before : {O : Type 0} (j : ℕ) (c m : Configuration O) → m.reading ≡ c.reading → list_any (nat_eq j) m.reading ≡ (list_any (nat_eq j) c.reading && true)
read_as_before j c m h = ap (λ (ks : List ℕ). list_any (nat_eq j) ks) h ∙ sym (and-true (list_any (nat_eq j) c.reading))

read_after : {O S : Type 0} (l : Code O S) (o : PlainOptions) (j : ℕ) (c m : Configuration O) (r : Record) → after_record l o c r ≡ Some m →
    list_any (nat_eq j) m.reading ≡ (list_any (nat_eq j) c.reading && not (is_last_of j r))
unfolding after_record
read_after l o j c m (In k e) h = read_as_before j c m (ap (λ (x : Configuration _). x.reading) (sym (leads_if (may_come c k && has_room c.stand) _ m h).1))
read_after l o j c m (Bad k n) h = ap (λ (x : Configuration _). list_any (nat_eq j) x.reading) (sym (leads_if (may_come c k) _ m h).1) ∙ any_without j k c.reading
read_after l o j c m (Eof k) h = ap (λ (x : Configuration _). list_any (nat_eq j) x.reading) (sym (leads_if (may_come c k) _ m h).1) ∙ any_without j k c.reading
read_after l o j c m (Sel e) h = read_as_before j c m (ap (λ (x : Configuration _). x.reading) (sym (selected_moves l c m e (next l o c) h).leads))
read_after l o j c m (End v) h = read_as_before j c m (ap (λ (x : Configuration _). x.reading) (sym (ended_with c m v (next l o c) h).1))

read_from : {O S : Type 0} (l : Code O S) (o : PlainOptions) (j : ℕ) (rs : List Record) (c d : Configuration O) → story_from l o rs c ≡ Some d →
    list_any (nat_eq j) d.reading ≡ (list_any (nat_eq j) c.reading && not (has_last_of j rs))
unfolding story_from
read_from l o j [] c d h = read_as_before j c d (ap (λ (x : Configuration _). x.reading) (sym (same_Some c d h)))
read_from l o j (r ∷ rs) c d h =
    let f = story_first l o r rs c d h in
    read_from l o j rs f.0 d f.2
    ∙ ap (λ (b : Bool). b && not (has_last_of j rs)) (read_after l o j c f.0 r f.1)
    ∙ both_not (list_any (nat_eq j) c.reading) (is_last_of j r) (has_last_of j rs)

at_first : {O S : Type 0} (l : Code O S) (n : ℕ) → (initial l n).reading ≡ below n
unfolding initial
at_first l n = refl

-- an injector is read until its last record
pub who_is_read : {O S : Type 0} (l : Code O S) (o : PlainOptions) (rs : List Record) (d : Configuration O) (j : ℕ) → story l o rs ≡ Some d → j < o.injectors →
    list_any (nat_eq j) d.reading ≡ not (has_last_of j rs)
unfolding story
who_is_read l o rs d j h k =
    read_from l o j rs (initial l o.injectors) d h
    ∙ ap (λ (b : Bool). b && not (has_last_of j rs)) (ap (λ (ks : List ℕ). list_any (nat_eq j) ks) (at_first l o.injectors) ∙ any_below o.injectors j k)

-- ---- bad lines

first_or : (b : Option (ℕ × ℕ)) (j n : ℕ) → is_some (first_bad b j n) ≡ (is_some b || true)
first_or None j n = refl
first_or (Some x) j n = refl

bad_as_before : {O : Type 0} (c m : Configuration O) → m.bad ≡ c.bad → is_some m.bad ≡ (is_some c.bad || false)
bad_as_before c m h = ap (λ (b : Option (ℕ × ℕ)). is_some b) h ∙ sym (or-false (is_some c.bad))

bad_after : {O S : Type 0} (l : Code O S) (o : PlainOptions) (c m : Configuration O) (r : Record) → after_record l o c r ≡ Some m → is_some m.bad ≡ (is_some c.bad || is_bad r)
unfolding after_record
bad_after l o c m (In k e) h = bad_as_before c m (ap (λ (x : Configuration _). x.bad) (sym (leads_if (may_come c k && has_room c.stand) _ m h).1))
bad_after l o c m (Bad k n) h = ap (λ (x : Configuration _). is_some x.bad) (sym (leads_if (may_come c k) _ m h).1) ∙ first_or c.bad k n
bad_after l o c m (Eof k) h = bad_as_before c m (ap (λ (x : Configuration _). x.bad) (sym (leads_if (may_come c k) _ m h).1))
bad_after l o c m (Sel e) h = bad_as_before c m (ap (λ (x : Configuration _). x.bad) (sym (selected_moves l c m e (next l o c) h).leads))
bad_after l o c m (End v) h = bad_as_before c m (ap (λ (x : Configuration _). x.bad) (sym (ended_with c m v (next l o c) h).1))

bad_from : {O S : Type 0} (l : Code O S) (o : PlainOptions) (rs : List Record) (c d : Configuration O) → story_from l o rs c ≡ Some d → is_some d.bad ≡ (is_some c.bad || has_bad rs)
unfolding story_from
bad_from l o [] c d h = bad_as_before c d (ap (λ (x : Configuration _). x.bad) (sym (same_Some c d h)))
bad_from l o (r ∷ rs) c d h =
    let f = story_first l o r rs c d h in
    bad_from l o rs f.0 d f.2 ∙ ap (λ (b : Bool). b || has_bad rs) (bad_after l o c f.0 r f.1) ∙ or_assoc (is_some c.bad) (is_bad r) (has_bad rs)

none_at_first : {O S : Type 0} (l : Code O S) (n : ℕ) → (initial l n).bad ≡ None
unfolding initial
none_at_first l n = refl

-- a bad line is known exactly where one was recorded
pub bad_is_known : {O S : Type 0} (l : Code O S) (o : PlainOptions) (rs : List Record) (d : Configuration O) → story l o rs ≡ Some d → is_some d.bad ≡ has_bad rs
unfolding story
bad_is_known l o rs d h = bad_from l o rs (initial l o.injectors) d h ∙ ap (λ (b : Option (ℕ × ℕ)). is_some b || has_bad rs) (none_at_first l o.injectors)

-- ---- what `quiet` means

-- no item is waited for, no line was bad, and this many transitions were made
pub record IsQuiet {O : Type 0} (o : PlainOptions) (c : Configuration O) (n : ℕ) : Type 0 where
  pub heard : waits_for_none o c ≡ true
  pub good : c.bad ≡ None
  pub count : n ≡ c.stand.transitions

-- a verdict `quiet` was given there alone
abbrev pub TellsQuiet : {O : Type 0} → PlainOptions → Configuration O → Type 0
TellsQuiet o c = (n : ℕ) → c.stand.verdict ≡ Some (verdict.Quiet n) → IsQuiet o c n

set_not : (name : List ℕ) (f : SetFault) (n : ℕ) → set_verdict name f ≡ verdict.Quiet n → ⊥
set_not name (Broken f line) n h = cc
set_not name Spent n h = cc
set_not name (NotTruth line) n h = cc

same_end : (v w : Verdict) → Ends v ≡ Ends w → v ≡ w
same_end v w h = cc

fault_not : {O : Type 0} (s : Stand O) (x : ℕ × SetFault) (n : ℕ) → Ends (fault_verdict s x) ≡ Ends (verdict.Quiet n) → ⊥
fault_not s x n h = set_not (name_in (slice_get s.threads x.0)) x.1 n (same_end (fault_verdict s x) (verdict.Quiet n) h)

weight_not : (ch : Choice) (r : List Touched) (n : ℕ) (b : Bool) → (if b then Ends verdict.Weight else Selects ch r) ≡ Ends (verdict.Quiet n) → ⊥
weight_not ch r n true h = cc
weight_not ch r n false h = cc

chosen_not : {O : Type 0} (s : Stand O) (ch : Choice) (x : Asked (List Touched)) (n : ℕ) → next_chosen s ch x ≡ Ends (verdict.Quiet n) → ⊥
chosen_not s ch (Err f) n h = fault_not s f n h
chosen_not s ch (Ok r) n h = weight_not ch r n (nat_lt MOST_WEIGHT (weight_after s ch.event r)) h

steps_not : (m n : ℕ) (b : Bool) (x : Next) → (x ≡ Ends (verdict.Quiet n) → ⊥) → (if b then Ends (verdict.Steps m) else x) ≡ Ends (verdict.Quiet n) → ⊥
steps_not m n true x k h = cc
steps_not m n false x k h = k h

idle_ends : (m n : ℕ) (b e : Bool) → (if b then Ends verdict.Queue else if e then Ends (verdict.Quiet m) else Waits) ≡ Ends (verdict.Quiet n) → (e ≡ true) × (n ≡ m)
idle_ends m n true e h = absurd (cc)
idle_ends m n false true h = (refl, cc)
idle_ends m n false false h = absurd (cc)

idle_quiet : {O : Type 0} (o : PlainOptions) (c : Configuration O) (b : Option (ℕ × ℕ)) (n : ℕ) → c.bad ≡ b → next_idle o c b ≡ Ends (verdict.Quiet n) → IsQuiet o c n
idle_quiet o c (Some x) n e h = absurd (cc)
idle_quiet o c None n e h =
    let p = idle_ends c.stand.transitions n (length c.stand.queue == MOST_WAITING) (waits_for_none o c) h in
    record { heard = p.0; good = e; count = p.1 }

choice_quiet : {O S : Type 0} (l : Code O S) (o : PlainOptions) (c : Configuration O) (x : Asked (Option Choice)) (n : ℕ) → next_choice l o c x ≡ Ends (verdict.Quiet n) → IsQuiet o c n
choice_quiet l o c (Err f) n h = absurd (fault_not c.stand f n h)
choice_quiet l o c (Ok None) n h = idle_quiet o c c.bad n refl h
choice_quiet l o c (Ok (Some ch)) n h =
    let x = reach l.has ch.event (live l c.stand) in
    absurd (steps_not o.steps n (nat_eq c.stand.transitions o.steps) (next_chosen c.stand ch x) (chosen_not c.stand ch x n) h)

unless_quiet : {O S : Type 0} (l : Code O S) (o : PlainOptions) (c : Configuration O) (v : Option Verdict) (n : ℕ) → c.stand.verdict ≡ v → TellsQuiet o c → next_unless l o c v ≡ Ends (verdict.Quiet n) → IsQuiet o c n
unless_quiet l o c (Some v) n e t h = t n (e ∙ ap (λ (w : Verdict). Some w) (same_end v (verdict.Quiet n) h))
unless_quiet l o c None n e t h = choice_quiet l o c (choice l.has l.word o.strategy (live l c.stand) c.stand.queue c.drawn) n h

next_quiet : {O S : Type 0} (l : Code O S) (o : PlainOptions) (c : Configuration O) (n : ℕ) → TellsQuiet o c → next l o c ≡ Ends (verdict.Quiet n) → IsQuiet o c n
unfolding next
next_quiet l o c n t h = unless_quiet l o c c.stand.verdict n refl t h

going_at : (v : Option Verdict) (b : Bool) → (not (elim v [ None ↦ false | Some w ↦ true ]) && b) ≡ true → v ≡ None
going_at None b h = refl
going_at (Some w) b h = absurd (false≢true h)

going : {O : Type 0} (c : Configuration O) (j : ℕ) → may_come c j ≡ true → c.stand.verdict ≡ None
going c j h = going_at c.stand.verdict (list_any (nat_eq j) c.reading) h

none_given : (v : Option Verdict) (w : Verdict) → v ≡ None → v ≡ Some w → ⊥
none_given v w h k = none-some w (sym h ∙ k)

pub move_loud : {O S : Type 0} (l : Code O S) (c : Configuration O) (ch : Choice) (r : List Touched) (n : ℕ) → c.stand.verdict ≡ None → (move l c ch r).stand.verdict ≡ Some (verdict.Quiet n) → ⊥
unfolding step
move_loud l c ch r n h k = none_given c.stand.verdict (verdict.Quiet n) h ((grown_settle l (stepped l c.stand ch.event ch.place r)).quiet n k)

quiet_after : {O S : Type 0} (l : Code O S) (o : PlainOptions) (c m : Configuration O) (r : Record) → TellsQuiet o c → after_record l o c r ≡ Some m → TellsQuiet o m
unfolding after_record
quiet_after l o c m (In j e) t h =
    let p = leads_if (may_come c j && has_room c.stand) (record c { stand = queued e c.stand }) m h in
    subst (λ (x : Configuration _). TellsQuiet o x) p.1 (λ n v. let q = t n v in record { heard = q.heard; good = q.good; count = q.count })
quiet_after l o c m (Bad j k) t h =
    let p = leads_if (may_come c j) (record (read_out c j) { bad = first_bad c.bad j k }) m h in
    subst (λ (x : Configuration _). TellsQuiet o x) p.1 (λ n v. absurd (none_given c.stand.verdict (verdict.Quiet n) (going c j p.0) v))
quiet_after l o c m (Eof j) t h =
    let p = leads_if (may_come c j) (read_out c j) m h in
    subst (λ (x : Configuration _). TellsQuiet o x) p.1 (λ n v. absurd (none_given c.stand.verdict (verdict.Quiet n) (going c j p.0) v))
quiet_after l o c m (Sel e) t h =
    let p = selected_moves l c m e (next l o c) h in
    subst (λ (x : Configuration _). TellsQuiet o x) p.leads (λ n v. absurd (move_loud l c p.choice p.reached n (selects l o c p.choice p.reached p.comes).going v))
quiet_after l o c m (End v) t h =
    let p = ended_with c m v (next l o c) h in
    subst (λ (x : Configuration _). TellsQuiet o x) p.1
    (λ n e. let q = next_quiet l o c n t (p.0 ∙ ap (λ (w : Verdict). Ends w) (same_Some v (verdict.Quiet n) e)) in record { heard = q.heard; good = q.good; count = q.count })

quiet_from : {O S : Type 0} (l : Code O S) (o : PlainOptions) (rs : List Record) (c d : Configuration O) → TellsQuiet o c → story_from l o rs c ≡ Some d → TellsQuiet o d
unfolding story_from
quiet_from l o [] c d t h = subst (λ (x : Configuration _). TellsQuiet o x) (same_Some c d h) t
quiet_from l o (r ∷ rs) c d t h =
    let f = story_first l o r rs c d h in
    quiet_from l o rs f.0 d (quiet_after l o c f.0 r t f.1) f.2

quiet_at_first : {O S : Type 0} (l : Code O S) (o : PlainOptions) (k : ℕ) → TellsQuiet o (initial l k)
unfolding initial
quiet_at_first l o k = λ n v. absurd (none-some (verdict.Quiet n) ((grown_settle l opening).quiet n v))

-- where a story has the verdict `quiet`, no item was waited for
pub quiet_told : {O S : Type 0} (l : Code O S) (o : PlainOptions) (rs : List Record) (d : Configuration O) → story l o rs ≡ Some d → TellsQuiet o d
unfolding story
quiet_told l o rs d h = quiet_from l o rs (initial l o.injectors) d (quiet_at_first l o o.injectors) h

-- and where it comes next
pub quiet_comes : {O S : Type 0} (l : Code O S) (o : PlainOptions) (rs : List Record) (d : Configuration O) (n : ℕ) → story l o rs ≡ Some d → next l o d ≡ Ends (verdict.Quiet n) → IsQuiet o d n
quiet_comes l o rs d n h k = next_quiet l o d n (quiet_told l o rs d h) k

no_length : (xs : List ℕ) → (length xs == 0) ≡ true → xs ≡ []
no_length [] h = refl
no_length (x ∷ xs) h = absurd (let e = eqb-true (length (x ∷ xs)) 0 h in omega (arith, e))

or_first : (b : Bool) → (b || not true) ≡ true → b ≡ true
or_first true h = refl
or_first false h = absurd (false≢true h)

-- where the run waits, nobody is read any more
pub nobody_read : {O : Type 0} (o : PlainOptions) (c : Configuration O) (n : ℕ) → o.wait ≡ true → IsQuiet o c n → c.reading ≡ []
nobody_read o c n w q = no_length c.reading (or_first (length c.reading == 0) (sym (ap (λ (b : Bool). (length c.reading == 0) || not b) w) ∙ q.heard))

-- ---- the verdict of a complete list

verdict_after : {O S : Type 0} (l : Code O S) (o : PlainOptions) (v : Verdict) (c d : Configuration O) → after_record l o c (End v) ≡ Some d → d.stand.verdict ≡ Some v
unfolding after_record
verdict_after l o v c d h = ap (λ (x : Configuration _). x.stand.verdict) (sym (ended_with c d v (next l o c) h).1)

verdict_from : {O S : Type 0} (l : Code O S) (o : PlainOptions) (rs : List Record) (v : Verdict) (c d : Configuration O) → story_from l o rs c ≡ Some d → verdict_of rs ≡ Some v → d.stand.verdict ≡ Some v
unfolding story_from
verdict_from l o [] v c d h k = absurd (none-some v k)
verdict_from l o (End w ∷ []) v c d h k =
    let f = story_first l o (End w) [] c d h in
    ap (λ (x : Configuration _). x.stand.verdict) (sym (same_Some f.0 d f.2)) ∙ verdict_after l o w c f.0 f.1 ∙ k
verdict_from l o (End w ∷ r ∷ rs) v c d h k = absurd (cc)
verdict_from l o (In j e ∷ rs) v c d h k = let f = story_first l o (In j e) rs c d h in verdict_from l o rs v f.0 d f.2 k
verdict_from l o (Bad j n ∷ rs) v c d h k = let f = story_first l o (Bad j n) rs c d h in verdict_from l o rs v f.0 d f.2 k
verdict_from l o (Eof j ∷ rs) v c d h k = let f = story_first l o (Eof j) rs c d h in verdict_from l o rs v f.0 d f.2 k
verdict_from l o (Sel e ∷ rs) v c d h k = let f = story_first l o (Sel e) rs c d h in verdict_from l o rs v f.0 d f.2 k

-- a story that ends with a verdict leads to it
pub verdict_told : {O S : Type 0} (l : Code O S) (o : PlainOptions) (rs : List Record) (v : Verdict) (d : Configuration O) → story l o rs ≡ Some d → verdict_of rs ≡ Some v → d.stand.verdict ≡ Some v
unfolding story
verdict_told l o rs v d h k = verdict_from l o rs v (initial l o.injectors) d h k

not_not : (b : Bool) → false ≡ not b → b ≡ true
not_not true h = refl
not_not false h = absurd (false≢true h)

-- the records of a story that ends quietly have the last of each injector, where the run waits
pub quiet_heard : {O S : Type 0} (l : Code O S) (o : PlainOptions) (rs : List Record) (n j : ℕ) (d : Configuration O) → o.wait ≡ true → story l o rs ≡ Some d → verdict_of rs ≡ Some (verdict.Quiet n) → j < o.injectors → has_last_of j rs ≡ true
quiet_heard l o rs n j d w h k less =
    let q = quiet_told l o rs d h n (verdict_told l o rs (verdict.Quiet n) d h k) in
    not_not (has_last_of j rs) (ap (λ (ks : List ℕ). list_any (nat_eq j) ks) (sym (nobody_read o d n w q)) ∙ who_is_read l o rs d j h less)

-- and no bad line
pub quiet_good : {O S : Type 0} (l : Code O S) (o : PlainOptions) (rs : List Record) (n : ℕ) (d : Configuration O) → story l o rs ≡ Some d → verdict_of rs ≡ Some (verdict.Quiet n) → has_bad rs ≡ false
quiet_good l o rs n d h k =
    let q = quiet_told l o rs d h n (verdict_told l o rs (verdict.Quiet n) d h k) in
    sym (bad_is_known l o rs d h) ∙ ap (λ (b : Option (ℕ × ℕ)). is_some b) q.good
