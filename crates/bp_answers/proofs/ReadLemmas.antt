-- The records of a log, read one after the other.
use Rattle.std.proofs.Common.{◌≡◌, ◌∙◌, ℕ, ◌+◌, ◌<◌, ◌≤◌, Bool, true, false, List, [], ◌∷◌, ◌++◌, append-nil, length, length-append, refl, ap, sym, subst, arith, inl, inr, Option, Some, None, Ok, Err, IsSomeAnd}
use Rattle.std.specs.Prelude.{IfSome, Result, Vec}
use Rattle.std.specs.declared.alloc.Global.{Global}
use Rattle.std.proofs.lemmas.Option.{same_Some}
use Rattle.bp_log.specs.declared.record.Record.{Record}
use Rattle.bp_log.specs.declared.record.Record.TheVariants.{In, Bad, Eof, Sel, End}
use Rattle.bp_log.specs.declared.verdict.Verdict.{Verdict}
use Rattle.bp_reading.specs.declared.limits.TheConstants.{MOST_RECORDS}
use Rattle.bp_reading.specs.Reading.{Stage, Next, BeginsWith, found, next_at, after}
use Rattle.bp_reading.proofs.Fronts.{begins_on}
use Rattle.bp_reader.specs.Reads.{Standing, ComesInTime, IsStageAfter, MeansNext, Tells as ReaderTells}
use Rattle.bp_reader.specs.declared.fault.LogFault.{LogFault}
use Rattle.bp_reader.specs.declared.fault.LogFault.TheVariants as log
use Rattle.bp_answers.specs.declared.answer.NoAnswer.{NoAnswer}
use Rattle.bp_answers.specs.declared.answer.NoAnswer.TheVariants.{Refused, Absent}
use Rattle.bp_explain.specs.Explained.{before_end}
use Rattle.bp_answers.specs.Faults.{refused_log}
use Rattle.bp_answers.specs.inner.Led.{EndsLast}
use Rattle.bp_answers.specs.Reading.{IsEnd, AreAsked, AreFewer, IsSpoiled}
use Rattle.bp_answers.specs.inner.Read.{ReadsFault, ReadsAs, EndsAs}

-- what a source tells of the bytes was read so far
abbrev pub Reached : Stage → Option (List ℕ) → List Record → Stage → Option (List ℕ) → Type 0
Reached s rest rs t left = IfSome rest (λ bytes. IsSomeAnd left (λ more. BeginsWith s bytes rs t more))

pub reached_none : (s : Stage) (rest : Option (List ℕ)) → Reached s rest [] s rest
reached_none s None = tt
reached_none s (Some bytes) = (refl, refl)

next_reached : (s : Stage) (bytes left : List ℕ) (rs : List Record) (t u : Stage) (later : Option (List ℕ)) (r : Record) → BeginsWith s bytes rs t left → IsSomeAnd later (λ more. next_at t left ≡ found r more) → u ≡ after t r →
    IsSomeAnd later (λ more. BeginsWith s bytes (rs ++ r ∷ []) u more)
next_reached s bytes left rs t u None r b h e = absurd h
next_reached s bytes left rs t u (Some more) r b h e = subst (λ (x : Stage). BeginsWith s bytes (rs ++ r ∷ []) x more) (sym e) (begins_on s bytes rs t left r more b h)

pub reached_on : (s : Stage) (rest left later : Option (List ℕ)) (rs : List Record) (t u : Stage) (r : Record) → Reached s rest rs t left → IfSome left (λ bytes. ReaderTells (Ok (Some r)) (next_at t bytes) later) → u ≡ after t r → Reached s rest (rs ++ r ∷ []) u later
reached_on s None left later rs t u r w h e = tt
reached_on s (Some bytes) None later rs t u r w h e = absurd w
reached_on s (Some bytes) (Some left) later rs t u r w h e = next_reached s bytes left rs t u later r w h e

pub one_line : (s : Stage) (r : Record) → (after s r).lines ≡ s.lines + 1
one_line s (In j e) = refl
one_line s (Bad j n) = refl
one_line s (Eof j) = refl
one_line s (Sel e) = refl
one_line s (End v) = refl

-- ---- as many as are asked for, at most

abbrev pub AreFew : Option ℕ → ℕ → Type 0
AreFew None k = Unit {0}
AreFew (Some n) k = k ≤ n

pub few_none : (number : Option ℕ) → AreFew number 0
few_none None = tt
few_none (Some n) = omega arith

pub few_on : (number : Option ℕ) (k : ℕ) (rs : List Record) (r : Record) → k ≡ length rs → AreFew number k → (number ≡ Some k → ⊥) → AreFew number (length (rs ++ r ∷ []))
few_on None k rs r e h n = tt
few_on (Some m) k rs r e h n =
    let l = length-append rs (r ∷ []) in
    let ne : m ≡ k → ⊥ = λ q. n (ap (λ (x : ℕ). Some x) q) in
    omega (arith, l, e, h, ne)

-- ---- how it ends

with_left : (s : Stage) (rest left : Option (List ℕ)) (rs : List Record) (t : Stage) (P : Next → Type 0) (holds : List ℕ → Type 0) → Reached s rest rs t left → IfSome left (λ bytes. P (next_at t bytes)) →
    ((bytes more : List ℕ) → BeginsWith s bytes rs t more → P (next_at t more) → holds bytes) → IfSome rest holds
with_left s None left rs t P holds w h k = tt
with_left s (Some bytes) None rs t P holds w h k = absurd w
with_left s (Some bytes) (Some more) rs t P holds w h k = k bytes more w h

fewer : (number : Option ℕ) (rs : List Record) (x : Next) (n : ℕ) → number ≡ Some n → AreFew number (length rs) → (number ≡ Some (length rs) → ⊥) → IsEnd x → AreFewer number rs x
fewer None rs x n e h k i = absurd (cc)
fewer (Some m) rs x n e h k i =
    let ne : m ≡ length rs → ⊥ = λ q. k (ap (λ (y : ℕ). Some y) q) in
    (omega (arith, h, ne), i)

all_asked : (number : Option ℕ) (rs : List Record) (x : Next) → number ≡ None → IsEnd x → AreAsked number rs x
all_asked None rs x e i = i
all_asked (Some n) rs x e i = absurd (cc)

ended_as : (s : Stage) (bytes more : List ℕ) (number : Option ℕ) (rs : List Record) (t : Stage) (result : Result (Vec Record Global) NoAnswer) → BeginsWith s bytes rs t more → IsEnd (next_at t more) → AreFew number (length rs) → (number ≡ Some (length rs) → ⊥) →
    EndsAs number rs result → ReadsAs s bytes number result
ended_as s bytes more number rs t (Ok v) b i f n e =
    let same = sym e.1 in
    subst (λ (xs : List Record). (u : Stage) × (left : List ℕ) × BeginsWith s bytes xs u left × AreAsked number xs (next_at u left)) same (t, more, b, all_asked number rs (next_at t more) e.0 i)
ended_as s bytes more number rs t (Err (Refused x)) b i f n e = absurd e
ended_as s bytes more number rs t (Err Absent) b i f n e = (rs, t, more, b, fewer number rs (next_at t more) e.0 e.1 f n i)

-- the log ends here
pub reads_ended : (s : Stage) (rest left : Option (List ℕ)) (number : Option ℕ) (rs : List Record) (t : Stage) (result : Result (Vec Record Global) NoAnswer) → Reached s rest rs t left → IfSome left (λ bytes. IsEnd (next_at t bytes)) → AreFew number (length rs) →
    (number ≡ Some (length rs) → ⊥) → EndsAs number rs result → IfSome rest (λ bytes. ReadsAs s bytes number result)
reads_ended s rest left number rs t result w h f n e =
    with_left s rest left rs t IsEnd (λ bytes. ReadsAs s bytes number result) w h (λ bytes more b i. ended_as s bytes more number rs t result b i f n e)

pub ends_none : (left later : Option (List ℕ)) (t : Stage) → IfSome left (λ bytes. ReaderTells (Ok None) (next_at t bytes) later) → IfSome left (λ bytes. IsEnd (next_at t bytes))
ends_none None later t h = tt
ends_none (Some bytes) later t h = inl h.0

pub ends_cut : (left : Option (List ℕ)) (t : Stage) → IfSome left (λ bytes. MeansNext log.Cut (next_at t bytes)) → IfSome left (λ bytes. IsEnd (next_at t bytes))
ends_cut None t h = tt
ends_cut (Some bytes) t h = inr h

-- as many were read as are asked for
enough : (number : Option ℕ) (rs : List Record) (x : Next) → number ≡ Some (length rs) → AreAsked number rs x
enough None rs x e = absurd (cc)
enough (Some n) rs x e = cc

pub reads_enough : (s : Stage) (rest left : Option (List ℕ)) (number : Option ℕ) (v : Vec Record Global) (t : Stage) → Reached s rest v.items t left → number ≡ Some (length v.items) → IfSome rest (λ bytes. ReadsAs s bytes number (Ok v))
reads_enough s None left number v t w e = tt
reads_enough s (Some bytes) None number v t w e = absurd w
reads_enough s (Some bytes) (Some more) number v t w e = (t, more, w, enough number v.items (next_at t more) e)

-- what stands next is refused
more_wanted : (number : Option ℕ) (rs : List Record) → AreFew number (length rs) → (number ≡ Some (length rs) → ⊥) → IfSome number (λ n. length rs < n)
more_wanted None rs h k = tt
more_wanted (Some n) rs h k =
    let ne : n ≡ length rs → ⊥ = λ q. k (ap (λ (x : ℕ). Some x) q) in
    omega (arith, h, ne)

refused_as : (s : Stage) (bytes more : List ℕ) (number : Option ℕ) (rs : List Record) (t : Stage) (f : LogFault) → BeginsWith s bytes rs t more → IsSpoiled number f rs (next_at t more) → ReadsFault s bytes number (refused_log f)
refused_as s bytes more number rs t log.Version b m = (rs, t, more, b, m)
refused_as s bytes more number rs t log.Header b m = (rs, t, more, b, m)
refused_as s bytes more number rs t (log.Line n) b m = (rs, t, more, b, m)
refused_as s bytes more number rs t log.Cut b m = (rs, t, more, b, m)
refused_as s bytes more number rs t log.Read b m = (rs, t, more, b, m)
refused_as s bytes more number rs t log.Memory b m = tt

pub reads_refused : (s : Stage) (rest left : Option (List ℕ)) (number : Option ℕ) (rs : List Record) (t : Stage) (f : LogFault) → Reached s rest rs t left → AreFew number (length rs) → (number ≡ Some (length rs) → ⊥) → (f ≡ log.Cut → ⊥) →
    IfSome left (λ bytes. MeansNext f (next_at t bytes)) → IfSome rest (λ bytes. ReadsAs s bytes number (Err (refused_log f)))
reads_refused s rest left number rs t f w few more uncut h =
    with_left s rest left rs t (MeansNext f) (λ bytes. ReadsFault s bytes number (refused_log f)) w h (λ bytes rest b m. refused_as s bytes rest number rs t f b (uncut, more_wanted number rs few more, m))

-- ---- no record but the last is an end

-- the records so far, of which the last is an end or none is
abbrev pub EndsBy : Bool → List Record → Type 0
EndsBy false rs = rs ≡ before_end rs
EndsBy true rs = (v : Verdict) × (rs ≡ before_end rs ++ End v ∷ [])

tail_of : List Record → List Record
tail_of [] = []
tail_of (r ∷ rs) = rs

before_on : (rs more : List Record) → rs ≡ before_end rs → before_end (rs ++ more) ≡ rs ++ before_end more
unfolding tail_of
before_on [] more h = refl
before_on (In j e ∷ rs) more h = ap (λ (xs : List Record). In j e ∷ xs) (before_on rs more (ap tail_of h))
before_on (Bad j n ∷ rs) more h = ap (λ (xs : List Record). Bad j n ∷ xs) (before_on rs more (ap tail_of h))
before_on (Eof j ∷ rs) more h = ap (λ (xs : List Record). Eof j ∷ xs) (before_on rs more (ap tail_of h))
before_on (Sel e ∷ rs) more h = ap (λ (xs : List Record). Sel e ∷ xs) (before_on rs more (ap tail_of h))
before_on (End v ∷ rs) more h = absurd (cc)

going_on : (rs : List Record) (r : Record) → rs ≡ before_end rs → before_end (r ∷ []) ≡ r ∷ [] → rs ++ r ∷ [] ≡ before_end (rs ++ r ∷ [])
going_on rs r h e = sym (before_on rs (r ∷ []) h ∙ ap (λ (xs : List Record). rs ++ xs) e)

sealed_by : (b : Bool) (rs : List Record) → b ≡ false → rs ≡ before_end rs → EndsBy b rs
sealed_by false rs e h = h
sealed_by true rs e h = absurd (cc)

pub sealed_on : (s : Stage) (rs : List Record) (r : Record) → s.ended ≡ false → EndsBy s.ended rs → EndsBy (after s r).ended (rs ++ r ∷ [])
sealed_on s rs r e h = sealed_at s rs r e (subst (λ (b : Bool). EndsBy b rs) e h)
  where
    sealed_at : (s : Stage) (rs : List Record) (r : Record) → s.ended ≡ false → rs ≡ before_end rs → EndsBy (after s r).ended (rs ++ r ∷ [])
    sealed_at s rs (In j x) e h = sealed_by s.ended (rs ++ In j x ∷ []) e (going_on rs (In j x) h refl)
    sealed_at s rs (Bad j n) e h = sealed_by s.ended (rs ++ Bad j n ∷ []) e (going_on rs (Bad j n) h refl)
    sealed_at s rs (Eof j) e h = sealed_by s.ended (rs ++ Eof j ∷ []) e (going_on rs (Eof j) h refl)
    sealed_at s rs (Sel x) e h = sealed_by s.ended (rs ++ Sel x ∷ []) e (going_on rs (Sel x) h refl)
    sealed_at s rs (End v) e h = (v, ap (λ (xs : List Record). xs ++ End v ∷ []) (sym (before_on rs (End v ∷ []) h ∙ append-nil rs)))

pub sealed_first : (b : Bool) → b ≡ false → EndsBy b []
sealed_first b e = sealed_by b [] e refl

pub ends_last : (b : Bool) (rs : List Record) → EndsBy b rs → EndsLast rs
ends_last false rs h = inl h
ends_last true rs h = inr h

-- ---- the loop

-- this many records were read so far
pub record ReadSo (first : Standing) (number : Option ℕ) (rs : List Record) (r : Standing) : Type 0 where
  pub fresh : r.refusal ≡ None
  pub reached : Reached first.stage first.left rs r.stage r.left
  pub few : AreFew number (length rs)
  pub count : length rs ≡ r.stage.lines
  pub limit : r.stage.lines ≤ MOST_RECORDS
  pub sealed : EndsBy r.stage.ended rs
  pub faults : first.faults ≤ r.faults

pub read_none : (number : Option ℕ) (r : Standing) → r.refusal ≡ None → r.stage.lines ≡ 0 → r.stage.ended ≡ false → ReadSo r number [] r
read_none number r fresh lines going = record {
  fresh = fresh;
  reached = reached_none r.stage r.left;
  few = few_none number;
  count = sym lines;
  limit = omega (arith, lines);
  sealed = sealed_first r.stage.ended going;
  faults = omega arith;
}

pub read_on : (first : Standing) (number : Option ℕ) (rs : List Record) (old new : Standing) (r : Record) → ReadSo first number rs old → (number ≡ Some (length rs) → ⊥) → IfSome old.left (λ bytes. ReaderTells (Ok (Some r)) (next_at old.stage bytes) new.left) →
    new.stage ≡ after old.stage r → old.stage.ended ≡ false → old.stage.lines < MOST_RECORDS → new.refusal ≡ None → old.faults ≤ new.faults → ReadSo first number (rs ++ r ∷ []) new
read_on first number rs old new r w more tells stage going room fresh counts =
    let lines : new.stage.lines ≡ old.stage.lines + 1 = ap (λ (s : Stage). s.lines) stage ∙ one_line old.stage r in
    let len = length-append rs (r ∷ []) in
    let count = w.count in
    let faults = w.faults in
    record {
      fresh = fresh;
      reached = reached_on first.stage first.left old.left new.left rs old.stage new.stage r w.reached tells stage;
      few = few_on number (length rs) rs r refl w.few more;
      count = omega (arith, len, lines, count);
      limit = omega (arith, lines, room);
      sealed = subst (λ (s : Stage). EndsBy s.ended (rs ++ r ∷ [])) (sym stage) (sealed_on old.stage rs r going w.sealed);
      faults = omega (arith, counts, faults);
    }

-- the reader found a record
pub read_found : (first : Standing) (number : Option ℕ) (rs : List Record) (old new : Standing) (o : Option Record) (r : Record) → ReadSo first number rs old → (number ≡ Some (length rs) → ⊥) → o ≡ Some r → IfSome old.left (λ bytes. ReaderTells (Ok o) (next_at old.stage bytes) new.left) →
    IsStageAfter old.stage (Ok o) new.stage → ComesInTime old.stage (Ok o) → new.refusal ≡ None → old.faults ≤ new.faults → ReadSo first number (rs ++ r ∷ []) new
read_found first number rs old new None r w more is tells stage time fresh counts = absurd (cc)
read_found first number rs old new (Some x) r w more is tells stage time fresh counts =
    let same : x ≡ r = same_Some x r is in
    subst (λ (y : Record). ReadSo first number (rs ++ y ∷ []) new) same (read_on first number rs old new x w more tells stage time.0 time.1 fresh counts)
