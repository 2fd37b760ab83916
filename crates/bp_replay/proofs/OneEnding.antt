-- Replays of the same bytes end in one way and print one text.
use Rattle.std.proofs.Common.{◌≡◌, ◌⊎◌, inl, inr, ℕ, List, [], ◌∷◌, ◌++◌, refl, ap, sym, ◌∙◌, subst, append-nil, Option, Some, None, Ok, Err}
use Rattle.std.specs.Prelude.{Result, IfSome}
use Rattle.js_data.proofs.Shared.{one_answer}
use Rattle.js_program.specs.PlainProgram.{PlainProgram}
use Rattle.js_meaning.specs.Bodies.{Origin}
use Rattle.bp_base.specs.Pieces.{Appends}
use Rattle.bp_log.specs.Header.{PlainHeader}
use Rattle.bp_log.specs.Options.{PlainOptions}
use Rattle.bp_log.specs.Records.{verdict_of}
use Rattle.bp_log.specs.declared.version.Version.{Version}
use Rattle.bp_log.specs.declared.record.Record.{Record}
use Rattle.bp_log.specs.declared.verdict.Verdict.{Verdict}
use Rattle.bp_reading.specs.Heads.{Refusal, version, header, record_line, cut, header_at}
use Rattle.bp_reading.specs.Reading.{Stage, BeginsWith, found, finished, refused, next_at, first_stage, after}
use Rattle.bp_reading.proofs.OneWay.{found_unfinished, found_unrefused, finished_unrefused, one_refusal}
use Rattle.bp_reader.specs.Gets.{refusal_of, MeansRead}
use Rattle.bp_reader.specs.Reads.{MeansNext}
use Rattle.bp_reader.specs.declared.fault.LogFault.{LogFault}
use Rattle.bp_reader.specs.declared.fault.LogFault.TheVariants as log
use Rattle.bp_run.specs.Configuration.{Configuration}
use Rattle.bp_run.specs.Settling.{initial}
use Rattle.bp_run.specs.Story.{story}
use Rattle.bp_code.specs.Code.{sealed_code_of as code_of}
use Rattle.bp_script.specs.Programs.{IsProgram, IsRefused}
use Rattle.bp_script.proofs.Once.{never, one_program}
use Rattle.bp_replay.specs.declared.fault.ReplayFault.{ReplayFault}
use Rattle.bp_replay.specs.declared.fault.ReplayFault.TheVariants.{Log, Differs, Program, Write, Memory}
use Rattle.bp_replay.specs.Courses.{Course, code_in, led, text_in, IsTold}
use Rattle.bp_replay.specs.Endings.{EndsAt}
use Rattle.bp_replay.specs.Replays.{Prints, Replays, HasNoRun, HasRefusedProgram}
use Rattle.bp_replay.specs.Laws.{IsTrouble, PrintOne, OneEnding}
use Rattle.bp_replay.proofs.WholeLogs.{same_record, same_rest, next_leads, one_ok, read_ok}

-- ---- a refusal is told by one fault

-- reading or writing failed or memory ran out, or this is refused
abbrev Refuses : LogFault → Type 0
Refuses f = IsTrouble (Err (Log f)) ⊎ ((r : Refusal) × (refusal_of f ≡ Some r))

refuses : (f : LogFault) → Refuses f
refuses log.Version = inr (version, refl)
refuses log.Header = inr (header, refl)
refuses (log.Line n) = inr (record_line n, refl)
refuses log.Cut = inr (cut, refl)
refuses log.Read = inl tt
refuses log.Memory = inl tt

fault_by : Refusal → LogFault
fault_by version = log.Version
fault_by header = log.Header
fault_by (record_line n) = log.Line n
fault_by cut = log.Cut

told_by : (f : LogFault) (r : Refusal) → refusal_of f ≡ Some r → f ≡ fault_by r
unfolding fault_by
told_by log.Version r h = let e : version ≡ r = cc in ap fault_by e
told_by log.Header r h = let e : header ≡ r = cc in ap fault_by e
told_by (log.Line n) r h = let e : record_line n ≡ r = cc in ap fault_by e
told_by log.Cut r h = let e : cut ≡ r = cc in ap fault_by e
told_by log.Read r h = absurd (cc)
told_by log.Memory r h = absurd (cc)

-- two faults that tell one refusal
one_fault : (f g : LogFault) (r q : Refusal) → refusal_of f ≡ Some r → refusal_of g ≡ Some q → Some r ≡ Some q → f ≡ g
one_fault f g r q h k e = let same : r ≡ q = cc in told_by f r h ∙ ap fault_by same ∙ sym (told_by g q k)

at_refusal : (f : LogFault) (r : Refusal) (P : Refusal → Type 0) → refusal_of f ≡ Some r → IfSome (refusal_of f) P → P r
at_refusal f r P h k = subst (λ (o : Option Refusal). IfSome o P) h k

-- ---- one course

same_course : (c d : Course) → c.version ≡ d.version → c.program ≡ d.program → c.options ≡ d.options → c.records ≡ d.records → IsTold c → IsTold d → c ≡ d
same_course c d v p o r h k =
    let stories : story (code_in c) c.options c.records ≡ story (code_in d) d.options d.records = λ i. story (code_of (p i) (o i)) (o i) (r i) in
    let told : c.told ≡ d.told = one_answer (story (code_in d) d.options d.records) c.told d.told (sym stories ∙ h) k in
    λ i. record { version = v i; program = p i; options = o i; records = r i; told = told i }

-- ---- how far two readings of the same bytes came

-- the bytes go on with a further record
pub record Further (t : Stage) (left : List ℕ) (rs ss : List Record) : Type 0 where
  pub next : Record
  pub more : List Record
  pub is : ss ≡ rs ++ next ∷ more
  pub rest : List ℕ
  pub reads : next_at t left ≡ found next rest

-- both came as far
pub record Together (t u : Stage) (left more : List ℕ) (rs ss : List Record) : Type 0 where
  pub records : rs ≡ ss
  pub stage : t ≡ u
  pub bytes : left ≡ more

onto_further : (t : Stage) (left : List ℕ) (r q : Record) (rs ss : List Record) → r ≡ q → Further t left rs ss → Further t left (r ∷ rs) (q ∷ ss)
onto_further t left r q rs ss e f = record { next = f.next; more = f.more; is = ap (λ (x : Record). x ∷ ss) (sym e) ∙ ap (λ (xs : List Record). r ∷ xs) f.is; rest = f.rest; reads = f.reads }

-- nothing was read of the bytes by one
further_at : (s t : Stage) (bytes left : List ℕ) (q : Record) (qs : List Record) (rest : List ℕ) → t ≡ s → left ≡ bytes → next_at s bytes ≡ found q rest → Further t left [] (q ∷ qs)
further_at s t bytes left q qs rest e f h =
    record { next = q; more = qs; is = refl; rest = rest; reads = subst (λ (x : Stage). next_at x left ≡ found q rest) (sym e) (subst (λ (xs : List ℕ). next_at s xs ≡ found q rest) (sym f) h) }

pub compared : (rs ss : List Record) (s : Stage) (bytes : List ℕ) (t u : Stage) (left more : List ℕ) → BeginsWith s bytes rs t left → BeginsWith s bytes ss u more →
    Together t u left more rs ss ⊎ (Further t left rs ss ⊎ Further u more ss rs)
compared [] [] s bytes t u left more b d = inl (record { records = refl; stage = b.0 ∙ sym d.0; bytes = b.1 ∙ sym d.1 })
compared [] (q ∷ qs) s bytes t u left more b d = inr (inl (further_at s t bytes left q qs d.0 b.0 b.1 d.1))
compared (r ∷ rs) [] s bytes t u left more b d = inr (inr (further_at s u bytes more r rs b.0 d.0 d.1 b.1))
compared (r ∷ rs) (q ∷ ss) s bytes t u left more b d =
    let e : q ≡ r = same_record (next_at s bytes) q r d.0 b.0 d.1 b.1 in
    let f : d.0 ≡ b.0 = same_rest (next_at s bytes) q r d.0 b.0 d.1 b.1 in
    let same : BeginsWith (after s r) b.0 ss u more = subst (λ (x : Record). BeginsWith (after s x) b.0 ss u more) e (subst (λ (xs : List ℕ). BeginsWith (after s q) xs ss u more) f d.2) in
    elim (compared rs ss (after s r) b.0 t u left more b.2 same) [
      | inl together ↦ inl (record { records = ap (λ (xs : List Record). r ∷ xs) together.records ∙ ap (λ (x : Record). x ∷ ss) (sym e); stage = together.stage; bytes = together.bytes })
      | inr (inl x) ↦ inr (inl (onto_further t left r q rs ss (sym e) x))
      | inr (inr y) ↦ inr (inr (onto_further u more q r ss rs e y))
    ]

-- ---- a replay ends only where the run does not go on

module _ (c : Course) (s : Stage) (left : List ℕ) (told : IsTold c) where
  leads : (ss qs : List Record) (q : Record) (d : Configuration Origin) → story (code_in c) c.options ss ≡ Some d → ss ≡ c.records ++ q ∷ qs → (m : Configuration Origin) × (led c q ≡ Some m)
  unfolding story
  leads ss qs q d h e =
      next_leads (code_in c) c.options c.records qs q (initial (code_in c) c.options.injectors) c.told d told (ap (λ (xs : List Record). story (code_in c) c.options xs) (sym e) ∙ h)

  unrefused : (f : LogFault) (q : Record) (rest : List ℕ) → next_at s left ≡ found q rest → MeansNext f (next_at s left) → IsTrouble (Err (Log f))
  unrefused f q rest h m = elim (refuses f) [
    | inl trouble ↦ trouble
    | inr r ↦ absurd (found_unrefused (next_at s left) q rest r.0 h (at_refusal f r.0 (λ x. next_at s left ≡ refused x) r.1 m))
  ]

  goes_on : (ss : List Record) (d : Configuration Origin) → story (code_in c) c.options ss ≡ Some d → Further s left c.records ss → (x : Result Verdict ReplayFault) → EndsAt c s left x → IsTrouble x
  goes_on ss d h f (Ok v) e = found_unfinished (next_at s left) f.next f.rest f.reads e.0
  goes_on ss d h f (Err (Log g)) e = unrefused g f.next f.rest f.reads e
  goes_on ss d h f (Err (Differs number expected other)) e =
      let same : f.next ≡ other = same_record (next_at s left) f.next other f.rest e.behind f.reads e.reads in
      let m = leads ss f.more f.next d h f.is in
      let k : None ≡ Some m.0 = sym (ap (λ (x : Record). led c x) same ∙ e.differs) ∙ m.1 in cc
  goes_on ss d h f (Err Program) e = e
  goes_on ss d h f (Err Write) e = tt
  goes_on ss d h f (Err Memory) e = tt

  -- ---- where both came as far

  no_fault_ends : (f : LogFault) → next_at s left ≡ finished → MeansNext f (next_at s left) → IsTrouble (Err (Log f))
  no_fault_ends f h m = elim (refuses f) [
    | inl trouble ↦ trouble
    | inr r ↦ absurd (finished_unrefused (next_at s left) r.0 h (at_refusal f r.0 (λ x. next_at s left ≡ refused x) r.1 m))
  ]

  both_refuse : (f g : LogFault) → MeansNext f (next_at s left) → MeansNext g (next_at s left) → IsTrouble (Err (Log f)) ⊎ (IsTrouble (Err (Log g)) ⊎ (f ≡ g))
  both_refuse f g m n = elim (refuses f) [
    | inl trouble ↦ inl trouble
    | inr r ↦ elim (refuses g) [
      | inl trouble ↦ inr (inl trouble)
      | inr q ↦
          inr (inr (one_fault f g r.0 q.0 r.1 q.1
          (one_refusal (next_at s left) r.0 q.0 (at_refusal f r.0 (λ x. next_at s left ≡ refused x) r.1 m) (at_refusal g q.0 (λ x. next_at s left ≡ refused x) q.1 n))))
    ]
  ]

  abbrev Agree : Result Verdict ReplayFault → Result Verdict ReplayFault → Type 0
  Agree x y = IsTrouble x ⊎ (IsTrouble y ⊎ (x ≡ y))

  agree_faults : (f g : LogFault) → IsTrouble (Err (Log f)) ⊎ (IsTrouble (Err (Log g)) ⊎ (f ≡ g)) → Agree (Err (Log f)) (Err (Log g))
  agree_faults f g (inl t) = inl t
  agree_faults f g (inr (inl t)) = inr (inl t)
  agree_faults f g (inr (inr e)) = inr (inr (ap (λ (x : LogFault). Err (Log x)) e))

  ends_same : (x y : Result Verdict ReplayFault) → EndsAt c s left x → EndsAt c s left y → Agree x y
  ends_same (Ok v) (Ok w) d e = inr (inr (ap (λ (u : Verdict). Ok u) (one_answer (verdict_of c.records) v w d.1 e.1)))
  ends_same (Ok v) (Err (Log g)) d e = inr (inl (no_fault_ends g d.0 e))
  ends_same (Ok v) (Err (Differs number expected other)) d e = absurd (found_unfinished (next_at s left) other e.behind e.reads d.0)
  ends_same (Ok v) (Err Program) d e = absurd e
  ends_same (Ok v) (Err Write) d e = inr (inl tt)
  ends_same (Ok v) (Err Memory) d e = inr (inl tt)
  ends_same (Err (Log f)) (Ok w) d e = inl (no_fault_ends f e.0 d)
  ends_same (Err (Log f)) (Err (Log g)) d e = agree_faults f g (both_refuse f g d e)
  ends_same (Err (Log f)) (Err (Differs number expected other)) d e = inl (unrefused f other e.behind e.reads d)
  ends_same (Err (Log f)) (Err Program) d e = absurd e
  ends_same (Err (Log f)) (Err Write) d e = inr (inl tt)
  ends_same (Err (Log f)) (Err Memory) d e = inr (inl tt)
  ends_same (Err (Differs number expected other)) (Ok w) d e = absurd (found_unfinished (next_at s left) other d.behind d.reads e.0)
  ends_same (Err (Differs number expected other)) (Err (Log g)) d e = inr (inl (unrefused g other d.behind d.reads e))
  ends_same (Err (Differs number expected other)) (Err (Differs n made said)) d e =
      let same : other ≡ said = same_record (next_at s left) other said d.behind e.behind d.reads e.reads in
      let numbers : number ≡ n = d.number_is ∙ sym e.number_is in
      let both : expected ≡ made = d.expected_is ∙ sym e.expected_is in inr (inr (λ i. Err (Differs (numbers i) (both i) (same i))))
  ends_same (Err (Differs number expected other)) (Err Program) d e = absurd e
  ends_same (Err (Differs number expected other)) (Err Write) d e = inr (inl tt)
  ends_same (Err (Differs number expected other)) (Err Memory) d e = inr (inl tt)
  ends_same (Err Program) y d e = absurd d
  ends_same (Err Write) y d e = inl tt
  ends_same (Err Memory) y d e = inl tt

-- ---- what is printed

-- where nothing failed the whole text was printed
prints_all : (x : Result Verdict ReplayFault) (before later : Option (List ℕ)) (text : List ℕ) → Prints x before text later → IsTrouble x ⊎ Appends before text later
prints_all (Ok v) before later text p = inr p
prints_all (Err (Log f)) before later text p = inr p
prints_all (Err (Differs number expected other)) before later text p = inr p
prints_all (Err Program) before later text p = inr p
prints_all (Err Write) before later text p = inl tt
prints_all (Err Memory) before later text p = inl tt

nothing_printed : (before later : Option (List ℕ)) → later ≡ before → Appends before [] later
nothing_printed None later e = tt
nothing_printed (Some bytes) later e = e ∙ ap (λ (xs : List ℕ). Some xs) (sym (append-nil bytes))

module _ (bytes : List ℕ) (before after other later : Option (List ℕ)) (x y : Result Verdict ReplayFault) where
  abbrev Once : Type 0
  Once = IsTrouble x ⊎ (IsTrouble y ⊎ ((x ≡ y) × PrintOne before after other later))

  printed : (text : List ℕ) → x ≡ y → Prints x before text after → Prints y other text later → Once
  printed text e p q = elim (prints_all x before after text p) [
    | inl trouble ↦ inl trouble
    | inr a ↦ elim (prints_all y other later text q) [
      | inl trouble ↦ inr (inl trouble)
      | inr b ↦ inr (inr (e, (text, a, b)))
    ]
  ]

  module _ (h : Version × PlainHeader) (rest : List ℕ) (is : header_at bytes ≡ Ok (h, rest)) where
    -- of the bytes of a header
    module _ (r : Replays bytes before after x) (q : Replays bytes other later y) where
      c : Course
      c = r.course

      d : Course
      d = q.course

      together : c ≡ d → r.stage ≡ q.stage → r.left ≡ q.left → Once
      unfolding c d
      together e s l =
          let there : EndsAt c r.stage r.left y =
          subst (λ (z : Course). EndsAt z r.stage r.left y) (sym e) (subst (λ (t : Stage). EndsAt d t r.left y) (sym s) (subst (λ (xs : List ℕ). EndsAt d q.stage xs y) (sym l) q.ends)) in
          let prints : Prints y other (text_in c) later = subst (λ (z : Course). Prints y other (text_in z) later) (sym e) q.prints in
          elim (ends_same c r.stage r.left (r.follows).told x y r.ends there) [
            | inl trouble ↦ inl trouble
            | inr (inl trouble) ↦ inr (inl trouble)
            | inr (inr same) ↦ printed (text_in c) same r.prints prints
          ]

      both : Once
      unfolding c d
      both =
          let mine = one_ok (header_at bytes) ((c.version, (r.heads).header), r.rest) (h, rest) (r.heads).header_is is in
          let yours = one_ok (header_at bytes) ((d.version, (q.heads).header), q.rest) (h, rest) (q.heads).header_is is in
          let heads : (r.heads).header ≡ (q.heads).header = ap (λ p. p.0.1) mine ∙ sym (ap (λ p. p.0.1) yours) in
          let versions : c.version ≡ d.version = ap (λ p. p.0.0) mine ∙ sym (ap (λ p. p.0.0) yours) in
          let rests : r.rest ≡ q.rest = ap (λ p. p.1) mine ∙ sym (ap (λ p. p.1) yours) in
          let o : c.options ≡ d.options = (r.heads).options ∙ ap (λ (z : PlainHeader). z.options) heads ∙ sym (q.heads).options in
          let p : c.program ≡ d.program = one_program ((q.heads).header).program c.program d.program (subst (λ (z : PlainHeader). IsProgram z.program c.program) heads (r.heads).program) (q.heads).program in
          let begins : BeginsWith (first_stage c.version c.options.injectors) r.rest d.records q.stage q.left =
          subst (λ (v : Version). BeginsWith (first_stage v c.options.injectors) r.rest d.records q.stage q.left) (sym versions)
          (subst (λ (z : PlainOptions). BeginsWith (first_stage d.version z.injectors) r.rest d.records q.stage q.left) (sym o)
          (subst (λ (xs : List ℕ). BeginsWith (first_stage d.version d.options.injectors) xs d.records q.stage q.left) (sym rests) (q.follows).begins)) in
          elim (compared c.records d.records (first_stage c.version c.options.injectors) r.rest r.stage q.stage r.left q.left (r.follows).begins begins) [
            | inl t ↦ together (same_course c d versions p o t.records (r.follows).told (q.follows).told) t.stage t.bytes
            | inr (inl further) ↦
                inl (goes_on c r.stage r.left (r.follows).told d.records d.told ((λ i. story (code_of (p i) (o i)) (o i) d.records) ∙ (q.follows).told) further x r.ends)
            | inr (inr further) ↦
                inr (inl (goes_on d q.stage q.left (q.follows).told c.records c.told (sym (λ i. story (code_of (p i) (o i)) (o i) c.records) ∙ (r.follows).told) further y q.ends))
          ]

-- ---- without a run

run_or_none : (bytes : List ℕ) (v : Version) (h : PlainHeader) (rest : List ℕ) (program : PlainProgram) → header_at bytes ≡ Ok ((v, h), rest) → IsProgram h.program program → (x : Result Verdict ReplayFault) → HasNoRun bytes x → IsTrouble x
run_or_none bytes v h rest program is p (Ok verdict) n = n
run_or_none bytes v h rest program is p (Err (Log f)) n = elim (refuses f) [
  | inl trouble ↦ trouble
  | inr r ↦ absurd (read_ok (header_at bytes) ((v, h), rest) r.0 is (at_refusal f r.0 (λ e. header_at bytes ≡ Err e) r.1 n))
]
run_or_none bytes v h rest program is p (Err (Differs number expected other)) n = n
run_or_none bytes v h rest program is p (Err Program) n =
    let same : n.1 ≡ h = ap (λ q. q.0.1) (one_ok (header_at bytes) ((n.0, n.1), n.2) ((v, h), rest) n.3 is) in
    let no : IsRefused h.program n.4.0 = subst (λ (z : PlainHeader). IsRefused z.program n.4.0) same n.4.1 in
    absurd (never h.program p.tree n.4.0 p.accepted no)
run_or_none bytes v h rest program is p (Err Write) n = tt
run_or_none bytes v h rest program is p (Err Memory) n = tt

one_error : {A E : Type 0} (x : Result A E) (a b : E) → x ≡ Err a → x ≡ Err b → Some a ≡ Some b
one_error x a b h k = let e : a ≡ b = cc in ap (λ z. Some z) e

-- a header that is refused has no program that is
no_header : (bytes : List ℕ) (f : LogFault) → MeansRead f (header_at bytes) → HasRefusedProgram bytes → IsTrouble (Err (Log f))
no_header bytes f m p = elim (refuses f) [
  | inl trouble ↦ trouble
  | inr r ↦ absurd (read_ok (header_at bytes) ((p.0, p.1), p.2) r.0 p.3 (at_refusal f r.0 (λ e. header_at bytes ≡ Err e) r.1 m))
]

none_same : (bytes : List ℕ) (x y : Result Verdict ReplayFault) → HasNoRun bytes x → HasNoRun bytes y → IsTrouble x ⊎ (IsTrouble y ⊎ (x ≡ y))
none_same bytes (Ok v) y m n = absurd m
none_same bytes (Err (Log f)) (Ok w) m n = absurd n
none_same bytes (Err (Log f)) (Err (Log g)) m n = elim (refuses f) [
  | inl trouble ↦ inl trouble
  | inr r ↦ elim (refuses g) [
    | inl trouble ↦ inr (inl trouble)
    | inr q ↦
        let same = one_fault f g r.0 q.0 r.1 q.1 (one_error (header_at bytes) r.0 q.0 (at_refusal f r.0 (λ e. header_at bytes ≡ Err e) r.1 m) (at_refusal g q.0 (λ e. header_at bytes ≡ Err e) q.1 n)) in
        inr (inr (ap (λ (z : LogFault). Err (Log z)) same))
  ]
]
none_same bytes (Err (Log f)) (Err (Differs number expected other)) m n = absurd n
none_same bytes (Err (Log f)) (Err Program) m n = inl (no_header bytes f m n)
none_same bytes (Err (Log f)) (Err Write) m n = inr (inl tt)
none_same bytes (Err (Log f)) (Err Memory) m n = inr (inl tt)
none_same bytes (Err (Differs number expected other)) y m n = absurd m
none_same bytes (Err Program) (Ok w) m n = absurd n
none_same bytes (Err Program) (Err (Log g)) m n = inr (inl (no_header bytes g n m))
none_same bytes (Err Program) (Err (Differs number expected other)) m n = absurd n
none_same bytes (Err Program) (Err Program) m n = inr (inr refl)
none_same bytes (Err Program) (Err Write) m n = inr (inl tt)
none_same bytes (Err Program) (Err Memory) m n = inr (inl tt)
none_same bytes (Err Write) y m n = inl tt
none_same bytes (Err Memory) y m n = inl tt

pub one_ending : OneEnding
one_ending bytes before after other later x y (inl h) (inl k) = elim (none_same bytes x y h.0 k.0) [
  | inl trouble ↦ inl trouble
  | inr (inl trouble) ↦ inr (inl trouble)
  | inr (inr same) ↦ inr (inr (same, ([], nothing_printed before after h.1, nothing_printed other later k.1)))
]
one_ending bytes before after other later x y (inl h) (inr q) = inl (run_or_none bytes (q.course).version (q.heads).header q.rest (q.course).program (q.heads).header_is (q.heads).program x h.0)
one_ending bytes before after other later x y (inr r) (inl k) = inr (inl (run_or_none bytes (r.course).version (r.heads).header r.rest (r.course).program (r.heads).header_is (r.heads).program y k.0))
one_ending bytes before after other later x y (inr r) (inr q) = both bytes before after other later x y ((r.course).version, (r.heads).header) r.rest (r.heads).header_is r q
