-- The laws of migrations.
use Rattle.std.proofs.Common.{◌≡◌, ◌∙◌, ◌⊎◌, inl, inr, ℕ, List, [], ◌∷◌, refl, sym, ap, subst, Option, Some, None, Ok, Err}
use Rattle.std.specs.Prelude.{Result}
use Rattle.bp_base.specs.Pieces.{Appends}
use Rattle.bp_log.specs.Header.{PlainHeader}
use Rattle.bp_log.specs.Logs.{records_text, log_text}
use Rattle.bp_log.specs.declared.version.Version.{Version}
use Rattle.bp_log.specs.declared.version.Version.TheVariants.{Second}
use Rattle.bp_log.specs.declared.record.Record.{Record}
use Rattle.bp_log.specs.declared.record.Record.TheVariants.{In, Bad, Eof, Sel, End}
use Rattle.bp_log.specs.declared.verdict.Verdict.{Verdict}
use Rattle.bp_log.specs.declared.verdict.Verdict.TheVariants as verdict
use Rattle.bp_reading.specs.Heads.{Refusal, header_at}
use Rattle.bp_reading.specs.Reading.{Stage, first_stage, is_known, after, Says}
use Rattle.bp_reading.specs.Laws.{Stands}
use Rattle.bp_reading.proofs.Whole.{logs_are_read}
use Rattle.bp_reading.proofs.Fits.{read_logs_are_texts}
use Rattle.bp_reading.proofs.OneWay.{read_one_way}
use Rattle.bp_told.proofs.Pieces.{appends_nothing}
use Rattle.bp_migrate.specs.declared.fault.MigrateFault.{MigrateFault}
use Rattle.bp_migrate.specs.Migrations.{Migrates, HasNoHeader}
use Rattle.bp_migrate.specs.Laws.{IsTrouble, LogsMigrate, OnlyLogsMigrate, MigratedAreLogs, WriteOne, OneEnding}
use Rattle.bp_migrate.proofs.Ends.{end_of, trouble_or_end, ended_by, told_by, says_all, prints_all, refused_at}

-- ---- headers

one_ok : {A E : Type 0} (x : Result A E) (a b : A) → x ≡ Ok a → x ≡ Ok b → a ≡ b
one_ok x a b h k = cc

one_error : {A E : Type 0} (x : Result A E) (a b : E) → x ≡ Err a → x ≡ Err b → a ≡ b
one_error x a b h k = cc

read_ok : {A E : Type 0} (x : Result A E) (a : A) (f : E) → x ≡ Ok a → x ≡ Err f → ⊥
read_ok x a f h k = cc

-- a version, a header and the bytes after it
abbrev Head : Type 0
Head = (Version × PlainHeader) × List ℕ

-- what stands after a header says these records, and so it ends
abbrev SaysBehind : Head → List Record → Option Refusal → Type 0
SaysBehind p rs e = Says (first_stage p.0.0 p.0.1.options.injectors) p.1 rs e

-- of the same bytes that is said once
one_says : (p : Head) (rs ss : List Record) (e f : Option Refusal) → SaysBehind p rs e → SaysBehind p ss f → (rs ≡ ss) × (e ≡ f)
one_says p rs ss e f h k =
    let one = read_one_way (first_stage p.0.0 p.0.1.options.injectors) p.1 in
    let a = one.3 rs e h in
    let b = one.3 ss f k in
    (a.0 ∙ sym b.0, a.1 ∙ sym b.1)

module _ (bytes : List ℕ) (before after : Option (List ℕ)) (x : Result (Unit {0}) MigrateFault) (m : Migrates bytes before after x) where
  head : Head
  head = ((m.version, m.header), m.rest)

  says : (e : Option Refusal) → end_of x ≡ Some e → SaysBehind head (m.behind).records e
  unfolding head
  says e h = says_all (m.behind).records (first_stage m.version m.header.options.injectors) m.rest (m.behind).stage (m.behind).left x e h (m.behind).begins (m.behind).ends

  -- at another reading of the same bytes
  says_at : (p : Head) (e : Option Refusal) → header_at bytes ≡ Ok p → end_of x ≡ Some e → SaysBehind p (m.behind).records e
  unfolding head
  says_at p e is h = subst (λ (q : Head). SaysBehind q (m.behind).records e) (one_ok (header_at bytes) head p m.header_is is) (says e h)

  same_header : (p : Head) → header_at bytes ≡ Ok p → m.header ≡ p.0.1
  unfolding head
  same_header p is = ap (λ (q : Head). q.0.1) (one_ok (header_at bytes) head p m.header_is is)

-- where there is a header it ends in trouble before one is read
none_read : (bytes : List ℕ) (p : Head) (x : Result (Unit {0}) MigrateFault) → header_at bytes ≡ Ok p → HasNoHeader bytes x → IsTrouble x
none_read bytes p x is n = elim (trouble_or_end x) [
  | inl trouble ↦ trouble
  | inr e ↦ let r = refused_at bytes x e.0 e.1 n in absurd (read_ok (header_at bytes) p r.0 is r.2)
]

-- ---- a log

pub logs_migrate : LogsMigrate
logs_migrate version bytes header records before after ended l (inl n) =
    let read = logs_are_read version header records l.header l.records l.version l.stands in
    inl (none_read bytes ((version, header), records_text records) ended (ap header_at l.text ∙ read.0) n.0)
logs_migrate version bytes header records before after ended l (inr m) =
    let read = logs_are_read version header records l.header l.records l.version l.stands in
    let p : Head = ((version, header), records_text records) in
    let is : header_at bytes ≡ Ok p = ap header_at l.text ∙ read.0 in
    elim (trouble_or_end ended) [
      | inl trouble ↦ inl trouble
      | inr e ↦
          let one = one_says p records (m.behind).records None e.0 read.1 (says_at bytes before after ended m p e.0 is e.1) in
          let well : ended ≡ Ok tt = told_by ended e.0 e.1 ∙ ap ended_by (sym one.1) in
          let text : log_text Second m.header (m.behind).records ≡ log_text Second header records =
          ap (λ (h : PlainHeader). log_text Second h (m.behind).records) (same_header bytes before after ended m p is) ∙ ap (λ (rs : List Record). log_text Second header rs) (sym one.0) in
          inr (well, subst (λ (t : List ℕ). Appends before t after) text (prints_all ended e.0 before after (log_text Second m.header (m.behind).records) e.1 (m.behind).prints))
    ]

pub only_logs_migrate : OnlyLogsMigrate
only_logs_migrate bytes before after (inl n) = absurd n.0
only_logs_migrate bytes before after (inr m) =
    let b = m.behind in (
      record {
        version = m.version;
        header = m.header;
        records = b.records;
        log = read_logs_are_texts bytes m.rest m.version m.header b.records m.header_is
            (says_all b.records (first_stage m.version m.header.options.injectors) m.rest b.stage b.left (Ok tt) None refl b.begins b.ends);
      },
      b.prints,
    )

-- ---- a log of another version

known_same : (v : Version) (s : Stage) (w : Verdict) → is_known (record s { version = v }) w ≡ is_known s w
known_same v s (verdict.Quiet n) = refl
known_same v s (verdict.Violated p t) = refl
known_same v s (verdict.Fault p n f) = refl
known_same v s (verdict.Spent p) = refl
known_same v s (verdict.Steps n) = refl
known_same v s verdict.Queue = refl
known_same v s verdict.Threads = refl
known_same v s verdict.Weight = refl
known_same v s (verdict.Bad j n) = refl

-- what can stand in a log of one version can stand in one of another
stand_as : (v : Version) (rs : List Record) (s : Stage) → Stands s rs → Stands (record s { version = v }) rs
stand_as v [] s h = h
stand_as v (In j e ∷ rs) s h = (h.0, h.1, h.2, h.3, stand_as v rs (after s (In j e)) h.4)
stand_as v (Bad j n ∷ rs) s h = (h.0, h.1, h.2, h.3, stand_as v rs (after s (Bad j n)) h.4)
stand_as v (Eof j ∷ rs) s h = (h.0, h.1, h.2, h.3, stand_as v rs (after s (Eof j)) h.4)
stand_as v (Sel e ∷ rs) s h = (h.0, h.1, h.2, h.3, stand_as v rs (after s (Sel e)) h.4)
stand_as v (End w ∷ rs) s h = (h.0, h.1, known_same v s w ∙ h.2, h.3, stand_as v rs (after s (End w)) h.4)

pub migrated_are_logs : MigratedAreLogs
migrated_are_logs version bytes header records l =
    record {
      text = refl;
      version = refl;
      complete = l.complete;
      header = l.header;
      records = l.records;
      stands = stand_as Second records (first_stage version header.options.injectors) l.stands;
    }

-- ---- one ending

nothing_written : (before after other later : Option (List ℕ)) → after ≡ before → later ≡ other → WriteOne before after other later
nothing_written before after other later e f = (
  [],
  subst (λ (b : Option (List ℕ)). Appends before [] b) (sym e) (appends_nothing before),
  subst (λ (b : Option (List ℕ)). Appends other [] b) (sym f) (appends_nothing other),
)

module _ (bytes : List ℕ) (before after other later : Option (List ℕ)) (x y : Result (Unit {0}) MigrateFault) where
  abbrev Once : Type 0
  Once = IsTrouble x ⊎ (IsTrouble y ⊎ ((x ≡ y) × WriteOne before after other later))

  none : HasNoHeader bytes x → HasNoHeader bytes y → after ≡ before → later ≡ other → Once
  none m n a b = elim (trouble_or_end x) [
    | inl trouble ↦ inl trouble
    | inr e ↦ elim (trouble_or_end y) [
      | inl trouble ↦ inr (inl trouble)
      | inr f ↦
          let r = refused_at bytes x e.0 e.1 m in
          let q = refused_at bytes y f.0 f.1 n in
          let same : e.0 ≡ f.0 = r.1 ∙ ap (λ (z : Refusal). Some z) (one_error (header_at bytes) r.0 q.0 r.2 q.2) ∙ sym q.1 in
          inr (inr (told_by x e.0 e.1 ∙ ap ended_by same ∙ sym (told_by y f.0 f.1), nothing_written before after other later a b))
    ]
  ]

  both : Migrates bytes before after x → Migrates bytes other later y → Once
  both m n = elim (trouble_or_end x) [
    | inl trouble ↦ inl trouble
    | inr e ↦ elim (trouble_or_end y) [
      | inl trouble ↦ inr (inl trouble)
      | inr f ↦
          let p : Head = ((n.version, n.header), n.rest) in
          let one = one_says p (m.behind).records (n.behind).records e.0 f.0 (says_at bytes before after x m p e.0 n.header_is e.1) (says_at bytes other later y n p f.0 n.header_is f.1) in
          let text : log_text Second m.header (m.behind).records ≡ log_text Second n.header (n.behind).records =
          ap (λ (h : PlainHeader). log_text Second h (m.behind).records) (same_header bytes before after x m p n.header_is) ∙ ap (λ (rs : List Record). log_text Second n.header rs) one.0 in
          inr (inr (
            told_by x e.0 e.1 ∙ ap ended_by one.1 ∙ sym (told_by y f.0 f.1),
            (
              log_text Second n.header (n.behind).records,
              subst (λ (t : List ℕ). Appends before t after) text (prints_all x e.0 before after (log_text Second m.header (m.behind).records) e.1 (m.behind).prints),
              prints_all y f.0 other later (log_text Second n.header (n.behind).records) f.1 (n.behind).prints,
            ),
          ))
    ]
  ]

pub one_ending : OneEnding
one_ending bytes before after other later x y (inl m) (inl n) = none bytes before after other later x y m.0 n.0 m.1 n.1
one_ending bytes before after other later x y (inl m) (inr n) = inl (none_read bytes ((n.version, n.header), n.rest) x n.header_is m.0)
one_ending bytes before after other later x y (inr m) (inl n) = inr (inl (none_read bytes ((m.version, m.header), m.rest) y m.header_is n.0))
one_ending bytes before after other later x y (inr m) (inr n) = both bytes before after other later x y m n
