-- A log and what a migration makes of it replay alike.
use Rattle.std.proofs.Common.{◌≡◌, ◌⊎◌, inl, inr, ℕ, List, [], ◌∷◌, ◌++◌, ap, sym, ◌∙◌, subst, append-nil, Option, Some, Ok, Err}
use Rattle.std.specs.Prelude.{Result}
use Rattle.std.proofs.lemmas.Grind.{flat_map-append}
use Rattle.std.proofs.lemmas.Option.{same_Some}
use Rattle.bp_log.specs.Header.{PlainHeader}
use Rattle.bp_log.specs.Logs.{records_text, whole_record, log_text}
use Rattle.bp_log.specs.declared.version.Version.{Version}
use Rattle.bp_log.specs.declared.version.Version.TheVariants.{Second}
use Rattle.bp_log.specs.declared.record.Record.{Record}
use Rattle.bp_log.specs.declared.verdict.Verdict.{Verdict}
use Rattle.bp_reading.specs.Heads.{Refusal, version, header, record_line, cut, header_at}
use Rattle.bp_reading.specs.Reading.{Stage, BeginsWith, found, finished, refused, next_at, first_stage}
use Rattle.bp_reading.proofs.Fits.{header_fits}
use Rattle.bp_reading.proofs.Law.{regrouped}
use Rattle.bp_reading.proofs.OneWay.{found_unfinished, found_unrefused, finished_unrefused, one_refusal}
use Rattle.bp_reader.specs.declared.fault.LogFault.TheVariants as log
use Rattle.bp_script.specs.Programs.{IsProgram, IsRefused}
use Rattle.bp_migrate.specs.declared.fault.MigrateFault.{MigrateFault}
use Rattle.bp_migrate.specs.declared.fault.MigrateFault.TheVariants as migrate
use Rattle.bp_migrate.specs.Copies as copies
use Rattle.bp_migrate.specs.Migrations as migrations
use Rattle.bp_migrate.specs.Migrations.{Migrates, HasNoHeader}
use Rattle.bp_migrate.proofs.Copied.{as_of, cut_as, finished_as, found_as, header_copied, nothing_cut, records_copied}
use Rattle.bp_replay.specs.declared.fault.ReplayFault.{ReplayFault}
use Rattle.bp_replay.specs.declared.fault.ReplayFault.TheVariants.{Log, Differs, Program, Write, Memory}
use Rattle.bp_replay.specs.Courses.{Course, Follows}
use Rattle.bp_replay.specs.Endings.{EndsAt, Parts}
use Rattle.bp_replay.specs.Replays.{Replays, HasNoRun, IsReplay}
use Rattle.bp_replay.specs.Laws.{IsTrouble, ReplaysAlike}
use Rattle.bp_replay.proofs.WholeLogs.{same_record, one_ok, read_ok}
use Rattle.bp_replay.proofs.OneEnding.{Further, Together, compared, one_ending}

-- the log is whole, or cut
abbrev EndsWell : Stage → List ℕ → Type 0
EndsWell s left = (next_at s left ≡ finished) ⊎ (next_at s left ≡ refused cut)

ends_well : (s : Stage) (left : List ℕ) (x : Result (Unit {0}) MigrateFault) → copies.IsAtItsEnd x → copies.EndsAt s left x → EndsWell s left
ends_well s left (Ok x) i e = inl e
ends_well s left (Err (migrate.Log log.Cut)) i e = inr e
ends_well s left (Err (migrate.Log log.Version)) i e = absurd i
ends_well s left (Err (migrate.Log log.Header)) i e = absurd i
ends_well s left (Err (migrate.Log (log.Line n))) i e = absurd i
ends_well s left (Err (migrate.Log log.Read)) i e = absurd i
ends_well s left (Err (migrate.Log log.Memory)) i e = absurd i
ends_well s left (Err migrate.Write) i e = absurd i
ends_well s left (Err migrate.Memory) i e = absurd i

-- then no further record stands there, and no other line is refused
none_found : (s : Stage) (left : List ℕ) (r : Record) (rest : List ℕ) → EndsWell s left → next_at s left ≡ found r rest → ⊥
none_found s left r rest (inl w) h = found_unfinished (next_at s left) r rest h w
none_found s left r rest (inr w) h = found_unrefused (next_at s left) r rest cut h w

only_cut : (s : Stage) (left : List ℕ) (r : Refusal) → EndsWell s left → next_at s left ≡ refused r → Some r ≡ Some cut
only_cut s left r (inl w) h = absurd (finished_unrefused (next_at s left) r w h)
only_cut s left r (inr w) h = one_refusal (next_at s left) r cut h w

-- the same course of a log of the second version
abbrev second : Course → Course
second c = record c { version = Second }

-- ---- why it ends

module _ (c : Course) (s : Stage) (left : List ℕ) where
  -- where the log ends, it ends in the copy
  ends_there : (x : Result Verdict ReplayFault) → EndsWell s left → EndsAt c s left x → IsTrouble x ⊎ EndsAt (second c) (as_of Second s) [] x
  ends_there (Ok v) w e = inr (finished_as Second s left e.0, e.1)
  ends_there (Err (Log log.Version)) w e = absurd (let k = only_cut s left version w e in cc)
  ends_there (Err (Log log.Header)) w e = absurd (let k = only_cut s left header w e in cc)
  ends_there (Err (Log (log.Line n))) w e = absurd (let k = only_cut s left (record_line n) w e in cc)
  ends_there (Err (Log log.Cut)) w e = inr (cut_as Second s left e)
  ends_there (Err (Log log.Read)) w e = inl tt
  ends_there (Err (Log log.Memory)) w e = inl tt
  ends_there (Err (Differs number expected other)) w e = absurd (none_found s left other e.behind w e.reads)
  ends_there (Err Program) w e = absurd e
  ends_there (Err Write) w e = inl tt
  ends_there (Err Memory) w e = inl tt

  -- where a record follows, it follows in the copy
  module _ (next : Record) (rest : List ℕ) (reads : next_at s left ≡ found next rest) (more : List Record) where
    found_there : next_at (as_of Second s) (records_text (next ∷ more)) ≡ found next (records_text more)
    found_there = ap (next_at (as_of Second s)) (regrouped next more) ∙ found_as Second s left rest next (records_text more) reads

    differs_there : (number : ℕ) (expected : Option Record) (other : Record) → Parts c s left number expected other → Parts (second c) (as_of Second s) (records_text (next ∷ more)) number expected other
    differs_there number expected other p =
        let same : next ≡ other = same_record (next_at s left) next other rest p.behind reads p.reads in
        record {
          behind = records_text more;
          reads = found_there ∙ ap (λ (r : Record). found r (records_text more)) same;
          number_is = p.number_is;
          differs = p.differs;
          expected_is = p.expected_is;
        }

    stops_there : (x : Result Verdict ReplayFault) → EndsAt c s left x → IsTrouble x ⊎ EndsAt (second c) (as_of Second s) (records_text (next ∷ more)) x
    stops_there (Ok v) e = absurd (found_unfinished (next_at s left) next rest reads e.0)
    stops_there (Err (Log log.Version)) e = absurd (found_unrefused (next_at s left) next rest version reads e)
    stops_there (Err (Log log.Header)) e = absurd (found_unrefused (next_at s left) next rest header reads e)
    stops_there (Err (Log (log.Line n))) e = absurd (found_unrefused (next_at s left) next rest (record_line n) reads e)
    stops_there (Err (Log log.Cut)) e = absurd (found_unrefused (next_at s left) next rest cut reads e)
    stops_there (Err (Log log.Read)) e = inl tt
    stops_there (Err (Log log.Memory)) e = inl tt
    stops_there (Err (Differs number expected other)) e = inr (differs_there number expected other e)
    stops_there (Err Program) e = absurd e
    stops_there (Err Write) e = inl tt
    stops_there (Err Memory) e = inl tt

-- ---- how far it comes

-- a course in a text, and why it ends there
record Comes (text : List ℕ) (c : Course) (x : Result Verdict ReplayFault) : Type 0 where
  pub stage : Stage
  pub left : List ℕ
  pub follows : Follows text c stage left
  pub ends : EndsAt c stage left x

texts_on : (rs more : List Record) → records_text (rs ++ more) ≡ records_text rs ++ records_text more
unfolding records_text
texts_on rs more = flat_map-append whole_record rs more

no_more : (rs : List Record) → records_text rs ++ [] ≡ records_text rs
no_more rs = append-nil (records_text rs)

module _ (c : Course) (rest : List ℕ) (s : Stage) (left : List ℕ) (f : Follows rest c s left) (x : Result Verdict ReplayFault) (e : EndsAt c s left x) where
  copied_on : (more : List ℕ) → BeginsWith (first_stage Second c.options.injectors) (records_text c.records ++ more) c.records (as_of Second s) more
  copied_on more = records_copied Second c.records (first_stage c.version c.options.injectors) s rest left more f.begins

  module _ (rs : List Record) (t : Stage) (end : List ℕ) (b : BeginsWith (first_stage c.version c.options.injectors) rest rs t end) (w : EndsWell t end) where
    come_there : Together s t left end c.records rs → IsTrouble x ⊎ Comes (records_text rs) (second c) x
    come_there o =
        let here : EndsWell s left = subst (λ (z : Stage). EndsWell z left) (sym o.stage) (subst (λ (xs : List ℕ). EndsWell t xs) (sym o.bytes) w) in
        let text : records_text c.records ++ [] ≡ records_text rs = no_more c.records ∙ ap records_text o.records in
        elim (ends_there c s left x here e) [
          | inl trouble ↦ inl trouble
          | inr ends ↦
              inr (record {
                stage = as_of Second s;
                left = [];
                follows = record { begins = subst (λ (xs : List ℕ). BeginsWith (first_stage Second c.options.injectors) xs c.records (as_of Second s) []) text (copied_on []); told = f.told };
                ends = ends;
              })
        ]

    come_short : Further s left c.records rs → IsTrouble x ⊎ Comes (records_text rs) (second c) x
    come_short o =
        let more = o.next ∷ o.more in
        let text : records_text c.records ++ records_text more ≡ records_text rs = sym (texts_on c.records more) ∙ ap records_text (sym o.is) in
        elim (stops_there c s left o.next o.rest o.reads o.more x e) [
          | inl trouble ↦ inl trouble
          | inr ends ↦
              inr (record {
                stage = as_of Second s;
                left = records_text more;
                follows = record { begins = subst (λ (xs : List ℕ). BeginsWith (first_stage Second c.options.injectors) xs c.records (as_of Second s) (records_text more)) text (copied_on (records_text more)); told = f.told };
                ends = ends;
              })
        ]

    come : IsTrouble x ⊎ Comes (records_text rs) (second c) x
    come = elim (compared c.records rs (first_stage c.version c.options.injectors) rest s t left end f.begins b) [
      | inl together ↦ come_there together
      | inr (inl further) ↦ come_short further
      | inr (inr further) ↦ absurd (none_found t end further.next further.rest w further.reads)
    ]

-- ---- a log with a header

module _ (bytes copied : List ℕ) (migrated : Result (Unit {0}) MigrateFault) (m : Migrates bytes (Some []) (Some copied) migrated) (i : copies.IsAtItsEnd migrated) where
  abbrev h : PlainHeader
  h = m.header

  abbrev rs : List Record
  rs = (m.behind).records

  well : EndsWell (m.behind).stage (m.behind).left
  well = ends_well (m.behind).stage (m.behind).left migrated i (m.behind).ends

  wrote : (x : Result (Unit {0}) MigrateFault) → copies.IsAtItsEnd x → migrations.Prints x (Some []) (log_text Second h rs) (Some copied) → copied ≡ log_text Second h rs
  wrote (Ok x) j p = same_Some copied (log_text Second h rs) p
  wrote (Err (migrate.Log f)) j p = same_Some copied (log_text Second h rs) p
  wrote (Err migrate.Write) j p = absurd j
  wrote (Err migrate.Memory) j p = absurd j

  head : header_at copied ≡ Ok ((Second, h), records_text rs)
  head = ap header_at (wrote migrated i (m.behind).prints) ∙ header_copied h rs (header_fits bytes m.rest m.version h m.header_is)

  -- a replay of it is one of the copy
  replayed : (before after : Option (List ℕ)) (x : Result Verdict ReplayFault) → Replays bytes before after x → IsTrouble x ⊎ Replays copied before after x
  replayed before after x r =
      let c = r.course in
      let one = one_ok (header_at bytes) ((c.version, (r.heads).header), r.rest) ((m.version, h), m.rest) (r.heads).header_is m.header_is in
      let versions : c.version ≡ m.version = ap (λ p. p.0.0) one in
      let heads : (r.heads).header ≡ h = ap (λ p. p.0.1) one in
      let rests : r.rest ≡ m.rest = ap (λ p. p.1) one in
      let o : c.options ≡ h.options = (r.heads).options ∙ ap (λ (z : PlainHeader). z.options) heads in
      let begins : BeginsWith (first_stage c.version c.options.injectors) r.rest rs (m.behind).stage (m.behind).left =
      subst (λ (v : Version). BeginsWith (first_stage v c.options.injectors) r.rest rs (m.behind).stage (m.behind).left) (sym versions)
      (subst (λ (n : ℕ). BeginsWith (first_stage m.version n) r.rest rs (m.behind).stage (m.behind).left) (sym (ap (λ z. z.injectors) o))
      (subst (λ (xs : List ℕ). BeginsWith (first_stage m.version h.options.injectors) xs rs (m.behind).stage (m.behind).left) (sym rests) (m.behind).begins)) in
      elim (come c r.rest r.stage r.left r.follows x r.ends rs (m.behind).stage (m.behind).left begins well) [
        | inl trouble ↦ inl trouble
        | inr k ↦
            inr (record {
              course = second c;
              rest = records_text rs;
              heads = record { header = h; header_is = head; program = subst (λ (z : PlainHeader). IsProgram z.program c.program) heads (r.heads).program; options = o };
              stage = k.stage;
              left = k.left;
              follows = k.follows;
              ends = k.ends;
              prints = r.prints;
            })
      ]

  -- nor does one of the other come to a run
  no_run : (x : Result Verdict ReplayFault) → HasNoRun bytes x → IsTrouble x ⊎ HasNoRun copied x
  no_run (Ok v) n = absurd n
  no_run (Err (Log log.Version)) n = absurd (read_ok (header_at bytes) ((m.version, h), m.rest) version m.header_is n)
  no_run (Err (Log log.Header)) n = absurd (read_ok (header_at bytes) ((m.version, h), m.rest) header m.header_is n)
  no_run (Err (Log (log.Line k))) n = absurd (read_ok (header_at bytes) ((m.version, h), m.rest) (record_line k) m.header_is n)
  no_run (Err (Log log.Cut)) n = absurd (read_ok (header_at bytes) ((m.version, h), m.rest) cut m.header_is n)
  no_run (Err (Log log.Read)) n = inl tt
  no_run (Err (Log log.Memory)) n = inl tt
  no_run (Err (Differs number expected other)) n = absurd n
  no_run (Err Program) n =
      let one = one_ok (header_at bytes) ((n.0, n.1), n.2) ((m.version, h), m.rest) n.3 m.header_is in
      inr (Second, h, records_text rs, head, (n.4.0, subst (λ (z : PlainHeader). IsRefused z.program n.4.0) (ap (λ p. p.0.1) one) n.4.1))
  no_run (Err Write) n = absurd n
  no_run (Err Memory) n = inl tt

  replay_of_copy : (before after : Option (List ℕ)) (x : Result Verdict ReplayFault) → IsReplay bytes before after x → IsTrouble x ⊎ IsReplay copied before after x
  replay_of_copy before after x (inl n) = elim (no_run x n.0) [ inl trouble ↦ inl trouble | inr k ↦ inr (inl (k, n.1)) ]
  replay_of_copy before after x (inr r) = elim (replayed before after x r) [ inl trouble ↦ inl trouble | inr k ↦ inr (inr k) ]

-- ---- a log that is cut within its header

module _ (bytes copied : List ℕ) (is : header_at bytes ≡ Err cut) (e : copied ≡ []) where
  none : header_at copied ≡ Err cut
  none = ap header_at e ∙ nothing_cut

  only_cut_head : (r : Refusal) → header_at bytes ≡ Err r → r ≡ cut
  only_cut_head r h = cc

  no_header_run : (x : Result Verdict ReplayFault) → HasNoRun bytes x → HasNoRun copied x
  no_header_run (Ok v) n = absurd n
  no_header_run (Err (Log log.Version)) n = absurd (let k = only_cut_head version n in cc)
  no_header_run (Err (Log log.Header)) n = absurd (let k = only_cut_head header n in cc)
  no_header_run (Err (Log (log.Line k))) n = absurd (let j = only_cut_head (record_line k) n in cc)
  no_header_run (Err (Log log.Cut)) n = none
  no_header_run (Err (Log log.Read)) n = tt
  no_header_run (Err (Log log.Memory)) n = tt
  no_header_run (Err (Differs number expected other)) n = absurd n
  no_header_run (Err Program) n = absurd (read_ok (header_at bytes) ((n.0, n.1), n.2) cut n.3 is)
  no_header_run (Err Write) n = absurd n
  no_header_run (Err Memory) n = tt

  headless : (before after : Option (List ℕ)) (x : Result Verdict ReplayFault) → IsReplay bytes before after x → IsReplay copied before after x
  headless before after x (inl n) = inl (no_header_run x n.0, n.1)
  headless before after x (inr r) = absurd (read_ok (header_at bytes) (((r.course).version, (r.heads).header), r.rest) cut (r.heads).header_is is)

cut_header : (bytes : List ℕ) (x : Result (Unit {0}) MigrateFault) → copies.IsAtItsEnd x → HasNoHeader bytes x → header_at bytes ≡ Err cut
cut_header bytes (Ok x) i n = absurd n
cut_header bytes (Err (migrate.Log log.Cut)) i n = n
cut_header bytes (Err (migrate.Log log.Version)) i n = absurd i
cut_header bytes (Err (migrate.Log log.Header)) i n = absurd i
cut_header bytes (Err (migrate.Log (log.Line k))) i n = absurd i
cut_header bytes (Err (migrate.Log log.Read)) i n = absurd i
cut_header bytes (Err (migrate.Log log.Memory)) i n = absurd i
cut_header bytes (Err migrate.Write) i n = absurd i
cut_header bytes (Err migrate.Memory) i n = absurd i

pub replays_alike : ReplaysAlike
replays_alike bytes copied migrated before after other later x y (inl n) i h k =
    let empty : copied ≡ [] = same_Some copied [] n.1 in
    one_ending copied before after other later x y (headless bytes copied (cut_header bytes migrated i n.0) empty before after x h) k
replays_alike bytes copied migrated before after other later x y (inr m) i h k = elim (replay_of_copy bytes copied migrated m i before after x h) [
  | inl trouble ↦ inl trouble
  | inr r ↦ one_ending copied before after other later x y r k
]
