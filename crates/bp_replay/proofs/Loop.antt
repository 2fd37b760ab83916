-- A log that is followed record by record.
use Rattle.std.proofs.Common.{◌≡◌, ℕ, ◌+◌, true, false, List, [], ◌∷◌, ◌++◌, length, refl, ap, sym, ◌∙◌, subst, append-nil, arith, length-append, Option, Some, None, Ok, Err, IsSomeAnd}
use Rattle.std.specs.Prelude.{IfSome, Result}
use Rattle.js_meaning.specs.Bodies.{Origin}
use Rattle.bp_log.specs.Records.{is_complete, verdict_of}
use Rattle.bp_log.specs.Texts.{lines_text}
use Rattle.bp_log.specs.declared.version.Version.{Version}
use Rattle.bp_log.specs.declared.record.Record.{Record}
use Rattle.bp_log.specs.declared.record.Record.TheVariants.{In, Bad, Eof, Sel, End}
use Rattle.bp_log.specs.declared.trace.Line.{Line}
use Rattle.bp_log.specs.declared.trace.Line.TheVariants as trace
use Rattle.bp_log.specs.declared.verdict.Verdict.{Verdict}
use Rattle.bp_reading.specs.Reading.{Stage, BeginsWith, BreaksOff, found, finished, next_at, first_stage, after}
use Rattle.bp_reading.proofs.Fronts.{begins_on, begins_front, none_going, none_over}
use Rattle.bp_reader.specs.Fed.{Between}
use Rattle.bp_reader.specs.Reads.{IsStageAfter, Standing, MeansNext, Tells as ReaderTells}
use Rattle.bp_reader.specs.declared.fault.LogFault.{LogFault}
use Rattle.bp_reader.specs.declared.fault.LogFault.TheVariants as log
use Rattle.bp_run.specs.Configuration.{Configuration}
use Rattle.bp_arbiter.specs.Arbiters.{PlainArbiter, options_in}
use Rattle.bp_told.specs.Pages.{Shows, ShowsFront}
use Rattle.bp_log.specs.declared.lines.PrintError.{PrintError}
use Rattle.bp_log.specs.declared.lines.PrintError.TheVariants as print
use Rattle.bp_log.proofs.Complete.{verdict_by_last}
use Rattle.bp_told.proofs.Pieces.{lines_text-append, lines_none, shows_page, shows_on, front_on}
use Rattle.bp_replay.specs.declared.fault.ReplayFault.{ReplayFault}
use Rattle.bp_replay.specs.declared.fault.ReplayFault.TheVariants as fault
use Rattle.bp_replay.specs.Faults.{fault_of_print, fault_of_log}
use Rattle.bp_replay.specs.Courses.{Course, code_in, led, IsTold, text_in}
use Rattle.bp_replay.specs.Endings.{Parts, EndsAt, IsAtItsEnd}
use Rattle.bp_replay.specs.Following.{first_of, IsOnWay, onto, GoesOn, Makes, Followed, Shown, Finishes, Tells, TellsTaken}
use Rattle.bp_replay.proofs.Tales.{one_more, end_told}

-- ---- what was read

-- what a source tells of the bytes was read so far
abbrev pub Reached : Course → Option (List ℕ) → Stage → Option (List ℕ) → Type 0
Reached c rest s left = IfSome rest (λ bytes. IsSomeAnd left (λ more. BeginsWith (first_stage c.version c.options.injectors) bytes c.records s more))

told_on : (c : Course) (bytes left : List ℕ) (s t : Stage) (after_left : Option (List ℕ)) (r : Record) (d : Configuration Origin) → BeginsWith (first_stage c.version c.options.injectors) bytes c.records s left →
    IsSomeAnd after_left (λ more. next_at s left ≡ found r more) → t ≡ after s r → IsSomeAnd after_left (λ more. BeginsWith (first_stage c.version c.options.injectors) bytes (c.records ++ r ∷ []) t more)
told_on c bytes left s t None r d b h e = absurd h
told_on c bytes left s t (Some more) r d b h e =
    subst (λ (x : Stage). BeginsWith (first_stage c.version c.options.injectors) bytes (c.records ++ r ∷ []) x more) (sym e) (begins_on (first_stage c.version c.options.injectors) bytes c.records s left r more b h)

pub reached_on : (c : Course) (rest left after_left : Option (List ℕ)) (s t : Stage) (r : Record) (d : Configuration Origin) → Reached c rest s left →
    IfSome left (λ bytes. ReaderTells (Ok (Some r)) (next_at s bytes) after_left) → t ≡ after s r → Reached (onto c r d) rest t after_left
reached_on c None left after_left s t r d w h e = tt
reached_on c (Some bytes) None after_left s t r d w h e = absurd w
reached_on c (Some bytes) (Some left) after_left s t r d w h e = told_on c bytes left s t after_left r d w h e

-- ---- what was shown

-- all lines of the course were put on the page
pub shows_course : (c : Course) (taken more : List Line) (a b d : Option (List ℕ)) (page next : List ℕ) → c.told.stand.lines ≡ taken ++ more → Shows a (lines_text taken) page b → Shows b (page ++ lines_text more) next d →
    Shows a (text_in c) next d
shows_course c taken more a b d page next e s t =
    shows_on a b d (lines_text taken) page (lines_text more) (page ++ lines_text more) next (text_in c) refl (ap (λ (ls : List Line). lines_text ls) e ∙ lines_text-append taken more) s t

-- a front of them
pub front_course : (c : Course) (taken more : List Line) (a b d : Option (List ℕ)) (page next : List ℕ) → c.told.stand.lines ≡ taken ++ more → Shows a (lines_text taken) page b → ShowsFront b (page ++ lines_text more) next d →
    ShowsFront a (text_in c) next d
front_course c taken more a b d page next e s t =
    front_on a b d (lines_text taken) page (lines_text more) [] (page ++ lines_text more) next (text_in c) refl
    (ap (λ (ls : List Line). lines_text ls) e ∙ lines_text-append taken more ∙ ap (λ (x : List ℕ). lines_text taken ++ x) (sym (append-nil (lines_text more)))) s t

pub front_whole : (a b : Option (List ℕ)) (text page : List ℕ) → Shows a text page b → ShowsFront a text page b
front_whole a b text page s = record { shown = text; rest = []; is_text = sym (append-nil text); shows = s }

-- the reader refused what stands next, and all of the text was put on the page before
pub shown_log : (f : LogFault) (before : Option (List ℕ)) (text page : List ℕ) (after : Option (List ℕ)) → Shows before text page after → Shown (Err (fault_of_log f)) before text page after
shown_log log.Version before text page after s = s
shown_log log.Header before text page after s = s
shown_log (log.Line n) before text page after s = s
shown_log log.Cut before text page after s = s
shown_log log.Read before text page after s = s
shown_log log.Memory before text page after s = front_whole before after text page s

-- ---- how it ends

module _ (first c : Course) (program : c.program ≡ first.program) (options : c.options ≡ first.options) (version : c.version ≡ first.version) (told : IsTold c) where
  module _ (rest : List ℕ) (before : Option (List ℕ)) (page : List ℕ) (later : Option (List ℕ)) where
    ends_by : (s : Stage) (left : Option (List ℕ)) (result : Result Verdict ReplayFault) → IsSomeAnd left (λ more. BeginsWith (first_stage c.version c.options.injectors) rest c.records s more) →
        ((more : List ℕ) → left ≡ Some more → EndsAt c s more result) → Shown result before (text_in c) page later → Tells first rest before page later result
    ends_by s None result w ends shown = absurd w
    ends_by s (Some more) result w ends shown =
        record {
          course = c;
          program = program;
          options = options;
          version = version;
          stage = s;
          left = more;
          follows = record { begins = w; told = told };
          ends = ends more refl;
          shown = shown;
        }

  -- the output failed, or memory ran out
  pub tells_unwritten : (rest : Option (List ℕ)) (before : Option (List ℕ)) (page : List ℕ) (later : Option (List ℕ)) (s : Stage) (left : Option (List ℕ)) (f : PrintError) → Reached c rest s left →
      ShowsFront before (text_in c) page later → IfSome rest (λ bytes. Tells first bytes before page later (Err (fault_of_print f)))
  tells_unwritten None before page later s left f w shown = tt
  tells_unwritten (Some bytes) before page later s left print.Write w shown = ends_by bytes before page later s left (Err fault.Write) w (λ more e. tt) shown
  tells_unwritten (Some bytes) before page later s left print.Memory w shown = ends_by bytes before page later s left (Err fault.Memory) w (λ more e. tt) shown

  pub tells_memory : (rest : Option (List ℕ)) (before : Option (List ℕ)) (page : List ℕ) (later : Option (List ℕ)) (s : Stage) (left : Option (List ℕ)) → Reached c rest s left →
      Shows before (text_in c) page later → IfSome rest (λ bytes. Tells first bytes before page later (Err fault.Memory))
  tells_memory None before page later s left w shown = tt
  tells_memory (Some bytes) before page later s left w shown = ends_by bytes before page later s left (Err fault.Memory) w (λ more e. tt) (front_whole before later (text_in c) page shown)

  means_at : (left : Option (List ℕ)) (s : Stage) (f : LogFault) (more : List ℕ) → IfSome left (λ bytes. MeansNext f (next_at s bytes)) → left ≡ Some more → MeansNext f (next_at s more)
  means_at None s f more h e = absurd (cc)
  means_at (Some bytes) s f more h e = subst (λ (xs : List ℕ). MeansNext f (next_at s xs)) (let k : bytes ≡ more = cc in k) h

  -- the reader refused what stands next
  pub tells_refused : (rest : Option (List ℕ)) (before : Option (List ℕ)) (page : List ℕ) (later : Option (List ℕ)) (s : Stage) (left : Option (List ℕ)) (f : LogFault) → Reached c rest s left →
      IfSome left (λ bytes. MeansNext f (next_at s bytes)) → Shows before (text_in c) page later → IfSome rest (λ bytes. Tells first bytes before page later (Err (fault_of_log f)))
  tells_refused None before page later s left f w h shown = tt
  tells_refused (Some bytes) before page later s left log.Version w h shown = ends_by bytes before page later s left (Err (fault.Log log.Version)) w (λ more e. means_at left s log.Version more h e) shown
  tells_refused (Some bytes) before page later s left log.Header w h shown = ends_by bytes before page later s left (Err (fault.Log log.Header)) w (λ more e. means_at left s log.Header more h e) shown
  tells_refused (Some bytes) before page later s left (log.Line n) w h shown = ends_by bytes before page later s left (Err (fault.Log (log.Line n))) w (λ more e. means_at left s (log.Line n) more h e) shown
  tells_refused (Some bytes) before page later s left log.Cut w h shown = ends_by bytes before page later s left (Err (fault.Log log.Cut)) w (λ more e. means_at left s log.Cut more h e) shown
  tells_refused (Some bytes) before page later s left log.Read w h shown = ends_by bytes before page later s left (Err (fault.Log log.Read)) w (λ more e. tt) shown
  tells_refused (Some bytes) before page later s left log.Memory w h shown = ends_by bytes before page later s left (Err fault.Memory) w (λ more e. tt) (front_whole before later (text_in c) page shown)

  found_at : (left after_left : Option (List ℕ)) (s : Stage) (r : Record) (more : List ℕ) → IfSome left (λ bytes. ReaderTells (Ok (Some r)) (next_at s bytes) after_left) → left ≡ Some more → (behind : List ℕ) × (next_at s more ≡ found r behind)
  found_at None after_left s r more h e = absurd (cc)
  found_at (Some bytes) None s r more h e = absurd h
  found_at (Some bytes) (Some behind) s r more h e = (behind, subst (λ (xs : List ℕ). next_at s xs ≡ found r behind) (let k : bytes ≡ more = cc in k) h)

  -- the record is not what the run makes
  pub tells_parted : (rest : Option (List ℕ)) (before : Option (List ℕ)) (page : List ℕ) (later : Option (List ℕ)) (s : Stage) (left after_left : Option (List ℕ)) (r : Record) (n : ℕ) (a : PlainArbiter) (e : ReplayFault) → Reached c rest s left →
      IfSome left (λ bytes. ReaderTells (Ok (Some r)) (next_at s bytes) after_left) → n ≡ length c.records + 1 → Followed c r n a (Err e) → Shows before (text_in c) page later → IfSome rest (λ bytes. Tells first bytes before page later (Err e))
  tells_parted None before page later s left after_left r n a e w h k f shown = tt
  tells_parted (Some bytes) before page later s left after_left r n a (fault.Log x) w h k f shown = absurd f
  tells_parted (Some bytes) before page later s left after_left r n a (fault.Differs number expected other) w h k f shown =
      ends_by bytes before page later s left (Err (fault.Differs number expected other)) w
      (λ more e.
      let g = found_at left after_left s r more h e in
      subst (λ (x : Record). Parts c s more number expected x) (sym f.1) (record { behind = g.0; reads = g.1; number_is = f.0 ∙ k; differs = f.2; expected_is = f.3 })) shown
  tells_parted (Some bytes) before page later s left after_left r n a fault.Program w h k f shown = absurd f
  tells_parted (Some bytes) before page later s left after_left r n a fault.Write w h k f shown = absurd f
  tells_parted (Some bytes) before page later s left after_left r n a fault.Memory w h k f shown = ends_by bytes before page later s left (Err fault.Memory) w (λ more e. tt) (front_whole before later (text_in c) page shown)

  finishes_at : (v : Verdict) (s : Stage) (left : Option (List ℕ)) (result : Result Verdict ReplayFault) (more : List ℕ) → verdict_of c.records ≡ Some v → IfSome left (λ bytes. Finishes v (next_at s bytes) result) → left ≡ Some more → EndsAt c s more result
  finishes_at v s None result more g h e = absurd (cc)
  finishes_at v s (Some bytes) (Ok u) more g h e = (subst (λ (xs : List ℕ). next_at s xs ≡ finished) (let k : bytes ≡ more = cc in k) h.1, g ∙ ap (λ (x : Verdict). Some x) (sym h.0))
  finishes_at v s (Some bytes) (Err (fault.Log f)) more g h e = subst (λ (xs : List ℕ). MeansNext f (next_at s xs)) (let k : bytes ≡ more = cc in k) h
  finishes_at v s (Some bytes) (Err (fault.Differs number expected other)) more g h e = absurd h
  finishes_at v s (Some bytes) (Err fault.Program) more g h e = h
  finishes_at v s (Some bytes) (Err fault.Write) more g h e = tt
  finishes_at v s (Some bytes) (Err fault.Memory) more g h e = tt

  -- the verdict was said
  pub tells_finished : (rest : Option (List ℕ)) (before : Option (List ℕ)) (page : List ℕ) (later : Option (List ℕ)) (s : Stage) (left : Option (List ℕ)) (v : Verdict) (result : Result Verdict ReplayFault) → Reached c rest s left →
      verdict_of c.records ≡ Some v → IfSome left (λ bytes. Finishes v (next_at s bytes) result) → Shown result before (text_in c) page later → IfSome rest (λ bytes. Tells first bytes before page later result)
  tells_finished None before page later s left v result w g h shown = tt
  tells_finished (Some bytes) before page later s left v result w g h shown = ends_by bytes before page later s left result w (λ more e. finishes_at v s left result more g h e) shown

  -- what was taken before a read failed, as a log that ends there
  module _ (before : Option (List ℕ)) (page : List ℕ) (later : Option (List ℕ)) (s : Stage) where
    taken_at : (rest left after_left : Option (List ℕ)) (ended : Result Verdict ReplayFault) → IsAtItsEnd ended → Shown ended before (text_in c) page later → ((part : List ℕ) → next_at s part ≡ next_at s [] → EndsAt c s part ended) →
        Reached c rest s left → Between left after_left (BreaksOff s) → Between rest after_left (λ bytes more. TellsTaken first bytes more before page later)
    taken_at None left after_left ended at shown ends w b = tt
    taken_at (Some bytes) None after_left ended at shown ends w b = absurd w
    taken_at (Some bytes) (Some l) None ended at shown ends w b = absurd b
    taken_at (Some bytes) (Some l) (Some more) ended at shown ends w b =
        let f = begins_front c.records (first_stage c.version c.options.injectors) bytes s l b.0 more w b.1 in
        record {
          taken = f.0;
          is_front = f.1;
          ended = ended;
          at_end = at;
          tells = record {
            course = c;
            program = program;
            options = options;
            version = version;
            stage = s;
            left = b.0;
            follows = record { begins = f.2; told = told };
            ends = ends b.0 b.2;
            shown = shown;
          };
        }

    pub taken_cut : (rest left after_left : Option (List ℕ)) → s.ended ≡ false → Shows before (text_in c) page later → Reached c rest s left → Between left after_left (BreaksOff s) →
        Between rest after_left (λ bytes more. TellsTaken first bytes more before page later)
    taken_cut rest left after_left going shown w b = taken_at rest left after_left (Err (fault.Log log.Cut)) tt shown (λ part e. e ∙ none_going s going) w b

    pub taken_whole : (rest left after_left : Option (List ℕ)) (v : Verdict) → s.ended ≡ true → verdict_of c.records ≡ Some v → Shows before (text_in c) page later → Reached c rest s left → Between left after_left (BreaksOff s) →
        Between rest after_left (λ bytes more. TellsTaken first bytes more before page later)
    taken_whole rest left after_left v over said shown w b = taken_at rest left after_left (Ok v) tt shown (λ part e. (e ∙ none_over s over, said)) w b

-- ---- the end

one_end : (r : Record) (v : Verdict) → verdict_of (r ∷ []) ≡ Some v → r ≡ End v
one_end (In j e) v h = absurd (cc)
one_end (Bad j n) v h = absurd (cc)
one_end (Eof j) v h = absurd (cc)
one_end (Sel e) v h = absurd (cc)
one_end (End u) v h = let e : u ≡ v = cc in ap (λ (x : Verdict). End x) e

goes_records : (c : Course) (r : Record) (d : Configuration Origin) (a : PlainArbiter) → GoesOn c r d a → a.records ≡ c.records ++ r ∷ []
goes_records c (In j e) d a g = g.records
goes_records c (Bad j n) d a g = g.records
goes_records c (Eof j) d a g = g.records
goes_records c (Sel e) d a g = g.records
goes_records c (End v) d a g = g

-- where there is a verdict now, the record said it
pub said_end : (c : Course) (r : Record) (a : PlainArbiter) (v : Verdict) → Makes c r a → verdict_of a.records ≡ Some v → r ≡ End v
said_end c r a v m h = one_end r v (sym (verdict_by_last c.records r) ∙ ap (λ (rs : List Record). verdict_of rs) (sym (goes_records c r m.0 a m.2)) ∙ h)

goes_way : (c : Course) (r : Record) (d : Configuration Origin) (a : PlainArbiter) → GoesOn c r d a → verdict_of a.records ≡ None → IsOnWay (onto c r d) c.told.stand.lines a
goes_way c (In j e) d a g h = g
goes_way c (Bad j n) d a g h = g
goes_way c (Eof j) d a g h = g
goes_way c (Sel e) d a g h = g
goes_way c (End v) d a g h = absurd (let k : None ≡ Some v = sym h ∙ ap (λ (rs : List Record). verdict_of rs) g ∙ verdict_by_last c.records (End v) in cc)

-- and else the run goes on
pub makes_way : (c : Course) (r : Record) (a : PlainArbiter) (m : Makes c r a) → verdict_of a.records ≡ None → IsOnWay (onto c r m.0) c.told.stand.lines a
makes_way c r a m h = goes_way c r m.0 a m.2 h

-- a stage after a record that is not an end has not ended
pub ended_after : (c : Course) (r : Record) (a : PlainArbiter) (s : Stage) → Makes c r a → verdict_of a.records ≡ None → (after s r).ended ≡ s.ended
ended_after c (In j e) a s m h = refl
ended_after c (Bad j n) a s m h = refl
ended_after c (Eof j) a s m h = refl
ended_after c (Sel e) a s m h = refl
ended_after c (End v) a s m h = absurd (let k : None ≡ Some v = sym h ∙ ap (λ (rs : List Record). verdict_of rs) m.2 ∙ verdict_by_last c.records (End v) in cc)

pub lines_after : (s : Stage) (r : Record) → (after s r).lines ≡ s.lines + 1
lines_after s (In j e) = refl
lines_after s (Bad j n) = refl
lines_after s (Eof j) = refl
lines_after s (Sel e) = refl
lines_after s (End v) = refl

-- the story with its end, and the text with the line of the verdict
pub told_end : (c : Course) (v : Verdict) (d : Configuration Origin) → IsTold c → is_complete c.records ≡ false → led c (End v) ≡ Some d → IsTold (onto c (End v) d) × (text_in (onto c (End v) d) ≡ text_in c ++ lines_text (trace.Verdict v ∷ []))
told_end c v d t g h = (
  one_more (code_in c) c.options c.records c.told (End v) t g ∙ h,
  ap (λ (x : Configuration Origin). lines_text x.stand.lines) (end_told (code_in c) c.options c.told d v h).1 ∙ lines_text-append c.told.stand.lines (trace.Verdict v ∷ []),
)

-- what a record that was not followed answers is neither of the reader nor of the output
followed_log : (c : Course) (r : Record) (n : ℕ) (a : PlainArbiter) (e : ReplayFault) (f : LogFault) → Followed c r n a (Err e) → e ≡ fault.Log f → ⊥
followed_log c r n a (fault.Log x) f h k = h
followed_log c r n a (fault.Differs number expected other) f h k = cc
followed_log c r n a fault.Program f h k = h
followed_log c r n a fault.Write f h k = h
followed_log c r n a fault.Memory f h k = cc

followed_write : (c : Course) (r : Record) (n : ℕ) (a : PlainArbiter) (e : ReplayFault) → Followed c r n a (Err e) → e ≡ fault.Write → ⊥
followed_write c r n a (fault.Log x) h k = h
followed_write c r n a (fault.Differs number expected other) h k = cc
followed_write c r n a fault.Program h k = h
followed_write c r n a fault.Write h k = h
followed_write c r n a fault.Memory h k = cc

same_error : (r : Result Verdict ReplayFault) (a b : ReplayFault) → r ≡ Err a → r ≡ Err b → a ≡ b
same_error r a b h k = cc

pub never_log : {result : Result Verdict ReplayFault} {d e : ReplayFault} (c : Course) (r : Record) (n : ℕ) (a : PlainArbiter) (f : LogFault) → Followed c r n a (Err e) → result ≡ Err d → d ≡ e → result ≡ Err (fault.Log f) → ⊥
never_log {result} {d} {e} c r n a f h k l m = followed_log c r n a e f h (sym l ∙ same_error result d (fault.Log f) k m)

pub never_write : {result : Result Verdict ReplayFault} {d e : ReplayFault} (c : Course) (r : Record) (n : ℕ) (a : PlainArbiter) → Followed c r n a (Err e) → result ≡ Err d → d ≡ e → result ≡ Err fault.Write → ⊥
never_write {result} {d} {e} c r n a h k l m = followed_write c r n a e h (sym l ∙ same_error result d fault.Write k m)

-- one line more was shown
pub shown_on : (result : Result Verdict ReplayFault) (a b later : Option (List ℕ)) (text page more next whole : List ℕ) → whole ≡ text ++ more → Shows a text page b → Shown result b (page ++ more) next later → Shown result a whole next later
shown_on (Ok v) a b later text page more next whole e s t = shows_on a b later text page more (page ++ more) next whole refl e s t
shown_on (Err (fault.Log f)) a b later text page more next whole e s t = shows_on a b later text page more (page ++ more) next whole refl e s t
shown_on (Err (fault.Differs n expected other)) a b later text page more next whole e s t = shows_on a b later text page more (page ++ more) next whole refl e s t
shown_on (Err fault.Program) a b later text page more next whole e s t = shows_on a b later text page more (page ++ more) next whole refl e s t
shown_on (Err fault.Write) a b later text page more next whole e s t =
    front_on a b later text page more [] (page ++ more) next whole refl (e ∙ ap (λ (x : List ℕ). text ++ x) (sym (append-nil more))) s t
shown_on (Err fault.Memory) a b later text page more next whole e s t =
    front_on a b later text page more [] (page ++ more) next whole refl (e ∙ ap (λ (x : List ℕ). text ++ x) (sym (append-nil more))) s t

-- ---- the loop

-- so far the log was followed, and what of its lines was taken is on the page or written
pub record Along (first : Course) (rest before : Option (List ℕ)) (reader : Standing) (a : PlainArbiter) (number : ℕ) (page : List ℕ) (now : Option (List ℕ)) : Type 0 where
  pub course : Course
  pub taken : List Line
  pub way : IsOnWay course taken a
  pub program : course.program ≡ first.program
  pub options : course.options ≡ first.options
  pub version : course.version ≡ first.version
  pub fresh : reader.refusal ≡ None
  pub going : reader.stage.ended ≡ false
  pub count : number ≡ reader.stage.lines
  pub number_is : number ≡ length course.records
  pub reached : Reached course rest reader.stage reader.left
  pub shows : Shows before (lines_text taken) page now

reached_first : (c : Course) (rest : Option (List ℕ)) (s : Stage) → c.records ≡ [] → s ≡ first_stage c.version c.options.injectors → Reached c rest s rest
reached_first c None s e h = tt
reached_first c (Some bytes) s e h = subst (λ (rs : List Record). BeginsWith (first_stage c.version c.options.injectors) bytes rs s bytes) (sym e) (h, refl)

pub along_first : (v : Version) (a : PlainArbiter) (reader : Standing) (page : List ℕ) (before : Option (List ℕ)) → IsOnWay (first_of v a) [] a → reader.refusal ≡ None → reader.stage ≡ first_stage v (options_in a).injectors → page ≡ [] →
    Along (first_of v a) reader.left before reader a 0 page before
along_first v a reader page before w f s e =
    record {
      course = first_of v a;
      taken = [];
      way = w;
      program = refl;
      options = refl;
      version = refl;
      fresh = f;
      going = ap (λ (x : Stage). x.ended) s;
      count = sym (ap (λ (x : Stage). x.lines) s);
      number_is = refl;
      reached = reached_first (first_of v a) reader.left reader.stage refl s;
      shows = subst (λ (t : List ℕ). Shows before t page before) (e ∙ sym lines_none) (shows_page before page);
    }

-- one more record was followed
pub along_on : (first : Course) (rest before : Option (List ℕ)) (old new : Standing) (a b : PlainArbiter) (number next : ℕ) (page now_page : List ℕ) (now later : Option (List ℕ)) (r : Record) (w : Along first rest before old a number page now) →
    Shows now (page ++ lines_text (w.way).more) now_page later → new.refusal ≡ None → IfSome old.left (λ bytes. ReaderTells (Ok (Some r)) (next_at old.stage bytes) new.left) → new.stage ≡ after old.stage r →
    Makes w.course r b → verdict_of b.records ≡ None → next ≡ number + 1 → Along first rest before new b next now_page later
along_on first rest before old new a b number next page now_page now later r w s fresh tells stage m none n =
    let c = w.course in
    let count = w.count in
    let is = w.number_is in
    let more = length-append c.records (r ∷ []) in
    let lines = ap (λ (x : Stage). x.lines) stage ∙ lines_after old.stage r in
    record {
      course = onto c r m.0;
      taken = c.told.stand.lines;
      way = makes_way c r b m none;
      program = w.program;
      options = w.options;
      version = w.version;
      fresh = fresh;
      going = ap (λ (x : Stage). x.ended) stage ∙ ended_after c r b old.stage m none ∙ w.going;
      count = omega (arith, n, count, lines);
      number_is = omega (arith, n, is, more);
      reached = reached_on c rest old.left new.left old.stage new.stage r m.0 w.reached tells stage;
      shows = shows_course c w.taken (w.way).more before now later page now_page (w.way).lines w.shows s;
    }

-- an error is told as what it is
pub tells_error : (first : Course) (rest before : Option (List ℕ)) (page : List ℕ) (later : Option (List ℕ)) {result : Result Verdict ReplayFault} {e f : ReplayFault} → result ≡ Err e → e ≡ f →
    IfSome rest (λ bytes. Tells first bytes before page later (Err f)) → IfSome rest (λ bytes. Tells first bytes before page later result)
tells_error first rest before page later h k t =
    subst (λ (r : Result Verdict ReplayFault). IfSome rest (λ bytes. Tells first bytes before page later r)) (sym (h ∙ ap (λ (x : ReplayFault). Err x) k)) t

-- the reader told a record
pub found_told : (left after_left : Option (List ℕ)) (s : Stage) {o : Option Record} {r : Record} → o ≡ Some r → IfSome left (λ bytes. ReaderTells (Ok o) (next_at s bytes) after_left) → IfSome left (λ bytes. ReaderTells (Ok (Some r)) (next_at s bytes) after_left)
found_told left after_left s e h = subst (λ (x : Option Record). IfSome left (λ bytes. ReaderTells (Ok x) (next_at s bytes) after_left)) e h

pub stage_told : (s : Stage) {t : Stage} {o : Option Record} {r : Record} → o ≡ Some r → IsStageAfter s (Ok o) t → t ≡ after s r
stage_told s {t} e h = subst (λ (x : Option Record). IsStageAfter s (Ok x) t) e h

-- ---- from a moment of the loop

module _ {first : Course} {rest before : Option (List ℕ)} {reader : Standing} {a : PlainArbiter} {number : ℕ} {page : List ℕ} {now : Option (List ℕ)} (w : Along first rest before reader a number page now) where
  -- all lines so far were put on the page
  along_shown : {next : List ℕ} {later : Option (List ℕ)} → Shows now (page ++ lines_text (w.way).more) next later → Shows before (text_in w.course) next later
  along_shown s = shows_course w.course w.taken (w.way).more before now _ page _ (w.way).lines w.shows s

  -- the output failed there, or memory ran out
  pub along_unwritten : {next : List ℕ} {later : Option (List ℕ)} (f : PrintError) → ShowsFront now (page ++ lines_text (w.way).more) next later → IfSome rest (λ bytes. Tells first bytes before next later (Err (fault_of_print f)))
  along_unwritten f s =
      tells_unwritten first w.course w.program w.options w.version ((w.way).runs).told rest before _ _ reader.stage reader.left f w.reached
      (front_course w.course w.taken (w.way).more before now _ page _ (w.way).lines w.shows s)

  pub along_memory : {next : List ℕ} {later : Option (List ℕ)} → Shows now (page ++ lines_text (w.way).more) next later → IfSome rest (λ bytes. Tells first bytes before next later (Err fault.Memory))
  along_memory s = tells_memory first w.course w.program w.options w.version ((w.way).runs).told rest before _ _ reader.stage reader.left w.reached (along_shown s)

  -- the reader refused what stands next
  pub along_refused : {next : List ℕ} {later : Option (List ℕ)} (f : LogFault) → IfSome reader.left (λ bytes. MeansNext f (next_at reader.stage bytes)) → Shows now (page ++ lines_text (w.way).more) next later →
      IfSome rest (λ bytes. Tells first bytes before next later (Err (fault_of_log f)))
  along_refused f h s = tells_refused first w.course w.program w.options w.version ((w.way).runs).told rest before _ _ reader.stage reader.left f w.reached h (along_shown s)

  -- a read failed
  pub along_cut : {next : List ℕ} {later : Option (List ℕ)} (after_left : Option (List ℕ)) → Shows now (page ++ lines_text (w.way).more) next later → Between reader.left after_left (BreaksOff reader.stage) →
      Between rest after_left (λ bytes more. TellsTaken first bytes more before next later)
  along_cut after_left s b = taken_cut first w.course w.program w.options w.version ((w.way).runs).told before _ _ reader.stage rest reader.left after_left w.going (along_shown s) w.reached b

  -- the record is not what the run makes
  pub along_parted : {next : List ℕ} {later : Option (List ℕ)} (after_left : Option (List ℕ)) (r : Record) (n : ℕ) (b : PlainArbiter) (e : ReplayFault) → IfSome reader.left (λ bytes. ReaderTells (Ok (Some r)) (next_at reader.stage bytes) after_left) →
      n ≡ number + 1 → Followed w.course r n b (Err e) → Shows now (page ++ lines_text (w.way).more) next later → IfSome rest (λ bytes. Tells first bytes before next later (Err e))
  along_parted after_left r n b e h k f s =
      tells_parted first w.course w.program w.options w.version ((w.way).runs).told rest before _ _ reader.stage reader.left after_left r n b e w.reached h
      (k ∙ ap (λ (m : ℕ). m + 1) w.number_is) f (along_shown s)

  -- the record said the verdict: the story with its end
  pub record Said (v : Verdict) (new : Standing) : Type 0 where
    pub moment : Configuration Origin
    pub told : IsTold (onto w.course (End v) moment)
    pub text : text_in (onto w.course (End v) moment) ≡ text_in w.course ++ lines_text (trace.Verdict v ∷ [])
    pub reached : Reached (onto w.course (End v) moment) rest new.stage new.left
    pub ended : new.stage.ended ≡ true

  end_said : (b : PlainArbiter) (new : Standing) (v : Verdict) → Makes w.course (End v) b → IfSome reader.left (λ bytes. ReaderTells (Ok (Some (End v))) (next_at reader.stage bytes) new.left) → new.stage ≡ after reader.stage (End v) → Said v new
  end_said b new v m tells stage =
      let t = told_end w.course v m.0 ((w.way).runs).told ((w.way).runs).going m.1 in
      record {
        moment = m.0;
        told = t.0;
        text = t.1;
        reached = reached_on w.course rest reader.left new.left reader.stage new.stage (End v) m.0 w.reached tells stage;
        ended = ap (λ (x : Stage). x.ended) stage;
      }

  pub along_said : (r : Record) (b : PlainArbiter) (new : Standing) (v : Verdict) → Makes w.course r b → verdict_of b.records ≡ Some v → IfSome reader.left (λ bytes. ReaderTells (Ok (Some r)) (next_at reader.stage bytes) new.left) →
      new.stage ≡ after reader.stage r → Said v new
  along_said r b new v m said tells stage =
      let e = said_end w.course r b v m said in
      end_said b new v (subst (λ (x : Record). Makes w.course x b) e m) (subst (λ (x : Record). IfSome reader.left (λ bytes. ReaderTells (Ok (Some x)) (next_at reader.stage bytes) new.left)) e tells)
      (stage ∙ ap (λ (x : Record). after reader.stage x) e)

  -- and then the log ended, or did not
  pub along_finished : {next : List ℕ} {mid : Option (List ℕ)} (last : List ℕ) (later : Option (List ℕ)) {v : Verdict} {new : Standing} (result : Result Verdict ReplayFault) → Said v new → IfSome new.left (λ bytes. Finishes v (next_at new.stage bytes) result) →
      Shows now (page ++ lines_text (w.way).more) next mid → Shown result mid (next ++ lines_text (trace.Verdict v ∷ [])) last later → IfSome rest (λ bytes. Tells first bytes before last later result)
  along_finished {next} {mid} last later {v} {new} result s h shows shown =
      tells_finished first (onto w.course (End v) s.moment) w.program w.options w.version s.told rest before last later new.stage new.left v result s.reached (verdict_by_last w.course.records (End v)) h
      (shown_on result before mid later (text_in w.course) next (lines_text (trace.Verdict v ∷ [])) last (text_in (onto w.course (End v) s.moment)) s.text (along_shown shows) shown)

  -- or a read failed
  pub along_whole : {next last : List ℕ} {mid later : Option (List ℕ)} (after_left : Option (List ℕ)) {v : Verdict} {new : Standing} → Said v new → Shows now (page ++ lines_text (w.way).more) next mid →
      Shown (Err (fault.Log log.Read)) mid (next ++ lines_text (trace.Verdict v ∷ [])) last later → Between new.left after_left (BreaksOff new.stage) → Between rest after_left (λ bytes more. TellsTaken first bytes more before last later)
  along_whole {next} {last} {mid} {later} after_left {v} {new} s shows shown b =
      taken_whole first (onto w.course (End v) s.moment) w.program w.options w.version s.told before last later new.stage rest new.left after_left v s.ended (verdict_by_last w.course.records (End v))
      (shown_on (Err (fault.Log log.Read)) before mid later (text_in w.course) next (lines_text (trace.Verdict v ∷ [])) last (text_in (onto w.course (End v) s.moment)) s.text (along_shown shows) shown) s.reached b
