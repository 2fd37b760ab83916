-- A replay of the log of a run tells the run.
use Rattle.std.proofs.Common.{◌≡◌, ◌⊎◌, inl, inr, ℕ, List, [], ◌∷◌, ◌++◌, refl, ap, sym, ◌∙◌, subst, append-nil, Option, Some, None, Ok, Err}
use Rattle.std.specs.Prelude.{Result, option_and_then}
use Rattle.js_data.proofs.Shared.{one_answer, mapped}
use Rattle.js_program.specs.PlainProgram.{PlainProgram}
use Rattle.js_meaning.specs.Bodies.{Origin}
use Rattle.bp_base.specs.Pieces.{Appends}
use Rattle.bp_log.specs.Header.{PlainHeader}
use Rattle.bp_log.specs.Options.{PlainOptions}
use Rattle.bp_log.specs.Logs.{records_text}
use Rattle.bp_log.specs.Records.{verdict_of}
use Rattle.bp_log.specs.Texts.{lines_text}
use Rattle.bp_log.specs.declared.version.Version.{Version}
use Rattle.bp_log.specs.declared.record.Record.{Record}
use Rattle.bp_log.specs.declared.record.Record.TheVariants.{In, Bad, Eof, Sel, End}
use Rattle.bp_log.specs.declared.verdict.Verdict.{Verdict}
use Rattle.bp_reading.specs.Heads.{Refusal, header_at}
use Rattle.bp_reading.specs.Reading.{Stage, Next as Reads, found, finished, refused, next_at, first_stage, after, Says, BeginsWith}
use Rattle.bp_reading.proofs.Whole.{logs_are_read}
use Rattle.bp_reader.specs.declared.fault.LogFault.TheVariants as log
use Rattle.bp_run.specs.Bodies.{Code}
use Rattle.bp_run.specs.Configuration.{Configuration}
use Rattle.bp_run.specs.Settling.{initial}
use Rattle.bp_run.specs.Story.{after_record, story_from, story}
use Rattle.bp_run.specs.Text.{text}
use Rattle.bp_run.proofs.Stories.{story_first}
use Rattle.bp_code.specs.Code.{sealed_code_of as code_of, text_of}
use Rattle.bp_script.specs.Programs.{IsProgram, IsRefused}
use Rattle.bp_script.proofs.Once.{never, one_program}
use Rattle.bp_replay.specs.declared.fault.ReplayFault.{ReplayFault}
use Rattle.bp_replay.specs.declared.fault.ReplayFault.TheVariants.{Log, Differs, Program, Write, Memory}
use Rattle.bp_replay.specs.Courses.{Course, code_in, led, text_in}
use Rattle.bp_replay.specs.Endings.{Parts, EndsAt}
use Rattle.bp_replay.specs.Replays.{Prints, Replays, HasNoRun, IsReplay}
use Rattle.bp_replay.specs.Laws.{IsTrouble, IsLogOf, TellsAll, ReplaysTellTheRun}

-- ---- what is read

-- the record of what stands next
abbrev record_next : Reads → Option Record
record_next (found r rest) = Some r
record_next finished = None
record_next (refused f) = None

abbrev rest_next : Reads → List ℕ
rest_next (found r rest) = rest
rest_next finished = []
rest_next (refused f) = []

abbrev refused_next : Reads → Option Refusal
refused_next (found r rest) = None
refused_next finished = None
refused_next (refused g) = Some g

pub same_record : (x : Reads) (q r : Record) (a b : List ℕ) → x ≡ found q a → x ≡ found r b → q ≡ r
same_record x q r a b h k = let e : Some q ≡ Some r = ap record_next (sym h ∙ k) in cc

pub same_rest : (x : Reads) (q r : Record) (a b : List ℕ) → x ≡ found q a → x ≡ found r b → a ≡ b
same_rest x q r a b h k = ap rest_next (sym h ∙ k)

-- what bytes begin with is the front of what they say
record Split (s : Stage) (left : List ℕ) (rs ss : List Record) : Type 0 where
  pub more : List Record
  pub is : ss ≡ rs ++ more
  pub says : Says s left more None

split : (s : Stage) (bytes : List ℕ) (rs ss : List Record) (t : Stage) (left : List ℕ) → BeginsWith s bytes rs t left → Says s bytes ss None → Split t left rs ss
split s bytes [] ss t left b h =
    record { more = ss; is = refl; says = subst (λ (x : Stage). Says x left ss None) (sym b.0) (subst (λ (xs : List ℕ). Says s xs ss None) (sym b.1) h) }
split s bytes (r ∷ rs) [] t left b h = absurd (let e : Some r ≡ None = ap record_next (sym b.1 ∙ h) in cc)
split s bytes (r ∷ rs) (q ∷ ss) t left b h =
    let e : q ≡ r = same_record (next_at s bytes) q r h.0 b.0 h.1 b.1 in
    let f : h.0 ≡ b.0 = same_rest (next_at s bytes) q r h.0 b.0 h.1 b.1 in
    let says : Says (after s r) b.0 ss None = subst (λ (x : Record). Says (after s x) b.0 ss None) e (subst (λ (xs : List ℕ). Says (after s q) xs ss None) f h.2) in
    let m = split (after s r) b.0 rs ss t left b.2 says in
    record { more = m.more; is = ap (λ (x : Record). x ∷ ss) e ∙ ap (λ (xs : List Record). r ∷ xs) m.is; says = m.says }

-- ---- the story goes on

goes_at : {O S : Type 0} (l : Code O S) (o : PlainOptions) (rs : List Record) (x : Option (Configuration O)) (m c : Configuration O) → x ≡ Some m → option_and_then (story_from l o rs) x ≡ Some c → story_from l o rs m ≡ Some c
goes_at l o rs x m c h k = sym (ap (λ (y : Option (Configuration _)). option_and_then (story_from l o rs) y) h) ∙ k

-- where a story goes on after c, the next record leads on from c
pub next_leads : {O S : Type 0} (l : Code O S) (o : PlainOptions) (rs qs : List Record) (q : Record) (b c d : Configuration O) → story_from l o rs b ≡ Some c → story_from l o (rs ++ q ∷ qs) b ≡ Some d →
    (m : Configuration O) × (after_record l o c q ≡ Some m)
unfolding story_from
next_leads l o [] qs q b c d h k = let f = story_first l o q qs b d k in let e : b ≡ c = cc in (f.0, subst (λ (x : Configuration _). after_record l o x q ≡ Some f.0) e f.1)
next_leads l o (In j e ∷ rs) qs q b c d h k = let f = story_first l o (In j e) (rs ++ q ∷ qs) b d k in next_leads l o rs qs q f.0 c d (goes_at l o rs (after_record l o b (In j e)) f.0 c f.1 h) f.2
next_leads l o (Bad j n ∷ rs) qs q b c d h k = let f = story_first l o (Bad j n) (rs ++ q ∷ qs) b d k in next_leads l o rs qs q f.0 c d (goes_at l o rs (after_record l o b (Bad j n)) f.0 c f.1 h) f.2
next_leads l o (Eof j ∷ rs) qs q b c d h k = let f = story_first l o (Eof j) (rs ++ q ∷ qs) b d k in next_leads l o rs qs q f.0 c d (goes_at l o rs (after_record l o b (Eof j)) f.0 c f.1 h) f.2
next_leads l o (Sel e ∷ rs) qs q b c d h k = let f = story_first l o (Sel e) (rs ++ q ∷ qs) b d k in next_leads l o rs qs q f.0 c d (goes_at l o rs (after_record l o b (Sel e)) f.0 c f.1 h) f.2
next_leads l o (End v ∷ []) qs q b c d h k = absurd (cc)
next_leads l o (End v ∷ r ∷ rs) qs q b c d h k = absurd (cc)

text_told : (program : PlainProgram) (o : PlainOptions) (rs : List Record) (t : List ℕ) → text_of program o rs ≡ Some t → (c : Configuration Origin) × (story (code_of program o) o rs ≡ Some c) × (lines_text c.stand.lines ≡ t)
unfolding text code_of
text_told program o rs t h = mapped (λ c. lines_text c.stand.lines) (story (code_of program o) o rs) t h

-- ---- how it ends

module _ (c : Course) (rs : List Record) (told : Configuration Origin) (text : List ℕ) (before later : Option (List ℕ)) (s : Stage) (left : List ℕ) (told_is : story (code_in c) c.options c.records ≡ Some c.told)
    (whole : story (code_in c) c.options rs ≡ Some told) (text_is : lines_text told.stand.lines ≡ text) where
  all_told : (more : List Record) → rs ≡ c.records ++ more → Says s left more None → (v : Verdict) → next_at s left ≡ finished → verdict_of c.records ≡ Some v → Appends before (text_in c) later → TellsAll rs text before later (Ok v)
  all_told [] e says v f g p =
      let same : rs ≡ c.records = e ∙ append-nil c.records in
      let here : told ≡ c.told = one_answer (story (code_in c) c.options rs) told c.told whole (ap (λ (xs : List Record). story (code_in c) c.options xs) same ∙ told_is) in
      record {
        verdict = v;
        ended_is = refl;
        verdict_is = ap (λ (xs : List Record). verdict_of xs) same ∙ g;
        prints = subst (λ (t : List ℕ). Appends before t later) (ap (λ (x : Configuration Origin). lines_text x.stand.lines) (sym here) ∙ text_is) p;
      }
  all_told (q ∷ qs) e says v f g p = absurd (let k : Some q ≡ None = ap record_next (sym says.1 ∙ f) in cc)

  none_refused : (more : List Record) → Says s left more None → (f : Refusal) → next_at s left ≡ refused f → ⊥
  none_refused [] says f h = absurd (let k : refused_next finished ≡ refused_next (refused f) = ap refused_next (sym says ∙ h) in cc)
  none_refused (q ∷ qs) says f h = absurd (let k : Some q ≡ None = ap record_next (sym says.1 ∙ h) in cc)

  leads_at : (qs : List Record) (q : Record) → story (code_in c) c.options (c.records ++ q ∷ qs) ≡ Some told → (m : Configuration Origin) × (led c q ≡ Some m)
  unfolding story
  leads_at qs q h = next_leads (code_in c) c.options c.records qs q (initial (code_in c) c.options.injectors) c.told told told_is h

  none_parts : (more : List Record) → rs ≡ c.records ++ more → Says s left more None → (n : ℕ) (expected : Option Record) (other : Record) → Parts c s left n expected other → ⊥
  none_parts [] e says n expected other p = absurd (let k : None ≡ Some other = ap record_next (sym says ∙ p.reads) in cc)
  none_parts (q ∷ qs) e says n expected other p =
      let same : q ≡ other = same_record (next_at s left) q other says.0 p.behind says.1 p.reads in
      let m = leads_at qs q (ap (λ (xs : List Record). story (code_in c) c.options xs) (sym e) ∙ whole) in
      let k : None ≡ Some m.0 = sym (ap (λ (x : Record). led c x) same ∙ p.differs) ∙ m.1 in cc

  ends_whole : (more : List Record) → rs ≡ c.records ++ more → Says s left more None → (ended : Result Verdict ReplayFault) → EndsAt c s left ended → Prints ended before (text_in c) later → IsTrouble ended ⊎ TellsAll rs text before later ended
  ends_whole more e says (Ok v) h p = inr (all_told more e says v h.0 h.1 p)
  ends_whole more e says (Err (Log log.Version)) h p = absurd (none_refused more says _ h)
  ends_whole more e says (Err (Log log.Header)) h p = absurd (none_refused more says _ h)
  ends_whole more e says (Err (Log (log.Line n))) h p = absurd (none_refused more says _ h)
  ends_whole more e says (Err (Log log.Cut)) h p = absurd (none_refused more says _ h)
  ends_whole more e says (Err (Log log.Read)) h p = inl tt
  ends_whole more e says (Err (Log log.Memory)) h p = inl tt
  ends_whole more e says (Err (Differs n expected other)) h p = absurd (none_parts more e says n expected other h)
  ends_whole more e says (Err Program) h p = absurd h
  ends_whole more e says (Err Write) h p = inl tt
  ends_whole more e says (Err Memory) h p = inl tt

pub one_ok : {A E : Type 0} (x : Result A E) (a b : A) → x ≡ Ok a → x ≡ Ok b → a ≡ b
one_ok x a b h k = cc

pub read_ok : {A E : Type 0} (x : Result A E) (a : A) (f : E) → x ≡ Ok a → x ≡ Err f → ⊥
read_ok x a f h k = cc

module _ (version : Version) (bytes : List ℕ) (header : PlainHeader) (records : List Record) (program : PlainProgram) (text : List ℕ) (before later : Option (List ℕ)) (i : IsLogOf version bytes header records program text) where
  head : header_at bytes ≡ Ok ((version, header), records_text records)
  head = ap header_at i.bytes_are ∙ (logs_are_read version header records i.header_is i.records_are i.says_so i.stands).0

  says : Says (first_stage version header.options.injectors) (records_text records) records None
  says = (logs_are_read version header records i.header_is i.records_are i.says_so i.stands).1

  no_run : (ended : Result Verdict ReplayFault) → HasNoRun bytes ended → IsTrouble ended
  no_run (Ok v) h = h
  no_run (Err (Log log.Version)) h = absurd (read_ok (header_at bytes) _ _ head h)
  no_run (Err (Log log.Header)) h = absurd (read_ok (header_at bytes) _ _ head h)
  no_run (Err (Log (log.Line n))) h = absurd (read_ok (header_at bytes) _ _ head h)
  no_run (Err (Log log.Cut)) h = absurd (read_ok (header_at bytes) _ _ head h)
  no_run (Err (Log log.Read)) h = tt
  no_run (Err (Log log.Memory)) h = tt
  no_run (Err (Differs n expected other)) h = h
  no_run (Err Program) h =
      let same : h.1 ≡ header = ap (λ p. p.0.1) (one_ok (header_at bytes) ((h.0, h.1), h.2) ((version, header), records_text records) h.3 head) in
      let refused : IsRefused header.program h.4.0 = subst (λ (x : PlainHeader). IsRefused x.program h.4.0) same h.4.1 in
      absurd (never header.program (i.program_is).tree h.4.0 (i.program_is).accepted refused)
  no_run (Err Write) h = tt
  no_run (Err Memory) h = tt

  the_run : (ended : Result Verdict ReplayFault) → Replays bytes before later ended → IsTrouble ended ⊎ TellsAll records text before later ended
  the_run ended r =
      let c = r.course in
      let pair = one_ok (header_at bytes) ((c.version, (r.heads).header), r.rest) ((version, header), records_text records) (r.heads).header_is head in
      let same : (r.heads).header ≡ header = ap (λ p. p.0.1) pair in
      let versions : c.version ≡ version = ap (λ p. p.0.0) pair in
      let rest : r.rest ≡ records_text records = ap (λ p. p.1) pair in
      let options : c.options ≡ header.options = (r.heads).options ∙ ap (λ (x : PlainHeader). x.options) same in
      let p : c.program ≡ program = one_program header.program c.program program (subst (λ (x : PlainHeader). IsProgram x.program c.program) same (r.heads).program) i.program_is in
      let t = text_told program header.options records text i.text_is in
      let whole : story (code_in c) c.options records ≡ Some t.0 = (λ j. story (code_of (p j) (options j)) (options j) records) ∙ t.1 in
      let begins : BeginsWith (first_stage version header.options.injectors) (records_text records) c.records r.stage r.left =
      subst (λ (v : Version). BeginsWith (first_stage v header.options.injectors) (records_text records) c.records r.stage r.left) versions
      (subst (λ (o : PlainOptions). BeginsWith (first_stage c.version o.injectors) (records_text records) c.records r.stage r.left) options
      (subst (λ (xs : List ℕ). BeginsWith (first_stage c.version c.options.injectors) xs c.records r.stage r.left) rest (r.follows).begins)) in
      let m = split (first_stage version header.options.injectors) (records_text records) c.records records r.stage r.left begins says in
      ends_whole c records t.0 text before later r.stage r.left (r.follows).told whole t.2 m.more m.is m.says ended r.ends r.prints

  tells : (ended : Result Verdict ReplayFault) → IsReplay bytes before later ended → IsTrouble ended ⊎ TellsAll records text before later ended
  tells ended (inl h) = inl (no_run ended h.0)
  tells ended (inr r) = the_run ended r

pub replays_tell_the_run : ReplaysTellTheRun
replays_tell_the_run version bytes header records program text before later ended i h = tells version bytes header records program text before later i ended h
