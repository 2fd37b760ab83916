-- How measuring the large program ends.
use Rattle.std.proofs.Common.{◌≡◌, ℕ, List, [], length, refl, sym, ap, subst, ◌∙◌, arith, inl, Option, Some, None}
use Rattle.std.specs.Prelude.{IsSome, IsSomeAnd}
use mathlib.Core.List.{IsPrefix}
use Rattle.bp_base.specs.Memory.{Store, Supply}
use Rattle.bp_base.specs.Pieces.{Appends}
use Rattle.js_program.specs.PlainProgram.{PlainProgram}
use Rattle.bp_log.specs.Options.{PlainOptions, default_options}
use Rattle.bp_log.specs.Records.{verdict_of}
use Rattle.bp_log.specs.declared.record.Record.{Record}
use Rattle.bp_log.specs.declared.verdict.Verdict.{Verdict}
use Rattle.bp_run.specs.Text.{text}
use Rattle.bp_run.proofs.Stories.{alone_is}
use Rattle.bp_code.specs.Code.{code_of, text_of, records_alone, text_alone}
use Rattle.bp_script.specs.Programs.{IsProgram}
use Rattle.bp_large.specs.Large.{large_program}
use Rattle.bp_session.specs.Reports.{EndsAs}
use Rattle.bp_session.specs.declared.report.Ending.{Ending}
use Rattle.bp_cli.specs.declared.conclusion.Conclusion.{Conclusion}
use Rattle.bp_cli.specs.declared.conclusion.Conclusion.TheVariants.{NoMemory}
use Rattle.bp_cli.specs.inner.Outcomes.{ended_of}
use Rattle.bp_cli.specs.Large.{large_line, line_of, IsOneRun, Measures}
use Rattle.bp_cli.specs.inner.Measured.{IsPrintedWhole}
use Rattle.bp_cli.specs.Outside.{Outside}
use Rattle.bp_cli.specs.Texts.{LineEnds}
use Rattle.bp_cli.proofs.Runs.{begins_run, is_run}

-- the one run has a text
pub one_text : (program : PlainProgram) → IsSome (text_alone program default_options)
unfolding text
one_text program = let a = alone_is (code_of program default_options) default_options refl in rw a.1 refl

some_is : (w text : List ℕ) → Some w ≡ Some text → w ≡ text
some_is w text e = cc

-- what was written onto nothing is the text
written_all : (t : Option (List ℕ)) (start now : Option (List ℕ)) (w : List ℕ) → start ≡ Some [] → now ≡ Some w → IsSomeAnd t (λ x. Appends start x now) → t ≡ Some w
written_all None start now w s n h = absurd h
written_all (Some x) start now w s n h =
    let told : now ≡ Some x = subst (λ (o : Option (List ℕ)). Appends o x now) s h in
    ap (λ (y : List ℕ). Some y) (some_is x w (sym told ∙ n))

-- how a session ended whose output and whose log, if there is one, are in memory
abbrev EndsAside : PlainOptions → PlainProgram → List Record → List ℕ → Store → Store → Option Store → Option Store → List Supply → List Supply → Ending → Type 0
EndsAside o program records head start now old new sources back end =
    EndsAs (λ (s : Store). Some s.written) (λ (s : Store). s.faults) (λ (s : Store). s.faults) (code_of program o) o head start now (record { printed = Some start.written; log = old }) (record { printed = Some now.written; log = new })
    (λ (s : Supply). Some s.left) (λ (s : Supply). s.faults) sources back records end

module _ (o : PlainOptions) (is : o ≡ default_options) (program : PlainProgram) (records : List Record) where
  none : o.injectors ≡ 0
  none = ap (λ (x : PlainOptions). x.injectors) is

  one : (v : Verdict) → IsSome (text_of program o records) → verdict_of records ≡ Some v → records ≡ records_alone program default_options
  one v s e = subst (λ (x : PlainOptions). records ≡ records_alone program x) is (is_run program o records v none s e)

  -- the records are the first of the one run
  pub aside_begins : IsSome (text_of program o records) → IsPrefix records (records_alone program default_options)
  aside_begins s = subst (λ (x : PlainOptions). IsPrefix records (records_alone program x)) is (begins_run program o records none s)

  module _ (head : List ℕ) (start now : Store) (old new : Option Store) (sources back : List Supply) where
    -- a session that came to a verdict is the one run, and its whole text was written
    pub aside_one : (end : Ending) → length sources ≡ 0 → IsSome (text_of program o records) → EndsAside o program records head start now old new sources back end → IsOneRun program records (ended_of end)
    aside_one (Ending.Verdict v) none s e = (e.0, one v s e.0)
    aside_one (Ending.Read j) none s e = let t = e.2.there in absurd (omega (arith, t, none))
    aside_one Ending.Write none s e = tt
    aside_one Ending.LogWrite none s e = tt
    aside_one Ending.Memory none s e = tt

    pub aside_text : (end : Ending) → IsSome (text_of program o records) → start.written ≡ [] → EndsAside o program records head start now old new sources back end → IsPrintedWhole program now.written (ended_of end)
    aside_text (Ending.Verdict v) s b e =
        ap (λ (rs : List Record). text_of program default_options rs) (sym (one v s e.0))
        ∙ subst (λ (x : PlainOptions). text_of program x records ≡ Some now.written) is (written_all (text_of program o records) (Some start.written) (Some now.written) now.written (ap (λ (w : List ℕ). Some w) b) refl e.1.prints)
    aside_text (Ending.Read j) s b e = tt
    aside_text Ending.Write s b e = tt
    aside_text Ending.LogWrite s b e = tt
    aside_text Ending.Memory s b e = tt

some_unchanged : (o : Option (List ℕ)) (P : List ℕ → Type 0) → IsSome o → ((t : List ℕ) → P t) → IsSomeAnd o P
some_unchanged None P s f = absurd (cc)
some_unchanged (Some t) P s f = f t

-- memory ran out before anything was printed
pub measured_none : (n : ℕ) (program : PlainProgram) (records : List Record) (same : Outside) → IsProgram (large_program n) program → IsPrefix records (records_alone program default_options) → Measures n records same same NoMemory
measured_none n program records same p b = record {
  program = program;
  is_program = p;
  begins = b;
  one_run = tt;
  prints = some_unchanged (text_alone program default_options) (λ t. LineEnds (line_of n program t) same same NoMemory) (one_text program) (λ t. inl refl);
  holds = refl;
}

-- the line of the one run was printed as that ends
pub measured : (n : ℕ) (program : PlainProgram) (records : List Record) (content line : List ℕ) (before after : Outside) (c : Conclusion) → IsProgram (large_program n) program → IsPrefix records (records_alone program default_options) →
    IsOneRun program records c → records ≡ records_alone program default_options → text_alone program default_options ≡ Some content → line ≡ large_line n records content → LineEnds line before after c → after.holds ≡ before.holds → Measures n records before after c
measured n program records content line before after c p b o r t l e h = record {
  program = program;
  is_program = p;
  begins = b;
  one_run = o;
  prints = subst (λ (x : Option (List ℕ)). IsSomeAnd x (λ y. LineEnds (line_of n program y) before after c)) (sym t)
      (subst (λ (x : List ℕ). LineEnds x before after c) (l ∙ ap (λ (rs : List Record). large_line n rs content) r) e);
  holds = h;
}
