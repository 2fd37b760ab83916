-- The log of a story replays to the text and the verdict of that story.
use Rattle.std.proofs.Common.{◌≡◌, inl, inr, ℕ, List, [], ◌∷◌, refl, ap, ◌∙◌, Option, Some, None, Ok, option_map}
use Rattle.std.specs.Prelude.{IsSome}
use Rattle.std.proofs.lemmas.Option.{none-some}
use Rattle.js_data.proofs.Shared.{one_answer}
use Rattle.js_program.specs.PlainProgram.{PlainProgram}
use Rattle.bp_log.specs.Logs.{log_text}
use Rattle.bp_log.specs.Options.{PlainOptions}
use Rattle.bp_log.specs.Records.{Complete, verdict_of}
use Rattle.bp_log.specs.Texts.{lines_text}
use Rattle.bp_log.specs.declared.record.Record.{Record}
use Rattle.bp_log.specs.declared.record.Record.TheVariants.{In, Bad, Eof, Sel, End}
use Rattle.bp_log.specs.declared.verdict.Verdict.{Verdict}
use Rattle.bp_run.specs.Story.{story}
use Rattle.bp_run.specs.Text.{text}
use Rattle.bp_code.specs.Code.{code_of, text_of}
use Rattle.bp_records.proofs.Programs.{stories_stand}
use Rattle.bp_replay.specs.Laws.{IsLogOf, LogsOfStoriesReplay}
use Rattle.bp_replay.proofs.WholeLogs.{replays_tell_the_run}

-- where there is a verdict the last record is the end
complete : (records : List Record) (v : Verdict) → verdict_of records ≡ Some v → Complete records
complete [] v h = absurd (none-some _ h)
complete (End w ∷ []) v h = refl
complete (End w ∷ r ∷ rs) v h = complete (r ∷ rs) v h
complete (In j e ∷ rs) v h = complete rs v h
complete (Bad j n ∷ rs) v h = complete rs v h
complete (Eof j ∷ rs) v h = complete rs v h
complete (Sel e ∷ rs) v h = complete rs v h

mapped_some : {A B : Type 0} (f : A → B) (o : Option A) (y : B) → option_map f o ≡ Some y → IsSome o
mapped_some f None y h = absurd (none-some _ h)
mapped_some f (Some x) y h = refl

told : (program : PlainProgram) (o : PlainOptions) (rs : List Record) (t : List ℕ) → text_of program o rs ≡ Some t → IsSome (story (code_of program o) o rs)
unfolding text
told program o rs t h = mapped_some (λ c. lines_text c.stand.lines) (story (code_of program o) o rs) t h

pub logs_of_stories_replay : LogsOfStoriesReplay
logs_of_stories_replay version header program records text verdict says is is_program are text_is verdict_is before after ended ends =
    let stands = stories_stand version program header.options records is.options are (complete records verdict verdict_is) (told program header.options records text text_is) in
    let log : IsLogOf version (log_text version header records) header records program text =
    record { bytes_are = refl; says_so = says; header_is = is; records_are = are; stands = stands; program_is = is_program; text_is = text_is } in
    elim (replays_tell_the_run version (log_text version header records) header records program text before after ended log ends) [
      | inl trouble ↦ inl trouble
      | inr told ↦ inr (told.ended_is ∙ ap (λ (v : Verdict). Ok v) (one_answer (verdict_of records) told.verdict verdict told.verdict_is verdict_is), told.prints)
    ]
