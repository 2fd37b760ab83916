-- The text of a run.
use Rattle.std.specs.Prelude.{ℕ, List, Option, option_map}
use Rattle.bp_log.specs.Options.{PlainOptions}
use Rattle.bp_log.specs.Texts.{lines_text}
use Rattle.bp_log.specs.declared.record.Record.{Record}
use Rattle.bp_run.specs.Bodies.{Code}
use Rattle.bp_run.specs.Story.{story}

-- what is printed for the records, where they are a story
unfoldable pub text : {Origin Set : Type 0} → Code Origin Set → PlainOptions → List Record →
    Option (List ℕ)
text code o records = option_map (λ c. lines_text c.stand.lines) (story code o records)
