-- Requests for why an event was selected, and for who asks for one: the name of a log, and after it the number of a
-- selection or an event.
use Rattle.std.specs.Prelude.{ℕ, zero, suc, List, Option, Some, None, option_map, option_and_then}
use Rattle.std.specs.Option.{option_or}
use Rattle.js_json.specs.Json.{event_at}
use Rattle.bp_reading.specs.Words.{number_at, most_32}
use Rattle.bp_explain.specs.declared.subject.Subject.{Subject}
use Rattle.bp_explain.specs.declared.subject.Subject.TheVariants as subject
use Rattle.bpx_cli.specs.declared.why.Why.{Why}
use Rattle.bpx_cli.specs.StateAsked.{log_of, last_apart}

-- selections are counted from 1
abbrev pub selection_of : ℕ → Option Subject
selection_of zero = None
selection_of (suc n) = Some (subject.Selection (suc n))

-- the selection of the number that the word is
abbrev pub selection_at : List ℕ → Option Subject
selection_at word = option_and_then selection_of (number_at most_32 word)

-- what the word asks about: the selection of a number, or the event of a JSON text, which is never a number
abbrev pub subject_at : List ℕ → Option Subject
subject_at word = option_or (selection_at word) (option_map subject.Event (event_at word))

abbrev pub why_in : List (List ℕ) × List ℕ → Option Why
why_in p =
    option_and_then
    (λ log. option_map (λ s. record { log = log; subject = s }) (subject_at p.1))
    (log_of p.0)

-- of the log that the words before the last name, what the last asks about
abbrev pub why_asked : List (List ℕ) → Option Why
why_asked words = option_and_then why_in (last_apart words)
