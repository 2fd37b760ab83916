-- Where the live b-threads stand, in words.
use Rattle.std.specs.Prelude.{ℕ, ℤ, pos, List, [], ◌∷◌, ◌++◌, Option, Some, None, decimal, codes, if◌then◌else◌}
use Rattle.std.specs.List.{filter_map}
use Rattle.std.specs.Fmt.{signed_decimal}
use Rattle.std.specs.Ordering.{int_eq}
use Rattle.js_data.specs.Event.{PlainEvent}
use Rattle.js_data.specs.JsonText.{quoted_text, event_text}
use Rattle.bp_run.specs.Bodies.{Code, Statement, Outcome}
use Rattle.bp_run.specs.Bodies.Outcome.{Stopped}
use Rattle.bp_run.specs.Configuration.{Stand, Thread}
use Rattle.bp_explain.specs.Words.{Spelling, Words}
use Rattle.bp_explain.specs.Listed.{listed}

-- a live b-thread at a `bp.sync`: its name, the line, and what it states there
pub record Standing (Set : Type 0) : Type 0 where
  pub name : List ℕ
  pub line : ℕ
  pub statement : Statement Set

abbrev pub standing_at : {Set : Type 0} → List ℕ → Option ℕ → Outcome Set → Option (Standing Set)
standing_at name (Some line) (Stopped s) =
    Some (record { name = name; line = line; statement = s })
standing_at name _ _ = None

-- after the events that it received
abbrev pub standing : {Origin Set : Type 0} → Code Origin Set → Words Origin Set → Thread Origin →
    Option (Standing Set)
standing code w t =
    if t.ended then None
    else standing_at t.name (w.line t.origin t.replies) (code.after t.origin t.replies).outcome

-- in registration order
abbrev pub all_standing : {Origin Set : Type 0} → Code Origin Set → Words Origin Set →
    Stand Origin → List (Standing Set)
all_standing code w s = filter_map (standing code w) s.threads

-- a line of its own for what stands at a `bp.sync` under this key
abbrev pub key_text : List ℕ → List ℕ → List ℕ
key_text key words = codes "  " ++ (key ++ (codes " " ++ (words ++ codes "\n")))

abbrev pub request_text : List PlainEvent → List ℕ
request_text [] = []
request_text (e ∷ es) = key_text (codes "request") (listed event_text (e ∷ es))

abbrev pub set_text : {Set : Type 0} → Spelling Set → List ℕ → Set → List ℕ
set_text w key s = if w.is_absent s then [] else key_text key (w.words s)

abbrev pub priority_text : ℤ → List ℕ
priority_text n = if int_eq n (pos 0) then [] else key_text (codes "priority") (signed_decimal n)

abbrev pub statement_text : {Set : Type 0} → Spelling Set → Statement Set → List ℕ
statement_text w s =
    request_text s.request
    ++ (priority_text s.priority
    ++ (set_text w (codes "waitFor") s.wait_for
    ++ (set_text w (codes "block") s.block ++ set_text w (codes "interrupt") s.interrupt)))

-- its name and line, and a line for each key that is stated; a priority of 0 is as none
unfoldable pub standing_text : {Set : Type 0} → Spelling Set → Standing Set → List ℕ
standing_text w s =
    codes "b-thread " ++ (quoted_text s.name
    ++ (codes " at line " ++ (decimal s.line ++ (codes "\n" ++ statement_text w s.statement))))
