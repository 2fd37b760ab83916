-- The forms of `bp` and `Math`: a table, and the modes in which each has its effect.
use Rattle.std.specs.Prelude.{ℕ, Bool, true, false, not, List, [], ◌∷◌, Option, Some, None, ◌&&◌, nat_eq, codes, if◌then◌else◌}
use Rattle.std.specs.List.{list_any}
use Rattle.std.specs.Str.{bytes_eq}
use Rattle.js_program.specs.declared.builtin.Builtin.{Builtin}
use Rattle.js_program.specs.declared.builtin.FormRow.{FormRow}
use Rattle.js_program.specs.declared.builtin.Modes.{Modes}
use Rattle.js_program.specs.declared.builtin.Mode.{Mode}
use Rattle.js_program.specs.declared.builtin.Mode.TheVariants.{Top, Thread, Handler, Predicate}

-- a row: the word after the dot, the object before it, whether the form is called, and the modes in which it
-- has its effect
pub record Row : Type 0 where
  pub builtin : Builtin
  pub object : List ℕ
  pub word : List ℕ
  pub called : Bool
  pub modes : List Mode

abbrev pub row : Builtin → List ℕ → List ℕ → Bool → List Mode → Row
row builtin object word called modes = record {
  builtin = builtin;
  object = object;
  word = word;
  called = called;
  modes = modes;
}

abbrev pub everywhere : List Mode
everywhere = Top ∷ Thread ∷ Handler ∷ Predicate ∷ []

-- everywhere but in a predicate
abbrev pub acting : List Mode
acting = Top ∷ Thread ∷ Handler ∷ []

abbrev pub in_threads : List Mode
in_threads = Thread ∷ []

abbrev pub builtins : List Row
builtins =
    row Builtin.RegisterBThread (codes "bp") (codes "registerBThread") true acting
    ∷ row Builtin.Sync (codes "bp") (codes "sync") true in_threads
    ∷ row Builtin.Event (codes "bp") (codes "Event") true everywhere
    ∷ row Builtin.EventSet (codes "bp") (codes "EventSet") true everywhere
    ∷ row Builtin.All (codes "bp") (codes "all") false everywhere
    ∷ row Builtin.Nothing (codes "bp") (codes "none") false everywhere
    ∷ row Builtin.Assert (codes "bp") (codes "ASSERT") true acting
    ∷ row Builtin.EnqueueExternalEvent (codes "bp") (codes "enqueueExternalEvent") true acting
    ∷ row Builtin.SetInterruptHandler (codes "bp") (codes "setInterruptHandler") true in_threads
    ∷ row Builtin.LogInfo (codes "bp.log") (codes "info") true acting
    ∷ row Builtin.Floor (codes "Math") (codes "floor") true everywhere
    ∷ []

abbrev pub same : Bool → Bool → Bool
same true b = b
same false true = false
same false false = true

-- the row with this word after the dot: no two rows have one word
abbrev pub row_named : List Row → List ℕ → Option Row
row_named [] word = None
row_named (r ∷ rs) word = if bytes_eq r.word word then Some r else row_named rs word

-- whether a row has this object before the dot, and is called or not
abbrev pub is_met : Row → List ℕ → Bool → Bool
is_met r object called = bytes_eq object r.object && same called r.called

abbrev pub met : Option Row → List ℕ → Bool → Option Builtin
met None object called = None
met (Some r) object called = if is_met r object called then Some r.builtin else None

-- the form of this object and word, called or not
abbrev pub builtin_of : List ℕ → List ℕ → Bool → Option Builtin
builtin_of object word called = met (row_named builtins word) object called

-- the forms, numbered from 0 as the enum lists them
abbrev pub form_number : Builtin → ℕ
form_number Builtin.RegisterBThread = 0
form_number Builtin.Sync = 1
form_number Builtin.Event = 2
form_number Builtin.EventSet = 3
form_number Builtin.All = 4
form_number Builtin.Nothing = 5
form_number Builtin.Assert = 6
form_number Builtin.EnqueueExternalEvent = 7
form_number Builtin.SetInterruptHandler = 8
form_number Builtin.LogInfo = 9
form_number Builtin.Floor = 10

-- the row of a form
abbrev row_in : List Row → ℕ → Option Row
row_in [] number = None
row_in (r ∷ rs) number = if nat_eq (form_number r.builtin) number then Some r else row_in rs number

abbrev pub row_of : Builtin → Option Row
row_of form = row_in builtins (form_number form)

abbrev modes_in : Option Row → List Mode
modes_in None = []
modes_in (Some r) = r.modes

-- the modes in which a form has its effect
abbrev pub modes_of : Builtin → List Mode
modes_of form = modes_in (row_of form)

abbrev pub same_mode : Mode → Mode → Bool
same_mode Top Top = true
same_mode Thread Thread = true
same_mode Handler Handler = true
same_mode Predicate Predicate = true
same_mode _ _ = false

abbrev pub has_effect_in : Mode → Builtin → Bool
has_effect_in mode form = list_any (same_mode mode) (modes_of form)

-- no row has the word
abbrev pub is_new_word : List ℕ → List Row → Bool
is_new_word word [] = true
is_new_word word (r ∷ rs) = not (bytes_eq r.word word) && is_new_word word rs

-- no two rows have one word
abbrev pub have_distinct_words : List Row → Bool
have_distinct_words [] = true
have_distinct_words (r ∷ rs) = is_new_word r.word rs && have_distinct_words rs

-- the modes that a row in memory names
abbrev pub modes_in_row : Modes → List Mode
modes_in_row Modes.Everywhere = everywhere
modes_in_row Modes.Acting = acting
modes_in_row Modes.InThreads = in_threads

-- what a row in memory says
abbrev pub form_row : FormRow → Row
form_row r = row r.form r.object.now r.word.now r.called (modes_in_row r.modes)
