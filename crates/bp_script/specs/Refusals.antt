-- The words for a refusal.
use Rattle.std.specs.Prelude.{ℕ, List, ◌++◌, codes}
use Rattle.std.specs.Fmt.{decimal}
use Rattle.bp_script.specs.declared.refusal.Kind.{Kind}
use Rattle.bp_script.specs.declared.refusal.Rule.{Rule}
use Rattle.bp_script.specs.declared.refusal.Refusal.{Refusal}

abbrev pub kind_name : Kind → List ℕ
kind_name Kind.Character = codes "character"
kind_name Kind.OpenText = codes "open text"
kind_name Kind.Escape = codes "escape"
kind_name Kind.NumberRange = codes "number range"
kind_name Kind.Unsupported = codes "unsupported"
kind_name Kind.Utf8 = codes "utf-8"
kind_name Kind.NoTree = codes "no tree"
kind_name Kind.LoopWord = codes "loop word"
kind_name Kind.ReturnPlace = codes "return place"
kind_name Kind.Slots = codes "slots"

abbrev pub rule_name : Rule → List ℕ
rule_name Rule.Unknown = codes "unknown"
rule_name Rule.Twice = codes "twice"
rule_name Rule.Const = codes "const"
rule_name Rule.Capture = codes "capture"

abbrev pub line_note : ℕ → List ℕ → List ℕ
line_note line kind = codes "refused line " ++ (decimal line ++ (codes ": " ++ kind))

abbrev pub named_note : ℕ → List ℕ → List ℕ → List ℕ
named_note line rule name =
    codes "refused line " ++ (decimal line ++ (codes ": " ++ (rule ++ (codes " " ++ name))))

abbrev pub note_of : Refusal → List ℕ
note_of Refusal.TooLong = codes "refused: too long"
note_of (Refusal.OnLine line kind) = line_note line (kind_name kind)
note_of (Refusal.OfName line rule name) = named_note line (rule_name rule) name
