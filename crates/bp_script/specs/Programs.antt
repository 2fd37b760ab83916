-- What the bytes of a program are.
use Rattle.std.specs.Prelude.{ℕ, ◌≡◌, ◌≤◌, ◌<◌, ◌⊎◌, false, List, length, Some, None}
use Rattle.std.specs.Str.{IsUtf8, IsValidUpTo}
use Rattle.js_lexer.specs.declared.limits.TheConstants.{MOST_BYTES}
use Rattle.js_lexer.specs.declared.token.Token.{Token}
use Rattle.js_lexer.specs.declared.token.Flaw.{Flaw}
use Rattle.js_lexer.specs.declared.token.Flaw.TheVariants as flaw
use Rattle.js_lexer.specs.Gaps.{line_of}
use Rattle.js_lexer.specs.Cut.{Cut, Refused}
use Rattle.js_tree.specs.declared.limits.TheConstants.{MOST_NESTING}
use Rattle.js_tree.specs.declared.tree.Name.{Name}
use Rattle.js_tree.specs.Plain.{PlainItem}
use Rattle.js_grammar.specs.Trees.{IsTree, HasNoTree, IsLineIn}
use Rattle.js_grammar.specs.Unsupported.{first_unsupported}
use Rattle.js_names.specs.declared.mention.NameFault.{NameFault}
use Rattle.js_names.specs.Rules.{name_fault}
use Rattle.js_program.specs.PlainProgram.{PlainProgram}
use Rattle.js_resolver.specs.Resolved.{resolved}
use Rattle.bp_script.specs.declared.refusal.Kind.{Kind}
use Rattle.bp_script.specs.declared.refusal.Rule.{Rule}
use Rattle.bp_script.specs.declared.refusal.Refusal.{Refusal}

-- they are text, cut into these tokens
pub record AreCut (bytes : List ℕ) (tokens : List Token) : Type 0 where
  pub short : length bytes ≤ MOST_BYTES
  pub utf8 : IsUtf8 bytes
  pub cut : Cut bytes tokens

-- none of the tokens is refused, and they spell this tree, which is not nested too deep
pub record AreSpelled (bytes : List ℕ) (tree : List PlainItem) : Type 0 where
  pub tokens : List Token
  pub cut : AreCut bytes tokens
  pub supported : first_unsupported false tokens ≡ None
  pub spelled : IsTree MOST_NESTING tokens tree

-- no rule of names is broken in it: the program is accepted
pub record AreAccepted (bytes : List ℕ) (tree : List PlainItem) : Type 0 where
  pub spelled : AreSpelled bytes tree
  pub named : name_fault tree ≡ None

-- and the tree is this program
pub record IsProgram (bytes : List ℕ) (program : PlainProgram) : Type 0 where
  pub tree : List PlainItem
  pub accepted : AreAccepted bytes tree
  pub is_resolved : resolved tree ≡ Some program

-- the first place that is not a token has this flaw, on this line
abbrev pub HasFlaw : List ℕ → Flaw → ℕ → Type 0
HasFlaw bytes what line =
    (length bytes ≤ MOST_BYTES)
    × IsUtf8 bytes
    × ((place : ℕ) × Refused bytes what place × (line ≡ line_of bytes place))

-- a token is refused, the first on this line
abbrev pub HasRefusedToken : List ℕ → ℕ → Type 0
HasRefusedToken bytes line =
    (tokens : List Token) × AreCut bytes tokens × (first_unsupported false tokens ≡ Some line)

-- the first byte that is no part of UTF-8 stands on this line
abbrev pub IsNoText : List ℕ → ℕ → Type 0
IsNoText bytes line =
    (length bytes ≤ MOST_BYTES)
    × ¬ (IsUtf8 bytes)
    × ((place : ℕ) × IsValidUpTo bytes place × (line ≡ line_of bytes place))

-- none of the tokens is refused, and they spell no tree that is not nested too deep; the line is that of one of
-- them, or 1 where there is none
abbrev pub HasNoSpelling : List ℕ → ℕ → Type 0
HasNoSpelling bytes line =
    (tokens : List Token)
    × AreCut bytes tokens
    × (first_unsupported false tokens ≡ None)
    × HasNoTree MOST_NESTING tokens
    × IsLineIn tokens line

-- they spell a tree whose first breach of a rule of names is this one
abbrev pub HasNameFault : List ℕ → NameFault → Type 0
HasNameFault bytes fault =
    (tree : List PlainItem) × AreSpelled bytes tree × (name_fault tree ≡ Some fault)

-- one of this kind stands on this line
abbrev pub BreaksRule : List ℕ → ℕ → (Name → NameFault) → Type 0
BreaksRule bytes line fault = (name : Name) × HasNameFault bytes (fault name) × (line ≡ name.spot.line)

abbrev pub IsWrong : List ℕ → ℕ → Kind → Type 0
IsWrong bytes line Kind.Character = HasFlaw bytes flaw.Character line
IsWrong bytes line Kind.OpenText = HasFlaw bytes flaw.OpenText line
IsWrong bytes line Kind.Escape = HasFlaw bytes flaw.Escape line
IsWrong bytes line Kind.NumberRange = HasFlaw bytes flaw.NumberRange line
IsWrong bytes line Kind.Unsupported = HasFlaw bytes flaw.Unsupported line ⊎ HasRefusedToken bytes line
IsWrong bytes line Kind.Utf8 = IsNoText bytes line
IsWrong bytes line Kind.NoTree = HasNoSpelling bytes line
IsWrong bytes line Kind.LoopWord = BreaksRule bytes line NameFault.LoopWord
IsWrong bytes line Kind.ReturnPlace = BreaksRule bytes line NameFault.ReturnPlace
IsWrong bytes line Kind.Slots = BreaksRule bytes line NameFault.Slots

-- the fault of a name that breaks a rule
abbrev pub fault_of : Rule → Name → NameFault
fault_of Rule.Unknown name = NameFault.Unknown name
fault_of Rule.Twice name = NameFault.Twice name
fault_of Rule.Const name = NameFault.AssignConst name
fault_of Rule.Capture name = NameFault.Capture name

abbrev pub IsBroken : List ℕ → ℕ → Rule → List ℕ → Type 0
IsBroken bytes line rule text =
    (name : Name)
    × HasNameFault bytes (fault_of rule name)
    × (line ≡ name.spot.line)
    × (text ≡ name.text)

-- the bytes are refused so
abbrev pub IsRefused : List ℕ → Refusal → Type 0
IsRefused bytes Refusal.TooLong = MOST_BYTES < length bytes
IsRefused bytes (Refusal.OnLine line kind) = IsWrong bytes line kind
IsRefused bytes (Refusal.OfName line rule text) = IsBroken bytes line rule text

-- no bytes are both accepted and refused
abbrev pub NeverBoth : List ℕ → Type 0
NeverBoth bytes =
    (tree : List PlainItem) (refusal : Refusal) → AreAccepted bytes tree → ¬ (IsRefused bytes refusal)

-- the bytes are at most one program
abbrev pub OneProgram : List ℕ → Type 0
OneProgram bytes = (a b : PlainProgram) → IsProgram bytes a → IsProgram bytes b → a ≡ b

-- and each accepted tree is a program
abbrev pub EachIsProgram : List ℕ → Type 0
EachIsProgram bytes =
    (tree : List PlainItem)
    → AreAccepted bytes tree
    → (program : PlainProgram) × IsProgram bytes program
