-- The numbers that may stand in a machine of a program.
use Rattle.std.specs.Prelude.{◌≡◌, ℕ, ◌<◌, List, [], ◌∷◌, length, Option, Some, None, slice_get}
use Rattle.js_program.specs.PlainProgram as p
use Rattle.js_program.specs.PlainProgram.{PlainNodeForm, PlainNode, PlainProgram}
use Rattle.js_frames.specs.declared.step.Step.{Step}
use Rattle.js_frames.specs.declared.step.Step.TheVariants.{Begin}
use Rattle.js_frames.specs.declared.frame.Loop.{Loop}
use Rattle.js_frames.specs.declared.frame.Sequence.{Sequence}
use Rattle.js_frames.specs.declared.frame.Sequence.TheVariants.{Block, Function, Top}
use Rattle.js_frames.specs.declared.frame.Part.{Part}
use Rattle.js_frames.specs.declared.frame.Part.TheVariants.{First, Second, Further, Or, And, Choice, When, Declared, Statements, Started, Tested, Between, Listed}
use Rattle.js_frames.specs.declared.frame.Iteration.{Iteration}
use Rattle.js_frames.specs.declared.frame.Iteration.TheVariants.{OfLoop, OfItems}
use Rattle.js_frames.specs.declared.frame.Frame.{Frame}
use Rattle.js_frames.specs.declared.frame.Frame.TheVariants.{Waiting, Iterating, Called}

-- the number of a node
abbrev pub IsNode : PlainProgram → ℕ → Type 0
IsNode program n = n < length program.nodes

-- each is the number of a node
abbrev pub AreNodes : PlainProgram → List ℕ → Type 0
AreNodes program ns = (k n : ℕ) → slice_get ns k ≡ Some n → IsNode program n

abbrev pub IsPerhapsNode : PlainProgram → Option ℕ → Type 0
IsPerhapsNode program None = Unit {0}
IsPerhapsNode program (Some n) = IsNode program n

-- a node with one or two parts, for the first of which a frame waits
abbrev pub IsShort : PlainNodeForm → Type 0
IsShort (p.member x word) = Unit {0}
IsShort (p.index x i) = Unit {0}
IsShort (p.unary sign e) = Unit {0}
IsShort (p.binary operator a b) = Unit {0}
IsShort _ = ⊥

-- one with two
abbrev pub IsDouble : PlainNodeForm → Type 0
IsDouble (p.index x i) = Unit {0}
IsDouble (p.binary operator a b) = Unit {0}
IsDouble _ = ⊥

-- one with any number of parts
abbrev pub IsLong : PlainNodeForm → Type 0
IsLong (p.list ns) = Unit {0}
IsLong (p.fields keys ns) = Unit {0}
IsLong (p.call f arguments) = Unit {0}
IsLong (p.method x word arguments) = Unit {0}
IsLong (p.builtin form arguments) = Unit {0}
IsLong (p.floor_divide a b dropped) = Unit {0}
IsLong _ = ⊥

abbrev pub IsDeclaration : PlainNodeForm → Type 0
IsDeclaration (p.declaration kind ds) = Unit {0}
IsDeclaration _ = ⊥

-- there is a node of this number, and its form is such
abbrev pub HasForm : (PlainNodeForm → Type 0) → PlainProgram → ℕ → Type 0
HasForm Is program n = (node : PlainNode) × (slice_get program.nodes n ≡ Some node) × Is node.form

abbrev pub SequenceFits : PlainProgram → Sequence → Type 0
SequenceFits program (Block n) = IsNode program n
SequenceFits program (Function code) = code < length program.functions
SequenceFits program Top = Unit {0}

pub record LoopFits (program : PlainProgram) (t : Loop) : Type 0 where
  pub test : IsPerhapsNode program t.test
  pub body : IsNode program t.body
  pub next : IsPerhapsNode program t.next

abbrev pub PartFits : PlainProgram → Part → Type 0
PartFits program (First n) = IsNode program n × HasForm IsShort program n
PartFits program (Second n first) = IsNode program n × HasForm IsDouble program n
PartFits program (Further n done) = IsNode program n × HasForm IsLong program n
PartFits program (Or right) = IsNode program right
PartFits program (And right) = IsNode program right
PartFits program (Choice a b) = IsNode program a × IsNode program b
PartFits program (When body) = IsNode program body
PartFits program (Declared n variable place) = IsNode program n × HasForm IsDeclaration program n
PartFits program (Statements which place) = SequenceFits program which
PartFits program (Started t) = LoopFits program t
PartFits program (Tested t) = LoopFits program t
PartFits program (Between t) = LoopFits program t
PartFits program (Listed k body line) = IsNode program body
PartFits program _ = Unit {0}

abbrev pub IterationFits : PlainProgram → Iteration → Type 0
IterationFits program (OfLoop t) = LoopFits program t
IterationFits program (OfItems k body items place) = IsNode program body

abbrev pub FrameFits : PlainProgram → Frame → Type 0
FrameFits program (Waiting part) = PartFits program part
FrameFits program (Iterating iteration) = IterationFits program iteration
FrameFits program (Called slots active) = Unit {0}

unfoldable pub StackFits : PlainProgram → List Frame → Type 0
StackFits program [] = Unit {0}
StackFits program (f ∷ fs) = FrameFits program f × StackFits program fs

abbrev pub StepFits : PlainProgram → Step → Type 0
StepFits program (Begin n) = IsNode program n
StepFits program step = Unit {0}
