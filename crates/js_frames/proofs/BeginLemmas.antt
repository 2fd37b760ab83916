-- What nodes do that begin.
use Rattle.std.proofs.Common.{◌≡◌, ℕ, map, List, [], ◌∷◌, ◌++◌, Option, Some, None, Result, refl, sym, ap, ◌∙◌, subst}
use Rattle.std.specs.Prelude.{IfOk, slice_get, option_to_list}
use Rattle.std.specs.declared.alloc.AllocError.{AllocError}
use Rattle.js_tree.specs.declared.tree.Operator.{Operator}
use Rattle.js_tree.specs.declared.tree.Operator.TheVariants as operator
use Rattle.js_tree.specs.declared.tree.DeclareKind.{DeclareKind}
use Rattle.js_value.specs.Value.{PlainValue}
use Rattle.js_value.specs.Views.{plain_value}
use Rattle.js_value.specs.declared.value.Value.{Value}
use Rattle.js_program.specs.PlainProgram as p
use Rattle.js_program.specs.PlainProgram.{PlainNode, PlainNodeForm, PlainProgram, parts_of}
use Rattle.js_program.specs.Views.{plain_node, plain_node_form, plain_declared}
use Rattle.js_program.specs.declared.node.Node.{Node}
use Rattle.js_program.specs.declared.node.NodeForm.{NodeForm}
use Rattle.js_program.specs.declared.node.NodeForm.TheVariants as f
use Rattle.js_meaning.specs.State.{State, Setting}
use Rattle.js_meaning.specs.Variables.{undeclare}
use Rattle.js_meaning.specs.Calls.{sequence}
use Rattle.js_meaning.specs.Statements.{does_declaration}
use Rattle.js_meaning.specs.Meaning.{does, eval, iterations_of}
use Rattle.js_frames.specs.declared.step.Step.{Step}
use Rattle.js_frames.specs.declared.step.Step.TheVariants.{Begin}
use Rattle.js_frames.specs.declared.frame.Sequence.TheVariants.{Block}
use Rattle.js_frames.specs.declared.frame.Part.TheVariants.{First, Second}
use Rattle.js_frames.specs.declared.frame.Frame.{Frame}
use Rattle.js_frames.specs.declared.frame.Frame.TheVariants.{Waiting}
use Rattle.js_frames.specs.Places.{Place}
use Rattle.js_frames.specs.Frames.{rest, resume, parts_from, declaring_from, sequence_from, block_of, block_in}
use Rattle.js_frames.specs.Fits.{IsNode, AreNodes, IsPerhapsNode, HasForm, IsShort, IsDouble, IsLong, IsDeclaration, FrameFits}
use Rattle.js_frames.specs.inner.Leads.{pushed, operand_frame}
use Rattle.js_frames.proofs.InOrder.{parts_wait}

-- a frame that was made by a call
pub wait_for : (old new : Place) (frame known : Frame) (part : ℕ) (r : Result Step AllocError) → frame ≡ known → IfOk r (λ step. (step ≡ Begin part) × (new ≡ pushed old frame)) → IfOk r (λ step. (step ≡ Begin part) × (new ≡ pushed old known))
wait_for old new frame known part r e w = subst (λ q. IfOk r (λ step. (step ≡ Begin part) × (new ≡ pushed old q))) e w

module _ (g : Setting) (n : ℕ) (found : Node) (at : slice_get g.base.program.nodes n ≡ Some (plain_node found)) where
  abbrev with_form : NodeForm → PlainNode
  with_form x = record { line = found.line; form = plain_node_form x }

  module _ (form : NodeForm) (is : found.form ≡ form) (s : State) where
    node_is : slice_get g.base.program.nodes n ≡ Some (with_form form)
    node_is = at ∙ ap (λ x. Some (with_form x)) is

    -- the values of all parts are there
    pub parts_with : (vs : List PlainValue) → parts_from g (Some (with_form form)) vs s ≡ parts_from g (slice_get g.base.program.nodes n) vs s
    parts_with vs = ap (λ o. parts_from g o vs s) (sym node_is)

    -- the first value is there, and the second part begins
    pub second_waits : (first : Value) (part : ℕ) → slice_get (parts_of (plain_node_form form)) 1 ≡ Some part → resume g (Waiting (Second n first)) (eval g part s) ≡ parts_from g (slice_get g.base.program.nodes n) (plain_value first ∷ []) s
    unfolding rest resume
    second_waits first part get =
        parts_wait g (slice_get g.base.program.nodes n) (with_form form) node_is (plain_value first ∷ []) part get (rest g (Second n first)) (λ x now. refl) s

    long_form : (x : NodeForm) → IsLong (plain_node_form x) → parts_from g (Some (with_form x)) [] s ≡ does g (eval g) (iterations_of g) found.line (plain_node_form x) s
    long_form (f.List ns) h = refl
    long_form (f.Fields ks ns) h = refl
    long_form (f.Call x ns) h = refl
    long_form (f.Method x w ns) h = refl
    long_form (f.Builtin x ns) h = refl
    long_form (f.FloorDivide a b ns) h = refl
    long_form _ h = absurd h

    pub long_begins : (done : List PlainValue) → done ≡ [] → IsLong (plain_node_form form) → parts_from g (slice_get g.base.program.nodes n) done s ≡ does g (eval g) (iterations_of g) found.line (plain_node_form form) s
    long_begins done e h = ap (λ vs. parts_from g (slice_get g.base.program.nodes n) vs s) e ∙ ap (λ o. parts_from g o [] s) node_is ∙ long_form form h

    -- a form with one or two parts, but no operator
    abbrev IsPlain : NodeForm → Type 0
    IsPlain (f.Member x w) = Unit {0}
    IsPlain (f.Index x i) = Unit {0}
    IsPlain (f.Unary sign x) = Unit {0}
    IsPlain _ = ⊥

    plain_form : (x : NodeForm) → IsPlain x → parts_from g (Some (with_form x)) [] s ≡ does g (eval g) (iterations_of g) found.line (plain_node_form x) s
    plain_form (f.Member x w) h = refl
    plain_form (f.Index x i) h = refl
    plain_form (f.Unary sign x) h = refl
    plain_form _ h = absurd h

    pub short_begins : (part : ℕ) → IsPlain form → slice_get (parts_of (plain_node_form form)) 0 ≡ Some part → resume g (Waiting (First n)) (eval g part s) ≡ does g (eval g) (iterations_of g) found.line (plain_node_form form) s
    unfolding rest resume
    short_begins part h get =
        parts_wait g (slice_get g.base.program.nodes n) (with_form form) node_is [] part get (rest g (First n)) (λ x now. refl) s
        ∙ ap (λ o. parts_from g o [] s) node_is ∙ plain_form form h

  module _ (left right : ℕ) (s : State) where
    abbrev binary_waits : Operator → Type 0
    binary_waits o = resume g (operand_frame o right n) (eval g left s) ≡ does g (eval g) (iterations_of g) found.line (p.binary o left right) s

    both_sides : (o : Operator) → found.form ≡ f.Binary o left right → parts_from g (Some (with_form (f.Binary o left right))) [] s ≡ does g (eval g) (iterations_of g) found.line (p.binary o left right) s → resume g (Waiting (First n)) (eval g left s) ≡ does g (eval g) (iterations_of g) found.line (p.binary o left right) s
    unfolding rest resume
    both_sides o is h =
        parts_wait g (slice_get g.base.program.nodes n) (with_form (f.Binary o left right)) (node_is (f.Binary o left right) is s) [] left refl (rest g (First n)) (λ x now. refl) s
        ∙ ap (λ q. parts_from g q [] s) (node_is (f.Binary o left right) is s) ∙ h

    pub operand_begins : (o : Operator) → found.form ≡ f.Binary o left right → binary_waits o
    unfolding rest resume
    operand_begins operator.Or is = refl
    operand_begins operator.And is = refl
    operand_begins operator.Same is = both_sides operator.Same is refl
    operand_begins operator.NotSame is = both_sides operator.NotSame is refl
    operand_begins operator.Equal is = both_sides operator.Equal is refl
    operand_begins operator.NotEqual is = both_sides operator.NotEqual is refl
    operand_begins operator.Less is = both_sides operator.Less is refl
    operand_begins operator.LessOrEqual is = both_sides operator.LessOrEqual is refl
    operand_begins operator.Greater is = both_sides operator.Greater is refl
    operand_begins operator.GreaterOrEqual is = both_sides operator.GreaterOrEqual is refl
    operand_begins operator.Add is = both_sides operator.Add is refl
    operand_begins operator.Subtract is = both_sides operator.Subtract is refl
    operand_begins operator.Multiply is = both_sides operator.Multiply is refl
    operand_begins operator.Divide is = both_sides operator.Divide is refl
    operand_begins operator.Remainder is = both_sides operator.Remainder is refl

  pub block_begins : (slots : _) (ns : _) (is : found.form ≡ f.Block slots ns) (s : State) → sequence_from g (Block n) 0 (undeclare slots.items s) ≡ sequence (eval g) ns.items (undeclare slots.items s)
  block_begins slots ns is s = ap (λ o. sequence (eval g) (block_of o) (undeclare slots.items s)) (node_is (f.Block slots ns) is s)

  pub declaration_begins : (kind : DeclareKind) (ds : _) (is : found.form ≡ f.Declaration kind ds) (s : State) → declaring_from g (slice_get g.base.program.nodes n) 0 s ≡ does_declaration (eval g) kind (map plain_declared ds.items) s
  declaration_begins kind ds is s = ap (λ o. declaring_from g o 0 s) (node_is (f.Declaration kind ds) is s)

pub operand_fits : (program : PlainProgram) (o : Operator) (right n : ℕ) → IsNode program n → IsNode program right → HasForm IsShort program n → FrameFits program (operand_frame o right n)
operand_fits program operator.Or right n i r h = r
operand_fits program operator.And right n i r h = r
operand_fits program _ right n i r h = (i, h)

-- the parts of a `for`
pub for_parts : (program : PlainProgram) (a b c : Option ℕ) (d : ℕ) → AreNodes program (option_to_list a ++ option_to_list b ++ option_to_list c ++ d ∷ []) → IsPerhapsNode program a × IsPerhapsNode program b × IsPerhapsNode program c × IsNode program d
for_parts program None None None d h = (tt, tt, tt, h 0 d refl)
for_parts program None None (Some c) d h = (tt, tt, h 0 c refl, h 1 d refl)
for_parts program None (Some b) None d h = (tt, h 0 b refl, tt, h 1 d refl)
for_parts program None (Some b) (Some c) d h = (tt, h 0 b refl, h 1 c refl, h 2 d refl)
for_parts program (Some a) None None d h = (h 0 a refl, tt, tt, h 1 d refl)
for_parts program (Some a) None (Some c) d h = (h 0 a refl, tt, h 1 c refl, h 2 d refl)
for_parts program (Some a) (Some b) None d h = (h 0 a refl, h 1 b refl, tt, h 2 d refl)
for_parts program (Some a) (Some b) (Some c) d h = (h 0 a refl, h 1 b refl, h 2 c refl, h 3 d refl)

-- the forms with any number of parts
pub long_only : (x : NodeForm) → IsLong (plain_node_form x) → ((ns : _) → x ≡ f.List ns → ⊥) → ((ks : _) (ns : _) → x ≡ f.Fields ks ns → ⊥) → ((a : ℕ) (ns : _) → x ≡ f.Call a ns → ⊥) → ((a : ℕ) (w : _) (ns : _) → x ≡ f.Method a w ns → ⊥) → ((b : _) (ns : _) → x ≡ f.Builtin b ns → ⊥) → ((a b : ℕ) (ns : _) → x ≡ f.FloorDivide a b ns → ⊥) → ⊥
long_only (f.List ns) h a b c d e i = a ns refl
long_only (f.Fields ks ns) h a b c d e i = b ks ns refl
long_only (f.Call x ns) h a b c d e i = c x ns refl
long_only (f.Method x w ns) h a b c d e i = d x w ns refl
long_only (f.Builtin x ns) h a b c d e i = e x ns refl
long_only (f.FloorDivide x y ns) h a b c d e i = i x y ns refl
long_only _ h a b c d e i = h

-- those with one or two
pub short_only : (x : NodeForm) → IsShort (plain_node_form x) → ((a : ℕ) (w : _) → x ≡ f.Member a w → ⊥) → ((sign : _) (a : ℕ) → x ≡ f.Unary sign a → ⊥) → ((a b : ℕ) → x ≡ f.Index a b → ⊥) → ((o : Operator) (a b : ℕ) → x ≡ f.Binary o a b → ⊥) → ⊥
short_only (f.Member y w) h a b c d = a y w refl
short_only (f.Unary sign y) h a b c d = b sign y refl
short_only (f.Index y i) h a b c d = c y i refl
short_only (f.Binary o y z) h a b c d = d o y z refl
short_only _ h a b c d = h

-- those with two
pub double_only : (x : NodeForm) → IsDouble (plain_node_form x) → ((a b : ℕ) → x ≡ f.Index a b → ⊥) → ((o : Operator) (a b : ℕ) → x ≡ f.Binary o a b → ⊥) → ⊥
double_only (f.Index y i) h c d = c y i refl
double_only (f.Binary o y z) h c d = d o y z refl
double_only _ h c d = h

pub declaration_only : (x : NodeForm) → IsDeclaration (plain_node_form x) → ((k : DeclareKind) (ds : _) → x ≡ f.Declaration k ds → ⊥) → ⊥
declaration_only (f.Declaration k ds) h a = a k ds refl
declaration_only _ h a = h

-- the form of the node that was found
pub form_here : (Is : PlainNodeForm → Type 0) (program : PlainProgram) (n : ℕ) (found : Node) → slice_get program.nodes n ≡ Some (plain_node found) → HasForm Is program n → Is (plain_node_form found.form)
form_here Is program n found at h =
    let same : Some h.0 ≡ Some (plain_node found) = sym h.1 ∙ at in
    let node : h.0 ≡ plain_node found = cc in
    subst (λ (q : PlainNode). Is q.form) node h.2

-- what waits for a left side that always has a right one
pub operand_other : (o : Operator) (right n : ℕ) → (o ≡ operator.Or → ⊥) → (o ≡ operator.And → ⊥) → Waiting (First n) ≡ operand_frame o right n
operand_other operator.Or right n h i = absurd (h refl)
operand_other operator.And right n h i = absurd (i refl)
operand_other _ right n h i = refl

-- what is not a block has no statements
pub no_block : (x : NodeForm) → ((slots : _) (ns : _) → x ≡ f.Block slots ns → ⊥) → [] ≡ block_in (plain_node_form x)
no_block (f.Block slots ns) h = absurd (h slots ns refl)
no_block _ h = refl
