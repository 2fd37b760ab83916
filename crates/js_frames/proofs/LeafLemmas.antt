-- Nodes that only give a value.
use Rattle.std.proofs.Common.{◌≡◌, ℕ, Option, Some, None, refl, ap, ◌∙◌}
use Rattle.std.specs.Prelude.{slice_get}
use Rattle.js_value.specs.Value as v
use Rattle.js_value.specs.Value.{PlainValue}
use Rattle.js_program.specs.PlainProgram as p
use Rattle.js_program.specs.PlainProgram.{PlainNodeForm, PlainNode}
use Rattle.js_program.specs.Views.{plain_node_form}
use Rattle.js_program.specs.declared.node.NodeForm.{NodeForm}
use Rattle.js_program.specs.declared.node.NodeForm.TheVariants as f
use Rattle.js_meaning.specs.State as js
use Rattle.js_meaning.specs.State.{gives}
use Rattle.js_meaning.specs.Variables.{if_declared}
use Rattle.js_meaning.specs.Meaning.{does_node, eval, iterations_of}
use Rattle.js_frames.specs.Places.{Place, setting_at, state_at}
use Rattle.js_frames.specs.inner.Leads.{leaf_at, leaf_of}
use Rattle.js_frames.proofs.Steps.{OnlyGives}
use Rattle.js_frames.proofs.VariableLemmas.{held_with}

module _ (base : js.Ground) (m : Place) where
  module _ (n : ℕ) (x : PlainValue) where
    form_gives : (line : ℕ) (form : PlainNodeForm) → slice_get base.program.nodes n ≡ Some (record { line = line; form = form }) → leaf_at base m form ≡ Some x → OnlyGives base m n x
    form_gives line (p.number k) at e = λ fuel b.
        let g = setting_at base m in
        let s = state_at (record m { fuel = fuel }) b in
        let same : v.whole k ≡ x = cc in
        ap (λ o. does_node g (eval g) (iterations_of g) o s) at ∙ ap (λ y. gives y s) same
    form_gives line (p.read variable) at e = λ fuel b.
        let g = setting_at base m in
        let s = state_at (record m { fuel = fuel }) b in
        ap (λ o. does_node g (eval g) (iterations_of g) o s) at ∙ ap (λ o. if_declared line o gives s) (held_with base variable m fuel b ∙ e)
    form_gives line _ at e = let no : None ≡ Some x = e in cc

    node_gives : (o : Option PlainNode) → slice_get base.program.nodes n ≡ o → leaf_of base m o ≡ Some x → OnlyGives base m n x
    node_gives None at e = cc
    node_gives (Some node) at e = form_gives node.line node.form at e

    pub leaf_gives : leaf_of base m (slice_get base.program.nodes n) ≡ Some x → OnlyGives base m n x
    leaf_gives e = node_gives (slice_get base.program.nodes n) refl e

  -- any other node
  pub no_leaf : (x : NodeForm) → ((k : _) → x ≡ f.Number k → ⊥) → ((variable : _) → x ≡ f.Read variable → ⊥) → None ≡ leaf_at base m (plain_node_form x)
  no_leaf (f.Number k) h i = absurd (h k refl)
  no_leaf (f.Read variable) h i = absurd (i variable refl)
  no_leaf _ h i = refl
