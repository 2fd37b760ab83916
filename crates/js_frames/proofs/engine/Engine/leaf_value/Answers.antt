use Rattle.std.proofs.Common.{Some, sym, ap, ◌∙◌}
use Rattle.js_program.specs.Views.{plain_node_form}
use Rattle.js_frames.specs.Places.{plain_ground, place_of}
use Rattle.js_frames.specs.inner.Leads.{leaf_at, leaf_of}
use Rattle.js_frames.proofs.LeafLemmas.{no_leaf}
use Rattle.js_frames.proofs.engine.Engine.leaf_value.Goals as goal

pub returns-in-Number : goal.returns-in-Number
returns-in-Number c = ap (λ f. leaf_at (plain_ground c.args.base.now) (place_of c.args.self.now) (plain_node_form f)) (sym c.in-Number.is) ∙ ap (leaf_of (plain_ground c.args.base.now) (place_of c.args.self.now)) (sym c.node_of.ensures.node)

pub returns-in-None : goal.returns-in-None
returns-in-None c = c.in-None.ensures ∙ ap (λ f. leaf_at (plain_ground c.args.base.now) (place_of c.args.self.now) (plain_node_form f)) (sym c.in-Read.is) ∙ ap (leaf_of (plain_ground c.args.base.now) (place_of c.args.self.now)) (sym c.node_of.ensures.node)

pub returns-in_ok-copied-in-Some : goal.returns-in_ok-copied-in-Some
returns-in_ok-copied-in-Some c = ap Some c.in_ok-copied-in-Some.ensures ∙ c.in-Some.ensures ∙ ap (λ f. leaf_at (plain_ground c.args.base.now) (place_of c.args.self.now) (plain_node_form f)) (sym c.in-Read.is) ∙ ap (leaf_of (plain_ground c.args.base.now) (place_of c.args.self.now)) (sym c.node_of.ensures.node)

pub returns-in_default : goal.returns-in_default
returns-in_default c = no_leaf (plain_ground c.args.base.now) (place_of c.args.self.now) _ c.in_default.not-Number c.in_default.not-Read ∙ ap (leaf_of (plain_ground c.args.base.now) (place_of c.args.self.now)) (sym c.node_of.ensures.node)
