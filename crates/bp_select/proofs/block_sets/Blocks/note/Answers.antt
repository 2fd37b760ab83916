use Rattle.std.proofs.Common.{rules, ◌≡◌, ◌++◌, ◌∷◌, [], List, ap, sym, subst}
use Rattle.js_data.specs.Event.{PlainEvent}
use Rattle.bp_known.specs.declared.known.Told.{Told}
use Rattle.bp_select.specs.inner.BlockSets.{PlainBlocks}
use Rattle.bp_known.specs.Known.{AreKnown, IsKnown}
use Rattle.bp_known.proofs.Knowing.{told_more}
use Rattle.bp_select.proofs.block_sets.Blocks.note.Goals as goal

pub returns-then-is_ok-clause-known : goal.returns-then-is_ok-clause-known
returns-then-is_ok-clause-known c = λ base budget sets k told.
    let more : c.push.new.self.items ≡ c.self.inside.told.items ++ record { event = c.in-Ok.event; known = c.args.known } ∷ [] = search rules in
    rw more
    (told_more base budget sets c.self.inside.told.items (record { event = c.in-Ok.event; known = c.args.known })
    (subst (λ (us : List Told). AreKnown base budget sets us) (sym (ap (λ (b : PlainBlocks). b.told) c.self.view_is)) told)
    (subst (λ (e : PlainEvent). IsKnown base budget sets e c.args.known) (sym c.in-Ok.ensures) k))
