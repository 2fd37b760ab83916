-- The definitions on small examples.
use Rattle.std.proofs.Common.{◌≡◌, [], ◌∷◌, refl}
use Rattle.js_data.specs.Event.{PlainEvent}
use Rattle.bp_log.specs.declared.item.Item.TheVariants as item
use Rattle.bp_log.specs.declared.record.Record.TheVariants.{In, Eof, Sel}
use Rattle.bp_steps.specs.Merging.{items_by}
use Rattle.bp_complete.specs.Completions.{AreBrought}

-- events come before the end or a bad line, and nothing behind them
events_and_the_end : (e : PlainEvent) → AreBrought (item.Offered e ∷ item.Offered e ∷ item.End ∷ [])
events_and_the_end e = refl

a_bad_line : AreBrought (item.Bad 1 ∷ [])
a_bad_line = refl

no_end : (e : PlainEvent) → AreBrought (item.Offered e ∷ []) → ⊥
no_end e h = h

no_fault : (e : PlainEvent) → AreBrought (item.Offered e ∷ item.Failed ∷ []) → ⊥
no_fault e h = h

nothing_behind_the_end : (e : PlainEvent) → AreBrought (item.End ∷ item.Offered e ∷ []) → ⊥
nothing_behind_the_end e h = cc

-- what is selected is of no injector
of_the_first : (d e : PlainEvent) → items_by 0 (In 0 d ∷ Sel d ∷ In 1 e ∷ Eof 0 ∷ []) ≡ item.Offered d ∷ item.End ∷ []
of_the_first d e = refl
