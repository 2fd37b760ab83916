use Rattle.std.proofs.Common.{[], ◌∷◌, ◌++◌, ap, ◌∙◌}
use Rattle.std.specs.Prelude.{pos}
use Rattle.js_value.specs.Value as v
use Rattle.js_value.specs.Views.{plain_value}
use Rattle.js_meaning.specs.Variables.{padded}
use Rattle.js_frames.proofs.Lists.{padded_one, padded_two}
use Rattle.js_frames.proofs.for_each.element_args.Goals as goal

pub returns-then-wanted-le1 : goal.returns-then-wanted-le1
returns-then-wanted-le1 c =
    let one = c.in_ok-push.ensures ∙ ap (λ l. l ++ plain_value c.in_ok-element.element ∷ []) c.requires ∙ ap (λ y. y ∷ []) c.in_ok-element.ensures in
    ap (padded c.args.wanted) one ∙ padded_one c.args.wanted (plain_value c.args.item.now) (v.whole (pos c.args.index)) (v.list c.args.items.now) c.if-wanted-le1.true

pub returns-then-wanted-le2 : goal.returns-then-wanted-le2
returns-then-wanted-le2 c =
    let x = plain_value c.args.item.now in
    let one = c.in_ok-push.ensures ∙ ap (λ l. l ++ plain_value c.in_ok-element.element ∷ []) c.requires ∙ ap (λ y. y ∷ []) c.in_ok-element.ensures in
    let two = c.in_ok-push-2.ensures ∙ ap (λ l. l ++ plain_value c.in_ok-place.place ∷ []) one ∙ ap (λ y. x ∷ y ∷ []) c.in_ok-place.ensures in
    ap (padded c.args.wanted) two ∙ padded_two c.args.wanted x (v.whole (pos c.args.index)) (v.list c.args.items.now) c.if-wanted-le2.true

pub returns : goal.returns
returns c =
    let x = plain_value c.args.item.now in
    let i = v.whole (pos c.args.index) in
    let one = c.in_ok-push.ensures ∙ ap (λ l. l ++ plain_value c.in_ok-element.element ∷ []) c.requires ∙ ap (λ y. y ∷ []) c.in_ok-element.ensures in
    let two = c.in_ok-push-2.ensures ∙ ap (λ l. l ++ plain_value c.in_ok-place.place ∷ []) one ∙ ap (λ y. x ∷ y ∷ []) c.in_ok-place.ensures in
    let three = c.in_ok-push-3.ensures ∙ ap (λ l. l ++ v.list c.in_ok-list.list ∷ []) two ∙ ap (λ vs. x ∷ i ∷ v.list vs ∷ []) c.in_ok-list.ensures in
    ap (padded c.args.wanted) three
