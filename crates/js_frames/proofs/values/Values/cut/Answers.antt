use Rattle.std.proofs.Common.{◌≡◌, sym, ap, ◌∙◌, map, take}
use Rattle.std.proofs.lemmas.List.{take-map}
use Rattle.js_value.specs.Views.{plain_value}
use Rattle.js_frames.proofs.values.Values.cut.Goals as goal

pub returns : goal.returns
returns c =
    let v = c.self.view_is in
    let h : map plain_value c.self.inside.items.items ≡ c.args.self.now = cc in
    ap (map plain_value) c.truncate.ensures.items ∙ sym (take-map plain_value c.args.count c.self.inside.items.items) ∙ ap (take c.args.count) h
