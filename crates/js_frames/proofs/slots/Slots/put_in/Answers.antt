use Rattle.std.proofs.Common.{◌≡◌, ap, ◌∙◌, map}
use Rattle.std.specs.Prelude.{slice_set, option_map}
use Rattle.js_value.specs.Views.{plain_value}
use Rattle.std.proofs.lemmas.List.{map-set}
use Rattle.js_frames.proofs.slots.Slots.put_in.Goals as goal

pub returns : goal.returns
returns c =
    let v = c.self.view_is in
    let h : map (option_map plain_value) c.self.inside.items.items ≡ c.args.self.now = cc in
    map-set (option_map plain_value) c.self.inside.items.items c.args.place c.replace.new.dest
    ∙ ap (λ x. slice_set (map (option_map plain_value) c.self.inside.items.items) c.args.place (option_map plain_value x)) c.replace.ensures.after
    ∙ ap (λ xs. slice_set xs c.args.place (option_map plain_value c.args.value)) h
