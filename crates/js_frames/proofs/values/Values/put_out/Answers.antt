use Rattle.std.proofs.Common.{◌≡◌, ap, ◌∙◌, map}
use Rattle.std.specs.Prelude.{slice_set}
use Rattle.js_value.specs.Value.{undefined}
use Rattle.js_value.specs.Views.{plain_value}
use Rattle.std.proofs.lemmas.List.{map-set}
use Rattle.js_frames.proofs.values.Values.put_out.Goals as goal

pub returns-clause-rest : goal.returns-clause-rest
returns-clause-rest c =
    let v = c.self.view_is in
    let h : map plain_value c.self.inside.items.items ≡ c.args.self.now = cc in
    map-set plain_value c.self.inside.items.items c.args.place c.replace.new.dest
    ∙ ap (λ x. slice_set (map plain_value c.self.inside.items.items) c.args.place (plain_value x)) c.replace.ensures.after
    ∙ ap (λ xs. slice_set xs c.args.place undefined) h
