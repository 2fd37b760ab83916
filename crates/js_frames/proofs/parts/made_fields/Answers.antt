use Rattle.std.proofs.Common.{ap, ◌∙◌, length, map, take, subst}
use Rattle.std.specs.Arc.{arc_value}
use Rattle.js_value.specs.Value as v
use Rattle.js_ops.specs.Answers.{AnswersAs}
use Rattle.js_ops.specs.Made.{made}
use Rattle.js_ops.specs.Making.{put_all}
use Rattle.js_frames.proofs.Lists.{put_all_cut}
use Rattle.js_frames.proofs.parts.made_fields.Goals as goal

pub returns : goal.returns
returns c =
    let keys = c.args.keys.now in
    subst (λ a. AnswersAs a c.make_from.result)
    (ap (λ fs. made (v.fields fs))
    (ap (λ vs. put_all (map arc_value (take c.len-count.result keys)) vs v.no_fields) (c.into_vec.ensures ∙ c.cut.ensures)
    ∙ ap (λ n. put_all (map arc_value (take n keys)) (take (length keys) c.args.done) v.no_fields) (c.len-count.ensures ∙ ap length c.cut.ensures)
    ∙ put_all_cut keys c.args.done v.no_fields))
    c.make_from.ensures
