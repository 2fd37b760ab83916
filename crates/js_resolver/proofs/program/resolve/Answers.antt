use Rattle.std.proofs.Common.{◌∙◌, ap, sym, subst, map}
use Rattle.js_tree.specs.Views.{plain_item, plain_tree}
use Rattle.js_program.specs.Sound.{IsSound}
use Rattle.js_names.specs.Views.{mention_of}
use Rattle.js_resolver.proofs.Parts.{tree_program, resolved_is}
use Rattle.js_resolver.proofs.Spelling.{spelled_sound}
use Rattle.js_resolver.proofs.program.resolve.Goals as goal

pub program_of_names-requires-clause-sound : goal.program_of_names-requires-clause-sound
program_of_names-requires-clause-sound c =
    subst IsSound (sym (tree_program (map plain_item c.deref.result.now) (plain_tree c.args.tree.now) (map mention_of c.in_ok-names.names.mentions.items) (ap (map plain_item) c.deref.ensures.value) c.in_ok-names.ensures.mentions))
    (spelled_sound (plain_tree c.args.tree.now) c.requires.spelled c.in_ok-names.ensures.accepted)

pub returns-clause-resolved : goal.returns-clause-resolved
returns-clause-resolved c =
    resolved_is (plain_tree c.args.tree.now) c.in_ok-program.program c.in_ok-names.ensures.accepted
    (c.in_ok-program.ensures ∙ tree_program (map plain_item c.deref.result.now) (plain_tree c.args.tree.now) (map mention_of c.in_ok-names.names.mentions.items) (ap (map plain_item) c.deref.ensures.value) c.in_ok-names.ensures.mentions)
