use Rattle.std.proofs.Common.{ap, nat_eq}
use Rattle.std.specs.Prelude.{option_map}
use Rattle.std.specs.Map.{lookup}
use Rattle.js_program.specs.Views.{plain_constant}
use Rattle.js_resolver.proofs.Starting.{if_starts}
use Rattle.js_resolver.proofs.constants.constant_starts.Goals as goal

pub returns : goal.returns
returns c =
    if_starts c.starts_of.result c.args.tables.now c.args.items.now c.mentions.result.now c.new-starts.result c.note_items.new.starts c.note_mentions.new.starts c.constants.result.now (λ q. ap (λ es. option_map plain_constant (lookup (nat_eq q) es)) c.new-starts.ensures.empty) c.mentions.ensures c.in_ok-note_items.ensures c.in_ok-note_mentions.ensures c.constants.ensures
    c.starts_of.ensures
