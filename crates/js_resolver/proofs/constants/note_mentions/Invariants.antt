use Rattle.std.proofs.Common.{map, take}
use Rattle.js_names.specs.Views.{mention_of}
use Rattle.js_resolver.specs.Resolved.{constant_there}
use Rattle.js_resolver.specs.inner.Starts.{NotesStart, first_of}
use Rattle.js_resolver.proofs.constants.note_mentions.Given as goal

abbrev pub invariant-loop-mention : goal.invariant-loop-mention
invariant-loop-mention l = NotesStart l.initial.starts l.starts (λ q. first_of (map (λ p. constant_there q (mention_of p).declared) (take l.mention-index l.mentions)))
