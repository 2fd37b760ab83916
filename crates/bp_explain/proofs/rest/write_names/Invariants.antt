use Rattle.std.proofs.Common.{◌≡◌, ◌++◌, drop, string_bytes}
use Rattle.js_data.specs.JsonText.{quoted_text}
use Rattle.bp_explain.specs.Listed.{listed, listed_from}
use Rattle.bp_explain.specs.inner.Lists.{texts_in}
use Rattle.bp_explain.proofs.rest.write_names.Given as goal

abbrev pub invariant-loop-name : goal.invariant-loop-name
invariant-loop-name l =
    string_bytes l.text ++ listed_from l.later quoted_text (texts_in (drop l.name-index l.names)) ≡ string_bytes l.initial.text ++ listed quoted_text (texts_in l.names)
