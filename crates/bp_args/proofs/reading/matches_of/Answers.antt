use Rattle.std.proofs.Common.{ap, ap₂, ◌∙◌, length, arith}
use Rattle.std.proofs.lemmas.Result.{IfErr-weaker, IfOk-weaker}
use Rattle.clap.specs.Words.{is_simple, matches_of, takes}
use Rattle.bp_args.proofs.Walks.{simple, taken, names_within}
use Rattle.std.proofs.lemmas.List.{length-map}
use Rattle.std.proofs.lemmas.Bool.{le-leb}
use Rattle.std.specs.Prelude.{string_bytes}
use Rattle.bp_args.proofs.reading.matches_of.Goals as goal

pub returns-clause-ok : goal.returns-clause-ok
returns-clause-ok c = λ s e.
    let p = c.in_ok-command.ensures in
    let parse = c.try_get_matches_from in
    IfOk-weaker parse.result _ _ (λ m h. (h (ap is_simple p ∙ simple)).0 ∙ ap₂ matches_of p e) parse.ensures.matches

pub returns-clause-err : goal.returns-clause-err
returns-clause-err c = λ s e.
    let parse = c.try_get_matches_from in
    IfErr-weaker parse.result _ _ (λ x h. h (ap₂ takes c.in_ok-command.ensures e ∙ taken s (le-leb (length s.words) 18446744073709551615 (omega (arith, ap length e, length-map c.args.words.now string_bytes, names_within s))))) parse.ensures.passes
