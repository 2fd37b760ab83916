use Rattle.std.proofs.Common.{rules, ap, ◌≡◌, ◌∙◌, Option, Some, None}
use Rattle.std.specs.Prelude.{IsSomeAnd}
use Rattle.clap.specs.Words.{Rule, new_rule, rule_of}
use Rattle.clap.specs.declared.builder.arg.Arg.{Arg}
use Rattle.clap.specs.declared.builder.range.ValueRange.{ValueRange}
use Rattle.clap.specs.declared.builder.action.ArgAction.TheVariants.{Append}
use Rattle.bp_args.specs.inner.Reading.{names_id, names_rule}
use Rattle.bp_args.proofs.reading.names.Goals as goal

abbrev wide_range : ValueRange
wide_range = record { start_inclusive = 0; end_inclusive = 18446744073709551615 }

abbrev before_range : Rule
before_range = record (new_rule (names_id)) { action = Some Append }

range_is : (o : Option ValueRange) → IsSomeAnd o (λ v. v ≡ wide_range) → o ≡ Some wide_range
range_is None h = absurd h
range_is (Some v) h = ap (λ r. Some r) h

rule_is : (old new : Arg) → rule_of old ≡ before_range → new ≡ record old { num_vals = new.num_vals } → new.num_vals ≡ Some wide_range → rule_of new ≡ names_rule
rule_is old new e n r = ap rule_of n ∙ (ap (λ v. rule_of (record old { num_vals = v })) r ∙ ap (λ (x : Rule). record x { range = Some wide_range }) e)

pub returns-clause-rule : goal.returns-clause-rule
returns-clause-rule c =
    let old_is : rule_of c.action.result ≡ before_range = search rules in
    let n = c.num_args.ensures in
    rule_is c.action.result c.num_args.result old_is n.0 (range_is c.num_args.result.num_vals n.1)
