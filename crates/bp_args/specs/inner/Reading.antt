-- The command as `clap` sees it: each option has one value, and any words stand after them.
use Rattle.std.specs.Prelude.{ℕ, true, List, [], ◌∷◌, Some, codes}
use Rattle.clap.specs.Words.{App, Rule, new_app, new_rule, with_rule}
use Rattle.clap.specs.declared.builder.action.ArgAction.TheVariants.{Set, Append}
use Rattle.bp_args.specs.declared.key.Key.{Key}
use Rattle.bp_args.specs.Keys.{key_name, keys}

abbrev pub option_rule : List ℕ → Rule
option_rule name = record (new_rule name) { long = Some name; action = Some Set }

-- the id of the words that are not options
abbrev pub names_id : List ℕ
names_id = codes "names"

abbrev pub names_rule : Rule
names_rule = record (new_rule names_id) {
  action = Some Append;
  range = Some (record { start_inclusive = 0; end_inclusive = 18_446_744_073_709_551_615 });
}

abbrev pub bare : App
bare = record {
  top = record ((new_app (codes "bp")).top) { no_binary_name = true; disable_help_flag = true };
  subs = [];
}

abbrev pub with_options : App → List Key → App
with_options a [] = a
with_options a (k ∷ ks) = with_options (with_rule a (option_rule (key_name k))) ks

unfoldable pub program : App
program = with_rule (with_options bare keys) names_rule
