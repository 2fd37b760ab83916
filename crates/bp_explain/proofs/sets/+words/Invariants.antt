use Rattle.std.proofs.Common.{◌≡◌, ◌+◌, ◌*◌, ◌++◌, false, drop, string_bytes}
use Rattle.js_value.specs.Sizes.{set_size, sets_size}
use Rattle.js_value.specs.Views.{set_list_of}
use Rattle.bp_explain.specs.Sets.{line_in, list_words}
use Rattle.bp_explain.proofs.sets.+words.Given as goal

abbrev pub decreases-write_set : goal.decreases-write_set
decreases-write_set l = 2 * set_size l.set.now

abbrev pub decreases-write_sets : goal.decreases-write_sets
decreases-write_sets l = 2 * sets_size (set_list_of l.sets.now)

abbrev pub decreases-write_two : goal.decreases-write_two
decreases-write_two l = 2 * (set_size l.a.now + set_size l.b.now) + 1

abbrev pub invariant-write_sets-loop-set : goal.invariant-write_sets-loop-set
invariant-write_sets-loop-set l =
    string_bytes l.text ++ list_words (line_in l.program) l.later (set_list_of (drop l.set-index l.sets))
    ≡ string_bytes l.initial.text ++ list_words (line_in l.program) false (set_list_of l.sets)
