use Rattle.std.proofs.Common.{◌≡◌, ◌∙◌, ◌<◌, ◌+◌, ◌++◌, ℕ, List, length, drop, append_assoc, ap, sym, arith}
use Rattle.std.specs.Prelude.{flat_map, slice_index_or, string_bytes}
use Rattle.bp_explain.specs.Seeds.{counted_text}
use Rattle.bp_seeds.proofs.Told.{told_on}
use Rattle.bp_seeds.proofs.counts.Counts.text.Goals as goal

pub loop-kind-preserved : goal.loop-kind-preserved
loop-kind-preserved c =
    let all = c.args.self.now in
    let i = c.loop-kind.kind-index in
    let item = c.kind-item.result in
    let before = string_bytes c.loop-kind.text in
    let later = flat_map counted_text (drop (i + 1) all) in
    let here : i < length all = grind (arith, c.loop-kind-test.true, c.self.view_is, c.deref-kind-items.ensures.value) in
    let read : slice_index_or all i item ≡ item = grind (arith, c.kind-item.is, c.deref-kind-items.ensures.value, c.self.view_is) in
    let line : string_bytes c.push_str.new.self ≡ before ++ counted_text item = grind (arith, c.in_ok-push_str.ensures.bytes, c.as_str.ensures.value, c.in_ok-line.ensures) in
    ap (λ (s : List ℕ). s ++ later) line ∙ append_assoc before (counted_text item) later
    ∙ ap (λ (s : List ℕ). before ++ s) (sym (told_on all i item here read)) ∙ c.loop-kind.invariant
