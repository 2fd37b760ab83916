use Rattle.std.proofs.Common.{rules, ◌≡◌, ◌∙◌, ◌+◌, ◌∷◌, ◌++◌, ℕ, List, [], length, length-append, append_assoc, ap, sym, subst, arith, Result, Ok, IfOk}
use Rattle.std.specs.Vec.Iter.{into_iter_items}
use Rattle.std.proofs.lemmas.Result.{IfOk-at_ok}
use Rattle.std.specs.declared.alloc.AllocError.{AllocError}
use Rattle.bp_explain.specs.Seeds.{Counted}
use Rattle.bp_seeds.specs.inner.Parts.{AreCounts, ArePart, before}
use Rattle.bp_seeds.proofs.Sweeping.{part_on, few_parts, counted_so_far}
use Rattle.bp_seeds.proofs.sweep.gather.Goals as goal

pub merge-requires : goal.merge-requires
merge-requires c =
    let was = c.loop-part.invariant in
    let n = length c.loop-part.yielded in
    let Q = λ (v : List Counted). ArePart c.args.bytes.now c.args.sweep.now c.args.size n v in
    let is : c.in-Some.part ≡ Ok c.in_ok-later.later = search rules in
    let later = IfOk-at_ok Q is (counted_so_far (λ (i : ℕ) (r : Result (List Counted) AllocError). IfOk r (ArePart c.args.bytes.now c.args.sweep.now c.args.size i))
    c.args.parts.items c.loop-part.yielded (into_iter_items c.next.new.self) c.in-Some.part
    (ap (λ (rs : List (Result (List Counted) AllocError)). c.loop-part.yielded ++ rs) (sym c.in-Some.ensures.steps.0) ∙ was.all) c.requires.parts) in
    few_parts c.args.bytes.now c.args.sweep.now c.args.size n c.loop-part.counts c.in_ok-later.later c.requires.program c.requires.sweep was.told later

pub loop-part-preserved : goal.loop-part-preserved
loop-part-preserved c =
    let was = c.loop-part.invariant in
    let yielded = c.loop-part.yielded in
    let n = length yielded in
    let Q = λ (v : List Counted). ArePart c.args.bytes.now c.args.sweep.now c.args.size n v in
    let is : c.in-Some.part ≡ Ok c.in_ok-later.later = search rules in
    let step = ap (λ (rs : List (Result (List Counted) AllocError)). yielded ++ rs) (sym c.in-Some.ensures.steps.0) ∙ was.all in
    let later = IfOk-at_ok Q is (counted_so_far (λ (i : ℕ) (r : Result (List Counted) AllocError). IfOk r (ArePart c.args.bytes.now c.args.sweep.now c.args.size i))
    c.args.parts.items yielded (into_iter_items c.next.new.self) c.in-Some.part step c.requires.parts) in
    let many : n + 1 ≡ length (yielded ++ c.in-Some.part ∷ []) = omega (arith, length-append yielded (c.in-Some.part ∷ [])) in
    record {
      told = subst (λ (k : ℕ). AreCounts c.args.bytes.now c.args.sweep.now.options (before c.args.sweep.now.count c.args.size k) c.args.sweep.now.first c.merge.new.self) many
          (part_on c.args.bytes.now c.args.sweep.now c.args.size n c.loop-part.counts c.in_ok-later.later c.merge.new.self was.told later c.in_ok-merge.ensures);
      all = append_assoc yielded (c.in-Some.part ∷ []) (into_iter_items c.next.new.self) ∙ step;
    }
