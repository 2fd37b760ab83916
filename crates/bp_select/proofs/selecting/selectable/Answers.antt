use Rattle.std.proofs.Common.{◌≡◌, ◌∙◌, ℕ, List, [], Ok, Option, ap, map, sym, subst}
use Rattle.std.specs.Prelude.{IfSome}
use Rattle.std.specs.Borrow.{Bor}
use Rattle.js_value.specs.Value.{PlainSet}
use Rattle.js_frames.specs.Places.{plain_ground}
use Rattle.bp_known.specs.Known.{AreKnown, sets_in}
use Rattle.bp_live.specs.declared.stated.Stated.{Stated}
use Rattle.bp_meaning.specs.Membership.{member}
use Rattle.bp_run.specs.Selecting.{selectable}
use Rattle.bp_live.specs.declared.candidate.Candidate.{Candidate}
use Rattle.bp_select.specs.declared.selecting.Eligible.{Eligible}
use Rattle.bp_select.specs.Blocks.{AreOf}
use Rattle.bp_live.specs.Candidates.{tops_of}
use Rattle.bp_select.specs.inner.Eligible.{eligible_of}
use Rattle.bp_live.specs.Lives.{live_of, lent}
use Rattle.bp_select.specs.inner.Parts.{IsPart, blocks_nothing}
use Rattle.bp_select.proofs.PartLemmas.{of_part, order_part, tops_part}
use Rattle.bp_select.proofs.Readiness.{begun, settled_after}
use Rattle.bp_select.proofs.selecting.selectable.Goals as goal

pub told-requires-clause-order : goal.told-requires-clause-order
told-requires-clause-order c =
    let live = map live_of c.args.live.now in
    order_part blocks_nothing (map lent c.as_slice-blocking.result.now) live
    (subst (λ (xs : List (Bor Stated)). IsPart blocks_nothing (map lent xs) live) (sym c.as_slice-blocking.ensures.value) c.in_ok-blocking.ensures) c.requires.settled.order

pub told-requires-clause-sets : goal.told-requires-clause-sets
told-requires-clause-sets c =
    let live = map live_of c.args.live.now in
    of_part (map lent c.as_slice-blocking.result.now) live _
    (subst (λ (xs : List (Bor Stated)). IsPart blocks_nothing (map lent xs) live) (sym c.as_slice-blocking.ensures.value) c.in_ok-blocking.ensures) c.requires.settled.order
    (subst (λ (es : List (ℕ × PlainSet)). AreOf live (sets_in es)) (sym c.begin_question.ensures.sets) c.requires.settled.sets)

pub told-requires-clause-known : goal.told-requires-clause-known
told-requires-clause-known c =
    subst (λ (es : List (ℕ × PlainSet)). AreKnown (plain_ground c.args.ground.now) c.args.budget (sets_in es) c.begin_question.new.self.told) (sym c.begin_question.ensures.sets)
    (c.begin_question.ensures.known (plain_ground c.args.ground.now) c.args.budget (sets_in c.args.blocks.now.sets) c.requires.settled.known)

pub returns-then-are_cheap-clause-eligible : goal.returns-then-are_cheap-clause-eligible
returns-then-are_cheap-clause-eligible c =
    let live = map live_of c.args.live.now in
    c.asked.ensures.eligible live (c.in_ok-candidates.ensures ∙ tops_part (map lent c.args.asking.now) live c.requires.asking [])
    (subst (λ (xs : List (Bor Stated)). IsPart blocks_nothing (map lent xs) live) (sym c.as_slice-few.ensures.value) c.in_ok-few.ensures)

pub returns-then-are_cheap-clause-tops : goal.returns-then-are_cheap-clause-tops
returns-then-are_cheap-clause-tops c = c.asked.ensures.tops (map lent c.args.asking.now) c.in_ok-candidates.ensures

pub returns-in_err-found-clause-settled : goal.returns-in_err-found-clause-settled
returns-in_err-found-clause-settled c = begun (plain_ground c.args.ground.now) c.args.budget (map live_of c.args.live.now) c.args.blocks.now c.begin_question.new.self c.begin_question.ensures.sets c.begin_question.ensures.known c.requires.settled

pub returns-in-Some-clause-settled : goal.returns-in-Some-clause-settled
returns-in-Some-clause-settled c = begun (plain_ground c.args.ground.now) c.args.budget (map live_of c.args.live.now) c.args.blocks.now c.begin_question.new.self c.begin_question.ensures.sets c.begin_question.ensures.known c.requires.settled

pub returns-in_err-blocking-clause-settled : goal.returns-in_err-blocking-clause-settled
returns-in_err-blocking-clause-settled c = begun (plain_ground c.args.ground.now) c.args.budget (map live_of c.args.live.now) c.args.blocks.now c.begin_question.new.self c.begin_question.ensures.sets c.begin_question.ensures.known c.requires.settled

pub returns-in-Some-clause-eligible : goal.returns-in-Some-clause-eligible
returns-in-Some-clause-eligible c =
    let live = map live_of c.args.live.now in
    let base = plain_ground c.args.ground.now in
    let has = member base c.args.budget in
    subst (λ (o : Option Eligible). IfSome o (λ f. selectable has live c.args.queue.now ≡ Ok (eligible_of f))) c.in-Some.is
    (c.in_ok-found.ensures.eligible base c.args.budget
    (subst (λ (es : List (ℕ × PlainSet)). AreKnown base c.args.budget (sets_in es) c.begin_question.new.self.told) (sym c.begin_question.ensures.sets)
    (c.begin_question.ensures.known base c.args.budget (sets_in c.args.blocks.now.sets) c.requires.settled.known))
    live c.requires.settled.order (subst (λ (es : List (ℕ × PlainSet)). AreOf live (sets_in es)) (sym c.begin_question.ensures.sets) c.requires.settled.sets)
    (ap (λ (cs : List Candidate). tops_of cs) c.as_slice-requested.ensures.value ∙ c.in_ok-candidates.ensures ∙ tops_part (map lent c.args.asking.now) live c.requires.asking []) c.args.queue.now)

pub returns-clause-eligible : goal.returns-clause-eligible
returns-clause-eligible c =
    let live = map live_of c.args.live.now in
    c.told.ensures.eligible live (c.in_ok-candidates.ensures ∙ tops_part (map lent c.args.asking.now) live c.requires.asking [])
    (subst (λ (xs : List (Bor Stated)). IsPart blocks_nothing (map lent xs) live) (sym c.as_slice-blocking.ensures.value) c.in_ok-blocking.ensures)

pub returns-clause-tops : goal.returns-clause-tops
returns-clause-tops c = c.told.ensures.tops (map lent c.args.asking.now) c.in_ok-candidates.ensures

pub returns-clause-settled : goal.returns-clause-settled
returns-clause-settled c =
    let base = plain_ground c.args.ground.now in
    let live = map live_of c.args.live.now in
    settled_after base c.args.budget live c.begin_question.new.self c.told.new.blocks c.told.ensures.sets c.told.ensures.known
    (begun base c.args.budget live c.args.blocks.now c.begin_question.new.self c.begin_question.ensures.sets c.begin_question.ensures.known c.requires.settled)
