use Rattle.std.proofs.Common.{◌+◌, ◌∙◌, ◌||◌, map, ap}
use Rattle.std.specs.List.{list_any}
use Rattle.bp_live.specs.Lives.{lent}
use Rattle.bp_live.specs.Candidates.{is_among, is_first}
use Rattle.bp_roll.specs.declared.key.Key.{Key}
use Rattle.bp_live.proofs.Firsts.{among_more, any_later, first_found, first_missing, firsts_more, firsts_same, firsts_last}
use Rattle.bp_live.proofs.choosing.firsts.Goals as goal
use Rattle.bp_live.proofs.choosing.firsts.Goals.{in-Some+in_ok-insert, in_default}

pub loop-stated-preserved : goal.loop-stated-preserved
loop-stated-preserved c =
    let all = c.args.asking.now in
    let i = c.loop-stated.stated-index in
    let x = c.stated-item.result in
    let test = is_among c.args.events.now in
    elim c.match-first_among.branch [
      | in-Some+in_ok-insert w ↦ λ e.
          firsts_more lent (is_first test e) all i x e w.in-Some.event.now (is_among c.loop-stated.firsts e) (is_among c.match-first_among.firsts e) (list_any (is_first test e) (map lent all))
          c.loop-stated-test.true c.stated-item.is (first_found test e w.in-Some.event.now (lent x) w.in-Some.ensures)
          (ap (λ s. is_among s e) w.firsts-is ∙ among_more (λ (k : Key). k.event.now) c.loop-stated.firsts.keys w.insert.new.self.keys _ e w.in_ok-insert.ensures.keys)
          (c.loop-stated.invariant e)
      | in_default w ↦ λ e.
          ap (λ s. is_among s e || any_later lent (is_first test e) (i + 1) all) w.firsts-is
          ∙ firsts_same lent (is_first test e) all i x (is_among c.loop-stated.firsts e) (list_any (is_first test e) (map lent all))
          c.loop-stated-test.true c.stated-item.is (first_missing test e (lent x) w.in_default.ensures) (c.loop-stated.invariant e)
    ]

pub returns : goal.returns
returns c = λ e.
    firsts_last lent (is_first (is_among c.args.events.now) e) c.args.asking.now c.loop-stated.stated-index (is_among c.loop-stated.firsts e) (list_any (is_first (is_among c.args.events.now) e) (map lent c.args.asking.now))
    c.loop-stated-test.false (c.loop-stated.invariant e)
