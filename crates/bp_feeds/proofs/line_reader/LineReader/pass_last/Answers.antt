use Rattle.std.proofs.Common.{rules, ◌≡◌, ◌<◌, ◌≤◌, ◌∙◌, ◌++◌, ℕ, List, [], true, false, refl, ap, append-nil, length, arith}
use Rattle.std.proofs.lemmas.List.{nil_from_length}
use Rattle.bp_feeds.specs.declared.limits.TheConstants.{MOST_LINES}
use Rattle.bp_feeds.specs.Items.{ends, item_of}
use Rattle.bp_feeds.proofs.Cuts.{counted, sound}
use Rattle.bp_feeds.proofs.Within.{last_passed, last_broken, end_told}
use Rattle.bp_feeds.proofs.Taking.{takes_none, takes_last}
use Rattle.bp_feeds.proofs.line_reader.LineReader.pass_last.Goals as goal

pub returns-then-is_end-clause-reads : goal.returns-then-is_end-clause-reads
returns-then-is_end-clause-reads g c =
    let is : c.in_ok-item.item ≡ item_of c.args.self.now.number c.args.self.now.line.items = search rules in
    let last : ends c.in_ok-item.item ≡ true = search rules in
    let some : 0 < length c.args.self.now.line.items = search rules in
    last_broken _ _ c.args.self.now.line.items c.in_ok-item.item c.requires.within (ap (λ b. c.args.self.now.line.items ++ b) c.requires.all ∙ append-nil c.args.self.now.line.items)
    c.args.self.now.unbroken some is last refl refl

pub returns-then-is_end-clause-sound : goal.returns-then-is_end-clause-sound
returns-then-is_end-clause-sound g c =
    let is : c.in_ok-item.item ≡ item_of c.args.self.now.number c.args.self.now.line.items = search rules in
    sound c.args.self.now.number c.args.self.now.line.items c.in_ok-item.item is

pub invariant_of-self-2-clause-counted : goal.invariant_of-self-2-clause-counted
invariant_of-self-2-clause-counted g c =
    let is : c.in_ok-item.item ≡ item_of c.args.self.now.number c.args.self.now.line.items = search rules in
    let more : ends c.in_ok-item.item ≡ false = search rules in
    let few : c.args.self.now.number ≤ MOST_LINES = counted c.args.self.now.number c.args.self.now.line.items c.in_ok-item.item is more in
    omega arith

pub returns-clause-reads : goal.returns-clause-reads
returns-clause-reads g c =
    let is : c.in_ok-item.item ≡ item_of c.args.self.now.number c.args.self.now.line.items = search rules in
    let more : ends c.in_ok-item.item ≡ false = search rules in
    let some : 0 < length c.args.self.now.line.items = search rules in
    last_passed _ _ c.args.self.now.line.items c.in_ok-item.item c.requires.within (ap (λ b. c.args.self.now.line.items ++ b) c.requires.all ∙ append-nil c.args.self.now.line.items)
    c.args.self.now.unbroken some is more refl refl

pub returns-then-is_empty-clause-reads : goal.returns-then-is_empty-clause-reads
returns-then-is_empty-clause-reads g c =
    let zero : length c.args.self.now.line.items ≡ 0 = search rules in
    let none : c.args.self.now.line.items ≡ [] = nil_from_length c.args.self.now.line.items zero in
    end_told _ _ c.requires.within (ap (λ l. l ++ c.args.self.now.block) none ∙ c.requires.all) refl refl

pub returns-then-is_end-clause-takes : goal.returns-then-is_end-clause-takes
returns-then-is_end-clause-takes g c = takes_none _ _ refl

pub returns-then-is_empty-clause-takes : goal.returns-then-is_empty-clause-takes
returns-then-is_empty-clause-takes g c = takes_none _ _ refl

pub returns-clause-takes : goal.returns-clause-takes
returns-clause-takes g c =
    takes_last c.args.self.now.line.items _ _ c.args.self.now.unbroken (ap (λ b. c.args.self.now.line.items ++ b) c.requires.all ∙ append-nil c.args.self.now.line.items)
    (ap (λ (l : List ℕ). l ++ c.args.self.now.block) c.clear.ensures.items ∙ c.requires.all)
