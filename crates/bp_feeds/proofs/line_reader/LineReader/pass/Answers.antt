use Rattle.std.proofs.Common.{rules, ◌≡◌, ◌≤◌, ◌++◌, true, false, refl, ap, arith}
use Rattle.bp_feeds.specs.declared.limits.TheConstants.{MOST_LINES}
use Rattle.bp_feeds.specs.Items.{ends, item_of}
use Rattle.bp_feeds.proofs.Cuts.{counted, sound, held_behind}
use Rattle.bp_feeds.proofs.Within.{line_passed, line_broken}
use Rattle.bp_feeds.proofs.Taking.{takes_none, takes_line}
use Rattle.bp_feeds.proofs.line_reader.LineReader.pass.Goals as goal

pub returns-then-is_end-clause-reads : goal.returns-then-is_end-clause-reads
returns-then-is_end-clause-reads g c =
    let is : c.in_ok-item.item ≡ item_of c.args.self.now.number c.args.self.now.line.items = search rules in
    let last : ends c.in_ok-item.item ≡ true = search rules in
    line_broken _ _ c.args.self.now.line.items c.requires.line.0 c.in_ok-item.item c.requires.within (ap (λ b. c.args.self.now.line.items ++ b) c.requires.line.1)
    c.args.self.now.unbroken is last refl refl

pub returns-then-is_end-clause-sound : goal.returns-then-is_end-clause-sound
returns-then-is_end-clause-sound g c =
    let is : c.in_ok-item.item ≡ item_of c.args.self.now.number c.args.self.now.line.items = search rules in
    sound c.args.self.now.number c.args.self.now.line.items c.in_ok-item.item is

pub invariant_of-self-2-clause-counted : goal.invariant_of-self-2-clause-counted
invariant_of-self-2-clause-counted g c =
    let is : c.in_ok-item.item ≡ item_of c.args.self.now.number c.args.self.now.line.items = search rules in
    let more : ends c.in_ok-item.item ≡ false = search rules in
    let few : c.args.self.now.number ≤ MOST_LINES = counted c.args.self.now.number c.args.self.now.line.items c.in_ok-item.item is more in
    omega arith

pub returns-clause-reads : goal.returns-clause-reads
returns-clause-reads g c =
    let is : c.in_ok-item.item ≡ item_of c.args.self.now.number c.args.self.now.line.items = search rules in
    let more : ends c.in_ok-item.item ≡ false = search rules in
    line_passed _ _ c.args.self.now.line.items c.requires.line.0 c.in_ok-item.item c.requires.within (ap (λ b. c.args.self.now.line.items ++ b) c.requires.line.1)
    c.args.self.now.unbroken is more c.requires.within
    (held_behind c.clear.new.self.items c.args.self.now.block c.skip.new.self c.requires.line.0 c.clear.ensures.items c.skip.ensures c.requires.line.1) refl refl

pub returns-clause-takes : goal.returns-clause-takes
returns-clause-takes g c =
    let behind : c.clear.new.self.items ++ c.skip.new.self ≡ c.requires.line.0 =
    held_behind c.clear.new.self.items c.args.self.now.block c.skip.new.self c.requires.line.0 c.clear.ensures.items c.skip.ensures c.requires.line.1 in
    takes_line c.args.self.now.line.items c.requires.line.0 _ _ c.args.self.now.unbroken (ap (λ b. c.args.self.now.line.items ++ b) c.requires.line.1) behind

pub returns-then-is_end-clause-takes : goal.returns-then-is_end-clause-takes
returns-then-is_end-clause-takes g c = takes_none _ _ refl
