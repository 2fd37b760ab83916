use Rattle.std.proofs.Common.{◌≡◌, List, ◌++◌, ℕ, length, subst}
use Rattle.bp_feeds.specs.Items.{has_break}
use Rattle.std.specs.Prelude.{nat_lt}
use Rattle.bp_feeds.proofs.Cuts.{breaks_at}
use Rattle.bp_feeds.proofs.line_reader.LineReader.holds_line.Goals as goal

pub returns : goal.returns
returns g c =
    let line = c.args.self.now.line.items in
    subst (λ (block : List ℕ). nat_lt c.length_of_front.result (length c.rest-rest.result.now) ≡ has_break (line ++ block)) c.rest-rest.ensures
    (breaks_at line c.rest-rest.result.now c.length_of_front.result c.args.self.now.unbroken c.length_of_front.ensures.front c.length_of_front.ensures.stops)
