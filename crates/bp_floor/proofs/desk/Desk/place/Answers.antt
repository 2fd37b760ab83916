use Rattle.std.proofs.Common.{◌≡◌, sym, subst, option_map}
use Rattle.std.proofs.lemmas.Result.{on_ok_weaker}
use Rattle.bp_thread.specs.Views.{plain_statement, stated_set}
use Rattle.bp_floor.specs.inner.Desks.{PlainDesk, Fits, block_at}
use Rattle.bp_floor.proofs.Settled.{fits_placed}
use Rattle.bp_floor.proofs.desk.Desk.place.Goals as goal

pub returns-clause-fits : goal.returns-clause-fits
returns-clause-fits c =
    let d : PlainDesk = record { bench = c.self.inside.bench; queue = c.self.inside.queue; front = c.self.inside.front } in
    let before = option_map (λ s. s.now) c.args.before in
    on_ok_weaker c.place.result
    (λ live base budget at f.
    fits_placed base budget c.args.number (option_map plain_statement c.args.statement) d c.place.new.self c.restate.new.self before (option_map (λ s. s.now) c.block_of.result) live (c.place.ensures.fits base budget) c.restate.ensures
    (subst (λ (x : PlainDesk). block_at c.args.number x.bench.live ≡ stated_set before) (sym c.self.view_is) at) c.block_of.ensures (subst (λ (x : PlainDesk). Fits x base budget) (sym c.self.view_is) f)) c.place.ensures.placed
