use Rattle.bp_live.specs.Lives.{live_of}
use Rattle.bp_select.proofs.HeedLemmas.{heeds_all}
use Rattle.bp_select.proofs.keys.keys_of.Goals as goal

pub returns : goal.returns
returns c =
    heeds_all (live_of c.args.stated.now) c.in_ok-keys.keys.items c.add_if.new.keys.items c.add_if-2.new.keys.items c.asks.result c.blocks-2.result c.in_ok-keys.ensures
    c.add_if.ensures.others c.add_if-2.ensures.others c.asks.ensures c.in_ok-add_if.ensures.there c.blocks-2.ensures c.in_ok-add_if-2.ensures.there
