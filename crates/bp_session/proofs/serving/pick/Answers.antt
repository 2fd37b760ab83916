use Rattle.bp_turns.proofs.Settled.{ok_map, err_map}
use Rattle.bp_session.proofs.Picked.{pick_leads_on, pick_cuts, picked_items}
use Rattle.bp_session.proofs.Waits.{stays_where, waits_where}
use Rattle.bp_session.proofs.serving.pick.Goals as goal

pub returns-clause-picks : goal.returns-clause-picks
returns-clause-picks c = ok_map c.pick.result _ _ (λ h. pick_leads_on c.args.core.now c.pick.new.self c.pick.ensures.kept h) c.pick.ensures.leads

pub returns-clause-waits : goal.returns-clause-waits
returns-clause-waits c = waits_where c.args.core.now c.pick.new.self c.pick.ensures.kept c.pick.result c.pick.ensures.leads c.pick.ensures.picked

pub returns-clause-cut : goal.returns-clause-cut
returns-clause-cut c = err_map c.pick.result _ _ (λ h. pick_cuts c.args.core.now c.pick.new.self c.pick.ensures.kept h) c.pick.ensures.cut

pub returns-clause-items : goal.returns-clause-items
returns-clause-items c = picked_items c.args.core.now c.pick.new.self c.pick.ensures.kept c.pick.result c.pick.ensures.leads c.pick.ensures.cut

pub returns-clause-stays : goal.returns-clause-stays
returns-clause-stays c = stays_where c.args.core.now c.pick.new.self c.pick.ensures.kept c.pick.result c.pick.ensures.leads c.pick.ensures.picked
