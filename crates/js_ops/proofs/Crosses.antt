-- The table of the rules may cross threads.
use denote.Param.Send.{IsSend, IsSync, sendable}
use Rattle.std.proofs.Crossing.{crosses}
use Rattle.bp_tables.proofs.row.Row.TheSendSync as row
use Rattle.bp_tables.proofs.table.Table.TheSendSync as table
use Rattle.js_ops.proofs.rule.Rule.TheSendSync as rule
use Rattle.js_ops.specs.contracts.rules.Rules as Rules

pub rules_send : IsSend Rules.the_row
rules_send = search (sendable, crosses, table.the_send, row.the_send, rule.the_send) depth 18

pub rules_sync : IsSync Rules.the_row
rules_sync = search (sendable, crosses, table.the_sync, row.the_sync, rule.the_sync) depth 18
