-- Programs may cross threads.
use denote.Param.Send.{IsSend, IsSync, sendable}
use Rattle.std.proofs.Crossing.{crosses}
use Rattle.js_data.proofs.Crosses.{text_send, text_sync, whole_send, whole_sync, text_arc_send, text_arc_sync}
use Rattle.js_tree.proofs.tree.Sign.TheSendSync as sign
use Rattle.js_tree.proofs.tree.Step.TheSendSync as step
use Rattle.js_tree.proofs.tree.Fix.TheSendSync as fix
use Rattle.js_tree.proofs.tree.Operator.TheSendSync as operator
use Rattle.js_tree.proofs.tree.AssignOp.TheSendSync as assignop
use Rattle.js_tree.proofs.tree.DeclareKind.TheSendSync as declarekind
use Rattle.js_program.proofs.node.NodeForm.TheSendSync as form
use Rattle.js_program.proofs.node.Node.TheSendSync as node
use Rattle.js_program.specs.contracts.node.NodeForm as NodeForm
use Rattle.js_program.specs.contracts.node.Node as Node
use Rattle.js_program.specs.contracts.node.Body as Body
use Rattle.js_program.specs.contracts.program.Program as Program

form_send : IsSend NodeForm.the_row
form_send = search (sendable, crosses, form.the_send, whole_send, text_send, text_arc_send, sign.the_send, step.the_send, fix.the_send, operator.the_send, assignop.the_send, declarekind.the_send) depth 18

form_sync : IsSync NodeForm.the_row
form_sync = search (sendable, crosses, form.the_sync, whole_sync, text_sync, text_arc_sync, sign.the_sync, step.the_sync, fix.the_sync, operator.the_sync, assignop.the_sync, declarekind.the_sync) depth 18

node_send : IsSend Node.the_row
node_send = search (sendable, node.the_send, form_send)

node_sync : IsSync Node.the_row
node_sync = search (sendable, node.the_sync, form_sync)

body_send : IsSend Body.the_row
body_send = search (sendable, crosses) depth 18

body_sync : IsSync Body.the_row
body_sync = search (sendable, crosses) depth 18

pub program_send : IsSend Program.the_row
program_send = search (sendable, crosses, node_send, body_send) depth 18

pub program_sync : IsSync Program.the_row
program_sync = search (sendable, crosses, node_sync, body_sync) depth 18
