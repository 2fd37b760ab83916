-- Jobs may move to other threads, with their machines, effects and statements.
use denote.Param.Send.{IsSend, IsSync, sendable}
use denote.Param.SendFields.{declared_send, variants_send}
use Rattle.std.specs.contracts.sync.Arc as Arc
use Rattle.std.specs.contracts.alloc.Global as Heap
use Rattle.std.specs.contracts.impls.GlobalAllocator.TheImpl.{ghosts}
use Rattle.std.proofs.Crossing.{crosses, Arc-send, send as heap_send}
use Rattle.js_data.proofs.fault.Fault.TheSendSync as fault
use Rattle.js_data.proofs.whole.Whole.TheSendSync as whole
use Rattle.js_data.proofs.Crosses.{text_send, event_send, event_sync}
use Rattle.js_program.proofs.builtin.Mode.TheSendSync as mode
use Rattle.js_value.proofs.Crosses.{items_send, value_send, event_set_send}
use Rattle.js_frames.proofs.Crosses.{effects_send, machine_send}
use Rattle.bp_thread.specs.contracts.events.Events as Events
use Rattle.bp_thread.specs.contracts.requests.Requests as Requests
use Rattle.bp_thread.specs.contracts.replies.Replies as Replies
use Rattle.js_data.specs.contracts.event.Event as Event
use Rattle.bp_thread.specs.contracts.statement.Statement as Statement
use Rattle.bp_thread.specs.contracts.outcome.Outcome as Outcome
use Rattle.bp_thread.specs.contracts.origin.Origin as Origin
use Rattle.bp_thread.specs.contracts.job.JobParts as JobParts
use Rattle.bp_thread.specs.contracts.job.Job as Job

events_send : IsSend Events.the_row
events_send = search (sendable, crosses, event_send) depth 18

-- ---- requested events are shared

events_sync : IsSync Events.the_row
events_sync = search (sendable, crosses, event_sync) depth 18

shared_send : IsSend (Arc.the_row Events.the_row Heap.the_row ghosts)
shared_send = Arc-send _ events_send events_sync

requests_send : IsSend Requests.the_row
requests_send = search (sendable, shared_send) depth 18

-- ---- replies are shared

reply_send : IsSend (Arc.the_row Event.the_row Heap.the_row ghosts)
reply_send = Arc-send _ event_send event_sync

replies_send : IsSend Replies.the_row
replies_send = search (sendable, crosses, reply_send) depth 18

-- ---- statements, outcomes and jobs

statement_send : IsSend Statement.the_row
statement_send =
    declared_send Statement.the_type
    (requests_send, (search (sendable, event_set_send) depth 18, (search (sendable, event_set_send) depth 18, (search (sendable, event_set_send) depth 18, (search (sendable, whole.the_send), tt)))))

outcome_send : IsSend Outcome.the_row
outcome_send = variants_send Outcome.enum ((statement_send, tt), (tt, ((search (sendable, fault.the_send), (search sendable, tt)), ((text_send, tt), (tt, tt)))))

origin_send : IsSend Origin.the_row
origin_send = variants_send Origin.enum (tt, ((search (sendable, mode.the_send), (search (sendable, value_send), (search (sendable, items_send), tt))), tt))

parts_send : IsSend JobParts.the_row
parts_send = declared_send JobParts.the_type
    (search (sendable, heap_send), (search sendable, (text_send, (origin_send, (replies_send, (search (sendable, machine_send) depth 18, (effects_send, (search (sendable, value_send) depth 18, (search (sendable, outcome_send) depth 18, tt)))))))))

pub job_send : IsSend Job.the_row
job_send = declared_send Job.the_type (search (sendable, crosses, parts_send) depth 18, tt)
