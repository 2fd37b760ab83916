-- What the thread of an injector gives back may move to another thread.
use denote.RattleType.{RattleType}
use denote.Param.Send.{IsSend, sendable}
use denote.Param.SendFields.{declared_send, variants_send}
use Rattle.std.specs.contracts.alloc.Global as Heap
use Rattle.std.specs.contracts.impls.GlobalAllocator.TheImpl.{ghosts}
use Rattle.std.proofs.option.Option.TheSendSync as option
use Rattle.std.proofs.Crossing.{send as heap_send, frees}
use Rattle.rtrb.specs.contracts.consumer.Consumer as Consumer
use Rattle.rtrb.specs.contracts.AnyItems as Any
use Rattle.rtrb.specs.contracts.AnyItemsProtocol.TheImpl as any
use Rattle.rtrb.specs.declared.Protocol as Protocol
use Rattle.rtrb.proofs.consumer.Consumer.TheSendSync as consumer
use Rattle.rtrb.proofs.producer.Producer.TheSendSync as producer
use Rattle.js_data.proofs.Crosses.{event_send}
use Rattle.bp_log.specs.contracts.item.Item as Item
use Rattle.bp_lanes.specs.contracts.ends.Mouth as Mouth
use Rattle.bp_feeds.specs.contracts.feed.Feed as Feed
use Rattle.bp_feeds.proofs.line_reader.LineReader.TheSendSync as reader
use Rattle.bp_inject.proofs.injecting.Injected.TheSendSync as injected
use Rattle.bp_inject.specs.contracts.running.Turned as Turned

item_send : IsSend Item.the_row
item_send = variants_send Item.enum ((event_send, tt), ((search sendable, tt), (tt, (tt, tt))))

mouth_send : IsSend Mouth.the_row
mouth_send = declared_send Mouth.the_type (producer.the_send Item.the_row Heap.the_row Any.the_row ghosts (any.ghosts Item.the_row) item_send heap_send frees, tt)

pub feed_send : (S : RattleType) → IsSend S → IsSend (Feed.the_row S)
feed_send S s = declared_send (Feed.the_type S) (reader.the_send S s, (mouth_send, (option.the_send Item.the_row item_send, tt)))

pub intake_send : (T P : RattleType) (gp : Protocol.Ghosts P.Denot T.Denot) → IsSend T → IsSend (Consumer.the_row T Heap.the_row P ghosts gp)
intake_send T P gp s = consumer.the_send T Heap.the_row P ghosts gp s heap_send frees

pub turned_send : (S : RattleType) → IsSend S → IsSend (Turned.the_row S)
turned_send S s = declared_send (Turned.the_type S) (feed_send S s, (search (sendable, injected.the_send) depth 18, (intake_send (Feed.the_row S) _ _ (feed_send S s), tt)))
