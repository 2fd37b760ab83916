-- What a statement shares with its copies.
use Rattle.std.specs.Prelude.{List, [], Option, Some, None}
use Rattle.std.specs.declared.alloc.Global.{Global}
use Rattle.std.specs.declared.sync.Arc.{Arc}
use Rattle.js_data.specs.Event.{PlainEvent}

-- no events where nothing is shared
abbrev pub events_shared : Option (Arc (List PlainEvent) Global) → List PlainEvent
events_shared None = []
events_shared (Some events) = events.value
