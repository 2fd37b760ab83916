-- Candidates and their maps, as events with their greatest priorities.
use Rattle.std.specs.Prelude.{ℤ, Bool, false, List, map, find, Some, None}
use Rattle.std.specs.List.{list_any}
use Rattle.std.specs.declared.hash.FoldHasher.{FoldHasher}
use Rattle.std.specs.declared.hash.BuildHasherDefault.{BuildHasherDefault}
use Rattle.indexmap.specs.IndexMap.{IndexMap}
use Rattle.indexmap.specs.IndexSet.{IndexSet}
use Rattle.js_data.specs.Event.{PlainEvent, same_event}
use Rattle.js_value.specs.Value.{PlainSet}
use Rattle.bp_run.specs.Selecting.{Live}
use Rattle.bp_live.specs.declared.candidate.Candidate.{Candidate}
use Rattle.bp_roll.specs.declared.key.Key.{Key}
use Rattle.bp_live.specs.Tops.{Top}

abbrev pub event_of : Candidate → PlainEvent
event_of c = c.event.now

abbrev pub events_in : List Candidate → List PlainEvent
events_in cs = map event_of cs

abbrev pub tops_of : List Candidate → List Top
tops_of cs = map (λ c. (c.event.now, c.top)) cs

abbrev pub candidate_of : Key × ℤ → Candidate
candidate_of p = record { event = p.0.event; top = p.1 }

abbrev pub tops_in : IndexMap Key ℤ (BuildHasherDefault FoldHasher) → List Top
tops_in m = map (λ p. (p.0.event.now, p.1)) m.entries

-- whether e is one of the keys
abbrev pub is_among : IndexSet Key (BuildHasherDefault FoldHasher) → PlainEvent → Bool
is_among s e = list_any (λ k. same_event e k.event.now) s.keys

-- whether e is the first request of the b-thread that passes the test
abbrev pub is_first : (PlainEvent → Bool) → PlainEvent → Live PlainSet → Bool
is_first test e t = elim (find test t.statement.request) [ None ↦ false | Some r ↦ same_event r e ]
