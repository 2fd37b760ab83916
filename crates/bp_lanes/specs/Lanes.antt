-- What contracts see of the two ends of a lane.
use Rattle.std.specs.Prelude.{ℕ, List, Bool}
use Rattle.std.specs.Option.{is_some}
use Rattle.rtrb.specs.Ring.{sent, known_free, received, known_items, IsPair, SameProducer, SameConsumer}
use Rattle.bp_log.specs.declared.item.Item.{Item}
use Rattle.bp_lanes.specs.declared.ends.Mouth.{Mouth}
use Rattle.bp_lanes.specs.declared.ends.Ear.{Ear}

-- all that was offered, oldest first
abbrev pub offered : Mouth → List Item
offered m = sent m.producer

-- how many free places the mouth knows of
abbrev pub free_places : Mouth → ℕ
free_places m = known_free m.producer

-- all that was taken, oldest first
abbrev pub taken : Ear → List Item
taken e = received e.consumer

-- the items that the ear knows that it can take, oldest first
abbrev pub known : Ear → List Item
known e = known_items e.consumer

-- whether the ear was compared with its mouth
abbrev pub is_closed : Ear → Bool
is_closed e = is_some e.left

-- the two ends of one lane
abbrev pub IsLane : Mouth → Ear → Type 0
IsLane m e = IsPair m.producer e.consumer

-- two states of one mouth
abbrev pub IsSameMouth : Mouth → Mouth → Type 0
IsSameMouth a b = SameProducer a.producer b.producer

-- two states of one ear
abbrev pub IsSameEar : Ear → Ear → Type 0
IsSameEar a b = SameConsumer a.consumer b.consumer
