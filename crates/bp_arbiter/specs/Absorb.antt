-- An item of an injector enters.
use Rattle.std.specs.Prelude.{◌≡◌, ℕ, Bool, true, false, not, nat_eq, List, [], ◌∷◌, ◌++◌, filter}
use Rattle.js_meaning.specs.Bodies.{Origin}
use Rattle.bp_log.specs.declared.item.Item.{Item}
use Rattle.bp_log.specs.declared.item.Item.TheVariants as item
use Rattle.bp_log.specs.declared.record.Record.TheVariants.{In, Bad, Eof}
use Rattle.bp_run.specs.Configuration.{Stand}
use Rattle.bp_run.specs.Settling.{Pair, queued}
use Rattle.bp_run.specs.Story.{has_room, first_bad}
use Rattle.bp_floor.specs.declared.absorb.Absorb.{Absorb}
use Rattle.bp_floor.specs.declared.absorb.Absorb.TheVariants.{Full, Memory}
use Rattle.bp_arbiter.specs.Arbiters.{PlainArbiter, stand_in}

abbrev pub is_failed : Item → Bool
is_failed (item.Offered e) = false
is_failed (item.Bad n) = false
is_failed item.Failed = true
is_failed item.End = false

-- an event takes a place of the queue
abbrev pub fits : Stand Origin → Item → Bool
fits s (item.Offered e) = has_room s
fits s (item.Bad n) = true
fits s item.Failed = true
fits s item.End = true

-- the item comes back: `Full` exactly where it doesn't fit
abbrev pub ComesBack : Stand Origin → Item → Absorb → Type 0
ComesBack s i (Full x) = (x ≡ i) × (fits s i ≡ false)
ComesBack s i (Memory x) = (x ≡ i) × (fits s i ≡ true)

abbrev pub with_event : Stand Origin → Item → Stand Origin
with_event s (item.Offered e) = queued e s
with_event s (item.Bad n) = s
with_event s item.Failed = s
with_event s item.End = s

-- the pair, with the event in its queue
abbrev pub with_item : Item → Pair Origin → Pair Origin
with_item i p = record p { stand = with_event p.stand i }

abbrev pub unread : ℕ → List ℕ → List ℕ
unread j reading = filter (λ k. not (nat_eq j k)) reading

-- the arbiter, once the item of this injector has entered
abbrev pub absorbed : ℕ → Item → PlainArbiter → PlainArbiter
absorbed j (item.Offered e) a =
    record a {
      floor = record a.floor { pair = record a.floor.pair { stand = queued e (stand_in a) } };
      records = a.records ++ In j e ∷ [];
    }
absorbed j (item.Bad n) a =
    record a {
      reading = unread j a.reading;
      bad = first_bad a.bad j n;
      records = a.records ++ Bad j n ∷ [];
    }
absorbed j item.Failed a = a
absorbed j item.End a = record a { reading = unread j a.reading; records = a.records ++ Eof j ∷ [] }
