-- Where a run waits, and turns of injectors that have no thread.
use Rattle.std.specs.Prelude.{◌≡◌, ◌⊎◌, ℕ, ◌+◌, Bool, true, false, not, ◌&&◌, List, [], ◌∷◌, ◌++◌, IsSome, ◌<◌, length, slice_index_or}
use Rattle.js_meaning.specs.Bodies.{Origin}
use Rattle.bp_log.specs.declared.item.Item.{Item}
use Rattle.bp_run.specs.Configuration.{Configuration}
use Rattle.bp_run.specs.Story.Next.{Waits}
use Rattle.bp_arbiter.specs.Arbiters.{Recounts, options_in, coming}
use Rattle.bp_core.specs.declared.stepping.Core.{Core}
use Rattle.bp_lanes.specs.Lanes.{offered, free_places}
use Rattle.bp_feeds.specs.declared.feed.Feed.{Feed}
use Rattle.bp_feeds.specs.Feeds.{is_over}
use Rattle.bp_inject.specs.Injectors.{feed_of, is_running}
use Rattle.bp_session.specs.declared.reading.Reading.{Reading}

-- the run waits for its injectors, and nothing comes of its records until an item does
pub record IsWaiting (c : Core) : Type 0 where
  pub waits : (options_in c.arbiter).wait ≡ true
  pub nothing_comes : (d : Configuration Origin) → Recounts c.arbiter d → coming c.arbiter d ≡ Waits

module _ {S : Type 0} where
  -- whether the injector has no thread and is not over
  abbrev pub turns_here : Reading S → Bool
  turns_here r = not (is_running r.started) && not (is_over (feed_of r.started))

  -- The feed made a turn: an item was offered, or a line was passed over, or the last item was
  -- offered, or an item is kept for which there is no place.
  abbrev pub IsTurn : Feed S → Feed S → Type 0
  IsTurn old new =
      ((item : Item) × (offered new.mouth ≡ offered old.mouth ++ item ∷ []))
      ⊎ (new.lines.number ≡ old.lines.number + 1)
      ⊎ (is_over new ≡ true)
      ⊎ (IsSome new.kept × (free_places new.mouth ≡ 0))

  -- one that has no thread and is not over made a turn, and another did not
  pub record MakesTurn (old new : Reading S) : Type 0 where
    pub turned : turns_here old ≡ true → IsTurn (feed_of old.started) (feed_of new.started)
    pub stays : turns_here old ≡ false → new.started ≡ old.started

  -- each of them that has no thread and is not over made a turn, and the others did not
  abbrev pub MakeTurns : List (Reading S) → List (Reading S) → Type 0
  MakeTurns old new =
      (k : ℕ) (d e : Reading S) → k < length old
      → MakesTurn (slice_index_or old k d) (slice_index_or new k e)
