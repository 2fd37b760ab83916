-- What a selected event is, and what it does, in every configuration.
use Rattle.std.proofs.Common.{◌≡◌, ℕ, List, length, map, ap, ◌∙◌, Option, Some, Ok, slice_get, option_map}
use Rattle.js_data.specs.Event.{PlainEvent}
use Rattle.bp_log.specs.Options.{PlainOptions}
use Rattle.bp_run.specs.Bodies.{Code}
use Rattle.bp_run.specs.Configuration.{Configuration, Stand, Thread}
use Rattle.bp_run.specs.Selecting.{live, stated}
use Rattle.bp_run.specs.Choosing.{Choice, Touched}
use Rattle.bp_run.specs.Chosen.{IsChosen}
use Rattle.bp_run.specs.Story.{next, step, stepped}
use Rattle.bp_run.specs.Story.Next.{Selects}
use Rattle.bp_run.specs.Numbers.{IsRising, number_of, touch_at, after_touch, touch_of}
use Rattle.bp_run.proofs.Stories.{selects}
use Rattle.bp_run.proofs.Chosen.{choice_is_chosen}
use Rattle.bp_run.proofs.Numbers.{reach_rising, live_rising, reach_each, touch_each, length-touch_all, stepped_rising}

pub selected_is_chosen : {O S : Type 0} (l : Code O S) (o : PlainOptions) (c : Configuration O) (ch : Choice) (r : List Touched) → next l o c ≡ Selects ch r → IsChosen l.has (live l c.stand) c.stand.queue ch
selected_is_chosen l o c ch r h = choice_is_chosen l.has l.word o.strategy (live l c.stand) c.stand.queue c.drawn ch (selects l o c ch r h).choice_is

pub selected_says : {O S : Type 0} (l : Code O S) (o : PlainOptions) (c : Configuration O) (ch : Choice) (r : List Touched) → next l o c ≡ Selects ch r → (i : ℕ) (t : Thread O) →
    slice_get c.stand.threads i ≡ Some t → touch_of l.has ch.event (stated l i t) ≡ Ok (touch_at i r)
selected_says l o c ch r h i t k = reach_each l c.stand ch.event r i t (selects l o c ch r h).reach_is k

pub selected_does : {O S : Type 0} (l : Code O S) (o : PlainOptions) (c : Configuration O) (ch : Choice) (r : List Touched) → next l o c ≡ Selects ch r → (i : ℕ) (t : Thread O) →
    slice_get c.stand.threads i ≡ Some t → slice_get (step c.stand ch.event ch.place r).threads i ≡ Some (after_touch ch.event (touch_at i r) t)
unfolding step
selected_does l o c ch r h i t k =
    let up = reach_rising l.has ch.event (live l c.stand) r 0 (length c.stand.threads) (selects l o c ch r h).reach_is (live_rising l c.stand) in
    touch_each ch.event r 0 (length c.stand.threads) i c.stand.threads up ∙ ap (λ (x : Option (Thread _)). option_map (after_touch ch.event (touch_at i r)) x) k

pub selected_count : {O : Type 0} (s : Stand O) (e : PlainEvent) (place : Option ℕ) (r : List Touched) → length (step s e place r).threads ≡ length s.threads
unfolding step
selected_count s e place r = length-touch_all e r s.threads

pub selected_rising : {O S : Type 0} (l : Code O S) (o : PlainOptions) (c : Configuration O) (ch : Choice) (r : List Touched) → next l o c ≡ Selects ch r →
    IsRising 0 (length c.stand.threads) (map number_of (stepped l c.stand ch.event ch.place r).entries)
selected_rising l o c ch r h = stepped_rising l c.stand ch.event ch.place r (selects l o c ch r h).reach_is
