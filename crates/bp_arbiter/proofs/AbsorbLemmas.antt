-- An item of an injector goes on with the story.
use Rattle.std.proofs.Common.{◌≡◌, ℕ, Bool, true, false, List, [], ◌∷◌, ◌++◌, refl, sym, ap, ◌∙◌, Option, Some, None, nat_eq}
use Rattle.std.specs.List.{list_any}
use Rattle.js_data.specs.Event.{PlainEvent}
use Rattle.js_meaning.specs.Bodies.{Origin, the_top}
use Rattle.bp_log.specs.Options.{PlainOptions}
use Rattle.bp_log.specs.Records.{is_complete}
use Rattle.bp_log.specs.declared.item.Item.{Item}
use Rattle.bp_log.specs.declared.item.Item.TheVariants as item
use Rattle.bp_log.specs.declared.record.Record.{Record}
use Rattle.bp_log.specs.declared.record.Record.TheVariants.{In, Bad, Eof}
use Rattle.bp_log.specs.declared.trace.Line.{Line}
use Rattle.bp_log.specs.declared.verdict.Verdict.{Verdict}
use Rattle.bp_run.specs.Bodies.{Code}
use Rattle.bp_run.specs.Configuration.{Configuration, Stand}
use Rattle.bp_run.specs.Settling.{Pair, before, queued, initial}
use Rattle.bp_run.specs.Story.{story, story_from, after_record, may_come, has_room, read_out, first_bad}
use Rattle.bp_run.proofs.Stories.{story_on}
use Rattle.bp_run.proofs.Turns.{settle-rest}
use Rattle.bp_floor.specs.declared.phase.Phase.TheVariants.{Rest}
use Rattle.bp_floor.specs.Forgetting.{forgotten}
use Rattle.bp_floor.specs.Floors.{IsPhased, is_idle}
use Rattle.bp_arbiter.specs.Arbiters.{PlainArbiter, StandsFor, Recounts, code_in, options_in, stand_in}
use Rattle.bp_arbiter.specs.Absorb.{is_failed, fits, with_item, unread, absorbed}
use Rattle.bp_arbiter.proofs.PickLemmas.{unfilled}
use Rattle.bp_arbiter.proofs.Told.{at_rest_idle, no_verdict, settled_idle}

-- the story goes on with one record
pub one_more : (a : PlainArbiter) (r : Record) (c d : Configuration Origin) → Recounts a c → is_complete a.records ≡ false → story_from (code_in a) (options_in a) (r ∷ []) c ≡ Some d →
    story (code_in a) (options_in a) (a.records ++ r ∷ []) ≡ Some d
unfolding story
one_more a r c d h k e = story_on (code_in a) (options_in a) a.records (r ∷ []) (initial (code_in a) (options_in a).injectors) c h k ∙ e

pub comes_at : (c : Configuration Origin) (j : ℕ) (v : Option Verdict) (b : Bool) → c.stand.verdict ≡ v → v ≡ None → list_any (nat_eq j) c.reading ≡ b → b ≡ true → may_come c j ≡ true
comes_at c j None true h n e t = rw (h, e) refl
comes_at c j None false h n e t = absurd (cc)
comes_at c j (Some v) b h n e t = absurd (cc)

pub event_comes : {O S : Type 0} (l : Code O S) (o : PlainOptions) (c : Configuration O) (j : ℕ) (e : PlainEvent) → may_come c j ≡ true → has_room c.stand ≡ true →
    story_from l o (In j e ∷ []) c ≡ Some (record c { stand = queued e c.stand })
unfolding story_from after_record
event_comes l o c j e h k = rw (h, k) refl

pub bad_comes : {O S : Type 0} (l : Code O S) (o : PlainOptions) (c : Configuration O) (j n : ℕ) → may_come c j ≡ true → story_from l o (Bad j n ∷ []) c ≡ Some (record (read_out c j) { bad = first_bad c.bad j n })
unfolding story_from after_record
bad_comes l o c j n h = rw h refl

pub end_comes : {O S : Type 0} (l : Code O S) (o : PlainOptions) (c : Configuration O) (j : ℕ) → may_come c j ≡ true → story_from l o (Eof j ∷ []) c ≡ Some (read_out c j)
unfolding story_from after_record
end_comes l o c j h = rw h refl

module _ (a : PlainArbiter) (taken : List Line) (p : Pair Origin) (s : StandsFor a [] taken p) (k : IsPhased a.floor) (i : a.floor.phase ≡ Rest) (f : a.phase ≡ Rest) (going : is_complete a.records ≡ false) (j : ℕ)
    (read : list_any (nat_eq j) a.reading ≡ true) where
  told_stand : s.told.stand ≡ p.stand
  told_stand = s.settles ∙ settled_idle a [] taken p s k (ap is_idle i)

  bare : forgotten the_top p ≡ before taken a.floor.pair
  bare = s.floor ∙ ap (λ (q : Pair Origin). before taken q) (unfilled a.floor.pair)

  verdict_is : s.told.stand.verdict ≡ None
  verdict_is = ap (λ (x : Stand Origin). x.verdict) told_stand ∙ ap (λ (x : Pair Origin). x.stand.verdict) bare ∙ no_verdict a.floor k i

  comes : may_come s.told j ≡ true
  comes = comes_at s.told j s.told.stand.verdict (list_any (nat_eq j) s.told.reading) refl verdict_is refl (ap (λ (xs : List ℕ). list_any (nat_eq j) xs) s.reading ∙ read)

  room : (e : PlainEvent) → fits (stand_in a) (item.Offered e) ≡ true → has_room s.told.stand ≡ true
  room e h = ap has_room told_stand ∙ ap (λ (x : Pair Origin). has_room x.stand) bare ∙ h

  -- where the arbiter stands, once the item has entered
  pub stands_absorbed : (x : Item) → is_failed x ≡ false → fits (stand_in a) x ≡ true → StandsFor (absorbed j x a) [] taken (with_item x p)
  stands_absorbed (item.Offered e) n h =
      let c : Configuration Origin = record s.told { stand = queued e s.told.stand } in
      record {
        whole = s.whole;
        told = c;
        story = one_more a (In j e) s.told c s.story going (event_comes (code_in a) (options_in a) s.told j e comes (room e h));
        settles = ap (λ (x : Stand Origin). queued e x) told_stand
            ∙ sym (settle-rest (code_in a) (record p { stand = queued e p.stand }) (at_rest_idle a.floor [] taken p k s.floor (ap is_idle i)));
        reading = s.reading;
        bad = s.bad;
        drawn = s.drawn;
        floor = ap (λ (q : Pair Origin). record q { stand = queued e q.stand }) bare ∙ ap (λ (q : Pair Origin). before taken q) (sym (unfilled (record a.floor.pair { stand = queued e (stand_in a) })));
        calls = record { threads = (s.calls).threads; handlers = (s.calls).handlers };
      }
  stands_absorbed (item.Bad m) n h =
      let c : Configuration Origin = record (read_out s.told j) { bad = first_bad s.told.bad j m } in
      record {
        whole = s.whole;
        told = c;
        story = one_more a (Bad j m) s.told c s.story going (bad_comes (code_in a) (options_in a) s.told j m comes);
        settles = s.settles;
        reading = ap (unread j) s.reading;
        bad = ap (λ (b : Option (ℕ × ℕ)). first_bad b j m) s.bad;
        drawn = s.drawn;
        floor = s.floor;
        calls = s.calls;
      }
  stands_absorbed item.Failed n h = absurd (cc)
  stands_absorbed item.End n h =
      record {
        whole = s.whole;
        told = read_out s.told j;
        story = one_more a (Eof j) s.told (read_out s.told j) s.story going (end_comes (code_in a) (options_in a) s.told j comes);
        settles = s.settles;
        reading = ap (unread j) s.reading;
        bad = s.bad;
        drawn = s.drawn;
        floor = s.floor;
        calls = s.calls;
      }
