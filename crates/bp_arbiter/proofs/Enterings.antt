-- What the entering of an item leaves.
use Rattle.std.proofs.Common.{◌≡◌, ℕ, Bool, true, false, List, [], refl, sym, ap, ◌∙◌, subst, Result, Ok, Err, OnOk, OnErr, nat_eq}
use Rattle.std.specs.Prelude.{Vec}
use Rattle.std.specs.List.{list_any}
use Rattle.std.specs.declared.alloc.Global.{Global}
use Rattle.js_meaning.specs.Bodies.{Origin}
use Rattle.bp_log.specs.Options.{PlainOptions}
use Rattle.bp_log.specs.Records.{is_complete}
use Rattle.bp_log.specs.declared.item.Item.{Item}
use Rattle.bp_log.specs.declared.item.Item.TheVariants as item
use Rattle.bp_log.specs.declared.record.Record.{Record}
use Rattle.bp_log.specs.declared.record.Record.TheVariants.{In, Bad, Eof}
use Rattle.bp_log.specs.declared.trace.Line.{Line}
use Rattle.bp_log.proofs.Complete.{complete_by_last}
use Rattle.bp_run.specs.Settling.{Pair}
use Rattle.bp_thread.specs.declared.job.Job.{Job}
use Rattle.bp_floor.specs.declared.phase.Phase.{Phase}
use Rattle.bp_floor.specs.declared.phase.Phase.TheVariants.{Rest}
use Rattle.bp_floor.specs.Floors.{IsPhased}
use Rattle.bp_arbiter.specs.declared.run.Run.{Run}
use Rattle.bp_arbiter.specs.Arbiters.{PlainArbiter, StandsFor, Keeps, is_over, options_in, stand_in}
use Rattle.bp_arbiter.specs.Sound.{IsSound, IsStanding}
use Rattle.bp_arbiter.specs.Absorb.{is_failed, fits, with_item, absorbed}
use Rattle.bp_arbiter.specs.Runs.{seen}
use Rattle.bp_arbiter.proofs.Standing.{sound_of}
use Rattle.bp_arbiter.proofs.AbsorbLemmas.{stands_absorbed}
use Rattle.bp_arbiter.proofs.Turnings.{IsAt, at_phase}

still_open : (j : ℕ) (x : Item) (a : PlainArbiter) → is_complete a.records ≡ false → is_complete (absorbed j x a).records ≡ false
still_open j (item.Offered e) a h = complete_by_last a.records (In j e)
still_open j (item.Bad n) a h = complete_by_last a.records (Bad j n)
still_open j item.Failed a h = h
still_open j item.End a h = complete_by_last a.records (Eof j)

same_phase : (j : ℕ) (x : Item) (a : PlainArbiter) → (absorbed j x a).phase ≡ a.phase
same_phase j (item.Offered e) a = refl
same_phase j (item.Bad n) a = refl
same_phase j item.Failed a = refl
same_phase j item.End a = refl

same_options : (j : ℕ) (x : Item) (a : PlainArbiter) → options_in (absorbed j x a) ≡ options_in a
same_options j (item.Offered e) a = refl
same_options j (item.Bad n) a = refl
same_options j item.Failed a = refl
same_options j item.End a = refl

keeps_item : (j : ℕ) (x : Item) (a : PlainArbiter) → Keeps a → Keeps (absorbed j x a)
keeps_item j (item.Offered e) a k = record { steps = k.steps; drawn = k.drawn; floor_phase = k.floor_phase; floor_whole = k.floor_whole }
keeps_item j (item.Bad n) a k = record { steps = k.steps; drawn = k.drawn; floor_phase = k.floor_phase; floor_whole = k.floor_whole }
keeps_item j item.Failed a k = k
keeps_item j item.End a k = record { steps = k.steps; drawn = k.drawn; floor_phase = k.floor_phase; floor_whole = k.floor_whole }

module _ (a : PlainArbiter) (r : Run) (i : IsAt Rest a r) (j : ℕ) (x : Item) (read : list_any (nat_eq j) a.reading ≡ true) (sound : is_failed x ≡ false) (room : fits (stand_in a) x ≡ true) where
  standing : IsStanding (seen r Rest false)
  standing = (i.sound).standing refl

  here : (taken : List Line) (p : Pair Origin) → StandsFor (seen r Rest false) [] taken p → StandsFor (absorbed j x (seen r Rest false)) [] taken (with_item x p)
  here taken p s =
      stands_absorbed (seen r Rest false) taken p s i.phased (standing.keeps).floor_phase refl (i.sound).over j
      (ap (λ (y : PlainArbiter). list_any (nat_eq j) y.reading) (sym i.is) ∙ read) x sound (ap (λ (y : PlainArbiter). fits (stand_in y) x) (sym i.is) ∙ room)

  module _ (r' : Run) (e : (f : Phase) (b : Bool) → seen r' f b ≡ absorbed j x (seen r f b)) (seed : r'.draw.seed ≡ r.draw.seed) where
    pub absorb_stands : (taken : List Line) (p : Pair Origin) → StandsFor a [] taken p → StandsFor (seen r' Rest false) [] taken (with_item x p)
    absorb_stands taken p s =
        subst (λ (y : PlainArbiter). StandsFor y [] taken (with_item x p)) (sym (e Rest false)) (here taken p (subst (λ (y : PlainArbiter). StandsFor y [] taken p) i.is s))

    -- the arbiter after the item
    pub absorb_sound : IsSound r'.draw.seed (seen r' Rest false)
    absorb_sound =
        let v = seen r Rest false in
        let s = subst (λ (js : List Job). StandsFor v js standing.taken standing.pair) (standing.unlent refl) standing.stands in
        subst (λ (y : PlainArbiter). IsSound r'.draw.seed y) (sym (e Rest false))
        (sound_of r'.draw.seed (absorbed j x v) [] standing.taken (with_item x standing.pair)
        (seed ∙ (i.sound).seed_is ∙ ap (λ (o : PlainOptions). o.seed) (sym (same_options j x v)))
        (still_open j x v (i.sound).over ∙ sym (ap is_over (same_phase j x v)))
        (here standing.taken standing.pair s) (λ u. refl) (keeps_item j x v standing.keeps))

-- ---- where an item enters or comes back

-- with a place for one record more
pub at_reserved : (f : Phase) (a : PlainArbiter) (r : Run) (x : Vec Record Global) (g : Phase) (b : Bool) → x.items ≡ r.records.items → seen r g b ≡ a → a.phase ≡ f → b ≡ false → IsSound r.draw.seed (seen r g b) →
    (r.floor.broken ≡ false → IsPhased r.floor) → IsAt f a (record r { records = x })
at_reserved f a r x g b h v k w s o =
    let e : seen (record r { records = x }) g b ≡ seen r g b = ap (λ (rs : List Record). record (seen r g b) { records = rs }) h in
    at_phase f a (record r { records = x }) g b (e ∙ v) k w (subst (λ (y : PlainArbiter). IsSound r.draw.seed y) (sym e) s) o

at_last : (g : Phase) (b : Bool) → g ≡ Rest → b ≡ false → (P : Phase → Bool → Type 0) → P Rest false → P g b
at_last g b rest whole P h = subst (λ (f : Phase). P f b) (sym rest) (subst (λ (w : Bool). P Rest w) (sym whole) h)

module _ {T E : Type 0} (a : PlainArbiter) (r : Run) (i : IsAt Rest a r) (j : ℕ) (x : Item) (read : list_any (nat_eq j) a.reading ≡ true) (sound : is_failed x ≡ false) (room : fits (stand_in a) x ≡ true) (g : Phase) (b : Bool)
    (rest : g ≡ Rest) (whole : b ≡ false) (r' : Run) (seed : r'.draw.seed ≡ r.draw.seed) where
  pub entered_sound : (res : Result T E) → OnOk res ((f : Phase) (w : Bool) → seen r' f w ≡ absorbed j x (seen r f w)) → OnErr res ((f : Phase) (w : Bool) → seen r' f w ≡ seen r f w) →
      IsSound r'.draw.seed (seen r' g b)
  entered_sound (Ok t) ok err = at_last g b rest whole (λ f w. IsSound r'.draw.seed (seen r' f w)) (absorb_sound a r i j x read sound room r' ok seed)
  entered_sound (Err t) ok err =
      at_last g b rest whole (λ f w. IsSound r'.draw.seed (seen r' f w))
      (subst (λ (n : ℕ). IsSound n (seen r' Rest false)) (sym seed) (subst (λ (y : PlainArbiter). IsSound r.draw.seed y) (sym (err Rest false)) i.sound))

  pub entered_stands : (res : Result T E) → OnOk res ((f : Phase) (w : Bool) → seen r' f w ≡ absorbed j x (seen r f w)) →
      OnOk res ((taken : List Line) (p : Pair Origin) → StandsFor a [] taken p → StandsFor (seen r' g b) [] taken (with_item x p))
  entered_stands (Ok t) ok =
      at_last g b rest whole (λ f w. (taken : List Line) (p : Pair Origin) → StandsFor a [] taken p → StandsFor (seen r' f w) [] taken (with_item x p)) (absorb_stands a r i j x read sound room r' ok seed)
  entered_stands (Err t) ok = tt

  pub entered_same : (res : Result T E) → OnErr res ((f : Phase) (w : Bool) → seen r' f w ≡ seen r f w) → OnErr res (seen r' g b ≡ a)
  entered_same (Ok t) err = tt
  entered_same (Err t) err = at_last g b rest whole (λ f w. seen r' f w ≡ a) (err Rest false ∙ sym i.is)
