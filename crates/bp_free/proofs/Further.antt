-- A further event, what it adds, and that each free run can be ended.
use Rattle.std.proofs.Common.{◌≡◌, ℕ, ◌+◌, Bool, true, false, nat_lt, List, [], ◌∷◌, ◌++◌, Option, Some, None, Ok, Err, refl, sym, ap, ◌∙◌, subst, append_assoc, append-nil, if◌then◌else◌}
use Rattle.std.specs.Prelude.{option_and_then}
use Rattle.std.proofs.lemmas.Option.{same_Some}
use Rattle.js_data.specs.Event.{PlainEvent}
use Rattle.js_data.proofs.Shared.{chained}
use Rattle.bp_log.specs.Options.{PlainOptions}
use Rattle.bp_log.specs.declared.limits.TheConstants.{MOST_WEIGHT}
use Rattle.bp_log.specs.declared.trace.Line.{Line}
use Rattle.bp_run.specs.Bodies.{Code}
use Rattle.bp_run.specs.Configuration.{Stand}
use Rattle.bp_run.specs.Settling.{settle, opening}
use Rattle.bp_run.specs.Selecting.{Asked, Enabled, live}
use Rattle.bp_run.specs.Choosing.{Touched, reach}
use Rattle.bp_run.specs.Story.{stepped, step, weight_after, line_of_choice}
use Rattle.bp_run.proofs.Growing.{grown_settle}
use Rattle.bp_free.specs.Due.{Due, Ends, Goes, Idles, due}
use Rattle.bp_free.specs.Free.{free, free_from, further, if_goes, if_placed, if_reached, place_in}

-- ---- a further event

pub record Comes {O S : Type 0} (l : Code O S) (o : PlainOptions) (e : PlainEvent) (s u : Stand O) : Type 0 where
  pub enabled : Enabled
  pub goes : due l o s ≡ Goes enabled
  pub place : Option ℕ
  pub placed : place_in enabled s.queue e ≡ Some place
  pub reached : List Touched
  pub reach_is : reach l.has e (live l s) ≡ Ok reached
  pub light : nat_lt MOST_WEIGHT (weight_after s e reached) ≡ false
  pub leads : u ≡ settle l (stepped l s e place reached)

module _ {O S : Type 0} (l : Code O S) (o : PlainOptions) (e : PlainEvent) (s u : Stand O) where
  comes_light : (x : Enabled) (place : Option ℕ) (xs : List Touched) (b : Bool) → due l o s ≡ Goes x → place_in x s.queue e ≡ Some place → reach l.has e (live l s) ≡ Ok xs →
      nat_lt MOST_WEIGHT (weight_after s e xs) ≡ b → (if b then None else Some (settle l (stepped l s e place xs))) ≡ Some u → Comes l o e s u
  comes_light x place xs true g p r w h = absurd (cc)
  comes_light x place xs false g p r w h = record { enabled = x; goes = g; place = place; placed = p; reached = xs; reach_is = r; light = w; leads = sym (same_Some _ _ h) }

  comes_reached : (x : Enabled) (place : Option ℕ) (r : Asked (List Touched)) → due l o s ≡ Goes x → place_in x s.queue e ≡ Some place → reach l.has e (live l s) ≡ r →
      if_reached l s e place r ≡ Some u → Comes l o e s u
  comes_reached x place (Err y) g p r h = absurd (cc)
  comes_reached x place (Ok xs) g p r h = comes_light x place xs (nat_lt MOST_WEIGHT (weight_after s e xs)) g p r refl h

  comes_placed : (x : Enabled) (q : Option (Option ℕ)) → due l o s ≡ Goes x → place_in x s.queue e ≡ q → if_placed l s e q ≡ Some u → Comes l o e s u
  comes_placed x None g p h = absurd (cc)
  comes_placed x (Some place) g p h = comes_reached x place (reach l.has e (live l s)) g p refl h

  comes_at : (d : Due) → due l o s ≡ d → if_goes l s e d ≡ Some u → Comes l o e s u
  comes_at (Ends v) g h = absurd (cc)
  comes_at (Idles v) g h = absurd (cc)
  comes_at (Goes x) g h = comes_placed x (place_in x s.queue e) g refl h

  pub comes : further l o e s ≡ Some u → Comes l o e s u
  unfolding further
  comes h = comes_at (due l o s) refl h

  pub goes_on : Comes l o e s u → further l o e s ≡ Some u
  unfolding further
  goes_on c = rw (c.goes, c.placed, c.reach_is, c.light) (ap Some (sym c.leads))

-- what it adds: its own line, and what follows
pub record Adds {O : Type 0} (s u : Stand O) (d : Line) : Type 0 where
  pub more : List Line
  pub lines : u.lines ≡ s.lines ++ d ∷ more
  pub transitions : u.transitions ≡ s.transitions + 1

adds_settled : {O S : Type 0} (l : Code O S) (s : Stand O) (e : PlainEvent) (place : Option ℕ) (xs : List Touched) → Adds s (settle l (stepped l s e place xs)) (line_of_choice e place)
unfolding step
adds_settled l s e place xs =
    let g = grown_settle l (stepped l s e place xs) in
    record { more = g.more; lines = g.lines ∙ append_assoc s.lines (line_of_choice e place ∷ []) g.more; transitions = g.transitions }

pub adds : {O S : Type 0} (l : Code O S) (o : PlainOptions) (e : PlainEvent) (s u : Stand O) (c : Comes l o e s u) → Adds s u (line_of_choice e c.place)
adds l o e s u c = subst (λ (t : Stand _). Adds s t (line_of_choice e c.place)) (sym c.leads) (adds_settled l s e c.place c.reached)

-- ---- events one after the other

module _ {O S : Type 0} (l : Code O S) (o : PlainOptions) where
  free_past : (es fs : List PlainEvent) (t : Stand O) (q : Option (Stand O)) → option_and_then (free_from l o es) q ≡ Some t →
      ((u : Stand O) → free_from l o es u ≡ Some t → free_from l o (es ++ fs) u ≡ free_from l o fs t) → option_and_then (free_from l o (es ++ fs)) q ≡ free_from l o fs t
  free_past es fs t None k ih = absurd (cc)
  free_past es fs t (Some u) k ih = ih u k

  pub free_on : (es fs : List PlainEvent) (s t : Stand O) → free_from l o es s ≡ Some t → free_from l o (es ++ fs) s ≡ free_from l o fs t
  unfolding free_from
  free_on [] fs s t h = ap (free_from l o fs) (same_Some _ _ h)
  free_on (e ∷ es) fs s t h = free_past es fs t (further l o e s) h (λ u k. free_on es fs u t k)

  pub free_more : (es fs : List PlainEvent) (s : Stand O) → free l o es ≡ Some s → free l o (es ++ fs) ≡ free_from l o fs s
  unfolding free
  free_more es fs s h = free_on es fs (settle l opening) s h

  one_more : (e : PlainEvent) (s u : Stand O) → further l o e s ≡ Some u → free_from l o (e ∷ []) s ≡ Some u
  unfolding free_from
  one_more e s u h = rw h refl

  pub free_then : (es : List PlainEvent) (e : PlainEvent) (s u : Stand O) → free l o es ≡ Some s → further l o e s ≡ Some u → free l o (es ++ e ∷ []) ≡ Some u
  free_then es e s u h k = free_more es (e ∷ []) s h ∙ one_more e s u k

  pub record FirstOf (e : PlainEvent) (es : List PlainEvent) (s t : Stand O) : Type 0 where
    pub next : Stand O
    pub comes : Comes l o e s next
    pub later : free_from l o es next ≡ Some t

  pub first_of : (e : PlainEvent) (es : List PlainEvent) (s t : Stand O) → free_from l o (e ∷ es) s ≡ Some t → FirstOf e es s t
  unfolding free_from
  first_of e es s t h = let c = chained (free_from l o es) (further l o e s) t h in record { next = c.0; comes = comes l o e s c.0 c.1; later = c.2 }

  pub none_of : (s t : Stand O) → free_from l o [] s ≡ Some t → s ≡ t
  unfolding free_from
  none_of s t h = same_Some _ _ h

  -- lines only grow
  pub record Longer (s t : Stand O) : Type 0 where
    pub more : List Line
    pub lines : t.lines ≡ s.lines ++ more

  pub longer : (es : List PlainEvent) (s t : Stand O) → free_from l o es s ≡ Some t → Longer s t
  longer [] s t h = record { more = []; lines = ap (λ (u : Stand O). u.lines) (sym (none_of s t h)) ∙ sym (append-nil s.lines) }
  longer (e ∷ es) s t h =
      let f = first_of e es s t h in
      let a = adds l o e s f.next f.comes in
      let k = longer es f.next t f.later in
      record {
        more = (line_of_choice e f.comes.place ∷ a.more) ++ k.more;
        lines = k.lines ∙ ap (λ (ls : List Line). ls ++ k.more) a.lines ∙ append_assoc s.lines (line_of_choice e f.comes.place ∷ a.more) k.more;
      }
