-- What comes next comes.
use Rattle.std.proofs.Common.{◌≡◌, ◌⊎◌, inl, inr, ℕ, Bool, true, false, List, [], ◌∷◌, ◌++◌, refl, ap, sym, subst, ◌∙◌, append-nil, Some, None, if◌then◌else◌}
use Rattle.std.specs.Prelude.{Result, Ok, Err, OnOk, OnErr}
use Rattle.std.proofs.lemmas.List.Elements.{filter_map-append}
use Rattle.js_value.specs.Value.{PlainSet}
use Rattle.js_meaning.specs.Bodies.{Origin}
use Rattle.bp_log.specs.declared.item.Item.{Item}
use Rattle.bp_log.specs.declared.record.Record.{Record}
use Rattle.bp_log.specs.declared.record.Record.TheVariants.{Sel, End}
use Rattle.bp_run.specs.Bodies.{Code}
use Rattle.bp_run.specs.Story.{Next, next}
use Rattle.bp_run.specs.Story.Next.{Ends, Selects, Waits}
use Rattle.bp_steps.specs.Merging.{item_by, items_by}
use Rattle.bp_steps.specs.declared.step.CoreStep.TheVariants.{Pick}
use Rattle.bp_steps.specs.Steps.{Moment, pair_at, lends, is_resting, picked, after_step}
use Rattle.bp_arbiter.specs.Arbiters.{PlainArbiter, code_in, options_in}
use Rattle.bp_core.specs.declared.stepping.Core.{Core}
use Rattle.bp_core.specs.Cores.{IsCoreAt, Makes, Cuts, KeepsProgram}
use Rattle.bp_core.specs.Moments.{step_on}
use Rattle.bp_turns.specs.Settled.{IsSomewhereHere, EndsWith, ClosesCore, SettlesCore, CutsTurns}
use Rattle.bp_turns.proofs.Arbiters.{same_code}
use Rattle.bp_session.specs.inner.Serving.{LeadsOn, CutsAt, KeepsItems}

if_some : {A : Type 0} (b : Bool) (x n : A) → (if b then Some x else None) ≡ Some n → n ≡ x
if_some true x n e = cc
if_some false x n e = absurd (cc)

pub pick_next : (a : PlainArbiter) (m n : Moment Origin) → step_on a m Pick ≡ Some n → n ≡ picked (code_in a) m (next (code_in a) (options_in a) m.told)
unfolding after_step
pick_next a m n e = if_some (is_resting m) (picked (code_in a) m (next (code_in a) (options_in a) m.told)) n e

module _ (l : Code Origin PlainSet) (m : Moment Origin) (u : m.lent ≡ lends l (pair_at m)) where
  unbegun_picked : (x : Next) → (picked l m x).lent ≡ lends l (pair_at (picked l m x))
  unbegun_picked (Ends v) = refl
  unbegun_picked (Selects ch reached) = refl
  unbegun_picked Waits = u

record More (before after : List Record) : Type 0 where
  more : List Record
  records : after ≡ before ++ more

more_picked : (l : Code Origin PlainSet) (m : Moment Origin) (x : Next) → More m.records (picked l m x).records
more_picked l m (Ends v) = record { more = End v ∷ []; records = refl }
more_picked l m (Selects ch reached) = record { more = Sel ch.event ∷ []; records = refl }
more_picked l m Waits = record { more = []; records = sym (append-nil m.records) }

-- ---- what was recorded of injectors

one_more : (k : ℕ) (rs : List Record) (r : Record) → items_by k (r ∷ []) ≡ [] → items_by k (rs ++ r ∷ []) ≡ items_by k rs
one_more k rs r e = filter_map-append (item_by k) rs (r ∷ []) ∙ ap (λ (xs : List Item). items_by k rs ++ xs) e ∙ append-nil (items_by k rs)

items_picked : (k : ℕ) (l : Code Origin PlainSet) (m : Moment Origin) (x : Next) → items_by k (picked l m x).records ≡ items_by k m.records
items_picked k l m (Ends v) = one_more k m.records (End v) refl
items_picked k l m (Selects ch reached) = one_more k m.records (Sel ch.event) refl
items_picked k l m Waits = refl

pub items_ended : (k : ℕ) (rs after : List Record) → EndsWith rs after → items_by k after ≡ items_by k rs
items_ended k rs after e = ap (λ (xs : List Record). items_by k xs) e.records ∙ one_more k rs (End e.verdict) refl

same_or_ended : (k : ℕ) (rs after : List Record) → (after ≡ rs) ⊎ EndsWith rs after → items_by k after ≡ items_by k rs
same_or_ended k rs after (inl e) = ap (λ (xs : List Record). items_by k xs) e
same_or_ended k rs after (inr e) = items_ended k rs after e

settled_items : (k : ℕ) (m n : Moment Origin) (a : PlainArbiter) → (n.records ≡ m.records) ⊎ ClosesCore m n a → items_by k n.records ≡ items_by k m.records
settled_items k m n a (inl e) = ap (λ (xs : List Record). items_by k xs) e
settled_items k m n a (inr e) = items_ended k m.records n.records e.ends

-- turns record nothing of injectors
pub settle_items : (a b : Core) → IsSomewhereHere a → SettlesCore a b → KeepsItems a.arbiter.records b.arbiter.records
settle_items a b w s k =
    let t = s w.taken w.moment w.here in
    ap (λ (xs : List Record). items_by k xs) (((t.here).at).at).records ∙ settled_items k w.moment t.next b.arbiter t.records ∙ ap (λ (xs : List Record). items_by k xs) (sym (((w.here).at).at).records)

pub cut_items : (a b : Core) → IsSomewhereHere a → CutsTurns a b → KeepsItems a.arbiter.records b.arbiter.records
cut_items a b w s k =
    let t = s w.taken w.moment w.here in
    same_or_ended k (w.moment).records b.arbiter.records t.records ∙ ap (λ (xs : List Record). items_by k xs) (sym (((w.here).at).at).records)

module _ (old new : Core) (p : KeepsProgram old.arbiter new.arbiter) where
  pub pick_items : Makes old new Pick → IsSomewhereHere old → KeepsItems old.arbiter.records new.arbiter.records
  pick_items s w k =
      let l = code_in old.arbiter in
      let m = w.moment in
      let x = next l (options_in old.arbiter) m.told in
      let t = s w.taken m (w.here).at in
      ap (λ (xs : List Record). items_by k xs) ((t.at).at).records ∙ ap (λ (y : Moment Origin). items_by k y.records) (pick_next old.arbiter m t.next t.leads) ∙ items_picked k l m x
      ∙ ap (λ (xs : List Record). items_by k xs) (sym (((w.here).at).at).records)

  between_items : (k : ℕ) (m : Moment Origin) (rs : List Record) → (rs ≡ m.records) ⊎ ((n : Moment Origin) × (step_on old.arbiter m Pick ≡ Some n) × (rs ≡ n.records)) → items_by k rs ≡ items_by k m.records
  between_items k m rs (inl e) = ap (λ (xs : List Record). items_by k xs) e
  between_items k m rs (inr n) =
      let l = code_in old.arbiter in
      let x = next l (options_in old.arbiter) m.told in
      ap (λ (xs : List Record). items_by k xs) n.2 ∙ ap (λ (y : Moment Origin). items_by k y.records) (pick_next old.arbiter m n.0 n.1) ∙ items_picked k l m x

  pub pick_cut_items : Cuts old new Pick → IsSomewhereHere old → KeepsItems old.arbiter.records new.arbiter.records
  pick_cut_items s w k =
      between_items k w.moment new.arbiter.records (s w.taken w.moment (w.here).at).records ∙ ap (λ (xs : List Record). items_by k xs) (sym (((w.here).at).at).records)

  -- whatever pick answered
  pub picked_items : {T E : Type 0} (r : Result T E) → OnOk r (Makes old new Pick) → OnErr r (Cuts old new Pick) → IsSomewhereHere old → KeepsItems old.arbiter.records new.arbiter.records
  picked_items (Ok x) m c w = pick_items m w
  picked_items (Err e) m c w = pick_cut_items c w

  pub pick_leads_on : Makes old new Pick → LeadsOn old new
  pick_leads_on s taken m h =
      let l = code_in old.arbiter in
      let x = next l (options_in old.arbiter) m.told in
      let t = s taken m h.at in
      let n = picked l m x in
      let is : t.next ≡ n = pick_next old.arbiter m t.next t.leads in
      let at : IsCoreAt new new.jobs.items taken n = subst (λ (y : Moment Origin). IsCoreAt new new.jobs.items taken y) is t.at in
      let w = more_picked l m x in
      record {
        moment = n;
        here = record { at = at; unbegun = unbegun_picked l m h.unbegun x ∙ ap (λ (k : Code Origin PlainSet). lends k (pair_at n)) (sym (same_code old.arbiter new.arbiter p.program p.options)) };
        more = w.more;
        records = (at.at).records ∙ w.records ∙ ap (λ (rs : List Record). rs ++ w.more) (sym ((h.at).at).records);
      }

  between_more : (m : Moment Origin) (rs : List Record) → (rs ≡ m.records) ⊎ ((n : Moment Origin) × (step_on old.arbiter m Pick ≡ Some n) × (rs ≡ n.records)) → More m.records rs
  between_more m rs (inl e) = record { more = []; records = e ∙ sym (append-nil m.records) }
  between_more m rs (inr n) =
      let l = code_in old.arbiter in
      let x = next l (options_in old.arbiter) m.told in
      let w = more_picked l m x in
      record { more = w.more; records = n.2 ∙ ap (λ (y : Moment Origin). y.records) (pick_next old.arbiter m n.0 n.1) ∙ w.records }

  pub pick_cuts : Cuts old new Pick → CutsAt old new
  pick_cuts s taken m h =
      let t = s taken m h.at in
      let w = between_more m new.arbiter.records t.records in
      record { tells = t.tells; more = w.more; records = w.records ∙ ap (λ (rs : List Record). rs ++ w.more) (sym ((h.at).at).records) }
