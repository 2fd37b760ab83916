-- An event that is requested and can't be selected is blocked, and the first that blocks it is known.
use Rattle.std.proofs.Common.{◌≡◌, ◌⊎◌, inl, inr, ℕ, Bool, true, false, ◌||◌, List, [], ◌∷◌, Option, Some, Result, Ok, Err, refl, sym, ap, ◌∙◌}
use Rattle.std.specs.List.{list_any}
use Rattle.std.proofs.lemmas.Bool.{false≢true}
use Rattle.js_data.specs.Event.{PlainEvent, same_event}
use Rattle.bp_log.specs.Options.{PlainOptions}
use Rattle.bp_run.specs.Bodies.{Code, SetFault}
use Rattle.bp_run.specs.Configuration.{Stand}
use Rattle.bp_run.specs.Selecting.{Live, Has, Asked, Enabled, by_number, both, live, selectable, or_queued, unblocked, first_unblocked, candidates, blocked, blocker, requested, without_fault}
use Rattle.bp_run.proofs.Chosen.{among_candidates, unblocked_free}
use Rattle.bp_free.specs.Due.{Goes, due}
use Rattle.bp_free.proofs.Open.{is_open, inner_of}

ok_true : {E : Type 0} → (b : Bool) → ◌≡◌ {A = Result Bool E} (Ok b) (Ok true) → b ≡ true
ok_true {E} b h = ap (λ (r : Result Bool E). elim r [ Ok x ↦ x | Err e ↦ b ]) h

-- the candidates that are left are those that can be selected
pub inner_at : {S : Type 0} (has : Has S) (ts : List (Live S)) (queue : List PlainEvent) (x : Enabled) (y : Asked (List PlainEvent)) → or_queued has ts queue y ≡ Ok x → y ≡ Ok x.inner
inner_at has ts queue x (Err f) h = absurd (cc)
inner_at has ts queue x (Ok (c ∷ cs)) h = ap (λ (es : List PlainEvent). Ok es) (inner_of h)
inner_at has ts queue x (Ok []) h = inner_outer (first_unblocked has ts 0 queue) h
  where
    inner_outer : (z : Asked (Option ℕ)) → without_fault {B = Enabled} (λ place. record { inner = []; outer = place }) z ≡ Ok x → ◌≡◌ {A = Asked (List PlainEvent)} (Ok []) (Ok x.inner)
    inner_outer (Err f) h = absurd (cc)
    inner_outer (Ok place) h = ap (λ (es : List PlainEvent). Ok es) (inner_of h)

module _ {S : Type 0} (has : Has S) (e : PlainEvent) where
  later_blocks : (x : Asked Bool) → both (λ a b. a || b) (Ok false) x ≡ Ok true → x ≡ Ok true
  later_blocks (Err f) h = absurd (cc)
  later_blocks (Ok b) h = h

  abbrev pub FirstIn : List (Live S) → Type 0
  FirstIn ts = (n : ℕ) × (blocker has ts e ≡ Ok (Some n))

  pass_on : Live S → List (Live S) → Result Bool SetFault → Asked (Option ℕ)
  pass_on t ts x = elim x [ Err f ↦ Err (t.number, f) | Ok b ↦ elim b [ true ↦ Ok (Some t.number) | false ↦ blocker has ts e ] ]

  second_at : (t : Live S) (ts : List (Live S)) → has t.statement.block e ≡ Ok false → FirstIn ts → FirstIn (t ∷ ts)
  unfolding blocker pass_on
  second_at t ts q r = (r.0, ap (pass_on t ts) q ∙ r.1)

  first_at : (t : Live S) (ts : List (Live S)) (x : Result Bool SetFault) → has t.statement.block e ≡ x → both (λ a b. a || b) (by_number t.number x) (blocked has ts e) ≡ Ok true →
      (blocked has ts e ≡ Ok true → FirstIn ts) → FirstIn (t ∷ ts)
  unfolding blocker pass_on
  first_at t ts (Err f) q h ih = absurd (cc)
  first_at t ts (Ok true) q h ih = (t.number, ap (pass_on t ts) q)
  first_at t ts (Ok false) q h ih = let r = ih (later_blocks (blocked has ts e) h) in second_at t ts q r

  first_of : (ts : List (Live S)) → blocked has ts e ≡ Ok true → FirstIn ts
  first_of [] h = absurd (false≢true (ok_true false h))
  first_of (t ∷ ts) h = first_at t ts (has t.statement.block e) refl h (λ k. first_of ts k)

  blocks_if : (ts : List (Live S)) (inner : List PlainEvent) → (blocked has ts e ≡ Ok true) ⊎ (list_any (same_event e) inner ≡ true) → list_any (same_event e) inner ≡ false → blocked has ts e ≡ Ok true
  blocks_if ts inner (inl h) k = h
  blocks_if ts inner (inr h) k = absurd (false≢true (sym k ∙ h))

  pub requested_is_blocked : (ts : List (Live S)) (queue : List PlainEvent) (x : Enabled) → selectable has ts queue ≡ Ok x → requested ts e ≡ true → list_any (same_event e) x.inner ≡ false → FirstIn ts
  unfolding selectable
  requested_is_blocked ts queue x h r n =
      let y = inner_at has ts queue x (unblocked has ts (candidates ts)) h in
      let f = unblocked_free has ts (candidates ts) x.inner y in
      first_of ts (blocks_if ts x.inner (f.all e (among_candidates e ts ∙ r)) n)

-- where events can be selected
pub first_blocker : {O S : Type 0} (l : Code O S) (o : PlainOptions) (s : Stand O) (x : Enabled) (e : PlainEvent) → due l o s ≡ Goes x → requested (live l s) e ≡ true → list_any (same_event e) x.inner ≡ false →
    (n : ℕ) × (blocker l.has (live l s) e ≡ Ok (Some n))
first_blocker l o s x e g r n = requested_is_blocked l.has e (live l s) s.queue x (is_open l o s x g).asked r n
