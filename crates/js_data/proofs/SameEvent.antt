-- `same_event` is equality.
use Rattle.std.proofs.Common.{◌≡◌, Bool, true, refl, ap, subst, Option, Some, None}
use Rattle.std.specs.Bool.{Decides}
use Rattle.std.proofs.lemmas.Slice.Eq.{bytes_eq-Decides}
use Rattle.js_data.specs.Data.{PlainData}
use Rattle.js_data.specs.Event.{PlainEvent, same_extra, same_event}
use Rattle.std.proofs.lemmas.Bool.{and_parts}
use Rattle.js_data.proofs.Same.{same_data-sound, same_data-self}

same_extra-sound : (o p : Option PlainData) → same_extra o p ≡ true → o ≡ p
same_extra-sound None None h = refl
same_extra-sound (Some d) (Some e) h = ap Some (same_data-sound d e h)
same_extra-sound None (Some e) h = absurd (cc)
same_extra-sound (Some d) None h = absurd (cc)

same_extra-self : (o : Option PlainData) → same_extra o o ≡ true
same_extra-self None = refl
same_extra-self (Some d) = same_data-self d

pub same_event-sound : (e f : PlainEvent) → same_event e f ≡ true → e ≡ f
same_event-sound e f h =
    let p = and_parts _ _ h in
    let name = (bytes_eq-Decides e.name f.name).0 p.0 in
    let extra = same_extra-sound e.extra f.extra p.1 in
    λ i. record { name = name i; extra = extra i }

pub same_event-self : (e : PlainEvent) → same_event e e ≡ true
same_event-self e = rw ((bytes_eq-Decides e.name e.name).1 refl, same_extra-self e.extra)

pub same_event-Decides : (e f : PlainEvent) → Decides (same_event e f) (e ≡ f)
same_event-Decides e f = (same_event-sound e f, λ p. subst (λ x. same_event e x ≡ true) p (same_event-self e))

pub decides_same : (b : Bool) (e f : PlainEvent) → b ≡ same_event e f → Decides b (e ≡ f)
decides_same b e f h = rw h (same_event-Decides e f)
