-- Keys are equal exactly where their events are.
use Rattle.std.specs.Prelude.{◌≡◌, true}
use Rattle.std.specs.Cmp.{IsPartialEquivalence, IsEquivalence, both_ways}
use Rattle.std.proofs.Common.{ap, sym, ◌∙◌}
use Rattle.js_data.specs.Event.{PlainEvent, same_event}
use Rattle.js_data.proofs.SameEvent.{same_event-sound, same_event-self}
use Rattle.bp_roll.specs.Feeding.{event_writes}

-- what is equal to b is b
pub same_along : (a b c : PlainEvent) → same_event a b ≡ true → same_event a c ≡ same_event b c
same_along a b c h = ap (λ (z : PlainEvent). same_event z c) (same_event-sound a b h)

pub same_back : (a b : PlainEvent) → same_event a b ≡ true → same_event b a ≡ true
same_back a b h = sym (same_along a b a h) ∙ same_event-self a

pub same_sym : (a b : PlainEvent) → same_event a b ≡ same_event b a
same_sym a b = both_ways (same_event a b) (same_event b a) (same_back a b) (same_back b a)

pub same_equivalence : {K : Type 0} (f : K → PlainEvent) → IsEquivalence (λ a b. same_event (f a) (f b))
same_equivalence f = record {
  refl = λ a. same_event-self (f a);
  symm = λ a b. same_sym (f a) (f b);
  congr = λ a b c h. same_along (f a) (f b) (f c) h;
}

pub same_partial : {K : Type 0} (f : K → PlainEvent)
    → IsPartialEquivalence (λ a b. same_event (f a) (f b))
same_partial f = record {
  symm = λ a b. same_sym (f a) (f b);
  trans = λ a b c h k. same_along (f a) (f b) (f c) h ∙ k;
}

-- equal events are fed alike
pub same_writes : (a b : PlainEvent) → same_event a b ≡ true → event_writes a ≡ event_writes b
same_writes a b h = ap (λ (e : PlainEvent). event_writes e) (same_event-sound a b h)
