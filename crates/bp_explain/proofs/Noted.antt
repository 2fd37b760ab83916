-- The events that are requested are gathered without repeats.
use Rattle.std.proofs.Common.{◌≡◌, ◌∙◌, ℕ, ◌+◌, ◌<◌, ◌≤◌, List, [], ◌∷◌, ◌++◌, length, map, drop, get_or, refl, ap, sym}
use Rattle.std.specs.Prelude.{flat_map}
use Rattle.std.proofs.lemmas.List.{drop_all}
use Rattle.js_data.specs.Event.{PlainEvent}
use Rattle.js_data.proofs.Shared.{drop_is}
use Rattle.bp_run.specs.Selecting.{candidates, distinct}
use Rattle.bp_live.proofs.Gathered.{gathered}
use Rattle.bp_explain.specs.declared.stops.Stop.{Stop}
use Rattle.bp_explain.specs.Stops.{live_of}
use Rattle.bp_explain.specs.inner.Lists.{with_new, with_all}

abbrev pub asked_in : List Stop → List PlainEvent
asked_in ss = flat_map (λ s. (live_of s).statement.request) ss

all_append : (es xs ys : List PlainEvent) → with_all es (xs ++ ys) ≡ with_all (with_all es xs) ys
all_append es [] ys = refl
all_append es (x ∷ xs) ys = all_append (with_new es x) xs ys

pub event_step : (all : List PlainEvent) (i : ℕ) (e : PlainEvent) (old new whole : List PlainEvent) → i < length all → e ≡ get_or all i e → new ≡ with_new old e → with_all old (drop i all) ≡ whole → with_all new (drop (i + 1) all) ≡ whole
event_step all i e old new whole h k m w =
    ap (λ (es : List PlainEvent). with_all es (drop (i + 1) all)) m ∙ ap (λ (es : List PlainEvent). with_all old es) (sym (drop_is all i e h k)) ∙ w

pub event_last : (all : List PlainEvent) (i : ℕ) (found whole : List PlainEvent) → length all ≤ i → with_all found (drop i all) ≡ whole → found ≡ whole
event_last all i found whole h w = sym (ap (λ (es : List PlainEvent). with_all found es) (drop_all i all h)) ∙ w

pub stop_step : (all : List Stop) (i : ℕ) (s : Stop) (old new whole : List PlainEvent) → i < length all → s ≡ get_or all i s → new ≡ with_all old (live_of s).statement.request → with_all old (asked_in (drop i all)) ≡ whole → with_all new (asked_in (drop (i + 1) all)) ≡ whole
stop_step all i s old new whole h k m w =
    ap (λ (es : List PlainEvent). with_all es (asked_in (drop (i + 1) all))) m
    ∙ sym (all_append old (live_of s).statement.request (asked_in (drop (i + 1) all)))
    ∙ ap (λ (ss : List Stop). with_all old (asked_in ss)) (sym (drop_is all i s h k))
    ∙ w

requests_of : (ss : List Stop) → asked_in ss ≡ flat_map (λ t. t.statement.request) (map live_of ss)
requests_of [] = refl
requests_of (s ∷ ss) = ap (λ (es : List PlainEvent). (live_of s).statement.request ++ es) (requests_of ss)

pub stop_last : (all : List Stop) (i : ℕ) (found : List PlainEvent) → length all ≤ i → with_all found (asked_in (drop i all)) ≡ with_all [] (asked_in all) → found ≡ candidates (map live_of all)
stop_last all i found h w =
    sym (ap (λ (ss : List Stop). with_all found (asked_in ss)) (drop_all i all h)) ∙ w ∙ gathered (asked_in all) ∙ ap distinct (requests_of all)
