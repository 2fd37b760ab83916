-- Lists of names and of events, as they are made.
use Rattle.std.specs.Borrow.{Bor}
use Rattle.std.specs.Prelude.{ℕ, List, [], ◌∷◌, ◌++◌, map, fold, if◌then◌else◌}
use Rattle.std.specs.List.{list_any}
use Rattle.js_data.specs.Event.{PlainEvent, same_event}

-- what is referred to
abbrev pub texts_in : List (Bor (List ℕ)) → List (List ℕ)
texts_in ts = map (λ t. t.now) ts

-- e at the end, unless it is there
abbrev pub with_new : List PlainEvent → PlainEvent → List PlainEvent
with_new xs e = if list_any (same_event e) xs then xs else xs ++ e ∷ []

abbrev pub with_all : List PlainEvent → List PlainEvent → List PlainEvent
with_all xs es = fold with_new xs es
