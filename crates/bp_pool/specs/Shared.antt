-- The rule of the shared queue: each seat that was lent, an entry, is in the queue or in one hand, once.
use Rattle.std.specs.Prelude.{◌≡◌, ℕ, ◌+◌, ◌<◌, eqb, List, [], ◌∷◌, map, All, Contains}
use Rattle.std.specs.List.{sum_by, count_by}
use mathlib.Core.Option.{some}
use lib.ListN.{get_elem?}
use Rattle.js_program.specs.PlainProgram.{PlainContent}
use Rattle.js_meaning.specs.State.{Ground}
use Rattle.bp_pool.specs.declared.seat.Seat.{Seat}
use Rattle.bp_pool.specs.declared.rule.Hand.{Hand}
use Rattle.bp_pool.specs.Seats.{Turned, IsOpen, HaveOwnPlaces}

-- a ground of no program, for a list that nobody lends
abbrev pub no_ground : Ground
no_ground = record {
  program = record {
    nodes = [];
    functions = [];
    constants = [];
    top = record { parameters = 0; slots = 0; captures = []; vars = []; content = PlainContent.statements []; line = 0 };
  };
  constants = [];
}

-- as many parts as all views have together: more than there can be workers
abbrev pub all_parts : ℕ
all_parts = 128

abbrev pub hand : List Seat → List ℕ → ℕ → Hand
hand lent held parts = record { lent = lent; held = held; parts = parts }

-- by its place each seat is named
abbrev pub places_of : List Seat → List ℕ
places_of seats = map (λ s. s.place) seats

-- the view that holds all entries and all parts
abbrev pub owner : List Seat → Hand
owner lent = hand lent (places_of lent) all_parts

abbrev pub rest_of : List ℕ → List ℕ
rest_of [] = []
rest_of (x ∷ xs) = xs

-- x is the seat of an entry of the list, with its job carried on
pub record IsLent (base : Ground) (lent : List Seat) (x : Seat) : Type 0 where
  pub entry : Seat
  pub listed : Contains lent entry
  pub turned : Turned base entry x

-- the same, and its job is to be carried on
pub record Waits (base : Ground) (lent : List Seat) (x : Seat) : Type 0 where
  pub of : IsLent base lent x
  pub can : IsOpen base x

-- what h says of the seats' places, added up
abbrev pub weigh : (ℕ → ℕ) → List Seat → ℕ
weigh h seats = sum_by (λ s. h s.place) seats

-- what h says of the places in hand, added up
abbrev pub weigh_held : (ℕ → ℕ) → Hand → ℕ
weigh_held h v = sum_by h v.held

-- a view with a part has the lent list, and one without has an empty hand
pub record Fits (lent : List Seat) (v : Hand) : Type 0 where
  pub same : 0 < v.parts → v.lent ≡ lent
  pub idle : v.parts ≡ 0 → v.held ≡ []

abbrev pub AllFit : List Seat → List Hand → Type 0
AllFit lent views = (port : ℕ) (v : Hand) → get_elem? views port ≡ some v → Fits lent v

-- how often the place is in this hand
abbrev pub times_in_hand : ℕ → Hand → ℕ
times_in_hand place v = count_by (λ n. eqb n place) v.held

-- how often the place is in any hand
abbrev pub in_hands : ℕ → List Hand → ℕ
in_hands place views = sum_by (times_in_hand place) views

-- The rule: the entries have their own places, the views that have a part know them and have all parts
-- together, each entry is in the queue or in one hand, however the places are weighed, and what is in
-- the queue waits to be carried on.
pub record Shared (base : Ground) (items : List Seat) (views : List Hand) : Type 0 where
  pub lent : List Seat
  pub own : HaveOwnPlaces lent
  pub fits : AllFit lent views
  pub parts : sum_by (λ v. v.parts) views ≡ all_parts
  pub once : (h : ℕ → ℕ) → weigh h items + sum_by (weigh_held h) views ≡ weigh h lent
  pub seats : All (Waits base lent) items

-- all that was lent is in the queue or in this hand
abbrev pub Total : Hand → List Seat → Type 0
Total v items = (h : ℕ → ℕ) → weigh h items + sum_by h v.held ≡ weigh h v.lent
