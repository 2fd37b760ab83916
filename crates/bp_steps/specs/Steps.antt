-- The steps of a core, and where they lead.
use Rattle.std.specs.Prelude.{ℕ, ◌+◌, ◌&&◌, nat_lt, Bool, not, List, [], ◌∷◌, ◌++◌, map, Option, Some, None, is_none, option_and_then, option_map, slice_get, IsSome, if◌then◌else◌}
use Rattle.std.specs.List.{filter_map, list_all}
use Rattle.bp_log.specs.Options.{PlainOptions}
use Rattle.bp_log.specs.declared.record.Record.{Record}
use Rattle.bp_log.specs.declared.record.Record.TheVariants.{Sel, End}
use Rattle.bp_log.specs.declared.verdict.Verdict.{Verdict}
use Rattle.bp_run.specs.Bodies.{Code}
use Rattle.bp_run.specs.Configuration.{Configuration, below, change}
use Rattle.bp_run.specs.Settling.{Body, Entry, Pair, turn, opening, settle, at_rest, body_of}
use Rattle.bp_run.specs.Story.{Next, next, stepped, over_with, after_record}
use Rattle.bp_run.specs.Story.Next.{Ends, Selects, Waits}
use Rattle.bp_steps.specs.declared.step.CoreStep.{CoreStep}
use Rattle.bp_steps.specs.declared.step.CoreStep.TheVariants.{Absorb, Pick, Slice, Seal}
use Rattle.bp_steps.specs.Merging.{record_by}

-- How many nodes a body begins with these replies, since the last of them.
abbrev pub Nodes : Type 0 → Type 0
Nodes Origin = Body Origin → ℕ

-- where a core stands between two steps: a configuration, what is to be run there, what was recorded,
-- and of each lent job how many nodes it has begun; none, once its outcome is there
pub record Moment (Origin : Type 0) : Type 0 where
  pub told : Configuration Origin
  pub entries : List (Entry Origin)
  pub records : List Record
  pub lent : List (Option ℕ)

abbrev pub pair_at : {O : Type 0} → Moment O → Pair O
pair_at m = record { stand = m.told.stand; entries = m.entries }

-- the bodies of what is to be run, in order
abbrev pub bodies : {O S : Type 0} → Code O S → Pair O → List (Body O)
bodies code p = filter_map (body_of code p.stand) p.entries

-- nothing has begun
abbrev pub fresh : {O : Type 0} → List (Body O) → List (Option ℕ)
fresh bs = map (λ b. Some 0) bs

-- the bodies whose jobs are lent: none, where the pair is at rest
abbrev pub lent_bodies : {O S : Type 0} → Code O S → Pair O → List (Body O)
lent_bodies code p = if at_rest p then [] else bodies code p

-- their jobs, of which nothing has begun
abbrev pub lends : {O S : Type 0} → Code O S → Pair O → List (Option ℕ)
lends code p = fresh (lent_bodies code p)

abbrev pub opened : {O S : Type 0} → Code O S → PlainOptions → Moment O
opened code o =
    record {
      told = record { stand = opening.stand; drawn = 0; reading = below o.injectors; bad = None };
      entries = opening.entries;
      records = [];
      lent = lends code opening;
    }

-- the moment at this pair
abbrev pub at_pair : {O S : Type 0} → Code O S → Moment O → Pair O → Moment O
at_pair code m p =
    record m { told = record m.told { stand = p.stand }; entries = p.entries; lent = lends code p }

abbrev pub ends_at : {O : Type 0} → Moment O → Verdict → Moment O
ends_at m v = record m { told = over_with m.told v; records = m.records ++ End v ∷ []; lent = [] }

-- jobs are lent
abbrev pub is_lent : {O : Type 0} → Moment O → Bool
is_lent m = not (at_rest (pair_at m))

-- where the records have led: what is to be run there is settled
abbrev pub settled : {O S : Type 0} → Code O S → Moment O → Configuration O
settled code m = record m.told { stand = settle code (pair_at m) }

-- nothing is to be run, and there is no verdict
abbrev pub is_resting : {O : Type 0} → Moment O → Bool
is_resting m = at_rest (pair_at m) && is_none m.told.stand.verdict

abbrev pub picked : {O S : Type 0} → Code O S → Moment O → Next → Moment O
picked code m (Ends v) = ends_at m v
picked code m (Selects ch reached) =
    at_pair code
    (record m { told = record m.told { drawn = ch.drawn }; records = m.records ++ Sel ch.event ∷ [] })
    (stepped code m.told.stand ch.event ch.place reached)
picked code m Waits = m

abbrev pub absorbed : {O S : Type 0} → Code O S → PlainOptions → Moment O → Record →
    Option (Moment O)
absorbed code o m r =
    option_map (λ c. record m { told = c; records = m.records ++ r ∷ [] })
    (after_record code o m.told r)

-- this many nodes more of a body that begins this many in all
abbrev pub sliced : ℕ → ℕ → ℕ → Option ℕ
sliced needs nodes begun = if nat_lt (begun + nodes) needs then Some (begun + nodes) else None

abbrev pub slice_of : {O : Type 0} → Nodes O → ℕ → Option (Body O) → Option (Option ℕ) →
    Option (Option ℕ)
slice_of nodes n (Some b) (Some (Some begun)) = Some (sliced (nodes b) n begun)
slice_of nodes n (Some b) (Some None) = None
slice_of nodes n (Some b) None = None
slice_of nodes n None j = None

-- the moment after a turn to this pair, which may have come to a verdict
abbrev pub turned_with : {O S : Type 0} → Code O S → Moment O → Pair O → Option Verdict → Moment O
turned_with code m p None = at_pair code m p
turned_with code m p (Some v) =
    ends_at (record m { told = record m.told { stand = p.stand }; entries = p.entries }) v

abbrev pub sealed : {O S : Type 0} → Code O S → Moment O → Pair O → Moment O
sealed code m p = turned_with code m p p.stand.verdict

-- where one step leads, or nothing where it isn't legal
unfoldable pub after_step : {O S : Type 0} → Code O S → PlainOptions → Nodes O → Moment O →
    CoreStep → Option (Moment O)
after_step code o nodes m (Absorb j i) =
    if is_resting m then option_and_then (absorbed code o m) (record_by j i) else None
after_step code o nodes m Pick =
    if is_resting m then Some (picked code m (next code o m.told)) else None
after_step code o nodes m (Slice i n) =
    if is_lent m && nat_lt 0 n
    then option_map (λ x. record m { lent = change (λ y. x) i m.lent })
    (slice_of nodes n (slice_get (bodies code (pair_at m)) i) (slice_get m.lent i))
    else None
after_step code o nodes m Seal =
    if is_lent m && list_all is_none m.lent
    then Some (sealed code m (turn code (pair_at m)))
    else None

-- where the steps lead, or nothing where one of them isn't legal
unfoldable pub played : {O S : Type 0} → Code O S → PlainOptions → Nodes O → List CoreStep →
    Moment O → Option (Moment O)
played code o nodes [] m = Some m
played code o nodes (s ∷ steps) m =
    option_and_then (played code o nodes steps) (after_step code o nodes m s)

-- each of the steps is legal where it stands
abbrev pub Legal : {O S : Type 0} → Code O S → PlainOptions → Nodes O → List CoreStep → Moment O →
    Type 0
Legal code o nodes steps m = IsSome (played code o nodes steps m)

-- the records that the steps make from the opening on, or nothing where one of them isn't legal
abbrev pub made_by : {O S : Type 0} → Code O S → PlainOptions → Nodes O → List CoreStep →
    Option (List Record)
made_by {O = O} code o nodes steps =
    option_map (λ (m : Moment O). m.records) (played code o nodes steps (opened code o))
