-- The rules of names: each is a test of a mention. The answer is the mention with the least offset at which
-- one fails, and of the rules that fail there the first one.
use Rattle.std.specs.Prelude.{ℕ, Bool, true, false, not, ◌&&◌, ◌||◌, nat_eq, nat_lt, List, Option, Some, None, is_some, fold, if◌then◌else◌}
use Rattle.js_tree.specs.Plain.{PlainItem}
use Rattle.js_names.specs.declared.limits.TheConstants.{MOST_SLOTS}
use Rattle.js_names.specs.declared.mention.What.{What}
use Rattle.js_names.specs.declared.mention.NameFault.{NameFault}
use Rattle.js_names.specs.declared.mention.NameFault.TheVariants.{Unknown, Twice, AssignConst, Capture, LoopWord, ReturnPlace, Slots, Memory}
use Rattle.js_names.specs.Entries.{top}
use Rattle.js_names.specs.Mentions.{Mention, test_of, is_const, is_function, mentions}
use Rattle.js_names.specs.Slots.{is_assignment, is_use, is_begin, assigned_in, is_outer, can_copy, slot_count}

abbrev pub is_misuse : What → Bool
is_misuse What.Misuses = true
is_misuse _ = false

abbrev pub is_loop_word : What → Bool
is_loop_word What.LoopWord = true
is_loop_word _ = false

abbrev pub is_return : What → Bool
is_return What.Returns = true
is_return _ = false

-- a name that nothing declares, or a use of `bp` or `Math` that is not a form
abbrev pub fails_unknown : Mention → Bool
fails_unknown p = is_misuse p.what || (is_use p.what && not (is_some p.declared))

-- the later of two declarations that clash, or one of a name that can't be declared
abbrev pub fails_twice : Mention → Bool
fails_twice p = p.clashes

-- an assignment to or an update of a `const` or a function declaration
abbrev pub fails_const : Mention → Bool
fails_const p = is_assignment p.what && test_of p.declared (λ d. is_const d.role || is_function d.role)

-- a variable of an outer function or of the top level, no constant, whose value can't be copied as the inner
-- function begins
abbrev pub fails_capture : List ℕ → Mention → Bool
fails_capture assigned p =
    is_use p.what
    && test_of p.declared (λ d. is_outer assigned p d && not (can_copy assigned d p.around.owner))

-- `break` or `continue` outside a loop of its function
abbrev pub fails_loop_word : Mention → Bool
fails_loop_word p = is_loop_word p.what && not p.around.looped

-- `return` at the top level
abbrev pub fails_return : Mention → Bool
fails_return p = is_return p.what && nat_eq p.around.owner top

-- more slots than a function may have
abbrev pub fails_slots : (ℕ → ℕ) → Mention → Bool
fails_slots count p = is_begin p.what && nat_lt MOST_SLOTS (count p.around.owner)

-- the first rule that a mention breaks
unfoldable pub fault_at : List ℕ → (ℕ → ℕ) → Mention → Option NameFault
fault_at assigned count p =
    if fails_unknown p then Some (Unknown p.name)
    else (if fails_twice p then Some (Twice p.name)
    else (if fails_const p then Some (AssignConst p.name)
    else (if fails_capture assigned p then Some (Capture p.name)
    else (if fails_loop_word p then Some (LoopWord p.name)
    else (if fails_return p then Some (ReturnPlace p.name)
    else (if fails_slots count p then Some (Slots p.name) else None))))))

abbrev pub number_of : NameFault → ℕ
number_of (Unknown name) = 1
number_of (Twice name) = 2
number_of (AssignConst name) = 3
number_of (Capture name) = 4
number_of (LoopWord name) = 5
number_of (ReturnPlace name) = 6
number_of (Slots name) = 7
number_of Memory = 8

abbrev pub spot_of : NameFault → ℕ
spot_of (Unknown name) = name.spot.at
spot_of (Twice name) = name.spot.at
spot_of (AssignConst name) = name.spot.at
spot_of (Capture name) = name.spot.at
spot_of (LoopWord name) = name.spot.at
spot_of (ReturnPlace name) = name.spot.at
spot_of (Slots name) = name.spot.at
spot_of Memory = 0

abbrev pub comes_before : NameFault → NameFault → Bool
comes_before f g =
    nat_lt (spot_of f) (spot_of g)
    || (nat_eq (spot_of f) (spot_of g) && nat_lt (number_of f) (number_of g))

abbrev pub sooner : Option NameFault → Option NameFault → Option NameFault
sooner None g = g
sooner (Some f) None = Some f
sooner (Some f) (Some g) = if comes_before g f then Some g else Some f

-- the soonest fault of some mentions
abbrev pub soonest : (Mention → Option NameFault) → List Mention → Option NameFault
soonest fault ps = fold (λ f p. sooner f (fault p)) None ps

-- the fault of a program: none exactly where no mention breaks a rule
unfoldable pub name_fault : List PlainItem → Option NameFault
name_fault items =
    let ps = mentions items in
    let assigned = assigned_in ps in
    soonest (fault_at assigned (slot_count assigned ps)) ps
