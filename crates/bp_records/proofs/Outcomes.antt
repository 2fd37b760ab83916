-- Effects, states and outcomes in which no text is longer than a value may be.
use Rattle.std.proofs.Common.{List, Option}
use Rattle.js_data.proofs.Shared.{OfSome}
use Rattle.js_value.specs.Value.{PlainValue}
use Rattle.js_meaning.specs.State.{Effect, says, enqueues, registers, handles, State, Completion, normal, broke, continued, returned, Outcome, went, broken, violated, spent, stopped}
use Rattle.js_meaning.specs.Bodies.{Origin, the_top, function}
use Rattle.bp_records.proofs.Lists.{Each}
use Rattle.bp_records.proofs.Short.{IsShortText, IsLight, IsShort}

-- slots and constants, some of them not declared yet
abbrev pub AreShortSlots : List (Option PlainValue) → Type 0
AreShortSlots slots = Each (OfSome IsShort) slots

abbrev pub IsShortEffect : Effect → Type 0
IsShortEffect (says text) = Unit {0}
IsShortEffect (enqueues e) = Unit {0}
IsShortEffect (registers name f) = IsShortText name × IsShort f
IsShortEffect (handles f) = IsShort f

abbrev pub AreShortEffects : List Effect → Type 0
AreShortEffects effects = Each IsShortEffect effects

pub record IsShortState (s : State) : Type 0 where
  pub slots : AreShortSlots s.slots
  pub constants : OfSome AreShortSlots s.constants
  pub replies : Each IsLight s.replies
  pub effects : AreShortEffects s.effects

abbrev pub IsShortCompletion : Completion → Type 0
IsShortCompletion (normal x) = IsShort x
IsShortCompletion broke = Unit {0}
IsShortCompletion continued = Unit {0}
IsShortCompletion (returned x) = IsShort x

abbrev pub IsShortOutcome : Outcome → Type 0
IsShortOutcome (went c s) = IsShortCompletion c × IsShortState s
IsShortOutcome (broken f line l) = AreShortEffects l.effects
IsShortOutcome (violated text l) = IsShortText text × AreShortEffects l.effects
IsShortOutcome (spent l) = AreShortEffects l.effects
IsShortOutcome (stopped statement priority line l) = AreShortEffects l.effects

abbrev pub IsShortOrigin : Origin → Type 0
IsShortOrigin the_top = Unit {0}
IsShortOrigin (function mode f args) = IsShort f × Each IsShort args
