-- Tables that stand for the mentions of a program.
use Rattle.std.specs.Prelude.{◌≡◌, ℕ, nat_eq, List, unwrap_or}
use Rattle.indexmap.specs.IndexMap.{get}
use Rattle.js_program.specs.declared.node.Variable.{Variable}
use Rattle.js_program.specs.declared.node.Variable.TheVariants.{Slot}
use Rattle.js_names.specs.Entries.{top}
use Rattle.js_names.specs.Mentions.{Mention}
use Rattle.js_names.specs.Slots.{assigned_in, slots_of, captures, vars_of, constants_of}
use Rattle.js_names.specs.Held.{Sets, held_in}
use Rattle.js_resolver.specs.inner.Tables.{Known}
use Rattle.js_resolver.specs.Variables.{named_at, code_at, around_of, index_in}

pub record AreTablesOf (variables : Known Variable) (declared functions : List ℕ) (outer : Known ℕ)
    (held copied unset : Sets) (ps : List Mention) : Type 0 where
  pub named : (q : ℕ) → unwrap_or (get nat_eq variables q) (Slot 0) ≡ named_at ps q
  pub constants : declared ≡ constants_of (assigned_in ps) ps
  pub codes : (q : ℕ) → index_in functions q ≡ code_at ps q
  pub around : (f : ℕ) → unwrap_or (get nat_eq outer f) top ≡ around_of ps f
  pub slots : (f : ℕ) → held_in held f ≡ slots_of (assigned_in ps) f ps
  pub captured : (f : ℕ) → held_in copied f ≡ captures (assigned_in ps) f ps
  pub vars : (f : ℕ) → held_in unset f ≡ vars_of (assigned_in ps) f ps
