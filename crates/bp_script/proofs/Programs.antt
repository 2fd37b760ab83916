-- Bytes that spell a tree, and the program that it is.
use Rattle.std.proofs.Common.{◌≡◌, ℕ, List, refl, Option, Some, None}
use Rattle.js_tree.specs.Plain.{PlainItem}
use Rattle.js_program.specs.PlainProgram.{PlainProgram}
use Rattle.js_names.specs.declared.mention.NameFault.{NameFault}
use Rattle.js_names.specs.Rules.{name_fault}
use Rattle.js_resolver.specs.Resolved.{resolved, unless_fault, program_of_tree}
use Rattle.js_resolver.specs.Spelled.{IsSpelled}
use Rattle.js_resolver.proofs.Spelling.{cut_spelled}
use Rattle.bp_script.specs.Programs.{AreSpelled, IsProgram}

pub spelled : (bytes : List ℕ) (tree : List PlainItem) → AreSpelled bytes tree → IsSpelled tree
spelled bytes tree s = cut_spelled bytes s.tokens tree (s.cut).short (s.cut).cut s.spelled

no_fault : (f : Option NameFault) (p q : PlainProgram) → unless_fault f p ≡ Some q → f ≡ None
no_fault None p q e = refl
no_fault (Some f) p q e = cc

named : (tree : List PlainItem) (program : PlainProgram) → resolved tree ≡ Some program → name_fault tree ≡ None
unfolding resolved
named tree program e = no_fault (name_fault tree) (program_of_tree tree) program e

pub program_is : (bytes : List ℕ) (tree : List PlainItem) (program : PlainProgram) → AreSpelled bytes tree → resolved tree ≡ Some program → IsProgram bytes program
program_is bytes tree program s e = record { tree = tree; accepted = record { spelled = s; named = named tree program e }; is_resolved = e }
