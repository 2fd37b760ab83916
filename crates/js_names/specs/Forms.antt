-- Which names and members are those of the language itself.
use Rattle.std.specs.Prelude.{ℕ, Bool, true, false, ◌||◌, List, Option, Some, None, codes, if◌then◌else◌}
use Rattle.std.specs.Str.{bytes_eq}
use Rattle.js_tree.specs.declared.tree.Name.{Name}
use Rattle.js_tree.specs.Plain.{PlainExpr, at, use_of, member}
use Rattle.js_tree.specs.Nesting.{is_object, is_log_of}
use Rattle.js_program.specs.declared.builtin.Builtin.{Builtin}
use Rattle.js_program.specs.Builtins.{builtin_of}

abbrev pub is_undefined : List ℕ → Bool
is_undefined text = bytes_eq text (codes "undefined")

-- the names that can't be declared
abbrev pub is_reserved : List ℕ → Bool
is_reserved text = is_object text || is_undefined text

-- `bp` or `Math`
abbrev pub object_of : PlainExpr → Option Name
object_of (at parens line (use_of name)) = if is_object name.text then Some name else None
object_of _ = None

-- what stands before the dot of a form: `bp`, `Math` or `bp.log`
abbrev pub owner_of : PlainExpr → Option (List ℕ)
owner_of (at parens line (use_of name)) = if is_object name.text then Some name.text else None
owner_of (at parens line (member e word)) = if is_log_of e word then Some (codes "bp.log") else None
owner_of _ = None

abbrev pub builtin_at : Option (List ℕ) → List ℕ → Bool → Option Builtin
builtin_at None word called = None
builtin_at (Some object) word called = builtin_of object word called

-- the form that a call of this expression is
abbrev pub called_builtin : PlainExpr → Option Builtin
called_builtin (at parens line (member e word)) = builtin_at (owner_of e) word true
called_builtin _ = None

-- the form that a member is without a call
abbrev pub value_builtin : PlainExpr → List ℕ → Option Builtin
value_builtin e word = builtin_at (owner_of e) word false
