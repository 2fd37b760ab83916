-- Scopes and mentions, as the rules see what the walk over a tree holds.
use Rattle.std.specs.Prelude.{List, [], ◌∷◌}
use Rattle.std.specs.HashMap.{get_by_text}
use Rattle.std.specs.Arc.{arc_value}
use Rattle.js_names.specs.declared.scope.Scope.{Scope as Held}
use Rattle.js_names.specs.declared.mention.Mention.{Mention as HeldMention}
use Rattle.js_names.specs.Scopes.{Scope}
use Rattle.js_names.specs.Mentions.{Mention}

abbrev pub scope_of : Held → Scope
scope_of s = record {
  own = λ q. get_by_text s.own q;
  vars = λ q. get_by_text s.vars q;
  whole = s.whole;
  owner = s.owner;
}

-- a stack, whose last scope is the innermost
unfoldable pub scopes_onto : List Scope → List Held → List Scope
scopes_onto below [] = below
scopes_onto below (s ∷ ss) = scopes_onto (scope_of s ∷ below) ss

abbrev pub scopes_of : List Held → List Scope
scopes_of ss = scopes_onto [] ss

abbrev pub mention_of : HeldMention → Mention
mention_of p = record {
  what = p.what;
  name = p.name;
  around = p.around;
  declared = p.declared;
  functions = (arc_value p.functions).items;
  clashes = p.clashes;
}
