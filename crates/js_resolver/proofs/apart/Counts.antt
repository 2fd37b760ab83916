-- The nodes, the functions and the constants of a program that tokens spell are few.
use Rattle.std.proofs.Common.{◌≡◌, ◌∙◌, ℕ, suc, ◌+◌, ◌*◌, ◌≤◌, List, [], ◌∷◌, ◌++◌, ap, sym, length, length-append, map, fold, arith, Option, Some, None, true, false, if◌then◌else◌}
use Rattle.std.proofs.lemmas.List.{length-map}
use Rattle.std.specs.List.{flat_map, filter_map, cons_option}
use Rattle.js_lexer.specs.declared.token.Token.{Token}
use Rattle.js_tree.specs.Plain.{PlainItem}
use Rattle.js_program.specs.PlainProgram.{PlainBody}
use Rattle.js_grammar.specs.Grammar.{SpellsTree}
use Rattle.js_names.specs.declared.mention.Declared.{Declared}
use Rattle.js_names.specs.declared.mention.What.{What}
use Rattle.js_names.specs.Entries.{top}
use Rattle.js_names.specs.Spots.{program_spot}
use Rattle.js_names.specs.Unresolved.{Unresolved, begin_mention, item_mentions, unresolved_mentions}
use Rattle.js_names.specs.Mentions.{Mention, look_up, mentions}
use Rattle.js_names.specs.Slots.{is_among, joins, assigned_in, constant_at, constant_in, variable_at, constants_of}
use Rattle.js_resolver.specs.Variables.{capture_slots}
use Rattle.js_resolver.specs.Nodes.{items_piece}
use Rattle.js_resolver.specs.Resolved.{constant_of, program_of_tree}
use Rattle.js_resolver.specs.Spelled.{next, InOrder}
use Rattle.js_resolver.proofs.sound.Functions.{begun, captures_in_order, items_listed}
use Rattle.js_resolver.proofs.sound.Mentions.{is_name}
use Rattle.js_resolver.proofs.sound.Program.{program_scopes}
use Rattle.js_resolver.proofs.apart.Bounds.{Ascend}
use Rattle.js_resolver.proofs.apart.Order.{names_in}
use Rattle.js_resolver.proofs.apart.Declared.{program_own, program_vars}
use Rattle.js_resolver.proofs.apart.Spans.{Lie, Spans}
use Rattle.js_resolver.proofs.apart.Spelled.{tree_spans}
use Rattle.js_resolver.proofs.apart.Nodes.{items_few}

ascend_few : (low high : ℕ) (xs : List ℕ) → Ascend low high xs → low + length xs ≤ high
ascend_few low high [] h = omega (arith, h)
ascend_few low high (x ∷ xs) h = omega (arith, h.0, ascend_few (suc x) high xs h.1)

-- no more tokens than offsets before the end
order_few : (end : ℕ) (ts : List Token) → InOrder end ts → next end ts + length ts ≤ end
order_few end [] h = omega arith
order_few end (t ∷ ts) h = omega (arith, h.0, order_few end ts h.1)

joins_few : (xs : List ℕ) (x : ℕ) → length (joins xs x) ≤ length xs + 1
joins_few xs x = elim (is_among x xs) as (λ b. length (if b then xs else xs ++ x ∷ []) ≤ length xs + 1) [ true ↦ omega arith | false ↦ omega (arith, length-append xs (x ∷ [])) ]

fold_few : (acc xs : List ℕ) → length (fold joins acc xs) ≤ length acc + length xs
fold_few acc [] = omega arith
fold_few acc (x ∷ xs) = omega (arith, joins_few acc x, fold_few (joins acc x) xs)

option_few : (o : Option ℕ) (xs : List ℕ) → length (cons_option o xs) ≤ length xs + 1
option_few None xs = omega arith
option_few (Some x) xs = omega arith

-- no more constants than names
constants_few : (assigned : List ℕ) (ss : List Unresolved) → length (filter_map (constant_at assigned) (map look_up ss)) ≤ length (names_in ss)
unfolding look_up
constants_few assigned [] = omega arith
constants_few assigned (s ∷ ss) =
    let rest = filter_map (constant_at assigned) (map look_up ss) in
    let offset = s.name.spot.at in
    let cases : (w : What) (o : Option Declared) → length (cons_option (constant_in assigned (variable_at w o)) rest) ≤ length (if is_name w then offset ∷ names_in ss else names_in ss) =
    λ w o. elim w as (λ w. length (cons_option (constant_in assigned (variable_at w o)) rest) ≤ length (if is_name w then offset ∷ names_in ss else names_in ss)) [
      | What.Declares r ↦ omega (arith, option_few (constant_in assigned (variable_at (What.Declares r) o)) rest, constants_few assigned ss)
      | What.Reads ↦ omega (arith, constants_few assigned ss)
      | What.Assigns ↦ omega (arith, constants_few assigned ss)
      | What.Misuses ↦ constants_few assigned ss
      | What.LoopWord ↦ constants_few assigned ss
      | What.Returns ↦ constants_few assigned ss
      | What.Begins ↦ constants_few assigned ss
    ]
    in
    cases s.what (look_up s).declared

functions_few : (ps : List Mention) (functions : List PlainBody) (fs : List ℕ) → captures_in_order functions ≡ map (capture_slots ps) fs → length functions ≡ length fs
functions_few ps functions fs e = sym (length-map functions (λ (c : PlainBody). c.captures)) ∙ (ap length e ∙ length-map fs (capture_slots ps))

-- how many nodes, functions and constants a program has
pub record AreFew (end : ℕ) (items : List PlainItem) : Type 0 where
  pub nodes : length (program_of_tree items).nodes ≤ 2 * end
  pub functions : length (program_of_tree items).functions ≤ end
  pub constants : length (program_of_tree items).constants ≤ end

-- no more than tokens in order before an end allow
pub spelled_few : (end : ℕ) (ts : List Token) (items : List PlainItem) → InOrder end ts → SpellsTree ts items → AreFew end items
unfolding program_of_tree mentions unresolved_mentions constants_of
spelled_few end ts items order spelled =
    let scopes = program_scopes items in
    let ps = mentions items in
    let first = begin_mention scopes top (program_spot items) in
    let ss = flat_map (item_mentions scopes) items in
    let spans : Spans ts [] ss = tree_spans scopes (program_own items) (program_vars items) spelled in
    let lie : Lie end ts [] ss = spans.lie end order in
    let all = filter_map (constant_at (assigned_in ps)) (map look_up (first ++ ss)) in
    let constant = length-map (constants_of (assigned_in ps) ps) (constant_of items ps) in
    record {
      nodes = omega (arith, items_few ps 0 spelled, order_few end ts order);
      functions = omega (arith, functions_few ps (items_piece ps 0 items).functions (begun ss) (items_listed ps scopes 0 items), ascend_few (next end ts) end (begun ss) lie.begins);
      constants = omega (arith, constant, fold_few [] all, constants_few (assigned_in ps) (first ++ ss), ascend_few (next end ts) end (names_in ss) lie.names);
    }
