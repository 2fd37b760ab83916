-- No rule of names is broken in the tree of the large program.
use Rattle.std.proofs.Common.{◌≡◌, ℕ, zero, suc, ◌<◌, ◌≤◌, false, List, [], refl, arith, Some, None}
use Rattle.js_lexer.specs.declared.token.Token.{Token}
use Rattle.js_tree.specs.Plain.{PlainItem}
use Rattle.js_grammar.specs.Statements as stmts
use Rattle.js_grammar.specs.Reading.{Found, iterations, run}
use Rattle.js_grammar.specs.Reader.{readers}
use Rattle.js_grammar.specs.Unsupported.{first_unsupported}
use Rattle.js_grammar.specs.Sorts.{sort, named, numbered, quoted, member_word, key}
use Rattle.js_grammar.specs.Operators.{operator_at, sign, step, assign_op}
use Rattle.js_grammar.specs.Tokens.{declares, lexical, is_of}
use Rattle.js_names.specs.Scopes.{program_scope, function_scope, block_scope, for_three_scope, list_scope, for_of_scope}
use Rattle.js_names.specs.Unresolved.{expr_mentions, form_mentions, exprs_mentions, fields_mentions, perhaps_mentions, declarators_mentions, start_mentions, stmt_mentions, stmt_form_mentions, stmts_mentions, item_mentions, unresolved_mentions}
use Rattle.js_names.specs.Mentions.{found, found_var, functions_of, repeated, blocked, look_up, mentions}
use Rattle.js_names.specs.Slots.{assigned_in, holdings, slots_of, slot_count}
use Rattle.js_names.specs.Rules.{fault_at, name_fault}
use Rattle.bp_large.proofs.Tokens.{tokens_before, tokens_behind, tokens}

-- the tree that was found
abbrev found_tree : Found (List PlainItem) → List PlainItem
found_tree None = []
found_tree (Some (tree, left)) = tree

pub record IsRead (ts : List Token) : Type 0 where
  pub tree : List PlainItem
  pub supported : first_unsupported false ts ≡ None
  pub is : stmts.items 20 (readers 20) ts ≡ Some (tree, [])
  pub named : name_fault tree ≡ None

-- the tree that is found in the program for a number of this many digits
abbrev tree_of : ℕ → ℕ → List PlainItem
tree_of size v = found_tree (stmts.items 20 (readers 20) (tokens size v))

is_read : (size v : ℕ)
    → first_unsupported false (tokens size v) ≡ None
    → stmts.items 20 (readers 20) (tokens size v) ≡ Some (tree_of size v, [])
    → name_fault (tree_of size v) ≡ None
    → IsRead (tokens size v)
is_read size v supported is named = record { tree = tree_of size v; supported = supported; is = is; named = named }

-- a number of this many digits
pub reads : (size : ℕ) → 0 < size → size ≤ 10 → (v : ℕ) → IsRead (tokens size v)
unfolding program_scope function_scope block_scope for_three_scope list_scope for_of_scope expr_mentions form_mentions exprs_mentions fields_mentions perhaps_mentions declarators_mentions start_mentions stmt_mentions stmt_form_mentions stmts_mentions item_mentions unresolved_mentions found found_var functions_of repeated blocked look_up mentions assigned_in holdings slots_of slot_count fault_at name_fault tokens_before tokens_behind tokens sort named numbered quoted member_word key operator_at sign step assign_op declares lexical is_of readers iterations run
reads zero h l v = absurd (omega (arith, h))
reads (suc zero) h l v = is_read 1 v refl refl refl
reads (suc (suc zero)) h l v = is_read 2 v refl refl refl
reads (suc (suc (suc zero))) h l v = is_read 3 v refl refl refl
reads (suc (suc (suc (suc zero)))) h l v = is_read 4 v refl refl refl
reads (suc (suc (suc (suc (suc zero))))) h l v = is_read 5 v refl refl refl
reads (suc (suc (suc (suc (suc (suc zero)))))) h l v = is_read 6 v refl refl refl
reads (suc (suc (suc (suc (suc (suc (suc zero))))))) h l v = is_read 7 v refl refl refl
reads (suc (suc (suc (suc (suc (suc (suc (suc zero)))))))) h l v = is_read 8 v refl refl refl
reads (suc (suc (suc (suc (suc (suc (suc (suc (suc zero))))))))) h l v = is_read 9 v refl refl refl
reads (suc (suc (suc (suc (suc (suc (suc (suc (suc (suc zero)))))))))) h l v = is_read 10 v refl refl refl
reads (suc (suc (suc (suc (suc (suc (suc (suc (suc (suc (suc n))))))))))) h l v = absurd (omega (arith, l))
