-- The large program is accepted.
use Rattle.std.proofs.Common.{◌≡◌, ℕ, ◌<◌, ◌≤◌, List, [], ◌∷◌, ◌++◌, length, drop, refl, sym, subst, arith, length-append}
use Rattle.std.specs.Prelude.{decimal}
use Rattle.std.specs.Str.{IsUtf8}
use Rattle.std.proofs.lemmas.Str.{IsUtf8-from_ascii, IsAscii-append}
use Rattle.std.proofs.lemmas.Fmt.{IsAscii-decimal, length-decimal-le}
use Rattle.js_grammar.proofs.Unique.{tree_found}
use Rattle.js_lexer.specs.declared.limits.TheConstants.{MOST_BYTES}
use Rattle.js_lexer.specs.Cut.{Cut}
use Rattle.js_lexer.proofs.Ascii.{small_ascii}
use Rattle.bp_script.specs.declared.refusal.Refusal.{Refusal}
use Rattle.bp_script.specs.Programs.{IsRefused}
use Rattle.bp_script.proofs.Once.{never}
use Rattle.bp_large.specs.Large as large
use Rattle.bp_large.specs.Large.{large_program, HasAcceptedTree}
use Rattle.bp_large.proofs.Digits.{is_numbered}
use Rattle.bp_large.proofs.Tokens.{tokens, cut}
use Rattle.bp_large.proofs.Names.{reads}

utf8 : (n : ℕ) → n < 4294967296 → IsUtf8 (large.front ++ decimal n ++ large.rest)
utf8 n h =
    IsUtf8-from_ascii _ (IsAscii-append large.front (decimal n ++ large.rest) (small_ascii large.front refl) (IsAscii-append (decimal n) large.rest (IsAscii-decimal n (omega arith)) (small_ascii large.rest refl)))

few : (n : ℕ) → n < 4294967296 → length (decimal n) ≤ 10
few n h = length-decimal-le 10 n (omega arith) (omega arith) (omega arith)

short : (n : ℕ) → n < 4294967296 → length (large.front ++ decimal n ++ large.rest) ≤ MOST_BYTES
short n h =
    let a = length-append large.front (decimal n ++ large.rest) in
    let b = length-append (decimal n) large.rest in
    let c : length large.front ≡ 113 = refl in
    let d : length large.rest ≡ 44 = refl in
    omega (arith, a, b, c, d, few n h)

-- the bytes with these digits
of_cut : (bytes : List ℕ) (size v : ℕ) → length bytes ≤ MOST_BYTES → IsUtf8 bytes → Cut bytes (tokens size v) → 0 < size → size ≤ 10 → HasAcceptedTree bytes
of_cut bytes size v s u c some h =
    let r = reads size some h v in
    let t = tree_found 20 (tokens size v) r.tree [] r.is in (
      r.tree,
      record {
        spelled = record {
          tokens = tokens size v;
          cut = record { short = s; utf8 = u; cut = c };
          supported = r.supported;
          spelled = record { spelled = t.spelled; within = omega (arith, t.within) };
        };
        named = r.named;
      },
    )

pub accepted : (n : ℕ) → n < 4294967296 → HasAcceptedTree (large_program n)
unfolding large_program
accepted n h =
    let d = is_numbered (drop 1 large.rest) n h in
    let f : length (d.first ∷ d.more) ≤ 10 = subst (λ (ds : List ℕ). length ds ≤ 10) d.is (few n h) in
    subst (λ (ds : List ℕ). HasAcceptedTree (large.front ++ ds ++ large.rest)) (sym d.is)
    (of_cut (large.front ++ (d.first ∷ d.more) ++ large.rest) (length (d.first ∷ d.more)) d.amount
    (subst (λ (ds : List ℕ). length (large.front ++ ds ++ large.rest) ≤ MOST_BYTES) d.is (short n h)) (subst (λ (ds : List ℕ). IsUtf8 (large.front ++ ds ++ large.rest)) d.is (utf8 n h))
    (cut d.first d.more d.amount d.number d.line) (omega arith) f)

pub never_refused : (n : ℕ) (bytes : List ℕ) (refusal : Refusal) → bytes ≡ large_program n → n < 4294967296 → IsRefused bytes refusal → ⊥
never_refused n bytes refusal e h r = let a = accepted n h in never (large_program n) a.0 refusal a.1 (subst (λ (bs : List ℕ). IsRefused bs refusal) e r)
