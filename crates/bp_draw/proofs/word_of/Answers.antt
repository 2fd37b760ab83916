use Rattle.std.proofs.Common.{◌∙◌, ◌<◌, ◌%◌, ◌++◌, ℕ, List, ap, arith}
use Rattle.std.specs.Prelude.{replicate}
use Rattle.std.proofs.Math.Nat.{mod-eq_of_lt}
use Rattle.rand_chacha.specs.ChaCha.{ChaCha, word_at, key_of}
use Rattle.bp_draw.specs.Words.{draw_word, key_bytes}
use Rattle.bp_draw.proofs.word_of.Goals as goal

pub returns : goal.returns
unfolding draw_word
returns c =
    let place = c.args.place % 295147905179352825856 in
    let fits = c.ranges.place.fits in
    let small : c.args.place < 295147905179352825856 = omega (arith, fits) in
    ap (λ (p : ℕ × ChaCha). p.0) c.next_word.ensures
    ∙ ap (λ (g : ChaCha). word_at 4 g.key g.stream g.word_pos) c.set_word_pos.ensures
    ∙ ap (λ (g : ChaCha). word_at 4 g.key g.stream place) c.from_seed-rng.ensures
    ∙ ap (λ (bytes : List ℕ). word_at 4 (key_of (bytes ++ replicate 24 0)) 0 place) (c.copy_from_slice.ensures.after ∙ c.to_le_bytes.ensures)
    ∙ ap (λ (n : ℕ). word_at 4 (key_of (key_bytes c.args.seed)) 0 n) (mod-eq_of_lt small)
