-- The words of the random choice.
use Rattle.std.specs.Prelude.{ℕ, List, ◌++◌, replicate}
use Rattle.std.specs.Int.{w64, to_le_bytes}
use Rattle.rand_chacha.specs.ChaCha.{word_at, key_of}

-- the key: the 8 bytes of the seed, least first, and 24 zero bytes
abbrev pub key_bytes : ℕ → List ℕ
key_bytes seed = to_le_bytes w64 seed ++ replicate 24 0

-- the 32-bit word of ChaCha8 at this place of stream 0, from place 0
unfoldable pub draw_word : ℕ → ℕ → ℕ
draw_word seed place = word_at 4 (key_of (key_bytes seed)) 0 place
