-- The text at some bytes.
use Rattle.std.proofs.Common.{◌≡◌, ℕ, List, Some, None, option_and_then, true, refl, ap}
use Rattle.std.specs.Str.{is_utf8, IsUtf8, bytes_eq}
use Rattle.std.proofs.lemmas.Str.{is_utf8-from_IsUtf8, IsUtf8-from_is_utf8}
use Rattle.std.proofs.lemmas.Bool.{cond_both}
use Rattle.serde_json.specs.Data as json
use Rattle.serde_json.specs.Find.{as_str}
use Rattle.serde_json.specs.Read.{read}
use Rattle.js_data.specs.JsonText.{quoted_text}
use Rattle.bp_reading.specs.Words.{text_at, if_quoted}

pub text_refused : (bytes : List ℕ) → (IsUtf8 bytes → read bytes ≡ None) → text_at bytes ≡ None
text_refused bytes h =
    cond_both (is_utf8 bytes) _ None (λ y. y ≡ None) (λ e. ap (λ r. option_and_then (if_quoted bytes) (option_and_then as_str r)) (h (IsUtf8-from_is_utf8 bytes e))) (λ e. refl)

pub text_found : (bytes s : List ℕ) (d : json.Data) → IsUtf8 bytes → read bytes ≡ Some d → as_str d ≡ Some s → bytes_eq (quoted_text s) bytes ≡ true → text_at bytes ≡ Some s
text_found bytes s d u r f h = rw (is_utf8-from_IsUtf8 bytes u, r, f, h) refl
