-- The event at some bytes.
use Rattle.std.proofs.Common.{◌≡◌, ℕ, List, Some, None, option_and_then, refl, ap}
use Rattle.std.specs.Str.{is_utf8, IsUtf8}
use Rattle.std.proofs.lemmas.Str.{is_utf8-from_IsUtf8, IsUtf8-from_is_utf8}
use Rattle.std.proofs.lemmas.Bool.{cond_both, le-leb}
use Rattle.serde_json.specs.Data as json
use Rattle.serde_json.specs.Read.{read}
use Rattle.js_data.specs.Event.{PlainEvent, IsEvent, event_weight, event_nesting}
use Rattle.js_data.specs.declared.event.TheConstants.Event as event
use Rattle.js_json.specs.Json.{event_from, event_at, within_limits}

pub refused : (bytes : List ℕ) → (IsUtf8 bytes → read bytes ≡ None) → event_at bytes ≡ None
refused bytes h =
    cond_both (is_utf8 bytes) (option_and_then within_limits (option_and_then event_from (read bytes))) None (λ y. y ≡ None)
    (λ e. ap (λ r. option_and_then within_limits (option_and_then event_from r)) (h (IsUtf8-from_is_utf8 bytes e))) (λ e. refl)

pub accepted : (bytes : List ℕ) (d : json.Data) (e : PlainEvent) → IsUtf8 bytes → read bytes ≡ Some d → event_from d ≡ Some e → IsEvent e → event_at bytes ≡ Some e
accepted bytes d e u r f h =
    rw (is_utf8-from_IsUtf8 bytes u, r, f, le-leb (event_weight e) event.MOST_WEIGHT h.weight, le-leb (event_nesting e) event.MOST_NESTING h.nesting)
