-- What is asked why, in words, computed.
use Rattle.std.proofs.Common.{◌≡◌, ℕ, List, [], ◌∷◌, Option, Some, None, refl}
use Rattle.std.specs.Prelude.{codes, pos}
use Rattle.std.specs.Str.{is_utf8, chars}
use Rattle.serde_json.proofs.OnLiterals.{serde_json_on_literals}
use Rattle.js_data.specs.Data.{PlainData, whole}
use Rattle.bp_explain.specs.declared.subject.Subject.TheVariants.{Selection, Event}
use Rattle.bpx_cli.specs.declared.request.Request.{Request}
use Rattle.bpx_cli.specs.declared.request.Request.TheVariants.{Why}
use Rattle.bpx_cli.specs.Requests.{request_of}

abbrev p : List ℕ
p = codes "p"

abbrev hot : List ℕ
hot = codes "[\"hot\"]"

-- what `why` with these words asks for
abbrev asked : List (List ℕ) → Option Request
asked words = request_of (codes "why" ∷ words)

abbrev selection : List ℕ → ℕ → Option Request
selection log number = Some (Why (record { log = log; subject = Selection number }))

abbrev event : List ℕ → List ℕ → Option PlainData → Option Request
event log name extra = Some (Why (record { log = log; subject = Event (record { name = name; extra = extra }) }))

-- ---- selections

pub first : asked (p ∷ codes "1" ∷ []) ≡ selection p 1
first = refl

pub most : asked (p ∷ codes "4294967295" ∷ []) ≡ selection p 4_294_967_295
most = refl

pub too_great : asked (p ∷ codes "4294967296" ∷ []) ≡ None
unfolding serde_json_on_literals is_utf8 chars
too_great = refl

pub counted_from_one : asked (p ∷ codes "0" ∷ []) ≡ None
unfolding serde_json_on_literals is_utf8 chars
counted_from_one = refl

pub zero_before : asked (p ∷ codes "03" ∷ []) ≡ None
unfolding serde_json_on_literals is_utf8 chars
zero_before = refl

pub no_sign : asked (p ∷ codes "-1" ∷ []) ≡ None
unfolding serde_json_on_literals is_utf8 chars
no_sign = refl

pub name_of_digits : asked (codes "5" ∷ codes "7" ∷ []) ≡ selection (codes "5") 7
name_of_digits = refl

pub name_after_dashes : asked (codes "--" ∷ codes "-l" ∷ codes "3" ∷ []) ≡ selection (codes "-l") 3
name_after_dashes = refl

pub name_like_an_event : asked (hot ∷ codes "2" ∷ []) ≡ selection hot 2
name_like_an_event = refl

-- ---- events

pub without_data : asked (p ∷ hot ∷ []) ≡ event p (codes "hot") None
unfolding serde_json_on_literals is_utf8 chars
without_data = refl

pub with_data : asked (p ∷ codes "[ \"temperature\", 18 ]" ∷ []) ≡ event p (codes "temperature") (Some (whole (pos 18)))
unfolding serde_json_on_literals is_utf8 chars
with_data = refl

pub name_of_a_digit : asked (p ∷ codes "[\"7\"]" ∷ []) ≡ event p (codes "7") None
unfolding serde_json_on_literals is_utf8 chars
name_of_a_digit = refl

pub no_json : asked (p ∷ codes "hot" ∷ []) ≡ None
unfolding serde_json_on_literals is_utf8 chars
no_json = refl

pub no_event : asked (p ∷ codes "\"hot\"" ∷ []) ≡ None
unfolding serde_json_on_literals is_utf8 chars
no_event = refl

pub more_data : asked (p ∷ codes "[\"hot\",1,2]" ∷ []) ≡ None
unfolding serde_json_on_literals is_utf8 chars
more_data = refl

pub an_event_behind : asked (p ∷ codes "[\"hot\"]x" ∷ []) ≡ None
unfolding serde_json_on_literals is_utf8 chars
an_event_behind = refl

-- ---- too few words, and too many

pub no_words : asked [] ≡ None
no_words = refl

pub no_log : asked (codes "3" ∷ []) ≡ None
no_log = refl

pub no_log_after_dashes : asked (codes "--" ∷ codes "3" ∷ []) ≡ None
no_log_after_dashes = refl

pub two_numbers : asked (p ∷ codes "1" ∷ codes "1" ∷ []) ≡ None
two_numbers = refl

pub two_events : asked (p ∷ hot ∷ hot ∷ []) ≡ None
two_events = refl

pub no_option : asked (p ∷ codes "--seed=3" ∷ []) ≡ None
unfolding serde_json_on_literals is_utf8 chars
no_option = refl

pub an_option_before : asked (codes "--seed=3" ∷ p ∷ codes "1" ∷ []) ≡ None
an_option_before = refl
