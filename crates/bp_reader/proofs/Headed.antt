-- Options, and a header after its first line, each from its three parts.
use Rattle.std.proofs.Common.{◌≡◌, ℕ, List, Option, Some, None, Result, Ok, Err, true, refl}
use Rattle.std.specs.Prelude.{IfSome, IsSomeAnd, codes}
use Rattle.bp_log.specs.Options.{PlainOptions}
use Rattle.bp_log.specs.Header.{PlainHeader}
use Rattle.bp_log.specs.declared.limits.TheConstants.{MOST_BYTES, MOST_INJECTORS}
use Rattle.bp_log.specs.declared.options.Strategy.{Strategy}
use Rattle.bp_log.specs.declared.version.Version.{Version}
use Rattle.bp_reading.specs.Heads.{Refusal, version, header, record_line, cut, choice_at, limits_at, options_at, settings_at, field_at, program_at, body_at}
use Rattle.bp_reader.specs.declared.fault.LogFault.{LogFault}
use Rattle.bp_reader.specs.declared.fault.LogFault.TheVariants as fault
use Rattle.bp_reader.specs.Gets.{MeansRead, Gets}

-- what refuses a part refuses the whole
refused_too : {X Y : Type 0} (f : LogFault) (part : Result (X × List ℕ) Refusal) (all : Result (Y × List ℕ) Refusal) →
    ((e : Refusal) → part ≡ Err e → all ≡ Err e) → MeansRead f part → MeansRead f all
refused_too fault.Version part all h m = h version m
refused_too fault.Header part all h m = h header m
refused_too (fault.Line n) part all h m = h (record_line n) m
refused_too fault.Cut part all h m = h cut m
refused_too fault.Read part all h m = tt
refused_too fault.Memory part all h m = tt

-- the options were read, and the size
abbrev pub Sized : Version → Option (List ℕ) → Option (List ℕ) → Option (List ℕ) → PlainOptions → ℕ → Type 0
Sized v first second third options size =
    IfSome first (λ bytes. IsSomeAnd second (λ rest. settings_at v bytes ≡ Ok (options, rest)))
    × IfSome second (λ bytes. IsSomeAnd third (λ rest. field_at (codes "program ") 0 MOST_BYTES bytes ≡ Ok (size, rest)))

pub program_refused : (v : Version) (first second third last : Option (List ℕ)) (options : PlainOptions) (size : ℕ) (f : LogFault) (r : Result PlainHeader LogFault) →
    Sized v first second third options size → IfSome third (λ bytes. MeansRead f (program_at size bytes)) → r ≡ Err f →
    IfSome first (λ bytes. Gets (λ (h : PlainHeader). h) r (body_at v bytes) last)
unfolding body_at
program_refused v None second third last options size f r h m e = tt
program_refused v (Some bytes) None third last options size f r h m e = absurd h.0
program_refused v (Some bytes) (Some more) None last options size f r h m e = absurd h.1
program_refused v (Some bytes) (Some more) (Some rest) last options size f r h m e =
    rw e (refused_too f (program_at size rest) (body_at v bytes) (λ x q. rw (h.0, h.1, q) refl) m)

pub program_found : (v : Version) (first second third last : Option (List ℕ)) (options : PlainOptions) (size : ℕ) (program : List ℕ) (r : Result PlainHeader LogFault) →
    Sized v first second third options size →
    IfSome third (λ bytes. IsSomeAnd last (λ rest. program_at size bytes ≡ Ok (program, rest))) →
    r ≡ Ok (record { options = options; program = program }) →
    IfSome first (λ bytes. Gets (λ (h : PlainHeader). h) r (body_at v bytes) last)
unfolding body_at
program_found v None second third last options size program r h m e = tt
program_found v (Some bytes) None third last options size program r h m e = absurd h.0
program_found v (Some bytes) (Some more) None last options size program r h m e = absurd h.1
program_found v (Some bytes) (Some more) (Some rest) None options size program r h m e = absurd m
program_found v (Some bytes) (Some more) (Some rest) (Some left) options size program r h m e = rw e (rw (h.0, h.1, m) refl)

-- the strategy, the seed and the limits were read
abbrev pub Chosen : Option (List ℕ) → Option (List ℕ) → Option (List ℕ) → Strategy × ℕ → ℕ × ℕ → Type 0
Chosen first second third choice limits =
    IfSome first (λ bytes. IsSomeAnd second (λ rest. choice_at bytes ≡ Ok (choice, rest)))
    × IfSome second (λ bytes. IsSomeAnd third (λ rest. limits_at bytes ≡ Ok (limits, rest)))

pub injectors_refused : (first second third last : Option (List ℕ)) (choice : Strategy × ℕ) (limits : ℕ × ℕ) (f : LogFault) (r : Result PlainOptions LogFault) →
    Chosen first second third choice limits → IfSome third (λ bytes. MeansRead f (field_at (codes "injectors ") 0 MOST_INJECTORS bytes)) → r ≡ Err f →
    IfSome first (λ bytes. Gets (λ (o : PlainOptions). o) r (options_at bytes) last)
unfolding options_at
injectors_refused None second third last choice limits f r h m e = tt
injectors_refused (Some bytes) None third last choice limits f r h m e = absurd h.0
injectors_refused (Some bytes) (Some more) None last choice limits f r h m e = absurd h.1
injectors_refused (Some bytes) (Some more) (Some rest) last choice limits f r h m e =
    rw e (refused_too f (field_at (codes "injectors ") 0 MOST_INJECTORS rest) (options_at bytes) (λ x q. rw (h.0, h.1, q) refl) m)

pub injectors_found : (first second third last : Option (List ℕ)) (choice : Strategy × ℕ) (limits : ℕ × ℕ) (n : ℕ) (r : Result PlainOptions LogFault) →
    Chosen first second third choice limits →
    IfSome third (λ bytes. IsSomeAnd last (λ rest. field_at (codes "injectors ") 0 MOST_INJECTORS bytes ≡ Ok (n, rest))) →
    r ≡ Ok (record { strategy = choice.0; seed = choice.1; budget = limits.0; steps = limits.1; injectors = n; wait = true }) →
    IfSome first (λ bytes. Gets (λ (o : PlainOptions). o) r (options_at bytes) last)
unfolding options_at
injectors_found None second third last choice limits n r h m e = tt
injectors_found (Some bytes) None third last choice limits n r h m e = absurd h.0
injectors_found (Some bytes) (Some more) None last choice limits n r h m e = absurd h.1
injectors_found (Some bytes) (Some more) (Some rest) None choice limits n r h m e = absurd m
injectors_found (Some bytes) (Some more) (Some rest) (Some left) choice limits n r h m e = rw e (rw (h.0, h.1, m) refl)
