-- The texts of verdicts, records and options, grouped from the right.
use Rattle.std.proofs.Common.{◌≡◌, ℕ, List, [], ◌∷◌, ◌++◌, refl, ap, ◌∙◌, append_assoc}
use Rattle.std.specs.Prelude.{decimal, codes}
use Rattle.js_data.specs.Faults.{fault_name}
use Rattle.js_data.specs.JsonText.{event_text, quoted_text}
use Rattle.bp_log.specs.Texts.{place_text, verdict_text}
use Rattle.bp_log.specs.Logs.{record_text, options_text, strategy_name}
use Rattle.bp_log.specs.Options.{PlainOptions}
use Rattle.bp_log.specs.declared.limits.TheConstants.{MOST_WAITING, MOST_THREADS, MOST_WEIGHT}
use Rattle.bp_log.specs.declared.record.Record.{Record}
use Rattle.bp_log.specs.declared.record.Record.TheVariants.{In, Bad, Eof, Sel, End}
use Rattle.bp_log.specs.declared.verdict.Verdict.{Verdict}
use Rattle.bp_log.specs.declared.verdict.Verdict.TheVariants as verdict

spaced : (a b : List ℕ) → (a ++ (32 ∷ [])) ++ b ≡ a ++ (32 ∷ b)
spaced a b = append_assoc a (32 ∷ []) b

twice : (a b c : List ℕ) → (((a ++ (32 ∷ [])) ++ b) ++ (32 ∷ [])) ++ c ≡ a ++ (32 ∷ (b ++ (32 ∷ c)))
twice a b c = spaced ((a ++ (32 ∷ [])) ++ b) c ∙ append_assoc (a ++ (32 ∷ [])) b (32 ∷ c) ∙ spaced a (b ++ (32 ∷ c))

abbrev pub spelled_verdict : Verdict → List ℕ
spelled_verdict (verdict.Quiet n) = codes "quiet " ++ decimal n
spelled_verdict (verdict.Violated place t) = codes "violated " ++ (place_text place ++ (32 ∷ quoted_text t))
spelled_verdict (verdict.Fault place line f) = codes "fault " ++ (place_text place ++ (32 ∷ (decimal line ++ (32 ∷ fault_name f))))
spelled_verdict (verdict.Spent place) = codes "spent " ++ place_text place
spelled_verdict (verdict.Steps n) = codes "limit steps " ++ decimal n
spelled_verdict verdict.Queue = codes "limit queue " ++ decimal MOST_WAITING
spelled_verdict verdict.Threads = codes "limit bthreads " ++ decimal MOST_THREADS
spelled_verdict verdict.Weight = codes "limit weight " ++ decimal MOST_WEIGHT
spelled_verdict (verdict.Bad j line) = codes "bad " ++ (decimal j ++ (32 ∷ decimal line))

verdict_is : (v : Verdict) → verdict_text v ≡ spelled_verdict v
verdict_is (verdict.Quiet n) = refl
verdict_is (verdict.Violated place t) = ap (λ l. codes "violated " ++ l) (spaced (place_text place) (quoted_text t))
verdict_is (verdict.Fault place line f) = ap (λ l. codes "fault " ++ l) (twice (place_text place) (decimal line) (fault_name f))
verdict_is (verdict.Spent place) = refl
verdict_is (verdict.Steps n) = refl
verdict_is verdict.Queue = refl
verdict_is verdict.Threads = refl
verdict_is verdict.Weight = refl
verdict_is (verdict.Bad j line) = ap (λ l. codes "bad " ++ l) (spaced (decimal j) (decimal line))

abbrev pub spelled_record : Record → List ℕ
spelled_record (In j e) = codes "in " ++ (decimal j ++ (32 ∷ event_text e))
spelled_record (Bad j line) = codes "bad " ++ (decimal j ++ (32 ∷ decimal line))
spelled_record (Eof j) = codes "eof " ++ decimal j
spelled_record (Sel e) = codes "sel " ++ event_text e
spelled_record (End v) = codes "end " ++ spelled_verdict v

pub record_is : (r : Record) → record_text r ≡ spelled_record r
unfolding record_text
record_is (In j e) = ap (λ l. codes "in " ++ l) (spaced (decimal j) (event_text e))
record_is (Bad j line) = ap (λ l. codes "bad " ++ l) (spaced (decimal j) (decimal line))
record_is (Eof j) = refl
record_is (Sel e) = refl
record_is (End v) = ap (λ l. codes "end " ++ l) (verdict_is v)

-- ---- from the left to the right

three : (a b c r : List ℕ) → ((a ++ b) ++ c) ++ r ≡ a ++ (b ++ (c ++ r))
three a b c r = append_assoc (a ++ b) c r ∙ append_assoc a b (c ++ r)

five : (a b c d e r : List ℕ) → ((((a ++ b) ++ c) ++ d) ++ e) ++ r ≡ a ++ (b ++ (c ++ (d ++ (e ++ r))))
five a b c d e r = three ((a ++ b) ++ c) d e r ∙ three a b c (d ++ (e ++ r))

pub six : (a b c d e f r : List ℕ) → (((((a ++ b) ++ c) ++ d) ++ e) ++ f) ++ r ≡ a ++ (b ++ (c ++ (d ++ (e ++ (f ++ r)))))
six a b c d e f r = append_assoc ((((a ++ b) ++ c) ++ d) ++ e) f r ∙ five a b c d e (f ++ r)

nine : (a b c d e f g h i r : List ℕ) → ((((((((a ++ b) ++ c) ++ d) ++ e) ++ f) ++ g) ++ h) ++ i) ++ r ≡ a ++ (b ++ (c ++ (d ++ (e ++ (f ++ (g ++ (h ++ (i ++ r))))))))
nine a b c d e f g h i r = five ((((a ++ b) ++ c) ++ d) ++ e) f g h i r ∙ five a b c d e (f ++ (g ++ (h ++ (i ++ r))))

-- the text of options, and what follows
unfoldable pub options_then : PlainOptions → List ℕ → List ℕ
options_then o more =
    codes "strategy " ++ (strategy_name o.strategy ++ (10 ∷ (codes "seed " ++ (decimal o.seed ++ (10 ∷ (codes "budget " ++ (decimal o.budget
    ++ (10 ∷ (codes "steps " ++ (decimal o.steps ++ (10 ∷ (codes "injectors " ++ (decimal o.injectors ++ more)))))))))))))

pub options_regrouped : (o : PlainOptions) (more : List ℕ) → options_text o ++ more ≡ options_then o more
unfolding options_then
options_regrouped o more =
    ap (λ l. codes "strategy " ++ l)
    (nine (strategy_name o.strategy) (codes "\nseed ") (decimal o.seed) (codes "\nbudget ") (decimal o.budget) (codes "\nsteps ") (decimal o.steps) (codes "\ninjectors ") (decimal o.injectors) more)
