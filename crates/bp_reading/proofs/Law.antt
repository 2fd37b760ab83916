-- No two logs have one text.
use Rattle.std.proofs.Common.{◌≡◌, ℕ, ◌<◌, ◌^◌, Bool, true, false, List, [], ◌∷◌, ◌++◌, length, take, Some, refl, sym, ap, ap₂, ◌∙◌, arith, append_assoc, append-nil, get_or}
use Rattle.std.specs.Prelude.{decimal, codes}
use Rattle.std.proofs.Math.Seq.{take-append_seam}
use Rattle.std.proofs.lemmas.List.{append_cancel_left}
use Rattle.std.proofs.lemmas.Fmt.{decimal_injective}
use Rattle.std.proofs.lemmas.Option.{same_Some}
use Rattle.bp_log.specs.Options.{PlainOptions, AreOptions}
use Rattle.bp_log.specs.Header.{PlainHeader}
use Rattle.bp_log.specs.Logs.{record_text, records_text, log_text, header_text, options_text, strategy_name, strategy_at, version_line, wait_name, wait_at, can_say}
use Rattle.bp_log.specs.declared.version.Version.{Version}
use Rattle.bp_log.specs.declared.version.Version.TheVariants.{First, Second}
use Rattle.bp_log.specs.declared.options.Strategy.{Strategy}
use Rattle.bp_log.specs.declared.options.Strategy.TheVariants.{Simple, Ordered, Priority}
use Rattle.bp_log.specs.declared.record.Record.{Record}
use Rattle.bp_reading.specs.Lines.{record_at}
use Rattle.bp_reading.specs.Laws.{IsHeader, IsRecord, AreRecords, OneReading}
use Rattle.bp_reading.proofs.Lines.{lacks, cut_same, Same}
use Rattle.bp_reading.proofs.Numbers.{lacks-decimal}
use Rattle.bp_reading.proofs.Spelled.{six, options_then, options_regrouped}
use Rattle.bp_reading.proofs.Texts.{lacks-record}
use Rattle.bp_reading.proofs.Back.{record_back}

record_same : (r s : Record) → IsRecord r → IsRecord s → record_text r ≡ record_text s → r ≡ s
record_same r s h k t = same_Some r s (sym (record_back r h) ∙ ap record_at t ∙ record_back s k)

-- a number that ends at a byte below the digits
number_cut : (c m n : ℕ) (x y : List ℕ) → c < 48 → m < 2 ^ 64 → n < 2 ^ 64 → decimal m ++ c ∷ x ≡ decimal n ++ c ∷ y → (m ≡ n) × (x ≡ y)
number_cut c m n x y b h k e =
    let s = cut_same c (decimal m) (decimal n) x y (lacks-decimal c b m h) (lacks-decimal c b n k) e in
    (decimal_injective m n h k s.front, s.rest)

-- the text of a record, its LF, and what follows
pub regrouped : (r : Record) (rs : List Record) → records_text (r ∷ rs) ≡ record_text r ++ 10 ∷ records_text rs
unfolding records_text
regrouped r rs = append_assoc (record_text r) (10 ∷ []) (records_text rs)

some_bytes : (xs ys : List ℕ) (c : ℕ) → [] ≡ xs ++ c ∷ ys → ⊥
some_bytes [] ys c e = omega (arith, ap (length {A = ℕ}) e)
some_bytes (x ∷ xs) ys c e = omega (arith, ap (length {A = ℕ}) e)

pub records_same : (rs ss : List Record) → AreRecords rs → AreRecords ss → records_text rs ≡ records_text ss → rs ≡ ss
unfolding records_text
records_same [] [] h k e = refl
records_same [] (s ∷ ss) h k e = absurd (some_bytes _ _ _ (e ∙ regrouped s ss))
records_same (r ∷ rs) [] h k e = absurd (some_bytes _ _ _ (sym e ∙ regrouped r rs))
records_same (r ∷ rs) (s ∷ ss) h k e =
    let p = cut_same 10 (record_text r) (record_text s) _ _ (lacks-record r h.0) (lacks-record s k.0) (sym (regrouped r rs) ∙ e ∙ regrouped s ss) in
    rw (record_same r s h.0 k.0 p.front, records_same rs ss h.1 k.1 p.rest) refl

front_same : (n : ℕ) (a b x y : List ℕ) → length a ≡ n → length b ≡ n → a ++ x ≡ b ++ y → Same a b x y
front_same n a b x y h k e =
    let f : a ≡ b = sym (take-append_seam a x) ∙ ap (λ (m : ℕ). take m (a ++ x)) (h ∙ sym k) ∙ ap (take (length b)) e ∙ take-append_seam b y in
    record { front = f; rest = append_cancel_left b _ _ (ap (λ l. l ++ x) (sym f) ∙ e) }

strategy_back : (s : Strategy) → strategy_at (strategy_name s) ≡ Some s
strategy_back Simple = refl
strategy_back Ordered = refl
strategy_back Priority = refl

lacks-strategy : (s : Strategy) → lacks 10 (strategy_name s) ≡ true
lacks-strategy Simple = refl
lacks-strategy Ordered = refl
lacks-strategy Priority = refl

strategy_cut : (s t : Strategy) (x y : List ℕ) → strategy_name s ++ 10 ∷ x ≡ strategy_name t ++ 10 ∷ y → (s ≡ t) × (x ≡ y)
strategy_cut s t x y e =
    let c = cut_same 10 (strategy_name s) (strategy_name t) x y (lacks-strategy s) (lacks-strategy t) e in
    (same_Some s t (sym (strategy_back s) ∙ ap strategy_at c.front ∙ strategy_back t), c.rest)

wait_back : (b : Bool) → wait_at (wait_name b) ≡ Some b
wait_back true = refl
wait_back false = refl

lacks-wait : (b : Bool) → lacks 10 (wait_name b) ≡ true
lacks-wait true = refl
lacks-wait false = refl

wait_cut : (a b : Bool) (x y : List ℕ) → wait_name a ++ 10 ∷ x ≡ wait_name b ++ 10 ∷ y → (a ≡ b) × (x ≡ y)
wait_cut a b x y e =
    let c = cut_same 10 (wait_name a) (wait_name b) x y (lacks-wait a) (lacks-wait b) e in
    (same_Some a b (sym (wait_back a) ∙ ap wait_at c.front ∙ wait_back b), c.rest)

-- what is said of waiting, and what follows
abbrev pub wait_then : Version → Bool → List ℕ → List ℕ
wait_then First wait more = more
wait_then Second wait more = 10 ∷ (codes "wait " ++ (wait_name wait ++ more))

-- the program and its size, and what follows
abbrev pub program_then : List ℕ → List ℕ → List ℕ
program_then program more = codes "program " ++ (decimal (length program) ++ 10 ∷ (program ++ 10 ∷ more))

-- a header's text after its first line, and what follows
abbrev pub body_then : Version → PlainHeader → List ℕ → List ℕ
body_then v h more = options_then h.options (wait_then v h.options.wait (10 ∷ program_then h.program more))

-- a header's text, and what follows
unfoldable pub header_then : Version → PlainHeader → List ℕ → List ℕ
header_then v h more = version_line v ++ 10 ∷ body_then v h more

pub header_regrouped : (v : Version) (h : PlainHeader) (more : List ℕ) → header_text v h ++ more ≡ header_then v h more
unfolding header_then
header_regrouped First h more =
    ap (λ l. version_line First ++ (10 ∷ l))
    (ap (λ (o : List ℕ). (((((o ++ codes "\nprogram ") ++ decimal (length h.program)) ++ codes "\n") ++ h.program) ++ codes "\n") ++ more) (append-nil (options_text h.options))
    ∙ six (options_text h.options) (codes "\nprogram ") (decimal (length h.program)) (codes "\n") h.program (codes "\n") more
    ∙ options_regrouped h.options (10 ∷ program_then h.program more))
header_regrouped Second h more =
    ap (λ l. version_line Second ++ (10 ∷ l))
    (six (options_text h.options ++ (codes "\nwait " ++ wait_name h.options.wait)) (codes "\nprogram ") (decimal (length h.program)) (codes "\n") h.program (codes "\n") more
    ∙ append_assoc (options_text h.options) (codes "\nwait " ++ wait_name h.options.wait) (10 ∷ program_then h.program more)
    ∙ options_regrouped h.options (codes "\nwait " ++ (wait_name h.options.wait ++ (10 ∷ program_then h.program more))))

-- the same options of a run that waits
abbrev waiting : PlainOptions → PlainOptions
waiting o = record o { wait = true }

options_cut : (o p : PlainOptions) (x y : List ℕ) → o.seed < 2 ^ 64 → p.seed < 2 ^ 64 → AreOptions o → AreOptions p → options_then o (10 ∷ x) ≡ options_then p (10 ∷ y) → (waiting o ≡ waiting p) × (x ≡ y)
unfolding options_then
options_cut o p x y small low ok fine e =
    let a = strategy_cut o.strategy p.strategy _ _ (append_cancel_left (codes "strategy ") _ _ e) in
    let b = number_cut 10 o.seed p.seed _ _ (omega arith) small low (append_cancel_left (codes "seed ") _ _ a.1) in
    let c = number_cut 10 o.budget p.budget _ _ (omega arith) (omega (arith, ok.budget)) (omega (arith, fine.budget)) (append_cancel_left (codes "budget ") _ _ b.1) in
    let d = number_cut 10 o.steps p.steps _ _ (omega arith) (omega (arith, ok.steps)) (omega (arith, fine.steps)) (append_cancel_left (codes "steps ") _ _ c.1) in
    let f = number_cut 10 o.injectors p.injectors x y (omega arith) (omega (arith, ok.injectors)) (omega (arith, fine.injectors)) (append_cancel_left (codes "injectors ") _ _ d.1) in
    (rw (a.0, b.0, c.0, d.0, f.0) refl, f.1)

options_same : (o p : PlainOptions) → waiting o ≡ waiting p → o.wait ≡ p.wait → o ≡ p
options_same o p e w = ap₂ (λ (q : PlainOptions) (b : Bool). record q { wait = b }) e w

program_cut : (h g : PlainHeader) (x y : List ℕ) → IsHeader h → IsHeader g → program_then h.program x ≡ program_then g.program y → (h.program ≡ g.program) × (x ≡ y)
program_cut h g x y ok fine e =
    let c = number_cut 10 (length h.program) (length g.program) _ _ (omega arith) (omega (arith, ok.program)) (omega (arith, fine.program)) (append_cancel_left (codes "program ") _ _ e) in
    let p = front_same (length g.program) h.program g.program (10 ∷ x) (10 ∷ y) c.0 refl c.1 in
    (p.front, append_cancel_left (10 ∷ []) _ _ p.rest)

header_same : (h g : PlainHeader) → h.options ≡ g.options → h.program ≡ g.program → h ≡ g
header_same h g o p = rw (o, p) refl

body_cut : (v : Version) (h g : PlainHeader) (x y : List ℕ) → IsHeader h → IsHeader g → can_say v h.options.wait ≡ true → can_say v g.options.wait ≡ true
    → body_then v h x ≡ body_then v g y → (h ≡ g) × (x ≡ y)
body_cut First h g x y ok fine m n e =
    let a = options_cut h.options g.options _ _ ok.seed fine.seed ok.options fine.options e in
    let p = program_cut h g x y ok fine a.1 in
    (header_same h g (options_same h.options g.options a.0 (m ∙ sym n)) p.0, p.1)
body_cut Second h g x y ok fine m n e =
    let a = options_cut h.options g.options _ _ ok.seed fine.seed ok.options fine.options e in
    let w = wait_cut h.options.wait g.options.wait _ _ (append_cancel_left (codes "wait ") _ _ a.1) in
    let p = program_cut h g x y ok fine w.1 in
    (header_same h g (options_same h.options g.options a.0 w.0) p.0, p.1)

-- the eighth byte of a text
abbrev eighth : List ℕ → ℕ
eighth l = get_or l 7 0

pub one_reading : OneReading
unfolding log_text header_then
one_reading First First h g rs ss ok fine k l m n e =
    let p = body_cut First h g (records_text rs) (records_text ss) ok fine m n (append_cancel_left (version_line First ++ (10 ∷ [])) _ _ (sym (header_regrouped First h (records_text rs)) ∙ e ∙ header_regrouped First g (records_text ss))) in
    (refl, p.0, records_same rs ss k l p.1)
one_reading Second Second h g rs ss ok fine k l m n e =
    let p = body_cut Second h g (records_text rs) (records_text ss) ok fine m n (append_cancel_left (version_line Second ++ (10 ∷ [])) _ _ (sym (header_regrouped Second h (records_text rs)) ∙ e ∙ header_regrouped Second g (records_text ss))) in
    (refl, p.0, records_same rs ss k l p.1)
one_reading First Second h g rs ss ok fine k l m n e =
    let t : 49 ≡ 50 = ap eighth (sym (header_regrouped First h (records_text rs)) ∙ e ∙ header_regrouped Second g (records_text ss)) in absurd (omega (arith, t))
one_reading Second First h g rs ss ok fine k l m n e =
    let t : 50 ≡ 49 = ap eighth (sym (header_regrouped Second h (records_text rs)) ∙ e ∙ header_regrouped First g (records_text ss)) in absurd (omega (arith, t))
