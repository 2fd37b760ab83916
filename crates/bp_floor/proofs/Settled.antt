-- A desk fits before and after what is done with it.
use Rattle.std.proofs.Common.{◌≡◌, ℕ, ◌+◌, ◌-◌, ◌<◌, ◌≤◌, true, List, [], ◌∷◌, ◌++◌, length, zero, suc, refl, sym, ap, ◌∙◌, subst, arith, Option, Result, Ok, Err, OnOk, OnErr, take, drop, length-drop}
use Rattle.std.specs.Prelude.{All}
use Rattle.std.proofs.lemmas.List.{take-append-le, take_all}
use Rattle.js_data.specs.Event.{PlainEvent}
use Rattle.js_value.specs.Value.{PlainSet}
use Rattle.js_meaning.specs.State.{Ground}
use Rattle.bp_log.specs.declared.options.Strategy.{Strategy}
use Rattle.bp_run.specs.Bodies.{Statement}
use Rattle.bp_run.specs.Selecting.{Live, blocked}
use Rattle.bp_run.specs.Choosing.{choice}
use Rattle.bp_meaning.specs.Membership.{member}
use Rattle.bp_thread.specs.Views.{stated_set}
use Rattle.bp_select.specs.Benches as bench
use Rattle.bp_live.specs.Placing.{placed}
use Rattle.bp_select.specs.Benches.{PlainBench}
use Rattle.bp_select.specs.declared.answers.Choice.{Choice}
use Rattle.bp_select.specs.declared.answers.Choice.TheVariants.{Internal, External, Nothing}
use Rattle.bp_select.specs.Answers.{IsWithin, chosen_of}
use Rattle.bp_floor.specs.inner.Desks.{PlainDesk, PlainFront, IsRestated, IsBlocked, Fits, block_sets, block_at, block_stated, learned}
use Rattle.bp_floor.proofs.Fronts.{known_where, known_restated, front_blocked}
use Rattle.bp_floor.proofs.Behind.{more_learned, learns_more}

module _ (base : Ground) (budget : ℕ) where
  pub fits_pushed : {A E : Type 0} (d : PlainDesk) (queue : List PlainEvent) (e : PlainEvent) (res : Result A E) → d.front.blocked ≤ length d.queue → OnOk res (queue ≡ d.queue ++ e ∷ []) → OnErr res (queue ≡ d.queue) →
      Fits d base budget → Fits (record d { queue = queue }) base budget
  fits_pushed d queue e (Ok x) low h k f = record {
    bench = f.bench;
    front = subst (λ (es : List PlainEvent). All (IsBlocked base budget (block_sets d.bench.live ++ d.front.away)) es) (sym (ap (λ (es : List PlainEvent). take d.front.blocked es) h ∙ take-append-le d.front.blocked d.queue (e ∷ []) low)) f.front;
  }
  fits_pushed d queue e (Err x) low h k f = subst (λ (es : List PlainEvent). Fits (record d { queue = es }) base budget) (sym k) f

  pub fits_placed : (n : ℕ) (o : Option (Statement PlainSet)) (d : PlainDesk) (now : PlainBench) (front : PlainFront) (before after : Option PlainSet) → now.live ≡ placed n o d.bench.live →
      (bench.Fits d.bench base budget → bench.Fits now base budget) → (0 < front.blocked → IsRestated before after d.front front) → block_at n d.bench.live ≡ stated_set before → stated_set after ≡ block_stated o →
      Fits d base budget → Fits (record d { bench = now; front = front }) base budget
  fits_placed n o d now front before after live fits restated b a f = record {
    bench = fits f.bench;
    front = subst (λ (ts : List (Live PlainSet)). All (IsBlocked base budget (block_sets ts ++ front.away)) (take front.blocked d.queue)) (sym live)
        (known_restated base budget n o d.bench.live before after d.front front d.queue b a restated f.front);
  }

  -- the front of a desk where no block set is away
  pub settled_front : (d : PlainDesk) (front : PlainFront) → (0 < front.blocked → front ≡ d.front) → Fits d base budget → All (IsBlocked base budget (block_sets d.bench.live ++ front.away)) (take front.blocked d.queue)
  settled_front d front h f =
      known_where (IsBlocked base budget (block_sets d.bench.live ++ front.away)) front.blocked d.queue
      (λ some. subst (λ (x : PlainFront). All (IsBlocked base budget (block_sets d.bench.live ++ x.away)) (take x.blocked d.queue)) (sym (h some)) f.front)

  pub settled_blocked : (d : PlainDesk) (front : PlainFront) → front.away ≡ [] → (0 < front.blocked → front ≡ d.front) → Fits d base budget → All (λ e. blocked (member base budget) d.bench.live e ≡ Ok true) (take front.blocked d.queue)
  settled_blocked d front a h f = front_blocked base budget d.bench.live front.away (take front.blocked d.queue) a (settled_front d front h f)

  pub settled_low : (d : PlainDesk) (front : PlainFront) → (0 < front.blocked → front ≡ d.front) → d.front.blocked ≤ length d.queue → front.blocked ≤ length d.queue
  settled_low d front h low = low_at front.blocked refl
    where
      low_at : (n : ℕ) → front.blocked ≡ n → n ≤ length d.queue
      low_at zero e = omega arith
      low_at (suc n) e = let q = h (omega (arith, e)) in let b : front.blocked ≡ d.front.blocked = ap (λ (x : PlainFront). x.blocked) q in omega (arith, e, b, low)

  -- it is asked, and nothing is learned
  pub fits_asked : (d : PlainDesk) (now : PlainBench) (front : PlainFront) → now.live ≡ d.bench.live → bench.Fits now base budget → (0 < front.blocked → front ≡ d.front) → Fits d base budget →
      Fits (record d { bench = now; front = front }) base budget
  fits_asked d now front live fits h f = record {
    bench = fits;
    front = subst (λ (ts : List (Live PlainSet)). All (IsBlocked base budget (block_sets ts ++ front.away)) (take front.blocked d.queue)) (sym live) (settled_front d front h f);
  }

  learned_is : (d : PlainDesk) (c : Choice) (n : ℕ) → n + d.front.blocked ≡ length d.queue → learned d c ≡ d.front.blocked + more_learned n c
  learned_is d (Internal e) n h = omega arith
  learned_is d (External p) n h = refl
  learned_is d Nothing n h = omega (arith, h)

  -- it is asked, and what was chosen is learned of
  pub fits_learned : (word : ℕ → ℕ) (s : Strategy) (d : PlainDesk) (now : PlainBench) (front : PlainFront) (rest : List PlainEvent) (from drawn : ℕ) (c : Choice) → now.live ≡ d.bench.live → bench.Fits now base budget → front.away ≡ [] →
      (0 < front.blocked → front ≡ d.front) → front.blocked ≤ length d.queue → rest ≡ drop front.blocked d.queue → IsWithin (length rest) c → choice (member base budget) word s d.bench.live rest from ≡ Ok (chosen_of rest drawn c) → Fits d base budget →
      (let x : PlainDesk = record d { bench = now; front = front } in Fits (record x { front = record x.front { blocked = learned x c } }) base budget)
  fits_learned word s d now front rest from drawn c live fits a h low r w k f =
      let x : PlainDesk = record d { bench = now; front = front } in
      let len = ap (λ (es : List PlainEvent). length es) r ∙ length-drop front.blocked d.queue in
      let whole : length rest + front.blocked ≡ length d.queue = omega (arith, len, low) in
      record {
        bench = fits;
        front = subst (λ (n : ℕ). All (IsBlocked base budget (block_sets now.live ++ front.away)) (take n d.queue)) (sym (learned_is x c (length rest) whole))
            (subst (λ (ts : List (Live PlainSet)). All (IsBlocked base budget (block_sets ts ++ front.away)) (take (front.blocked + more_learned (length rest) c) d.queue)) (sym live)
            (learns_more base budget word s d.bench.live front.away d.queue rest front.blocked from drawn c a r w k (settled_front d front h f)));
      }

-- the rest, as a slice is taken
pub rest_is : (n : ℕ) (queue all : List PlainEvent) → queue ≡ all → take (length queue - n) (drop n queue) ≡ drop n all
rest_is n queue all h =
    let len = length-drop n queue in
    take_all (length queue - n) (drop n queue) (omega (arith, len)) ∙ ap (λ (es : List PlainEvent). drop n es) h

-- this many of them are left
pub rest_length : (n : ℕ) (rest queue : List PlainEvent) → rest ≡ drop n queue → length rest ≡ length queue - n
rest_length n rest queue h = ap (λ (es : List PlainEvent). length es) h ∙ length-drop n queue
