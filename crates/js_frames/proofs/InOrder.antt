-- Nodes that evaluate all their parts.
use Rattle.std.proofs.Common.{◌≡◌, ℕ, ◌+◌, List, [], ◌∷◌, ◌++◌, length, drop, Option, Some, None, refl, sym, ap, ◌∙◌, arith, length-append}
use Rattle.std.specs.Prelude.{slice_get}
use Rattle.js_value.specs.Value.{PlainValue}
use Rattle.js_program.specs.PlainProgram.{PlainNode, parts_of}
use Rattle.js_meaning.specs.State.{State, Setting, Outcome, normal, broke, continued, returned, went, broken, violated, spent, stopped, ◌>>=◌}
use Rattle.js_meaning.specs.Calls.{in_order}
use Rattle.js_meaning.specs.Expressions.{combines}
use Rattle.js_meaning.specs.Meaning.{eval}
use Rattle.js_frames.specs.Frames.{parts_from}
use Rattle.js_frames.proofs.Lists.{drop_at, drop_past}

pub bind_same : (o : Outcome) (f g : PlainValue → State → Outcome) → ((x : PlainValue) (s : State) → f x s ≡ g x s) → (o >>= f) ≡ (o >>= g)
bind_same (went (normal x) s) f g h = h x s
bind_same (went broke s) f g h = refl
bind_same (went continued s) f g h = refl
bind_same (went (returned x) s) f g h = refl
bind_same (broken fault line l) f g h = refl
bind_same (violated text l) f g h = refl
bind_same (spent l) f g h = refl
bind_same (stopped x y line l) f g h = refl

-- what goes on with a part's value, and then with what comes of that
pub bind_twice : (o : Outcome) (f g h : PlainValue → State → Outcome) → ((x : PlainValue) (s : State) → h x s ≡ (f x s >>= g)) → (o >>= h) ≡ ((o >>= f) >>= g)
bind_twice (went (normal x) s) f g h e = e x s
bind_twice (went broke s) f g h e = refl
bind_twice (went continued s) f g h e = refl
bind_twice (went (returned x) s) f g h e = refl
bind_twice (broken fault line l) f g h e = refl
bind_twice (violated text l) f g h e = refl
bind_twice (spent l) f g h e = refl
bind_twice (stopped x y line l) f g h e = refl

module _ (g : Setting) (o : Option PlainNode) (node : PlainNode) (at : o ≡ Some node) (done : List PlainValue) where
  -- the next part, and then the others
  pub parts_wait : (part : ℕ) → slice_get (parts_of node.form) (length done) ≡ Some part → (f : PlainValue → State → Outcome) → ((x : PlainValue) (s : State) → f x s ≡ parts_from g o (done ++ x ∷ []) s) → (s : State) → (eval g part s >>= f) ≡ parts_from g o done s
  parts_wait part get f h s =
      bind_same (eval g part s) f (λ x. in_order (eval g) (drop (length done + 1) (parts_of node.form)) (done ++ x ∷ []) (combines g (eval g) node.line node.form))
      (λ x now. h x now ∙ ap (λ q. parts_from g q (done ++ x ∷ []) now) at
      ∙ (let n : length (done ++ x ∷ []) ≡ length done + 1 = omega (arith, length-append done (x ∷ [])) in
      ap (λ k. in_order (eval g) (drop k (parts_of node.form)) (done ++ x ∷ []) (combines g (eval g) node.line node.form) now) n))
      ∙ ap (λ l. in_order (eval g) l done (combines g (eval g) node.line node.form) s) (sym (drop_at (parts_of node.form) (length done) part get))
      ∙ ap (λ q. parts_from g q done s) (sym at)

  -- all parts are done
  pub parts_done : slice_get (parts_of node.form) (length done) ≡ None → (s : State) → combines g (eval g) node.line node.form done s ≡ parts_from g o done s
  parts_done get s =
      ap (λ l. in_order (eval g) l done (combines g (eval g) node.line node.form) s) (sym (drop_past (parts_of node.form) (length done) get))
      ∙ ap (λ q. parts_from g q done s) (sym at)
