-- What each form does with short values: its outcome is short.
use Rattle.std.proofs.Common.{ℕ, zero, suc, ◌+◌, ◌-◌, Bool, true, false, cond, List, [], ◌∷◌, ◌++◌, length, Option, Some, None, Ok, Err, map}
use Rattle.std.specs.Prelude.{pos, unwrap_or, nat_lt, codes, drop, take, replicate, slice_get, slice_set, fold, option_map}
use Rattle.std.specs.Str.{bytes_eq}
use Rattle.js_data.specs.Event.{PlainEvent}
use Rattle.js_data.specs.declared.fault.Fault.{Fault}
use Rattle.js_data.specs.declared.fault.Fault.TheVariants as fault
use Rattle.js_data.proofs.Shared.{OfSome}
use Rattle.js_tree.specs.declared.tree.Step.{Step}
use Rattle.js_tree.specs.declared.tree.Fix.{Fix}
use Rattle.js_tree.specs.declared.tree.Fix.TheVariants as fix
use Rattle.js_tree.specs.declared.tree.Operator.TheVariants as operator
use Rattle.js_tree.specs.declared.tree.DeclareKind.{DeclareKind}
use Rattle.js_tree.specs.declared.tree.DeclareKind.TheVariants.{Const, Let, Var}
use Rattle.js_value.specs.Value as v
use Rattle.js_value.specs.Value.{PlainValue, ValueList, is_truthy}
use Rattle.js_value.specs.Lists.{value_list_of, values_in}
use Rattle.js_value.specs.declared.op.Op.{Op}
use Rattle.js_value.specs.declared.op.Op.TheVariants as op
use Rattle.js_value.specs.declared.op.Method.{Method}
use Rattle.js_value.specs.declared.op.Make.TheVariants as make
use Rattle.js_ops.specs.Made.{Answer, made}
use Rattle.js_ops.specs.Operators.{value_of, unary_of}
use Rattle.js_ops.specs.Members.{member_of, index_of, field_or_undefined}
use Rattle.js_ops.specs.Methods.{method_named, method_of}
use Rattle.js_ops.specs.Making.{make_of}
use Rattle.js_program.specs.declared.builtin.Builtin.{Builtin}
use Rattle.js_program.specs.declared.builtin.Builtin.TheVariants as form
use Rattle.js_program.specs.Builtins.{has_effect_in}
use Rattle.js_program.specs.declared.node.Variable.{Variable}
use Rattle.js_program.specs.declared.node.Variable.TheVariants.{Slot, Constant}
use Rattle.js_program.specs.PlainProgram as p
use Rattle.js_program.specs.PlainProgram.{PlainNode, PlainNodeForm, PlainBody, PlainContent, PlainDeclared, parts_of}
use Rattle.js_meaning.specs.declared.limits.TheConstants.{MOST_CALLS}
use Rattle.js_meaning.specs.State.{Setting, Effect, says, enqueues, registers, handles, State, Completion, normal, broke, continued, returned, Outcome, went, broken, violated, spent, stopped, spends, ◌>>=◌, gives, leaves, breaks, answered}
use Rattle.js_meaning.specs.Variables.{in_slot, held, set_slot, set_variable, undeclare, if_declared, padded, slots_of_call, captured}
use Rattle.js_meaning.specs.Calls.{body_of, answer_of, after_call, applies, sequence, in_order, runs, enters, calls, for_each_from, for_each_call, calls_method}
use Rattle.js_meaning.specs.Forms.{argument, does_to_run, registers_thread, asks, asserted, enqueues_event, sets_handler, log_text, logs, floors, takes_effect, applies_form}
use Rattle.js_meaning.specs.Expressions.{unary_for, step_for, op_for, op_before, by_rule, writes, updates, does_update, assigns, combines}
use Rattle.js_meaning.specs.Statements.{after_iteration, without_value, declares, does_declaration, does_if_else, tests, perhaps, one_iteration, iterations, each, each_of}
use Rattle.js_meaning.specs.Meaning.{does, does_node}
use Rattle.js_meaning.specs.Bodies.{Origin, the_top, function, runs_body}
use Rattle.bp_records.proofs.Lists.{Each, each_append, each_get, each_set, each_take, each_drop, each_replicate, each_map, or_default}
use Rattle.bp_records.proofs.Short.{IsLight, IsShort, AreShort, IsShortAnswer}
use Rattle.bp_records.proofs.Outcomes.{AreShortSlots, IsShortEffect, IsShortState, IsShortCompletion, IsShortOutcome, IsShortOrigin}
use Rattle.bp_records.proofs.Operators.{values_short, list_short, field_short, made_short, text_short, value_of_short, unary_short, member_short, index_short, make_short, method_short}

-- from each short state it comes to a short outcome
pub record Keeps (f : State → Outcome) : Type 0 where
  pub at : (s : State) → IsShortState s → IsShortOutcome (f s)

bind_self : (o : Outcome) (c : PlainValue → State → Outcome) → IsShortOutcome o → ((x : PlainValue) → IsShort x → Keeps (c x)) → IsShortOutcome (o >>= c)
bind_self (went (normal x) s) c h k = (k x h.0).at s h.1
bind_self (went broke s) c h k = h
bind_self (went continued s) c h k = h
bind_self (went (returned x) s) c h k = h
bind_self (broken f line l) c h k = h
bind_self (violated text l) c h k = h
bind_self (spent l) c h k = h
bind_self (stopped x y line l) c h k = h

bind : {f : State → Outcome} (c : PlainValue → State → Outcome) → Keeps f → ((x : PlainValue) → IsShort x → Keeps (c x)) → Keeps (λ s. f s >>= c)
bind {f} c h k = record { at = λ s m. bind_self (f s) c (h.at s m) k }

iteration_self : (o : Outcome) (c : State → Outcome) → IsShortOutcome o → Keeps c → IsShortOutcome (after_iteration o c)
iteration_self (went (normal x) s) c h k = k.at s h.1
iteration_self (went broke s) c h k = (tt, h.1)
iteration_self (went continued s) c h k = k.at s h.1
iteration_self (went (returned x) s) c h k = h
iteration_self (broken f line l) c h k = h
iteration_self (violated text l) c h k = h
iteration_self (spent l) c h k = h
iteration_self (stopped x y line l) c h k = h

iteration : {f c : State → Outcome} → Keeps f → Keeps c → Keeps (λ s. after_iteration (f s) c)
iteration {f} {c} h k = record { at = λ s m. iteration_self (f s) c (h.at s m) k }

answer_short : (c : Completion) → IsShortCompletion c → IsShort (answer_of c)
answer_short (normal x) h = tt
answer_short broke h = tt
answer_short continued h = tt
answer_short (returned x) h = h

call_self : (slots : List (Option PlainValue)) (n : ℕ) (o : Outcome) → AreShortSlots slots → IsShortOutcome o → IsShortOutcome (after_call slots n o)
call_self slots n (went c s) k h = (answer_short c h.0, record { slots = k; constants = h.1.constants; replies = h.1.replies; effects = h.1.effects })
call_self slots n (broken f line l) k h = h
call_self slots n (violated text l) k h = h
call_self slots n (spent l) k h = h
call_self slots n (stopped x y line l) k h = h

either : {f h : State → Outcome} (c : Bool) → Keeps f → Keeps h → Keeps (cond c f h)
either true x y = x
either false x y = y

completes_keeps : (c : Completion) → IsShortCompletion c → Keeps (went c)
completes_keeps c h = record { at = λ s m. (h, m) }

gives_keeps : (x : PlainValue) → IsShort x → Keeps (gives x)
gives_keeps x h = record { at = λ s m. (h, m) }

leaves_keeps : Keeps leaves
leaves_keeps = record { at = λ s m. (tt, m) }

breaks_keeps : (f : Fault) (line : ℕ) → Keeps (breaks f line)
breaks_keeps f line = record { at = λ s m. m.effects }

pub spends_keeps : Keeps spends
spends_keeps = record { at = λ s m. m.effects }

answered_keeps : (line : ℕ) (r : Answer) → IsShortAnswer r → Keeps (answered line r)
answered_keeps line (Ok x) h = gives_keeps x h
answered_keeps line (Err f) h = breaks_keeps f line

-- ---- variables

slot_set : (k : ℕ) (x : Option PlainValue) (s : State) → OfSome IsShort x → IsShortState s → IsShortState (set_slot k x s)
slot_set k x s h m = record { slots = each_set (OfSome IsShort) s.slots k x m.slots h; constants = m.constants; replies = m.replies; effects = m.effects }

set_keeps : {f : State → Outcome} (k : ℕ) (x : Option PlainValue) → OfSome IsShort x → Keeps f → Keeps (λ s. f (set_slot k x s))
set_keeps {f} k x h a = record { at = λ s m. a.at (set_slot k x s) (slot_set k x s h m) }

constant_set : (k : ℕ) (y : PlainValue) (o : Option (List (Option PlainValue))) → IsShort y → OfSome AreShortSlots o → OfSome AreShortSlots (option_map (λ cs. slice_set cs k (Some y)) o)
constant_set k y None h m = tt
constant_set k y (Some cs) h m = each_set (OfSome IsShort) cs k (Some y) m h

variable_set : (x : Variable) (y : PlainValue) (s : State) → IsShort y → IsShortState s → IsShortState (set_variable x y s)
variable_set (Slot k) y s h m = slot_set k (Some y) s h m
variable_set (Constant k) y s h m = record { slots = m.slots; constants = constant_set k y s.constants h m.constants; replies = m.replies; effects = m.effects }

declares_variable : (x : Variable) (y : PlainValue) → IsShort y → Keeps (λ s. leaves (set_variable x y s))
declares_variable x y h = record { at = λ s m. (tt, variable_set x y s h m) }

slot_short : (k : ℕ) (slots : List (Option PlainValue)) → AreShortSlots slots → OfSome IsShort (in_slot k slots)
slot_short k slots h = or_default (OfSome IsShort) (slice_get slots k) None (each_get (OfSome IsShort) slots k h) tt

if_declared_keeps : (line : ℕ) (o : Option PlainValue) (f : PlainValue → State → Outcome) → OfSome IsShort o → ((y : PlainValue) → IsShort y → Keeps (f y)) → Keeps (if_declared line o f)
if_declared_keeps line None f h k = breaks_keeps fault.Early line
if_declared_keeps line (Some y) f h k = k y h

slot_keeps : (line k : ℕ) (f : PlainValue → State → Outcome) → ((y : PlainValue) → IsShort y → Keeps (f y)) → Keeps (λ s. if_declared line (in_slot k s.slots) f s)
slot_keeps line k f h = record { at = λ s m. (if_declared_keeps line (in_slot k s.slots) f (slot_short k s.slots m.slots) h).at s m }

undeclare_keeps : (f : State → Outcome) (ks : List ℕ) → Keeps f → Keeps (λ s. f (undeclare ks s))
undeclare_keeps f [] h = h
undeclare_keeps f (k ∷ ks) h = set_keeps {f = λ s. f (undeclare ks s)} k None tt (undeclare_keeps f ks h)

writes_keeps : (line k : ℕ) (r : Answer) → IsShortAnswer r → Keeps (writes line k r)
writes_keeps line k (Ok y) h = set_keeps {f = gives y} k (Some y) h (gives_keeps y h)
writes_keeps line k (Err f) h = breaks_keeps f line

updates_keeps : (line : ℕ) (fix : Fix) (k : ℕ) (old : PlainValue) (r : Answer) → IsShort old → IsShortAnswer r → Keeps (updates line fix k old r)
updates_keeps line fix.Before k old r h m = writes_keeps line k r m
updates_keeps line fix.After k old r h m = bind _ (writes_keeps line k r m) (λ y _. gives_keeps old h)

does_update_keeps : (line : ℕ) (step : Step) (fix : Fix) (k : ℕ) → Keeps (does_update line step fix k)
does_update_keeps line step fix k = slot_keeps line k _ (λ y h. updates_keeps line fix k y (unary_of (step_for step) y) h (unary_short (step_for step) y))

captured_short : (ks : List ℕ) (slots : List (Option PlainValue)) → AreShortSlots slots → Each IsShort (captured ks slots)
captured_short [] slots h = tt
captured_short (k ∷ ks) slots h = (or_default IsShort (in_slot k slots) v.undefined (slot_short k slots h) tt, captured_short ks slots h)

function_keeps : (line code : ℕ) (ks : List ℕ) → Keeps (λ s. answered line (made (v.function code (value_list_of (captured ks s.slots)))) s)
function_keeps line code ks = record {
  at = λ s m. (answered_keeps line (made (v.function code (value_list_of (captured ks s.slots))))
      (made_short (v.function code (value_list_of (captured ks s.slots))) (λ _. list_short (captured ks s.slots) (captured_short ks s.slots m.slots)))).at s m;
}

without_value_keeps : (kind : DeclareKind) (x : Variable) → Keeps (λ s. leaves (without_value kind x s))
without_value_keeps Var x = leaves_keeps
without_value_keeps Let x = declares_variable x v.undefined tt
without_value_keeps Const x = declares_variable x v.undefined tt

-- ---- the slots of a call

padded_short : (count : ℕ) (xs : List PlainValue) → Each IsShort xs → Each IsShort (padded count xs)
padded_short count xs h =
    each_append IsShort (take count xs) (replicate (count - length xs) v.undefined) (each_take IsShort count xs h) (each_replicate IsShort (count - length xs) v.undefined tt)

vars_short : (ks : List ℕ) (slots : List (Option PlainValue)) → AreShortSlots slots → AreShortSlots (fold (λ slots k. slice_set slots k (Some v.undefined)) slots ks)
vars_short [] slots h = h
vars_short (k ∷ ks) slots h = vars_short ks (slice_set slots k (Some v.undefined)) (each_set (OfSome IsShort) slots k (Some v.undefined) h tt)

call_slots_short : (body : PlainBody) (held args : List PlainValue) → Each IsShort held → Each IsShort args → AreShortSlots (slots_of_call body held args)
call_slots_short body held args h k =
    vars_short body.vars (map Some (padded body.parameters args ++ held) ++ replicate (body.slots - (body.parameters + length held)) None)
    (each_append (OfSome IsShort) (map Some (padded body.parameters args ++ held)) (replicate (body.slots - (body.parameters + length held)) None)
    (each_map IsShort (OfSome IsShort) Some (λ x m. m) (padded body.parameters args ++ held) (each_append IsShort (padded body.parameters args) held (padded_short body.parameters args k) h))
    (each_replicate (OfSome IsShort) (body.slots - (body.parameters + length held)) None tt))

-- ---- forms of `bp` and `Math`

acts_keeps : (x : Effect) → IsShortEffect x → Keeps (does_to_run x)
acts_keeps x h = record { at = λ s m. (tt, record { slots = m.slots; constants = m.constants; replies = m.replies; effects = each_append IsShortEffect s.effects (x ∷ []) m.effects (h, tt) }) }

applies_keeps : (line : ℕ) (o : Option Method) (x : PlainValue) (args : List PlainValue) → IsShort x → Each IsShort args → Keeps (applies line o x args)
applies_keeps line None x args h k = breaks_keeps fault.Mistyped line
applies_keeps line (Some f) x args h k = answered_keeps line (method_of f x args) (method_short f x args h k)

registers_keeps : (line : ℕ) (x y : PlainValue) → IsShort x → IsShort y → Keeps (registers_thread line x y)
registers_keeps line (v.text name) (v.function code captured) h k = acts_keeps (registers name (v.function code captured)) (h, k)
registers_keeps line _ _ h k = breaks_keeps fault.Mistyped line

asserted_keeps : (line : ℕ) (x y : PlainValue) → IsShort y → Keeps (asserted line x y)
asserted_keeps line x (v.text text) h = either (is_truthy x) leaves_keeps (record { at = λ s m. (h, m.effects) })
asserted_keeps line x _ h = breaks_keeps fault.Mistyped line

enqueues_keeps : (line : ℕ) (x : PlainValue) → Keeps (enqueues_event line x)
enqueues_keeps line (v.event e) = acts_keeps (enqueues e) tt
enqueues_keeps line _ = breaks_keeps fault.Mistyped line

sets_handler_keeps : (line : ℕ) (x : PlainValue) → IsShort x → Keeps (sets_handler line x)
sets_handler_keeps line (v.function code captured) h = acts_keeps (handles (v.function code captured)) h
sets_handler_keeps line _ h = breaks_keeps fault.Mistyped line

logs_keeps : (line : ℕ) (o : Option (List ℕ)) → Keeps (logs line o)
logs_keeps line None = breaks_keeps fault.Mistyped line
logs_keeps line (Some text) = acts_keeps (says text) tt

floors_keeps : (line : ℕ) (x : PlainValue) → Keeps (floors line x)
floors_keeps line (v.whole n) = gives_keeps (v.whole n) tt
floors_keeps line _ = breaks_keeps fault.Mistyped line

asks_short : (budget line : ℕ) (x y : PlainValue) (rs : List PlainEvent) (s : State) → IsShortState s → Each IsLight rs → IsShortOutcome (asks budget line x y rs s)
asks_short budget line x y [] s m h = m.effects
asks_short budget line x y (e ∷ es) s m h = (h.0, record { slots = m.slots; constants = m.constants; replies = h.1; effects = m.effects })

argument_short : (k : ℕ) (xs : List PlainValue) → Each IsShort xs → IsShort (argument k xs)
argument_short k xs h = or_default IsShort (slice_get xs k) v.undefined (each_get IsShort xs k h) tt

takes_effect_keeps : (budget line : ℕ) (f : Builtin) (args : List PlainValue) → Each IsShort args → Keeps (takes_effect budget line f args)
takes_effect_keeps budget line form.RegisterBThread args h = registers_keeps line (argument 0 args) (argument 1 args) (argument_short 0 args h) (argument_short 1 args h)
takes_effect_keeps budget line form.Sync args h = record { at = λ s m. asks_short budget line (argument 0 args) (argument 1 args) s.replies s m m.replies }
takes_effect_keeps budget line form.Event args h = answered_keeps line (make_of make.Event args []) (make_short make.Event args [] h)
takes_effect_keeps budget line form.EventSet args h = answered_keeps line (make_of make.Set args []) (make_short make.Set args [] h)
takes_effect_keeps budget line form.All args h = gives_keeps (v.set v.all) tt
takes_effect_keeps budget line form.Nothing args h = gives_keeps (v.set v.nothing) tt
takes_effect_keeps budget line form.Assert args h = asserted_keeps line (argument 0 args) (argument 1 args) (argument_short 1 args h)
takes_effect_keeps budget line form.EnqueueExternalEvent args h = enqueues_keeps line (argument 0 args)
takes_effect_keeps budget line form.SetInterruptHandler args h = sets_handler_keeps line (argument 0 args) (argument_short 0 args h)
takes_effect_keeps budget line form.LogInfo args h = logs_keeps line (log_text (argument 0 args))
takes_effect_keeps budget line form.Floor args h = floors_keeps line (argument 0 args)

rule_short : (o : Option Op) (x y : PlainValue) → IsShortAnswer (by_rule o x y)
rule_short None x y = tt
rule_short (Some o) x y = value_of_short o x y

-- ---- what begins parts: `ev` gives what a part does

module _ (g : Setting) (ground : AreShortSlots g.base.constants) (ev : ℕ → State → Outcome) (h : (n : ℕ) → Keeps (ev n)) where
  held_short : (x : Variable) (s : State) → IsShortState s → OfSome IsShort (held g.base x s)
  held_short (Slot k) s m = slot_short k s.slots m.slots
  held_short (Constant k) s m = slot_short k (unwrap_or s.constants g.base.constants) (or_default AreShortSlots s.constants g.base.constants m.constants ground)

  read_keeps : (line : ℕ) (x : Variable) → Keeps (λ s. if_declared line (held g.base x s) gives s)
  read_keeps line x = record { at = λ s m. (if_declared_keeps line (held g.base x s) gives (held_short x s m) gives_keeps).at s m }

  applies_form_keeps : (line : ℕ) (f : Builtin) (args : List PlainValue) → Each IsShort args → Keeps (applies_form g line f args)
  applies_form_keeps line f args k = either (has_effect_in g.mode f) (takes_effect_keeps g.budget line f args k) (breaks_keeps fault.Mode line)

  sequence_keeps : (ns : List ℕ) → Keeps (sequence ev ns)
  sequence_keeps [] = leaves_keeps
  sequence_keeps (n ∷ ns) = bind _ (h n) (λ x _. sequence_keeps ns)

  in_order_keeps : (ns : List ℕ) (xs : List PlainValue) (f : List PlainValue → State → Outcome) → Each IsShort xs → ((us : List PlainValue) → Each IsShort us → Keeps (f us)) → Keeps (in_order ev ns xs f)
  in_order_keeps [] xs f m k = k xs m
  in_order_keeps (n ∷ ns) xs f m k = bind _ (h n) (λ x a. in_order_keeps ns (xs ++ x ∷ []) f (each_append IsShort xs (x ∷ []) m (a, tt)) k)

  runs_keeps : (content : PlainContent) → Keeps (runs ev content)
  runs_keeps (p.statements ns) = sequence_keeps ns
  runs_keeps (p.one_value n) = bind _ (h n) (λ x a. completes_keeps (returned x) a)

  enters_keeps : (active : ℕ) (body : PlainBody) (held args : List PlainValue) → Each IsShort held → Each IsShort args → Keeps (enters ev active body held args)
  enters_keeps active body held args a b = record {
    at = λ s m. call_self s.slots s.calls (runs ev body.content (record s { slots = slots_of_call body held args; calls = active })) m.slots
        ((runs_keeps body.content).at (record s { slots = slots_of_call body held args; calls = active })
        (record { slots = call_slots_short body held args a b; constants = m.constants; replies = m.replies; effects = m.effects }));
  }

  calls_keeps : (line : ℕ) (f : PlainValue) (args : List PlainValue) → IsShort f → Each IsShort args → Keeps (calls g ev line f args)
  calls_keeps line (v.function code held) args a b = record {
    at = λ s m. (either (nat_lt s.calls MOST_CALLS) (enters_keeps (s.calls + 1) (body_of g.base.program code) (values_in held) args (values_short held a) b) (breaks_keeps fault.Depth line)).at s m;
  }
  calls_keeps line _ args a b = breaks_keeps fault.Mistyped line

  for_each_from_keeps : (line : ℕ) (f items : PlainValue) (index : ℕ) (xs : List PlainValue) → IsShort f → IsShort items → Each IsShort xs → Keeps (for_each_from g ev line f items index xs)
  for_each_from_keeps line f items index [] a b k = leaves_keeps
  for_each_from_keeps line f items index (x ∷ xs) a b k =
      bind _ (calls_keeps line f (x ∷ v.whole (pos index) ∷ items ∷ []) a (k.0, (tt, (b, tt)))) (λ y _. for_each_from_keeps line f items (suc index) xs a b k.1)

  for_each_call_keeps : (line : ℕ) (xs : ValueList) (args : List PlainValue) → AreShort xs → Each IsShort args → Keeps (for_each_call g ev line xs args)
  for_each_call_keeps line xs (v.function code held ∷ others) a b = for_each_from_keeps line (v.function code held) (v.list xs) 0 (values_in xs) b.0 a (values_short xs a)
  for_each_call_keeps line xs _ a b = breaks_keeps fault.Mistyped line

  calls_method_keeps : (line : ℕ) (word : List ℕ) (x : PlainValue) (args : List PlainValue) → IsShort x → Each IsShort args → Keeps (calls_method g ev line word x args)
  calls_method_keeps line word (v.fields fs) args a b = calls_keeps line (field_or_undefined fs word) args (field_short fs word a) b
  calls_method_keeps line word (v.list xs) args a b =
      either (bytes_eq word (codes "forEach")) (for_each_call_keeps line xs args a b) (applies_keeps line (method_named word) (v.list xs) args a b)
  calls_method_keeps line word x args a b = applies_keeps line (method_named word) x args a b

  combines_keeps : (line : ℕ) (node : PlainNodeForm) (xs : List PlainValue) → Each IsShort xs → Keeps (combines g ev line node xs)
  combines_keeps line (p.number n) xs m = gives_keeps (v.whole n) tt
  combines_keeps line (p.text text) xs m = answered_keeps line (made (v.text text)) (text_short text)
  combines_keeps line (p.truth b) xs m = gives_keeps (v.truth b) tt
  combines_keeps line p.null xs m = gives_keeps v.null tt
  combines_keeps line p.undefined xs m = gives_keeps v.undefined tt
  combines_keeps line (p.read x) xs m = read_keeps line x
  combines_keeps line (p.function code) xs m = function_keeps line code (body_of g.base.program code).captures
  combines_keeps line (p.update step fix k) xs m = does_update_keeps line step fix k
  combines_keeps line (p.list ns) xs m = answered_keeps line (make_of make.List xs []) (make_short make.List xs [] m)
  combines_keeps line (p.fields keys ns) xs m = answered_keeps line (make_of make.Fields xs keys) (make_short make.Fields xs keys m)
  combines_keeps line (p.member x word) xs m = answered_keeps line (member_of (argument 0 xs) word) (member_short (argument 0 xs) word (argument_short 0 xs m))
  combines_keeps line (p.index x i) xs m = answered_keeps line (index_of (argument 0 xs) (argument 1 xs)) (index_short (argument 0 xs) (argument 1 xs) (argument_short 0 xs m))
  combines_keeps line (p.call f arguments) xs m = calls_keeps line (argument 0 xs) (drop 1 xs) (argument_short 0 xs m) (each_drop IsShort 1 xs m)
  combines_keeps line (p.method x word arguments) xs m = calls_method_keeps line word (argument 0 xs) (drop 1 xs) (argument_short 0 xs m) (each_drop IsShort 1 xs m)
  combines_keeps line (p.builtin f arguments) xs m = applies_form_keeps line f xs m
  combines_keeps line (p.floor_divide a b dropped) xs m = answered_keeps line (value_of op.FloorDivide (argument 0 xs) (argument 1 xs)) (value_of_short op.FloorDivide (argument 0 xs) (argument 1 xs))
  combines_keeps line (p.unary sign e) xs m = answered_keeps line (unary_of (unary_for sign) (argument 0 xs)) (unary_short (unary_for sign) (argument 0 xs))
  combines_keeps line (p.binary o a b) xs m = answered_keeps line (by_rule (op_for o) (argument 0 xs) (argument 1 xs)) (rule_short (op_for o) (argument 0 xs) (argument 1 xs))
  combines_keeps line p.break_of xs m = completes_keeps broke tt
  combines_keeps line p.continue_of xs m = completes_keeps continued tt
  combines_keeps line p.return_nothing xs m = completes_keeps (returned v.undefined) tt
  combines_keeps line (p.return_of e) xs m = completes_keeps (returned (argument 0 xs)) (argument_short 0 xs m)
  combines_keeps line _ xs m = leaves_keeps

  assigns_keeps : (line : ℕ) (o : Option Op) (k e : ℕ) → Keeps (assigns ev line o k e)
  assigns_keeps line None k e = bind _ (h e) (λ y a. slot_keeps line k _ (λ _ _. writes_keeps line k (Ok y) a))
  assigns_keeps line (Some o) k e = slot_keeps line k _ (λ y _. bind _ (h e) (λ z _. writes_keeps line k (value_of o y z) (value_of_short o y z)))

  declares_keeps : (kind : DeclareKind) (x : Variable) (o : Option ℕ) → Keeps (declares ev kind x o)
  declares_keeps kind x None = without_value_keeps kind x
  declares_keeps kind x (Some e) = bind _ (h e) (λ y a. declares_variable x y a)

  declaration_keeps : (kind : DeclareKind) (ds : List PlainDeclared) → Keeps (does_declaration ev kind ds)
  declaration_keeps kind [] = leaves_keeps
  declaration_keeps kind (d ∷ ds) = bind _ (declares_keeps kind d.variable d.value) (λ x _. declaration_keeps kind ds)

  if_else_keeps : (test a b : ℕ) → Keeps (does_if_else ev test a b)
  if_else_keeps test a b = bind _ (h test) (λ y _. either (is_truthy y) (h a) (h b))

  each_keeps : (k body : ℕ) (xs : List PlainValue) → Each IsShort xs → Keeps (each ev k body xs)
  each_keeps k body [] m = leaves_keeps
  each_keeps k body (y ∷ ys) m = iteration (set_keeps {f = ev body} k (Some y) m.0 (h body)) (each_keeps k body ys m.1)

  each_of_keeps : (line k body : ℕ) (y : PlainValue) → IsShort y → Keeps (each_of ev line k body y)
  each_of_keeps line k body (v.list xs) m = each_keeps k body (values_in xs) (values_short xs m)
  each_of_keeps line k body _ m = breaks_keeps fault.Mistyped line

  tests_keeps : (test : Option ℕ) → Keeps (tests ev test)
  tests_keeps None = gives_keeps (v.truth true) tt
  tests_keeps (Some n) = h n

  perhaps_keeps : (o : Option ℕ) → Keeps (perhaps ev o)
  perhaps_keeps None = leaves_keeps
  perhaps_keeps (Some n) = h n

  one_iteration_keeps : (test : Option ℕ) (body : ℕ) (next : Option ℕ) (again : State → Outcome) → Keeps again → Keeps (one_iteration ev test body next again)
  one_iteration_keeps test body next again a =
      bind _ (tests_keeps test) (λ x _. either (is_truthy x) (iteration (h body) (bind _ (perhaps_keeps next) (λ _ _. a))) leaves_keeps)

  pub iterations_keeps : (n : ℕ) (test : Option ℕ) (body : ℕ) (next : Option ℕ) → Keeps (iterations ev n test body next)
  iterations_keeps zero test body next = spends_keeps
  iterations_keeps (suc n) test body next = one_iteration_keeps test body next (iterations ev n test body next) (iterations_keeps n test body next)

  module _ (repeat : Option ℕ → ℕ → Option ℕ → State → Outcome) (r : (test : Option ℕ) (body : ℕ) (next : Option ℕ) → Keeps (repeat test body next)) where
    does_keeps : (line : ℕ) (node : PlainNodeForm) → Keeps (does g ev repeat line node)
    does_keeps line (p.binary operator.Or a b) = bind _ (h a) (λ x m. either (is_truthy x) (gives_keeps x m) (h b))
    does_keeps line (p.binary operator.And a b) = bind _ (h a) (λ x m. either (is_truthy x) (h b) (gives_keeps x m))
    does_keeps line (p.conditional test a b) = if_else_keeps test a b
    does_keeps line (p.assign o k e) = assigns_keeps line (op_before o) k e
    does_keeps line (p.block slots ns) = undeclare_keeps (sequence ev ns) slots (sequence_keeps ns)
    does_keeps line (p.declaration kind declared) = declaration_keeps kind declared
    does_keeps line (p.if_alone test body) = bind _ (h test) (λ y _. either (is_truthy y) (h body) leaves_keeps)
    does_keeps line (p.if_else test body other) = if_else_keeps test body other
    does_keeps line (p.while_of test body) = r (Some test) body None
    does_keeps line (p.for_three slots first test next body) = bind _ (undeclare_keeps (perhaps ev first) slots (perhaps_keeps first)) (λ y _. r test body next)
    does_keeps line (p.for_of k items body) = bind _ (undeclare_keeps (ev items) (k ∷ []) (h items)) (λ y m. each_of_keeps line k body y m)
    does_keeps line node = in_order_keeps (parts_of node) [] _ tt (combines_keeps line node)

    pub node_keeps : (o : Option PlainNode) → Keeps (does_node g ev repeat o)
    node_keeps None = spends_keeps
    node_keeps (Some node) = does_keeps node.line node.form

  pub body_keeps : (o : Origin) → IsShortOrigin o → Keeps (runs_body g ev o)
  body_keeps the_top k = enters_keeps 0 g.base.program.top [] [] tt tt
  body_keeps (function mode f args) k = calls_keeps 0 f args k.0 k.1
