-- Effects of scripts.
use Rattle.std.proofs.Common.{◌≡◌, ℕ, List, refl}
use Rattle.js_data.specs.declared.fault.Fault.TheVariants as fault
use Rattle.js_value.specs.Value as v
use Rattle.js_value.specs.Value.{PlainValue, ValueList, value_text}
use Rattle.js_value.specs.Views.{plain_value}
use Rattle.js_value.specs.declared.value.Value.{Value}
use Rattle.js_value.specs.declared.value.Value.TheVariants as value
use Rattle.js_meaning.specs.State.{State, breaks}
use Rattle.js_meaning.specs.Forms.{enqueues_event, sets_handler, registers_thread, asserted, floors, log_text}

pub no_event : (line : ℕ) (x : Value) (s : State) → ((e : _) → x ≡ value.Event e → ⊥) → breaks fault.Mistyped line s ≡ enqueues_event line (plain_value x) s
no_event line value.Undefined s h = refl
no_event line value.Null s h = refl
no_event line (value.Truth b) s h = refl
no_event line (value.Whole n) s h = refl
no_event line (value.Text w) s h = refl
no_event line (value.List xs) s h = refl
no_event line (value.Fields fs) s h = refl
no_event line (value.Event e) s h = absurd (h e refl)
no_event line (value.Set e) s h = refl
no_event line (value.Function c cs) s h = refl

pub no_handler : (line : ℕ) (x : Value) (s : State) → ((code : ℕ) (cs : ValueList) → x ≡ value.Function code cs → ⊥) → breaks fault.Mistyped line s ≡ sets_handler line (plain_value x) s
no_handler line value.Undefined s h = refl
no_handler line value.Null s h = refl
no_handler line (value.Truth b) s h = refl
no_handler line (value.Whole n) s h = refl
no_handler line (value.Text w) s h = refl
no_handler line (value.List xs) s h = refl
no_handler line (value.Fields fs) s h = refl
no_handler line (value.Event e) s h = refl
no_handler line (value.Set e) s h = refl
no_handler line (value.Function c cs) s h = absurd (h c cs refl)

pub no_name : (line : ℕ) (x : Value) (f : PlainValue) (s : State) → ((w : _) → x ≡ value.Text w → ⊥) → breaks fault.Mistyped line s ≡ registers_thread line (plain_value x) f s
no_name line value.Undefined f s h = refl
no_name line value.Null f s h = refl
no_name line (value.Truth b) f s h = refl
no_name line (value.Whole n) f s h = refl
no_name line (value.Text w) f s h = absurd (h w refl)
no_name line (value.List xs) f s h = refl
no_name line (value.Fields fs) f s h = refl
no_name line (value.Event e) f s h = refl
no_name line (value.Set e) f s h = refl
no_name line (value.Function c cs) f s h = refl

pub no_thread : (line : ℕ) (name : List ℕ) (x : Value) (s : State) → ((code : ℕ) (cs : ValueList) → x ≡ value.Function code cs → ⊥) → breaks fault.Mistyped line s ≡ registers_thread line (v.text name) (plain_value x) s
no_thread line name value.Undefined s h = refl
no_thread line name value.Null s h = refl
no_thread line name (value.Truth b) s h = refl
no_thread line name (value.Whole n) s h = refl
no_thread line name (value.Text w) s h = refl
no_thread line name (value.List xs) s h = refl
no_thread line name (value.Fields fs) s h = refl
no_thread line name (value.Event e) s h = refl
no_thread line name (value.Set e) s h = refl
no_thread line name (value.Function c cs) s h = absurd (h c cs refl)

pub no_text : (line : ℕ) (x : PlainValue) (t : Value) (s : State) → ((w : _) → t ≡ value.Text w → ⊥) → breaks fault.Mistyped line s ≡ asserted line x (plain_value t) s
no_text line x value.Undefined s h = refl
no_text line x value.Null s h = refl
no_text line x (value.Truth b) s h = refl
no_text line x (value.Whole n) s h = refl
no_text line x (value.Text w) s h = absurd (h w refl)
no_text line x (value.List xs) s h = refl
no_text line x (value.Fields fs) s h = refl
no_text line x (value.Event e) s h = refl
no_text line x (value.Set e) s h = refl
no_text line x (value.Function c cs) s h = refl

pub no_whole : (line : ℕ) (x : Value) (s : State) → ((n : _) → x ≡ value.Whole n → ⊥) → breaks fault.Mistyped line s ≡ floors line (plain_value x) s
no_whole line value.Undefined s h = refl
no_whole line value.Null s h = refl
no_whole line (value.Truth b) s h = refl
no_whole line (value.Whole n) s h = absurd (h n refl)
no_whole line (value.Text w) s h = refl
no_whole line (value.List xs) s h = refl
no_whole line (value.Fields fs) s h = refl
no_whole line (value.Event e) s h = refl
no_whole line (value.Set e) s h = refl
no_whole line (value.Function c cs) s h = refl

pub other_text : (x : Value) → ((e : _) → x ≡ value.Event e → ⊥) → ((xs : _) → x ≡ value.List xs → ⊥) → ((fs : _) → x ≡ value.Fields fs → ⊥) → value_text (plain_value x) ≡ log_text (plain_value x)
other_text value.Undefined h i j = refl
other_text value.Null h i j = refl
other_text (value.Truth b) h i j = refl
other_text (value.Whole n) h i j = refl
other_text (value.Text w) h i j = refl
other_text (value.List xs) h i j = absurd (i xs refl)
other_text (value.Fields fs) h i j = absurd (j fs refl)
other_text (value.Event e) h i j = absurd (h e refl)
other_text (value.Set e) h i j = refl
other_text (value.Function c cs) h i j = refl
