use Rattle.std.proofs.Common.{◌≡◌, ◌-◌, length, take, drop, arith, min, sym, ap}
use Rattle.bp_base.specs.Memory.{Supply}
use Rattle.bp_base.proofs.Appending.{copied_front}
use Rattle.bp_base.proofs.memory.MemorySourceSource.read.Goals as goal

pub returns-clause-given : goal.returns-clause-given
returns-clause-given c =
    let bytes = c.self.inside.bytes.items in
    let at = c.self.inside.at in
    let n = c.min-count.result in
    let left : c.args.self.now.left ≡ drop at bytes = sym (ap (λ (s : Supply). s.left) c.self.view_is) in
    let copy : c.copy_from_slice.new.self ≡ take n (take (length bytes - at) (drop at bytes)) =
    rw c.deref.ensures.value at c.copy_from_slice.ensures.after in
    let count : n ≡ min (length c.args.into.now) (length (take (length bytes - at) (drop at bytes))) =
    rw c.deref.ensures.value at c.min-count.ensures in
    copied_front c.args.self.now.left bytes c.args.into.now c.copy_from_slice.new.self at n left copy (omega arith)
