use Rattle.std.proofs.Common.{◌≡◌, Some, arith}
use Rattle.std.specs.Prelude.{slice_index_or}
use Rattle.bp_seeds.specs.inner.Merged.{place_of}
use Rattle.bp_seeds.proofs.Places.{placed, set_at, few_at}
use Rattle.bp_seeds.proofs.counts.Counts.add.Goals as goal

pub index_mut-requires : goal.index_mut-requires
index_mut-requires c = grind (arith, placed, c.place_of.ensures, c.self.view_is)

pub overflow_add-index_mut : goal.overflow_add-index_mut
overflow_add-index_mut c =
    let place : Some c.in-Some.place ≡ place_of c.args.more.kind c.args.self.now = grind (arith, c.in-Some.is, c.place_of.ensures, c.self.view_is, c.more.view_is) in
    let read : slice_index_or c.args.self.now c.in-Some.place c.index_mut.result.now ≡ c.index_mut.result.now = grind (arith, c.index_mut.ensures.value, c.self.view_is) in
    let few = few_at c.args.more c.args.self.now c.in-Some.place c.index_mut.result.now c.index_mut.result.now place read in
    grind (arith, few, c.behind-self.view_is, c.more.view_is, c.requires)

pub returns-in-Some : goal.returns-in-Some
returns-in-Some c =
    let place : Some c.in-Some.place ≡ place_of c.args.more.kind c.args.self.now = grind (arith, c.in-Some.is, c.place_of.ensures, c.self.view_is, c.more.view_is) in
    let read : slice_index_or c.args.self.now c.in-Some.place c.index_mut.result.now ≡ c.index_mut.result.now = grind (arith, c.index_mut.ensures.value, c.self.view_is) in
    let set = set_at c.args.more c.args.self.now c.in-Some.place c.index_mut.result.now c.index_mut.result.now place read in
    grind (arith, set, c.behind-self.view_is, c.more.view_is, c.self.view_is)
