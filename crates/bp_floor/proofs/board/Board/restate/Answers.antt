use Rattle.std.proofs.Common.{refl, option_map, Result, Ok, Err, OnOk}
use Rattle.bp_thread.specs.Views.{stated_set}
use Rattle.bp_floor.proofs.Fronts.{block_stands}
use Rattle.bp_floor.proofs.board.Board.restate.Goals as goal

on_ok_two : {T E A B C : Type 0} (res : Result T E) → (A → B → C) → OnOk res A → OnOk res B → OnOk res C
on_ok_two (Ok x) f a b = f a b
on_ok_two (Err y) f a b = tt

pub returns-clause-stated : goal.returns-clause-stated
returns-clause-stated c =
    let b = c.args.self.now in
    on_ok_two c.place.result
    (λ live fits. record {
      live = live;
      fits = λ base budget m f. fits base budget (block_stands c.args.number b.seats b.desk.bench.live (stated_set (option_map (λ s. s.now) c.block_of-before.result)) m c.block_of-before.ensures) f;
      same = record { queue = c.place.ensures.queue; transitions = refl; weight = refl; lines = refl; verdict = refl; wave = refl };
    }) c.place.ensures.placed c.place.ensures.fits
