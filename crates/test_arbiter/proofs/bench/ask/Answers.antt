use Rattle.test_arbiter.proofs.bench.ask.Goals as goal

pub blocker-requires : goal.blocker-requires
blocker-requires c = record { fits = c.requires _ _ }
