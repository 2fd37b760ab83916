use Rattle.test_arbiter.proofs.bench.answers.Goals as goal

pub answer-requires : goal.answer-requires
answer-requires c = λ base budget. c.place_all.ensures base budget (c.requires base budget)
