use Rattle.test_arbiter.proofs.bench.enabled.Goals as goal

pub enabled-requires-clause-fits : goal.enabled-requires-clause-fits
enabled-requires-clause-fits c = c.requires.fits _ _
