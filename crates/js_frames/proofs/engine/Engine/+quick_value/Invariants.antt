use Rattle.js_frames.proofs.engine.Engine.+quick_value.Given as goal

abbrev pub decreases-quick_value : goal.decreases-quick_value
decreases-quick_value l = l.depth
