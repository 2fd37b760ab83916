use Rattle.js_frames.proofs.engine.Engine.assigned_with.Goals as goal

pub returns : goal.returns
returns c = c.write.ensures _ c.apply_by-answer.ensures
