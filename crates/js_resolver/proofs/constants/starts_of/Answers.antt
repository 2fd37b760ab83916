use Rattle.std.proofs.Common.{◌∙◌, ap, arith, map}
use Rattle.std.proofs.lemmas.List.{take_all}
use Rattle.std.specs.Prelude.{unwrap_or}
use Rattle.js_program.specs.PlainProgram.{undeclared}
use Rattle.js_resolver.specs.inner.Starts.{start_in}
use Rattle.js_resolver.proofs.Starting.{starts_more}
use Rattle.js_resolver.proofs.constants.starts_of.Goals as goal

pub loop-constant-preserved : goal.loop-constant-preserved
loop-constant-preserved c =
    starts_more (λ q. unwrap_or (start_in c.args.starts.now q) undeclared) c.args.constants.now c.loop-constant.constant-index 0 c.loop-constant.found.items c.push.new.self.items c.start_of.result (omega arith) c.loop-constant.invariant c.in_ok-push.ensures.items c.start_of.ensures

pub returns : goal.returns
returns c = c.loop-constant.invariant ∙ ap (map (λ q. unwrap_or (start_in c.args.starts.now q) undeclared)) (take_all c.loop-constant.constant-index c.args.constants.now (omega arith))
