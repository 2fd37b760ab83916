use Rattle.std.proofs.Common.{◌≡◌, subst}
use Rattle.std.specs.Prelude.{IfSome, IfNone}
use Rattle.js_value.specs.Views.{plain_value}
use Rattle.js_frames.specs.declared.frame.Part.TheVariants.{First}
use Rattle.js_frames.specs.declared.frame.Frame.TheVariants.{Waiting}
use Rattle.js_frames.specs.Places.{plain_ground, place_of}
use Rattle.js_frames.specs.Frames.{rest}
use Rattle.js_frames.specs.inner.Giving.{Gave}
use Rattle.js_frames.proofs.Steps.{waits_still}
use Rattle.js_frames.proofs.GivingLemmas.{gave_fits, gave_on}
use Rattle.js_frames.proofs.engine.Engine.begin_first.Goals as goal

pub returns-in-None : goal.returns-in-None
returns-in-None c =
    waits_still (plain_ground c.args.base.now) (place_of c.args.self.now) (place_of c.begin_leaf.new.self) _ (Waiting (First c.args.number)) c.args.part c.wait.result c.requires.fits
    (subst (λ o. IfNone o (place_of c.begin_leaf.new.self ≡ (place_of c.args.self.now))) c.in-None.is c.in_ok-found.ensures.none) c.wait.ensures (c.requires.number, c.requires.form) c.requires.part

pub returns-in-Some : goal.returns-in-Some
unfolding rest
returns-in-Some c =
    gave_on (plain_ground c.args.base.now) (place_of c.args.self.now) (place_of c.begin_leaf.new.self) c.args.part (plain_value c.in-Some.value)
    (subst (λ o. IfSome o (λ value. Gave (plain_ground c.args.base.now) (place_of c.args.self.now) c.args.part (plain_value value) (place_of c.begin_leaf.new.self))) c.in-Some.is c.in_ok-found.ensures.some)
    _ (First c.args.number) c.first.result c.first.ensures

pub first-requires : goal.first-requires
first-requires c = record {
  number = c.requires.number;
  form = c.requires.form;
  fits = gave_fits (plain_ground c.args.base.now) (place_of c.args.self.now) (place_of c.begin_leaf.new.self) c.args.part (plain_value c.in-Some.value)
      (subst (λ o. IfSome o (λ value. Gave (plain_ground c.args.base.now) (place_of c.args.self.now) c.args.part (plain_value value) (place_of c.begin_leaf.new.self))) c.in-Some.is c.in_ok-found.ensures.some) c.requires.fits;
}
