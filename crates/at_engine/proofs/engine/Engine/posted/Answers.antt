use Rattle.std.proofs.Common.{refl}
use Rattle.at_engine.proofs.engine.Engine.posted.Goals as goal

pub returns : goal.returns
returns g c = record {
  is_number = refl;
  is_session = refl;
  is_place = c.in_ok-place.ensures;
  is_attribute = c.in_ok-attribute.ensures.ok;
  are_arguments = c.in_ok-arguments.ensures;
  copies = c.in_ok-marks.ensures;
  is_new = refl;
}
