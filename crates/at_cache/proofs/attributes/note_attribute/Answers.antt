use Rattle.at_cache.proofs.Common.{◌∙◌, sym}
use Rattle.at_cache.proofs.Came.{come_here, come_stays}
use Rattle.at_cache.proofs.attributes.note_attribute.Goals as goal

pub returns-clause-stay : goal.returns-clause-stay
returns-clause-stay c a h = sym (c.make_place.ensures.same a) ∙ come_stays c.make_place.new.attributes.items c.args.attribute a h

pub returns-clause-noted : goal.returns-clause-noted
returns-clause-noted c = come_here _ _ c.in_ok-make_place.ensures.there
