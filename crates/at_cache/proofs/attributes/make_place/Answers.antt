use Rattle.at_cache.proofs.Common.{◌∙◌, ap, has_come}
use Rattle.at_cache.proofs.Came.{come_push}
use Rattle.at_cache.proofs.attributes.make_place.Goals as goal

pub loop-attributes-preserved : goal.loop-attributes-preserved
loop-attributes-preserved c a = ap (λ xs. has_come xs a) c.in_ok-push.ensures.items ∙ come_push _ a ∙ c.loop-attributes.invariant a
