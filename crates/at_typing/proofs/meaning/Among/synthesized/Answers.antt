use Rattle.std.proofs.Common.{refl}
use Rattle.at_typing.proofs.meaning.Among.synthesized.Goals as goal

pub returns : goal.returns
returns c = λ ds about. c.synthesized.ensures ds c.args.numbered.now about.attributes about.numbers refl refl
