use Rattle.std.proofs.Common.{refl}
use Rattle.at_typing.proofs.meaning.Among.inherited.Goals as goal

pub returns : goal.returns
returns c = λ ds about. c.inherited.ensures ds c.args.numbered.now about.attributes about.numbers.alike refl
