use Rattle.at_body.proofs.ShortTexts.{few_bytes}
use Rattle.at_body.proofs.value.is_short.Goals as goal

pub returns : goal.returns
returns c = few_bytes 4096 c.args.text.now c.type_inv.text
