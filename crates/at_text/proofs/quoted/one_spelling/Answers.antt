use Rattle.std.proofs.Common.{append_assoc}
use Rattle.at_text.proofs.quoted.one_spelling.Goals as goal
use Rattle.at_model.proofs.of_texts.QuotedTexts.{same_inside}

pub returns : goal.returns
returns c = λ a b x y e. let inner = simp append_assoc at e in same_inside a b x y (cc)
