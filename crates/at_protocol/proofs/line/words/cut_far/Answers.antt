use Rattle.std.proofs.Common.{subst}
use Rattle.at_protocol.specs.Words.{HasNoSpace}
use Rattle.at_protocol.proofs.Cuts.{IsSpaceAt, before_space, behind_space, cut_there}
use Rattle.at_protocol.proofs.line.words.cut_far.Goals as goal

pub split_at-requires : goal.split_at-requires
split_at-requires c = before_space c.args.text.now c.in-Some.at (subst (λ bytes. IsSpaceAt bytes c.in-Some.at) c.as_bytes.ensures.value c.in-Some.ensures)

pub split_at-requires-2 : goal.split_at-requires-2
split_at-requires-2 c = behind_space c.args.text.now c.in-Some.at c.utf8.text (subst (λ bytes. IsSpaceAt bytes c.in-Some.at) c.as_bytes.ensures.value c.in-Some.ensures)

pub returns-in_default : goal.returns-in_default
returns-in_default c = subst HasNoSpace c.as_bytes.ensures.value c.in_default.ensures

pub returns : goal.returns
returns c = cut_there c.args.text.now c.in-Some.at _ _ (subst (λ bytes. IsSpaceAt bytes c.in-Some.at) c.as_bytes.ensures.value c.in-Some.ensures) c.split_at.ensures.front c.split_at-2.ensures.back
