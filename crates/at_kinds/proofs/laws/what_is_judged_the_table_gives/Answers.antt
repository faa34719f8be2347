use Rattle.std.proofs.Common.{subst}
use Rattle.at_kinds.specs.KindTable.{Gives}
use Rattle.at_kinds.proofs.TableJudged.{found}
use Rattle.at_kinds.proofs.JudgedTable.{tabled}
use Rattle.at_kinds.proofs.laws.what_is_judged_the_table_gives.Goals as goal

pub returns : goal.returns
returns c = λ s e k. (λ x. subst (Gives s e) x.2 (tabled s e x.0 x.1), λ g. found g)
