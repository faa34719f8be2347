use Rattle.at_demand.proofs.of_keeping.CalledLemmas.{keeps_asked}
use Rattle.at_demand.proofs.laws.a_question_adds_what_is_worth_keeping.Goals as goal

pub returns : goal.returns
returns c = λ rules s idle q p asked old new w x adds met a answers all counts state same. keeps_asked rules s idle q p asked old new w x adds met a answers all counts state same
