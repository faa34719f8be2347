use Rattle.std.proofs.Common.{IfOk, refl}
use Rattle.at_model.specs.Alike.{AnswerLike, Names}
use Rattle.at_model.specs.Meaning.{Answer}
use Rattle.at_model.specs.Paths.{Node}
use Rattle.at_model.specs.Rules.{Rules}
use Rattle.at_store.specs.Shown.{Shown, path, tree}
use Rattle.at_demand.specs.Known.{answer_view}
use Rattle.at_engine.specs.Telling.{IsToldAs}
use Rattle.at_engine.proofs.MeantLemmas.{along}
use Rattle.at_engine.proofs.engine.Engine.told.Goals as goal

pub returns : goal.returns
returns g c =
    let Told : Rules → Shown → Unit {0} → Type 0 = λ r s u. (a : Answer Node) → AnswerLike (Names (path s)) (answer_view c.args.answer) a → IfOk c.told.result (IsToldAs r (tree s) a) in
    along Told c.view.ensures.rules c.view.ensures.store refl c.told.ensures
