use Rattle.std.proofs.Common.{Option, Result, Ok, Err}
use Rattle.std.specs.Prelude.{IfOk}
use Rattle.std.specs.declared.alloc.AllocError.{AllocError}
use Rattle.at_body.specs.declared.value.Value.{Value as ValueCode}
use Rattle.at_demand.specs.declared.answer.Answer.{Answer}
use Rattle.at_demand.specs.declared.question.Question.{Question}
use Rattle.at_demand.specs.declared.trials.Trials.{Trials}
use Rattle.at_demand.specs.KeptTrials.{HasEndedLast}
use Rattle.at_demand.specs.LastTried.{IsPassedLast, IsPassedOver}
use Rattle.at_demand.proofs.demand.turning.pass_over.Goals as goal

passed_so : (old new : Question) (t mid u : Trials) (v : ValueCode) → HasEndedLast t mid → (r : Result (Option Answer)
    AllocError) →
    IfOk r (IsPassedLast old new mid u v) → IfOk r (IsPassedOver old new t u v)
passed_so old new t mid u v ended (Ok o) h = (mid, ended, h)
passed_so old new t mid u v ended (Err e) h = tt

pub returns : goal.returns
returns c = passed_so c.args.question.now c.pass_last.new.question c.args.trials.now c.end_last.new.self
    c.pass_last.new.trials c.args.value
    c.end_last.ensures c.pass_last.result c.pass_last.ensures
