use Rattle.std.proofs.Common.{refl, true}
use Rattle.at_search.specs.declared.ended.Ended.{Ended}
use Rattle.at_demand.specs.declared.question.Question.{Question}
use Rattle.at_demand.proofs.Marking.{one_marked}
use Rattle.at_demand.proofs.question.Question.mark.Goals as goal

pub returns-in-Some : goal.returns-in-Some
returns-in-Some c =
    let q = c.args.self.now in
    let x = c.in-Some.ended.now in
    let w : Ended = record { ending = x.ending; is_whole = true } in
    let new : Question = record q { ended = c.get_mut.follows.lender w } in
    let h = c.get_mut.follows.holds w in
    one_marked q new c.args.inst.now x c.in-Some.ensures.value h.0 h.1 refl
