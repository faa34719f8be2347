use Rattle.std.proofs.Common.{ℕ, refl, ap, ◌∙◌}
use Rattle.std.proofs.lemmas.Result.{err_from_is_err_and}
use Rattle.indexmap.specs.IndexMap.{insert_entry}
use Rattle.at_model.specs.Run.{Instance}
use Rattle.at_body.specs.Same.{same_instance}
use Rattle.at_demand.proofs.question.Question.pass.Goals as goal

pub returns-in-None : goal.returns-in-None
returns-in-None c = let (alone, same) = c.in-None.ensures in record { alone = alone; same = same; is = refl }

pub returns-in_ok-put-in-Some : goal.returns-in_ok-put-in-Some
returns-in_ok-put-in-Some c =
    let r = c.in-Some.ensures in
    record {
      waits = r.waits;
      found = r.finds.found;
      passed = c.in_ok-put-in-Some.ensures ∙ ap (λ fs. insert_entry same_instance fs c.in-Some.root c.args.value) r.finds.passed ∙ ap (λ (i : Instance ℕ). insert_entry same_instance c.args.self.now.passed.entries i c.args.value) r.taken;
      ended = r.finds.ended;
      turns = r.finds.turns;
    }

pub returns-in_err-put-in-Some : goal.returns-in_err-put-in-Some
returns-in_err-put-in-Some c = rw ((err_from_is_err_and c.from_residual.result c.from_residual.ensures.1).1) tt
