use Rattle.std.proofs.Common.{◌∙◌}
use Rattle.at_evaluate.specs.Near.{own_place}
use Rattle.at_evaluate.proofs.Nearby.{own_token_at}
use Rattle.at_evaluate.proofs.Passed.{compares_own}
use Rattle.at_evaluate.proofs.passing.asked_in.Goals as goal

pub returns-in_ok-text-in-Compared : goal.returns-in_ok-text-in-Compared
returns-in_ok-text-in-Compared c =
    let classes = c.args.rules.now.classes in
    let vs = c.args.arguments.now in
    record {
      body = c.in_ok-body.body.now;
      own = c.in_ok-body.ensures;
      asks = λ n. c.in-Compared.ensures.means classes (own_place n vs) ∙ compares_own classes (own_place n vs) c.in-Compared.comparison c.in-Compared.left.now c.in-Compared.right.now
          n c.in_ok-part-in-Compared.part c.in_ok-text-in-Compared.text.now
          (own_token_at classes n c.in_ok-part-in-Compared.part vs c.in-Compared.left.now c.in_ok-part-in-Compared.ensures) (c.in_ok-text-in-Compared.ensures classes n);
      compares = c.in-Compared.ensures.compares;
    }
