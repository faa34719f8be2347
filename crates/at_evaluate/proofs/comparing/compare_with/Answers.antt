use Rattle.std.proofs.Common.{ℕ, ap, ◌∙◌}
use Rattle.at_model.specs.Run.{Text, Value}
use Rattle.at_body.specs.Rest.{with_two}
use Rattle.at_evaluate.proofs.comparing.compare_with.Goals as goal

pub returns : goal.returns
returns c =
    ap (λ (v : Value ℕ). with_two c.args.comparison.now v (Text c.args.right.now)) c.in-Some.ensures
    ∙ c.tells.ensures c.in-Some.own.now c.args.right.now c.is_same.ensures
