use Rattle.std.proofs.Common.{◌≡◌, ◌∙◌, ◌++◌, ◌∷◌, [], ap}
use Rattle.at_model.specs.Run.{Tok}
use Rattle.at_store.specs.Shown.{contents}
use Rattle.at_evaluate.specs.Near.{entered, own_place}
use Rattle.at_evaluate.proofs.Compared.{texts_compared}
use Rattle.at_evaluate.proofs.Nearby.{own_token_at}
use Rattle.at_evaluate.proofs.near.compared.Goals as goal

pub returns : goal.returns
returns c = λ classes.
    let n = c.args.node in let vs = c.args.arguments.now in
    texts_compared (contents c.args.store.now) classes (own_place n vs) c.args.comparison.now c.args.left.now c.args.right.now (entered c.args.reads.now n vs) c.push.new.self n c.in-Some.part
    c.in-Some-token_text.own.now c.in-Some-lent.text.now c.tells.result (own_token_at classes n c.in-Some.part vs c.args.left.now c.in-Some.ensures) c.in-Some-token_text.ensures
    (c.in-Some-lent.ensures classes n)
    (c.tells.ensures c.in-Some-token_text.own.now c.in-Some-lent.text.now c.is_same.ensures) (c.in_ok-push.ensures.gained ∙ ap (λ ls. ls ++ Tok n c.in-Some.part ∷ []) c.in_ok-enter.ensures)
