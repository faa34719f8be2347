use Rattle.at_store.specs.Shown.{contents}
use Rattle.at_evaluate.specs.Place.{place_at}
use Rattle.at_evaluate.proofs.Compared.{texts_compared}
use Rattle.at_evaluate.proofs.comparing.compare.Goals as goal

pub returns : goal.returns
returns c = λ classes. texts_compared (contents c.args.store.now) classes (place_at c.args.here.now) c.args.comparison.now c.args.left.now c.args.right.now c.args.reads.now c.push.new.self _ _ c.in-Some-token_text.own.now c.in-Some.text.now c.tells.result (c.in-Some-near_token.ensures classes) c.in-Some-token_text.ensures (c.in-Some.ensures classes)
    (c.tells.ensures c.in-Some-token_text.own.now c.in-Some.text.now c.is_same.ensures) c.in_ok-push.ensures.gained
