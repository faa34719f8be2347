use Rattle.at_evaluate.proofs.of_parts.AtOnce.{looked_one}
use Rattle.at_store.specs.Shown.{contents}
use Rattle.at_evaluate.specs.Place.{place_at}
use Rattle.at_evaluate.proofs.direct.operands.done_at_once.Goals as goal

pub returns : goal.returns
returns c = looked_one (contents c.args.basis.now.store.now) c.args.basis.now.rules.now.classes c.args.reads.now c.with_one.new.reads (place_at c.args.here.now)
    c.args.unary c.args.operand.now c.in-Some.value c.in_ok-done.done (c.in-Some.ensures c.args.basis.now.rules.now.classes) c.in_ok-done.ensures
