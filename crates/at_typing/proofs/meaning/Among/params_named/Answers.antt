use Rattle.std.proofs.Common.{arith}
use Rattle.std.proofs.lemmas.Result.{err_from_is_err_and}
use Rattle.at_typing.proofs.ParamsNamed.{one_named, one_wrong, all_named}
use Rattle.at_typing.proofs.meaning.Among.params_named.Goals as goal

pub loop-position-preserved : goal.loop-position-preserved
loop-position-preserved c =
    let p = c.index-params-position.result in
    one_named c.args.self.now.arguments c.args.self.now.classes.now c.args.params.now c.loop-position.position p
    c.loop-position.kinds.items
    c.push.new.self.items c.in_ok-kind.kind _ (omega arith) c.index-params-position.is c.in_ok-kind.ensures
    c.in_ok-push.ensures.items c.loop-position.invariant

pub returns-in_err-kind : goal.returns-in_err-kind
returns-in_err-kind c =
    let q = err_from_is_err_and c.from_residual.result c.from_residual.ensures.1 in
    rw (q.1, q.2) (one_wrong c.args.self.now.arguments c.args.self.now.classes.now c.args.params.now
    c.loop-position.position
    c.index-params-position.result c.loop-position.kinds.items c.in_err-kind.field-0.0 _ (omega arith)
    c.index-params-position.is c.in_err-kind.ensures c.loop-position.invariant)

pub returns : goal.returns
returns c = all_named c.args.self.now.arguments c.args.self.now.classes.now c.args.params.now c.loop-position.position
    c.loop-position.kinds.items _ (omega arith) c.loop-position.invariant
