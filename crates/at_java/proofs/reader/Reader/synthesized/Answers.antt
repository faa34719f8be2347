use Rattle.std.proofs.Common.{ap}
use Rattle.at_text.specs.Rows.{left}
use Rattle.at_java.proofs.Computed.{computed_read}
use Rattle.at_java.proofs.reader.Reader.synthesized.Goals as goal

pub returns-clause-found : goal.returns-clause-found
returns-clause-found c =
    let same = ap (λ r. left r.rest.now) c.in_default.ensures.0 in
    computed_read c.args.at _ _ _ _ _ _ _ c.laziness-lazy.ensures c.in_default.ensures.1 same c.in_ok-computed.ensures.found c.with_none.ensures
