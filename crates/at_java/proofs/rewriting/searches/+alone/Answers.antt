use Rattle.std.proofs.Common.{arith}
use Rattle.at_java.proofs.Blocks.{alone_of_more}
use Rattle.at_java.proofs.rewriting.searches.+alone.Goals as goal

pub returns-in_default-as_slice-2 : goal.returns-in_default-as_slice-2
returns-in_default-as_slice-2 t c =
    alone_of_more c.args.statement.now c.in-Block.statements c.as_slice.result.now c.in-Block.is c.as_slice.ensures.value (omega (arith, c.in_default-as_slice.len_at_least))
