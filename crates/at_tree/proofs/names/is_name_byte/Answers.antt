use Rattle.std.proofs.Common.{arith}
use Rattle.at_tree.proofs.NameBytes.{byte_in_table}
use Rattle.at_tree.proofs.names.is_name_byte.Goals as goal

pub returns : goal.returns
returns c = byte_in_table c.args.b (omega arith)
