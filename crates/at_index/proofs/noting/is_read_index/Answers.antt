use Rattle.at_index.proofs.Noted.{reader_index}
use Rattle.at_index.proofs.noting.is_read_index.Goals as goal

pub returns : goal.returns
returns c = reader_index c.args.reader.now c.is_empty.result c.if-not-is_index.ensures c.is_empty.ensures
