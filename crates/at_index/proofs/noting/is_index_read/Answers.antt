use Rattle.at_index.proofs.Noted.{index_among}
use Rattle.at_index.proofs.noting.is_index_read.Goals as goal

pub returns-then-is_read_index : goal.returns-then-is_read_index
returns-then-is_read_index c h = index_among c.args.readers.now c.loop-reader.reader-index c.reader-item.result c.reader-item.is c.loop-reader-test.true (c.if-is_read_index.ensures h)
