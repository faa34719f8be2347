use Rattle.at_text.proofs.RowsLemmas.{next_left}
use Rattle.at_text.proofs.cursor.Cursor.peek.Goals as goal

pub returns-in-len1-up : goal.returns-in-len1-up
returns-in-len1-up c = next_left c.args.self.now.rest.now _ c.in-len1-up.len_at_least
