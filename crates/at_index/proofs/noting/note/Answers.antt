use Rattle.at_index.proofs.Common.{on_ok_weaker}
use Rattle.at_index.proofs.Noted.{index_is}
use Rattle.at_index.proofs.noting.note.Goals as goal

pub returns-in-Idx : goal.returns-in-Idx
returns-in-Idx c = record { stay = c.note_node.ensures.stay; noted = on_ok_weaker c.note_node.result (λ f was n h. index_is c.args.location c.in-Idx.node n c.note_node.new.index_read.items c.in-Idx.is h (f was)) c.note_node.ensures.noted }
