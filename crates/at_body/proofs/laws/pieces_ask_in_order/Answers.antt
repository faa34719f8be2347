use Rattle.at_body.proofs.Piled.{in_order}
use Rattle.at_body.proofs.laws.pieces_ask_in_order.Goals as goal

pub returns : goal.returns
returns c = in_order
