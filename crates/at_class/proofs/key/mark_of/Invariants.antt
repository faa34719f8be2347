use Rattle.std.proofs.Common.{◌≡◌, drop}
use Rattle.at_model.specs.Drawers.{mark_from}
use Rattle.at_class.proofs.key.mark_of.Given as goal

-- the mark so far, and of what is left, is that of the text
abbrev pub invariant-loop-byte : goal.invariant-loop-byte
invariant-loop-byte l = mark_from l.mark (drop l.byte-index l.byte-items) ≡ mark_from 0 l.fn.text
