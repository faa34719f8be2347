use Rattle.at_evict.proofs.Common.{◌∙◌, sym, memory_of}
use Rattle.at_evict.proofs.of_folding.Gathering.{is_none, is_one}
use Rattle.at_evict.proofs.of_folding.Relinking.{removes_by, removes_none, removes_nothing}
use Rattle.at_evict.proofs.relinking.remove_at.Goals as goal

pub returns-then-does_stay : goal.returns-then-does_stay
returns-then-does_stay c = removes_nothing c.args.slot _ (is_one _ c.args.slot (sym c.does_stay.ensures ∙ c.if-does_stay.true))

pub returns-then-not-is_taken : goal.returns-then-not-is_taken
returns-then-not-is_taken c = removes_none c.args.slot _ (sym c.is_taken.ensures ∙ c.if-not-is_taken.true)

pub returns : goal.returns
returns c =
    removes_by c.args.slot (memory_of c.args.entries.now) (memory_of c.remove.new.self) _ c.remove.result
    (is_none _ c.args.slot (sym c.does_stay.ensures ∙ c.if-does_stay.false)) (sym c.is_taken.ensures ∙ c.if-not-is_taken.false)
    c.remove.ensures.none c.remove.ensures.gone c.remove.ensures.others
