use Rattle.at_evict.proofs.Common.{◌∙◌, Contains, subst, sym}
use Rattle.at_evict.proofs.of_folding.Gathering.{is_none, is_one}
use Rattle.at_evict.proofs.of_folding.Linking.{linked_goes, linked_push, linked_there}
use Rattle.at_evict.proofs.relinking.add_link.Goals as goal

pub returns-then-not-does_stay : goal.returns-then-not-does_stay
returns-then-not-does_stay c = linked_goes c.args.slot _ (is_none _ c.args.slot (sym c.does_stay.ensures ∙ c.if-not-does_stay.true))

pub returns-then-is_near : goal.returns-then-is_near
returns-then-is_near c = linked_there c.args.slot _ (subst (λ xs. Contains xs c.args.slot) c.as_slice.ensures (c.is_near.ensures c.if-is_near.true))

pub returns : goal.returns
returns c = linked_push c.args.slot _ _ (is_one _ c.args.slot (sym c.does_stay.ensures ∙ c.if-not-does_stay.false)) c.in_ok-push.ensures.ok
