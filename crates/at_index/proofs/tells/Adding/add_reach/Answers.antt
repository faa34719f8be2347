use Rattle.at_index.proofs.Common.{◌≡◌, inl, inr, ap, arith, refl, Reach, Run, slice_get_read, on_ok_weaker}
use Rattle.at_index.proofs.of_runs.Reaching.{adds_reach, reach_there}
use Rattle.at_index.proofs.of_runs.Seats.{count_is, set_past}
use Rattle.at_index.proofs.tells.Adding.add_reach.Goals as goal

pub returns-clause-adds : goal.returns-clause-adds
returns-clause-adds g c =
    let there = slice_get_read c.args.runs.now.items _ c.args.run c.index_mut-found.result.now refl c.requires c.index_mut-found.ensures.value in
    adds_reach _ _ _ _ _ _ there refl c.add_to.ensures.gains

pub returns-clause-has : goal.returns-clause-has
returns-clause-has g c =
    let there = slice_get_read c.args.runs.now.items _ c.args.run c.index_mut-found.result.now refl c.requires c.index_mut-found.ensures.value in
    on_ok_weaker c.add_to.result (reach_there _ _ _ _ _ _ there refl c.add_to.ensures.gains) c.add_to.ensures.has

pub returns-clause-past : goal.returns-clause-past
returns-clause-past g c least past =
    let xs = c.args.runs.now.items in
    let was = c.index_mut-found.result.now in
    let there = slice_get_read xs _ c.args.run was refl c.requires c.index_mut-found.ensures.value in
    let v : Run = record { count = was.count; edges = c.add_to.new.edges } in
    let count = count_is xs c.args.run was there in
    set_past xs _ c.args.run was v there refl (omega arith)
    (λ y d. elim (c.add_to.ensures.gains.only y d) [
      | inl e ↦ inl e
      | inr same ↦ let last : y.last ≡ c.args.last = ap (λ (z : Reach). z.last) same in inr (omega (arith, least, count, last))
    ]) past
