use Rattle.at_index.proofs.Common.{inl, arith, refl, sym, Run}
use Rattle.at_index.proofs.of_runs.Seats.{count_is, lent, set_given, set_here, set_on, set_past}
use Rattle.at_index.proofs.seating.give.Goals as goal

pub returns-in_err-place-clause-past : goal.returns-in_err-place-clause-past
returns-in_err-place-clause-past c =
    let xs = c.args.runs.now.items in
    let was = c.in_ok-found.found.now in
    let there = lent xs c.args.run was c.in_ok-found.ensures.item.0 c.in_ok-found.ensures.value in
    set_past xs _ c.args.run was was there refl (omega arith) (λ x d. inl d)

pub returns : goal.returns
returns c =
    let xs = c.args.runs.now.items in
    let was = c.in_ok-found.found.now in
    let there = lent xs c.args.run was c.in_ok-found.ensures.item.0 c.in_ok-found.ensures.value in
    let v : Run = record { count = c.in_ok-place.place; edges = was.edges } in
    let next = c.in_ok-place.ensures.1 in
    let count = count_is xs c.args.run was there in
    record {
      same = set_on xs _ c.args.run was v there refl refl;
      given = set_given xs _ c.args.run was v there refl (omega (arith, next));
      past = set_past xs _ c.args.run was v there refl (omega (arith, next)) (λ x d. inl d);
      none = tt;
      next = (omega (arith, next, count), sym (count_is _ c.args.run v (set_here xs _ c.args.run was v there refl)));
    }
