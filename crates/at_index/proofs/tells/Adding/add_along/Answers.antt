use Rattle.at_index.proofs.Common.{◌<◌, arith}
use Rattle.at_index.proofs.of_runs.Along.{adds_along, lists_along}
use Rattle.at_index.proofs.of_runs.Seats.{counted, has_run, seated_on}
use Rattle.at_index.proofs.of_runs.Stretches.{adds_before, lists_kept}
use Rattle.at_index.proofs.tells.Adding.add_along.Goals as goal

pub add_reach-requires : goal.add_reach-requires
add_reach-requires g c =
    let f = rw c.as_slice-2.ensures.value at c.in_ok-last.ensures.follows in
    let few = c.if-last-behind-lt-FEW.false in
    let more : c.in-Some.behind < c.in_ok-last.last = omega (arith, few) in
    has_run c.args.runs.now.items c.first_seat-seat.result.run c.in_ok-last.last (counted c.args.runs.now.items c.requires.given f more) (omega (arith, more))

pub returns-in_err-add_reach-clause-seated : goal.returns-in_err-add_reach-clause-seated
returns-in_err-add_reach-clause-seated g c =
    let f = rw c.as_slice-2.ensures.value at c.in_ok-last.ensures.follows in
    let few = c.if-last-behind-lt-FEW.false in
    let more : c.in-Some.behind < c.in_ok-last.last = omega (arith, few) in
    seated_on {new = c.add_reach.new.runs.items} c.requires (λ k. let e = c.add_reach.ensures.given k in omega (arith, e))
    (c.add_reach.ensures.past (counted c.args.runs.now.items c.requires.given f more))

pub returns-in_err-add_reach-clause-adds : goal.returns-in_err-add_reach-clause-adds
returns-in_err-add_reach-clause-adds g c =
    let f = rw c.as_slice-2.ensures.value at c.in_ok-last.ensures.follows in
    adds_along c.args.seats.now.items c.add_reach.new.runs.items f c.args.runs.now.items c.add_reach.ensures.adds

pub lengthen-requires : goal.lengthen-requires
lengthen-requires g c =
    let f = rw c.as_slice-2.ensures.value at c.in_ok-last.ensures.follows in
    let few = c.if-last-behind-lt-FEW.false in
    let more : c.in-Some.behind < c.in_ok-last.last = omega (arith, few) in
    seated_on {new = c.add_reach.new.runs.items} c.requires (λ k. let e = c.add_reach.ensures.given k in omega (arith, e))
    (c.add_reach.ensures.past (counted c.args.runs.now.items c.requires.given f more))

pub returns-in_err-lengthen-clause-adds : goal.returns-in_err-lengthen-clause-adds
returns-in_err-lengthen-clause-adds g c =
    let f = rw c.as_slice-2.ensures.value at c.in_ok-last.ensures.follows in
    adds_before (adds_along c.args.seats.now.items c.add_reach.new.runs.items f c.args.runs.now.items c.add_reach.ensures.adds) c.lengthen.ensures.holds

pub returns-clause-adds : goal.returns-clause-adds
returns-clause-adds g c =
    let f = rw c.as_slice-2.ensures.value at c.in_ok-last.ensures.follows in
    adds_before (adds_along c.args.seats.now.items c.add_reach.new.runs.items f c.args.runs.now.items c.add_reach.ensures.adds) c.lengthen.ensures.holds

pub returns-clause-listed : goal.returns-clause-listed
returns-clause-listed g c =
    let f = rw c.as_slice-2.ensures.value at c.in_ok-last.ensures.follows in
    lists_kept _ (lists_along c.args.seats.now.items c.add_reach.new.runs.items f c.in_ok-add_reach.ensures.has) c.lengthen.ensures.holds
