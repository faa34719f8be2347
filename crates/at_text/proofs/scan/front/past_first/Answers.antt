use Rattle.std.proofs.Common.{sym, ap, [], ◌∙◌, ◌++◌, ◌<◌, length, map, arith}
use Rattle.std.proofs.lemmas.List.{get_or-map, length-map}
use Rattle.at_text.proofs.Fronts.{fits_one_less}
use Rattle.at_text.proofs.scan.front.past_first.Goals as goal

pub returns-in-Some : goal.returns-in-Some
returns-in-Some c =
    let xs = c.args.fronts.now in
    let k = c.loop-front.front-index in
    let e = c.in-Some.ensures in
    let h : k < length xs = c.loop-front-test.true in
    (k, omega (arith, length-map xs (λ x. x.now), h), c.loop-front.invariant, e.0 ∙ ap (λ l. l ++ c.in-Some.after.now) (sym (get_or-map (λ x. x.now) xs k _ [] h)), e.1)

pub returns : goal.returns
returns c k rest h e = c.loop-front.invariant k rest (omega (arith, h, length-map c.args.fronts.now (λ x. x.now), c.loop-front-test.false)) e

pub loop-front-preserved : goal.loop-front-preserved
loop-front-preserved c =
    let xs = c.args.fronts.now in
    let k = c.loop-front.front-index in
    let none = rw c.in_default.is at c.past_front.ensures in
    fits_one_less (map (λ x. x.now) xs) k c.args.text.now c.loop-front.invariant (λ rest e. none rest (e ∙ ap (λ l. l ++ rest) (get_or-map (λ x. x.now) xs k _ [] c.loop-front-test.true)))
