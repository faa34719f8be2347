use Rattle.std.proofs.Common.{◌≡◌, false, sym, ◌∙◌}
use Rattle.at_model.specs.Names.{is_reserved}
use Rattle.at_tree.proofs.PathRuns.{no_word, reserved, no_index, plain_taken, indexed_taken}
use Rattle.at_tree.proofs.path.read.step_first.Goals as goal

pub returns-in_default-clause-stops : goal.returns-in_default-clause-stops
returns-in_default-clause-stops c = λ ss some. no_word ss c.args.text.now c.in_default.ensures some

pub returns-then-is_reserved-clause-stops : goal.returns-then-is_reserved-clause-stops
returns-then-is_reserved-clause-stops c = λ ss _. reserved ss c.args.text.now c.in-Some.name.now c.in-Some.behind.now c.in-Some.ensures (sym c.is_reserved.ensures ∙ c.if-is_reserved.true)

pub returns-in_default-behind_sign-clause-taken : goal.returns-in_default-behind_sign-clause-taken
returns-in_default-behind_sign-clause-taken c =
    let free : is_reserved c.in-Some.name.now ≡ false = sym c.is_reserved.ensures ∙ c.if-is_reserved.false in
    λ ss. plain_taken ss c.args.text.now c.in-Some.name.now c.in-Some.behind.now c.in-Some.ensures free c.in_default-behind_sign.ensures

pub returns-in_default-index_first-clause-stops : goal.returns-in_default-index_first-clause-stops
returns-in_default-index_first-clause-stops c =
    let free : is_reserved c.in-Some.name.now ≡ false = sym c.is_reserved.ensures ∙ c.if-is_reserved.false in
    λ ss _. no_index ss c.args.text.now c.in-Some.name.now c.in-Some.behind.now c.in-Some-behind_sign.digits.now c.in-Some.ensures free c.in-Some-behind_sign.ensures c.in_default-index_first.ensures

pub returns-clause-taken : goal.returns-clause-taken
returns-clause-taken c =
    let free : is_reserved c.in-Some.name.now ≡ false = sym c.is_reserved.ensures ∙ c.if-is_reserved.false in
    let index = c.in-Some-index_first.ensures in
    λ ss. indexed_taken ss c.args.text.now c.in-Some.name.now c.in-Some.behind.now c.in-Some-behind_sign.digits.now c.in-Some-index_first.rest.now c.in-Some-index_first.index
    c.in-Some.ensures free c.in-Some-behind_sign.ensures (index.1 ss c.in-Some.name.now) index.0
