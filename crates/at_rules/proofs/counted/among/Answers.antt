use Rattle.std.proofs.Common.{sym, ◌∙◌, arith, slice_index_or}
use Rattle.std.specs.Str.{bytes_eq}
use Rattle.at_model.specs.Rules.{name_by}
use Rattle.at_rules.specs.RulesView.{text_of}
use Rattle.at_rules.proofs.Counting.{found_there, none_among, none_of_these}
use Rattle.at_rules.proofs.counted.among.Goals as goal

pub returns-then-is_there : goal.returns-then-is_there
returns-then-is_there c =
    let number = slice_index_or c.args.numbers.now c.loop-place.place 0 in
    sym (found_there c.args.names.now.keys c.requires.distinct c.args.name.now c.args.count number
    (sym c.is_there.ensures ∙ c.if-is_there.true))

pub returns : goal.returns
returns c =
    let names = c.args.names.now.keys in
    let name = c.args.name.now in
    let count = c.args.count in
    sym (none_among names c.args.numbers.now c.requires.counted name count
    (none_of_these (λ n. bytes_eq (name_by name count) (text_of names n)) c.args.numbers.now
    (λ i less. c.loop-place.invariant i (omega (arith, less, c.loop-place-test.false, c.loop-place.auto.place-end)))))
