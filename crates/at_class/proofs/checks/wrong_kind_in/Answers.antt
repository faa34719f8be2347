use Rattle.std.proofs.Common.{◌∙◌, sym, arith}
use Rattle.at_class.specs.Checks.{kind_in, kind_at}
use Rattle.at_class.specs.Grammar.{part_declaration_view, place_view}
use Rattle.at_class.proofs.Firsts.{first_here, none_at_all, some_if}
use Rattle.at_class.proofs.checks.wrong_kind_in.Goals as goal

pub returns-then-has_wrong_kind : goal.returns-then-has_wrong_kind
unfolding kind_in
returns-then-has_wrong_kind c =
    let p = c.part-item.result in
    sym (first_here kind_at part_declaration_view c.args.parts.now c.loop-part.part-index p (place_view p.at)
    (omega arith) c.part-item.is c.loop-part.invariant
    (some_if _ _ (sym c.has_wrong_kind.ensures ∙ c.if-has_wrong_kind.true)))

pub returns : goal.returns
unfolding kind_in
returns c = sym (none_at_all kind_at part_declaration_view c.args.parts.now c.loop-part.part-index (omega arith) c.loop-part.invariant)
