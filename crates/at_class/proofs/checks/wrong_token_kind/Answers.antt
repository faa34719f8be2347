use Rattle.std.proofs.Common.{◌∙◌, ap, sym, arith, map}
use Rattle.std.specs.Prelude.{option_map}
use Rattle.at_model.specs.Declarations.{token_kind}
use Rattle.at_class.specs.Checks.{kind_in, kinds_at}
use Rattle.at_class.specs.Grammar.{declaration_view, part_declaration_view, place_view}
use Rattle.at_class.proofs.Firsts.{first_here, none_at_all}
use Rattle.at_class.proofs.checks.wrong_token_kind.Goals as goal

pub returns-in-Some : goal.returns-in-Some
unfolding token_kind kind_in
returns-in-Some c =
    let d = c.declaration-item.result in
    sym (first_here kinds_at declaration_view c.args.declarations.now c.loop-declaration.declaration-index d (place_view c.in-Some.at) (omega arith) c.declaration-item.is c.loop-declaration.invariant
    (ap (λ ps. kind_in (map part_declaration_view ps)) (sym c.deref.ensures.value) ∙ sym c.wrong_kind_in.ensures ∙ ap (option_map place_view) c.in-Some.is))

pub returns : goal.returns
unfolding token_kind kind_in
returns c = sym (none_at_all kinds_at declaration_view c.args.declarations.now c.loop-declaration.declaration-index (omega arith) c.loop-declaration.invariant)
