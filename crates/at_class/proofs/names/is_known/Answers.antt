use Rattle.std.proofs.Common.{◌∙◌, ap, sym, map}
use Rattle.std.specs.Prelude.{◌&&◌}
use Rattle.std.specs.List.{list_all}
use Rattle.at_model.specs.Declarations.{is_part_known}
use Rattle.at_class.specs.View.{named_in}
use Rattle.at_class.specs.Grammar.{part_declaration_view}
use Rattle.at_class.proofs.Firsts.{list_all-map}
use Rattle.at_class.proofs.names.is_known.Goals as goal

pub returns-then-is_parent_known : goal.returns-then-is_parent_known
returns-then-is_parent_known c =
    let test = is_part_known (named_in c.args.names.now.keys) in
    let parts = c.args.declaration.now.parts.items in
    c.are_parts_known.ensures
    ∙ ap (list_all (λ p. test (part_declaration_view p))) c.deref.ensures.value
    ∙ sym (list_all-map test part_declaration_view parts)
    ∙ ap (λ b. b && list_all test (map part_declaration_view parts)) (sym c.if-is_parent_known.true ∙ c.is_parent_known.ensures)
