use Rattle.std.proofs.Common.{rules, ◌≡◌, ◌∙◌, not, List, ap, map}
use Rattle.std.specs.List.{filter}
use Rattle.std.proofs.lemmas.Fn.{filter_same}
use Rattle.at_model.specs.Declarations.{PartDeclaration}
use Rattle.at_class.specs.Grammar.{part_declaration_view, place_view, declaration_view}
use Rattle.at_start.specs.Constants.{bare_class, is_marked}
use Rattle.at_start.proofs.PlantingFillings.{map_filter}
use Rattle.at_start.proofs.constants.grammars.bare_class.Goals as goal

pub returns : goal.returns
returns c =
    let marks = map place_view c.args.marks.now in
    let copy = c.in_ok-bare.bare in
    let d = declaration_view copy in
    let kept : c.retain.new.self.items ≡ filter (λ p. not (is_marked marks (part_declaration_view p))) copy.parts.items =
    filter_same _ (λ p. not (is_marked marks (part_declaration_view p))) _ (λ p b f' k. search rules) _ _ c.retain.ensures.filtered in
    ap (λ (ps : List PartDeclaration). record { name = d.name; is_abstract = d.is_abstract; parent = d.parent; parts = ps; at = d.at })
    (ap (map part_declaration_view) kept ∙ map_filter (λ p. not (is_marked marks p)) part_declaration_view copy.parts.items)
    ∙ ap (bare_class marks) c.in_ok-bare.ensures
