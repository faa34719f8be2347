use Rattle.std.proofs.Common.{◌∙◌, ap, map, subst, sym}
use Rattle.std.specs.List.{All}
use Rattle.std.specs.Str.{IsCharBoundary}
use Rattle.at_class.specs.Grammar.{place_view}
use Rattle.at_text.specs.declared.token.Lexeme.{Lexeme}
use Rattle.at_start.proofs.Slashing.{marks_are, names_all}
use Rattle.at_start.proofs.slashes.marks_of.Goals as goal

pub place_all-requires : goal.place_all-requires
place_all-requires c =
    subst (All (λ (t : Lexeme). IsCharBoundary c.args.text.now t.start)) (sym (c.deref.ensures.value ∙ c.in_ok-names.ensures))
    (names_all (IsCharBoundary c.args.text.now) c.args.found.now c.requires)

pub returns : goal.returns
returns c =
    ap (map place_view) (c.in_ok-places_of.ensures ∙ ap (map (λ t. t.at)) c.deref-2.ensures.value)
    ∙ marks_are c.args.text.now c.in_ok-placed.placed.items c.args.found.now c.deref.result.now (c.deref.ensures.value ∙ c.in_ok-names.ensures)
    c.in_ok-placed.ensures
