use Rattle.std.proofs.Common.{List, map, subst, ◌∙◌, ap}
use Rattle.std.proofs.lemmas.Result.{err_from_is_err_and}
use Rattle.at_java.specs.Aliases.{Alias}
use Rattle.at_class.specs.Grammar.{grammar_view, place_view}
use Rattle.at_start.specs.AspectFiles.{AllGive, IsUnread}
use Rattle.at_start.specs.Lists.{aliases_in}
use Rattle.at_start.specs.PlacedView.{placed_view}
use Rattle.at_start.specs.Starts.{aspect_bytes}
use Rattle.at_start.specs.FilesView.{aspects_of}
use Rattle.at_start.proofs.Ruled.{given_by, lazy_by, refused_by, unread_refuses}
use Rattle.at_start.proofs.RulesTyped.{circular_by, well_formed_by}
use Rattle.at_start.proofs.aspects.rules_of.Goals as goal

pub returns-in_err-read-clause-refused : goal.returns-in_err-read-clause-refused
returns-in_err-read-clause-refused c =
    let files = aspect_bytes c.args.aspects.now in
    let p = err_from_is_err_and c.from_residual-in_err-read.result c.from_residual-in_err-read.ensures.1 in
    let unread = subst (λ (names : List Alias). IsUnread c.args.language names files c.in_err-read.field-0.0)
    (c.deref.ensures.value ∙ c.in_ok-names.ensures ∙ ap (aliases_in c.args.language) c.requires.built) c.in_err-read.ensures.refused in
    rw (p.1, p.2) (unread_refuses c.args.language (map place_view c.args.declared.marks.items) (grammar_view c.args.declared.grammar) files c.in_err-read.field-0.0 unread)

pub returns-clause-given : goal.returns-clause-given
returns-clause-given c =
    let files = aspect_bytes c.args.aspects.now in
    let aspects = map aspects_of c.in_ok-read.read.aspects.items in
    let constants = map placed_view c.in_ok-read.read.constants.items in
    let give = subst (λ (names : List Alias). AllGive c.args.language names files aspects constants)
    (c.deref.ensures.value ∙ c.in_ok-names.ensures ∙ ap (aliases_in c.args.language) c.requires.built) c.in_ok-read.ensures.give in
    given_by c.args.language (map place_view c.args.declared.marks.items) (grammar_view c.args.declared.grammar) files aspects constants give c.rules.result c.rules.ensures

pub returns-clause-refused : goal.returns-clause-refused
returns-clause-refused c =
    let files = aspect_bytes c.args.aspects.now in
    let aspects = map aspects_of c.in_ok-read.read.aspects.items in
    let constants = map placed_view c.in_ok-read.read.constants.items in
    let give = subst (λ (names : List Alias). AllGive c.args.language names files aspects constants)
    (c.deref.ensures.value ∙ c.in_ok-names.ensures ∙ ap (aliases_in c.args.language) c.requires.built) c.in_ok-read.ensures.give in
    refused_by c.args.language (map place_view c.args.declared.marks.items) (grammar_view c.args.declared.grammar) files aspects constants give c.rules.result c.rules.ensures

pub returns-clause-well_formed : goal.returns-clause-well_formed
returns-clause-well_formed c =
    let files = aspect_bytes c.args.aspects.now in
    let aspects = map aspects_of c.in_ok-read.read.aspects.items in
    let constants = map placed_view c.in_ok-read.read.constants.items in
    let give = subst (λ (names : List Alias). AllGive c.args.language names files aspects constants)
    (c.deref.ensures.value ∙ c.in_ok-names.ensures ∙ ap (aliases_in c.args.language) c.requires.built) c.in_ok-read.ensures.give in
    well_formed_by c.args.language (map place_view c.args.declared.marks.items) (grammar_view c.args.declared.grammar) files aspects constants give c.rules.result c.rules.ensures

pub returns-clause-circular : goal.returns-clause-circular
returns-clause-circular c =
    let aspects = map aspects_of c.in_ok-read.read.aspects.items in
    let constants = map placed_view c.in_ok-read.read.constants.items in
    circular_by c.rules.result (lazy_by c.args.language (map place_view c.args.declared.marks.items) (grammar_view c.args.declared.grammar) aspects constants c.rules.result c.rules.ensures)
    (returns-clause-well_formed c)
