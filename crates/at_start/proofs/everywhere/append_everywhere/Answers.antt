use Rattle.std.proofs.Common.{◌++◌, ◌∙◌, List, ap, append_assoc, map}
use Rattle.std.proofs.lemmas.Result.{on_ok_weaker}
use Rattle.at_jrag.specs.Syntax.{Decl}
use Rattle.at_jrag.specs.View.{decl_view}
use Rattle.at_start.specs.Spreading.{Head, decls_at_root, decls_from}
use Rattle.at_start.proofs.everywhere.append_everywhere.Goals as goal

pub returns : goal.returns
returns c =
    let classes = c.args.classes.now in
    let attributes = c.args.own.now.attributes.items in
    let d = decl_view c.args.decl.now in
    let front = map decl_view c.args.all.now.items in
    let behind = decls_from classes attributes c.args.own.now.equations.items d 0 classes in
    on_ok_weaker c.append_classes.result
    (λ is. is ∙ ap (λ (ds : List Decl). ds ++ behind)
    (c.in_ok-append_root.ensures ∙ ap (λ (hs : List Head). front ++ decls_at_root classes hs d) c.deref.ensures.value)
    ∙ append_assoc front (decls_at_root classes attributes d) behind) c.append_classes.ensures
