use Rattle.std.proofs.Common.{List, [], ◌∷◌, arith, filter_map, map, refl}
use Rattle.std.proofs.lemmas.List.Elements.{filter_map-append}
use Rattle.at_jrag.specs.View.{decl_view}
use Rattle.at_jrag.specs.declared.syntax.Decl.{Decl}
use Rattle.at_start.specs.Overloading.{counted_of}
use Rattle.at_start.proofs.Rereading.{next_part, no_part}
use Rattle.at_start.proofs.overloaded.pairs.append_decls.Goals as goal

pub loop-decl-preserved : goal.loop-decl-preserved
loop-decl-preserved c =
    let of = counted_of in
    let d = c.decl-item.result in
    let left = λ (ds : List Decl). filter_map of (map decl_view ds) in
    next_part left left _ _ (filter_map of (decl_view d ∷ [])) _ c.args.decls.now c.loop-decl.decl-index d (omega
    arith) c.decl-item.is
    (λ rest. filter_map-append of (decl_view d ∷ []) (map decl_view rest)) c.in_ok-append.ensures c.loop-decl.invariant

pub returns : goal.returns
returns c =
    let left = λ (ds : List Decl). filter_map counted_of (map decl_view ds) in
    no_part left c.loop-decl.all.items _ c.args.decls.now c.loop-decl.decl-index (omega arith) refl
    c.loop-decl.invariant
