use Rattle.std.proofs.Common.{ℕ, ◌<◌, ◌≤◌, ◌++◌, ◌∙◌, ap, arith, length, map, refl}
use Rattle.at_model.specs.Classes.{Classes}
use Rattle.at_jrag.specs.View.{decl_view}
use Rattle.at_start.specs.Spreading.{decl_for, decls_from}
use Rattle.at_start.proofs.Listing.{next_class, none_left}
use Rattle.at_start.proofs.everywhere.append_classes.Goals as goal

pub loop-class-preserved : goal.loop-class-preserved
loop-class-preserved c =
    let classes = c.args.classes.now in
    let attributes = c.args.own.now.attributes.items in
    let equations = c.args.own.now.equations.items in
    let d = decl_view c.args.decl.now in
    let i = c.loop-class.class in
    let less : i < length classes = omega (arith, c.loop-class-test.true, c.len-class-end.ensures.len) in
    next_class (decls_from classes attributes equations d) classes i _ _ (decl_for classes attributes equations d i) _ less
    (λ k ks. refl)
    (c.in_ok-append_class.ensures ∙ ap (λ (k : ℕ). map decl_view c.loop-class.all.items ++ decl_for classes attributes equations d k) c.new.ensures)
    c.loop-class.invariant

pub returns : goal.returns
returns c =
    let classes = c.args.classes.now in
    let past : length classes ≤ c.loop-class.class = omega (arith, c.loop-class-test.false, c.len-class-end.ensures.len) in
    none_left (decls_from classes c.args.own.now.attributes.items c.args.own.now.equations.items (decl_view c.args.decl.now)) classes
    c.loop-class.class _ _ past refl c.loop-class.invariant
