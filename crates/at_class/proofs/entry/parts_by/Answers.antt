use Rattle.std.proofs.Common.{◌≡◌, ◌<◌, ◌++◌, ◌∙◌, ap, sym, refl, arith, length, map, get_or}
use Rattle.std.proofs.lemmas.Option.{slice_get_read}
use Rattle.at_model.specs.Classes.{own_of}
use Rattle.at_class.specs.View.{classes_view, part_view}
use Rattle.at_class.proofs.Entries.{parts_known}
use Rattle.at_class.proofs.entry.parts_by.Goals as goal

pub returns : goal.returns
returns c =
    let ks = c.args.classes.now in
    let es = c.args.entries.now in
    let p = c.in-Some.superclass in
    let e = c.in-Some-get.above.now in
    let own = own_of (classes_view ks) c.args.class in
    let less : p < length es = omega (arith, c.in-Some-get.ensures.lookup.3.0, c.index.ensures) in
    let is : e ≡ get_or es p e = c.in-Some-get.ensures.lookup.1 ∙ ap (λ i. get_or es i e) c.index.ensures in
    c.in_ok-append_own.ensures
    ∙ ap (λ ps. ps ++ own) c.in_ok-append.ensures
    ∙ ap (λ ps. (map part_view ps ++ map part_view c.deref.result.now) ++ own) c.new-parts.ensures.items
    ∙ ap (λ ps. map part_view ps ++ own) c.deref.ensures.value
    ∙ parts_known ks es c.args.class p e c.requires.0 c.requires.1 (sym c.parent_of.ensures ∙ c.in-Some.is)
    (slice_get_read es (length es) p e refl less is)
