use Rattle.std.proofs.Common.{◌≡◌, ◌<◌, ◌∙◌, ap, arith, length, map, get_or}
use Rattle.at_model.specs.Classes.{parts}
use Rattle.at_class.specs.declared.entry.Entry.{Entry}
use Rattle.at_class.specs.View.{part_view}
use Rattle.at_class.proofs.Entries.{length_of}
use Rattle.at_class.proofs.table.ClassTable.parts.Goals as goal

pub index-requires-2 : goal.index-requires-2
index-requires-2 c =
    let n = length_of c.self.inside.names.keys c.self.inside.entries.items c.args.self.now c.self.invariant.count c.self.view_is in
    omega (arith, n, c.requires, c.index.ensures, c.self.inside.entries.ok.0)

pub returns : goal.returns
returns c =
    let es = c.self.inside.entries.items in
    let e = c.index-2.result.now in
    let less : c.args.class < length es = omega (arith, c.requires, length_of c.self.inside.names.keys es c.args.self.now c.self.invariant.count c.self.view_is) in
    let is : e ≡ get_or es c.args.class e = c.index-2.ensures ∙ ap (λ i. get_or es i e) c.index.ensures in
    ap (map part_view) c.deref.ensures.value
    ∙ ap (λ (d : Entry). map part_view d.parts.items) is
    ∙ c.self.invariant.parts c.args.class e less
    ∙ ap (λ classes. parts classes c.args.class) c.self.view_is
