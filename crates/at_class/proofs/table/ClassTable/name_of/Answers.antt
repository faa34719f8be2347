use Rattle.std.proofs.Common.{◌∙◌, ap, sym, arith}
use Rattle.std.specs.List.{slice_get}
use Rattle.at_model.specs.Classes.{name_of}
use Rattle.at_class.proofs.Entries.{length_of, table_name}
use Rattle.at_class.proofs.table.ClassTable.name_of.Goals as goal

pub index-requires-2 : goal.index-requires-2
index-requires-2 c =
    let n = length_of c.self.inside.names.keys c.self.inside.entries.items c.args.self.now c.self.invariant.count c.self.view_is in
    omega (arith, n, c.requires, c.index.ensures, c.self.invariant.count)

pub returns : goal.returns
returns c =
    let names = c.self.inside.names.keys in
    let there = ap (slice_get names) (sym c.index.ensures) ∙ c.index-2.ensures in
    c.as_str.ensures.value
    ∙ sym (table_name names c.self.inside.entries.items c.args.class c.index-2.result.now c.self.invariant.count there)
    ∙ ap (λ classes. name_of classes c.args.class) c.self.view_is
