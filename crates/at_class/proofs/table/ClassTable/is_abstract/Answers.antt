use Rattle.std.proofs.Common.{◌≡◌, ◌<◌, ◌∙◌, ap, sym, refl, arith, length, get_or}
use Rattle.std.proofs.lemmas.Option.{slice_get_read}
use Rattle.at_model.specs.Classes.{is_concrete}
use Rattle.at_class.proofs.Entries.{length_of, table_concrete}
use Rattle.at_class.proofs.table.ClassTable.is_abstract.Goals as goal

pub index-requires-2 : goal.index-requires-2
index-requires-2 c =
    let n = length_of c.self.inside.names.keys c.self.inside.entries.items c.args.self.now c.self.invariant.count c.self.view_is in
    omega (arith, n, c.requires, c.index.ensures, c.self.inside.entries.ok.0)

pub returns : goal.returns
returns c =
    let names = c.self.inside.names.keys in
    let es = c.self.inside.entries.items in
    let e = c.index-2.result.now in
    let less : c.args.class < length es = omega (arith, c.requires, length_of names es c.args.self.now c.self.invariant.count c.self.view_is) in
    let is : e ≡ get_or es c.args.class e = c.index-2.ensures ∙ ap (λ i. get_or es i e) c.index.ensures in
    ap (λ classes. is_concrete classes c.args.class) (sym c.self.view_is)
    ∙ table_concrete names es c.args.class e c.self.invariant.count (slice_get_read es (length es) c.args.class e refl less is)
