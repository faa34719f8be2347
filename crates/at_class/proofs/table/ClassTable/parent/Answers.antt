use Rattle.std.proofs.Common.{◌≡◌, ◌<◌, ◌≤◌, ◌∙◌, ap, sym, refl, arith, length, get_or}
use Rattle.std.proofs.lemmas.Option.{slice_get_read}
use Rattle.at_model.specs.Classes.{parent_of}
use Rattle.at_class.proofs.Entries.{table_parent, table_past}
use Rattle.at_class.proofs.table.ClassTable.parent.Goals as goal

pub returns-in_err-get-clause-found : goal.returns-in_err-get-clause-found
returns-in_err-get-clause-found c =
    let es = c.self.inside.entries.items in
    let past : length es ≤ c.args.class = omega (arith, c.in_err-get.ensures.lookup.3, c.index.ensures, ap length c.deref.ensures.value) in
    c.from_residual.ensures
    ∙ sym (table_past c.self.inside.names.keys es c.args.class c.self.invariant.count past)
    ∙ ap (λ classes. parent_of classes c.args.class) c.self.view_is

pub returns-clause-found : goal.returns-clause-found
returns-clause-found c =
    let es = c.self.inside.entries.items in
    let e = c.in_ok-get.field-0.now in
    let less : c.args.class < length es = omega (arith, c.in_ok-get.ensures.lookup.3.0, c.index.ensures, ap length c.deref.ensures.value) in
    let is : e ≡ get_or es c.args.class e = c.in_ok-get.ensures.lookup.1 ∙ ap (λ xs. get_or xs c.index.result e) c.deref.ensures.value ∙ ap (λ i. get_or es i e) c.index.ensures in
    sym (table_parent c.self.inside.names.keys es c.args.class e c.self.invariant.count (slice_get_read es (length es) c.args.class e refl less is))
    ∙ ap (λ classes. parent_of classes c.args.class) c.self.view_is
