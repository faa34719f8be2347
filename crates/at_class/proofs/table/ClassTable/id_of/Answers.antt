use Rattle.std.proofs.Common.{◌≡◌, ◌<◌, ◌∙◌, ap, sym, subst, length}
use Rattle.std.specs.Prelude.{IfSome, string_bytes}
use Rattle.std.specs.Str.{bytes_eq}
use Rattle.at_model.specs.Classes.{class_of_name}
use Rattle.at_class.specs.Table.{table_view}
use Rattle.at_class.proofs.Entries.{length_of, names-table}
use Rattle.at_class.proofs.Named.{named_in-classes, position-within}
use Rattle.at_class.proofs.table.ClassTable.id_of.Goals as goal

pub returns-clause-found : goal.returns-clause-found
returns-clause-found c =
    let names = c.self.inside.names.keys in
    let es = c.self.inside.entries.items in
    c.class_named.ensures
    ∙ named_in-classes names (table_view names es) (names-table names es c.self.invariant.count) c.args.name.now
    ∙ ap (λ classes. class_of_name classes c.args.name.now) c.self.view_is

pub returns-clause-within : goal.returns-clause-within
returns-clause-within c =
    let names = c.self.inside.names.keys in
    let es = c.self.inside.entries.items in
    let n : length names ≡ length c.args.self.now = c.self.invariant.count ∙ sym (length_of names es c.args.self.now c.self.invariant.count c.self.view_is) in
    subst (λ m. IfSome c.class_named.result (λ k. k < m)) n
    (subst (λ r. IfSome r (λ k. k < length names)) (sym c.class_named.ensures) (position-within (λ k. bytes_eq c.args.name.now (string_bytes k)) names))
