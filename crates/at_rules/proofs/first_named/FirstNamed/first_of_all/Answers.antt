use Rattle.std.proofs.Common.{◌∙◌, ap, sym}
use Rattle.std.specs.Prelude.{nat_eq}
use Rattle.std.specs.List.{list_any}
use Rattle.at_model.specs.Classes.{chain}
use Rattle.at_rules.proofs.Starting.{first_found}
use Rattle.at_rules.proofs.first_named.FirstNamed.first_of_all.Goals as goal

pub returns : goal.returns
returns c =
    let m = c.args.self.now in
    let cs = chain c.args.classes.now c.args.class in
    let e = c.in_ok-above.field-0-0.now in
    let among = ap (λ b. list_any (nat_eq b) cs) (sym c.new.ensures) ∙ sym c.is_sub.ensures ∙ c.if-not-is_sub.false in
    let found = first_found m.begins.entries m.first.entries c.args.name c.in_ok-position.field-0.now e.0 e.1 in
    found c.in_ok-above.attribute.now cs m.begun
    (sym c.in_ok-position.ensures.value) (sym c.in_ok-above.ensures.entry) c.if-named-name.false among
