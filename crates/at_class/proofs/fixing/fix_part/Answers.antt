use Rattle.std.proofs.Common.{ap, refl, sym, subst, ◌<◌}
use Rattle.std.specs.Prelude.{string_bytes}
use Rattle.at_class.specs.View.{part_view}
use Rattle.at_class.specs.TreeView.{cell_view}
use Rattle.at_class.specs.Fixing.{with_cell}
use Rattle.at_class.proofs.FixedParts.{set_changed, past_all_changed}
use Rattle.at_class.proofs.fixing.fix_part.Goals as goal

pub returns-in-Some : goal.returns-in-Some
returns-in-Some c =
    let k = c.args.class.now in
    ap (λ ps. record { name = string_bytes k.name; is_abstract = k.is_abstract; parent = k.parent; own = ps })
    (set_changed part_view (with_cell (cell_view c.args.cell)) k.own.items c.args.part c.in-Some.part.now _ (subst (λ n. c.args.part < n) k.own.ok.0 (c.in-Some.ensures.variant.0 refl)) (sym c.in-Some.ensures.value) refl)

pub returns-in_default : goal.returns-in_default
returns-in_default c =
    let k = c.args.class.now in
    ap (λ ps. record { name = string_bytes k.name; is_abstract = k.is_abstract; parent = k.parent; own = ps })
    (sym (past_all_changed part_view (with_cell (cell_view c.args.cell)) k.own.items c.args.part (λ less. c.in_default.ensures.variant.1 (subst (λ n. c.args.part < n) (sym k.own.ok.0) less))))
