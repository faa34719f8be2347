use Rattle.std.proofs.Common.{◌≡◌, false, nat_eq, sym, subst}
use Rattle.at_store.specs.Marked.{change_in, told}
use Rattle.at_store.specs.Shifting.{touched_by}
use Rattle.at_store.specs.View.{memory_of}
use Rattle.at_store.specs.declared.edit.Prepared.{Prepared}
use Rattle.at_store.proofs.of_edits.Spared.{drop_spared, insert_spared, move_spared, put_spared, set_spared, token_spared_by}
use Rattle.at_store.proofs.places.places_of.Goals as goal

pub returns-in-Set : goal.returns-in-Set
returns-in-Set c leaves listed brings l child h =
    let memory = memory_of c.args.slab.now in
    subst (λ (q : Prepared). touched_by nat_eq (told memory) leaves brings (change_in q) l ≡ false) (sym c.in-Set.is)
    (set_spared memory leaves c.args.leaving.now listed brings l c.in-Set.node c.parent.result c.parent.ensures h)

pub returns-in-Put : goal.returns-in-Put
returns-in-Put c leaves listed brings l child h =
    let memory = memory_of c.args.slab.now in
    subst (λ (q : Prepared). touched_by nat_eq (told memory) leaves brings (change_in q) l ≡ false) (sym c.in-Put.is)
    (put_spared memory leaves c.args.leaving.now listed brings l c.in-Put.node c.in-Put.part c.alone.result
    c.alone.ensures h)

pub returns-in-Drop : goal.returns-in-Drop
returns-in-Drop c leaves listed brings l child h =
    let memory = memory_of c.args.slab.now in
    subst (λ (q : Prepared). touched_by nat_eq (told memory) leaves brings (change_in q) l ≡ false) (sym c.in-Drop.is)
    (drop_spared memory leaves c.args.leaving.now listed brings l c.in-Drop.node c.around.result c.around.ensures child h)

pub returns-in-Insert : goal.returns-in-Insert
returns-in-Insert c leaves listed brings l child h =
    let memory = memory_of c.args.slab.now in
    subst (λ (q : Prepared). touched_by nat_eq (told memory) leaves brings (change_in q) l ≡ false) (sym c.in-Insert.is)
    (insert_spared memory leaves c.args.leaving.now listed brings l c.in-Insert.node c.in-Insert.part c.component.result c.component.ensures child h)

pub returns-in-Token : goal.returns-in-Token
returns-in-Token c leaves listed brings l child h =
    let memory = memory_of c.args.slab.now in
    subst (λ (q : Prepared). touched_by nat_eq (told memory) leaves brings (change_in q) l ≡ false) (sym c.in-Token.is)
    (token_spared_by memory leaves c.args.leaving.now listed brings l c.in-Token.node c.in-Token.part
    c.alone-in-Token.result c.above.result c.alone-in-Token.ensures c.above.ensures h)

pub returns-in-Move : goal.returns-in-Move
returns-in-Move c leaves listed brings l child h =
    let memory = memory_of c.args.slab.now in
    subst (λ (q : Prepared). touched_by nat_eq (told memory) leaves brings (change_in q) l ≡ false) (sym c.in-Move.is)
    (move_spared memory leaves c.args.leaving.now listed brings l c.in-Move.node c.in-Move.to c.in-Move.part
    c.component-in-Move.result c.around-in-Move.result c.component-in-Move.ensures c.around-in-Move.ensures child h)
