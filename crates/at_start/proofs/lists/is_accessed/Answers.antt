use Rattle.std.proofs.Common.{◌≡◌, ◌<◌, ◌∙◌, Option, arith, ap, false, is_some, length, subst, sym, true}
use Rattle.at_kinds.specs.Accessors.{accessor_named}
use Rattle.at_kinds.specs.declared.accessors.Accessor.{Accessor}
use Rattle.at_start.proofs.Listing.{found_here, not_here}
use Rattle.at_start.proofs.lists.is_accessed.Goals as goal

pub returns-then-is_some : goal.returns-then-is_some
returns-then-is_some c =
    let classes = c.args.classes.now in
    let name = c.args.name.now in
    let less : c.loop-class.class < length classes = omega (arith, c.loop-class-test.true, c.len-class-end.ensures.len) in
    let some = subst (λ (o : Option Accessor). is_some o ≡ true) (c.accessor_named.ensures ∙ ap (λ n. accessor_named classes n name) c.new.ensures)
    (sym c.is_some.ensures ∙ c.if-is_some.true) in
    sym (c.loop-class.invariant ∙ found_here (λ n. accessor_named classes n name) classes c.loop-class.class less some)

pub loop-class-preserved : goal.loop-class-preserved
loop-class-preserved c =
    let classes = c.args.classes.now in
    let name = c.args.name.now in
    let less : c.loop-class.class < length classes = omega (arith, c.loop-class-test.true, c.len-class-end.ensures.len) in
    let none = subst (λ (o : Option Accessor). is_some o ≡ false) (c.accessor_named.ensures ∙ ap (λ n. accessor_named classes n name) c.new.ensures)
    (sym c.is_some.ensures ∙ c.if-is_some.false) in
    c.loop-class.invariant ∙ ap is_some (not_here (λ n. accessor_named classes n name) classes c.loop-class.class less none)
