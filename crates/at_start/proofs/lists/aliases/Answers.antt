use Rattle.std.proofs.Common.{◌<◌, ◌∙◌, ◌++◌, ap, arith, filter_map, length}
use Rattle.at_model.specs.Classes.{parts}
use Rattle.at_start.specs.Lists.{alias_of, aliases}
use Rattle.at_start.proofs.Listing.{one_class}
use Rattle.at_start.proofs.lists.aliases.Goals as goal

pub loop-class-preserved : goal.loop-class-preserved
loop-class-preserved c =
    let classes = c.args.classes.now in
    let less : c.loop-class.class < length classes = omega (arith, c.loop-class-test.true, c.len-class-end.ensures.len) in
    one_class classes c.loop-class.class c.loop-class.all.items c.append_aliases.new.all.items (aliases classes) less
    (c.in_ok-append_aliases.ensures ∙ ap (λ ps. c.loop-class.all.items ++ filter_map (alias_of classes) ps) (c.parts.ensures ∙ ap (parts classes) c.new.ensures))
    c.loop-class.invariant
