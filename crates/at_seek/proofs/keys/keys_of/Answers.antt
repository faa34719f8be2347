use Rattle.std.proofs.Common.{◌+◌, ap, length, subst, sym, ◌∙◌}
use Rattle.std.specs.Prelude.{IfSome}
use Rattle.at_class.specs.Keys.{key_view}
use Rattle.at_seek.specs.Finding.{AreKeys, IsKeyOf}
use Rattle.at_seek.proofs.Tests.{keys_more, length_more}
use Rattle.at_seek.proofs.keys.keys_of.Goals as goal

pub loop-position-preserved : goal.loop-position-preserved
loop-position-preserved c =
    let rules = c.args.rules.now in
    let (count, before) = c.loop-position.invariant in (
      ap length c.in-Ok.ensures.items ∙ length_more c.loop-position.keys.items c.key_of-key.result ∙ ap (λ n. n + 1) count,
      subst (AreKeys rules) (sym c.in-Ok.ensures.items)
          (keys_more rules c.loop-position.keys.items c.key_of-key.result c.loop-position.position count before
          (subst (λ n. IfSome c.key_of-key.result (λ key. IsKeyOf rules (key_view key) n)) c.new.ensures c.key_of-key.ensures)),
    )
