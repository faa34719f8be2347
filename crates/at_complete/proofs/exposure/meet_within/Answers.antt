use Rattle.std.proofs.Common.{arith, ap, ◌≡◌, subst, length}
use Rattle.std.proofs.lemmas.List.{length-map}
use Rattle.at_class.specs.View.{part_view}
use Rattle.at_model.specs.Classes.{parts}
use Rattle.at_model.specs.Rules.{attribute_name}
use Rattle.at_complete.specs.Completing.{is_passed}
use Rattle.at_complete.specs.Walks.{MeetsFrom}
use Rattle.at_complete.proofs.Exposing.{passes_more}
use Rattle.at_complete.proofs.Walking.{meets_none}
use Rattle.at_complete.proofs.exposure.meet_within.Goals as goal

pub loop-part-init : goal.loop-part-init
loop-part-init c = meets_none c.args.walk.now.met.items c.args.walk.now.pending.items

pub loop-part-preserved : goal.loop-part-preserved
loop-part-preserved c =
    passes_more c.args.rules.now (attribute_name c.args.rules.now c.args.attribute) c.args.class c.loop-part.part
    c.passed.result _ _ _ _ _ _ c.passed.ensures c.loop-part.invariant c.in_ok-meet_some.ensures

pub returns : goal.returns
returns c =
    let name = attribute_name c.args.rules.now c.args.attribute in
    let all : c.loop-part.part ≡ length (parts c.args.rules.now.classes c.args.class) =
    omega (
      arith,
      length-map c.parts-count.result.now part_view,
      ap length c.parts-count.ensures,
      ap (λ k. length (parts k c.args.class)) c.classes.ensures,
      c.loop-part-test.false,
      c.loop-part.auto,
    ) in
    subst (λ n. MeetsFrom (is_passed c.args.rules.now name n c.args.class) c.args.walk.now c.loop-part.walk) all c.loop-part.invariant
