use Rattle.at_index.proofs.Common.{◌+◌, ◌*◌, arith, refl, Slot}
use Rattle.at_index.proofs.Locations.{shifted_alone, stands_alone}
use Rattle.at_index.proofs.facet.component.Goals as goal

pub returns-then-part-lt-NEAR : goal.returns-then-part-lt-NEAR
returns-then-part-lt-NEAR c n l =
    let small = c.if-part-lt-NEAR.true in
    stands_alone _ (2 * c.args.part + 3) (Slot n c.args.part) l (λ j. shifted_alone (2 * c.args.part + 3) j (omega (arith, small))) refl
