use Rattle.std.proofs.Common.{refl, ◌∙◌, sym}
use Rattle.at_body.proofs.SamenessLemmas.{instance_fed, place_fed}
use Rattle.at_body.proofs.inst.InstHash.hash.Goals as goal

pub returns-then-not-is_empty : goal.returns-then-not-is_empty
returns-then-not-is_empty g c =
    instance_fed g.H.Hasher.write _ c.hash.new.state _ c.args.self.now c.as_slice-passed.result.now (rw (← c.self.view_is, c.as_slice-passed.ensures) refl)
    (sym c.is_empty.ensures ∙ c.if-not-is_empty.true) (rw c.place.ensures at c.hash.ensures) c.feed.ensures

pub returns-else-not-is_empty : goal.returns-else-not-is_empty
returns-else-not-is_empty g c =
    place_fed g.H.Hasher.write _ c.hash.new.state c.args.self.now c.as_slice-passed.result.now (rw (← c.self.view_is, c.as_slice-passed.ensures) refl)
    (sym c.is_empty.ensures ∙ c.if-not-is_empty.false) (rw c.place.ensures at c.hash.ensures)
