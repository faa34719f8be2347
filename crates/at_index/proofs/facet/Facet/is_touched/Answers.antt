use Rattle.at_index.proofs.Common.{refl}
use Rattle.at_index.proofs.Beginning.{told_of_one}
use Rattle.at_index.proofs.facet.Facet.is_touched.Goals as goal

pub returns-in-Tok : goal.returns-in-Tok
returns-in-Tok g c =
    told_of_one (goal.F-post g c.args.touched.now) c.args.node c.args.self _ c.touched.result (λ l. rw c.in-Tok.is refl) c.touched.ensures

pub returns-in-Slot : goal.returns-in-Slot
returns-in-Slot g c =
    told_of_one (goal.F-post g c.args.touched.now) c.args.node c.args.self _ c.touched-in-Slot.result (λ l. rw c.in-Slot.is refl)
    c.touched-in-Slot.ensures

pub returns-in-Idx : goal.returns-in-Idx
returns-in-Idx g c =
    told_of_one (goal.F-post g c.args.touched.now) c.args.node c.args.self _ c.touched-in-Idx.result (λ l. rw c.in-Idx.is refl)
    c.touched-in-Idx.ensures
