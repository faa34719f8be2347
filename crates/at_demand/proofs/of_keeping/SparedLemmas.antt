-- Over an edit that is done, where an entry goes only for what it touches, just what rests on nothing that it touches is kept, and that is spare.
use Rattle.std.proofs.Common.{◌≡◌, true, Ok}
use Rattle.at_model.specs.Trees.{Tree, conforms}
use Rattle.at_model.specs.Rules.{Rules}
use Rattle.at_model.specs.Edits.{Edit, edited}
use Rattle.at_store.specs.Shown.{Shown, IsIdle, contents, numbers, tree}
use Rattle.at_store.specs.Preparing.{IsCommitted}
use Rattle.at_store.proofs.Found.{path_injective}
use Rattle.at_cache.specs.Kept.{Entries, LeavesUntouched, LosesTouched}
use Rattle.at_evaluate.specs.Right.{AreRight}
use Rattle.at_demand.specs.Touched.{Touches}
use Rattle.at_evaluate.specs.Sparing.{AreSpare}
use Rattle.at_demand.specs.Spared.{LeavesJust}
use Rattle.at_demand.proofs.of_keeping.StayingRight.{over}
use Rattle.at_demand.proofs.of_keeping.StayingSpare.{leaves_just, spare_after}

module _ (rules : Rules) (old new : Shown) (e : Edit) (t : Tree) (idle : IsIdle old) (ok : conforms rules.classes (tree old) 0 ≡ true) (accepted : edited rules.classes (tree old) e ≡ Ok t) (done : IsCommitted old e new)
    (before later : Entries) (right : AreRight rules old before) (spare : AreSpare rules (contents old) before) (leaves : LeavesUntouched (Touches old e) before later) (loses : LosesTouched (Touches old e) before later) where
  pub kept_spare : LeavesJust rules old e before later × AreSpare rules (contents new) later
  kept_spare =
      let goes = over rules old new e t idle ok accepted done in (
        leaves_just rules goes (path_injective (numbers old)) before later right.valued right.there right.covers spare leaves loses,
        spare_after rules goes (path_injective (numbers old)) before later right.valued right.there right.covers spare leaves loses,
      )
