use Rattle.std.proofs.Common.{◌∷◌, [], List, ℕ, OnOk, refl, subst}
use Rattle.at_engine.specs.Marks.{Copies, listed}
use Rattle.at_engine.proofs.of_marks.Copying.{copied_nothing}
use Rattle.at_engine.proofs.marks.Marks.copy_in.Goals as goal

pub returns-in-FromRoot : goal.returns-in-FromRoot
returns-in-FromRoot c = rw c.in-FromRoot.is (copied_nothing c.args.session (listed c.args.self.now.items.entries) c.args.copies.now.items.items c.args.copies.now.items.items refl)

pub returns-in-FromMark : goal.returns-in-FromMark
returns-in-FromMark c =
    rw c.in-FromMark.is (subst (λ (text : List ℕ). OnOk c.copy.result (Copies c.args.session (text ∷ []) (listed c.args.self.now.items.entries) c.args.copies.now.items.items c.copy.new.copies.items.items)) c.as_str.ensures.value c.copy.ensures)
