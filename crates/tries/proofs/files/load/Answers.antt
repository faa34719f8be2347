use Rattle.std.proofs.Common.{◌≡◌, ◌∙◌, true, sym, ap, subst}
use Rattle.at_model.specs.Enduring.{AreTokens}
use Rattle.at_model.specs.Trees.{Tree, conforms}
use Rattle.at_store.specs.Shown.{tree}
use Rattle.tries.proofs.files.load.Goals as goal

pub returns-in-Ok : goal.returns-in-Ok
returns-in-Ok c =
    let same = sym c.in-Ok.ensures.loaded in
    let conform = subst (λ (u : Tree). conforms c.classes-2.result.now u 0 ≡ true) same c.in-Ok.ensures.fits in
    record {
      idle = c.in-Ok.ensures.idle;
      formed = c.in_ok-rules.ensures;
      sound = record {
        conform = ap (λ k. conforms k (tree c.in-Ok.store) 0) (sym c.classes-2.ensures) ∙ conform;
        within = c.in-Ok.ensures.idle.limits;
        tokens = subst AreTokens same c.in_ok-tree.ensures;
      };
    }
