use Rattle.std.proofs.Common.{◌≡◌, ◌∙◌, true, List, map, ap, arith, refl, sym, subst}
use Rattle.std.specs.List.{AllByRecursion}
use Rattle.at_model.specs.Classes.{Classes, AreSound}
use Rattle.at_model.specs.Enduring.{AreNumbered, AreTokens}
use Rattle.at_model.specs.Trees.{Tree, conforms}
use Rattle.at_tree.specs.TreeView.{tree_view}
use Rattle.at_store.specs.Shown.{contents, path}
use Rattle.at_engine.specs.Holding.{IsPostedOn}
use Rattle.at_engine.specs.Keeping.{IsSparingOn}
use Rattle.at_engine.specs.Marks.{AreThere, marks_view}
use Rattle.at_engine.specs.Posted.{posted_view}
use Rattle.at_engine.specs.declared.posts.Posted.{Posted}
use Rattle.at_engine.proofs.of_keeping.KeepingLemmas.{spare_of_nothing}
use Rattle.at_engine.proofs.of_marks.LastPlace.{nothing_known}
use Rattle.at_engine.proofs.Storing.{held, remembered_of_nothing, right_of_nothing, typed_of_nothing}
use Rattle.at_engine.proofs.engine.Engine.new.Goals as goal

pub returns-clause-first : goal.returns-clause-first
returns-clause-first g c = λ i.
    held (c.in_ok-store.ensures.loaded i) (c.in_ok-store.ensures.limit i) 0 (marks_view (path c.in_ok-store.store) (c.new-3.ensures i)) (c.new-4.ensures.count i) (map (posted_view (path c.in_ok-store.store)) (c.new-4.ensures.items i))

pub returns-clause-sound : goal.returns-clause-sound
returns-clause-sound g c formed circular tokens nothing = record {
  held = record {
    idle = c.in_ok-store.ensures.idle;
    sound = subst (λ (x : Classes). AreSound x) c.classes.ensures c.in_ok-store.ensures.sound;
    conforming = subst (λ (t : Tree). conforms c.args.rules.classes t 0 ≡ true) (sym c.in_ok-store.ensures.loaded) (subst (λ (x : Classes). conforms x (tree_view c.args.tree) 0 ≡ true) c.classes.ensures c.in_ok-store.ensures.fits);
    marked = subst (AreThere (path c.in_ok-store.store)) (sym c.new-3.ensures) tt;
    right = right_of_nothing c.args.rules c.in_ok-store.store _ (λ i. ap (λ k. g.K.Keeper.contents k i) c.new-2.ensures.keeper ∙ nothing.0 i);
    typed = typed_of_nothing c.args.rules c.in_ok-store.store _ (λ i. ap (λ k. g.K.Keeper.contents k i) c.new-2.ensures.keeper ∙ nothing.0 i);
    remembered = remembered_of_nothing c.args.rules c.in_ok-store.store _
        (λ i. ap (λ k. (g.K.Keeper.memories k).traced i) c.new-2.ensures.keeper ∙ nothing.1 i);
    posted = subst (AllByRecursion (IsPostedOn c.args.rules c.in_ok-store.store _)) (sym c.new-4.ensures.items) tt;
    numbered = subst (λ (l : List Posted). AreNumbered 0 (map (posted_view (path c.in_ok-store.store)) l) c.new-4.result.count) (sym c.new-4.ensures.items) (omega arith);
  };
  typed = record {
    formed = formed;
    circular = circular;
    tokens = subst AreTokens (sym c.in_ok-store.ensures.loaded) tokens;
  };
  known = nothing_known c.args.rules.classes c.in_ok-store.store (record { front = c.new.result; session = 0; node = c.root.result }) c.new.ensures.items;
}

pub returns-clause-spare : goal.returns-clause-spare
returns-clause-spare g c nothing = record {
  unbounded = refl;
  spare = record {
    kept = spare_of_nothing c.args.rules (contents c.in_ok-store.store) _
        (λ i. ap (λ k. g.K.Keeper.contents k i) c.new-2.ensures.keeper ∙ nothing.0 i);
    posted' = subst (AllByRecursion (λ (p : Posted). IsSparingOn c.args.rules (contents c.in_ok-store.store) _ p.question))
        (sym c.new-4.ensures.items) tt;
  };
}
