use Rattle.std.proofs.Common.{ℕ, IfSome, IfNone, ◌≡◌, ◌∷◌, [], Bool, subst}
use Rattle.at_model.specs.Seeking.{those}
use Rattle.at_class.specs.Keys.{key_view}
use Rattle.at_store.specs.Shown.{numbers}
use Rattle.at_store.specs.View.{memory_of}
use Rattle.at_store.proofs.Looked.{drawn_is}
use Rattle.at_store.proofs.store.Store.next_under.Goals as goal

pub returns-clause-found : goal.returns-clause-found
returns-clause-found c =
    subst (λ (f : ℕ → Bool). IfSome c.next_under.result (λ found. those f c.args.children.now ≡ found.0 ∷ those f found.1.now))
    (drawn_is (memory_of c.args.self.now.slab) (numbers c.args.self.now) c.requires.keeps (key_view c.args.key) c.args.mark) c.next_under.ensures.found

pub returns-clause-none : goal.returns-clause-none
returns-clause-none c =
    subst (λ (f : ℕ → Bool). IfNone c.next_under.result (those f c.args.children.now ≡ []))
    (drawn_is (memory_of c.args.self.now.slab) (numbers c.args.self.now) c.requires.keeps (key_view c.args.key) c.args.mark) c.next_under.ensures.none
