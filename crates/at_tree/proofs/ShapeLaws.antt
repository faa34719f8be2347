-- The tree that is found is the one tree that conforms and is written so.
use Rattle.std.proofs.Common.{◌≡◌, ◌<◌, ℕ, [], ap, sym, ◌∙◌, Some, None, subst}
use Rattle.std.specs.Prelude.{true, false, length}
use Rattle.std.proofs.lemmas.Option.{slice_get-get_or, same_Some, none-some}
use Rattle.at_model.specs.Classes.{Classes, Class as ClassRecord, AreSound, name_of}
use Rattle.at_model.specs.Names.{IsName}
use Rattle.at_model.specs.Terms.{Term, term_of}
use Rattle.at_model.specs.Trees.{Tree, conforms}
use Rattle.at_tree.specs.declared.tree.shaping.ShapeFault.{ShapeFault}
use Rattle.at_tree.specs.declared.tree.shaping.ShapeFault.TheVariants.{Class, Fit, Memory}
use Rattle.at_model.specs.Shaping.{shaped, names_classes}
use Rattle.at_model.proofs.of_texts.Shaped.{shaped_conforms, conforms_shaped}
use Rattle.at_tree.specs.Shape.{IsShaped, IsMisshaped, IsNoneAtFit}

pub found-is : (classes : Classes) (t : Term) (b : ℕ) (u : Tree) → shaped classes t b ≡ Some u → IsShaped classes t b u
found-is classes t b u h = let both = shaped_conforms classes t b u h in record { conforms = both.0; written = both.1 }

pub none-is : (classes : Classes) → AreSound classes → (t : Term) (b : ℕ) → shaped classes t b ≡ None → (u : Tree) → ¬ (IsShaped classes t b u)
none-is classes sound t b none u s = none-some u (sym none ∙ ap (λ w. shaped classes w b) (sym s.written) ∙ (conforms_shaped classes sound.distinct u b s.conforms).0)

-- what is written of two trees that conform under one class is the same only where the trees are
pub one_tree : (classes : Classes) → AreSound classes → (u v : Tree) (b : ℕ) → conforms classes u b ≡ true → conforms classes v b ≡ true → term_of classes u ≡ term_of classes v → u ≡ v
one_tree classes sound u v b hu hv e = same_Some u v (sym ((conforms_shaped classes sound.distinct u b hu).0) ∙ ap (λ w. shaped classes w b) e ∙ (conforms_shaped classes sound.distinct v b hv).0)

pub misshaped : (classes : Classes) → AreSound classes → (t : Term) (b : ℕ) (e : ShapeFault) → names_classes classes t ≡ true → IsNoneAtFit (shaped classes t b) e → IsMisshaped classes t b e
misshaped classes sound t b Class known h = absurd h
misshaped classes sound t b Fit known h = (known, none-is classes sound t b h)
misshaped classes sound t b Memory known h = tt

-- a class has a name
pub name_of-named : (classes : Classes) (c : ℕ) → AreSound classes → c < length classes → IsName (name_of classes c)
name_of-named classes c sound less =
    subst IsName (sym (ap (λ o. elim o [ None ↦ [] | Some k ↦ k.name ]) (slice_get-get_or classes c spare less))) (sound.each c spare less).name
  where
    spare : ClassRecord
    spare = record { name = []; is_abstract = false; parent = None; own = [] }
