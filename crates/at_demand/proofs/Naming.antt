-- Instances of nodes by number, by the paths of these nodes.
use Rattle.std.proofs.Common.{◌≡◌, ℕ, suc, List, [], ◌∷◌, length, Option, inl, inr, refl, sym, ap, subst}
use Rattle.at_model.specs.Paths.{Node}
use Rattle.at_model.specs.Run.{Instance}
use Rattle.at_model.specs.Meaning.{Among, Distinct}
use Rattle.at_model.specs.Alike.{InstanceLike, Names}

module _ (path : ℕ → Option Node) where
  abbrev Like : Instance ℕ → Instance Node → Type 0
  Like = InstanceLike (Names path)

  -- these instances, by the paths of their nodes
  pub record AreNamed (is : List (Instance ℕ)) (js : List (Instance Node)) : Type 0 where
    pub size : length js ≡ length is
    pub of_one : (j : Instance Node) → Among j js → (i : Instance ℕ) × Among i is × Like i j
    pub each : (i : Instance ℕ) (j : Instance Node) → Among i is → Like i j → Among j js
    pub distinct : Distinct is → Distinct js

  module _ (one_name : (i : Instance ℕ) (j k : Instance Node) → Like i j → Like i k → j ≡ k) (one_named : (i j : Instance ℕ) (k : Instance Node) → Like i k → Like j k → i ≡ j) where
    name_one : (i : Instance ℕ) (j : Instance Node) (is : List (Instance ℕ)) (js : List (Instance Node)) → Like i j → AreNamed is js → AreNamed (i ∷ is) (j ∷ js)
    name_one i j is js s c = record {
      size = ap suc c.size;
      of_one = λ k h. elim h [ inl same ↦ (i, inl refl, subst (Like i) (sym same) s) | inr more ↦ (let (m, a, u) = c.of_one k more in (m, inr a, u)) ];
      each = λ m k h u. elim h [ inl same ↦ inl (one_name m k j u (subst (λ x. Like x j) (sym same) s)) | inr more ↦ inr (c.each m k more u) ];
      distinct = λ d. (λ h. (let (m, a, u) = c.of_one j h in d.0 (subst (λ x. Among x is) (one_named m i j u s) a)), c.distinct d.1);
    }

    pub name_all : (is : List (Instance ℕ)) → ((i : Instance ℕ) → Among i is → (j : Instance Node) × Like i j) → (js : List (Instance Node)) × AreNamed is js
    name_all [] named = ([], record { size = refl; of_one = λ j h. absurd h; each = λ i j h s. absurd h; distinct = λ d. d })
    name_all (i ∷ is) named =
        let (j, s) = named i (inl refl) in
        let (js, c) = name_all is (λ m h. named m (inr h)) in
        (j ∷ js, name_one i j is js s c)
