-- What a question adds to what is kept, by paths.
use Rattle.std.proofs.Common.{◌≡◌, ◌⊎◌, ◌↔◌, ℕ, nat_eq, List, length, Option, inl, inr, refl, sym, ap, ◌∙◌, subst}
use Rattle.at_model.specs.Trees.{Tree}
use Rattle.at_model.specs.Paths.{Node, node_eq}
use Rattle.at_model.specs.Run.{Instance, Location, Contents}
use Rattle.at_model.specs.Rules.{Rules, is_lazy}
use Rattle.at_model.specs.Meaning.{Among, Distinct, Finds, content}
use Rattle.at_model.specs.Alike.{InstanceLike, Names, IsInjective, AlikeAt}
use Rattle.at_model.specs.of_fixpoints.Evaluations.{forms}
use Rattle.at_model.specs.of_fixpoints.Fixpoints.{Holds}
use Rattle.at_model.specs.of_fixpoints.Formulas.{Forms}
use Rattle.at_model.specs.of_fixpoints.Likeness.{FormsLike}
use Rattle.at_model.specs.of_fixpoints.Circles.{Circular}
use Rattle.at_model.specs.of_fixpoints.Met.{IsMet}
use Rattle.at_model.specs.Sparing.{IsWorthKeeping, AreAdded}
use Rattle.at_evaluate.specs.Valued.{meaning}
use Rattle.at_demand.specs.Worth.{IsWorthKeeping as IsWorth}
use Rattle.at_demand.proofs.of_keeping.CalledMet.{circle_back, met_back, met_there}
use Rattle.at_model.proofs.of_likeness.CarryingCircles.{instance-agrees, names_agree}
use Rattle.at_model.proofs.of_formulas.CarriedByFormulas.{outcome_back, outcome_there, leads_back, leads_there}
use Rattle.at_model.proofs.of_formulas.CarriedSearches.{circle_there}
use Rattle.at_model.proofs.of_formulas.EndsAlike.{found_back, found_like}
use Rattle.at_model.proofs.of_formulas.FormulasAlike.{evaluation-like}
use Rattle.at_model.proofs.Nodes.{same_like, nat_eq-is, node_eq-is}
use Rattle.at_demand.proofs.Naming.{AreNamed, name_all}

-- what instances by numbers are called
abbrev pub Called : (ℕ → Option Node) → (Instance ℕ → Type 0) → Instance Node → Type 0
Called path Kept j = (i : Instance ℕ) × Kept i × InstanceLike (Names path) i j

module _ (rules : Rules) (look : Contents ℕ) (t : Tree) (path : ℕ → Option Node) (named_once : IsInjective path) (alike : (l : Location ℕ) → AlikeAt (Names path) look (content t) l) where
  abbrev means : Forms ℕ
  means = meaning rules

  abbrev Like : Instance ℕ → Instance Node → Type 0
  Like = InstanceLike (Names path)

  like : FormsLike (Names path) means (forms rules)
  like = evaluation-like rules nat_eq node_eq (same_like nat_eq node_eq nat_eq-is node_eq-is path named_once)

  pub one_path : (i : Instance ℕ) (j k : Instance Node) → Like i j → Like i k → j ≡ k
  one_path i j k s u = (instance-agrees (names_agree path named_once) i i j k s u).0 refl

  pub one_number : (i j : Instance ℕ) (k : Instance Node) → Like i k → Like j k → i ≡ j
  one_number i j k s u = (instance-agrees (names_agree path named_once) i j k k s u).1 refl

  -- one question, by number and by path
  module _ (q : Instance ℕ) (p : Instance Node) (asked : Like q p) where
    -- what was met by a question that a circle answers was met by paths
    before_on : (i : Instance ℕ) (j : Instance Node) → Like i j → ((c : Instance ℕ) → Circular look means q c → IsMet look means q i) →
        (c : Instance Node) → Circular (content t) (forms rules) p c → IsMet (content t) (forms rules) p j
    before_on i j s before c circle =
        let (d, r, by_number) = circle_back (names_agree path named_once) look (content t) means (forms rules) like q p c
        (asked, λ l h. alike l) circle in
        let (k, (u, below), met) = met_there (names_agree path named_once) look (content t) means (forms rules) like q i p
        (asked, λ l h. alike l) (before d by_number) in
        subst (λ z. IsMet (content t) (forms rules) p z) (one_path i k j u s) met

    before_back : (i : Instance ℕ) (j : Instance Node) → Like i j →
        ((c : Instance Node) → Circular (content t) (forms rules) p c → IsMet (content t) (forms rules) p j) →
        (c : Instance ℕ) → Circular look means q c → IsMet look means q i
    before_back i j s before c circle =
        let (d, r, by_path) = circle_there (names_agree path named_once) look (content t) means (forms rules) like q c p
        asked (λ l h. alike l) circle in
        let (k, (u, below), met) = met_back (names_agree path named_once) look (content t) means (forms rules) like q p j
        (asked, λ l h. alike l) (before d by_path) in
        subst (λ z. IsMet look means q z) (one_number k i j u s) met

    pub worth_on : (i : Instance ℕ) → IsWorth rules look q i → (j : Instance Node) × Like i j × IsWorthKeeping rules t p j
    worth_on i w =
        let (j, (s, more), leads) = leads_there (names_agree path named_once) look (content t) means (forms rules) like q i p
        (asked, λ l h. alike l) w.worthy.reached in
        let (o, g, same) = outcome_there (names_agree path named_once) look (content t) means (forms rules) like i j
        (Finds w.worthy.value) (s, λ l h. alike l) w.worthy.has in
        let (v, is, u) = found_like w.worthy.value same refl in (
          j,
          s,
          record {
            reached = leads;
            lazy = ap (is_lazy rules) (sym s.attribute) ∙ w.worthy.lazy;
            value = v;
            has = subst (Holds (content t) (forms rules) j) is g;
            before = before_on i j s w.before;
          },
        )

    pub worth_back : (j : Instance Node) → IsWorthKeeping rules t p j → (i : Instance ℕ) × Like i j × IsWorth rules look q i
    worth_back j w =
        let (i, (s, more), leads) = leads_back (names_agree path named_once) look (content t) means (forms rules) like q p j
        (asked, λ l h. alike l) w.reached in
        let (o, g, same) = outcome_back (names_agree path named_once) look (content t) means (forms rules) like i j
        (Finds w.value) (s, λ l h. alike l) w.has in
        let (v, is, u) = found_back w.value same refl in (
          i,
          s,
          record {
            worthy = record {
              reached = leads;
              lazy = ap (is_lazy rules) s.attribute ∙ w.lazy;
              value = v;
              has = subst (Holds look means i) is g;
            };
            before = before_back i j s w.before;
          },
        )

    module _ (Old New : Instance ℕ → Type 0) where
      -- where just what is worth it comes, so it does by paths
      pub called_after : ((i : Instance ℕ) → New i ↔ (Old i ⊎ IsWorth rules look q i)) → (j : Instance Node) → Called path New j ↔ (Called path Old j ⊎ IsWorthKeeping rules t p j)
      called_after just j = (on, back)
        where
          on : Called path New j → Called path Old j ⊎ IsWorthKeeping rules t p j
          on (i, new, s) = elim ((just i).0 new) [
            | inl old ↦ inl (i, old, s)
            | inr w ↦ (let (k, u, worth) = worth_on i w in inr (subst (IsWorthKeeping rules t p) (one_path i k j u s) worth))
          ]

          back : Called path Old j ⊎ IsWorthKeeping rules t p j → Called path New j
          back (inl (i, old, s)) = (i, (just i).1 (inl old), s)
          back (inr worth) = let (i, s, w) = worth_back j worth in (i, (just i).1 (inr w), s)

    -- as many are added by paths
    pub called_added : (Old : Instance ℕ → Type 0) → ((i : Instance ℕ) → Old i ⊎ (¬ (Old i))) → (added : List (Instance ℕ)) → Distinct added → ((i : Instance ℕ) → Among i added ↔ (IsWorth rules look q i × (¬ (Old i)))) →
        (js : List (Instance Node)) × AreAdded rules t p (Called path Old) js × (length js ≡ length added)
    called_added Old decides added distinct exactly =
        let called : (i : Instance ℕ) → Among i added → (j : Instance Node) × Like i j = λ i h. (let (w, new) = (exactly i).0 h in let (j, s, worth) = worth_on i w in (j, s)) in
        let (js, c) = name_all path one_path one_number added called in (
          js,
          record { distinct = c.distinct distinct; exactly = λ j. (on js c j, back js c j) },
          c.size,
        )
      where
        on : (js : List (Instance Node)) → AreNamed path added js → (j : Instance Node) → Among j js → IsWorthKeeping rules t p j × (¬ (Called path Old j))
        on js c j h =
            let (i, a, s) = c.of_one j h in
            let (w, new) = (exactly i).0 a in
            let (k, u, worth) = worth_on i w in
            (subst (IsWorthKeeping rules t p) (one_path i k j u s) worth, λ (m, old, v). new (subst Old (one_number m i j v s) old))

        back : (js : List (Instance Node)) → AreNamed path added js → (j : Instance Node) → IsWorthKeeping rules t p j × (¬ (Called path Old j)) → Among j js
        back js c j (worth, new) =
            let (i, s, w) = worth_back j worth in
            elim (decides i) [ inl old ↦ absurd (new (i, old, s)) | inr none ↦ c.each i j ((exactly i).1 (w, none)) s ]
