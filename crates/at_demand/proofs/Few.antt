-- A question that is given turns has few of them: as many instances, by their paths, stand in the list of all.
use Rattle.std.proofs.Common.{◌≡◌, ℕ, suc, ◌+◌, ◌*◌, ◌≤◌, nat_eq, List, [], ◌∷◌, ◌++◌, length, inl, inr, refl, sym, ap, subst, arith}
use Rattle.at_model.specs.Asking.{IsWellFormed}
use Rattle.at_model.specs.Alike.{InstanceLike, ListLike, end, more, Names}
use Rattle.at_model.specs.Instances.{instances}
use Rattle.at_model.specs.Meaning.{Among, Distinct, Leads, content, equations}
use Rattle.at_model.specs.Paths.{Node, node_eq}
use Rattle.at_model.specs.Rules.{Rules}
use Rattle.at_model.specs.Run.{Instance}
use Rattle.at_model.specs.WellFormed.{AreWellFormed, IsTreeSound}
use Rattle.at_model.proofs.of_likeness.CarryingCircles.{Agrees, instance-agrees, names_agree}
use Rattle.at_model.proofs.of_likeness.CarryingSupport.{leads_there}
use Rattle.at_model.proofs.of_likeness.EquationsAlike.{evaluation-like}
use Rattle.at_model.proofs.Nodes.{same_like, nat_eq-is, node_eq-is}
use Rattle.at_model.proofs.of_typing.TypedTogether.{listed}
use Rattle.at_model.specs.Turning.{UnderWay, chain, keys, posted, Silent, IsOn}
use Rattle.at_model.proofs.of_machines.Bounded.{all_apart, all_led, all_many, begun, turns_are}
use Rattle.at_model.proofs.Members.{no_more}
use Rattle.at_store.specs.Shown.{Shown, IsIdle, contents, numbers, path, tree}
use Rattle.at_store.specs.Memory.{class_in}
use Rattle.at_store.specs.View.{memory_of}
use Rattle.at_store.proofs.Found.{path_injective}
use Rattle.at_store.proofs.Relabelled.{contents_alike}
use Rattle.at_evaluate.specs.Valued.{equations as meaning}

like_back : {A B : Type 0} {R : A → B → Type 0} → Agrees R → {as' : List A} {bs : List B} → ListLike R as' bs → (a : A) (b : B) → R a b → Among b bs → Among a as'
like_back f end a b r h = absurd h
like_back f (more {a = c} {b = d} s ss) a b r (inl e) = inl ((f a c b d r s).1 e)
like_back f (more s ss) a b r (inr h) = inr (like_back f ss a b r h)

like_distinct : {A B : Type 0} {R : A → B → Type 0} → Agrees R → {as' : List A} {bs : List B} → ListLike R as' bs → Distinct as' → Distinct bs
like_distinct f end d = tt
like_distinct f (more {a = a} {b = b} r rs) d = (λ h. d.0 (like_back f rs a b r h), like_distinct f rs d.1)

like_length : {A B : Type 0} {R : A → B → Type 0} {as' : List A} {bs : List B} → ListLike R as' bs → length as' ≡ length bs
like_length end = refl
like_length (more r rs) = ap suc (like_length rs)

module _ (rules : Rules) (s : Shown) (idle : IsIdle s) (q : Instance ℕ) (p : Instance Node) (like : InstanceLike (Names (path s)) q p) where
  -- the instances that it leads to, by their paths
  paths : (is : List (Instance ℕ)) → ((i : Instance ℕ) → Among i is → Leads (contents s) (meaning rules) q i) →
      (js : List (Instance Node)) × ListLike (InstanceLike (Names (path s))) is js × ((j : Instance Node) → Among j js → Leads (content (tree s)) (equations rules) p j)
  paths [] all = ([], end, λ j n. absurd n)
  paths (i ∷ is) all =
      let alike = evaluation-like rules nat_eq node_eq (same_like nat_eq node_eq nat_eq-is node_eq-is (path s) (path_injective (numbers s))) in
      let (m, there, leads) = leads_there (contents s) (content (tree s)) (meaning rules) (equations rules) alike q p i like (λ l h. contents_alike (class_in (memory_of s.slab)) (numbers s) idle.keeps.apart l) (all i (inl refl)) in
      let (js, likes, others) = paths is (λ k h. all k (inr h)) in
      (m ∷ js, more there likes, λ j h. elim h [ inl e ↦ subst (λ x. Leads (content (tree s)) (equations rules) p x) (sym e) leads | inr n ↦ others j n ])

  module _ (ok : AreWellFormed rules) (sound : IsTreeSound rules.classes (tree s)) (formed : IsWellFormed rules (tree s) p) where
    pub few_on : (u : UnderWay ℕ) → IsOn (contents s) (meaning rules) q u → length u.waiting + 1 + length u.found ≤ length (instances rules (tree s) p.arguments)
    few_on u on =
        let all = chain u ++ keys u.found in
        let (js, likes, leads) = paths all (λ i h. all_led (contents s) (meaning rules) q u on i h) in
        let apart = like_distinct (instance-agrees (names_agree (path s) (path_injective (numbers s)))) likes (all_apart (contents s) (meaning rules) q u on) in
        let fewer = no_more js (instances rules (tree s) p.arguments) apart (λ j h. listed rules ok (tree s) sound p formed j (leads j h)) in
        let same = like_length likes in
        let many = all_many (contents s) (meaning rules) u in
        omega (arith, fewer, same, many)

    pub few_turns : (n : ℕ) (u : UnderWay ℕ) → Silent (contents s) (meaning rules) n (posted q) u → n + 2 ≤ 2 * length (instances rules (tree s) p.arguments)
    few_turns n u silent =
        let (on, count) = turns_are (contents s) (meaning rules) n q (posted q) u silent (begun (contents s) (meaning rules) q) in
        let fewer = few_on u on in
        omega (arith, fewer, count)
