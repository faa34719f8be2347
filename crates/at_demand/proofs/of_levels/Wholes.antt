-- What a well-typed instance leads to is well typed, and where it has a value it is whole: all of it stands in a list.
use Rattle.std.proofs.Common.{◌≡◌, ℕ, zero, suc, ◌+◌, ◌*◌, ◌≤◌, nat_eq, length, List, [], ◌∷◌, map, Option, Some, None, ◌++◌, refl, sym, ap, ◌∙◌, subst, arith}
use Rattle.at_model.specs.Asking.{IsWellFormed}
use Rattle.at_model.specs.Alike.{InstanceLike, ListLike, ValueLike, Names, both, end, int, more, neither, nodes, ref, text, truth}
use Rattle.at_model.specs.Instances.{AnyText, instances}
use Rattle.at_model.specs.Meaning.{Among, Answer, content}
use Rattle.at_model.specs.Paths.{Node, node_eq, tree_at}
use Rattle.at_model.specs.Rules.{Rules}
use Rattle.at_model.specs.Run.{Value, Int, Truth, Text, Ref, Nodes, Instance, Contents, Known}
use Rattle.at_model.specs.Trees.{Tree, class_of}
use Rattle.at_model.specs.TypedRuns.{IsWellTyped, class_at}
use Rattle.at_model.specs.WellFormed.{AreWellFormed, IsTreeSound}
use Rattle.at_model.specs.of_fixpoints.Circles.{Answers}
use Rattle.at_model.specs.of_fixpoints.Evaluations.{forms}
use Rattle.at_model.specs.of_fixpoints.Fixpoints.{EndsAt, EndsSo, HasValue, Made}
use Rattle.at_model.specs.of_fixpoints.FormKinds.{AreBoolean}
use Rattle.at_model.specs.of_fixpoints.Formulas.{Forms, atoms}
use Rattle.at_model.specs.of_fixpoints.Resting.{Leads}
use Rattle.at_model.specs.of_fixpoints.Searched.{EndsWell, IsFresh, IsMade, IsOn, IsWhole, tried_at}
use Rattle.at_model.specs.of_fixpoints.Searching.{Level, Search, Silent, Turned, most_turns, posted}
use Rattle.at_model.proofs.Listed.{among_map}
use Rattle.at_model.proofs.Nodes.{same_like, nat_eq-is, node_eq-is}
use Rattle.at_model.proofs.of_formulas.CarriedByFormulas.{leads_there}
use Rattle.at_model.proofs.of_formulas.Closure.{closure, leads_by}
use Rattle.at_model.proofs.of_formulas.Components.{FormedIn, form_of, pick}
use Rattle.at_model.proofs.of_formulas.FormulasAlike.{evaluation-like}
use Rattle.at_model.proofs.of_formulas.FormulasTogether.{listed}
use Rattle.at_model.proofs.of_formulas.TypedFormulas.{forms_typed, leads_typed}
use Rattle.at_model.proofs.of_likeness.CarryingCircles.{names_agree}
use Rattle.at_model.proofs.Members.{length_both, no_more}
use Rattle.at_model.proofs.of_searching.FewTurns.{few_turns, turned_fresh}
use Rattle.at_model.proofs.of_searching.Turned.{leads_by as leads_then, turned_answers, turned_on}
use Rattle.at_model.proofs.of_typing.TypedNumbers.{instance_back}
use Rattle.at_model.proofs.of_typing.TypedQuestions.{formed_of_typed}
use Rattle.at_model.proofs.of_typing.TypedTogether.{met_any}
use Rattle.at_store.specs.Memory.{class_in}
use Rattle.at_store.specs.Numbers.{path_in}
use Rattle.at_store.specs.Shown.{IsIdle, Shown, contents, numbers, path, tree}
use Rattle.at_store.specs.View.{memory_of}
use Rattle.at_store.proofs.Found.{number_found, path_injective}
use Rattle.at_store.proofs.Relabelled.{contents_alike}
use Rattle.at_body.specs.Typed.{class_shown}
use Rattle.at_body.proofs.of_typing.TypedInstances.{instance_on}
use Rattle.at_evaluate.specs.Valued.{meaning}
use Rattle.at_evaluate.specs.Meant.{AreRightValues}
use Rattle.at_demand.proofs.Marking.{told_among}
use Rattle.at_demand.proofs.of_searches.Stepping.{whole_valued}

-- the number of the node at a path, where one is there
abbrev number_of : Option Tree → ℕ
number_of None = 0
number_of (Some u) = class_of u

abbrev number_at : Tree → Node → ℕ
number_at t n = number_of (tree_at t n)

abbrev numbered_value : Tree → Value Node → Value ℕ
numbered_value t (Int n) = Int n
numbered_value t (Truth b) = Truth b
numbered_value t (Text bytes) = Text bytes
numbered_value t (Ref None) = Ref None
numbered_value t (Ref (Some n)) = Ref (Some (number_at t n))
numbered_value t (Nodes ns) = Nodes (map (number_at t) ns)

abbrev numbered_values : Tree → List (Value Node) → List (Value ℕ)
numbered_values t [] = []
numbered_values t (v ∷ vs) = numbered_value t v ∷ numbered_values t vs

abbrev numbered : Tree → Instance Node → Instance ℕ
numbered t j = record { node = number_at t j.node; attribute = j.attribute; arguments = numbered_values t j.arguments }

number_is : (t : Tree) (k : ℕ) (n : Node) → path_in k t ≡ Some n → number_at t n ≡ k
number_is t k n e = let (u, there, is) = number_found t k n e in ap (λ o. number_of o) there ∙ is

nodes_are : (t : Tree) {ks : List ℕ} {ns : List Node} → ListLike (Names (λ k. path_in k t)) ks ns →
    map (number_at t) ns ≡ ks
nodes_are t end = refl
nodes_are t (more {a = k} {b = n} {as' = ks} {bs = ns} e es) =
    ap (λ x. x ∷ map (number_at t) ns) (number_is t k n e) ∙ ap (λ xs. k ∷ xs) (nodes_are t es)

value_is : (t : Tree) {v : Value ℕ} {w : Value Node} → ValueLike (Names (λ k. path_in k t)) v w → numbered_value t w ≡ v
value_is t (int n) = refl
value_is t (truth b) = refl
value_is t (text bytes) = refl
value_is t (ref neither) = refl
value_is t (ref (both {a = k} {b = n} e)) = ap (λ m. Ref (Some m)) (number_is t k n e)
value_is t (nodes rs) = ap (λ ks. Nodes ks) (nodes_are t rs)

values_are : (t : Tree) {vs : List (Value ℕ)} {ws : List (Value Node)} → ListLike (ValueLike (Names (λ k. path_in k t))) vs ws →
    numbered_values t ws ≡ vs
values_are t end = refl
values_are t (more {a = v} {b = w} {as' = vs} {bs = ws} r rs) =
    ap (λ x. x ∷ numbered_values t ws) (value_is t r) ∙ ap (λ xs. v ∷ xs) (values_are t rs)

-- the number of one for which it stands is the one
numbered_is : (t : Tree) (i : Instance ℕ) (j : Instance Node) → InstanceLike (Names (λ k. path_in k t)) i j → numbered t j ≡ i
numbered_is t i j like =
    ap (λ (k : ℕ). record { node = k; attribute = j.attribute; arguments = numbered_values t j.arguments }) (number_is t i.node j.node like.node)
    ∙ ap (λ (a : ℕ). record { node = i.node; attribute = a; arguments = numbered_values t j.arguments }) (sym like.attribute)
    ∙ ap (λ (vs : List (Value ℕ)). record { node = i.node; attribute = i.attribute; arguments = vs }) (values_are t like.arguments)

-- the list of what is whole
closed_list : {N : Type 0} (look : Contents N) (forms : Forms N) (n : ℕ) (W js : List (Instance N)) → FormedIn (EndsAt look forms n) W js →
    (j : Instance N) → Among j js → EndsWell (EndsSo look forms) IsMade (λ k. Among k W) j
closed_list look forms n W js l j h =
    let (f, x, m) = form_of (EndsAt look forms n) W js j l h in
    record { end = Made f; ends = (n, x); good = tt; next = λ k a. pick (atoms f) W k m a }

-- an equation is tried at each level
many_tried : (ls : List (Level ℕ)) → length (tried_at ls) ≡ length ls
many_tried [] = refl
many_tried (l ∷ ls) = ap suc (many_tried ls)

many_mapped : {A B : Type 0} (f : A → B) (xs : List A) → length (map f xs) ≡ length xs
many_mapped f [] = refl
many_mapped f (x ∷ xs) = ap suc (many_mapped f xs)

module _ (rules : Rules) (s : Shown) (idle : IsIdle s) (ok : AreWellFormed rules) (sound : IsTreeSound rules.classes (tree s)) (q : Instance ℕ)
    (p : Instance Node) (like : InstanceLike (Names (path s)) q p) where
  -- what it leads to stands for an instance of the tree
  led_there : (i : Instance ℕ) → Leads (contents s) (meaning rules) q i →
      (m : Instance Node) × InstanceLike (Names (path s)) i m × Leads (content (tree s)) (forms rules) p m
  led_there i l =
      let alike = evaluation-like rules nat_eq node_eq (same_like nat_eq node_eq nat_eq-is node_eq-is (path s) (path_injective (numbers s))) in
      let agree = names_agree (path s) (path_injective (numbers s)) in
      let (m, (there, others), led) = leads_there agree (contents s) (content (tree s)) (meaning rules) (forms rules) alike q i p
      (like, λ k h. contents_alike (class_in (memory_of s.slab)) (numbers s) idle.keeps.apart k) l in
      (m, there, led)

  module _ (formed : IsWellFormed rules (tree s) p) where
    -- all that it leads to stands in a list
    abbrev all_at : List (Instance ℕ)
    all_at = map (λ (m : Instance Node). numbered (numbers s) m) (instances rules (tree s) p.arguments)

    listed_at : (i : Instance ℕ) → Leads (contents s) (meaning rules) q i → Among i all_at
    listed_at i l =
        let (m, there, led) = led_there i l in
        subst (λ z. Among z all_at) (numbered_is (numbers s) i m there)
        (among_map (λ (n : Instance Node). numbered (numbers s) n) m (instances rules (tree s) p.arguments)
        (listed rules ok (tree s) sound p formed m led))

    -- what has a value there is whole
    pub whole_at : (i : Instance ℕ) (v : Value ℕ) → Leads (contents s) (meaning rules) q i → HasValue (contents s) (meaning rules) i v →
        IsWhole (contents s) (meaning rules) i
    whole_at i v l (zero, h) = absurd h
    whole_at i v l (suc n, (c, x)) =
        let (W, f, a) = closure (EndsAt (contents s) (meaning rules) n) i c all_at
        (λ k r. listed_at k (leads_then (contents s) (meaning rules) q i k l (leads_by (contents s) (meaning rules) n i k r))) in
        (W, (λ j h. closed_list (contents s) (meaning rules) n W W f j h), a)

    -- few equations are tried, or have ended
    pub few_fresh : (u : Search ℕ) → IsFresh (contents s) (meaning rules) q (tried_at (u.last ∷ u.below)) u.ended →
        most_turns u + 2 ≤ 2 * length (instances rules (tree s) p.arguments)
    few_fresh u fresh =
        let fits = no_more (tried_at (u.last ∷ u.below) ++ u.ended) all_at fresh.apart (λ i h. listed_at i (fresh.led i h)) in
        let size = length_both (tried_at (u.last ∷ u.below)) u.ended in
        let tried = many_tried u.below in
        let many = many_mapped (λ (m : Instance Node). numbered (numbers s) m) (instances rules (tree s) p.arguments) in
        omega (arith, fits, size, tried, many)

    -- it has few turns without an answer
    pub few_searches : (n : ℕ) (u : Search ℕ) → Silent (contents s) (meaning rules) n (posted q) u →
        n + 2 ≤ 2 * length (instances rules (tree s) p.arguments)
    few_searches n u silent =
        subst (λ k. n + 2 ≤ 2 * k) (many_mapped (λ (m : Instance Node). numbered (numbers s) m) (instances rules (tree s) p.arguments))
        (few_turns (contents s) (meaning rules) told_among q whole_at (whole_valued rules (contents s)) all_at listed_at n u silent)

module _ (rules : Rules) (s : Shown) (idle : IsIdle s) (ok : AreWellFormed rules) (sound : IsTreeSound rules.classes (tree s)) (q : Instance ℕ)
    (typed : IsWellTyped rules (class_shown s) AnyText q) where
  -- what has a value there is whole
  pub whole_led : (i : Instance ℕ) (v : Value ℕ) → Leads (contents s) (meaning rules) q i → HasValue (contents s) (meaning rules) i v →
      IsWhole (contents s) (meaning rules) i
  whole_led i v l h =
      let (p, like, well) = instance_on rules (path s) (class_at (tree s)) q typed in
      whole_at rules s idle ok sound q p like (formed_of_typed rules (tree s) p AnyText ok.typed well) i v l h

  -- and all of it is well typed
  pub led_typed : AreBoolean rules → (i : Instance ℕ) → Leads (contents s) (meaning rules) q i → IsWellTyped rules (class_shown s) AnyText i
  led_typed boolean i l =
      let (p, like, well) = instance_on rules (path s) (class_at (tree s)) q typed in
      let (m, there, led) = led_there rules s idle ok sound q p like i l in
      instance_back rules (path s) (class_at (tree s)) AnyText i m there
      (leads_typed rules boolean (class_at (tree s)) AnyText (content (tree s)) (forms rules) (λ a. refl)
      (forms_typed rules (tree s) AnyText (met_any rules ok (tree s) sound) boolean) p m well led)

  module _ (kept : Known ℕ) (right : AreRightValues (contents s) (meaning rules) kept) where
    -- a turn leaves a question on its tree
    pub stays_on : (u v : Search ℕ) → IsOn (contents s) (meaning rules) q u → Turned (contents s) (meaning rules) kept u v None →
        IsOn (contents s) (meaning rules) q v
    stays_on u v on x =
        turned_on (contents s) (meaning rules) told_among kept right q whole_led (whole_valued rules (contents s)) u v None on x refl

    -- what it answers is the answer
    pub told_right : (u v : Search ℕ) (a : Answer ℕ) → IsOn (contents s) (meaning rules) q u →
        Turned (contents s) (meaning rules) kept u v (Some a) → Answers (contents s) (meaning rules) q a
    told_right u v a on x =
        turned_answers (contents s) (meaning rules) told_among kept right q whole_led (whole_valued rules (contents s)) u v (Some a) a on x refl

    -- and one without an answer counts one at least
    pub one_turn : (u v : Search ℕ) → IsOn (contents s) (meaning rules) q u →
        IsFresh (contents s) (meaning rules) q (tried_at (u.last ∷ u.below)) u.ended → Turned (contents s) (meaning rules) kept u v None →
        most_turns u + 1 ≤ most_turns v
    one_turn u v on fresh x =
        (turned_fresh (contents s) (meaning rules) told_among kept right q whole_led (whole_valued rules (contents s)) u v None on fresh x
        refl).1

    -- and tries no equation twice
    pub fresh_on : (u v : Search ℕ) → IsOn (contents s) (meaning rules) q u →
        IsFresh (contents s) (meaning rules) q (tried_at (u.last ∷ u.below)) u.ended → Turned (contents s) (meaning rules) kept u v None →
        IsFresh (contents s) (meaning rules) q (tried_at (v.last ∷ v.below)) v.ended
    fresh_on u v on fresh x =
        (turned_fresh (contents s) (meaning rules) told_among kept right q whole_led (whole_valued rules (contents s)) u v None on fresh x
        refl).0
