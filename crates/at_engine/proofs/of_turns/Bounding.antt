-- How many turns an open question has been given: few, by the list of all instances.
use Rattle.std.proofs.Common.{◌≡◌, ◌∙◌, ℕ, ◌+◌, ◌*◌, ◌≤◌, Bool, true, false, not, cond, if◌then◌else◌, nat_eq, List, [], ◌∷◌, ◌++◌, map, find, length, Option, Some, None, option_map, option_and_then, ap, arith, refl, sym, subst}
use Rattle.std.specs.List.{AllByRecursion, flat_map}
use Rattle.at_model.specs.Instances.{all_nodes, argument_lists, below, instances, literals_of, most_parameters, others, text_in, text_of_value, tokens}
use Rattle.at_model.specs.Edits.{max_nodes}
use Rattle.at_model.specs.Lines.{Argument, Ask, Int, Place, Ref, Text, Truth, Null}
use Rattle.at_model.specs.Paths.{Node, tree_at}
use Rattle.at_model.specs.Replies.{Code}
use Rattle.at_model.specs.Replies as code
use Rattle.at_model.specs.Rules.{Rules, attribute_asked}
use Rattle.at_model.specs.Run.{Instance, Value}
use Rattle.at_model.specs.Run as run
use Rattle.at_model.specs.Trees.{Tree, class_of}
use Rattle.at_model.specs.Machine.{State, Posted as PostedOf, Verdict, Asks, Refuses, each, is_read, line_of, node_named, obeyed, questioned, suit, value_named}
use Rattle.at_model.proofs.of_machines.WellAsked.{well_asked}
use Rattle.at_store.specs.Shown.{Shown, path, tree}
use Rattle.at_cache.specs.Kept.{Entries}
use Rattle.at_demand.specs.Answerable.{IsBasis}
use Rattle.at_demand.specs.Levels.{asked_by}
use Rattle.at_demand.specs.Sound.{AreSound}
use Rattle.at_demand.specs.declared.question.Question.{Question}
use Rattle.at_demand.proofs.of_levels.Wholes.{few_fresh}
use Rattle.at_engine.specs.Holding.{HasBegun, IsBegunFor, IsPostedOn}
use Rattle.at_engine.specs.Posted.{posted_view, texts_in, turns_given, universe_of}
use Rattle.at_engine.specs.declared.posts.Posted.{Posted}

mapped_some : {A B : Type 0} (f : A → B) (o : Option A) (b : B) → option_map f o ≡ Some b → (a : A) × (o ≡ Some a) × (f a ≡ b)
mapped_some f None b e = absurd cc
mapped_some f (Some a) b e = (a, refl, let same : f a ≡ b = cc in same)

-- the texts of values that arguments name are those among the arguments
module _ (rules : Rules) (s : State) (session : ℕ) where
  abbrev texts : List (Value Node) → List (List ℕ)
  texts = flat_map text_of_value

  abbrev values : List Argument → Option (List (Value Node))
  values as' = each (map (value_named rules.classes s session) as')

  same_some : {A : Type 0} {a b : A} → Some a ≡ Some b → a ≡ b
  same_some e = cc

  by_node : (o : Option Node) (as' : List Argument) (vs : List (Value Node)) → ((ws : List (Value Node)) → values as' ≡ Some ws → texts ws ≡ texts (texts_in as'))
      → option_and_then (λ a. option_map (λ ws. a ∷ ws) (values as')) (option_map (λ n. run.Ref (Some n)) o) ≡ Some vs → texts vs ≡ texts (texts_in as')
  by_node None as' vs rest e = absurd cc
  by_node (Some n) as' vs rest e = let (ws, is, same) = mapped_some (λ ws. run.Ref (Some n) ∷ ws) (values as') vs e in ap texts (sym same) ∙ rest ws is

  pub texts_named : (as' : List Argument) (vs : List (Value Node)) → values as' ≡ Some vs → texts vs ≡ texts (texts_in as')
  texts_named [] vs e = ap texts (sym (same_some e))
  texts_named (Text bytes ∷ as') vs e = let (ws, is, same) = mapped_some (λ ws. run.Text bytes ∷ ws) (values as') vs e in ap texts (sym same) ∙ ap (λ l. bytes ∷ l) (texts_named as' ws is)
  texts_named (Int n ∷ as') vs e = let (ws, is, same) = mapped_some (λ ws. run.Int n ∷ ws) (values as') vs e in ap texts (sym same) ∙ texts_named as' ws is
  texts_named (Truth b ∷ as') vs e = let (ws, is, same) = mapped_some (λ ws. run.Truth b ∷ ws) (values as') vs e in ap texts (sym same) ∙ texts_named as' ws is
  texts_named (Ref place ∷ as') vs e = by_node (node_named rules.classes s session place) as' vs (texts_named as') e
  texts_named (Null ∷ as') vs e = let (ws, is, same) = mapped_some (λ ws. run.Ref None ∷ ws) (values as') vs e in ap texts (sym same) ∙ texts_named as' ws is

  -- what is asked has the values of the arguments
  by_fit : (b : Bool) (n : Node) (a : ℕ) (vs : List (Value Node)) (i : Instance Node) → (if b then Asks (record { node = n; attribute = a; arguments = vs }) else Refuses code.Arguments) ≡ Asks i → vs ≡ i.arguments
  by_fit true n a vs i e = let same : record { node = n; attribute = a; arguments = vs } ≡ i = cc in ap (λ (x : Instance Node). x.arguments) same
  by_fit false n a vs i e = absurd cc

  by_name : (o : Option ℕ) (n : Node) (vs : List (Value Node)) (i : Instance Node) →
      elim o as (λ _. Verdict) [ None ↦ Refuses code.Attribute | Some a ↦ if suit rules s.tree a vs then Asks (record { node = n; attribute = a; arguments = vs }) else Refuses code.Arguments ] ≡ Asks i → vs ≡ i.arguments
  by_name None n vs i e = absurd cc
  by_name (Some a) n vs i e = by_fit (suit rules s.tree a vs) n a vs i e

  by_values : (n : Node) (name : List ℕ) (o : Option (List (Value Node))) (i : Instance Node) → elim o as (λ _. Verdict) [ None ↦ Refuses code.Path | Some vs ↦ questioned rules s.tree n name vs ] ≡ Asks i → o ≡ Some i.arguments
  by_values n name None i e = absurd cc
  by_values n name (Some vs) i e = ap Some (by_name (option_and_then (λ u. attribute_asked rules (class_of u) name
      (length vs)) (tree_at s.tree n)) n vs i e)

  by_place : (o : Option Node) (name : List ℕ) (vs : Option (List (Value Node))) (i : Instance Node) →
      elim o as (λ _. Verdict) [ None ↦ Refuses code.Path | Some n ↦ elim vs as (λ _. Verdict) [ None ↦ Refuses code.Path | Some ws ↦ questioned rules s.tree n name ws ] ] ≡ Asks i → vs ≡ Some i.arguments
  by_place None name vs i e = absurd cc
  by_place (Some n) name vs i e = by_values n name vs i e

  pub texts_asked : (place : Place) (name : List ℕ) (as' : List Argument) (i : Instance Node) → obeyed rules s session (Ask place name as') ≡ Asks i → texts i.arguments ≡ texts (texts_in as')
  texts_asked place name as' i e = texts_named as' i.arguments (by_place (node_named rules.classes s session place) name (values as') i e)

-- the instances are as many by the same texts
pub same_universe : (rules : Rules) (t : Tree) (vs ws : List (Value Node)) → flat_map text_of_value vs ≡ flat_map text_of_value ws → length (instances rules t vs) ≡ length (instances rules t ws)
same_universe rules t vs ws e = ap (λ (ts : List (List ℕ)). length {A = Instance Node} (flat_map (λ n. flat_map
    (λ k. map (λ xs. record { node = n; attribute = k; arguments = xs })
    (argument_lists (most_parameters 2 rules.attributes) (map (λ bytes. run.Text bytes) (flat_map text_in (tokens t) ++ (literals_of rules ++ ts))
    ++ ((run.Ref None ∷ map (λ n. run.Ref (Some n)) (all_nodes t)) ++ others rules))))
    (below (length rules.attributes))) (all_nodes t))) e

by_refusal : (c : Code) (b : Bool) (v : Verdict) (i : Instance Node) → (if b then Refuses c else v) ≡ Asks i → v ≡ Asks i
by_refusal c true v i e = absurd cc
by_refusal c false v i e = e

module _ (rules : Rules) (s : Shown) (basis : IsBasis rules s) (entries : Entries) (sound : AreSound rules s entries) where
  abbrev bare : PostedOf → State
  bare q = record { tree = tree s; limit = max_nodes; version = 0; marks = q.marks; posts = 0; posted = [] }

  few_begun : (p : Posted) (q : Question) → IsBegunFor rules s entries p q
      → q.turns ≤ 2 * universe_of rules (tree s) (posted_view (path s) p) + 1
  few_begun p q b =
      let v = posted_view (path s) p in
      let (u, stands) = b.standing.levels sound in
      let formed = well_asked rules (bare v) (line_of v) b.named b.asks in
      let few = few_fresh rules s basis.idle basis.formed basis.sound (asked_by q) b.named b.like formed u stands.fresh in
      let asks = by_refusal code.Syntax (not (is_read rules (Ask v.place v.attribute v.arguments))) _ b.named b.asks in
      let obeys = by_refusal code.Mark _ (obeyed rules (bare v) v.session (Ask v.place v.attribute v.arguments)) b.named asks in
      let same = same_universe rules (tree s) b.named.arguments (texts_in v.arguments) (texts_asked rules (bare v) v.session v.place v.attribute v.arguments b.named obeys) in
      omega (arith, few, stands.few, same)

  few_given : (p : Posted) (o : Option Question) → HasBegun rules s entries p o → turns_given o ≤ 2 * universe_of rules (tree s) (posted_view (path s) p) + 1
  few_given p None h = omega arith
  few_given p (Some q) h = few_begun p q h

  -- the question of that number has few turns
  pub few_found : (number : ℕ) (ps : List Posted) → AllByRecursion (IsPostedOn rules s entries) ps → (q : PostedOf) → find (λ (x : PostedOf). nat_eq number x.number) (map (posted_view (path s)) ps) ≡ Some q
      → q.turns ≤ 2 * universe_of rules (tree s) q + 1
  few_found number [] h q e = absurd cc
  few_found number (p ∷ ps) h q e = by (nat_eq number p.number) e (few_found number ps h.1 q)
    where
      by : (b : Bool) → cond b (Some (posted_view (path s) p)) (find (λ (x : PostedOf). nat_eq number x.number) (map (posted_view (path s)) ps)) ≡ Some q
          → (find (λ (x : PostedOf). nat_eq number x.number) (map (posted_view (path s)) ps) ≡ Some q → q.turns ≤ 2 * universe_of rules (tree s) q + 1) → q.turns ≤ 2 * universe_of rules (tree s) q + 1
      by true f others = let same : posted_view (path s) p ≡ q = cc in subst (λ (x : PostedOf). x.turns ≤ 2 * universe_of rules (tree s) x + 1) same (few_given p p.question h.0.begun)
      by false f others = others f

-- the turns of the question of that number
pub turns_found : (s : Shown) (number : ℕ) (ps : List Posted) →
    option_map (λ (p : Posted). turns_given p.question) (find (λ (p : Posted). nat_eq number p.number) ps)
    ≡ option_map (λ (q : PostedOf). q.turns) (find (λ (q : PostedOf). nat_eq number q.number) (map (posted_view (path s)) ps))
turns_found s number [] = refl
turns_found s number (p ∷ ps) = by (nat_eq number p.number) (turns_found s number ps)
  where
    by : (b : Bool) → option_map (λ (x : Posted). turns_given x.question) (find (λ (x : Posted). nat_eq number x.number) ps)
        ≡ option_map (λ (q : PostedOf). q.turns) (find (λ (q : PostedOf). nat_eq number q.number) (map (posted_view (path s)) ps))
        → option_map (λ (x : Posted). turns_given x.question)
        (cond b (Some p) (find (λ (x : Posted). nat_eq number x.number) ps))
        ≡ option_map (λ (q : PostedOf). q.turns) (cond b (Some (posted_view (path s) p))
        (find (λ (q : PostedOf). nat_eq number q.number) (map (posted_view (path s)) ps)))
    by true others = refl
    by false others = others
