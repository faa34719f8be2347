-- The beginning of an evaluation.
use Rattle.std.proofs.Common.{◌≡◌, ◌-◌, ℕ, suc, Bool, true, false, List, [], ◌∷◌, ◌++◌, Option, Some, None, refl, sym, ap, ◌∙◌, subst, append_assoc, append-nil, nat_eq, map}
use Rattle.at_model.specs.Run.{Value, Instance, Location, Contents, Run, Is, Up, Demands, Gives, Fails, Looks, LooksTo, Null}
use Rattle.at_model.specs.Bodies.{Expr, mentioned}
use Rattle.at_model.specs.Rules.{Rules, attribute_name, by_equation, by_inherited, by_own, inherited_equation, is_inherited, own_equation, past_arguments, past_nodes}
use Rattle.at_model.specs.Support.{argument_classes}
use Rattle.at_model.specs.Terms.{max_depth}
use Rattle.at_rules.specs.Bodies.{body_view}
use Rattle.at_rules.specs.declared.body.Body.{Body}
use Rattle.at_body.specs.Rest.{ev}
use Rattle.at_body.specs.Standing.{Place}
use Rattle.at_body.specs.Values.{value_view}
use Rattle.at_body.specs.declared.value.Value.{Value as ValueCode}
use Rattle.at_model.specs.Rules.{evaluation}
use Rattle.at_evaluate.specs.Looking.{HasBegun}

-- looks alone lead on
pub looks_on : {A : Type 0} (look : Contents ℕ) (r : Run ℕ A) (ls : List (Location ℕ)) (q : Run ℕ A) (ms : List (Location ℕ)) (t : Run ℕ A) → LooksTo look r ls q → LooksTo look q ms t → LooksTo look r (ls ++ ms) t
looks_on look r [] q ms t e h = subst (λ x. LooksTo look x ms t) (sym e) h
looks_on look (Gives b) (l ∷ ls) q ms t h g = absurd h
looks_on look (Fails f) (l ∷ ls) q ms t h g = absurd h
looks_on look (Looks n k) (l ∷ ls) q ms t (e, h) g = (e, looks_on look (k (look n)) ls q ms t h g)
looks_on look (Demands j k) (l ∷ ls) q ms t h g = absurd h

-- one looks on behind the other
pub begun_on : {A : Type 0} (look : Contents ℕ) (old mid new : List (Location ℕ)) (r q t : Run ℕ A) → HasBegun look old mid r q → HasBegun look mid new q t → HasBegun look old new r t
begun_on look old mid new r q t a b = record {
  looks = a.looks ++ b.looks;
  goes = looks_on look r a.looks q b.looks t a.goes b.goes;
  reads = b.reads ∙ ap (λ z. z ++ b.looks) a.reads ∙ append_assoc old a.looks b.looks;
}

-- the classes of these nodes are looked at
past_these : {A : Type 0} (look : Contents ℕ) (ns : List ℕ) (r : Run ℕ A) → LooksTo look (past_nodes ns r) (map (λ n. Is n) ns) r
past_these look [] r = refl
past_these look (n ∷ ns) r = (refl, past_these look ns r)

-- the arguments are passed

past : {A : Type 0} (look : Contents ℕ) (vs : List (Value ℕ)) (r : Run ℕ A) → LooksTo look (past_arguments vs r) (argument_classes vs) r
past look [] r = refl
past look (v ∷ vs) r =
    looks_on look (past_nodes (mentioned v) (past_arguments vs r)) (map (λ n. Is n) (mentioned v)) (past_arguments vs r) (argument_classes vs) r
    (past_these look (mentioned v) (past_arguments vs r)) (past look vs r)

-- an evaluation by an equation of that instance, where its attribute is inherited, and where it isn't
abbrev pub by_rule : Rules → Instance ℕ → Bool → ℕ → Run ℕ (Value ℕ)
by_rule rules i inherited c = elim inherited [
  | true ↦ by_inherited rules nat_eq (attribute_name rules i.attribute) i.arguments max_depth i.node
  | false ↦ by_own rules nat_eq i c
]

-- at a node, outside of all folds
abbrev pub at_node : ℕ → Option ℕ → List ValueCode → Place
at_node n child vs = record { this = n; bound = []; passed = vs; child = child }

-- one more, and then another one
two_more : (old mid now ls ms : List (Location ℕ)) → now ≡ mid ++ ms → mid ≡ old ++ ls → now ≡ (old ++ ls) ++ ms
two_more old mid now ls ms e f = e ∙ ap (λ z. z ++ ms) f

-- nothing was looked at
pub begun_none : {A : Type 0} (look : Contents ℕ) (reads : List (Location ℕ)) (r q : Run ℕ A) → r ≡ q → HasBegun look reads reads r q
begun_none look reads r q e = record { looks = []; goes = e; reads = sym (append-nil reads) }

module _ (rules : Rules) (look : Contents ℕ) where
  -- the node and the nodes among the arguments are looked at, and then its equation is evaluated
  pub entered : (i : Instance ℕ) (old new last : List (Location ℕ)) (n : ℕ) (vs : List (Value ℕ)) (inherited : Bool) (q : Run ℕ (Value ℕ)) → n ≡ i.node → vs ≡ i.arguments → inherited ≡ is_inherited rules i.attribute →
      new ≡ (old ++ Is n ∷ []) ++ argument_classes vs → HasBegun look new last (by_rule rules i inherited (look (Is i.node))) q → HasBegun look old last (evaluation rules nat_eq i) q
  entered i old new last n vs inherited q node args is reads b =
      begun_on look old new last (evaluation rules nat_eq i) (by_rule rules i (is_inherited rules i.attribute) (look (Is i.node))) q
      (record {
        looks = Is i.node ∷ argument_classes i.arguments;
        goes = (refl, past look i.arguments (by_rule rules i (is_inherited rules i.attribute) (look (Is i.node))));
        reads = reads ∙ append_assoc old (Is n ∷ []) (argument_classes vs) ∙ ap (λ m. old ++ Is m ∷ argument_classes vs) node ∙ ap (λ ws. old ++ Is i.node ∷ argument_classes ws) args;
      })
      (subst (λ b. HasBegun look new last (by_rule rules i b (look (Is i.node))) q) is b)

  -- by an own equation
  pub by_own_body : (i : Instance ℕ) (reads : List (Location ℕ)) (c : ℕ) (a : ℕ) (b : Body) (p : Place) (vs : List ValueCode) → c ≡ look (Is i.node) → a ≡ i.attribute → Some (body_view b) ≡ own_equation rules c a → p ≡ at_node i.node None vs →
      map value_view vs ≡ i.arguments → HasBegun look reads reads (by_rule rules i false (look (Is i.node))) (ev rules.classes (body_view b) p)
  by_own_body i reads c a b p vs class attribute is here args =
      begun_none look reads (by_rule rules i false (look (Is i.node))) (ev rules.classes (body_view b) p)
      (ap (λ o. by_equation rules nat_eq (record { this = i.node; names = i.arguments; child = None }) (Fails Null) o) (ap (own_equation rules (look (Is i.node))) (sym attribute) ∙ ap (λ d. own_equation rules d a) (sym class) ∙ sym is)
      ∙ ap (λ ws. ev' ws) (sym args) ∙ ap (λ z. ev rules.classes (body_view b) z) (sym here))
    where
      ev' : List (Value ℕ) → Run ℕ (Value ℕ)
      ev' ws = by_equation rules nat_eq (record { this = i.node; names = ws; child = None }) (Fails Null) (Some (body_view b))

  -- one step up
  stepped : (name : List ℕ) (vs : List (Value ℕ)) (height h n p part c : ℕ) (o : Option Expr) (old : List (Location ℕ)) → height ≡ suc h → Some (p, part) ≡ look (Up n) → c ≡ look (Is p) → o ≡ inherited_equation rules c part name →
      HasBegun look old ((old ++ Up n ∷ []) ++ Is p ∷ []) (by_inherited rules nat_eq name vs height n) (by_equation rules nat_eq (record { this = p; names = vs; child = Some n }) (by_inherited rules nat_eq name vs h p) o)
  stepped name vs height h n p part c o old high up class is = record {
    looks = Up n ∷ Is p ∷ [];
    goes = subst (λ z. LooksTo look (by_inherited rules nat_eq name vs z n) (Up n ∷ Is p ∷ []) (by_equation rules nat_eq (record { this = p; names = vs; child = Some n }) (by_inherited rules nat_eq name vs h p) o)) (sym high) (refl, rest);
    reads = append_assoc old (Up n ∷ []) (Is p ∷ []);
  }
    where
      at_parent : Option (ℕ × ℕ) → Run ℕ (Value ℕ)
      at_parent = elim [ None ↦ Fails Null | Some q ↦ Looks (Is q.0) (λ c. by_equation rules nat_eq (record { this = q.0; names = vs; child = Some n }) (by_inherited rules nat_eq name vs h q.0) (inherited_equation rules c q.1 name)) ]

      rest : LooksTo look (at_parent (look (Up n))) (Is p ∷ []) (by_equation rules nat_eq (record { this = p; names = vs; child = Some n }) (by_inherited rules nat_eq name vs h p) o)
      rest = subst (λ z. LooksTo look (at_parent z) (Is p ∷ []) (by_equation rules nat_eq (record { this = p; names = vs; child = Some n }) (by_inherited rules nat_eq name vs h p) o)) up
          (refl, ap (λ z. by_equation rules nat_eq (record { this = p; names = vs; child = Some n }) (by_inherited rules nat_eq name vs h p) z) (ap (λ d. inherited_equation rules d part name) (sym class) ∙ sym is))

  -- the equation stands there
  pub found : (name : List ℕ) (vs : List ValueCode) (height h n p part c : ℕ) (b : Body) (there : Place) (old mid now : List (Location ℕ)) → height ≡ suc h → Some (p, part) ≡ look (Up n) → c ≡ look (Is p) → Some (body_view b) ≡ inherited_equation rules c part name →
      there ≡ at_node p (Some n) vs → now ≡ mid ++ Is p ∷ [] → mid ≡ old ++ Up n ∷ [] → HasBegun look old now (by_inherited rules nat_eq name (map value_view vs) height n) (ev rules.classes (body_view b) there)
  found name vs height h n p part c b there old mid now high up class is here reads first =
      subst (λ z. HasBegun look old z (by_inherited rules nat_eq name (map value_view vs) height n) (ev rules.classes (body_view b) there)) (sym (two_more old mid now (Up n ∷ []) (Is p ∷ []) reads first))
      (subst (λ z. HasBegun look old ((old ++ Up n ∷ []) ++ Is p ∷ []) (by_inherited rules nat_eq name (map value_view vs) height n) (ev rules.classes (body_view b) z)) (sym here)
      (stepped name (map value_view vs) height h n p part c (Some (body_view b)) old high up class is))

  -- or above
  pub climbs : (name : List ℕ) (vs : List (Value ℕ)) (height h n p part c : ℕ) (old mid now : List (Location ℕ)) → height ≡ suc h → Some (p, part) ≡ look (Up n) → c ≡ look (Is p) → None ≡ inherited_equation rules c part name →
      now ≡ mid ++ Is p ∷ [] → mid ≡ old ++ Up n ∷ [] → HasBegun look old now (by_inherited rules nat_eq name vs height n) (by_inherited rules nat_eq name vs h p)
  climbs name vs height h n p part c old mid now high up class is reads first =
      subst (λ z. HasBegun look old z (by_inherited rules nat_eq name vs height n) (by_inherited rules nat_eq name vs h p)) (sym (two_more old mid now (Up n ∷ []) (Is p ∷ []) reads first)) (stepped name vs height h n p part c None old high up class is)
