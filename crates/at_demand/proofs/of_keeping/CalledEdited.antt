-- What an edit leaves of what is kept, by paths.
use Rattle.std.proofs.Common.{◌≡◌, ◌↔◌, ℕ, false, nat_eq, List, Option, Some, sym, ap, ◌∙◌, subst}
use Rattle.at_model.specs.Trees.{Tree}
use Rattle.at_model.specs.Paths.{Node, node_eq}
use Rattle.at_model.specs.Run.{Value, Instance, Location, Is, Tok, Slot, Up, Idx, Drawer, Contents}
use Rattle.at_model.specs.Rules.{Rules}
use Rattle.at_model.specs.Meaning.{content}
use Rattle.at_model.specs.of_fixpoints.Evaluations.{forms}
use Rattle.at_model.specs.of_fixpoints.Fixpoints.{HasValue}
use Rattle.at_model.specs.of_fixpoints.Formulas.{Forms}
use Rattle.at_model.specs.of_fixpoints.Likeness.{FormsLike}
use Rattle.at_model.specs.of_fixpoints.Resting.{IsUntouched, Supports}
use Rattle.at_model.specs.Alike.{neither, both, ListLike, end, more, ValueLike, int, truth, text, ref, nodes, InstanceLike, LocationLike, is, tok, slot, up, idx, drawer, Names, IsInjective, AlikeAt}
use Rattle.at_model.specs.Edits.{Edit, carried}
use Rattle.at_model.specs.Touches.{touches_in}
use Rattle.at_model.proofs.of_likeness.CarryingCircles.{names_agree}
use Rattle.at_model.proofs.of_formulas.CarriedByFormulas.{supports_back, supports_there}
use Rattle.at_model.proofs.of_formulas.FormulasAlike.{evaluation-like}
use Rattle.at_model.proofs.Nodes.{same_like, nat_eq-is, node_eq-is}
use Rattle.at_evaluate.specs.Valued.{meaning}
use Rattle.at_demand.proofs.of_keeping.CalledAsked.{Called}

-- from the one relation and the other to a third one
module _ {A B C : Type 0} {R : A → B → Type 0} {S : B → C → Type 0} {T : A → C → Type 0} (join : (a : A) (b : B) (c : C) → R a b → S b c → T a c) where
  nodes_joined : {ns : List A} {ms : List B} {ks : List C} → ListLike R ns ms → ListLike S ms ks → ListLike T ns ks
  nodes_joined end end = end
  nodes_joined (more r rs) (more s ss) = more (join _ _ _ r s) (nodes_joined rs ss)

  value_joined : {v : Value A} {w : Value B} {x : Value C} → ValueLike R v w → ValueLike S w x → ValueLike T v x
  value_joined (int n) (int _) = int n
  value_joined (truth b) (truth _) = truth b
  value_joined (text bytes) (text _) = text bytes
  value_joined (ref neither) (ref neither) = ref neither
  value_joined (ref (both r)) (ref (both s)) = ref (both (join _ _ _ r s))
  value_joined (nodes rs) (nodes ss) = nodes (nodes_joined rs ss)

  values_joined : {vs : List (Value A)} {ws : List (Value B)} {xs : List (Value C)} → ListLike (ValueLike R) vs ws → ListLike (ValueLike S) ws xs → ListLike (ValueLike T) vs xs
  values_joined end end = end
  values_joined (more v vs) (more w ws) = more (value_joined v w) (values_joined vs ws)

  pub instance_joined : (i : Instance A) (j : Instance B) (k : Instance C) → InstanceLike R i j → InstanceLike S j k → InstanceLike T i k
  instance_joined i j k s u = record { node = join _ _ _ s.node u.node; attribute = s.attribute ∙ u.attribute; arguments = values_joined s.arguments u.arguments }

-- the other way round
module _ {A B : Type 0} {R : A → B → Type 0} where
  nodes_turned : {ns : List A} {ms : List B} → ListLike R ns ms → ListLike (λ b a. R a b) ms ns
  nodes_turned end = end
  nodes_turned (more r rs) = more r (nodes_turned rs)

  value_turned : {v : Value A} {w : Value B} → ValueLike R v w → ValueLike (λ b a. R a b) w v
  value_turned (int n) = int n
  value_turned (truth b) = truth b
  value_turned (text bytes) = text bytes
  value_turned (ref neither) = ref neither
  value_turned (ref (both r)) = ref (both r)
  value_turned (nodes rs) = nodes (nodes_turned rs)

  values_turned : {vs : List (Value A)} {ws : List (Value B)} → ListLike (ValueLike R) vs ws → ListLike (ValueLike (λ b a. R a b)) ws vs
  values_turned end = end
  values_turned (more v vs) = more (value_turned v) (values_turned vs)

  pub instance_turned : (i : Instance A) (j : Instance B) → InstanceLike R i j → InstanceLike (λ b a. R a b) j i
  instance_turned i j s = record { node = s.node; attribute = sym s.attribute; arguments = values_turned s.arguments }

same_name : {A : Type 0} (o : Option A) (a b : A) → o ≡ Some a → o ≡ Some b → a ≡ b
same_name o a b p q = let e : Some a ≡ Some b = sym p ∙ q in cc

-- a location has one name
one_location : (path : ℕ → Option Node) {l : Location ℕ} {m n : Location Node} → LocationLike (Names path) l m → LocationLike (Names path) l n → m ≡ n
one_location path (is r) (is s) = ap Is (same_name _ _ _ r s)
one_location path (tok part r) (tok _ s) = ap (λ n. Tok n part) (same_name _ _ _ r s)
one_location path (slot part r) (slot _ s) = ap (λ n. Slot n part) (same_name _ _ _ r s)
one_location path (up r) (up s) = ap Up (same_name _ _ _ r s)
one_location path (idx r) (idx s) = ap Idx (same_name _ _ _ r s)
one_location path (drawer part key mark r) (drawer _ _ _ s) = ap (λ n. Drawer n part key mark) (same_name _ _ _ r s)

module _ (rules : Rules) (e : Edit) (t : Tree) (look : Contents ℕ) (path later : ℕ → Option Node) (named_once : IsInjective path) (alike : (l : Location ℕ) → AlikeAt (Names path) look (content t) l)
    (goes : (k : ℕ) (n : Node) → path k ≡ Some n → later k ≡ carried e n) where
  abbrev means : Forms ℕ
  means = meaning rules

  abbrev Like : Instance ℕ → Instance Node → Type 0
  Like = InstanceLike (Names path)

  like : FormsLike (Names path) means (forms rules)
  like = evaluation-like rules nat_eq node_eq (same_like nat_eq node_eq nat_eq-is node_eq-is path named_once)

  -- the edit touches nothing that supports the instance
  abbrev pub IsFree : Instance ℕ → Type 0
  IsFree i = (l : Location ℕ) → Supports look means l i → (m : Location Node) → LocationLike (Names path) l m
      → touches_in t e m ≡ false

  module _ (Old New : Instance ℕ → Type 0) (there : (i : Instance ℕ) → Old i → (j : Instance Node) × Like i j) (valued : (i : Instance ℕ) → Old i → (v : Value ℕ) × HasValue look means i v) (just : (i : Instance ℕ) → New i ↔ (Old i × IsFree i)) where
    abbrev pub Stays : Instance Node → Type 0
    Stays j = (i : Instance Node) × Called path Old i × IsUntouched rules t e i × InstanceLike (Names (carried e)) i j

    free_there : (i : Instance ℕ) (j : Instance Node) → Like i j → Old i → IsFree i → IsUntouched rules t e j
    free_there i j s old free m rests =
        let (l, u, before) = supports_back (names_agree path named_once) look (content t) means (forms rules) like i j m
        (s, λ l h. alike l) rests in
        free l before m u

    free_here : (i : Instance ℕ) (j : Instance Node) → Like i j → IsUntouched rules t e j → IsFree i
    free_here i j s free l rests m u =
        let (n, w, after) = supports_there (names_agree path named_once) look (content t) means (forms rules) like i j l
        (s, λ l h. alike l) rests in
        subst (λ x. touches_in t e x ≡ false) (one_location path w u) (free n after)

    -- just what isn't touched stays, under the paths to which its nodes are carried
    pub called_edited : (j : Instance Node) → Called later New j ↔ Stays j
    called_edited j = (on, back)
      where
        on : Called later New j → Stays j
        on (n, new, s) =
            let (old, free) = (just n).0 new in
            let (i, u) = there n old in
            (i, (n, old, u), free_there n i u old free, instance_joined (λ a b c r q. sym (goes b a r) ∙ q) i n j (instance_turned n i u) s)

        back : Stays j → Called later New j
        back (i, (n, old, u), free, c) = (n, (just n).1 (old, free_here n i u free), instance_joined (λ a b d r q. goes a b r ∙ q) n i j u c)
