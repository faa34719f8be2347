-- What stays under its number over an edit, where the numbers of nodes are the same before and after it.
use Rattle.std.proofs.Common.{◌≡◌, ℕ, true, false, nat_eq, List, [], ◌∷◌, Option, Some, None, Ok, inl, inr, refl, sym, ap, ◌∙◌, subst, is_none}
use Rattle.at_model.specs.Classes.{Classes}
use Rattle.at_model.specs.Trees.{Tree, conforms}
use Rattle.at_model.specs.Paths.{Node, node_eq, tree_at}
use Rattle.at_model.specs.Run.{Value, Ref, Nodes, Instance, Location, Is, Tok, Slot, Up, Idx, Drawer, Run, Contents}
use Rattle.at_model.specs.Rules.{Rules, past_nodes, past_arguments}
use Rattle.at_model.specs.Meaning.{Finds, content}
use Rattle.at_model.specs.Support.{Sees}
use Rattle.at_model.specs.of_fixpoints.Evaluations.{evaluation, forms}
use Rattle.at_model.specs.of_fixpoints.Fixpoints.{HasValue, Holds}
use Rattle.at_model.specs.of_fixpoints.Formulas.{Forms}
use Rattle.at_model.specs.of_fixpoints.Likeness.{AlikeBelow, FormsLike}
use Rattle.at_model.specs.of_fixpoints.Resting.{Leads, stays, Supports}
use Rattle.at_model.specs.Alike.{OptionLike, neither, both, ListLike, end, more, ValueLike, int, truth, text, ref, nodes, InstanceLike, LocationLike, is, tok, slot, up, idx, drawer, Names, IsInjective, AlikeAt}
use Rattle.at_model.specs.Edits.{Edit, carried, edited}
use Rattle.at_model.specs.Touches.{touches, shifts, touches_in}
use Rattle.at_model.proofs.of_likeness.CarryingCircles.{Agrees, names_agree}
use Rattle.at_model.proofs.of_formulas.CarriedByFormulas.{outcome_there, leads_back, supports_back, supports_there}
use Rattle.at_model.proofs.of_formulas.EndsAlike.{found_like}
use Rattle.at_model.proofs.of_formulas.FormulasAlike.{evaluation-like}
use Rattle.at_model.proofs.GrammarKept.{or_off}
use Rattle.at_model.proofs.Nodes.{same_like, nat_eq-is, node_eq-is}
use Rattle.at_model.proofs.of_edits.Edited.{edited_alike, gone_where_touched}

-- the same number, of a node that is carried over the edit
pub record Stays (path : ℕ → Option Node) (e : Edit) (a b : ℕ) : Type 0 where
  pub same : a ≡ b
  pub was : Node
  pub goes : Node
  pub named : path a ≡ Some was
  pub carries : carried e was ≡ Some goes

-- what is related all the way round is related
module _ {A B C D : Type 0} {P : A → B → Type 0} {Q : B → C → Type 0} {R : D → C → Type 0} {S : A → D → Type 0} (join : (a : A) (b : B) (c : C) (d : D) → P a b → Q b c → R d c → S a d) where
  list_round : {as' : List A} {bs : List B} {cs : List C} {ds : List D} → ListLike P as' bs → ListLike Q bs cs → ListLike R ds cs → ListLike S as' ds
  list_round end end end = end
  list_round (more p ps) (more q qs) (more r rs) = more (join _ _ _ _ p q r) (list_round ps qs rs)

  option_round : {a : Option A} {b : Option B} {c : Option C} {d : Option D} → OptionLike P a b → OptionLike Q b c → OptionLike R d c → OptionLike S a d
  option_round neither neither neither = neither
  option_round (both p) (both q) (both r) = both (join _ _ _ _ p q r)

-- values and locations of numbers that are the same
module _ {R : ℕ → ℕ → Type 0} (same : (a b : ℕ) → R a b → a ≡ b) where
  same_nodes : {ns ms : List ℕ} → ListLike R ns ms → ns ≡ ms
  same_nodes end = refl
  same_nodes (more {a = a} {b = b} {as' = ns} {bs = ms} r rs) =
      ap (λ n. n ∷ ns) (same a b r) ∙ ap (λ xs. b ∷ xs) (same_nodes rs)

  pub same_value : {v w : Value ℕ} → ValueLike R v w → v ≡ w
  same_value (int n) = refl
  same_value (truth b) = refl
  same_value (text bytes) = refl
  same_value (ref neither) = refl
  same_value (ref (both r)) = ap (λ n. Ref (Some n)) (same _ _ r)
  same_value (nodes rs) = ap (λ ns. Nodes ns) (same_nodes rs)

  pub same_location : {l m : Location ℕ} → LocationLike R l m → l ≡ m
  same_location (is r) = ap Is (same _ _ r)
  same_location (tok part r) = ap (λ n. Tok n part) (same _ _ r)
  same_location (slot part r) = ap (λ n. Slot n part) (same _ _ r)
  same_location (up r) = ap Up (same _ _ r)
  same_location (idx r) = ap Idx (same _ _ r)
  same_location (drawer part key mark r) = ap (λ n. Drawer n part key mark) (same _ _ r)

  cons_same : (v w : Value ℕ) (vs ws : List (Value ℕ)) → v ≡ w → vs ≡ ws → v ∷ vs ≡ w ∷ ws
  cons_same v w vs ws e f = ap (λ x. x ∷ vs) e ∙ ap (λ xs. w ∷ xs) f

  same_values : {vs ws : List (Value ℕ)} → ListLike (ValueLike R) vs ws → vs ≡ ws
  same_values end = refl
  same_values (more v vs) = cons_same _ _ _ _ (same_value v) (same_values vs)

  abbrev instance : ℕ → ℕ → List (Value ℕ) → Instance ℕ
  instance n a vs = record { node = n; attribute = a; arguments = vs }

  pub same_instance : (i j : Instance ℕ) → InstanceLike R i j → i ≡ j
  same_instance i j s =
      ap (λ n. instance n i.attribute i.arguments) (same _ _ s.node) ∙ ap (λ a. instance j.node a i.arguments) s.attribute ∙ ap (λ vs. instance j.node j.attribute vs) (same_values s.arguments)

-- what looks at nodes
nodes_stay : (path : ℕ → Option Node) (e : Edit) (look : Contents ℕ) (Has : Instance ℕ → Value ℕ → Type 0) {A : Type 0}
    (r : Run ℕ A) {ns : List ℕ} {ms : List Node} → ListLike (Names path) ns ms
    → ((n : ℕ) (m : Node) → path n ≡ Some m → Sees look Has (past_nodes ns r) (Is n) → Stays path e n n)
    → ListLike (Stays path e) ns ns
nodes_stay path e look Has r end h = end
nodes_stay path e look Has r (more p ps) h =
    more (h _ _ p (inl refl)) (nodes_stay path e look Has r ps (λ n m q s. h n m q (inr s)))

-- what stands behind them is seen
seen_past : (look : Contents ℕ) (Has : Instance ℕ → Value ℕ → Type 0) {A : Type 0} (r : Run ℕ A) (ns : List ℕ)
    (l : Location ℕ) → Sees look Has r l → Sees look Has (past_nodes ns r) l
seen_past look Has r [] l s = s
seen_past look Has r (n ∷ ns) l s = inr (seen_past look Has r ns l s)

-- what looks at the nodes among the arguments
arguments_stay : (path : ℕ → Option Node) (e : Edit) (look : Contents ℕ) (Has : Instance ℕ → Value ℕ → Type 0) {A : Type 0} (r : Run ℕ A) {vs : List (Value ℕ)} {ws : List (Value Node)} → ListLike (ValueLike (Names path)) vs ws →
    ((n : ℕ) (m : Node) → path n ≡ Some m → Sees look Has (past_arguments vs r) (Is n) → Stays path e n n) → ListLike (ValueLike (Stays path e)) vs vs
arguments_stay path e look Has r end h = end
arguments_stay path e look Has r (more (int n) vs) h = more (int n) (arguments_stay path e look Has r vs h)
arguments_stay path e look Has r (more (truth b) vs) h = more (truth b) (arguments_stay path e look Has r vs h)
arguments_stay path e look Has r (more (text bytes) vs) h = more (text bytes) (arguments_stay path e look Has r vs h)
arguments_stay path e look Has r (more (ref neither) vs) h = more (ref neither) (arguments_stay path e look Has r vs h)
arguments_stay path e look Has r (more (ref (both p)) vs) h = more (ref (both (h _ _ p (inl refl)))) (arguments_stay path e look Has r vs (λ n m q s. h n m q (inr s)))
arguments_stay path e look Has r (more {as' = ws} (nodes {ns = ns} ps) vs) h =
    more (nodes (nodes_stay path e look Has (past_arguments ws r) ps h))
    (arguments_stay path e look Has r vs (λ n m q s. h n m q (seen_past look Has (past_arguments ws r) ns (Is n) s)))

-- numbers that stay, under the paths to which their nodes are carried
module _ {R : ℕ → ℕ → Type 0} (later : ℕ → Option Node) (named : (a b : ℕ) → R a b → (m : Node) × (later b ≡ Some m)) where
  nodes_named : {ns ms : List ℕ} → ListLike R ns ms → (xs : List Node) × ListLike (Names later) ms xs
  nodes_named end = ([], end)
  nodes_named (more r rs) = let (m, p) = named _ _ r in let (xs, ps) = nodes_named rs in (m ∷ xs, more p ps)

  value_named : {v w : Value ℕ} → ValueLike R v w → (x : Value Node) × ValueLike (Names later) w x
  value_named (int n) = (_, int n)
  value_named (truth b) = (_, truth b)
  value_named (text bytes) = (_, text bytes)
  value_named (ref neither) = (_, ref neither)
  value_named (ref (both r)) = let (m, p) = named _ _ r in (Ref (Some m), ref (both p))
  value_named (nodes rs) = let (xs, ps) = nodes_named rs in (Nodes xs, nodes ps)

  values_named : {vs ws : List (Value ℕ)} → ListLike (ValueLike R) vs ws → (xs : List (Value Node)) × ListLike (ValueLike (Names later)) ws xs
  values_named end = ([], end)
  values_named (more v vs) = let (x, s) = value_named v in let (xs, ss) = values_named vs in (x ∷ xs, more s ss)

  pub instance_named : (i j : Instance ℕ) → InstanceLike R i j → (k : Instance Node) × InstanceLike (Names later) j k
  instance_named i j s =
      let (m, p) = named i.node j.node s.node in
      let (xs, ss) = values_named s.arguments in
      (record { node = m; attribute = j.attribute; arguments = xs }, record { node = p; attribute = refl; arguments = ss })

goes_on : (o : Option Node) → is_none o ≡ false → (m : Node) × (o ≡ Some m)
goes_on None h = absurd cc
goes_on (Some m) h = (m, refl)

-- a store's numbers and what they show, before and after an edit that is accepted
pub record IsOver (classes : Classes) (e : Edit) (t u : Tree) (path later : ℕ → Option Node) (old new : Contents ℕ) : Type 0 where
  pub conforming : conforms classes t 0 ≡ true
  pub accepted : edited classes t e ≡ Ok u
  pub there : (k : ℕ) (n : Node) → path k ≡ Some n → (v : Tree) × (tree_at t n ≡ Some v)
  pub apart : IsInjective later
  pub goes : (k : ℕ) (n : Node) → path k ≡ Some n → later k ≡ carried e n
  pub shown : (l : Location ℕ) → AlikeAt (Names path) old (content t) l
  pub shown_later : (l : Location ℕ) → AlikeAt (Names later) new (content u) l

module _ (rules : Rules) {e : Edit} {t u : Tree} {path later : ℕ → Option Node} {old new : Contents ℕ} (over : IsOver rules.classes e t u path later old new) where
  abbrev pub means : Forms ℕ
  means = evaluation rules nat_eq

  joined : (a : ℕ) (n m : Node) (b : ℕ) → Names path a n → Names (carried e) n m → Names later b m → Stays path e a b
  joined a n m b p q r = record { same = over.apart a b m (over.goes a n p ∙ q) r; was = n; goes = m; named = p; carries = q }

  pub named_later : (a b : ℕ) (s : Stays path e a b) → later b ≡ Some s.goes
  named_later a b s = subst (λ z. later z ≡ Some s.goes) s.same (over.goes a s.was s.named ∙ s.carries)

  joined_up : (a : ℕ × ℕ) (n m : Node × ℕ) (b : ℕ × ℕ) → Names path a.0 n.0 × (a.1 ≡ n.1) → Names (carried e) n.0 m.0 × (n.1 ≡ m.1) → Names later b.0 m.0 × (b.1 ≡ m.1) → Stays path e a.0 b.0 × (a.1 ≡ b.1)
  joined_up a n m b p q r = (joined a.0 n.0 m.0 b.0 p.0 q.0 r.0, p.1 ∙ q.1 ∙ sym r.1)

  -- all that is like the location by paths isn't touched
  abbrev pub Untouched : Location ℕ → Type 0
  Untouched l = (m : Location Node) → LocationLike (Names path) l m → touches_in t e m ≡ false

  by_paths : (m : Location Node) → touches_in t e m ≡ false → AlikeAt (Names (carried e)) (content t) (content u) m
  by_paths m free = edited_alike rules.classes t over.conforming e u over.accepted m free

  -- what isn't touched shows the same numbers
  pub alike_there : (l : Location ℕ) → Untouched l → AlikeAt (Stays path e) old new l
  alike_there _ free _ (is {n = a} {m = b} s) =
      over.shown (Is a) (Is s.was) (is s.named) ∙ by_paths (Is s.was) (free (Is s.was) (is s.named)) (Is s.goes) (is s.carries) ∙ sym (over.shown_later (Is b) (Is s.goes) (is (named_later a b s)))
  alike_there _ free _ (tok {n = a} {m = b} part s) =
      over.shown (Tok a part) (Tok s.was part) (tok part s.named) ∙ by_paths (Tok s.was part) (free (Tok s.was part) (tok part s.named)) (Tok s.goes part) (tok part s.carries) ∙ sym (over.shown_later (Tok b part) (Tok s.goes part) (tok part (named_later a b s)))
  alike_there _ free _ (slot {n = a} {m = b} part s) =
      list_round joined (over.shown (Slot a part) (Slot s.was part) (slot part s.named)) (by_paths (Slot s.was part) (free (Slot s.was part) (slot part s.named)) (Slot s.goes part) (slot part s.carries)) (over.shown_later (Slot b part) (Slot s.goes part) (slot part (named_later a b s)))
  alike_there _ free _ (up {n = a} {m = b} s) =
      option_round joined_up (over.shown (Up a) (Up s.was) (up s.named)) (by_paths (Up s.was) (free (Up s.was) (up s.named)) (Up s.goes) (up s.carries)) (over.shown_later (Up b) (Up s.goes) (up (named_later a b s)))
  alike_there _ free _ (idx {n = a} {m = b} s) =
      over.shown (Idx a) (Idx s.was) (idx s.named) ∙ by_paths (Idx s.was) (free (Idx s.was) (idx s.named)) (Idx s.goes) (idx s.carries) ∙ sym (over.shown_later (Idx b) (Idx s.goes) (idx (named_later a b s)))
  alike_there _ free _ (drawer {n = a} {m = b} part key mark s) =
      list_round joined
      (over.shown (Drawer a part key mark) (Drawer s.was part key mark) (drawer part key mark s.named))
      (by_paths (Drawer s.was part key mark) (free (Drawer s.was part key mark) (drawer part key mark s.named))
      (Drawer s.goes part key mark) (drawer part key mark s.carries))
      (over.shown_later (Drawer b part key mark) (Drawer s.goes part key mark)
      (drawer part key mark (named_later a b s)))

  stays_agree : Agrees (Stays path e)
  stays_agree a b c d r s = (λ q. sym r.same ∙ q ∙ s.same, λ q. r.same ∙ q ∙ sym s.same)

  formulas_stay : FormsLike (Stays path e) means means
  formulas_stay = evaluation-like rules nat_eq nat_eq (λ a b c d r s. ap (λ z. nat_eq z b) r.same ∙ ap (λ z. nat_eq c z) s.same)

  pub node_stays : (n : ℕ) (m : Node) → path n ≡ Some m → Untouched (Is n) → Stays path e n n
  node_stays n m p free =
      let (v, found) = over.there n m p in
      let still = (or_off (touches e (Is m)) (shifts t e (Is m)) (free (Is m) (is p))).0 in
      let gone = gone_where_touched rules.classes t u e over.accepted m v found in
      let (x, carries) = goes_on (carried e m) (gone ∙ still) in
      record { same = refl; was = m; goes = x; named = p; carries = carries }

  -- an instance of the tree that rests on nothing that is touched
  module _ (i : Instance ℕ) (j : Instance Node) (like : InstanceLike (Names path) i j) (free : (l : Location ℕ) → Supports old means l i → Untouched l) where
    pub instance_stays : InstanceLike (Stays path e) i i
    instance_stays = record {
      node = node_stays i.node j.node like.node (free (Is i.node) (i, stays i, inl refl));
      attribute = refl;
      arguments = arguments_stay path e old (HasValue old means) _ like.arguments (λ n m p s. node_stays n m p (free (Is n) (i, stays i, inr s)));
    }

    below_alike : AlikeBelow (Stays path e) old new means i
    below_alike l rests = alike_there l (free l rests)

    pub there_later : (k : Instance Node) × InstanceLike (Names later) i k
    there_later = instance_named later (λ a b s. (s.goes, named_later a b s)) i i instance_stays

    pub value_later : (v : Value ℕ) → HasValue old means i v → HasValue new means i v
    value_later v h =
        let (p, g, l) = outcome_there stays_agree old new means means formulas_stay i i (Finds v)
        (instance_stays, below_alike) h in
        let (w, q, s) = found_like v l refl in
        subst (HasValue new means i) (sym (same_value (λ a b r. r.same) s)) (subst (Holds new means i) q g)

    pub support_before : (v : Value ℕ) → HasValue old means i v → (l : Location ℕ) → Supports new means l i → Supports old means l i
    support_before v h l rests =
        let (m, s, before) = supports_back stays_agree old new means means formulas_stay i i l (instance_stays, below_alike) rests in
        subst (λ z. Supports old means z i) (same_location (λ a b r. r.same) s) before

    pub support_later : (l : Location ℕ) → Supports old means l i → Supports new means l i
    support_later l rests =
        let (m, s, after) = supports_there stays_agree old new means means formulas_stay i i l (instance_stays, below_alike) rests in
        subst (λ z. Supports new means z i) (sym (same_location (λ a b r. r.same) s)) after

    pub led_before : (v : Value ℕ) → HasValue old means i v → (k : Instance ℕ) → Leads new means i k → Leads old means i k
    led_before v h k led =
        let (m, (s, rest), before) = leads_back stays_agree old new means means formulas_stay i i k (instance_stays, below_alike) led in
        subst (Leads old means i) (same_instance (λ a b r. r.same) m k s) before

  -- what supports an instance of the tree is a location of the tree
  pub located : IsInjective path → (i : Instance ℕ) (j : Instance Node) → InstanceLike (Names path) i j → (l : Location ℕ) → Supports old means l i → (m : Location Node) × LocationLike (Names path) l m
  located named_once i j like l rests =
      let alike = evaluation-like rules nat_eq node_eq (same_like nat_eq node_eq nat_eq-is node_eq-is path named_once) in
      let (m, s, there) = supports_there (names_agree path named_once) old (content t) means (forms rules) alike i j l (like, λ x h. over.shown x) rests in
      (m, s)
