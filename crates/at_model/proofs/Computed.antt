-- What is kept over lines, and the work of each, computed: where all that questions lead to is reached by demands that are
-- nested less than a height deep, the definitions say just what is computed.
use Rattle.std.proofs.Common.{◌≡◌, ◌↔◌, ℕ, Bool, true, false, not, cond, ◌&&◌, ◌||◌, nat_eq, List, [], ◌∷◌, ◌++◌, length, map, Option, Some, None, ◌⊎◌, inl, inr, refl, sym, ap, ◌∙◌, subst}
use Rattle.std.specs.Prelude.{is_some}
use Rattle.std.specs.List.{flat_map, list_all, list_any}
use Rattle.std.specs.Ordering.{int_eq}
use Rattle.std.specs.Option.{option_map, option_and_then}
use Rattle.std.specs.Str.{bytes_eq}
use Rattle.std.proofs.lemmas.Bool.Decides.{Decides-int_eq}
use Rattle.std.proofs.lemmas.Slice.Eq.{bytes_eq-Decides}
use Rattle.at_model.specs.Trees.{Tree}
use Rattle.at_model.specs.Paths.{Node, node_eq}
use Rattle.at_model.specs.Run.{Value, Int, Truth, Text, Ref, Nodes, Instance, Location, Known, reads}
use Rattle.at_model.specs.Bodies.{bool_eq, ref_eq}
use Rattle.at_model.specs.Rules.{Rules, is_lazy, start_of}
use Rattle.at_model.specs.Meaning.{Outcome, Finds, Faults, value_in, outcome_at, HasValue, Among, Distinct, Right, content, equations}
use Rattle.at_model.specs.Alike.{neither, both, ListLike, end, more, ValueLike, int, truth, text, ref, nodes, InstanceLike, Names}
use Rattle.at_model.specs.Edits.{Edit, carried}
use Rattle.at_model.specs.Touches.{touches_in}
use Rattle.at_model.specs.Lines.{Line, Spells, line_text}
use Rattle.at_model.specs.Machine.{State, Verdict, Refuses, Tells, Leaves, Edits, Asks, Posts, Waits, after}
use Rattle.at_model.specs.Sparing.{IsWorthKeeping, KeptAfter, AreAdded, IsWork}
use Rattle.at_model.specs.of_fixpoints.Evaluations.{forms}
use Rattle.at_model.specs.of_fixpoints.Formulas.{Forms}
use Rattle.at_model.specs.of_fixpoints.Resting.{IsUntouched, Supports}
use Rattle.at_model.specs.Support as support
use Rattle.at_model.specs.Keeping.{heard, AreWorks, NothingKept}
use Rattle.at_model.specs.Working.{Effort, AreHeard, Works}
use Rattle.at_model.proofs.of_texts.PlainLines.{is_plain_line, spelled}
use Rattle.at_model.proofs.Options.{led, mapped, both as both_of, and_true}
use Rattle.at_model.proofs.Nodes.{node_eq-is, nat_eq-is}
use Rattle.at_model.proofs.Outcomes.{once}
use Rattle.at_model.proofs.FaultPlaces.{below_right}
use Rattle.at_model.proofs.of_formulas.PlainAnswers.{supports_on, supports_off}
use Rattle.at_model.proofs.of_formulas.PlainAnswered.{all_plain, plain_starts}
use Rattle.at_model.proofs.of_formulas.PlainRules.{rules_plain}
use Rattle.at_model.proofs.of_formulas.WorthKeeping.{worth_by_equations}
use Rattle.at_model.proofs.Reached.{AreLost, reached, leads_in, in_leads, sees_in, in_sees, each_demands, either_among, front_among, back_among}

-- tests that decide --------------------------------------------------------------------------------------------------

-- the same value
abbrev same_nodes : List Node → List Node → Bool
same_nodes [] [] = true
same_nodes [] (m ∷ ms) = false
same_nodes (n ∷ ns) [] = false
same_nodes (n ∷ ns) (m ∷ ms) = node_eq n m && same_nodes ns ms

abbrev pub same_value : Value Node → Value Node → Bool
same_value (Int m) (Int n) = int_eq m n
same_value (Truth a) (Truth b) = bool_eq a b
same_value (Text a) (Text b) = bytes_eq a b
same_value (Ref a) (Ref b) = ref_eq node_eq a b
same_value (Nodes ns) (Nodes ms) = same_nodes ns ms
same_value v w = false

same_truth : (a b : Bool) → bool_eq a b ≡ true → a ≡ b
same_truth true true e = refl
same_truth true false e = absurd cc
same_truth false true e = absurd cc
same_truth false false e = refl

same_ref : (a b : Option Node) → ref_eq node_eq a b ≡ true → a ≡ b
same_ref None None e = refl
same_ref None (Some n) e = absurd cc
same_ref (Some m) None e = absurd cc
same_ref (Some m) (Some n) e = ap Some ((node_eq-is m n).0 e)

nodes_sound : (ns ms : List Node) → same_nodes ns ms ≡ true → ns ≡ ms
nodes_sound [] [] e = refl
nodes_sound [] (m ∷ ms) e = absurd cc
nodes_sound (n ∷ ns) [] e = absurd cc
nodes_sound (n ∷ ns) (m ∷ ms) e =
    let (f, g) = both_of (node_eq n m) (same_nodes ns ms) e in
    ap (λ x. x ∷ ns) ((node_eq-is n m).0 f) ∙ ap (λ xs. m ∷ xs) (nodes_sound ns ms g)

nodes_same : (ns : List Node) → same_nodes ns ns ≡ true
nodes_same [] = refl
nodes_same (n ∷ ns) = and_true (node_eq n n) (same_nodes ns ns) ((node_eq-is n n).1 refl) (nodes_same ns)

value_sound : (v w : Value Node) → same_value v w ≡ true → v ≡ w
value_sound (Int m) (Int n) e = ap Int ((Decides-int_eq m n).0 e)
value_sound (Int m) (Truth b) e = absurd cc
value_sound (Int m) (Text b) e = absurd cc
value_sound (Int m) (Ref b) e = absurd cc
value_sound (Truth a) (Int n) e = absurd cc
value_sound (Truth a) (Truth b) e = ap Truth (same_truth a b e)
value_sound (Truth a) (Text b) e = absurd cc
value_sound (Truth a) (Ref b) e = absurd cc
value_sound (Text a) (Int n) e = absurd cc
value_sound (Text a) (Truth b) e = absurd cc
value_sound (Text a) (Text b) e = ap Text ((bytes_eq-Decides a b).0 e)
value_sound (Text a) (Ref b) e = absurd cc
value_sound (Ref a) (Int n) e = absurd cc
value_sound (Ref a) (Truth b) e = absurd cc
value_sound (Ref a) (Text b) e = absurd cc
value_sound (Ref a) (Ref b) e = ap Ref (same_ref a b e)
value_sound (Int m) (Nodes ns) e = absurd cc
value_sound (Truth a) (Nodes ns) e = absurd cc
value_sound (Text a) (Nodes ns) e = absurd cc
value_sound (Ref a) (Nodes ns) e = absurd cc
value_sound (Nodes ns) (Int n) e = absurd cc
value_sound (Nodes ns) (Truth b) e = absurd cc
value_sound (Nodes ns) (Text b) e = absurd cc
value_sound (Nodes ns) (Ref b) e = absurd cc
value_sound (Nodes ns) (Nodes ms) e = ap Nodes (nodes_sound ns ms e)

value_same : (v : Value Node) → same_value v v ≡ true
value_same (Int n) = (Decides-int_eq n n).1 refl
value_same (Truth true) = refl
value_same (Truth false) = refl
value_same (Text a) = (bytes_eq-Decides a a).1 refl
value_same (Ref None) = refl
value_same (Ref (Some n)) = (node_eq-is n n).1 refl
value_same (Nodes ns) = nodes_same ns

abbrev pub same_values : List (Value Node) → List (Value Node) → Bool
same_values [] [] = true
same_values [] (w ∷ ws) = false
same_values (v ∷ vs) [] = false
same_values (v ∷ vs) (w ∷ ws) = same_value v w && same_values vs ws

values_sound : (vs ws : List (Value Node)) → same_values vs ws ≡ true → vs ≡ ws
values_sound [] [] e = refl
values_sound [] (w ∷ ws) e = absurd cc
values_sound (v ∷ vs) [] e = absurd cc
values_sound (v ∷ vs) (w ∷ ws) e =
    let (f, g) = both_of (same_value v w) (same_values vs ws) e in
    ap (λ x. x ∷ vs) (value_sound v w f) ∙ ap (λ xs. w ∷ xs) (values_sound vs ws g)

values_same : (vs : List (Value Node)) → same_values vs vs ≡ true
values_same [] = refl
values_same (v ∷ vs) = and_true (same_value v v) (same_values vs vs) (value_same v) (values_same vs)

-- the same instance
abbrev pub same : Instance Node → Instance Node → Bool
same i j = node_eq i.node j.node && (nat_eq i.attribute j.attribute && same_values i.arguments j.arguments)

same_sound : (i j : Instance Node) → same i j ≡ true → i ≡ j
same_sound i j e =
    let (f, rest) = both_of (node_eq i.node j.node) (nat_eq i.attribute j.attribute && same_values i.arguments j.arguments) e in
    let (g, h) = both_of (nat_eq i.attribute j.attribute) (same_values i.arguments j.arguments) rest in
    let nodes : i.node ≡ j.node = (node_eq-is i.node j.node).0 f in
    let attributes : i.attribute ≡ j.attribute = (nat_eq-is i.attribute j.attribute).0 g in
    let arguments : i.arguments ≡ j.arguments = values_sound i.arguments j.arguments h in
    λ x. record { node = nodes x; attribute = attributes x; arguments = arguments x }

same_is : (i : Instance Node) → same i i ≡ true
same_is i = and_true (node_eq i.node i.node) (nat_eq i.attribute i.attribute && same_values i.arguments i.arguments) ((node_eq-is i.node i.node).1 refl)
    (and_true (nat_eq i.attribute i.attribute) (same_values i.arguments i.arguments) ((nat_eq-is i.attribute i.attribute).1 refl) (values_same i.arguments))

-- it is one of these
abbrev pub is_among : Instance Node → List (Instance Node) → Bool
is_among i xs = list_any (same i) xs

pub among_sound : (i : Instance Node) (xs : List (Instance Node)) → is_among i xs ≡ true → Among i xs
among_sound i [] e = absurd cc
among_sound i (x ∷ xs) e = at_head (same i x) refl e (among_sound i xs)
  where
    at_head : (b : Bool) → same i x ≡ b → (b || is_among i xs) ≡ true → (is_among i xs ≡ true → Among i xs) → Among i (x ∷ xs)
    at_head true is f rest = inl (same_sound i x is)
    at_head false is f rest = inr (rest f)

pub among_is : (i : Instance Node) (xs : List (Instance Node)) → Among i xs → is_among i xs ≡ true
among_is i [] h = absurd h
among_is i (x ∷ xs) (inl e) = rw (subst (λ y. same i y ≡ true) e (same_is i)) refl
among_is i (x ∷ xs) (inr h) = at_tail (same i x) (among_is i xs h)
  where
    at_tail : (b : Bool) → is_among i xs ≡ true → (b || is_among i xs) ≡ true
    at_tail true e = refl
    at_tail false e = e

passed : {A : Type 0} (test : A → Bool) (xs : List A) → list_all test xs ≡ true → (a : A) → Among a xs → test a ≡ true
passed test [] e a h = absurd h
passed test (x ∷ xs) e a (inl s) = subst (λ y. test y ≡ true) (sym s) (both_of (test x) (list_all test xs) e).0
passed test (x ∷ xs) e a (inr h) = passed test xs (both_of (test x) (list_all test xs) e).1 a h

one_passes : {A : Type 0} (test : A → Bool) (xs : List A) (a : A) → Among a xs → test a ≡ true → list_any test xs ≡ true
one_passes test [] a h e = absurd h
one_passes test (x ∷ xs) a (inl s) e = rw (subst (λ y. test y ≡ true) s e) refl
one_passes test (x ∷ xs) a (inr h) e = at_tail (test x) (one_passes test xs a h e)
  where
    at_tail : (b : Bool) → list_any test xs ≡ true → (b || list_any test xs) ≡ true
    at_tail true f = refl
    at_tail false f = f

passing_one : {A : Type 0} (test : A → Bool) (xs : List A) → list_any test xs ≡ true → (a : A) × Among a xs × (test a ≡ true)
passing_one test [] e = absurd cc
passing_one {A} test (x ∷ xs) e = at_head (test x) refl e (passing_one test xs)
  where
    at_head : (b : Bool) → test x ≡ b → (b || list_any test xs) ≡ true → (list_any test xs ≡ true → (a : A) × Among a xs × (test a ≡ true)) → (a : A) × Among a (x ∷ xs) × (test a ≡ true)
    at_head true is f rest = (x, inl refl, is)
    at_head false is f rest = let (a, h, g) = rest f in (a, inr h, g)

in_flat : {A B : Type 0} (f : A → List B) (xs : List A) (b : B) → Among b (flat_map f xs) → (x : A) × Among x xs × Among b (f x)
in_flat f [] b h = absurd h
in_flat f (y ∷ ys) b h = elim (either_among b (f y) (flat_map f ys) h) [
  | inl g ↦ (y, inl refl, g)
  | inr g ↦ let (x, m, n) = in_flat f ys b g in (x, inr m, n)
]

flat_in : {A B : Type 0} (f : A → List B) (xs : List A) (x : A) (b : B) → Among x xs → Among b (f x) → Among b (flat_map f xs)
flat_in f [] x b h g = absurd h
flat_in f (y ∷ ys) x b (inl s) g = front_among b (f y) (flat_map f ys) (subst (λ z. Among b (f z)) s g)
flat_in f (y ∷ ys) x b (inr h) g = back_among b (f y) (flat_map f ys) (flat_in f ys x b h g)

-- where an instance is carried ----------------------------------------------------------------------------------------

abbrev carried_nodes : Edit → List Node → Option (List Node)
carried_nodes e [] = Some []
carried_nodes e (n ∷ ns) = option_and_then (λ m. option_map (λ ms. m ∷ ms) (carried_nodes e ns)) (carried e n)

abbrev carried_value : Edit → Value Node → Option (Value Node)
carried_value e (Int n) = Some (Int n)
carried_value e (Truth b) = Some (Truth b)
carried_value e (Text bytes) = Some (Text bytes)
carried_value e (Ref None) = Some (Ref None)
carried_value e (Ref (Some n)) = option_map (λ m. Ref (Some m)) (carried e n)
carried_value e (Nodes ns) = option_map (λ ms. Nodes ms) (carried_nodes e ns)

abbrev carried_values : Edit → List (Value Node) → Option (List (Value Node))
carried_values e [] = Some []
carried_values e (v ∷ vs) = option_and_then (λ w. option_map (λ ws. w ∷ ws) (carried_values e vs)) (carried_value e v)

abbrev carried_instance : Edit → Instance Node → Option (Instance Node)
carried_instance e i = option_and_then (λ n. option_map (λ vs. record { node = n; attribute = i.attribute; arguments = vs }) (carried_values e i.arguments)) (carried e i.node)

nodes_go : (e : Edit) (ns ms : List Node) → ListLike (Names (carried e)) ns ms → carried_nodes e ns ≡ Some ms
nodes_go e ns ms end = refl
nodes_go e ns ms (more {a = n} {b = m} {as' = ns'} {bs = ms'} there rest) = let found : carried e n ≡ Some m = there in rw (found, nodes_go e ns' ms' rest) refl

value_goes : (e : Edit) (v w : Value Node) → ValueLike (Names (carried e)) v w → carried_value e v ≡ Some w
value_goes e v w (int n) = refl
value_goes e v w (truth b) = refl
value_goes e v w (text bytes) = refl
value_goes e v w (ref neither) = refl
value_goes e v w (ref (both {a = n} {b = m} there)) = let found : carried e n ≡ Some m = there in rw found refl
value_goes e v w (nodes {ns = ns} {ms = ms} like) = rw (nodes_go e ns ms like) refl

values_go : (e : Edit) (vs ws : List (Value Node)) → ListLike (ValueLike (Names (carried e))) vs ws → carried_values e vs ≡ Some ws
values_go e vs ws end = refl
values_go e vs ws (more {a = v} {b = w} {as' = vs'} {bs = ws'} like rest) = rw (value_goes e v w like, values_go e vs' ws' rest) refl

goes : (e : Edit) (i j : Instance Node) → InstanceLike (Names (carried e)) i j → carried_instance e i ≡ Some j
goes e i j like =
    let node : carried e i.node ≡ Some j.node = like.node in
    let there : carried_instance e i ≡ Some (record { node = j.node; attribute = i.attribute; arguments = j.arguments }) = rw (node, values_go e i.arguments j.arguments like.arguments) refl in
    there ∙ ap (λ k. Some (record { node = j.node; attribute = k; arguments = j.arguments })) like.attribute

go_nodes : (e : Edit) (ns ms : List Node) → carried_nodes e ns ≡ Some ms → ListLike (Names (carried e)) ns ms
go_nodes e [] ms h = let s : [] ≡ ms = cc in subst (ListLike (Names (carried e)) []) s end
go_nodes e (n ∷ ns) ms h =
    let (m, one, f) = led (λ (m : Node). option_map (λ (ms : List Node). m ∷ ms) (carried_nodes e ns)) (carried e n) ms h in
    let (us, rest, s) = mapped (λ (ms : List Node). m ∷ ms) (carried_nodes e ns) ms f in
    subst (ListLike (Names (carried e)) (n ∷ ns)) s (more one (go_nodes e ns us rest))

goes_value : (e : Edit) (v w : Value Node) → carried_value e v ≡ Some w → ValueLike (Names (carried e)) v w
goes_value e (Int n) w h = let s : Int n ≡ w = cc in subst (ValueLike (Names (carried e)) (Int n)) s (int n)
goes_value e (Truth b) w h = let s : Truth b ≡ w = cc in subst (ValueLike (Names (carried e)) (Truth b)) s (truth b)
goes_value e (Text bytes) w h = let s : Text bytes ≡ w = cc in subst (ValueLike (Names (carried e)) (Text bytes)) s (text bytes)
goes_value e (Ref None) w h = let s : Ref None ≡ w = cc in subst (ValueLike (Names (carried e)) (Ref None)) s (ref neither)
goes_value e (Ref (Some n)) w h =
    let (m, is, s) = mapped (λ (m : Node). Ref (Some m)) (carried e n) w h in
    subst (ValueLike (Names (carried e)) (Ref (Some n))) s (ref (both is))
goes_value e (Nodes ns) w h =
    let (ms, is, s) = mapped (λ (ms : List Node). Nodes ms) (carried_nodes e ns) w h in
    subst (ValueLike (Names (carried e)) (Nodes ns)) s (nodes (go_nodes e ns ms is))

go_values : (e : Edit) (vs ws : List (Value Node)) → carried_values e vs ≡ Some ws → ListLike (ValueLike (Names (carried e))) vs ws
go_values e [] ws h = let s : [] ≡ ws = cc in subst (ListLike (ValueLike (Names (carried e))) []) s end
go_values e (v ∷ vs) ws h =
    let (w, one, f) = led (λ (w : Value Node). option_map (λ (ws : List (Value Node)). w ∷ ws) (carried_values e vs)) (carried_value e v) ws h in
    let (us, rest, s) = mapped (λ (ws : List (Value Node)). w ∷ ws) (carried_values e vs) ws f in
    subst (ListLike (ValueLike (Names (carried e))) (v ∷ vs)) s (more (goes_value e v w one) (go_values e vs us rest))

go : (e : Edit) (i j : Instance Node) → carried_instance e i ≡ Some j → InstanceLike (Names (carried e)) i j
go e i j h =
    let (n, node, f) = led (λ (n : Node). option_map (λ (vs : List (Value Node)). record {
      node = n;
      attribute = i.attribute;
      arguments = vs;
    }) (carried_values e i.arguments)) (carried e i.node) j h in
    let (vs, arguments, s) = mapped (λ (vs : List (Value Node)). record { node = n; attribute = i.attribute; arguments = vs }) (carried_values e i.arguments) j f in
    subst (InstanceLike (Names (carried e)) i) s (record { node = node; attribute = refl; arguments = go_values e i.arguments vs arguments })

some_is : {A : Type 0} (a b : A) → Some a ≡ Some b → a ≡ b
some_is a b e = cc

-- the list has just what is kept
abbrev pub Exactly : (Instance Node → Type 0) → List (Instance Node) → Type 0
Exactly Kept ks = (i : Instance Node) → Kept i ↔ Among i ks

module _ (rules : Rules) (height : ℕ) (plain : all_plain rules.attributes ≡ true) where
  has_none : (attribute : ℕ) → start_of rules attribute ≡ None
  has_none = plain_starts rules plain

  -- what supports an instance, by equations
  supported : (t : Tree) (i : Instance Node) (l : Location Node) → Supports (content t) (forms rules) l i →
      support.Supports (content t) (equations rules) l i
  supported t i l s = supports_off (content t) (equations rules) l i
      (subst (λ (z : Forms Node). Supports (content t) z l i) (rules_plain rules node_eq has_none) s)

  supporting : (t : Tree) (i : Instance Node) (l : Location Node) → support.Supports (content t) (equations rules) l i →
      Supports (content t) (forms rules) l i
  supporting t i l s = subst (λ (z : Forms Node). Supports (content t) z l i) (sym (rules_plain rules node_eq has_none))
      (supports_on (content t) (equations rules) l i s)

  abbrev values : Tree → Known Node
  values t i = value_in (outcome_at (content t) (equations rules) height i)

  right : (t : Tree) → Right (content t) (equations rules) (values t)
  right t = below_right (content t) (equations rules) height

  -- an instance with a fault has no value
  abbrev has_fault : Option (Outcome Node) → Bool
  has_fault None = false
  has_fault (Some (Finds v)) = false
  has_fault (Some (Faults f i)) = true

  abbrev lost : Tree → Instance Node → Bool
  lost t i = has_fault (outcome_at (content t) (equations rules) height i)

  are_lost : (t : Tree) → AreLost (content t) (equations rules) (lost t)
  are_lost t i v e h = by_outcome (outcome_at (content t) (equations rules) height i) refl e
    where
      by_outcome : (o : Option (Outcome Node)) → outcome_at (content t) (equations rules) height i ≡ o → has_fault o ≡ true → ⊥
      by_outcome None is e = cc
      by_outcome (Some (Finds w)) is e = cc
      by_outcome (Some (Faults f j)) is e = let s : Finds v ≡ Faults f j = once (content t) (equations rules) i (Finds v) (Faults f j) h (height, is) in cc

  abbrev reach : Tree → Instance Node → Option (List (Instance Node))
  reach t i = reached (content t) (equations rules) (values t) (lost t) height i

  -- questions ---------------------------------------------------------------------------------------------------------

  abbrev is_worth : Tree → Instance Node → Bool
  is_worth t i = is_lazy rules i.attribute && is_some (values t i)

  -- the outcome of what is lazy is known
  abbrev is_told : Tree → Instance Node → Bool
  is_told t i = not (is_lazy rules i.attribute) || is_some (outcome_at (content t) (equations rules) height i)

  -- each once that is worth keeping and not among those
  abbrev added : Tree → List (Instance Node) → List (Instance Node) → List (Instance Node)
  added t ks [] = []
  added t ks (x ∷ xs) = cond (is_worth t x && not (is_among x ks)) (x ∷ added t (x ∷ ks) xs) (added t ks xs)

  -- what an added one is
  abbrev IsNew : Tree → List (Instance Node) → List (Instance Node) → Instance Node → Type 0
  IsNew t ks xs a = Among a xs × (is_worth t a ≡ true) × (¬ (Among a ks))

  added_new : (t : Tree) (ks xs : List (Instance Node)) (a : Instance Node) → Among a (added t ks xs) → IsNew t ks xs a
  added_new t ks [] a h = absurd h
  added_new t ks (x ∷ xs) a h = at_head (is_worth t x && not (is_among x ks)) refl h (added_new t (x ∷ ks) xs a) (added_new t ks xs a)
    where
      not_among : (b : Bool) → is_among x ks ≡ b → not b ≡ true → Among x ks → ⊥
      not_among true is f m = absurd cc
      not_among false is f m = let g : is_among x ks ≡ true = among_is x ks m in absurd cc

      at_head : (b : Bool) → (is_worth t x && not (is_among x ks)) ≡ b → Among a
          (cond b (x ∷ added t (x ∷ ks) xs) (added t ks xs)) → (Among a (added t (x ∷ ks) xs) → IsNew t (x ∷ ks) xs a)
          → (Among a (added t ks xs) → IsNew t ks xs a) → IsNew t ks (x ∷ xs) a
      at_head true is (inl s) one other =
          let (w, n) = both_of (is_worth t x) (not (is_among x ks)) is in
          (inl s, subst (λ y. is_worth t y ≡ true) (sym s) w, λ m. not_among (is_among x ks) refl n (subst (λ y. Among y ks) s m))
      at_head true is (inr m) one other = let (b, w, n) = one m in (inr b, w, λ k. n (inr k))
      at_head false is m one other = let (b, w, n) = other m in (inr b, w, n)

  new_added : (t : Tree) (ks xs : List (Instance Node)) (a : Instance Node) → IsNew t ks xs a → Among a (added t ks xs)
  new_added t ks [] a (h, w, n) = absurd h
  new_added t ks (x ∷ xs) a (h, w, n) = at_head (is_worth t x && not (is_among x ks)) (same a x) refl refl h (λ m k. new_added t (x ∷ ks) xs a (m, w, k)) (λ m. new_added t ks xs a (m, w, n))
    where
      free : (b : Bool) → is_among x ks ≡ b → (Among x ks → ⊥) → not b ≡ true
      free true is f = absurd (f (among_sound x ks is))
      free false is f = refl

      no_less : (a ≡ x) → (is_worth t x && not (is_among x ks)) ≡ true
      no_less s = and_true (is_worth t x) (not (is_among x ks)) (subst (λ y. is_worth t y ≡ true) s w) (free (is_among x ks) refl (λ m. n (subst (λ y. Among y ks) (sym s) m)))

      at_head : (b c : Bool) → (is_worth t x && not (is_among x ks)) ≡ b → same a x ≡ c → Among a (x ∷ xs)
          → (Among a xs → (¬ (Among a (x ∷ ks))) → Among a (added t (x ∷ ks) xs))
          → (Among a xs → Among a (added t ks xs)) → Among a (cond b (x ∷ added t (x ∷ ks) xs) (added t ks xs))
      at_head true true is also m one other = inl (same_sound a x also)
      at_head true false is also (inl s) one other = inl s
      at_head true false is also (inr m) one other = inr (one m (λ k. elim k [ inl s ↦ (let f : same a x ≡ true = subst (λ y. same a y ≡ true) s (same_is a) in absurd cc) | inr k ↦ n k ]))
      at_head false c is also (inl s) one other = let f : (is_worth t x && not (is_among x ks)) ≡ true = no_less s in absurd cc
      at_head false c is also (inr m) one other = other m

  added_once : (t : Tree) (ks xs : List (Instance Node)) → Distinct (added t ks xs)
  added_once t ks [] = tt
  added_once t ks (x ∷ xs) = at_head (is_worth t x && not (is_among x ks)) (added_once t (x ∷ ks) xs) (added_once t ks xs) (λ m. (added_new t (x ∷ ks) xs x m).2 (inl refl))
    where
      at_head : (b : Bool) → Distinct (added t (x ∷ ks) xs) → Distinct (added t ks xs) → (Among x (added t (x ∷ ks) xs) → ⊥) → Distinct (cond b (x ∷ added t (x ∷ ks) xs) (added t ks xs))
      at_head true d e f = (f, d)
      at_head false d e f = e

  some_value : {A : Type 0} (o : Option A) → is_some o ≡ true → (a : A) × (o ≡ Some a)
  some_value None e = absurd cc
  some_value (Some a) e = (a, refl)

  module _ (t : Tree) (q : Instance Node) (rs : List (Instance Node)) (is : reach t q ≡ Some rs) (told : list_all (is_told t) rs ≡ true) where
    worth_of : (a : Instance Node) → Among a rs → is_worth t a ≡ true → IsWorthKeeping rules t q a
    worth_of a m w =
        let (lazy, known) = both_of (is_lazy rules a.attribute) (is_some (values t a)) w in
        let (v, e) = some_value (values t a) known in
        (worth_by_equations rules t q a has_none).1
        (in_leads (content t) (equations rules) (values t) (lost t) (right t) (are_lost t) height q a rs is m, lazy, (v, right t a v e))

    of_worth : (a : Instance Node) → IsWorthKeeping rules t q a → Among a rs × (is_worth t a ≡ true)
    of_worth a w =
        let (reached, lazy, (v, has)) = (worth_by_equations rules t q a has_none).0 w in
        let m : Among a rs = leads_in (content t) (equations rules) (values t) (lost t) (right t) (are_lost t) height q a rs is reached in
        (m, by_lazy v has (is_lazy rules a.attribute) (outcome_at (content t) (equations rules) height a) refl lazy (passed (is_told t) rs told a m))
      where
        by_lazy : (v : Value Node) → HasValue (content t) (equations rules) a v → (b : Bool) (o : Option (Outcome Node)) → outcome_at (content t) (equations rules) height a ≡ o → b ≡ true → (not b || is_some o) ≡ true → (b && is_some (value_in o)) ≡ true
        by_lazy v has true (Some o) is e f =
            let found : Finds v ≡ o = once (content t) (equations rules) a (Finds v) o has (height, is) in
            subst (λ (x : Outcome Node). is_some (value_in (Some x)) ≡ true) found refl
        by_lazy v has true None is e f = absurd cc
        by_lazy v has false o is e f = absurd cc

    are_added : (Kept : Instance Node → Type 0) (ks : List (Instance Node)) → Exactly Kept ks → AreAdded rules t q Kept (added t ks rs)
    are_added Kept ks just = record {
      distinct = added_once t ks rs;
      exactly = λ a. (
        λ m. (let (b, w, n) = added_new t ks rs a m in (worth_of a b w, λ k. n ((just a).0 k))),
        λ w. (let (m, e) = of_worth a w.0 in new_added t ks rs a (m, e, λ k. w.1 ((just a).1 k))),
      );
    }

    kept_asked : (Kept : Instance Node → Type 0) (ks : List (Instance Node)) → Exactly Kept ks → Exactly (λ j. Kept j ⊎ IsWorthKeeping rules t q j) (ks ++ added t ks rs)
    kept_asked Kept ks just a = (
      λ h. elim h [
        | inl k ↦ front_among a ks (added t ks rs) ((just a).0 k)
        | inr w ↦ (let (m, e) = of_worth a w in either (is_among a ks) refl m e)
      ],
      λ m. elim (either_among a ks (added t ks rs) m) [
        | inl k ↦ inl ((just a).1 k)
        | inr n ↦ (let (b, w, fresh) = added_new t ks rs a n in inr (worth_of a b w))
      ],
    )
      where
        none : is_among a ks ≡ false → Among a ks → ⊥
        none f m = let g : is_among a ks ≡ true = among_is a ks m in cc

        either : (b : Bool) → is_among a ks ≡ b → Among a rs → is_worth t a ≡ true → Among a (ks ++ added t ks rs)
        either true f m e = front_among a ks (added t ks rs) (among_sound a ks f)
        either false f m e = back_among a ks (added t ks rs) (new_added t ks rs a (m, e, none f))

  -- edits -------------------------------------------------------------------------------------------------------------

  abbrev reads_of : Tree → Instance Node → List (Location Node)
  reads_of t i = reads (content t) (values t) (equations rules i)

  abbrev is_touched : Tree → Edit → List (Instance Node) → Bool
  is_touched t e rs = list_any (touches_in t e) (flat_map (reads_of t) rs)

  -- one more in front, where there is one
  abbrev and_more : Option (Instance Node) → List (Instance Node) → List (Instance Node)
  and_more None js = js
  and_more (Some j) js = j ∷ js

  abbrev spared : Tree → Edit → List (Instance Node) → Option (List (Instance Node))
  spared t e [] = Some []
  spared t e (k ∷ ks) = option_and_then (λ rs. option_map (λ js. cond (is_touched t e rs) js (and_more (carried_instance e k) js)) (spared t e ks)) (reach t k)

  untouched : (t : Tree) (e : Edit) (i : Instance Node) (rs : List (Instance Node)) → reach t i ≡ Some rs → is_touched t e rs ≡ false → IsUntouched rules t e i
  untouched t e i rs is free l rests =
      let s = supported t i l rests in
      let among = leads_in (content t) (equations rules) (values t) (lost t) (right t) (are_lost t) height i s.0 rs is s.1 in
      let d = each_demands (content t) (equations rules) (values t) (lost t) height i s.0 rs is among in
      let seen = sees_in (content t) (equations rules) (values t) (lost t) (right t) (are_lost t) (equations rules s.0) l d.0 d.1 s.2 in
      by_test (touches_in t e l) refl (flat_in (reads_of t) rs s.0 l among seen)
    where
      by_test : (b : Bool) → touches_in t e l ≡ b → Among l (flat_map (reads_of t) rs) → touches_in t e l ≡ false
      by_test false f h = f
      by_test true f h = let g : is_touched t e rs ≡ true = one_passes (touches_in t e) (flat_map (reads_of t) rs) l h f in absurd cc

  touched : (t : Tree) (e : Edit) (i : Instance Node) (rs : List (Instance Node)) → reach t i ≡ Some rs → is_touched t e rs ≡ true → IsUntouched rules t e i → ⊥
  touched t e i rs is some free =
      let (l, m, f) = passing_one (touches_in t e) (flat_map (reads_of t) rs) some in
      let (j, n, seen) = in_flat (reads_of t) rs l m in
      let g : touches_in t e l ≡ false = free l (supporting t i l (
        j,
        in_leads (content t) (equations rules) (values t) (lost t) (right t) (are_lost t) height i j rs is n,
        in_sees (content t) (equations rules) (values t) (right t) (equations rules j) l seen,
      )) in cc

  -- kept among these, not touched, and then called this
  abbrev Stays : Tree → Edit → List (Instance Node) → Instance Node → Type 0
  Stays t e ks j = (i : Instance Node) × Among i ks × IsUntouched rules t e i × InstanceLike (Names (carried e)) i j

  later : (t : Tree) (e : Edit) (k : Instance Node) (ks : List (Instance Node)) (j : Instance Node) → Stays t e ks j → Stays t e (k ∷ ks) j
  later t e k ks j (i, m, free, like) = (i, inr m, free, like)

  spares : (t : Tree) (e : Edit) (ks js : List (Instance Node)) → spared t e ks ≡ Some js → (j : Instance Node) → Stays t e ks j ↔ Among j js
  spares t e [] js h j = let s : [] ≡ js = cc in (λ (i, m, free, like). absurd m, λ m. let n : Among j [] = subst (Among j) (sym s) m in absurd n)
  spares t e (k ∷ ks) js h j =
      let (rs, is, f) = led (λ (rs : List (Instance Node)). option_map (λ (js : List (Instance Node)).
      cond (is_touched t e rs) js (and_more (carried_instance e k) js)) (spared t e ks)) (reach t k) js h in
      let (us, rest, s) = mapped (λ (js : List (Instance Node)). cond (is_touched t e rs) js (and_more (carried_instance e k) js)) (spared t e ks) js f in
      subst (λ (xs : List (Instance Node)). Stays t e (k ∷ ks) j ↔ Among j xs) s (by_touch rs us is (is_touched t e rs) refl (spares t e ks us rest j))
    where
      by_call : (us : List (Instance Node)) → IsUntouched rules t e k → (o : Option (Instance Node))
          → carried_instance e k ≡ o → (Stays t e ks j ↔ Among j us) → Stays t e (k ∷ ks) j ↔ Among j (and_more o us)
      by_call us free None is rest = (
        λ (i, m, clear, like). elim m [
          | inl s ↦ (let g : carried_instance e k ≡ Some j = goes e k j (subst (λ x. InstanceLike (Names (carried e)) x j) s like) in absurd cc)
          | inr n ↦ rest.0 (i, n, clear, like)
        ],
        λ m. later t e k ks j (rest.1 m),
      )
      by_call us free (Some c) is rest = (
        λ (i, m, clear, like). elim m [
          | inl s ↦ (let g : carried_instance e k ≡ Some j = goes e k j (subst (λ x. InstanceLike (Names (carried e)) x j) s like) in let equal : c ≡ j = cc in inl (sym equal))
          | inr n ↦ inr (rest.0 (i, n, clear, like))
        ],
        λ m. elim m [
          | inl s ↦ (k, inl refl, free, go e k j (is ∙ ap Some (sym s)))
          | inr n ↦ later t e k ks j (rest.1 n)
        ],
      )

      by_touch : (rs us : List (Instance Node)) → reach t k ≡ Some rs → (b : Bool) → is_touched t e rs ≡ b → (Stays t e
          ks j ↔ Among j us) → Stays t e (k ∷ ks) j ↔ Among j (cond b us (and_more (carried_instance e k) us))
      by_touch rs us is true f rest = (
        λ (i, m, clear, like). elim m [
          | inl s ↦ absurd (touched t e k rs is f (subst (IsUntouched rules t e) s clear))
          | inr n ↦ rest.0 (i, n, clear, like)
        ],
        λ m. later t e k ks j (rest.1 m),
      )
      by_touch rs us is false f rest = by_call us (untouched t e k rs is f) (carried_instance e k) refl rest

  -- lines -------------------------------------------------------------------------------------------------------------

  -- what is kept after a verdict, and its work, where both are computed
  abbrev after_verdict : State → Verdict → List (Instance Node) → Option (List (Instance Node) × ℕ)
  after_verdict s (Refuses refusal) ks = Some (ks, 0)
  after_verdict s (Tells shown) ks = Some (ks, 0)
  after_verdict s (Leaves marks) ks = Some (ks, 0)
  after_verdict s (Posts q) ks = Some (ks, 0)
  after_verdict s (Waits number) ks = Some (ks, 0)
  after_verdict s (Edits e t) ks = option_map (λ js. (js, 0)) (spared s.tree e ks)
  after_verdict s (Asks q) ks = option_and_then (λ rs. cond (list_all (is_told s.tree) rs) (Some (ks ++ added s.tree ks rs, length (added s.tree ks rs))) None) (reach s.tree q)

  -- they are what the definitions say
  abbrev IsAfter : State → Verdict → (Instance Node → Type 0) → List (Instance Node) × ℕ → Type 0
  IsAfter s v Kept p = IsWork rules s v Kept p.1 × Exactly (KeptAfter rules s v Kept) p.0

  is_after : (s : State) (v : Verdict) (Kept : Instance Node → Type 0) (ks : List (Instance Node)) (p : List (Instance Node) × ℕ) → Exactly Kept ks → after_verdict s v ks ≡ Some p → IsAfter s v Kept p
  is_after s (Refuses refusal) Kept ks p just e = let equal : (ks, 0) ≡ p = some_is _ _ e in subst (IsAfter s (Refuses refusal) Kept) equal (refl, just)
  is_after s (Tells shown) Kept ks p just e = let equal : (ks, 0) ≡ p = some_is _ _ e in subst (IsAfter s (Tells shown) Kept) equal (refl, just)
  is_after s (Leaves marks) Kept ks p just e = let equal : (ks, 0) ≡ p = some_is _ _ e in subst (IsAfter s (Leaves marks) Kept) equal (refl, just)
  is_after s (Posts q) Kept ks p just e = let equal : (ks, 0) ≡ p = some_is _ _ e in subst (IsAfter s (Posts q) Kept) equal (refl, just)
  is_after s (Waits number) Kept ks p just e = let equal : (ks, 0) ≡ p = some_is _ _ e in subst (IsAfter s (Waits number) Kept) equal (refl, just)
  is_after s (Edits e t) Kept ks p just h =
      let (js, is, equal) = mapped (λ (js : List (Instance Node)). (js, 0)) (spared s.tree e ks) p h in
      subst (IsAfter s (Edits e t) Kept) equal (
        refl,
        λ j. (
          λ (i, kept, free, like). (spares s.tree e ks js is j).0 (i, (just i).0 kept, free, like),
          λ m. (let (i, n, free, like) = (spares s.tree e ks js is j).1 m in (i, (just i).1 n, free, like)),
        ),
      )
  is_after s (Asks q) Kept ks p just h =
      let (rs, is, f) = led (λ (rs : List (Instance Node)). cond (list_all (is_told s.tree) rs) (Some (ks ++ added s.tree ks rs, length (added s.tree ks rs))) None) (reach s.tree q) p h in
      by_told rs is (list_all (is_told s.tree) rs) refl f
    where
      by_told : (rs : List (Instance Node)) → reach s.tree q ≡ Some rs → (b : Bool) → list_all (is_told s.tree) rs ≡ b
          → cond b (Some (ks ++ added s.tree ks rs, length (added s.tree ks rs))) None ≡ Some p
          → IsAfter s (Asks q) Kept p
      by_told rs is true told f =
          let equal : (ks ++ added s.tree ks rs, length (added s.tree ks rs)) ≡ p = some_is _ _ f in
          subst (IsAfter s (Asks q) Kept) equal ((added s.tree ks rs, are_added s.tree q rs is told Kept ks just, refl), kept_asked s.tree q rs is told Kept ks just)
      by_told rs is false told f = absurd cc

  -- a test, which computes, that the lines have these works
  abbrev pub have_works : State → List (Option Line) → List (Instance Node) → List ℕ → Bool
  have_works s [] ks [] = true
  have_works s [] ks (w ∷ ws) = false
  have_works s (l ∷ ls) ks [] = false
  have_works s (l ∷ ls) ks (w ∷ ws) = elim (after_verdict s (heard rules s l) ks) [ None ↦ false | Some p ↦ nat_eq p.1 w && have_works (after s (heard rules s l)) ls p.0 ws ]

  worked : (s : State) (ls : List (Option Line)) (Kept : Instance Node → Type 0) (ks : List (Instance Node))
      (ws : List ℕ) → Exactly Kept ks → have_works s ls ks ws ≡ true → AreWorks rules s ls Kept ws
  worked s [] Kept ks [] just e = tt
  worked s [] Kept ks (w ∷ ws) just e = absurd cc
  worked s (l ∷ ls) Kept ks [] just e = absurd cc
  worked s (l ∷ ls) Kept ks (w ∷ ws) just e = by_verdict (after_verdict s (heard rules s l) ks) refl e
      (λ js also f. worked (after s (heard rules s l)) ls (KeptAfter rules s (heard rules s l) Kept) js ws also f)
    where
      by_verdict : (o : Option (List (Instance Node) × ℕ)) → after_verdict s (heard rules s l) ks ≡ o → elim o as (λ _.
          Bool) [ None ↦ false | Some p ↦ nat_eq p.1 w && have_works (after s (heard rules s l)) ls p.0 ws ] ≡ true →
          ((js : List (Instance Node)) → Exactly (KeptAfter rules s (heard rules s l) Kept) js
          → have_works (after s (heard rules s l)) ls js ws ≡ true
          → AreWorks rules (after s (heard rules s l)) ls (KeptAfter rules s (heard rules s l) Kept) ws) →
          IsWork rules s (heard rules s l) Kept w × AreWorks rules (after s (heard rules s l)) ls (KeptAfter rules s (heard rules s l) Kept) ws
      by_verdict None is f rest = absurd cc
      by_verdict (Some p) is f rest =
          let (same_work, more_works) = both_of (nat_eq p.1 w) (have_works (after s (heard rules s l)) ls p.0 ws) f in
          let (work, also) = is_after s (heard rules s l) Kept ks p just is in
          (subst (IsWork rules s (heard rules s l) Kept) ((nat_eq-is p.1 w).0 same_work) work, rest p.0 also more_works)

  -- from a state in which nothing is kept
  pub computed : (s : State) (ls : List (Option Line)) (ws : List ℕ) → have_works s ls [] ws ≡ true → AreWorks rules s ls NothingKept ws
  computed s ls ws e = worked s ls NothingKept [] ws (λ i. (λ none. none, λ none. none)) e

  -- a test, which computes, that the lines are those of the bytes, and have these works
  abbrev pub are_lines : List Line → List Effort → Bool
  are_lines [] [] = true
  are_lines [] (e ∷ es) = false
  are_lines (l ∷ ls) [] = false
  are_lines (l ∷ ls) (e ∷ es) = is_plain_line l && (bytes_eq (line_text l) e.line && are_lines ls es)

  heard_all : (ls : List Line) (es : List Effort) → are_lines ls es ≡ true → AreHeard (map (λ e. e.line) es) (map Some ls)
  heard_all [] [] e = tt
  heard_all [] (x ∷ es) e = absurd cc
  heard_all (l ∷ ls) [] e = absurd cc
  heard_all (l ∷ ls) (x ∷ es) e =
      let (plain, rest) = both_of (is_plain_line l) (bytes_eq (line_text l) x.line && are_lines ls es) e in
      let (written, others) = both_of (bytes_eq (line_text l) x.line) (are_lines ls es) rest in
      (subst (λ (bytes : List ℕ). Spells bytes l) ((bytes_eq-Decides (line_text l) x.line).0 written) (spelled l plain), heard_all ls es others)

  pub works : (s : State) (ls : List Line) (es : List Effort) → are_lines ls es ≡ true → have_works s (map Some ls) [] (map (λ e. e.work) es) ≡ true → Works rules s es
  works s ls es e f = record { lines = map Some ls; heard = heard_all ls es e; works = computed s (map Some ls) (map (λ e. e.work) es) f }
