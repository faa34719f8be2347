-- With accepted rules each equation is typed.
use Rattle.std.proofs.Common.{◌≡◌, ℕ, ◌≤◌, Bool, true, false, cond, ◌&&◌, ◌||◌, nat_eq, List, [], ◌∷◌, ◌++◌, map, length, Option, Some, None, refl, sym, ap, ◌∙◌, subst}
use Rattle.std.specs.Prelude.{IsSome, option_map, find, map}
use Rattle.std.specs.Option.{option_or}
use Rattle.std.specs.List.{slice_get, AllByRecursion, list_any, flat_map}
use Rattle.std.specs.Str.{bytes_eq}
use Rattle.at_model.specs.Classes.{Classes, chain, is_sub}
use Rattle.at_model.specs.Trees.{Tree, class_of, conforms}
use Rattle.at_model.specs.Terms.{max_depth}
use Rattle.at_model.specs.Paths.{Node, node_eq, tree_at, children_at}
use Rattle.at_model.specs.Run.{Value, Int, Truth, Text, Ref, Nodes, Instance, Is}
use Rattle.at_model.specs.Bodies.{Expr, Scope, eval}
use Rattle.at_model.specs.Rules.{Rules, Kind, Attribute, OwnEquation, InheritedEquation, first_answer, own_in, own_equation, part_eq, inherited_in, inherited_equation, prefixes, source_at, source_of, attribute_name, is_inherited, AreComplete}
use Rattle.at_model.specs.Rules as kind
use Rattle.at_model.specs.Meaning.{content, equations, at_source}
use Rattle.at_model.specs.Support.{argument_classes, up_to_first, step_up, way_up}
use Rattle.at_model.proofs.Complete.{has_own, has_source}
use Rattle.at_model.proofs.WayUp.{own_found, inherited_found}
use Rattle.at_model.specs.Kinds.{HasKind, AreTyped, IsOwnTyped, IsInheritedTyped, is_for_list}
use Rattle.at_model.specs.TypedRuns.{ClassAt, Texts, IsNodeOf, IsTypedRun, class_at, IsOfKind, AreArguments, IsWellTyped, IsLocationThere, IsOfItsKind, AreContentsTyped, AreEquationsTyped}
use Rattle.at_model.specs.Instances.{literals, AreLiteralsAllowed}
use Rattle.at_model.proofs.of_typing.TypedExpressions.{typed}
use Rattle.at_model.proofs.of_typing.TypedLeads.{looks_typed}
use Rattle.at_model.proofs.of_typing.TypedSteps.{less_typed}
use Rattle.at_model.proofs.Below.{AreChained}
use Rattle.std.proofs.lemmas.Bool.Decides.{nat_tests}
use Rattle.std.proofs.Common.{arith}
use Rattle.at_model.proofs.Options.{mapped, led, both, or_right}
use Rattle.at_model.proofs.Everywhere.{all_more, all_both, all_map, all_two}
use Rattle.at_model.proofs.Chained.{nat_same}

by_test : {A : Type 0} (P : A → Type 0) (p : A → Bool) (y x : A) (o : Option A) → P y → (o ≡ Some x → P x × (p x ≡ true)) → (b : Bool) → p y ≡ b → cond b (Some y) o ≡ Some x → P x × (p x ≡ true)
by_test P p y x o h rest true is f = let g : y ≡ x = cc in (subst P g h, subst (λ z. p z ≡ true) g is)
by_test P p y x o h rest false is f = rest f

-- the first that is found stands in the list and passes
pub found_in : {A : Type 0} (P : A → Type 0) (p : A → Bool) (xs : List A) (x : A) → AllByRecursion P xs → find p xs ≡ Some x → P x × (p x ≡ true)
found_in P p [] x h e = absurd (cc)
found_in P p (y ∷ xs) x (h, hs) e = by_test P p y x (find p xs) h (found_in P p xs x hs) (p y) refl e

pub either_of : {A : Type 0} (Q : A → Type 0) (o p : Option A) (a : A) → (o ≡ Some a → Q a) → (p ≡ Some a → Q a) → option_or o p ≡ Some a → Q a
either_of Q None p a f g e = g e
either_of Q (Some b) p a f g e = f e

-- the first answer is that of an element
pub answered : {A B : Type 0} (P : A → Type 0) (f : A → Option B) (xs : List A) (b : B) → AllByRecursion P xs → first_answer f xs ≡ Some b → (a : A) × P a × (f a ≡ Some b)
answered P f [] b h e = absurd (cc)
answered {A} P f (x ∷ xs) b (h, hs) e = either_of (λ z. (a : A) × P a × (f a ≡ Some z)) (f x) (first_answer f xs) b (λ g. (x, h, g)) (answered P f xs b hs) e

same_nat : (n : ℕ) → nat_eq n n ≡ true
same_nat n = grind (arith, nat_tests)

or_left : (a b : Bool) → a ≡ true → (a || b) ≡ true
or_left a b e = rw e refl

-- each is among them
pub each_among : (xs : List ℕ) → AllByRecursion (λ n. list_any (nat_eq n) xs ≡ true) xs
each_among [] = tt
each_among (x ∷ xs) = (
  or_left (nat_eq x x) _ (same_nat x),
  all_more (λ n. list_any (nat_eq n) xs ≡ true)
      (λ n. list_any (nat_eq n) (x ∷ xs) ≡ true) xs (λ n h. or_right (nat_eq n x) _ h) (each_among xs),
)

-- the own equation that is found stands at the class or above it
pub own_there : (rules : Rules) (P : OwnEquation → Type 0) → AllByRecursion P rules.own → (c attribute : ℕ) (body : Expr) → own_equation rules c attribute ≡ Some body →
    (e : OwnEquation) × P e × (is_sub rules.classes c e.class ≡ true) × (e.attribute ≡ attribute) × (e.body ≡ body)
own_there rules P all c attribute body h =
    let (b, sub, g) = answered (λ b. is_sub rules.classes c b ≡ true) (own_in rules attribute) (chain rules.classes c) body (each_among (chain rules.classes c)) h in
    let (e, f, k) = mapped (λ (e : OwnEquation). e.body) (find (λ (e : OwnEquation). nat_eq e.class b && nat_eq e.attribute attribute) rules.own) body g in
    let (p, test) = found_in P (λ (e : OwnEquation). nat_eq e.class b && nat_eq e.attribute attribute) rules.own e all f in
    let (x, y) = both (nat_eq e.class b) (nat_eq e.attribute attribute) test in
    (e, p, subst (λ z. is_sub rules.classes c z ≡ true) (sym (nat_same e.class b x)) sub, nat_same e.attribute attribute y, k)

inherited_there_in : (rules : Rules) (P : InheritedEquation → Type 0) → AllByRecursion P rules.inherited
    → (c b : ℕ) (part : Option ℕ) (name : List ℕ) (body : Expr) → is_sub rules.classes c b ≡ true
    → inherited_in rules name part b ≡ Some body →
    (e : InheritedEquation) × P e × (is_sub rules.classes c e.class ≡ true) × (bytes_eq e.name name ≡ true) × (e.body ≡ body)
inherited_there_in rules P all c b part name body sub h =
    let (e, f, k) = mapped (λ (e : InheritedEquation). e.body) (find (λ (e : InheritedEquation). nat_eq e.class b && part_eq e.part part && bytes_eq e.name name) rules.inherited) body h in
    let (p, test) = found_in P (λ (e : InheritedEquation). nat_eq e.class b && part_eq e.part part && bytes_eq e.name name) rules.inherited e all f in
    let (xy, z) = both (nat_eq e.class b && part_eq e.part part) (bytes_eq e.name name) test in
    let (x, y) = both (nat_eq e.class b) (part_eq e.part part) xy in
    (e, p, subst (λ z. is_sub rules.classes c z ≡ true) (sym (nat_same e.class b x)) sub, z, k)

-- and so does the inherited one
pub inherited_there : (rules : Rules) (P : InheritedEquation → Type 0) → AllByRecursion P rules.inherited
    → (c part : ℕ) (name : List ℕ) (body : Expr) → inherited_equation rules c part name ≡ Some body →
    (e : InheritedEquation) × P e × (is_sub rules.classes c e.class ≡ true) × (bytes_eq e.name name ≡ true) × (e.body ≡ body)
inherited_there rules P all c part name body h =
    let (b, sub, g) = answered (λ b. is_sub rules.classes c b ≡ true)
    (λ b. option_or (inherited_in rules name (Some part) b) (inherited_in rules name None b))
    (chain rules.classes c) body (each_among (chain rules.classes c)) h in
    either_of (λ z. (e : InheritedEquation) × P e × (is_sub rules.classes c e.class ≡ true) × (bytes_eq e.name name
    ≡ true) × (e.body ≡ z)) (inherited_in rules name (Some part) b) (inherited_in rules name None b) body
    (inherited_there_in rules P all c b (Some part) name body sub) (inherited_there_in rules P all c b None name body sub) g

-- the nodes above a node, and those on the way, are there
abbrev AreOnWay : Tree → List (Node × (ℕ × ℕ)) → Type 0
AreOnWay t ps = AllByRecursion (λ (p : Node × (ℕ × ℕ)). IsSome (tree_at t p.0) × IsSome (tree_at t (p.0 ++ p.1 ∷ []))) ps

there_below : (t v : Tree) (s : ℕ × ℕ) (q : Node) → slice_get (children_at t s.0) s.1 ≡ Some v → IsSome (tree_at v q) → IsSome (tree_at t (s ∷ q))
there_below t v s q e h = rw e h

there_at : (t v : Tree) (s : ℕ × ℕ) → slice_get (children_at t s.0) s.1 ≡ Some v → IsSome (tree_at t (s ∷ []))
there_at t v s e = rw e refl

prefixes_there : (t : Tree) (n : Node) (u : Tree) → tree_at t n ≡ Some u → AreOnWay t (prefixes n)
prefixes_there t [] u e = tt
prefixes_there t (s ∷ ss) u e =
    let (v, f, g) = led (λ v. tree_at v ss) (slice_get (children_at t s.0) s.1) u e in
    all_both (λ (p : Node × (ℕ × ℕ)). IsSome (tree_at t p.0) × IsSome (tree_at t (p.0 ++ p.1 ∷ []))) (map (λ (p : Node × (ℕ × ℕ)). (s ∷ p.0, p.1)) (prefixes ss)) (([], s) ∷ [])
    (all_map (λ (p : Node × (ℕ × ℕ)). IsSome (tree_at t p.0) × IsSome (tree_at t (p.0 ++ p.1 ∷ []))) (λ (p : Node × (ℕ × ℕ)). (s ∷ p.0, p.1)) (prefixes ss)
    (all_more (λ (p : Node × (ℕ × ℕ)). IsSome (tree_at v p.0) × IsSome (tree_at v (p.0 ++ p.1 ∷ []))) _ (prefixes ss)
    (λ p (a, b). (there_below t v s p.0 f a, there_below t v s (p.0 ++ p.1 ∷ []) f b)) (prefixes_there v ss u g)))
    ((refl, there_at t v s f), tt)

up_to_all : {A B : Type 0} (P : A → Type 0) (f : A → Option B) (xs : List A) → AllByRecursion P xs → AllByRecursion P (up_to_first f xs)
up_to_all P f [] h = tt
up_to_all {A} {B} P f (x ∷ xs) (h, hs) = (h, stop (f x) (up_to_all P f xs hs))
  where
    stop : (o : Option B) → AllByRecursion P (up_to_first f xs) → AllByRecursion P (elim o [ None ↦ up_to_first f xs | Some b ↦ [] ])
    stop None g = g
    stop (Some b) g = tt

pub node_there : (t : Tree) (n : Node) → IsSome (tree_at t n) → IsSome (class_at t n)
node_there t n h = by_tree (tree_at t n) h
  where
    by_tree : (o : Option Tree) → IsSome o → IsSome (option_map class_of o)
    by_tree None h = h
    by_tree (Some u) h = refl

steps_sought : (classes : Classes) (t : Tree) (ps : List (Node × (ℕ × ℕ))) → AreOnWay t ps → AllByRecursion (IsLocationThere classes (class_at t)) (flat_map step_up ps)
steps_sought classes t [] h = tt
steps_sought classes t (p ∷ ps) ((a, b), hs) = (node_there t (p.0 ++ p.1 ∷ []) b, (node_there t p.0 a, steps_sought classes t ps hs))

pub arguments_sought : (classes : Classes) (at : ClassAt Node) (Allowed : Texts) (vs : List (Value Node)) (ks : List
    Kind) → AreArguments classes at Allowed vs ks → AllByRecursion (IsLocationThere classes at) (argument_classes vs)
arguments_sought classes at Allowed [] ks h = tt
arguments_sought classes at Allowed (v ∷ vs) [] h = absurd h
arguments_sought classes at Allowed (v ∷ vs) (k ∷ ks) (h, s, hs) = one v k h (arguments_sought classes at Allowed vs ks hs)
  where
    many : (b : ℕ) (ns : List Node) → AllByRecursion (λ m. IsNodeOf classes at m b) ns → AllByRecursion (IsLocationThere classes at) (argument_classes vs) → AllByRecursion (IsLocationThere classes at) (map (λ n. Is n) ns ++ argument_classes vs)
    many b [] h g = g
    many b (n ∷ ns) ((c, e, f), hs) g = (rw e refl, many b ns hs g)

    one : (v : Value Node) (k : Kind) → IsOfKind classes at v k → AllByRecursion (IsLocationThere classes at)
        (argument_classes vs) → AllByRecursion (IsLocationThere classes at) (argument_classes (v ∷ vs))
    one (Int n) k h g = g
    one (Truth b) k h g = g
    one (Text bytes) k h g = g
    one (Nodes ns) (kind.Nodes b) h g = many b ns h.0 g
    one (Nodes ns) kind.Int h g = absurd h
    one (Nodes ns) kind.Truth h g = absurd h
    one (Nodes ns) kind.Text h g = absurd h
    one (Nodes ns) (kind.Class b) h g = absurd h
    one (Ref (Some n)) (kind.Nodes b) h g = absurd h
    one (Ref None) k h g = g
    one (Ref (Some n)) (kind.Class b) (c, e, f) g = (rw e refl, g)
    one (Ref (Some n)) kind.Int h g = absurd h
    one (Ref (Some n)) kind.Truth h g = absurd h
    one (Ref (Some n)) kind.Text h g = absurd h

pub declared_inherited : (rules : Rules) (attribute : ℕ) (d : Attribute) (b : Bool) → slice_get rules.attributes attribute ≡ Some d → d.is_inherited ≡ b → is_inherited rules attribute ≡ b
declared_inherited rules attribute d b e f = rw (e, is_inherited) f

pub declared_name : (rules : Rules) (attribute : ℕ) (d : Attribute) → slice_get rules.attributes attribute ≡ Some d → attribute_name rules attribute ≡ d.name
declared_name rules attribute d e = rw (e, attribute_name) refl

pub one_declaration : (d e : Attribute) (o : Option Attribute) → o ≡ Some d → o ≡ Some e → d ≡ e
one_declaration d e o f g = let h : Some d ≡ Some e = sym f ∙ g in cc

pub own_body : (rules : Rules) (e : OwnEquation) → IsOwnTyped rules e → (a : Attribute)
    → slice_get rules.attributes e.attribute ≡ Some a
    → HasKind rules (record { this = e.class; names = a.parameters; has_index = false }) e.body a.result
own_body rules e h a f = subst (λ (z : Attribute).
    HasKind rules (record { this = e.class; names = z.parameters; has_index = false }) e.body z.result)
    (one_declaration h.declaration a (slice_get rules.attributes e.attribute) h.attribute f) h.body

-- what the equations need
pub record AreMet (rules : Rules) (t : Tree) (Allowed : Texts) : Type 0 where
  pub lined : AreChained rules.classes
  pub typed : AreTyped rules
  pub complete : AreComplete rules
  pub said : AreLiteralsAllowed rules Allowed
  pub conform : conforms rules.classes t 0 ≡ true
  pub contents : AreContentsTyped rules.classes (class_at t) Allowed (content t)
  pub short : (n : Node) → IsSome (tree_at t n) → length n ≤ max_depth

module _ (rules : Rules) (t : Tree) (Allowed : Texts) (ok : AreMet rules t Allowed) where
  its_kind : (i : Instance Node) (d : Attribute) → slice_get rules.attributes i.attribute ≡ Some d → (v : Value Node)
      → IsOfKind rules.classes (class_at t) v d.result → IsOfItsKind rules (class_at t) i v
  its_kind i d e v h other f = subst (λ z. IsOfKind rules.classes (class_at t) v z) (ap (λ (a : Attribute). a.result) (one_declaration d other (slice_get rules.attributes i.attribute) e f)) h

  own_typed : (i : Instance Node) → (w : IsWellTyped rules (class_at t) Allowed i) → w.declaration.is_inherited ≡ false
      → IsTypedRun rules (class_at t) Allowed (content t) (IsOfItsKind rules (class_at t) i) (equations rules i)
  own_typed i w own =
      let d = w.declaration in
      let (u, q, c) = mapped class_of (tree_at t i.node) w.class w.node in
      let sub = subst (λ z. is_sub rules.classes z d.class ≡ true) (sym c) w.declared in
      let (body, e) = has_own rules ok.complete t ok.conform i.node u i.attribute d q w.attribute sub own in
      let (eq, (kind, said), above, same, is) = own_there rules (λ (e : OwnEquation). IsOwnTyped rules e
      × AllByRecursion Allowed (literals e.body)) (all_two (IsOwnTyped rules) (λ (e : OwnEquation). AllByRecursion
      Allowed (literals e.body)) rules.own ok.typed.own ok.said.own) (class_of u) i.attribute body e in
      let scope : Scope Node = record { this = i.node; names = i.arguments; child = None } in
      let x = own_body rules eq kind d (ap (slice_get rules.attributes) same ∙ w.attribute) in
      let run = typed rules ok.lined (class_at t) Allowed (content t) ok.contents node_eq (record { this = eq.class; names = d.parameters; has_index = false }) eq.body d.result x scope said
      (record { this = (class_of u, ap (option_map class_of) q, above); names = w.arguments; child = tt }) in
      let run' = less_typed rules (class_at t) Allowed (content t) (λ v. IsOfKind rules.classes (class_at t) v d.result)
      (IsOfItsKind rules (class_at t) i) (eval rules.classes node_eq eq.body scope)
      (its_kind i d w.attribute) run in
      looks_typed rules (class_at t) Allowed (content t) (IsOfItsKind rules (class_at t) i) (equations rules i) (Is i.node ∷ argument_classes i.arguments) (eval rules.classes node_eq body scope)
      (own_found rules t i u body q (declared_inherited rules i.attribute d false w.attribute own) e)
      (rw w.node refl, arguments_sought rules.classes (class_at t) Allowed i.arguments d.parameters w.arguments)
      (subst (λ z. IsTypedRun rules (class_at t) Allowed (content t) (IsOfItsKind rules (class_at t) i) (eval rules.classes node_eq z scope)) is run')

  inherited_typed : (i : Instance Node) → (w : IsWellTyped rules (class_at t) Allowed i) → w.declaration.is_inherited
      ≡ true → IsTypedRun rules (class_at t) Allowed (content t) (IsOfItsKind rules (class_at t) i) (equations rules i)
  inherited_typed i w inh =
      let d = w.declaration in
      let (u, q, c) = mapped class_of (tree_at t i.node) w.class w.node in
      let sub = subst (λ z. is_sub rules.classes z d.class ≡ true) (sym c) w.declared in
      let (s, e) = has_source rules ok.complete t ok.conform i.node u i.attribute d q w.attribute sub inh in
      let there : IsSome (tree_at t i.node) = rw q refl in
      let way = prefixes_there t i.node u q in
      let (p, (above, on), g) = answered (λ (p : Node × (ℕ × ℕ)). IsSome (tree_at t p.0) × IsSome (tree_at t (p.0 ++ p.1 ∷ []))) (source_at rules t d.name) (prefixes i.node) s way e in
      let (v, h, k) = led (λ u. option_map (λ e. (e, p.0, p.1)) (inherited_equation rules (class_of u) p.1.0 d.name)) (tree_at t p.0) s g in
      let (body, l, m) = mapped (λ e. (e, p.0, p.1)) (inherited_equation rules (class_of v) p.1.0 d.name) s k in
      let (eq, (kind, said), up, named, is) = inherited_there rules
      (λ (e : InheritedEquation). IsInheritedTyped rules e × AllByRecursion Allowed (literals e.body))
      (all_two (IsInheritedTyped rules) (λ (e : InheritedEquation). AllByRecursion Allowed (literals e.body))
      rules.inherited ok.typed.inherited ok.said.inherited) (class_of v) p.1.0 d.name body l in
      let scope : Scope Node = record { this = p.0; names = i.arguments; child = Some (p.0 ++ p.1 ∷ []) } in
      let x = kind.body i.attribute d (w.attribute, inh, named) in
      let run = typed rules ok.lined (class_at t) Allowed (content t) ok.contents node_eq (record
      { this = eq.class; names = d.parameters; has_index = is_for_list rules eq }) eq.body d.result x scope said
      (record { this = (class_of v, ap (option_map class_of) h, up); names = w.arguments; child = node_there t (p.0 ++ p.1 ∷ []) on }) in
      let run' = less_typed rules (class_at t) Allowed (content t) (λ v. IsOfKind rules.classes (class_at t) v d.result)
      (IsOfItsKind rules (class_at t) i) (eval rules.classes node_eq eq.body scope)
      (its_kind i d w.attribute) run in
      let run'' = subst (λ z. IsTypedRun rules (class_at t) Allowed (content t) (IsOfItsKind rules (class_at t) i) (eval rules.classes node_eq z scope)) is run' in
      looks_typed rules (class_at t) Allowed (content t) (IsOfItsKind rules (class_at t) i) (equations rules i)
      (Is i.node ∷ (argument_classes i.arguments ++ way_up rules t (attribute_name rules i.attribute) i.node))
      (at_source rules i.arguments s)
      (inherited_found rules t i u s q (ok.short i.node there) (declared_inherited rules i.attribute d true w.attribute
      inh) (ap (λ n. source_of rules t n i.node) (declared_name rules i.attribute d w.attribute) ∙ e)) (
        rw w.node refl,
        all_both (IsLocationThere rules.classes (class_at t)) (argument_classes i.arguments)
            (way_up rules t (attribute_name rules i.attribute) i.node)
            (arguments_sought rules.classes (class_at t) Allowed i.arguments d.parameters w.arguments)
            (steps_sought rules.classes t _ (up_to_all (λ (p : Node × (ℕ × ℕ)). IsSome (tree_at t p.0) × IsSome (tree_at
            t (p.0 ++ p.1 ∷ []))) (source_at rules t (attribute_name rules i.attribute)) (prefixes i.node) way)),
      )
      (subst (λ z. IsTypedRun rules (class_at t) Allowed (content t) (IsOfItsKind rules (class_at t) i) (at_source rules i.arguments z)) m run'')

  pub equations_typed : AreEquationsTyped rules (class_at t) Allowed (content t) (equations rules)
  equations_typed i w = by_kind w.declaration.is_inherited refl
    where
      by_kind : (b : Bool) → w.declaration.is_inherited ≡ b → IsTypedRun rules (class_at t) Allowed (content t) (IsOfItsKind rules (class_at t) i) (equations rules i)
      by_kind true e = inherited_typed i w e
      by_kind false e = own_typed i w e
