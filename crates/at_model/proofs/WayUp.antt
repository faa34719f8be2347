-- The walk up to an inherited equation finds the one that paths define, and looks at just the way up.
use Rattle.std.proofs.Common.{◌≡◌, ℕ, zero, suc, ◌+◌, ◌≤◌, true, false, Bool, List, [], ◌∷◌, ◌++◌, length, Option, Some, None, ◌⊎◌, inl, inr, refl, ap, sym, ◌∙◌, subst, arith, length-append}
use Rattle.std.specs.Prelude.{map, option_map, option_and_then}
use Rattle.std.specs.Option.{option_or}
use Rattle.std.specs.List.{slice_get, flat_map}
use Rattle.at_model.specs.Trees.{Tree, class_of}
use Rattle.at_model.specs.Terms.{max_depth}
use Rattle.at_model.specs.Paths.{Node, node_eq, parent_of, tree_at, children_at}
use Rattle.at_model.specs.Run.{Value, Instance, Location, Is, Contents, Run, Gives, Fails, Looks, Demands, Null, LooksTo}
use Rattle.at_model.specs.Bodies.{Expr, mentioned, eval}
use Rattle.at_model.specs.Rules.{Rules, Source, source_at, source_of, prefixes, own_equation, inherited_equation, past_nodes, past_arguments, by_equation, by_inherited, by_own, is_inherited, attribute_name}
use Rattle.at_model.specs.Meaning.{content, equations, at_source}
use Rattle.at_model.specs.Support.{argument_classes, up_to_first, step_up, way_up}

-- a node is the root, or has a last step
pub snoc : (n : Node) → (n ≡ []) ⊎ ((m : Node) × (s : ℕ × ℕ) × (n ≡ m ++ s ∷ []))
snoc [] = inl refl
snoc (s ∷ ss) = elim (snoc ss) [
  | inl e ↦ inr ([], s, ap (λ z. s ∷ z) e)
  | inr (m, u, e) ↦ inr (s ∷ m, u, ap (λ z. s ∷ z) e)
]

pub prefixes-snoc : (m : Node) (s : ℕ × ℕ) → prefixes (m ++ s ∷ []) ≡ (m, s) ∷ prefixes m
prefixes-snoc [] s = refl
prefixes-snoc (x ∷ m) s = rw (prefixes-snoc m s) refl

pub parent_of-snoc : (m : Node) (s : ℕ × ℕ) → parent_of (m ++ s ∷ []) ≡ Some (m, s)
parent_of-snoc [] s = refl
parent_of-snoc (x ∷ []) s = refl
parent_of-snoc (x ∷ y ∷ m) s = rw (parent_of-snoc (y ∷ m) s) refl

there : (m : Node) (s : ℕ × ℕ) (u : Tree) (o : Option Tree) → ((w : Tree) → tree_at w (m ++ s ∷ []) ≡ Some u → (v : Tree) × (tree_at w m ≡ Some v)) →
    option_and_then (λ w. tree_at w (m ++ s ∷ [])) o ≡ Some u → (v : Tree) × (option_and_then (λ w. tree_at w m) o ≡ Some v)
there m s u None step e = absurd (cc)
there m s u (Some w) step e = step w e

-- the parent of a node of a tree is there
pub parent_there : (t : Tree) (m : Node) (s : ℕ × ℕ) (u : Tree) → tree_at t (m ++ s ∷ []) ≡ Some u → (w : Tree) × (tree_at t m ≡ Some w)
parent_there t [] s u e = (t, refl)
parent_there t (x ∷ m) s u e = there m s u (slice_get (children_at t x.0) x.1) (λ w. parent_there w m s u) e

abbrev pub Found : Rules → Tree → List ℕ → List (Value Node) → ℕ → Node → Type 0
Found rules t name vs h n = (u : Tree) → tree_at t n ≡ Some u → length n ≤ h → (s : Source) → source_of rules t name n ≡
    Some s → LooksTo (content t) (by_inherited rules node_eq name vs h n) (way_up rules t name n) (at_source rules vs s)

-- at the parent: the equation that stands there, or the way further up
at_parent : (rules : Rules) (t : Tree) (name : List ℕ) (vs : List (Value Node)) (h : ℕ) (m : Node) (s : ℕ × ℕ)
    (src : Source) (o : Option Expr) (p : Option Source) → p ≡ option_map (λ e. (e, m, s)) o →
    option_or p (source_of rules t name m) ≡ Some src → (source_of rules t name m ≡ Some src → LooksTo (content t)
    (by_inherited rules node_eq name vs h m) (way_up rules t name m) (at_source rules vs src)) →
    LooksTo (content t) (by_equation rules node_eq (record { this = m; names = vs; child = Some (m ++ s ∷ []) }) (by_inherited rules node_eq name vs h m) o)
    (flat_map step_up (elim p [ None ↦ up_to_first (source_at rules t name) (prefixes m) | Some b ↦ [] ])) (at_source rules vs src)
at_parent rules t name vs h m s src None None e x rest = rest x
at_parent rules t name vs h m s src None (Some b) e x rest = absurd (cc)
at_parent rules t name vs h m s src (Some b) None e x rest = absurd (cc)
at_parent rules t name vs h m s src (Some b) (Some c) e x rest = let f : c ≡ (b, m, s) = cc in let g : c ≡ src = cc in let k : (b, m, s) ≡ src = sym f ∙ g in ap (at_source rules vs) k

-- a step to the parent
one_up : (rules : Rules) (t : Tree) (name : List ℕ) (vs : List (Value Node)) (h : ℕ) (n m : Node) (part : ℕ)
    (ls : List (Location Node)) (r : Run Node (Value Node)) (c : Option (Node × ℕ)) → c ≡ Some (m, part) →
    LooksTo (content t) (by_equation rules node_eq (record { this = m; names = vs; child = Some n })
    (by_inherited rules node_eq name vs h m) (inherited_equation rules (content t (Is m)) part name)) ls r →
    LooksTo (content t) (elim c as (λ _. Run Node (Value Node)) [
      | None ↦ Fails Null
      | Some p ↦ Looks (Is p.0) (λ c. by_equation rules node_eq (record { this = p.0; names = vs; child = Some n }) (by_inherited rules node_eq name vs h p.0) (inherited_equation rules c p.1 name))
    ]) (Is m ∷ ls) r
one_up rules t name vs h n m part ls r None e l = absurd (cc)
one_up rules t name vs h n m part ls r (Some p) e l = let f : p ≡ (m, part) = cc in rw f (refl, l)

pub class_there : (t : Tree) (m : Node) (w : Tree) → tree_at t m ≡ Some w → content t (Is m) ≡ class_of w
class_there t m w e = ap (λ o. elim o as (λ _. ℕ) [ None ↦ 0 | Some u ↦ class_of u ]) e

at_snoc : (rules : Rules) (t : Tree) (name : List ℕ) (vs : List (Value Node)) (h : ℕ) (m : Node) (s : ℕ × ℕ) → Found rules t name vs h m → Found rules t name vs (suc h) (m ++ s ∷ [])
at_snoc rules t name vs h m s rest u q b src x =
    let (w, f) = parent_there t m s u q in
    let x' = rw (prefixes-snoc m s) at x in
    let e : option_map (λ p. (p.0, p.1.0)) (parent_of (m ++ s ∷ [])) ≡ Some (m, s.0) = ap (λ p. option_map (λ p. (p.0, p.1.0)) p) (parent_of-snoc m s) in
    let g : source_at rules t name (m, s) ≡ option_map (λ e. (e, m, s)) (inherited_equation rules (class_of w) s.0 name) = rw f refl in
    let k : length (m ++ s ∷ []) ≡ length m + 1 = length-append m (s ∷ []) in
    let l : LooksTo (content t) (by_equation rules node_eq (record { this = m; names = vs; child = Some (m ++ s ∷ []) })
    (by_inherited rules node_eq name vs h m) (inherited_equation rules (content t (Is m)) s.0 name))
    (flat_map step_up (elim (source_at rules t name (m, s)) [ None ↦ up_to_first (source_at rules t name) (prefixes m) | Some b ↦ [] ])) (at_source rules vs src) =
    rw (class_there t m w f) (at_parent rules t name vs h m s src (inherited_equation rules (class_of w) s.0 name) (source_at rules t name (m, s)) g x' (rest w f (omega arith) src)) in
    rw (prefixes-snoc m s) (refl, one_up rules t name vs h (m ++ s ∷ []) m s.0 _ (at_source rules vs src) (option_map (λ p. (p.0, p.1.0)) (parent_of (m ++ s ∷ []))) e l)

pub too_long : (s : ℕ × ℕ) (ss : Node) → length (s ∷ ss) ≤ 0 → ⊥
too_long s ss b = omega arith

pub found_above : (rules : Rules) (t : Tree) (name : List ℕ) (vs : List (Value Node)) (h : ℕ) (n : Node) → Found rules t name vs h n
found_above rules t name vs zero [] = λ u q b src x. absurd (cc)
found_above rules t name vs zero (s ∷ ss) = λ u q b src x. absurd (too_long s ss b)
found_above rules t name vs (suc h) n = elim (snoc n) [
  | inl e ↦ subst (λ z. Found rules t name vs (suc h) z) (sym e) (λ u q b src x. absurd (cc))
  | inr (m, s, e) ↦ subst (λ z. Found rules t name vs (suc h) z) (sym e) (at_snoc rules t name vs h m s (found_above rules t name vs h m))
]

looks_more : {N A : Type 0} (look : Contents N) (r : Run N A) (ls ms : List (Location N)) (s u : Run N A) → LooksTo look r ls s → LooksTo look s ms u → LooksTo look r (ls ++ ms) u
looks_more look r [] ms s u e g = subst (λ z. LooksTo look z ms u) (sym e) g
looks_more look (Gives a) (l ∷ ls) ms s u e g = absurd e
looks_more look (Fails f) (l ∷ ls) ms s u e g = absurd e
looks_more look (Looks m k) (l ∷ ls) ms s u (e, f) g = (e, looks_more look (k (look m)) ls ms s u f g)
looks_more look (Demands i k) (l ∷ ls) ms s u e g = absurd e

one_argument : {N A : Type 0} (look : Contents N) (r s : Run N A) (ls : List (Location N)) (ns : List N) → LooksTo look r ls s →
    LooksTo look (past_nodes ns r) (map (λ n. Is n) ns ++ ls) s
one_argument look r s ls [] e = e
one_argument look r s ls (n ∷ ns) e = (refl, one_argument look r s ls ns e)

pub past_them : {N A : Type 0} (look : Contents N) (vs : List (Value N)) (r : Run N A) → LooksTo look (past_arguments vs r) (argument_classes vs) r
past_them look [] r = refl
past_them look (v ∷ vs) r = one_argument look (past_arguments vs r) r (argument_classes vs) (mentioned v) (past_them look vs r)

chosen_way : (b c : Bool) → b ≡ c → (r s : Run Node (Value Node)) → elim b as (λ _. Run Node (Value Node)) [ true ↦ r | false ↦ s ] ≡ elim c as (λ _. Run Node (Value Node)) [ true ↦ r | false ↦ s ]
chosen_way b c e r s = ap (λ b. elim b as (λ _. Run Node (Value Node)) [ true ↦ r | false ↦ s ]) e

pub inherited_found : (rules : Rules) (t : Tree) (i : Instance Node) (u : Tree) (s : Source) → tree_at t i.node ≡ Some u → length i.node ≤ max_depth → is_inherited rules i.attribute ≡ true →
    source_of rules t (attribute_name rules i.attribute) i.node ≡ Some s →
    LooksTo (content t) (equations rules i) (Is i.node ∷ (argument_classes i.arguments ++ way_up rules t (attribute_name rules i.attribute) i.node)) (at_source rules i.arguments s)
inherited_found rules t i u s q b inh x =
    let walk = by_inherited rules node_eq (attribute_name rules i.attribute) i.arguments max_depth i.node in
    let own = by_own rules node_eq i (content t (Is i.node)) in
    let e = chosen_way (is_inherited rules i.attribute) true inh walk own in
    let f = found_above rules t (attribute_name rules i.attribute) i.arguments max_depth i.node u q b s x in
    let g = subst (λ r. LooksTo (content t) r (way_up rules t (attribute_name rules i.attribute) i.node) (at_source rules i.arguments s)) (sym e) f in
    (refl, looks_more (content t) _ (argument_classes i.arguments) _ _ _ (past_them (content t) i.arguments _) g)

by_own-there : (rules : Rules) (i : Instance Node) (e : Expr) (c d : ℕ) → c ≡ d
    → own_equation rules d i.attribute ≡ Some e → by_own rules node_eq i c
    ≡ eval rules.classes node_eq e (record { this = i.node; names = i.arguments; child = None })
by_own-there rules i e c d f g = ap (λ o. by_equation rules node_eq (record { this = i.node; names = i.arguments; child = None }) (Fails Null) o) (ap (λ c. own_equation rules c i.attribute) f ∙ g)

pub own_found : (rules : Rules) (t : Tree) (i : Instance Node) (u : Tree) (e : Expr) → tree_at t i.node ≡ Some u
    → is_inherited rules i.attribute ≡ false → own_equation rules (class_of u) i.attribute ≡ Some e →
    LooksTo (content t) (equations rules i) (Is i.node ∷ argument_classes i.arguments) (eval rules.classes node_eq e (record { this = i.node; names = i.arguments; child = None }))
own_found rules t i u e q inh x =
    let walk = by_inherited rules node_eq (attribute_name rules i.attribute) i.arguments max_depth i.node in
    let own = by_own rules node_eq i (content t (Is i.node)) in
    let f = chosen_way (is_inherited rules i.attribute) false inh walk own in
    let g = by_own-there rules i e (content t (Is i.node)) (class_of u) (class_there t i.node u q) x in (
      refl,
      subst (λ r. LooksTo (content t) (past_arguments i.arguments (elim (is_inherited rules i.attribute)
          as (λ _. Run Node (Value Node)) [ true ↦ walk | false ↦ own ])) (argument_classes i.arguments) r) (f ∙ g)
          (past_them (content t) i.arguments _),
    )
