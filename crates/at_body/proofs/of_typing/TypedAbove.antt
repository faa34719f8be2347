-- An inherited attribute has an equation above each node that has it.
use Rattle.std.proofs.Common.{◌≡◌, ℕ, zero, suc, ◌+◌, ◌≤◌, List, [], ◌∷◌, ◌++◌, length, Option, Some, None, inl, inr, refl, sym, ap, ◌∙◌, subst, arith, length-append}
use Rattle.std.specs.Prelude.{option_map}
use Rattle.std.specs.Option.{option_or}
use Rattle.at_model.specs.Trees.{Tree, class_of}
use Rattle.at_model.specs.Paths.{Node, parent_of, tree_at}
use Rattle.at_model.specs.Run.{Is, Up, Location, Contents}
use Rattle.at_model.specs.Bodies.{Expr}
use Rattle.at_model.specs.Rules.{Rules, Source, source_of, source_at, inherited_equation}
use Rattle.at_model.specs.Meaning.{content}
use Rattle.at_model.specs.Alike.{AlikeAt, Names, OptionLike, neither, both, is, up}
use Rattle.at_model.specs.TypedRuns.{ClassAt, class_at, class_numbered}
use Rattle.at_model.proofs.WayUp.{snoc, prefixes-snoc, parent_of-snoc, parent_there, too_long, class_there}
use Rattle.at_body.specs.TypedStart.{OrElse, AtParent, HasEquation}

-- by paths ------------------------------------------------------------------------------------------------------------

abbrev HasAbove : Rules → Tree → List ℕ → ℕ → Node → Type 0
HasAbove rules t name h n = (u : Tree) → tree_at t n ≡ Some u → length n ≤ h → (s : Source) → source_of rules t name n ≡ Some s → HasEquation rules (class_at t) (content t) name h n

or_further : (P : Type 0) (m : Node) (s : ℕ × ℕ) (src : Source) (o : Option Expr) (p further : Option Source) → p ≡ option_map (λ e. (e, m, s)) o → option_or p further ≡ Some src → (further ≡ Some src → P) → OrElse o P
or_further P m s src None None further e x rest = rest x
or_further P m s src None (Some q) further e x rest = absurd (cc)
or_further P m s src (Some b) p further e x rest = tt

parent_is : (P : Node → ℕ → Type 0) (m : Node) (part : ℕ) (o : Option (Node × ℕ)) → o ≡ Some (m, part) → P m part → AtParent o P
parent_is P m part o e h = subst (λ z. AtParent z P) (sym e) h

at_snoc : (rules : Rules) (t : Tree) (name : List ℕ) (h : ℕ) (m : Node) (s : ℕ × ℕ) → HasAbove rules t name h m → HasAbove rules t name (suc h) (m ++ s ∷ [])
at_snoc rules t name h m s rest u q b src x =
    let (w, f) = parent_there t m s u q in
    let x' = rw (prefixes-snoc m s) at x in
    let e : option_map (λ p. (p.0, p.1.0)) (parent_of (m ++ s ∷ [])) ≡ Some (m, s.0) = ap (λ p. option_map (λ p. (p.0, p.1.0)) p) (parent_of-snoc m s) in
    let g : source_at rules t name (m, s) ≡ option_map (λ e. (e, m, s)) (inherited_equation rules (class_of w) s.0 name) = rw f refl in
    let k : length (m ++ s ∷ []) ≡ length m + 1 = length-append m (s ∷ []) in
    let P : Node → ℕ → Type 0 = λ m part. (class_at t m ≡ Some (content t (Is m))) × OrElse (inherited_equation rules (content t (Is m)) part name) (HasEquation rules (class_at t) (content t) name h m) in
    let c = class_there t m w f in
    let further = or_further (HasEquation rules (class_at t) (content t) name h m) m s src (inherited_equation rules (class_of w) s.0 name) (source_at rules t name (m, s)) (source_of rules t name m) g x' (rest w f (omega arith) src) in
    parent_is P m s.0 _ e (ap (option_map class_of) f ∙ ap Some (sym c), subst (λ z. OrElse (inherited_equation rules z s.0 name) (HasEquation rules (class_at t) (content t) name h m)) (sym c) further)

pub has_above : (rules : Rules) (t : Tree) (name : List ℕ) (h : ℕ) (n : Node) → HasAbove rules t name h n
has_above rules t name zero [] = λ u q b src x. absurd (cc)
has_above rules t name zero (s ∷ ss) = λ u q b src x. absurd (too_long s ss b)
has_above rules t name (suc h) n = elim (snoc n) [
  | inl e ↦ subst (λ z. HasAbove rules t name (suc h) z) (sym e) (λ u q b src x. absurd (cc))
  | inr (m, s, e) ↦ subst (λ z. HasAbove rules t name (suc h) z) (sym e) (at_snoc rules t name h m s (has_above rules t name h m))
]

-- by numbers ----------------------------------------------------------------------------------------------------------

or_else_more : (P Q : Type 0) (o p : Option Expr) → o ≡ p → (P → Q) → OrElse o P → OrElse p Q
or_else_more P Q None None e f h = f h
or_else_more P Q None (Some b) e f h = tt
or_else_more P Q (Some a) None e f h = absurd (cc)
or_else_more P Q (Some a) (Some b) e f h = tt

module _ (rules : Rules) (path : ℕ → Option Node) (at : ClassAt Node) (look : Contents ℕ) (other : Contents Node) (name : List ℕ) (alike : (l : Location ℕ) → AlikeAt (Names path) look other l) where
  parent_back : (P : Node → ℕ → Type 0) (Q : ℕ → ℕ → Type 0) (a : Option (ℕ × ℕ)) (b : Option (Node × ℕ)) → OptionLike (λ p q. Names path p.0 q.0 × (p.1 ≡ q.1)) a b →
      ((n part : ℕ) (m : Node) (other_part : ℕ) → path n ≡ Some m → part ≡ other_part → P m other_part → Q n part) → AtParent b P → AtParent a Q
  parent_back P Q _ _ neither back h = absurd h
  parent_back P Q _ _ (both {a = p} {b = q} (r, same)) back h = back p.0 p.1 q.0 q.1 r same h

  pub above_back : (h n : ℕ) (m : Node) → path n ≡ Some m → HasEquation rules at other name h m → HasEquation rules (class_numbered path at) look name h n
  above_back zero n m e x = absurd x
  above_back (suc h) n m e x =
      parent_back (λ m part. (at m ≡ Some (other (Is m))) × OrElse (inherited_equation rules (other (Is m)) part name) (HasEquation rules at other name h m))
      (λ n part. (class_numbered path at n ≡ Some (look (Is n))) × OrElse (inherited_equation rules (look (Is n)) part name) (HasEquation rules (class_numbered path at) look name h n))
      (look (Up n)) (other (Up m)) (alike (Up n) (Up m) (up e)) (λ k part q other_part r same (there, further).
      let c : look (Is k) ≡ other (Is q) = alike (Is k) (Is q) (is r) in (
        numbered k q r ∙ there ∙ ap Some (sym c),
        or_else_more (HasEquation rules at other name h q) (HasEquation rules (class_numbered path at) look name h k) (inherited_equation rules (other (Is q)) other_part name) (inherited_equation rules (look (Is k)) part name)
            (ap (λ z. inherited_equation rules z other_part name) (sym c) ∙ ap (λ z. inherited_equation rules (look (Is k)) z name) (sym same)) (above_back h k q r) further,
      )) x
    where
      numbered : (k : ℕ) (q : Node) → path k ≡ Some q → class_numbered path at k ≡ at q
      numbered k q r = rw r refl
