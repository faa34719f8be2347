-- Instances that are well formed are well typed, with the texts that are given, and those that are well typed are well formed.
use Rattle.std.proofs.Common.{◌≡◌, ℕ, ◌<◌, pos, negsuc, nat_le, arith, true, false, List, [], ◌∷◌, ◌++◌, Option, Some, None, inl, inr, refl, sym, ap, subst}
use Rattle.std.specs.Prelude.{option_map}
use Rattle.std.specs.List.{AllByRecursion, flat_map}
use Rattle.std.proofs.lemmas.Bool.Decides.{nat_tests}
use Rattle.at_model.specs.Classes.{Classes, is_sub}
use Rattle.at_model.specs.Trees.{Tree, Token, class_of}
use Rattle.at_model.specs.Trees as held
use Rattle.at_model.specs.Paths.{Node, tree_at}
use Rattle.at_model.specs.Run.{Value, Int, Truth, Text, Ref, Nodes, Instance}
use Rattle.at_model.specs.Bodies.{value_of}
use Rattle.at_model.specs.Rules.{Rules, Kind, OwnEquation, InheritedEquation}
use Rattle.at_model.specs.Rules as kind
use Rattle.at_model.specs.Machine.{fit_parameters, fits_parameter}
use Rattle.at_model.specs.Meaning.{Among}
use Rattle.at_model.specs.TypedRuns.{Texts, class_at, IsNodeOf, IsOfKind, IsAllowed, AreArguments, IsWellTyped}
use Rattle.at_model.specs.Instances.{literals, literals_of, tokens, text_in, text_of_value, IsGiven, AreLiteralsAllowed}
use Rattle.at_model.proofs.Listed.{among_left, among_right}
use Rattle.at_model.proofs.Everywhere.{all_more, found}
use Rattle.at_model.proofs.Options.{mapped, and_true, both}
use Rattle.at_model.specs.Kinds.{AreTyped, IsParameter, IsDeclarationTyped}
use Rattle.at_model.specs.Asking.{IsWellFormed}

-- what holds of all that is given for the elements holds of what is given for each
all_given : {B : Type 0} (P : B → Type 0) (ys : List B) → ((b : B) → Among b ys → P b) → AllByRecursion P ys
all_given P [] h = tt
all_given P (y ∷ ys) h = (h y (inl refl), all_given P ys (λ b g. h b (inr g)))

each_given : {A B : Type 0} (P : B → Type 0) (f : A → List B) (xs : List A) → ((b : B) → Among b (flat_map f xs) → P b) → AllByRecursion (λ a. AllByRecursion P (f a)) xs
each_given P f [] h = tt
each_given P f (x ∷ xs) h = (all_given P (f x) (λ b g. h b (among_left b (f x) (flat_map f xs) g)), each_given P f xs (λ b g. h b (among_right b (f x) (flat_map f xs) g)))

module _ (rules : Rules) (t : Tree) (vs : List (Value Node)) where
  token_given : (v : Token) → AllByRecursion (IsGiven rules t vs) (text_in v) → IsAllowed {N = Node} (IsGiven rules t vs) (value_of v)
  token_given (held.Text bytes) h = h.0
  token_given (held.Int n) h = tt
  token_given (held.Truth b) h = tt

  value_given : (v : Value Node) → AllByRecursion (IsGiven rules t vs) (text_of_value v) → IsAllowed (IsGiven rules t vs) v
  value_given (Text bytes) h = h.0
  value_given (Int n) h = tt
  value_given (Truth b) h = tt
  value_given (Ref n) h = tt
  value_given (Nodes ns) h = tt

  pub tokens_given : AllByRecursion (λ v. IsAllowed {N = Node} (IsGiven rules t vs) (value_of v)) (tokens t)
  tokens_given = all_more (λ v. AllByRecursion (IsGiven rules t vs) (text_in v)) (λ v. IsAllowed {N = Node}
      (IsGiven rules t vs) (value_of v)) (tokens t) token_given (each_given (IsGiven rules t vs) text_in (tokens t)
      (λ b h. among_left b (flat_map text_in (tokens t)) (literals_of rules ++ flat_map text_of_value vs) h))

  literal_given : (b : List ℕ) → Among b (literals_of rules) → IsGiven rules t vs b
  literal_given b h = among_right b (flat_map text_in (tokens t)) (literals_of rules ++ flat_map text_of_value vs) (among_left b (literals_of rules) (flat_map text_of_value vs) h)

  pub literals_given : AreLiteralsAllowed rules (IsGiven rules t vs)
  literals_given = record {
    own = each_given (IsGiven rules t vs) (λ (e : OwnEquation). literals e.body) rules.own (λ b h. literal_given b (among_left b _ _ h));
    inherited = each_given (IsGiven rules t vs) (λ (e : InheritedEquation). literals e.body) rules.inherited
        (λ b h. literal_given b (among_right b (flat_map (λ (e : OwnEquation). literals e.body) rules.own) _ h));
  }

  pub asked_given : AllByRecursion (IsAllowed (IsGiven rules t vs)) vs
  asked_given = all_more (λ v. AllByRecursion (IsGiven rules t vs) (text_of_value v)) (IsAllowed (IsGiven rules t vs))
      vs value_given (each_given (IsGiven rules t vs) text_of_value vs
      (λ b h. among_right b (flat_map text_in (tokens t)) (literals_of rules ++ flat_map text_of_value vs)
      (among_right b (literals_of rules) (flat_map text_of_value vs) h)))

module _ (classes : Classes) (t : Tree) (Allowed : Texts) where
  int_fits : (n : ℕ) → nat_le n 2147483647 ≡ true → n < 2147483648
  int_fits n e = grind (arith, nat_tests)

  int_test : (n : ℕ) → n < 2147483648 → nat_le n 2147483647 ≡ true
  int_test n h = grind (arith, nat_tests)

  pub fits_kind : (v : Value Node) (k : Kind) → fits_parameter classes t k v ≡ true → IsOfKind classes (class_at t) v k
  fits_kind (Text bytes) kind.Text e = tt
  fits_kind (Ref None) (kind.Class b) e = tt
  fits_kind (Ref (Some n)) (kind.Class b) e = by_tree (tree_at t n) refl e
    where
      by_tree : (o : Option Tree) → tree_at t n ≡ o → elim o [ None ↦ false | Some u ↦ is_sub classes (class_of u) b ] ≡ true → IsNodeOf classes (class_at t) n b
      by_tree None f g = absurd (cc)
      by_tree (Some u) f g = (class_of u, ap (option_map class_of) f, g)
  fits_kind (Nodes ns) kind.Int e = absurd (cc)
  fits_kind (Nodes ns) kind.Truth e = absurd (cc)
  fits_kind (Nodes ns) kind.Text e = absurd (cc)
  fits_kind (Nodes ns) (kind.Class b) e = absurd (cc)
  fits_kind (Nodes ns) (kind.Nodes b) e = absurd (cc)
  fits_kind (Int n) (kind.Nodes b) e = absurd (cc)
  fits_kind (Truth c) (kind.Nodes b) e = absurd (cc)
  fits_kind (Text bytes) (kind.Nodes b) e = absurd (cc)
  fits_kind (Ref None) (kind.Nodes b) e = absurd (cc)
  fits_kind (Ref (Some n)) (kind.Nodes b) e = absurd (cc)
  fits_kind (Int (pos n)) kind.Int e = int_fits n e
  fits_kind (Int (negsuc n)) kind.Int e = int_fits n e
  fits_kind (Int n) kind.Truth e = absurd (cc)
  fits_kind (Int n) kind.Text e = absurd (cc)
  fits_kind (Int n) (kind.Class b) e = absurd (cc)
  fits_kind (Truth c) kind.Int e = absurd (cc)
  fits_kind (Truth c) kind.Truth e = tt
  fits_kind (Truth c) kind.Text e = absurd (cc)
  fits_kind (Truth c) (kind.Class b) e = absurd (cc)
  fits_kind (Text bytes) kind.Int e = absurd (cc)
  fits_kind (Text bytes) kind.Truth e = absurd (cc)
  fits_kind (Text bytes) (kind.Class b) e = absurd (cc)
  fits_kind (Ref None) kind.Int e = absurd (cc)
  fits_kind (Ref None) kind.Truth e = absurd (cc)
  fits_kind (Ref None) kind.Text e = absurd (cc)
  fits_kind (Ref (Some n)) kind.Int e = absurd (cc)
  fits_kind (Ref (Some n)) kind.Truth e = absurd (cc)
  fits_kind (Ref (Some n)) kind.Text e = absurd (cc)

  fit_kinds : (ws : List (Value Node)) (ks : List Kind) → AllByRecursion (IsAllowed (Allowed)) ws → fit_parameters classes t ks ws ≡ true → AreArguments classes (class_at t) (Allowed) ws ks
  fit_kinds [] [] h e = tt
  fit_kinds (w ∷ ws) [] h e = absurd (cc)
  fit_kinds [] (k ∷ ks) h e = absurd (cc)
  fit_kinds (w ∷ ws) (k ∷ ks) (h, hs) e =
      let (x, y) = both (fits_parameter classes t k w) (fit_parameters classes t ks ws) e in
      (fits_kind w k x, h, fit_kinds ws ks hs y)

  -- and back, where the parameters are texts and nodes
  kind_fits : (v : Value Node) (k : Kind) → IsParameter classes k → IsOfKind classes (class_at t) v k → fits_parameter classes t k v ≡ true
  kind_fits (Text bytes) kind.Text p h = refl
  kind_fits (Ref None) (kind.Class b) p h = refl
  kind_fits (Ref (Some n)) (kind.Class b) p (c, e, f) = by_tree (tree_at t n) refl e
    where
      by_tree : (o : Option Tree) → tree_at t n ≡ o → option_map class_of o ≡ Some c → elim (tree_at t n) [ None ↦ false | Some u ↦ is_sub classes (class_of u) b ] ≡ true
      by_tree None g e = absurd cc
      by_tree (Some u) g e = let same : class_of u ≡ c = cc in rw (g, same) f
  kind_fits (Nodes ns) kind.Int p h = absurd h
  kind_fits (Nodes ns) kind.Truth p h = absurd h
  kind_fits (Nodes ns) kind.Text p h = absurd h
  kind_fits (Nodes ns) (kind.Class b) p h = absurd h
  kind_fits v (kind.Nodes b) p h = absurd p
  kind_fits (Int (pos n)) kind.Int p h = int_test n h
  kind_fits (Int (negsuc n)) kind.Int p h = int_test n h
  kind_fits (Int n) kind.Truth p h = absurd h
  kind_fits (Int n) kind.Text p h = absurd h
  kind_fits (Int n) (kind.Class b) p h = absurd h
  kind_fits (Truth c) kind.Int p h = absurd h
  kind_fits (Truth c) kind.Truth p h = refl
  kind_fits (Truth c) kind.Text p h = absurd h
  kind_fits (Truth c) (kind.Class b) p h = absurd h
  kind_fits (Text bytes) kind.Int p h = absurd h
  kind_fits (Text bytes) kind.Truth p h = absurd h
  kind_fits (Text bytes) (kind.Class b) p h = absurd h
  kind_fits (Ref n) kind.Int p h = absurd h
  kind_fits (Ref n) kind.Truth p h = absurd h
  kind_fits (Ref n) kind.Text p h = absurd h

  kinds_fit : (ws : List (Value Node)) (ks : List Kind) → AllByRecursion (IsParameter classes) ks → AreArguments classes (class_at t) Allowed ws ks → fit_parameters classes t ks ws ≡ true
  kinds_fit [] [] p h = refl
  kinds_fit (w ∷ ws) [] p h = absurd h
  kinds_fit [] (k ∷ ks) p h = absurd h
  kinds_fit (w ∷ ws) (k ∷ ks) (p, ps) (h, s, hs) = and_true (fits_parameter classes t k w) (fit_parameters classes t ks ws) (kind_fits w k p h) (kinds_fit ws ks ps hs)

module _ (rules : Rules) (t : Tree) (i : Instance Node) where
  -- what is well formed is well typed, where its texts are those that are given
  pub typed_of_formed : IsWellFormed rules t i → IsWellTyped rules (class_at t) (IsGiven rules t i.arguments) i
  typed_of_formed w = record {
    class = class_of w.node;
    declaration = w.declared;
    node = ap (option_map class_of) w.there;
    attribute = w.attribute;
    declared = w.has;
    arguments = fit_kinds rules.classes t (IsGiven rules t i.arguments) i.arguments w.declared.parameters (asked_given rules t i.arguments) w.fit;
  }

  -- and back, with whichever texts
  pub formed_of_typed : (Allowed : Texts) → AreTyped rules → IsWellTyped rules (class_at t) Allowed i → IsWellFormed rules t i
  formed_of_typed Allowed typed w =
      let (u, there, is) = mapped class_of (tree_at t i.node) w.class w.node in
      let declared = found (IsDeclarationTyped rules.classes) rules.attributes i.attribute w.declaration typed.attributes w.attribute in
      record {
        node = u;
        there = there;
        declared = w.declaration;
        attribute = w.attribute;
        has = subst (λ c. is_sub rules.classes c w.declaration.class ≡ true) (sym is) w.declared;
        fit = kinds_fit rules.classes t Allowed i.arguments w.declaration.parameters declared.parameters w.arguments;
      }
