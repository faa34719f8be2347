-- What a line asks is well formed, and all nodes in it are there.
use Rattle.std.proofs.Common.{◌≡◌, ℕ, zero, suc, ◌<◌, Bool, true, false, ◌&&◌, if◌then◌else◌, List, [], ◌∷◌, length, get_or, Option, Some, None, refl, ap, ◌∙◌, subst, arith, option_and_then, map}
use Rattle.std.specs.Prelude.{position}
use Rattle.std.specs.List.{slice_get, list_all, AllByRecursion}
use Rattle.std.specs.Str.{bytes_eq}
use Rattle.std.specs.Option.{option_or}
use Rattle.std.proofs.lemmas.List.Quantifiers.{position-Some}
use Rattle.at_model.specs.Classes.{Classes, is_sub}
use Rattle.at_model.specs.Trees.{Tree, class_of}
use Rattle.at_model.specs.Paths.{Node, tree_at}
use Rattle.at_model.specs.Run.{Value, Instance, Ref}
use Rattle.at_model.specs.Run as run
use Rattle.at_model.specs.Rules.{Rules, Attribute, Kind, first_answer, attribute_named, names_asked, attribute_asked}
use Rattle.at_model.specs.Rules as kind
use Rattle.at_model.specs.Lines.{Line, Command, Ask}
use Rattle.at_model.specs.Replies.{Code}
use Rattle.at_model.specs.Replies as code
use Rattle.at_model.specs.Machine.{State, Verdict, Refuses, Asks, verdict, obeyed, each, value_named, fits_parameter, fit_parameters, is_near, parameters_of, suit}
use Rattle.at_model.specs.Support.{IsThere, IsValueThere, IsInstanceThere}
use Rattle.at_model.specs.Effects.{is_question}
use Rattle.at_model.specs.Asking.{IsWellFormed}
use Rattle.at_model.proofs.of_edits.Changes.{at_option, node_all, whole}
use Rattle.at_model.proofs.Options.{led, both}
use Rattle.at_model.proofs.of_machines.Commanded.{tellable}
use Rattle.at_model.proofs.WithinTree.{some_there}

inside : {A : Type 0} (xs : List A) (i : ℕ) (d : A) → i < length xs → slice_get xs i ≡ Some (get_or xs i d)
inside [] i d h = let none : ⊥ = omega (arith, h) in absurd none
inside (x ∷ xs) zero d h = refl
inside (x ∷ xs) (suc i) d h = inside xs i d (omega (arith, h))

-- the element at the first position at which a test passes
pub element_at : {A : Type 0} (p : A → Bool) (xs : List A) (i : ℕ) → position p xs ≡ Some i → (a : A) × (slice_get xs i ≡ Some a) × (p a ≡ true)
element_at p [] i e = absurd cc
element_at p (x ∷ xs) i e =
    let (small, passes, first) = position-Some p (x ∷ xs) i x e in
    (get_or (x ∷ xs) i x, inside (x ∷ xs) i x small, passes)

-- the first answer is that of one of them
pub an_answer : {A B : Type 0} (f : A → Option B) (xs : List A) (b : B) → first_answer f xs ≡ Some b → (a : A) × (f a ≡ Some b)
an_answer f [] b e = absurd cc
an_answer {A} {B} f (x ∷ xs) b e = by (f x) refl (an_answer f xs b) e
  where
    by : (o : Option B) → f x ≡ o → (first_answer f xs ≡ Some b → (a : A) × (f a ≡ Some b)) → option_or o (first_answer f xs) ≡ Some b
        → (a : A) × (f a ≡ Some b)
    by None is more g = more g
    by (Some c) is more g = (x, is ∙ g)

module _ (rules : Rules) (s : State) where
  -- the verdict asks nothing else
  abbrev pub AsksWell : Verdict → Type 0
  AsksWell v = (q : Instance Node) → v ≡ Asks q → IsWellFormed rules s.tree q

  none_asked : (code : Code) → AsksWell (Refuses code)
  none_asked code q e = absurd cc

  well_formed : (n : Node) (name : List ℕ) (vs : List (Value Node)) (attribute : ℕ)
      → option_and_then (λ u. attribute_asked rules (class_of u) name (length vs)) (tree_at s.tree n) ≡ Some attribute
      → suit rules s.tree attribute vs ≡ true →
      IsWellFormed rules s.tree (record { node = n; attribute = attribute; arguments = vs })
  well_formed n name vs attribute named fit =
      let (u, found, asked) = led (λ u. attribute_asked rules (class_of u) name (length vs)) (tree_at s.tree n) attribute named in
      let (z, is) = an_answer (attribute_named rules (class_of u)) (names_asked name (length vs)) attribute asked in
      let (a, at, passes) = element_at (λ a. bytes_eq a.name z && is_sub rules.classes (class_of u) a.class) rules.attributes attribute is in
      let (same, below) = both (bytes_eq a.name z) (is_sub rules.classes (class_of u) a.class) passes in
      let (fits, near) = both (fit_parameters rules.classes s.tree (parameters_of rules attribute) vs) (list_all is_near vs) fit in
      let parameters : parameters_of rules attribute ≡ a.parameters = ap (λ (o : Option Attribute). elim o as (λ _. List Kind) [ None ↦ [] | Some b ↦ b.parameters ]) at in
      record { node = u; there = found; declared = a; attribute = at; has = below; fit = subst (λ ks. fit_parameters rules.classes s.tree ks vs ≡ true) parameters fits }

  by_fit : (n : Node) (name : List ℕ) (vs : List (Value Node)) (attribute : ℕ) (b : Bool)
      → option_and_then (λ u. attribute_asked rules (class_of u) name (length vs)) (tree_at s.tree n) ≡ Some attribute
      → suit rules s.tree attribute vs ≡ b →
      AsksWell (if b then Asks (record { node = n; attribute = attribute; arguments = vs }) else Refuses code.Arguments)
  by_fit n name vs attribute true named fit q e =
      let same : record { node = n; attribute = attribute; arguments = vs } ≡ q = cc in
      subst (IsWellFormed rules s.tree) same (well_formed n name vs attribute named fit)
  by_fit n name vs attribute false named fit q e = absurd cc

  by_name : (n : Node) (name : List ℕ) (vs : List (Value Node)) (o : Option ℕ) → option_and_then (λ u. attribute_asked rules (class_of u) name (length vs)) (tree_at s.tree n) ≡ o →
      AsksWell (elim o [
        | None ↦ Refuses code.Attribute
        | Some attribute ↦ if suit rules s.tree attribute vs then Asks (record { node = n; attribute = attribute; arguments = vs }) else Refuses code.Arguments
      ])
  by_name n name vs None named = none_asked code.Attribute
  by_name n name vs (Some attribute) named = by_fit n name vs attribute (suit rules s.tree attribute vs) named refl

  asks_well : (session : ℕ) (c : Command) (b : Bool) → is_question c ≡ b → AsksWell (obeyed rules s session c)
  asks_well session (Ask place attribute arguments) b is =
      node_all AsksWell none_asked rules.classes s session place _ (λ n. at_option AsksWell none_asked
      (each (map (value_named rules.classes s session) arguments)) code.Path _ (λ vs. by_name n attribute vs
      (option_and_then (λ u. attribute_asked rules (class_of u) attribute (length vs)) (tree_at s.tree n)) refl))
  asks_well session c true is = absurd cc
  asks_well session c false is = λ q e. absurd (tellable rules s session c is q e)

  pub well_asked : (l : Line) (q : Instance Node) → verdict rules s l ≡ Asks q → IsWellFormed rules s.tree q
  well_asked l = whole AsksWell none_asked rules s l (asks_well l.session l.command (is_question l.command) refl)

node_there : (t : Tree) (n : Node) (o : Option Tree) (P : Tree → Bool) → tree_at t n ≡ o → elim o as (λ _. Bool) [ None ↦ false | Some u ↦ P u ] ≡ true → IsThere t n
node_there t n None P is e = absurd cc
node_there t n (Some u) P is e = some_there (tree_at t n) u is

value_there : (classes : Classes) (t : Tree) (k : Kind) (v : Value Node) → fits_parameter classes t k v ≡ true → IsValueThere t v
value_there classes t k (run.Int n) e = tt
value_there classes t k (run.Truth b) e = tt
value_there classes t k (run.Text bytes) e = tt
value_there classes t k (run.Ref None) e = tt
value_there classes t (kind.Class b) (run.Ref (Some n)) e = node_there t n (tree_at t n) (λ u. is_sub classes (class_of u) b) refl e
value_there classes t kind.Int (run.Nodes ns) e = absurd cc
value_there classes t kind.Truth (run.Nodes ns) e = absurd cc
value_there classes t kind.Text (run.Nodes ns) e = absurd cc
value_there classes t (kind.Class b) (run.Nodes ns) e = absurd cc
value_there classes t (kind.Nodes b) (run.Nodes ns) e = absurd cc
value_there classes t (kind.Nodes b) (run.Ref (Some n)) e = absurd cc
value_there classes t kind.Int (run.Ref (Some n)) e = absurd cc
value_there classes t kind.Truth (run.Ref (Some n)) e = absurd cc
value_there classes t kind.Text (run.Ref (Some n)) e = absurd cc

values_there : (classes : Classes) (t : Tree) (ks : List Kind) (vs : List (Value Node)) → fit_parameters classes t ks vs ≡ true → AllByRecursion (IsValueThere t) vs
values_there classes t [] [] e = tt
values_there classes t [] (v ∷ vs) e = absurd cc
values_there classes t (k ∷ ks) [] e = absurd cc
values_there classes t (k ∷ ks) (v ∷ vs) e =
    let (one, rest) = both (fits_parameter classes t k v) (fit_parameters classes t ks vs) e in
    (value_there classes t k v one, values_there classes t ks vs rest)

pub well_there : (rules : Rules) (t : Tree) (i : Instance Node) → IsWellFormed rules t i → IsInstanceThere t i
well_there rules t i w = record { node = some_there (tree_at t i.node) w.node w.there; arguments = values_there rules.classes t w.declared.parameters i.arguments w.fit }
