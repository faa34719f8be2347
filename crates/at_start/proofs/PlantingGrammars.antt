-- Grammars in which classes have more components.
use Rattle.std.proofs.Common.{◌≡◌, ◌∙◌, ℕ, zero, suc, ◌+◌, ◌<◌, ◌≤◌, true, false, Bool, List, [], ◌∷◌, ◌++◌, length, map, take, drop, get_or, set, Option, Some, None, if◌then◌else◌, refl, sym, ap, subst, add-one, append-nil, append_assoc, arith, Result, Ok, Err}
use Rattle.std.specs.Result.{OnOk}
use Rattle.std.specs.Str.{bytes_eq}
use Rattle.std.proofs.Math.Seq.{drop-cons}
use Rattle.std.proofs.lemmas.List.{drop_all, map-append, set_split, take_all, take_more}
use Rattle.std.proofs.lemmas.List.Elements.{All-nil, All-cons, All-append, All-head, All-tail}
use Rattle.std.proofs.lemmas.Option.{none-some}
use Rattle.at_model.specs.Names.{is_name}
use Rattle.at_model.specs.Declarations.{AreNamed, Declaration, Declarations, Fault, IsDeclarationNamed, PartDeclaration, first_fault}
use Rattle.at_java.specs.Declarations.{Constant}
use Rattle.at_start.specs.Constants.{Placed, component, declaring, with_component, with_components}
use Rattle.at_start.specs.ConstantFaults.{Refusal, Tells, breach, breaking, broken, first_breach, first_refusal, refusal, unnamed}
use Rattle.at_start.specs.declared.fault.StartFault.{StartFault}
use Rattle.std.specs.Option.{option_map}
use Rattle.at_start.specs.declared.code.Code.TheVariants as code
use Rattle.at_start.proofs.PlantingLoops.{neither}

-- ---- one more component

module _ {X : Type 0} (view : X → Declaration) (k : Constant) (xs : List X) (i : ℕ) where
  split : (x : X) → i < length xs → x ≡ get_or xs i x → drop i xs ≡ x ∷ drop (i + 1) xs
  split x less is = drop-cons xs i x less ∙ ap (λ y. y ∷ drop (suc i) xs) (sym is) ∙ ap (λ n. x ∷ drop n xs) (sym (add-one i))

  -- the class at that position isn't the one
  pub not_here : (x : X) → i < length xs → x ≡ get_or xs i x → bytes_eq k.class.text (view x).name ≡ false
      → with_component (map view xs) k ≡ map view (take i xs) ++ with_component (map view (drop i xs)) k
      → with_component (map view xs) k ≡ map view (take (i + 1) xs) ++ with_component (map view (drop (i + 1) xs)) k
  not_here x less is other so_far =
      let rest = map view (drop (i + 1) xs) in
      let front : map view (take (i + 1) xs) ≡ map view (take i xs) ++ view x ∷ [] =
      ap (map view) (take_more xs i x less ∙ ap (λ y. take i xs ++ y ∷ []) (sym is)) ∙ map-append view (take i xs) (x ∷ []) in
      so_far ∙ ap (λ ys. map view (take i xs) ++ with_component (map view ys) k) (split x less is)
      ∙ ap (λ b. map view (take i xs) ++ (if b then declaring (view x) k ∷ rest else view x ∷ with_component rest k)) other
      ∙ sym (append_assoc (map view (take i xs)) (view x ∷ []) (with_component rest k))
      ∙ ap (λ ys. ys ++ with_component rest k) (sym front)

  -- it is
  pub here : (x y : X) → i < length xs → x ≡ get_or xs i x → bytes_eq k.class.text (view x).name ≡ true
      → view y ≡ declaring (view x) k
      → with_component (map view xs) k ≡ map view (take i xs) ++ with_component (map view (drop i xs)) k
      → map view (set xs i y) ≡ with_component (map view xs) k
  here x y less is same declares so_far =
      let rest = map view (drop (i + 1) xs) in
      ap (map view) (set_split xs i y less ∙ ap (λ n. take i xs ++ y ∷ drop n xs) (sym (add-one i))) ∙ map-append view (take i xs) (y ∷ drop (i + 1) xs)
      ∙ ap (λ d. map view (take i xs) ++ d ∷ rest) declares
      ∙ sym (ap (λ b. map view (take i xs) ++ (if b then declaring (view x) k ∷ rest else view x ∷ with_component rest k)) same)
      ∙ sym (ap (λ ys. map view (take i xs) ++ with_component (map view ys) k) (split x less is)) ∙ sym so_far

  pub not_there : length xs ≤ i
      → with_component (map view xs) k ≡ map view (take i xs) ++ with_component (map view (drop i xs)) k
      → map view xs ≡ with_component (map view xs) k
  not_there past so_far =
      sym (so_far ∙ ap (λ ys. map view (take i xs) ++ with_component (map view ys) k) (drop_all i xs past)
      ∙ append-nil (map view (take i xs)) ∙ ap (map view) (take_all i xs past))

-- what stands at a position is one
pub one_at : {X : Type 0} (xs : List X) (i : ℕ) (a b : X) → i < length xs → a ≡ get_or xs i a → b ≡ get_or xs i b → a ≡ b
one_at [] i a b less is is' = absurd (omega (arith, less))
one_at (x ∷ xs) zero a b less is is' = is ∙ sym is'
one_at (x ∷ xs) (suc i) a b less is is' = one_at xs i a b (omega (arith, less)) is is'

pub on_ok : {A E P Q : Type 0} (r : Result A E) → (P → Q) → OnOk r P → OnOk r Q
on_ok (Ok v) f h = f h
on_ok (Err e) f h = tt

-- ---- names

declaring_named : (d : Declaration) (k : Constant) → IsDeclarationNamed d → is_name k.name.text ≡ true → IsDeclarationNamed (declaring d k)
declaring_named d k named is = record {
  name = named.name;
  parts = All-append (λ (p : PartDeclaration). is_name p.name ≡ true) d.parts (component k ∷ []) named.parts
      (All-cons (λ (p : PartDeclaration). is_name p.name ≡ true) (component k) [] is (All-nil (λ (p : PartDeclaration). is_name p.name ≡ true)));
}

pub component_named : (ds : Declarations) (k : Constant) → AreNamed ds → is_name k.name.text ≡ true → AreNamed (with_component ds k)
component_named [] k named is = named
component_named (d ∷ ds) k named is =
    by (bytes_eq k.class.text d.name) (All-head IsDeclarationNamed d ds named) (All-tail IsDeclarationNamed d ds named)
    (component_named ds k (All-tail IsDeclarationNamed d ds named) is)
  where
    by : (b : Bool) → IsDeclarationNamed d → AreNamed ds → AreNamed (with_component ds k)
        → AreNamed (if b then declaring d k ∷ ds else d ∷ with_component ds k)
    by true first others behind = All-cons IsDeclarationNamed (declaring d k) ds (declaring_named d k first is) others
    by false first others behind = All-cons IsDeclarationNamed d (with_component ds k) first behind

pub named_is : (k : Placed) → unnamed k ≡ None → is_name k.constant.name.text ≡ true
named_is k none = by (is_name k.constant.name.text) refl
  where
    by : (b : Bool) → is_name k.constant.name.text ≡ b → b ≡ true
    by true is = refl
    by false is = absurd (none-some _ (sym none ∙ ap (λ b. if b then None else Some (refusal k code.AspectSyntax k.constant.name.at)) is))

pub components_named : (ds : Declarations) (ks : List Placed) → AreNamed ds → first_refusal unnamed ks ≡ None → AreNamed (with_components ds ks)
components_named ds [] named none = named
components_named ds (k ∷ ks) named none =
    let both = neither (unnamed k) (first_refusal unnamed ks) none in
    components_named (with_component ds k.constant) ks (component_named ds k.constant named (named_is k both.0)) both.1

-- ---- rules that are broken

pub none_broken : (ds : Declarations) (ks : List Placed) → first_fault ds ≡ None → first_breach ds ks ≡ None → first_fault (with_components ds ks) ≡ None
none_broken ds [] faultless none = faultless
none_broken ds (k ∷ ks) faultless none =
    let both = neither (broken (with_component ds k.constant) k) (first_breach (with_component ds k.constant) ks) none in
    none_broken (with_component ds k.constant) ks (by (first_fault (with_component ds k.constant)) both.0) both.1
  where
    by : (o : Option Fault) → option_map (λ (f : Fault). breach k f.code) o ≡ None → o ≡ None
    by None is = refl
    by (Some f) is = absurd (none-some _ (sym is))

pub breaks_of : (ds es : Declarations) (f : Fault) → es ≡ ds → first_fault es ≡ Some f → (g : Fault) × (first_fault ds ≡ Some g)
breaks_of ds es f same is = (f, subst (λ (d : Declarations). first_fault d ≡ Some f) same is)

-- the faults of all, where there is one
pub tells_breaking : (ds : Declarations) (ks : List Placed) (f : Fault) (e : StartFault) → first_fault (with_components ds ks) ≡ Some f
    → Tells (first_breach ds ks) e → Tells (breaking ds ks) e
tells_breaking ds ks f e broken told =
    subst (λ (o : Option Refusal). Tells o e) (sym (ap (λ (o : Option Fault). elim o as (λ _. Option Refusal) [ None ↦ None | Some g ↦ first_breach ds ks ]) broken)) told

pub none_breaking : (ds : Declarations) (ks : List Placed) → first_fault (with_components ds ks) ≡ None → breaking ds ks ≡ None
none_breaking ds ks none = ap (λ (o : Option Fault). elim o as (λ _. Option Refusal) [ None ↦ None | Some g ↦ first_breach ds ks ]) none
