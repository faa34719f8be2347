-- Components of the grammar that constants fill, and what loops over them find.
use Rattle.std.proofs.Common.{◌≡◌, ◌∙◌, ℕ, suc, ◌+◌, ◌<◌, ◌≤◌, Bool, true, false, ◌||◌, not, List, [], ◌∷◌, ◌++◌, length, map, take, drop, get_or, Option, Some, None, is_some, if◌then◌else◌, refl, sym, ap, subst, add-one}
use Rattle.std.specs.List.{All, filter, list_any}
use Rattle.std.specs.Option.{option_or}
use Rattle.std.proofs.Math.Seq.{drop-cons}
use Rattle.std.proofs.lemmas.List.{drop_all, map-append, take_more}
use Rattle.std.proofs.lemmas.List.Elements.{All-cons, All-head, All-tail}
use Rattle.at_model.specs.Names.{is_name}
use Rattle.at_model.specs.Declarations.{AreNamed, Declarations, IsDeclarationNamed, PartDeclaration, Place}
use Rattle.at_start.specs.Constants.{Placed, additions, bare, bare_class, filled, is_marked, whole_grammar}
use Rattle.at_start.specs.ConstantFaults.{Refusal, Tells, fills_again, first_again, first_refusal, refusal, unnamed}
use Rattle.at_start.specs.declared.fault.StartFault.{StartFault}
use Rattle.at_start.specs.declared.code.Code.TheVariants as code
use Rattle.at_start.proofs.PlantingGrammars.{components_named}
use Rattle.at_start.proofs.PlantingLoops.{neither, tells_first}

-- ---- tests on what is seen

pub any_map : {X Y : Type 0} (p : Y → Bool) (view : X → Y) (xs : List X) → list_any p (map view xs) ≡ list_any (λ x. p (view x)) xs
any_map p view [] = refl
any_map p view (x ∷ xs) = ap (λ b. p (view x) || b) (any_map p view xs)

pub map_filter : {X Y : Type 0} (p : Y → Bool) (view : X → Y) (xs : List X) → map view (filter (λ x. p (view x)) xs) ≡ filter p (map view xs)
map_filter p view [] = refl
map_filter p view (x ∷ xs) = by (p (view x)) (map_filter p view xs)
  where
    by : (b : Bool) → map view (filter (λ x. p (view x)) xs) ≡ filter p (map view xs)
        → map view (if b then x ∷ filter (λ x. p (view x)) xs else filter (λ x. p (view x)) xs) ≡ (if b then view x ∷ filter p (map view xs) else filter p (map view xs))
    by true behind = ap (λ ys. view x ∷ ys) behind
    by false behind = behind

-- ---- components that are filled twice

module _ {X : Type 0} (marks : List Place) (ds : Declarations) (view : X → Placed) (xs : List X) (i : ℕ) (x : X) (less : i < length xs) (is : x ≡ get_or xs i x) where
  again_split : first_again marks ds (map view (take i xs)) (map view (drop i xs))
      ≡ (if fills_again marks ds (map view (take i xs)) (view x) then Some (refusal (view x) code.EquationTwice (view x).constant.name.at)
      else first_again marks ds (map view (take (i + 1) xs)) (map view (drop (i + 1) xs)))
  again_split =
      let front = map view (take i xs) in
      let rest = drop (suc i) xs in
      let here : drop i xs ≡ x ∷ rest = drop-cons xs i x less ∙ ap (λ y. y ∷ rest) (sym is) in
      let longer : map view (take (i + 1) xs) ≡ front ++ view x ∷ [] =
      ap (map view) (take_more xs i x less ∙ ap (λ y. take i xs ++ y ∷ []) (sym is)) ∙ map-append view (take i xs) (x ∷ []) in
      let told : Option Refusal = Some (refusal (view x) code.EquationTwice (view x).constant.name.at) in
      ap (λ ys. first_again marks ds front (map view ys)) here
      ∙ ap (λ n. if fills_again marks ds front (view x) then told else first_again marks ds (front ++ view x ∷ []) (map view (drop n xs))) (sym (add-one i))
      ∙ ap (λ ys. if fills_again marks ds front (view x) then told else first_again marks ds ys (map view (drop (i + 1) xs))) (sym longer)

  as_or : (b : Bool) (r : Refusal) (o : Option Refusal) → (if b then Some r else o) ≡ option_or (if b then Some r else None) o
  as_or true r o = refl
  as_or false r o = refl

  again_or : first_again marks ds (map view (take i xs)) (map view (drop i xs))
      ≡ option_or (first_again marks ds (map view (take i xs)) (view x ∷ [])) (first_again marks ds (map view (take (i + 1) xs)) (map view (drop (i + 1) xs)))
  again_or = again_split ∙ as_or (fills_again marks ds (map view (take i xs)) (view x)) (refusal (view x) code.EquationTwice (view x).constant.name.at) _

  pub again_later : first_again marks ds (map view (take i xs)) (view x ∷ []) ≡ None
      → first_again marks ds (map view (take i xs)) (map view (drop i xs)) ≡ first_again marks ds (map view (take (i + 1) xs)) (map view (drop (i + 1) xs))
  again_later none = again_or ∙ ap (λ o. option_or o (first_again marks ds (map view (take (i + 1) xs)) (map view (drop (i + 1) xs)))) none

  pub again_here : (e : StartFault) → Tells (first_again marks ds (map view (take i xs)) (view x ∷ [])) e
      → first_again marks ds [] (map view xs) ≡ first_again marks ds (map view (take i xs)) (map view (drop i xs))
      → Tells (first_again marks ds [] (map view xs)) e
  again_here e told so_far =
      subst (λ (o : Option Refusal). Tells o e) (sym (so_far ∙ again_or))
      (tells_first (first_again marks ds (map view (take i xs)) (view x ∷ [])) (first_again marks ds (map view (take (i + 1) xs)) (map view (drop (i + 1) xs))) e told)

pub again_nowhere : {X : Type 0} (marks : List Place) (ds : Declarations) (view : X → Placed) (xs : List X) (i : ℕ) → length xs ≤ i
    → first_again marks ds [] (map view xs) ≡ first_again marks ds (map view (take i xs)) (map view (drop i xs))
    → first_again marks ds [] (map view xs) ≡ None
again_nowhere marks ds view xs i past so_far = so_far ∙ ap (λ ys. first_again marks ds (map view (take i xs)) (map view ys)) (drop_all i xs past)

-- ---- grammars without marked components

named_filtered : (p : PartDeclaration → Bool) (ps : List PartDeclaration) → All (λ (q : PartDeclaration). is_name q.name ≡ true) ps
    → All (λ (q : PartDeclaration). is_name q.name ≡ true) (filter p ps)
named_filtered p [] named = named
named_filtered p (q ∷ ps) named = by (p q) (named_filtered p ps (All-tail (λ (q : PartDeclaration). is_name q.name ≡ true) q ps named))
  where
    by : (b : Bool) → All (λ (q : PartDeclaration). is_name q.name ≡ true) (filter p ps)
        → All (λ (q : PartDeclaration). is_name q.name ≡ true) (if b then q ∷ filter p ps else filter p ps)
    by true behind = All-cons (λ (q : PartDeclaration). is_name q.name ≡ true) q (filter p ps) (All-head (λ (q : PartDeclaration). is_name q.name ≡ true) q ps named) behind
    by false behind = behind

pub bare_named : (marks : List Place) (ds : Declarations) → AreNamed ds → AreNamed (bare marks ds)
bare_named marks [] named = named
bare_named marks (d ∷ ds) named =
    let first = All-head IsDeclarationNamed d ds named in
    All-cons IsDeclarationNamed (bare_class marks d) (bare marks ds)
    (record { name = first.name; parts = named_filtered (λ p. not (is_marked marks p)) d.parts first.parts })
    (bare_named marks ds (All-tail IsDeclarationNamed d ds named))

-- ---- names of constants that add components

none_among : (f : Placed → Option Refusal) (p : Placed → Bool) (ks : List Placed) → first_refusal f ks ≡ None → first_refusal f (filter p ks) ≡ None
none_among f p [] none = none
none_among f p (k ∷ ks) none =
    let both = neither (f k) (first_refusal f ks) none in
    by (p k) both.0 (none_among f p ks both.1)
  where
    by : (b : Bool) → f k ≡ None → first_refusal f (filter p ks) ≡ None → first_refusal f (if b then k ∷ filter p ks else filter p ks) ≡ None
    by true here behind = ap (λ o. option_or o (first_refusal f (filter p ks))) here ∙ behind
    by false here behind = behind

pub unnamed_additions : (marks : List Place) (ds : Declarations) (ks : List Placed) → first_refusal unnamed ks ≡ None
    → first_refusal unnamed (additions marks ds ks) ≡ None
unnamed_additions marks ds ks none = none_among unnamed (λ k. not (is_some (filled marks ds k.constant))) ks none

pub additions_named : (marks : List Place) (ds : Declarations) (ks : List Placed) → AreNamed ds → first_refusal unnamed ks ≡ None
    → AreNamed (whole_grammar marks ds ks)
additions_named marks ds ks named none = components_named ds (additions marks ds ks) named (unnamed_additions marks ds ks none)
