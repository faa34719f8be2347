-- The bodies of equations have the kinds of their attributes.
use Rattle.std.proofs.Common.{◌≡◌, ℕ, suc, ◌+◌, ◌≤◌, Bool, true, false, List, [], ◌∷◌, length, map, drop, Option, Some, None, refl, sym, ap, ◌∙◌, subst, true≢false, arith}
use Rattle.std.specs.Prelude.{is_some, option_map, nat_lt, if◌then◌else◌}
use Rattle.std.specs.List.{slice_get, AllZip}
use Rattle.std.proofs.Math.Seq.{drop-cons}
use Rattle.std.proofs.lemmas.Bool.{eqb-true, ltb-false}
use Rattle.std.proofs.lemmas.List.{drop_all}
use Rattle.std.proofs.lemmas.Option.{slice_get_within, get_or_from_slice_get}
use Rattle.at_model.specs.Classes.{Classes}
use Rattle.at_model.specs.Bodies.{Expr}
use Rattle.at_model.specs.Rules.{Rules, Attribute}
use Rattle.at_model.specs.Rules as model
use Rattle.at_model.specs.Kinds.{ScopeKinds, HasKind}
use Rattle.at_text.specs.declared.place.Place.{Place}
use Rattle.at_jrag.specs.Syntax.{Word, Param, Body, DeclForm, place}
use Rattle.at_rules.specs.Bodies.{kind_view}
use Rattle.at_rules.specs.declared.body.Kind.{Kind}
use Rattle.at_rules.specs.declared.body.Kind.TheVariants as kind
use Rattle.at_typing.specs.Declaring.{params_in, index_in}
use Rattle.at_kinds.specs.declared.arguments.Arguments.{Arguments}
use Rattle.at_kinds.specs.Judging.{Kinded, Judgement, Is, Wrong, and_then, fitting, body_of, judged}
use Rattle.at_kinds.specs.Kinds.{fits}
use Rattle.at_typing.specs.Located.{Located}
use Rattle.at_typing.specs.Meanings.{scope, body_for, body_if, body_meant}
use Rattle.at_typing.specs.Ruling.{as_written, known_kind, is_same, is_kind, passed_if, param_named, param_as_declared, as_declared, bound}
use Rattle.at_kinds.specs.Signatures.{Declared}
use Rattle.at_kinds.specs.declared.code.RuleCode.TheVariants as code
use Rattle.at_kinds.specs.declared.signatures.WrittenKind.{WrittenKind}
use Rattle.at_kinds.specs.declared.signatures.WrittenKind.TheVariants.{Known, Strange}
use Rattle.at_kinds.proofs.Holding.{Holds, then_holds}
use Rattle.at_kinds.proofs.KindsKnown.{IsKind, IsDeclaredAs, beside_it}
use Rattle.at_typing.proofs.of_attributes.KindsDeclared.{IsPassed, param_named_right}
use Rattle.at_kinds.proofs.KindsOfForms.{Right, int_has, truth_has, text_has}
use Rattle.at_kinds.proofs.KindsOfCalls.{within_has}
use Rattle.at_typing.proofs.KindsJudged.{IsBound, judged_right}
use Rattle.at_typing.proofs.Literals.{AreInts}

-- the parameters of an equation -----------------------------------------------------------------------------------------

same_kind : (j k : Kind) → is_same j k ≡ true → j ≡ k
same_kind kind.Int kind.Int is = refl
same_kind kind.Bool kind.Bool is = refl
same_kind kind.Text kind.Text is = refl
same_kind (kind.Class b) (kind.Class c) is = ap kind.Class (eqb-true b c is)
same_kind j k is = absurd (true≢false (sym is))

-- the kind that is declared
kind_declared : (o : Option WrittenKind) (k : Kind) → is_kind o k ≡ true → o ≡ Some (Known k)
kind_declared None k is = absurd (true≢false (sym is))
kind_declared (Some (Strange first)) k is = absurd (true≢false (sym is))
kind_declared (Some (Known j)) k is = ap (λ l. Some (Known l)) (same_kind j k is)

-- its kind is known, and the one that is declared
abbrev IsAsDeclared : List model.Kind → ℕ → WrittenKind → Type 0
IsAsDeclared ms i w = (m : model.Kind) × (slice_get ms i ≡ Some m) × IsKind w m

param_right : (allowed : Arguments) (classes : Classes) (ws : List WrittenKind) (ms : List model.Kind) (i : ℕ)
    (p : Param)
    → AllZip IsKind ws ms → Holds (λ k. IsAsDeclared ms i (as_written None (known_kind classes p.kind.kind)))
    (param_as_declared allowed classes ws i p)
param_right allowed classes ws ms i p zip = then_holds (IsPassed allowed classes i p)
    (λ k. IsAsDeclared ms i (as_written None (known_kind classes p.kind.kind)))
    (λ k. passed_if (is_kind (slice_get ws i) k) p.kind.at k) (param_named allowed classes i p)
    (param_named_right allowed classes i p)
    (λ k passed. by k passed (is_kind (slice_get ws i) k) refl)
  where
    same_view : (w : WrittenKind) (k : Kind) (m : model.Kind) → IsKind w (kind_view k) → IsKind (Known k) m → IsKind w m
    same_view w k m is other = subst (IsKind w) other is

    by : (k : Kind) → IsPassed allowed classes i p k → (b : Bool) → is_kind (slice_get ws i) k ≡ b
        → Holds (λ k. IsAsDeclared ms i (as_written None (known_kind classes p.kind.kind))) (passed_if b p.kind.at k)
    by k passed true is =
        let (m, there, known) = beside_it IsKind ws ms i (Known k) zip (kind_declared (slice_get ws i) k is) in
        (m, there, same_view (as_written None (known_kind classes p.kind.kind)) k m (passed.named.known None) known)
    by k passed false is = tt

front : (ms : List model.Kind) (i : ℕ) (m : model.Kind) → slice_get ms i ≡ Some m → drop i ms ≡ m ∷ drop (i + 1) ms
front ms i m is =
    let next : suc i ≡ i + 1 = omega arith in
    drop-cons ms i m (slice_get_within ms i m is) ∙ ap (λ x. x ∷ drop (suc i) ms) (get_or_from_slice_get ms i m m is) ∙ ap (λ n. m ∷ drop n ms) next

long_as : (ws : List WrittenKind) (ms : List model.Kind) → AllZip IsKind ws ms → length ms ≡ length ws
long_as [] [] zip = refl
long_as [] (m ∷ ms) zip = absurd zip
long_as (w ∷ ws) [] zip = absurd zip
long_as (w ∷ ws) (m ∷ ms) zip = ap suc (long_as ws ms zip.1)

-- the names of an equation's parameters stand for what its attribute's parameters are
params_right : (allowed : Arguments) (classes : Classes) (ws : List WrittenKind) (ms : List model.Kind) (end : Place)
    (i : ℕ) (ps : List Param) → AllZip IsKind ws ms
    → Holds (λ u. AllZip IsBound (map (bound classes) ps) (drop i ms)) (as_declared allowed classes ws end i ps)
params_right allowed classes ws ms end i [] zip = by (nat_lt i (length ws)) refl
  where
    past : nat_lt i (length ws) ≡ false → length ms ≤ i
    past off = let more = ltb-false i (length ws) off in omega (arith, more, long_as ws ms zip)

    by : (b : Bool) → nat_lt i (length ws) ≡ b → Holds {A = Unit {0}} (λ u. AllZip IsBound [] (drop i ms)) (if b then Wrong code.Argument end else Is tt)
    by true is = tt
    by false is = subst (λ xs. AllZip IsBound [] xs) (sym (drop_all i ms (past is))) tt
params_right allowed classes ws ms end i (p ∷ ps) zip =
    then_holds (λ k. IsAsDeclared ms i (as_written None (known_kind classes p.kind.kind)))
    (λ u. AllZip IsBound (map (bound classes) (p ∷ ps)) (drop i ms))
    (λ k. as_declared allowed classes ws end (i + 1) ps)
    (param_as_declared allowed classes ws i p) (param_right allowed classes ws ms i p zip) (λ k (m, there, known).
    by m (front ms i m there) known (as_declared allowed classes ws end (i + 1) ps)
    (params_right allowed classes ws ms end (i + 1) ps zip))
  where
    by : (m : model.Kind) → drop i ms ≡ m ∷ drop (i + 1) ms → IsKind (as_written None (known_kind classes p.kind.kind))
        m → (j : Judgement (Unit {0})) → Holds (λ u. AllZip IsBound (map (bound classes) ps) (drop (i + 1) ms)) j
        → Holds (λ u. AllZip IsBound (map (bound classes) (p ∷ ps)) (drop i ms)) j
    by m is known (Is u) rest = subst (λ xs. AllZip IsBound (map (bound classes) (p ∷ ps)) xs) (sym is) (known, rest)
    by m is known (Wrong c at) rest = tt

-- bodies ----------------------------------------------------------------------------------------------------------------

module _ (allowed : Arguments) (rules : Rules) where
  -- a body that fits the kind of its attribute
  fit_right : (t : ScopeKinds) (k : Kinded) (w : WrittenKind) (m : model.Kind) → IsKind w m → fits rules.classes k.kind w ≡ true → Right rules t k → HasKind rules t k.body m
  fit_right t k (Known kind.Int) m is fit h = subst (HasKind rules t k.body) is (int_has rules t k.kind k.body fit h)
  fit_right t k (Known kind.Bool) m is fit h = subst (HasKind rules t k.body) is (truth_has rules t k.kind k.body fit h)
  fit_right t k (Known kind.Text) m is fit h = subst (HasKind rules t k.body) is (text_has rules t k.kind k.body fit h)
  fit_right t k (Known (kind.Class b)) m is fit h = subst (HasKind rules t k.body) is (within_has rules t b k.kind k.body fit h)
  fit_right t k (Strange first) m is fit h = absurd is

  module _ (declared : List Declared) (same : AllZip IsDeclaredAs declared rules.attributes) where
    abbrev where_stands : ℕ → Attribute → Bool → ScopeKinds
    where_stands c a indexed = record { this = c; names = a.parameters; has_index = indexed }

    -- where the names of the parameters are right, and the index name too
    body_of_right : (c : ℕ) (form : DeclForm) (body : Body) (s : Declared) (a : Attribute) (indexed : Bool)
        → AreInts body.expr → IsDeclaredAs s a → (is_some (index_in form) ≡ true → indexed ≡ true)
        → AllZip IsBound (map (bound rules.classes) (params_in form).items) a.parameters
        → Holds (λ e. HasKind rules (where_stands c a indexed) e a.result)
        (body_of (scope allowed rules.classes declared c form) body.expr s.result)
    body_of_right c form body s a indexed ints of index names =
        then_holds (Right rules (where_stands c a indexed)) (λ e. HasKind rules (where_stands c a indexed) e a.result)
        (fitting rules.classes s.result (place body.expr)) (judged
        (scope allowed rules.classes declared c form) body.expr)
        (judged_right allowed rules declared same (where_stands c a indexed) c
        (map (bound rules.classes) (params_in form).items) (option_map (λ w. w.text) (index_in form)) (record
        { this_class = refl; bound = names; indexed = λ is. index (some_word (index_in form) is) }) body.expr ints)
        (λ k h. by k h (fits rules.classes k.kind s.result) refl)
      where
        some_word : (o : Option Word) → is_some (option_map (λ (w : Word). w.text) o) ≡ true → is_some o ≡ true
        some_word None is = is
        some_word (Some w) is = refl

        by : (k : Kinded) → Right rules (where_stands c a indexed) k → (b : Bool)
            → fits rules.classes k.kind s.result ≡ b → Holds (λ e. HasKind rules (where_stands c a indexed) e a.result)
            (if b then Is k.body else Wrong code.Kind (place body.expr))
        by k h true is = fit_right (where_stands c a indexed) k s.result a.result of.result is h
        by k h false is = tt

    -- the equation is for the attribute of that number, and its body has the kind
    pub record IsBodyOf (c : ℕ) (indexed : Bool) (e : ℕ × Expr) : Type 0 where
      pub declaration : Attribute
      pub attribute : slice_get rules.attributes e.0 ≡ Some declaration
      pub body : HasKind rules (where_stands c declaration indexed) e.1 declaration.result

    pub body_right : (c : ℕ) (d : Located) (body : Body) (o : Option ℕ) (indexed : Bool) → AreInts body.expr → (is_some (index_in d.decl.form) ≡ true → indexed ≡ true)
        → Holds (λ e. IsBodyOf c indexed e × (o ≡ Some e.0)) (body_meant allowed rules.classes declared c d body o)
    body_right c d body None indexed ints index = tt
    body_right c d body (Some n) indexed ints index = by (slice_get declared n) refl
      where
        with_attribute : (s : Declared) (a : Attribute) → slice_get rules.attributes n ≡ Some a → IsDeclaredAs s a
            → Holds (λ e. IsBodyOf c indexed e × (Some n ≡ Some e.0))
            (and_then (λ e. Is (n, e)) (body_for allowed rules.classes declared c d body s))
        with_attribute s a there of =
            then_holds (λ e. HasKind rules (where_stands c a indexed) e a.result)
            (λ e. IsBodyOf c indexed e × (Some n ≡ Some e.0)) (λ e. Is (n, e))
            (body_for allowed rules.classes declared c d body s)
            (then_holds (λ u. AllZip IsBound (map (bound rules.classes) (params_in d.decl.form).items)
            (drop 0 a.parameters)) (λ e. HasKind rules (where_stands c a indexed) e a.result)
            (λ u. body_of (scope allowed rules.classes declared c d.decl.form) body.expr s.result)
            (as_declared allowed rules.classes s.parameters (params_in d.decl.form).end 0 (params_in d.decl.form).items)
            (params_right allowed rules.classes s.parameters a.parameters (params_in d.decl.form).end 0
            (params_in d.decl.form).items of.parameters)
            (λ u names. body_of_right c d.decl.form body s a indexed ints of index names))
            (λ e h. (record { declaration = a; attribute = there; body = h }, refl))

        by : (s : Option Declared) → slice_get declared n ≡ s
            → Holds (λ e. IsBodyOf c indexed e × (Some n ≡ Some e.0))
            (and_then (λ e. Is (n, e)) (body_if allowed rules.classes declared c d body s))
        by None is = tt
        by (Some s) is = let (a, there, of) = beside_it IsDeclaredAs declared rules.attributes n s same is in with_attribute s a there of
