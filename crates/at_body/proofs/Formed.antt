-- The start of an evaluation to a formula.
use Rattle.std.proofs.Common.{◌≡◌, ℕ, suc, List, [], ◌∷◌, ◌++◌, refl, ap, sym, ◌∙◌, nat_eq, map, Option, Some, None, Bor, Result, Ok, Err, IfOk}
use Rattle.std.specs.Prelude.{true, false}
use Rattle.at_model.specs.Run.{Value, Instance, Location, Is, Up, Contents, Null, Run, Fails, Looks, Gives, ◌>>=◌}
use Rattle.at_model.specs.Bodies.{Expr, Scope}
use Rattle.at_model.specs.Rules.{Rules, inherited_equation, attribute_name, evaluation, start_of}
use Rattle.at_model.specs.Support.{argument_classes}
use Rattle.at_model.specs.Follow.{Reached, follow}
use Rattle.at_model.specs.of_fixpoints.Formulas.{Formula}
use Rattle.at_model.specs.of_fixpoints.Evaluations.{by_equation, formula_of}
use Rattle.at_rules.specs.Bodies.{body_view}
use Rattle.at_rules.specs.declared.body.Body.{Body}
use Rattle.at_body.specs.declared.trial.Trial.{Trial}
use Rattle.at_body.specs.Values.{value_view}
use Rattle.at_body.specs.Standing.{scope}
use Rattle.at_body.specs.Rest.{place_of}
use Rattle.at_body.specs.Starting.{by_rule, evaluation_of_forms, form_by_rule, formula_at, inherited_form_of}
use Rattle.at_body.proofs.Climbing.{past, started}

-- where nothing is bound
pub at_place : (t : Trial) (n : ℕ) (vs : List (Value ℕ)) (child : Option ℕ) → t.bound ≡ [] → t.this ≡ n → map value_view t.arguments ≡ vs → t.child ≡ child →
    scope (place_of t) ≡ record { this = n; names = vs; child = child }
at_place t n vs child unbound this passed down = rw (unbound, this, passed, down) refl

module _ (rules : Rules) (tree : Contents ℕ) (seen : List (Location ℕ)) (attribute : ℕ) (vs : List (Value ℕ)) (height h n p part : ℕ)
    (high : height ≡ suc h) (up : Some (p, part) ≡ tree (Up n)) where
  abbrev at_parent : Option Expr → Run ℕ (Formula ℕ)
  at_parent o = by_equation rules nat_eq (start_of rules attribute) (record { this = p; names = vs; child = Some n }) (inherited_form_of rules attribute vs h p) o

  looked_up : follow tree seen (inherited_form_of rules attribute vs height n)
      ≡ follow tree ((seen ++ Up n ∷ []) ++ Is p ∷ []) (at_parent (inherited_equation rules (tree (Is p)) part (attribute_name rules attribute)))
  looked_up =
      let above : Option (ℕ × ℕ) → Run ℕ (Formula ℕ) = elim [
        | None ↦ Fails Null
        | Some q ↦ Looks (Is q.0) (λ c. by_equation rules nat_eq (start_of rules attribute) (record { this = q.0; names = vs; child = Some n })
            (inherited_form_of rules attribute vs h q.0) (inherited_equation rules c q.1 (attribute_name rules attribute)))
      ] in
      ap (λ k. follow tree seen (inherited_form_of rules attribute vs k n)) high
      ∙ ap (λ o. follow tree (seen ++ Up n ∷ []) (above o)) (sym up)

  -- the equation stands at the parent
  pub form_found : (b : Body) (t : Trial) → Some (body_view b) ≡ inherited_equation rules (tree (Is p)) part (attribute_name rules attribute) →
      t.bound ≡ [] → t.this ≡ p → map value_view t.arguments ≡ vs → t.child ≡ Some n →
      follow tree seen (inherited_form_of rules attribute vs height n)
      ≡ follow tree ((seen ++ Up n ∷ []) ++ Is p ∷ []) (formula_at rules (start_of rules attribute) b (place_of t))
  form_found b t is unbound this passed down =
      looked_up
      ∙ ap (λ o. follow tree ((seen ++ Up n ∷ []) ++ Is p ∷ []) (at_parent o)) (sym is)
      ∙ ap (λ s. follow tree ((seen ++ Up n ∷ []) ++ Is p ∷ []) (formula_of rules nat_eq (start_of rules attribute) (body_view b) s)) (sym (at_place t p vs (Some n) unbound this passed down))

  -- or it stands above the parent
  pub form_climbs : None ≡ inherited_equation rules (tree (Is p)) part (attribute_name rules attribute) →
      follow tree seen (inherited_form_of rules attribute vs height n)
      ≡ follow tree ((seen ++ Up n ∷ []) ++ Is p ∷ []) (inherited_form_of rules attribute vs h p)
  form_climbs is = looked_up ∙ ap (λ o. follow tree ((seen ++ Up n ∷ []) ++ Is p ∷ []) (at_parent o)) (sym is)

-- an own equation
pub form_own : (rules : Rules) (n attribute : ℕ) (vs : List (Value ℕ)) (b : Body) (t : Trial) (o : Option Expr) → Some (body_view b) ≡ o →
    t.bound ≡ [] → t.this ≡ n → map value_view t.arguments ≡ vs → t.child ≡ None →
    by_equation rules nat_eq (start_of rules attribute) (record { this = n; names = vs; child = None }) (Fails Null) o
    ≡ formula_at rules (start_of rules attribute) b (place_of t)
form_own rules n attribute vs b t o is unbound this passed top =
    ap (by_equation rules nat_eq (start_of rules attribute) (record { this = n; names = vs; child = None }) (Fails Null)) (sym is)
    ∙ ap (formula_of rules nat_eq (start_of rules attribute) (body_view b)) (sym (at_place t n vs None unbound this passed top))

form_starts : (rules : Rules) (tree : Contents ℕ) (i : Instance ℕ) (seen : List (Location ℕ)) (c : ℕ) (end : Reached ℕ (Formula ℕ) × List (Location ℕ)) →
    seen ≡ (Is i.node ∷ []) ++ argument_classes i.arguments → c ≡ tree (Is i.node) → follow tree seen (form_by_rule rules i.node i.attribute i.arguments c) ≡ end →
    follow tree [] (evaluation_of_forms rules i) ≡ end
form_starts rules tree i seen c end grows is h =
    let s : follow tree [] (evaluation_of_forms rules i) ≡ follow tree ((Is i.node ∷ []) ++ argument_classes i.arguments) (form_by_rule rules i.node i.attribute i.arguments (tree (Is i.node))) =
    past tree (Is i.node ∷ []) i.arguments (form_by_rule rules i.node i.attribute i.arguments (tree (Is i.node))) in
    s ∙ ap (λ d. follow tree ((Is i.node ∷ []) ++ argument_classes i.arguments) (form_by_rule rules i.node i.attribute i.arguments d)) (sym is)
    ∙ ap (λ ls. follow tree ls (form_by_rule rules i.node i.attribute i.arguments c)) (sym grows) ∙ h

-- of a node, an attribute and arguments that are those of the instance
pub form_started : (rules : Rules) (tree : Contents ℕ) (i : Instance ℕ) (seen : List (Location ℕ)) (n a c : ℕ) (vs : List (Value ℕ)) (end : Reached ℕ (Formula ℕ) × List (Location ℕ)) →
    n ≡ i.node → a ≡ i.attribute → vs ≡ i.arguments → seen ≡ (Is n ∷ []) ++ argument_classes vs → c ≡ tree (Is n) →
    follow tree seen (form_by_rule rules n a vs c) ≡ end → follow tree [] (evaluation_of_forms rules i) ≡ end
form_started rules tree i seen n a c vs end e f g grows is h =
    let whole : i ≡ record { node = n; attribute = a; arguments = vs } = rw (e, f, g) refl in
    ap (λ j. follow tree [] (evaluation_of_forms rules j)) whole ∙ form_starts rules tree (record { node = n; attribute = a; arguments = vs }) seen c end grows is h

-- once the equation is there
pub seek_same : {E : Type 0} (res : Result (Bor Body) E) (rules : Rules) (tree : Contents ℕ) (i : Instance ℕ) (seen : List (Location ℕ)) (n a c : ℕ) (vs : List (Value ℕ)) (end_of : Bor Body → Reached ℕ (Value ℕ) × List (Location ℕ)) →
    n ≡ i.node → a ≡ i.attribute → vs ≡ i.arguments → seen ≡ (Is n ∷ []) ++ argument_classes vs → c ≡ tree (Is n) →
    IfOk res (λ b. follow tree seen (by_rule rules n a vs c) ≡ end_of b) → IfOk res (λ b. follow tree [] (evaluation rules nat_eq i) ≡ end_of b)
seek_same (Ok b) rules tree i seen n a c vs end_of e f g grows is h = started rules tree i seen n a c vs (end_of b) e f g grows is h
seek_same (Err x) rules tree i seen n a c vs end_of e f g grows is h = tt

pub seek_formed : {E : Type 0} (res : Result (Bor Body) E) (rules : Rules) (tree : Contents ℕ) (i : Instance ℕ) (seen : List (Location ℕ)) (n a c : ℕ) (vs : List (Value ℕ)) (end_of : Bor Body → Reached ℕ (Formula ℕ) × List (Location ℕ)) →
    n ≡ i.node → a ≡ i.attribute → vs ≡ i.arguments → seen ≡ (Is n ∷ []) ++ argument_classes vs → c ≡ tree (Is n) →
    IfOk res (λ b. follow tree seen (form_by_rule rules n a vs c) ≡ end_of b) → IfOk res (λ b. follow tree [] (evaluation_of_forms rules i) ≡ end_of b)
seek_formed (Ok b) rules tree i seen n a c vs end_of e f g grows is h = form_started rules tree i seen n a c vs (end_of b) e f g grows is h
seek_formed (Err x) rules tree i seen n a c vs end_of e f g grows is h = tt
