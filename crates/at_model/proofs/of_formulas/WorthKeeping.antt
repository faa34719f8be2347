-- What is worth keeping, where no attribute is circular.
use Rattle.std.proofs.Common.{◌≡◌, ◌↔◌, ℕ, true, None, inl, inr, refl, sym, subst}
use Rattle.at_model.specs.Trees.{Tree}
use Rattle.at_model.specs.Paths.{Node, node_eq}
use Rattle.at_model.specs.Run.{Contents, Value, Instance}
use Rattle.at_model.specs.Rules.{Rules, is_lazy, start_of}
use Rattle.at_model.specs.Meaning.{Equations, Finds, Outcome, content, equations}
use Rattle.at_model.specs.Meaning as meaning
use Rattle.at_model.specs.Sparing.{IsWorthKeeping}
use Rattle.at_model.specs.of_fixpoints.Circles.{Circular}
use Rattle.at_model.specs.of_fixpoints.Fixpoints.{HasValue, Holds}
use Rattle.at_model.specs.of_fixpoints.Formulas.{Forms}
use Rattle.at_model.specs.of_fixpoints.Met.{here, IsLookedAt, IsMet}
use Rattle.at_model.specs.of_fixpoints.Resting.{Leads, stays, goes}
use Rattle.at_model.specs.of_fixpoints.Sets.{plain_forms}
use Rattle.at_model.proofs.of_formulas.PlainAnswers.{comes_plain, leads_on, leads_off}
use Rattle.at_model.proofs.of_formulas.PlainForms.{holds_back_all, holds_on_all}
use Rattle.at_model.proofs.of_formulas.PlainRules.{rules_plain}
use Rattle.at_model.proofs.of_searching.Deciding.{demand_decided}

-- Where a circle answers the question, what has an outcome and is led to by one that its search looks at was met.
module _ {N : Type 0} (look : Contents N) (equation : Equations N) (q c : Instance N)
    (circle : Circular look (plain_forms equation) q c) where
  met_from : (x i : Instance N) (o : Outcome N) → IsLookedAt look (plain_forms equation) q x →
      Leads look (plain_forms equation) x i → Holds look (plain_forms equation) i o → IsMet look (plain_forms equation) q i
  met_from x _ o l (stays _) h =
      record { by = x; looked = l; settled = x; is = inl refl; outcome = o; holds = h; led = stays x }
  met_from x i o l (goes _ m _ comes more) h =
      let reach = comes_plain look equation x m comes in
      elim (demand_decided look (plain_forms equation) q c x m circle l reach) [
        | inl (p, holds) ↦ record { by = x; looked = l; settled = m; is = inr reach; outcome = p; holds = holds; led = more }
        | inr (none, at) ↦ met_from m i o at more h
      ]

-- what is worth keeping, by equations
module _ (rules : Rules) (t : Tree) (q i : Instance Node) (none : (attribute : ℕ) → start_of rules attribute ≡ None) where
  abbrev IsWorthBy : Forms Node → Type 0
  IsWorthBy z = Leads (content t) z q i × (is_lazy rules i.attribute ≡ true) × ((v : Value Node) × HasValue (content t) z i v)
      × ((c : Instance Node) → Circular (content t) z q c → IsMet (content t) z q i)

  abbrev pub IsPlainWorth : Type 0
  IsPlainWorth = meaning.Leads (content t) (equations rules) q i × (is_lazy rules i.attribute ≡ true)
      × ((v : Value Node) × meaning.HasValue (content t) (equations rules) i v)

  by_equations : IsWorthBy (plain_forms (equations rules)) → IsPlainWorth
  by_equations (l, lazy, (v, has), before) =
      (leads_off (content t) (equations rules) q i l, lazy, (v, holds_back_all (content t) (equations rules) i (Finds v) has))

  to_equations : IsPlainWorth → IsWorthBy (plain_forms (equations rules))
  to_equations (l, lazy, (v, has)) =
      let led = leads_on (content t) (equations rules) q i l in
      let holds = holds_on_all (content t) (equations rules) i (Finds v) has in
      (led, lazy, (v, holds), λ c circle. met_from (content t) (equations rules) q c circle q i (Finds v) (here q) led holds)

  pub worth_by_equations : IsWorthKeeping rules t q i ↔ IsPlainWorth
  worth_by_equations = (
    λ w. by_equations (subst IsWorthBy (rules_plain rules node_eq none) (w.reached, w.lazy, (w.value, w.has), w.before)),
    λ p. (
        let (l, lazy, (v, has), before) = subst IsWorthBy (sym (rules_plain rules node_eq none)) (to_equations p) in
        record { reached = l; lazy = lazy; value = v; has = has; before = before }
        ),
  )
