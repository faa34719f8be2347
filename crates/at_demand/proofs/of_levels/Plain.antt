-- An instance whose attribute isn't circular is evaluated as it is without any formula.
use Rattle.std.proofs.Common.{◌≡◌, ℕ, List, nat_eq, None, inl, inr, refl, sym, subst}
use Rattle.at_model.specs.Run.{Value, Instance, Location, Contents, Run, Gives, Fails, FaultKind}
use Rattle.at_model.specs.Follow.{Past, here, looked, told}
use Rattle.at_model.specs.Rules.{Rules, start_of}
use Rattle.at_model.specs.Meaning.{Among, Faults, Reaches}
use Rattle.at_model.specs.of_fixpoints.Formulas.{Known, atoms}
use Rattle.at_model.specs.of_fixpoints.Fixpoints.{Made, Spoilt, EndsSo, HasValue, Holds}
use Rattle.at_model.specs.of_fixpoints.Resting.{Comes}
use Rattle.at_model.proofs.of_formulas.PlainRules.{plain, by_plain_equation}
use Rattle.at_model.proofs.of_formulas.StartsKept.{of_none}
use Rattle.at_evaluate.specs.Valued.{equations, meaning}
use Rattle.at_demand.proofs.Coming.{ends_past, value_by_end, fault_by_end}

-- an evaluation to a value comes as far as that to the formula that it is
pub past_plain : {N : Type 0} (look : Contents N) (has : Instance N → Value N → Type 0) (r s : Run N (Value N)) (js : List (Instance N)) (ls : List (Location N)) → Past look has r js ls s → Past look has (plain r) js ls (plain s)
past_plain look has r s js ls (here _) = here (plain r)
past_plain look has r s js ls (looked l k p) = looked l (λ c. plain (k c)) (past_plain look has (k (look l)) s _ _ p)
past_plain look has r s js ls (told j k v h p) = told j (λ w. plain (k w)) v h (past_plain look has (k v) s _ _ p)

module _ (rules : Rules) (look : Contents ℕ) (i : Instance ℕ) (none : start_of rules i.attribute ≡ None) where
  -- so does its own
  pub past_formula : (has : Instance ℕ → Value ℕ → Type 0) (r : Run ℕ (Value ℕ)) (js : List (Instance ℕ)) (ls : List (Location ℕ)) → Past look has (equations rules i) js ls r → Past look has ((meaning rules).formula i) js ls (plain r)
  past_formula has r js ls p = subst (λ z. Past look has z js ls (plain r)) (sym (by_plain_equation rules nat_eq i none)) (past_plain look has (equations rules i) r js ls p)

  -- what it ends with is its value, or its fault
  pub has_value : (v : Value ℕ) (js : List (Instance ℕ)) (ls : List (Location ℕ)) → Past look (HasValue look (meaning rules)) (equations rules i) js ls (Gives v) → HasValue look (meaning rules) i v
  has_value v js ls p = value_by_end look (meaning rules) i v none (ends_past look (meaning rules) i (Made (Known v)) ((meaning rules).formula i) (Gives (Known v)) js ls (past_formula (HasValue look (meaning rules)) (Gives v) js ls p) (0, refl))

  pub ends_spoilt : (f : FaultKind) (js : List (Instance ℕ)) (ls : List (Location ℕ)) → Past look (HasValue look (meaning rules)) (equations rules i) js ls (Fails f) → EndsSo look (meaning rules) i (Spoilt f i)
  ends_spoilt f js ls p = ends_past look (meaning rules) i (Spoilt f i) ((meaning rules).formula i) (Fails f) js ls (past_formula (HasValue look (meaning rules)) (Fails f) js ls p) (0, refl)

  pub has_fault : (f : FaultKind) (js : List (Instance ℕ)) (ls : List (Location ℕ)) → Past look (HasValue look (meaning rules)) (equations rules i) js ls (Fails f) → Holds look (meaning rules) i (Faults f i)
  has_fault f js ls p = fault_by_end look (meaning rules) i f i (ends_spoilt f js ls p)

  -- it comes to what it demands alone, since its formula is a value
  pub comes_by_demand : (j : Instance ℕ) → Comes look (meaning rules) i j → Reaches look (HasValue look (meaning rules)) ((meaning rules).formula i) j
  comes_by_demand j (inl r) = r
  comes_by_demand j (inr (f, h, a)) = let (v, e) = of_none look rules nat_eq i f h none in absurd (subst (λ z. Among j (atoms z)) e a)
