-- Where no search is under way, a fault of the last one is that of all that wait for it: what these have met is all to which the question leads.
use Rattle.std.proofs.Common.{◌≡◌, ◌⊎◌, ℕ, true, List, [], ◌∷◌, inl, inr, refl, sym, subst}
use Rattle.at_model.specs.Meaning.{Among, Faults, Finds, Reaches}
use Rattle.at_model.specs.Rules.{Rules, is_lazy}
use Rattle.at_model.specs.Run.{Value, Instance, Contents, Demands, FaultKind}
use Rattle.at_model.specs.of_fixpoints.Fixpoints.{EndsSo, HasValue, Holds, Spoilt}
use Rattle.at_model.specs.of_fixpoints.Resting.{Comes, Leads, goes, stays}
use Rattle.at_model.proofs.of_formulas.UniqueOutcomes.{once}
use Rattle.at_model.proofs.of_searching.Turned.{demanded_fault}
use Rattle.at_rules.specs.Circular.{AreCircularLazy}
use Rattle.at_cache.specs.Kept.{Entries}
use Rattle.at_demand.specs.declared.evaluation.Find.{Find}
use Rattle.at_demand.specs.Covering.{AreWhole}
use Rattle.at_evaluate.specs.Valued.{IsKept, meaning}
use Rattle.at_demand.specs.Levels.{LevelCode, root_in}
use Rattle.at_demand.specs.Worth.{AreSettled}
use Rattle.at_evaluate.specs.Sparing.{AreSpare, HasWorthy}
use Rattle.at_demand.specs.Turns.{HasMet, HaveMet, IsMet, next_root}
use Rattle.at_demand.proofs.Coming.{comes, fault_by_end}
use Rattle.at_demand.proofs.Gaining.{known_below}
use Rattle.at_demand.proofs.Passing.{past_more}
use Rattle.at_demand.proofs.of_levels.Followed.{comes_waiting}
use Rattle.at_demand.proofs.of_searches.Reaching.{asked_at}
use Rattle.at_demand.proofs.of_searches.Returning.{with_level}

-- what was asked is the first root
pub asked_root : (ws : List (Instance ℕ × LevelCode)) (d : LevelCode) (i : Instance ℕ) → asked_at ws d i ≡ next_root ws (root_in d i)
asked_root [] d i = refl
asked_root (w ∷ ws) d i = refl

module _ (rules : Rules) (look : Contents ℕ) (entries : Entries) (found : List (Instance ℕ × Find)) (well : AreCircularLazy rules)
    (whole : AreWhole rules look found) (settled : AreSettled rules entries found) (spare : AreSpare rules look entries) (k : FaultKind) (at : Instance ℕ) where
  abbrev HasFault : Instance ℕ → Type 0
  HasFault i = Holds look (meaning rules) i (Faults k at)

  led_kept : (i j : Instance ℕ) (v : Value ℕ) → HasFault i →
      ((m : Instance ℕ) → Comes look (meaning rules) i m → IsMet entries found m ⊎ HasWorthy rules look m entries) → Leads look (meaning rules) i j →
      is_lazy rules j.attribute ≡ true → HasValue look (meaning rules) j v → IsKept entries j
  led_kept _ _ v fault come (stays i) lazy has =
      let same : Finds v ≡ Faults k at = once look (meaning rules) i (Finds v) (Faults k at) has fault in absurd cc
  led_kept _ j v fault come (goes i m _ c more) lazy has = elim (come m c) [
    | inl met ↦ known_below rules look entries found well whole settled spare.deep m j met more lazy
    | inr h ↦ h j (record { reached = more; lazy = lazy; value = v; has = has })
  ]

  -- one of them
  pub fault_worthy : (i : Instance ℕ) → HasFault i →
      ((m : Instance ℕ) → Comes look (meaning rules) i m → IsMet entries found m ⊎ HasWorthy rules look m entries) → HasWorthy rules look i entries
  fault_worthy i fault come j w = led_kept i j w.value fault come w.reached w.lazy w.has

  demands_next : (i n : Instance ℕ) → HasMet rules look entries found i n → Reaches look (HasValue look (meaning rules)) ((meaning rules).formula i) n
  demands_next i n (js, ls, rest, past) =
      let run = (meaning rules).formula i in
      comes look (HasValue look (meaning rules)) run n rest js ls (Demands n rest) refl
      (past_more look (λ (m : Instance ℕ) (v : Value ℕ). HasValue look (meaning rules) m v × IsMet entries found m) (HasValue look (meaning rules))
      (λ m v h. h.0) run (Demands n rest) js ls past)

  -- all of them
  pub chain_worthy : (ws : List (Instance ℕ × LevelCode)) (n : Instance ℕ) →
      ((i : Instance ℕ) (d : LevelCode) → Among (with_level d i) ws → root_in d i ≡ i) → HaveMet rules look entries found ws n →
      HasFault n × HasWorthy rules look n entries → HasFault (next_root ws n) × HasWorthy rules look (next_root ws n) entries
  chain_worthy [] n bare met f = f
  chain_worthy (e ∷ es) n bare met f =
      subst (λ z. HasFault z × HasWorthy rules look z entries) (sym (bare e.0 e.1 (inl refl)))
      (one (chain_worthy es n (λ i d a. bare i d (inr a)) met.1 f))
    where
      one : HasFault (next_root es n) × HasWorthy rules look (next_root es n) entries → HasFault e.0 × HasWorthy rules look e.0 entries
      one (fault, worthy) = (fault_by_end look (meaning rules) e.0 k at ends, fault_worthy e.0 (fault_by_end look (meaning rules) e.0 k at ends) come)
        where
          ends : EndsSo look (meaning rules) e.0 (Spoilt k at)
          ends = demanded_fault look (meaning rules) e.0 (next_root es n) k at ((meaning rules).formula e.0) (demands_next e.0 (next_root es n) met.0) fault

          come : (m : Instance ℕ) → Comes look (meaning rules) e.0 m → IsMet entries found m ⊎ HasWorthy rules look m entries
          come m c = elim (comes_waiting rules look entries found e.0 (next_root es n) k at ends fault met.0 m c) [
            | inl met ↦ inl met
            | inr same ↦ inr (subst (λ z. HasWorthy rules look z entries) (sym same) worthy)
          ]
