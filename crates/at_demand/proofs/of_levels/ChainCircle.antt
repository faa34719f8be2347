-- Where no attribute is circular, and the last one of a chain demands one of those that wait: what these have met is all to which the question leads.
use Rattle.std.proofs.Common.{◌≡◌, ◌⊎◌, ℕ, true, List, [], ◌∷◌, ◌++◌, inl, inr, refl, sym, subst}
use Rattle.std.specs.Map.{keys_of}
use Rattle.at_model.specs.Meaning.{Among, Reaches}
use Rattle.at_model.specs.Rules.{Rules, is_lazy}
use Rattle.at_model.specs.Run.{Value, Instance, Contents, Demands}
use Rattle.at_model.specs.of_fixpoints.Fixpoints.{HasValue}
use Rattle.at_model.specs.of_fixpoints.Resting.{Comes, Leads}
use Rattle.at_model.proofs.Reached.{either_among}
use Rattle.at_rules.specs.Circular.{AreCircularLazy, HasNoneCircular}
use Rattle.at_cache.specs.Kept.{Entries}
use Rattle.at_demand.specs.declared.evaluation.Find.{Find}
use Rattle.at_demand.specs.Covering.{AreWhole}
use Rattle.at_evaluate.specs.Valued.{IsKept, meaning}
use Rattle.at_demand.specs.Levels.{LevelCode, root_in}
use Rattle.at_demand.specs.Worth.{AreSettled}
use Rattle.at_evaluate.specs.Sparing.{AreSpare, HasWorthy}
use Rattle.at_demand.specs.Turns.{HasMet, HaveMet, IsMet, next_root}
use Rattle.at_demand.proofs.Coming.{comes}
use Rattle.at_demand.proofs.Gaining.{known_below}
use Rattle.at_demand.proofs.Leading.{comes_before, open_led, valueless}
use Rattle.at_demand.proofs.Passing.{past_has, past_more}
use Rattle.at_demand.proofs.of_levels.Plain.{comes_by_demand}
use Rattle.at_demand.proofs.of_searches.Returning.{with_level}

-- no level is a search
abbrev pub AreBare : List (Instance ℕ × LevelCode) → Type 0
AreBare ws = (i : Instance ℕ) (d : LevelCode) → Among (with_level d i) ws → root_in d i ≡ i

next_among : (ws : List (Instance ℕ × LevelCode)) (n : Instance ℕ) → AreBare ws → Among (next_root ws n) (keys_of ws ++ n ∷ [])
next_among [] n bare = inl refl
next_among (w ∷ ws) n bare = inl (bare w.0 w.1 (inl refl))

module _ (rules : Rules) (look : Contents ℕ) (entries : Entries) (found : List (Instance ℕ × Find)) where
  -- each one that waits has come to the demand of another of them, or of the last one
  chain_next : (ws : List (Instance ℕ × LevelCode)) (n : Instance ℕ) → AreBare ws → HaveMet rules look entries found ws n → (i : Instance ℕ) →
      Among i (keys_of ws) → (m : Instance ℕ) × Among m (keys_of ws ++ n ∷ []) × HasMet rules look entries found i m
  chain_next [] n bare met i a = absurd a
  chain_next (w ∷ ws) n bare met i (inl e) =
      (next_root ws n, inr (next_among ws n (λ k d h. bare k d (inr h))), subst (λ z. HasMet rules look entries found z (next_root ws n)) (sym e) met.0)
  chain_next (w ∷ ws) n bare met i (inr a) =
      let (m, b, one) = chain_next ws n (λ k d h. bare k d (inr h)) met.1 i a in (m, inr b, one)

  module _ (none : HasNoneCircular rules) (well : AreCircularLazy rules) (whole : AreWhole rules look found) (settled : AreSettled rules entries found)
      (spare : AreSpare rules look entries) (ws : List (Instance ℕ × LevelCode)) (n j : Instance ℕ) (bare : AreBare ws)
      (met : HaveMet rules look entries found ws n) (one : HasMet rules look entries found n j) (back : Among j (keys_of ws ++ n ∷ [])) where
    abbrev IsOn : Instance ℕ → Type 0
    IsOn i = Among i (keys_of ws ++ n ∷ [])

    waits_for : (i : Instance ℕ) → IsOn i → (m : Instance ℕ) × IsOn m × HasMet rules look entries found i m
    waits_for i a = elim (either_among i (keys_of ws) (n ∷ []) a) [
      | inl b ↦ chain_next ws n bare met i b
      | inr b ↦ elim b [ inl e ↦ (j, back, subst (λ z. HasMet rules look entries found z j) (sym e) one) | inr u ↦ absurd u ]
    ]

    demands : (i m : Instance ℕ) → HasMet rules look entries found i m → Reaches look (HasValue look (meaning rules)) ((meaning rules).formula i) m
    demands i m (js, ls, rest, past) =
        let run = (meaning rules).formula i in
        comes look (HasValue look (meaning rules)) run m rest js ls (Demands m rest) refl
        (past_more look (λ (k : Instance ℕ) (v : Value ℕ). HasValue look (meaning rules) k v × IsMet entries found k) (HasValue look (meaning rules))
        (λ k v h. h.0) run (Demands m rest) js ls past)

    no_value : (i : Instance ℕ) (v : Value ℕ) → IsOn i → HasValue look (meaning rules) i v → ⊥
    no_value i v on = valueless look (meaning rules) IsOn (λ k. ⊥) (λ k a. let (m, b, h) = waits_for k a in inr (m, b, demands k m h)) (λ k w stuck h. stuck) i v on

    next : (i k : Instance ℕ) → IsOn i → Comes look (meaning rules) i k → IsMet entries found k ⊎ IsOn k
    next i k on c = by (waits_for i on)
      where
        by : ((m : Instance ℕ) × IsOn m × HasMet rules look entries found i m) → IsMet entries found k ⊎ IsOn k
        by (m, b, (js, ls, rest, past)) =
            let run = (meaning rules).formula i in
            let has : Instance ℕ → Value ℕ → Type 0 = λ l v. HasValue look (meaning rules) l v × IsMet entries found l in
            let holds = past_more look has (HasValue look (meaning rules)) (λ l v h. h.0) run (Demands m rest) js ls past in
            elim (comes_before look (meaning rules) run (Demands m rest) m rest js ls k refl (λ v h. no_value m v b h) holds
            (comes_by_demand rules look i (none i.attribute) k c)) [
              | inl a ↦ inl (let (v, h) = past_has look has run (Demands m rest) js ls k past a in h.1)
              | inr e ↦ inr (subst IsOn (sym e) b)
            ]

    below : (i k : Instance ℕ) → IsMet entries found i → Leads look (meaning rules) i k → is_lazy rules k.attribute ≡ true → IsKept entries k
    below i k m led lazy = known_below rules look entries found well whole settled spare.deep i k m led lazy

    pub circle_worthy : (i : Instance ℕ) → IsOn i → HasWorthy rules look i entries
    circle_worthy i on k w = open_led look (meaning rules) IsOn (λ m. IsMet entries found m) (λ m. is_lazy rules m.attribute ≡ true) (λ m. IsKept entries m)
        next (λ m v on' h. no_value m v on' h) below i k w.value on w.reached w.lazy w.has
