-- Where equations are typed, what they lead to is well formed, and values have the kinds of their attributes.
use Rattle.std.proofs.Common.{◌≡◌, ℕ, zero, suc, List, [], ◌∷◌, Option, Some, None, inl, inr, refl, sym, subst}
use Rattle.at_model.specs.Run.{Value, Instance, Location, Contents, Run, Gives, Fails, Looks, Demands, Needs, tried, LooksTo}
use Rattle.at_model.specs.Meaning.{Outcome, Finds, Faults, value_in, Equations, settled, outcome_at, HasValue, Reaches, Comes, Walks, Leads}
use Rattle.at_model.specs.Rules.{Rules}
use Rattle.std.specs.List.{AllByRecursion}
use Rattle.at_model.specs.TypedRuns.{ClassAt, Texts, IsTypedRun, IsWellTyped, IsOfItsKind, IsLocationThere, AreEquationsTyped}

module _ {N : Type 0} (rules : Rules) (at : ClassAt N) (Allowed : Texts) (look : Contents N) where
  at_demand : (below : Instance N → Option (Outcome N)) → ((j : Instance N) (v : Value N) → IsWellTyped rules at Allowed j → below j ≡ Some (Finds v) → IsOfItsKind rules at j v) →
      (i : Instance N) (Q : Value N → Type 0) (v : Value N) (j : Instance N) (k : Value N → Run N (Value N)) → IsWellTyped rules at Allowed j →
      ((x : Value N) → IsOfItsKind rules at j x → settled below i (tried look (λ j. value_in (below j)) (k x)) ≡ Some (Finds v) → Q v) →
      (o : Option (Outcome N)) → below j ≡ o → settled below i (elim (value_in o) [ None ↦ Needs j | Some v ↦ tried look (λ j. value_in (below j)) (k v) ]) ≡ Some (Finds v) → Q v
  at_demand below lower i Q v j k w step None is f = absurd (cc)
  at_demand below lower i Q v j k w step (Some (Finds x)) is f = step x (lower j x w is) f
  at_demand below lower i Q v j k w step (Some (Faults x m)) is f = absurd (cc)

  settled_typed : (below : Instance N → Option (Outcome N)) → ((j : Instance N) (v : Value N) → IsWellTyped rules at Allowed j → below j ≡ Some (Finds v) → IsOfItsKind rules at j v) →
      (i : Instance N) (Q : Value N → Type 0) (v : Value N) (r : Run N (Value N)) → IsTypedRun rules at Allowed look Q r
      → settled below i (tried look (λ j. value_in (below j)) r) ≡ Some (Finds v) → Q v
  settled_typed below lower i Q v (Gives a) h e = let f : a ≡ v = cc in subst Q f h
  settled_typed below lower i Q v (Fails x) h e = absurd (cc)
  settled_typed below lower i Q v (Looks l k) (s, h) e = settled_typed below lower i Q v (k (look l)) h e
  settled_typed below lower i Q v (Demands j k) (w, h) e = at_demand below lower i Q v j k w (λ x g. settled_typed below lower i Q v (k x) (h x g)) (below j) refl e

  reached_typed : (Has : Instance N → Value N → Type 0) → ((j : Instance N) (v : Value N) → IsWellTyped rules at Allowed j → Has j v → IsOfItsKind rules at j v) →
      (Q : Value N → Type 0) (r : Run N (Value N)) (m : Instance N) → IsTypedRun rules at Allowed look Q r → Reaches look Has r m → IsWellTyped rules at Allowed m
  reached_typed Has kinds Q (Gives a) m h x = absurd x
  reached_typed Has kinds Q (Fails f) m h x = absurd x
  reached_typed Has kinds Q (Looks l k) m (s, h) x = reached_typed Has kinds Q (k (look l)) m h x
  reached_typed Has kinds Q (Demands j k) m (w, h) (inl e) = subst (IsWellTyped rules at Allowed) e w
  reached_typed Has kinds Q (Demands j k) m (w, h) (inr (v, has, x)) = reached_typed Has kinds Q (k v) m (h v (kinds j v w has)) x

  module _ (equation : Equations N) (typed : AreEquationsTyped rules at Allowed look equation) where
    value_at : (n : ℕ) (i : Instance N) (v : Value N) → IsWellTyped rules at Allowed i → outcome_at look equation n i ≡ Some (Finds v) → IsOfItsKind rules at i v
    value_at zero i v w e = absurd (cc)
    value_at (suc n) i v w e = settled_typed (outcome_at look equation n) (value_at n) i (IsOfItsKind rules at i) v (equation i) (typed i w) e

    pub value_typed : (i : Instance N) (v : Value N) → IsWellTyped rules at Allowed i → HasValue look equation i v → IsOfItsKind rules at i v
    value_typed i v w (n, e) = value_at n i v w e

    comes_typed : (i j : Instance N) → IsWellTyped rules at Allowed i → Comes look equation i j → IsWellTyped rules at Allowed j
    comes_typed i j w x = reached_typed (HasValue look equation) value_typed (IsOfItsKind rules at i) (equation i) j (typed i w) x

    walks_typed : (i : Instance N) (is : List (Instance N)) (j : Instance N) → IsWellTyped rules at Allowed i → Walks look equation i is j → IsWellTyped rules at Allowed j
    walks_typed i [] j w x = comes_typed i j w x
    walks_typed i (m ∷ ms) j w (x, y) = walks_typed m ms j (comes_typed i m w x) y

    pub leads_typed : (i j : Instance N) → IsWellTyped rules at Allowed i → Leads look equation i j → IsWellTyped rules at Allowed j
    leads_typed i j w (inl e) = subst (IsWellTyped rules at Allowed) e w
    leads_typed i j w (inr (is, x)) = walks_typed i is j w x

  -- looks at what is there, and then a typed run
  pub looks_typed : (Q : Value N → Type 0) (r : Run N (Value N)) (ls : List (Location N)) (s : Run N (Value N))
      → LooksTo look r ls s → AllByRecursion (IsLocationThere rules.classes at) ls
      → IsTypedRun rules at Allowed look Q s → IsTypedRun rules at Allowed look Q r
  looks_typed Q r [] s e h x = subst (IsTypedRun rules at Allowed look Q) (sym e) x
  looks_typed Q (Gives a) (l ∷ ls) s e h x = absurd e
  looks_typed Q (Fails f) (l ∷ ls) s e h x = absurd e
  looks_typed Q (Looks m k) (l ∷ ls) s (e, f) (h, hs) x = (subst (IsLocationThere rules.classes at) (sym e) h, looks_typed Q (k (look m)) ls s f hs x)
  looks_typed Q (Demands i k) (l ∷ ls) s e h x = absurd e
