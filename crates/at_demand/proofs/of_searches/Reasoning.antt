-- Why what a search comes to is known, where a circle answers the question: along demands, and level by level.
use Rattle.std.proofs.Common.{◌≡◌, ◌⊎◌, ℕ, List, [], ◌∷◌, inl, inr, refl, sym, subst}
use Rattle.at_model.specs.Run.{Instance, Contents, Known}
use Rattle.at_model.specs.Meaning.{Outcome, Among, Reaches}
use Rattle.at_model.proofs.Reached.{front_among, back_among, either_among}
use Rattle.at_model.specs.of_fixpoints.Formulas.{Forms}
use Rattle.at_model.specs.of_fixpoints.Fixpoints.{EndsSo, HasValue, Holds, LeadsOver}
use Rattle.at_model.specs.of_fixpoints.Circles.{Circular, HasNone}
use Rattle.at_model.specs.of_fixpoints.Met.{LooksAt, here, deeper, HaveLookedAt, IsLookedAt}
use Rattle.at_model.specs.of_fixpoints.Resting.{Leads}
use Rattle.at_model.specs.of_fixpoints.Resting as led
use Rattle.at_model.specs.of_fixpoints.Searched.{AreStacked, IsAt}
use Rattle.at_model.specs.of_fixpoints.Searching.{Level, root_of, under}
use Rattle.at_model.proofs.of_formulas.ClosedOnce.{not_both}
use Rattle.at_model.proofs.of_searching.Deciding.{demand_decided}
use Rattle.at_model.proofs.of_searching.Turned.{leads_by, leads_over}
use Rattle.at_evaluate.specs.Led.{DemandsOn, stays, goes}
use Rattle.at_demand.specs.Reasons.{HasReason, IsReached}

module _ (look : Contents ℕ) (forms : Forms ℕ) (first : Known ℕ) (q c : Instance ℕ) (circle : Circular look forms q c)
  where
    abbrev pub Reason : Instance ℕ → Type 0
    Reason i = HasReason look forms first q i

    abbrev pub At : Instance ℕ → Type 0
    At i = IsReached look forms first q i

    -- what has a reason leads to what has one
    pub reason_led : (i j : Instance ℕ) → Reason i → Leads look forms i j → Reason j
    reason_led i j (inl (a, v, known, l)) m = inl (a, v, known, leads_by look forms a i j l m)
    reason_led i j (inr met) m = inr (record {
      by = met.by;
      looked = met.looked;
      settled = met.settled;
      is = met.is;
      outcome = met.outcome;
      holds = met.holds;
      led = leads_by look forms met.settled i j met.led m;
    })

    -- what was reached and has an outcome has a reason
    pub reached_reason : (i : Instance ℕ) (o : Outcome ℕ) → At i → Holds look forms i o → Reason i
    reached_reason i o (inl r) h = r
    reached_reason i o (inr l) h =
        inr (record { by = i; looked = l; settled = i; is = inl refl; outcome = o; holds = h; led = led.stays i })

    -- what it demands has a reason, or has no outcome and is looked at
    pub reached_demand : (i j : Instance ℕ) → At i → Reaches look (HasValue look forms) (forms.formula i) j →
        Reason j ⊎ (HasNone look forms j × IsLookedAt look forms q j)
    reached_demand i j (inl r) reach = inl (reason_led i j r (led.goes i j j (inl reach) (led.stays j)))
    reached_demand i j (inr l) reach = elim (demand_decided look forms q c i j circle l reach) [
      | inl (o, h) ↦ inl (inr (record {
        by = i;
        looked = l;
        settled = j;
        is = inr reach;
        outcome = o;
        holds = h;
        led =
            led.stays j;
      }))
      | inr p ↦ inr p
    ]

    pub reached_on : (i j : Instance ℕ) → At i → Reaches look (HasValue look forms) (forms.formula i) j → At j
    reached_on i j a reach = elim (reached_demand i j a reach) [ inl r ↦ inl r | inr (none, l) ↦ inr l ]

    -- so it is along demands
    pub reached_along : (i j : Instance ℕ) → At i → DemandsOn look forms i j → At j
    reached_along _ j a (stays _) = a
    reached_along _ j a (goes i m _ reach more) = reached_along m j (reached_on i m a reach) more

    either_at : (root : Instance ℕ) (below : List (Instance ℕ)) → ((x : Instance ℕ) → LooksAt look forms below [] (root
        ∷ []) x → At x) →
        (x : Instance ℕ) → Reason x ⊎ LooksAt look forms below [] (root ∷ []) x → At x
    either_at root below down x (inl r) = inl r
    either_at root below down x (inr m) = down x m

    -- What the last level demands has a reason; or it has no outcome, and all is reached at which that level looks.
    pub level_down : (root : Instance ℕ) (ls : List (Level ℕ)) → AreStacked look forms root ls → root_of root ls ≡ q →
        HaveLookedAt look forms (HasReason look forms first q) ls →
        Reason root ⊎ (HasNone look forms root × ((x : Instance ℕ) → LooksAt look forms (under ls) [] (root ∷ []) x → At
        x))
    level_down root [] s same h = inr (
      (λ o holds. not_both look forms q c o (subst (λ z. Holds look forms z o) same holds) circle),
      (λ x l. inr (subst (λ z. IsLookedAt look forms z x) same l)),
    )
    level_down root (b ∷ ls) (demands, off, (come, fresh, shut), rest) same (h, hs) = elim (level_down b.root ls rest
        same hs) [
          | inl r ↦ inl (reason_led b.root root r (leads_over look forms b.root b.next root
              (come.led b.next (back_among b.next b.seen (b.next ∷ b.todo) (inl refl)))
              (led.goes b.next root root (inl demands) (led.stays root))))
          | inr (none, down) ↦ elim (reached_demand b.next root (either_at b.root (under ls) down b.next (h.looks b.next
              (here b.next))) demands) [
                | inl r ↦ inl r
                | inr (lost, l) ↦ inr (
                  lost,
                  (λ x m. either_at b.root (under ls) down x (h.looks x (deeper b.next root shut fresh (demands, lost) off m))),
                )
              ]
        ]

    -- one that a level has seen, or its next one, is reached
    pub one_reached : (root : Instance ℕ) (ls : List (Level ℕ)) → AreStacked look forms root ls → root_of root ls ≡ q →
        HaveLookedAt look forms (HasReason look forms first q) ls → (x : Instance ℕ) → LeadsOver (EndsSo look forms)
        root x →
        Reason x ⊎ LooksAt look forms (under ls) [] (root ∷ []) x → At x
    one_reached root ls s same h x l t = elim (level_down root ls s same h) [
      | inl r ↦ inl (reason_led root x r (leads_over look forms root x x l (led.stays x)))
      | inr (none, down) ↦ either_at root (under ls) down x t
    ]

    next_reached : (l : Level ℕ) (ls : List (Level ℕ)) → IsAt look forms (under ls) l → AreStacked look forms l.root ls
        → root_of l.root ls ≡ q →
        HaveLookedAt look forms (HasReason look forms first q) (l ∷ ls) → (x : Instance ℕ) → x ≡ l.next → At x
    next_reached l ls (come, fresh, shut) rest same (h, hs) x e = subst (λ z. At z) (sym e) (one_reached l.root ls rest
        same hs l.next
        (come.led l.next (back_among l.next l.seen (l.next ∷ l.todo) (inl refl))) (h.looks l.next (here l.next)))

    seen_reached : (l : Level ℕ) (ls : List (Level ℕ)) → IsAt look forms (under ls) l → AreStacked look forms l.root ls
        → root_of l.root ls ≡ q →
        HaveLookedAt look forms (HasReason look forms first q) (l ∷ ls) → (x : Instance ℕ) → Among x l.seen → At x
    seen_reached l ls (come, fresh, shut) rest same (h, hs) x a =
        one_reached l.root ls rest same hs x (come.led x (front_among x l.seen (l.next ∷ l.todo) a)) (h.looked x a)

    -- so is all that is under way
    pub levels_reached : (l : Level ℕ) (ls : List (Level ℕ)) → IsAt look forms (under ls) l → AreStacked look forms
        l.root ls → root_of l.root ls ≡ q →
        HaveLookedAt look forms (HasReason look forms first q) (l ∷ ls) → (x : Instance ℕ) → Among x (under (l ∷ ls)) →
        At x
    levels_reached l ls at rest same h x (inl e) = next_reached l ls at rest same h x e
    levels_reached l [] at rest same h x (inr b) = elim (either_among x l.seen [] b) [
      | inl a ↦ seen_reached l [] at rest same h x a
      | inr none ↦ absurd none
    ]
    levels_reached l (b ∷ ls) at rest same h x (inr m) = elim (either_among x l.seen (under (b ∷ ls)) m) [
      | inl a ↦ seen_reached l (b ∷ ls) at rest same h x a
      | inr n ↦ (let (demands, off, lower, further) = rest in levels_reached b ls lower further same h.1 x n)
    ]

    pub lower_reached : (root : Instance ℕ) (ls : List (Level ℕ)) → AreStacked look forms root ls → root_of root ls ≡ q →
        HaveLookedAt look forms (HasReason look forms first q) ls → (x : Instance ℕ) → Among x (under ls) → At x
    lower_reached root [] rest same h x a = absurd a
    lower_reached root (b ∷ ls) (demands, off, lower, rest) same h x a = levels_reached b ls lower rest same h x a
