-- What a question adds: each lazy instance that has a value and to which the question leads, and no other.
use Rattle.std.proofs.Common.{◌≡◌, ◌⊎◌, ℕ, Bool, true, false, true≢false, List, [], ◌∷◌, ◌++◌, slice_get, Option, Some, None, inl, inr, refl, sym, ◌∙◌, subst}
use Rattle.std.specs.Prelude.{IsSome}
use Rattle.at_model.specs.Run.{Instance, Contents}
use Rattle.at_model.specs.Rules.{Rules, is_lazy, start_of}
use Rattle.at_model.specs.Meaning.{Among}
use Rattle.at_model.specs.of_fixpoints.Resting.{Comes, Leads, goes, stays}
use Rattle.at_rules.specs.Circular.{AreCircularLazy}
use Rattle.at_cache.specs.Kept.{Kept, Entries}
use Rattle.at_index.proofs.Lists.{get_push, get_contains}
use Rattle.at_demand.specs.declared.evaluation.Find.{Find}
use Rattle.at_evaluate.specs.Valued.{meaning, AreValued, IsKept}
use Rattle.at_demand.specs.Known.{IsFound}
use Rattle.at_demand.specs.Covering.{AreWhole, AreWholeIn, IsWhole, alone, by_first, in_group}
use Rattle.at_evaluate.specs.Sparing.{IsDeep, IsWorthy, AddsWorthy, HasWorthy}
use Rattle.at_demand.specs.Worth.{MayGain, IsSettled, AreSettled}
use Rattle.at_evaluate.proofs.Entered.{entered, entered_on, kept_on}
use Rattle.at_demand.proofs.Extending.{among_at}

-- an instance whose value is kept, by its place among the kept ones
pub is_kept : (entries : Entries) (us : List (Instance ℕ)) (u : Instance ℕ) → AreValued entries us → Among u us → IsKept entries u
is_kept entries us u all h = let (n, less, at) = among_at u us h in all u (get_contains us n u at)

-- what holds of each instance with an entry, of i and of what was found holds of each one that has an entry now
pub came : (P : Instance ℕ → Type 0) (rules : Rules) (old new : Entries) (i : Instance ℕ) (found : List (Instance ℕ × Find)) → MayGain rules found old new i → ((j : Instance ℕ) (k : Kept) → old j ≡ Some k → P j) → P i → ((j : Instance ℕ) → IsFound found j → P j) →
    (j : Instance ℕ) (k : Kept) → new j ≡ Some k → P j
came P rules old new i found grows before last finds j k at = elim (grows.comes j (subst IsSome (sym at) refl)) [
  | inl was ↦ before j k (sym (grows.stays j was) ∙ at)
  | inr more ↦ elim more [
    | inl p ↦ subst P p.0 last
    | inr f ↦ finds j f
  ]
]

-- one that isn't lazy isn't circular
not_circular : (rules : Rules) → AreCircularLazy rules → (i : Instance ℕ) → is_lazy rules i.attribute ≡ false → (o : Option Bool) → start_of rules i.attribute ≡ o → IsSome (start_of rules i.attribute) → ⊥
not_circular rules well i off None e c = let c' = rw e at c in true≢false (sym c')
not_circular rules well i off (Some b) e c = true≢false (sym (well i.attribute b e) ∙ off)

-- of one that isn't lazy the find is that of itself alone
pub whole_alone : (rules : Rules) (look : Contents ℕ) (found : List (Instance ℕ × Find)) → AreCircularLazy rules → (i : Instance ℕ) (f : Find) → is_lazy rules i.attribute ≡ false → IsWhole rules look found i f → AreWholeIn rules look found (i ∷ []) f
whole_alone rules look found well i f off (alone w) = w
whole_alone rules look found well i f off (in_group these c a w) = absurd (not_circular rules well i off (start_of rules i.attribute) refl c)
whole_alone rules look found well i f off (by_first j c d l) = absurd (not_circular rules well i off (start_of rules i.attribute) refl c)

module _ (rules : Rules) (look : Contents ℕ) where
  abbrev pub IsLazy : Instance ℕ → Type 0
  IsLazy i = is_lazy rules i.attribute ≡ true

  -- nothing comes
  pub gain_none : (found : List (Instance ℕ × Find)) (entries : Entries) (i : Instance ℕ) → MayGain rules found entries entries i
  gain_none found entries i = record { stays = λ j some. refl; lazy = λ j. inl refl; comes = λ j some. inl some }

  -- i may come to what is kept
  module _ (old new : Entries) (i : Instance ℕ) (found : List (Instance ℕ × Find)) (grows : MayGain rules found old new i) where
    pub still : (j : Instance ℕ) → IsKept old j → IsKept new j
    still = kept_on old new grows.stays

    pub settled_still : (fs : List (Instance ℕ × Find)) → AreSettled rules old fs → AreSettled rules new fs
    settled_still fs settled p j g e = let s = settled p j g e in record { lazy = λ l. still j (s.lazy l); took = λ u h. entered_on old new grows.stays u (s.took u h) }

    pub lazy_more : ((j : Instance ℕ) → IsKept old j → IsLazy j) → (j : Instance ℕ) → IsKept new j → IsLazy j
    lazy_more all j some = elim (grows.lazy j) [ inl e ↦ all j (subst IsSome e some) | inr p ↦ (let (same, kept, lazy) = p in subst IsLazy same lazy) ]

    pub worthy_more : (asked : Instance ℕ) (first : Entries) → (IsLazy i → IsWorthy rules look asked i) → AddsWorthy rules look asked first old → AddsWorthy rules look asked first new
    worthy_more asked first worth adds = record {
      stays = λ j some. grows.stays j (entered_on first old adds.stays j some) ∙ adds.stays j some;
      worthy = λ j none some. elim (grows.lazy j) [
        | inl e ↦ adds.worthy j none (subst IsSome e some)
        | inr p ↦ (let (same, kept, lazy) = p in subst (IsWorthy rules look asked) same (worth lazy))
      ];
    }

    module _ (d : Find) (well : AreCircularLazy rules) (whole : AreWhole rules look found) (one : AreWholeIn rules look found (i ∷ []) d)
        (settled : AreSettled rules old found) (took : (u : Instance ℕ) → Among u d.demanded.kept.items → IsSome (old u)) (deep : IsDeep rules look old old) where
      -- it was found by itself with all that it took, and is kept now where it is lazy
      pub record IsDone (j : Instance ℕ) : Type 0 where
        pub find : Find
        pub rests : AreWholeIn rules look found (j ∷ []) find
        pub now : IsLazy j → IsKept new j
        pub taken : (u : Instance ℕ) → Among u find.demanded.kept.items → IsSome (old u)

      -- what was found is kept, or was found by itself, since it isn't lazy
      done_at : (p : ℕ) (j : Instance ℕ) (g : Find) → slice_get found p ≡ Some (j, g) → IsSome (old j) ⊎ IsDone j
      done_at p j g at = by (is_lazy rules j.attribute) refl
        where
          s : IsSettled rules old j g
          s = settled p j g at

          by : (b : Bool) → is_lazy rules j.attribute ≡ b → IsSome (old j) ⊎ IsDone j
          by true lazy = inl (entered old j (s.lazy lazy))
          by false off = inr (record {
            find = g;
            rests = whole_alone rules look found well j g off (whole p j g at);
            now = λ l. still j (s.lazy l);
            taken = s.took;
          })

      next : (j m : Instance ℕ) → IsDone j → Comes look (meaning rules) j m → IsSome (old m) ⊎ IsDone m
      next j m w c = elim (w.rests.demands j m (inl refl) c) [
        | inl h ↦ elim h [ inl e ↦ inr (subst IsDone (sym e) w) | inr z ↦ absurd z ]
        | inr h ↦ elim h [ inl k ↦ inl (w.taken m k) | inr (p, g, at, is) ↦ done_at p m g is ]
      ]

      -- all lazy ones below what was found are kept now
      pub below_found : (j m : Instance ℕ) → IsDone j → Leads look (meaning rules) j m → IsLazy m → IsKept new m
      below_found _ _ w (stays j) lazy = w.now lazy
      below_found _ m w (goes j k _ c more) lazy = elim (next j k w c) [
        | inl some ↦ still m (deep k m some more lazy)
        | inr done ↦ below_found k m done more lazy
      ]

      pub all_below : (IsLazy i → IsKept new i) → (j : Instance ℕ) → Leads look (meaning rules) i j → IsLazy j → IsKept new j
      all_below kept j = below_found i j (record { find = d; rests = one; now = kept; taken = took })

      pub deep_more : IsDeep rules look new new
      deep_more j m some led lazy = elim (grows.comes j some) [
        | inl was ↦ still m (deep j m was led lazy)
        | inr more ↦ elim more [
          | inl p ↦ (let (same, kept) = p in all_below (λ l. subst (IsKept new) (sym same) kept) m (subst (λ x. Leads look (meaning rules) x m) (sym same) led) lazy)
          | inr p ↦ (let (n, g, at) = p in elim (done_at n j g at) [
            | inl was ↦ still m (deep j m was led lazy)
            | inr done ↦ below_found j m done led lazy
          ])
        ]
      ]

      pub settled_push : (IsLazy i → IsKept new i) → AreSettled rules new (found ++ (i, d) ∷ [])
      settled_push kept p j g is = elim (get_push found (i, d) p (j, g) is) [
        | inl e ↦ settled_still found settled p j g e
        | inr e ↦ subst (λ (x : Instance ℕ × Find). IsSettled rules new x.0 x.1) e.1 (record { lazy = kept; took = λ u h. entered_on old new grows.stays u (took u h) })
      ]

  -- a kept instance leads to no other lazy ones than kept ones
  pub asked_kept : (asked : Instance ℕ) (entries : Entries) → IsKept entries asked → IsDeep rules look entries entries → HasWorthy rules look asked entries
  asked_kept asked entries kept deep i w = deep asked i (entered entries asked kept) w.reached w.lazy

  -- a question that ends with no value
  module _ (entries : Entries) (found : List (Instance ℕ × Find)) (well : AreCircularLazy rules) (whole : AreWhole rules look found) (settled : AreSettled rules entries found)
      (deep : IsDeep rules look entries entries) where
    -- with an entry, or found
    abbrev pub IsKnown : Instance ℕ → Type 0
    IsKnown j = IsSome (entries j) ⊎ ((p : ℕ) × (f : Find) × (slice_get found p ≡ Some (j, f)))

    pub known_below : (i j : Instance ℕ) → IsKnown i → Leads look (meaning rules) i j → IsLazy j → IsKept entries j
    known_below i j (inl some) led lazy = deep i j some led lazy
    known_below i j (inr (p, f, is)) led lazy = by (is_lazy rules i.attribute) refl
      where
        s : IsSettled rules entries i f
        s = settled p i f is

        by : (b : Bool) → is_lazy rules i.attribute ≡ b → IsKept entries j
        by true l = deep i j (entered entries i (s.lazy l)) led lazy
        by false off = all_below entries entries i found (gain_none found entries i) f well whole (whole_alone rules look found well i f off (whole p i f is)) settled s.took deep s.lazy j led lazy
