-- What comes to what is kept while an instance is evaluated in one go.
use Rattle.std.proofs.Common.{◌≡◌, ℕ, zero, suc, ◌^◌, ◌<◌, Bool, true, false, not, List, [], ◌∷◌, ◌++◌, Option, Some, None, inl, inr, refl, sym, ap, ◌∙◌, subst, append-nil, arith, if◌then◌else◌, true≢false}
use Rattle.std.specs.Prelude.{Contains, IsSome}
use Rattle.std.proofs.lemmas.List.Elements.{Contains-append_cases, Contains-push_cases}
use Rattle.at_evaluate.specs.declared.direct.Level.{Level}
use Rattle.at_body.specs.Same.{same_instance}
use Rattle.at_evaluate.proofs.Sameness.{same_refl}
use Rattle.at_model.specs.Run.{Value, Instance, Location, Contents, Known}
use Rattle.std.proofs.lemmas.Option.{none-some}
use Rattle.indexmap.specs.IndexMap.{insert_entry}
use Rattle.at_body.specs.Values.{value_view}
use Rattle.at_body.specs.declared.value.Value.{Value as ValueCode}
use Rattle.at_model.specs.Rules.{Rules, is_lazy, start_of}
use Rattle.at_model.specs.Meaning.{Among, Reaches}
use Rattle.at_model.specs.of_fixpoints.Fixpoints.{HasValue}
use Rattle.at_model.specs.of_fixpoints.Resting.{Leads, stays, goes}
use Rattle.at_model.specs.Nested.{Tells}
use Rattle.at_model.proofs.of_nesting.Nesting.{tells_hold, evaluates_value, taken_known, led}
use Rattle.at_store.specs.Shown.{Shown, IsIdle, contents}
use Rattle.at_cache.specs.Kept.{Kept, Entries, KeepsAll, Puts, value_at}
use Rattle.at_evaluate.specs.Valued.{equations, meaning, kept_values, ArePlain, IsKept}
use Rattle.at_evaluate.specs.Meant.{AreCircularWell, AreRightValues}
use Rattle.at_evaluate.specs.Right.{AreRight, IsThere, IsValued}
use Rattle.at_evaluate.specs.Sparing.{AddsWorthy, AreSpare, Counts, HasWorthy, IsWorthy}
use Rattle.at_evaluate.specs.Inner.{AreKnown, Gains, HasTold, IsEvaluated, IsGiven, is_inner, known_by}
use Rattle.at_evaluate.proofs.Counting.{counts_more, counts_none, counts_shared}
use Rattle.at_evaluate.proofs.Entered.{entered_on, is_there, not_none, put_stays, put_unvalued}
use Rattle.at_evaluate.proofs.of_nesting.Ground.{comes_own}
use Rattle.at_evaluate.proofs.of_nesting.InnerPuts.{IsFit, right_now, plain_now, covers_now, spare_now, worthy_now, all_now, stays_now}
use Rattle.at_evaluate.proofs.of_nesting.Remembered.{ground_by, stands_by, found_known, known_more, remembered_is, still_remembered}
use Rattle.at_evaluate.proofs.LeadingOn.{leads_on}
use Rattle.at_evaluate.proofs.There.{led_there}

-- what is remembered, in a list
abbrev pub Found : Type 0
Found = List (Instance ℕ × ValueCode)

no_less : (k : ℕ) → k < 0 → ⊥
no_less k h = omega (arith, h)

-- each of those that are there is among them
pub among_of : {A : Type 0} (xs : List A) (x : A) → Contains xs x → Among x xs
among_of [] x h = absurd (no_less h.0 h.1)
among_of (y ∷ ys) x h = elim (Contains-append_cases (y ∷ []) ys x h) [
  | inl a ↦ elim (Contains-push_cases [] y x a) [
    | inl none ↦ absurd (no_less none.0 none.1)
    | inr same ↦ inl (sym same)
  ]
  | inr b ↦ inr (among_of ys x b)
]

-- nothing is remembered
pub known_none : (rules : Rules) (look : Contents ℕ) (entries : Entries) → AreCircularWell rules →
    AreRightValues look (meaning rules) (kept_values entries) → ArePlain rules entries → AreKnown rules look entries []
known_none rules look entries circular right plain = record {
  circular = circular;
  right = right;
  plain = plain;
  finds = λ j v e. absurd (none-some v
      e);
  stands = λ j v e. absurd (none-some v e);
  inner = λ j v e. absurd (none-some v e);
}

-- an instance that isn't circular leads to what its equation demands
pub leads_next : (rules : Rules) (look : Contents ℕ) (i j : Instance ℕ) → start_of rules i.attribute ≡ None →
    Reaches look (HasValue look (meaning rules)) (equations rules i) j → Leads look (meaning rules) i j
leads_next rules look i j own c = goes i j j (comes_own rules look i j own c) (stays j)

-- nothing comes
pub worthy_none : (rules : Rules) (look : Contents ℕ) (i : Instance ℕ) (entries : Entries) → AddsWorthy rules look i entries entries
worthy_none rules look i entries = record {
  stays = λ j some. refl;
  worthy = λ j none some. absurd (not_none (kept_values entries j) some none);
}

-- what is worthy comes, and then more
pub worthy_then : (rules : Rules) (look : Contents ℕ) (i : Instance ℕ) (old mid new : Entries) →
    AddsWorthy rules look i old mid → AddsWorthy rules look i mid new → AddsWorthy rules look i old new
worthy_then rules look i old mid new g h = record {
  stays = λ j some. h.stays j (entered_on old mid g.stays j some) ∙
      g.stays j some;
  worthy = λ j none some. by j none some (kept_values mid j) refl;
}
  where
    by : (j : Instance ℕ) → kept_values old j ≡ None → IsKept new j → (o : Option (Value ℕ)) → kept_values mid j ≡ o →
        IsWorthy rules look i j
    by j none some None is = h.worthy j is some
    by j none some (Some v) is = g.worthy j none (is_there (kept_values mid j) v is)

module _ (rules : Rules) (s : Shown) where
  -- nothing comes
  pub gains_none : (i : Instance ℕ) (entries : Entries) (found : Found) (w : ℕ) → w < 2 ^ 64 →
      AreKnown rules (contents s) entries found → Gains rules s i entries entries found found w w
  gains_none i entries found w few known = record {
    worthy = worthy_none rules (contents s) i entries;
    known = known;
    still = λ j v e. e;
    stays = λ there all. all;
    spare = λ all. all;
    counts = counts_none entries w few;
  }

  -- first one part comes, and then another one
  pub gains_then : (i : Instance ℕ) (old mid new : Entries) (f g h : Found) (w x y : ℕ) →
      Gains rules s i old mid f g w x → Gains rules s i mid new g h x y →
      Gains rules s i old new f h w y
  gains_then i old mid new f g h w x y a b = record {
    worthy = worthy_then rules (contents s) i old mid new a.worthy b.worthy;
    known = b.known;
    still = λ j v e. b.still j v (a.still j v e);
    stays = λ there all. b.stays there (a.stays there all);
    spare = λ all. b.spare (a.spare all);
    counts = counts_more old mid new w x y a.counts b.counts;
  }

  -- what comes for an instance comes for one that leads to it
  pub gains_up : IsIdle s → (i j : Instance ℕ) (old new : Entries) (f g : Found) (w x : ℕ) →
      Leads (contents s) (meaning rules) i j → Gains rules s j old new f g w x →
      Gains rules s i old new f g w x
  gains_up idle i j old new f g w x leads a = record {
    worthy = record {
      stays = a.worthy.stays;
      worthy = λ m none some. let h = a.worthy.worthy m none some in record {
        reached = leads_on (contents s) (meaning rules) i j m leads h.reached;
        lazy = h.lazy;
        value = h.value;
        has =
            h.has;
      };
    };
    known = a.known;
    still = a.still;
    stays = λ there all. a.stays (led_there rules s idle i j there leads) all;
    spare = a.spare;
    counts = a.counts;
  }

  -- the entries are the same
  pub gains_same : (i : Instance ℕ) (old new : Entries) (f : Found) (w x : ℕ) → KeepsAll old new →
      AreKnown rules (contents s) old f → Counts old new w x → Gains rules s i old new f f w x
  gains_same i old new f w x same known counts =
      let is : new ≡ old = λ k j. same j k in
      record {
        worthy = record {
          stays = λ j some. same j;
          worthy = λ j none some. absurd (not_none (kept_values new j) some
              (ap value_at (same j) ∙ none));
        };
        known = subst (λ (z : Entries). AreKnown rules (contents s) z f) (sym is) known;
        still = λ j v e. e;
        stays = λ there all. subst (AreRight rules s) (sym is) all;
        spare = λ all. subst (AreSpare rules (contents s)) (sym is) all;
        counts = counts;
      }

  -- an entry comes, for what an evaluation looked at and took
  module _ (i : Instance ℕ) (old new : Entries) (f : Found) (v : Value ℕ) (ls : List (Location ℕ)) (us : List (Instance
      ℕ)) (known : AreKnown rules (contents s) old f) (own : start_of rules i.attribute ≡ None)
      (come : IsEvaluated rules (contents s) (known_by old f) i v ls us) where
    -- what it took has an entry
    pub taken : (u : Instance ℕ) → Contains us u → IsSome (old u)
    taken u h = let (w, e) = taken_known (contents s) (equations rules) (known_by old f) (is_inner rules) come.0 i
        v ls us come.1 u (among_of us u h) in stands_by rules (contents s) old f known u w e

    pub valued : HasValue (contents s) (meaning rules) i v
    valued = evaluates_value (contents s) (equations rules) (meaning rules) (known_by old f) (is_inner rules)
        (ground_by rules (contents s) old f known) come.0 i v ls us own come.1

    module _ (o : Option (Value ℕ)) (fit : IsFit rules i v o) (absent : old i ≡ None) (w x : ℕ)
        (counts : Counts old new w x) where
      pub gains_put : Puts old i o ls us new → Gains rules s i old new f f w x
      gains_put puts =
          let there = stands_by rules (contents s) old f known in
          let n = come.0 in let ev = come.1 in let ground = ground_by rules (contents s) old f known in
          let stays = stays_now rules (contents s) old new (known_by old f) n i v o ls us ground own there fit absent
          ev puts in
          let right' = right_now rules (contents s) old new (known_by old f) n i v o ls us ground own there fit absent
          ev puts known.right in
          let plain' = plain_now rules (contents s) old new (known_by old f) n i v o ls us ground own there fit absent
          ev puts known.plain in
          record {
            worthy = worthy_now rules (contents s) old new (known_by old f) n i v o ls us ground own there fit absent
                ev puts;
            known = record {
              circular = known.circular;
              right = right';
              plain = plain';
              finds = known.finds;
              stands = λ j y e. entered_on old new
                  stays j (known.stands j y e);
              inner = known.inner;
            };
            still = λ j y e. e;
            stays = λ is all. record {
              values = right';
              valued = all_now rules (contents s) old new (known_by old f) n i v o ls us ground own there fit absent
                  ev puts (IsValued rules s) all.valued (v, valued);
              there = all_now rules (contents s) old new (known_by old f) n i v o ls us ground own there fit absent ev
                  puts (IsThere s) all.there is;
              covers = covers_now rules (contents s) old new (known_by old f) n i v o ls us ground own there fit
                  absent ev puts all.covers;
              plain = plain';
            };
            spare = spare_now rules (contents s) old new (known_by old f) n i v o ls us ground own there fit absent ev
                puts;
            counts = counts;
          }

  -- one without a value changes no number
  pub counts_shared_so : (old new : Entries) (i : Instance ℕ) (ls : List (Location ℕ)) (us : List (Instance ℕ)) (w : ℕ)
      → w < 2 ^ 64 → old i ≡ None → Puts old i None ls us new → Counts old new w w
  counts_shared_so old new i ls us w few absent h = counts_shared old new w w refl few (λ j some. put_stays
      old new i h.entry absent h.adds j some) (λ j. put_unvalued old new i h.entry h.value absent h.adds j)

  -- a value is remembered
  pub gains_more : (i : Instance ℕ) (old new : Entries) (f g h : Found) (w x : ℕ) (c : ValueCode) →
      Gains rules s i old new f g w x → h ≡ insert_entry same_instance g i c →
      HasValue (contents s) (meaning rules) i (value_view c) → IsSome (new i) → is_lazy rules i.attribute ≡ false →
      Gains rules s i old new f h w x
  gains_more i old new f g h w x c a put has some lazy = record {
    worthy = a.worthy;
    known = known_more rules (contents s) new g a.known h i c put has some lazy;
    still = λ j v e. still_remembered rules (contents s) new g a.known h i c put has j v (a.still j v e);
    stays = a.stays;
    spare = a.spare;
    counts = a.counts;
  }

  -- and known then
  pub more_known : (i : Instance ℕ) (old new : Entries) (f g h : Found) (w x : ℕ) (c : ValueCode) →
      Gains rules s i old new f g w x → h ≡ insert_entry same_instance g i c →
      HasValue (contents s) (meaning rules) i (value_view c) → IsSome (new i) → is_lazy rules i.attribute ≡ false →
      known_by new h i ≡ Some (value_view c)
  more_known i old new f g h w x c a put has some lazy =
      found_known rules (contents s) new h (known_more rules (contents s) new g a.known h i c put has some lazy) i
      (value_view c) (remembered_is rules (contents s) new g a.known h i c put has)

  -- where the same is remembered, and counted
  pub gains_as : (i : Instance ℕ) (old new : Entries) (f g h : Found) (w x y : ℕ) → h ≡ g → y ≡ x →
      Gains rules s i old new f g w x → Gains rules s i old new f h w y
  gains_as i old new f g h w x y e d a = subst (λ (z : Found). Gains rules s i old new f z w y) (sym e) (subst (λ
      (z : ℕ). Gains rules s i old new f g w z) (sym d) a)

  -- and from the same instance, which was remembered and counted so before
  pub gains_from : (i j : Instance ℕ) (old new : Entries) (f g h : Found) (w x y : ℕ) → j ≡ i → g ≡ f → x ≡ w →
      Gains rules s j old new g h x y → Gains rules s i old new f h w y
  gains_from i j old new f g h w x y is e d a =
      subst (λ (z : Instance ℕ). Gains rules s z old new f h w y) is (subst (λ (z : Found). Gains rules s j
      old new z h w y) e (subst (λ (z : ℕ). Gains rules s j old new g h z y) d a))

  -- what an instance was told is its value
  pub told_holds : (entries : Entries) (f : Found) (j : Instance ℕ) (v : Value ℕ) (ls : List (Location ℕ)) (us : List
      (Instance ℕ)) → AreKnown rules (contents s) entries f →
      IsGiven rules (contents s) (known_by entries f) j v ls us → HasValue (contents s) (meaning rules) j v
  told_holds entries f j v ls us known given = tells_hold (contents s) (equations rules) (meaning rules)
      (known_by entries f) (is_inner rules) (ground_by rules (contents s) entries f known) given.0 j v ls us given.1

  not_lazy : (b : Bool) → not b ≡ true → b ≡ true → ⊥
  not_lazy true e h = true≢false (sym e)
  not_lazy false e h = true≢false (sym h)

  -- and all that is worthy of it is kept
  pub told_whole : (entries : Entries) (f : Found) (j : Instance ℕ) (v : Value ℕ) (ls : List (Location ℕ)) (us : List
      (Instance ℕ)) → AreSpare rules (contents s) entries → AreKnown rules (contents s) entries f →
      IsGiven rules (contents s) (known_by entries f) j v ls us → HasWorthy rules (contents s) j entries
  told_whole entries f j v ls us spare known (n, t) m worth = by n v ls us t
    where
      by : (n : ℕ) (v : Value ℕ) (ls : List (Location ℕ)) (us : List (Instance ℕ)) →
          Tells (contents s) (equations rules) (known_by entries f) (is_inner rules) n j v ls us → IsKept entries m
      by zero v ls us (e, _, _) = spare.deep j m (stands_by rules (contents s) entries f known j v e) worth.reached
          worth.lazy
      by (suc n) v ls us (inl t) = by n v ls us t
      by (suc n) v ls us (inr (inner, p)) = elim (led (contents s) (equations rules) (meaning rules) (known_by entries f)
          (is_inner rules) (ground_by rules (contents s) entries f known) n j v ls us
          ((ground_by rules (contents s) entries f known).own j inner) p m worth.reached) [
            | inl same ↦ absurd (not_lazy (is_lazy rules m.attribute) (subst (λ x. is_inner rules x ≡ true) same inner)
                worth.lazy)
            | inr q ↦ elim q [
              | inl also ↦ absurd (not_lazy (is_lazy rules m.attribute) also worth.lazy)
              | inr (u, a, leads) ↦ (let (w, e) = taken_known (contents s) (equations rules) (known_by entries f)
                  (is_inner rules) n j v ls us p u a in
                  spare.deep u m (stands_by rules (contents s) entries f known u w e) leads worth.lazy)
            ]
          ]

-- what a level is told of what is known, and of an inner one
module _ (rules : Rules) (look : Contents ℕ) (known : Known ℕ) (old new : Level) (j : Instance ℕ) (v : Value ℕ) where
  pub told_kept : known j ≡ Some v → new.reads ≡ old.reads → new.uses.items ≡ old.uses.items ++ j ∷ [] →
      HasTold rules look known old new j v
  told_kept e reads uses = record {
    looks = [];
    takes = j ∷ [];
    given = (0, (e, refl, refl));
    reads = reads ∙ sym (append-nil old.reads);
    uses = uses;
  }

  pub told_inner : (ls : List (Location ℕ)) (us : List (Instance ℕ)) → is_lazy rules j.attribute ≡ false →
      IsEvaluated rules look known j v ls us → new.reads ≡ old.reads ++ ls →
      new.uses.items ≡ old.uses.items ++ us → HasTold rules look known old new j v
  told_inner ls us lazy come reads uses = record {
    looks = ls;
    takes = us;
    given = (suc come.0, inr (ap not lazy, come.1));
    reads = reads;
    uses = uses;
  }

-- a value that was put so is kept
pub put_kept : (old new : Entries) (i : Instance ℕ) (v : Value ℕ) (ls : List (Location ℕ)) (us : List
    (Instance ℕ)) → Puts old i (Some v) ls us new → kept_values new i ≡ Some v
put_kept old new i v ls us puts = ap value_at (puts.adds i ∙ ap (λ (b : Bool). if b then Some puts.entry else old
    i) (same_refl i)) ∙ puts.value

-- an entry that was put so is there
pub put_there : (old new : Entries) (i : Instance ℕ) (o : Option (Value ℕ)) (ls : List (Location ℕ)) (us
    : List (Instance ℕ)) → Puts old i o ls us new → IsSome (new i)
put_there old new i o ls us puts = subst (λ (x : Option Kept). IsSome x) (sym (puts.adds i ∙ ap (λ (b : Bool). if
    b then Some puts.entry else old i) (same_refl i))) refl
