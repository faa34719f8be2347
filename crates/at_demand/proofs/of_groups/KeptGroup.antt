-- A group is kept, member by member, and what that leaves.
use Rattle.std.proofs.Common.{◌≡◌, ◌⊎◌, ◌<◌, ◌^◌, ◌+◌, ℕ, zero, suc, arith, get_or, nat_lt, take, Bool, true, false, true≢false, List, [], ◌∷◌, ◌++◌, length, slice_get, Option, Some, None, Result, Ok, Err, OnOk, inl, inr, refl, sym, ap, ◌∙◌, subst}
use Rattle.std.proofs.lemmas.Bool.{ltb-false}
use Rattle.std.proofs.lemmas.List.{take_more}
use Rattle.std.specs.Prelude.{IsErrAnd, IsSome}
use Rattle.at_model.specs.Run.{Instance, Contents}
use Rattle.at_model.specs.Meaning.{Among}
use Rattle.at_model.specs.Rules.{Rules, is_lazy, start_of}
use Rattle.at_model.specs.of_fixpoints.Fixpoints.{HasValue}
use Rattle.at_model.specs.of_fixpoints.Resting.{Comes, Leads}
use Rattle.at_model.proofs.Members.{among_push}
use Rattle.at_rules.specs.Circular.{AreCircularLazy, HasNoneCircular}
use Rattle.at_store.specs.Shown.{Shown, contents}
use Rattle.at_body.specs.Values.{value_view}
use Rattle.at_cache.specs.Kept.{Entries}
use Rattle.at_cache.specs.Traced.{Memories}
use Rattle.at_search.specs.declared.solving.Solved.{Solved}
use Rattle.at_demand.specs.declared.evaluation.Find.{Find}
use Rattle.at_demand.specs.declared.question.Question.{Question}
use Rattle.at_demand.specs.Covering.{AreWhole, AreWholeIn, Extends, IsFirst, IsWhole, by_first, in_group}
use Rattle.at_demand.specs.Groups.{CanBeFirst, CanBeOther, CanKeepGroup, HasKeptFirst, HasKeptGroup, HasKeptOther, IsFindOf, IsFirstAt, IsMember, KeepsGroups, KeepsOther, Tells, UsesFirst}
use Rattle.at_demand.specs.Known.{IsFound}
use Rattle.at_evaluate.specs.Valued.{IsKept, KeepsEntries, kept_values, meaning}
use Rattle.at_demand.specs.Levels.{known_to}
use Rattle.at_demand.specs.Only.{AreLean, IsLean, TakesOnly}
use Rattle.at_demand.specs.Worth.{AreSettled}
use Rattle.at_evaluate.specs.Sparing.{AreSpare, IsDeep}
use Rattle.at_evaluate.proofs.Entered.{entered, is_there, kept_on, not_none}
use Rattle.at_demand.proofs.Extending.{get_more}
use Rattle.at_demand.proofs.Gaining.{is_kept, whole_alone}
use Rattle.at_demand.proofs.Keys.{goes_last, no_key}
use Rattle.at_demand.proofs.Leading.{led_now}
use Rattle.at_demand.proofs.OnlyLemmas.{get_among}
use Rattle.at_demand.proofs.Passing.{whole_in_more}
use Rattle.at_demand.proofs.of_groups.KeptOrFound.{can_follow, none_there}
use Rattle.at_demand.proofs.of_groups.Members.{lean_first, listed_member, member_circular, member_listed, member_whole, members, members_lead, valued_first, whole_in}
use Rattle.at_demand.proofs.of_groups.Telling.{circular_lazy, known_cases, tells_none, tells_same, tells_so, tells_then}
use Rattle.at_demand.proofs.of_groups.TellingOne.{known_still, tells_one}

-- With all of these kept, which lead to none but these and what was known, all lazy ones below what is kept are kept.
module _ (rules : Rules) (look : Contents ℕ) (before after : Entries) (found : List (Instance ℕ × Find))
    (these : List (Instance ℕ)) (well : AreCircularLazy rules)
    (stays : KeepsEntries before after) (whole : AreWhole rules look found) (settled : AreSettled rules before found)
    (deep : IsDeep rules look before before)
    (next : (i j : Instance ℕ) → Among i these → Comes look (meaning rules) i j → Among j these ⊎
    (IsSome (before j) ⊎ IsFound found j))
    (all : (i : Instance ℕ) → Among i these → IsKept after i) where
  -- it was found by itself with all that it took, and isn't lazy
  record IsAlone (j : Instance ℕ) : Type 0 where
    pub find : Find
    pub off : is_lazy rules j.attribute ≡ false
    pub rests : AreWholeIn rules look found (j ∷ []) find
    pub taken : (u : Instance ℕ) → Among u find.demanded.kept.items → IsSome (before u)

  abbrev Within : Instance ℕ → Type 0
  Within j = Among j these ⊎ IsAlone j

  found_within : (j : Instance ℕ) → IsFound found j → IsSome (before j) ⊎ Within j
  found_within j (p, g, at) = by (is_lazy rules j.attribute) refl
    where
      by : (b : Bool) → is_lazy rules j.attribute ≡ b → IsSome (before j) ⊎ Within j
      by true lazy = let x = settled p j g at in inl (entered before j (x.lazy lazy))
      by false off = let x = settled p j g at in
          inr (inr (record {
            find = g;
            off = off;
            rests = whole_alone rules look found well j g off (whole p j g at);
            taken = x.took;
          }))

  next_within : (i j : Instance ℕ) → Within i → Comes look (meaning rules) i j → IsSome (before j) ⊎ Within j
  next_within i j (inl a) c = elim (next i j a c) [
    | inl b ↦ inr (inl b)
    | inr u ↦
        elim u [ inl some ↦ inl some | inr f ↦ found_within j f ]
  ]
  next_within i j (inr w) c = elim (w.rests.demands i j (inl refl) c) [
    | inl h ↦ elim h [ inl e ↦ inr (inr (subst IsAlone (sym e) w)) | inr z ↦ absurd z ]
    | inr h ↦ elim h [ inl k ↦ inl (w.taken j k) | inr (p, g, at, is) ↦ found_within j (p, g, is) ]
  ]

  itself : (i : Instance ℕ) → Within i → is_lazy rules i.attribute ≡ true → IsKept after i
  itself i (inl a) lazy = all i a
  itself i (inr w) lazy = absurd (true≢false (sym lazy ∙ w.off))

  below : (i j : Instance ℕ) → IsSome (before i) → Leads look (meaning rules) i j → is_lazy rules j.attribute ≡ true →
      IsKept after j
  below i j some led lazy = kept_on before after stays j (deep i j some led lazy)

  pub deep_group : ((i : Instance ℕ) → IsSome (after i) → IsSome (before i) ⊎ (Among i these ⊎ IsFound found i)) →
      IsDeep rules look after after
  deep_group entries i j some led lazy = by (entries i some)
    where
      within : IsSome (before i) ⊎ Within i → IsKept after j
      within (inl b) = below i j b led lazy
      within (inr w) = led_now look (meaning rules) Within (λ u. IsSome (before u))
          (λ (u : Instance ℕ). is_lazy rules u.attribute ≡ true) (IsKept after) next_within itself below i j w led lazy

      by : IsSome (before i) ⊎ (Among i these ⊎ IsFound found i) → IsKept after j
      by (inl b) = within (inl b)
      by (inr (inl a)) = within (inr (inl a))
      by (inr (inr f)) = within (found_within i f)

-- the last one of a list
get_end : {A : Type 0} (xs : List A) (y : A) → slice_get (xs ++ y ∷ []) (length xs) ≡ Some y
get_end [] y = refl
get_end (x ∷ xs) y = get_end xs y

-- an item of a list is among it
pub item_among : {A : Type 0} (xs : List A) (n : ℕ) (d : A) → n < length xs → Among (get_or xs n d) xs
item_among [] n d less = absurd (omega (arith, less))
item_among (x ∷ xs) zero d less = inl refl
item_among (x ∷ xs) (suc n) d less = inr (item_among xs n d (omega (arith, less)))

-- where there is no first item there is none
pub none_first : {A : Type 0} (xs : List A) (a : A) → None ≡ slice_get xs 0 → Among a xs → ⊥
none_first [] a e h = h
none_first (x ∷ xs) a e h = absurd cc

-- what has a place is within the list
pub some_within : {A : Type 0} (xs : List A) (n : ℕ) → IsSome (slice_get xs n) → n < length xs
some_within [] n some = absurd (true≢false (sym some))
some_within (x ∷ xs) zero some = omega arith
some_within (x ∷ xs) (suc n) some = omega (arith, some_within xs n some)

pub not_placed : {A : Type 0} (xs : List A) (n : ℕ) → IsSome (slice_get xs n) → nat_lt n (length xs) ≡ false → ⊥
not_placed xs n some off = absurd (omega (arith, some_within xs n some, ltb-false n (length xs) off))

-- a call that has failed promises nothing of its success
pub err_ok : {T E : Type 0} (P : Type 0) (r : Result T E) (Q : E → Type 0) → IsErrAnd r Q → OnOk r P
err_ok P (Ok x) Q h = absurd h
err_ok P (Err e) Q h = tt

-- where the call has failed, no attribute is circular
pub failed_none : {T E : Type 0} (rules : Rules) (r : Result T E) (Q : E → Type 0) → IsErrAnd r Q →
    KeepsGroups rules r → HasNoneCircular rules
failed_none rules (Ok x) Q h k = absurd h
failed_none rules (Err e) Q h k = k

-- so another one has
pub fails_too : {T U E : Type 0} (rules : Rules) (r : Result T E) (e : E) (q : Result U E) (Q : E → Type 0) →
    r ≡ Err e → IsErrAnd q Q → KeepsGroups rules q → KeepsGroups rules r
fails_too rules r e (Ok u) Q is b k = absurd b
fails_too {T = T} {E = E} rules r e (Err d) Q is b k = subst (λ (z : Result T E). KeepsGroups rules z) (sym is) k

-- What became of a group since its first member was kept: these members are known.
pub record AreKeptSince (rules : Rules) (s : Shown) (insts : List (Instance ℕ)) (group ms : List Solved)
    (begun now : Entries) (former latter : Memories)
    (earlier later : ℕ) (old new : Question) : Type 0 where
  pub tells : Tells rules s begun now former latter earlier later old new (members insts group) ⊥
  pub same : new.ended.entries ≡ old.ended.entries
  pub told : (i : Instance ℕ) (b : Bool) → IsMember insts ms i b → IsSome (known_to now new i)

module _ (rules : Rules) (s : Shown) (before : Entries) (former : Memories) (earlier : ℕ)
    (old : Question) (insts : List (Instance ℕ))
    (group : List Solved) (can : CanKeepGroup rules s before old insts group) where
  abbrev IsOf : Instance ℕ → Type 0
  IsOf i = Among i (members insts group)

  pub member_lazy : (i : Instance ℕ) → IsOf i → is_lazy rules i.attribute ≡ true
  member_lazy i a = circular_lazy rules can.can.answerable.basis.circular.lazy i
      (member_circular rules s before old insts group can i a)

  -- the first one is kept, or was found at the place, and with its find all that the members rest on stands
  abbrev pub IsFirstOf : Instance ℕ → Entries → Question → Option ℕ → Type 0
  IsFirstOf first now q None = IsKept now first
  IsFirstOf first now q (Some p) = (g : Find) × (slice_get q.found.entries p ≡ Some (first, g)) ×
      AreWholeIn rules (contents s) q.found.entries (members insts group) g

  -- How far a group is kept: these members are known, by the first one.
  pub record IsKeptSoFar (first : Instance ℕ) (place : Option ℕ) (ms : List Solved) (now : Entries) (latter : Memories)
      (later : ℕ) (new : Question) : Type 0 where
    pub tells : Tells rules s before now former latter earlier later old new (members insts group) ⊥
    pub same : new.ended.entries ≡ old.ended.entries
    pub known : IsFirstOf first now new place
    pub told : (i : Instance ℕ) (b : Bool) → IsMember insts ms i b → IsSome (known_to now new i)

  -- the first member
  module _ (first : Instance ℕ) (b : Bool) (m : IsMember insts group first b) (f : Find)
      (is : IsFindOf before old insts group b f) where
    pub here : IsOf first
    here = member_listed insts group first b m

    pub can_first : CanBeFirst rules before old first f
    can_first = record {
      rests = record { kept = valued_first rules s before old insts group can b f is; finds = can.can.took };
      unknown = can.unknown first b m;
      plain = can.can.answerable.plain;
    }

    module _ {E : Type 0} (after : Entries) (latter : Memories) (later : ℕ) (new : Question) (r : Result (Option ℕ) E)
        (h : HasKeptFirst rules before after former latter earlier later old new first f r) where
      pub tells_first : Tells rules s before after former latter earlier later old new (members insts group) ⊥
      tells_first = tells_one rules s before after former latter earlier later old new first f h.kept
          (can.unknown first b m) (members insts group) here
          (member_lazy first here) (subst (λ v. HasValue (contents s) (meaning rules) first (value_view v))
          (sym is.value) (can.values first b m))
          (member_whole rules s before old insts group can first here) can.can.finds
          (in_group (members insts group) (member_circular rules s before old insts group can first here) here
          (whole_in rules s before old insts group can b f is))
          (lean_first rules s before old insts group can b f is first here) (valued_first rules s before old insts group
          can b f is) can.can.took can.can.facts.values

      pub same_first : new.ended.entries ≡ old.ended.entries
      same_first = ap (λ (q : Question). q.ended.entries) h.kept.same

      -- so it is known
      first_at : (place : Option ℕ) → HasKeptFirst {E = E} rules before after former latter earlier later old new
          first f (Ok place) → IsFirstOf first after new place
      first_at None x = is_there (kept_values after first) (value_view f.value) x.place.0
      first_at (Some p) x =
          let gone = no_key old.found.entries first (none_there before old.found.entries first
          (can.unknown first b m)) in
          let last : new.found.entries ≡ old.found.entries ++ (first, f) ∷ [] = x.place.1 ∙
          goes_last old.found.entries first f gone in (
            f,
            subst (λ n. slice_get new.found.entries n ≡ Some (first, f)) (sym x.place.0)
                (ap (λ fs. slice_get fs (length old.found.entries)) last ∙ get_end old.found.entries (first, f)),
            whole_in_more rules (contents s) old.found.entries new.found.entries (members insts group) f
                ((first, f) ∷ [], last)
                (whole_in rules s before old insts group can b f is),
          )

      pub kept_first : (place : Option ℕ) → r ≡ Ok place → IsKeptSoFar first place [] after latter later new
      kept_first place ok = record {
        tells = tells_first;
        same = same_first;
        known = first_at place (subst (HasKeptFirst {E = E} rules before after former latter earlier later old new
            first f) ok h);
        told = λ i c (y, none, at, is). absurd none;
      }

  -- it stays so
  first_still : (first : Instance ℕ) (now after : Entries) (mid new : Question) → KeepsEntries now after →
      Extends mid.found.entries new.found.entries → (o : Option ℕ) →
      IsFirstOf first now mid o → IsFirstOf first after new o
  first_still first now after mid new stays grows None k = kept_on now after stays first k
  first_still first now after mid new stays grows (Some p) (g, at, w) = (
    g,
    get_more mid.found.entries new.found.entries p (first, g) grows at,
    whole_in_more rules (contents s) mid.found.entries new.found.entries (members insts group) g grows w,
  )

  same_then : {E : Type 0} (first : Instance ℕ) (place : Option ℕ) (now : Entries) (among' : Memories) (meanwhile : ℕ)
      (mid : Question) (m : Solved) (after : Entries)
      (latter : Memories) (later : ℕ) (new : Question) (r : Result (Unit {0}) E) →
      HasKeptOther rules now after among' latter meanwhile later mid new insts first place m r →
      new.ended.entries ≡ mid.ended.entries
  same_then first place now among' meanwhile mid m after latter later new r h = elim h.kept [
    | inl same ↦ ap (λ (q : Question). q.ended.entries) same.question
    | inr k ↦ ap (λ (q : Question). q.ended.entries) k.kept.same
  ]

  -- another one
  module _ (first : Instance ℕ) (a : IsOf first) (place : Option ℕ) (ms : List Solved) (now : Entries)
      (among' : Memories) (meanwhile : ℕ) (mid : Question)
      (x : IsKeptSoFar first place ms now among' meanwhile mid) where
    pub can_other : CanBeOther rules now mid first place
    can_other = record { finds = x.tells.took; known = by place x.known; plain = x.tells.plain }
      where
        by : (o : Option ℕ) → IsFirstOf first now mid o → IsFirstAt now mid first o
        by None k = k
        by (Some p) (g, at, w) = (g, at)

    module _ (m : Solved) (mine : Among m group) (after : Entries) (latter : Memories) (later : ℕ) (new : Question)
      where
        -- by the use of the first one
        module _ (k : KeepsOther rules now after among' latter meanwhile later mid new insts first place m) where
          it : IsMember insts group k.inst m.value
          it = (m, mine, k.at, refl)

          its : IsOf k.inst
          its = member_listed insts group k.inst m.value it

          whole_other : IsWhole rules (contents s) mid.found.entries k.inst k.find
          whole_other = by_first first (member_circular rules s before old insts group can k.inst its)
              (by place x.known k.is.uses)
              (members_lead rules s before old insts group can first k.inst a its)
            where
              by : (o : Option ℕ) → IsFirstOf first now mid o → UsesFirst first o k.find.demanded →
                  IsFirst rules (contents s) mid.found.entries k.find.demanded k.inst first
              by None known (kept, finds) = inl (subst (Among first) (sym kept) (inl refl))
              by (Some p) (g, at, w) (kept, finds) = inr (
                p,
                g,
                subst (Among p) (sym finds) (inl refl),
                at,
                (members insts group, its, w),
              )

          lean_other : IsLean rules (contents s) mid.found.entries k.inst k.find
          lean_other = record { reads = λ l n. absurd (subst (Among l) k.is.reads n); takes = by place x.known k.is.uses }
            where
              led : Leads (contents s) (meaning rules) k.inst first
              led = members_lead rules s before old insts group can k.inst first its a

              by : (o : Option ℕ) → IsFirstOf first now mid o → UsesFirst first o k.find.demanded →
                  TakesOnly rules (contents s) mid.found.entries k.inst k.find.demanded
              by None known (kept, finds) = record {
                kept = λ j n. elim (subst (Among j) kept n) [
                  | inl e ↦ subst (Leads (contents s) (meaning rules) k.inst)
                      (sym e) led
                  | inr z ↦ absurd z
                ];
                finds = λ p n. absurd (subst (Among p) finds n);
              }
              by (Some p) (g, at, w) (kept, finds) = record {
                kept = λ j n. absurd (subst (Among j) kept n);
                finds = λ n y. elim (subst (Among n) finds y) [
                  | inl e ↦ (first, g, subst (λ z. slice_get mid.found.entries z ≡ Some (first, g)) (sym e) at, led)
                  | inr z ↦ absurd z
                ];
              }

          tells_it : Tells rules s now after among' latter meanwhile later mid new (members insts group) ⊥
          tells_it = tells_one rules s now after among' latter meanwhile later mid new k.inst k.find k.kept
              k.unknown (members insts group) its
              (member_lazy k.inst its) (subst (λ v. HasValue (contents s) (meaning rules) k.inst (value_view v))
              (sym k.is.value) (can.values k.inst m.value it))
              (member_whole rules s before old insts group can k.inst its) (x.tells.whole can.can.finds) whole_other
              lean_other
              (can_follow rules now mid first place m.value k.inst k.find can_other k.unknown k.is).rests.kept
              x.tells.took x.tells.values

        module _ {E : Type 0} (few : meanwhile < 2 ^ 64) (r : Result (Unit {0}) E)
            (h : HasKeptOther rules now after among' latter meanwhile later mid new insts first place m r) where
          step : Tells rules s now after among' latter meanwhile later mid new (members insts group) ⊥
          step = elim h.kept [
            | inl same ↦ tells_same rules s now after among' latter meanwhile later mid new (members insts group) ⊥
                same few x.tells.values x.tells.took x.tells.plain
            | inr k ↦ tells_it k
          ]

          pub tells_other : Tells rules s before after former latter earlier later old new (members insts group) ⊥
          tells_other = tells_then rules s before now after former among' latter earlier meanwhile later old mid new
              (members insts group) member_lazy ⊥ ⊥ x.tells step ⊥
              (λ none. absurd none)

          pub same_other : new.ended.entries ≡ old.ended.entries
          same_other = same_then first place now among' meanwhile mid m after latter later new r h ∙ x.same

          told_then : (u : Unit {0}) → r ≡ Ok u → (i : Instance ℕ) (b : Bool) → IsMember insts (ms ++ m ∷ []) i b →
              IsSome (known_to after new i)
          told_then u ok i b (y, n, at, is) = elim (among_push ms y m n) [
            | inl old' ↦ known_still now after mid new step.stays step.finds i (x.told i b (y, old', at, is))
            | inr e ↦ now_told i (subst (λ (z : Solved). slice_get insts z.position ≡ Some i) e at)
          ]
            where
              now_told : (i : Instance ℕ) → slice_get insts m.position ≡ Some i → IsSome (known_to after new i)
              now_told = subst (λ z. OnOk z ((i : Instance ℕ) → slice_get insts m.position ≡ Some i →
                  IsSome (known_to after new i))) ok h.told

  -- from where the first one is kept
  module _ (first : Instance ℕ) (a : IsOf first) (place : Option ℕ) (begun : Entries) (among' : Memories)
      (meanwhile : ℕ) (mid : Question)
      (x : IsKeptSoFar first place [] begun among' meanwhile mid) where
    pub since_none : meanwhile < 2 ^ 64 → AreKeptSince rules s insts group [] begun begun among' among' meanwhile
        meanwhile mid mid
    since_none few = record {
      tells = tells_none rules s begun among' meanwhile mid (members insts group) ⊥ few x.tells.values
          x.tells.took x.tells.plain;
      same = refl;
      told = λ i b (y, none, at, is). absurd none;
    }

    module _ (ms : List Solved) (now : Entries) (last : Memories) (spent : ℕ) (q : Question)
        (y : AreKeptSince rules s insts group ms begun now among' last meanwhile spent mid q) where
      pub so_far : IsKeptSoFar first place ms now last spent q
      so_far = record {
        tells = tells_then rules s before begun now former among' last earlier meanwhile spent old mid q
            (members insts group) member_lazy ⊥ ⊥ x.tells y.tells ⊥
            (λ none. absurd none);
        same = y.same ∙ x.same;
        known = first_still first begun now mid q y.tells.stays y.tells.finds place x.known;
        told = y.told;
      }

      module _ {E : Type 0} (few : spent < 2 ^ 64) (m : Solved) (mine : Among m group) (after : Entries)
          (latter : Memories) (later : ℕ) (new : Question)
          (r : Result (Unit {0}) E) (h : HasKeptOther rules now after last latter spent later q new insts first
          place m r) where
        since_more : (u : Unit {0}) → r ≡ Ok u → AreKeptSince rules s insts group (ms ++ m ∷ []) begun after
            among' latter meanwhile later mid new
        since_more u ok =
            let t = step first a place ms now last spent q so_far m mine after latter later new few r h in
            record {
              tells = tells_then rules s begun now after among' last latter meanwhile spent later mid q new
                  (members insts group) member_lazy ⊥ ⊥ y.tells t ⊥
                  (λ none. absurd none);
              same = same_then first place now last spent q m after latter later new r h ∙ y.same;
              told = told_then first a place ms now last spent q so_far m mine after latter later new few r h u ok;
            }

    -- over the list of them
    module _ (n : ℕ) (less : n < length group) (now : Entries) (last : Memories) (spent : ℕ) (q : Question)
        (y : AreKeptSince rules s insts group (take n group) begun now among' last meanwhile spent mid q)
        {E : Type 0} (few : spent < 2 ^ 64) (d : Solved)
        (after : Entries) (latter : Memories) (later : ℕ) (new : Question) (r : Result (Unit {0}) E)
        (h : HasKeptOther rules now after last latter spent later q new insts first place (get_or group n d) r)
      where
        pub since_next : (u : Unit {0}) → r ≡ Ok u → AreKeptSince rules s insts group (take (n + 1) group) begun
            after among' latter meanwhile later mid new
        since_next u ok = subst (λ ms. AreKeptSince rules s insts group ms begun after among' latter meanwhile later
            mid new) (sym (take_more group n d less))
            (since_more (take n group) now last spent q y few (get_or group n d) (item_among group n d less) after latter
            later new r h u ok)

  -- what is left of a group
  module _ (after : Entries) (latter : Memories) (later : ℕ) (new : Question)
      (t : Tells rules s before after former latter earlier later old new (members insts group) ⊥)
      (same : new.ended.entries ≡ old.ended.entries) where
    abbrev pub Leaves : {E : Type 0} → Result (Unit {0}) E → Type 0
    Leaves {E} r = HasKeptGroup {E = E} rules s before after former latter earlier later old new insts group r

    wider : (i : Instance ℕ) → Among i (members insts group) → Among i insts
    wider i a = let (b, (m, c, at, is)) = listed_member insts group i a in get_among insts m.position i at

    only : (i : Instance ℕ) → IsSome (known_to after new i) → IsSome (known_to before old i) ⊎
        ((b : Bool) × IsMember insts group i b)
    only i some = elim (t.told i some) [ inl was ↦ inl was | inr a ↦ inr (listed_member insts group i a) ]

    -- where it has failed, attributes are circular
    pub group_failed : {E : Type 0} (r : Result (Unit {0}) E) (Q : E → Type 0) → IsErrAnd r Q → (first : Instance ℕ) →
        IsOf first → Leaves r
    group_failed r Q failed first a = record {
      tells = tells_so rules s before after former latter earlier later old new (members insts group) insts wider
          ⊥ t (KeepsGroups rules r)
          (λ whole. absurd (not_none (start_of rules first.attribute) (member_circular rules s before old insts group
          can first a)
          (failed_none rules r Q failed whole first.attribute)));
      same = same;
      told = err_ok _ r Q failed;
      only = only;
    }

    -- where all members are known, what is kept stays spare
    module _ (f : Find) (b : Bool) (is : IsFindOf before old insts group b f) (told : (i : Instance ℕ) (b : Bool) →
        IsMember insts group i b → IsSome (known_to after new i)) where
      next : (i j : Instance ℕ) → Among i (members insts group) → Comes (contents s) (meaning rules) i j →
          Among j (members insts group) ⊎ (IsSome (before j) ⊎ IsFound old.found.entries j)
      next i j a c = elim ((whole_in rules s before old insts group can b f is).demands i j a c) [
        | inl n ↦ inl n
        | inr (inl k) ↦
            inr (inl (entered before j
            (is_kept before f.demanded.kept.items j (valued_first rules s before old insts group can b f is) k)))
        | inr (inr (p, g, n, at)) ↦ inr (inr (p, g, at))
      ]

      pub spare_group : AreSpare rules (contents s) before →
          AreLean rules (contents s) old.found.entries → AreSettled rules before old.found.entries →
          AreSpare rules (contents s) after
      spare_group spare lean settled = record {
        only = t.only lean spare.only;
        lazy = λ i some. elim (t.kept i some) [ inl was ↦ spare.lazy i was | inr (a, lazy) ↦ lazy ];
        deep = deep_group rules (contents s) before after old.found.entries (members insts group)
            can.can.answerable.basis.circular.lazy t.stays can.can.finds settled
            spare.deep next all (λ i some. entries i (t.entries i some));
      }
        where
          all : (i : Instance ℕ) → Among i (members insts group) → IsKept after i
          all i a = let (c, n) = listed_member insts group i a in elim (known_cases after new.found.entries i
              (told i c n)) [
                | inl k ↦ k
                | inr (p, g, at) ↦ (let x = t.settled settled p i g at in x.lazy (member_lazy i a))
              ]

          entries : (i : Instance ℕ) → IsSome (before i) ⊎ (IsKept after i ⊎ IsFound old.found.entries i) →
              IsSome (before i) ⊎ (Among i (members insts group) ⊎ IsFound old.found.entries i)
          entries i (inl was) = inl was
          entries i (inr (inl k)) = elim (t.kept i k) [
            | inl was ↦ inl (entered before i was)
            | inr (a, lazy) ↦
                inr (inl a)
          ]
          entries i (inr (inr found)) = inr (inr found)

      pub group_kept : {E : Type 0} (u : Unit {0}) → Leaves {E = E} (Ok u)
      group_kept {E} u = record {
        tells = tells_so rules s before after former latter earlier later old new (members insts group) insts
            wider ⊥ t (KeepsGroups {E = E} rules (Ok u)) (λ whole. spare_group);
        same = same;
        told = told;
        only = only;
      }

    -- where it has no members nothing came
    pub group_none : {E : Type 0} (u : Unit {0}) → ((m : Solved) → Among m group → ⊥) →
        (AreSpare rules (contents s) before → AreSpare rules (contents s) after) →
        Leaves {E = E} (Ok u)
    group_none {E} u none stays = record {
      tells = tells_so rules s before after former latter earlier later old new (members insts group) insts wider
          ⊥ t (KeepsGroups {E = E} rules (Ok u))
          (λ whole spare lean settled. stays spare);
      same = same;
      told = λ i b (m, a, at, is). absurd (none m a);
      only = only;
    }

  -- how the loop over a group ends
  module _ (first : Instance ℕ) (a : IsOf first) (place : Option ℕ) (begun : Entries) (among' : Memories)
      (meanwhile : ℕ) (mid : Question)
      (x : IsKeptSoFar first place [] begun among' meanwhile mid) where
    module _ {E : Type 0} (n : ℕ) (less : n < length group) (now : Entries) (last : Memories) (spent : ℕ) (q : Question)
        (y : AreKeptSince rules s insts group (take n group) begun now among' last meanwhile spent mid q)
        (few : spent < 2 ^ 64) (d : Solved)
        (after : Entries) (latter : Memories) (later : ℕ) (new : Question) (r : Result (Unit {0}) E)
        (h : HasKeptOther rules now after last latter spent later q new insts first place (get_or group n d) r)
      where
        pub other_failed : (o : Result (Unit {0}) E) (Q : E → Type 0) → IsErrAnd o Q →
            HasKeptGroup {E = E} rules s before after former latter earlier later old new insts group o
        other_failed o Q failed =
            let so = so_far first a place begun among' meanwhile mid x (take n group) now last spent q y in
            let m = get_or group n d in
            let mine = item_among group n d less in
            group_failed after latter later new
            (tells_other first a place (take n group) now last spent q so m mine after latter later new few r h)
            (same_other first a place (take n group) now last spent q so m mine after latter later new few r h) o Q failed
            first a

    pub all_others : {E : Type 0} (now : Entries) (last : Memories) (spent : ℕ) (q : Question) (ms : List Solved) →
        ms ≡ group →
        AreKeptSince rules s insts group ms begun now among' last meanwhile spent mid q → (f : Find) (b : Bool) →
        IsFindOf before old insts group b f → (u : Unit {0}) →
        HasKeptGroup {E = E} rules s before now former last earlier spent old q insts group (Ok u)
    all_others now last spent q ms all y f b is u =
        let so = so_far first a place begun among' meanwhile mid x ms now last spent q y in
        group_kept now last spent q so.tells so.same f b is
        (subst (λ (z : List Solved). (i : Instance ℕ) (c : Bool) → IsMember insts z i c → IsSome (known_to now q i)) all
        y.told) u
