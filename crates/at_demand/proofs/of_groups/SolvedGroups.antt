-- Groups are kept one behind the other, each in an order in which it can be.
use Rattle.std.proofs.Common.{◌≡◌, ◌⊎◌, ◌<◌, ◌≤◌, ◌+◌, ◌^◌, ℕ, zero, suc, Bool, List, [], ◌∷◌, length, slice_get, nat_eq, Option, Some, None, Result, Ok, Err, OnOk, Vec, true, inl, inr, refl, sym, ap, ◌∙◌, subst, arith}
use Rattle.std.specs.Global.{Global}
use Rattle.std.specs.Prelude.{IsErrAnd, IsSome}
use Rattle.std.proofs.lemmas.Option.{same_Some}
use Rattle.at_model.specs.Run.{Value, Instance, Contents, Known}
use Rattle.at_model.specs.Meaning.{Among}
use Rattle.at_model.specs.Rules.{Rules, is_lazy}
use Rattle.at_model.specs.of_fixpoints.Fixpoints.{LeadsOver}
use Rattle.at_model.specs.of_fixpoints.Formulas.{Forms, atoms}
use Rattle.at_model.proofs.of_formulas.StartsKept.{of_one_start}
use Rattle.at_store.specs.Shown.{Shown, contents}
use Rattle.at_cache.specs.Kept.{Entries}
use Rattle.at_cache.specs.Traced.{Memories}
use Rattle.at_search.specs.LedTo.{AreClosedIn}
use Rattle.at_search.specs.Recorded.{IsRecordedForm, Recorded, end_of}
use Rattle.at_search.specs.Solved.{AreGroups, AreInOrder, AreRight, AreTold, AreToldOrSpoilt, AreToldOrStopped, IsSolvedIn, IsToldSome}
use Rattle.at_search.specs.declared.ended.Ended.{Ended}
use Rattle.at_search.specs.declared.ended.Formed.{Formed}
use Rattle.at_search.specs.declared.solving.Solved.{Solved}
use Rattle.at_demand.specs.declared.question.Question.{Question}
use Rattle.at_demand.specs.Groups.{CanKeepGroup, CanSolve, HasKeptGroup, HasSolved, IsMember, KeepsGroups, Tells, start_in}
use Rattle.at_evaluate.specs.Valued.{meaning}
use Rattle.at_demand.specs.Levels.{known_to}
use Rattle.at_evaluate.proofs.Entered.{is_there, not_none}
use Rattle.at_demand.proofs.of_groups.KeptGroup.{err_ok, fails_too}
use Rattle.at_demand.proofs.of_groups.Telling.{circular_lazy, tells_none, tells_so, tells_then}
use Rattle.at_demand.proofs.of_groups.TellingOne.{known_still}
use Rattle.at_demand.proofs.Recalling.{known_kept}

below_next : (k n : ℕ) → k < n + 1 → (k < n) ⊎ (k ≡ n)
below_next zero zero less = inr refl
below_next zero (suc n) less = inl (omega arith)
below_next (suc k) zero less = absurd (omega (arith, less))
below_next (suc k) (suc n) less = elim (below_next k n (omega (arith, less))) [
  | inl l ↦ inl (omega (arith, l))
  | inr e ↦
      inr (ap suc e)
]

at_most : (k n : ℕ) → k ≤ n → (k < n) ⊎ (k ≡ n)
at_most k n less = below_next k n (omega (arith, less))

within_list : {A : Type 0} (xs : List A) (k : ℕ) (x : A) → slice_get xs k ≡ Some x → k < length xs
within_list [] k x e = absurd cc
within_list (y ∷ xs) zero x e = omega arith
within_list (y ∷ xs) (suc k) x e = omega (arith, within_list xs k x e)

-- what is promised of groups that are solved
pub record ArePromised (rules : Rules) (s : Shown) (known : Known ℕ) (ended : List (Instance ℕ × Ended))
    (insts : List (Instance ℕ)) (groups : List (Vec Solved Global))
    : Type 0 where
  pub are : AreGroups known ended insts groups
  pub told : AreTold (contents s) (meaning rules) insts groups
  pub order : AreInOrder known ended insts groups
  pub rest : AreClosedIn known ended insts → AreToldOrSpoilt known ended insts groups
  pub each : AreToldOrStopped known ended insts groups

pub promised : (rules : Rules) (s : Shown) (before : Entries) (old : Question) (insts : List (Instance ℕ)) →
    CanSolve rules s before old insts → (start : Bool) →
    start_in rules insts ≡ Some start → (known : Known ℕ) → known ≡ known_to before old →
    (groups : List (Vec Solved Global)) →
    AreGroups known old.ended.entries insts groups →
    ((look : Contents ℕ) (forms : Forms ℕ) → AreRight look forms start known old.ended.entries insts →
    AreTold look forms insts groups) →
    AreInOrder known old.ended.entries insts groups → (AreClosedIn known old.ended.entries insts →
    AreToldOrSpoilt known old.ended.entries insts groups) → AreToldOrStopped known old.ended.entries insts groups →
    ArePromised rules s (known_to before old) old.ended.entries insts groups
promised rules s before old insts can start starts known same groups are told order rest each =
    let right : AreRight (contents s) (meaning rules) start (known_to before old) old.ended.entries insts = record {
      facts = can.facts.ends;
      values = can.facts.values;
      wholes = can.facts.wholes;
      starts = λ i a. can.alike i a ∙ starts;
      alike = of_one_start (contents s) rules nat_eq;
    } in
    record {
      are = subst (λ (k : Known ℕ). AreGroups k old.ended.entries insts groups) same are;
      told = told (contents s) (meaning rules)
          (subst (λ (k : Known ℕ). AreRight (contents s) (meaning rules) start k old.ended.entries insts) (sym same)
          right);
      order = subst (λ (k : Known ℕ). AreInOrder k old.ended.entries insts groups) same order;
      rest = subst (λ (k : Known ℕ). AreClosedIn k old.ended.entries insts →
          AreToldOrSpoilt k old.ended.entries insts groups) same rest;
      each = subst (λ (k : Known ℕ). AreToldOrStopped k old.ended.entries insts groups) same each;
    }

-- a group that was kept, by another name of it
pub kept_of : {E : Type 0} (rules : Rules) (s : Shown) (before after : Entries)
    (former latter : Memories) (earlier later : ℕ) (old new : Question)
    (r : Result (Unit {0}) E) (is insts : List (Instance ℕ)) (ms group : List Solved) → is ≡ insts → ms ≡ group →
    HasKeptGroup {E = E} rules s before after former latter earlier later old new is ms r →
    HasKeptGroup {E = E} rules s before after former latter earlier later old new insts group r
kept_of {E = E} rules s before after former latter earlier later old new r is insts ms group one two h =
    subst (λ (xs : List (Instance ℕ)). HasKeptGroup {E = E} rules s before after former latter earlier later old
    new xs group r) one
    (subst (λ (xs : List Solved). HasKeptGroup {E = E} rules s before after former latter earlier later old new is
    xs r) two h)

-- How far groups are kept: so many of them are known, and nothing else.
pub record AreSolvedSoFar (rules : Rules) (s : Shown) (insts : List (Instance ℕ))
    (groups : List (Vec Solved Global)) (n : ℕ) (before now : Entries)
    (former latter : Memories) (earlier later : ℕ) (old new : Question) : Type 0 where
  pub tells : Tells rules s before now former latter earlier later old new insts (Unit {0})
  pub same : new.ended.entries ≡ old.ended.entries
  pub told : (k : ℕ) (i : Instance ℕ) (b : Bool) → k < n → IsSolvedIn insts groups k i b → IsSome (known_to now new i)
  pub only : (i : Instance ℕ) → IsSome (known_to now new i) →
      IsSome (known_to before old i) ⊎ ((k : ℕ) × (b : Bool) × (k < n) × IsSolvedIn insts groups k i b)

module _ (rules : Rules) (s : Shown) (before : Entries) (former : Memories) (earlier : ℕ)
    (old : Question) (insts : List (Instance ℕ))
    (groups : List (Vec Solved Global)) (can : CanSolve rules s before old insts) where
  abbrev SoFar : ℕ → Entries → Memories → ℕ → Question → Type 0
  SoFar n now latter later new = AreSolvedSoFar rules s insts groups n before now former latter earlier later old
      new

  pub none_solved : earlier < 2 ^ 64 → SoFar 0 before former earlier old
  none_solved few = record {
    tells = tells_none rules s before former earlier old insts (Unit {0}) few can.facts.values can.took
        can.answerable.plain;
    same = refl;
    told = λ k i b less. absurd (omega (arith, less));
    only = λ i some. inl some;
  }

  -- memory is wanting at once
  pub none_failed : {E : Type 0} (q : Result (Unit {0}) E) (Q : E → Type 0) → earlier < 2 ^ 64 → IsErrAnd q Q →
      HasSolved {E = E} rules s before before former former earlier earlier old old insts q
  none_failed q Q few failed = record {
    tells = tells_none rules s before former earlier old insts (KeepsGroups rules q) few can.facts.values can.took
        can.answerable.plain;
    same = refl;
    each = err_ok _ q Q failed;
    rest = λ closed. err_ok _ q Q failed;
  }

  insts_lazy : (i : Instance ℕ) → Among i insts → is_lazy rules i.attribute ≡ true
  insts_lazy i a = circular_lazy rules can.answerable.basis.circular.lazy i (can.circular i a)

  module _ (n : ℕ) (now : Entries) (among' : Memories) (meanwhile : ℕ) (mid : Question)
      (x : SoFar n now among' meanwhile mid) where
    still : (i : Instance ℕ) → IsSome (known_to before old i) → IsSome (known_to now mid i)
    still i some = known_still before now old mid x.tells.stays x.tells.finds i some

    can_still : CanSolve rules s now mid insts
    can_still = record {
      answerable = record {
        basis = can.answerable.basis;
        right = λ j v e. x.tells.values j v (known_kept now mid.found.entries j v v (sym e) refl);
        plain = x.tells.plain;
      };
      facts = x.tells.facts can.facts;
      finds = x.tells.whole can.finds;
      took = x.tells.took;
      circular = can.circular;
      alike = can.alike;
      recorded = λ i a. subst (Among i) (sym x.tells.ended) (can.recorded i a);
    }

    -- the next group
    module _ (g : Vec Solved Global) (at : slice_get groups n ≡ Some g) where
      solved_in : (i : Instance ℕ) (b : Bool) → IsMember insts g.items i b → IsSolvedIn insts groups n i b
      solved_in i b (m, a, is, e) = (g, m, at, a, is, e)

      member_of : (i : Instance ℕ) (b : Bool) → IsSolvedIn insts groups n i b → IsMember insts g.items i b
      member_of i b (h, m, is, a, placed, e) = (
        m,
        subst (λ (v : Vec Solved Global). Among m v.items)
            (same_Some h g (sym is ∙ at)) a,
        placed,
        e,
      )

      module _ (p : ArePromised rules s (known_to before old) old.ended.entries insts groups) where
        unknown : (i : Instance ℕ) (b : Bool) → IsMember insts g.items i b → known_to now mid i ≡ None
        unknown i b m = by (known_to now mid i) refl
          where
            by : (o : Option (Value ℕ)) → known_to now mid i ≡ o → known_to now mid i ≡ None
            by None e = e
            by (Some v) e = elim (x.only i (is_there (known_to now mid i) v e)) [
              | inl was ↦ absurd (not_none (known_to before old i) was (p.are.unknown n i b (solved_in i b m)))
              | inr (k, c, less, solved) ↦ (let q : k ≡ n = p.are.once k n i c b solved (solved_in i b m) in
                  absurd (omega (arith, less, q)))
            ]

        closed : (i j : Instance ℕ) (b : Bool) (f : Formed) → IsMember insts g.items i b →
            IsRecordedForm mid.ended.entries i f → Among j (atoms f.formula) →
            IsSome (known_to now mid j) ⊎ ((c : Bool) × IsMember insts g.items j c)
        closed i j b f m r a =
            let (y, there, is) = subst (λ es. IsRecordedForm es i f) x.same r in
            elim (p.order n i j b f.formula (solved_in i b m) (y, there, ap end_of is) a) [
              | inl some ↦ inl (still j some)
              | inr (l, c, less, solved) ↦ elim (at_most l n less) [
                | inl before' ↦ inl (x.told l j c before' solved)
                | inr same ↦ inr (c, member_of j c (subst (λ k. IsSolvedIn insts groups k j c) same solved))
              ]
            ]

        pub can_keep : CanKeepGroup rules s now mid insts g.items
        can_keep = record {
          can = can_still;
          placed = λ m a. p.are.placed n g m at a;
          unknown = unknown;
          values = λ i b m. p.told i b (n, solved_in i b m);
          closed = closed;
          together = λ i j b c m k. subst (λ es. LeadsOver (Recorded es) i j) (sym x.same)
              (p.are.together n i j b c (solved_in i b m) (solved_in j c k));
        }

      -- it is kept
      module _ {E : Type 0} (after : Entries) (latter : Memories) (later : ℕ) (new : Question) (r : Result (Unit {0}) E)
          (h : HasKeptGroup {E = E} rules s now after among' latter meanwhile later mid new insts g.items r) where
        tells_on : Tells rules s before after former latter earlier later old new insts (KeepsGroups rules r)
        tells_on = tells_then rules s before now after former among' latter earlier meanwhile later old mid new
            insts insts_lazy (Unit {0}) (KeepsGroups rules r)
            x.tells h.tells (KeepsGroups rules r) (λ whole. (tt, whole))

        told_on : (u : Unit {0}) → r ≡ Ok u → (k : ℕ) (i : Instance ℕ) (b : Bool) → k < n + 1 →
            IsSolvedIn insts groups k i b → IsSome (known_to after new i)
        told_on u ok k i b less solved = elim (below_next k n less) [
          | inl l ↦ known_still now after mid new h.tells.stays h.tells.finds i (x.told k i b l solved)
          | inr e ↦ here i b (member_of i b (subst (λ m. IsSolvedIn insts groups m i b) e solved))
        ]
          where
            here : (i : Instance ℕ) (b : Bool) → IsMember insts g.items i b → IsSome (known_to after new i)
            here = subst (λ z. OnOk z ((i : Instance ℕ) (b : Bool) → IsMember insts g.items i b →
                IsSome (known_to after new i))) ok h.told

        only_on : (i : Instance ℕ) → IsSome (known_to after new i) →
            IsSome (known_to before old i) ⊎ ((k : ℕ) × (b : Bool) × (k < n + 1) × IsSolvedIn insts groups k i b)
        only_on i some = elim (h.only i some) [
          | inl m ↦ elim (x.only i m) [
            | inl was ↦ inl was
            | inr (k, b, less, solved) ↦ inr (
              k,
              b,
              omega (arith, less),
              solved,
            )
          ]
          | inr (b, m) ↦ inr (n, b, omega arith, solved_in i b m)
        ]

        pub solved_next : (u : Unit {0}) → r ≡ Ok u → SoFar (n + 1) after latter later new
        solved_next u ok = record {
          tells = tells_so rules s before after former latter earlier later old new insts insts (λ i a. a)
              (KeepsGroups rules r) tells_on (Unit {0})
              (λ whole. tells_on.spare (subst (KeepsGroups rules) (sym ok) tt));
          same = h.same ∙ x.same;
          told = told_on u ok;
          only = only_on;
        }

        -- or memory is wanting
        pub solving_failed : (e : E) (q : Result (Unit {0}) E) (Q : E → Type 0) → r ≡ Err e → IsErrAnd q Q →
            HasSolved {E = E} rules s before after former latter earlier later old new insts q
        solving_failed e q Q broke failed = record {
          tells = tells_so rules s before after former latter earlier later old new insts insts (λ i a. a)
              (KeepsGroups rules r) tells_on (KeepsGroups rules q)
              (λ whole. tells_on.spare (fails_too rules r e q Q broke failed whole));
          same = h.same ∙ x.same;
          each = err_ok _ q Q failed;
          rest = λ closed. err_ok _ q Q failed;
        }

    -- all groups are kept
    pub all_solved : {E : Type 0} (u : Unit {0}) → length groups ≤ n →
        ArePromised rules s (known_to before old) old.ended.entries insts groups →
        HasSolved {E = E} rules s before now former among' earlier meanwhile old mid insts (Ok u)
    all_solved {E} u past p = record {
      tells = tells_so rules s before now former among' earlier meanwhile old mid insts insts (λ i a. a)
          (Unit {0}) x.tells (KeepsGroups {E = E} rules (Ok u)) x.tells.spare;
      same = x.same;
      each = λ i a. elim (p.each i a) [
        | inl t ↦ inl (known_by i t)
        | inr u ↦ elim u [ inl known ↦ inl (still i known) | inr stopped ↦ inr stopped ]
      ];
      rest = λ closed i a. elim (p.rest closed i a) [
        | inl t ↦ inl (known_by i t)
        | inr u ↦ elim u [ inl known ↦ inl (still i known) | inr spoilt ↦ inr spoilt ]
      ];
    }
      where
        -- what is told is known
        known_by : (i : Instance ℕ) → IsToldSome insts groups i → IsSome (known_to now mid i)
        known_by i (b, (k, (g, m, at, c, placed, e))) = x.told k i b (omega (arith, within_list groups k g at, past))
            (g, m, at, c, placed, e)
