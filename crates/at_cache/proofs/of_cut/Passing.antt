-- What edges take from entries, and what a flush leaves.
use Rattle.at_cache.proofs.Common.{length, ◌≡◌, ◌⊎◌, inl, inr, ℕ, List, [], ◌∷◌, ◌++◌, Bool, true, false, true≢false, Option, None, Some, IsSome, option_map, nat_eq, Contains, if◌then◌else◌, refl, sym, ap, ◌∙◌, subst, append-nil, append_assoc, eqb-true, option_and_then, cases_Bool, cases_eq, eq-eqb, ne_eqb, none-some, same_Some, Contains-append_cases, Contains-append_left, Contains-append_right, Contains-cons_cases, Location, Cut, Edge, Mark, Standing, Table, Begins, IsIdle, Work, dooms, first_after, Info, Memory, memory_of, table_len, Aside, GoesOver, HasMark, IsQuiet, Passes, TakesAway, Untraces, aside_cut, beside, held_in, of_trace, of_value, stamps_of, unmarked, is_current, reused, users_at, with_users, IsChanged, held, held_among, shape, shown, standing_of, unheld, untraced, head_of, none_in}
use Rattle.std.specs.Global.{Vec}
use Rattle.at_cache.specs.declared.cut.Loss.{Loss}
use Rattle.at_cache.specs.declared.cut.Loss.TheVariants as loss
use Rattle.at_cache.proofs.Ending.{none_goes}
use Rattle.at_cache.proofs.Dooming.{dooming}
use Rattle.at_cache.proofs.of_cut.Again.{held_from, held_off, held_on}
use Rattle.at_cache.proofs.of_cut.Resting.{resting}
use Rattle.at_cache.proofs.Taking.{begun, more, taken}

twice : (o : Option Info) → option_map unmarked (option_map unmarked o) ≡ option_map unmarked o
twice None = refl
twice (Some e) = refl

abbrev stamp_in : Option Info → Option ℕ
stamp_in o = option_map (λ (e : Info). e.stamp) o

-- what is there and not kept doesn't hold
pub not_shown : (s : Standing) (o : Option Info) → IsSome o → option_and_then (shown s) o ≡ None → s.holds ≡ false
not_shown s None some h = absurd (cc)
not_shown s (Some e) some h = by s.holds refl
  where
    by : (b : Bool) → s.holds ≡ b → s.holds ≡ false
    by true is = absurd (none-some (shape s e) (sym h ∙ ap (λ b. if b then Some (shape s e) else None) is))
    by false is = is

-- nothing that is kept goes where nothing goes
pub held_idle : (c : Cut) → IsIdle (memory_of c.entries) → IsIdle (held_in c)
held_idle c idle k e h =
    let (f, there, on, same) = held_from c.standings.items (memory_of c.entries) k e h in
    ap (λ (x : Info). x.going) (sym same) ∙ idle k f there

-- traces that go by the edges of one list, and then by those of the other
module _ {stamps : ℕ → Option ℕ} where
  pub untraces_none : (ss ts : List Standing) → ((k : ℕ) → (standing_of ts k).traced ≡ (standing_of ss k).traced) → Untraces [] stamps ss ts
  untraces_none ss ts same = record {
    fewer = λ k on. sym (same k) ∙ on;
    lost = λ x c. absurd (none_in x c);
    spared = λ k on. inl (same k ∙ on);
  }

  pub untraces_then : {xs ys : List Edge} {ss ts us : List Standing} → Untraces xs stamps ss ts → Untraces ys stamps ts us → Untraces (xs ++ ys) stamps ss us
  untraces_then {xs} {ys} {ss} {ts} {us} a b = record {
    fewer = λ k on. a.fewer k (b.fewer k on);
    lost = λ x c there. elim (Contains-append_cases xs ys x c) [
      | inl d ↦ elim (cases_Bool (standing_of us x.slot).traced) [
        | inl on ↦ absurd (true≢false (sym (b.fewer x.slot on) ∙ a.lost x d there))
        | inr off ↦ off
      ]
      | inr d ↦ b.lost x d there
    ];
    spared = λ k on. elim (a.spared k on) [
      | inl still ↦ elim (b.spared k still) [
        | inl left ↦ inl left
        | inr (x, c, at, there) ↦ inr (x, Contains-append_right xs ys x c, at, there)
      ]
      | inr (x, c, at, there) ↦ inr (x, Contains-append_left xs ys x c, at, there)
    ];
  }

-- What two have that are the same but for marks of what is kept, and traces.
module _ (a b : Cut) (same : aside_cut b ≡ aside_cut a) where
  abbrev aside : (o n : Option Info) → Option Info
  aside o n = elim o [ None ↦ n | Some e ↦ option_map unmarked n ]

  beside_is : (k : ℕ) → aside (held_in b k) (memory_of b.entries k) ≡ aside (held_in a k) (memory_of a.entries k)
  beside_is k = ap (λ (x : Aside). x.entries k) same

  unmarked_aside : (o n : Option Info) → option_map unmarked (aside o n) ≡ option_map unmarked n
  unmarked_aside None n = refl
  unmarked_aside (Some e) n = twice n

  pub entries_aside : (k : ℕ) → option_map unmarked (memory_of b.entries k) ≡ option_map unmarked (memory_of a.entries k)
  entries_aside k = sym (unmarked_aside (held_in b k) (memory_of b.entries k)) ∙ ap (option_map unmarked) (beside_is k) ∙ unmarked_aside (held_in a k) (memory_of a.entries k)

  pub quiet_aside : IsQuiet a.standings.items (memory_of a.entries) → IsQuiet b.standings.items (memory_of b.entries)
  quiet_aside q k e there none = by (held_in a k) refl (sym (beside_is k) ∙ ap (λ o. aside o (memory_of b.entries k)) none ∙ there)
    where
      marked : (o : Option Info) → option_map unmarked o ≡ Some e → e.going ≡ false
      marked None h = absurd (none-some e h)
      marked (Some f) h = ap (λ (x : Info). x.going) (sym (same_Some (unmarked f) e h))

      by : (o : Option Info) → held_in a k ≡ o → aside (held_in a k) (memory_of a.entries k) ≡ Some e → e.going ≡ false
      by None is h = q k e (sym (ap (λ o. aside o (memory_of a.entries k)) is) ∙ h) is
      by (Some f) is h = marked (memory_of a.entries k) (sym (ap (λ o. aside o (memory_of a.entries k)) is) ∙ h)

-- numbers are the same but for marks
pub stamps_past : (m n : Memory) → ((k : ℕ) → option_map unmarked (n k) ≡ option_map unmarked (m k)) → stamps_of n ≡ stamps_of m
stamps_past m n same i k = (sym (still (n k)) ∙ ap stamp_in (same k) ∙ still (m k)) i
  where
    still : (o : Option Info) → stamp_in (option_map unmarked o) ≡ stamp_in o
    still None = refl
    still (Some e) = refl

-- those of two lists
value_both : (l : Loss) (xs ys : List Edge) → of_value l (xs ++ ys) ≡ of_value l xs ++ of_value l ys
value_both loss.Trace xs ys = refl
value_both loss.Value xs ys = refl
value_both loss.Both xs ys = refl

trace_both : (l : Loss) (xs ys : List Edge) → of_trace l xs ++ of_trace l ys ≡ of_trace l (xs ++ ys)
trace_both loss.Trace xs ys = refl
trace_both loss.Value xs ys = refl
trace_both loss.Both xs ys = refl

-- no edge was gone over
pub over_none : (l : Loss) (first : Option ℕ) (c : Cut) → GoesOver l [] first c first c
over_none l first c = record {
  works = λ m start left w. subst (λ xs. Work m start (xs ++ left) first (held_in c)) (no_value l) w;
  traces = subst (λ xs. Untraces xs (stamps_of (memory_of c.entries)) c.standings.items c.standings.items) (no_trace l) (untraces_none c.standings.items c.standings.items (λ k. refl));
  aside = refl;
}
  where
    no_value : (l : Loss) → of_value l [] ≡ []
    no_value loss.Trace = refl
    no_value loss.Value = refl
    no_value loss.Both = refl

    no_trace : (l : Loss) → [] ≡ of_trace l []
    no_trace loss.Trace = refl
    no_trace loss.Value = refl
    no_trace loss.Both = refl

traces_both : (us vs : List Edge) (a b c : Cut) → aside_cut b ≡ aside_cut a → Untraces us (stamps_of (memory_of a.entries)) a.standings.items b.standings.items
    → Untraces vs (stamps_of (memory_of b.entries)) b.standings.items c.standings.items → Untraces (us ++ vs) (stamps_of (memory_of a.entries)) a.standings.items c.standings.items
traces_both us vs a b c same one two = untraces_then one
    (subst (λ s. Untraces vs s b.standings.items c.standings.items) (stamps_past (memory_of a.entries) (memory_of b.entries) (entries_aside a b same)) two)

-- some edges, and then others
pub over_then : (l : Loss) {xs ys : List Edge} {first mid last : Option ℕ} {a b c : Cut} → GoesOver l xs first a mid b → GoesOver l ys mid b last c → GoesOver l (xs ++ ys) first a last c
over_then l {xs} {ys} {first} {a = a} {b = b} {c = c} one two = record {
  works = λ m start left w. two.works m start left (one.works m start (of_value l ys ++ left)
      (subst (λ zs. Work m start zs first (held_in a)) (ap (λ zs. zs ++ left) (value_both l xs ys) ∙ append_assoc (of_value l xs) (of_value l ys) left) w));
  traces = subst (λ zs. Untraces zs (stamps_of (memory_of a.entries)) a.standings.items c.standings.items) (trace_both l xs ys)
      (traces_both (of_trace l xs) (of_trace l ys) a b c one.aside one.traces two.traces);
  aside = two.aside ∙ one.aside;
}

-- first the traces, and then the values
pub over_both : {xs : List Edge} {first last : Option ℕ} {a b c : Cut} → GoesOver loss.Trace xs first a first b → GoesOver loss.Value xs first b last c → GoesOver loss.Both xs first a last c
over_both {xs} {a = a} {b = b} {c = c} one two = record {
  works = λ m start left w. two.works m start left (one.works m start (xs ++ left) w);
  traces = subst (λ zs. Untraces zs (stamps_of (memory_of a.entries)) a.standings.items c.standings.items) (append-nil xs) (traces_both xs [] a b c one.aside one.traces two.traces);
  aside = two.aside ∙ one.aside;
}

-- one edge takes a mark
module _ (x : Edge) (first later : Option ℕ) (a : Cut) where
  pub over_mark : (t : Table) → ((k : ℕ) → held a.standings.items (memory_of t) k ≡ dooms x first (held_in a) k) → later ≡ first_after x first (held_in a)
      → aside_cut (record a { entries = t }) ≡ aside_cut a → GoesOver loss.Value (x ∷ []) first a later (record a { entries = t })
  over_mark t written is same = record {
    works = λ m start left w. dooming w written is;
    traces = untraces_none a.standings.items a.standings.items (λ k. refl);
    aside = same;
  }

-- one edge takes a trace
module _ (x : Edge) (a : Cut) where
  tells : (o : Option Info) → stamp_in o ≡ Some x.stamp → (elim o as (λ _. Bool) [ None ↦ false | Some e ↦ nat_eq e.stamp x.stamp ]) ≡ true
  tells None h = absurd (none-some x.stamp h)
  tells (Some e) h = eq-eqb e.stamp x.stamp (same_Some e.stamp x.stamp h)

  told : (o : Option Info) → (elim o as (λ _. Bool) [ None ↦ false | Some e ↦ nat_eq e.stamp x.stamp ]) ≡ true → stamp_in o ≡ Some x.stamp
  told None h = absurd (true≢false (sym h))
  told (Some e) h = ap Some (eqb-true e.stamp x.stamp h)

  its : (y : Edge) → Contains (x ∷ []) y → x ≡ y
  its y c = elim (Contains-cons_cases x y [] c) [ inl same ↦ same | inr d ↦ absurd (none_in y d) ]

  module _ (first : Option ℕ) where
    -- that tells of nothing
    pub over_other : is_current (memory_of a.entries) x ≡ false → GoesOver loss.Trace (x ∷ []) first a first a
    over_other off = record {
      works = λ m start left w. w;
      traces = record {
        fewer = λ k on. on;
        lost = λ y c there. absurd (true≢false (sym (tells (memory_of a.entries x.slot)
            (subst (λ (z : Edge). stamps_of (memory_of a.entries) z.slot ≡ Some z.stamp) (sym (its y c)) there)) ∙ off));
        spared = λ k on. inl on;
      };
      aside = refl;
    }

    pub over_trace : (v : Vec Standing) → is_current (memory_of a.entries) x ≡ true → IsChanged untraced x.slot a.standings.items v.items
        → length v.items ≡ length a.standings.items → held_among v.items ≡ held_among a.standings.items
        → GoesOver loss.Trace (x ∷ []) first a first (record a { standings = v })
    over_trace v on from room count = record {
      works = λ m start left w. subst (Work m start left first) (sym later_same) w;
      traces = record {
        fewer = λ k h. was k (nat_eq k x.slot) (ap (λ (s : Standing). s.traced) (sym (from k)) ∙ h);
        lost = λ y c there. subst (λ (z : Edge). (standing_of v.items z.slot).traced ≡ false) (its y c)
            (ap (λ (s : Standing). s.traced) (from x.slot ∙ ap (λ b. if b then untraced (standing_of a.standings.items x.slot) else standing_of a.standings.items x.slot) (eq-eqb x.slot x.slot refl)));
        spared = λ k h. elim (cases_eq k x.slot) [
          | inl same ↦ inr (x, head_of x [], sym same, told (memory_of a.entries x.slot) on)
          | inr differs ↦ inl (ap (λ (s : Standing). s.traced) (from k ∙ ap (λ b. if b then untraced (standing_of a.standings.items k) else standing_of a.standings.items k) (ne_eqb k x.slot differs)) ∙ h)
        ];
      };
      aside = λ i. record {
        len = table_len a.entries;
        entries = λ k. elim (option_and_then (shown (stands k i)) (memory_of a.entries k)) as (λ _. Option Info) [ None ↦ memory_of a.entries k | Some e ↦ option_map unmarked (memory_of a.entries k) ];
        standings = λ k. stands k i;
        room = room i;
        count = count i;
      };
    }
      where
        stands : (k : ℕ) → untraced (standing_of v.items k) ≡ untraced (standing_of a.standings.items k)
        stands k = ap untraced (from k) ∙ by (nat_eq k x.slot)
          where
            by : (b : Bool) → untraced (if b then untraced (standing_of a.standings.items k) else standing_of a.standings.items k) ≡ untraced (standing_of a.standings.items k)
            by true = refl
            by false = refl

        later_same : held v.items (memory_of a.entries) ≡ held_in a
        later_same i k = option_and_then (shown (stands k i)) (memory_of a.entries k)

        was : (k : ℕ) (b : Bool) → (if b then untraced (standing_of a.standings.items k) else standing_of a.standings.items k).traced ≡ true → (standing_of a.standings.items k).traced ≡ true
        was k true h = absurd (true≢false (sym h))
        was k false h = h

-- Users of an entry that isn't kept are taken out, gone over, and given back.
module _ (l : Loss) (slot : ℕ) (us : List Edge) (first later : Option ℕ) (a : Cut) (t : Table) (b : Cut)
    (there : IsSome (memory_of a.entries slot)) (hidden : held_in a slot ≡ None) (had : us ≡ users_at (memory_of a.entries) slot)
    (out : (k : ℕ) → memory_of t k ≡ reused slot [] (memory_of a.entries) k) (shorn : table_len t ≡ table_len a.entries)
    (over : GoesOver l us first (record a { entries = t }) later b) where
  abbrev pub m0 : Memory
  m0 k = memory_of a.entries k

  abbrev pub m2 : Memory
  m2 k = memory_of b.entries k

  off : (standing_of a.standings.items slot).holds ≡ false
  off = not_shown (standing_of a.standings.items slot) (m0 slot) there hidden

  off_after : (standing_of b.standings.items slot).holds ≡ false
  off_after = ap (λ (x : Aside). (x.standings slot).holds) over.aside ∙ off

  reused_there : (vs : List Edge) (m n : Memory) → ((k : ℕ) → n k ≡ reused slot vs m k) → n slot ≡ option_map (with_users vs) (m slot)
  reused_there vs m n is = is slot ∙ ap (λ b. if b then option_map (with_users vs) (m slot) else m slot) (eq-eqb slot slot refl)

  reused_else : (vs : List Edge) (m n : Memory) → ((k : ℕ) → n k ≡ reused slot vs m k) → (k : ℕ) → (k ≡ slot → ⊥) → n k ≡ m k
  reused_else vs m n is k differs = is k ∙ ap (λ b. if b then option_map (with_users vs) (m k) else m k) (ne_eqb k slot differs)

  held_reused : (ss : List Standing) (vs : List Edge) (m n : Memory) → (standing_of ss slot).holds ≡ false → ((k : ℕ) → n k ≡ reused slot vs m k) → held ss n ≡ held ss m
  held_reused ss vs m n none is i k = by k (cases_eq k slot) i
    where
      by : (k : ℕ) → (k ≡ slot) ⊎ (k ≡ slot → ⊥) → held ss n k ≡ held ss m k
      by k (inl same) = subst (λ k. held ss n k ≡ held ss m k) (sym same) (held_off ss n slot none ∙ sym (held_off ss m slot none))
      by k (inr differs) = ap (option_and_then (shown (standing_of ss k))) (reused_else vs m n is k differs)

  beside_off : (ss : List Standing) (m : Memory) → (standing_of ss slot).holds ≡ false → beside ss m slot ≡ m slot
  beside_off ss m none = ap (λ (o : Option Info). elim o as (λ _. Option Info) [ None ↦ m slot | Some e ↦ option_map unmarked (m slot) ]) (held_off ss m slot none)

  at_slot : m2 slot ≡ option_map (with_users []) (m0 slot)
  at_slot = sym (beside_off b.standings.items m2 off_after) ∙ ap (λ (x : Aside). x.entries slot) over.aside ∙ beside_off a.standings.items (memory_of t) off ∙ reused_there [] m0 (memory_of t) out

  pub still_there : IsSome (m2 slot)
  still_there = subst IsSome (sym at_slot) (some (m0 slot) there)
    where
      some : (o : Option Info) → IsSome o → IsSome (option_map (with_users []) o)
      some None h = h
      some (Some e) h = refl

  module _ (u : Table) (back : (k : ℕ) → memory_of u k ≡ reused slot us m2 k) (again : table_len u ≡ table_len b.entries) where
    given_back : memory_of u slot ≡ m0 slot
    given_back = reused_there us m2 (memory_of u) back ∙ ap (option_map (with_users us)) at_slot ∙ by (m0 slot) refl
      where
        by : (o : Option Info) → m0 slot ≡ o → option_map (with_users us) (option_map (with_users []) o) ≡ o
        by None is = refl
        by (Some e) is = ap (λ (vs : List Edge). Some (record e { users = vs })) (had ∙ ap (λ (o : Option Info). elim o as (λ _. List Edge) [ None ↦ [] | Some e ↦ e.users ]) is)

    beside_back : (k : ℕ) → beside b.standings.items (memory_of u) k ≡ beside a.standings.items m0 k
    beside_back k = elim (cases_eq k slot) [
      | inl same ↦ subst (λ k. beside b.standings.items (memory_of u) k ≡ beside a.standings.items m0 k) (sym same)
          (beside_off b.standings.items (memory_of u) off_after ∙ given_back ∙ sym (beside_off a.standings.items m0 off))
      | inr differs ↦ aside_at b.standings.items k (memory_of u k) (m2 k) (reused_else us m2 (memory_of u) back k differs) ∙ ap (λ (x : Aside). x.entries k) over.aside ∙ aside_at a.standings.items k (memory_of t k) (m0 k) (reused_else [] m0 (memory_of t) out k differs)
    ]
      where
        aside_at : (ss : List Standing) (k : ℕ) (o n : Option Info) → o ≡ n
            → (elim (option_and_then (shown (standing_of ss k)) o) as (λ _. Option Info) [ None ↦ o | Some e ↦ option_map unmarked o ])
            ≡ (elim (option_and_then (shown (standing_of ss k)) n) as (λ _. Option Info) [ None ↦ n | Some e ↦ option_map unmarked n ])
        aside_at ss k o n same = ap (λ (o : Option Info). elim (option_and_then (shown (standing_of ss k)) o) as (λ _. Option Info) [ None ↦ o | Some e ↦ option_map unmarked o ]) same

    pub over_users : GoesOver l (users_at m0 slot) first a later (record b { entries = u })
    over_users = subst (λ es. GoesOver l es first a later (record b { entries = u })) had (record {
      works = λ m start left w.
          subst (Work m start left later) (sym (held_reused b.standings.items us m2 (memory_of u) off_after back))
          (over.works m start left (subst (Work m start (of_value l us ++ left) first) (sym (held_reused a.standings.items [] m0 (memory_of t) off out)) w));
      traces = subst (λ s. Untraces (of_trace l us) s a.standings.items b.standings.items) (λ i k. stamp_same k i) over.traces;
      aside = λ i. record {
        len = (again ∙ ap (λ (x : Aside). x.len) over.aside ∙ shorn) i;
        entries = λ k. beside_back k i;
        standings = λ k. (over.aside i).standings k;
        room = (over.aside i).room;
        count = (over.aside i).count;
      };
    })
      where
        stamp_same : (k : ℕ) → stamps_of (memory_of t) k ≡ stamps_of m0 k
        stamp_same k = ap stamp_in (out k) ∙ by (nat_eq k slot) (m0 k)
          where
            by : (b : Bool) (o : Option Info) → stamp_in (if b then option_map (with_users []) o else o) ≡ stamp_in o
            by true None = refl
            by true (Some e) = refl
            by false o = refl

-- the first one that goes is taken out
pub taken_so : {old m later : Memory} {start : List Edge} {s : ℕ} → Work old start [] (Some s) m → later s ≡ None → ((k : ℕ) → (k ≡ s → ⊥) → later k ≡ m k) → (e : Info) → m s ≡ Some e
    → (us : List Edge) → e.users ≡ us → (next : Option ℕ) → e.next ≡ next → Work old start us next later
taken_so {old} {m} {later} {start} {s} w gone others e there us users_are next next_is =
    subst (λ us. Work old start us next later) users_are (subst (λ n. Work old start e.users n later) next_is (taken w gone others e there))

-- one step behind another
pub passes_both : {a b c : Cut} → Passes a b → Passes b c → Passes a c
passes_both {a} {b} {c} one two = record {
  entries = λ k. two.entries k ∙ one.entries k;
  traces = untraces_then one.traces (subst (λ s. Untraces [] s b.standings.items c.standings.items) (stamps_past (memory_of a.entries) (memory_of b.entries) one.entries) two.traces);
  quiet = λ q. two.quiet (one.quiet q);
}

-- nothing is done, or what is in the slots is the same
pub passes_on : (a : Cut) → Passes a a
passes_on a = record { entries = λ k. refl; traces = untraces_none a.standings.items a.standings.items (λ k. refl); quiet = λ q. q }

pub passes_same : (a : Cut) (t : Table) → ((k : ℕ) → memory_of t k ≡ memory_of a.entries k) → Passes a (record a { entries = t })
passes_same a t same = record {
  entries = λ k. ap (option_map unmarked) (same k);
  traces = untraces_none a.standings.items a.standings.items (λ k. refl);
  quiet = subst (IsQuiet a.standings.items) (λ i k. sym (same k) i);
}

-- edges by which no trace goes
pub passes_over : {xs : List Edge} {first later : Option ℕ} {a b : Cut} → GoesOver loss.Value xs first a later b → Passes a b
passes_over {a = a} {b = b} over = record { entries = entries_aside a b over.aside; traces = over.traces; quiet = quiet_aside a b over.aside }

-- what is in one slot isn't kept any more
module _ (ss ts : List Standing) (m n : Memory) (slot : ℕ) (from : IsChanged unheld slot ss ts) (written : (k : ℕ) → n k ≡ (if nat_eq k slot then option_map unmarked (m k) else m k)) where
  stands_there : standing_of ts slot ≡ unheld (standing_of ss slot)
  stands_there = from slot ∙ ap (λ b. if b then unheld (standing_of ss slot) else standing_of ss slot) (eq-eqb slot slot refl)

  stands_else : (k : ℕ) → (k ≡ slot → ⊥) → standing_of ts k ≡ standing_of ss k
  stands_else k differs = from k ∙ ap (λ b. if b then unheld (standing_of ss k) else standing_of ss k) (ne_eqb k slot differs)

  is_there : n slot ≡ option_map unmarked (m slot)
  is_there = written slot ∙ ap (λ b. if b then option_map unmarked (m slot) else m slot) (eq-eqb slot slot refl)

  is_else : (k : ℕ) → (k ≡ slot → ⊥) → n k ≡ m k
  is_else k differs = written k ∙ ap (λ b. if b then option_map unmarked (m k) else m k) (ne_eqb k slot differs)

  pub hidden : held ts n slot ≡ None
  hidden = held_off ts n slot (ap (λ (s : Standing). s.holds) stands_there)

  pub others_seen : (k : ℕ) → (k ≡ slot → ⊥) → held ts n k ≡ held ss m k
  others_seen k differs = ap (λ s. option_and_then (shown s) (n k)) (stands_else k differs) ∙ ap (option_and_then (shown (standing_of ss k))) (is_else k differs)

  pub entries_hidden : (k : ℕ) → option_map unmarked (n k) ≡ option_map unmarked (m k)
  entries_hidden k = elim (cases_eq k slot) [
    | inl same ↦ subst (λ k. option_map unmarked (n k) ≡ option_map unmarked (m k)) (sym same) (ap (option_map unmarked) is_there ∙ twice (m slot))
    | inr differs ↦ ap (option_map unmarked) (is_else k differs)
  ]

  pub traces_hidden : Untraces [] (stamps_of m) ss ts
  traces_hidden = untraces_none ss ts (λ k. ap (λ (s : Standing). s.traced) (from k) ∙ by k (nat_eq k slot))
    where
      by : (k : ℕ) (b : Bool) → (if b then unheld (standing_of ss k) else standing_of ss k).traced ≡ (standing_of ss k).traced
      by k true = refl
      by k false = refl

  pub quiet_hidden : IsQuiet ss m → IsQuiet ts n
  quiet_hidden q k e there none = elim (cases_eq k slot) [
    | inl same ↦ idle_there (m slot) (sym is_there ∙ ap n (sym same) ∙ there)
    | inr differs ↦ q k e (sym (is_else k differs) ∙ there) (sym (others_seen k differs) ∙ none)
  ]
    where
      idle_there : (o : Option Info) → option_map unmarked o ≡ Some e → e.going ≡ false
      idle_there None h = absurd (none-some e h)
      idle_there (Some f) h = ap (λ (x : Info). x.going) (sym (same_Some (unmarked f) e h))

-- the users that are seen of an entry
pub its_users : (ss : List Standing) (m : Memory) (k : ℕ) (e : Info) → held ss m k ≡ Some e → e.users ≡ users_at m k
its_users ss m k e h =
    let (f, there, on, same) = held_from ss m k e h in
    ap (λ (x : Info). x.users) (sym same) ∙ sym (ap (λ (o : Option Info). elim o as (λ _. List Edge) [ None ↦ [] | Some e ↦ e.users ]) there)

-- users are the same but for marks
pub users_past : (m n : Memory) (k : ℕ) → option_map unmarked (n k) ≡ option_map unmarked (m k) → users_at n k ≡ users_at m k
users_past m n k same = sym (users_in (n k)) ∙ ap (λ (o : Option Info). elim o as (λ _. List Edge) [ None ↦ [] | Some e ↦ e.users ]) same ∙ users_in (m k)
  where
    users_in : (o : Option Info) → (elim (option_map unmarked o) as (λ _. List Edge) [ None ↦ [] | Some e ↦ e.users ]) ≡ (elim o as (λ _. List Edge) [ None ↦ [] | Some e ↦ e.users ])
    users_in None = refl
    users_in (Some e) = refl

pub there_past : (m n : Memory) (k : ℕ) → option_map unmarked (n k) ≡ option_map unmarked (m k) → IsSome (m k) → IsSome (n k)
there_past m n k same h = some (n k) (subst IsSome (sym same) (marked (m k) h))
  where
    marked : (o : Option Info) → IsSome o → IsSome (option_map unmarked o)
    marked None h = h
    marked (Some e) h = refl

    some : (o : Option Info) → IsSome (option_map unmarked o) → IsSome o
    some None h = h
    some (Some e) h = refl

-- what is kept is there
pub mark_there : (ss : List Standing) (m : Memory) (k : ℕ) (mark : Mark) → HasMark (held ss m k) mark → IsSome (m k)
mark_there ss m k mark (e, h, going, next) = let (f, there, on, same) = held_from ss m k e h in subst IsSome (sym there) refl

-- a mark of an entry that is kept
pub mark_seen : (ss : List Standing) (m : Memory) (k : ℕ) (mark : Mark) → (standing_of ss k).holds ≡ true → HasMark (m k) mark → HasMark (held ss m k) mark
mark_seen ss m k mark on (e, h, going, next) = (shape (standing_of ss k) e, held_on ss m k e h on, going, next)

-- Where nothing goes any more all is as it was but for how it stands.
module _ (a b : Cut) (entries : (k : ℕ) → option_map unmarked (memory_of b.entries k) ≡ option_map unmarked (memory_of a.entries k))
    (quiet : IsQuiet a.standings.items (memory_of a.entries) → IsQuiet b.standings.items (memory_of b.entries)) (idle : IsIdle (memory_of a.entries))
    (none_goes : (k : ℕ) (e : Info) → held_in b k ≡ Some e → e.going ≡ true → ⊥) where
  idle_after : IsIdle (memory_of b.entries)
  idle_after k e there = by (held_in b k) refl
    where
      by : (o : Option Info) → held_in b k ≡ o → e.going ≡ false
      by None is = quiet (λ k e there none. idle k e there) k e there is
      by (Some f) is = elim (cases_Bool e.going) [
        | inl on ↦
            let (g, found, holds, same) = held_from b.standings.items (memory_of b.entries) k f is in
            absurd (none_goes k f is (ap (λ (x : Info). x.going) (sym same) ∙ ap (λ (x : Info). x.going) (same_Some g e (sym found ∙ there)) ∙ on))
        | inr stays ↦ stays
      ]

  pub entries_after : (k : ℕ) → memory_of b.entries k ≡ memory_of a.entries k
  entries_after k = by (memory_of b.entries k) refl (memory_of a.entries k) refl (entries k)
    where
      whole : (e : Info) → e.going ≡ false → e.next ≡ None → unmarked e ≡ e
      whole e going next = ap (λ (b : Bool). record e { going = b; next = None }) (sym going) ∙ ap (λ (o : Option ℕ). record e { next = o }) (sym next)

      by : (n : Option Info) → memory_of b.entries k ≡ n → (m : Option Info) → memory_of a.entries k ≡ m → option_map unmarked (memory_of b.entries k) ≡ option_map unmarked (memory_of a.entries k)
          → memory_of b.entries k ≡ memory_of a.entries k
      by None at_n None at_m same = at_n ∙ sym at_m
      by None at_n (Some f) at_m same = absurd (none-some (unmarked f) (sym (ap (option_map unmarked) at_n) ∙ same ∙ ap (option_map unmarked) at_m))
      by (Some e) at_n None at_m same = absurd (none-some (unmarked e) (sym (ap (option_map unmarked) at_m) ∙ sym same ∙ ap (option_map unmarked) at_n))
      by (Some e) at_n (Some f) at_m same =
          let alike : Some (unmarked e) ≡ Some (unmarked f) = sym (ap (option_map unmarked) at_n) ∙ same ∙ ap (option_map unmarked) at_m in
          let e_idle = idle_after k e at_n in
          let f_idle = idle k f at_m in
          at_n ∙ ap Some (sym (whole e e_idle (resting b.entries k e at_n e_idle)) ∙ same_Some (unmarked e) (unmarked f) alike ∙ whole f f_idle (resting a.entries k f at_m f_idle)) ∙ sym at_m

-- what an edit has taken away where it has come to its end
pub takes_away : (says : Location ℕ → Bool → Type 0) (lists : Location ℕ → List Edge) (a b c : Cut) (start : List Edge) (first : Option ℕ) → Begins says lists start
    → GoesOver loss.Both start None a first b → ((old : Memory) (start : List Edge) → Work old start [] first (held_in b) → Work old start [] None (held_in c)) → Passes b c
    → IsIdle (memory_of a.entries) → TakesAway says lists a.standings.items (memory_of a.entries) c.standings.items (memory_of c.entries)
takes_away says lists a b c start first begins over works passes idle =
    let w : Work (held_in a) start [] None (held_in c) = works (held_in a) start (over.works (held_in a) start []
    (subst (λ xs. Work (held_in a) start xs None (held_in a)) (sym (append-nil start)) (more start (begun (held_in a) (held_idle a idle))))) in
    record {
      start = start;
      begins = begins;
      works = w;
      traces = subst (λ xs. Untraces xs (stamps_of (memory_of a.entries)) a.standings.items c.standings.items) (append-nil start) (untraces_then over.traces
          (subst (λ s. Untraces [] s b.standings.items c.standings.items) (stamps_past (memory_of a.entries) (memory_of b.entries) (entries_aside a b over.aside)) passes.traces));
      entries = entries_after a c (λ k. passes.entries k ∙ entries_aside a b over.aside k) (λ q. passes.quiet (quiet_aside a b over.aside q)) idle (none_goes w);
    }
