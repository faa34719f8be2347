-- Groups of instances that are solved together: what their equations used comes to a find.
use Rattle.std.proofs.Common.{◌≡◌, ◌⊎◌, ◌<◌, ◌+◌, ℕ, Bool, zero, suc, List, [], ◌∷◌, ◌++◌, get_or, length, slice_get, take, Option, Some, None, Result, Ok, Err, OnOk, inl, inr, refl, sym, ap, ◌∙◌, subst, arith}
use Rattle.std.proofs.lemmas.Option.{same_Some}
use Rattle.std.proofs.lemmas.List.{take_more}
use Rattle.std.specs.Borrow.{Bor}
use Rattle.std.specs.Map.{lookup}
use Rattle.std.specs.Prelude.{IfNone, IfSome, IsSome}
use Rattle.at_model.specs.Run.{Instance}
use Rattle.at_model.specs.Meaning.{Among}
use Rattle.at_model.specs.of_fixpoints.Fixpoints.{Made}
use Rattle.at_model.specs.of_fixpoints.Formulas.{Formula, atoms}
use Rattle.at_model.proofs.Listed.{among_left, among_right}
use Rattle.at_model.proofs.Members.{among_either, among_last, among_push}
use Rattle.at_store.specs.declared.node.Loc.{Loc}
use Rattle.at_body.specs.Pieces.{asked, stacked}
use Rattle.at_body.specs.Same.{same_instance}
use Rattle.at_body.specs.declared.formula.Piece.{Piece}
use Rattle.at_body.specs.declared.formula.Piece.TheVariants as piece
use Rattle.at_body.specs.declared.value.Value.TheVariants as value
use Rattle.at_body.proofs.Piled.{in_order}
use Rattle.at_cache.specs.Kept.{Entries}
use Rattle.at_search.specs.Recorded.{IsRecordedForm, Recorded, end_of}
use Rattle.at_search.specs.declared.ended.Ended.{Ended}
use Rattle.at_search.specs.declared.ended.Ending.TheVariants as ending
use Rattle.at_search.specs.declared.ended.Formed.{Formed}
use Rattle.at_search.specs.declared.solving.Solved.{Solved}
use Rattle.at_demand.specs.declared.evaluation.Demanded.{Demanded}
use Rattle.at_demand.specs.declared.evaluation.Find.{Find}
use Rattle.at_demand.specs.declared.question.Question.{Question}
use Rattle.at_demand.specs.Covering.{IsDemanded}
use Rattle.at_demand.specs.Groups.{AddsAll, AddsAtoms, AddsMember, AddsUse, AddsUses, HasMember, IsFindOf, IsFormedAt, IsMember, IsOnlyOf, RestsOn}
use Rattle.at_evaluate.specs.Valued.{IsKept}
use Rattle.at_demand.specs.Levels.{IsUsed, known_to}
use Rattle.at_evaluate.proofs.Entered.{not_none}

-- what is read within a list stands there
pub get_at : {A : Type 0} (xs : List A) (p : ℕ) (a : A) → p < length xs → a ≡ get_or xs p a → slice_get xs p ≡ Some a
get_at [] p a less is = absurd (omega (arith, less))
get_at (x ∷ xs) zero a less is = ap Some (sym is)
get_at (x ∷ xs) (suc n) a less is = get_at xs n a (omega (arith, less)) is

-- the formula that is recorded of the instance is that at its position
pub formed_here : (ended : List (Instance ℕ × Ended)) (insts : List (Instance ℕ)) (p : ℕ) (i : Instance ℕ) (r : Option (Bor Formed)) → slice_get insts p ≡ Some i → IfSome r (λ f. IsRecordedForm ended i f.now) →
    IfNone r ((f : Formula ℕ) → Recorded ended i (Made f) → ⊥) → IsFormedAt ended insts p r
formed_here ended insts p i (Some f) at some none = (i, at, some)
formed_here ended insts p i None at some none = λ j f is rec.
    let same : i ≡ j = same_Some i j (sym at ∙ is) in
    let (x, there, e) = rec in
    none f.formula (subst (λ k. Recorded ended k (Made f.formula)) (sym same) (x, there, ap end_of e))

-- the pieces of a list behind another one ask for their instances behind its own
pub asked_behind : (ps qs : List Piece) → asked (ps ++ qs) ≡ asked ps ++ asked qs
asked_behind [] qs = refl
asked_behind (piece.Asks i ∷ ps) qs = ap (λ js. i ∷ js) (asked_behind ps qs)
asked_behind (piece.Known b ∷ ps) qs = asked_behind ps qs
asked_behind (piece.Both ∷ ps) qs = asked_behind ps qs
asked_behind (piece.Either ∷ ps) qs = asked_behind ps qs

-- two recordings of one equation are the same
same_form : (ended : List (Instance ℕ × Ended)) (i j : Instance ℕ) (d f : Formed) → i ≡ j → IsRecordedForm ended i d → IsRecordedForm ended j f → d ≡ f
same_form ended i j d f e (x, at, is) (y, at', is') =
    let one : x ≡ y = same_Some x y (sym at ∙ ap (λ (k : Instance ℕ). lookup (same_instance k) ended) e ∙ at') in
    let two : ending.Formed d ≡ ending.Formed f = sym is ∙ ap (λ (z : Ended). z.ending) one ∙ is' in
    cc

module _ (entries : Entries) (q : Question) where
  -- one use alone
  pub one_used : {E : Type 0} (j : Instance ℕ) (old new : Demanded) (r : Result (Unit {0}) E) → OnOk r (AddsUse entries q j old new) → OnOk r (AddsAll entries q (j ∷ []) old new)
  one_used j old new (Ok u) h = (new, h, refl)
  one_used j old new (Err e) h = tt

  uses_behind : (js ks : List (Instance ℕ)) (a b d : Demanded) → AddsAll entries q js a b → AddsAll entries q ks b d → AddsAll entries q (js ++ ks) a d
  uses_behind [] ks a b d same more = subst (λ (z : Demanded). AddsAll entries q ks z d) same more
  uses_behind (j ∷ js) ks a b d (mid, use', rest) more = (mid, use', uses_behind js ks mid b d rest more)

  -- one piece more
  pub atoms_more : (ps : List Piece) (n : ℕ) (p : Piece) (a b d : Demanded) → n < length ps → p ≡ get_or ps n p → AddsAtoms entries q (take n ps) a b → AddsAtoms entries q (p ∷ []) b d → AddsAtoms entries q (take (n + 1) ps) a d
  atoms_more ps n p a b d less is before more =
      let grows : take (n + 1) ps ≡ take n ps ++ p ∷ [] = take_more ps n p less ∙ ap (λ (x : Piece). take n ps ++ x ∷ []) (sym is) in
      let all : asked (take (n + 1) ps) ≡ asked (take n ps) ++ asked (p ∷ []) = ap asked grows ∙ asked_behind (take n ps) (p ∷ []) in
      subst (λ (js : List (Instance ℕ)). AddsAll entries q js a d) (sym all) (uses_behind (asked (take n ps)) (asked (p ∷ [])) a b d before more)

  -- what the equation read and used is added, with those of its formula that are known
  pub uses_added : {E : Type 0} (f : Formed) (old new : Find) (mid : Demanded) (ps : List Piece) (r : Result (Unit {0}) E) →
      new.value ≡ old.value → new.reads.items ≡ old.reads.items ++ f.reads.items →
      mid.kept.items ≡ old.demanded.kept.items ++ f.kept.items → mid.finds.items ≡ old.demanded.finds.items ++ f.finds.items →
      stacked [] ps ≡ f.formula ∷ [] → OnOk r (AddsAtoms entries q ps mid new.demanded) → OnOk r (AddsUses entries q f old new)
  uses_added f old new mid ps (Err e) v reads kept finds is h = tt
  uses_added f old new mid ps (Ok u) v reads kept finds is h = record {
    value = v;
    reads = reads;
    mid = mid;
    kept = kept;
    finds = finds;
    atoms = subst (λ (js : List (Instance ℕ)). AddsAll entries q js mid new.demanded) (sym (in_order ps f.formula is)) h;
  }

  -- what was demanded is so still
  use_stays : (j : Instance ℕ) (a b : Demanded) → AddsUse entries q j a b → (k : Instance ℕ) → IsDemanded q.found.entries a k → IsDemanded q.found.entries b k
  use_stays j a b (inl (here, kept, finds)) k (inl m) = inl (subst (Among k) (sym kept) (among_left k a.kept.items (j ∷ []) m))
  use_stays j a b (inl (here, kept, finds)) k (inr (p, g, m, is)) = inr (p, g, subst (Among p) (sym finds) m, is)
  use_stays j a b (inr (inl (p, f, at, kept, finds))) k (inl m) = inl (subst (Among k) (sym kept) m)
  use_stays j a b (inr (inl (p, f, at, kept, finds))) k (inr (n, g, m, is)) = inr (n, g, subst (Among n) (sym finds) (among_left n a.finds.items (p ∷ []) m), is)
  use_stays j a b (inr (inr (none, same))) k d = subst (λ (z : Demanded). IsDemanded q.found.entries z k) (sym same) d

  use_there : (j : Instance ℕ) (a b : Demanded) → AddsUse entries q j a b → IsSome (known_to entries q j) → IsDemanded q.found.entries b j
  use_there j a b (inl (here, kept, finds)) some = inl (subst (Among j) (sym kept) (among_last a.kept.items j))
  use_there j a b (inr (inl (p, f, at, kept, finds))) some = inr (p, f, subst (Among p) (sym finds) (among_last a.finds.items p), at)
  use_there j a b (inr (inr (none, same))) some = absurd (not_none (known_to entries q j) some none)

  all_stay : (js : List (Instance ℕ)) (a b : Demanded) → AddsAll entries q js a b → (k : Instance ℕ) → IsDemanded q.found.entries a k → IsDemanded q.found.entries b k
  all_stay [] a b same k d = subst (λ (z : Demanded). IsDemanded q.found.entries z k) (sym same) d
  all_stay (j ∷ js) a b (mid, use', rest) k d = all_stay js mid b rest k (use_stays j a mid use' k d)

  all_there : (js : List (Instance ℕ)) (a b : Demanded) → AddsAll entries q js a b → (k : Instance ℕ) → Among k js → IsSome (known_to entries q k) → IsDemanded q.found.entries b k
  all_there [] a b same k m some = absurd m
  all_there (j ∷ js) a b (mid, use', rest) k (inl e) some =
      let some' : IsSome (known_to entries q j) = subst (λ (z : Instance ℕ). IsSome (known_to entries q z)) e some in
      all_stay js mid b rest k (subst (IsDemanded q.found.entries mid) (sym e) (use_there j a mid use' some'))
  all_there (j ∷ js) a b (mid, use', rest) k (inr m) some = all_there js mid b rest k m some

  -- and nothing came but what is used
  use_kept : (j : Instance ℕ) (a b : Demanded) → AddsUse entries q j a b → (k : Instance ℕ) → Among k b.kept.items → Among k a.kept.items ⊎ (IsKept entries k × (k ≡ j))
  use_kept j a b (inl (here, kept, finds)) k m = elim (among_push a.kept.items k j (subst (Among k) kept m)) [
    | inl old ↦ inl old
    | inr e ↦ inr (subst (IsKept entries) (sym e) here, e)
  ]
  use_kept j a b (inr (inl (p, f, at, kept, finds))) k m = inl (subst (Among k) kept m)
  use_kept j a b (inr (inr (none, same))) k m = inl (subst (λ (z : Demanded). Among k z.kept.items) same m)

  use_finds : (j : Instance ℕ) (a b : Demanded) → AddsUse entries q j a b → (p : ℕ) → Among p b.finds.items →
      Among p a.finds.items ⊎ ((g : Find) × (slice_get q.found.entries p ≡ Some (j, g)))
  use_finds j a b (inl (here, kept, finds)) p m = inl (subst (Among p) finds m)
  use_finds j a b (inr (inl (n, f, at, kept, finds))) p m = elim (among_push a.finds.items p n (subst (Among p) finds m)) [
    | inl old ↦ inl old
    | inr e ↦ inr (f, subst (λ (z : ℕ). slice_get q.found.entries z ≡ Some (j, f)) (sym e) at)
  ]
  use_finds j a b (inr (inr (none, same))) p m = inl (subst (λ (z : Demanded). Among p z.finds.items) same m)

  all_kept : (js : List (Instance ℕ)) (a b : Demanded) → AddsAll entries q js a b → (k : Instance ℕ) → Among k b.kept.items → Among k a.kept.items ⊎ (IsKept entries k × Among k js)
  all_kept [] a b same k m = inl (subst (λ (z : Demanded). Among k z.kept.items) same m)
  all_kept (j ∷ js) a b (mid, use', rest) k m = elim (all_kept js mid b rest k m) [
    | inr (here, n) ↦ inr (here, inr n)
    | inl n ↦ elim (use_kept j a mid use' k n) [ inl old ↦ inl old | inr (here, e) ↦ inr (here, inl e) ]
  ]

  -- the find there is that of one of these
  abbrev IsFoundIn : List (Instance ℕ) → ℕ → Type 0
  IsFoundIn js p = (j : Instance ℕ) × (g : Find) × (slice_get q.found.entries p ≡ Some (j, g)) × Among j js

  all_finds : (js : List (Instance ℕ)) (a b : Demanded) → AddsAll entries q js a b → (p : ℕ) → Among p b.finds.items → Among p a.finds.items ⊎ IsFoundIn js p
  all_finds [] a b same p m = inl (subst (λ (z : Demanded). Among p z.finds.items) same m)
  all_finds (j ∷ js) a b (mid, use', rest) p m = elim (all_finds js mid b rest p m) [
    | inr (k, g, at, n) ↦ inr (k, g, at, inr n)
    | inl n ↦ elim (use_finds j a mid use' p n) [ inl old ↦ inl old | inr (g, at) ↦ inr (j, g, at, inl refl) ]
  ]

  abbrev OfReads : Loc → Formed → Type 0
  OfReads l d = Among l d.reads.items

  abbrev OfKept : Instance ℕ → Formed → Type 0
  OfKept j d = Among j d.kept.items ⊎ (IsKept entries j × Among j (atoms d.formula))

  abbrev OfFinds : ℕ → Formed → Type 0
  OfFinds p d = Among p d.finds.items ⊎ IsFoundIn (atoms d.formula) p

  module _ (insts : List (Instance ℕ)) where
    -- a member of a longer group
    member_left : (ms : List Solved) (m : Solved) (i : Instance ℕ) (b : Bool) → IsMember insts ms i b → IsMember insts (ms ++ m ∷ []) i b
    member_left ms m i b (n, a, at, is) = (n, among_left n ms (m ∷ []) a, at, is)

    member_last : (ms : List Solved) (m : Solved) (i : Instance ℕ) → slice_get insts m.position ≡ Some i → IsMember insts (ms ++ m ∷ []) i m.value
    member_last ms m i at = (m, among_last ms m, at, refl)

    member_cases : (ms : List Solved) (m : Solved) (i : Instance ℕ) (b : Bool) → IsMember insts (ms ++ m ∷ []) i b → IsMember insts ms i b ⊎ (slice_get insts m.position ≡ Some i)
    member_cases ms m i b (n, a, at, is) = elim (among_push ms n m a) [
      | inl old ↦ inl (n, old, at, is)
      | inr e ↦ inr (subst (λ (z : Solved). slice_get insts z.position ≡ Some i) e at)
    ]

    wider : (ms : List Solved) (m : Solved) (Is Also : Formed → Type 0) → ((d : Formed) → Is d → Also d) → HasMember q insts ms Is → HasMember q insts (ms ++ m ∷ []) Also
    wider ms m Is Also so (i, b, d, a, rec', is) = (i, b, d, member_left ms m i b a, rec', so d is)

    no_member : (i : Instance ℕ) (b : Bool) → IsMember insts [] i b → ⊥
    no_member i b (m, a, at, is) = a

    -- nothing was added yet
    pub rests_none : (f : Find) → RestsOn entries q insts [] f
    rests_none f = record { reads = λ i b d l a r h. absurd (no_member i b a); uses = λ i j b d a r h. absurd (no_member i b a) }

    pub only_none : (f : Find) → f.reads.items ≡ [] → f.demanded.kept.items ≡ [] → f.demanded.finds.items ≡ [] → IsOnlyOf entries q insts [] f
    only_none f reads kept finds = record {
      reads = λ l h. absurd (subst (Among l) reads h);
      kept = λ j h. absurd (subst (Among j) kept h);
      finds = λ p h. absurd (subst (Among p) finds h);
    }

    -- what the equation of one more member used
    module _ (ms : List Solved) (m : Solved) (old new : Find) where
      rests_used : (i : Instance ℕ) (f : Formed) → slice_get insts m.position ≡ Some i → IsRecordedForm q.ended.entries i f → AddsUses entries q f old new →
          RestsOn entries q insts ms old → RestsOn entries q insts (ms ++ m ∷ []) new
      rests_used i f at rec' u r = record {
        reads = λ j b d l a is h. elim (member_cases ms m j b a) [
          | inl before ↦ subst (Among l) (sym u.reads) (among_left l old.reads.items f.reads.items (r.reads j b d l before is h))
          | inr here ↦
              let e : d ≡ f = same_form q.ended.entries j i d f (same_Some j i (sym here ∙ at)) is rec' in
              subst (Among l) (sym u.reads) (among_right l old.reads.items f.reads.items (subst (λ (z : Formed). Among l z.reads.items) e h))
        ];
        uses = λ j k b d a is h. elim (member_cases ms m j b a) [
          | inl before ↦ on k (r.uses j k b d before is h)
          | inr here ↦
              let e : d ≡ f = same_form q.ended.entries j i d f (same_Some j i (sym here ∙ at)) is rec' in
              used k (subst (λ (z : Formed). IsUsed q.found.entries z k ⊎ (Among k (atoms z.formula) × IsSome (known_to entries q k))) e h)
        ];
      }
        where
          first : (k : Instance ℕ) → IsDemanded q.found.entries old.demanded k → IsDemanded q.found.entries u.mid k
          first k (inl x) = inl (subst (Among k) (sym u.kept) (among_left k old.demanded.kept.items f.kept.items x))
          first k (inr (p, g, x, is)) = inr (p, g, subst (Among p) (sym u.finds) (among_left p old.demanded.finds.items f.finds.items x), is)

          on : (k : Instance ℕ) → IsDemanded q.found.entries old.demanded k → IsDemanded q.found.entries new.demanded k
          on k x = all_stay (atoms f.formula) u.mid new.demanded u.atoms k (first k x)

          taken : (k : Instance ℕ) → IsUsed q.found.entries f k → IsDemanded q.found.entries u.mid k
          taken k (inl x) = inl (subst (Among k) (sym u.kept) (among_right k old.demanded.kept.items f.kept.items x))
          taken k (inr (p, g, x, is)) = inr (p, g, subst (Among p) (sym u.finds) (among_right p old.demanded.finds.items f.finds.items x), is)

          used : (k : Instance ℕ) → IsUsed q.found.entries f k ⊎ (Among k (atoms f.formula) × IsSome (known_to entries q k)) → IsDemanded q.found.entries new.demanded k
          used k (inl x) = all_stay (atoms f.formula) u.mid new.demanded u.atoms k (taken k x)
          used k (inr (x, some)) = all_there (atoms f.formula) u.mid new.demanded u.atoms k x some

      only_used : (i : Instance ℕ) (f : Formed) → slice_get insts m.position ≡ Some i → IsRecordedForm q.ended.entries i f → AddsUses entries q f old new →
          IsOnlyOf entries q insts ms old → IsOnlyOf entries q insts (ms ++ m ∷ []) new
      only_used i f at rec' u o = record {
        reads = λ l h. elim (among_either old.reads.items f.reads.items l (subst (Among l) u.reads h)) [
          | inl before ↦ wider ms m (OfReads l) (OfReads l) (λ d x. x) (o.reads l before)
          | inr x ↦ (i, m.value, f, member_last ms m i at, rec', x)
        ];
        kept = λ j h. elim (all_kept (atoms f.formula) u.mid new.demanded u.atoms j h) [
          | inr (here, x) ↦ (i, m.value, f, member_last ms m i at, rec', inr (here, x))
          | inl x ↦ elim (among_either old.demanded.kept.items f.kept.items j (subst (Among j) u.kept x)) [
            | inl before ↦ wider ms m (OfKept j) (OfKept j) (λ d y. y) (o.kept j before)
            | inr y ↦ (i, m.value, f, member_last ms m i at, rec', inl y)
          ]
        ];
        finds = λ p h. elim (all_finds (atoms f.formula) u.mid new.demanded u.atoms p h) [
          | inr (j, g, is, x) ↦ (i, m.value, f, member_last ms m i at, rec', inr (j, g, is, x))
          | inl x ↦ elim (among_either old.demanded.finds.items f.finds.items p (subst (Among p) u.finds x)) [
            | inl before ↦ wider ms m (OfFinds p) (OfFinds p) (λ d y. y) (o.finds p before)
            | inr y ↦ (i, m.value, f, member_last ms m i at, rec', inl y)
          ]
        ];
      }

      rests_same : ((i : Instance ℕ) (f : Formed) → slice_get insts m.position ≡ Some i → IsRecordedForm q.ended.entries i f → ⊥) → new ≡ old →
          RestsOn entries q insts ms old → RestsOn entries q insts (ms ++ m ∷ []) new
      rests_same none same r = subst (λ (z : Find). RestsOn entries q insts (ms ++ m ∷ []) z) (sym same) (record {
        reads = λ j b d l a is h. elim (member_cases ms m j b a) [ inl before ↦ r.reads j b d l before is h | inr here ↦ absurd (none j d here is) ];
        uses = λ j k b d a is h. elim (member_cases ms m j b a) [ inl before ↦ r.uses j k b d before is h | inr here ↦ absurd (none j d here is) ];
      })

      only_same : new ≡ old → IsOnlyOf entries q insts ms old → IsOnlyOf entries q insts (ms ++ m ∷ []) new
      only_same same o = subst (λ (z : Find). IsOnlyOf entries q insts (ms ++ m ∷ []) z) (sym same) (record {
        reads = λ l h. wider ms m (OfReads l) (OfReads l) (λ d x. x) (o.reads l h);
        kept = λ j h. wider ms m (OfKept j) (OfKept j) (λ d x. x) (o.kept j h);
        finds = λ p h. wider ms m (OfFinds p) (OfFinds p) (λ d x. x) (o.finds p h);
      })

      rests_member : AddsMember entries q insts m old new → RestsOn entries q insts ms old → RestsOn entries q insts (ms ++ m ∷ []) new
      rests_member (inl (i, f, at, rec', u)) r = rests_used i f at rec' u r
      rests_member (inr (none, same)) r = rests_same none same r

      only_member : AddsMember entries q insts m old new → IsOnlyOf entries q insts ms old → IsOnlyOf entries q insts (ms ++ m ∷ []) new
      only_member (inl (i, f, at, rec', u)) o = only_used i f at rec' u o
      only_member (inr (none, same)) o = only_same same o

      value_member : AddsMember entries q insts m old new → new.value ≡ old.value
      value_member (inl (i, f, at, rec', u)) = u.value
      value_member (inr (none, same)) = ap (λ (z : Find). z.value) same

    -- How far a find has come: its value stands, and it is that of so many members.
    pub record IsFindSoFar (ms : List Solved) (first now : Find) : Type 0 where
      pub value : now.value ≡ first.value
      pub rests : RestsOn entries q insts ms now
      pub only : IsOnlyOf entries q insts ms now

    pub find_none : (f : Find) → f.reads.items ≡ [] → f.demanded.kept.items ≡ [] → f.demanded.finds.items ≡ [] → IsFindSoFar [] f f
    find_none f reads kept finds = record { value = refl; rests = rests_none f; only = only_none f reads kept finds }

    pub find_more : (ms : List Solved) (n : ℕ) (d : Solved) (first old new : Find) → n < length ms → AddsMember entries q insts (get_or ms n d) old new →
        IsFindSoFar (take n ms) first old → IsFindSoFar (take (n + 1) ms) first new
    find_more ms n d first old new less adds x =
        let m : Solved = get_or ms n d in
        let grows : take (n + 1) ms ≡ take n ms ++ m ∷ [] = take_more ms n d less in
        subst (λ (z : List Solved). IsFindSoFar z first new) (sym grows) (record {
          value = value_member (take n ms) m old new adds ∙ x.value;
          rests = rests_member (take n ms) m old new adds x.rests;
          only = only_member (take n ms) m old new adds x.only;
        })

    pub find_all : (ms : List Solved) (b : Bool) (first now : Find) → first.value ≡ value.Bool b → IsFindSoFar ms first now → IsFindOf entries q insts ms b now
    find_all ms b first now is x = record { value = x.value ∙ is; rests = x.rests; only = x.only }

    -- the formula of a member comes to the find, or there is none
    pub member_formed : {E : Type 0} (m : Solved) (i : Instance ℕ) (f : Formed) (old new : Find) (r : Result (Unit {0}) E) →
        slice_get insts m.position ≡ Some i → IsRecordedForm q.ended.entries i f → OnOk r (AddsUses entries q f old new) → OnOk r (AddsMember entries q insts m old new)
    member_formed m i f old new (Ok u) at rec' adds = inl (i, f, at, rec', adds)
    member_formed m i f old new (Err e) at rec' adds = tt
