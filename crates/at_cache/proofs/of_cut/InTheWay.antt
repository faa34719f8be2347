-- How it is found what stands in the way of keeping an entry again.
use Rattle.at_cache.proofs.Common.{◌≡◌, inl, inr, ◌<◌, ◌+◌, ◌∷◌, [], ℕ, List, length, get_or, take, Bool, true, false, not, ◌&&◌, ◌||◌, Option, Some, None, IsSome, is_some, option_map, nat_eq, IfSome, Contains, refl, sym, ap, ◌∙◌, subst, true≢false, and_parts, not-false, not-true, same_Some, take_more, Contains-append_cases, Contains-append_left, Contains-append_right, Contains-cons_cases, list_any, lookup, get, Instance, Location, Value, same_instance, value_view, Edge, Entry, Standing, Table, Follows, IsFirstOpen, LeadsTo, is_known, is_valued, Info, Memory, info, memory_of, value_at, at, AreValued, IsTied, instances_in, kept_held, remembered, standing_of, trace_of, AreAllKept, IsNext, below, itself, head_of, none_in}
use Rattle.at_cache.proofs.of_cut.Again.{is_among, tied_there}
use Rattle.at_cache.proofs.of_cut.Alive.{by_trace}
use Rattle.at_cache.proofs.of_cut.Goes.{before_place, has_shown, instances_at, trace_slot, value_kept}
use Rattle.at_cache.proofs.of_cut.HeldSlots.{slot_of}

-- the value of an entry that has one
has_value : (e : Info) → is_some e.value ≡ true → (v : Value ℕ) × (e.value ≡ Some v)
has_value e some = by e.value refl
  where
    by : (o : Option (Value ℕ)) → e.value ≡ o → (v : Value ℕ) × (e.value ≡ Some v)
    by None none = absurd (true≢false (sym some ∙ ap is_some none))
    by (Some v) is = (v, is)

-- whether there is a value
abbrev valued_in : Option Info → Bool
valued_in o = elim o as (λ _. Bool) [ None ↦ false | Some e ↦ is_some e.value ]

module _ (t : Table) (st : List Standing) where
  abbrev m : Memory
  m = memory_of t

  -- it is found in the slot
  abbrev Found : ℕ → Instance ℕ × Entry → Type 0
  Found s e = Some e ≡ at t.entries.entries (get t.places) s

  -- of what is kept with a value there is an entry that has one
  abbrev HasEntry : ℕ → Type 0
  HasEntry s = (e : Info) × (m s ≡ Some e) × ((standing_of st s).holds ≡ true) × (is_some e.value ≡ true)

  valued_there : (s : ℕ) → is_valued t st s ≡ true → HasEntry s
  valued_there s h = let (holds, valued) = and_parts _ _ h in by (m s) refl holds valued
    where
      by : (o : Option Info) → m s ≡ o → (standing_of st s).holds ≡ true → valued_in o ≡ true → HasEntry s
      by None is holds h = absurd (true≢false (sym h))
      by (Some e) is holds h = (e, is, holds, h)

  all_valued : (lists : Location ℕ → List Edge) (puts : ℕ) (ps : List ℕ)
      → ((q : ℕ) → Contains ps q → is_valued t st q ≡ true)
      → AreAllKept (kept_held lists t st puts) (instances_in m ps)
  all_valued lists puts [] all u h = absurd (none_in u h)
  all_valued lists puts (p ∷ ps) all u h =
      let (e, there, holds, some) = valued_there p (all p (head_of p ps)) in
      let among = subst (λ us. Contains us u) (instances_at lists t [] ps p e there) h in
      elim (Contains-cons_cases e.instance u (instances_in m ps) among) [
        | inl same ↦
            subst (λ v. IsSome (value_at (kept_held lists t st puts v))) same
            (value_kept lists t st puts p e there holds some)
        | inr rest ↦ all_valued lists puts ps (λ q c. all q (Contains-append_right (p ∷ []) ps q c)) u rest
      ]

  -- what can be kept again has a value
  is_so : AreValued st m → (q : ℕ) (f : Info) → m q ≡ Some f → is_known t st q ≡ true → is_valued t st q ≡ true
  is_so valued q f there known =
      let (holds, some) = and_parts _ _ known in
      let has = by (standing_of st q).traced refl some in
      λ i. holds i && has i
    where
      by : (b : Bool) → (standing_of st q).traced ≡ b → (b || valued_in (m q)) ≡ true → valued_in (m q) ≡ true
      by true on h = ap valued_in there ∙ valued q f there on
      by false off h = h

  pub not_known : (s : ℕ) (x : Standing) → x ≡ standing_of st s → not x.holds ≡ true → false ≡ is_known t st s
  not_known s x is off =
      let holds = sym (ap (λ (y : Standing). y.holds) is) ∙ not-true x.holds off in
      sym (ap (λ b. b && ((standing_of st s).traced || valued_in (m s))) holds)

  pub traced_known : (s : ℕ) (x : Standing) → x ≡ standing_of st s → not x.holds ≡ false → x.traced ≡ true
      → true ≡ is_known t st s
  traced_known s x is on traced =
      let holds = sym (ap (λ (y : Standing). y.holds) is) ∙ not-false x.holds on in
      let again = sym (ap (λ (y : Standing). y.traced) is) ∙ traced in
      sym (λ i. holds i && (again i || valued_in (m s)))

  known_by : (s : ℕ) (x : Standing) (o : Option (Instance ℕ × Entry)) → x ≡ standing_of st s → not x.holds ≡ false
      → x.traced ≡ false → o ≡ at t.entries.entries (get t.places) s → is_known t st s ≡ valued_in (option_map info o)
  known_by s x o is on traced found =
      let holds = sym (ap (λ (y : Standing). y.holds) is) ∙ not-false x.holds on in
      let never = sym (ap (λ (y : Standing). y.traced) is) ∙ traced in
      (λ i. holds i && (never i || valued_in (m s)))
      ∙ ap (λ (o : Option (Instance ℕ × Entry)). valued_in (option_map info o)) (sym found)

  pub some_known : (s : ℕ) (x : Standing) (e : Instance ℕ × Entry) → x ≡ standing_of st s → not x.holds ≡ false
      → x.traced ≡ false → Found s e → is_some e.1.value ≡ is_known t st s
  some_known s x e is on traced found = sym (known_by s x (Some e) is on traced found ∙ has_shown value_view e.1.value)

  pub none_known : (s : ℕ) (x : Standing) → x ≡ standing_of st s → not x.holds ≡ false → x.traced ≡ false
      → None ≡ at t.entries.entries (get t.places) s → false ≡ is_known t st s
  none_known s x is on traced found = sym (known_by s x None is on traced found)

  -- the slot at a place, behind others
  module _ (ps : List ℕ) (n z : ℕ) (less : n < length ps)
      (all : (q : ℕ) → Contains (take n ps) q → is_known t st q ≡ true) where
    pub open_at : IsFirstOpen t st ps (get_or ps n z)
    open_at =
        let (back, among) = before_place ps n z less in
        record { front = take n ps; back = back; among = among; before = all }

    pub one_past : is_known t st (get_or ps n z) ≡ true
        → (q : ℕ) → Contains (take (n + 1) ps) q → is_known t st q ≡ true
    one_past it q c =
        let among = subst (λ xs. Contains xs q) (take_more ps n z less) c in
        elim (Contains-append_cases (take n ps) (get_or ps n z ∷ []) q among) [
          | inl before ↦ all q before
          | inr here ↦ elim (Contains-cons_cases (get_or ps n z) q [] here) [
            | inl same ↦ subst (λ k. is_known t st k ≡ true) same it
            | inr none ↦ absurd (none_in q none)
          ]
        ]

  -- what was used by the entry in a slot, once all before it are kept
  pub leads_past : (s p : ℕ) (e : Info) → m s ≡ Some e → (standing_of st s).traced ≡ true
      → IsFirstOpen t st e.links p → LeadsTo t st s p
  leads_past s p e there traced first lists puts tied valued g in_s =
      subst (λ (x : Info). Follows t st lists puts x p) (same_Some e g (sym there ∙ in_s)) follows
    where
      among : list_any (nat_eq p) e.links ≡ true
      among =
          let behind = Contains-append_right first.front (p ∷ first.back) p (head_of p first.back) in
          is_among e.links p (subst (λ ps. Contains ps p) (sym first.among) behind)

      so : (o : ℕ) → Contains first.front o → is_known t st o ≡ true → is_valued t st o ≡ true
      so o c =
          let used = Contains-append_left first.front (p ∷ first.back) o c in
          let is = is_among e.links o (subst (λ ps. Contains ps o) (sym first.among) used) in
          let (f, in_o, listed) = tied_there m s e o (tied.used s e there (by_trace (standing_of st s) traced) o is) in
          is_so valued o f in_o

      follows : Follows t st lists puts e p
      follows =
          let (f, in_p, listed) = tied_there m s e p (tied.used s e there (by_trace (standing_of st s) traced) p among) in
          let (v, has) = has_value e (valued s e there traced) in (
            f,
            in_p,
            λ q next. below e.instance f.instance (trace_of lists m s e v) (instances_in m first.front)
                (instances_in m first.back) next (trace_slot lists t st s e v there traced has)
                (ap (instances_in m) first.among ∙ instances_at lists t first.front first.back p f in_p)
                (all_valued lists puts first.front (λ o c. so o c (first.before o c))),
          )

  -- the same of what is found in the slot
  pub leads_found : (s : ℕ) (x : Standing) (e : Instance ℕ × Entry) (links : List ℕ) (o : Option ℕ)
      → x ≡ standing_of st s → not x.traced ≡ false → Found s e → links ≡ e.1.links.items
      → IfSome o (IsFirstOpen t st links) → IfSome o (LeadsTo t st s)
  leads_found s x e links None is traced found same h = h
  leads_found s x e links (Some p) is traced found same h =
      leads_past s p (info e) (sym (ap (option_map info) found))
      (sym (ap (λ (y : Standing). y.traced) is) ∙ not-false x.traced traced)
      (subst (λ ps. IsFirstOpen t st ps p) same h)

  pub leads_itself : (s : ℕ) → LeadsTo t st s s
  leads_itself s lists puts tied valued e there = (e, there, λ q next. next)

  pub leads_on : (s p r : ℕ) → LeadsTo t st s p → LeadsTo t st p r → LeadsTo t st s r
  leads_on s p r first second lists puts tied valued e there =
      let (f, in_p, from) = first lists puts tied valued e there in
      let (g, in_r, to) = second lists puts tied valued f in_p in
      (g, in_r, λ q next. to q (from q next))

  -- from an instance with an entry on
  pub next_from : (lists : Location ℕ → List Edge) (puts : ℕ) (i : Instance ℕ) (x : Entry) (p : ℕ)
      → (e : Instance ℕ × Entry) → IsTied lists puts st m → AreValued st m
      → Some x ≡ lookup (same_instance i) t.entries.entries → LeadsTo t st x.slot p → Found p e
      → IsNext (remembered lists t st) (kept_held lists t st puts) i e.0
  next_from lists puts i x p e tied valued found leads in_p =
      let (f, there, of_i) = slot_of t i x (sym found) in
      let (g, there_p, to) = leads lists puts tied valued f there in
      subst (λ (y : Info). IsNext (remembered lists t st) (kept_held lists t st puts) i y.instance)
      (same_Some g (info e) (sym there_p ∙ sym (ap (option_map info) in_p)))
      (to i (subst (λ j. IsNext (remembered lists t st) (kept_held lists t st puts) i j) (sym of_i) itself))
