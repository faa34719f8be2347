-- Ways up, and what is known of the classes on them.
use Rattle.std.proofs.Common.{◌≡◌, ℕ, zero, suc, ◌+◌, ◌<◌, ◌≤◌, ◌⊎◌, inl, inr, List, [], ◌∷◌, ◌++◌, length, length-append, refl, ap, sym, ◌∙◌, subst, arith, true≢false, eq-eqb, Option, Some, None, Bool, true, false}
use Rattle.std.specs.Prelude.{◌||◌, nat_eq, set, replicate, unwrap_or}
use Rattle.std.specs.List.{list_any, list_all}
use Rattle.std.proofs.lemmas.Bool.{eqb-true, or_left, or_right}
use Rattle.std.proofs.lemmas.List.Folds.{list_any-append}
use Rattle.std.proofs.lemmas.List.{get_or-set_same, get_or-set_other, length-set}
use Rattle.std.proofs.lemmas.Option.{slice_get_past}
use Rattle.std.specs.Option.{option_and_then}
use Rattle.at_model.specs.Classes.{Class, Classes, chain_within, parent_of}
use Rattle.at_model.proofs.Options.{both, and_true, either_true}
use Rattle.at_class.proofs.Chains.{chain_within-none}
use Rattle.at_class.specs.declared.circles.Mark.{Mark}
use Rattle.at_class.specs.declared.circles.Mark.TheVariants.{Unmet, OnWay, Clear, Circular}
use Rattle.at_class.specs.Climbs.{is_above_itself, mark_at, is_met, is_settled, is_circular, left_by, Leads, IsSettledAt, IsMarked, Climbing, Climbed, GoingRound, Descending}

same_Some : {a b : ℕ} → Some a ≡ Some b → a ≡ b
same_Some {a} e = ap (λ o. unwrap_or o a) e

no_way : {A : Type 0} → false ≡ true → A
no_way e = absurd (true≢false (sym e))

-- ways ----------------------------------------------------------------------------------------------------------------

pub leads_on : (classes : Classes) (from : Option ℕ) (way : List ℕ) (c : ℕ) → Leads classes from way (Some c) → Leads classes from (way ++ c ∷ []) (parent_of classes c)
leads_on classes from [] c l = (l, refl)
leads_on classes from (d ∷ ds) c l = (l.0, leads_on classes (parent_of classes d) ds c l.1)

pub leads_back : (classes : Classes) (from : Option ℕ) (way : List ℕ) (c : ℕ) (to : Option ℕ) → Leads classes from (way ++ c ∷ []) to → Leads classes from way (Some c) × (parent_of classes c ≡ to)
leads_back classes from [] c to l = l
leads_back classes from (d ∷ ds) c to l = let r = leads_back classes (parent_of classes d) ds c to l.1 in ((l.0, r.0), r.1)

leads_join : (classes : Classes) (from mid to : Option ℕ) (xs ys : List ℕ) → Leads classes from xs mid → Leads classes mid ys to → Leads classes from (xs ++ ys) to
leads_join classes from mid to [] ys l m = subst (λ o. Leads classes o ys to) (sym l) m
leads_join classes from mid to (x ∷ xs) ys l m = (l.0, leads_join classes (parent_of classes x) mid to xs ys l.1 m)

-- the rest of a way, from a class that is on it
abbrev Rest : Classes → ℕ → Option ℕ → List ℕ → Type 0
Rest classes x to way = (b : List ℕ) × Leads classes (Some x) (x ∷ b) to × (length (x ∷ b) ≤ length way)

rest_by : (classes : Classes) (from to : Option ℕ) (y : ℕ) (ys : List ℕ) (x : ℕ) → Leads classes from (y ∷ ys) to
    → (list_any (nat_eq x) ys ≡ true → Rest classes x to ys) → (s : Bool) → nat_eq x y ≡ s
    → (s || list_any (nat_eq x) ys) ≡ true → Rest classes x to (y ∷ ys)
rest_by classes from to y ys x l more true f e = subst (λ z. Rest classes z to (y ∷ ys)) (sym (eqb-true x y f)) (ys, (refl, l.1), omega arith)
rest_by classes from to y ys x l more false f e = let r = more e in (r.0, r.1, omega (arith, r.2))

rest : (classes : Classes) (from to : Option ℕ) (way : List ℕ) (x : ℕ) → Leads classes from way to → list_any (nat_eq x) way ≡ true → Rest classes x to way
rest classes from to [] x l e = no_way e
rest classes from to (y ∷ ys) x l e = rest_by classes from to y ys x l (rest classes (parent_of classes y) to ys x l.1) (nat_eq x y) refl e

reached : (classes : Classes) (from : Option ℕ) (xs : List ℕ) (c k : ℕ) → Leads classes from xs (Some c) → length xs < k → list_any (nat_eq c) (chain_within k classes from) ≡ true
reached classes from xs c zero l less = absurd (omega arith)
reached classes from [] c (suc k) l less = ap (λ o. list_any (nat_eq c) (chain_within (suc k) classes o)) l ∙ or_left (nat_eq c c) _ (eq-eqb c c refl)
reached classes from (x ∷ xs) c (suc k) l less =
    ap (λ o. list_any (nat_eq c) (chain_within (suc k) classes o)) l.0
    ∙ or_right (nat_eq c x) _ (reached classes (parent_of classes x) xs c k l.1 (omega (arith, less)))

-- all classes on a circle, and so all above them, are above themselves
circle : (classes : Classes) (x : ℕ) (cs : List ℕ) → Leads classes (Some x) (x ∷ cs) (Some x) → length (x ∷ cs) ≤ length classes
    → (m : ℕ) (a b : List ℕ) (mid : Option ℕ) → Leads classes (Some x) a mid → Leads classes mid b (Some x)
    → length a + length b ≤ length classes → list_all (is_above_itself classes) (chain_within m classes mid) ≡ true
circle classes x cs whole most zero a b mid l r le = refl
circle classes x cs whole most (suc m) a [] mid l r le =
    ap (λ o. list_all (is_above_itself classes) (chain_within (suc m) classes o)) r
    ∙ and_true (is_above_itself classes x) _
    (reached classes (parent_of classes x) cs x (length classes) whole.1 (omega (arith, most)))
    (circle classes x cs whole most m (x ∷ []) cs (parent_of classes x) (refl, refl) whole.1 (omega (arith, most)))
circle classes x cs whole most (suc m) a (c ∷ b) mid l r le =
    ap (λ o. list_all (is_above_itself classes) (chain_within (suc m) classes o)) r.0
    ∙ (let to-c = subst (Leads classes (Some x) a) r.0 l in
    and_true (is_above_itself classes c) _
    (reached classes (parent_of classes c) (b ++ a) c (length classes) (leads_join classes (parent_of classes c) (Some x) (Some c) b a r.1 to-c) (omega (arith, le, length-append b a)))
    (circle classes x cs whole most m (a ++ c ∷ []) b (parent_of classes c) (leads_on classes (Some x) a c to-c) r.1 (omega (arith, le, length-append a (c ∷ [])))))

-- what isn't among classes that lead to each other alone isn't above them
not_above : (classes : Classes) (in_it : ℕ → Bool) → ((y b : ℕ) → in_it y ≡ true → parent_of classes y ≡ Some b → in_it b ≡ true) → (c : ℕ) → in_it c ≡ false
    → (m : ℕ) (from : Option ℕ) → ((b : ℕ) → from ≡ Some b → in_it b ≡ true) → list_any (nat_eq c) (chain_within m classes from) ≡ false
not_above classes in_it closed c out zero from starts = refl
not_above classes in_it closed c out (suc m) None starts = refl
not_above classes in_it closed c out (suc m) (Some b) starts = by (nat_eq c b) refl (not_above classes in_it closed c out m (parent_of classes b) (λ d f. closed b d (starts b refl) f))
  where
    by : (s : Bool) → nat_eq c b ≡ s → list_any (nat_eq c) (chain_within m classes (parent_of classes b)) ≡ false
        → (nat_eq c b || list_any (nat_eq c) (chain_within m classes (parent_of classes b))) ≡ false
    by true e more = no_way (sym (sym (ap in_it (eqb-true c b e) ∙ starts b refl) ∙ out))
    by false e more = ap (λ s. s || list_any (nat_eq c) (chain_within m classes (parent_of classes b))) e ∙ more

-- marks ---------------------------------------------------------------------------------------------------------------

pub mark_here : (marks : List Mark) (d : ℕ) (v : Mark) → d < length marks → mark_at (set marks d v) d ≡ v
mark_here marks d v less = get_or-set_same marks d v Clear less

pub mark_there : (marks : List Mark) (d c : ℕ) (v : Mark) → nat_eq c d ≡ false → mark_at (set marks d v) c ≡ mark_at marks c
mark_there marks d c v e = get_or-set_other marks d c v Clear (λ f. true≢false (sym (eq-eqb c d f) ∙ e))

-- a class that isn't settled is there
pub within : (marks : List Mark) (c : ℕ) → is_settled (mark_at marks c) ≡ false → c < length marks
within [] c e = absurd (true≢false e)
within (m ∷ ms) zero e = omega arith
within (m ∷ ms) (suc c) e = omega (arith, within ms c e)

unsettled : (m : Mark) → is_met m ≡ false → is_settled m ≡ false
unsettled Unmet e = refl
unsettled OnWay e = absurd (true≢false e)
unsettled Clear e = absurd (true≢false e)
unsettled Circular e = absurd (true≢false e)

-- nor one that isn't met
pub there : (marks : List Mark) (c : ℕ) → is_met (mark_at marks c) ≡ false → c < length marks
there marks c e = within marks c (unsettled (mark_at marks c) e)

pub left-set : (test : Mark → Bool) (marks : List Mark) (d : ℕ) (v : Mark) → d < length marks → test (mark_at marks d) ≡ false → test v ≡ true → left_by test (set marks d v) + 1 ≡ left_by test marks
left-set test [] d v less out now = absurd (omega (arith, less))
left-set test (m ∷ ms) zero v less out now = rw (out, now) (omega arith)
left-set test (m ∷ ms) (suc d) v less out now = by (test m) refl (left-set test ms d v (omega (arith, less)) out now)
  where
    by : (s : Bool) → test m ≡ s → left_by test (set ms d v) + 1 ≡ left_by test ms → left_by test (m ∷ set ms d v) + 1 ≡ left_by test (m ∷ ms)
    by true e more = rw e more
    by false e more = rw e (omega (arith, more))

left-most : (test : Mark → Bool) (marks : List Mark) → left_by test marks ≤ length marks
left-most test [] = omega arith
left-most test (m ∷ ms) = by (test m) refl (left-most test ms)
  where
    by : (s : Bool) → test m ≡ s → left_by test ms ≤ length ms → left_by test (m ∷ ms) ≤ length (m ∷ ms)
    by true e more = rw e (omega (arith, more))
    by false e more = rw e (omega (arith, more))

-- one class less is left
pub one_less : (test : Mark → Bool) (marks after : List Mark) (d : ℕ) (v : Mark) → d < length marks
    → test (mark_at marks d) ≡ false → test v ≡ true → after ≡ set marks d v → left_by test after < left_by test marks
one_less test marks after d v less out now same = subst (λ ms. left_by test ms < left_by test marks) (sym same) (omega (arith, left-set test marks d v less out now))

-- what is marked ------------------------------------------------------------------------------------------------------

none_settled : (n c : ℕ) → is_settled (mark_at (replicate n Unmet) c) ≡ true → n ≤ c
none_settled zero c e = omega arith
none_settled (suc n) zero e = no_way e
none_settled (suc n) (suc c) e = omega (arith, none_settled n c e)

none_circular : (n c : ℕ) → is_circular (mark_at (replicate n Unmet) c) ≡ false
none_circular zero c = refl
none_circular (suc n) zero = refl
none_circular (suc n) (suc c) = none_circular n c

met_beyond : (n c : ℕ) → is_met (mark_at (replicate n Unmet) c) ≡ true → is_settled (mark_at (replicate n Unmet) c) ≡ true
met_beyond zero c e = refl
met_beyond (suc n) zero e = no_way e
met_beyond (suc n) (suc c) e = met_beyond n c e

replicated : (n : ℕ) → length (replicate n Unmet) ≡ n
replicated zero = refl
replicated (suc n) = omega (arith, replicated n)

no_parent : (classes : Classes) (c : ℕ) → length classes ≤ c → parent_of classes c ≡ None
no_parent classes c past = ap (option_and_then (λ (k : Class). k.parent)) (slice_get_past classes c past)

pub nothing_known : (classes : Classes) (marks : List Mark) → marks ≡ replicate (length classes) Unmet → IsMarked classes marks []
nothing_known classes marks e = subst (λ ms. IsMarked classes ms []) (sym e) (record {
  count = replicated n;
  met = λ c h. or_left (is_settled (mark_at (replicate n Unmet) c)) _ (met_beyond n c h);
  closed = λ c h b f. absurd (none-some (sym (no_parent classes c (none_settled n c h)) ∙ f));
  right = λ c h. none_circular n c ∙ sym (ap (λ o. list_any (nat_eq c) (chain_within n classes o)) (no_parent classes c (none_settled n c h)) ∙ ap (list_any (nat_eq c)) (chain_within-none classes n));
})
  where
    n : ℕ
    n = length classes

    none-some : {b : ℕ} → None ≡ Some b → ⊥
    none-some f = cc

-- one mark more keeps what is settled, and what is met
keeps : (test : Mark → Bool) (marks : List Mark) (d : ℕ) (v : Mark) (c : ℕ) → d < length marks → (test (mark_at marks d)
    ≡ true → test v ≡ true) → test (mark_at marks c) ≡ true → test (mark_at (set marks d v) c) ≡ true
keeps test marks d v c less now e = by (nat_eq c d) refl
  where
    by : (s : Bool) → nat_eq c d ≡ s → test (mark_at (set marks d v) c) ≡ true
    by true f =
        let same = eqb-true c d f in
        ap (λ z. test (mark_at (set marks d v) z)) same ∙ ap test (mark_here marks d v less) ∙ now (ap (λ z. test (mark_at marks z)) (sym same) ∙ e)
    by false f = ap test (mark_there marks d c v f) ∙ e

-- the way up ----------------------------------------------------------------------------------------------------------

pub climb_begins : (classes : Classes) (from : ℕ) (marks : List Mark) (way : List ℕ) → IsMarked classes marks [] → way ≡ [] → Climbing classes from marks way (Some from)
climb_begins classes from marks way m none = subst (λ w. Climbing classes from marks w (Some from)) (sym none) (record {
  marked = m;
  leads = refl;
  room = omega (arith, left-most is_met marks, m.count);
  begun = inl refl;
})

-- a class that wasn't met is on the way
marked_on : (classes : Classes) (marks : List Mark) (way : List ℕ) (d : ℕ) → IsMarked classes marks way → is_met (mark_at marks d) ≡ false → IsMarked classes (set marks d OnWay) (way ++ d ∷ [])
marked_on classes marks way d m new = record {
  count = length-set marks d OnWay ∙ m.count;
  met = λ c h. met c (nat_eq c d) refl h;
  closed = λ c h b e. still b (m.closed c (was c h) b e);
  right = λ c h. ap is_circular (same c (nat_eq c d) refl h) ∙ m.right c (was c h);
}
  where
    less : d < length marks
    less = within marks d (unsettled (mark_at marks d) new)

    same : (c : ℕ) (s : Bool) → nat_eq c d ≡ s → is_settled (mark_at (set marks d OnWay) c) ≡ true → mark_at (set marks d OnWay) c ≡ mark_at marks c
    same c true f h = no_way (sym (ap (λ z. is_settled (mark_at (set marks d OnWay) z)) (eqb-true c d f) ∙ ap is_settled (mark_here marks d OnWay less)) ∙ h)
    same c false f h = mark_there marks d c OnWay f

    was : (c : ℕ) → is_settled (mark_at (set marks d OnWay) c) ≡ true → is_settled (mark_at marks c) ≡ true
    was c h = ap is_settled (sym (same c (nat_eq c d) refl h)) ∙ h

    still : (c : ℕ) → is_settled (mark_at marks c) ≡ true → is_settled (mark_at (set marks d OnWay) c) ≡ true
    still c h = keeps is_settled marks d OnWay c less (λ e. no_way (sym (unsettled (mark_at marks d) new) ∙ e)) h

    last : (c : ℕ) → list_any (nat_eq c) (way ++ d ∷ []) ≡ (list_any (nat_eq c) way || (nat_eq c d || false))
    last c = list_any-append (nat_eq c) way (d ∷ [])

    met : (c : ℕ) (s : Bool) → nat_eq c d ≡ s → is_met (mark_at (set marks d OnWay) c) ≡ true → (is_settled (mark_at (set marks d OnWay) c) || list_any (nat_eq c) (way ++ d ∷ [])) ≡ true
    met c true f h = or_right (is_settled (mark_at (set marks d OnWay) c)) _ (last c ∙ or_right (list_any (nat_eq c) way) _ (or_left (nat_eq c d) false f))
    met c false f h = ap (λ k. is_settled k || list_any (nat_eq c) (way ++ d ∷ [])) (mark_there marks d c OnWay f)
        ∙ wider (is_settled (mark_at marks c)) (list_any (nat_eq c) way) _ _ (last c) (m.met c (ap is_met (sym (mark_there marks d c OnWay f)) ∙ h))
      where
        wider : (a b x y : Bool) → x ≡ (b || y) → (a || b) ≡ true → (a || x) ≡ true
        wider true b x y e g = refl
        wider false true x y e g = e
        wider false false x y e g = no_way g

pub climb_on : (classes : Classes) (from : ℕ) (marks after : List Mark) (way longer : List ℕ) (d : ℕ)
    (next on : Option ℕ) → Climbing classes from marks way next → next ≡ Some d → is_met (mark_at marks d) ≡ false
    → after ≡ set marks d OnWay → longer ≡ way ++ d ∷ [] → on ≡ parent_of classes d → Climbing classes from after longer on
climb_on classes from marks after way longer d next on k is new same more up =
    subst (λ ms. Climbing classes from ms longer on) (sym same)
    (subst (λ w. Climbing classes from (set marks d OnWay) w on) (sym more)
    (subst (λ o. Climbing classes from (set marks d OnWay) (way ++ d ∷ []) o) (sym up)
    (record {
      marked = marked_on classes marks way d k.marked new;
      leads = leads_on classes (Some from) way d (subst (Leads classes (Some from) way) is k.leads);
      room = omega (arith, k.room, fewer, length-append way (d ∷ []));
      begun = inr (begun k.begun);
    })))
  where
    less : d < length marks
    less = within marks d (unsettled (mark_at marks d) new)

    fewer : left_by is_met (set marks d OnWay) + 1 ≡ left_by is_met marks
    fewer = left-set is_met marks d OnWay less new refl

    begun : (next ≡ Some from) ⊎ (is_met (mark_at marks from) ≡ true) → is_met (mark_at (set marks d OnWay) from) ≡ true
    begun (inl e) = let here : from ≡ d = same_Some (sym e ∙ is) in ap (λ z. is_met (mark_at (set marks d OnWay) z)) here ∙ ap is_met (mark_here marks d OnWay less)
    begun (inr e) = keeps is_met marks d OnWay from less (λ _. refl) e

pub climb_meets : (classes : Classes) (from : ℕ) (marks : List Mark) (way : List ℕ) (d : ℕ) (next : Option ℕ)
    → Climbing classes from marks way next → next ≡ Some d → is_met (mark_at marks d) ≡ true
    → Climbed classes from marks way (Some d)
climb_meets classes from marks way d next k is there = record {
  marked = k.marked;
  leads = subst (Leads classes (Some from) way) is k.leads;
  room = omega (arith, k.room);
  begun = begun k.begun;
  ends = λ b e. subst (λ z. is_met (mark_at marks z) ≡ true) (same_Some e) there;
}
  where
    begun : (next ≡ Some from) ⊎ (is_met (mark_at marks from) ≡ true) → is_met (mark_at marks from) ≡ true
    begun (inl e) = subst (λ z. is_met (mark_at marks z) ≡ true) (same_Some (sym is ∙ e)) there
    begun (inr e) = e

pub climb_ends : (classes : Classes) (from : ℕ) (marks : List Mark) (way : List ℕ) (next : Option ℕ) → Climbing classes from marks way next → next ≡ None → Climbed classes from marks way None
climb_ends classes from marks way next k is = record {
  marked = k.marked;
  leads = subst (Leads classes (Some from) way) is k.leads;
  room = omega (arith, k.room);
  begun = begun k.begun;
  ends = λ b e. absurd (none_some e);
}
  where
    none_some : {b : ℕ} → None ≡ Some b → ⊥
    none_some e = cc

    begun : (next ≡ Some from) ⊎ (is_met (mark_at marks from) ≡ true) → is_met (mark_at marks from) ≡ true
    begun (inl e) = absurd (none_some (sym is ∙ e))
    begun (inr e) = e

-- round ---------------------------------------------------------------------------------------------------------------

pub round_begins : (classes : Classes) (from : ℕ) (marks : List Mark) (way : List ℕ) (end : Option ℕ) → Climbed classes from marks way end → GoingRound classes from marks way end end
round_begins classes from marks way end k = record {
  count = k.marked.count;
  met = k.marked.met;
  closed = λ c b h e. inl (k.marked.closed c h b e);
  right = k.marked.right;
  round = λ b e. by b e (either_true (is_settled (mark_at marks b)) _ (k.marked.met b (k.ends b e)));
  ended = λ b e. inr e;
  leads = k.leads;
  begun = k.begun;
}
  where
    by : (b : ℕ) → end ≡ Some b → (is_settled (mark_at marks b) ≡ true) ⊎ (list_any (nat_eq b) way ≡ true)
        → (is_settled (mark_at marks b) ≡ true) ⊎
        ((m : ℕ) → list_all (is_above_itself classes) (chain_within m classes (Some b)) ≡ true)
    by b e (inl h) = inl h
    by b e (inr h) =
        let r = rest classes (Some from) (Some b) way b (subst (Leads classes (Some from) way) e k.leads) h in
        inr (λ m. circle classes b r.0 r.1 (omega (arith, r.2, k.room)) m [] (b ∷ r.0) (Some b) refl r.1 (omega (arith, r.2, k.room)))

pub round_on : (classes : Classes) (from : ℕ) (marks after : List Mark) (way : List ℕ) (end next : Option ℕ) (d : ℕ)
    (on : Option ℕ) → GoingRound classes from marks way end next → next ≡ Some d → is_settled (mark_at marks d) ≡ false
    → after ≡ set marks d Circular → on ≡ parent_of classes d → GoingRound classes from after way end on
round_on classes from marks after way end next d on k is new same up =
    subst (λ ms. GoingRound classes from ms way end on) (sym same) (record {
      count = length-set marks d Circular ∙ k.count;
      met = λ c h. met c (nat_eq c d) refl h;
      closed = λ c b h e. closed c b (nat_eq c d) refl h e;
      right = λ c h. right c (nat_eq c d) refl h;
      round = λ b e. inr (λ m. ap (λ o. list_all (is_above_itself classes) (chain_within m classes o)) (sym e ∙ up) ∙ (both (is_above_itself classes d) _ (high (suc m))).1);
      ended = λ b e. now b (k.ended b e);
      leads = k.leads;
      begun = keeps is_met marks d Circular from less (λ _. refl) k.begun;
    })
  where
    less : d < length marks
    less = within marks d new

    high : (m : ℕ) → list_all (is_above_itself classes) (chain_within m classes (Some d)) ≡ true
    high m = by (k.round d is) where
      by : (is_settled (mark_at marks d) ≡ true) ⊎
          ((m : ℕ) → list_all (is_above_itself classes) (chain_within m classes (Some d)) ≡ true)
          → list_all (is_above_itself classes) (chain_within m classes (Some d)) ≡ true
      by (inl h) = no_way (sym new ∙ h)
      by (inr f) = f m

    here : (b : ℕ) → b ≡ d → is_settled (mark_at (set marks d Circular) b) ≡ true
    here b e = ap (λ z. is_settled (mark_at (set marks d Circular) z)) e ∙ ap is_settled (mark_here marks d Circular less)

    now : (b : ℕ) → (is_settled (mark_at marks b) ≡ true) ⊎ (next ≡ Some b) → (is_settled (mark_at (set marks d Circular) b) ≡ true) ⊎ (on ≡ Some b)
    now b (inl h) = inl (keeps is_settled marks d Circular b less (λ _. refl) h)
    now b (inr e) = inl (here b (same_Some (sym e ∙ is)))

    met : (c : ℕ) (s : Bool) → nat_eq c d ≡ s → is_met (mark_at (set marks d Circular) c) ≡ true → (is_settled (mark_at (set marks d Circular) c) || list_any (nat_eq c) way) ≡ true
    met c true f h = or_left (is_settled (mark_at (set marks d Circular) c)) _ (here c (eqb-true c d f))
    met c false f h = ap (λ j. is_settled j || list_any (nat_eq c) way) (mark_there marks d c Circular f) ∙ k.met c (ap is_met (sym (mark_there marks d c Circular f)) ∙ h)

    closed : (c b : ℕ) (s : Bool) → nat_eq c d ≡ s → is_settled (mark_at (set marks d Circular) c) ≡ true
        → parent_of classes c ≡ Some b → (is_settled (mark_at (set marks d Circular) b) ≡ true) ⊎ (on ≡ Some b)
    closed c b true f h e = inr (up ∙ ap (parent_of classes) (sym (eqb-true c d f)) ∙ e)
    closed c b false f h e = now b (k.closed c b (ap is_settled (sym (mark_there marks d c Circular f)) ∙ h) e)

    right : (c : ℕ) (s : Bool) → nat_eq c d ≡ s → is_settled (mark_at (set marks d Circular) c) ≡ true → is_circular (mark_at (set marks d Circular) c) ≡ is_above_itself classes c
    right c true f h =
        ap (λ z. is_circular (mark_at (set marks d Circular) z)) (eqb-true c d f) ∙ ap is_circular (mark_here marks d Circular less)
        ∙ sym (ap (is_above_itself classes) (eqb-true c d f) ∙ (both (is_above_itself classes d) _ (high 1)).0)
    right c false f h = ap is_circular (mark_there marks d c Circular f) ∙ k.right c (ap is_settled (sym (mark_there marks d c Circular f)) ∙ h)

round_closed : (classes : Classes) (from : ℕ) (marks : List Mark) (way : List ℕ) (end next : Option ℕ)
    → GoingRound classes from marks way end next → ((b : ℕ) → next ≡ Some b → is_settled (mark_at marks b) ≡ true)
    → Descending classes from marks way
round_closed classes from marks way end next k there = record {
  marked = record {
    count = k.count;
    met = k.met;
    closed = λ c h b e. settled b (k.closed c b h e);
    right = k.right;
  };
  end = end;
  leads = k.leads;
  ends = λ b e. settled b (k.ended b e);
  begun = k.begun;
}
  where
    settled : (b : ℕ) → (is_settled (mark_at marks b) ≡ true) ⊎ (next ≡ Some b) → is_settled (mark_at marks b) ≡ true
    settled b (inl h) = h
    settled b (inr e) = there b e

pub round_meets : (classes : Classes) (from : ℕ) (marks : List Mark) (way : List ℕ) (end next : Option ℕ) (d : ℕ)
    → GoingRound classes from marks way end next → next ≡ Some d → is_settled (mark_at marks d) ≡ true
    → Descending classes from marks way
round_meets classes from marks way end next d k is there = round_closed classes from marks way end next k (λ b e. subst (λ z. is_settled (mark_at marks z) ≡ true) (same_Some (sym is ∙ e)) there)

pub round_ends : (classes : Classes) (from : ℕ) (marks : List Mark) (way : List ℕ) (end next : Option ℕ) → GoingRound classes from marks way end next → next ≡ None → Descending classes from marks way
round_ends classes from marks way end next k is = round_closed classes from marks way end next k (λ b e. absurd (none_some (sym is ∙ e)))
  where
    none_some : {b : ℕ} → None ≡ Some b → ⊥
    none_some e = cc

-- and down ------------------------------------------------------------------------------------------------------------

-- it is settled what is on the way behind this one
pub down_settled : (classes : Classes) (from : ℕ) (marks : List Mark) (way left : List ℕ) (d : ℕ) → Descending classes
    from marks way → way ≡ left ++ d ∷ [] → is_settled (mark_at marks d) ≡ true → Descending classes from marks left
down_settled classes from marks way left d k is there = record {
  marked = record {
    count = k.marked.count;
    met = λ c h. met c (nat_eq c d) refl (is_settled (mark_at marks c)) refl (k.marked.met c h);
    closed = k.marked.closed;
    right = k.marked.right;
  };
  end = Some d;
  leads = (leads_back classes (Some from) left d k.end (subst (λ w. Leads classes (Some from) w k.end) is k.leads)).0;
  ends = λ b e. subst (λ z. is_settled (mark_at marks z) ≡ true) (same_Some e) there;
  begun = k.begun;
}
  where
    last : (c : ℕ) → list_any (nat_eq c) way ≡ (list_any (nat_eq c) left || (nat_eq c d || false))
    last c = ap (list_any (nat_eq c)) is ∙ list_any-append (nat_eq c) left (d ∷ [])

    less : (a b x y : Bool) → x ≡ (b || (y || false)) → y ≡ false → (a || x) ≡ true → (a || b) ≡ true
    less true b x y e f g = refl
    less false true x y e f g = refl
    less false false x true e f g = no_way (sym f)
    less false false x false e f g = sym e ∙ g

    met : (c : ℕ) (s : Bool) → nat_eq c d ≡ s → (t : Bool) → is_settled (mark_at marks c) ≡ t
        → (is_settled (mark_at marks c) || list_any (nat_eq c) way) ≡ true
        → (is_settled (mark_at marks c) || list_any (nat_eq c) left) ≡ true
    met c true f t e h = or_left (is_settled (mark_at marks c)) _ (ap (λ z. is_settled (mark_at marks z)) (eqb-true c d f) ∙ there)
    met c false f t e h = less (is_settled (mark_at marks c)) (list_any (nat_eq c) left) _ (nat_eq c d) (last c) f h

-- or it isn't above itself
clear : (classes : Classes) (from : ℕ) (marks : List Mark) (way left : List ℕ) (d : ℕ) → Descending classes from marks
    way → way ≡ left ++ d ∷ [] → is_settled (mark_at marks d) ≡ false → Descending classes from (set marks d Clear) way
clear classes from marks way left d k is new = record {
  marked = record {
    count = length-set marks d Clear ∙ k.marked.count;
    met = λ c h. met c (nat_eq c d) refl h;
    closed = λ c h. closed c (nat_eq c d) refl h;
    right = λ c h. right c (nat_eq c d) refl h;
  };
  end = k.end;
  leads = k.leads;
  ends = λ b e. still b (k.ends b e);
  begun = keeps is_met marks d Clear from less (λ _. refl) k.begun;
}
  where
    less : d < length marks
    less = within marks d new

    up : parent_of classes d ≡ k.end
    up = (leads_back classes (Some from) left d k.end (subst (λ w. Leads classes (Some from) w k.end) is k.leads)).1

    still : (c : ℕ) → is_settled (mark_at marks c) ≡ true → is_settled (mark_at (set marks d Clear) c) ≡ true
    still c h = keeps is_settled marks d Clear c less (λ _. refl) h

    met : (c : ℕ) (s : Bool) → nat_eq c d ≡ s → is_met (mark_at (set marks d Clear) c) ≡ true → (is_settled (mark_at (set marks d Clear) c) || list_any (nat_eq c) way) ≡ true
    met c true f h = or_left (is_settled (mark_at (set marks d Clear) c)) _ (ap (λ z. is_settled (mark_at (set marks d Clear) z)) (eqb-true c d f) ∙ ap is_settled (mark_here marks d Clear less))
    met c false f h = ap (λ j. is_settled j || list_any (nat_eq c) way) (mark_there marks d c Clear f) ∙ k.marked.met c (ap is_met (sym (mark_there marks d c Clear f)) ∙ h)

    closed : (c : ℕ) (s : Bool) → nat_eq c d ≡ s → is_settled (mark_at (set marks d Clear) c) ≡ true → IsSettledAt (set marks d Clear) (parent_of classes c)
    closed c true f h b e = still b (k.ends b (sym up ∙ ap (parent_of classes) (sym (eqb-true c d f)) ∙ e))
    closed c false f h b e = still b (k.marked.closed c (ap is_settled (sym (mark_there marks d c Clear f)) ∙ h) b e)

    right : (c : ℕ) (s : Bool) → nat_eq c d ≡ s → is_settled (mark_at (set marks d Clear) c) ≡ true → is_circular (mark_at (set marks d Clear) c) ≡ is_above_itself classes c
    right c true f h =
        ap (λ z. is_circular (mark_at (set marks d Clear) z)) (eqb-true c d f) ∙ ap is_circular (mark_here marks d Clear less)
        ∙ sym (ap (is_above_itself classes) (eqb-true c d f)
        ∙ not_above classes (λ c. is_settled (mark_at marks c)) (λ y b e g. k.marked.closed y e b g) d new (length classes) (parent_of classes d) (λ b e. k.ends b (sym up ∙ e)))
    right c false f h = ap is_circular (mark_there marks d c Clear f) ∙ k.marked.right c (ap is_settled (sym (mark_there marks d c Clear f)) ∙ h)

pub down_clear : (classes : Classes) (from : ℕ) (marks after : List Mark) (way left : List ℕ) (d : ℕ)
    → Descending classes from marks way → way ≡ left ++ d ∷ [] → is_settled (mark_at marks d) ≡ false
    → after ≡ set marks d Clear → Descending classes from after left
down_clear classes from marks after way left d k is new same =
    subst (λ ms. Descending classes from ms left) (sym same)
    (down_settled classes from (set marks d Clear) way left d (clear classes from marks way left d k is new) is (ap is_settled (mark_here marks d Clear (within marks d new))))

-- all of the way is gone
pub down : (classes : Classes) (from : ℕ) (marks : List Mark) (way : List ℕ) → Descending classes from marks way → way ≡ [] → IsMarked classes marks [] × (is_settled (mark_at marks from) ≡ true)
down classes from marks way k none =
    let m = subst (IsMarked classes marks) none k.marked in
    (m, or_no (is_settled (mark_at marks from)) (m.met from k.begun))
  where
    or_no : (a : Bool) → (a || false) ≡ true → a ≡ true
    or_no true e = refl
    or_no false e = no_way e

pub popped : (old new left : List ℕ) (d : ℕ) → old ≡ new ++ d ∷ [] → left ≡ new → length left < length old
popped old new left d is same = omega (arith, ap length same, ap length is, length-append new (d ∷ []))

pub emptied : (xs : List ℕ) → length xs ≡ 0 → xs ≡ []
emptied [] e = refl
emptied (x ∷ xs) e = absurd (omega (arith, e))
