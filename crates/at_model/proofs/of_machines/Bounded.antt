-- A question that is given turns: what it has come to holds, its answer is right, and its turns are bounded by the instances there are.
use Rattle.std.proofs.Common.{◌≡◌, ℕ, suc, ◌+◌, ◌*◌, ◌≤◌, get_or, List, [], ◌∷◌, ◌++◌, length, Option, Some, None, ◌⊎◌, inl, inr, refl, sym, ap, ◌∙◌, subst, arith}
use Rattle.at_model.specs.Run.{Value, Instance, Contents, Known}
use Rattle.at_model.specs.Meaning.{Equations, HasValue, Comes, Walks, Leads, Among, Distinct, Circular, Answer, Answers}
use Rattle.at_model.specs.Turning.{UnderWay, posted, chain, keys, Turned, is_kept, finds, faults, closes, deepens, ascends, IsOneMore, between, Chains, IsOn, Silent, none, one_more}
use Rattle.at_model.proofs.Listed.{among_left, among_right}
use Rattle.at_model.proofs.Members.{among_last, among_either, among_push, distinct_between, distinct_push, distinct_pop, distinct_both, length_both, no_more}
use Rattle.at_model.proofs.Spreading.{led_fault}

first_push : {A : Type 0} (xs : List A) (x y : A) → get_or (xs ++ x ∷ []) 0 y ≡ get_or xs 0 x
first_push [] x y = refl
first_push (z ∷ zs) x y = refl

module _ {N : Type 0} where
  pub keys_both : (fs gs : List (Instance N × Value N)) → keys (fs ++ gs) ≡ keys fs ++ keys gs
  keys_both [] gs = refl
  keys_both (f ∷ fs) gs = ap (λ ks. f.0 ∷ ks) (keys_both fs gs)

  length_keys : (fs : List (Instance N × Value N)) → length (keys fs) ≡ length fs
  length_keys [] = refl
  length_keys (f ∷ fs) = ap suc (length_keys fs)

  -- one more among those that were found
  pub one_among : (x : Instance N × Value N) (old new : List (Instance N × Value N)) → IsOneMore x old new → (y : Instance N × Value N) → Among y new → Among y old ⊎ (y ≡ x)
  one_among x _ _ (between front back) y h = elim (among_either front (x ∷ back) y h) [
    | inl a ↦ inl (among_left y front back a)
    | inr (inl e) ↦ inr e
    | inr (inr b) ↦ inl (among_right y front back b)
  ]

  one_key : (x : Instance N × Value N) (old new : List (Instance N × Value N)) → IsOneMore x old new → (i : Instance N) → Among i (keys new) → Among i (keys old) ⊎ (i ≡ x.0)
  one_key x _ _ (between front back) i h = elim (among_either (keys front) (x.0 ∷ keys back) i (subst (Among i) (keys_both front (x ∷ back)) h)) [
    | inl a ↦ inl (subst (Among i) (sym (keys_both front back)) (among_left i (keys front) (keys back) a))
    | inr (inl e) ↦ inr e
    | inr (inr b) ↦ inl (subst (Among i) (sym (keys_both front back)) (among_right i (keys front) (keys back) b))
  ]

  one_distinct : (x : Instance N × Value N) (old new : List (Instance N × Value N)) → IsOneMore x old new → Distinct (keys old) → (Among x.0 (keys old) → ⊥) → Distinct (keys new)
  one_distinct x _ _ (between front back) d n =
      subst Distinct (sym (keys_both front (x ∷ back))) (distinct_between (keys front) x.0 (keys back)
      (subst Distinct (keys_both front back) d) (λ a. n (subst (Among x.0) (sym (keys_both front back)) a)))

  one_length : (x : Instance N × Value N) (old new : List (Instance N × Value N)) → IsOneMore x old new → length new ≡ length old + 1
  one_length x _ _ (between front back) = let a = length_both front (x ∷ back) in let b = length_both front back in omega (arith, a, b)

module _ {N : Type 0} (look : Contents N) (equation : Equations N) where
  walks_push : (w : Instance N) (ws : List (Instance N)) (i j : Instance N) → Walks look equation w ws i → Comes look equation i j → Walks look equation w (ws ++ i ∷ []) j
  walks_push w [] i j all one = (all, one)
  walks_push w (v ∷ vs) i j all one = (all.0, walks_push v vs i j all.1 one)

  walks_pop : (w : Instance N) (ws : List (Instance N)) (i j : Instance N) → Walks look equation w (ws ++ i ∷ []) j → Walks look equation w ws i × Comes look equation i j
  walks_pop w [] i j all = all
  walks_pop w (v ∷ vs) i j all = let r = walks_pop v vs i j all.1 in ((all.0, r.0), r.1)

  chains_push : (ws : List (Instance N)) (i j : Instance N) → Chains look equation ws i → Comes look equation i j → Chains look equation (ws ++ i ∷ []) j
  chains_push [] i j all one = one
  chains_push (w ∷ ws) i j all one = walks_push w ws i j all one

  chains_pop : (ws : List (Instance N)) (i j : Instance N) → Chains look equation (ws ++ i ∷ []) j → Chains look equation ws i × Comes look equation i j
  chains_pop [] i j all = (tt, all)
  chains_pop (w ∷ ws) i j all = walks_pop w ws i j all

  -- the first of the chain leads to the last one
  pub leads_last : (ws : List (Instance N)) (i : Instance N) → Chains look equation ws i → Leads look equation (get_or ws 0 i) i
  leads_last [] i all = inl refl
  leads_last (w ∷ ws) i all = inr (ws, all)

  -- a walk leads to each that it meets
  walks_each : (w : Instance N) (ws : List (Instance N)) (i x : Instance N) → Walks look equation w ws i → Among x (w ∷ ws ++ i ∷ []) → Leads look equation w x
  walks_each w ws i x all (inl e) = inl (sym e)
  walks_each w [] i x all (inr (inl e)) = inr ([], subst (λ z. Comes look equation w z) (sym e) all)
  walks_each w [] i x all (inr (inr n)) = absurd n
  walks_each w (v ∷ vs) i x all (inr h) = elim (walks_each v vs i x all.1 h) [
    | inl e ↦ inr ([], subst (λ z. Comes look equation w z) e all.0)
    | inr p ↦ inr (v ∷ p.0, (all.0, p.1))
  ]

  leads_each : (ws : List (Instance N)) (i x : Instance N) → Chains look equation ws i → Among x (ws ++ i ∷ []) → Leads look equation (get_or ws 0 i) x
  leads_each [] i x all (inl e) = inl (sym e)
  leads_each [] i x all (inr n) = absurd n
  leads_each (w ∷ ws) i x all h = walks_each w ws i x all h

  -- a chain whose last one comes to one of it is a circle
  circle : (ws : List (Instance N)) (i j q : Instance N) → get_or ws 0 i ≡ q → Chains look equation ws i
      → Distinct (ws ++ i ∷ []) → Comes look equation i j → Among j (ws ++ i ∷ []) → Circular look equation q j
  circle [] i j q e all d c h = subst (λ x. Circular look equation x j) e ([], d, c, h)
  circle (w ∷ ws) i j q e all d c h = subst (λ x. Circular look equation x j) e (ws ++ i ∷ [], d, walks_push w ws i j all c, h)

  -- as it is posted
  pub begun : (q : Instance N) → IsOn look equation q (posted q)
  begun q = record { starts = refl; chains = tt; holds = λ i v n. absurd n; led = λ i n. absurd n; distinct = (λ h. h, tt); once = tt; apart = λ i h n. n }

  module _ (q : Instance N) (u : UnderWay N) (on : IsOn look equation q u) where
    pub all_led : (i : Instance N) → Among i (chain u ++ keys u.found) → Leads look equation q i
    all_led i h = elim (among_either (chain u) (keys u.found) i h) [
      | inl a ↦ subst (λ x. Leads look equation x i) on.starts (leads_each u.waiting u.last i on.chains a)
      | inr b ↦ on.led i b
    ]

    pub all_apart : Distinct (chain u ++ keys u.found)
    all_apart = distinct_both (chain u) (keys u.found) on.distinct on.once on.apart

    -- a turn leaves it so
    pub stays_on : (kept : Known N) (new : UnderWay N) (o : Option (Answer N)) → Turned look equation kept u new o → IsOn look equation q new
    stays_on kept _ _ (is_kept v e h) = on
    stays_on kept _ _ (finds v e h r) = on
    stays_on kept _ _ (faults f h) = on
    stays_on kept _ _ (closes j c a) = on
    stays_on kept _ _ (deepens j c apart unknown) = record {
      starts = first_push u.waiting u.last j ∙ on.starts;
      chains = chains_push u.waiting u.last j on.chains c;
      holds = on.holds;
      led = on.led;
      distinct = distinct_push (chain u) j on.distinct apart;
      once = on.once;
      apart = λ i h k. elim (among_push (chain u) i j h) [ inl a ↦ on.apart i a k | inr e ↦ unknown (inr (subst (λ x. Among x (keys u.found)) e k)) ];
    }
    stays_on kept _ _ (ascends rest i v found e h r more) =
        let whole : chain u ≡ (rest ++ i ∷ []) ++ u.last ∷ [] = ap (λ ws. ws ++ u.last ∷ []) e in
        let split = chains_pop rest i u.last (subst (λ ws. Chains look equation ws u.last) e on.chains) in
        let parts = distinct_pop (rest ++ i ∷ []) u.last (subst Distinct whole on.distinct) in
        let fresh : Among u.last (keys u.found) → ⊥ = on.apart u.last (among_last u.waiting u.last) in
        record {
          starts = sym (ap (λ ws. get_or ws 0 u.last) e ∙ first_push rest i u.last) ∙ on.starts;
          chains = split.0;
          holds = λ j w a. elim (one_among (u.last, v) u.found found more (j, w) a) [
            | inl b ↦ on.holds j w b
            | inr s ↦ subst (λ (p : Instance N × Value N). HasValue look equation p.0 p.1) (sym s) h
          ];
          led = λ j a. elim (one_key (u.last, v) u.found found more j a) [
            | inl b ↦ on.led j b
            | inr s ↦ subst (λ x. Leads look equation q x) (sym s) (subst (λ x. Leads look equation x u.last) on.starts (leads_last u.waiting u.last on.chains))
          ];
          distinct = parts.0;
          once = one_distinct (u.last, v) u.found found more on.once fresh;
          apart = λ j a b. elim (one_key (u.last, v) u.found found more j b) [
            | inl k ↦ on.apart j (subst (Among j) (sym whole) (among_left j (rest ++ i ∷ []) (u.last ∷ []) a)) k
            | inr s ↦ parts.1 (subst (λ x. Among x (rest ++ i ∷ [])) s a)
          ];
        }

    -- an answer is that of the question
    pub answers_right : (kept : Known N) (new : UnderWay N) (a : Answer N) → Turned look equation kept u new (Some a) → Answers look equation q a
    answers_right kept _ _ (is_kept v e h) = subst (λ x. HasValue look equation x v) on.starts h
    answers_right kept _ _ (finds v e h r) = subst (λ x. HasValue look equation x v) (sym (ap (λ ws. get_or ws 0 u.last) e) ∙ on.starts) h
    answers_right kept _ _ (faults f h) = led_fault look equation q u.last f u.last (subst (λ x. Leads look equation x u.last) on.starts (leads_last u.waiting u.last on.chains)) h
    answers_right kept _ _ (closes j c a) = circle u.waiting u.last j q on.starts on.chains on.distinct c a

  -- a turn without an answer counts one
  pub one_turn : (kept : Known N) (u new : UnderWay N) → Turned look equation kept u new None → 2 * length new.found + length new.waiting ≡ suc (2 * length u.found + length u.waiting)
  one_turn kept u _ (deepens j c apart unknown) = let l : length (chain u) ≡ length u.waiting + 1 = length_both u.waiting (u.last ∷ []) in omega (arith, l)
  one_turn kept u _ (ascends rest i v found e h r more) =
      let l : length u.waiting ≡ length rest + 1 = ap length e ∙ length_both rest (i ∷ []) in
      let f = one_length (u.last, v) u.found found more in
      omega (arith, l, f)

  -- so many turns: the found ones count two each, and those that wait one
  pub turns_are : (n : ℕ) (q : Instance N) (u new : UnderWay N) → Silent look equation n u new → IsOn look equation q u →
      IsOn look equation q new × (2 * length new.found + length new.waiting ≡ n + (2 * length u.found + length u.waiting))
  turns_are _ q _ _ (none u) on = (on, omega arith)
  turns_are _ q u new (one_more {n = n} {mid = mid} kept before turned) on =
      let (at, count) = turns_are n q u mid before on in
      let one = one_turn kept mid new turned in
      (stays_on q mid at kept new None turned, omega (arith, one, count))

  pub all_many : (u : UnderWay N) → length (chain u ++ keys u.found) ≡ length u.waiting + 1 + length u.found
  all_many u = length_both (chain u) (keys u.found) ∙ ap (λ m. m + length (keys u.found)) (length_both u.waiting (u.last ∷ [])) ∙ ap (λ m. length u.waiting + 1 + m) (length_keys u.found)

  -- and all of them stand in whichever list has all that the question leads to
  pub few_turns : (n : ℕ) (q : Instance N) (new : UnderWay N) (universe : List (Instance N)) → Silent look equation n
      (posted q) new → ((i : Instance N) → Leads look equation q i → Among i universe) → n + 2 ≤ 2 * length universe
  few_turns n q new universe silent listed =
      let (on, count) = turns_are n q (posted q) new silent (begun q) in
      let fewer = no_more (chain new ++ keys new.found) universe (all_apart q new on) (λ i h. listed i (all_led q new on i h)) in
      let size = all_many new in
      omega (arith, size, fewer, count)
