-- Where nodes go over a move, and that no two go to one.
use Rattle.std.proofs.Common.{◌≡◌, ℕ, ◌<◌, Bool, true, false, not, ◌&&◌, nat_eq, if◌then◌else◌, [], ◌∷◌, ◌++◌, drop, Option, Some, None, refl, sym, ap, ◌∙◌, subst, arith, option_map, option_and_then, ◌⊎◌, inl, inr}
use Rattle.std.specs.Prelude.{is_none}
use Rattle.at_model.specs.Paths.{Node, step_eq, node_eq, is_within, is_child, steps_below, parent_of}
use Rattle.at_model.specs.Edits.{Move, moved_under, past_drop, past_insert, past_taking, carried}
use Rattle.at_model.specs.Alike.{IsInjective}
use Rattle.at_model.proofs.Options.{led, mapped, and_false}
use Rattle.at_model.proofs.Nodes.{step_eq-sound, step_eq-refl, node_eq-sound, node_eq-refl}
use Rattle.at_model.proofs.WayUp.{snoc, parent_of-snoc}
use Rattle.at_model.proofs.of_edits.Moving.{Way, IsApart, moved_apart, moved-nil, moved-snoc}
use Rattle.at_model.proofs.of_edits.Ways.{same_some, drop_apart, drop_keeps, insert_apart, InsertWay, insert_way}
use Rattle.at_model.proofs.of_edits.Ways as way
use Rattle.at_model.proofs.of_edits.Surviving.{out_taken, none_moved_out, insert_out}

-- the steps below a node ----------------------------------------------------------------------------------------------

pub below_is : (a n rest : Node) → steps_below a n ≡ Some rest → n ≡ a ++ rest
below_is [] n rest e = same_some n rest e
below_is (s ∷ ss) [] rest e = absurd cc
below_is (s ∷ ss) (u ∷ us) rest e = by_step (step_eq s u) refl e (below_is ss us rest)
  where
    by_step : (b : Bool) → step_eq s u ≡ b → (if b then steps_below ss us else None) ≡ Some rest → (steps_below ss us ≡ Some rest → us ≡ ss ++ rest) → u ∷ us ≡ s ∷ (ss ++ rest)
    by_step false same e more = absurd cc
    by_step true same e more =
        let head = sym (step_eq-sound s u same) in
        let tails = more e in
        λ i. head i ∷ tails i

pub below_append : (a rest : Node) → steps_below a (a ++ rest) ≡ Some rest
below_append [] rest = refl
below_append (s ∷ ss) rest = ap (λ (b : Bool). if b then steps_below ss (ss ++ rest) else None) (step_eq-refl s) ∙ below_append ss rest

pub below_within : (a n : Node) → is_none (steps_below a n) ≡ false → is_within a n ≡ true
below_within [] n e = refl
below_within (s ∷ ss) [] e = absurd cc
below_within (s ∷ ss) (u ∷ us) e = by_step (step_eq s u) e (below_within ss us)
  where
    by_step : (b : Bool) → is_none (if b then steps_below ss us else None) ≡ false → (is_none (steps_below ss us) ≡ false → is_within ss us ≡ true) → (b && is_within ss us) ≡ true
    by_step true e more = more e
    by_step false e more = absurd cc

pub none_below : (a n : Node) → is_within a n ≡ false → steps_below a n ≡ None
none_below a n e = by_option (steps_below a n) refl
  where
    by_option : (o : Option Node) → steps_below a n ≡ o → o ≡ None
    by_option None is = refl
    by_option (Some rest) is = let f : true ≡ false = sym (below_within a n (ap is_none is)) ∙ e in absurd cc

within_below : (a n : Node) → is_within a n ≡ true → steps_below a n ≡ None → ⊥
within_below [] n w e = cc
within_below (s ∷ ss) [] w e = cc
within_below (s ∷ ss) (u ∷ us) w e = by_step (step_eq s u) w e (within_below ss us)
  where
    by_step : (b : Bool) → (b && is_within ss us) ≡ true → (if b then steps_below ss us else None) ≡ None → (is_within ss us ≡ true → steps_below ss us ≡ None → ⊥) → ⊥
    by_step true w e more = more w e
    by_step false w e more = cc

pub same_behind : (a r s : Node) → a ++ r ≡ a ++ s → r ≡ s
same_behind [] r s e = e
same_behind (x ∷ a) r s e = same_behind a r s (ap (drop 1) e)

-- a node that is taken out goes nowhere -------------------------------------------------------------------------------

pub taken_apart : (node : Node) → IsInjective (past_taking node)
taken_apart node a b c e f = at_parent (parent_of node) e f
  where
    at_parent : (o : Option (Node × Way)) → elim o [ None ↦ None | Some p ↦ moved_under p.0 (past_drop p.1) a ] ≡ Some c
        → elim o [ None ↦ None | Some p ↦ moved_under p.0 (past_drop p.1) b ] ≡ Some c → a ≡ b
    at_parent None e f = absurd cc
    at_parent (Some p) e f = moved_apart (past_drop p.1) (drop_apart p.1) p.0 a b c e f

-- what goes somewhere when a node is taken out is not that node, and not below it
pub taken_outside : (node n k : Node) → past_taking node n ≡ Some k → is_within node n ≡ false
taken_outside node n k e = sym (out_taken node n) ∙ ap is_none e

-- nothing but what is moved goes to the new place ---------------------------------------------------------------------

never_there : (place s : Way) → InsertWay place s place → ⊥
never_there place s (way.behind a less b next) = omega arith
never_there place s (way.stays is less) =
    let same : s.0 ≡ place.0 = ap (λ (w : Way). w.0) (sym is) in
    let index : place.1 ≡ s.1 = ap (λ (w : Way). w.1) is in
    let small : s.1 < place.1 = less same in omega arith

pub never_new : (place : Way) (q k rest : Node) → moved_under q (past_insert place) k ≡ Some (q ++ place ∷ rest) → ⊥
never_new place [] [] rest e = cc
never_new place [] (s ∷ ss) rest e =
    let (u, is, f) = mapped (λ (w : Way). w ∷ ss) (past_insert place s) (place ∷ rest) e in
    let same : u ≡ place = cc in
    never_there place s (insert_way place s place (is ∙ ap Some same))
never_new place (a ∷ q) [] rest e = cc
never_new place (a ∷ q) (s ∷ ss) rest e = by_step (step_eq a s) refl e (never_new place q ss rest)
  where
    by_step : (b : Bool) → step_eq a s ≡ b → (if b then option_map (λ (us : Node). s ∷ us) (moved_under q (past_insert place) ss) else Some (s ∷ ss)) ≡ Some (a ∷ (q ++ place ∷ rest)) →
        (moved_under q (past_insert place) ss ≡ Some (q ++ place ∷ rest) → ⊥) → ⊥
    by_step true t e more =
        let (us, is, f) = mapped (λ (us : Node). s ∷ us) (moved_under q (past_insert place) ss) (a ∷ (q ++ place ∷ rest)) e in
        let tails : us ≡ q ++ place ∷ rest = ap (drop 1) f in
        more (is ∙ ap Some tails)
    by_step false t e more =
        let f = same_some (s ∷ ss) (a ∷ (q ++ place ∷ rest)) e in
        let head : s ≡ a = cc in
        let g : true ≡ false = sym (step_eq-refl a) ∙ subst (λ (x : Way). step_eq a x ≡ false) head t in cc

-- how a node goes -----------------------------------------------------------------------------------------------------

-- along with what is moved, or as it does when that is taken out and put in
pub data Goes (node q : Node) (part index : ℕ) (n m : Node) : Type 0 where
  along : (rest : Node) → n ≡ node ++ rest → m ≡ q ++ (part, index) ∷ rest → Goes node q part index n m
  apart : (k : Node) → past_taking node n ≡ Some k → moved_under q (past_insert (part, index)) k ≡ Some m → Goes node q part index n m

module _ (node to : Node) (part index : ℕ) where
  -- where a node goes, by where the target goes and by what is below what is moved
  abbrev pub went : Node → Option Node → Option Node → Option Node
  went n o below = elim o [
    | None ↦ None
    | Some q ↦ elim below [
      | None ↦ option_and_then (moved_under q (past_insert (part, index))) (past_taking node n)
      | Some rest ↦ Some (q ++ (part, index) ∷ rest)
    ]
  ]

  pub goes : (n m : Node) → carried (Move node to part index) n ≡ Some m → (q : Node) × (past_taking node to ≡ Some q) × Goes node q part index n m
  goes n m e = by_options (past_taking node to) (steps_below node n) refl refl e
    where
      by_options : (o below : Option Node) → past_taking node to ≡ o → steps_below node n ≡ below → went n o below ≡ Some m → (q : Node) × (past_taking node to ≡ Some q) × Goes node q part index n m
      by_options None below is under e = absurd cc
      by_options (Some q) (Some rest) is under e = (q, is, along rest (below_is node n rest under) (sym (same_some _ m e)))
      by_options (Some q) None is under e = let (k, taken, put) = led (moved_under q (past_insert (part, index))) (past_taking node n) m e in (q, is, apart k taken put)

  pub goes_along : (q rest : Node) → past_taking node to ≡ Some q → carried (Move node to part index) (node ++ rest) ≡ Some (q ++ (part, index) ∷ rest)
  goes_along q rest is = ap (λ o. went (node ++ rest) o (steps_below node (node ++ rest))) is ∙ ap (went (node ++ rest) (Some q)) (below_append node rest)

  pub goes_apart : (q n k : Node) → past_taking node to ≡ Some q → past_taking node n ≡ Some k → carried (Move node to part index) n ≡ moved_under q (past_insert (part, index)) k
  goes_apart q n k is taken =
      ap (λ o. went n o (steps_below node n)) is ∙
      ap (went n (Some q)) (none_below node n (taken_outside node n k taken)) ∙
      ap (option_and_then (moved_under q (past_insert (part, index)))) taken

  -- no two nodes go to one
  pub move_apart : IsInjective (carried (Move node to part index))
  move_apart a b c e f =
      let (q, is, g) = goes a c e in
      let (r, js, h) = goes b c f in
      let same : r ≡ q = same_some r q (sym js ∙ is) in
      by_ways q g (subst (λ (x : Node). Goes node x part index b c) same h)
    where
      by_ways : (q : Node) → Goes node q part index a c → Goes node q part index b c → a ≡ b
      by_ways q (along rest is to) (along more js also) =
          let tails : (part, index) ∷ rest ≡ (part, index) ∷ more = same_behind q _ _ (sym to ∙ also) in
          is ∙ ap (λ (x : Node). node ++ x) (ap (drop 1) tails) ∙ sym js
      by_ways q (along rest is to) (apart k taken put) = absurd (never_new (part, index) q k rest (put ∙ ap Some to))
      by_ways q (apart k taken put) (along rest is to) = absurd (never_new (part, index) q k rest (put ∙ ap Some to))
      by_ways q (apart k taken put) (apart l also put') =
          let same = moved_apart (past_insert (part, index)) (insert_apart (part, index)) q k l c put put' in
          taken_apart node a b k taken (also ∙ ap Some (sym same))

  -- over a move to a node outside, each node goes somewhere
  pub stays_somewhere : (n q : Node) → past_taking node to ≡ Some q → is_none (carried (Move node to part index) n) ≡ false
  stays_somewhere n q is = by_below (steps_below node n) refl
    where
      nowhere : (place : Way) (p k : Node) → is_none (moved_under p (past_insert place) k) ≡ false
      nowhere place p k = none_moved_out (past_insert place) (insert_out place) p k

      by_taken : (o : Option Node) → past_taking node n ≡ o → is_none o ≡ is_within node n → steps_below node n ≡ None → is_none (option_and_then (moved_under q (past_insert (part, index))) o) ≡ false
      by_taken (Some k) taken out under = nowhere (part, index) q k
      by_taken None taken out under = absurd (within_below node n (sym out) under)

      by_below : (below : Option Node) → steps_below node n ≡ below → is_none (carried (Move node to part index) n) ≡ false
      by_below (Some rest) under = ap (λ o. is_none (went n o (steps_below node n))) is ∙ ap (λ o. is_none (went n (Some q) o)) under
      by_below None under =
          ap (λ o. is_none (went n o (steps_below node n))) is ∙ ap (λ o. is_none (went n (Some q) o)) under ∙
          by_taken (past_taking node n) refl (out_taken node n) under

-- what is seen of nodes after one was taken out -----------------------------------------------------------------------

-- two nodes are the same after it exactly where they were before
pub taken_same : (node a b c d : Node) → past_taking node a ≡ Some c → past_taking node b ≡ Some d → node_eq a b ≡ false → node_eq c d ≡ false
taken_same node a b c d e f differ = by_test (node_eq c d) refl
  where
    by_test : (t : Bool) → node_eq c d ≡ t → t ≡ false
    by_test false is = refl
    by_test true is =
        let same = node_eq-sound c d is in
        let g = taken_apart node a b c e (f ∙ ap Some (sym same)) in
        let h : true ≡ false = sym (node_eq-refl a) ∙ subst (λ (x : Node). node_eq a x ≡ false) (sym g) differ in absurd cc

pub both_off : (a b c : Bool) → (a && c) ≡ false → (a ≡ false → b ≡ false) → (b && c) ≡ false
both_off a b false e f = and_false b
both_off true b true e f = absurd cc
both_off false b true e f = ap (λ x. x && true) (f refl)

-- a node stands below another exactly where it did before
within_on : (past : Way → Option Way) → IsApart past → (p a b c d : Node) → moved_under p past a ≡ Some c → moved_under p past b ≡ Some d → is_within c d ≡ is_within a b
within_on past alone p [] b c d e f = let g : [] ≡ c = same_some [] c (sym (moved-nil past p) ∙ e) in ap (λ x. is_within x d) (sym g)
within_on past alone [] (s ∷ ss) [] c d e f =
    let (u, is, g) = mapped (λ (w : Way). w ∷ ss) (past s) c e in
    let h : [] ≡ d = same_some [] d f in
    ap (λ x. is_within x d) (sym g) ∙ ap (is_within (u ∷ ss)) (sym h)
within_on past alone [] (s ∷ ss) (r ∷ rs) c d e f =
    let (u, is, g) = mapped (λ (w : Way). w ∷ ss) (past s) c e in
    let (v, js, h) = mapped (λ (w : Way). w ∷ rs) (past r) d f in
    ap (λ x. is_within x d) (sym g) ∙ ap (is_within (u ∷ ss)) (sym h) ∙ ap (λ b. b && is_within ss rs) (steps u v is js)
  where
    agree : (b c : Bool) → (b ≡ true → c ≡ true) → (c ≡ true → b ≡ true) → b ≡ c
    agree true c f g = sym (f refl)
    agree false true f g = g refl
    agree false false f g = refl

    steps : (u v : Way) → past s ≡ Some u → past r ≡ Some v → step_eq u v ≡ step_eq s r
    steps u v is js = agree (step_eq u v) (step_eq s r)
        (λ t. let x = step_eq-sound u v t in let y = alone s r v (is ∙ ap Some x) js in subst (λ (z : Way). step_eq s z ≡ true) y (step_eq-refl s))
        (λ t. let x = step_eq-sound s r t in let y = same_some u v (sym is ∙ ap past x ∙ js) in subst (λ (z : Way). step_eq u z ≡ true) y (step_eq-refl u))
within_on past alone (x ∷ p) (s ∷ ss) [] c d e f =
    let h : [] ≡ d = same_some [] d (sym (moved-nil past (x ∷ p)) ∙ f) in
    ap (is_within c) (sym h) ∙ at_front (step_eq x s) e
  where
    at_front : (b : Bool) → (if b then option_map (λ (us : Node). s ∷ us) (moved_under p past ss) else Some (s ∷ ss)) ≡ Some c → is_within c [] ≡ false
    at_front true e = let (k, is, g) = mapped (λ (us : Node). s ∷ us) (moved_under p past ss) c e in ap (λ y. is_within y []) (sym g)
    at_front false e = ap (λ y. is_within y []) (sym (same_some (s ∷ ss) c e))
within_on past alone (x ∷ p) (s ∷ ss) (r ∷ rs) c d e f = deeper (step_eq x s) (step_eq x r) refl refl e f (within_on past alone p ss rs)
  where
    differ : (b : Bool) → step_eq x s ≡ b → step_eq x r ≡ not b → step_eq s r ≡ false
    differ b t w = by_test (step_eq s r) refl
      where
        by_test : (y : Bool) → step_eq s r ≡ y → y ≡ false
        by_test false is = refl
        by_test true is =
            let same = step_eq-sound s r is in
            let z : step_eq x r ≡ b = subst (λ (y : Way). step_eq x y ≡ b) same t in
            absurd (no_turn b (sym z ∙ w))
          where
            no_turn : (b : Bool) → b ≡ not b → ⊥
            no_turn true e = cc
            no_turn false e = cc

    deeper : (b g : Bool) → step_eq x s ≡ b → step_eq x r ≡ g → (if b then option_map (λ (us : Node). s ∷ us) (moved_under p past ss) else Some (s ∷ ss)) ≡ Some c →
        (if g then option_map (λ (us : Node). r ∷ us) (moved_under p past rs) else Some (r ∷ rs)) ≡ Some d →
        ((k j : Node) → moved_under p past ss ≡ Some k → moved_under p past rs ≡ Some j → is_within k j ≡ is_within ss rs) → is_within c d ≡ (step_eq s r && is_within ss rs)
    deeper true true t w e f more =
        let (k, is, g) = mapped (λ (us : Node). s ∷ us) (moved_under p past ss) c e in
        let (j, js, h) = mapped (λ (us : Node). r ∷ us) (moved_under p past rs) d f in
        ap (λ y. is_within y d) (sym g) ∙ ap (is_within (s ∷ k)) (sym h) ∙ ap (λ b. step_eq s r && b) (more k j is js)
    deeper true false t w e f more =
        let (k, is, g) = mapped (λ (us : Node). s ∷ us) (moved_under p past ss) c e in
        let h = same_some (r ∷ rs) d f in
        ap (λ y. is_within y d) (sym g) ∙ ap (is_within (s ∷ k)) (sym h) ∙ ap (λ b. b && is_within k rs) (differ true t w) ∙ sym (ap (λ b. b && is_within ss rs) (differ true t w))
    deeper false true t w e f more =
        let (j, js, h) = mapped (λ (us : Node). r ∷ us) (moved_under p past rs) d f in
        let g = same_some (s ∷ ss) c e in
        ap (λ y. is_within y d) (sym g) ∙ ap (is_within (s ∷ ss)) (sym h) ∙ ap (λ b. b && is_within ss j) (differ false t w) ∙ sym (ap (λ b. b && is_within ss rs) (differ false t w))
    deeper false false t w e f more =
        let g = same_some (s ∷ ss) c e in
        let h = same_some (r ∷ rs) d f in
        ap (λ y. is_within y d) (sym g) ∙ ap (is_within (s ∷ ss)) (sym h)

pub taken_within : (node a b c d : Node) → past_taking node a ≡ Some c → past_taking node b ≡ Some d → is_within c d ≡ is_within a b
taken_within node a b c d e f = at_parent (parent_of node) e f
  where
    at_parent : (o : Option (Node × Way)) → elim o [ None ↦ None | Some p ↦ moved_under p.0 (past_drop p.1) a ] ≡ Some c
        → elim o [ None ↦ None | Some p ↦ moved_under p.0 (past_drop p.1) b ] ≡ Some d → is_within c d ≡ is_within a b
    at_parent None e f = absurd cc
    at_parent (Some p) e f = within_on (past_drop p.1) (drop_apart p.1) p.0 a b c d e f

-- so is the index of a child
pub taken_child : (node to n q k : Node) (part : ℕ) → past_taking node to ≡ Some q → past_taking node n ≡ Some k → is_child to part n ≡ false → is_child q part k ≡ false
taken_child node to n q k part is taken off = at_parent (parent_of node) refl (snoc n)
  where
    child_of : (x m : Node) (s : Way) (y : Node) → y ≡ m ++ s ∷ [] → is_child x part y ≡ (node_eq x m && nat_eq part s.0)
    child_of x m s y e = ap (λ (o : Option (Node × Way)). elim o [ None ↦ false | Some z ↦ node_eq x z.0 && nat_eq part z.1.0 ]) (ap parent_of e ∙ parent_of-snoc m s)

    at_parent : (o : Option (Node × Way)) → parent_of node ≡ o → (n ≡ []) ⊎ ((m : Node) × (s : Way) × (n ≡ m ++ s ∷ [])) → is_child q part k ≡ false
    at_parent None root end = let f : None ≡ Some k = sym (ap (λ (o : Option (Node × Way)). elim o [ None ↦ None | Some p ↦ moved_under p.0 (past_drop p.1) n ]) root) ∙ taken in absurd cc
    at_parent (Some p) above (inl none) =
        let moves : moved_under p.0 (past_drop p.1) n ≡ Some k = sym (ap (λ (o : Option (Node × Way)). elim o [ None ↦ None | Some p ↦ moved_under p.0 (past_drop p.1) n ]) above) ∙ taken in
        let f : [] ≡ k = same_some [] k (sym (moved-nil (past_drop p.1) p.0) ∙ ap (moved_under p.0 (past_drop p.1)) (sym none) ∙ moves) in
        ap (is_child q part) (sym f)
    at_parent (Some p) above (inr (m, s, ends)) =
        let moves : moved_under p.0 (past_drop p.1) n ≡ Some k = sym (ap (λ (o : Option (Node × Way)). elim o [ None ↦ None | Some p ↦ moved_under p.0 (past_drop p.1) n ]) above) ∙ taken in
        let w = moved-snoc (past_drop p.1) p.1.0 (drop_keeps p.1) p.0 m s k (subst (λ (x : Node). moved_under p.0 (past_drop p.1) x ≡ Some k) ends moves) in
        let up : past_taking node m ≡ Some w.parent = ap (λ (o : Option (Node × Way)). elim o [ None ↦ None | Some p ↦ moved_under p.0 (past_drop p.1) m ]) above ∙ w.up in
        let before : (node_eq to m && nat_eq part s.0) ≡ false = sym (child_of to m s n ends) ∙ off in
        child_of q w.parent w.step k w.is ∙ ap (λ (x : ℕ). node_eq q w.parent && nat_eq part x) w.part_same ∙
        both_off (node_eq to m) (node_eq q w.parent) (nat_eq part s.0) before (λ none. taken_same node to m q w.parent is up none)
