-- Typed expressions are evaluated to values of their kinds.
use Rattle.std.proofs.Common.{◌≡◌, ℕ, zero, suc, ◌+◌, ◌<◌, ◌≤◌, ℤ, pos, negsuc, Bool, true, false, cond, List, [], ◌∷◌, ◌++◌, length, Option, Some, None, refl, sym, ap, ◌∙◌, subst, arith}
use Rattle.std.specs.Prelude.{IsSome, IfSome, option_map, option_and_then, nat_le, FitsSigned, int_rem}
use Rattle.std.specs.List.{slice_get, AllByRecursion}
use Rattle.std.specs.Int.{w32, cast_signed, int_wrapping_add}
use Rattle.std.proofs.lemmas.Bool.{leb-true}
use Rattle.at_model.specs.Classes.{TokenKind, Shape, Component, Many, Token, class_in, parts, is_sub}
use Rattle.at_model.specs.Classes as class
use Rattle.at_model.specs.Terms.{IsInt32}
use Rattle.at_model.specs.Drawers.{Key, mark_of}
use Rattle.at_model.specs.Run.{Value, Int, Truth, Text, Ref, Nodes, Is, Slot, Up, Idx, Contents, Run, Gives, Fails, Looks, Demands, ◌>>=◌, Absent, Index, Cast, Long}
use Rattle.at_model.specs.Bodies.{Expr, Exprs, TextLiteral, Name, Operator, Multiply, Divide, Remainder, Add, Subtract, TokenOf, Scope, bound, int_of, truth_of, ref_of, named, node_of, node_or, child_of, element_at, element_of, count_of, has_of, token_of, demand_of, quotient, remainder, computed, joined, is_instance, cast_to, index_of, exists_in, first_in, sum_in, elements_of, drawer_of, text_of, nodes_of, is_among, with_one, with_more, made, max_list, only, gather_in, close_in, max_turns, tree_parts, children_in, children_of, up_of, eval, eval_all, Passed, max_passed, is_text_within, max_step, may_pass, passed}
use Rattle.at_model.specs.Rules.{Rules, Kind, Attribute}
use Rattle.at_model.specs.Rules as kind
use Rattle.at_model.specs.Kinds.{ScopeKinds, HasKind, HaveKinds, IsArgumentForm, IsTop, bound_kinds, shape_of_part, class_of_part, single_class, kind_of_token}
use Rattle.at_model.specs.Kinds as has
use Rattle.at_model.specs.TypedRuns.{ClassAt, Texts, IsTypedRun, IsNodeOf, IsOfKind, IsAllowed, AreArguments, IsLocationThere, AreContentsTyped, IsOfScopeKinds}
use Rattle.at_model.specs.Instances.{literals, all_literals, texts_within}
use Rattle.at_model.proofs.Below.{AreChained, sub_sub, shape_below, asked_below, single_is_asked}
use Rattle.at_model.proofs.of_typing.TypedSteps.{then_typed, less_typed, either_typed}
use borrow.Author.Differences.{fits_in, read_fits}
use lib.Signed.{mag_rem}
use Rattle.at_model.proofs.Everywhere.{both_all, all_both, found}
use Rattle.at_model.proofs.WithinTree.{some_there}
use Rattle.at_model.proofs.Listed.{of_one, short_listed}

-- the two ways to say that an int has 32 bits
fits_32 : (n : ℤ) → IsInt32 n → FitsSigned w32 n
fits_32 (pos n) h = omega arith
fits_32 (negsuc n) h = omega arith

is_32 : (n : ℤ) → FitsSigned w32 n → IsInt32 n
is_32 (pos n) f = f.sfits
is_32 (negsuc n) f = f.sfits

pub read_back : (m : ℕ) → IsInt32 (cast_signed w32 m)
read_back m = is_32 (cast_signed w32 m) (omega (arith, fits_in, read_fits w32 m))

natural_fits : (n : ℕ) → n < 2147483648 → IsInt32 (pos n)
natural_fits n h = h

rem_fits : (a d : ℤ) → IsInt32 a → IsInt32 (int_rem a d)
rem_fits a d f = let g = fits_32 a f in is_32 (int_rem a d) (record { sfits = omega (arith, mag_rem a d, g.sfits) })

module _ {N : Type 0} (rules : Rules) (lined : AreChained rules.classes) (at : ClassAt N) (Allowed : Texts)
    (look : Contents N) (contents : AreContentsTyped rules.classes at Allowed look) (same : N → N → Bool) where
  abbrev Typed : {A : Type 0} → (A → Type 0) → Run N A → Type 0
  Typed Q r = IsTypedRun rules at Allowed look Q r

  abbrev Is' : Kind → Value N → Type 0
  Is' k v = IsOfKind rules.classes at v k

  int_fits : (v : Value N) → Is' kind.Int v → IsInt32 (int_of v)
  int_fits (Int n) h = h
  int_fits (Truth b) h = absurd h
  int_fits (Text bytes) h = absurd h
  int_fits (Ref n) h = absurd h
  int_fits (Nodes ns) h = absurd h

  node_typed : (c : ℕ) (v : Value N) → Is' (kind.Class c) v → Typed (λ n. IsNodeOf rules.classes at n c) (node_of v)
  node_typed c (Int n) h = absurd h
  node_typed c (Truth b) h = absurd h
  node_typed c (Text bytes) h = absurd h
  node_typed c (Ref None) h = tt
  node_typed c (Ref (Some n)) h = h
  node_typed c (Nodes ns) h = absurd h

  ref_there : (c : ℕ) (v : Value N) → Is' (kind.Class c) v → IfSome (ref_of v) (λ n. IsNodeOf rules.classes at n c)
  ref_there c (Int n) h = absurd h
  ref_there c (Truth b) h = absurd h
  ref_there c (Text bytes) h = absurd h
  ref_there c (Ref n) h = h
  ref_there c (Nodes ns) h = absurd h

  -- they are all of the class or below
  abbrev AllOf : ℕ → List N → Type 0
  AllOf c ns = AllByRecursion (λ m. IsNodeOf rules.classes at m c) ns

  pub nodes_there : (c : ℕ) (v : Value N) → Is' (kind.Nodes c) v → AllOf c (nodes_of v)
  nodes_there c (Int n) h = absurd h
  nodes_there c (Truth b) h = absurd h
  nodes_there c (Text bytes) h = absurd h
  nodes_there c (Ref n) h = absurd h
  nodes_there c (Nodes ns) h = h.0

  one_more : (c : ℕ) (b : Bool) (ns : List N) (n : N) → AllOf c ns → IsNodeOf rules.classes at n c → AllOf c (cond b ns (ns ++ n ∷ []))
  one_more c true ns n h g = h
  one_more c false ns n h g = all_both (λ m. IsNodeOf rules.classes at m c) ns (n ∷ []) h (g, tt)

  more_typed : (c : ℕ) (ns ms : List N) → AllOf c ns → AllOf c ms → AllOf c (with_more same ns ms)
  more_typed c ns [] h g = h
  more_typed c ns (m ∷ ms) h (g, gs) = more_typed c (with_one same ns m) ms (one_more c (is_among same m ns) ns m h g) gs

  only_typed : (c : ℕ) (o : Option N) → IfSome o (λ n. IsNodeOf rules.classes at n c) → Is' (kind.Nodes c) (Nodes (only o))
  only_typed c None h = (tt, omega arith)
  only_typed c (Some n) h = ((h, tt), omega arith)

  -- a list that is made is short
  made_typed : (c : ℕ) (ns : List N) → AllOf c ns → Typed (Is' (kind.Nodes c)) (made ns)
  made_typed c ns h = by_test (nat_le (length ns) max_list) refl
    where
      by_test : (b : Bool) → nat_le (length ns) max_list ≡ b → Typed (Is' (kind.Nodes c)) (cond b (Gives (Nodes ns)) (Fails Long))
      by_test true e = (h, leb-true (length ns) max_list e)
      by_test false e = tt

  none_short : {A : Type 0} (as' : List A) (i : ℕ) → slice_get as' i ≡ None → length as' ≤ i
  none_short [] i e = omega arith
  none_short (a ∷ as') zero e = absurd (cc)
  none_short (a ∷ as') (suc i) e = let h = none_short as' i e in omega arith

  -- a node of a class, then what is asked of it
  pub of_node : {A : Type 0} (Q : A → Type 0) (c : ℕ) (v : Value N) (k : N → Run N A) → Is' (kind.Class c) v
      → ((n : N) (d : ℕ) → at n ≡ Some d → is_sub rules.classes d c ≡ true → Typed Q (k n)) → Typed Q (node_of v >>= k)
  of_node Q c v k h g = then_typed rules at Allowed look (λ n. IsNodeOf rules.classes at n c) Q (node_of v) k (node_typed c v h) (λ n there. g n there.0 there.1 there.2)

  slot_sought : (n : N) (d c part b : ℕ) → at n ≡ Some d → is_sub rules.classes d c ≡ true → class_of_part rules.classes c part ≡ Some b → IsLocationThere rules.classes at (Slot n part)
  slot_sought n d c part b e f g = (b, ap (option_and_then (λ c. class_of_part rules.classes c part)) e ∙ asked_below rules.classes lined d c part b class_in f g)

  slot_fits : (n : N) (d c part b : ℕ) → at n ≡ Some d → is_sub rules.classes d c ≡ true → class_of_part rules.classes c
      part ≡ Some b → AllByRecursion (λ m. IsNodeOf rules.classes at m b) (look (Slot n part))
  slot_fits n d c part b e f g = contents.children n d part b e (asked_below rules.classes lined d c part b class_in f g)

  many_asked : (c part b : ℕ) (s : Shape) → shape_of_part rules.classes c part ≡ Some s → class_in s ≡ Some b → class_of_part rules.classes c part ≡ Some b
  many_asked c part b s e f = ap (option_and_then class_in) e ∙ f

  node_or_typed : (b : ℕ) (f : Run N (Value N)) (o : Option N) → Typed (Is' (kind.Class b)) f → IfSome o (λ n. IsNodeOf rules.classes at n b) → Typed (Is' (kind.Class b)) (node_or f o)
  node_or_typed b f None g h = g
  node_or_typed b f (Some n) g h = h

  found_there : (b i : ℕ) (ns : List N) (o : Option N) → slice_get ns i ≡ o → AllByRecursion (λ m. IsNodeOf rules.classes at m b) ns → IfSome o (λ n. IsNodeOf rules.classes at n b)
  found_there b i ns None e h = tt
  found_there b i ns (Some n) e h = found (λ m. IsNodeOf rules.classes at m b) ns i n h e

  element_there : (b : ℕ) (i : ℤ) (ns : List N) → AllByRecursion (λ m. IsNodeOf rules.classes at m b) ns → IfSome (element_at ns i) (λ n. IsNodeOf rules.classes at n b)
  element_there b (pos i) ns h = found_there b i ns (slice_get ns i) refl h
  element_there b (negsuc i) ns h = tt

  child_typed : (c part b : ℕ) (v : Value N) → option_and_then single_class (shape_of_part rules.classes c part) ≡ Some b → Is' (kind.Class c) v → Typed (Is' (kind.Class b)) (child_of part v)
  child_typed c part b v e h =
      let asked = single_is_asked (shape_of_part rules.classes c part) b e in
      of_node (Is' (kind.Class b)) c v _ h (λ n d there sub. (
        slot_sought n d c part b there sub asked,
        node_or_typed b (Fails Absent) (slice_get (look (Slot n part)) 0) tt (found_there b 0 (look (Slot n part)) (slice_get (look (Slot n part)) 0) refl (slot_fits n d c part b there sub asked)),
      ))

  element_typed : (c part b : ℕ) (v w : Value N) → shape_of_part rules.classes c part ≡ Some (Many b) → Is' (kind.Class c) v → Typed (Is' (kind.Class b)) (element_of part v w)
  element_typed c part b v w e h =
      let asked = many_asked c part b (Many b) e refl in
      of_node (Is' (kind.Class b)) c v _ h (λ n d there sub. (
        slot_sought n d c part b there sub asked,
        node_or_typed b (Fails Index) (element_at (look (Slot n part)) (int_of w)) tt (element_there b (int_of w) (look (Slot n part)) (slot_fits n d c part b there sub asked)),
      ))

  count_typed : (c part b : ℕ) (v : Value N) → shape_of_part rules.classes c part ≡ Some (Many b) → Is' (kind.Class c) v → Typed (Is' kind.Int) (count_of part v)
  count_typed c part b v e h =
      let asked = many_asked c part b (Many b) e refl in
      of_node (Is' kind.Int) c v _ h (λ n d there sub. (slot_sought n d c part b there sub asked, natural_fits (length (look (Slot n part))) (contents.few n part)))

  has_typed : (c part b : ℕ) (v : Value N) → shape_of_part rules.classes c part ≡ Some (class.Maybe b) → Is' (kind.Class c) v → Typed (Is' kind.Truth) (has_of part v)
  has_typed c part b v e h =
      let asked = many_asked c part b (class.Maybe b) e refl in
      of_node (Is' kind.Truth) c v _ h (λ n d there sub. (slot_sought n d c part b there sub asked, tt))

  token_typed : (c part : ℕ) (k : TokenKind) (v : Value N) → shape_of_part rules.classes c part ≡ Some (Token k)
      → Is' (kind.Class c) v → Typed (λ w. Is' (kind_of_token k) w × IsAllowed Allowed w) (token_of part v)
  token_typed c part k v e h =
      of_node (λ w. Is' (kind_of_token k) w × IsAllowed Allowed w) c v _ h (λ n d there sub.
      let shape = shape_below rules.classes lined d c part (Token k) sub e in
      ((k, ap (option_and_then (λ c. shape_of_part rules.classes c part)) there ∙ shape), (contents.token n d part k there shape, contents.said n part)))

  pub elements_typed : (c part b : ℕ) (v : Value N) → shape_of_part rules.classes c part ≡ Some (Many b)
      → Is' (kind.Class c) v → Typed (AllByRecursion (λ m. IsNodeOf rules.classes at m b)) (elements_of part v)
  elements_typed c part b v e h =
      let asked = many_asked c part b (Many b) e refl in
      of_node (AllByRecursion (λ m. IsNodeOf rules.classes at m b)) c v _ h (λ n d there sub. (slot_sought n d c part b there sub asked, slot_fits n d c part b there sub asked))

  pub drawers_typed : (c part b : ℕ) (key : Key) (v w : Value N) → shape_of_part rules.classes c part ≡ Some (Many b)
      → Is' (kind.Class c) v → Typed (AllByRecursion (λ m. IsNodeOf rules.classes at m b)) (drawer_of part key v w)
  drawers_typed c part b key v w e h =
      let asked = many_asked c part b (Many b) e refl in
      of_node (AllByRecursion (λ m. IsNodeOf rules.classes at m b)) c v _ h (λ n d there sub. (
        slot_sought n d c part b there sub asked,
        contents.chosen n d part b key (mark_of (text_of w)) there (asked_below rules.classes lined d c part b class_in sub asked),
      ))

  one_declaration : (a : ℕ) (d e : Attribute) → slice_get rules.attributes a ≡ Some d → slice_get rules.attributes a ≡ Some e → d ≡ e
  one_declaration a d e f g = let h : Some d ≡ Some e = sym f ∙ g in cc

  demand_typed : (c attribute : ℕ) (d : Attribute) (v : Value N) (vs : List (Value N))
      → slice_get rules.attributes attribute ≡ Some d → is_sub rules.classes c d.class ≡ true → Is' (kind.Class c) v
      → AreArguments rules.classes at Allowed vs d.parameters → Typed (Is' d.result) (demand_of attribute v vs)
  demand_typed c attribute d v vs e f h args =
      of_node (Is' d.result) c v _ h (λ n x there sub. (
        record { class = x; declaration = d; node = there; attribute = e; declared = sub_sub rules.classes lined x c d.class sub f; arguments = args },
        λ w its. its d e,
      ))

  cast_typed : (c b : ℕ) (v : Value N) → Is' (kind.Class c) v → Typed (Is' (kind.Class b)) (cast_to rules.classes b (ref_of v))
  cast_typed c b v h = by_ref (ref_of v) (ref_there c v h)
    where
      by_test : (n : N) (x : ℕ) (t : Bool) → at n ≡ Some x → is_sub rules.classes x b ≡ t → Typed (Is' (kind.Class b)) (cond t (Gives (Ref (Some n))) (Fails Cast))
      by_test n x true e f = (x, e, f)
      by_test n x false e f = tt

      by_ref : (o : Option N) → IfSome o (λ n. IsNodeOf rules.classes at n c) → Typed (Is' (kind.Class b)) (cast_to rules.classes b o)
      by_ref None h = tt
      by_ref (Some n) (x, e, f) = (some_there (at n) x e, by_test n x (is_sub rules.classes (look (Is n)) b) e (ap (λ z. is_sub rules.classes z b) (sym (contents.class n x e))))

  instance_typed : (c b : ℕ) (v : Value N) → Is' (kind.Class c) v → Typed (Is' kind.Truth) (is_instance rules.classes b (ref_of v))
  instance_typed c b v h = by_ref (ref_of v) (ref_there c v h)
    where
      by_ref : (o : Option N) → IfSome o (λ n. IsNodeOf rules.classes at n c) → Typed (Is' kind.Truth) (is_instance rules.classes b o)
      by_ref None h = tt
      by_ref (Some n) (x, e, f) = (some_there (at n) x e, tt)

  quotient_typed : (m n : ℤ) → Typed (Is' kind.Int) (quotient m n)
  quotient_typed m (pos zero) = tt
  quotient_typed m (pos (suc n)) = read_back _
  quotient_typed m (negsuc n) = read_back _

  remainder_typed : (m n : ℤ) → IsInt32 m → Typed (Is' kind.Int) (remainder m n)
  remainder_typed m (pos zero) h = tt
  remainder_typed m (pos (suc n)) h = rem_fits m (pos (suc n)) h
  remainder_typed m (negsuc n) h = rem_fits m (negsuc n) h

  computed_typed : (o : Operator) (m n : ℤ) → IsInt32 m → Typed (Is' kind.Int) (computed o m n)
  computed_typed Multiply m n h = read_back _
  computed_typed Divide m n h = quotient_typed m n
  computed_typed Remainder m n h = remainder_typed m n h
  computed_typed Add m n h = read_back _
  computed_typed Subtract m n h = read_back _

  index_typed : (o : Option N) → IfSome o (λ n. IsSome (at n)) → Typed (Is' kind.Int) (index_of o)
  index_typed None h = natural_fits 0 (omega arith)
  index_typed (Some n) h = (h, natural_fits (look (Idx n)) (contents.early n h))

  named_typed : (vs : List (Value N)) (ks : List Kind) (i : ℕ) (k : Kind) → AreArguments rules.classes at Allowed vs ks → slice_get ks i ≡ Some k → Is' k (named vs i)
  named_typed [] [] i k h e = absurd (cc)
  named_typed (v ∷ vs) (l ∷ ks) zero k (h, s, hs) e = let f : l ≡ k = cc in subst (λ z. Is' z v) f h
  named_typed (v ∷ vs) (l ∷ ks) (suc i) k (h, s, hs) e = named_typed vs ks i k hs e
  named_typed [] (l ∷ ks) i k h e = absurd h
  named_typed (v ∷ vs) [] i k h e = absurd h

  named_said : (vs : List (Value N)) (ks : List Kind) (i : ℕ) → AreArguments rules.classes at Allowed vs ks → IsAllowed Allowed (named vs i)
  named_said [] ks i h = tt
  named_said (v ∷ vs) (l ∷ ks) zero (h, s, hs) = s
  named_said (v ∷ vs) (l ∷ ks) (suc i) (h, s, hs) = named_said vs ks i hs
  named_said (v ∷ vs) [] i h = absurd h

  -- folds
  exists_typed : (P : N → Type 0) (test : N → Run N (Value N)) (ns : List N) → ((n : N) → P n → Typed (Is' kind.Truth) (test n)) → AllByRecursion P ns → Typed (Is' kind.Truth) (exists_in test ns)
  exists_typed P test [] g h = tt
  exists_typed P test (n ∷ ns) g (h, hs) = then_typed rules at Allowed look
      (Is' kind.Truth) (Is' kind.Truth) (test n) _ (g n h)
      (λ v _. either_typed rules at Allowed look (Is' kind.Truth) (truth_of v) _ _ tt (exists_typed P test ns g hs))

  first_typed : (b : ℕ) (test : N → Run N (Value N)) (ns : List N)
      → ((n : N) → IsNodeOf rules.classes at n b → Typed (Is' kind.Truth) (test n))
      → AllByRecursion (λ n. IsNodeOf rules.classes at n b) ns → Typed (Is' (kind.Class b)) (first_in test ns)
  first_typed b test [] g h = tt
  first_typed b test (n ∷ ns) g (h, hs) = then_typed rules at Allowed look
      (Is' kind.Truth) (Is' (kind.Class b)) (test n) _ (g n h)
      (λ v _. either_typed rules at Allowed look (Is' (kind.Class b)) (truth_of v) _ _ h (first_typed b test ns g hs))

  sum_typed : (P : N → Type 0) (term : N → Run N (Value N)) (total : ℤ) (ns : List N) → IsInt32 total → ((n : N) → P n
      → Typed (Is' kind.Int) (term n)) → AllByRecursion P ns → Typed (Is' kind.Int) (sum_in term total ns)
  sum_typed P term total [] f g h = f
  sum_typed P term total (n ∷ ns) f g (h, hs) = then_typed rules at Allowed look (Is' kind.Int) (Is' kind.Int) (term n)
      _ (g n h) (λ v _. sum_typed P term (int_wrapping_add w32 total (int_of v)) ns (read_back _) g hs)

  -- folds over nodes that are there
  gather_typed : (P : N → Type 0) (d : ℕ) (what : N → Run N (Value N)) (fs ns : List N) → AllOf d fs → ((n : N) → P n → Typed (Is' (kind.Nodes d)) (what n)) → AllByRecursion P ns → Typed (Is' (kind.Nodes d)) (gather_in same what fs ns)
  gather_typed P d what fs [] f g h = made_typed d fs f
  gather_typed P d what fs (n ∷ ns) f g (h, hs) = then_typed rules at Allowed look (Is' (kind.Nodes d)) (Is' (kind.Nodes d)) (what n) _ (g n h) (λ v z. gather_typed P d what (with_more same fs (nodes_of v)) ns (more_typed d fs (nodes_of v) f (nodes_there d v z)) g hs)

  close_typed : (b : ℕ) (what : N → Run N (Value N)) (turns i : ℕ) (ns : List N) → i + turns ≤ 16777217 → AllOf b ns → ((n : N) → IsNodeOf rules.classes at n b → Typed (Is' (kind.Nodes b)) (what n)) → Typed (Is' (kind.Nodes b)) (close_in same what turns i ns)
  close_typed b what zero i ns few f g = tt
  close_typed b what (suc turns) i ns few f g = by_turn (λ ms h. close_typed b what turns (suc i) ms (omega arith) h g) (slice_get ns i) refl
    where
      by_turn : ((ms : List N) → AllOf b ms → Typed (Is' (kind.Nodes b)) (close_in same what turns (suc i) ms)) → (o : Option N) → slice_get ns i ≡ o → Typed (Is' (kind.Nodes b)) (elim o as (λ _. Run N (Value N)) [ None ↦ Gives (Nodes ns) | Some n ↦ what n >>= λ v. close_in same what turns (suc i) (with_more same ns (nodes_of v)) ])
      by_turn rest None e = (f, let short = none_short ns i e in omega arith)
      by_turn rest (Some n) e = then_typed rules at Allowed look (Is' (kind.Nodes b)) (Is' (kind.Nodes b)) (what n) _ (g n (found (λ m. IsNodeOf rules.classes at m b) ns i n f e)) (λ v z. rest (with_more same ns (nodes_of v)) (more_typed b ns (nodes_of v) f (nodes_there b v z)))

  -- children and parents
  abbrev AreAsked : ℕ → List ℕ → Type 0
  AreAsked x ps = AllByRecursion (λ p. (b : ℕ) × (class_of_part rules.classes x p ≡ Some b)) ps

  asked_parts : (x k : ℕ) (cs : List Component) → ((j : ℕ) (p : Component) → slice_get cs j ≡ Some p → slice_get (parts rules.classes x) (k + j) ≡ Some p) → AreAsked x (tree_parts k cs)
  asked_parts x k [] h = tt
  asked_parts x k (p ∷ cs) h = by_class (class_in p.shape) refl (asked_parts x (suc k) cs (λ j q e. let g : k + suc j ≡ suc k + j = omega arith in subst (λ z. slice_get (parts rules.classes x) z ≡ Some q) g (h (suc j) q e)))
    where
      here : slice_get (parts rules.classes x) k ≡ Some p
      here = let g : k + 0 ≡ k = omega arith in subst (λ z. slice_get (parts rules.classes x) z ≡ Some p) g (h 0 p refl)

      by_class : (o : Option ℕ) → class_in p.shape ≡ o → AreAsked x (tree_parts (suc k) cs) → AreAsked x (elim o as (λ _. List ℕ) [ None ↦ tree_parts (suc k) cs | Some b ↦ k ∷ tree_parts (suc k) cs ])
      by_class None e rest = rest
      by_class (Some b) e rest = ((b, ap (λ (o : Option Component). option_and_then class_in (option_map (λ p. p.shape) o)) here ∙ e), rest)

  below_top : (b d : ℕ) → is_sub rules.classes b d ≡ true → (ns : List N) → AllOf b ns → AllOf d ns
  below_top b d sub [] h = tt
  below_top b d sub (n ∷ ns) ((x, e, f), hs) = ((x, e, sub_sub rules.classes lined x b d f sub), below_top b d sub ns hs)

  in_parts : (n : N) (x d : ℕ) → at n ≡ Some x → IsTop rules.classes d → (fs : List N) → AllOf d fs → (ps : List ℕ) → AreAsked x ps → Typed (Is' (kind.Nodes d)) (children_in same n fs ps)
  in_parts n x d there top fs f [] h = made_typed d fs f
  in_parts n x d there top fs f (p ∷ ps) ((b, e), hs) = (
    (b, ap (option_and_then (λ c. class_of_part rules.classes c p)) there ∙ e),
    in_parts n x d there top (with_more same fs (look (Slot n p))) (more_typed d fs (look (Slot n p)) f (below_top b d (top.1 x p b e) (look (Slot n p)) (contents.children n x p b there e))) ps hs,
  )

  children_typed : (c d : ℕ) (v : Value N) → IsTop rules.classes d → Is' (kind.Class c) v → Typed (Is' (kind.Nodes d)) (children_of rules.classes same v)
  children_typed c d v top h = of_node (Is' (kind.Nodes d)) c v _ h (λ n x there sub. (
    some_there (at n) x there,
    in_parts n x d there top [] tt (tree_parts 0 (parts rules.classes (look (Is n)))) (subst (λ z. AreAsked x (tree_parts 0 (parts rules.classes z))) (sym (contents.class n x there)) (asked_parts x 0 (parts rules.classes x) (λ j p e. let g : j ≡ 0 + j = omega arith in subst (λ z. slice_get (parts rules.classes x) z ≡ Some p) g e))),
  ))

  parent_typed : (c d : ℕ) (v : Value N) → IsTop rules.classes d → Is' (kind.Class c) v → Typed (Is' (kind.Class d)) (up_of v)
  parent_typed c d v top h = of_node (Is' (kind.Class d)) c v _ h (λ n x there sub. (some_there (at n) x there, by_up (look (Up n)) (contents.parent n (some_there (at n) x there))))
    where
      by_up : (o : Option (N × ℕ)) → IfSome o (λ p. (c : ℕ) × (at p.0 ≡ Some c) × (c < length rules.classes)) → Is' (kind.Class d) (Ref (option_map (λ q. q.0) o))
      by_up None h = tt
      by_up (Some p) (x, e, f) = (x, e, top.0 x f)

  joined_typed : (bytes : List ℕ) → Typed (Is' kind.Text) (joined bytes)
  joined_typed bytes = either_typed rules at Allowed look (Is' kind.Text) _ (Gives (Text bytes)) (Fails Long) tt tt

  of_list : (c part b : ℕ) (k : Kind) (v : Value N) (fold : List N → Run N (Value N))
      → shape_of_part rules.classes c part ≡ Some (Many b) → Is' (kind.Class c) v → ((ns : List N) → AllByRecursion
      (λ m. IsNodeOf rules.classes at m b) ns → Typed (Is' k) (fold ns)) → Typed (Is' k) (elements_of part v >>= fold)
  of_list c part b k v fold e h g = then_typed rules at Allowed look (AllByRecursion (λ m. IsNodeOf rules.classes at m b)) (Is' k) (elements_of part v) fold (elements_typed c part b v e h) g

  of_drawer : (c part b : ℕ) (key : Key) (k : Kind) (v w : Value N) (fold : List N → Run N (Value N))
      → shape_of_part rules.classes c part ≡ Some (Many b) → Is' (kind.Class c) v → ((ns : List N) → AllByRecursion
      (λ m. IsNodeOf rules.classes at m b) ns → Typed (Is' k) (fold ns)) → Typed (Is' k) (drawer_of part key v w >>= fold)
  of_drawer c part b key k v w fold e h g =
      then_typed rules at Allowed look (AllByRecursion (λ m. IsNodeOf rules.classes at m b)) (Is' k) (drawer_of part key v w) fold (drawers_typed c part b key v w e h) g

  abbrev Scopes : ScopeKinds → Scope N → Type 0
  Scopes s scope = IsOfScopeKinds rules.classes at Allowed s scope

  abbrev Says : Expr → Type 0
  Says e = AllByRecursion Allowed (literals e)

  pub bound_scope : (s : ScopeKinds) (scope : Scope N) (n : N) (b : ℕ) → Scopes s scope → IsNodeOf rules.classes at n b → Scopes (bound_kinds s b) (bound scope n)
  bound_scope s scope n b h there = record { this = h.this; names = (there, tt, h.names); child = h.child }

  pub says_left : (a b : Expr) → AllByRecursion Allowed (literals a ++ literals b) → Says a
  says_left a b h = (both_all Allowed (literals a) (literals b) h).0

  pub says_right : (a b : Expr) → AllByRecursion Allowed (literals a ++ literals b) → Says b
  says_right a b h = (both_all Allowed (literals a) (literals b) h).1

  -- first one part, then what is done with its value
  abbrev after : Expr → Scope N → Kind → Kind → (Value N → Run N (Value N)) → Type 0
  after e scope k l f = Typed (Is' k) (eval rules.classes same e scope) → ((v : Value N) → Is' k v → Typed (Is' l) (f v)) → Typed (Is' l) (eval rules.classes same e scope >>= f)

  then_do : (e : Expr) (scope : Scope N) (k l : Kind) (f : Value N → Run N (Value N)) → after e scope k l f
  then_do e scope k l f h g = then_typed rules at Allowed look (Is' k) (Is' l) (eval rules.classes same e scope) f h g

  two : (a b : Expr) (scope : Scope N) (k l m : Kind) (f : Value N → Value N → Run N (Value N))
      → Typed (Is' k) (eval rules.classes same a scope) → Typed (Is' l) (eval rules.classes same b scope)
      → ((v w : Value N) → Is' k v → Is' l w → Typed (Is' m) (f v w)) →
      Typed (Is' m) (eval rules.classes same a scope >>= λ v. eval rules.classes same b scope >>= λ w. f v w)
  two a b scope k l m f x y g = then_do a scope k m _ x (λ v h. then_do b scope l m _ y (λ w i. g v w h i))

  abbrev Evaluates : ScopeKinds → Expr → Kind → Type 0
  Evaluates s e k = (scope : Scope N) → Says e → Scopes s scope → Typed (Is' k) (eval rules.classes same e scope)

  not_said : (k : Kind) (v : Value N) → (k ≡ kind.Text → ⊥) → Is' k v → IsAllowed Allowed v
  not_said k (Int n) no_text h = tt
  not_said k (Truth b) no_text h = tt
  not_said kind.Text (Text bytes) no_text h = absurd (no_text refl)
  not_said (kind.Nodes c) (Text bytes) no_text h = absurd h
  not_said k (Nodes ns) no_text h = tt
  not_said kind.Int (Text bytes) no_text h = absurd h
  not_said kind.Truth (Text bytes) no_text h = absurd h
  not_said (kind.Class c) (Text bytes) no_text h = absurd h
  not_said k (Ref n) no_text h = tt

  widen : (c d : ℕ) (v : Value N) → is_sub rules.classes c d ≡ true → Is' (kind.Class c) v → Is' (kind.Class d) v
  widen c d (Int n) e h = absurd h
  widen c d (Truth b) e h = absurd h
  widen c d (Text bytes) e h = absurd h
  widen c d (Nodes ns) e h = absurd h
  widen c d (Ref None) e h = tt
  widen c d (Ref (Some n)) e (x, f, g) = (x, f, sub_sub rules.classes lined x c d g e)

  widen_all : (c d : ℕ) (v : Value N) → is_sub rules.classes c d ≡ true → Is' (kind.Nodes c) v → Is' (kind.Nodes d) v
  widen_all c d (Int n) e h = absurd h
  widen_all c d (Truth b) e h = absurd h
  widen_all c d (Text bytes) e h = absurd h
  widen_all c d (Ref n) e h = absurd h
  widen_all c d (Nodes ns) e h = (below_top c d e ns h.0, h.1)

  -- what is said of the last value alone
  refined : {A : Type 0} (Q P : Value N → Type 0) (r : Run N A) (k : A → Run N (Value N)) → ((a : A) → Typed Q (k a) → Typed P (k a)) → Typed Q (r >>= k) → Typed P (r >>= k)
  refined Q P (Gives a) k g h = g a h
  refined Q P (Fails f) k g h = tt
  refined Q P (Looks l m) k g (x, h) = (x, refined Q P (m (look l)) k g h)
  refined Q P (Demands i m) k g (x, h) = (x, λ v its. refined Q P (m v) k g (h v its))

  token_said : (Q : Value N → Type 0) (part : ℕ) (v : Value N) → Typed Q (token_of part v) → Typed (λ w. Q w × IsAllowed Allowed w) (token_of part v)
  token_said Q part v h = refined Q (λ w. Q w × IsAllowed Allowed w) (node_of v) _ (λ n (x, q). (x, (q, contents.said n part))) h

  -- what is passed is short, and so one of those that there are
  passed_said : AllByRecursion Allowed (texts_within max_passed) → (v : Value N) → Typed (Is' kind.Text) (passed v) →
      Typed (λ w. Is' kind.Text w × IsAllowed Allowed w) (passed v)
  passed_said all (Text bytes) = by_test (is_text_within max_passed bytes) refl
    where
      by_test : (b : Bool) → is_text_within max_passed bytes ≡ b → Typed (Is' kind.Text) (cond b (Gives (Text bytes)) (Fails Long)) →
          Typed (λ w. Is' kind.Text w × IsAllowed Allowed w) (cond b (Gives (Text bytes)) (Fails Long))
      by_test true e h = (h, of_one Allowed (texts_within max_passed) bytes all (short_listed max_passed bytes e))
      by_test false e h = tt
  passed_said all (Int (pos n)) = by_test (nat_le n max_step)
    where
      by_test : (b : Bool) → Typed (Is' kind.Text) (cond b (Gives (Int (pos n))) (Fails Long)) →
          Typed (λ w. Is' kind.Text w × IsAllowed Allowed w) (cond b (Gives (Int (pos n))) (Fails Long))
      by_test true h = absurd h
      by_test false h = tt
  passed_said all (Int (negsuc n)) = by_test (nat_le n max_step)
    where
      by_test : (b : Bool) → Typed (Is' kind.Text) (cond b (Gives (Int (negsuc n))) (Fails Long)) →
          Typed (λ w. Is' kind.Text w × IsAllowed Allowed w) (cond b (Gives (Int (negsuc n))) (Fails Long))
      by_test true h = absurd h
      by_test false h = tt
  passed_said all (Truth b) = λ h. absurd h
  passed_said all (Ref n) = λ h. absurd h
  passed_said all (Nodes ns) = λ h. absurd h

  -- the argument has its kind, and its text is one that there is
  argued : (s : ScopeKinds) (e : Expr) (k : Kind) → IsArgumentForm k e → (scope : Scope N) → Says e → Scopes s scope
      → Typed (Is' k) (eval rules.classes same e scope)
      → Typed (λ v. Is' k v × IsAllowed Allowed v) (eval rules.classes same e scope)
  argued s e kind.Int form scope h i x = less_typed rules at Allowed look (Is' kind.Int) (λ v. Is' kind.Int v × IsAllowed Allowed v) _ (λ v z. (z, not_said kind.Int v (λ e. absurd (cc)) z)) x
  argued s e kind.Truth form scope h i x = less_typed rules at Allowed look (Is' kind.Truth) (λ v. Is' kind.Truth v × IsAllowed Allowed v) _ (λ v z. (z, not_said kind.Truth v (λ e. absurd (cc)) z)) x
  argued s e (kind.Class c) form scope h i x = less_typed rules at Allowed look (Is' (kind.Class c))
      (λ v. Is' (kind.Class c) v × IsAllowed Allowed v) _ (λ v z. (z, not_said (kind.Class c) v (λ e. absurd (cc)) z)) x
  argued s e (kind.Nodes c) form scope h i x = less_typed rules at Allowed look (Is' (kind.Nodes c)) (λ v. Is' (kind.Nodes c) v × IsAllowed Allowed v) _ (λ v z. (z, not_said (kind.Nodes c) v (λ e. absurd (cc)) z)) x
  argued s (TextLiteral bytes) kind.Text form scope h i x = (x, h.0)
  argued s (Name n) kind.Text form scope h i x = (x, named_said scope.names s.names n i.names)
  argued s (TokenOf a part) kind.Text form scope h i x = refined (Is' kind.Text) (λ v. Is' kind.Text v
      × IsAllowed Allowed v) (eval rules.classes same a scope) _ (λ v z. token_said (Is' kind.Text) part v z) x
  argued s (Passed a) kind.Text form scope h i x = refined (Is' kind.Text) (λ v. Is' kind.Text v × IsAllowed Allowed v)
      (eval rules.classes same a scope) passed (λ v z. passed_said (both_all Allowed (texts_within max_passed) (literals a) h).0 v z) x
  argued s e kind.Text form scope h i x = absurd form

  mutual
    pub typed : (s : ScopeKinds) (e : Expr) (k : Kind) → HasKind rules s e k → (scope : Scope N) → Says e → Scopes s scope → Typed (Is' k) (eval rules.classes same e scope)
    typed s e _ (has.widened c d sub x) scope h i =
        less_typed rules at Allowed look (Is' (kind.Class c)) (Is' (kind.Class d)) (eval rules.classes same e scope)
        (λ v z. widen c d v sub z) (typed s e (kind.Class c) x scope h i)
    typed s e _ (has.widened_all c d sub x) scope h i = less_typed rules at Allowed look (Is' (kind.Nodes c)) (Is' (kind.Nodes d)) (eval rules.classes same e scope) (λ v z. widen_all c d v sub z) (typed s e (kind.Nodes c) x scope h i)
    typed s _ _ (has.int_literal n f) scope h i = f
    typed s _ _ (has.truth_literal b) scope h i = tt
    typed s _ _ (has.text_literal bytes) scope h i = tt
    typed s _ _ (has.null_literal c) scope h i = tt
    typed s _ _ has.this scope h i = i.this
    typed s _ k (has.name n e) scope h i = named_typed scope.names s.names n k i.names e
    typed s _ _ (has.index_name e) scope h i = index_typed scope.child i.child
    typed s _ _ (has.negate {a = a} x) scope h i = then_do a scope kind.Int kind.Int _ (typed s a kind.Int x scope h i) (λ v z. read_back _)
    typed s _ _ (has.opposite {a = a} x) scope h i = then_do a scope kind.Truth kind.Truth _ (typed s a kind.Truth x scope h i) (λ v z. tt)
    typed s _ _ (has.arithmetic {a = a} {b = b} o x y) scope h i = two a b scope kind.Int kind.Int kind.Int
        _ (typed s a kind.Int x scope (says_left a b h) i) (typed s b kind.Int y scope (says_right a b h) i)
        (λ v w z u. computed_typed o (int_of v) (int_of w) (int_fits v z))
    typed s _ _ (has.compare {a = a} {b = b} o x y) scope h i = two a b scope kind.Int kind.Int kind.Truth _ (typed s a
        kind.Int x scope (says_left a b h) i) (typed s b kind.Int y scope (says_right a b h) i) (λ v w z u. tt)
    typed s _ _ (has.join {a = a} {b = b} x y) scope h i =
        two a b scope kind.Text kind.Text kind.Text _ (typed s a kind.Text x scope (says_left a b h) i)
        (typed s b kind.Text y scope (says_right a b h) i) (λ v w z u. joined_typed _)
    typed s _ _ (has.join_int {a = a} {b = b} x y) scope h i =
        two a b scope kind.Text kind.Int kind.Text _ (typed s a kind.Text x scope (says_left a b h) i)
        (typed s b kind.Int y scope (says_right a b h) i) (λ v w z u. joined_typed _)
    typed s _ _ (has.same {a = a} {b = b} k l alike x y) scope h i = two a b scope k l kind.Truth _ (typed s a k x scope (says_left a b h) i) (typed s b l y scope (says_right a b h) i) (λ v w z u. tt)
    typed s _ _ (has.differ {a = a} {b = b} k l alike x y) scope h i = two a b scope k l kind.Truth
        _ (typed s a k x scope (says_left a b h) i) (typed s b l y scope (says_right a b h) i) (λ v w z u. tt)
    typed s _ _ (has.and {a = a} {b = b} x y) scope h i =
        then_do a scope kind.Truth kind.Truth _ (typed s a kind.Truth x scope (says_left a b h) i) (λ v z. either_typed
        rules at Allowed look (Is' kind.Truth) (truth_of v) _ _ (typed s b kind.Truth y scope (says_right a b h) i) tt)
    typed s _ _ (has.or {a = a} {b = b} x y) scope h i =
        then_do a scope kind.Truth kind.Truth _ (typed s a kind.Truth x scope (says_left a b h) i) (λ v z. either_typed
        rules at Allowed look (Is' kind.Truth) (truth_of v) _ _ tt (typed s b kind.Truth y scope (says_right a b h) i))
    typed s _ _ (has.choose {c = c} {a = a} {b = b} k x y z) scope h i =
        let (hc, hab) = both_all Allowed (literals c) (literals a ++ literals b) h in
        then_do c scope kind.Truth k _ (typed s c kind.Truth x scope hc i)
        (λ v _. either_typed rules at Allowed look (Is' k) (truth_of v)
        _ _ (typed s a k y scope (says_left a b hab) i) (typed s b k z scope (says_right a b hab) i))
    typed s _ _ (has.equals {a = a} {b = b} x y) scope h i = two a b scope kind.Text kind.Text kind.Truth _ (typed s a
        kind.Text x scope (says_left a b h) i) (typed s b kind.Text y scope (says_right a b h) i) (λ v w z u. tt)
    typed s _ _ (has.instance_of {a = a} c class there x) scope h i = then_do a scope (kind.Class c) kind.Truth _ (typed s a (kind.Class c) x scope h i) (λ v z. instance_typed c class v z)
    typed s _ _ (has.cast_to {a = a} c class there x) scope h i = then_do a scope (kind.Class c) (kind.Class class) _ (typed s a (kind.Class c) x scope h i) (λ v z. cast_typed c class v z)
    typed s _ _ (has.child {a = a} c part b e x) scope h i = then_do a scope (kind.Class c) (kind.Class b) _ (typed s a (kind.Class c) x scope h i) (λ v z. child_typed c part b v e z)
    typed s _ _ (has.element {a = a} {i = j} c part b e x y) scope h i =
        two a j scope (kind.Class c) kind.Int (kind.Class b) _ (typed s a (kind.Class c) x scope (says_left a j h) i)
        (typed s j kind.Int y scope (says_right a j h) i) (λ v w z u. element_typed c part b v w e z)
    typed s _ _ (has.count {a = a} c part b e x) scope h i = then_do a scope (kind.Class c) kind.Int _ (typed s a (kind.Class c) x scope h i) (λ v z. count_typed c part b v e z)
    typed s _ _ (has.has {a = a} c part b e x) scope h i = then_do a scope (kind.Class c) kind.Truth _ (typed s a (kind.Class c) x scope h i) (λ v z. has_typed c part b v e z)
    typed s _ _ (has.token_of {a = a} c part k e x) scope h i = then_do a scope (kind.Class c) (kind_of_token k)
        _ (typed s a (kind.Class c) x scope h i) (λ v z. less_typed rules at Allowed look (λ w. Is' (kind_of_token k) w
        × IsAllowed Allowed w) (Is' (kind_of_token k)) _ (λ w u. u.0) (token_typed c part k v e z))
    typed s _ _ (has.call {a = a} {es = es} c attribute d e sub x ys) scope h i =
        let (ha, hes) = both_all Allowed (literals a) (all_literals es) h in
        then_do a scope (kind.Class c) d.result _ (typed s a (kind.Class c) x scope ha i) (λ v z.
        then_typed rules at Allowed look (λ vs. AreArguments rules.classes at Allowed vs d.parameters) (Is' d.result)
        (eval_all rules.classes same es scope) _ (all_typed s es d.parameters ys scope hes i)
        (λ vs u. demand_typed c attribute d v vs e sub z u))
    typed s _ _ (has.exists {a = a} {e = f} c part b e x y) scope h i = then_do a scope (kind.Class c) kind.Truth _ (typed s a (kind.Class c) x scope (says_left a f h) i) (λ v z.
        of_list c part b kind.Truth v _ e z
        (λ ns. exists_typed (λ m. IsNodeOf rules.classes at m b) _ ns (λ n there. typed (bound_kinds s b) f
        kind.Truth y (bound scope n) (says_right a f h) (bound_scope s scope n b i there))))
    typed s _ _ (has.first {a = a} {e = f} c part b e x y) scope h i = then_do a scope (kind.Class c) (kind.Class b) _ (typed s a (kind.Class c) x scope (says_left a f h) i) (λ v z.
        of_list c part b (kind.Class b) v _ e z (λ ns. first_typed b _ ns (λ n there. typed (bound_kinds s b) f kind.Truth y (bound scope n) (says_right a f h) (bound_scope s scope n b i there))))
    typed s _ _ (has.sum {a = a} {e = f} c part b e x y) scope h i = then_do a scope (kind.Class c) kind.Int _ (typed s a (kind.Class c) x scope (says_left a f h) i) (λ v z.
        of_list c part b kind.Int v _ e z (λ ns.
        sum_typed (λ m. IsNodeOf rules.classes at m b) _ (pos 0) ns (natural_fits 0 (omega arith)) (λ n there.
        typed (bound_kinds s b) f kind.Int y (bound scope n) (says_right a f h) (bound_scope s scope n b i there))))
    typed s _ _ (has.passed {a = a} k x) scope h i =
        then_do a scope k k passed (typed s a k x scope (both_all Allowed (texts_within max_passed) (literals a) h).1 i)
        (λ v z. either_typed rules at Allowed look (Is' k) (may_pass v) (Gives v) (Fails Long) z tt)
    typed s _ _ (has.listed {a = a} c part b e x) scope h i = then_do a scope (kind.Class c) (kind.Nodes b) _ (typed s a (kind.Class c) x scope h i) (λ v z. of_list c part b (kind.Nodes b) v _ e z (λ ns g. made_typed b (with_more same [] ns) (more_typed b [] ns tt g)))
    typed s _ _ (has.only {a = a} c x) scope h i = then_do a scope (kind.Class c) (kind.Nodes c) _ (typed s a (kind.Class c) x scope h i) (λ v z. only_typed c (ref_of v) (ref_there c v z))
    typed s _ _ (has.union {a = a} {b = b} c x y) scope h i = two a b scope (kind.Nodes c) (kind.Nodes c) (kind.Nodes c) _ (typed s a (kind.Nodes c) x scope (says_left a b h) i) (typed s b (kind.Nodes c) y scope (says_right a b h) i) (λ v w z u. made_typed c (with_more same (nodes_of v) (nodes_of w)) (more_typed c (nodes_of v) (nodes_of w) (nodes_there c v z) (nodes_there c w u)))
    typed s _ _ (has.contains {a = a} {b = b} c d x y) scope h i = two a b scope (kind.Nodes c) (kind.Class d) kind.Truth _ (typed s a (kind.Nodes c) x scope (says_left a b h) i) (typed s b (kind.Class d) y scope (says_right a b h) i) (λ v w z u. tt)
    typed s _ _ (has.any_of {a = a} {e = f} b x y) scope h i = then_do a scope (kind.Nodes b) kind.Truth _ (typed s a (kind.Nodes b) x scope (says_left a f h) i) (λ v z.
        exists_typed (λ m. IsNodeOf rules.classes at m b) _ (nodes_of v) (λ n there. typed (bound_kinds s b) f kind.Truth y (bound scope n) (says_right a f h) (bound_scope s scope n b i there)) (nodes_there b v z))
    typed s _ _ (has.first_of {a = a} {e = f} b x y) scope h i = then_do a scope (kind.Nodes b) (kind.Class b) _ (typed s a (kind.Nodes b) x scope (says_left a f h) i) (λ v z.
        first_typed b _ (nodes_of v) (λ n there. typed (bound_kinds s b) f kind.Truth y (bound scope n) (says_right a f h) (bound_scope s scope n b i there)) (nodes_there b v z))
    typed s _ _ (has.sum_of {a = a} {e = f} b x y) scope h i = then_do a scope (kind.Nodes b) kind.Int _ (typed s a (kind.Nodes b) x scope (says_left a f h) i) (λ v z.
        sum_typed (λ m. IsNodeOf rules.classes at m b) _ (pos 0) (nodes_of v) (natural_fits 0 (omega arith)) (λ n there. typed (bound_kinds s b) f kind.Int y (bound scope n) (says_right a f h) (bound_scope s scope n b i there)) (nodes_there b v z))
    typed s _ _ (has.gather {a = a} {e = f} b d x y) scope h i = then_do a scope (kind.Nodes b) (kind.Nodes d) _ (typed s a (kind.Nodes b) x scope (says_left a f h) i) (λ v z.
        gather_typed (λ m. IsNodeOf rules.classes at m b) d _ [] (nodes_of v) tt (λ n there. typed (bound_kinds s b) f (kind.Nodes d) y (bound scope n) (says_right a f h) (bound_scope s scope n b i there)) (nodes_there b v z))
    typed s _ _ (has.close {a = a} {e = f} b x y) scope h i = then_do a scope (kind.Nodes b) (kind.Nodes b) _ (typed s a (kind.Nodes b) x scope (says_left a f h) i) (λ v z.
        close_typed b _ max_turns 0 (nodes_of v) (omega arith) (nodes_there b v z) (λ n there. typed (bound_kinds s b) f (kind.Nodes b) y (bound scope n) (says_right a f h) (bound_scope s scope n b i there)))
    typed s _ _ (has.children {a = a} c d top x) scope h i = then_do a scope (kind.Class c) (kind.Nodes d) _ (typed s a (kind.Class c) x scope h i) (λ v z. children_typed c d v top z)
    typed s _ _ (has.parent {a = a} c d top x) scope h i = then_do a scope (kind.Class c) (kind.Class d) _ (typed s a (kind.Class c) x scope h i) (λ v z. parent_typed c d v top z)
    typed s _ _ (has.seek_any {a = a} {t = t} {e = f} c part b key e x y z) scope h i =
        let (hat, hf) = both_all Allowed (literals a ++ literals t) (literals f) h in
        two a t scope (kind.Class c) kind.Text kind.Truth _ (typed s a (kind.Class c) x scope (says_left a t hat) i) (typed s t kind.Text y scope (says_right a t hat) i) (λ v w p q.
        of_drawer c part b key kind.Truth v w _ e p
        (λ ns. exists_typed (λ m. IsNodeOf rules.classes at m b) _ ns (λ n there. typed (bound_kinds s b) f
        kind.Truth z (bound scope n) hf (bound_scope s scope n b i there))))
    typed s _ _ (has.seek_first {a = a} {t = t} {e = f} c part b key e x y z) scope h i =
        let (hat, hf) = both_all Allowed (literals a ++ literals t) (literals f) h in
        two a t scope (kind.Class c) kind.Text (kind.Class b) _ (typed s a (kind.Class c) x scope (says_left a t hat) i) (typed s t kind.Text y scope (says_right a t hat) i) (λ v w p q.
        of_drawer c part b key (kind.Class b) v w _ e p
        (λ ns. first_typed b _ ns (λ n there. typed (bound_kinds s b) f kind.Truth z (bound scope n) hf (bound_scope s scope n b i there))))

    pub all_typed : (s : ScopeKinds) (es : Exprs) (ks : List Kind) → HaveKinds rules s es ks → (scope : Scope N)
        → AllByRecursion Allowed (all_literals es) → Scopes s scope
        → Typed (λ vs. AreArguments rules.classes at Allowed vs ks) (eval_all rules.classes same es scope)
    all_typed s _ _ has.no_more scope h i = tt
    all_typed s _ _ (has.argument {e = e} {es = es} {k = k} {ks = ks} form x ys) scope h i =
        let (he, hes) = both_all Allowed (literals e) (all_literals es) h in
        then_typed rules at Allowed look (λ v. Is' k v × IsAllowed Allowed v)
        (λ vs. AreArguments rules.classes at Allowed vs (k ∷ ks)) (eval rules.classes same e scope)
        _ (argued s e k form scope he i (typed s e k x scope he i)) (λ v z.
        then_typed rules at Allowed look (λ vs. AreArguments rules.classes at Allowed vs ks)
        (λ vs. AreArguments rules.classes at Allowed vs (k ∷ ks)) (eval_all rules.classes same es scope)
        _ (all_typed s es ks ys scope hes i) (λ vs u. (z.0, z.1, u)))
