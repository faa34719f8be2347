-- In a list of nodes each stands once.
use Rattle.std.proofs.Common.{◌≡◌, ℕ, zero, suc, ℤ, pos, negsuc, Bool, true, false, cond, List, [], ◌∷◌, ◌++◌, Option, Some, None, inl, inr, refl, sym, ap, subst}
use Rattle.std.specs.List.{slice_get}
use Rattle.at_model.specs.Classes.{Classes, is_sub}
use Rattle.at_model.specs.Trees.{Tree, Token}
use Rattle.at_model.specs.Trees as held
use Rattle.at_model.specs.Paths.{Node, node_eq}
use Rattle.at_model.specs.Run.{Value, Int, Truth, Text, Ref, Nodes, Instance, Contents, Content, Run, Gives, Fails, Looks, Demands, ◌>>=◌, Absent, Index, Zero, Cast, Long, Null, Known, Tried, Valued, Faulted, Needs, tried}
use Rattle.at_model.specs.Bodies.{Expr, Exprs, Passed, may_pass, IntLiteral, TruthLiteral, TextLiteral, NullLiteral, This, Name, IndexName, Negate, Not, Operator, Multiply, Divide, Remainder, Add, Subtract, Arithmetic, Compare, Join, JoinInt, Same, Differ, And, Or, Choose, Equals, InstanceOf, CastTo, Child, Element, Count, Has, TokenOf, Call, Exists, First, Sum, SeekAny, SeekFirst, Fold, AnyOf, FirstOf, SumOf, Gather, Close, Listed, Only, Union, Contains, Over, Children, Parent, no_exprs, expr, Scope, bound, int_of, truth_of, ref_of, value_of, named, node_of, node_or, element_at, quotient, remainder, computed, joined, is_instance, cast_to, index_of, exists_in, first_in, sum_in, nodes_of, mentioned, is_among, with_one, with_more, made, only, gather_in, close_in, max_turns, fold_in, children_in, eval, eval_all}
use Rattle.at_model.specs.Rules.{Rules, inherited_equation, own_equation, is_inherited, attribute_name, past_nodes, past_arguments, by_equation, by_inherited, by_own}
use Rattle.at_model.specs.Terms.{max_depth}
use Rattle.at_model.specs.Meaning.{Outcome, Finds, Faults, value_in, settled, outcome_at, HasValue, Among, Distinct, equations}
use Rattle.at_model.specs.Lists.{IsApart, AreApart}
use Rattle.at_model.proofs.Nodes.{node_eq-is}

-- lists ----------------------------------------------------------------------------------------------------------------

at_end : {A : Type 0} (a b : A) (as' : List A) → Among a (as' ++ b ∷ []) → (Among a as' → ⊥) → a ≡ b
at_end a b [] (inl e) none = e
at_end a b [] (inr h) none = absurd h
at_end a b (c ∷ cs) (inl e) none = absurd (none (inl e))
at_end a b (c ∷ cs) (inr h) none = at_end a b cs h (λ g. none (inr g))

one_behind : {A : Type 0} (as' : List A) (b : A) → Distinct as' → (Among b as' → ⊥) → Distinct (as' ++ b ∷ [])
one_behind [] b h none = (λ g. g, tt)
one_behind (a ∷ as') b (h, hs) none = (λ g. none (inl (sym (at_end a b as' g h))), one_behind as' b hs (λ g. none (inr g)))

module _ {N : Type 0} (same : N → N → Bool) (reflexive : (n : N) → same n n ≡ true) where
  missing : (n : N) (ns : List N) → is_among same n ns ≡ false → Among n ns → ⊥
  missing n [] e a = a
  missing n (m ∷ ms) e (inl is) = let x : same n m ≡ true = subst (λ z. same n z ≡ true) is (reflexive n) in let y : cond (same n m) true (is_among same n ms) ≡ true = ap (λ b. cond b true (is_among same n ms)) x in absurd cc
  missing n (m ∷ ms) e (inr h) = by_test (same n m) e (λ f. missing n ms f h)
    where
      by_test : (b : Bool) → cond b true (is_among same n ms) ≡ false → (is_among same n ms ≡ false → ⊥) → ⊥
      by_test true f g = absurd cc
      by_test false f g = g f

  with_one_apart : (ns : List N) (n : N) → Distinct ns → Distinct (with_one same ns n)
  with_one_apart ns n h = by_test (is_among same n ns) refl
    where
      by_test : (b : Bool) → is_among same n ns ≡ b → Distinct (cond b ns (ns ++ n ∷ []))
      by_test true e = h
      by_test false e = one_behind ns n h (missing n ns e)

  pub with_more_apart : (ns ms : List N) → Distinct ns → Distinct (with_more same ns ms)
  with_more_apart ns [] h = h
  with_more_apart ns (m ∷ ms) h = with_more_apart (with_one same ns m) ms (with_one_apart ns m h)

-- evaluations ----------------------------------------------------------------------------------------------------------

-- what the evaluation gives is so, whatever it sees, and whichever value comes back in which each node stands once; and what it
-- demands has such arguments
abbrev GivesSuch : {N A : Type 0} → (A → Type 0) → Run N A → Type 0
GivesSuch Q (Gives a) = Q a
GivesSuch Q (Fails f) = Unit {0}
GivesSuch Q (Looks l k) = (c : Content l) → GivesSuch Q (k c)
GivesSuch {N} Q (Demands i k) = AreApart i.arguments × ((v : Value N) → IsApart v → GivesSuch Q (k v))

then_such : {N A B : Type 0} (Q : A → Type 0) (P : B → Type 0) (r : Run N A) (k : A → Run N B) → GivesSuch Q r → ((a : A) → Q a → GivesSuch P (k a)) → GivesSuch P (r >>= k)
then_such Q P (Gives a) k h g = g a h
then_such Q P (Fails f) k h g = tt
then_such Q P (Looks l m) k h g = λ c. then_such Q P (m c) k (h c) g
then_such Q P (Demands i m) k (w, h) g = (w, λ v a. then_such Q P (m v) k (h v a) g)

either_such : {N A : Type 0} (Q : A → Type 0) (b : Bool) (r s : Run N A) → GivesSuch Q r → GivesSuch Q s → GivesSuch Q (cond b r s)
either_such Q true r s g h = g
either_such Q false r s g h = h

abbrev Any : {A : Type 0} → A → Type 0
Any a = Unit {0}

module _ {N : Type 0} (classes : Classes) (same : N → N → Bool) (reflexive : (n : N) → same n n ≡ true) where
  abbrev Once : Run N (Value N) → Type 0
  Once r = GivesSuch IsApart r

  of_node : {A : Type 0} (P : A → Type 0) (v : Value N) (k : N → Run N A) → ((n : N) → GivesSuch P (k n)) → GivesSuch P (node_of v >>= k)
  of_node P v k g = by_ref (ref_of v)
    where
      by_ref : (o : Option N) → GivesSuch P ((elim o as (λ _. Run N N) [ None ↦ Fails Null | Some n ↦ Gives n ]) >>= k)
      by_ref None = tt
      by_ref (Some n) = g n

  node_or_once : (r : Run N (Value N)) (o : Option N) → Once r → Once (node_or r o)
  node_or_once r None h = h
  node_or_once r (Some n) h = tt

  token_once : (t : Token) → IsApart (value_of {N = N} t)
  token_once (held.Text bytes) = tt
  token_once (held.Int n) = tt
  token_once (held.Truth b) = tt

  quotient_once : (m n : ℤ) → Once (quotient m n)
  quotient_once m (pos zero) = tt
  quotient_once m (pos (suc n)) = tt
  quotient_once m (negsuc n) = tt

  remainder_once : (m n : ℤ) → Once (remainder m n)
  remainder_once m (pos zero) = tt
  remainder_once m (pos (suc n)) = tt
  remainder_once m (negsuc n) = tt

  computed_once : (o : Operator) (m n : ℤ) → Once (computed o m n)
  computed_once Multiply m n = tt
  computed_once Divide m n = quotient_once m n
  computed_once Remainder m n = remainder_once m n
  computed_once Add m n = tt
  computed_once Subtract m n = tt

  joined_once : (bytes : List ℕ) → Once (joined bytes)
  joined_once bytes = either_such IsApart _ (Gives (Text bytes)) (Fails Long) tt tt

  instance_once : (class : ℕ) (o : Option N) → Once (is_instance classes class o)
  instance_once class None = tt
  instance_once class (Some n) = λ c. tt

  cast_once : (class : ℕ) (o : Option N) → Once (cast_to classes class o)
  cast_once class None = tt
  cast_once class (Some n) = λ c. either_such IsApart (is_sub classes c class) (Gives (Ref (Some n))) (Fails Cast) tt tt

  index_once : (o : Option N) → Once (index_of o)
  index_once None = tt
  index_once (Some n) = λ c. tt

  named_once : (vs : List (Value N)) (i : ℕ) → AreApart vs → IsApart (named vs i)
  named_once [] i h = tt
  named_once (v ∷ vs) zero (h, hs) = h
  named_once (v ∷ vs) (suc i) (h, hs) = named_once vs i hs

  nodes_once : (v : Value N) → IsApart v → Distinct (nodes_of v)
  nodes_once (Int n) h = tt
  nodes_once (Truth b) h = tt
  nodes_once (Text bytes) h = tt
  nodes_once (Ref n) h = tt
  nodes_once (Nodes ns) h = h

  made_once : (ns : List N) → Distinct ns → Once (made ns)
  made_once ns h = either_such IsApart _ (Gives (Nodes ns)) (Fails Long) h tt

  only_once : (o : Option N) → Distinct (only o)
  only_once None = tt
  only_once (Some n) = (λ g. g, tt)

  module _ (what : N → Run N (Value N)) (such : (n : N) → Once (what n)) where
    exists_once : (ns : List N) → Once (exists_in what ns)
    exists_once [] = tt
    exists_once (n ∷ ns) = then_such IsApart IsApart (what n) _ (such n) (λ v h. either_such IsApart (truth_of v) _ _ tt (exists_once ns))

    first_once : (ns : List N) → Once (first_in what ns)
    first_once [] = tt
    first_once (n ∷ ns) = then_such IsApart IsApart (what n) _ (such n) (λ v h. either_such IsApart (truth_of v) _ _ tt (first_once ns))

    sum_once : (ns : List N) (total : ℤ) → Once (sum_in what total ns)
    sum_once [] total = tt
    sum_once (n ∷ ns) total = then_such IsApart IsApart (what n) _ (such n) (λ v h. sum_once ns _)

    gather_once : (ns found : List N) → Distinct found → Once (gather_in same what found ns)
    gather_once [] found h = made_once found h
    gather_once (n ∷ ns) found h = then_such IsApart IsApart (what n) _ (such n) (λ v a. gather_once ns (with_more same found (nodes_of v)) (with_more_apart same reflexive found (nodes_of v) h))

    close_once : (turns i : ℕ) (ns : List N) → Distinct ns → Once (close_in same what turns i ns)
    close_once zero i ns h = tt
    close_once (suc turns) i ns h = by_turn (λ ms g. close_once turns (suc i) ms g) (slice_get ns i)
      where
        by_turn : ((ms : List N) → Distinct ms → Once (close_in same what turns (suc i) ms)) → (o : Option N) → Once (elim o as (λ _. Run N (Value N)) [ None ↦ Gives (Nodes ns) | Some n ↦ what n >>= λ v. close_in same what turns (suc i) (with_more same ns (nodes_of v)) ])
        by_turn rest None = h
        by_turn rest (Some n) = then_such IsApart IsApart (what n) _ (such n) (λ v a. rest (with_more same ns (nodes_of v)) (with_more_apart same reflexive ns (nodes_of v) h))

    fold_once : (fold : Fold) (ns : List N) → Distinct ns → Once (fold_in same fold what ns)
    fold_once AnyOf ns h = exists_once ns
    fold_once FirstOf ns h = first_once ns
    fold_once SumOf ns h = sum_once ns (pos 0)
    fold_once Gather ns h = gather_once ns [] tt
    fold_once Close ns h = close_once max_turns 0 ns h

  children_once : (n : N) (ps : List ℕ) (found : List N) → Distinct found → Once (children_in same n found ps)
  children_once n [] found h = made_once found h
  children_once n (p ∷ ps) found h = λ c. children_once n ps (with_more same found c) (with_more_apart same reflexive found c h)

  bound_once : (scope : Scope N) (n : N) → AreApart scope.names → AreApart ((bound scope n).names)
  bound_once scope n h = (tt, h)

  mutual
    eval_once : (e : Expr) (scope : Scope N) → AreApart scope.names → Once (eval classes same e scope)
    eval_once (IntLiteral n) scope h = tt
    eval_once (TruthLiteral b) scope h = tt
    eval_once (TextLiteral bytes) scope h = tt
    eval_once NullLiteral scope h = tt
    eval_once This scope h = tt
    eval_once (Name i) scope h = named_once scope.names i h
    eval_once IndexName scope h = index_once scope.child
    eval_once (Negate a) scope h = then_such IsApart IsApart _ _ (eval_once a scope h) (λ v x. tt)
    eval_once (Not a) scope h = then_such IsApart IsApart _ _ (eval_once a scope h) (λ v x. tt)
    eval_once (Arithmetic o a b) scope h = then_such IsApart IsApart _ _ (eval_once a scope h) (λ v x. then_such IsApart IsApart _ _ (eval_once b scope h) (λ w y. computed_once o (int_of v) (int_of w)))
    eval_once (Compare o a b) scope h = then_such IsApart IsApart _ _ (eval_once a scope h) (λ v x. then_such IsApart IsApart _ _ (eval_once b scope h) (λ w y. tt))
    eval_once (Join a b) scope h = then_such IsApart IsApart _ _ (eval_once a scope h) (λ v x. then_such IsApart IsApart _ _ (eval_once b scope h) (λ w y. joined_once _))
    eval_once (JoinInt a b) scope h = then_such IsApart IsApart _ _ (eval_once a scope h) (λ v x. then_such IsApart IsApart _ _ (eval_once b scope h) (λ w y. joined_once _))
    eval_once (Same a b) scope h = then_such IsApart IsApart _ _ (eval_once a scope h) (λ v x. then_such IsApart IsApart _ _ (eval_once b scope h) (λ w y. tt))
    eval_once (Differ a b) scope h = then_such IsApart IsApart _ _ (eval_once a scope h) (λ v x. then_such IsApart IsApart _ _ (eval_once b scope h) (λ w y. tt))
    eval_once (And a b) scope h = then_such IsApart IsApart _ _ (eval_once a scope h) (λ v x. either_such IsApart (truth_of v) _ _ (eval_once b scope h) tt)
    eval_once (Or a b) scope h = then_such IsApart IsApart _ _ (eval_once a scope h) (λ v x. either_such IsApart (truth_of v) _ _ tt (eval_once b scope h))
    eval_once (Choose c a b) scope h = then_such IsApart IsApart _ _ (eval_once c scope h) (λ v x. either_such IsApart (truth_of v) _ _ (eval_once a scope h) (eval_once b scope h))
    eval_once (Equals a b) scope h = then_such IsApart IsApart _ _ (eval_once a scope h) (λ v x. then_such IsApart IsApart _ _ (eval_once b scope h) (λ w y. tt))
    eval_once (InstanceOf a class) scope h = then_such IsApart IsApart _ _ (eval_once a scope h) (λ v x. instance_once class (ref_of v))
    eval_once (CastTo class a) scope h = then_such IsApart IsApart _ _ (eval_once a scope h) (λ v x. cast_once class (ref_of v))
    eval_once (Child a part) scope h = then_such IsApart IsApart _ _ (eval_once a scope h) (λ v x. of_node IsApart v _ (λ n c. node_or_once (Fails Absent) (slice_get c 0) tt))
    eval_once (Element a part b) scope h = then_such IsApart IsApart _ _ (eval_once a scope h) (λ v x. then_such IsApart IsApart _ _ (eval_once b scope h) (λ w y. of_node IsApart v _ (λ n c. node_or_once (Fails Index) (element_at c (int_of w)) tt)))
    eval_once (Count a part) scope h = then_such IsApart IsApart _ _ (eval_once a scope h) (λ v x. of_node IsApart v _ (λ n c. tt))
    eval_once (Has a part) scope h = then_such IsApart IsApart _ _ (eval_once a scope h) (λ v x. of_node IsApart v _ (λ n c. tt))
    eval_once (TokenOf a part) scope h = then_such IsApart IsApart _ _ (eval_once a scope h) (λ v x. of_node IsApart v _ (λ n c. token_once c))
    eval_once (Call a attribute es) scope h = then_such IsApart IsApart _ _ (eval_once a scope h) (λ v x. then_such AreApart IsApart _ _ (all_once es scope h) (λ vs y. of_node IsApart v _ (λ n. (y, λ w z. z))))
    eval_once (Exists a part b) scope h = then_such IsApart IsApart _ _ (eval_once a scope h) (λ v x. then_such Any IsApart _ _ (of_node Any v _ (λ n c. tt)) (λ ns y. exists_once _ (λ n. eval_once b (bound scope n) (bound_once scope n h)) ns))
    eval_once (First a part b) scope h = then_such IsApart IsApart _ _ (eval_once a scope h) (λ v x. then_such Any IsApart _ _ (of_node Any v _ (λ n c. tt)) (λ ns y. first_once _ (λ n. eval_once b (bound scope n) (bound_once scope n h)) ns))
    eval_once (Sum a part b) scope h = then_such IsApart IsApart _ _ (eval_once a scope h) (λ v x. then_such Any IsApart _ _ (of_node Any v _ (λ n c. tt)) (λ ns y. sum_once _ (λ n. eval_once b (bound scope n) (bound_once scope n h)) ns (pos 0)))
    eval_once (Listed a part) scope h = then_such IsApart IsApart _ _ (eval_once a scope h) (λ v x. then_such Any IsApart _ _ (of_node Any v _ (λ n c. tt)) (λ ns y. made_once _ (with_more_apart same reflexive [] ns tt)))
    eval_once (Only a) scope h = then_such IsApart IsApart _ _ (eval_once a scope h) (λ v x. only_once (ref_of v))
    eval_once (Union a b) scope h = then_such IsApart IsApart _ _ (eval_once a scope h) (λ v x. then_such IsApart IsApart _ _ (eval_once b scope h) (λ w y. made_once _ (with_more_apart same reflexive (nodes_of v) (nodes_of w) (nodes_once v x))))
    eval_once (Contains a b) scope h = then_such IsApart IsApart _ _ (eval_once a scope h) (λ v x. then_such IsApart IsApart _ _ (eval_once b scope h) (λ w y. tt))
    eval_once (Over fold a b) scope h = then_such IsApart IsApart _ _ (eval_once a scope h) (λ v x. fold_once _ (λ n. eval_once b (bound scope n) (bound_once scope n h)) fold (nodes_of v) (nodes_once v x))
    eval_once (Children a) scope h = then_such IsApart IsApart _ _ (eval_once a scope h) (λ v x. of_node IsApart v _ (λ n c. children_once n _ [] tt))
    eval_once (Parent a) scope h = then_such IsApart IsApart _ _ (eval_once a scope h) (λ v x. of_node IsApart v _ (λ n c. tt))
    eval_once (Passed a) scope h = then_such IsApart IsApart _ _ (eval_once a scope h) (λ v x. either_such IsApart (may_pass v) (Gives v) (Fails Long) x tt)
    eval_once (SeekAny a part key e b) scope h = then_such IsApart IsApart _ _ (eval_once a scope h) (λ v x. then_such IsApart IsApart _ _ (eval_once e scope h) (λ w y. then_such Any IsApart _ _ (of_node Any v _ (λ n c. tt)) (λ ns z. exists_once _ (λ n. eval_once b (bound scope n) (bound_once scope n h)) ns)))
    eval_once (SeekFirst a part key e b) scope h = then_such IsApart IsApart _ _ (eval_once a scope h) (λ v x. then_such IsApart IsApart _ _ (eval_once e scope h) (λ w y. then_such Any IsApart _ _ (of_node Any v _ (λ n c. tt)) (λ ns z. first_once _ (λ n. eval_once b (bound scope n) (bound_once scope n h)) ns)))

    all_once : (es : Exprs) (scope : Scope N) → AreApart scope.names → GivesSuch AreApart (eval_all classes same es scope)
    all_once no_exprs scope h = tt
    all_once (expr e es) scope h = then_such IsApart AreApart _ _ (eval_once e scope h) (λ v x. then_such AreApart AreApart _ _ (all_once es scope h) (λ vs y. (x, y)))

-- instances ------------------------------------------------------------------------------------------------------------

module _ (rules : Rules) where
  reflexive : (n : Node) → node_eq n n ≡ true
  reflexive n = (node_eq-is n n).1 refl

  by_body : (scope : Scope Node) (r : Run Node (Value Node)) (o : Option Expr) → AreApart scope.names → GivesSuch IsApart r → GivesSuch IsApart (by_equation rules node_eq scope r o)
  by_body scope r None h g = g
  by_body scope r (Some e) h g = eval_once rules.classes node_eq reflexive e scope h

  past_them : (ns : List Node) (r : Run Node (Value Node)) → GivesSuch IsApart r → GivesSuch IsApart (past_nodes ns r)
  past_them [] r h = h
  past_them (n ∷ ns) r h = λ c. past_them ns r h

  past_all : (vs : List (Value Node)) (r : Run Node (Value Node)) → GivesSuch IsApart r → GivesSuch IsApart (past_arguments vs r)
  past_all [] r h = h
  past_all (v ∷ vs) r h = past_them (mentioned v) (past_arguments vs r) (past_all vs r h)

  upward : (name : List ℕ) (vs : List (Value Node)) (height : ℕ) (n : Node) → AreApart vs → GivesSuch IsApart (by_inherited rules node_eq name vs height n)
  upward name vs zero n h = tt
  upward name vs (suc height) n h = by_parent (λ m. upward name vs height m h)
    where
      by_parent : ((m : Node) → GivesSuch IsApart (by_inherited rules node_eq name vs height m)) → (o : Option (Node × ℕ)) → GivesSuch IsApart (elim o as (λ _. Run Node (Value Node)) [
        | None ↦ Fails Null
        | Some p ↦ Looks (Rattle.at_model.specs.Run.Is p.0) (λ c. by_equation rules node_eq (record { this = p.0; names = vs; child = Some n }) (by_inherited rules node_eq name vs height p.0)
            (inherited_equation rules c p.1 name))
      ])
      by_parent rest None = tt
      by_parent rest (Some p) = λ c. by_body _ _ (inherited_equation rules c p.1 name) h (rest p.0)

  its_body : (i : Instance Node) (c : ℕ) (b : Bool) → AreApart i.arguments → GivesSuch IsApart (elim b as (λ _. Run Node (Value Node)) [
    | true ↦ by_inherited rules node_eq (attribute_name rules i.attribute) i.arguments max_depth i.node
    | false ↦ by_own rules node_eq i c
  ])
  its_body i c true h = upward (attribute_name rules i.attribute) i.arguments max_depth i.node h
  its_body i c false h = by_body _ (Fails Null) (own_equation rules c i.attribute) h tt

  evaluated_once : (i : Instance Node) → AreApart i.arguments → GivesSuch IsApart (equations rules i)
  evaluated_once i h = λ c. past_all i.arguments _ (its_body i c (is_inherited rules i.attribute) h)

  module _ (look : Contents Node) where
    -- what is known has each node once
    abbrev SuchBelow : ℕ → Type 0
    SuchBelow n = (i : Instance Node) (v : Value Node) → AreApart i.arguments → outcome_at look (equations rules) n i ≡ Some (Finds v) → IsApart v

    settled_once : (f : Instance Node → Option (Outcome Node)) → ((i : Instance Node) (v : Value Node) → AreApart i.arguments → f i ≡ Some (Finds v) → IsApart v) →
        (i : Instance Node) (r : Run Node (Value Node)) → GivesSuch IsApart r → (v : Value Node) → settled f i (tried look (λ j. value_in (f j)) r) ≡ Some (Finds v) → IsApart v
    settled_once f below i (Gives a) h v e = let s : a ≡ v = cc in subst IsApart s h
    settled_once f below i (Fails x) h v e = absurd cc
    settled_once f below i (Looks l k) h v e = settled_once f below i (k (look l)) (h (look l)) v e
    settled_once f below i (Demands j k) (w, h) v e = by_known (f j) refl e (λ u a. settled_once f below i (k u) (h u a) v)
      where
        by_known : (o : Option (Outcome Node)) → f j ≡ o → settled f i (elim (value_in o) as (λ _. Tried Node (Value Node)) [ None ↦ Needs j | Some u ↦ tried look (λ j. value_in (f j)) (k u) ]) ≡ Some (Finds v) →
            ((u : Value Node) → IsApart u → settled f i (tried look (λ j. value_in (f j)) (k u)) ≡ Some (Finds v) → IsApart v) → IsApart v
        by_known None is g rest = below j v w g
        by_known (Some (Faults x at)) is g rest = below j v w g
        by_known (Some (Finds u)) is g rest = rest u (below j u w is) g

    once_at : (n : ℕ) → SuchBelow n
    once_at zero i v h e = absurd cc
    once_at (suc n) i v h e = settled_once (outcome_at look (equations rules) n) (once_at n) i (equations rules i) (evaluated_once i h) v e

    pub each_once : (i : Instance Node) (v : Value Node) → AreApart i.arguments → HasValue look (equations rules) i v → IsApart v
    each_once i v h (n, e) = once_at n i v h e
