-- Evaluations of one expression over related nodes are alike.
use Rattle.std.proofs.Common.{◌≡◌, ℕ, zero, suc, Bool, true, false, cond, not, List, [], ◌∷◌, ◌++◌, length, nat_le, Option, Some, None, refl, ap, ℤ, pos, negsuc}
use Rattle.std.specs.Prelude.{option_map}
use Rattle.std.specs.List.{slice_get}
use Rattle.std.specs.Int.{w32, int_wrapping_add}
use Rattle.at_model.specs.Classes.{Classes, parts, is_sub}
use Rattle.at_model.specs.Trees.{Token}
use Rattle.at_model.specs.Drawers.{Key, mark_of}
use Rattle.at_model.specs.Trees as tree
use Rattle.at_model.specs.Run.{Value, Nodes, Null, Absent, Index, Zero, Cast, Long, Run, Gives, Fails, ◌>>=◌}
use Rattle.at_model.specs.Bodies.{Operator, Multiply, Divide, Remainder, Add, Subtract, Expr, IntLiteral, TruthLiteral, TextLiteral, NullLiteral, This, Name, IndexName, Negate, Not, Arithmetic, Compare, Join, JoinInt, Same, Differ, And, Or, Choose, Equals, InstanceOf, CastTo, Child, Element, Count, Has, TokenOf, Call, Exists, First, Sum, SeekAny, SeekFirst, Fold, AnyOf, FirstOf, SumOf, Gather, Close, Listed, Only, Union, Contains, Over, Children, Parent, Exprs, no_exprs, expr, Scope, bound, int_of, truth_of, text_of, ref_of, value_of, named, node_of, node_or, child_of, element_at, element_of, count_of, has_of, token_of, demand_of, quotient, remainder, computed, max_text, joined, ref_eq, value_eq, is_instance, cast_to, index_of, exists_in, first_in, sum_in, elements_of, drawer_of, nodes_of, mentioned, is_among, with_one, with_more, made, max_list, only, contains, gather_in, close_in, max_turns, fold_in, tree_parts, children_in, children_of, up_of, eval, eval_all, Passed, may_pass, passed}
use Rattle.at_model.specs.Alike.{OptionLike, neither, both, ListLike, end, more, ValueLike, int, truth, text, ref, nodes, is, slot, tok, up, idx, drawer, RunLike, gives, fails, looks, demands, ScopeLike, SameLike}

pub then-like : {N M A B C D : Type 0} {R : N → M → Type 0} {Q : A → B → Type 0} {P : C → D → Type 0} {r : Run N A} {s : Run M B} {k : A → Run N C} {h : B → Run M D} →
    RunLike R Q r s → ((a : A) (b : B) → Q a b → RunLike R P (k a) (h b)) → RunLike R P (r >>= k) (s >>= h)
then-like (gives q) f = f _ _ q
then-like (fails x) f = fails x
then-like (looks s g) f = looks s (λ c d e. then-like (g c d e) f)
then-like (demands i g) f = demands i (λ v w e. then-like (g v w e) f)

pub int_of-like : {N M : Type 0} {R : N → M → Type 0} {v : Value N} {w : Value M} → ValueLike R v w → int_of v ≡ int_of w
int_of-like (int n) = refl
int_of-like (truth b) = refl
int_of-like (text bytes) = refl
int_of-like (ref m) = refl
int_of-like (nodes r) = refl

pub truth_of-like : {N M : Type 0} {R : N → M → Type 0} {v : Value N} {w : Value M} → ValueLike R v w → truth_of v ≡ truth_of w
truth_of-like (int n) = refl
truth_of-like (truth b) = refl
truth_of-like (text bytes) = refl
truth_of-like (ref m) = refl
truth_of-like (nodes r) = refl

pub text_of-like : {N M : Type 0} {R : N → M → Type 0} {v : Value N} {w : Value M} → ValueLike R v w → text_of v ≡ text_of w
text_of-like (int n) = refl
text_of-like (truth b) = refl
text_of-like (text bytes) = refl
text_of-like (ref m) = refl
text_of-like (nodes r) = refl

pub ref_of-like : {N M : Type 0} {R : N → M → Type 0} {v : Value N} {w : Value M} → ValueLike R v w → OptionLike R (ref_of v) (ref_of w)
ref_of-like (int n) = neither
ref_of-like (truth b) = neither
ref_of-like (text bytes) = neither
ref_of-like (ref m) = m
ref_of-like (nodes r) = neither

pub nodes_of-like : {N M : Type 0} {R : N → M → Type 0} {v : Value N} {w : Value M} → ValueLike R v w → ListLike R (nodes_of v) (nodes_of w)
nodes_of-like (int n) = end
nodes_of-like (truth b) = end
nodes_of-like (text bytes) = end
nodes_of-like (ref m) = end
nodes_of-like (nodes r) = r

pub mentioned-like : {N M : Type 0} {R : N → M → Type 0} {v : Value N} {w : Value M} → ValueLike R v w → ListLike R (mentioned v) (mentioned w)
mentioned-like (int n) = end
mentioned-like (truth b) = end
mentioned-like (text bytes) = end
mentioned-like (ref neither) = end
mentioned-like (ref (both r)) = more r end
mentioned-like (nodes r) = r

pub value_of-like : {N M : Type 0} {R : N → M → Type 0} (t : Token) → ValueLike R (value_of t) (value_of t)
value_of-like (tree.Text bytes) = text bytes
value_of-like (tree.Int n) = int n
value_of-like (tree.Truth b) = truth b

may_pass-like : {N M : Type 0} {R : N → M → Type 0} {v : Value N} {w : Value M} → ValueLike R v w → may_pass v ≡ may_pass w
may_pass-like (int (pos n)) = refl
may_pass-like (int (negsuc n)) = refl
may_pass-like (truth b) = refl
may_pass-like (text bytes) = refl
may_pass-like (ref m) = refl
may_pass-like (nodes r) = refl

noded : {N M : Type 0} {R : N → M → Type 0} {m : Option N} {n : Option M} → OptionLike R m n →
    RunLike R R (elim m as (λ _. Run N N) [ None ↦ Fails Null | Some a ↦ Gives a ]) (elim n as (λ _. Run M M) [ None ↦ Fails Null | Some a ↦ Gives a ])
noded neither = fails Null
noded (both r) = gives r

pub node_of-like : {N M : Type 0} {R : N → M → Type 0} {v : Value N} {w : Value M} → ValueLike R v w → RunLike R R (node_of v) (node_of w)
node_of-like v = noded (ref_of-like v)

pub get-like : {A B : Type 0} {Q : A → B → Type 0} {xs : List A} {ys : List B} → ListLike Q xs ys → (i : ℕ) → OptionLike Q (slice_get xs i) (slice_get ys i)
get-like end i = neither
get-like (more q qs) zero = both q
get-like (more q qs) (suc i) = get-like qs i

pub length-like : {A B : Type 0} {Q : A → B → Type 0} {xs : List A} {ys : List B} → ListLike Q xs ys → length xs ≡ length ys
length-like end = refl
length-like (more q qs) = ap suc (length-like qs)

pub named-like : {N M : Type 0} {R : N → M → Type 0} {xs : List (Value N)} {ys : List (Value M)} → ListLike (ValueLike R) xs ys → (i : ℕ) → ValueLike R (named xs i) (named ys i)
named-like end i = ref neither
named-like (more q qs) zero = q
named-like (more q qs) (suc i) = named-like qs i

pub node_or-like : {N M : Type 0} {R : N → M → Type 0} {m : Option N} {n : Option M} {f : Run N (Value N)} {g : Run M (Value M)} → RunLike R (ValueLike R) f g → OptionLike R m n →
    RunLike R (ValueLike R) (node_or f m) (node_or g n)
node_or-like f neither = f
node_or-like f (both r) = gives (ref (both r))

pub element_at-like : {N M : Type 0} {R : N → M → Type 0} {ms : List N} {ns : List M} → ListLike R ms ns → (i : ℤ) → OptionLike R (element_at ms i) (element_at ns i)
element_at-like e (pos i) = get-like e i
element_at-like e (negsuc i) = neither

pub child_of-like : {N M : Type 0} {R : N → M → Type 0} (part : ℕ) (v : Value N) (w : Value M) → ValueLike R v w → RunLike R (ValueLike R) (child_of part v) (child_of part w)
child_of-like part v w e = then-like (node_of-like e) (λ m n r. looks (slot part r) (λ c d s. node_or-like (fails Absent) (get-like s 0)))

pub element_of-like : {N M : Type 0} {R : N → M → Type 0} (part : ℕ) (v : Value N) (w : Value M) (i : Value N) (j :
    Value M) → ValueLike R v w → ValueLike R i j → RunLike R (ValueLike R) (element_of part v i) (element_of part w j)
element_of-like part v w i j e s = rw (int_of-like s) (then-like (node_of-like e) (λ m n r. looks (slot part r) (λ c d s. node_or-like (fails Index) (element_at-like s (int_of j)))))

pub count_of-like : {N M : Type 0} {R : N → M → Type 0} (part : ℕ) (v : Value N) (w : Value M) → ValueLike R v w → RunLike R (ValueLike R) (count_of part v) (count_of part w)
count_of-like part v w e = then-like (node_of-like e) (λ m n r. looks (slot part r) (λ c d s. rw (length-like s) (gives (int (pos (length d))))))

pub has_of-like : {N M : Type 0} {R : N → M → Type 0} (part : ℕ) (v : Value N) (w : Value M) → ValueLike R v w → RunLike R (ValueLike R) (has_of part v) (has_of part w)
has_of-like part v w e = then-like (node_of-like e) (λ m n r. looks (slot part r) (λ c d s. rw (length-like s) (gives (truth (not (nat_le (length d) 0))))))

pub token_of-like : {N M : Type 0} {R : N → M → Type 0} (part : ℕ) (v : Value N) (w : Value M) → ValueLike R v w → RunLike R (ValueLike R) (token_of part v) (token_of part w)
token_of-like {R = R} part v w e = then-like (node_of-like e) (λ m n r. looks (tok part r) (λ c d s. rw s (gives (value_of-like d))))

pub demand_of-like : {N M : Type 0} {R : N → M → Type 0} (attribute : ℕ) (v : Value N) (w : Value M)
    (vs : List (Value N)) (ws : List (Value M)) → ValueLike R v w → ListLike (ValueLike R) vs ws
    → RunLike R (ValueLike R) (demand_of attribute v vs) (demand_of attribute w ws)
demand_of-like attribute v w vs ws e es = then-like (node_of-like e) (λ m n r. demands (record { node = r; attribute = refl; arguments = es }) (λ a b s. gives s))

quotient-same : {N M : Type 0} {R : N → M → Type 0} (m n : ℤ) → RunLike R (ValueLike R) (quotient m n) (quotient m n)
quotient-same m (pos zero) = fails Zero
quotient-same m (pos (suc n)) = gives (int _)
quotient-same m (negsuc n) = gives (int _)

remainder-same : {N M : Type 0} {R : N → M → Type 0} (m n : ℤ) → RunLike R (ValueLike R) (remainder m n) (remainder m n)
remainder-same m (pos zero) = fails Zero
remainder-same m (pos (suc n)) = gives (int _)
remainder-same m (negsuc n) = gives (int _)

computed-same : {N M : Type 0} {R : N → M → Type 0} (o : Operator) (m n : ℤ) → RunLike R (ValueLike R) (computed o m n) (computed o m n)
computed-same Multiply m n = gives (int _)
computed-same Divide m n = quotient-same m n
computed-same Remainder m n = remainder-same m n
computed-same Add m n = gives (int _)
computed-same Subtract m n = gives (int _)

computed-like : {N M : Type 0} {R : N → M → Type 0} (o : Operator) {v v' : Value N} {w w' : Value M} → ValueLike R v w →
    ValueLike R v' w' → RunLike R (ValueLike R) (computed o (int_of v) (int_of v')) (computed o (int_of w) (int_of w'))
computed-like o {w = w} {w' = w'} e f = rw (int_of-like e, int_of-like f) (computed-same o (int_of w) (int_of w'))

cond-like : {N M A B : Type 0} {R : N → M → Type 0} {Q : A → B → Type 0} (b c : Bool) {x y : Run N A} {x' y' : Run M B}
    → b ≡ c → RunLike R Q x x' → RunLike R Q y y' → RunLike R Q (cond b x y) (cond c x' y')
cond-like true true e p q = p
cond-like false false e p q = q
cond-like true false e p q = cc
cond-like false true e p q = cc

joined-same : {N M : Type 0} {R : N → M → Type 0} (bytes : List ℕ) → RunLike R (ValueLike R) (joined bytes) (joined bytes)
joined-same bytes = cond-like (nat_le (length bytes) max_text) (nat_le (length bytes) max_text) refl (gives (text bytes)) (fails Long)

ref_eq-like : {N M : Type 0} {R : N → M → Type 0} {same : N → N → Bool} {other : M → M → Bool} → SameLike R same other
    → {a b : Option N} {c d : Option M} → OptionLike R a c → OptionLike R b d → ref_eq same a b ≡ ref_eq other c d
ref_eq-like s neither neither = refl
ref_eq-like s neither (both r) = refl
ref_eq-like s (both r) neither = refl
ref_eq-like s (both r) (both t) = s _ _ _ _ r t

pub value_eq-like : {N M : Type 0} {R : N → M → Type 0} {same : N → N → Bool} {other : M → M → Bool}
    → SameLike R same other → {v v' : Value N} {w w' : Value M} → ValueLike R v w → ValueLike R v' w'
    → value_eq same v v' ≡ value_eq other w w'
value_eq-like s (int n) f = rw (int_of-like f) refl
value_eq-like s (truth b) f = rw (truth_of-like f) refl
value_eq-like s (text bytes) f = rw (text_of-like f) refl
value_eq-like s (ref m) f = ref_eq-like s m (ref_of-like f)
value_eq-like s (nodes r) f = refl

is_instance-like : {N M : Type 0} {R : N → M → Type 0} (classes : Classes) (class : ℕ) {n : Option N} {m : Option M}
    → OptionLike R n m → RunLike R (ValueLike R) (is_instance classes class n) (is_instance classes class m)
is_instance-like classes class neither = gives (truth false)
is_instance-like classes class (both r) = looks (is r) (λ c d e. rw e (gives (truth (is_sub classes d class))))

cast_to-like : {N M : Type 0} {R : N → M → Type 0} (classes : Classes) (class : ℕ) {n : Option N} {m : Option M}
    → OptionLike R n m → RunLike R (ValueLike R) (cast_to classes class n) (cast_to classes class m)
cast_to-like classes class neither = gives (ref neither)
cast_to-like classes class (both r) = looks (is r) (λ c d e. cond-like (is_sub classes c class) (is_sub classes d class) (ap (λ x. is_sub classes x class) e) (gives (ref (both r))) (fails Cast))

index_of-like : {N M : Type 0} {R : N → M → Type 0} {n : Option N} {m : Option M} → OptionLike R n m → RunLike R (ValueLike R) (index_of n) (index_of m)
index_of-like neither = gives (int (pos 0))
index_of-like (both r) = looks (idx r) (λ c d e. rw e (gives (int (pos d))))

pub exists_in-like : {N M : Type 0} {R : N → M → Type 0} (test : N → Run N (Value N)) (other : M → Run M (Value M)) → ((m : N) (n : M) → R m n → RunLike R (ValueLike R) (test m) (other n)) →
    {ms : List N} {ns : List M} → ListLike R ms ns → RunLike R (ValueLike R) (exists_in test ms) (exists_in other ns)
exists_in-like test other s end = gives (truth false)
exists_in-like test other s (more r rs) = then-like (s _ _ r) (λ v w e. cond-like (truth_of v) (truth_of w) (truth_of-like e) (gives (truth true)) (exists_in-like test other s rs))

pub first_in-like : {N M : Type 0} {R : N → M → Type 0} (test : N → Run N (Value N)) (other : M → Run M (Value M)) → ((m : N) (n : M) → R m n → RunLike R (ValueLike R) (test m) (other n)) →
    {ms : List N} {ns : List M} → ListLike R ms ns → RunLike R (ValueLike R) (first_in test ms) (first_in other ns)
first_in-like test other s end = gives (ref neither)
first_in-like test other s (more r rs) = then-like (s _ _ r) (λ v w e. cond-like (truth_of v) (truth_of w) (truth_of-like e) (gives (ref (both r))) (first_in-like test other s rs))

pub sum_in-like : {N M : Type 0} {R : N → M → Type 0} (term : N → Run N (Value N)) (other : M → Run M (Value M)) → ((m : N) (n : M) → R m n → RunLike R (ValueLike R) (term m) (other n)) →
    {ms : List N} {ns : List M} → ListLike R ms ns → (total : ℤ) → RunLike R (ValueLike R) (sum_in term total ms) (sum_in other total ns)
sum_in-like term other s end total = gives (int total)
sum_in-like term other s (more r rs) total = then-like (s _ _ r) (λ v w e. rw (int_of-like e) (sum_in-like term other s rs (int_wrapping_add w32 total (int_of w))))

elements_of-like : {N M : Type 0} {R : N → M → Type 0} (part : ℕ) {v : Value N} {w : Value M} → ValueLike R v w → RunLike R (ListLike R) (elements_of part v) (elements_of part w)
elements_of-like part e = then-like (node_of-like e) (λ m n r. looks (slot part r) (λ c d s. gives s))

append-like : {A B : Type 0} {Q : A → B → Type 0} {xs us : List A} {ys vs : List B} → ListLike Q xs ys → ListLike Q us vs → ListLike Q (xs ++ us) (ys ++ vs)
append-like end qs = qs
append-like (more p ps) qs = more p (append-like ps qs)

either-like : {A B : Type 0} {Q : A → B → Type 0} (b c : Bool) {xs us : List A} {ys vs : List B} → b ≡ c → ListLike Q xs ys → ListLike Q us vs → ListLike Q (cond b xs us) (cond c ys vs)
either-like true true e p q = p
either-like false false e p q = q
either-like true false e p q = cc
either-like false true e p q = cc

is_among-like : {N M : Type 0} {R : N → M → Type 0} {same : N → N → Bool} {other : M → M → Bool} → SameLike R same other → {n : N} {m : M} → R n m → {ns : List N} {ms : List M} → ListLike R ns ms → is_among same n ns ≡ is_among other m ms
is_among-like s r end = refl
is_among-like s r (more t ts) = rw (s _ _ _ _ r t, is_among-like s r ts) refl

with_one-like : {N M : Type 0} {R : N → M → Type 0} {same : N → N → Bool} {other : M → M → Bool} → SameLike R same other → {ns : List N} {ms : List M} → ListLike R ns ms → {n : N} {m : M} → R n m → ListLike R (with_one same ns n) (with_one other ms m)
with_one-like {same = same} {other = other} s {ns = ns} {ms = ms} rs {n = n} {m = m} r = either-like (is_among same n ns) (is_among other m ms) (is_among-like s r rs) rs (append-like rs (more r end))

pub with_more-like : {N M : Type 0} {R : N → M → Type 0} {same : N → N → Bool} {other : M → M → Bool} → SameLike R same other → {ns xs : List N} {ms ys : List M} → ListLike R ns ms → ListLike R xs ys → ListLike R (with_more same ns xs) (with_more other ms ys)
with_more-like s rs end = rs
with_more-like s rs (more t ts) = with_more-like s (with_one-like s rs t) ts

made-like : {N M : Type 0} {R : N → M → Type 0} {ns : List N} {ms : List M} → ListLike R ns ms → RunLike R (ValueLike R) (made ns) (made ms)
made-like {ns = ns} {ms = ms} rs = cond-like (nat_le (length ns) max_list) (nat_le (length ms) max_list) (ap (λ n. nat_le n max_list) (length-like rs)) (gives (nodes rs)) (fails Long)

only-like : {N M : Type 0} {R : N → M → Type 0} {m : Option N} {n : Option M} → OptionLike R m n → ListLike R (only m) (only n)
only-like neither = end
only-like (both r) = more r end

contains-like : {N M : Type 0} {R : N → M → Type 0} {same : N → N → Bool} {other : M → M → Bool} → SameLike R same other → {ns : List N} {ms : List M} → ListLike R ns ms → {m : Option N} {n : Option M} → OptionLike R m n → contains same ns m ≡ contains other ms n
contains-like s rs neither = refl
contains-like s rs (both r) = is_among-like s r rs

module _ {N M : Type 0} {R : N → M → Type 0} (same : N → N → Bool) (other : M → M → Bool) (s : SameLike R same other) where
  module _ (what : N → Run N (Value N)) (also : M → Run M (Value M)) (like : (n : N) (m : M) → R n m → RunLike R (ValueLike R) (what n) (also m)) where
    gather_in-like : {ns : List N} {ms : List M} → ListLike R ns ms → {fs : List N} {gs : List M} → ListLike R fs gs → RunLike R (ValueLike R) (gather_in same what fs ns) (gather_in other also gs ms)
    gather_in-like end f = made-like f
    gather_in-like (more r rs) f = then-like (like _ _ r) (λ v w e. gather_in-like rs (with_more-like s f (nodes_of-like e)))

    close_in-like : (turns i : ℕ) {ns : List N} {ms : List M} → ListLike R ns ms → RunLike R (ValueLike R) (close_in same what turns i ns) (close_in other also turns i ms)
    close_in-like zero i rs = fails Long
    close_in-like (suc turns) i {ns = ns} {ms = ms} rs = by_turn (λ us vs t. close_in-like turns (suc i) {ns = us} {ms = vs} t) (get-like rs i)
      where
        by_turn : ((us : List N) (vs : List M) → ListLike R us vs → RunLike R (ValueLike R) (close_in same what turns (suc i) us) (close_in other also turns (suc i) vs)) → {o : Option N} {p : Option M} → OptionLike R o p → RunLike R (ValueLike R)
            (elim o as (λ _. Run N (Value N)) [ None ↦ Gives (Nodes ns) | Some n ↦ what n >>= λ v. close_in same what turns (suc i) (with_more same ns (nodes_of v)) ])
            (elim p as (λ _. Run M (Value M)) [ None ↦ Gives (Nodes ms) | Some m ↦ also m >>= λ w. close_in other also turns (suc i) (with_more other ms (nodes_of w)) ])
        by_turn rest neither = gives (nodes rs)
        by_turn rest (both r) = then-like (like _ _ r) (λ v w e. rest _ _ (with_more-like s rs (nodes_of-like e)))

    pub fold_in-like : (fold : Fold) {ns : List N} {ms : List M} → ListLike R ns ms → RunLike R (ValueLike R) (fold_in same fold what ns) (fold_in other fold also ms)
    fold_in-like AnyOf rs = exists_in-like what also like rs
    fold_in-like FirstOf rs = first_in-like what also like rs
    fold_in-like SumOf rs = sum_in-like what also like rs (pos 0)
    fold_in-like Gather rs = gather_in-like rs end
    fold_in-like Close rs = close_in-like max_turns 0 rs

  children_in-like : {n : N} {m : M} → R n m → (ps : List ℕ) → {fs : List N} {gs : List M} → ListLike R fs gs → RunLike R (ValueLike R) (children_in same n fs ps) (children_in other m gs ps)
  children_in-like r [] f = made-like f
  children_in-like r (p ∷ ps) f = looks (slot p r) (λ c d e. children_in-like r ps (with_more-like s f e))

  pub children_of-like : (classes : Classes) (v : Value N) (w : Value M) → ValueLike R v w → RunLike R (ValueLike R) (children_of classes same v) (children_of classes other w)
  children_of-like classes v w e = then-like (node_of-like e) (λ n m r. looks (is r) (λ c d f. rw f (children_in-like r (tree_parts 0 (parts classes d)) end)))

parent-like : {N M : Type 0} {R : N → M → Type 0} {c : Option (N × ℕ)} {d : Option (M × ℕ)} → OptionLike (λ p q. R p.0 q.0 × (p.1 ≡ q.1)) c d → OptionLike R (option_map (λ q. q.0) c) (option_map (λ q. q.0) d)
parent-like neither = neither
parent-like (both r) = both r.0

pub up_of-like : {N M : Type 0} {R : N → M → Type 0} (v : Value N) (w : Value M) → ValueLike R v w → RunLike R (ValueLike R) (up_of v) (up_of w)
up_of-like v w e = then-like (node_of-like e) (λ n m r. looks (up r) (λ c d f. gives (ref (parent-like f))))

pub drawer_of-like : {N M : Type 0} {R : N → M → Type 0} (part : ℕ) (key : Key) {v v' : Value N} {w w' : Value M} → ValueLike R v w → ValueLike R v' w'
    → RunLike R (ListLike R) (drawer_of part key v v') (drawer_of part key w w')
drawer_of-like part key {w' = w'} e s = rw (text_of-like s) (then-like (node_of-like e) (λ m n r. looks (drawer part key (mark_of (text_of w')) r) (λ c d q. gives q)))

pub bound-like : {N M : Type 0} {R : N → M → Type 0} {e : Scope N} {f : Scope M} → ScopeLike R e f → (n : N) (m : M) → R n m → ScopeLike R (bound e n) (bound f m)
bound-like t n m r = record { this = t.this; names = more (ref (both r)) t.names; child = t.child }

passed-like : {N M : Type 0} {R : N → M → Type 0} {v : Value N} {w : Value M} → ValueLike R v w → RunLike R (ValueLike R) (passed v) (passed w)
passed-like {v = v} {w = w} u = cond-like (may_pass v) (may_pass w) (may_pass-like u) (gives u) (fails Long)

mutual
  pub eval-like : {N M : Type 0} {R : N → M → Type 0} {same : N → N → Bool} {other : M → M → Bool} (classes : Classes)
      → SameLike R same other → (e : Expr) (f : Scope N) (g : Scope M) → ScopeLike R f g →
      RunLike R (ValueLike R) (eval classes same e f) (eval classes other e g)
  eval-like classes s (IntLiteral n) f g t = gives (int n)
  eval-like classes s (TruthLiteral b) f g t = gives (truth b)
  eval-like classes s (TextLiteral bytes) f g t = gives (text bytes)
  eval-like classes s NullLiteral f g t = gives (ref neither)
  eval-like classes s This f g t = gives (ref (both t.this))
  eval-like classes s (Name i) f g t = gives (named-like t.names i)
  eval-like classes s IndexName f g t = index_of-like t.child
  eval-like classes s (Negate a) f g t = then-like (eval-like classes s a f g t) (λ v w u. rw (int_of-like u) (gives (int _)))
  eval-like classes s (Not a) f g t = then-like (eval-like classes s a f g t) (λ v w u. rw (truth_of-like u) (gives (truth _)))
  eval-like classes s (Arithmetic o a b) f g t = then-like (eval-like classes s a f g t) (λ v w u. then-like (eval-like classes s b f g t) (λ v' w' u'. computed-like o u u'))
  eval-like classes s (Compare o a b) f g t = then-like (eval-like classes s a f g t) (λ v w u.
      then-like (eval-like classes s b f g t) (λ v' w' u'. rw (int_of-like u, int_of-like u') (gives (truth _))))
  eval-like classes s (Join a b) f g t = then-like (eval-like classes s a f g t) (λ v w u. then-like (eval-like classes s b f g t) (λ v' w' u'. rw (text_of-like u, text_of-like u') (joined-same _)))
  eval-like classes s (JoinInt a b) f g t = then-like (eval-like classes s a f g t) (λ v w u. then-like (eval-like classes s b f g t) (λ v' w' u'. rw (text_of-like u, int_of-like u') (joined-same _)))
  eval-like classes s (Same a b) f g t = then-like (eval-like classes s a f g t) (λ v w u. then-like (eval-like classes s b f g t) (λ v' w' u'. rw (value_eq-like s u u') (gives (truth _))))
  eval-like classes s (Differ a b) f g t = then-like (eval-like classes s a f g t) (λ v w u. then-like (eval-like classes s b f g t) (λ v' w' u'. rw (value_eq-like s u u') (gives (truth _))))
  eval-like classes s (And a b) f g t = then-like (eval-like classes s a f g t) (λ v w u. cond-like (truth_of v) (truth_of w) (truth_of-like u) (eval-like classes s b f g t) (gives (truth false)))
  eval-like classes s (Or a b) f g t = then-like (eval-like classes s a f g t) (λ v w u. cond-like (truth_of v) (truth_of w) (truth_of-like u) (gives (truth true)) (eval-like classes s b f g t))
  eval-like classes s (Choose c a b) f g t = then-like (eval-like classes s c f g t) (λ v w u.
      cond-like (truth_of v) (truth_of w) (truth_of-like u) (eval-like classes s a f g t) (eval-like classes s b f g t))
  eval-like classes s (Equals a b) f g t = then-like (eval-like classes s a f g t) (λ v w u.
      then-like (eval-like classes s b f g t) (λ v' w' u'. rw (text_of-like u, text_of-like u') (gives (truth _))))
  eval-like classes s (InstanceOf a class) f g t = then-like (eval-like classes s a f g t) (λ v w u. is_instance-like classes class (ref_of-like u))
  eval-like classes s (CastTo class a) f g t = then-like (eval-like classes s a f g t) (λ v w u. cast_to-like classes class (ref_of-like u))
  eval-like classes s (Child a part) f g t = then-like (eval-like classes s a f g t) (child_of-like part)
  eval-like classes s (Element a part b) f g t = then-like (eval-like classes s a f g t) (λ v w u. then-like (eval-like classes s b f g t) (λ v' w' u'. element_of-like part v w v' w' u u'))
  eval-like classes s (Count a part) f g t = then-like (eval-like classes s a f g t) (count_of-like part)
  eval-like classes s (Has a part) f g t = then-like (eval-like classes s a f g t) (has_of-like part)
  eval-like classes s (TokenOf a part) f g t = then-like (eval-like classes s a f g t) (token_of-like part)
  eval-like classes s (Call a attribute bs) f g t = then-like (eval-like classes s a f g t)
      (λ v w u. then-like (eval_all-like classes s bs f g t) (λ vs ws us. demand_of-like attribute v w vs ws u us))
  eval-like classes s (Exists a part b) f g t =
      then-like (eval-like classes s a f g t) (λ v w u. then-like (elements_of-like part u)
      (λ ns ms r. exists_in-like _ _ (λ n m x. eval-like classes s b _ _ (bound-like t n m x)) r))
  eval-like classes s (First a part b) f g t =
      then-like (eval-like classes s a f g t) (λ v w u. then-like (elements_of-like part u)
      (λ ns ms r. first_in-like _ _ (λ n m x. eval-like classes s b _ _ (bound-like t n m x)) r))
  eval-like classes s (Sum a part b) f g t =
      then-like (eval-like classes s a f g t) (λ v w u. then-like (elements_of-like part u)
      (λ ns ms r. sum_in-like _ _ (λ n m x. eval-like classes s b _ _ (bound-like t n m x)) r (pos 0)))
  eval-like classes s (Passed a) f g t = then-like (eval-like classes s a f g t) (λ v w u. passed-like u)
  eval-like classes s (Listed a part) f g t = then-like (eval-like classes s a f g t) (λ v w u. then-like (elements_of-like part u) (λ ns ms r. made-like (with_more-like s end r)))
  eval-like classes s (Only a) f g t = then-like (eval-like classes s a f g t) (λ v w u. gives (nodes (only-like (ref_of-like u))))
  eval-like classes s (Union a b) f g t = then-like (eval-like classes s a f g t) (λ v w u. then-like (eval-like classes s b f g t) (λ v' w' u'. made-like (with_more-like s (nodes_of-like u) (nodes_of-like u'))))
  eval-like classes s (Contains a b) f g t = then-like (eval-like classes s a f g t) (λ v w u. then-like (eval-like classes s b f g t) (λ v' w' u'. rw (contains-like s (nodes_of-like u) (ref_of-like u')) (gives (truth _))))
  eval-like {same = same} {other = other} classes s (Over fold a b) f g t = then-like (eval-like classes s a f g t) (λ v w u. fold_in-like same other s _ _ (λ n m x. eval-like classes s b _ _ (bound-like t n m x)) fold (nodes_of-like u))
  eval-like {same = same} {other = other} classes s (Children a) f g t = then-like (eval-like classes s a f g t) (children_of-like same other s classes)
  eval-like classes s (Parent a) f g t = then-like (eval-like classes s a f g t) up_of-like
  eval-like classes s (SeekAny a part key e b) f g t =
      then-like (eval-like classes s a f g t) (λ v w u. then-like (eval-like classes s e f g t) (λ v' w' u'. then-like (drawer_of-like part key u u')
      (λ ns ms r. exists_in-like _ _ (λ n m x. eval-like classes s b _ _ (bound-like t n m x)) r)))
  eval-like classes s (SeekFirst a part key e b) f g t =
      then-like (eval-like classes s a f g t) (λ v w u. then-like (eval-like classes s e f g t) (λ v' w' u'. then-like (drawer_of-like part key u u')
      (λ ns ms r. first_in-like _ _ (λ n m x. eval-like classes s b _ _ (bound-like t n m x)) r)))

  pub eval_all-like : {N M : Type 0} {R : N → M → Type 0} {same : N → N → Bool} {other : M → M → Bool}
      (classes : Classes) → SameLike R same other → (es : Exprs) (f : Scope N) (g : Scope M) → ScopeLike R f g →
      RunLike R (ListLike (ValueLike R)) (eval_all classes same es f) (eval_all classes other es g)
  eval_all-like classes s no_exprs f g t = gives end
  eval_all-like classes s (expr e es) f g t = then-like (eval-like classes s e f g t) (λ v w u. then-like (eval_all-like classes s es f g t) (λ vs ws us. gives (more u us)))
