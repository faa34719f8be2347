-- Evaluations of like instances are alike.
use Rattle.std.proofs.Common.{◌≡◌, ℕ, zero, suc, Bool, true, false, List, Option, Some, None, ap}
use Rattle.at_model.specs.Run.{Value, Instance, Run, Fails, Looks, Null, Is}
use Rattle.at_model.specs.Bodies.{Expr, Scope}
use Rattle.at_model.specs.Rules.{Rules, inherited_equation, own_equation, is_inherited, attribute_name, past_nodes, past_arguments, by_equation, by_inherited, by_own, evaluation_within, evaluation}
use Rattle.at_model.specs.Terms.{max_depth}
use Rattle.at_model.specs.Alike.{OptionLike, neither, both, ListLike, end, more, ValueLike, is, up, RunLike, fails, looks, ScopeLike, SameLike, InstanceLike, EquationsLike, IsInjective, Names}
use Rattle.at_model.specs.Paths.{Node, node_eq}
use Rattle.at_model.specs.Meaning.{equations}
use Rattle.at_model.proofs.Nodes.{same_like, node_eq-is}
use Rattle.at_model.proofs.of_likeness.ExpressionsAlike.{mentioned-like, eval-like}

past_nodes-like : {N M A B : Type 0} {R : N → M → Type 0} {Q : A → B → Type 0} {ns : List N} {ms : List M} {r : Run N A} {s : Run M B} → ListLike R ns ms → RunLike R Q r s → RunLike R Q (past_nodes ns r) (past_nodes ms s)
past_nodes-like end e = e
past_nodes-like (more r rs) e = looks (is r) (λ c d f. past_nodes-like rs e)

pub past_arguments-like : {N M A B : Type 0} {R : N → M → Type 0} {Q : A → B → Type 0} {vs : List (Value N)}
    {ws : List (Value M)} {r : Run N A} {s : Run M B} → ListLike (ValueLike R) vs ws → RunLike R Q r s
    → RunLike R Q (past_arguments vs r) (past_arguments ws s)
past_arguments-like end e = e
past_arguments-like (more v vs) e = past_nodes-like (mentioned-like v) (past_arguments-like vs e)

by_equation-like : {N M : Type 0} {R : N → M → Type 0} (rules : Rules) {same : N → N → Bool} {other : M → M → Bool}
    → SameLike R same other → (o : Option Expr) (f : Scope N) (g : Scope M) → ScopeLike R f g →
    {r : Run N (Value N)} {s : Run M (Value M)} → RunLike R (ValueLike R) r s → RunLike R (ValueLike R) (by_equation rules same f r o) (by_equation rules other g s o)
by_equation-like rules s None f g t q = q
by_equation-like rules s (Some e) f g t q = eval-like rules.classes s e f g t

above : {N M : Type 0} {R : N → M → Type 0} (rules : Rules) (same : N → N → Bool) (other : M → M → Bool)
    → SameLike R same other → (name : List ℕ) (height : ℕ) (vs : List (Value N)) (ws : List (Value M))
    → ListLike (ValueLike R) vs ws →
    (n : N) (m : M) → R n m → ((n : N) (m : M) → R n m → RunLike R (ValueLike R) (by_inherited rules same name vs height n) (by_inherited rules other name ws height m)) →
    {c : Option (N × ℕ)} {d : Option (M × ℕ)} → OptionLike (λ p q. R p.0 q.0 × (p.1 ≡ q.1)) c d →
    RunLike R (ValueLike R)
    (elim c as (λ _. Run N (Value N)) [
      | None ↦ Fails Null
      | Some p ↦
          Looks (Is p.0) (λ c. by_equation rules same (record { this = p.0; names = vs; child = Some n })
          (by_inherited rules same name vs height p.0) (inherited_equation rules c p.1 name))
    ])
    (elim d as (λ _. Run M (Value M)) [
      | None ↦ Fails Null
      | Some p ↦
          Looks (Is p.0) (λ c. by_equation rules other (record { this = p.0; names = ws; child = Some m })
          (by_inherited rules other name ws height p.0) (inherited_equation rules c p.1 name))
    ])
above rules same other s name height vs ws es n m t rest neither = fails Null
above rules same other s name height vs ws es n m t rest (both {a = p} {b = q} (r, e)) =
    looks (is r) (λ x y f. rw (f, e) (by_equation-like rules s (inherited_equation rules y q.1 name) _ _ (record { this = r; names = es; child = both t }) (rest p.0 q.0 r)))

pub by_inherited-like : {N M : Type 0} {R : N → M → Type 0} (rules : Rules) (same : N → N → Bool) (other : M → M → Bool)
    → SameLike R same other → (name : List ℕ) (height : ℕ) (vs : List (Value N)) (ws : List (Value M))
    → ListLike (ValueLike R) vs ws →
    (n : N) (m : M) → R n m → RunLike R (ValueLike R) (by_inherited rules same name vs height n) (by_inherited rules other name ws height m)
by_inherited-like rules same other s name zero vs ws es n m r = fails Null
by_inherited-like rules same other s name (suc height) vs ws es n m r = looks (up r) (λ c d f.
    above rules same other s name height vs ws es n m r (by_inherited-like rules same other s name height vs ws es) f)

pub by_own-like : {N M : Type 0} {R : N → M → Type 0} (rules : Rules) {same : N → N → Bool} {other : M → M → Bool}
    → SameLike R same other → (i : Instance N) (j : Instance M) → InstanceLike R i j → (c d : ℕ) → c ≡ d →
    RunLike R (ValueLike R) (by_own rules same i c) (by_own rules other j d)
by_own-like rules s i j t c d e = rw (e, t.attribute) (by_equation-like rules s (own_equation rules d j.attribute) _ _ (record { this = t.node; names = t.arguments; child = neither }) (fails Null))

either : {N M : Type 0} {R : N → M → Type 0} (b c : Bool) → b ≡ c → {r r' : Run N (Value N)} {s s' : Run M (Value M)} → RunLike R (ValueLike R) r s → RunLike R (ValueLike R) r' s' →
    RunLike R (ValueLike R) (elim b as (λ _. Run N (Value N)) [ true ↦ r | false ↦ r' ]) (elim c as (λ _. Run M (Value M)) [ true ↦ s | false ↦ s' ])
either true true e p q = p
either false false e p q = q
either true false e p q = cc
either false true e p q = cc

by_inherited-of : {N M : Type 0} {R : N → M → Type 0} (height : ℕ) (rules : Rules) (same : N → N → Bool)
    (other : M → M → Bool) → SameLike R same other → (i : Instance N) (j : Instance M) → InstanceLike R i j →
    RunLike R (ValueLike R) (by_inherited rules same (attribute_name rules i.attribute) i.arguments height i.node)
    (by_inherited rules other (attribute_name rules j.attribute) j.arguments height j.node)
by_inherited-of height rules same other s i j t = rw t.attribute (by_inherited-like rules same other s
    (attribute_name rules j.attribute) height i.arguments j.arguments t.arguments i.node j.node t.node)

pub evaluation_within-like : {N M : Type 0} {R : N → M → Type 0} (height : ℕ) (rules : Rules) (same : N → N → Bool)
    (other : M → M → Bool) → SameLike R same other
    → EquationsLike R (evaluation_within height rules same) (evaluation_within height rules other)
evaluation_within-like height rules same other s i j t =
    looks (is t.node) (λ c d f. past_arguments-like t.arguments
    (either (is_inherited rules i.attribute) (is_inherited rules j.attribute) (ap (is_inherited rules) t.attribute)
    (by_inherited-of height rules same other s i j t) (by_own-like rules s i j t c d f)))

pub evaluation-like : {N M : Type 0} {R : N → M → Type 0} (rules : Rules) (same : N → N → Bool) (other : M → M → Bool)
    → SameLike R same other → EquationsLike R (evaluation rules same) (evaluation rules other)
evaluation-like rules same other s = evaluation_within-like max_depth rules same other s

-- instances of trees of which one's nodes are carried to the other's
pub equations-like : (carry : Node → Option Node) → IsInjective carry → (rules : Rules) → EquationsLike (Names carry) (equations rules) (equations rules)
equations-like carry injective rules = evaluation-like rules node_eq node_eq (same_like node_eq node_eq node_eq-is node_eq-is carry injective)
