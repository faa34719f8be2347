-- Where two trees are alike at all that supports an instance, a circle from it is one in both.
use Rattle.std.proofs.Common.{◌≡◌, ◌↔◌, ℕ, List, [], ◌∷◌, Option, Some, inl, inr, refl, ap, sym, ◌∙◌}
use Rattle.at_model.specs.Run.{Value, Ref, Nodes, Instance, Contents}
use Rattle.at_model.specs.Meaning.{Equations, Walks, Among, Distinct, Circular, Answer, Outcomes, Circle, Answers}
use Rattle.at_model.specs.Alike.{OptionLike, neither, both, ListLike, end, more, ValueLike, int, truth, text, ref, nodes, InstanceLike, EquationsLike, Names, IsInjective, AnswerLike, outcome, circle, AlikeBelow}
use Rattle.at_model.proofs.of_likeness.Carrying.{carried}
use Rattle.at_model.proofs.of_likeness.CarryingSupport.{alike_next, comes_there}

-- what is related is equal on one side where it is on the other
abbrev pub Agrees : {A B : Type 0} → (A → B → Type 0) → Type 0
Agrees {A} {B} R = (a b : A) (c d : B) → R a c → R b d → (a ≡ b) ↔ (c ≡ d)

pub names_agree : {N M : Type 0} (name : N → Option M) → IsInjective name → Agrees (Names name)
names_agree name injective a b c d r s =
    (λ e. let f : Some c ≡ Some d = sym r ∙ ap name e ∙ s in cc, λ e. let f : name a ≡ Some d = r ∙ ap Some e in injective a b d f s)

option-agrees : {A B : Type 0} {R : A → B → Type 0} → Agrees R → Agrees (OptionLike R)
option-agrees f _ _ _ _ neither neither = (λ e. refl, λ e. refl)
option-agrees f _ _ _ _ neither (both s) = (λ e. absurd (cc), λ e. absurd (cc))
option-agrees f _ _ _ _ (both r) neither = (λ e. absurd (cc), λ e. absurd (cc))
option-agrees f _ _ _ _ (both {a = a} {b = c} r) (both {a = b} {b = d} s) =
    let g = f a b c d r s in (λ e. let h : a ≡ b = cc in ap Some (g.0 h), λ e. let h : c ≡ d = cc in ap Some (g.1 h))

list-agrees : {A B : Type 0} {R : A → B → Type 0} → Agrees R → Agrees (ListLike R)
list-agrees f _ _ _ _ end end = (λ e. refl, λ e. refl)
list-agrees f _ _ _ _ end (more s ss) = (λ e. absurd (cc), λ e. absurd (cc))
list-agrees f _ _ _ _ (more r rs) end = (λ e. absurd (cc), λ e. absurd (cc))
list-agrees f _ _ _ _ (more {a = a} {b = c} {as' = as'} {bs = cs} r rs) (more {a = b} {b = d} {as' = bs} {bs = ds} s ss) =
    let g = f a b c d r s in
    let h = list-agrees f as' bs cs ds rs ss in (
      λ e. let x : a ≡ b = cc in let y : as' ≡ bs = cc in ap (λ z. z ∷ cs) (g.0 x) ∙ ap (λ z. d ∷ z) (h.0 y),
      λ e. let x : c ≡ d = cc in let y : cs ≡ ds = cc in ap (λ z. z ∷ as') (g.1 x) ∙ ap (λ z. b ∷ z) (h.1 y),
    )

value-agrees : {N M : Type 0} {R : N → M → Type 0} → Agrees R → Agrees (ValueLike R)
value-agrees f _ _ _ _ (int m) (int n) = (λ e. cc, λ e. cc)
value-agrees f _ _ _ _ (truth b) (truth c) = (λ e. cc, λ e. cc)
value-agrees f _ _ _ _ (text b) (text c) = (λ e. cc, λ e. cc)
value-agrees f _ _ _ _ (ref {n = m} {m = m'} r) (ref {n = n} {m = n'} s) =
    let g = option-agrees f m n m' n' r s in (λ e. let h : m ≡ n = cc in ap Ref (g.0 h), λ e. let h : m' ≡ n' = cc in ap Ref (g.1 h))
value-agrees f _ _ _ _ (nodes {ns = ms} {ms = ms'} r) (nodes {ns = ns} {ms = ns'} s) =
    let g = list-agrees f ms ns ms' ns' r s in (λ e. let h : ms ≡ ns = cc in ap Nodes (g.0 h), λ e. let h : ms' ≡ ns' = cc in ap Nodes (g.1 h))
value-agrees f _ _ _ _ r s = (λ e. absurd (cc), λ e. absurd (cc))

abbrev instance : {N : Type 0} → N → ℕ → List (Value N) → Instance N
instance n a vs = record { node = n; attribute = a; arguments = vs }

same_parts : {N : Type 0} (i j : Instance N) → i.node ≡ j.node → i.attribute ≡ j.attribute → i.arguments ≡ j.arguments → i ≡ j
same_parts i j e f g = ap (λ n. instance n i.attribute i.arguments) e ∙ ap (λ a. instance j.node a i.arguments) f ∙ ap (λ vs. instance j.node j.attribute vs) g

pub instance-agrees : {N M : Type 0} {R : N → M → Type 0} → Agrees R → Agrees (InstanceLike R)
instance-agrees f i j i' j' r s =
    let n = f i.node j.node i'.node j'.node r.node s.node in
    let a = list-agrees (value-agrees f) i.arguments j.arguments i'.arguments j'.arguments r.arguments s.arguments in (
      λ e. same_parts i' j' (n.0 (ap (λ x. x.node) e)) (sym r.attribute ∙ ap (λ x. x.attribute) e ∙ s.attribute) (a.0 (ap (λ x. x.arguments) e)),
      λ e. same_parts i j (n.1 (ap (λ x. x.node) e)) (r.attribute ∙ ap (λ x. x.attribute) e ∙ sym s.attribute) (a.1 (ap (λ x. x.arguments) e)),
    )

pub among-like : {A B : Type 0} {R : A → B → Type 0} → Agrees R → {as' : List A} {bs : List B} → ListLike R as' bs → (a : A) (b : B) → R a b → Among a as' → Among b bs
among-like f end a b r h = absurd h
among-like f (more {a = c} {b = d} s ss) a b r (inl e) = inl ((f a c b d r s).0 e)
among-like f (more s ss) a b r (inr h) = inr (among-like f ss a b r h)

pub among-back : {A B : Type 0} {R : A → B → Type 0} → Agrees R → {as' : List A} {bs : List B} → ListLike R as' bs → (a : A) (b : B) → R a b → Among b bs → Among a as'
among-back f end a b r h = absurd h
among-back f (more {a = c} {b = d} s ss) a b r (inl e) = inl ((f a c b d r s).1 e)
among-back f (more s ss) a b r (inr h) = inr (among-back f ss a b r h)

distinct-like : {A B : Type 0} {R : A → B → Type 0} → Agrees R → {as' : List A} {bs : List B} → ListLike R as' bs → Distinct as' → Distinct bs
distinct-like f end d = tt
distinct-like f (more {a = a} {b = b} r rs) (n, d) = (λ h. n (among-back f rs a b r h), distinct-like f rs d)

walk_there : {N M : Type 0} {R : N → M → Type 0} (look : Contents N) (also : Contents M) (equation : Equations N) (other : Equations M) → EquationsLike R equation other →
    (i : Instance N) (i' : Instance M) (is : List (Instance N)) (k : Instance N) → InstanceLike R i i' → AlikeBelow R look also equation i → Walks look equation i is k →
    (k' : Instance M) × (is' : List (Instance M)) × InstanceLike R k k' × ListLike (InstanceLike R) is is' × Walks also other i' is' k'
walk_there look also equation other like i i' [] k t a c = let (k', s, c') = comes_there look also equation other like i i' k t a c in (k', [], s, end, c')
walk_there look also equation other like i i' (m ∷ ms) k t a (c, w) =
    let (m', s, c') = comes_there look also equation other like i i' m t a c in
    let (k', ms', u, ls, w') = walk_there look also equation other like m m' ms k s (alike_next look also equation i m a c) w in
    (k', m' ∷ ms', u, more s ls, (c', w'))

pub circle_there : {N M : Type 0} {R : N → M → Type 0} → Agrees R → (look : Contents N) (also : Contents M) (equation : Equations N) (other : Equations M) → EquationsLike R equation other →
    (q j : Instance N) (q' : Instance M) → InstanceLike R q q' → AlikeBelow R look also equation q → Circular look equation q j → (j' : Instance M) × InstanceLike R j j' × Circular also other q' j'
circle_there f look also equation other like q j q' t a (is, d, w, h) =
    let (j', is', s, ls, w') = walk_there look also equation other like q q' is j t a w in
    let g = instance-agrees f in
    (j', s, (is', distinct-like g (more t ls) d, w', among-like g (more t ls) j j' s h))

-- an answer is one over the other tree
pub answer_there : {N M : Type 0} {R : N → M → Type 0} → Agrees R → (look : Contents N) (also : Contents M) (equation : Equations N) (other : Equations M) → EquationsLike R equation other →
    (q : Instance N) (q' : Instance M) (x : Answer N) → InstanceLike R q q' → AlikeBelow R look also equation q
    → Answers look equation q x → (y : Answer M) × AnswerLike R x y × Answers also other q' y
answer_there f look also equation other like q q' (Outcomes o) t a h = let (p, g, s) = carried look also equation other like q q' o t a h in (Outcomes p, outcome s, g)
answer_there f look also equation other like q q' (Circle j) t a h = let (j', s, c) = circle_there f look also equation other like q j q' t a h in (Circle j', circle s, c)

-- by names that are injective
pub named_answer : {N M : Type 0} (name : N → Option M) → IsInjective name → (look : Contents N) (also : Contents M)
    (equation : Equations N) (other : Equations M) → EquationsLike (Names name) equation other →
    (q : Instance N) (q' : Instance M) (x : Answer N) → InstanceLike (Names name) q q'
    → AlikeBelow (Names name) look also equation q → Answers look equation q x
    → (y : Answer M) × AnswerLike (Names name) x y × Answers also other q' y
named_answer name injective look also equation other like q q' x t a h = answer_there (names_agree name injective) look also equation other like q q' x t a h
