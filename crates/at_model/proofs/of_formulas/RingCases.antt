-- The worked cases of circular attributes.
use Rattle.std.proofs.Common.{◌≡◌, ℕ, Bool, true, false, List, [], ◌∷◌, inl, inr, refl, sym, subst, nat_eq}
use Rattle.at_model.specs.Classes.{chain}
use Rattle.at_model.specs.Run.{Truth, Instance, Zero, Absent}
use Rattle.at_model.specs.Paths.{Node, node_eq}
use Rattle.at_model.specs.Meaning.{Among, Outcomes, Faults, Circle, content}
use Rattle.at_model.specs.Samples.{root, of_node}
use Rattle.at_model.proofs.Apart.{apart}
use Rattle.at_model.specs.of_fixpoints.Formulas.{Known, Asks, Either}
use Rattle.at_model.specs.of_fixpoints.Fixpoints.{Made, Spoilt, stays, goes, again, formed, spoilt, known, asks, true_right, EndsAt}
use Rattle.at_model.specs.of_fixpoints.Circles.{HasNone, IsOpen, WantsNone, Closes, back, comes_back, deeper}
use Rattle.at_model.specs.of_fixpoints.Circles as search
use Rattle.at_model.specs.of_fixpoints.Evaluations.{forms}
use Rattle.at_model.specs.of_fixpoints.FixpointSamples.{ring, ring_tree, inner_ring, Tells, IsValue}
use Rattle.at_model.proofs.of_formulas.UniqueOutcomes.{Ending, OneEnd, ends_at}
use Rattle.at_model.proofs.of_formulas.Components.{EndIn, FormedIn, StayIn, LostIn, are_ended, are_formed, none_leaves, none_has}

-- an attribute of the root, and of the node below it
abbrev q : ℕ → Instance Node
q attribute = of_node root attribute

abbrev r : ℕ → Instance Node
r attribute = of_node inner_ring attribute

-- how equations end, by no strict demand
abbrev E : Bool → Ending Node
E on = EndsAt (content (ring_tree on)) (forms ring) 0

one : (on : Bool) → OneEnd (E on) (E on)
one on = ends_at (content (ring_tree on)) (forms ring) 0 0

-- what isn't the first one, and isn't behind it, isn't there
not_first : (a b : ℕ) (bs : List (Instance Node)) → nat_eq a a ≡ true → nat_eq b a ≡ false → (Among (q a) bs → ⊥) →
    Among (q a) (q b ∷ bs) → ⊥
not_first a b bs t f rest (inl e) = apart (λ i. nat_eq i.attribute a) (q a) (q b) t f e
not_first a b bs t f rest (inr h) = rest h

alone : {A : Type 0} (a : A) (all : List A) → Among a all → (k : A) → Among k (a ∷ []) → Among k all
alone a all h k (inl e) = subst (λ z. Among z all) (sym e) h
alone a all h k (inr u) = absurd u

abbrev j_ring : List (Instance Node)
j_ring = q 0 ∷ q 1 ∷ q 2 ∷ []

-- j() = b() || c(), b() = j(), c() = getOn()
j_formed : (on : Bool) → FormedIn (E on) j_ring j_ring
unfolding chain
j_formed on = (
  (Either (Asks (q 1)) (Asks (q 2)), refl, (inr (inl refl), (inr (inr (inl refl)), tt))),
  ((Asks (q 0), refl, (inl refl, tt)), ((Known (Truth on), refl, tt), tt)),
)

j_stays : StayIn (E false) false j_ring
unfolding chain
j_stays = (
  (Either (Asks (q 1)) (Asks (q 2)), refl, refl),
  ((Asks (q 0), refl, refl), ((Known (Truth false), refl, refl), tt)),
)

-- c is true, and so is j
pub j_true : IsValue true 0 true
unfolding chain
j_true = (
  1,
  (
    are_formed (E true) (one true) j_ring (j_formed true) (q 0) (inl refl),
    inl (
      asks false (q 0) (Either (Asks (q 1)) (Asks (q 2))) refl
          (true_right (asks false (q 2) (Known (Truth true)) refl (known false))),
      refl,
    ),
  ),
)

-- none is true: j and b don't hold each other up
pub j_false : IsValue false 0 false
unfolding chain
j_false = (
  1,
  (
    are_formed (E false) (one false) j_ring (j_formed false) (q 0) (inl refl),
    inr (
      none_leaves (E false) (one false) j_ring false (j_formed false) j_stays (Asks (q 0))
          (alone (q 0) j_ring (inl refl)) refl,
      refl,
    ),
  ),
)

-- self() = self() and top() = top() stay what they start from
pub self_false : IsValue true 5 false
unfolding chain
self_false =
    let all = q 5 ∷ [] in
    let formed_in : FormedIn (E true) all all = ((Asks (q 5), refl, (inl refl, tt)), tt) in (
      1,
      (
        are_formed (E true) (one true) all formed_in (q 5) (inl refl),
        inr (
          none_leaves (E true) (one true) all false formed_in ((Asks (q 5), refl, refl), tt) (Asks (q 5))
              (alone (q 5) all (inl refl)) refl,
          refl,
        ),
      ),
    )

pub top_true : IsValue true 6 true
unfolding chain
top_true =
    let all = q 6 ∷ [] in
    let formed_in : FormedIn (E true) all all = ((Asks (q 6), refl, (inl refl, tt)), tt) in (
      1,
      (
        are_formed (E true) (one true) all formed_in (q 6) (inl refl),
        inr (
          none_leaves (E true) (one true) all true formed_in ((Asks (q 6), refl, refl), tt) (Asks (q 6))
              (alone (q 6) all (inl refl)) refl,
          refl,
        ),
      ),
    )

-- twice() = !!twice() || getOn(): under two negations is a positive place
pub twice_true : IsValue true 8 true
unfolding chain
twice_true = (
  1,
  (
    are_formed (E true) (one true) (q 8 ∷ []) ((Either (Asks (q 8)) (Known (Truth true)), refl, (inl refl, tt)), tt)
        (q 8) (inl refl),
    inl (asks false (q 8) (Either (Asks (q 8)) (Known (Truth true))) refl (true_right (known false)), refl),
  ),
)

-- hasB() && getB().guard() || getOn(): below stands no B, and nothing is asked of it
pub guard_true : IsValue true 14 true
unfolding chain
guard_true =
    let all = q 14 ∷ (r 14 ∷ []) in
    let formed_in : FormedIn (E true) all all = (
      (Either (Asks (r 14)) (Known (Truth true)), refl, (inr (inl refl), tt)),
      ((Known (Truth false), refl, tt), tt),
    ) in (
      1,
      (
        are_formed (E true) (one true) all formed_in (q 14) (inl refl),
        inl (asks false (q 14) (Either (Asks (r 14)) (Known (Truth true))) refl (true_right (known false)), refl),
      ),
    )

-- getB().deep() || getOn(): the fault below is told, though getOn() is true
pub deep_faults : Tells true (q 13) (Outcomes (Faults Absent (r 13)))
unfolding chain
deep_faults =
    let all = q 13 ∷ (r 13 ∷ []) in
    let ends : EndIn (E true) all all = (
      (Made (Either (Asks (r 13)) (Known (Truth true))), refl, (inr (inl refl), tt)),
      ((Spoilt Absent (r 13), refl, tt), tt),
    ) in (
      1,
      (
        are_ended (E true) (one true) all ends (q 13) (inl refl),
        formed (q 13) (Either (Asks (r 13)) (Known (Truth true))) (λ z. z) refl (spoilt (r 13)
            (λ z. elim z [ inl e ↦ apart (λ i. node_eq i.node inner_ring) (r 13) (q 13) refl refl e | inr u ↦ u ])
            refl),
      ),
    )

-- m() = n() || 1 / 0 == 0, n() = m() || getOn(): the fault is told by both
m_ends : EndIn (E true) (q 3 ∷ (q 4 ∷ [])) (q 3 ∷ (q 4 ∷ []))
unfolding chain
m_ends = (
  (Spoilt Zero (q 3), refl, tt),
  ((Made (Either (Asks (q 3)) (Known (Truth true))), refl, (inl refl, tt)), tt),
)

pub m_faults : Tells true (q 3) (Outcomes (Faults Zero (q 3)))
unfolding chain
m_faults = (1, (are_ended (E true) (one true) (q 3 ∷ (q 4 ∷ [])) m_ends (q 3) (inl refl), spoilt (q 3) (λ z. z) refl))

pub n_faults : Tells true (q 4) (Outcomes (Faults Zero (q 3)))
unfolding chain
n_faults = (
  1,
  (
    are_ended (E true) (one true) (q 3 ∷ (q 4 ∷ [])) m_ends (q 4) (inr (inl refl)),
    formed (q 4) (Either (Asks (q 3)) (Known (Truth true))) (λ z. z) refl
        (spoilt (q 3) (not_first 3 4 [] refl refl (λ z. z)) refl),
  ),
)

-- not() = !not() wants its own value
pub not_circle : Tells true (q 7) (Circle (q 7))
unfolding chain
not_circle = comes_back (q 7) (q 7) (λ o. o.0) (λ z. z) (
  inl refl,
  none_has (content (ring_tree true)) (forms ring) (q 7 ∷ [])
      ((q 7, q 7, (λ n. stays (q 7)), refl, inl refl), tt) (q 7) (inl refl),
) (inl refl)

-- x() = y() || getOn(), y() = x(): y isn't circular, so each wants the value of the other
x_lost : LostIn (content (ring_tree true)) (forms ring) (q 9 ∷ (q 10 ∷ [])) (q 9 ∷ (q 10 ∷ []))
unfolding chain
x_lost = (
  (q 9, q 10, (λ n. stays (q 9)), refl, inr (inl refl)),
  ((q 10, q 9, (λ n. stays (q 10)), refl, inl refl), tt),
)

x_none : HasNone (content (ring_tree true)) (forms ring) (q 9)
x_none = none_has (content (ring_tree true)) (forms ring) (q 9 ∷ (q 10 ∷ [])) x_lost (q 9) (inl refl)

y_none : HasNone (content (ring_tree true)) (forms ring) (q 10)
y_none = none_has (content (ring_tree true)) (forms ring) (q 9 ∷ (q 10 ∷ [])) x_lost (q 10) (inr (inl refl))

pub x_circle : Tells true (q 9) (Circle (q 9))
unfolding chain
x_circle = deeper (q 9) (q 10) (λ o. o.0) (λ z. z) (inl refl, y_none) (not_first 10 9 [] refl refl (λ z. z))
    (comes_back (q 10) (q 9) (λ o. not_first 10 9 [] refl refl (λ z. z) o.0) (λ z. z) (inl refl, x_none)
    (inr (inl refl)))

pub y_circle : Tells true (q 10) (Circle (q 10))
unfolding chain
y_circle = deeper (q 10) (q 9) (λ o. o.0) (λ z. z) (inl refl, x_none) (not_first 9 10 [] refl refl (λ z. z))
    (comes_back (q 9) (q 10) (λ o. not_first 9 10 [] refl refl (λ z. z) o.0) (λ z. z) (inl refl, y_none)
    (inr (inl refl)))

-- u() = v() || getOn() starts from false, and v() = u() from true
u_lost : LostIn (content (ring_tree true)) (forms ring) (q 11 ∷ (q 12 ∷ [])) (q 11 ∷ (q 12 ∷ []))
unfolding chain
u_lost = (
  (q 11, q 12, (λ n. stays (q 11)), refl, inr (inl refl)),
  ((q 12, q 11, (λ n. stays (q 12)), refl, inl refl), tt),
)

pub u_circle : Tells true (q 11) (Circle (q 11))
unfolding chain
u_circle = deeper (q 11) (q 12) (λ o. o.0) (λ z. z)
    (inl refl, none_has (content (ring_tree true)) (forms ring) (q 11 ∷ (q 12 ∷ [])) u_lost (q 12) (inr (inl refl)))
    (not_first 12 11 [] refl refl (λ z. z))
    (comes_back (q 12) (q 11) (λ o. not_first 12 11 [] refl refl (λ z. z) o.0) (λ z. z)
    (inl refl, none_has (content (ring_tree true)) (forms ring) (q 11 ∷ (q 12 ∷ [])) u_lost (q 11) (inl refl))
    (inr (inl refl)))

-- fk() = fx() || fc(), fc() = fk() ? true : false: a component with a strict demand in it has no outcome, whatever
-- faults in it
k_lost : LostIn (content (ring_tree true)) (forms ring) (q 17 ∷ (q 18 ∷ [])) (q 17 ∷ (q 18 ∷ []))
unfolding chain
k_lost = (
  (
    q 18,
    q 17,
    (λ n. goes (q 17) (q 18) (q 18) (Either (Asks (q 16)) (Asks (q 18))) refl (inr (inl refl))
        (stays (q 18))),
    refl,
    inl refl,
  ),
  ((q 18, q 17, (λ n. stays (q 18)), refl, inl refl), tt),
)

k_wanted : WantsNone (content (ring_tree true)) (forms ring) (q 18) (q 17)
unfolding chain
k_wanted = (inl refl, none_has (content (ring_tree true)) (forms ring) (q 17 ∷ (q 18 ∷ [])) k_lost (q 17) (inl refl))

pub fa_circle : Tells true (q 15) (Circle (q 17))
unfolding chain
fa_circle =
    search.formed (q 15) (Asks (q 16)) (λ o. o.0) (λ z. z) (0, refl)
    (search.formed (q 16) (Either (Asks (q 17)) (Asks (q 19))) (λ o. o.0) (not_first 16 15 [] refl refl (λ z. z))
    (0, refl)
    (search.formed (q 17) (Either (Asks (q 16)) (Asks (q 18))) (λ o. o.0)
    (not_first 17 16 (q 15 ∷ []) refl refl (not_first 17 15 [] refl refl (λ z. z))) (0, refl)
    (search.again (q 16) (λ o. o.0) (inr (inl refl))
    (comes_back (q 18) (q 17) (λ o. o.0)
    (not_first 18 17 (q 16 ∷ (q 15 ∷ [])) refl refl
    (not_first 18 16 (q 15 ∷ []) refl refl (not_first 18 15 [] refl refl (λ z. z))))
    k_wanted (inr (inl refl))))))

pub fk_circle : Tells true (q 17) (Circle (q 17))
unfolding chain
fk_circle =
    search.formed (q 17) (Either (Asks (q 16)) (Asks (q 18))) (λ o. o.0) (λ z. z) (0, refl)
    (search.formed (q 16) (Either (Asks (q 17)) (Asks (q 19))) (λ o. o.0) (not_first 16 17 [] refl refl (λ z. z))
    (0, refl)
    (search.again (q 17) (λ o. o.0) (inr (inl refl))
    (search.spoilt (q 19) (q 19) Zero (λ o. o.0)
    (not_first 19 16 (q 17 ∷ []) refl refl (not_first 19 17 [] refl refl (λ z. z))) (0, refl)
    (comes_back (q 18) (q 17) (λ o. o.0)
    (not_first 18 19 (q 16 ∷ (q 17 ∷ [])) refl refl
    (not_first 18 16 (q 17 ∷ []) refl refl (not_first 18 17 [] refl refl (λ z. z))))
    k_wanted (inr (inr (inr (inl refl))))))))

-- asked for fc the search comes back to fc, which waits for fk
pub fc_circle : Tells true (q 18) (Circle (q 18))
unfolding chain
fc_circle =
    deeper (q 18) (q 17) (λ o. o.0) (λ z. z) k_wanted (not_first 17 18 [] refl refl (λ z. z))
    (search.formed (q 17) (Either (Asks (q 16)) (Asks (q 18))) (λ o. not_first 17 18 [] refl refl (λ z. z) o.0)
    (λ z. z) (0, refl)
    (search.formed (q 16) (Either (Asks (q 17)) (Asks (q 19))) (λ o. not_first 16 18 [] refl refl (λ z. z) o.0)
    (not_first 16 17 [] refl refl (λ z. z)) (0, refl)
    (search.again (q 17) (λ o. not_first 17 18 [] refl refl (λ z. z) o.0) (inr (inl refl))
    (search.spoilt (q 19) (q 19) Zero (λ o. not_first 19 18 [] refl refl (λ z. z) o.0)
    (not_first 19 16 (q 17 ∷ []) refl refl (not_first 19 17 [] refl refl (λ z. z))) (0, refl)
    (back (q 18) (
      inl refl,
      none_has (content (ring_tree true)) (forms ring) (q 17 ∷ (q 18 ∷ [])) k_lost (q 18)
          (inr (inl refl)),
    ))))))

-- ga() = gx() || ff(), gx() = ga() || j(): the fault that leads out of the ring is told by both
abbrev g_ring : List (Instance Node)
g_ring = q 20 ∷ (q 21 ∷ (q 19 ∷ (q 0 ∷ (q 1 ∷ (q 2 ∷ [])))))

g_ends : EndIn (E true) g_ring g_ring
unfolding chain
g_ends = (
  (Made (Either (Asks (q 21)) (Asks (q 19))), refl, (inr (inl refl), (inr (inr (inl refl)), tt))),
  (
    (Made (Either (Asks (q 20)) (Asks (q 0))), refl, (inl refl, (inr (inr (inr (inl refl))), tt))),
    (
      (Spoilt Zero (q 19), refl, tt),
      (
        (
          Made (Either (Asks (q 1)) (Asks (q 2))),
          refl,
          (inr (inr (inr (inr (inl refl)))), (inr (inr (inr (inr (inr (inl refl))))), tt)),
        ),
        ((Made (Asks (q 0)), refl, (inr (inr (inr (inl refl))), tt)), ((Made (Known (Truth true)), refl, tt), tt)),
      ),
    ),
  ),
)

pub gx_faults : Tells true (q 21) (Outcomes (Faults Zero (q 19)))
unfolding chain
gx_faults = (
  1,
  (
    are_ended (E true) (one true) g_ring g_ends (q 21) (inr (inl refl)),
    formed (q 21) (Either (Asks (q 20)) (Asks (q 0))) (λ z. z) refl
        (formed (q 20) (Either (Asks (q 21)) (Asks (q 19))) (not_first 20 21 [] refl refl (λ z. z)) refl
        (again (q 21) (inr (inl refl))
        (spoilt (q 19) (not_first 19 20 (q 21 ∷ []) refl refl (not_first 19 21 [] refl refl (λ z. z))) refl))),
  ),
)

pub ga_faults : Tells true (q 20) (Outcomes (Faults Zero (q 19)))
unfolding chain
ga_faults = (
  1,
  (
    are_ended (E true) (one true) g_ring g_ends (q 20) (inl refl),
    formed (q 20) (Either (Asks (q 21)) (Asks (q 19))) (λ z. z) refl
        (formed (q 21) (Either (Asks (q 20)) (Asks (q 0))) (not_first 21 20 [] refl refl (λ z. z)) refl
        (again (q 20) (inr (inl refl))
        (formed (q 0) (Either (Asks (q 1)) (Asks (q 2)))
        (not_first 0 21 (q 20 ∷ []) refl refl (not_first 0 20 [] refl refl (λ z. z))) refl
        (formed (q 1) (Asks (q 0))
        (not_first 1 0 (q 21 ∷ (q 20 ∷ [])) refl refl
        (not_first 1 21 (q 20 ∷ []) refl refl (not_first 1 20 [] refl refl (λ z. z)))) refl
        (again (q 0) (inr (inl refl))
        (formed (q 2) (Known (Truth true))
        (not_first 2 1 (q 0 ∷ (q 21 ∷ (q 20 ∷ []))) refl refl (not_first 2 0 (q 21 ∷ (q 20 ∷ [])) refl refl
        (not_first 2 21 (q 20 ∷ []) refl refl (not_first 2 20 [] refl refl (λ z. z))))) refl
        (spoilt (q 19)
        (not_first 19 2 (q 1 ∷ (q 0 ∷ (q 21 ∷ (q 20 ∷ [])))) refl refl
        (not_first 19 1 (q 0 ∷ (q 21 ∷ (q 20 ∷ []))) refl refl
        (not_first 19 0 (q 21 ∷ (q 20 ∷ [])) refl refl
        (not_first 19 21 (q 20 ∷ []) refl refl (not_first 19 20 [] refl refl (λ z. z))))))
        refl))))))),
  ),
)
