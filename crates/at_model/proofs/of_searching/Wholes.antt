-- A search that has come to its end: all that it looked at ends, and so what it began from has an outcome.
use Rattle.std.proofs.Common.{◌≡◌, ◌⊎◌, ℕ, suc, ◌+◌, List, [], ◌∷◌, ◌++◌, inl, inr, refl, sym, subst, arith}
use Rattle.at_model.specs.Run.{Instance, Contents, FaultKind}
use Rattle.at_model.specs.Meaning.{Among, Faults}
use Rattle.at_model.proofs.Reached.{front_among, back_among, either_among}
use Rattle.at_model.specs.of_fixpoints.Formulas.{Formula, atoms, Forms}
use Rattle.at_model.specs.of_fixpoints.Fixpoints.{End, Made, Spoilt, Meets, again, formed, spoilt, stays, EndsAt, EndsSo, Holds}
use Rattle.at_model.proofs.of_formulas.UniqueOutcomes.{Ending, ends_at}
use Rattle.at_model.proofs.of_formulas.Heights.{ends_higher}
use Rattle.at_model.specs.of_fixpoints.Searching.{asked_in}
use Rattle.at_model.specs.of_fixpoints.Searched.{EndsWell, AreClosed, IsClosedIn}
use Rattle.at_model.proofs.of_formulas.Components.{EndIn, are_ended}
use Rattle.at_model.proofs.of_formulas.Solved.{all_among}
use Rattle.at_model.proofs.of_searching.Thinning.{IsPart}
use Rattle.at_model.proofs.of_searching.PassedCircles.{ends_one}

module _ {N : Type 0} (E : Ending N) (Good : End N (Formula N) → Type 0) (seen : List (Instance N)) where
  abbrev Gathers : (Instance N → Type 0) → Type 0
  Gathers Of = (W : List (Instance N)) × AreClosed E Good W × ((i : Instance N) → Of i → Among i W ⊎ Among i seen)

  joined_closed : (V W : List (Instance N)) → AreClosed E Good V → AreClosed E Good W → AreClosed E Good (V ++ W)
  joined_closed V W c d i h = elim (either_among i V W h) [
    | inl a ↦ let x = c i a in record { end = x.end; ends = x.ends; good = x.good; next = λ k b. front_among k V W (x.next k b) }
    | inr a ↦ let x = d i a in record { end = x.end; ends = x.ends; good = x.good; next = λ k b. back_among k V W (x.next k b) }
  ]

  -- the lists of all of these that are whole
  gathered : (is : List (Instance N)) → ((i : Instance N) → Among i is → IsClosedIn E Good i ⊎ Among i seen) →
      Gathers (λ i. Among i is)
  gathered [] all = ([], (λ i h. absurd h), (λ i h. absurd h))
  gathered (j ∷ is) all =
      let (W, c, p) = gathered is (λ i h. all i (inr h)) in
      elim (all j (inl refl)) [
        | inl (V, d, a) ↦ (
          V ++ W,
          joined_closed V W d c,
          λ i h. elim h [
            | inl e ↦ inl (front_among i V W (subst (λ z. Among z V) (sym e) a))
            | inr g ↦ elim (p i g) [ inl b ↦ inl (back_among i V W b) | inr b ↦ inr b ]
          ],
        )
        | inr a ↦ (W, c, λ i h. elim h [ inl e ↦ inr (subst (λ z. Among z seen) (sym e) a) | inr g ↦ p i g ])
      ]

  -- so all to which each of these leads is gathered
  all_gathered : (js : List (Instance N)) →
      ((j : Instance N) → Among j js → EndsWell E Good (λ k. IsClosedIn E Good k ⊎ Among k seen) j) →
      (W : List (Instance N)) × AreClosed E Good W
      × ((j : Instance N) → Among j js → EndsWell E Good (λ k. Among k W ⊎ Among k seen) j)
  all_gathered [] all = ([], (λ i h. absurd h), (λ i h. absurd h))
  all_gathered (j ∷ js) all =
      let (W, c, p) = all_gathered js (λ i h. all i (inr h)) in
      let x = all j (inl refl) in
      let (V, d, q) = gathered (asked_in x.end) x.next in (
        V ++ W,
        joined_closed V W d c,
        λ i h. elim h [
          | inl e ↦ subst (λ z. EndsWell E Good (λ k. Among k (V ++ W) ⊎ Among k seen) z) (sym e)
              (record {
                end = x.end;
                ends = x.ends;
                good = x.good;
                next = λ k b. elim (q k b) [
                  | inl a ↦ inl (front_among k V W a)
                  | inr a ↦ inr a
                ];
              })
          | inr g ↦ let y = p i g in record {
            end = y.end;
            ends = y.ends;
            good = y.good;
            next = λ k b. elim (y.next k b) [
              | inl a ↦ inl (back_among k V W a)
              | inr a ↦ inr a
            ];
          }
        ],
      )

  -- what was seen is whole, where it leads to what is whole or was seen
  pub seen_whole : ((j : Instance N) → Among j seen → EndsWell E Good (λ k. IsClosedIn E Good k ⊎ Among k seen) j) →
      (i : Instance N) → Among i seen → IsClosedIn E Good i
  seen_whole all i h =
      let (W, c, p) = all_gathered seen all in (
        seen ++ W,
        (λ j g. elim (either_among j seen W g) [
          | inl a ↦ let x = p j a in record {
            end = x.end;
            ends = x.ends;
            good = x.good;
            next = λ k b. elim (x.next k b) [
              | inl d ↦ back_among k seen W d
              | inr d ↦ front_among k seen W d
            ];
          }
          | inr a ↦ let x = c j a in record { end = x.end; ends = x.ends; good = x.good; next = λ k b. back_among k seen W (x.next k b) }
        ]),
        front_among i seen W h,
      )

module _ {N : Type 0} (look : Contents N) (forms : Forms N) (Good : End N (Formula N) → Type 0) where
  ended_higher : (n d : ℕ) (all js : List (Instance N)) → EndIn (EndsAt look forms n) all js →
      EndIn (EndsAt look forms (n + d)) all js
  ended_higher n d all [] l = tt
  ended_higher n d all (j ∷ js) ((e, x, m), l) =
      ((e, ends_higher look forms n d j e x, m), ended_higher n d all js l)

  -- one depth at which all of them end
  ended_at_one : (all js : List (Instance N)) →
      ((j : Instance N) → Among j js → EndsWell (EndsSo look forms) Good (λ k. Among k all) j) →
      (n : ℕ) × EndIn (EndsAt look forms n) all js
  ended_at_one all [] h = (0, tt)
  ended_at_one all (j ∷ js) h =
      let x = h j (inl refl) in
      let (m, y) = x.ends in
      let (n, l) = ended_at_one all js (λ k a. h k (inr a)) in
      let q : n + m ≡ m + n = omega arith in (
        m + n,
        (
          (x.end, ends_higher look forms m n j x.end y, all_among look forms (asked_in x.end) all x.next),
          subst (λ z. EndIn (EndsAt look forms z) all js) q (ended_higher n m all js l),
        ),
      )

  -- a search among them meets what it meets at that depth
  meets_at : (n : ℕ) (W : List (Instance N)) → AreClosed (EndsSo look forms) Good W →
      ((j : Instance N) → Among j W → (e : End N (Formula N)) → EndsSo look forms j e → EndsAt look forms n j e) →
      (s t : List (Instance N)) (k : FaultKind) (at : Instance N) → IsPart t W → Meets (EndsSo look forms) s t k at →
      Meets (EndsAt look forms n) s t k at
  meets_at n W c all s [] k at p x = elim x [ ]
  meets_at n W c all s (i ∷ t) k at p (again _ h x) = again i h (meets_at n W c all s t k at (λ j a. p j (inr a)) x)
  meets_at n W c all s (i ∷ t) k at p (formed _ f h y x) =
      let d = c i (p i (inl refl)) in
      let q : d.end ≡ Made f = ends_one look forms i d.end (Made f) d.ends y in
      formed i f h (all i (p i (inl refl)) (Made f) y)
      (meets_at n W c all (i ∷ s) (atoms f ++ t) k at (λ j a. elim (either_among j (atoms f) t a) [
        | inl b ↦ d.next j (subst (λ z. Among j (asked_in z)) (sym q) b)
        | inr b ↦ p j (inr b)
      ]) x)
  meets_at n W c all s (i ∷ t) k at p (spoilt _ h y) = spoilt i h (all i (p i (inl refl)) (Spoilt k at) y)

  -- what is whole, and from which a search meets a fault, has that fault
  pub whole_faults : (q : Instance N) (k : FaultKind) (at : Instance N) → IsClosedIn (EndsSo look forms) Good q →
      Meets (EndsSo look forms) [] (q ∷ []) k at → Holds look forms q (Faults k at)
  whole_faults q k at (W, c, h) x =
      let (n, l) = ended_at_one W W c in
      let ends = are_ended (EndsAt look forms n) (ends_at look forms n n) W l in
      let same : (j : Instance N) → Among j W → (e : End N (Formula N)) → EndsSo look forms j e → EndsAt look forms n j e =
      λ j a e y. at_one n W l j a e y in (
        suc n,
        (
          ends q h,
          meets_at n W c same [] (q ∷ []) k at
              (λ j a. elim a [ inl e ↦ subst (λ z. Among z W) (sym e) h | inr u ↦ absurd u ]) x,
        ),
      )
    where
      at_one : (n : ℕ) (W : List (Instance N)) → EndIn (EndsAt look forms n) W W → (j : Instance N) → Among j W →
          (e : End N (Formula N)) → EndsSo look forms j e → EndsAt look forms n j e
      at_one n W l j a e (m, y) =
          let (d, x) = are_ended (EndsAt look forms n) (ends_at look forms n n) W l j a j (stays j) in
          subst (λ z. EndsAt look forms n j z) (ends_at look forms n m j d e x y) x
