-- A facet of a node comes, with one edge.
use Rattle.at_index.proofs.Common.{◌≡◌, ◌∙◌, ℕ, List, [], ◌∷◌, ◌++◌, Bool, true, false, cond, Result, Ok, Err, OnErr, OnOk, Contains, append-nil, refl, sym, ap, subst, Contains-append_right, Location, Edge, Facet, Readers, edges_in, Lists, HasAdded, edges_among, stands_for}
use Rattle.at_index.proofs.Beginning.{among_more}
use Rattle.at_index.proofs.Lists.{head_of}
use Rattle.at_index.proofs.Listing.{keeps_itself, listed_one, lists_same}

module _ (n : ℕ) (facet : Facet) (x : Edge) (old new : List Readers) where
  -- what the location has more
  more : (r : Readers) → new ≡ old ++ r ∷ [] → r.facet ≡ facet → edges_in r.edges ≡ x ∷ [] → (l : Location ℕ)
      → edges_among n new l ≡ edges_among n old l ++ cond (stands_for n facet l) (x ∷ []) []
  more r so is alone l =
      ap (λ rs. edges_among n rs l) so ∙ among_more n old r l ∙ ap (λ es. edges_among n old l ++ es)
      (ap (λ f. cond (stands_for n f l) (edges_in r.edges) []) is ∙ ap (λ es. cond (stands_for n facet l) es []) alone)

  lists_if : (tells : Edge → Bool) (l : Location ℕ) (b : Bool) → stands_for n facet l ≡ b
      → edges_among n new l ≡ edges_among n old l ++ cond b (x ∷ []) []
      → Lists tells x (edges_among n old l) (edges_among n new l)
  lists_if tells l true h is = listed_one (keeps_itself tells (edges_among n old l)) is
  lists_if tells l false h is = lists_same (is ∙ append-nil (edges_among n old l))

  module _ {V E : Type 0} where
    pub added_lists : (tells : Edge → Bool) (result : Result V E) → OnOk result (HasAdded facet x old new) → OnErr result (new ≡ old) → (l : Location ℕ) → Lists tells x (edges_among n old l) (edges_among n new l)
    added_lists tells (Ok v) h e l =
        let (r, so, is, alone) = h in
        lists_if tells l (stands_for n facet l) refl (more r so is alone l)
    added_lists tells (Err f) h e l = lists_same (ap (λ rs. edges_among n rs l) e)

    pub added_has : (result : Result V E) → OnOk result (HasAdded facet x old new)
        → OnOk result ((l : Location ℕ) → stands_for n facet l ≡ true → Contains (edges_among n new l) x)
    added_has (Ok v) h = λ l on.
        let (r, so, is, alone) = h in
        subst (λ es. Contains es x)
        (sym (more r so is alone l ∙ ap (λ b. edges_among n old l ++ cond b (x ∷ []) []) on))
        (Contains-append_right (edges_among n old l) (x ∷ []) x (head_of x []))
    added_has (Err f) h = tt

    pub added_others : (result : Result V E) → OnOk result (HasAdded facet x old new) → OnErr result (new ≡ old)
        → (l : Location ℕ)
        → stands_for n facet l ≡ false → edges_among n new l ≡ edges_among n old l
    added_others (Ok v) h e l off =
        let (r, so, is, alone) = h in
        more r so is alone l ∙ ap (λ b. edges_among n old l ++ cond b (x ∷ []) []) off
        ∙ append-nil (edges_among n old l)
    added_others (Err f) h e l off = ap (λ rs. edges_among n rs l) e
