-- The steps of a search that passes what was told, beside one that passes nothing.
use Rattle.std.proofs.Common.{◌⊎◌, List, [], ◌∷◌, ◌++◌, inl, inr, sym, subst}
use Rattle.at_model.specs.Run.{Instance, Contents}
use Rattle.at_model.specs.Meaning.{Among}
use Rattle.at_model.specs.of_fixpoints.Formulas.{Formula, Forms}
use Rattle.at_model.specs.of_fixpoints.Fixpoints.{End, Made, Spoilt, EndsSo}
use Rattle.at_model.specs.of_fixpoints.Circles.{HasNone, IsOpen}
use Rattle.at_model.specs.of_fixpoints.Searching.{asked_in}
use Rattle.at_model.specs.of_fixpoints.Searched.{IsMade, AreClosed}
use Rattle.at_model.specs.of_fixpoints.Met.{LooksAt, here, again, formed, spoilt, HasLookedAt}
use Rattle.at_model.proofs.of_searching.Thinning.{IsTold}
use Rattle.at_model.proofs.of_searching.Steps.{formed_of}
use Rattle.at_model.proofs.of_searching.LookedAt.{seen_on, ended_on}
use Rattle.at_model.proofs.of_searching.PassedLooks.{looks_past, past_only}

module _ {N : Type 0} (look : Contents N) (forms : Forms N) (told : IsTold (Instance N)) (Told : Instance N → Type 0)
    (below : List (Instance N)) (q : Instance N) where
  -- as it begins
  pub looked_begun : HasLookedAt look forms Told below q [] (q ∷ [])
  looked_begun = record { looks = λ x l. inr l; looked = λ x a. absurd a; only = λ x l. inr (inr l) }

  module _ (seen : List (Instance N)) (c : Instance N) (todo : List (Instance N)) (s : HasLookedAt look forms Told below q seen (c ∷ todo)) where
    -- the first one to do was seen
    pub looked_again : (¬ (IsOpen look forms below c)) → Among c seen → HasLookedAt look forms Told below q seen todo
    looked_again off a = record {
      looks = λ x l. s.looks x (again c off a l);
      looked = s.looked;
      only = λ x l. elim (s.only x l) [
        | inl t ↦ inl t
        | inr u ↦ elim u [
          | inl b ↦ inr (inl b)
          | inr m ↦ elim (seen_on look forms below seen todo c x a m) [
            | inl e ↦ inr (inl (subst (λ z. Among z seen) (sym e) a))
            | inr n ↦ inr (inr n)
          ]
        ]
      ];
    }

    -- all to which formulas lead from it was told
    pub looked_past : (W : List (Instance N)) → AreClosed (EndsSo look forms) IsMade W →
        ((i : Instance N) → Among i W → HasNone look forms i → ⊥) → ((i : Instance N) → Among i W → Told i) → Among c W →
        HasLookedAt look forms Told below q seen todo
    looked_past W w valued all a = record {
      looks = λ x l. elim (looks_past look forms told W (formed_of look forms told W w) valued c below seen todo a l) [
        | inl b ↦ inl (all x b)
        | inr m ↦ s.looks x m
      ];
      looked = s.looked;
      only = λ x l. elim (s.only x l) [
        | inl t ↦ inl t
        | inr u ↦ elim u [
          | inl b ↦ inr (inl b)
          | inr m ↦ elim (past_only look forms told W (formed_of look forms told W w) valued c below seen todo a m) [
            | inl d ↦ inl (all x d)
            | inr n ↦ inr (inr n)
          ]
        ]
      ];
    }

    -- its equation has ended so
    pub looked_on : (e : End N (Formula N)) → EndsSo look forms c e → (¬ (Among c seen)) → (¬ (IsOpen look forms below c)) →
        HasLookedAt look forms Told below q (c ∷ seen) (asked_in e ++ todo)
    looked_on e y fresh off = record {
      looks = λ x l. s.looks x (behind e y x l);
      looked = λ x a. elim a [
        | inl p ↦ subst (λ z. Told z ⊎ LooksAt look forms below [] (q ∷ []) z) (sym p) (s.looks c (here c))
        | inr b ↦ s.looked x b
      ];
      only = λ x l. elim (s.only x l) [
        | inl t ↦ inl t
        | inr u ↦ elim u [
          | inl b ↦ inr (inl (inr b))
          | inr m ↦ elim (ended_on look forms below seen todo c x e y fresh m) [
            | inl p ↦ inr (inl (inl p))
            | inr n ↦ inr (inr n)
          ]
        ]
      ];
    }
      where
        behind : (d : End N (Formula N)) → EndsSo look forms c d → (x : Instance N) →
            LooksAt look forms below (c ∷ seen) (asked_in d ++ todo) x → LooksAt look forms below seen (c ∷ todo) x
        behind (Made f) z x l = formed c f off fresh z l
        behind (Spoilt k at) z x l = spoilt c at k off fresh z l

    -- more was told
    pub looked_more : (More : Instance N → Type 0) → ((i : Instance N) → Told i → More i) → HasLookedAt look forms More below q seen (c ∷ todo)
    looked_more More more = record {
      looks = λ x l. elim (s.looks x l) [ inl t ↦ inl (more x t) | inr m ↦ inr m ];
      looked = λ x a. elim (s.looked x a) [ inl t ↦ inl (more x t) | inr m ↦ inr m ];
      only = λ x l. elim (s.only x l) [ inl t ↦ inl (more x t) | inr m ↦ inr m ];
    }
