-- How the reader of terms passes over names and quoted texts.
use Rattle.std.proofs.Common.{◌≡◌, ℕ, Bool, true, false, ◌==◌, List, ◌++◌, Some, refl, sym, subst, encode_utf8_all}
use Rattle.std.specs.Prelude.{encode_utf8}
use Rattle.std.specs.List.{AllByRecursion}
use Rattle.at_model.specs.Names.{continues_name}
use Rattle.at_tree.specs.Leads.{Leads}
use Rattle.at_tree.specs.Partial.{Level, InWord, InText, at, can_open, in_text, step}
use Rattle.at_text.specs.Front.{stands_for_itself}
use Rattle.at_tree.proofs.Passing.{leads_over}
use Rattle.at_tree.proofs.TermRuns.{not_paren}

pub leads_word : (fs : List Level) (word more cs : List ℕ) → can_open fs ≡ true → more ≡ word ++ encode_utf8_all cs → AllByRecursion (λ c. continues_name c ≡ true) cs → Leads step (at fs (InWord word)) cs (at fs (InWord more))
leads_word fs word more cs can is each =
    subst (λ w. Leads step (at fs (InWord word)) cs (at fs (InWord w))) (sym is)
    (leads_over step continues_name (λ w. at fs (InWord w)) (λ w c s. rw (not_paren c s, s, can) refl) cs word each)

plain_goes : (fs : List Level) (text : List ℕ) (c : ℕ) → stands_for_itself c ≡ true → in_text fs text c ≡ Some (at fs (InText (text ++ encode_utf8 c)))
plain_goes fs text c e = decide (c == 34) (c == 92) (c == 10) (c == 9) refl refl refl refl
  where
    decide : (q b n t : Bool) → (c == 34) ≡ q → (c == 92) ≡ b → (c == 10) ≡ n → (c == 9) ≡ t → in_text fs text c ≡ Some (at fs (InText (text ++ encode_utf8 c)))
    decide true b n t h i j k = let f : false ≡ true = rw h at e in cc
    decide false true n t h i j k = let f : false ≡ true = rw (h, i) at e in cc
    decide false false true t h i j k = let f : false ≡ true = rw (h, i, j) at e in cc
    decide false false false true h i j k = let f : false ≡ true = rw (h, i, j, k) at e in cc
    decide false false false false h i j k = rw (h, i, j, k) refl

pub leads_plain : (fs : List Level) (value more cs : List ℕ) → more ≡ value ++ encode_utf8_all cs → AllByRecursion (λ c. stands_for_itself c ≡ true) cs → Leads step (at fs (InText value)) cs (at fs (InText more))
leads_plain fs value more cs is each =
    subst (λ w. Leads step (at fs (InText value)) cs (at fs (InText w))) (sym is)
    (leads_over step stands_for_itself (λ w. at fs (InText w)) (λ w c s. plain_goes fs w c s) cs value each)
