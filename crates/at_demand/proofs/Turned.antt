-- One turn of a question's chain, where no attribute is circular.
use Rattle.std.proofs.Common.{◌≡◌, ◌⊎◌, ℕ, Bool, true, false, if◌then◌else◌, List, [], ◌∷◌, ◌++◌, inl, inr, refl, sym, ap, ◌∙◌, subst, append_assoc, append-nil}
use Rattle.std.specs.Map.{keys_of}
use Rattle.indexmap.specs.IndexMap.{insert_entry}
use Rattle.at_model.specs.Run.{Value, Instance, Contents}
use Rattle.at_model.specs.Meaning.{Among, Equations}
use Rattle.at_model.specs.Turning.{IsOn, IsOneMore, between, keys, chain}
use Rattle.at_model.proofs.of_machines.Bounded.{keys_both}
use Rattle.at_model.proofs.Listed.{among_left, among_right}
use Rattle.at_model.proofs.Members.{among_last}
use Rattle.at_body.specs.Same.{same_instance}
use Rattle.at_body.specs.Values.{value_view}
use Rattle.at_body.specs.declared.value.Value.{Value as ValueCode}
use Rattle.at_demand.specs.declared.evaluation.Find.{Find}
use Rattle.at_demand.specs.declared.question.Question.{Question}
use Rattle.at_demand.specs.Levels.{LevelCode}
use Rattle.at_demand.specs.Turns.{found_of, passed_of, under_way}
use Rattle.at_demand.proofs.Keys.{goes_last, keys_push}
use Rattle.at_evaluate.proofs.Sameness.{same_true}
use Rattle.at_demand.proofs.of_searches.Returning.{with_level}

keys_found : (fs : List (Instance ℕ × Find)) → keys (found_of fs) ≡ keys_of fs
keys_found [] = refl
keys_found (f ∷ fs) = ap (λ ks. f.0 ∷ ks) (keys_found fs)

keys_passed : (ps : List (Instance ℕ × ValueCode)) → keys (passed_of ps) ≡ keys_of ps
keys_passed [] = refl
keys_passed (p ∷ ps) = ap (λ ks. p.0 ∷ ks) (keys_passed ps)

found_push : (fs : List (Instance ℕ × Find)) (i : Instance ℕ) (f : Find) → found_of (fs ++ (i, f) ∷ []) ≡ found_of fs ++ (i, value_view f.value) ∷ []
found_push [] i f = refl
found_push (x ∷ fs) i f = ap (λ (ys : List (Instance ℕ × Value ℕ)). (x.0, value_view x.1.value) ∷ ys) (found_push fs i f)

passed_push : (ps : List (Instance ℕ × ValueCode)) (i : Instance ℕ) (v : ValueCode) → passed_of (ps ++ (i, v) ∷ []) ≡ passed_of ps ++ (i, value_view v) ∷ []
passed_push [] i v = refl
passed_push (x ∷ ps) i v = ap (λ (ys : List (Instance ℕ × Value ℕ)). (x.0, value_view x.1) ∷ ys) (passed_push ps i v)

abbrev pub with_view : Value ℕ → Instance ℕ → Instance ℕ × Value ℕ
with_view w i = (i, w)

-- what stands of an equation of lists of instances that wait
pub last_two : (ws vs : List (Instance ℕ × LevelCode)) (i : Instance ℕ) (d : LevelCode) → ws ≡ vs ++ with_level d i ∷ [] →
    keys_of ws ≡ keys_of vs ++ i ∷ []
last_two ws vs i d e = ap keys_of e ∙ keys_push vs i d

-- what has come to be kept came before, or is this one
pub passed_one : (ps : List (Instance ℕ × ValueCode)) (k : Instance ℕ) (v : ValueCode) (i : Instance ℕ) (w : Value ℕ) →
    Among (with_view w i) (passed_of (insert_entry same_instance ps k v)) → Among (with_view w i) (passed_of ps) ⊎ ((i ≡ k) × (w ≡ value_view v))
passed_one [] k v i w (inl e) = inr (ap (λ (x : Instance ℕ × Value ℕ). x.0) e, ap (λ (x : Instance ℕ × Value ℕ). x.1) e)
passed_one [] k v i w (inr n) = absurd n
passed_one (p ∷ ps) k v i w h = by (same_instance k p.0) refl h (passed_one ps k v i w)
  where
    by : (b : Bool) → same_instance k p.0 ≡ b →
        Among (with_view w i) (passed_of (if b then (p.0, v) ∷ ps else p ∷ insert_entry same_instance ps k v)) →
        (Among (with_view w i) (passed_of (insert_entry same_instance ps k v)) → Among (with_view w i) (passed_of ps) ⊎ ((i ≡ k) × (w ≡ value_view v))) →
        Among (with_view w i) (passed_of (p ∷ ps)) ⊎ ((i ≡ k) × (w ≡ value_view v))
    by true s (inl e) more =
        inr (ap (λ (x : Instance ℕ × Value ℕ). x.0) e ∙ sym (same_true k p.0 s), ap (λ (x : Instance ℕ × Value ℕ). x.1) e)
    by true s (inr a) more = inl (inr a)
    by false s (inl e) more = inl (inl e)
    by false s (inr a) more = elim (more a) [ inl b ↦ inl (inr b) | inr e ↦ inr e ]

module _ (look : Contents ℕ) (equation : Equations ℕ) (q : Instance ℕ) (old : Question) (on : IsOn look equation q (under_way old)) where
  in_keys : keys (found_of old.found.entries ++ passed_of old.passed.entries) ≡ keys_of old.found.entries ++ keys_of old.passed.entries
  in_keys = keys_both (found_of old.found.entries) (passed_of old.passed.entries)
      ∙ ap (λ ks. ks ++ keys (passed_of old.passed.entries)) (keys_found old.found.entries)
      ∙ ap (λ ks. keys_of old.found.entries ++ ks) (keys_passed old.passed.entries)

  at_end : Among old.inst (chain (under_way old))
  at_end = among_last (keys_of old.waiting.entries) old.inst

  pub fresh_found : Among old.inst (keys_of old.found.entries) → ⊥
  fresh_found a = on.apart old.inst at_end
      (subst (Among old.inst) (sym in_keys) (among_left old.inst (keys_of old.found.entries) (keys_of old.passed.entries) a))

  pub fresh_passed : Among old.inst (keys_of old.passed.entries) → ⊥
  fresh_passed a = on.apart old.inst at_end
      (subst (Among old.inst) (sym in_keys) (among_right old.inst (keys_of old.found.entries) (keys_of old.passed.entries) a))

  -- the values are one more
  pub one_found : (new : Question) (d : Find) → new.found.entries ≡ insert_entry same_instance old.found.entries old.inst d →
      new.passed.entries ≡ old.passed.entries →
      IsOneMore (old.inst, value_view d.value) (found_of old.found.entries ++ passed_of old.passed.entries)
      (found_of new.found.entries ++ passed_of new.passed.entries)
  one_found new d found passed =
      let goes = found ∙ goes_last old.found.entries old.inst d fresh_found in
      let is : found_of new.found.entries ++ passed_of new.passed.entries
      ≡ found_of old.found.entries ++ ((old.inst, value_view d.value) ∷ passed_of old.passed.entries) =
      ap (λ fs. found_of fs ++ passed_of new.passed.entries) goes ∙ ap (λ ps. found_of (old.found.entries ++ (old.inst, d) ∷ []) ++ passed_of ps) passed
      ∙ ap (λ (xs : List (Instance ℕ × Value ℕ)). xs ++ passed_of old.passed.entries) (found_push old.found.entries old.inst d)
      ∙ append_assoc (found_of old.found.entries) ((old.inst, value_view d.value) ∷ []) (passed_of old.passed.entries) in
      subst (IsOneMore (old.inst, value_view d.value) (found_of old.found.entries ++ passed_of old.passed.entries)) (sym is)
      (between (found_of old.found.entries) (passed_of old.passed.entries))

  pub one_passed : (new : Question) (v : ValueCode) → new.found.entries ≡ old.found.entries →
      new.passed.entries ≡ insert_entry same_instance old.passed.entries old.inst v →
      IsOneMore (old.inst, value_view v) (found_of old.found.entries ++ passed_of old.passed.entries)
      (found_of new.found.entries ++ passed_of new.passed.entries)
  one_passed new v found passed =
      let goes = passed ∙ goes_last old.passed.entries old.inst v fresh_passed in
      let whole = found_of old.found.entries ++ passed_of old.passed.entries in
      let is : found_of new.found.entries ++ passed_of new.passed.entries ≡ whole ++ (old.inst, value_view v) ∷ [] =
      ap (λ fs. found_of fs ++ passed_of new.passed.entries) found ∙ ap (λ ps. found_of old.found.entries ++ passed_of ps) goes
      ∙ ap (λ (xs : List (Instance ℕ × Value ℕ)). found_of old.found.entries ++ xs) (passed_push old.passed.entries old.inst v)
      ∙ sym (append_assoc (found_of old.found.entries) (passed_of old.passed.entries) ((old.inst, value_view v) ∷ [])) in
      let there : IsOneMore (old.inst, value_view v) (whole ++ []) (whole ++ (old.inst, value_view v) ∷ []) = between whole [] in
      subst (IsOneMore (old.inst, value_view v) whole) (sym is)
      (subst (λ xs. IsOneMore (old.inst, value_view v) xs (whole ++ (old.inst, value_view v) ∷ [])) (append-nil whole) there)
