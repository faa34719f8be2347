-- Attributes that are found by the numbers of their names.
use Rattle.std.proofs.Common.{◌≡◌, ℕ, ◌+◌, List, [], ◌∷◌, ◌++◌, length, map, refl, ap, ap₂, sym, ◌∙◌, Option, Some, None, true≢false, subst, String, string_bytes}
use Rattle.std.specs.Prelude.{Bool, true, false, ◌&&◌, ◌||◌, cond, nat_eq, position}
use Rattle.std.specs.List.{list_any, position_from}
use Rattle.std.specs.Str.{bytes_eq}
use Rattle.std.proofs.lemmas.Cmp.{nat_eq_equiv, nat_list_eq_equiv}
use Rattle.std.proofs.lemmas.Slice.Eq.{bytes_eq-Decides}
use Rattle.std.proofs.lemmas.Iterator.Adapters.{position_from-zero}
use Rattle.std.proofs.lemmas.List.{length-map, map-append}
use Rattle.std.proofs.lemmas.List.Folds.{list_any-append}
use Rattle.std.proofs.lemmas.Option.{none-some}
use Rattle.at_class.proofs.Named.{position-map}
use Rattle.at_model.specs.Classes.{Classes, chain}
use Rattle.at_model.proofs.Options.{and_false}
use Rattle.at_rules.specs.FirstNamed.{is_named, first_named, AreNoted, NotesNone, NotesOne}
use Rattle.at_rules.specs.Names.{number_in, Keeps}
use Rattle.at_rules.specs.RulesView.{LacksText}
use Rattle.at_rules.specs.declared.first_named.FirstNamed.{FirstNamed}
use Rattle.at_kinds.specs.Signatures.{Declared, declared_view, IsIndexed, is_below, declared_named, keyed, key_in}
use Rattle.at_kinds.specs.declared.signatures.Signature.{Signature}
use Rattle.at_rules.proofs.FirstNaming.{passed_over}
use Rattle.at_rules.proofs.NameNumbers.{agree, lacks_number, lacks_before, has_number}
use Rattle.at_rules.proofs.UpwardLemmas.{any_both}

-- by number --------------------------------------------------------------------------------------------------------------

-- an attribute of a class has the number where it has the name
same_number : {Z : Type 0} (names : List (String Z)) (text other : List ℕ) (n : ℕ) → number_in names text ≡ Some n → (o : Option ℕ) → number_in names other ≡ o → (c : ℕ) (cs : List ℕ)
    → is_named n cs (keyed (Some c) o) ≡ (bytes_eq other text && list_any (nat_eq c) cs)
same_number names text other n at (Some m) is c cs = any_both (nat_eq n m) c cs ∙ ap (λ b. b && list_any (nat_eq c) cs) (nat_eq_equiv.symm n m ∙ agree string_bytes names other text m n is at)
same_number names text other n at None is c cs = ap (λ b. b && list_any (nat_eq c) cs) (sym (differs (bytes_eq other text) refl))
  where
    differs : (b : Bool) → bytes_eq other text ≡ b → bytes_eq other text ≡ false
    differs false e = e
    differs true e = absurd (none-some n (sym is ∙ ap (number_in names) ((bytes_eq-Decides other text).0 e) ∙ at))

-- the attribute that is found by the number of its name
pub found_by_name : {Z : Type 0} (names : List (String Z)) (ds : List Declared) (text : List ℕ) (n : ℕ) → number_in names text ≡ Some n → (classes : Classes) (c : ℕ)
    → first_named (map (key_in names) ds) n (chain classes c) ≡ declared_named classes ds c text
found_by_name names ds text n at classes c = position-map (is_named n (chain classes c)) (key_in names) ds ∙ ap (λ test. position test ds) (λ i d. by d.name d.class i)
  where
    by : (name : List ℕ) (o : Option ℕ) → is_named n (chain classes c) (keyed o (number_in names name)) ≡ (bytes_eq name text && is_below classes c o)
    by name None = sym (and_false (bytes_eq name text))
    by name (Some b) = same_number names text name n at (number_in names name) refl b (chain classes c)

none_from : (p : Declared → Bool) (text : List ℕ) (i : ℕ) (ds : List Declared) → list_any (λ d. bytes_eq d.name text) ds ≡ false → position_from (λ d. bytes_eq d.name text && p d) i ds ≡ None
none_from p text i [] lacks = refl
none_from p text i (d ∷ ds) lacks = by (bytes_eq d.name text) lacks (none_from p text (i + 1) ds)
  where
    by : (b : Bool) → (b || list_any (λ d. bytes_eq d.name text) ds) ≡ false → (list_any (λ d. bytes_eq d.name text) ds ≡ false → position_from (λ d. bytes_eq d.name text && p d) (i + 1) ds ≡ None)
        → cond (b && p d) (Some i) (position_from (λ d. bytes_eq d.name text && p d) (i + 1) ds) ≡ None
    by true h rest = absurd (true≢false h)
    by false h rest = rest h

-- nothing is declared by what is no name
pub none_by_name : (p : Declared → Bool) (text : List ℕ) (ds : List Declared) → list_any (λ d. bytes_eq d.name text) ds ≡ false → position (λ d. bytes_eq d.name text && p d) ds ≡ None
none_by_name p text ds lacks = position_from-zero _ ds ∙ none_from p text 0 ds lacks

-- one name more ----------------------------------------------------------------------------------------------------------

second : (a b : Bool) → (a || b) ≡ false → b ≡ false
second false b is = is
second true b is = absurd (true≢false is)

module _ {Z : Type 0} (old new : List (String Z)) (keeps : Keeps old new) where
  number_kept : (name : List ℕ) → (LacksText old name → ⊥) → number_in new name ≡ number_in old name
  number_kept name there = by (number_in old name) refl
    where
      by : (o : Option ℕ) → number_in old name ≡ o → number_in new name ≡ o
      by (Some n) is = keeps name n is
      by None is = absurd (there (lacks_number old name is))

  keys_kept : (ds : List Declared) → ((text : List ℕ) → LacksText old text → list_any (λ d. bytes_eq d.name text) ds ≡ false) → map (key_in old) ds ≡ map (key_in new) ds
  keys_kept [] named = refl
  keys_kept (d ∷ ds) named =
      ap₂ (λ k ks. k ∷ ks) (ap (keyed d.class) (sym (number_kept d.name (λ lacks. true≢false (ap (λ b. b
      || list_any (λ e. bytes_eq e.name d.name) ds) (sym (nat_list_eq_equiv.refl d.name)) ∙ named d.name lacks)))))
      (keys_kept ds (λ text lacks. second (bytes_eq d.name text) _ (named text lacks)))

  pub named_more : (first : FirstNamed) (ds : List Declared) → IsIndexed old first ds → IsIndexed new first ds
  named_more first ds index = record {
    noted = subst (λ ks. AreNoted ks first) (keys_kept ds index.named) index.noted;
    named = λ text lacks. index.named text (lacks_before old new keeps text lacks);
  }

-- no attribute is noted
pub none_more : {Z : Type 0} (names : List (String Z)) (ds : List Declared) (old new : FirstNamed) → NotesNone old new → IsIndexed names old ds → IsIndexed names new ds
none_more names ds old new none index = record { noted = none (map (key_in names) ds) index.noted; named = index.named }

-- one attribute more -----------------------------------------------------------------------------------------------------

module _ {Z : Type 0} (names : List (String Z)) (ds : List Declared) (d : Declared) (n : ℕ) (number : number_in names d.name ≡ Some n) where
  -- no new name, since the attribute has one of them
  still_named : ((text : List ℕ) → LacksText names text → list_any (λ d. bytes_eq d.name text) ds ≡ false)
      → (text : List ℕ) → LacksText names text → list_any (λ d. bytes_eq d.name text) (ds ++ d ∷ []) ≡ false
  still_named named text lacks =
      list_any-append (λ d. bytes_eq d.name text) ds (d ∷ [])
      ∙ ap₂ (λ a b. a || (b || false)) (named text lacks) (differs (bytes_eq d.name text) refl)
    where
      differs : (b : Bool) → bytes_eq d.name text ≡ b → bytes_eq d.name text ≡ false
      differs false e = e
      differs true e = absurd (true≢false (sym (has_number names text n (ap (number_in names) (sym ((bytes_eq-Decides d.name text).0 e)) ∙ number)) ∙ lacks))

  key_last : (o : Option ℕ) → d.class ≡ o → map (key_in names) ds ++ keyed o (Some n) ∷ [] ≡ map (key_in names) (ds ++ d ∷ [])
  key_last o is = ap₂ (λ p q. map (key_in names) ds ++ keyed p q ∷ []) (sym is) (sym number) ∙ sym (map-append (key_in names) ds (d ∷ []))

  -- of a class that isn't there
  pub declared_nowhere : (first : FirstNamed) → IsIndexed names first ds → d.class ≡ None → IsIndexed names first (ds ++ d ∷ [])
  declared_nowhere first index none = record {
    noted = subst (λ ks. AreNoted ks first) (key_last None none) (passed_over first.first.entries (map (key_in names) ds) index.noted);
    named = still_named index.named;
  }

  -- of a class
  pub declared_more : (c a : ℕ) (old new : FirstNamed) → IsIndexed names old ds → d.class ≡ Some c → a ≡ length ds → NotesOne c n a old new → IsIndexed names new (ds ++ d ∷ [])
  declared_more c a old new index of which notes = record {
    noted = subst (λ ks. AreNoted ks new) (key_last (Some c) of) (notes (map (key_in names) ds) (which ∙ sym (length-map ds (key_in names))) index.noted);
    named = still_named index.named;
  }

pub pushed : (xs ys zs : List Signature) (s : Signature) → zs ≡ ys ++ s ∷ [] → ys ≡ xs → map declared_view xs ++ declared_view s ∷ [] ≡ map declared_view zs
pushed xs ys zs s is same = sym (map-append declared_view xs (s ∷ [])) ∙ ap (λ l. map declared_view (l ++ s ∷ [])) (sym same) ∙ ap (map declared_view) (sym is)
