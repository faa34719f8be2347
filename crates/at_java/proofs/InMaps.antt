-- What is noted of aliases in a map, from the last one to the first.
use Rattle.std.proofs.Common.{◌≡◌, ℕ, suc, ◌+◌, ◌<◌, ◌≤◌, List, [], ◌∷◌, length, drop, get_or, find, Bool, true, false, cond, Option, Some, None, refl, sym, ap, ap₂, add-one, ◌∙◌, arith}
use Rattle.std.specs.Prelude.{option_map}
use Rattle.std.specs.Borrow.{Bor}
use Rattle.std.specs.Map.{lookup}
use Rattle.std.specs.Str.{bytes_eq}
use Rattle.std.proofs.Math.Seq.{drop-cons}
use Rattle.std.proofs.lemmas.List.{drop_all}
use Rattle.indexmap.specs.IndexMap.{IndexMap, get_by}
use Rattle.at_java.specs.Aliases.{Alias, meant_by}
use Rattle.at_java.specs.Noted.{AreNoted}

-- texts that are lent
abbrev Text : Type 0
Text = Bor (List ℕ)

abbrev told : Option Text → Option (List ℕ)
told = option_map (λ t. t.now)

-- the first of these, or what is noted of the others
chosen : (b : Bool) (a : Alias) (rest : List Alias) (name : List ℕ) (meant : Text) (o : Option Text)
    → meant.now ≡ a.meant → told o ≡ meant_by rest name
    → told (cond b (Some meant) o)
    ≡ option_map (λ (x : Alias). x.meant) (cond b (Some a) (find (λ (x : Alias). bytes_eq x.name name) rest))
chosen true a rest name meant o is known = ap Some is
chosen false a rest name meant o is known = known

module _ {S : Type 0} (aliases : List Alias) where
  pub none_noted : (n : ℕ) (names : IndexMap Text Text S) → n ≡ length aliases → names.entries ≡ []
      → AreNoted (drop n aliases) names
  none_noted n names all empty = λ name.
      ap (λ es. told (lookup (λ (k : Text). bytes_eq name k.now) es)) empty
      ∙ ap (λ (xs : List Alias). meant_by xs name) (sym (drop_all n aliases (omega (arith, all))))

  -- one more in front
  pub one_noted : (i n : ℕ) (a : Alias) (key meant : Text) (old new : IndexMap Text Text S)
      → i < length aliases → n ≡ i + 1 → a ≡ get_or aliases i a → key.now ≡ a.name → meant.now ≡ a.meant
      → ((q : Text) → get_by (λ k. bytes_eq q.now k.now) new
      ≡ cond (bytes_eq key.now q.now) (Some meant) (get_by (λ k. bytes_eq q.now k.now) old))
      → AreNoted (drop n aliases) old → AreNoted (drop i aliases) new
  one_noted i n a key meant old new less next is named means updates known = λ name.
      let before = get_by (λ (k : Text). bytes_eq name k.now) old in
      ap told (updates (record { ref_ptr = key.ref_ptr; now = name }))
      ∙ ap (λ t. told (cond (bytes_eq t name) (Some meant) before)) named
      ∙ chosen (bytes_eq a.name name) a (drop n aliases) name meant before means (known name)
      ∙ ap (λ (xs : List Alias). meant_by xs name)
      (sym (drop-cons aliases i a less ∙ ap₂ (λ x k. x ∷ drop k aliases) (sym is) (sym (add-one i) ∙ sym next)))
