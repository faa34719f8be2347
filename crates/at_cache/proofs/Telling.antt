-- What is told of the entry in a slot.
use Rattle.at_cache.proofs.Common.{◌≡◌, ℕ, Bool, false, ◌&&◌, not, nat_eq, Option, None, Some, option_map, ap, sym, ◌∙◌, same_Some, Instance, Value, value_view, Edge, Entry, Info, info, is_going, is_fresh}

module _ (x : Edge) where
  pub current_some : (o : Option (Instance ℕ × Entry)) (e : Instance ℕ × Entry) → Some e ≡ o → nat_eq e.1.stamp x.stamp ≡ (elim (option_map info o) as (λ _. Bool) [ None ↦ false | Some e ↦ nat_eq e.stamp x.stamp ])
  current_some o e h = ap (λ (o : Option (Instance ℕ × Entry)). elim (option_map info o) as (λ _. Bool) [ None ↦ false | Some e ↦ nat_eq e.stamp x.stamp ]) h

  pub current_none : (o : Option (Instance ℕ × Entry)) → None ≡ o → false ≡ (elim (option_map info o) as (λ _. Bool) [ None ↦ false | Some e ↦ nat_eq e.stamp x.stamp ])
  current_none o h = ap (λ (o : Option (Instance ℕ × Entry)). elim (option_map info o) as (λ _. Bool) [ None ↦ false | Some e ↦ nat_eq e.stamp x.stamp ]) h

  pub fresh_some : (o : Option (Instance ℕ × Entry)) (e : Instance ℕ × Entry) → Some e ≡ o → (nat_eq e.1.stamp x.stamp && not (is_going e.1.mark)) ≡ is_fresh x (option_map info o)
  fresh_some o e h = ap (λ (o : Option (Instance ℕ × Entry)). is_fresh x (option_map info o)) h

  pub fresh_none : (o : Option (Instance ℕ × Entry)) → None ≡ o → false ≡ is_fresh x (option_map info o)
  fresh_none o h = ap (λ (o : Option (Instance ℕ × Entry)). is_fresh x (option_map info o)) h

-- the entry has that value
pub value_told : (o : Option (Instance ℕ × Entry)) (e : Instance ℕ × Entry) (v : Option (Value ℕ)) → Some e ≡ o → option_map value_view e.1.value ≡ v → (x : Info) × (option_map info o ≡ Some x) × (x.value ≡ v)
value_told o e v h is = (info e, ap (option_map info) (sym h), is)

pub value_other : (o : Option (Instance ℕ × Entry)) (e : Instance ℕ × Entry) (v : Option (Value ℕ)) → Some e ≡ o
    → (option_map value_view e.1.value ≡ v → ⊥) → (x : Info) → option_map info o ≡ Some x → x.value ≡ v → ⊥
value_other o e v h differs x is same = differs (ap (λ (y : Info). y.value) (same_Some (info e) x (ap (option_map info) h ∙ is)) ∙ same)
