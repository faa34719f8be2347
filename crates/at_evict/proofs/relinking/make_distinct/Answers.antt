use Rattle.at_evict.proofs.Common.{◌≡◌, ◌∙◌, List, ℕ, ap, eqb, IsPermutation, length, subst, sym, dedup, items-with_items, HasSame}
use Rattle.at_evict.proofs.of_folding.Distinct.{same_sorted}
use Rattle.at_evict.proofs.relinking.make_distinct.Goals as goal

pub returns-then-len-lt2 : goal.returns-then-len-lt2
returns-then-len-lt2 c = record { kept = λ p c. c; from = λ p c. c }

pub returns : goal.returns
returns c =
    let xs = c.args.list.now.items in
    let sorted = c.sort_unstable.new.self in
    let moved : IsPermutation xs sorted = subst (λ (ys : List ℕ). IsPermutation ys sorted) c.as_mut_slice.ensures.value c.sort_unstable.ensures.permutation in
    let len : length sorted ≡ length xs = c.sort_unstable.ensures.len ∙ ap length c.as_mut_slice.ensures.value in
    let is : c.dedup.new.self.items ≡ dedup eqb sorted = c.dedup.ensures.items ∙ ap (dedup eqb) (items-with_items c.args.list.now sorted len) in
    subst (HasSame xs) (sym is) (same_sorted xs sorted moved)
