use Rattle.std.proofs.Common.{◌≡◌, ℕ, ◌<◌, List, [], ◌∷◌, length, Option, None, refl, sym, subst, arith, true≢false, vec_len}
use Rattle.std.specs.Prelude.{IsSome}
use Rattle.at_demand.proofs.Questioned.{last_gone}
use Rattle.at_demand.proofs.trials.Trials.drop_last.Goals as goal

none_left : {A : Type 0} (o : Option A) (xs : List A) (n : ℕ) → (0 < n → IsSome o) → n ≡ length xs → o ≡ None → xs ≡ []
none_left o [] n some e is = refl
none_left o (x ∷ xs) n some e is = let h = subst IsSome is (some (omega (arith, e))) in absurd (true≢false (sym h))

pub returns : goal.returns
returns c =
    let v = c.args.self.now.frames in
    record {
      none = refl;
      frames = last_gone c.pop.result v.items c.pop.new.self.items c.pop.ensures.items
          (none_left c.pop.result v.items (vec_len v) c.pop.ensures.variant.1 (omega (arith, v.ok.0)));
      noted = refl;
    }
