use Rattle.std.proofs.Common.{◌≡◌, Bool, true, false, Option, Some, None, inl, inr, refl, ap, ◌∙◌, true≢false}
use Rattle.std.specs.Prelude.{is_some, not}
use Rattle.at_demand.proofs.trials.Trials.end_last.Goals as goal

none_of : {A : Type 0} (o : Option A) (b : Bool) → is_some o ≡ not b → b ≡ true → o ≡ None
none_of None b is e = refl
none_of (Some x) b is e = absurd (true≢false (is ∙ ap not e))

pub returns-then-is_none : goal.returns-then-is_none
returns-then-is_none c =
    let none = none_of c.args.self.now.awaited c.is_none.result c.is_none.ensures c.if-is_none.true in
    record { none = none; frames = inl (none, refl); noted = refl }

pub returns : goal.returns
returns c = record {
  none = c.drop_last.ensures.none;
  frames = inr (c.is_none.ensures ∙ ap not c.if-is_none.false, c.drop_last.ensures);
  noted = c.drop_last.ensures.noted;
}
