-- The receiver of a call.
use Rattle.std.specs.Prelude.{◌≡◌, ℕ, List, Option, Some, None}
use Rattle.at_model.specs.Bodies.{Expr}
use Rattle.at_model.specs.Classes.{Classes}
use Rattle.at_model.specs.Follow.{follow}
use Rattle.at_model.specs.Run.{Contents, Location, Ref, Run, Value, ◌>>=◌}
use Rattle.at_body.specs.declared.todo.Now.TheVariants.{Back}
use Rattle.at_body.specs.declared.trial.Trial.{Trial}
use Rattle.at_body.specs.declared.value.Value.TheVariants as value
use Rattle.at_body.specs.Rest.{ev, place_of}
use Rattle.at_body.specs.Typed.{ComesTo}

-- the expression demands nothing and comes to this node, and what is done with the node goes on behind what was looked at
-- by then; or nothing has changed
abbrev pub IsReceiver : Contents ℕ → Expr → Trial → Trial → Option ℕ → Type 0
IsReceiver look e old new None = new ≡ old
IsReceiver look e old new (Some n) = (seen : List (Location ℕ)) × (new ≡ record old { reads = seen })
    × ((classes : Classes) → ComesTo look (ev classes e (place_of old)) (Back (value.Ref (Some n))))
    × ((classes : Classes) (further : Value ℕ → Run ℕ (Value ℕ))
    → follow look old.reads (ev classes e (place_of old) >>= further) ≡ follow look seen (further (Ref (Some n))))
