-- What is done of one group.
use Rattle.std.proofs.Common.{◌≡◌, ℕ, Bool, true, false, true≢false, List, [], ◌∷◌, ◌++◌, map, Vec, inl, inr, refl, sym, ap, ◌∙◌}
use Rattle.std.specs.Global.{Global}
use Rattle.at_search.specs.declared.solving.Solved.{Solved}
use Rattle.at_search.specs.declared.system.System.{System}
use Rattle.at_search.specs.Solved.{HasShut, HasSolved, solved_at}

pub stays_out : (b : Bool) (group : List ℕ) (leave : List Bool) (old new : System) (before : List (Vec Solved Global)) → b ≡ false →
    HasShut group old new b → HasSolved group leave old new before before
stays_out true group leave old new before e h = absurd (true≢false e)
stays_out false group leave old new before e (off, o) = inr (off, o, refl)

pub comes_behind : (b : Bool) (group : List ℕ) (leave : List Bool) (old new : System) (before after : List (Vec Solved Global))
    (v : Vec Solved Global) → b ≡ true → HasShut group old new b → v.items ≡ map (solved_at new.conditions.start leave) group →
    after ≡ before ++ v ∷ [] → HasSolved group leave old new before after
comes_behind true group leave old new before after v e (all, same) is behind =
    inl (all, same, (v, is ∙ ap (λ (s : System). map (solved_at s.conditions.start leave) group) same, behind))
comes_behind false group leave old new before after v e h is behind = absurd (true≢false (sym e))
