-- The most children.
use Rattle.std.proofs.Common.{ℕ, ◌≤◌}
use Rattle.at_body.specs.Size.{most}

pub few : (n : ℕ) → n ≤ 16777216 → n ≤ most
unfolding most
few n h = h
