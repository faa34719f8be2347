-- What a node that conforms is made of.
use Rattle.std.proofs.Common.{◌≡◌, ℕ, true}
use Rattle.at_model.specs.Classes.{Classes, fits, parts}
use Rattle.at_model.specs.Trees.{Node, Cells, conforms, cells_conform, fixed_stand}
use Rattle.at_model.proofs.Options.{both, and_true}

pub conforming_parts : (classes : Classes) (c : ℕ) (cells : Cells) (b : ℕ) → conforms classes (Node c cells) b ≡ true
    → (fits classes c b ≡ true) × (cells_conform classes cells (parts classes c) ≡ true) × (fixed_stand (parts classes c) cells ≡ true)
conforming_parts classes c cells b e =
    let (fit, below) = both (fits classes c b) _ e in
    let (conform, stand) = both (cells_conform classes cells (parts classes c)) (fixed_stand (parts classes c) cells) below in
    (fit, conform, stand)

pub conforming_whole : (classes : Classes) (c : ℕ) (cells : Cells) (b : ℕ) → fits classes c b ≡ true → cells_conform classes cells (parts classes c) ≡ true
    → fixed_stand (parts classes c) cells ≡ true → conforms classes (Node c cells) b ≡ true
conforming_whole classes c cells b fit conform stand = and_true _ _ fit (and_true _ _ conform stand)
