-- The bytes of files, and the texts that they are.
use Rattle.std.specs.Prelude.{◌≡◌, ℕ, ◌*◌, ◌≤◌, ◌<◌, List, length, max}
use Rattle.std.specs.Str.{IsUtf8}
use Rattle.at_start.specs.declared.code.Code.{Code}

-- how many bytes a file may have, but for that of a large tree
abbrev pub max_file : ℕ
max_file = 4194304

-- how many bytes the file of a tree may have that may have so many nodes
abbrev pub tree_bytes : ℕ → ℕ
tree_bytes nodes = max max_file (64 * nodes)

-- the bytes are a text: they are no more than the file may have, and UTF-8
pub record IsText (most : ℕ) (bytes : List ℕ) : Type 0 where
  pub short : length bytes ≤ most
  pub utf8 : IsUtf8 bytes

abbrev pub IsTextOf : (most : ℕ) → List ℕ → List ℕ → Type 0
IsTextOf most bytes text = IsText most bytes × (text ≡ bytes)

-- The bytes are no text, by this code: they are too many, or else they are not UTF-8.
pub data IsNoText (most : ℕ) (bytes : List ℕ) (limit syntax : Code) : Code → Type 0 where
  too_long : most < length bytes → IsNoText most bytes limit syntax limit
  no_utf8 : length bytes ≤ most → ¬ (IsUtf8 bytes) → IsNoText most bytes limit syntax syntax
