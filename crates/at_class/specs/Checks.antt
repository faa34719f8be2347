-- The rules of a grammar, each as its check looks at it: over the names, or the classes, that were made of it.
use Rattle.std.specs.Prelude.{ℕ, Bool, List, Option, Some, None, not, nat_eq, nat_le, nat_lt, length, ◌||◌, is_none, ◌&&◌, if◌then◌else◌}
use Rattle.std.specs.List.{list_any}
use Rattle.at_model.specs.Classes.{Classes, parts}
use Rattle.at_model.specs.Declarations.{Declarations, Place, Declaration, PartDeclaration, first_given, is_known, above, is_token, token_kind_named, is_twice, max_classes, max_parts}

abbrev pub unknown_at : (List ℕ → Option ℕ) → ℕ → Declaration → Option Place
unknown_at named c d = if not (is_known named d) then Some d.at else None

unfoldable pub unknown_by : (List ℕ → Option ℕ) → Declarations → Option Place
unknown_by named ds = first_given (unknown_at named) 0 ds

abbrev pub circle_at : Classes → ℕ → Declaration → Option Place
circle_at classes c d = if list_any (nat_eq c) (above classes c) then Some d.at else None

unfoldable pub circle_in : Classes → Declarations → Option Place
circle_in classes ds = first_given (circle_at classes) 0 ds

abbrev pub is_of_no_kind : PartDeclaration → Bool
is_of_no_kind p = is_token p.form && is_none (token_kind_named p.kind)

abbrev pub kind_at : ℕ → PartDeclaration → Option Place
kind_at i p = if is_of_no_kind p then Some p.at else None

unfoldable pub kind_in : List PartDeclaration → Option Place
kind_in ps = first_given kind_at 0 ps

abbrev pub kinds_at : ℕ → Declaration → Option Place
kinds_at c d = kind_in d.parts

abbrev pub part_twice_at : Classes → ℕ → ℕ → PartDeclaration → Option Place
part_twice_at classes c i p = if is_twice classes c i then Some p.at else None

unfoldable pub parts_twice : Classes → ℕ → List PartDeclaration → Option Place
parts_twice classes c ps = first_given (part_twice_at classes c) 0 ps

abbrev pub twice_at : Classes → ℕ → Declaration → Option Place
twice_at classes c d = parts_twice classes c d.parts

unfoldable pub twice_in : Classes → Declarations → Option Place
twice_in classes ds = first_given (twice_at classes) 0 ds

abbrev pub over_at : Classes → ℕ → Declaration → Option Place
over_at classes c d = if nat_le max_classes c || nat_lt max_parts (length (parts classes c)) then Some d.at else None

unfoldable pub over_in : Classes → Declarations → Option Place
over_in classes ds = first_given (over_at classes) 0 ds
