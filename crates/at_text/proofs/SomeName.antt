-- Some name, with which rows of tokens are completed.
use Rattle.std.proofs.Common.{◌≡◌, true, refl, lit<, rules}
use Rattle.std.proofs.lemmas.Str.{chars-IsAscii}
use Rattle.unicode_ident.proofs.IdentLemmas.{is_xid_start-ascii}
use lib.Chars.{codes}
use Rattle.at_model.specs.Names.{is_name, reserved_words}

pub is_some_name : is_name (codes "_") ≡ true
unfolding reserved_words
is_some_name = rw (chars-IsAscii (codes "_") (search rules), is_xid_start-ascii 95 (lit< tt)) refl
