-- What holds of each form that is spelled holds of all declarations of files.
use Rattle.std.proofs.Common.{ℕ, ◌+◌, List, [], ◌∷◌, map, sym, subst}
use Rattle.std.specs.List.{AllByRecursion}
use Rattle.std.proofs.lemmas.List.Concat.{flat_map-cons}
use Rattle.at_model.proofs.Everywhere.{all_both}
use Rattle.at_text.specs.Rows.{Row}
use Rattle.at_jrag.specs.Syntax.{DeclForm, Decl, Aspect}
use Rattle.at_jrag.specs.declared.Forms.{Forms}
use Rattle.at_jrag.specs.Grammar.{Behind, Decls, File}
use Rattle.at_typing.specs.Located.{Located, IsSpelled, from_aspect, from_file, located}

abbrev pub OfForm : (DeclForm → Type 0) → Located → Type 0
OfForm P d = P d.decl.form

module _ (P : DeclForm → Type 0) (forms : Forms)
    (each : (form : DeclForm) (old rest : Row) → Behind forms form old rest → P form) where
  decls_each : (file : ℕ) (ds : List Decl) (old rest : Row) → Decls forms ds old rest
      → AllByRecursion (OfForm P) (map (λ d. record { file = file; decl = d }) ds)
  decls_each file [] old rest is = tt
  decls_each file (d ∷ ds) old rest (more, (behind, word, is), others) =
      (each d.form behind more is, decls_each file ds more rest others)

  -- of those of one file
  pub file_each : (file : ℕ) (as' : List Aspect) (old rest : Row) → File forms as' old rest
      → AllByRecursion (OfForm P) (from_file file as')
  file_each file [] old rest is = tt
  file_each file (a ∷ as') old rest (more, (named, brace, inner, close, word, name, opens, is, closes), others) =
      subst (AllByRecursion (OfForm P)) (sym (flat_map-cons (from_aspect file) a as'))
      (all_both (OfForm P) (from_aspect file a) (from_file file as') (decls_each file a.decls inner close is)
      (file_each file as' more rest others))

-- of those of all files
pub located_each : (P : DeclForm → Type 0)
    → ((forms : Forms) (form : DeclForm) (old rest : Row) → Behind forms form old rest → P form)
    → (file : ℕ) (files : List (List Aspect)) → AllByRecursion IsSpelled files
    → AllByRecursion (OfForm P) (located file files)
located_each P each file [] are = tt
located_each P each file (as' ∷ rest) ((forms, tokens, is), are) =
    all_both (OfForm P) (from_file file as') (located (file + 1) rest)
    (file_each P forms (each forms) file as' tokens [] is)
    (located_each P each (file + 1) rest are)
