-- What holds of each form that is declared holds of what is read of the declarations for ASTNode, too.
use Rattle.std.proofs.Common.{◌≡◌, ◌+◌, ℕ, Bool, true, false, List, [], ◌∷◌, Option, None, Some, cond, length, map}
use Rattle.std.specs.Prelude.{IfSome, nat_le}
use Rattle.std.specs.List.{AllByRecursion, flat_map}
use Rattle.at_model.specs.Classes.{Class, Classes, name_of}
use Rattle.at_model.proofs.Everywhere.{all_both}
use Rattle.at_text.specs.declared.place.Place.{Place}
use Rattle.at_jrag.specs.Syntax.{DeclForm, Decl, Aspect}
use Rattle.at_typing.specs.Located.{name_word}
use Rattle.at_start.specs.Spreading.{Head, heads, is_declared_for, is_everywhere, is_among_at_root, form_for, null_form, declared_at, decl_for, decls_at_root, decls_everywhere, decls_from, spread_as, aspect_spread, files_spread, spread}
use Rattle.at_start.specs.declared.everywhere.Sought.TheVariants.{Attributes, Equations}

-- it holds of each declaration of the aspect
abbrev pub AspectHas : (DeclForm → Type 0) → Aspect → Type 0
AspectHas P a = AllByRecursion (λ d. P d.form) a.decls

-- and of those of all files
abbrev pub FilesHave : (DeclForm → Type 0) → List (List Aspect) → Type 0
FilesHave P files = AllByRecursion (AllByRecursion (AspectHas P)) files

module _ (P : DeclForm → Type 0)
    (each : (hs : List Head) (class : List ℕ) (form : DeclForm) → P form → IfSome (form_for hs class form) P)
    (at_root : (root : List ℕ) (form : DeclForm) → P form → IfSome (null_form root form) P) where
  abbrev Has : Decl → Type 0
  Has d = P d.form

  declared_has : (at : Place) (o : Option DeclForm) → IfSome o P → AllByRecursion Has (declared_at at o)
  declared_has at None has = tt
  declared_has at (Some form) has = (has, tt)

  module _ (classes : Classes) (attributes equations : List Head) where
    class_has : (d : Decl) (c : ℕ) → P d.form → AllByRecursion Has (decl_for classes attributes equations d c)
    class_has d c has = by (is_declared_for classes attributes c d.form)
      where
        by : (b : Bool) → AllByRecursion Has (cond b (declared_at d.at (form_for equations (name_of classes c) d.form)) [])
        by true = declared_has d.at (form_for equations (name_of classes c) d.form) (each equations (name_of classes c) d.form has)
        by false = tt

    classes_have : (d : Decl) (c : ℕ) (ks : List Class) → P d.form → AllByRecursion Has (decls_from classes attributes equations d c ks)
    classes_have d c [] has = tt
    classes_have d c (k ∷ ks) has =
        all_both Has (decl_for classes attributes equations d c) (decls_from classes attributes equations d (c + 1) ks)
        (class_has d c has) (classes_have d (c + 1) ks has)

    root_has : (d : Decl) → P d.form → AllByRecursion Has (decls_at_root classes attributes d)
    root_has d has = by (is_among_at_root classes attributes (name_word d.form).text)
      where
        by : (b : Bool) → AllByRecursion Has (cond b [] (declared_at d.at (null_form (name_of classes 0) d.form)))
        by true = tt
        by false = declared_has d.at (null_form (name_of classes 0) d.form) (at_root (name_of classes 0) d.form has)

    decl_has : (d : Decl) → P d.form → AllByRecursion Has (spread_as classes attributes equations d)
    decl_has d has = by (is_everywhere d.form)
      where
        by : (b : Bool) → AllByRecursion Has (cond b (decls_everywhere classes attributes equations d) (d ∷ []))
        by true =
            all_both Has (decls_at_root classes attributes d) (decls_from classes attributes equations d 0 classes)
            (root_has d has) (classes_have d 0 classes has)
        by false = (has, tt)

    decls_have : (ds : List Decl) → AllByRecursion Has ds → AllByRecursion Has (flat_map (spread_as classes attributes equations) ds)
    decls_have [] have = tt
    decls_have (d ∷ ds) have =
        all_both Has (spread_as classes attributes equations d) (flat_map (spread_as classes attributes equations) ds)
        (decl_has d have.0) (decls_have ds have.1)

    aspects_have : (as' : List Aspect) → AllByRecursion (AspectHas P) as'
        → AllByRecursion (AspectHas P) (map (aspect_spread classes attributes equations) as')
    aspects_have [] have = tt
    aspects_have (a ∷ as') have = (decls_have a.decls have.0, aspects_have as' have.1)

    files_have : (files : List (List Aspect)) → FilesHave P files → FilesHave P (files_spread classes attributes equations files)
    files_have [] have = tt
    files_have (f ∷ fs) have = (aspects_have f have.0, files_have fs have.1)

  pub spread_have : (classes : Classes) (files : List (List Aspect)) → FilesHave P files → FilesHave P (spread classes files)
  spread_have classes files have = by (nat_le (length (heads Attributes files)) 2000)
    where
      by : (b : Bool) → FilesHave P (cond b (files_spread classes (heads Attributes files) (heads Equations files) files) files)
      by true = files_have classes (heads Attributes files) (heads Equations files) files have
      by false = have
