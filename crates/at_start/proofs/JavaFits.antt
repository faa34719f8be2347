-- What is read as users of JastAdd write it: each number in a body has 32 bits, and what is circular is boolean.
use Rattle.std.proofs.Common.{◌≡◌, ◌+◌, ℕ, zero, suc, List, [], ◌∷◌, Bool, true, false, Option, None, Some, cond, map, refl, sym, subst, arith, true≢false}
use Rattle.std.specs.Prelude.{IfSome, length, nat_le}
use Rattle.std.specs.List.{AllByRecursion, cons_option, filter_map, flat_map}
use Rattle.std.proofs.lemmas.Option.{none-some}
use Rattle.std.proofs.lemmas.List.Concat.{flat_map-cons}
use lib.Chars.{codes}
use Rattle.at_model.proofs.Everywhere.{all_both, all_map, all_more}
use Rattle.at_text.specs.declared.place.Place.{Place}
use Rattle.at_text.specs.Rows.{Row}
use Rattle.at_jrag.specs.Syntax as syntax
use Rattle.at_jrag.specs.Syntax.{Expr, Kind, KindWord, Param, Body, Ending, DeclForm, Decl, Aspect, to_exprs}
use Rattle.at_jrag.specs.Heads.{is_getter}
use Rattle.at_java.specs.Read.{Read, got, fails, here, at_place}
use Rattle.at_java.specs.Tokens.{sign_here, name}
use Rattle.at_java.specs.Next.{or_fails}
use Rattle.at_java.specs.Items.{Closed, items_until}
use Rattle.at_java.specs.Written.{Statement, statement, to_statements}
use Rattle.at_java.specs.Kinds.{kind, params}
use Rattle.at_java.specs.Expressions.{expression}
use Rattle.at_java.specs.Statements as statements
use Rattle.at_java.specs.Statements.{returned, condition, otherwise, conditional, element, loop, block}
use Rattle.at_java.specs.Rewriting.{Meaning, Means, Open, Refused, rewritten}
use Rattle.at_java.specs.Declarations.{Target, target, laziness, is_boolean, start, circular, Head, head, meant, block_body, body, ending, Declared, accessing, accessing_if, declared_constant, without, computed, synthesized, inherited, own_equation, child_equation, equation, begins_method, method, other_declared, declared, limited, first_declared, behind_modifiers, declaration}
use Rattle.at_java.specs.Outsets.{Outset, outset}
use Rattle.at_java.specs.Making.{Making, making, made_term, made_list}
use Rattle.at_java.specs.Aliases.{Alias, resolved_row}
use Rattle.at_java.specs.Files.{Part, Contents, Declarations, sorted, declarations, named_aspect, aspect, aspects, imports, contents_in, most_aspects, most_declarations}
use Rattle.at_java.specs.declared.JavaCode.TheVariants.{Syntax, LeftOut, Limit, NoValue}
use Rattle.at_typing.proofs.Literals.{AreInts, AreIntsAmong, AreIntsIn}
use Rattle.at_typing.specs.Declaring.{body_at, body_in}
use Rattle.at_typing.specs.Located.{Located, from_aspect, from_file, located}
use Rattle.at_typing.proofs.Starting.{IsBooleanForm, IsBooleanIn}
use Rattle.at_model.specs.Classes.{Classes}
use Rattle.at_start.specs.AspectFiles.{AllGive, AllHold, aspects_in}
use Rattle.at_start.specs.Constants.{Placed}
use Rattle.at_start.specs.Overloading.{Overloads, all_counted, apart_among, aspect_apart, decl_apart, ending_apart, files_apart, form_apart, is_overloaded, told_apart}
use Rattle.at_start.specs.Redeclaring.{Signature, as_equation, aspect_read, files_read, is_declared_above, read_as, read_in, signature_in, signatures}
use Rattle.at_start.specs.Spreading.{Head as Own, ending_if, form_for, is_among, null_form, spread}
use Rattle.at_start.specs.NullCalls.{literal_for, literal_of}
use Rattle.at_start.specs.declared.language.Language.TheVariants.{JastAdd}
use Rattle.at_start.proofs.ApartInts.{apart_ints}
use Rattle.at_start.proofs.SpreadForms.{spread_have}
use Rattle.at_start.proofs.JavaGiven.{Gives, gives_then, gives_behind, gives_map, gives_either, gives_word, gives_sign}
use Rattle.at_start.proofs.JavaNumbers.{expression_ints}
use Rattle.at_start.proofs.JavaMeanings.{HasInts, HaveInts, MeansInts, rewritten_ints}

-- ---- forms one behind the other

module _ {A : Type 0} (P : A → Type 0) (one : Row → Read A) (each : (row : Row) → Gives P (one row)) where
  items_each : (n : ℕ) (row : Row) → Gives (λ (c : Closed A). AllByRecursion P c.items) (items_until one n row)
  unfolding items_until
  items_each zero row = gives_sign (λ (c : Closed A). AllByRecursion P c.items) (codes "}") row _ _ (λ at rest. tt) tt
  items_each (suc n) row =
      gives_sign (λ (c : Closed A). AllByRecursion P c.items) (codes "}") row _ _ (λ at rest. tt)
      (gives_then P (λ (c : Closed A). AllByRecursion P c.items) (one row) _ (each row) (λ a rest is.
      gives_then (λ (c : Closed A). AllByRecursion P c.items) (λ (c : Closed A). AllByRecursion P c.items) (items_until one n rest) _
      (items_each n rest) (λ c left all. (is, all))))

-- ---- statements

have_all : (ss : List Statement) → AllByRecursion HasInts ss → HaveInts (to_statements ss)
have_all [] are = tt
have_all (s ∷ ss) are = (are.0, have_all ss are.1)

returned_ints : (at : Place) (row : Row) → Gives HasInts (returned at row)
returned_ints at row =
    gives_then AreInts HasInts (expression row) _ (expression_ints row) (λ e rest is.
    gives_behind HasInts (sign_here (codes ";") rest) _ (λ end left. is))

condition_ints : (row : Row) → Gives AreInts (condition row)
condition_ints row =
    gives_behind AreInts (sign_here (codes "(") row) _ (λ at inner.
    gives_then AreInts AreInts (expression inner) _ (expression_ints inner) (λ e rest is.
    gives_behind AreInts (sign_here (codes ")") rest) _ (λ close left. is)))

module _ (part : Row → Read Statement) (each : (row : Row) → Gives HasInts (part row)) where
  otherwise_ints : (at : Place) (c : Expr) (s : Statement) (row : Row) → AreInts c → HasInts s → Gives HasInts (otherwise part at c s row)
  otherwise_ints at c s row test first =
      gives_word HasInts (codes "else") row _ _ (λ behind rest.
      gives_then HasInts HasInts (part rest) _ (each rest) (λ t left second. (test, first, second))) (test, first, tt)

  conditional_ints : (at : Place) (row : Row) → Gives HasInts (conditional part at row)
  conditional_ints at row =
      gives_then AreInts HasInts (condition row) _ (condition_ints row) (λ c rest test.
      gives_then HasInts HasInts (part rest) _ (each rest) (λ s behind first. otherwise_ints at c s behind test first))

  loop_ints : (at : Place) (row : Row) → Gives HasInts (loop part at row)
  loop_ints at row =
      gives_behind HasInts (or_fails (at_place LeftOut at) (element row)) _ (λ v inner.
      gives_then AreInts HasInts (expression inner) _ (expression_ints inner) (λ l rest list.
      gives_behind HasInts (sign_here (codes ")") rest) _ (λ close behind.
      gives_then HasInts HasInts (part behind) _ (each behind) (λ s left is. (list, is)))))

abbrev AllInts : Closed Statement → Type 0
AllInts c = AllByRecursion HasInts c.items

statement_ints : (n : ℕ) (row : Row) → Gives HasInts (statements.statement n row)
unfolding statements.statement
statement_ints zero row = tt
statement_ints (suc n) row =
    gives_word HasInts (codes "return") row _ _ returned_ints
    (gives_word HasInts (codes "if") row _ _ (conditional_ints (statements.statement n) (statement_ints n))
    (gives_word HasInts (codes "for") row _ _ (loop_ints (statements.statement n) (statement_ints n))
    (gives_sign HasInts (codes "{") row _ _ (λ at rest.
    gives_then AllInts HasInts (block (statements.statement n) rest) _
    (items_each HasInts (statements.statement n) (statement_ints n) statements.most_statements rest) (λ b left are. have_all b.items are))
    (gives_sign HasInts (codes ";") row _ _ (λ at rest. tt) tt))))

-- ---- bodies

abbrev BodyInts : Body → Type 0
BodyInts b = AreInts b.expr

meant_ints : (at : Place) (m : Meaning) (end : Place) (rest : Row) → MeansInts m → Gives BodyInts (meant at m end rest)
meant_ints at (Means e) end rest is = is
meant_ints at Open end rest is = tt
meant_ints at (Refused code there) end rest is = tt

block_ints : (at : Place) (row : Row) → Gives BodyInts (block_body at row)
block_ints at row =
    gives_then AllInts BodyInts (block (statements.statement statements.max_nesting) row) _
    (items_each HasInts (statements.statement statements.max_nesting) (statement_ints statements.max_nesting) statements.most_statements row)
    (λ b rest are. meant_ints at (rewritten b.end (to_statements b.items)) b.end rest (rewritten_ints b.end (to_statements b.items) (have_all b.items are)))

body_ints : (row : Row) → Gives BodyInts (body row)
body_ints row =
    gives_sign BodyInts (codes "=") row _ _ (λ at inner.
    gives_then AreInts BodyInts (expression inner) _ (expression_ints inner) (λ e rest is.
    gives_behind BodyInts (sign_here (codes ";") rest) _ (λ end left. is)))
    (gives_behind BodyInts (sign_here (codes "{") row) _ block_ints)

abbrev EndingInts : Ending → Type 0
EndingInts e = IfSome (body_at e) BodyInts

ending_ints : (row : Row) → Gives EndingInts (ending row)
ending_ints row =
    gives_sign EndingInts (codes ";") row _ _ (λ at rest. tt)
    (gives_then BodyInts EndingInts (body row) _ (body_ints row) (λ b left is. is))

-- ---- heads

boolean_kind : (k : Kind) → is_boolean k ≡ true → k ≡ syntax.Bool'
boolean_kind syntax.Int is = absurd (true≢false (sym is))
boolean_kind syntax.Bool' is = refl
boolean_kind syntax.Text is = absurd (true≢false (sym is))
boolean_kind (syntax.Class text) is = absurd (true≢false (sym is))

-- with a start it is boolean
abbrev StartFits : Kind → Option Bool → Type 0
StartFits k start = (b : Bool) → start ≡ Some b → k ≡ syntax.Bool'

circular_fits : (k : Kind) (row : Row) → Gives (StartFits k) (circular k row)
circular_fits k row =
    gives_word (StartFits k) (codes "circular") row _ _ (λ at rest.
    gives_either (StartFits k) (is_boolean k) _ _ (λ is.
    gives_behind (StartFits k) (or_fails (at_place LeftOut at) (start rest)) _ (λ b left. λ c same. boolean_kind k is)) tt)
    (λ b none. absurd (none-some b none))

abbrev HeadFits : Head → Type 0
HeadFits h = StartFits h.kind.kind h.start

head_fits : (row : Row) → Gives HeadFits (head row)
head_fits row =
    gives_behind HeadFits (kind row) _ (λ k named.
    gives_behind HeadFits (target named) _ (λ t behind.
    gives_then (StartFits k.kind) HeadFits (circular k.kind behind) _ (circular_fits k.kind behind) (λ s left fits. fits)))

-- ---- declarations

abbrev Fits : DeclForm → Type 0
Fits form = IfSome (body_in form) BodyInts × IsBooleanForm form

abbrev DeclFits : Decl → Type 0
DeclFits d = Fits d.form

-- a kind with a start that fits is boolean
is_boolean_form : (word : KindWord) (start : Option Bool) → StartFits word.kind start → (k : KindWord) (b : Bool) → Some word ≡ Some k
    → start ≡ Some b → k.kind ≡ syntax.Bool'
is_boolean_form word start fits k b same at =
    let e : word ≡ k = cc in
    subst (λ (w : KindWord). w.kind ≡ syntax.Bool') e (fits b at)

no_kind : (start : Option Bool) (k : KindWord) (b : Bool) → None ≡ Some k → start ≡ Some b → k.kind ≡ syntax.Bool'
no_kind start k b same at = absurd (none-some k same)

-- so does what comes of it among the aspects
abbrev BothFit : Declared → Type 0
BothFit d = IfSome d.decl DeclFits

without_fits : (read : Read Decl) → Gives DeclFits read → Gives BothFit (without read)
without_fits read fits = gives_map DeclFits BothFit _ read fits (λ d is. is)

-- what stands for a constant, if anything does, is a call without arguments
accessing_fits : (at : Place) (o : Outset) (m : Making) → IfSome (accessing_if at o m) DeclFits
accessing_fits at o m = by o.is_accessor
  where
    by : (b : Bool) → IfSome (cond b None (Some (accessing at o m))) DeclFits
    by true = tt
    by false = (tt, is_boolean_form _ None (λ c none. absurd (none-some c none)))

constant_fits : (at : Place) (row : Row) → Gives BothFit (declared_constant at row)
constant_fits at row =
    gives_behind BothFit (laziness None row) _ (λ lazy rest.
    gives_behind BothFit (outset rest) _ (λ o behind.
    gives_either BothFit o.is_list _ _ (λ is. gives_behind BothFit (made_list o.name.at behind) _ (λ l left. tt))
    (gives_behind BothFit (making o.name.at behind) _ (λ m inner.
    gives_behind BothFit (made_term m inner) _ (λ t left. accessing_fits at o m)))))

computed_fits : (at : Place) (lazy : Option Place) (row : Row) → Gives DeclFits (computed at lazy row)
computed_fits at lazy row =
    gives_then HeadFits DeclFits (head row) _ (head_fits row) (λ h rest fits.
    gives_then EndingInts DeclFits (ending rest) _ (ending_ints rest) (λ e left is. (is, is_boolean_form h.kind h.start fits)))

synthesized_fits : (at : Place) (row : Row) → Gives BothFit (synthesized at row)
synthesized_fits at row =
    gives_behind BothFit (laziness None row) _ (λ lazy rest.
    gives_word BothFit (codes "nta") rest _ _ (λ nta behind. constant_fits at behind) (without_fits (computed at lazy rest) (computed_fits at lazy rest)))

inherited_fits : (at : Place) (row : Row) → Gives DeclFits (inherited at row)
inherited_fits at row =
    gives_behind DeclFits (laziness None row) _ (λ lazy rest.
    gives_word DeclFits (codes "nta") rest _ _ (λ nta left. tt)
    (gives_then HeadFits DeclFits (head rest) _ (head_fits rest) (λ h behind fits.
    gives_behind DeclFits (sign_here (codes ";") behind) _ (λ end left. (tt, is_boolean_form h.kind h.start fits)))))

own_fits : (at : Place) (t : Target) (row : Row) → Gives DeclFits (own_equation at t row)
own_fits at t row = gives_then BodyInts DeclFits (body row) _ (body_ints row) (λ b left is. (is, no_kind None))

child_fits : (at : Place) (t : Target) (row : Row) → Gives DeclFits (child_equation at t row)
child_fits at t row =
    gives_behind DeclFits (name row) _ (λ w opens.
    gives_behind DeclFits (params w.text opens) _ (λ ps rest.
    gives_then BodyInts DeclFits (body rest) _ (body_ints rest) (λ b left is. (is, no_kind None))))

equation_fits : (at : Place) (row : Row) → Gives DeclFits (equation at row)
equation_fits at row =
    gives_behind DeclFits (target row) _ (λ t rest.
    gives_either DeclFits (is_getter t.params.items) _ _
    (λ _. gives_sign DeclFits (codes ".") rest _ _ (λ dot behind. child_fits at t behind) (own_fits at t rest)) (own_fits at t rest))

method_fits : (row : Row) → Gives DeclFits (method row)
method_fits row =
    gives_behind DeclFits (kind row) _ (λ k rest.
    gives_behind DeclFits (target rest) _ (λ t behind.
    gives_behind DeclFits (sign_here (codes "{") behind) _ (λ at inner.
    gives_then BodyInts DeclFits (block_body at inner) _ (block_ints at inner)
    (λ b left is. (is, is_boolean_form k None (λ c none. absurd (none-some c none)))))))

other_fits : (row : Row) → Gives DeclFits (other_declared row)
other_fits row =
    gives_word DeclFits (codes "inh") row _ _ inherited_fits
    (gives_word DeclFits (codes "eq") row _ _ equation_fits
    (gives_either DeclFits (begins_method row) _ _ (λ _. method_fits row) tt))

declared_fits : (row : Row) → Gives BothFit (declared row)
declared_fits row = gives_word BothFit (codes "syn") row _ _ synthesized_fits (without_fits (other_declared row) (other_fits row))

limited_fits : {A : Type 0} (P : A → Type 0) (at : Place) (read : Read A) → Gives P read → Gives P (limited at read)
limited_fits P at (got a rest) is = is
limited_fits P at (fails (here Syntax row)) is = tt
limited_fits P at (fails (here LeftOut row)) is = tt
limited_fits P at (fails (here Limit row)) is = tt
limited_fits P at (fails (here NoValue row)) is = tt
limited_fits P at (fails (at_place Syntax there)) is = tt
limited_fits P at (fails (at_place LeftOut there)) is = tt
limited_fits P at (fails (at_place Limit there)) is = tt
limited_fits P at (fails (at_place NoValue there)) is = tt

first_fits : (row : Row) → Gives BothFit (first_declared row)
first_fits [] = tt
first_fits (t ∷ ts) = limited_fits BothFit t.at (declared (t ∷ ts)) (declared_fits (t ∷ ts))

declaration_fits : (row : Row) → Gives BothFit (declaration row)
unfolding declaration
declaration_fits row = first_fits (behind_modifiers row)

-- ---- aspects

abbrev AspectFits : Aspect → Type 0
AspectFits a = AllByRecursion DeclFits a.decls

abbrev AllFit : List Aspect → Type 0
AllFit = AllByRecursion AspectFits

abbrev SortedFit : Declarations → Type 0
SortedFit ds = AllByRecursion DeclFits ds.decls

-- what comes of declarations fits
sorted_fit : (ds : List Declared) → AllByRecursion BothFit ds → AllByRecursion DeclFits (filter_map (λ (d : Declared). d.decl) ds)
sorted_fit [] fit = tt
sorted_fit (d ∷ ds) fit = by d.decl fit.0 (sorted_fit ds fit.1)
  where
    by : (o : Option Decl) → IfSome o DeclFits → AllByRecursion DeclFits (filter_map (λ (e : Declared). e.decl) ds)
        → AllByRecursion DeclFits (cons_option o (filter_map (λ (e : Declared). e.decl) ds))
    by None is all = all
    by (Some e) is all = (is, all)

abbrev PartFits : Part → Type 0
PartFits p = AspectFits p.aspect

abbrev ContentsFit : Contents → Type 0
ContentsFit c = AllFit c.aspects

named_fits : (row : Row) → Gives PartFits (named_aspect row)
named_fits row =
    gives_behind PartFits (name row) _ (λ w rest.
    gives_behind PartFits (sign_here (codes "{") rest) _ (λ at inner.
    gives_then SortedFit PartFits (declarations inner) _
    (gives_map (λ (c : Closed Declared). AllByRecursion BothFit c.items) SortedFit sorted (items_until declaration most_declarations inner)
    (items_each BothFit declaration declaration_fits most_declarations inner) (λ c are. sorted_fit c.items are))
    (λ ds left are. are)))

aspects_fit : (n : ℕ) (row : Row) → Gives ContentsFit (aspects n row)
unfolding aspects
aspects_fit n [] = tt
aspects_fit zero (t ∷ ts) = tt
aspects_fit (suc n) (t ∷ ts) =
    gives_then PartFits ContentsFit (aspect (t ∷ ts)) _
    (gives_word PartFits (codes "aspect") (t ∷ ts) _ _ (λ at rest. named_fits rest) tt) (λ p rest is.
    gives_then ContentsFit ContentsFit (aspects n rest) _ (aspects_fit n rest) (λ more left all. (is, all)))

read_fits : (row : Row) (contents : Contents) (rest : Row) → contents_in row ≡ got contents rest → ContentsFit contents
read_fits row contents rest read =
    subst (Gives ContentsFit) read (gives_behind ContentsFit (imports false row) _ (λ u left. aspects_fit most_aspects left))

-- ---- files

abbrev LocatedFits : Located → Type 0
LocatedFits d = Fits d.decl.form

file_fits : (file : ℕ) (as' : List Aspect) → AllFit as' → AllByRecursion LocatedFits (from_file file as')
file_fits file [] fit = tt
file_fits file (a ∷ as') fit =
    subst (AllByRecursion LocatedFits) (sym (flat_map-cons (from_aspect file) a as'))
    (all_both LocatedFits (from_aspect file a) (from_file file as') (all_map LocatedFits _ a.decls fit.0) (file_fits file as' fit.1))

-- ---- what is declared again

-- the equation of a declaration fits
equation_fits_too : (at : Place) (form : DeclForm) → Fits form → AllByRecursion DeclFits (as_equation at form)
equation_fits_too at (syntax.Synthesized lazy kind class name params start (syntax.With body)) fits = ((fits.0, no_kind None), tt)
equation_fits_too at (syntax.Synthesized lazy kind class name params start (syntax.Semicolon end)) fits = tt
equation_fits_too at (syntax.Inherited lazy kind class name params start) fits = tt
equation_fits_too at (syntax.Equation class name params body) fits = tt
equation_fits_too at (syntax.InheritedEquation class getter index name params body) fits = tt

module _ (classes : Classes) (among : List Signature) where
  decl_read_fits : (d : Decl) → DeclFits d → AllByRecursion DeclFits (read_as classes among d)
  decl_read_fits d fits = by (is_declared_above classes among (signature_in classes 0 d.form))
    where
      by : (b : Bool) → AllByRecursion DeclFits (cond b (as_equation d.at d.form) (d ∷ []))
      by true = equation_fits_too d.at d.form fits
      by false = (fits, tt)

  decls_read_fit : (ds : List Decl) → AllByRecursion DeclFits ds → AllByRecursion DeclFits (flat_map (read_as classes among) ds)
  decls_read_fit [] fit = tt
  decls_read_fit (d ∷ ds) fit =
      all_both DeclFits (read_as classes among d) (flat_map (read_as classes among) ds) (decl_read_fits d fit.0) (decls_read_fit ds fit.1)

  aspects_read_fit : (as' : List Aspect) → AllFit as' → AllFit (map (aspect_read classes among) as')
  aspects_read_fit [] fit = tt
  aspects_read_fit (a ∷ as') fit = (decls_read_fit a.decls fit.0, aspects_read_fit as' fit.1)

-- ---- what is told apart

module _ (is : Overloads) where
  ending_apart_ints : (e : Ending) → EndingInts e → EndingInts (ending_apart is e)
  ending_apart_ints (syntax.With b) are = apart_ints is b.expr are
  ending_apart_ints (syntax.Semicolon at) are = tt

  form_apart_fits : (form : DeclForm) → Fits form → Fits (form_apart is form)
  form_apart_fits (syntax.Synthesized lazy kind class name params start ending) fits = (ending_apart_ints ending fits.0, fits.1)
  form_apart_fits (syntax.Inherited lazy kind class name params start) fits = fits
  form_apart_fits (syntax.Equation class name params body) fits = (apart_ints is body.expr fits.0, fits.1)
  form_apart_fits (syntax.InheritedEquation class getter index name params body) fits = (apart_ints is body.expr fits.0, fits.1)

  decls_apart_fit : (ds : List Decl) → AllByRecursion DeclFits ds → AllByRecursion DeclFits (map (decl_apart is) ds)
  decls_apart_fit [] fit = tt
  decls_apart_fit (d ∷ ds) fit = (form_apart_fits d.form fit.0, decls_apart_fit ds fit.1)

  aspects_apart_fit : (as' : List Aspect) → AllFit as' → AllFit (map (aspect_apart is) as')
  aspects_apart_fit [] fit = tt
  aspects_apart_fit (a ∷ as') fit = (decls_apart_fit a.decls fit.0, aspects_apart_fit as' fit.1)

  files_apart_fit : (files : List (List Aspect)) → AllByRecursion AllFit files → AllByRecursion AllFit (files_apart is files)
  files_apart_fit [] fit = tt
  files_apart_fit (f ∷ fs) fit = (aspects_apart_fit f fit.0, files_apart_fit fs fit.1)

told_apart_fit : (classes : Classes) (files : List (List Aspect)) → AllByRecursion AllFit files → AllByRecursion AllFit (told_apart classes files)
told_apart_fit classes files fit = by (nat_le (length (all_counted files)) 2000)
  where
    by : (b : Bool) → AllByRecursion AllFit (cond b (apart_among classes (all_counted files) files) files)
    by true = files_apart_fit (is_overloaded classes (all_counted files)) files fit
    by false = fit

-- ---- what is declared for ASTNode

ending_fits : (has_own : Bool) (e : Ending) → EndingInts e → EndingInts (ending_if has_own e)
ending_fits true (syntax.With b) is = tt
ending_fits true (syntax.Semicolon at) is = tt
ending_fits false e is = is

form_for_fits : (hs : List Own) (class : List ℕ) (form : DeclForm) → Fits form → IfSome (form_for hs class form) Fits
form_for_fits hs class (syntax.Synthesized lazy kind of name params start ending) fits =
    (ending_fits (is_among hs class name.text) ending fits.0, fits.1)
form_for_fits hs class (syntax.Inherited lazy kind of name params start) fits = fits
form_for_fits hs class (syntax.Equation of name params body) fits = tt
form_for_fits hs class (syntax.InheritedEquation of getter index name params body) fits = tt

-- ---- what the start class declares

literal_ints : (k : Kind) (at : Place) → AreInts (literal_of k at)
literal_ints syntax.Int at = omega arith
literal_ints syntax.Bool' at = tt
literal_ints syntax.Text at = tt
literal_ints (syntax.Class name) at = tt

literals_ints : (ps : List Param) → AreIntsAmong (to_exprs (map literal_for ps))
literals_ints [] = tt
literals_ints (p ∷ ps) = (literal_ints p.kind.kind p.name.at, literals_ints ps)

null_form_fits : (root : List ℕ) (form : DeclForm) → Fits form → IfSome (null_form root form) Fits
null_form_fits root (syntax.Synthesized lazy kind of name params start ending) fits = tt
null_form_fits root (syntax.Inherited lazy kind of name params start) fits =
    ((tt, literals_ints params.items), is_boolean_form kind None (λ b none. absurd (none-some b none)))
null_form_fits root (syntax.Equation of name params body) fits = tt
null_form_fits root (syntax.InheritedEquation of getter index name params body) fits = tt

-- ---- all files

module _ (classes : Classes) (among : List Signature) where
  located_fit : (n : ℕ) (aspects : List (List Aspect)) → AllByRecursion AllFit aspects
      → AllByRecursion LocatedFits (located n (files_read classes among aspects))
  located_fit n [] fit = tt
  located_fit n (a ∷ as') fit =
      let read = map (aspect_read classes among) a in
      all_both LocatedFits (from_file n read) (located (n + 1) (files_read classes among as'))
      (file_fits n read (aspects_read_fit classes among a fit.0)) (located_fit (n + 1) as' fit.1)

module _ (names : List Alias) where
  hold_fit : (files : List (List ℕ)) (contents : List Contents) → AllHold JastAdd names files contents
      → AllByRecursion AllFit (aspects_in contents)
  hold_fit [] [] hold = tt
  hold_fit [] (a ∷ as') hold = absurd hold
  hold_fit (f ∷ fs) [] hold = absurd hold
  hold_fit (f ∷ fs) (a ∷ as') hold =
      (read_fits (resolved_row names hold.0.written.tokens) a [] hold.0.written.is, hold_fit fs as' hold.1)

  module _ (classes : Classes) (files : List (List ℕ)) (aspects : List (List Aspect)) (constants : List Placed)
      (give : AllGive JastAdd names files aspects constants) where
    aspects_fit_all : AllByRecursion AllFit aspects
    aspects_fit_all = subst (AllByRecursion AllFit) (sym give.aspects_are) (hold_fit files give.contents give.hold)

    read_fit : AllByRecursion LocatedFits (located 1 (read_in JastAdd classes aspects))
    read_fit =
        let apart = told_apart classes aspects in
        let all = spread classes apart in
        located_fit classes (signatures classes all) 1 all
        (spread_have Fits form_for_fits null_form_fits classes apart (told_apart_fit classes aspects aspects_fit_all))

    pub hold_ints : AllByRecursion AreIntsIn (located 1 (read_in JastAdd classes aspects))
    hold_ints = all_more LocatedFits AreIntsIn (located 1 (read_in JastAdd classes aspects)) (λ d fits. fits.0) read_fit

    pub hold_booleans : AllByRecursion IsBooleanIn (located 1 (read_in JastAdd classes aspects))
    hold_booleans = all_more LocatedFits IsBooleanIn (located 1 (read_in JastAdd classes aspects)) (λ d fits. fits.1) read_fit
