-- Circular attributes that are spelled are boolean; and where their form isn't read there are none.
use Rattle.std.proofs.Common.{◌≡◌, ℕ, Bool, true, false, List, Option, Some, None, refl, sym, ◌∙◌, subst, true≢false}
use Rattle.std.specs.List.{AllByRecursion}
use Rattle.std.proofs.lemmas.Option.{none-some}
use Rattle.at_text.specs.Rows.{Row}
use Rattle.at_jrag.specs.Syntax.{Kind, Int, Bool', Text, Class, KindWord, DeclForm, Synthesized, Inherited, Equation, InheritedEquation, Aspect}
use Rattle.at_jrag.specs.declared.Forms.{Forms}
use Rattle.at_jrag.specs.Grammar.{may_be_circular, Circular, Behind, File}
use Rattle.at_typing.specs.Declaring.{result_in, start_in, IsNotCircular}
use Rattle.at_typing.specs.Located.{Located, IsSpelled, from_file, located}
use Rattle.at_typing.proofs.Spelled.{file_each, located_each}

-- where there is a start, the attribute may be circular
may_stand : (may : Bool) (start : Option Bool) (old rest : Row) → Circular may start old rest → (b : Bool)
    → start ≡ Some b → may ≡ true
may_stand may None old rest is b at = absurd (none-some b at)
may_stand may (Some c) old rest is b at = is.0

-- with a start it is boolean
abbrev pub IsBoolean : Option KindWord → Option Bool → Type 0
IsBoolean result start = (k : KindWord) (b : Bool) → result ≡ Some k → start ≡ Some b → k.kind ≡ Bool'

abbrev pub IsBooleanForm : DeclForm → Type 0
IsBooleanForm form = IsBoolean (result_in form) (start_in form)

abbrev pub IsBooleanIn : Located → Type 0
IsBooleanIn d = IsBooleanForm d.decl.form

boolean_kind : (forms : Forms) (k : Kind) → may_be_circular forms k ≡ true → k ≡ Bool'
boolean_kind forms Int is = absurd (true≢false (sym is))
boolean_kind forms Bool' is = refl
boolean_kind forms Text is = absurd (true≢false (sym is))
boolean_kind forms (Class name) is = absurd (true≢false (sym is))

boolean : (forms : Forms) (word : KindWord) (start : Option Bool) (old rest : Row)
    → Circular (may_be_circular forms word.kind) start old rest
    → IsBoolean (Some word) start
boolean forms word start old rest is = λ k b same at.
    let e : word ≡ k = cc in
    subst (λ (w : KindWord). w.kind ≡ Bool') e
    (boolean_kind forms word.kind (may_stand (may_be_circular forms word.kind) start old rest is b at))

form_boolean : (forms : Forms) (form : DeclForm) (old rest : Row) → Behind forms form old rest → IsBooleanForm form
form_boolean forms (Synthesized lazy word class name ps start ending) old rest
    (end, (kinds, is_lazy, (owner, called, behind, kind, owns, signed, is)), ended) =
    boolean forms word start behind end is
form_boolean forms (Inherited lazy word class name ps start) old rest
    (end, (kinds, is_lazy, (owner, called, behind, kind, owns, signed, is)), ended) =
    boolean forms word start behind end is
form_boolean forms (Equation class name ps body) old rest is = λ k b same at. absurd (none-some k same)
form_boolean forms (InheritedEquation class getter index name ps body) old rest is =
    λ k b same at. absurd (none-some k same)

pub located_booleans : (file : ℕ) (files : List (List Aspect)) → AllByRecursion IsSpelled files
    → AllByRecursion IsBooleanIn (located file files)
located_booleans = located_each IsBooleanForm form_boolean

-- with no form of its own that is read, no attribute has a start
no_start : (forms : Forms) → forms.circular ≡ false → (k : Kind) (start : Option Bool) (old rest : Row)
    → Circular (may_be_circular forms k) start old rest
    → start ≡ None
no_start forms off k None old rest is = refl
no_start forms off k (Some b) old rest is = absurd (true≢false (sym is.0 ∙ by k))
  where
    by : (k : Kind) → may_be_circular forms k ≡ false
    by Int = refl
    by Bool' = off
    by Text = refl
    by (Class name) = refl

abbrev HasNoStart : DeclForm → Type 0
HasNoStart form = start_in form ≡ None

form_plain : (forms : Forms) → forms.circular ≡ false → (form : DeclForm) (old rest : Row) → Behind forms form old rest
    → HasNoStart form
form_plain forms off (Synthesized lazy word class name ps start ending) old rest
    (end, (kinds, is_lazy, (owner, called, behind, kind, owns, signed, is)), ended) =
    no_start forms off word.kind start behind end is
form_plain forms off (Inherited lazy word class name ps start) old rest
    (end, (kinds, is_lazy, (owner, called, behind, kind, owns, signed, is)), ended) =
    no_start forms off word.kind start behind end is
form_plain forms off (Equation class name ps body) old rest is = refl
form_plain forms off (InheritedEquation class getter index name ps body) old rest is = refl

pub file_plain : (forms : Forms) → forms.circular ≡ false → (file : ℕ) (as' : List Aspect) (old rest : Row)
    → File forms as' old rest
    → AllByRecursion IsNotCircular (from_file file as')
file_plain forms off file as' old rest is = file_each HasNoStart forms (form_plain forms off) file as' old rest is
