-- Inherited attributes of one name have the same kinds, where none is declared twice.
use Rattle.std.proofs.Common.{◌≡◌, ℕ, zero, suc, ◌<◌, ◌⊎◌, inl, inr, Bool, true, false, ◌&&◌, ◌||◌, not, List, [], ◌∷◌, take, Option, Some, None, refl, sym, ap, ap₂, ◌∙◌, subst, true≢false, arith}
use Rattle.std.specs.Prelude.{cond, is_some}
use Rattle.std.specs.List.{slice_get, list_any, AllZip, filter}
use Rattle.std.specs.Str.{bytes_eq}
use Rattle.std.proofs.lemmas.Bool.{cases_order}
use Rattle.std.proofs.lemmas.Option.{none-some, slice_get_within, get_or_from_slice_get}
use Rattle.std.proofs.lemmas.Slice.Eq.{bytes_eq-Decides}
use Rattle.std.proofs.lemmas.Cmp.{nat_list_eq_equiv}
use Rattle.at_model.specs.Classes.{Classes}
use Rattle.at_model.specs.Rules.{Rules, Attribute}
use Rattle.at_model.specs.Kinds.{AreInheritedAlike}
use Rattle.at_model.specs.Rules as model
use Rattle.at_model.proofs.Options.{both}
use Rattle.at_jrag.specs.Syntax.{KindWord, Param, DeclForm}
use Rattle.at_jrag.specs.Syntax as written
use Rattle.at_kinds.specs.declared.arguments.Arguments.{Arguments}
use Rattle.at_kinds.specs.declared.arguments.Arguments.TheVariants.{Given, Computed}
use Rattle.at_typing.specs.Declaring.{attributes, is_attribute, is_inherited, result_in, params_in, name_text, class_text, is_same_kind, have_same_kinds, has_same_result, has_same_signature, has_same_start, differs, disagrees, is_compared, is_on_one_line, clashes, declared_twice}
use Rattle.at_typing.specs.Located.{Located}
use Rattle.at_typing.specs.Ruling.{first_unless, known_kind, as_written, written_kind}
use Rattle.at_kinds.specs.declared.signatures.WrittenKind.{WrittenKind}
use Rattle.at_kinds.specs.declared.signatures.WrittenKind.TheVariants.{Known, Strange}
use Rattle.at_typing.proofs.Gathering.{no_clash}
use Rattle.at_kinds.proofs.KindsKnown.{IsKind, beside_that}
use Rattle.at_typing.proofs.of_attributes.KindsDeclared.{Declares, written_kinds}

-- kinds that are written the same ---------------------------------------------------------------------------------------

same_known : (classes : Classes) (v w : written.Kind) → is_same_kind v w ≡ true → known_kind classes v ≡ known_kind classes w
same_known classes written.Int written.Int is = refl
same_known classes written.Bool' written.Bool' is = refl
same_known classes written.Text written.Text is = refl
same_known classes (written.Class v) (written.Class w) is = ap (λ name. known_kind classes (written.Class name)) ((bytes_eq-Decides v w).0 is)
same_known classes v w is = absurd (true≢false (sym is))

same_written : (classes : Classes) (v w : KindWord) → is_same_kind v.kind w.kind ≡ true → written_kind classes [] v.kind ≡ written_kind classes [] w.kind
same_written classes v w is = ap₂ as_written (none_first (is_some (known_kind classes v.kind)) v.kind
    ∙ sym (none_first (is_some (known_kind classes w.kind)) w.kind)) (same_known classes v.kind w.kind is)
  where
    none_first : (b : Bool) (k : written.Kind) → first_unless b [] k ≡ None
    none_first true k = refl
    none_first false written.Int = refl
    none_first false written.Bool' = refl
    none_first false written.Text = refl
    none_first false (written.Class name) = refl

same_parameters : (classes : Classes) (ps qs : List Param) → have_same_kinds ps qs ≡ true → written_kinds classes [] ps ≡ written_kinds classes [] qs
same_parameters classes [] [] is = refl
same_parameters classes [] (q ∷ qs) is = absurd (true≢false (sym is))
same_parameters classes (p ∷ ps) [] is = absurd (true≢false (sym is))
same_parameters classes (p ∷ ps) (q ∷ qs) is =
    let (first, rest) = both (is_same_kind p.kind.kind q.kind.kind) (have_same_kinds ps qs) is in
    ap₂ (λ k ks. k ∷ ks) (same_written classes p.kind q.kind first) (same_parameters classes ps qs rest)

same_result : (classes : Classes) (o p : Option KindWord) (r s : KindWord) → o ≡ Some r → p ≡ Some s → has_same_result o p ≡ true → written_kind classes [] r.kind ≡ written_kind classes [] s.kind
same_result classes (Some v) (Some w) r s is at same =
    let e : v ≡ r = cc in
    let f : w ≡ s = cc in
    ap (λ (x : KindWord). written_kind classes [] x.kind) (sym e) ∙ same_written classes v w same ∙ ap (λ (x : KindWord). written_kind classes [] x.kind) f
same_result classes None p r s is at same = absurd (none-some r is)
same_result classes (Some v) None r s is at same = absurd (none-some s at)

-- one kind alone is known of each
one_kind : (w : WrittenKind) (k l : model.Kind) → IsKind w k → IsKind w l → k ≡ l
one_kind (Known j) k l is at = sym is ∙ at
one_kind (Strange first) k l is at = absurd is

one_each : (ws : List WrittenKind) (ks ls : List model.Kind) → AllZip IsKind ws ks → AllZip IsKind ws ls → ks ≡ ls
one_each [] [] [] is at = refl
one_each [] [] (l ∷ ls) is at = absurd at
one_each [] (k ∷ ks) ls is at = absurd is
one_each (w ∷ ws) [] ls is at = absurd is
one_each (w ∷ ws) (k ∷ ks) [] is at = absurd at
one_each (w ∷ ws) (k ∷ ks) (l ∷ ls) is at = ap₂ (λ x xs. x ∷ xs) (one_kind w k l is.0 at.0) (one_each ws ks ls is.1 at.1)

-- declarations ----------------------------------------------------------------------------------------------------------

-- the same kinds are written
pub record AreWrittenAlike (classes : Classes) (d e : Located) : Type 0 where
  pub parameters : written_kinds classes [] (params_in d.decl.form).items ≡ written_kinds classes [] (params_in e.decl.form).items
  pub result : (r s : KindWord) → result_in d.decl.form ≡ Some r → result_in e.decl.form ≡ Some s → written_kind classes [] r.kind ≡ written_kind classes [] s.kind

turned : (classes : Classes) (d e : Located) → AreWrittenAlike classes d e → AreWrittenAlike classes e d
turned classes d e alike = record { parameters = sym alike.parameters; result = λ r s is at. sym (alike.result s r at is) }

alike_itself : (classes : Classes) (d e : Located) → d ≡ e → AreWrittenAlike classes d e
alike_itself classes d e same = subst (AreWrittenAlike classes d) same
    (record {
      parameters = refl;
      result = λ r s is at. let f : r ≡ s = let g : Some r ≡ Some s = sym is ∙ at in cc in
          ap (λ (x : KindWord). written_kind classes [] x.kind) f;
    })

off_left : (a b : Bool) → (a || b) ≡ false → a ≡ false
off_left false b is = refl
off_left true b is = absurd (true≢false is)

off_right : (a b : Bool) → (a || b) ≡ false → b ≡ false
off_right false b is = is
off_right true b is = absurd (true≢false is)

-- with the same kinds and the same start
abbrev are_alike : Located → Located → Bool
are_alike d e = has_same_signature d.decl.form e.decl.form && has_same_start d.decl.form e.decl.form

-- inherited ones are compared, in whatever language
inherited_compared : (allowed : Arguments) (form : DeclForm) → is_inherited form ≡ true → is_compared allowed form ≡ true
inherited_compared Given form is = refl
inherited_compared Computed form is = is

none_differ : (a b x : Bool) → a ≡ true → b ≡ true → ((a && b) && x) ≡ false → x ≡ false
none_differ true true x is also off = off
none_differ true false x is also off = absurd (true≢false (sym also))
none_differ false b x is also off = absurd (true≢false (sym is))

-- two that don't clash
no_clash_alike : (allowed : Arguments) (classes : Classes) (d e : Located) → is_attribute e.decl.form ≡ true → is_inherited d.decl.form ≡ true
    → is_inherited e.decl.form ≡ true → bytes_eq (name_text d) (name_text e) ≡ true → clashes allowed classes d e ≡ false → AreWrittenAlike classes d e
no_clash_alike allowed classes d e declares inherits also name none =
    of_signature (signature_same (is_inherited d.decl.form) inherits
    (none_differ (is_compared allowed d.decl.form) (is_compared allowed e.decl.form) (differs d.decl.form e.decl.form)
    (inherited_compared allowed d.decl.form inherits) (inherited_compared allowed e.decl.form also)
    (off_left (disagrees allowed d.decl.form e.decl.form) _ (by (is_attribute e.decl.form) declares (bytes_eq (name_text d) (name_text e)) name none))))
  where
    by : (a : Bool) → a ≡ true → (b : Bool) → b ≡ true
        → ((a && b) && (disagrees allowed d.decl.form e.decl.form || is_on_one_line classes (class_text d) (class_text e)))
        ≡ false → (disagrees allowed d.decl.form e.decl.form || is_on_one_line classes (class_text d) (class_text e)) ≡ false
    by true is true at off = off
    by true is false at off = absurd (true≢false (sym at))
    by false is b at off = absurd (true≢false (sym is))

    signature_same : (i : Bool) → i ≡ true
        → cond i (not (is_inherited e.decl.form && are_alike d e)) (is_inherited e.decl.form) ≡ false
        → has_same_signature d.decl.form e.decl.form ≡ true
    signature_same true is off =
        (both (has_same_signature d.decl.form e.decl.form) (has_same_start d.decl.form e.decl.form)
        (second (is_inherited e.decl.form) (are_alike d e) off)).0
      where
        second : (a b : Bool) → not (a && b) ≡ false → b ≡ true
        second true true off = refl
        second true false off = absurd (true≢false off)
        second false b off = absurd (true≢false off)
    signature_same false is off = absurd (true≢false (sym is))

    of_signature : has_same_signature d.decl.form e.decl.form ≡ true → AreWrittenAlike classes d e
    of_signature is =
        let (results, parameters) = both (has_same_result (result_in d.decl.form) (result_in e.decl.form)) (have_same_kinds (params_in d.decl.form).items (params_in e.decl.form).items) is in
        record {
          parameters = same_parameters classes (params_in d.decl.form).items (params_in e.decl.form).items parameters;
          result = λ r s at there. same_result classes (result_in d.decl.form) (result_in e.decl.form) r s at there results;
        }

-- what none of them passes, one of them doesn't pass
pub none_passes : {A : Type 0} (p : A → Bool) (xs : List A) (i k : ℕ) (x : A) → i < k → slice_get xs i ≡ Some x → list_any p (take k xs) ≡ false → p x ≡ false
none_passes p [] i k x less is none = absurd (none-some x is)
none_passes p (y ∷ ys) i zero x less is none = absurd (omega (arith, less))
none_passes p (y ∷ ys) zero (suc k) x less is none = let e : y ≡ x = cc in ap p (sym e) ∙ off_left (p y) _ none
none_passes p (y ∷ ys) (suc i) (suc k) x less is none = none_passes p ys i k x (omega (arith, less)) is (off_right (p y) _ none)

-- where those stand that pass a test
place_of : {A : Type 0} (p : A → Bool) (xs : List A) (n : ℕ) (x : A) → slice_get (filter p xs) n ≡ Some x → (i : ℕ) × (slice_get xs i ≡ Some x) × (p x ≡ true)
place_of p [] n x is = absurd (none-some x is)
place_of p (y ∷ ys) n x is = by (p y) refl n is (place_of p ys)
  where
    by : (b : Bool) → p y ≡ b → (n : ℕ) → slice_get (cond b (y ∷ filter p ys) (filter p ys)) n ≡ Some x
        → ((n : ℕ) (x : _) → slice_get (filter p ys) n ≡ Some x → (i : ℕ) × (slice_get ys i ≡ Some x) × (p x ≡ true))
        → (i : ℕ) × (slice_get (y ∷ ys) i ≡ Some x) × (p x ≡ true)
    by true passes zero is rest = let e : y ≡ x = cc in (0, is, ap p (sym e) ∙ passes)
    by true passes (suc n) is rest = let (i, at, too) = rest n x is in (suc i, at, too)
    by false passes n is rest = let (i, at, too) = rest n x is in (suc i, at, too)

module _ (allowed : Arguments) (classes : Classes) (ds : List Located) (none : declared_twice allowed classes ds ≡ None) where
  -- a later one and an earlier one
  later_alike : (i j : ℕ) (d e : Located) → i < j → slice_get ds i ≡ Some e → slice_get ds j ≡ Some d
      → is_attribute d.decl.form ≡ true → is_attribute e.decl.form ≡ true → is_inherited d.decl.form ≡ true
      → is_inherited e.decl.form ≡ true → bytes_eq (name_text d) (name_text e) ≡ true → AreWrittenAlike classes d e
  later_alike i j d e less at there declares too inherits also name =
      no_clash_alike allowed classes d e too inherits also name (none_passes (clashes allowed classes d) ds i j e less at (no_clash allowed classes
      ds j d (slice_get_within ds j d there) (sym (get_or_from_slice_get ds j d d there)) none declares))

  turned_name : (v w : List ℕ) → bytes_eq v w ≡ true → bytes_eq w v ≡ true
  turned_name v w is = nat_list_eq_equiv.symm w v ∙ is

  pub any_alike : (i j : ℕ) (d e : Located) → slice_get ds i ≡ Some d → slice_get ds j ≡ Some e
      → is_attribute d.decl.form ≡ true → is_attribute e.decl.form ≡ true → is_inherited d.decl.form ≡ true
      → is_inherited e.decl.form ≡ true → bytes_eq (name_text d) (name_text e) ≡ true → AreWrittenAlike classes d e
  any_alike i j d e at there declares too inherits also name = by (cases_order i j)
    where
      same : Some d ≡ Some e → AreWrittenAlike classes d e
      same is = let f : d ≡ e = cc in alike_itself classes d e f

      by : (i ≡ j) ⊎ ((i < j) ⊎ (j < i)) → AreWrittenAlike classes d e
      by (inl is) = same (sym at ∙ ap (slice_get ds) is ∙ there)
      by (inr (inl less)) = turned classes e d (later_alike i j e d less at there too declares also inherits (turned_name (name_text d) (name_text e) name))
      by (inr (inr more)) = later_alike j i d e more there at declares too inherits also name

-- inherited attributes of one name have the same parameters and the same result
pub inherited_alike : (allowed : Arguments) (rules : Rules) (ds : List Located) → declared_twice allowed rules.classes ds ≡ None → AllZip (Declares rules.classes) (attributes ds) rules.attributes → AreInheritedAlike rules
inherited_alike allowed rules ds none zip = λ j k a b at there inherits also name.
    let (d, d_at, (r, r_is, d_of)) = beside_that (Declares rules.classes) (attributes ds) rules.attributes j a zip at in
    let (e, e_at, (s, s_is, e_of)) = beside_that (Declares rules.classes) (attributes ds) rules.attributes k b zip there in
    let (m, d_there, d_declares) = place_of (λ (x : Located). is_attribute x.decl.form) ds j d d_at in
    let (n, e_there, e_declares) = place_of (λ (x : Located). is_attribute x.decl.form) ds k e e_at in
    let alike = any_alike allowed rules.classes ds none m n d e d_there e_there d_declares e_declares (d_of.inherits ∙ inherits) (e_of.inherits ∙ also) (ap₂ bytes_eq d_of.same_name e_of.same_name ∙ name) in (
      one_each (written_kinds rules.classes [] (params_in d.decl.form).items) a.parameters
          b.parameters (d_of.declared []).parameters
          (subst (λ ws. AllZip IsKind ws b.parameters) (sym alike.parameters) (e_of.declared []).parameters),
      one_kind (written_kind rules.classes [] r.kind) a.result b.result (d_of.declared []).result (subst (λ w. IsKind w b.result) (sym (alike.result r s r_is s_is)) (e_of.declared []).result),
    )
