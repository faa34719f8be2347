-- No tokens spell two grammars.
use Rattle.std.proofs.Common.{◌≡◌, ℕ, List, [], ◌∷◌, ◌++◌, true, false, Option, Some, None, length, refl, sym, ap, subst, ◌∙◌, append_assoc, length-append, arith}
use Rattle.std.specs.List.{flat_map}
use lib.Chars.{codes}
use Rattle.at_model.specs.Names.{is_name}
use Rattle.at_text.specs.Reading.{first}
use Rattle.at_text.specs.Symbols.{Symbol, word, sign, is_sign}
use Rattle.at_text.specs.declared.place.Place.{Place}
use Rattle.at_grammar.specs.Grammar as grammar
use Rattle.at_grammar.specs.Grammar.{Word, Typed, IsName, IsDeclaration, IsFile, Declaration}
use Rattle.at_grammar.proofs.Accepts.{Follows, follows_parts, no_end, no_colon, abstract_is_no_name}

-- one begins with this sign and the other doesn't
apart : (text : List ℕ) (x y : List Symbol) → x ≡ y → is_sign text (first x) ≡ false → is_sign text (first y) ≡ true → ⊥
apart text x y e f t = absurd (let h : true ≡ false = sym t ∙ sym (ap (λ l. is_sign text (first l)) e) ∙ f in cc)

word_unique : (v w : Word) → grammar.name v ≡ grammar.name w → v ≡ w
word_unique v w e =
    let text : v.text ≡ w.text = ap (λ (s : Symbol). s.text) e in
    let some : Some v.at ≡ Some w.at = ap (λ (s : Symbol). s.at) e in
    let at : v.at ≡ w.at = cc in
    λ i. record { text = text i; at = at i }

head_is : (s t : Symbol) (x y : List Symbol) → s ∷ x ≡ t ∷ y → s ≡ t
head_is s t x y e = cc

tail_is : (s t : Symbol) (x y : List Symbol) → s ∷ x ≡ t ∷ y → x ≡ y
tail_is s t x y e = cc

kind_unique : (j k : Option Word) (x y : List Symbol) → is_sign (codes ":") (first x) ≡ false → is_sign (codes ":") (first y) ≡ false → grammar.kind j ++ x ≡ grammar.kind k ++ y → (j ≡ k) × (x ≡ y)
kind_unique None None x y f g e = (refl, e)
kind_unique None (Some k) x y f g e = absurd (apart (codes ":") x _ e f refl)
kind_unique (Some j) None x y f g e = absurd (apart (codes ":") y _ (sym e) g refl)
kind_unique (Some j) (Some k) x y f g e =
    let t = tail_is _ _ _ _ e in
    (ap (λ (w : Word). Some w) (word_unique j k (head_is _ _ _ _ t)), tail_is _ _ _ _ t)

typed_unique : (s t : Typed) (x y : List Symbol) → is_sign (codes ":") (first x) ≡ false → is_sign (codes ":") (first y) ≡ false → grammar.typed s ++ x ≡ grammar.typed t ++ y → (s ≡ t) × (x ≡ y)
typed_unique s t x y f g e =
    let name = word_unique s.name t.name (head_is _ _ _ _ e) in
    let k = kind_unique s.kind t.kind x y f g (tail_is _ _ _ _ e) in
    ((λ i. record { name = name i; kind = k.0 i }), k.1)

closed_unique : (s t : Typed) (mark : List ℕ) (x y : List Symbol) → is_sign (codes ":") (Some (sign mark)) ≡ false
    → (grammar.typed s ++ sign mark ∷ []) ++ x ≡ (grammar.typed t ++ sign mark ∷ []) ++ y → (s ≡ t) × (x ≡ y)
closed_unique s t mark x y f e =
    let k = typed_unique s t (sign mark ∷ x) (sign mark ∷ y) f f (sym (append_assoc (grammar.typed s) (sign mark ∷ []) x) ∙ e ∙ append_assoc (grammar.typed t) (sign mark ∷ []) y) in
    (k.0, tail_is _ _ _ _ k.1)

star_behind : (s t : Typed) (x y : List Symbol) → Follows x → grammar.typed s ++ x ≡ (grammar.typed t ++ sign (codes "*") ∷ []) ++ y → ⊥
star_behind s t x y f e =
    let k = typed_unique s t x (sign (codes "*") ∷ y) f.0 refl (e ∙ append_assoc (grammar.typed t) (sign (codes "*") ∷ []) y) in
    apart (codes "*") x (sign (codes "*") ∷ y) k.1 f.1 refl

part_unique : (p q : grammar.Part) (x y : List Symbol) → Follows x → Follows y → grammar.part p ++ x ≡ grammar.part q ++ y → (p ≡ q) × (x ≡ y)
part_unique (grammar.Child s) (grammar.Child t) x y f g e = let k = typed_unique s t x y f.0 g.0 e in (ap (λ (u : Typed). grammar.Child u) k.0, k.1)
part_unique (grammar.Child s) (grammar.Children t) x y f g e = absurd (star_behind s t x y f e)
part_unique (grammar.Child s) (grammar.Optional t) x y f g e = absurd (apart (codes "[") _ _ e refl refl)
part_unique (grammar.Child s) (grammar.Token t) x y f g e = absurd (apart (codes "<") _ _ e refl refl)
part_unique (grammar.Children s) (grammar.Child t) x y f g e = absurd (star_behind t s y x g (sym e))
part_unique (grammar.Children s) (grammar.Children t) x y f g e = let k = closed_unique s t (codes "*") x y refl e in (ap (λ (u : Typed). grammar.Children u) k.0, k.1)
part_unique (grammar.Children s) (grammar.Optional t) x y f g e = absurd (apart (codes "[") _ _ e refl refl)
part_unique (grammar.Children s) (grammar.Token t) x y f g e = absurd (apart (codes "<") _ _ e refl refl)
part_unique (grammar.Optional s) (grammar.Child t) x y f g e = absurd (apart (codes "[") _ _ (sym e) refl refl)
part_unique (grammar.Optional s) (grammar.Children t) x y f g e = absurd (apart (codes "[") _ _ (sym e) refl refl)
part_unique (grammar.Optional s) (grammar.Optional t) x y f g e = let k = closed_unique s t (codes "]") x y refl (tail_is _ _ _ _ e) in (ap (λ (u : Typed). grammar.Optional u) k.0, k.1)
part_unique (grammar.Optional s) (grammar.Token t) x y f g e = absurd (apart (codes "<") _ _ e refl refl)
part_unique (grammar.Token s) (grammar.Child t) x y f g e = absurd (apart (codes "<") _ _ (sym e) refl refl)
part_unique (grammar.Token s) (grammar.Children t) x y f g e = absurd (apart (codes "<") _ _ (sym e) refl refl)
part_unique (grammar.Token s) (grammar.Optional t) x y f g e = absurd (apart (codes "<") _ _ (sym e) refl refl)
part_unique (grammar.Token s) (grammar.Token t) x y f g e = let k = closed_unique s t (codes ">") x y refl (tail_is _ _ _ _ e) in (ap (λ (u : Typed). grammar.Token u) k.0, k.1)

behind_parts : (ps : List grammar.Part) (x : List Symbol) → Follows (grammar.parts ps ++ x)
behind_parts ps x = subst (λ (l : List Symbol). Follows l) (sym (append_assoc (flat_map grammar.part ps) (sign (codes ";") ∷ []) x)) (follows_parts ps (sign (codes ";") ∷ x) (refl, refl))

first_part : (p : grammar.Part) (ps : List grammar.Part) (x : List Symbol) → grammar.parts (p ∷ ps) ++ x ≡ grammar.part p ++ (grammar.parts ps ++ x)
first_part p ps x = simp append_assoc

parts_unique : (ps qs : List grammar.Part) (x y : List Symbol) → grammar.parts ps ++ x ≡ grammar.parts qs ++ y → (ps ≡ qs) × (x ≡ y)
parts_unique [] [] x y e = (refl, tail_is _ _ _ _ e)
parts_unique [] (q ∷ qs) x y e = absurd (apart (codes ";") (grammar.part q ++ (grammar.parts qs ++ y)) (sign (codes ";") ∷ x) (sym (first_part q qs y) ∙ sym e) (no_end q _).0 refl)
parts_unique (p ∷ ps) [] x y e = absurd (apart (codes ";") (grammar.part p ++ (grammar.parts ps ++ x)) (sign (codes ";") ∷ y) (sym (first_part p ps x) ∙ e) (no_end p _).0 refl)
parts_unique (p ∷ ps) (q ∷ qs) x y e =
    let one = part_unique p q (grammar.parts ps ++ x) (grammar.parts qs ++ y) (behind_parts ps x) (behind_parts qs y) (sym (first_part p ps x) ∙ e ∙ first_part q qs y) in
    let more = parts_unique ps qs x y one.1 in
    ((λ i. one.0 i ∷ more.0 i), more.1)

body_unique : (b c : Option (List grammar.Part)) (x y : List Symbol) → grammar.body b ++ x ≡ grammar.body c ++ y → (b ≡ c) × (x ≡ y)
body_unique None None x y e = (refl, tail_is _ _ _ _ e)
body_unique None (Some qs) x y e = absurd (apart (codes "::=") _ _ e refl refl)
body_unique (Some ps) None x y e = absurd (apart (codes "::=") _ _ (sym e) refl refl)
body_unique (Some ps) (Some qs) x y e = let k = parts_unique ps qs x y (tail_is _ _ _ _ e) in (ap (λ (l : List grammar.Part). Some l) k.0, k.1)

named_abstract : (n : Word) (at : Place) → IsName n → grammar.name n ≡ word (codes "abstract") at → ⊥
named_abstract n at is e =
    let same : n.text ≡ codes "abstract" = ap (λ (s : Symbol). s.text) e in
    absurd (let h : true ≡ false = sym is ∙ ap is_name same ∙ abstract_is_no_name in cc)

modifier_unique : (a b : Option Place) (m n : Word) (x y : List Symbol) → IsName m → IsName n
    → grammar.modifier a ++ grammar.name m ∷ x ≡ grammar.modifier b ++ grammar.name n ∷ y → (a ≡ b) × (m ≡ n) × (x ≡ y)
modifier_unique None None m n x y i j e = (refl, word_unique m n (head_is _ _ _ _ e), tail_is _ _ _ _ e)
modifier_unique None (Some at) m n x y i j e = absurd (named_abstract m at i (head_is _ _ _ _ e))
modifier_unique (Some at) None m n x y i j e = absurd (named_abstract n at j (head_is _ _ _ _ (sym e)))
modifier_unique (Some a) (Some b) m n x y i j e =
    let h = head_is _ _ _ _ e in
    let some : Some a ≡ Some b = ap (λ (s : Symbol). s.at) h in
    let t = tail_is _ _ _ _ e in
    (some, word_unique m n (head_is _ _ _ _ t), tail_is _ _ _ _ t)

opened : (d : Declaration) (x : List Symbol) → grammar.declaration d ++ x ≡ grammar.modifier d.abstract_at ++ grammar.name d.name ∷ (grammar.kind d.parent ++ (grammar.body d.parts ++ x))
opened d x = simp append_assoc

declaration_unique : (c d : Declaration) (x y : List Symbol) → IsDeclaration c → IsDeclaration d → grammar.declaration c ++ x ≡ grammar.declaration d ++ y → (c ≡ d) × (x ≡ y)
declaration_unique c d x y i j e =
    let m = modifier_unique c.abstract_at d.abstract_at c.name d.name _ _ i.0 j.0 (sym (opened c x) ∙ e ∙ opened d y) in
    let k = kind_unique c.parent d.parent _ _ (no_colon c.parts x) (no_colon d.parts y) m.2 in
    let b = body_unique c.parts d.parts x y k.1 in
    ((λ i. record { abstract_at = m.0 i; name = m.1 i; parent = k.0 i; parts = b.0 i }), b.1)

some_declaration : (d : Declaration) (x : List Symbol) → grammar.declaration d ++ x ≡ [] → ⊥
some_declaration d x e = absurd (let l = ap length (sym (opened d x) ∙ e) in omega (
  arith,
  l,
  length-append
      (grammar.modifier d.abstract_at) (grammar.name d.name ∷ (grammar.kind d.parent ++ (grammar.body d.parts ++ x))),
))

pub file_unique : (ds es : List Declaration) → IsFile ds → IsFile es → grammar.file ds ≡ grammar.file es → ds ≡ es
file_unique [] [] i j e = refl
file_unique [] (c ∷ es) i j e = absurd (some_declaration c (grammar.file es) (sym e))
file_unique (d ∷ ds) [] i j e = absurd (some_declaration d (grammar.file ds) e)
file_unique (d ∷ ds) (c ∷ es) i j e =
    let one = declaration_unique d c (grammar.file ds) (grammar.file es) i.0 j.0 e in
    let more = file_unique ds es i.1 j.1 one.1 in
    λ i. one.0 i ∷ more i
