-- What a step of the table says of the token: which wants it leaves first, what may be left out, and what is passed over.
use Rattle.std.proofs.Common.{◌≡◌, ℕ, zero, suc, ◌-◌, List, [], ◌∷◌, ◌++◌, Bool, true, false, cond, Option, Some, None, refl, ap, ◌∙◌}
use Rattle.std.specs.Prelude.{◌&&◌, ◌||◌, ◌==◌}
use lib.Chars.{codes}
use Rattle.at_text.specs.Symbols.{PlacedToken, is_word_kind}
use Rattle.at_text.specs.Rows.{is_sign, is_word, is_name_token}
use Rattle.at_jrag.specs.Grammar.{is_number, follows_cast, begins_other}
use Rattle.at_text.specs.Machine.{Answer, Takes, Skips, Refuses, LeavesOut, and_then}
use Rattle.at_jrag.specs.Wants.{Want, Expression, Binary, Links, Choice, Otherwise, Unary, Minus, Opened, Enclosed, Parenthesized, Calls, Called, Arguments, FirstArgument, MoreArguments, Primary, Named, FoldBody, Deeper, Join, Deepest, Counts, Name, Mark, File, Decls, Lazy, NotNta, Attribute, Kind, Signed, Opening, Params, OneParam, MoreParams, Circular, Bracket, Start, Ending, Body, Defined, Return, Close}
use Rattle.at_jrag.specs.Table.{table, is_get_child, is_literal, begins_fold, is_number_within, is_kind, link_rank, or_else, links_from, tails_answer, primary_answer, unary_answer, binary_answer, expression_answer, links_answer, choice_answer, calls_answer, named_answer, enclosed_rest, body_answer, more_params_answer, no_keyword}
use Rattle.at_jrag.proofs.Shapes.{loose}
use Rattle.at_model.proofs.Options.{both}

-- ---- what an answer comes to

-- if it takes the token, T holds of what is wanted then; if it takes nothing, K does; and if a form is left out there, L
abbrev pub Comes : (List Want → Type 0) → Type 0 → Type 0 → Answer Want → Type 0
Comes T K L (Takes within more e) = T more
Comes T K L (Skips e) = K
Comes T K L Refuses = Unit {0}
Comes T K L LeavesOut = L

pub either : (D : Answer Want → Type 0) (x : Bool) (a b : Answer Want) → (x ≡ true → D a) → (x ≡ false → D b) → D (cond x a b)
either D true a b h k = h refl
either D false a b h k = k refl

-- what holds of what is wanted first
abbrev pub Begins : (Want → Type 0) → Type 0 → List Want → Type 0
Begins H N [] = N
Begins H N (v ∷ vs) = H v

pub then_comes : (H : Want → Type 0) (N K L : Type 0) (us : List Want) (a : Answer Want) → Begins H N us → Comes (Begins H N) (Unit {0}) L a → Comes (Begins H N) K L (and_then a us)
then_comes H N K L us (Takes within [] e) h k = h
then_comes H N K L us (Takes within (v ∷ vs) e) h k = k
then_comes H N K L us (Skips e) h k = tt
then_comes H N K L us Refuses h k = tt
then_comes H N K L us LeavesOut h k = k

pub else_comes : (H : Want → Type 0) (N K L : Type 0) (us : List Want) (a : Answer Want) (f : ℕ → Answer Want)
    → Begins H N us → Comes (Begins H N) (Unit {0}) L a → ((e : ℕ) → Comes (Begins H N) K L (f e))
    → Comes (Begins H N) K L (or_else a us f)
else_comes H N K L us (Takes within [] e) f h k g = h
else_comes H N K L us (Takes within (v ∷ vs) e) f h k g = k
else_comes H N K L us (Skips e) f h k g = g e
else_comes H N K L us Refuses f h k g = tt
else_comes H N K L us LeavesOut f h k g = k

-- ---- the token that was taken last, by what is wanted first

-- whether the call or the signature whose `(` is wanted is `getChild`'s
abbrev pub asked : Want → Option Bool
asked (Arguments g b) = Some g
asked (Named g b) = Some g
asked (Enclosed g b) = Some g
asked (Opening g) = Some g
asked w = None

-- `syn`, `inh` or `lazy`
abbrev pub before_nta : PlacedToken → Bool
before_nta t = is_word (codes "syn") t || (is_word (codes "inh") t || is_word (codes "lazy") t)

-- a name, that of `getChild` or another
abbrev IsNamed : Bool → PlacedToken → Type 0
IsNamed g t = (is_word_kind t.kind ≡ true) × (g ≡ is_get_child t)

-- the `(` that was wanted
abbrev IsOpen : Bool → Want → PlacedToken → Type 0
IsOpen g w t = (is_sign (codes "(") t ≡ true) × (asked w ≡ Some g)

-- what the token is, with which the first leaves the second to be wanted
abbrev pub Leaves : Want → PlacedToken → Want → Type 0
Leaves w t Lazy = before_nta t ≡ true
Leaves w t NotNta = before_nta t ≡ true
Leaves w t (FirstArgument g b) = IsOpen g w t
Leaves w t (Params g) = IsOpen g w t
Leaves w t (Arguments g b) = IsNamed g t
Leaves w t (Named g b) = IsNamed g t
Leaves w t (Enclosed g b) = IsNamed g t
Leaves w t (Opening g) = IsNamed g t
Leaves w t Start = is_sign (codes "[") t ≡ true
Leaves w t v = Unit {0}

-- what the token is that begins what is left out there
abbrev pub LeavesIt : Want → PlacedToken → Type 0
LeavesIt (File forms) t = is_word_kind t.kind ≡ true
LeavesIt (Decls forms) t = is_word_kind t.kind ≡ true
LeavesIt Lazy t = is_word (codes "nta") t ≡ true
LeavesIt NotNta t = is_word (codes "nta") t ≡ true
LeavesIt (Circular m) t = is_word (codes "circular") t ≡ true
LeavesIt Start t = begins_other t ≡ true
LeavesIt Return t = Unit {0}
LeavesIt Close t = Unit {0}
LeavesIt (Params g) t = (g ≡ true) × (is_word (codes "int") t ≡ true)
LeavesIt (FirstArgument g b) t = (g ≡ true) × (is_word (codes "int") t ≡ true)
LeavesIt w t = ⊥

abbrev Does : Want → PlacedToken → Type 0 → Type 0 → Answer Want → Type 0
Does w t K L a = Comes (Begins (Leaves w t) (Unit {0})) K L a

-- ---- expressions

is_named : (t : PlacedToken) → is_name_token t ≡ true → IsNamed (is_get_child t) t
is_named t e = let h = both (is_word_kind t.kind) _ e in (h.0, refl)

primary_does : (w : Want) (t : PlacedToken) (K L : Type 0) (b : ℕ) → Does w t K L (primary_answer b (Some t))
primary_does w t K L b =
    either (Does w t K L) (is_literal t) _ _ (λ x. tt)
    (λ y. either (Does w t K L) (is_sign (codes "(") t) _ _ (λ x. tt)
    (λ y. either (Does w t K L) (begins_fold t) _ _ (λ x. tt)
    (λ y. either (Does w t K L) (is_name_token t) _ Refuses (λ x. is_named t x) (λ x. tt))))

unary_does : (w : Want) (t : PlacedToken) (K L : Type 0) (b : ℕ) → Does w t K L (unary_answer b (Some t))
unary_does w t K L b =
    either (Does w t K L) (is_sign (codes "-") t) _ _ (λ x. tt)
    (λ y. either (Does w t K L) (is_sign (codes "!") t) _ _ (λ x. tt)
    (λ y. either (Does w t K L) (is_sign (codes "(") t) _ _ (λ x. tt)
    (λ y. then_comes (Leaves w t) (Unit {0}) K L (Calls b ∷ []) (primary_answer b (Some t)) tt (primary_does w t (Unit {0}) L b))))

binary_does : (w : Want) (t : PlacedToken) (K L : Type 0) (rank b : ℕ) → Does w t K L (binary_answer rank b (Some t))
binary_does w t K L zero b = unary_does w t K L b
binary_does w t K L (suc rank) b = then_comes (Leaves w t) (Unit {0}) K L (Links rank b ∷ []) (binary_answer rank b (Some t)) tt (binary_does w t (Unit {0}) L rank b)

expression_does : (w : Want) (t : PlacedToken) (K L : Type 0) (b : ℕ) → Does w t K L (expression_answer b (Some t))
expression_does w t K L b = then_comes (Leaves w t) (Unit {0}) K L (Choice b ∷ []) (binary_answer 6 b (Some t)) tt (binary_does w t (Unit {0}) L 6 b)

links_do : (w : Want) (t : PlacedToken) (K L : Type 0) → K → (rank b d : ℕ) → Does w t K L (links_answer rank b d (Some t))
links_do w t K L k rank b d = either (Does w t K L) (link_rank t == suc rank) _ (Skips d) (λ x. either (Does w t K L) (is_word_kind t.kind) _ _ (λ y. tt) (λ y. tt)) (λ x. k)

choice_does : (w : Want) (t : PlacedToken) (K L : Type 0) → K → (b d : ℕ) → Does w t K L (choice_answer b d (Some t))
choice_does w t K L k b d = either (Does w t K L) (is_sign (codes "?") t) _ (Skips d) (λ x. tt) (λ x. k)

calls_do : (w : Want) (t : PlacedToken) (K L : Type 0) → K → (b d : ℕ) → Does w t K L (calls_answer b d (Some t))
calls_do w t K L k b d = either (Does w t K L) (is_sign (codes ".") t) _ (Skips d) (λ x. tt) (λ x. k)

named_does : (w : Want) (t : PlacedToken) (K L : Type 0) → K → (g : Bool) (b : ℕ) → asked w ≡ Some g → Does w t K L (named_answer g b (Some t))
named_does w t K L k g b e = either (Does w t K L) (is_sign (codes "(") t) _ (Skips 1) (λ x. (x, e)) (λ x. k)

tails_do : (w : Want) (t : PlacedToken) (K L : Type 0) (rank b : ℕ) (us : List Want) (f : ℕ → Answer Want) (d : ℕ)
    → Begins (Leaves w t) (Unit {0}) us → ((e : ℕ) → Does w t K L (f e))
    → Does w t K L (tails_answer rank b us f d (Some t))
tails_do w t K L zero b us f d o h = h d
tails_do w t K L (suc rank) b us f d o h =
    tails_do w t K L rank b (Links rank b ∷ us) (λ e. or_else (links_answer rank b e (Some t)) us f) d tt
    (λ e. else_comes (Leaves w t) (Unit {0}) K L us (links_answer rank b e (Some t)) f o (links_do w t (Unit {0}) L tt rank b e) h)

enclosed_does : (w : Want) (t : PlacedToken) (K L : Type 0) (g : Bool) (b d : ℕ) → asked w ≡ Some g → Does w t K L (enclosed_rest g b d (Some t))
enclosed_does w t K L g b d a =
    let behind = Choice b ∷ Mark (codes ")") ∷ [] in
    else_comes (Leaves w t) (Unit {0}) K L (Calls b ∷ (links_from 6 b ++ behind)) (named_answer g b (Some t)) _ tt (named_does w t (Unit {0}) L tt g b a)
    (λ e. else_comes (Leaves w t) (Unit {0}) K L (links_from 6 b ++ behind) (calls_answer b e (Some t)) _ tt (calls_do w t (Unit {0}) L tt b e)
    (λ x. tails_do w t K L 6 b behind _ x tt
    (λ y. else_comes (Leaves w t) (Unit {0}) K L (Mark (codes ")") ∷ []) (choice_answer b y (Some t)) (λ z. Refuses) tt (choice_does w t (Unit {0}) L tt b y) (λ z. tt))))

-- ---- declarations

body_does : (w : Want) (t : PlacedToken) (K L : Type 0) → Does w t K L (body_answer (Some t))
body_does w t K L = either (Does w t K L) (is_sign (codes "=") t) _ _ (λ x. tt) (λ y. either (Does w t K L) (is_sign (codes "{") t) _ Refuses (λ x. tt) (λ x. tt))

more_params_do : (w : Want) (t : PlacedToken) (K L : Type 0) (d : ℕ) → Does w t K L (more_params_answer d (Some t))
more_params_do w t K L d = either (Does w t K L) (is_sign (codes ")") t) _ _ (λ x. tt) (λ y. either (Does w t K L) (is_sign (codes ",") t) _ Refuses (λ x. tt) (λ x. tt))

no_keyword_does : (w : Want) (t : PlacedToken) (K : Type 0) → Does w t K (is_word_kind t.kind ≡ true) (no_keyword t)
no_keyword_does w t K = either (Does w t K (is_word_kind t.kind ≡ true)) (is_word_kind t.kind) LeavesOut Refuses (λ x. x) (λ x. tt)

-- each row of the table
abbrev Row : Want → PlacedToken → Answer Want → Type 0
Row w t a = Does w t (loose w ≡ true) (LeavesIt w t) a

pub row_does : (w : Want) (d : ℕ) (t : PlacedToken) → Comes (Begins (Leaves w t) (Unit {0})) (loose w ≡ true) (LeavesIt w t) (table w d (Some t))
unfolding table
row_does (Expression b) d t = expression_does (Expression b) t _ _ b
row_does (Binary rank b) d t = binary_does (Binary rank b) t _ _ rank b
row_does (Links rank b) d t = links_do (Links rank b) t _ _ refl rank b d
row_does (Choice b) d t = choice_does (Choice b) t _ _ refl b d
row_does (Otherwise b m) d t = either (Row (Otherwise b m) t) (is_sign (codes ":") t) _ Refuses (λ x. tt) (λ x. tt)
row_does (Unary b) d t = unary_does (Unary b) t _ _ b
row_does (Minus b) d t =
    either (Row (Minus b) t) (is_number t) _ _ (λ y. either (Row (Minus b) t) (is_number_within 2147483648 t) _ Refuses (λ x. tt) (λ x. tt))
    (λ y. then_comes (Leaves (Minus b) t) (Unit {0}) _ _ (Deeper ∷ []) (unary_answer (b - 1) (Some t)) tt (unary_does (Minus b) t (Unit {0}) _ (b - 1)))
row_does (Opened b) d t =
    either (Row (Opened b) t) (is_name_token t) _ _ (λ x. is_named t x)
    (λ y. then_comes (Leaves (Opened b) t) (Unit {0}) _ _ (Mark (codes ")") ∷ Deeper ∷ Calls b ∷ []) (expression_answer (b - 1) (Some t)) tt (expression_does (Opened b) t (Unit {0}) _ (b - 1)))
row_does (Enclosed g b) d t =
    either (Row (Enclosed g b) t) (is_sign (codes ")") t) _ _ (λ x. tt)
    (λ y. then_comes (Leaves (Enclosed g b) t) (Unit {0}) _ _ (Deeper ∷ Calls b ∷ []) (enclosed_rest g (b - 1) d (Some t)) tt (enclosed_does (Enclosed g b) t (Unit {0}) _ g (b - 1) d refl))
row_does (Parenthesized b) d t =
    either (Row (Parenthesized b) t) (follows_cast t) _ _ (λ x. then_comes (Leaves (Parenthesized b) t) (Unit {0})
    _ _ (Deeper ∷ []) (unary_answer (b - 1) (Some t)) tt (unary_does (Parenthesized b) t (Unit {0}) _ (b - 1)))
    (λ x. calls_do (Parenthesized b) t _ _ refl b d)
row_does (Calls b) d t = calls_do (Calls b) t _ _ refl b d
row_does (Called b) d t = either (Row (Called b) t) (is_name_token t) _ Refuses (λ x. is_named t x) (λ x. tt)
row_does (Arguments g b) d t = either (Row (Arguments g b) t) (is_sign (codes "(") t) _ Refuses (λ x. (x, refl)) (λ x. tt)
row_does (FirstArgument g b) d t =
    either (Row (FirstArgument g b) t) (is_sign (codes ")") t) _ _ (λ x. tt)
    (λ y. either (Row (FirstArgument g b) t) (g && is_word (codes "int") t) LeavesOut _ (λ x. both g (is_word (codes "int") t) x)
    (λ y. then_comes (Leaves (FirstArgument g b) t) (Unit {0}) _ _ (MoreArguments b ∷ []) (expression_answer b (Some t)) tt (expression_does (FirstArgument g b) t (Unit {0}) _ b)))
row_does (MoreArguments b) d t = either (Row (MoreArguments b) t) (is_sign (codes ")") t) _ _ (λ x. tt) (λ y. either (Row (MoreArguments b) t) (is_sign (codes ",") t) _ Refuses (λ x. tt) (λ x. tt))
row_does (Primary b) d t = primary_does (Primary b) t _ _ b
row_does (Named g b) d t = named_does (Named g b) t _ _ refl g b refl
row_does (FoldBody b) d t = either (Row (FoldBody b) t) (is_sign (codes "{") t) _ Refuses (λ x. tt) (λ x. tt)
row_does Deeper d t = refl
row_does (Join m) d t = refl
row_does (Deepest m) d t = refl
row_does (Counts n) d t = refl
row_does Name d t = either (Row Name t) (is_name_token t) _ Refuses (λ x. tt) (λ x. tt)
row_does (Mark text) d t = either (Row (Mark text) t) (is_sign text t) _ Refuses (λ x. tt) (λ x. tt)
row_does (File forms) d t = either (Row (File forms) t) (is_word (codes "aspect") t) _ _ (λ x. tt) (λ x. no_keyword_does (File forms) t _)
row_does (Decls forms) d t =
    either (Row (Decls forms) t) (is_sign (codes "}") t) _ _ (λ x. tt)
    (λ y. either (Row (Decls forms) t) (is_word (codes "syn") t) _ _ (λ x. syn_before t x)
    (λ y. either (Row (Decls forms) t) (is_word (codes "inh") t) _ _ (λ x. inh_before t x)
    (λ y. either (Row (Decls forms) t) (is_word (codes "eq") t) _ _ (λ x. tt) (λ x. no_keyword_does (Decls forms) t _))))
  where
    syn_before : (t : PlacedToken) → is_word (codes "syn") t ≡ true → before_nta t ≡ true
    syn_before t x = ap (λ b. b || (is_word (codes "inh") t || is_word (codes "lazy") t)) x

    inh_before : (t : PlacedToken) → is_word (codes "inh") t ≡ true → before_nta t ≡ true
    inh_before t x = ap (λ b. is_word (codes "syn") t || (b || is_word (codes "lazy") t)) x ∙ right (is_word (codes "syn") t)
      where
        right : (x : Bool) → x || true ≡ true
        right true = refl
        right false = refl
row_does Lazy d t =
    either (Row Lazy t) (is_word (codes "lazy") t) _ _ (λ x. ap (λ b. is_word (codes "syn") t || (is_word (codes "inh") t || b)) x ∙ at_end (is_word (codes "syn") t) (is_word (codes "inh") t))
    (λ y. either (Row Lazy t) (is_word (codes "nta") t) LeavesOut (Skips 0) (λ x. x) (λ x. refl))
  where
    at_end : (x y : Bool) → x || (y || true) ≡ true
    at_end true y = refl
    at_end false true = refl
    at_end false false = refl
row_does NotNta d t = either (Row NotNta t) (is_word (codes "nta") t) LeavesOut (Skips 0) (λ x. x) (λ x. refl)
row_does (Attribute forms) d t = either (Row (Attribute forms) t) (is_kind t) _ Refuses (λ x. tt) (λ x. tt)
row_does Kind d t = either (Row Kind t) (is_kind t) _ Refuses (λ x. tt) (λ x. tt)
row_does Signed d t = either (Row Signed t) (is_name_token t) _ Refuses (λ x. is_named t x) (λ x. tt)
row_does (Opening g) d t = either (Row (Opening g) t) (is_sign (codes "(") t) _ Refuses (λ x. (x, refl)) (λ x. tt)
row_does (Params g) d t =
    either (Row (Params g) t) (is_sign (codes ")") t) _ _ (λ x. tt)
    (λ y. either (Row (Params g) t) (g && is_word (codes "int") t) LeavesOut _ (λ x. both g (is_word (codes "int") t) x)
    (λ y. either (Row (Params g) t) (is_word (codes "int") t) _ _ (λ x. tt) (λ x. either (Row (Params g) t) (is_kind t) _ Refuses (λ x. tt) (λ x. tt))))
row_does OneParam d t = more_params_do OneParam t _ _ 0
row_does MoreParams d t = more_params_do MoreParams t _ _ 1
row_does (Circular m) d t = either (Row (Circular m) t) (is_word (codes "circular") t) _ (Skips 0) (λ x. either (Row (Circular m) t) m _ LeavesOut (λ y. tt) (λ y. x)) (λ x. refl)
row_does Bracket d t = either (Row Bracket t) (is_sign (codes "[") t) _ Refuses (λ x. x) (λ x. tt)
row_does Start d t =
    either (Row Start t) (is_word (codes "true") t) _ _ (λ x. tt)
    (λ y. either (Row Start t) (is_word (codes "false") t) _ _ (λ x. tt) (λ y. either (Row Start t) (begins_other t) LeavesOut Refuses (λ x. x) (λ x. tt)))
row_does Ending d t = either (Row Ending t) (is_sign (codes ";") t) _ _ (λ x. tt) (λ x. body_does Ending t _ _)
row_does Body d t = body_does Body t _ _
row_does Defined d t = either (Row Defined t) ((d == 0) && is_sign (codes ".") t) _ _ (λ x. tt) (λ x. body_does Defined t _ _)
row_does Return d t = either (Row Return t) (is_word (codes "return") t) _ LeavesOut (λ x. tt) (λ x. tt)
row_does Close d t = either (Row Close t) (is_sign (codes "}") t) _ LeavesOut (λ x. tt) (λ x. tt)
