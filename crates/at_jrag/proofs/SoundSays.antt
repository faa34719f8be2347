-- What the machine's wants say of a row that they go over: a run that takes all has the sense of each of its wants.
use Rattle.std.proofs.Common.{◌≡◌, ℕ, ◌+◌, ◌-◌, ◌≤◌, List, [], ◌∷◌, ◌++◌, Bool, true, false, cond, max, Option, Some, None, refl, sym, subst}
use Rattle.std.specs.Prelude.{◌&&◌, ◌||◌, not, ◌⊎◌}
use Rattle.std.specs.List.{AllByRecursion}
use Rattle.std.specs.Str.{bytes_eq}
use lib.Chars.{codes}
use Rattle.at_model.specs.Names.{is_name}
use Rattle.at_text.specs.Reading.{first}
use Rattle.at_text.specs.Symbols.{PlacedToken}
use Rattle.at_text.specs.declared.place.Place.{Place}
use Rattle.at_jrag.specs.declared.Forms.{Forms}
use Rattle.at_jrag.specs.Syntax as syntax
use Rattle.at_jrag.specs.Syntax.{Word, Param, KindWord, Ending, Body, Decl, Aspect, Expr, Exprs}
use Rattle.at_jrag.specs.Grammar as grammar
use Rattle.at_text.specs.Rows.{Row, sign, word, is_sign, is_word, next_is}
use Rattle.at_jrag.specs.Grammar.{truth_text, AttributeOf, Sign, Keyword, Opens, KindOf, Listed, Index, Signature, BodyOf, EndingOf, Spells, level, depth, deepest, ending_depth, max_nesting, NestsWithin, IsWithin}
use Rattle.at_text.specs.Machine.{Answer, Takes, Skips, Refuses, LeavesOut, and_then, Goes, Halts, answered, after, ended, may_end, Outcome, Whole, Stuck, Refused, TooDeep, run}
use Rattle.at_jrag.specs.Wants as want
use Rattle.at_jrag.specs.Wants.{Want}
use Rattle.at_jrag.specs.Table.{table, or_else}
use Rattle.at_text.proofs.MachineLaws.{goes_on}

-- ---- what a want says

-- An expression of this depth stands there, within the limit. Of rank 0 are calls and what they are asked of, of rank 1
-- unaries, of rank 2 products, and so on up to 8, of which all are.
pub record IsRead (l : Bool) (rank b e : ℕ) (old rest : Row) : Type 0 where
  pub expr : Expr
  pub spells : Spells expr old rest
  pub strong : 8 ≤ level expr + rank
  pub deep : e ≡ depth expr
  pub fits : l ≡ true → e ≤ b

-- behind the `:` of a choice
pub record IsOther (l : Bool) (b m d e : ℕ) (old rest : Row) : Type 0 where
  pub other : Row
  pub colon : Sign (codes ":") old other
  pub depth_of : ℕ
  pub read : IsRead l 8 (b - 1) depth_of other rest
  pub deep : e ≡ 1 + max m (max d depth_of)

-- arguments behind a `(`, and behind the first of them
pub record HasArguments (l g : Bool) (b e : ℕ) (old rest : Row) : Type 0 where
  pub items : Exprs
  pub spells : grammar.Arguments items old rest
  pub opens : g && next_is (is_word (codes "int")) old ≡ false
  pub deep : e ≡ deepest items
  pub fits : l ≡ true → e ≤ b

pub record HasMore (l : Bool) (b d e : ℕ) (old rest : Row) : Type 0 where
  pub items : Exprs
  pub spells : grammar.MoreArguments items old rest
  pub deep : e ≡ max d (deepest items)
  pub fits : l ≡ true → deepest items ≤ b

-- arguments with their `(`
pub record IsApplied (l g : Bool) (b e : ℕ) (old rest : Row) : Type 0 where
  pub list : Row
  pub paren : Sign (codes "(") old list
  pub read : HasArguments l g b e list rest

-- a call behind its `.`
pub record IsCalled (l : Bool) (b e : ℕ) (old rest : Row) : Type 0 where
  pub name : Word
  pub paren : Row
  pub named : grammar.Name name old paren
  pub read : IsApplied l (bytes_eq name.text (codes "getChild")) b e paren rest

-- the body of a fold
pub record IsFoldBody (l : Bool) (b d e : ℕ) (old rest : Row) : Type 0 where
  pub one : Row
  pub brace : Sign (codes "{") old one
  pub end : Row
  pub depth_of : ℕ
  pub read : IsRead l 8 (b - 1) depth_of one end
  pub close : Sign (codes "}") end rest
  pub deep : e ≡ 1 + max d depth_of

-- parameters behind a `(`; where the register is 0 they may be a getter's
pub record HasParams (g : Bool) (e : ℕ) (old rest : Row) : Type 0 where
  pub params : syntax.Params
  pub listed : Listed params.items params.end old rest
  pub opens : g && next_is (is_word (codes "int")) old ≡ false
  pub index : e ≡ 0 → (i : Option Word) × Index i old rest

pub record HasMoreParams (e : ℕ) (old rest : Row) : Type 0 where
  pub params : syntax.Params
  pub listed : grammar.MoreParams params.items params.end old rest
  pub index : e ≡ 0 → Sign (codes ")") old rest

pub record IsOpened (g : Bool) (e : ℕ) (old rest : Row) : Type 0 where
  pub list : Row
  pub paren : Sign (codes "(") old list
  pub read : HasParams g e list rest

pub record IsSigned (e : ℕ) (old rest : Row) : Type 0 where
  pub name : Word
  pub paren : Row
  pub named : grammar.Name name old paren
  pub read : IsOpened (bytes_eq name.text (codes "getChild")) e paren rest

abbrev pub IsBody : Bool → Row → Row → Type 0
IsBody l old rest = (b : Body) × BodyOf b old rest × (l ≡ true → depth b.expr ≤ max_nesting)

-- behind the parameters of an equation, which may be a getter's if the register is 0
abbrev pub IsDefined : Bool → ℕ → Row → Row → Type 0
IsDefined l d old rest = IsBody l old rest ⊎ ((d ≡ 0) × (called : Row) × (body : Row) × (e : ℕ) × Sign (codes ".") old called × IsSigned e called body × IsBody l body rest)

-- a declared attribute behind its `lazy`
pub record IsAttribute (forms : Forms) (old rest : Row) : Type 0 where
  pub kind : KindWord
  pub class : Word
  pub name : Word
  pub params : syntax.Params
  pub start : Option Bool
  pub is : AttributeOf forms kind class name params start old rest

abbrev pub Says : Bool → Want → ℕ → Row → ℕ → Row → Type 0
Says l (want.Expression b) d old e rest = IsRead l 8 b e old rest
Says l (want.Binary rank b) d old e rest = IsRead l (1 + rank) b e old rest
Says l (want.Links rank b) d old e rest = (start : Row) → IsRead l (2 + rank) b d start old → IsRead l (2 + rank) b e start rest
Says l (want.Choice b) d old e rest = (start : Row) → IsRead l 7 b d start old → IsRead l 8 b e start rest
Says l (want.Otherwise b m) d old e rest = IsOther l b m d e old rest
Says l (want.Unary b) d old e rest = IsRead l 1 b e old rest
Says l (want.Minus b) d old e rest = (at : Place) → (l ≡ true → 1 ≤ b) → IsRead l 1 b e (sign (codes "-") at ∷ old) rest
Says l (want.Opened b) d old e rest = (at : Place) → IsRead l 1 b e (sign (codes "(") at ∷ old) rest
Says l (want.Enclosed g b) d old e rest = (at : Place) (w : Word) → is_name w.text ≡ true → g ≡ bytes_eq w.text (codes "getChild") → (l ≡ true → 2 ≤ b) →
    IsRead l 1 b e (sign (codes "(") at ∷ word w.text w.at ∷ old) rest
Says l (want.Parenthesized b) d old e rest = (at : Place) (w : Word) (close : Place) → is_name w.text ≡ true → d ≡ 2 → (l ≡ true → 2 ≤ b) →
    IsRead l 1 b e (sign (codes "(") at ∷ word w.text w.at ∷ sign (codes ")") close ∷ old) rest
Says l (want.Calls b) d old e rest = (start : Row) → IsRead l 0 b d start old → IsRead l 0 b e start rest
Says l (want.Called b) d old e rest = IsCalled l b e old rest
Says l (want.Arguments g b) d old e rest = IsApplied l g b e old rest
Says l (want.FirstArgument g b) d old e rest = HasArguments l g b e old rest
Says l (want.MoreArguments b) d old e rest = HasMore l b d e old rest
Says l (want.Primary b) d old e rest = IsRead l 0 b e old rest × (next_is (is_sign (codes "-")) old ≡ false)
Says l (want.Named g b) d old e rest = (w : Word) → is_name w.text ≡ true → g ≡ bytes_eq w.text (codes "getChild") → (l ≡ true → 1 ≤ b) → IsRead l 0 b e (word w.text w.at ∷ old) rest
Says l (want.FoldBody b) d old e rest = IsFoldBody l b d e old rest
Says l want.Deeper d old e rest = (e ≡ 1 + d) × (rest ≡ old)
Says l (want.Join m) d old e rest = (e ≡ 1 + max m d) × (rest ≡ old)
Says l (want.Deepest m) d old e rest = (e ≡ max m d) × (rest ≡ old)
Says l (want.Counts n) d old e rest = (e ≡ n) × (rest ≡ old)
Says l want.Name d old e rest = (w : Word) × grammar.Name w old rest × (e ≡ d)
Says l (want.Mark text) d old e rest = Sign text old rest × (e ≡ d)
Says l (want.File forms) d old e rest = (aspects : List Aspect) × grammar.File forms aspects old rest × (l ≡ true → IsWithin aspects)
Says l (want.Decls forms) d old e rest = (ds : List Decl) × (close : Row) × grammar.Decls forms ds old close × Sign (codes "}") close rest × (l ≡ true → AllByRecursion NestsWithin ds)
Says l want.Lazy d old e rest = (lazy : Option Place) × grammar.Lazy lazy old rest
Says l want.NotNta d old e rest = rest ≡ old
Says l (want.Attribute forms) d old e rest = IsAttribute forms old rest
Says l want.Kind d old e rest = (k : KindWord) × KindOf k old rest
Says l want.Signed d old e rest = IsSigned e old rest
Says l (want.Opening g) d old e rest = IsOpened g e old rest
Says l (want.Params g) d old e rest = HasParams g e old rest
Says l want.OneParam d old e rest = HasMoreParams e old rest
Says l want.MoreParams d old e rest = HasMoreParams e old rest × (e ≡ 1)
Says l (want.Circular m) d old e rest = (start : Option Bool) × grammar.Circular m start old rest
Says l want.Bracket d old e rest = (b : Bool) × (value : Row) × Sign (codes "[") old value × Keyword (truth_text b) value rest
Says l want.Start d old e rest = (b : Bool) × Keyword (truth_text b) old rest
Says l want.Ending d old e rest = (x : Ending) × EndingOf x old rest × (l ≡ true → ending_depth x ≤ max_nesting)
Says l want.Body d old e rest = IsBody l old rest
Says l want.Defined d old e rest = IsDefined l d old rest
Says l want.Return d old e rest = Keyword (codes "return") old rest
Says l want.Close d old e rest = Sign (codes "}") old rest

-- each want says it of a piece of the row, one behind the other
abbrev pub AllSay : Bool → List Want → ℕ → Row → ℕ → Row → Type 0
AllSay l [] d old e rest = (e ≡ d) × (rest ≡ old)
AllSay l (w ∷ ws) d old e rest = (mid : Row) × (m : ℕ) × Says l w d old m mid × AllSay l ws m mid e rest

-- the next token was taken, and what is wanted behind it says the rest
pub record Took (l within : Bool) (more : List Want) (m : ℕ) (old : Row) (e : ℕ) (rest : Row) : Type 0 where
  pub token : PlacedToken
  pub behind : Row
  pub front : old ≡ token ∷ behind
  pub within_is : l ≡ true → within ≡ true
  pub all : AllSay l more m behind e rest

-- what an answer to the next token comes to
abbrev pub Does : Bool → Answer Want → Row → ℕ → Row → Type 0
Does l (Takes within more m) old e rest = Took l within more m old e rest
Does l (Skips m) old e rest = (e ≡ m) × (rest ≡ old)
Does l Refuses old e rest = ⊥
Does l LeavesOut old e rest = ⊥

-- each row of the table has the sense of its want
abbrev pub Means : Bool → Type 0
Means l = (w : Want) (d : ℕ) (old : Row) (e : ℕ) (rest : Row) → Does l (table w d (first old)) old e rest → Says l w d old e rest

-- ---- wants in a row

pub split_say : (l : Bool) (ws us : List Want) (d : ℕ) (old : Row) (e : ℕ) (rest : Row) → AllSay l (ws ++ us) d old e rest → (mid : Row) × (m : ℕ) × AllSay l ws d old m mid × AllSay l us m mid e rest
split_say l [] us d old e rest h = (old, d, (refl, refl), h)
split_say l (w ∷ ws) us d old e rest (mid, m, s, h) = let r = split_say l ws us m mid e rest h in (r.0, r.1, (mid, m, s, r.2), r.3)

pub join_say : (l : Bool) (ws us : List Want) (d : ℕ) (old : Row) (m : ℕ) (mid : Row) (e : ℕ) (rest : Row) → AllSay l ws d old m mid → AllSay l us m mid e rest → AllSay l (ws ++ us) d old e rest
join_say l [] us d old m mid e rest h k = subst (λ (x : ℕ). AllSay l us x old e rest) h.0 (subst (λ (x : Row). AllSay l us m x e rest) h.1 k)
join_say l (w ∷ ws) us d old m mid e rest (one, n, s, h) k = (one, n, s, join_say l ws us n one m mid e rest h k)

-- the last want
pub only_says : (l : Bool) (w : Want) (d : ℕ) (old : Row) (e : ℕ) (rest : Row) → AllSay l (w ∷ []) d old e rest → Says l w d old e rest
only_says l w d old e rest (mid, m, s, (x, y)) = subst (λ (r : Row). Says l w d old e r) (sym y) (subst (λ (k : ℕ). Says l w d old k mid) (sym x) s)

pub then_does : (l : Bool) (a : Answer Want) (us : List Want) (old : Row) (e : ℕ) (rest : Row) → Does l (and_then a us) old e rest
    → (mid : Row) × (m : ℕ) × Does l a old m mid × AllSay l us m mid e rest
then_does l (Takes within ws d) us old e rest h =
    let r = split_say l ws us d h.behind e rest h.all in
    (r.0, r.1, record { token = h.token; behind = h.behind; front = h.front; within_is = h.within_is; all = r.2 }, r.3)
then_does l (Skips d) us old e rest h = absurd h
then_does l Refuses us old e rest h = absurd h
then_does l LeavesOut us old e rest h = absurd h

-- the first of what may be absent, and what is wanted behind it
pub else_does : (l : Bool) (a : Answer Want) (us : List Want) (f : ℕ → Answer Want) (old : Row) (e : ℕ) (rest : Row) → ((x : ℕ) → Does l (f x) old e rest → AllSay l us x old e rest)
    → Does l (or_else a us f) old e rest
    → (mid : Row) × (m : ℕ) × Does l a old m mid × AllSay l us m mid e rest
else_does l (Takes within ws d) us f old e rest g h =
    let r = split_say l ws us d h.behind e rest h.all in
    (r.0, r.1, record { token = h.token; behind = h.behind; front = h.front; within_is = h.within_is; all = r.2 }, r.3)
else_does l (Skips d) us f old e rest g h = (old, d, (refl, refl), g d h)
else_does l Refuses us f old e rest g h = absurd h
else_does l LeavesOut us f old e rest g h = absurd h

-- a row goes by a test of the next token
pub on_does : {Z : Type 0} (l x : Bool) (a b : Answer Want) (old : Row) (e : ℕ) (rest : Row) → (x ≡ true → Does l a old e rest → Z) → (x ≡ false → Does l b old e rest → Z)
    → Does l (cond x a b) old e rest → Z
on_does l true a b old e rest f g h = f refl h
on_does l false a b old e rest f g h = g refl h

-- ---- a run that takes all

-- the wants say what they go over, up to the end
abbrev pub AllSaid : Bool → List Want → ℕ → Row → Type 0
AllSaid l ws d old = (e : ℕ) × AllSay l ws d old e []

ended_at : (l : Bool) (w : Want) (ws : List Want) (d : ℕ) (a : Answer Want) (f : ℕ → Bool) → Means l → table w d None ≡ a → ((m : ℕ) → f m ≡ true → AllSaid l ws m []) → ended a f ≡ true
    → AllSaid l (w ∷ ws) d []
ended_at l w ws d (Takes within more m) f means t ih h = absurd cc
ended_at l w ws d (Skips m) f means t ih h = let r = ih m h in (r.0, ([], m, means w d [] m [] (subst (λ (x : Answer Want). Does l x [] m []) (sym t) (refl, refl)), r.1))
ended_at l w ws d Refuses f means t ih h = absurd cc
ended_at l w ws d LeavesOut f means t ih h = absurd cc

ends_said : (l : Bool) (ws : List Want) (d : ℕ) → Means l → may_end table ws d ≡ true → AllSaid l ws d []
ends_said l [] d means h = (d, (refl, refl))
ends_said l (w ∷ ws) d means h = ended_at l w ws d (table w d None) (λ e. may_end table ws e) means refl (λ m k. ends_said l ws m means k) h

taken_said : (l within : Bool) (w : Want) (more ws : List Want) (d m : ℕ) (s : PlacedToken) (ss : Row) → Means l → table w d (Some s) ≡ Takes within more m → (l ≡ true → within ≡ true)
    → AllSaid l (more ++ ws) m ss → AllSaid l (w ∷ ws) d (s ∷ ss)
taken_said l within w more ws d m s ss means t fits (e, h) =
    let r = split_say l more ws m ss e [] h in
    let took : Took l within more m (s ∷ ss) r.1 r.0 = record { token = s; behind = ss; front = refl; within_is = fits; all = r.2 } in
    (e, (r.0, r.1, means w d (s ∷ ss) r.1 r.0 (subst (λ (x : Answer Want). Does l x (s ∷ ss) r.1 r.0) (sym t) took), r.3))

moved_said : (l within : Bool) (us : List Want) (m : ℕ) (s : PlacedToken) (ss : Row) → goes_on l table (cond (within || not l) (Goes us m) (Halts TooDeep)) s ss ≡ Whole
    → (l ≡ true → within ≡ true) × (run l table us m ss ≡ Whole)
moved_said l true us m s ss h = ((λ e. refl), h)
moved_said false false us m s ss h = ((λ e. absurd cc), h)
moved_said true false us m s ss h = absurd cc

answered_said : (l : Bool) (w : Want) (ws : List Want) (d : ℕ) (s : PlacedToken) (ss : Row) (a : Answer Want) → Means l → ((vs : List Want) (x : ℕ) → run l table vs x ss ≡ Whole → AllSaid l vs x ss)
    → ((m : ℕ) → goes_on l table (after l table ws m s) s ss ≡ Whole → AllSaid l ws m (s ∷ ss)) → table w d (Some s) ≡ a
    → goes_on l table (answered l a ws (λ e. after l table ws e s)) s ss ≡ Whole → AllSaid l (w ∷ ws) d (s ∷ ss)
answered_said l w ws d s ss (Takes within more m) means ih skip t h =
    let r = moved_said l within (more ++ ws) m s ss h in
    taken_said l within w more ws d m s ss means t r.0 (ih (more ++ ws) m r.1)
answered_said l w ws d s ss (Skips m) means ih skip t h =
    let r = skip m h in
    (r.0, (s ∷ ss, m, means w d (s ∷ ss) m (s ∷ ss) (subst (λ (x : Answer Want). Does l x (s ∷ ss) m (s ∷ ss)) (sym t) (refl, refl)), r.1))
answered_said l w ws d s ss Refuses means ih skip t h = absurd cc
answered_said l w ws d s ss LeavesOut means ih skip t h = absurd cc

after_said : (l : Bool) (ws : List Want) (d : ℕ) (s : PlacedToken) (ss : Row) → Means l → ((vs : List Want) (x : ℕ) → run l table vs x ss ≡ Whole → AllSaid l vs x ss)
    → goes_on l table (after l table ws d s) s ss ≡ Whole → AllSaid l ws d (s ∷ ss)
after_said l [] d s ss means ih h = absurd cc
after_said l (w ∷ ws) d s ss means ih h = answered_said l w ws d s ss (table w d (Some s)) means ih (λ m k. after_said l ws m s ss means ih k) refl h

may_end_of : (x : Bool) → cond {A = Outcome PlacedToken} x Whole (Stuck Refused []) ≡ Whole → x ≡ true
may_end_of true h = refl
may_end_of false h = absurd cc

-- what takes all of a row, says it
pub whole_said : (l : Bool) (row : Row) (ws : List Want) (d : ℕ) → Means l → run l table ws d row ≡ Whole → AllSaid l ws d row
unfolding run
whole_said l [] ws d means h = ends_said l ws d means (may_end_of (may_end table ws d) h)
whole_said l (s ∷ ss) ws d means h = after_said l ws d s ss means (λ vs x k. whole_said l ss vs x means k) h
