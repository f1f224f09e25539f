-- A state comes back from its numbers as it was, and so does UTF-8's.
use Prim.Native.Nat.{ℕ}
use mathlib.Core.Path.{◌≡◌, refl, ap}
use mathlib.Core.Bool.{Bool, true, false}
use lib.Dec.{leb, eqb}
use lib.ListN.{get_or}
use borrow.Author.Tests.{eqb-true}
use Rattle.text.specs.Booleans.{or}
use Rattle.text.proofs.Booleans.{and_true}
use Rattle.states.specs.declared.Lit.{Lit}
use Rattle.states.specs.declared.Lit.TheVariants.{Text, One}
use Rattle.states.specs.declared.Tail.{Tail}
use Rattle.states.specs.declared.Tail.TheVariants.{T1, T2, T3, TE0, TED, TF0, TF4}
use Rattle.states.specs.declared.State.{State}
use Rattle.states.specs.declared.State.TheVariants.{Start, Word, Push, Num, Hash, Tag, Dot, Caret, Minus, Zeros, Negative, Str, Esc, X0, X1, U, Un, Chr, More, Quote, Slash, Slash2, Line, Doc, DocCr, Cr, Com, Star, Bar, Refused}
use Rattle.states.specs.declared.Utf.{Utf}
use Rattle.states.specs.declared.Utf.TheVariants.{Whole, Mid, Broke}
use Rattle.states.specs.Keep.{lit_kind, lit_of, parts_of, state_of, utf_of, utf_code, utf_start, tails, tail_code, is_text, is_lit, esc_fits, state_fits, utf_fits}
use Rattle.states.proofs.Fits.{esc_in}

text_not : (k : ℕ) → is_text k ≡ true → eqb k 25 ≡ false
text_not k e = text_by k (eqb k 23) refl e
  where
    text_by : (k : ℕ) (b : Bool) → eqb k 23 ≡ b → or b (eqb k 24) ≡ true → eqb k 25 ≡ false
    text_by k true f e = let z : k ≡ 23 = eqb-true k 23 f in rw z
    text_by k false f e = let z : k ≡ 24 = eqb-true k 24 e in rw z

lit_back : (l : Lit) → is_lit l ≡ true → lit_of (lit_kind l) ≡ l
unfolding lit_of
lit_back (Text k) e = rw (text_not k e)
lit_back One e = refl

tail_back : (t : Tail) → get_or tails (tail_code t) T1 ≡ t
tail_back T1 = refl
tail_back T2 = refl
tail_back T3 = refl
tail_back TE0 = refl
tail_back TED = refl
tail_back TF0 = refl
tail_back TF4 = refl

abbrev pub state_back : State → State
state_back q = state_of (parts_of q).code (parts_of q).kind (parts_of q).backslash (parts_of q).depth

pub state_back_lem : (q : State) (n : ℕ) → state_fits q n ≡ true → state_back q ≡ q
unfolding state_of
state_back_lem Start n e = refl
state_back_lem Word n e = refl
state_back_lem Push n e = refl
state_back_lem Num n e = refl
state_back_lem Hash n e = refl
state_back_lem Tag n e = refl
state_back_lem Dot n e = refl
state_back_lem Caret n e = refl
state_back_lem Minus n e = refl
state_back_lem Zeros n e = refl
state_back_lem Negative n e = refl
state_back_lem (Str k) n e = refl
state_back_lem (Esc l b) n e = ap (λ (z : Lit). Esc z b) (lit_back l (esc_in l b n e).0)
state_back_lem (X0 l b) n e = ap (λ (z : Lit). X0 z b) (lit_back l (esc_in l b n e).0)
state_back_lem (X1 l b) n e = ap (λ (z : Lit). X1 z b) (lit_back l (esc_in l b n e).0)
state_back_lem (U l b) n e = ap (λ (z : Lit). U z b) (lit_back l (esc_in l b n e).0)
state_back_lem (Un l b j) n e = ap (λ (z : Lit). Un z b j) (lit_back l (esc_in l b n (and_true (leb j 6) (esc_fits l b n) e).1).0)
state_back_lem Chr n e = refl
state_back_lem (More t) n e = ap More (tail_back t)
state_back_lem Quote n e = refl
state_back_lem Slash n e = refl
state_back_lem Slash2 n e = refl
state_back_lem Line n e = refl
state_back_lem (Doc k) n e = refl
state_back_lem (DocCr k) n e = refl
state_back_lem Cr n e = refl
state_back_lem (Com d) n e = refl
state_back_lem (Star d) n e = refl
state_back_lem (Bar d) n e = refl
state_back_lem Refused n e = refl

pub utf_back : (u : Utf) (n : ℕ) → utf_fits u n ≡ true → utf_of (utf_code u) (utf_start u) ≡ u
unfolding utf_of
utf_back Whole n e = refl
utf_back (Mid T1 s) n e = refl
utf_back (Mid T2 s) n e = refl
utf_back (Mid T3 s) n e = refl
utf_back (Mid TE0 s) n e = refl
utf_back (Mid TED s) n e = refl
utf_back (Mid TF0 s) n e = refl
utf_back (Mid TF4 s) n e = refl
utf_back (Broke p) n e = refl
