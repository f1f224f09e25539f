-- What completes a text is made of bytes.
use Prim.Native.Nat.{ℕ, zero, suc}
use mathlib.Core.Path.{refl}
use mathlib.Core.List.{List, [], ◌∷◌}
use lib.Dec.{ltb, eqb}
use lib.ListN.{drop}
use Rattle.text.specs.Booleans.{or, all}
use Rattle.text.proofs.Booleans.{and_true, choose_by}
use Rattle.token.specs.Tokens.{push_literal}
use Rattle.states.specs.declared.Lit.{Lit}
use Rattle.states.specs.declared.Lit.TheVariants.{Text, One}
use Rattle.states.specs.declared.Tail.{Tail}
use Rattle.states.specs.declared.Tail.TheVariants.{T1, T2, T3, TE0, TED, TF0, TF4}
use Rattle.states.specs.declared.State.{State}
use Rattle.states.specs.declared.State.TheVariants.{Start, Word, Push, Num, Hash, Tag, Dot, Caret, Minus, Zeros, Negative, Str, Esc, X0, X1, U, Un, Chr, More, Quote, Slash, Slash2, Line, Doc, DocCr, Cr, Com, Star, Bar, Refused}
use Rattle.states.specs.declared.Utf.{Utf}
use Rattle.states.specs.declared.Utf.TheVariants.{Whole, Mid, Broke}
use Rattle.states.specs.Machine.{closers, mark, braced, missing, completion}
use Rattle.states.specs.Utf.{utf_rest}
use Rattle.states.specs.Free.{Bytes}

drop_bytes : (xs : List ℕ) (n : ℕ) → Bytes xs → Bytes (drop n xs)
unfolding all
drop_bytes [] zero h = h
drop_bytes [] (suc n) h = h
drop_bytes (x ∷ xs) zero h = h
drop_bytes (x ∷ xs) (suc n) h = drop_bytes xs n (and_true (ltb x 256) (all (λ b. ltb b 256) xs) h).1

push_bytes : (n : ℕ) → Bytes (completion Push n)
unfolding all
push_bytes n = choose_by Bytes (or (ltb n 5) (eqb n 12)) _ _ (λ e. refl) (λ e. drop_bytes push_literal n refl)

com_bytes : (d : ℕ) → Bytes (closers d)
unfolding all
com_bytes zero = refl
com_bytes (suc zero) = refl
com_bytes (suc (suc d)) = com_bytes (suc d)

un_bytes : (l : Lit) (j : ℕ) → Bytes (braced j (mark l ∷ []))
unfolding all
un_bytes (Text k) zero = refl
un_bytes One zero = refl
un_bytes (Text k) (suc zero) = refl
un_bytes One (suc zero) = refl
un_bytes (Text k) (suc (suc j)) = refl
un_bytes One (suc (suc j)) = refl

lit_bytes : (l : Lit) (b n : ℕ) → Bytes (completion (Esc l b) n) × Bytes (completion (X0 l b) n) × Bytes (completion (X1 l b) n) × Bytes (completion (U l b) n)
unfolding all
lit_bytes (Text k) b n = (refl, refl, refl, refl)
lit_bytes One b n = (refl, refl, refl, refl)

more_bytes : (t : Tail) (n : ℕ) → Bytes (missing t) × Bytes (completion (More t) n)
unfolding all
more_bytes T1 n = (refl, refl)
more_bytes T2 n = (refl, refl)
more_bytes T3 n = (refl, refl)
more_bytes TE0 n = (refl, refl)
more_bytes TED n = (refl, refl)
more_bytes TF0 n = (refl, refl)
more_bytes TF4 n = (refl, refl)

pub completion_bytes : (q : State) (n : ℕ) → Bytes (completion q n)
unfolding all
completion_bytes Start n = refl
completion_bytes Word n = refl
completion_bytes Push n = push_bytes n
completion_bytes Num n = refl
completion_bytes Hash n = refl
completion_bytes Tag n = refl
completion_bytes Dot n = refl
completion_bytes Caret n = refl
completion_bytes Minus n = refl
completion_bytes Zeros n = refl
completion_bytes Negative n = refl
completion_bytes (Str k) n = refl
completion_bytes (Esc l b) n = (lit_bytes l b n).0
completion_bytes (X0 l b) n = (lit_bytes l b n).1
completion_bytes (X1 l b) n = (lit_bytes l b n).2
completion_bytes (U l b) n = (lit_bytes l b n).3
completion_bytes (Un l b j) n = un_bytes l j
completion_bytes Chr n = refl
completion_bytes (More t) n = (more_bytes t n).1
completion_bytes Quote n = refl
completion_bytes Slash n = refl
completion_bytes Slash2 n = refl
completion_bytes Line n = refl
completion_bytes (Doc k) n = refl
completion_bytes (DocCr k) n = refl
completion_bytes Cr n = refl
completion_bytes (Com d) n = com_bytes d
completion_bytes (Star d) n = com_bytes d
completion_bytes (Bar d) n = com_bytes d
completion_bytes Refused n = refl

pub rest_bytes : (u : Utf) → Bytes (utf_rest u)
unfolding all
rest_bytes Whole = refl
rest_bytes (Mid t s) = (more_bytes t 0).0
rest_bytes (Broke p) = refl

pub no_bytes : Bytes []
unfolding all
no_bytes = refl

pub digit_byte : Bytes (48 ∷ [])
unfolding all
digit_byte = refl
