-- What the numbers of a state are at most, and where a byte waits.
use Prim.Native.Nat.{ℕ, ◌≤◌, ◌<◌}
use mathlib.Core.Path.{◌≡◌, refl}
use mathlib.Core.Bool.{Bool, true, false}
use native.Mathlib.Omega.{arith}
use lib.Dec.{eqb, ltb, leb}
use borrow.Author.Tests.{eqb-true, leb-true, ltb-true}
use Rattle.text.specs.Booleans.{or}
use Rattle.text.proofs.Booleans.{and_true}
use Rattle.states.specs.declared.Lit.{Lit}
use Rattle.states.specs.declared.Tail.{Tail}
use Rattle.states.specs.declared.Tail.TheVariants.{T1, T2, T3, TE0, TED, TF0, TF4}
use Rattle.states.specs.declared.State.TheVariants.{Str, Un, Doc, Start, Word, Push, Num, Hash, Tag, Dot, Caret, Minus, Zeros, Negative, Esc, X0, X1, U, Chr, More, Quote, Slash, Slash2, Line, DocCr, Cr, Com, Star, Bar, Refused}
use Rattle.states.specs.Keep.{tail_code, is_text, is_doc, esc_fits, com_fits, state_fits, waiting}
use Rattle.states.proofs.Fits.{esc_in, com_in}
use mathlib.Core.Logic.{◌⊎◌, inl, inr}
use Rattle.states.specs.declared.State.{State}

one_of : (k m n : ℕ) (b : Bool) → eqb k m ≡ b → or b (eqb k n) ≡ true → m ≤ 255 → n ≤ 255 → k ≤ 255
one_of k m n true e f h g = let z : k ≡ m = eqb-true k m e in omega arith
one_of k m n false e f h g = let z : k ≡ n = eqb-true k n f in omega arith

pub text_small : (k n : ℕ) → state_fits (Str k) n ≡ true → k ≤ 255
text_small k n e = one_of k 23 24 (eqb k 23) refl (and_true (is_text k) (ltb 0 n) e).0 (omega arith) (omega arith)

pub doc_small : (k n : ℕ) → state_fits (Doc k) n ≡ true → k ≤ 255
doc_small k n e = one_of k 26 27 (eqb k 26) refl (and_true (is_doc k) (ltb 0 n) e).0 (omega arith) (omega arith)

pub esc_small : (l : Lit) (b n : ℕ) → esc_fits l b n ≡ true → b ≤ n
esc_small l b n e = let h : b < n = (esc_in l b n e).1 in omega arith

pub un_small : (l : Lit) (b j n : ℕ) → state_fits (Un l b j) n ≡ true → (j ≤ 6) × (b ≤ n)
un_small l b j n e = let h = and_true (leb j 6) (esc_fits l b n) e in (leb-true j 6 h.0, esc_small l b n h.1)

pub bar_small : (d n : ℕ) → com_fits d n ≡ true → d ≤ n
bar_small d n e = (com_in d n e).1

pub tail_small : (t : Tail) → tail_code t ≤ 6
tail_small T1 = omega arith
tail_small T2 = omega arith
tail_small T3 = omega arith
tail_small TE0 = omega arith
tail_small TED = omega arith
tail_small TF0 = omega arith
tail_small TF4 = omega arith

-- where a byte waits, another was counted
pub wait_some : (q : State) (n : ℕ) → state_fits q n ≡ true → (waiting q ≡ 0) ⊎ ((waiting q ≡ 1) × (0 < n))
wait_some Start n e = inl refl
wait_some Word n e = inl refl
wait_some Push n e = inl refl
wait_some Num n e = inl refl
wait_some Hash n e = inl refl
wait_some Tag n e = inl refl
wait_some Dot n e = inl refl
wait_some Caret n e = inl refl
wait_some Minus n e = inl refl
wait_some Zeros n e = inl refl
wait_some Negative n e = inl refl
wait_some (Str k) n e = inl refl
wait_some (Esc l b) n e = inl refl
wait_some (X0 l b) n e = inl refl
wait_some (X1 l b) n e = inl refl
wait_some (U l b) n e = inl refl
wait_some (Un l b j) n e = inl refl
wait_some Chr n e = inl refl
wait_some (More t) n e = inl refl
wait_some Quote n e = inl refl
wait_some Slash n e = inl refl
wait_some Slash2 n e = inl refl
wait_some Line n e = inl refl
wait_some (Doc k) n e = inl refl
wait_some (DocCr k) n e = inr (refl, ltb-true 0 n (and_true (is_doc k) (ltb 0 n) e).1)
wait_some Cr n e = inl refl
wait_some (Com d) n e = inl refl
wait_some (Star d) n e = let h = com_in d n e in let g : 0 < d = h.0 in let f : d ≤ n = h.1 in inr (refl, omega arith)
wait_some (Bar d) n e = let h = com_in d n e in let g : 0 < d = h.0 in let f : d ≤ n = h.1 in inr (refl, omega arith)
wait_some Refused n e = inl refl
