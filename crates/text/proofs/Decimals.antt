-- Laws of decimals: how a number is written, and what digits are worth.
use Rattle.std.specs.Prelude.{ℕ, Result, Ok, Err}
use Prim.Native.Nat.{ℕ, zero, suc, ◌+◌, ◌-◌, ◌*◌, ◌/◌, ◌%◌, ◌≤◌, ◌<◌}
use mathlib.Core.Path.{◌≡◌, refl, sym, ap, ◌∙◌}
use mathlib.Core.Bool.{false}
use mathlib.Core.List.{List, [], ◌∷◌, ◌++◌, append_assoc, append-nil}
use mathlib.Core.Logic.{⊎_elim}
use native.Mathlib.Omega.{arith}
use lib.Dec.{leb}
use lib.ListN.{length, get_or, drop, length-append}
use borrow.Author.Tests.{lt-ltb, le-ltb, le-leb, lt-leb}
use Rattle.text.specs.Booleans.{choose}
use Rattle.text.specs.Classes.{digit}
use Rattle.text.specs.Digits.{digits, decimal, decimal_from, decimal_of}
use Rattle.text.specs.declared.DecimalError.{DecimalError}
use Rattle.text.proofs.Tests.{lt_or_ge, at_byte, at_end, within_yes}
use Rattle.text.proofs.Booleans.{choose_by}

digits_one : (k n : ℕ) → n < 10 → digits (suc k) n ≡ (48 + n) ∷ []
unfolding digits
digits_one k n h = rw (lt-ltb n 10 h)

digits_more : (k n : ℕ) → 10 ≤ n → digits (suc k) n ≡ digits k (n / 10) ++ ((48 + n % 10) ∷ [])
unfolding digits
digits_more k n h = rw (le-ltb n 10 h)

-- enough is enough
digits_same : (j k n : ℕ) → n < j → n < k → digits j n ≡ digits k n
digits_same zero k n h g = absurd (omega arith)
digits_same (suc j) zero n h g = absurd (omega arith)
digits_same (suc j) (suc k) n h g =
    ⊎_elim (λ l. digits_one j n l ∙ sym (digits_one k n l))
    (λ m. digits_more j n m ∙ ap (λ (x : List ℕ). x ++ ((48 + n % 10) ∷ [])) (digits_same j k (n / 10) (omega arith) (omega arith)) ∙ sym (digits_more k n m))
    (lt_or_ge n 10)

pub decimal_one : (n : ℕ) → n < 10 → decimal n ≡ (48 + n) ∷ []
unfolding decimal
decimal_one n h = digits_one n n h

pub decimal_more : (n : ℕ) → 10 ≤ n → decimal n ≡ decimal (n / 10) ++ ((48 + n % 10) ∷ [])
unfolding decimal
decimal_more n h = digits_more n n h ∙ ap (λ (x : List ℕ). x ++ ((48 + n % 10) ∷ [])) (digits_same n (suc (n / 10)) (n / 10) (omega arith) (omega arith))

-- one more digit, a byte that is none, and the end
from_digit : (limit v x : ℕ) (xs : List ℕ) → 48 ≤ x → x ≤ 57 → decimal_from limit v (x ∷ xs) ≡ decimal_from limit (v * 10 + (x - 48)) xs
unfolding decimal_from
from_digit limit v x xs l h = rw (within_yes 48 57 x l h)

-- a limit that is exceeded stays so
from_over : (limit v w : ℕ) (xs : List ℕ) → limit < v → limit < w → decimal_from limit v xs ≡ decimal_from limit w xs
unfolding decimal_from
from_over limit v w [] h g = rw (lt-leb v limit h, lt-leb w limit g)
from_over limit v w (x ∷ xs) h g =
    choose_by
    (λ (r : Result ℕ DecimalError). r ≡ choose (digit x) (λ u. decimal_from limit (w * 10 + (x - 48)) xs) (λ u. Err DecimalError.NotDigits)) (digit x)
    (λ u. decimal_from limit (v * 10 + (x - 48)) xs) (λ u. Err DecimalError.NotDigits)
    (λ t. rw t (from_over limit (v * 10 + (x - 48)) (w * 10 + (x - 48)) xs (omega arith) (omega arith))) (λ f. rw f)

-- a turn of the loop: one more digit, unless the limit is exceeded already
pub from_step : (limit v x w : ℕ) (s : List ℕ) (i : ℕ) → i < length s → x ≡ get_or s i 0 → 48 ≤ x → x ≤ 57
    → w ≡ choose (leb v limit) (λ u. v * 10 + (x - 48)) (λ u. v) → decimal_from limit v (drop i s) ≡ decimal_from limit w (drop (i + 1) s)
from_step limit v x w s i h b l g e =
    ⊎_elim
    (λ o.
    let f : w ≡ v = e ∙ rw (lt-leb v limit o) in
    rw (at_byte s i h, ← b, from_digit limit v x (drop (i + 1) s) l g, f) (from_over limit (v * 10 + (x - 48)) v (drop (i + 1) s) (omega arith) o))
    (λ o.
    let f : w ≡ v * 10 + (x - 48) = e ∙ rw (le-leb v limit o) in
    rw (at_byte s i h, ← b, from_digit limit v x (drop (i + 1) s) l g, f))
    (lt_or_ge limit v)

pub from_stop : (limit v x : ℕ) (s : List ℕ) (i : ℕ) → i < length s → x ≡ get_or s i 0 → digit x ≡ false → decimal_from limit v (drop i s) ≡ Err DecimalError.NotDigits
unfolding decimal_from
from_stop limit v x s i h b e = rw (at_byte s i h, ← b, e)

pub from_end : (limit v : ℕ) (s : List ℕ) (i : ℕ) → length s ≤ i → decimal_from limit v (drop i s) ≡ choose (leb v limit) (λ u. Ok v) (λ u. Err DecimalError.Over)
unfolding decimal_from
from_end limit v s i h = rw (at_end s i h)

-- what was written is worth the number
written_one : (limit n : ℕ) (ys : List ℕ) → n < 10 → decimal_from limit 0 ((48 + n) ∷ ys) ≡ decimal_from limit n ys
written_one limit n ys h =
    from_digit limit 0 (48 + n) ys (omega arith) (omega arith) ∙ ap (λ (v : ℕ). decimal_from limit v ys) (omega arith)

written_last : (limit n : ℕ) (ys : List ℕ) → decimal_from limit (n / 10) ((48 + n % 10) ∷ ys) ≡ decimal_from limit n ys
written_last limit n ys =
    from_digit limit (n / 10) (48 + n % 10) ys (omega arith) (omega arith) ∙ ap (λ (v : ℕ). decimal_from limit v ys) (omega arith)

from_written : (limit n k : ℕ) (ys : List ℕ) → n < k → decimal_from limit 0 (digits k n ++ ys) ≡ decimal_from limit n ys
from_written limit n zero ys h = absurd (omega arith)
from_written limit n (suc k) ys h =
    ⊎_elim (λ l. rw (digits_one k n l) (written_one limit n ys l))
    (λ m.
    let e : (digits k (n / 10) ++ ((48 + n % 10) ∷ [])) ++ ys ≡ digits k (n / 10) ++ ((48 + n % 10) ∷ ys) = append_assoc (digits k (n / 10)) ((48 + n % 10) ∷ []) ys in
    let g : n / 10 < k = omega arith in
    rw (digits_more k n m, e) (from_written limit (n / 10) k ((48 + n % 10) ∷ ys) g ∙ written_last limit n ys))
    (lt_or_ge n 10)

from_none : (limit n : ℕ) → n ≤ limit → decimal_from limit n [] ≡ Ok n
unfolding decimal_from
from_none limit n h = rw (le-leb n limit h)

pub decimal_nonempty : (n : ℕ) → 1 ≤ length (decimal n)
decimal_nonempty n =
    ⊎_elim (λ l. rw (decimal_one n l) (omega arith)) (λ m. rw (decimal_more n m, length-append) (omega arith)) (lt_or_ge n 10)

pub of_none : (limit : ℕ) (s : List ℕ) → length s ≡ 0 → decimal_of limit s ≡ Err DecimalError.NotDigits
unfolding decimal_of
of_none limit [] h = refl
of_none limit (x ∷ xs) h = absurd (omega arith)

pub of_from : (limit : ℕ) (s : List ℕ) → (length s ≡ 0 → ⊥) → decimal_of limit s ≡ decimal_from limit 0 s
unfolding decimal_of
of_from limit [] h = absurd (h refl)
of_from limit (x ∷ xs) h = refl

pub decimal_back : (limit n : ℕ) → n ≤ limit → decimal_of limit (decimal n) ≡ Ok n
unfolding decimal
decimal_back limit n h =
    of_from limit (digits (suc n) n) (λ z. omega (arith, decimal_nonempty n))
    ∙ (ap (decimal_from limit 0) (sym (append-nil (digits (suc n) n)))
    ∙ (from_written limit n (suc n) [] (omega arith) ∙ from_none limit n h))
