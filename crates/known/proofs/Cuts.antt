-- A character in a store and in the store cut short at e: it is the same, or it was cut.
use Rattle.std.specs.Prelude.{Some}
use Prim.Native.Nat.{ℕ, zero, suc, ◌-◌, ◌≤◌, ◌<◌}
use mathlib.Core.Path.{◌≡◌, sym, ◌∙◌}
use mathlib.Core.Bool.{false}
use mathlib.Core.List.{List, [], ◌∷◌, ◌++◌}
use native.Mathlib.Omega.{arith}
use lib.ListN.{get_or, take, drop, take-append-drop}
use lib.Seq.{take-nil}
use Rattle.text.specs.Booleans.{within}
use Rattle.text.specs.Utf8.{char_of, Tail}
use Rattle.text.proofs.Tests.{within_low, within_high}
use Rattle.text.proofs.Decodes.{Found, one, two, three, four, found}
use Rattle.text.proofs.Encodes.{found_read}

pub drop_take : (i e : ℕ) (l : List ℕ) → drop i (take e l) ≡ take (e - i) (drop i l)
drop_take zero e l = let z : e - 0 ≡ e = omega arith in rw z
drop_take (suc i) zero l = let z : 0 - suc i ≡ 0 = omega arith in rw z
drop_take (suc i) (suc e) [] = sym (take-nil (suc e - suc i))
drop_take (suc i) (suc e) (x ∷ l) = let z : suc e - suc i ≡ e - i = omega arith in drop_take i e l ∙ rw z

-- bytes after a character don't matter
longer : {ys : List ℕ} {c n : ℕ} (zs : List ℕ) → Found ys c n → Found (ys ++ zs) c n
longer zs (one h) = one h
longer zs (two l h t e s g) = two l h t e s g
longer zs (three l h t u e s g) = three l h t u e s g
longer zs (four l h t u v e s g) = four l h t u v e s g

shorter : {xs : List ℕ} {c n : ℕ} (m : ℕ) → n ≤ m → Found xs c n → Found (take m xs) c n
shorter zero k (one h) = absurd (omega arith)
shorter (suc m) k (one h) = one h
shorter zero k (two l h t e s g) = absurd (omega arith)
shorter (suc zero) k (two l h t e s g) = absurd (omega arith)
shorter (suc (suc m)) k (two l h t e s g) = two l h t e s g
shorter zero k (three l h t u e s g) = absurd (omega arith)
shorter (suc zero) k (three l h t u e s g) = absurd (omega arith)
shorter (suc (suc zero)) k (three l h t u e s g) = absurd (omega arith)
shorter (suc (suc (suc m))) k (three l h t u e s g) = three l h t u e s g
shorter zero k (four l h t u v e s g) = absurd (omega arith)
shorter (suc zero) k (four l h t u v e s g) = absurd (omega arith)
shorter (suc (suc zero)) k (four l h t u v e s g) = absurd (omega arith)
shorter (suc (suc (suc zero))) k (four l h t u v e s g) = absurd (omega arith)
shorter (suc (suc (suc (suc m)))) k (four l h t u v e s g) = four l h t u v e s g

pub cut_char : (st : List ℕ) (i e c n : ℕ) → char_of (drop i st) ≡ Some (c, n) → n ≤ e - i → char_of (drop i (take e st)) ≡ Some (c, n)
cut_char st i e c n h l = rw (drop_take i e st) (found_read (shorter (e - i) l (found (drop i st) c n h)))

pub uncut_char : (st : List ℕ) (i e c n : ℕ) → char_of (drop i (take e st)) ≡ Some (c, n) → char_of (drop i st) ≡ Some (c, n)
uncut_char st i e c n h =
    let f = longer (drop (e - i) (drop i st)) (found (take (e - i) (drop i st)) c n (rw (drop_take i e st) at h)) in
    found_read (rw (take-append-drop (e - i) (drop i st)) at f)

-- a character's first byte is no tail, and its others are
pub head_byte : {xs : List ℕ} {c n : ℕ} → Found xs c n → within 0x80 0xbf (get_or xs 0 0) ≡ false
head_byte (one {x} h) = within_low 0x80 0xbf x h
head_byte (two {x} l h t e s g) = within_high 0x80 0xbf x (omega arith)
head_byte (three {x} l h t u e s g) = within_high 0x80 0xbf x (omega arith)
head_byte (four {x} l h t u v e s g) = within_high 0x80 0xbf x (omega arith)

pub tail_byte : {xs : List ℕ} {c n : ℕ} (k : ℕ) → 0 < k → k < n → Found xs c n → Tail (get_or xs k 0)
tail_byte zero p q f = absurd (omega arith)
tail_byte (suc k) p q (one h) = absurd (omega arith)
tail_byte (suc zero) p q (two l h t e s g) = t
tail_byte (suc (suc k)) p q (two l h t e s g) = absurd (omega arith)
tail_byte (suc zero) p q (three l h t u e s g) = t
tail_byte (suc (suc zero)) p q (three l h t u e s g) = u
tail_byte (suc (suc (suc k))) p q (three l h t u e s g) = absurd (omega arith)
tail_byte (suc zero) p q (four l h t u v e s g) = t
tail_byte (suc (suc zero)) p q (four l h t u v e s g) = u
tail_byte (suc (suc (suc zero))) p q (four l h t u v e s g) = v
tail_byte (suc (suc (suc (suc k)))) p q (four l h t u v e s g) = absurd (omega arith)
