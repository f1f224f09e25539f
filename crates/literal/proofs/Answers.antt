-- What the entry points answer and leave in the buffer, case by case, from what their checks found.
use Rattle.std.specs.Prelude.{Some, None, Ok, Err}
use Prim.Native.Nat.{ℕ, ◌+◌, ◌≤◌, ◌<◌}
use mathlib.Core.Path.{◌≡◌, refl, sym, ap, ◌∙◌}
use mathlib.Core.List.{List}
use native.Mathlib.Nat.{zero-add}
use lib.ListN.{length}
use borrow.Author.Tests.{le-leb, lt-leb}
use Rattle.text.specs.Splice.{Room, Wrote, spent}
use Rattle.text.specs.Utf8.{first_bad}
use Rattle.text.proofs.Splices.{spent_over, spent_fits, wrote_front}
use Rattle.literal.specs.declared.Quote.{Quote}
use Rattle.literal.specs.declared.UnescapeError.{UnescapeError}
use Rattle.literal.specs.declared.FormatError.{FormatError}
use Rattle.literal.specs.Escapes.{no_escape, bad_escape, unescaped, unescape_of, unescape_in}
use Rattle.literal.specs.Literals.{literal, quote_byte, format_of, format_in}

-- the room that was measured, one more than there is, is spent, or not
pub over : (n k : ℕ) (x : List ℕ) → k ≡ spent (n + 1) x → k ≡ 0 → n < length x
over n k x e z = spent_over n x (sym e ∙ z)

pub fits : (n k : ℕ) (x : List ℕ) → k ≡ spent (n + 1) x → (k ≡ 0 → ⊥) → length x ≤ n
fits n k x e z = spent_fits n x (λ y. z (e ∙ y))

pub room : {o : List ℕ} (k : ℕ) (x : List ℕ) → k ≡ spent (length o + 1) x → (k ≡ 0 → ⊥) → Room o 0 x
room {o} k x e z = record { fits = rw zero-add (fits (length o) k x e z) }

-- ---- `unescape`

module _ (s o : List ℕ) where
  pub unescape_not_utf8 : (i : ℕ) → first_bad s ≡ Some i → (Err (UnescapeError.NotUtf8 i) ≡ unescape_of s (length o)) × (o ≡ unescape_in s o (Err (UnescapeError.NotUtf8 i)))
  unfolding unescape_of unescape_in
  unescape_not_utf8 i u = (rw u, refl)

  pub unescape_no_escape : (i : ℕ) → first_bad s ≡ None → no_escape s ≡ Some i
      → (Err (UnescapeError.NoEscape i) ≡ unescape_of s (length o)) × (o ≡ unescape_in s o (Err (UnescapeError.NoEscape i)))
  unfolding unescape_of unescape_in
  unescape_no_escape i u e = (rw (u, e), refl)

  pub unescape_not_scalar : (i : ℕ) → first_bad s ≡ None → no_escape s ≡ None → bad_escape s ≡ Some i
      → (Err (UnescapeError.NotScalar i) ≡ unescape_of s (length o)) × (o ≡ unescape_in s o (Err (UnescapeError.NotScalar i)))
  unfolding unescape_of unescape_in
  unescape_not_scalar i u e b = (rw (u, e, b), refl)

  module _ (u : first_bad s ≡ None) (e : no_escape s ≡ None) (b : bad_escape s ≡ None) (k : ℕ) (m : k ≡ spent (length o + 1) (unescaped s)) where
    pub unescape_no_room : k ≡ 0 → (Err UnescapeError.NoRoom ≡ unescape_of s (length o)) × (o ≡ unescape_in s o (Err UnescapeError.NoRoom))
    unfolding unescape_of unescape_in
    unescape_no_room z = (rw (u, e, b, lt-leb (length (unescaped s)) (length o) (over (length o) k (unescaped s) m z)), refl)

    pub unescape_wrote : (k ≡ 0 → ⊥) → {o' : List ℕ} {r : ℕ} → Wrote o 0 (unescaped s) o' r
        → (Ok r ≡ unescape_of s (length o)) × (o' ≡ unescape_in s o (Ok r))
    unfolding unescape_of unescape_in
    unescape_wrote z w =
        let f : length (unescaped s) ≤ length o = fits (length o) k (unescaped s) m z in
        let v = wrote_front w f in
        (rw (u, e, b, le-leb (length (unescaped s)) (length o) f) (ap Ok v.1), v.0)

-- ---- `fmt_literal`

module _ (s : List ℕ) (q : Quote) (o : List ℕ) where
  pub format_not_utf8 : (i : ℕ) → first_bad s ≡ Some i → (Err (FormatError.NotUtf8 i) ≡ format_of s q (length o)) × (o ≡ format_in s q o (Err (FormatError.NotUtf8 i)))
  unfolding format_of format_in
  format_not_utf8 i u = (rw u, refl)

  module _ (u : first_bad s ≡ None) (b : ℕ) (p : b ≡ quote_byte q) (k : ℕ) (m : k ≡ spent (length o + 1) (literal b s)) where
    pub format_no_room : k ≡ 0 → (Err FormatError.NoRoom ≡ format_of s q (length o)) × (o ≡ format_in s q o (Err FormatError.NoRoom))
    unfolding format_of format_in
    format_no_room z = (rw (← p, u, lt-leb (length (literal b s)) (length o) (over (length o) k (literal b s) m z)), refl)

    pub format_wrote : (k ≡ 0 → ⊥) → {o' : List ℕ} {r : ℕ} → Wrote o 0 (literal b s) o' r
        → (Ok r ≡ format_of s q (length o)) × (o' ≡ format_in s q o (Ok r))
    unfolding format_of format_in
    format_wrote z w =
        let f : length (literal b s) ≤ length o = fits (length o) k (literal b s) m z in
        let v = wrote_front w f in
        (rw (← p, u, le-leb (length (literal b s)) (length o) f) (ap Ok v.1), rw (← p) v.0)
