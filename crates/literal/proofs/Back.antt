-- What was printed means the string that was printed.
use Rattle.std.specs.Prelude.{ℕ, Option, Some, None}
use Prim.Native.Nat.{ℕ, ◌-◌, ◌≤◌, ◌<◌}
use mathlib.Core.Path.{◌≡◌, refl, ap, ◌∙◌}
use mathlib.Core.Bool.{true}
use mathlib.Core.List.{List, [], ◌∷◌, ◌++◌}
use native.Mathlib.Nat.{add-zero}
use native.Mathlib.Omega.{arith}
use lib.ListN.{length, take}
use lib.Seq.{take_at}
use borrow.Author.Tests.{eq-eqb, ne_eqb}
use Rattle.text.specs.Booleans.{choose, next_is}
use Rattle.text.specs.Scans.{spelled, sought, later}
use Rattle.text.specs.Utf8.{scalar, encoded, seq_look, first_bad}
use Rattle.text.proofs.Encodes.{encoded_read}
use Rattle.literal.specs.Escapes.{simple_of, escape_of, stray_by, stray_look, no_escape, escape_look_by, escape_look, bad_escape, escape_piece_by, escape_piece, unescaped}
use Rattle.literal.specs.Literals.{shown, char_piece_by, char_piece, inside}
use Rattle.literal.proofs.Escaped.{Each, Ascii, meant}
use Rattle.literal.proofs.Pieces.{Over, over_piece, over_bytes, over_append, over_none, over_good, over_char, over_ascii, Gives, gives_none, gives_append, gives_piece, gives_bytes, gives_all, encoded_some, encoded_free, chars_by}
use Rattle.literal.proofs.Stands.{Escapes, Stands, escape, itself, pair_escapes, shown_stands}

-- ---- a printed string, piece by piece

pub inside_char : (q c : ℕ) → scalar c ≡ true → Gives (char_piece q) (encoded c) (shown q c)
inside_char q c s = gives_piece (char_piece q) (encoded c) (shown q c) (encoded_some c s) (λ ys. ap (char_piece_by q) (encoded_read c ys s))

-- P of a text and the string it stands for: what holds of nothing, and of one more piece before them, holds of what was printed
module _ (q : ℕ) (w : simple_of q ≡ Some q) (P : List ℕ → List ℕ → Type 0) (z : P [] [])
    (f : (x : List ℕ) (c : ℕ) (t s : List ℕ) → scalar c ≡ true → Stands q x c → P t s → P (x ++ t) (encoded c ++ s)) where
  pub printed_by : (s : List ℕ) → first_bad s ≡ None → P (inside q s) s
  unfolding inside spelled
  printed_by s h =
      chars_by (λ (l : List ℕ). P (spelled (char_piece q) 0 l) l) z
      (λ c l g k ih. rw (inside_char q c g l) (f (shown q c) c (spelled (char_piece q) 0 l) l g (shown_stands q c w g) ih)) s h

-- a search that goes past each piece goes past what was printed
pub printed_over : (q : ℕ) → simple_of q ≡ Some q → (p : List ℕ → Option ℕ) → ((x : List ℕ) (c : ℕ) → scalar c ≡ true → Stands q x c → Over p x)
    → (s : List ℕ) → first_bad s ≡ None → Over p (inside q s)
printed_over q w p f s h =
    printed_by q w (λ (t l : List ℕ). Over p t) (over_none p) (λ x c t l g k ih. over_append p x t (f x c g k) ih) s h

escapes_some : (x : List ℕ) (c : ℕ) → Escapes x c → 2 ≤ length x
escapes_some x c e = (meant (x ++ []) c (length x) (e.means [])).two

pub escapes_ascii : (x : List ℕ) (c : ℕ) → Escapes x c → Each Ascii x
escapes_ascii x c e =
    let t : take (length x) (x ++ []) ≡ x = take_at x [] (length x) refl in
    rw t at (meant (x ++ []) c (length x) (e.means [])).ascii

-- a search that goes past escapes as wholes
abbrev pub PastEscapes : (List ℕ → Option ℕ) → Type 0
PastEscapes p = (xs : List ℕ) (c n : ℕ) → scalar c ≡ true → escape_of xs ≡ Some (c, n) → p xs ≡ Some (n - 1)

-- and past other bytes one by one
abbrev pub PastBytes : ℕ → (List ℕ → Option ℕ) → Type 0
PastBytes q p = (x : ℕ) (ys : List ℕ) → (x ≡ 92 → ⊥) → (x ≡ q → ⊥) → p (x ∷ ys) ≡ Some 0

escapes_over : (p : List ℕ → Option ℕ) → PastEscapes p → (x : List ℕ) (c : ℕ) → scalar c ≡ true → Escapes x c → Over p x
escapes_over p f x c s e = over_piece p x (omega (arith, escapes_some x c e)) (λ ys. f (x ++ ys) c (length x) s (e.means ys))

each_two : (P Q : ℕ → Type 0) (xs : List ℕ) → Each P xs → Each Q xs → Each (λ (x : ℕ). P x × Q x) xs
each_two P Q [] a b = tt
each_two P Q (x ∷ xs) a b = ((a.0, b.0), each_two P Q xs a.1 b.1)

bytes_over : (q : ℕ) → q < 128 → (p : List ℕ → Option ℕ) → PastBytes q p → (c : ℕ) → (c ≡ 92 → ⊥) → (c ≡ q → ⊥) → Over p (encoded c)
bytes_over q h p f c m n =
    over_bytes p (λ (x : ℕ). (x ≡ 92 → ⊥) × (x ≡ q → ⊥)) (λ x ys a. f x ys a.0 a.1) (encoded c)
    (each_two (λ (x : ℕ). x ≡ 92 → ⊥) (λ (x : ℕ). x ≡ q → ⊥) (encoded c) (encoded_free 92 c (omega arith) m) (encoded_free q c h n))

-- past whatever stands for a character: past its escapes, and past the character itself
stands_over : (q : ℕ) (p : List ℕ → Option ℕ) → ((x : List ℕ) (c : ℕ) → scalar c ≡ true → Escapes x c → Over p x)
    → ((c : ℕ) → scalar c ≡ true → (c ≡ 92 → ⊥) → (c ≡ q → ⊥) → Over p (encoded c)) → (x : List ℕ) (c : ℕ) → scalar c ≡ true → Stands q x c → Over p x
stands_over q p f g x c s (escape e) = f x c s e
stands_over q p f g x c s (itself e m n) = rw e (g c s m n)

pub plain_byte : (x : ℕ) (ys : List ℕ) → (x ≡ 92 → ⊥) → escape_of (x ∷ ys) ≡ None
unfolding escape_of
plain_byte x ys h = rw (ne_eqb x 92 h)

plain_front : (xs ys : List ℕ) → 1 ≤ length xs → Each (λ (x : ℕ). x ≡ 92 → ⊥) xs → escape_of (xs ++ ys) ≡ None
plain_front [] ys h a = absurd (omega arith)
plain_front (x ∷ xs) ys h a = plain_byte x (xs ++ ys) a.0

-- no escape stands at a character but a backslash
pub plain_char : (c : ℕ) (ys : List ℕ) → scalar c ≡ true → (c ≡ 92 → ⊥) → escape_of (encoded c ++ ys) ≡ None
plain_char c ys s h = plain_front (encoded c) ys (encoded_some c s) (encoded_free 92 c (omega arith) h)

pub bare_gives : (c : ℕ) → (c ≡ 92 → ⊥) → Gives escape_piece (encoded c) (encoded c)
bare_gives c h =
    gives_bytes escape_piece (λ (x : ℕ). x ≡ 92 → ⊥) (λ x ys a. ap (escape_piece_by (x ∷ ys)) (plain_byte x ys a)) (encoded c) (encoded_free 92 c (omega arith) h)

pub stands_gives : (q : ℕ) (x : List ℕ) (c : ℕ) → Stands q x c → Gives escape_piece x (encoded c)
stands_gives q x c (escape e) =
    gives_piece escape_piece x (encoded c) (omega (arith, escapes_some x c e)) (λ ys. ap (escape_piece_by (x ++ ys)) (e.means ys))
stands_gives q x c (itself e m n) = rw e (bare_gives c m)

-- ---- the way back: for every string of characters, and each quote

-- a quote is a letter of the simple escapes, and stands for itself there
quote_ascii : (q : ℕ) → simple_of q ≡ Some q → q < 128
quote_ascii q w =
    let e : escape_of (92 ∷ q ∷ []) ≡ Some (q, 2) = (pair_escapes q q w).means [] in
    (meant (92 ∷ q ∷ []) q 2 e).ascii.1.0

-- a quote that no escape has taken
abbrev pub quote_look_by : ℕ → Option (ℕ × ℕ) → List ℕ → Option ℕ
quote_look_by q (Some (c, n)) xs = Some (n - 1)
quote_look_by q None xs = choose (next_is q xs) (λ u. None) (λ u. Some 0)

abbrev pub quote_look : ℕ → List ℕ → Option ℕ
quote_look q xs = quote_look_by q (escape_of xs) xs

quote_past_escapes : (q : ℕ) → PastEscapes (quote_look q)
quote_past_escapes q xs c n g e = ap (λ (r : Option (ℕ × ℕ)). quote_look_by q r xs) e

quote_past_bytes : (q : ℕ) → PastBytes q (quote_look q)
quote_past_bytes q x ys m n = ap (λ (r : Option (ℕ × ℕ)). quote_look_by q r (x ∷ ys)) (plain_byte x ys m) ∙ rw (ne_eqb x q n)

quote_stops : (q : ℕ) → (q ≡ 92 → ⊥) → (ys : List ℕ) → sought (quote_look q) 0 (q ∷ ys) ≡ Some 0
unfolding sought
quote_stops q n ys = rw (plain_byte q ys n, eq-eqb q q refl)

module _ (q : ℕ) (w : simple_of q ≡ Some q) (s : List ℕ) (h : first_bad s ≡ None) where
  -- what was printed means the string, whatever comes behind it
  pub inside_gives : Gives escape_piece (inside q s) s
  inside_gives = printed_by q w (λ (t l : List ℕ). Gives escape_piece t l) (gives_none escape_piece) (λ x c t l g k ih. gives_append escape_piece x t (encoded c) l (stands_gives q x c k) ih) s h

  pub unescaped_inside : unescaped (inside q s) ≡ s
  unfolding unescaped
  unescaped_inside = gives_all escape_piece (inside q s) s inside_gives

  -- a search by bytes that stops at none of the pieces goes past what was printed
  pub bytes_over_inside : (p : List ℕ → Option ℕ) → PastEscapes p → PastBytes q p → Over p (inside q s)
  bytes_over_inside p f k = printed_over q w p (stands_over q p (escapes_over p f) (λ c g m n. bytes_over q (quote_ascii q w) p k c m n)) s h

  -- no escape is bad
  pub inside_scalars : bad_escape (inside q s) ≡ None
  unfolding bad_escape
  inside_scalars =
      over_good escape_look (inside q s)
      (bytes_over_inside escape_look (λ xs c n g e. ap escape_look_by e ∙ rw g) (λ x ys m n. ap escape_look_by (plain_byte x ys m)))

  -- no backslash begins none
  pub inside_escapes : no_escape (inside q s) ≡ None
  unfolding no_escape
  inside_escapes =
      over_good stray_look (inside q s)
      (bytes_over_inside stray_look (λ xs c n g e. ap (λ (r : Option (ℕ × ℕ)). stray_by r xs) e)
      (λ x ys m n. ap (λ (r : Option (ℕ × ℕ)). stray_by r (x ∷ ys)) (plain_byte x ys m) ∙ rw (ne_eqb x 92 m)))

  -- it is UTF-8
  pub inside_utf8 : first_bad (inside q s) ≡ None
  unfolding first_bad
  inside_utf8 = over_good seq_look (inside q s) (printed_over q w seq_look (stands_over q seq_look (λ x c g e. over_ascii x (escapes_ascii x c e)) (λ c g m n. over_char c g)) s h)

  -- and the quote is met at the start of none of its pieces: it is first met behind it
  pub inside_unquoted : sought (quote_look q) 0 (inside q s) ≡ None
  inside_unquoted = over_good (quote_look q) (inside q s) (bytes_over_inside (quote_look q) (quote_past_escapes q) (quote_past_bytes q))

  pub inside_closed : (q ≡ 92 → ⊥) → (ys : List ℕ) → sought (quote_look q) 0 (inside q s ++ (q ∷ ys)) ≡ Some (length (inside q s))
  inside_closed n ys =
      bytes_over_inside (quote_look q) (quote_past_escapes q) (quote_past_bytes q) (q ∷ ys)
      ∙ (ap (later (length (inside q s))) (quote_stops q n ys) ∙ ap Some (add-zero (length (inside q s))))
