-- Walks that go past one text after another, whatever comes behind them; and strings character by character.
use Rattle.std.specs.Prelude.{ℕ, Option, Some, None}
use Prim.Native.Nat.{ℕ, zero, suc, ◌+◌, ◌-◌, ◌≤◌, ◌<◌}
use mathlib.Core.Path.{◌≡◌, refl, sym, ap, ◌∙◌}
use mathlib.Core.Bool.{true}
use mathlib.Core.List.{List, [], ◌∷◌, ◌++◌, append_assoc, append-nil}
use native.Mathlib.Omega.{arith}
use lib.Dec.{ltb}
use lib.ListN.{length, drop, length-append, take-append-drop}
use lib.Seq.{drop_at}
use Rattle.text.specs.Scans.{Piece, spelled, sought, later}
use Rattle.text.specs.Utf8.{scalar, encoded, char_of, look_by, seq_look, first_bad}
use Rattle.text.proofs.Decodes.{decoded, Found}
use Rattle.text.proofs.Encodes.{encoded_read, found_read}
use Rattle.text.proofs.Walks.{later_zero, later_later, past_head, sought_pending, head_step}
use Rattle.text.proofs.Booleans.{choose_by}
use Rattle.literal.proofs.Escaped.{Each, Ascii}

pub later_good : (k : ℕ) (r : Option ℕ) → later k r ≡ None → r ≡ None
later_good k None e = refl
later_good k (Some n) e = let z : ◌≡◌ {A = ℕ} 0 1 = cc in absurd (omega arith)

-- ---- a search goes past x

abbrev pub Over : (List ℕ → Option ℕ) → List ℕ → Type 0
Over p x = (ys : List ℕ) → sought p 0 (x ++ ys) ≡ later (length x) (sought p 0 ys)

module _ (p : List ℕ → Option ℕ) where
  pub over_none : Over p []
  over_none ys = sym (later_zero (sought p 0 ys))

  pub over_append : (x y : List ℕ) → Over p x → Over p y → Over p (x ++ y)
  over_append x y a b ys =
      ap (sought p 0) (append_assoc x y ys)
      ∙ (a (y ++ ys)
      ∙ (ap (later (length x)) (b ys) ∙ (later_later (length x) (length y) (sought p 0 ys) ∙ ap (λ (n : ℕ). later n (sought p 0 ys)) (sym (length-append x y)))))

  -- one piece
  pub over_piece : (x : List ℕ) → 1 ≤ length x → ((ys : List ℕ) → p (x ++ ys) ≡ Some (length x - 1)) → Over p x
  over_piece [] h e ys = absurd (omega arith)
  over_piece (x ∷ xs) h e ys =
      let k : suc (length xs) - 1 ≡ length xs = omega arith in
      let d : drop (length xs) (xs ++ ys) ≡ ys = drop_at xs ys (length xs) refl in
      let l : 1 + length xs ≡ suc (length xs) = omega arith in
      past_head p x (xs ++ ys) (length xs) (e ys ∙ ap Some k)
      ∙ (ap (later 1) (sought_pending p (length xs) (xs ++ ys))
      ∙ (later_later 1 (length xs) (sought p 0 (drop (length xs) (xs ++ ys))) ∙ rw (d, l)))

  -- a piece for each byte
  pub over_bytes : (P : ℕ → Type 0) → ((x : ℕ) (ys : List ℕ) → P x → p (x ∷ ys) ≡ Some 0) → (xs : List ℕ) → Each P xs → Over p xs
  over_bytes P f [] a = over_none
  over_bytes P f (x ∷ xs) a =
      over_append (x ∷ []) xs (over_piece (x ∷ []) (omega arith) (λ ys. f x ys a.0)) (over_bytes P f xs a.1)

  -- to the end
  pub over_good : (x : List ℕ) → Over p x → sought p 0 x ≡ None
  unfolding sought
  over_good x a = ap (sought p 0) (sym (append-nil x)) ∙ a []

  -- what comes behind is good if all is
  pub over_rest : (x ys : List ℕ) → Over p x → sought p 0 (x ++ ys) ≡ None → sought p 0 ys ≡ None
  over_rest x ys a e = later_good (length x) (sought p 0 ys) (sym (a ys) ∙ e)

-- ---- what x stands for

abbrev pub Gives : (List ℕ → Piece) → List ℕ → List ℕ → Type 0
Gives p x g = (ys : List ℕ) → spelled p 0 (x ++ ys) ≡ g ++ spelled p 0 ys

module _ (p : List ℕ → Piece) where
  pub gives_none : Gives p [] []
  gives_none ys = refl

  pub gives_append : (x y g h : List ℕ) → Gives p x g → Gives p y h → Gives p (x ++ y) (g ++ h)
  gives_append x y g h a b ys =
      ap (spelled p 0) (append_assoc x y ys) ∙ (a (y ++ ys) ∙ (ap (λ (l : List ℕ). g ++ l) (b ys) ∙ sym (append_assoc g h (spelled p 0 ys))))

  pub gives_piece : (x g : List ℕ) → 1 ≤ length x → ((ys : List ℕ) → p (x ++ ys) ≡ record { gives = g; more = length x - 1 }) → Gives p x g
  gives_piece [] g h e ys = absurd (omega arith)
  gives_piece (x ∷ xs) g h e ys =
      let k : suc (length xs) - 1 ≡ length xs = omega arith in
      let d : drop (length xs) (xs ++ ys) ≡ ys = drop_at xs ys (length xs) refl in
      head_step p x (xs ++ ys) ∙ rw (e ys, k, d)

  -- bytes that stand for themselves
  pub gives_bytes : (P : ℕ → Type 0) → ((x : ℕ) (ys : List ℕ) → P x → p (x ∷ ys) ≡ record { gives = x ∷ []; more = 0 }) → (xs : List ℕ) → Each P xs → Gives p xs xs
  gives_bytes P f [] a = gives_none
  gives_bytes P f (x ∷ xs) a =
      gives_append (x ∷ []) xs (x ∷ []) xs (gives_piece (x ∷ []) (x ∷ []) (omega arith) (λ ys. f x ys a.0)) (gives_bytes P f xs a.1)

  pub gives_all : (x g : List ℕ) → Gives p x g → spelled p 0 x ≡ g
  unfolding spelled
  gives_all x g a = ap (spelled p 0) (sym (append-nil x)) ∙ (a [] ∙ append-nil g)

-- ---- characters

pub encoded_some : (c : ℕ) → scalar c ≡ true → 1 ≤ length (encoded c)
encoded_some c s = (decoded (encoded c ++ []) c (length (encoded c)) (encoded_read c [] s)).some

pub over_char : (c : ℕ) → scalar c ≡ true → Over seq_look (encoded c)
over_char c s = over_piece seq_look (encoded c) (encoded_some c s) (λ ys. ap look_by (encoded_read c ys s))

pub over_ascii : (xs : List ℕ) → Each Ascii xs → Over seq_look xs
over_ascii xs a = over_bytes seq_look Ascii (λ x ys h. ap look_by (found_read (Found.one h))) xs a

-- a byte below 128 that is not the character is no byte of it
pub encoded_free : (b c : ℕ) → b < 128 → (c ≡ b → ⊥) → Each (λ (x : ℕ). x ≡ b → ⊥) (encoded c)
unfolding encoded
encoded_free b c h n =
    choose_by (Each (λ (x : ℕ). x ≡ b → ⊥)) (ltb c 0x80) _ _ (λ t. (n, tt))
    (λ f. choose_by (Each (λ (x : ℕ). x ≡ b → ⊥)) (ltb c 0x800) _ _ (λ t. (λ e. omega arith, (λ e. omega arith, tt)))
    (λ f. choose_by (Each (λ (x : ℕ). x ≡ b → ⊥)) (ltb c 0x10000) _ _ (λ t. (λ e. omega arith, (λ e. omega arith, (λ e. omega arith, tt))))
    (λ f. (λ e. omega arith, (λ e. omega arith, (λ e. omega arith, (λ e. omega arith, tt)))))))

-- a good string is a character and a good string
pub record Char (s : List ℕ) (c : ℕ) (rest : List ℕ) : Type 0 where
  pub is : encoded c ++ rest ≡ s
  pub good : scalar c ≡ true
  pub next : first_bad rest ≡ None
  pub less : length rest < length s

char_first : (s : List ℕ) (c n : ℕ) → char_of s ≡ Some (c, n) → first_bad s ≡ None → Char s c (drop n s)
unfolding first_bad
char_first s c n e g =
    let d = decoded s c n e in
    let i : encoded c ++ drop n s ≡ s = rw (← d.front) (take-append-drop n s) in
    record {
      is = i;
      good = d.good;
      next = over_rest seq_look (encoded c) (drop n s) (over_char c d.good) (ap (sought seq_look 0) i ∙ g);
      less = omega (arith, encoded_some c d.good, length-append (encoded c) (drop n s), ap length i);
    }

char_by_lem : (x : ℕ) (xs : List ℕ) (r : Option (ℕ × ℕ)) → char_of (x ∷ xs) ≡ r → first_bad (x ∷ xs) ≡ None → (c : ℕ) × (rest : List ℕ) × Char (x ∷ xs) c rest
unfolding first_bad sought
char_by_lem x xs None e g = let z : ◌≡◌ {A = ℕ} 0 1 = cc in absurd (omega arith)
char_by_lem x xs (Some (c, n)) e g = (c, drop n (x ∷ xs), char_first (x ∷ xs) c n e g)

pub first_char : (x : ℕ) (xs : List ℕ) → first_bad (x ∷ xs) ≡ None → (c : ℕ) × (rest : List ℕ) × Char (x ∷ xs) c rest
first_char x xs g = char_by_lem x xs (char_of (x ∷ xs)) refl g

-- what holds of a text if it holds of all shorter ones holds of every text
module _ (P : List ℕ → Type 0) (f : (s : List ℕ) → ((t : List ℕ) → length t < length s → P t) → P s) where
  shorter_below : (k : ℕ) (s : List ℕ) → length s ≤ k → P s
  shorter_below zero s h = f s (λ t l. absurd (omega arith))
  shorter_below (suc k) s h = f s (λ t l. shorter_below k t (omega arith))

  pub shorter_by : (s : List ℕ) → P s
  shorter_by s = shorter_below (length s) s (omega arith)

-- what holds of the empty string, and of a good string with one more character before it, holds of every good string
module _ (P : List ℕ → Type 0) (z : P []) (f : (c : ℕ) (s : List ℕ) → scalar c ≡ true → first_bad s ≡ None → P s → P (encoded c ++ s)) where
  chars_step : (s : List ℕ) → ((t : List ℕ) → length t < length s → first_bad t ≡ None → P t) → first_bad s ≡ None → P s
  chars_step [] ih g = z
  chars_step (x ∷ xs) ih g =
      let t = first_char x xs g in
      let d = t.2 in
      rw d.is at (f t.0 t.1 d.good d.next (ih t.1 d.less d.next))

  pub chars_by : (s : List ℕ) → first_bad s ≡ None → P s
  chars_by s g = shorter_by (λ (t : List ℕ). first_bad t ≡ None → P t) chars_step s g
