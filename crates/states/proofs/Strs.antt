-- Literals: what a byte does to what is still to come.
use Rattle.std.specs.Prelude.{ℕ, Option, Some, None}
use Prim.Native.Nat.{ℕ, suc, ◌+◌, ◌-◌, ◌*◌, ◌≤◌, ◌<◌}
use mathlib.Core.Path.{◌≡◌, refl, ap, ◌∙◌}
use mathlib.Core.Bool.{Bool, true, false}
use mathlib.Core.List.{List, [], ◌∷◌}
use native.Mathlib.Nat.{add-zero}
use native.Mathlib.Omega.{arith}
use lib.Dec.{leb, ltb, eqb}
use lib.ListN.{drop}
use lib.Seq.{drop-drop}
use borrow.Author.Tests.{eqb-true, ltb-true, lt-ltb, le-leb}
use Rattle.text.specs.Booleans.{choose, and, next_is}
use Rattle.text.specs.Classes.{class_of}
use Rattle.text.specs.Scans.{later, sought}
use Rattle.text.specs.Digits.{hex_of}
use Rattle.text.specs.Utf8.{char_of, lead_of, gathered, judged}
use Rattle.text.proofs.Decodes.{scalar_low}
use Rattle.text.proofs.Walks.{sought_pending, past_head, later_later}
use Rattle.text.proofs.Booleans.{choose_by}
use Rattle.literal.specs.Escapes.{digits_by, digits_of, simple_of, pair_by, pair_of, braced_by, braced_of, after_by, after_of, escape_of}
use Rattle.literal.specs.declared.Digits.{Digits}
use Rattle.literal.proofs.Escaped.{digits_go, digits_full, meant}
use Rattle.token.specs.Blanks.{opener_blank, blank_by}
use Rattle.token.specs.Tokens.{inside_look, string_by, string_of, quoted, escaped_by, char_token, opener_token, token_by}
use Rattle.token.specs.Lists.{tok, onto}
use Rattle.token.specs.declared.Token.{Token}
use Rattle.token.specs.declared.Token.TheVariants.{Found, End, NoToken}
use Rattle.states.specs.declared.Lit.{Lit}
use Rattle.states.specs.declared.Lit.TheVariants.{Text, One}
use Rattle.states.specs.declared.State.TheVariants.{X0, X1, U, Un}
use Rattle.states.specs.Machine.{Out, go, give, refuse, str_row, back, is_number, bad_esc, esc_row, is_hex, x0_row, x1_row, u_row, un_row, quote_row, fault_at}
use Rattle.states.proofs.From.{from, ended, Beyond, ended_next, none, from_first, ended_drop}
use Rattle.states.proofs.Left.{str_l, quote_l, back_l, bad_l, esc_by, x1_l, x0_l, un_by, un_l, u_l, left_by, with_rest}

-- ---- strings

by_beyond : (k n : ℕ) (xs : List ℕ) (r : Option ℕ) → Beyond n (string_by k n xs r)
by_beyond k n xs None = tt
by_beyond k n xs (Some j) = choose_by (Beyond n) (next_is 34 (drop j xs)) _ _ (λ e. omega arith) (λ e. tt)

pub string_beyond : (k n : ℕ) (xs : List ℕ) → Beyond n (string_of k n xs)
unfolding string_of
string_beyond k n xs = by_beyond k n xs (sought inside_look 0 xs)

pub less_beyond : (m n : ℕ) (t : Token) → m ≤ n → Beyond n t → Beyond m t
less_beyond m n (Found k s e) l h = omega arith
less_beyond m n End l h = tt
less_beyond m n (NoToken p) l h = tt

closed_same : (k : ℕ) (b : Bool) {e f p q : ℕ} → e ≡ f → p ≡ q → choose b (λ u. Found k 0 e) (λ u. NoToken p) ≡ choose b (λ u. Found k 0 f) (λ u. NoToken q)
closed_same k true h g = ap (Found k 0) h
closed_same k false h g = ap NoToken g

string_later : (k n m : ℕ) (xs : List ℕ) (r : Option ℕ) → string_by k n xs (later m r) ≡ string_by k (n + m) (drop m xs) r
string_later k n m xs None = refl
string_later k n m xs (Some j) =
    let z : n + ((m + j) + 1) ≡ (n + m) + (j + 1) = omega arith in
    let y : n + (m + j) ≡ (n + m) + j = omega arith in
    rw (drop-drop j m xs) (closed_same k (next_is 34 (drop (m + j) xs)) z y)

-- an inside that goes on after a piece of 1 + m bytes
string_past : (k n m x : ℕ) (xs : List ℕ) → inside_look (x ∷ xs) ≡ Some m → string_of k n (x ∷ xs) ≡ string_of k (n + suc m) (drop m xs)
unfolding string_of
string_past k n m x xs h =
    let z : 1 + m ≡ suc m = omega arith in
    let e : sought inside_look 0 (x ∷ xs) ≡ later (suc m) (sought inside_look 0 (drop m xs)) =
    past_head inside_look x xs m h ∙ ap (later 1) (sought_pending inside_look m xs) ∙ later_later 1 m (sought inside_look 0 (drop m xs)) ∙ ap (λ (i : ℕ). later i (sought inside_look 0 (drop m xs))) z in
    rw e (string_later k n (suc m) (x ∷ xs) (sought inside_look 0 (drop m xs)))

str_close : (k a n : ℕ) (rest : List ℕ) → str_l k a n (34 ∷ rest) ≡ with_rest (give k a (a + suc n)) rest
unfolding string_of sought inside_look
str_close k a n rest =
    let z : n + 1 ≡ suc n = omega arith in
    let y : suc n - n ≡ 1 = omega arith in
    rw (z, y, add-zero a)

plain_look : (x : ℕ) (rest : List ℕ) → eqb x 34 ≡ false → eqb x 92 ≡ false → inside_look (x ∷ rest) ≡ Some 0
unfolding inside_look escape_of
plain_look x rest e f = rw (e, f, f)

str_plain : (k a n x : ℕ) (rest : List ℕ) → eqb x 34 ≡ false → eqb x 92 ≡ false → str_l k a n (x ∷ rest) ≡ str_l k a (suc n) rest
str_plain k a n x rest e f =
    let z : n + suc 0 ≡ suc n = omega arith in
    rw (string_past k n 0 x rest (plain_look x rest e f), z)
    (ended_next a n x rest (string_of k (suc n) rest) (less_beyond n (suc n) (string_of k (suc n) rest) (omega arith) (string_beyond k (suc n) rest)))

-- ---- escapes in strings

esc_look : (rest : List ℕ) (c m : ℕ) → after_of rest ≡ Some (c, m) → inside_look (92 ∷ rest) ≡ Some (m - 1)
unfolding inside_look escape_of
esc_look rest c m e = rw e

esc_none : (rest : List ℕ) → after_of rest ≡ None → inside_look (92 ∷ rest) ≡ None
unfolding inside_look escape_of
esc_none rest e = rw e

esc_meant : (rest : List ℕ) (c m : ℕ) → after_of rest ≡ Some (c, m) → 2 ≤ m
unfolding escape_of
esc_meant rest c m e = (meant (92 ∷ rest) c m e).two

string_stop : (k n : ℕ) (rest : List ℕ) → inside_look (92 ∷ rest) ≡ None → string_of k n (92 ∷ rest) ≡ NoToken n
unfolding string_of sought
string_stop k n rest h = rw h (ap NoToken (add-zero n))

str_by : (k a n : ℕ) (rest : List ℕ) (r : Option (ℕ × ℕ)) → after_of rest ≡ r → str_l k a n (92 ∷ rest) ≡ esc_by (Text k) n a (suc n) rest r
str_by k a n rest None e = ap (ended a n (92 ∷ rest)) (string_stop k n rest (esc_none rest e))
str_by k a n rest (Some (c, m)) e =
    let l : 2 ≤ m = esc_meant rest c m e in
    let z : n + suc (m - 1) ≡ suc n + (m - 1) = omega arith in
    rw (string_past k n (m - 1) 92 rest (esc_look rest c m e), z)
    (ended_drop a n (m - 1) 92 rest (string_of k (suc n + (m - 1)) (drop (m - 1) rest)) (string_beyond k (suc n + (m - 1)) (drop (m - 1) rest)))

pub str_row_lem : (k a n x : ℕ) (rest : List ℕ) → str_l k a n (x ∷ rest) ≡ with_rest (str_row k a n x) rest
str_row_lem k a n x rest =
    let P : Out → Type 0 = λ o. str_l k a n (x ∷ rest) ≡ with_rest o rest in
    choose_by P (eqb x 34) _ _ (λ e. rw (eqb-true x 34 e) (str_close k a n rest))
    (λ e. choose_by P (eqb x 92) _ _ (λ f. rw (eqb-true x 92 f) (str_by k a n rest (after_of rest) refl)) (λ f. str_plain k a n x rest e f))

-- ---- the bytes of an escape

back_is : (l : Lit) (a n : ℕ) (rest : List ℕ) → back_l l a n rest ≡ left_by (back l) a n rest
back_is (Text k) a n rest = refl
back_is One a n rest = refl

module _ (l : Lit) (b a n x : ℕ) where
  pair_two : (z w v : ℕ) (ws : List ℕ) → digits_of 2 v 2 ws ≡ record { value = v; count = 2 } → esc_by l b a n (x ∷ z ∷ w ∷ ws) (pair_by (digits_of 2 v 2 ws)) ≡ back_l l a (suc (suc (suc n))) ws
  pair_two z w v ws e =
      let y : n + 3 ≡ suc (suc (suc n)) = omega arith in
      rw (e, y)

  pair_second : (z v w : ℕ) (ws : List ℕ) (h : Option ℕ) → hex_of w ≡ h
      → esc_by l b a n (x ∷ z ∷ w ∷ ws) (pair_by (digits_by h v 1 (λ u. digits_of 2 u 2 ws))) ≡ choose (is_number h) (λ u. back_l l a (suc (suc (suc n))) ws) (λ u. bad_l a b)
  pair_second z v w ws None e = refl
  pair_second z v w ws (Some d) e = pair_two z w (v * 16 + d) ws (digits_full 2 (v * 16 + d) 2 ws (omega arith))

  pair_first : (z v : ℕ) (zs : List ℕ) → esc_by l b a n (x ∷ z ∷ zs) (pair_by (digits_of 2 v 1 zs)) ≡ x1_l l b a (suc (suc n)) zs
  unfolding digits_of
  pair_first z v [] = refl
  pair_first z v (w ∷ ws) = pair_second z v w ws (hex_of w) refl

  pair_digit : (z : ℕ) (zs : List ℕ) (h : Option ℕ) → esc_by l b a n (x ∷ z ∷ zs) (pair_by (digits_by h 0 0 (λ u. digits_of 2 u 1 zs))) ≡ choose (is_number h) (λ u. x1_l l b a (suc (suc n)) zs) (λ u. bad_l a b)
  pair_digit z zs None = refl
  pair_digit z zs (Some d) = pair_first z (0 * 16 + d) zs

  pair_link : (rest : List ℕ) → esc_by l b a n (x ∷ rest) (pair_of rest) ≡ x0_l l b a (suc n) rest
  unfolding pair_of digits_of
  pair_link [] = refl
  pair_link (z ∷ zs) = pair_digit z zs (hex_of z)

  braces : (y c v : ℕ) (ys : List ℕ) (p q : Bool)
      → esc_by l b a n (x ∷ y ∷ ys) (choose p (λ u. choose q (λ u. Some (v, c + 4)) (λ u. None)) (λ u. None))
      ≡ choose p (λ u. choose q (λ u. back_l l a (suc (suc n) + suc c) (drop (suc c) ys)) (λ u. bad_l a b)) (λ u. bad_l a b)
  braces y c v ys true true =
      let z : (c + 4) - 1 ≡ suc (suc (suc c)) = omega arith in
      let w : n + suc (suc (suc c)) ≡ suc (suc n) + suc c = omega arith in
      rw (z, w)
  braces y c v ys true false = refl
  braces y c v ys false q = refl

  brace_by : (y : ℕ) (ys : List ℕ) (d : Digits) → esc_by l b a n (x ∷ y ∷ ys) (braced_by ys d) ≡ un_by l b 0 a (suc (suc n)) ys d.count
  brace_by y ys d =
      let z : d.count - 0 ≡ d.count = omega arith in
      rw z (braces y d.count d.value ys (leb 2 d.count) (next_is 125 (drop d.count ys)))

  brace_open : (y : ℕ) (ys : List ℕ) (p : Bool)
      → esc_by l b a n (x ∷ y ∷ ys) (choose p (λ u. braced_by ys (digits_of 6 0 0 ys)) (λ u. None)) ≡ choose p (λ u. un_l l b 0 a (suc (suc n)) ys) (λ u. bad_l a b)
  brace_open y ys true = brace_by y ys (digits_of 6 0 0 ys)
  brace_open y ys false = refl

  brace_link : (rest : List ℕ) → esc_by l b a n (x ∷ rest) (braced_of rest) ≡ u_l l b a (suc n) rest
  unfolding braced_of
  brace_link [] = refl
  brace_link (y ∷ ys) = brace_open y ys (eqb y 123)

  esc_other : (rest : List ℕ) → esc_by l b a n (x ∷ rest) (after_by None x rest)
      ≡ with_rest (choose (eqb x 120) (λ u. go (X0 l b) a (suc n)) (λ u. choose (eqb x 117) (λ u. go (U l b) a (suc n)) (λ u. bad_esc a b))) rest
  esc_other rest =
      let P : Out → Type 0 = λ o. esc_by l b a n (x ∷ rest) (after_by None x rest) ≡ with_rest o rest in
      choose_by P (eqb x 120) _ _ (λ e. rw e (pair_link rest))
      (λ e. choose_by P (eqb x 117) _ _ (λ f. rw (e, f) (brace_link rest)) (λ f. rw (e, f)))

  esc_by_lem : (rest : List ℕ) (v : Option ℕ) → esc_by l b a n (x ∷ rest) (after_by v x rest)
      ≡ with_rest (choose (is_number v) (λ u. go (back l) a (suc n)) (λ u. choose (eqb x 120) (λ u. go (X0 l b) a (suc n)) (λ u. choose (eqb x 117) (λ u. go (U l b) a (suc n)) (λ u. bad_esc a b)))) rest
  esc_by_lem rest (Some c) =
      let z : n + 1 ≡ suc n = omega arith in
      rw z (back_is l a (suc n) rest)
  esc_by_lem rest None = esc_other rest

  pub esc_row_lem : (rest : List ℕ) → esc_by l b a n (x ∷ rest) (after_of (x ∷ rest)) ≡ with_rest (esc_row l b a n x) rest
  unfolding after_of
  esc_row_lem rest = esc_by_lem rest (simple_of x)

  x0_by : (rest : List ℕ) (p : Bool) → choose p (λ u. x1_l l b a (suc n) rest) (λ u. bad_l a b) ≡ with_rest (choose p (λ u. go (X1 l b) a (suc n)) (λ u. bad_esc a b)) rest
  x0_by rest true = refl
  x0_by rest false = refl

  pub x0_row_lem : (rest : List ℕ) → x0_l l b a n (x ∷ rest) ≡ with_rest (x0_row l b a n x) rest
  x0_row_lem rest = x0_by rest (is_hex x)

  back_by : (rest : List ℕ) (p : Bool) → choose p (λ u. back_l l a (suc n) rest) (λ u. bad_l a b) ≡ with_rest (choose p (λ u. go (back l) a (suc n)) (λ u. bad_esc a b)) rest
  back_by rest true = back_is l a (suc n) rest
  back_by rest false = refl

  pub x1_row_lem : (rest : List ℕ) → x1_l l b a n (x ∷ rest) ≡ with_rest (x1_row l b a n x) rest
  x1_row_lem rest = back_by rest (is_hex x)

  u_by : (rest : List ℕ) (p : Bool) → choose p (λ u. un_l l b 0 a (suc n) rest) (λ u. bad_l a b) ≡ with_rest (choose p (λ u. go (Un l b 0) a (suc n)) (λ u. bad_esc a b)) rest
  u_by rest true = refl
  u_by rest false = refl

  pub u_row_lem : (rest : List ℕ) → u_l l b a n (x ∷ rest) ≡ with_rest (u_row l b a n x) rest
  u_row_lem rest = u_by rest (eqb x 123)

-- ---- digits in braces

any_by : (v w k : ℕ) (f : ℕ → Digits) (p : Bool) (h : Option ℕ) → ((i j : ℕ) → (f i).count ≡ (f j).count)
    → (choose p (λ u. digits_by h v k f) (λ u. record { value = v; count = k })).count ≡ (choose p (λ u. digits_by h w k f) (λ u. record { value = w; count = k })).count
any_by v w k f false h g = refl
any_by v w k f true None g = refl
any_by v w k f true (Some d) g = g (v * 16 + d) (w * 16 + d)

-- how many digits there are does not depend on what they came to
count_any : (m v w k : ℕ) (xs : List ℕ) → (digits_of m v k xs).count ≡ (digits_of m w k xs).count
unfolding digits_of
count_any m v w k [] = refl
count_any m v w k (x ∷ xs) = any_by v w k (λ i. digits_of m i (k + 1) xs) (ltb k m) (hex_of x) (λ i j. count_any m i j (k + 1) xs)

low_by : (v k : ℕ) (f : ℕ → Digits) (p : Bool) (h : Option ℕ) → ((i : ℕ) → k + 1 ≤ (f i).count) → k ≤ (choose p (λ u. digits_by h v k f) (λ u. record { value = v; count = k })).count
low_by v k f false h g = omega arith
low_by v k f true None g = omega arith
low_by v k f true (Some d) g = omega (arith, g (v * 16 + d))

count_low : (m v k : ℕ) (xs : List ℕ) → k ≤ (digits_of m v k xs).count
unfolding digits_of
count_low m v k [] = omega arith
count_low m v k (x ∷ xs) = low_by v k (λ i. digits_of m i (k + 1) xs) (ltb k m) (hex_of x) (λ i. count_low m i (k + 1) xs)

module _ (l : Lit) (b j a n x : ℕ) (rest : List ℕ) where
  un_shift : (c : ℕ) → suc j ≤ c → un_by l b j a n (x ∷ rest) c ≡ un_by l b (suc j) a (suc n) rest c
  un_shift c h =
      let z : c - j ≡ suc (c - suc j) = omega arith in
      let y : n + suc (suc (c - suc j)) ≡ suc n + suc (c - suc j) = omega arith in
      rw (z, y)

  count_go : (d : ℕ) → j < 6 → hex_of x ≡ Some d → (digits_of 6 0 j (x ∷ rest)).count ≡ (digits_of 6 0 (suc j) rest).count
  count_go d h e =
      let z : j + 1 ≡ suc j = omega arith in
      rw (digits_go 6 0 j x d rest h e, z) (count_any 6 (0 * 16 + d) 0 (suc j) rest)

  un_go : (d : ℕ) → j < 6 → hex_of x ≡ Some d → un_l l b j a n (x ∷ rest) ≡ un_l l b (suc j) a (suc n) rest
  un_go d h e =
      ap (un_by l b j a n (x ∷ rest)) (count_go d h e) ∙ un_shift (digits_of 6 0 (suc j) rest).count (count_low 6 0 (suc j) rest)

  un_ends : (p q : Bool) → choose p (λ u. choose q (λ u. back_l l a (suc n) rest) (λ u. bad_l a b)) (λ u. bad_l a b) ≡ with_rest (choose (and p q) (λ u. go (back l) a (suc n)) (λ u. bad_esc a b)) rest
  un_ends true true = back_is l a (suc n) rest
  un_ends true false = refl
  un_ends false q = refl

  un_stop : (digits_of 6 0 j (x ∷ rest)).count ≡ j → un_l l b j a n (x ∷ rest) ≡ with_rest (choose (and (leb 2 j) (eqb x 125)) (λ u. go (back l) a (suc n)) (λ u. bad_esc a b)) rest
  un_stop e =
      let z : j - j ≡ 0 = omega arith in
      let y : n + suc 0 ≡ suc n = omega arith in
      rw (e, z, y) (un_ends (leb 2 j) (eqb x 125))

  count_stop : (p : Bool) (h : Option ℕ) → and p (is_number h) ≡ false → (choose p (λ u. digits_by h 0 j (λ i. digits_of 6 i (j + 1) rest)) (λ u. record { value = 0; count = j })).count ≡ j
  count_stop true None e = refl
  count_stop true (Some d) e = let z : ◌≡◌ {A = ℕ} 0 1 = cc in absurd (omega arith)
  count_stop false h e = refl

  un_no : and (ltb j 6) (is_hex x) ≡ false → (digits_of 6 0 j (x ∷ rest)).count ≡ j
  unfolding digits_of
  un_no e = count_stop (ltb j 6) (hex_of x) e

  un_yes : (p : Bool) (h : Option ℕ) → ltb j 6 ≡ p → hex_of x ≡ h → and p (is_number h) ≡ true → un_l l b j a n (x ∷ rest) ≡ un_l l b (suc j) a (suc n) rest
  un_yes true (Some d) f g e = un_go d (ltb-true j 6 f) g
  un_yes true None f g e = let z : ◌≡◌ {A = ℕ} 0 1 = cc in absurd (omega arith)
  un_yes false h f g e = let z : ◌≡◌ {A = ℕ} 0 1 = cc in absurd (omega arith)

  pub un_row_lem : un_l l b j a n (x ∷ rest) ≡ with_rest (un_row l b j a n x) rest
  un_row_lem =
      choose_by (λ (o : Out). un_l l b j a n (x ∷ rest) ≡ with_rest o rest) (and (ltb j 6) (is_hex x)) _ _ (λ e. un_yes (ltb j 6) (hex_of x) refl refl e) (λ e. un_stop (un_no e))

-- ---- character literals

quote_by : (a n : ℕ) (rest : List ℕ) (p : Bool) → choose p (λ u. onto (tok 25 a (a + suc n) ∷ []) (from (a + suc n) rest)) (λ u. fault_at a) ≡ with_rest (choose p (λ u. give 25 a (a + suc n)) (λ u. refuse a)) rest
quote_by a n rest true = refl
quote_by a n rest false = refl

pub quote_row_lem : (a n x : ℕ) (rest : List ℕ) → quote_l a n (x ∷ rest) ≡ with_rest (quote_row a n x) rest
quote_row_lem a n x rest = quote_by a n rest (eqb x 39)

pub quoted_law : (a i y : ℕ) (rest : List ℕ) → ended a 0 (39 ∷ y ∷ rest) (quoted (suc i) (y ∷ rest)) ≡ quote_l a (suc (suc i)) (drop i rest)
unfolding quoted
quoted_law a i y rest = by (next_is 39 (drop i rest))
  where
    by : (p : Bool) → ended a 0 (39 ∷ y ∷ rest) (choose p (λ u. Found 25 0 (suc i + 2)) (λ u. NoToken 0))
        ≡ choose p (λ u. onto (tok 25 a (a + suc (suc (suc i))) ∷ []) (from (a + suc (suc (suc i))) (drop 1 (drop i rest)))) (λ u. fault_at a)
    by true =
        let z : suc i + 2 ≡ suc (suc (suc i)) = omega arith in
        let w : suc (suc (suc i)) - 0 ≡ suc (suc (i + 1)) = omega arith in
        rw (z, w, add-zero a, drop-drop 1 i rest)
    by false = none a 0 (39 ∷ y ∷ rest)

chr_by : (a : ℕ) (rest : List ℕ) (r : Option (ℕ × ℕ)) → after_of rest ≡ r → ended a 0 (39 ∷ 92 ∷ rest) (escaped_by (92 ∷ rest) r) ≡ esc_by One 1 a 2 rest r
chr_by a rest None e = refl
chr_by a rest (Some (c, m)) e =
    let l : 2 ≤ m = esc_meant rest c m e in
    let z : m ≡ suc (m - 1) = omega arith in
    let y : suc (suc (m - 1)) ≡ 2 + (m - 1) = omega arith in
    ap (λ (i : ℕ). ended a 0 (39 ∷ 92 ∷ rest) (quoted i (92 ∷ rest))) z ∙ quoted_law a (m - 1) 92 rest ∙ ap (λ (i : ℕ). quote_l a i (drop (m - 1) rest)) y

pub chr_esc : (a : ℕ) (rest : List ℕ) → from a (39 ∷ 92 ∷ rest) ≡ esc_by One 1 a 2 rest (after_of rest)
unfolding blank_by class_of opener_blank token_by opener_token char_token escape_of
chr_esc a rest = from_first a 39 (92 ∷ rest) (escaped_by (92 ∷ rest) (after_of rest)) refl refl ∙ chr_by a rest (after_of rest) refl

pub ascii_char : (x : ℕ) (rest : List ℕ) → x < 128 → char_of (x ∷ rest) ≡ Some (x, 1)
unfolding char_of lead_of gathered judged
ascii_char x rest h = rw (lt-ltb x 128 h, le-leb 0 x (omega arith), scalar_low x (omega arith))

pub chr_ascii : (a x : ℕ) (rest : List ℕ) → eqb x 92 ≡ false → x < 128 → from a (39 ∷ x ∷ rest) ≡ quote_l a 2 rest
unfolding blank_by class_of opener_blank token_by opener_token char_token
chr_ascii a x rest e h = from_first a 39 (x ∷ rest) (quoted 1 (x ∷ rest)) refl (rw (e, ascii_char x rest h)) ∙ quoted_law a 0 x rest
