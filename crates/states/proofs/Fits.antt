-- Every row keeps what the test at the entry asks for: a law for each row, by cases of its bytes.
use Prim.Native.Nat.{ℕ, suc, ◌+◌, ◌-◌, ◌≤◌, ◌<◌}
use mathlib.Core.Path.{◌≡◌, refl}
use mathlib.Core.Bool.{Bool, true, false, not}
use mathlib.Core.List.{List, [], ◌∷◌}
use mathlib.Core.Logic.{◌⊎◌, inl, inr}
use native.Mathlib.Omega.{arith}
use lib.Dec.{leb, ltb, eqb}
use lib.ListN.{length, get_or}
use borrow.Author.Tests.{ltb-true, leb-true, leb-false, eqb-true, lt-ltb, le-leb, eq-eqb}
use Rattle.text.specs.Booleans.{choose, and, or}
use Rattle.text.specs.Classes.{class_of}
use Rattle.text.specs.Words.{starts_word, in_word}
use Rattle.text.proofs.Tests.{within_is, within_yes}
use Rattle.text.proofs.Booleans.{and_both, and_true, choose_by}
use Rattle.literal.specs.Escapes.{simple_of}
use Rattle.token.specs.Blanks.{in_digits, is_zero}
use Rattle.token.specs.Tokens.{push_literal, one_kind}
use Rattle.states.specs.declared.Lit.{Lit}
use Rattle.states.specs.declared.Lit.TheVariants.{Text, One}
use Rattle.states.specs.declared.Tail.{Tail}
use Rattle.states.specs.declared.Tail.TheVariants.{T1, T2, T3, TE0, TED, TF0, TF4}
use Rattle.states.specs.declared.State.{State}
use Rattle.states.specs.declared.State.TheVariants.{Start, Word, Push, Num, Hash, Tag, Dot, Caret, Minus, Zeros, Negative, Str, Esc, X0, X1, U, Un, Chr, More, Quote, Slash, Slash2, Line, Doc, DocCr, Cr, Com, Star, Bar, Refused}
use Rattle.states.specs.declared.Conf.{Conf}
use Rattle.states.specs.Machine.{Out, go, give, again, open_row, class_row, start_row, push_row, zeros_row, back, is_number, is_hex, tail_ok, tail_next, lead_row, line_row, give_doc, doc_row, com_row, row, step, feed}
use Rattle.states.specs.Keep.{code_of, refused_code, waiting, is_text, is_doc, is_lit, esc_fits, com_fits, state_fits}

-- ---- tests

pub never : {A : Type 0} → false ≡ true → A
never e = let z : ◌≡◌ {A = ℕ} 0 1 = cc in absurd (omega arith)

pub esc_in : (l : Lit) (b n : ℕ) → esc_fits l b n ≡ true → (is_lit l ≡ true) × (b < n)
esc_in l b n e = let h = and_true (is_lit l) (ltb b n) e in (h.0, ltb-true b n h.1)

esc_on : (l : Lit) (b n : ℕ) → esc_fits l b n ≡ true → esc_fits l b (suc n) ≡ true
esc_on l b n e =
    let h = esc_in l b n e in
    let z : b < n = h.1 in
    and_both (is_lit l) (ltb b (suc n)) h.0 (lt-ltb b (suc n) (omega arith))

pub com_in : (d n : ℕ) → com_fits d n ≡ true → (0 < d) × (d ≤ n)
com_in d n e = let h = and_true (ltb 0 d) (leb d n) e in (ltb-true 0 d h.0, leb-true d n h.1)

com_yes : (d n : ℕ) → 0 < d → d ≤ n → com_fits d n ≡ true
com_yes d n h g = and_both (ltb 0 d) (leb d n) (lt-ltb 0 d h) (le-leb d n g)

pub code_refused : (q : State) → eqb (code_of q) refused_code ≡ true → q ≡ Refused
code_refused Start e = never e
code_refused Word e = never e
code_refused Push e = never e
code_refused Num e = never e
code_refused Hash e = never e
code_refused Tag e = never e
code_refused Dot e = never e
code_refused Caret e = never e
code_refused Minus e = never e
code_refused Zeros e = never e
code_refused Negative e = never e
code_refused (Str k) e = never e
code_refused (Esc l b) e = never e
code_refused (X0 l b) e = never e
code_refused (X1 l b) e = never e
code_refused (U l b) e = never e
code_refused (Un l b j) e = never e
code_refused Chr e = never e
code_refused (More t) e = never e
code_refused Quote e = never e
code_refused Slash e = never e
code_refused Slash2 e = never e
code_refused Line e = never e
code_refused (Doc k) e = never e
code_refused (DocCr k) e = never e
code_refused Cr e = never e
code_refused (Com d) e = never e
code_refused (Star d) e = never e
code_refused (Bar d) e = never e
code_refused Refused e = refl

-- ---- a state with its start, the bytes of its token, all bytes seen, and the records

pub record Fit (q : State) (a n s k : ℕ) : Type 0 where
  pub sum : a + (n + waiting q) ≡ s
  pub count : k ≤ a
  pub state : state_fits q n ≡ true

-- a row fits after one byte more, unless it refuses
abbrev pub FitO : ℕ → ℕ → Out → Type 0
FitO s k o = (code_of o.next.state ≡ refused_code) ⊎ Fit o.next.state o.next.start o.next.size (suc s) (k + length o.gives)

module _ (s k : ℕ) where
  two : (b : Bool) (f g : Unit {0} → Out) → FitO s k (f tt) → FitO s k (g tt) → FitO s k (choose b f g)
  two true f g y n = y
  two false f g y n = n

  goes : (q : State) (a m : ℕ) → a + (m + waiting q) ≡ suc s → k ≤ a → state_fits q m ≡ true → FitO s k (go q a m)
  goes q a m e c f = inr (record { sum = e; count = omega arith; state = f })

  gives : (t a b : ℕ) → b ≡ suc s → k < b → FitO s k (give t a b)
  gives t a b e c = inr (record { sum = omega arith; count = omega arith; state = refl })

  gives_doc : (t a b c : ℕ) → c ≡ suc s → k < c → FitO s k (give_doc t a b c)
  gives_doc t a b c e h = inr (record { sum = omega arith; count = omega arith; state = refl })

  -- a token and then what Start gives
  again_by : (o : Out) (t a b : ℕ) → FitO s (suc k) o → FitO s k (again t a b (λ c. o))
  again_by o t a b (inl e) = inl e
  again_by o t a b (inr h) =
      let c : suc k + length o.gives ≤ o.next.start = h.count in
      inr (record { sum = h.sum; count = omega arith; state = h.state })

  starts : (b : ℕ) → b ≡ suc s → k ≤ b → FitO s k (go Start b 0)
  starts b e c = goes Start b 0 (omega arith) c refl

open_fits : (s k a x : ℕ) → a ≡ s → k ≤ a → FitO s k (open_row a x)
open_fits s k a x e c =
    two s k (eqb x 34) _ _ (goes s k (Str 23) a 1 (omega arith) c refl)
    (two s k (eqb x 39) _ _ (goes s k Chr a 1 (omega arith) c refl)
    (two s k (eqb x 94) _ _ (goes s k Caret a 1 (omega arith) c refl)
    (two s k (eqb x 35) _ _ (goes s k Hash a 1 (omega arith) c refl)
    (two s k (eqb x 46) _ _ (goes s k Dot a 1 (omega arith) c refl)
    (two s k (eqb x 47) _ _ (goes s k Slash a 1 (omega arith) c refl)
    (two s k (eqb x 45) _ _ (goes s k Minus a 1 (omega arith) c refl) (two s k (eqb x 13) _ _ (goes s k Cr a 1 (omega arith) c refl) (inl refl))))))))

start_fits : (s k a x : ℕ) → a ≡ s → k ≤ a → FitO s k (start_row x a)
unfolding class_row
start_fits s k a x e c =
    two s k (eqb (class_of x) 1) _ _ (starts s k (suc a) (omega arith) (omega arith))
    (two s k (eqb (class_of x) 2) _ _ (two s k (eqb x 80) _ _ (goes s k Push a 1 (omega arith) c refl) (goes s k Word a 1 (omega arith) c refl))
    (two s k (eqb (class_of x) 3) _ _ (goes s k Num a 1 (omega arith) c refl)
    (two s k (eqb (class_of x) 4) _ _ (gives s k (one_kind x) a (suc a) (omega arith) (omega arith)) (two s k (eqb (class_of x) 5) _ _ (open_fits s k a x e c) (inl refl)))))

module _ (s k a n x : ℕ) (e : a + n ≡ s) (c : k ≤ a) (some : 0 < n) where
  -- the token ended before this byte
  ends : (t : ℕ) → FitO s k (again t a (a + n) (start_row x))
  ends t = again_by s k (start_row x (a + n)) t a (a + n) (start_fits s (suc k) (a + n) x e (omega arith))

  -- it goes on, or ended
  runs : (b : Bool) (q : State) (t : ℕ) → a + (suc n + waiting q) ≡ suc s → state_fits q (suc n) ≡ true → FitO s k (choose b (λ u. go q a (suc n)) (λ u. again t a (a + n) (start_row x)))
  runs true q t w f = goes s k q a (suc n) w c f
  runs false q t w f = ends t

push_fits : (s k a n x : ℕ) → a + n ≡ s → k ≤ a → 0 < n → FitO s k (push_row a n x)
unfolding push_row
push_fits s k a n x e c some =
    choose_by (FitO s k) (and (ltb n 12) (eqb x (get_or push_literal n 0))) _ _
    (λ f. let h : n < 12 = ltb-true n 12 (and_true (ltb n 12) (eqb x (get_or push_literal n 0)) f).0 in
    goes s k Push a (suc n) (omega arith) c (within_yes 1 12 (suc n) (omega arith) (omega arith)))
    (λ f. two s k (ltb n 4) _ _ (runs s k a n x e c some (in_word x) Word 18 (omega arith) (lt-ltb 0 (suc n) (omega arith)))
    (two s k (and (or (eqb n 4) (eqb n 12)) (not (in_word x))) _ _ (ends s k a n x e c some 18) (inl refl)))

zeros_fits : (s k a n x : ℕ) → a + n ≡ s → k ≤ a → FitO s k (zeros_row a n x)
zeros_fits s k a n x e c =
    let p : ltb 0 (suc n) ≡ true = lt-ltb 0 (suc n) (omega arith) in
    two s k (is_zero x) _ _ (goes s k Zeros a (suc n) (omega arith) c p) (two s k (in_digits x) _ _ (goes s k Negative a (suc n) (omega arith) c p) (inl refl))

back_fits : (s k a n : ℕ) (l : Lit) → a + n ≡ s → k ≤ a → is_lit l ≡ true → FitO s k (go (back l) a (suc n))
back_fits s k a n (Text t) e c f = goes s k (Str t) a (suc n) (omega arith) c (and_both (is_text t) (ltb 0 (suc n)) f (lt-ltb 0 (suc n) (omega arith)))
back_fits s k a n One e c f = goes s k Quote a (suc n) (omega arith) c (lt-ltb 0 (suc n) (omega arith))

-- inside an escape: two states further on, back in the literal, or refused
module _ (s k a n : ℕ) (l : Lit) (b : ℕ) (e : a + n ≡ s) (c : k ≤ a) (f : esc_fits l b n ≡ true) where
  returns : FitO s k (go (back l) a (suc n))
  returns = back_fits s k a n l e c (esc_in l b n f).0

  esc_fits_lem : (x : ℕ) → FitO s k (row (Esc l b) a n x)
  esc_fits_lem x =
      let g : esc_fits l b (suc n) ≡ true = esc_on l b n f in
      two s k (is_number (simple_of x)) _ _ returns (two s k (eqb x 120) _ _ (goes s k (X0 l b) a (suc n) (omega arith) c g) (two s k (eqb x 117) _ _ (goes s k (U l b) a (suc n) (omega arith) c g) (inl refl)))

  x0_fits : (x : ℕ) → FitO s k (row (X0 l b) a n x)
  x0_fits x = two s k (is_hex x) _ _ (goes s k (X1 l b) a (suc n) (omega arith) c (esc_on l b n f)) (inl refl)

  x1_fits : (x : ℕ) → FitO s k (row (X1 l b) a n x)
  x1_fits x = two s k (is_hex x) _ _ returns (inl refl)

  u_fits : (x : ℕ) → FitO s k (row (U l b) a n x)
  u_fits x = two s k (eqb x 123) _ _ (goes s k (Un l b 0) a (suc n) (omega arith) c (esc_on l b n f)) (inl refl)

  un_fits : (j x : ℕ) → FitO s k (row (Un l b j) a n x)
  un_fits j x =
      choose_by (FitO s k) (and (ltb j 6) (is_hex x)) _ _
      (λ h. let g : j < 6 = ltb-true j 6 (and_true (ltb j 6) (is_hex x) h).0 in
      goes s k (Un l b (suc j)) a (suc n) (omega arith) c (and_both (leb (suc j) 6) (esc_fits l b (suc n)) (le-leb (suc j) 6 g) (esc_on l b n f)))
      (λ h. two s k (and (leb 2 j) (eqb x 125)) _ _ returns (inl refl))

more_fits : (s k a n : ℕ) (t : Tail) → a + n ≡ s → k ≤ a → FitO s k (go (More t) a (suc n))
more_fits s k a n t e c = goes s k (More t) a (suc n) (omega arith) c (lt-ltb 0 (suc n) (omega arith))

tail_fits : (s k a n : ℕ) (t : Tail) → a + n ≡ s → k ≤ a → FitO s k (go (tail_next t) a (suc n))
tail_fits s k a n T1 e c = goes s k Quote a (suc n) (omega arith) c (lt-ltb 0 (suc n) (omega arith))
tail_fits s k a n T2 e c = more_fits s k a n T1 e c
tail_fits s k a n T3 e c = more_fits s k a n T2 e c
tail_fits s k a n TE0 e c = more_fits s k a n T1 e c
tail_fits s k a n TED e c = more_fits s k a n T1 e c
tail_fits s k a n TF0 e c = more_fits s k a n T2 e c
tail_fits s k a n TF4 e c = more_fits s k a n T2 e c

lead_fits : (s k a x : ℕ) → a + 1 ≡ s → k ≤ a → FitO s k (lead_row a x)
unfolding lead_row
lead_fits s k a x e c =
    two s k (ltb x 0xc2) _ _ (inl refl)
    (two s k (ltb x 0xe0) _ _ (more_fits s k a 1 T1 e c)
    (two s k (eqb x 0xe0) _ _ (more_fits s k a 1 TE0 e c)
    (two s k (eqb x 0xed) _ _ (more_fits s k a 1 TED e c)
    (two s k (ltb x 0xf0) _ _ (more_fits s k a 1 T2 e c)
    (two s k (eqb x 0xf0) _ _ (more_fits s k a 1 TF0 e c)
    (two s k (ltb x 0xf4) _ _ (more_fits s k a 1 T3 e c) (two s k (eqb x 0xf4) _ _ (more_fits s k a 1 TF4 e c) (inl refl))))))))

line_fits : (s k a n x : ℕ) → a + n ≡ s → k ≤ a → FitO s k (line_row a n x)
line_fits s k a n x e c = two s k (eqb x 10) _ _ (starts s k (a + suc n) (omega arith) (omega arith)) (goes s k Line a (suc n) (omega arith) c (lt-ltb 0 (suc n) (omega arith)))

doc_fits : (s k t a n x : ℕ) → a + n ≡ s → k ≤ a → is_doc t ≡ true → 0 < n → FitO s k (doc_row t a n x)
doc_fits s k t a n x e c d some =
    two s k (eqb x 10) _ _ (gives_doc s k t a (a + n) (a + suc n) (omega arith) (omega arith))
    (two s k (eqb x 13) _ _ (goes s k (DocCr t) a n (omega arith) c (and_both (is_doc t) (ltb 0 n) d (lt-ltb 0 n some)))
    (goes s k (Doc t) a (suc n) (omega arith) c (and_both (is_doc t) (ltb 0 (suc n)) d (lt-ltb 0 (suc n) (omega arith)))))

com_fits_lem : (s k d a n x : ℕ) → a + n ≡ s → k ≤ a → 0 < d → d ≤ n → FitO s k (com_row d a n x)
com_fits_lem s k d a n x e c h g =
    two s k (eqb x 42) _ _ (goes s k (Star d) a n (omega arith) c (com_yes d n h g))
    (two s k (eqb x 47) _ _ (goes s k (Bar d) a n (omega arith) c (com_yes d n h g)) (goes s k (Com d) a (suc n) (omega arith) c (com_yes d (suc n) h (omega arith))))

-- `*/`
close_fits : (s k d a n : ℕ) → a + (n + 1) ≡ s → k ≤ a → d ≤ n → FitO s k (choose (leb d 1) (λ u. go Start (a + (n + 2)) 0) (λ u. go (Com (d - 1)) a (n + 2)))
close_fits s k d a n e c g =
    choose_by (FitO s k) (leb d 1) _ _ (λ f. starts s k (a + (n + 2)) (omega arith) (omega arith))
    (λ f. let h : 1 < d = leb-false d 1 f in
    goes s k (Com (d - 1)) a (n + 2) (omega arith) c (com_yes (d - 1) (n + 2) (omega arith) (omega arith)))

module _ (s k a n : ℕ) where
  one_byte : (q : State) → waiting q ≡ 0 → Fit q a n s k → eqb n 1 ≡ true → a + 1 ≡ s
  one_byte q w h f =
      let z : n ≡ 1 = eqb-true n 1 f in
      let v : a + (n + waiting q) ≡ s = h.sum in
      omega arith

  pub row_fits : (q : State) (x : ℕ) → Fit q a n s k → FitO s k (row q a n x)
  row_fits Start x h =
      let z : n ≡ 0 = eqb-true n 0 h.state in
      start_fits s k a x (omega arith) h.count
  row_fits Word x h = runs s k a n x (omega arith) h.count (ltb-true 0 n h.state) (in_word x) Word 18 (omega arith) (lt-ltb 0 (suc n) (omega arith))
  row_fits Push x h = push_fits s k a n x (omega arith) h.count (within_is 1 12 n h.state).low
  row_fits Num x h = runs s k a n x (omega arith) h.count (ltb-true 0 n h.state) (in_digits x) Num 20 (omega arith) (lt-ltb 0 (suc n) (omega arith))
  row_fits Hash x h =
      let z : a + 1 ≡ s = one_byte Hash refl h h.state in
      two s k (starts_word x) _ _ (goes s k Tag a 2 (omega arith) h.count refl) (inl refl)
  row_fits Tag x h = runs s k a n x (omega arith) h.count (ltb-true 0 n h.state) (in_word x) Tag 19 (omega arith) (lt-ltb 0 (suc n) (omega arith))
  row_fits Dot x h =
      let z : a + 1 ≡ s = one_byte Dot refl h h.state in
      two s k (eqb x 46) _ _ (gives s k 22 a (a + 2) (omega arith) (omega arith)) (inl refl)
  row_fits Caret x h =
      let z : a + 1 ≡ s = one_byte Caret refl h h.state in
      two s k (eqb x 34) _ _ (goes s k (Str 24) a 2 (omega arith) h.count refl) (inl refl)
  row_fits Minus x h = zeros_fits s k a 1 x (one_byte Minus refl h h.state) h.count
  row_fits Zeros x h = zeros_fits s k a n x (omega arith) h.count
  row_fits Negative x h = runs s k a n x (omega arith) h.count (ltb-true 0 n h.state) (in_digits x) Negative 21 (omega arith) (lt-ltb 0 (suc n) (omega arith))
  row_fits (Str t) x h =
      let f : is_text t ≡ true = (and_true (is_text t) (ltb 0 n) h.state).0 in
      two s k (eqb x 34) _ _ (gives s k t a (a + suc n) (omega arith) (omega arith))
      (two s k (eqb x 92) _ _ (goes s k (Esc (Text t) n) a (suc n) (omega arith) h.count (and_both (is_text t) (ltb n (suc n)) f (lt-ltb n (suc n) (omega arith)))) (back_fits s k a n (Text t) (omega arith) h.count f))
  row_fits (Esc l b) x h = esc_fits_lem s k a n l b (omega arith) h.count h.state x
  row_fits (X0 l b) x h = x0_fits s k a n l b (omega arith) h.count h.state x
  row_fits (X1 l b) x h = x1_fits s k a n l b (omega arith) h.count h.state x
  row_fits (U l b) x h = u_fits s k a n l b (omega arith) h.count h.state x
  row_fits (Un l b j) x h = un_fits s k a n l b (omega arith) h.count (and_true (leb j 6) (esc_fits l b n) h.state).1 j x
  row_fits Chr x h =
      let z : a + 1 ≡ s = one_byte Chr refl h h.state in
      two s k (eqb x 92) _ _ (goes s k (Esc One 1) a 2 (omega arith) h.count refl) (two s k (ltb x 0x80) _ _ (goes s k Quote a 2 (omega arith) h.count refl) (lead_fits s k a x z h.count))
  row_fits (More t) x h = two s k (tail_ok t x) _ _ (tail_fits s k a n t (omega arith) h.count) (inl refl)
  row_fits Quote x h = two s k (eqb x 39) _ _ (gives s k 25 a (a + suc n) (omega arith) (omega arith)) (inl refl)
  row_fits Slash x h =
      let z : a + 1 ≡ s = one_byte Slash refl h h.state in
      two s k (eqb x 47) _ _ (goes s k Slash2 a 2 (omega arith) h.count refl) (two s k (eqb x 42) _ _ (goes s k (Com 1) a 2 (omega arith) h.count refl) (inl refl))
  row_fits Slash2 x h =
      let z : n ≡ 2 = eqb-true n 2 h.state in
      two s k (eqb x 47) _ _ (goes s k (Doc 27) a 3 (omega arith) h.count refl) (two s k (eqb x 33) _ _ (goes s k (Doc 26) a 3 (omega arith) h.count refl) (line_fits s k a 2 x (omega arith) h.count))
  row_fits Line x h = line_fits s k a n x (omega arith) h.count
  row_fits (Doc t) x h =
      let f = and_true (is_doc t) (ltb 0 n) h.state in
      doc_fits s k t a n x (omega arith) h.count f.0 (ltb-true 0 n f.1)
  row_fits (DocCr t) x h =
      two s k (eqb x 10) _ _ (gives_doc s k t a (a + n) (a + (n + 2)) (omega arith) (omega arith)) (doc_fits s k t a (suc n) x (omega arith) h.count (and_true (is_doc t) (ltb 0 n) h.state).0 (omega arith))
  row_fits Cr x h =
      let z : a + 1 ≡ s = one_byte Cr refl h h.state in
      two s k (eqb x 10) _ _ (starts s k (a + 2) (omega arith) (omega arith)) (inl refl)
  row_fits (Com d) x h =
      let f = com_in d n h.state in
      com_fits_lem s k d a n x (omega arith) h.count f.0 f.1
  row_fits (Star d) x h =
      let f = com_in d n h.state in
      let g : d ≤ n = f.1 in
      two s k (eqb x 47) _ _ (close_fits s k d a n (omega arith) h.count g) (com_fits_lem s k d a (suc n) x (omega arith) h.count f.0 (omega arith))
  row_fits (Bar d) x h =
      let f = com_in d n h.state in
      let g : d ≤ n = f.1 in
      two s k (eqb x 42) _ _ (goes s k (Com (d + 1)) a (n + 2) (omega arith) h.count (com_yes (d + 1) (n + 2) (omega arith) (omega arith))) (com_fits_lem s k d a (suc n) x (omega arith) h.count f.0 (omega arith))
  row_fits Refused x h = never h.state

-- ---- a state that fits leads to such states, or is refused

abbrev Fine : Conf → Type 0
Fine c = (code_of c.state ≡ refused_code) ⊎ (state_fits c.state c.size ≡ true)

fine_next : (q : State) (a n x : ℕ) → state_fits q n ≡ true → Fine (row q a n x).next
fine_next q a n x f = fine_by (row_fits (a + (n + waiting q)) 0 a n q x (record { sum = refl; count = omega arith; state = f }))
  where
    fine_by : FitO (a + (n + waiting q)) 0 (row q a n x) → Fine (row q a n x).next
    fine_by (inl e) = inl e
    fine_by (inr h) = inr h.state

fine_step : (c : Conf) (x : ℕ) → Fine c → Fine (step c x).next
fine_step c x (inl e) = inl (rw (code_refused c.state (eq-eqb (code_of c.state) refused_code e)))
fine_step c x (inr f) = fine_next c.state c.start c.size x f

pub fine_feed : (xs : List ℕ) (c : Conf) → Fine c → Fine (feed c xs).next
unfolding feed
fine_feed [] c h = h
fine_feed (x ∷ xs) c h = fine_feed xs (step c x).next (fine_step c x h)
