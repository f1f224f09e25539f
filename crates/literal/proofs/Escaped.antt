-- Laws of escapes: what one looks like, and a turn of the loops that go from escape to escape.
use Rattle.std.specs.Prelude.{ℕ, Option, Some, None}
use Prim.Native.Nat.{ℕ, zero, suc, ◌+◌, ◌-◌, ◌*◌, ◌^◌, ◌≤◌, ◌<◌}
use mathlib.Core.Path.{◌≡◌, refl, sym, ap, ◌∙◌}
use mathlib.Core.Bool.{Bool, true, false}
use mathlib.Core.List.{List, [], ◌∷◌}
use native.Mathlib.Nat.{pow-suc, pow-le-pow_right, zero-lt-suc}
use native.Mathlib.Numerals.{add-one}
use native.Mathlib.Omega.{arith}
use lib.Dec.{leb, ltb, eqb}
use lib.ListN.{length, get_or, take, drop}
use borrow.Author.Tests.{ltb-true, lt-ltb, le-ltb, eqb-true, eq-eqb, ne_eqb}
use Rattle.text.specs.Booleans.{within, next_is}
use Rattle.text.specs.Scans.{spelled, sought, later}
use Rattle.text.specs.Utf8.{scalar, encoded}
use Rattle.text.specs.Digits.{hex_of}
use Rattle.text.proofs.Tests.{at_byte, at_end, within_is}
use Rattle.text.proofs.Walks.{sought_past, sought_stop, spelled_step}
use Rattle.text.proofs.Booleans.{choose_by}
use Rattle.literal.specs.declared.Digits.{Digits}
use Rattle.literal.specs.Escapes.{digits_by, digits_of, simple_of, pair_by, pair_of, braced_by, braced_of, after_by, after_of, escape_of, stray_by, stray_look, escape_look_by, escape_look, escape_piece_by, escape_piece}
use Rattle.literal.proofs.Turns.{Turn}

-- every element is so
abbrev pub Each : (ℕ → Type 0) → List ℕ → Type 0
Each P [] = Unit {0}
Each P (x ∷ xs) = P x × Each P xs

abbrev pub Ascii : ℕ → Type 0
Ascii x = x < 128

-- ---- hex digits

-- a digit's value is below 16, and its byte is ASCII
abbrev Small : ℕ → Option ℕ → Type 0
Small x (Some d) = (d < 16) × Ascii x
Small x None = Unit {0}

hex_small : (x : ℕ) → Small x (hex_of x)
unfolding hex_of
hex_small x =
    choose_by (Small x) (within 48 57 x) _ _ (λ t. let w = within_is 48 57 x t in (omega arith, omega arith))
    (λ f. choose_by (Small x) (within 65 70 x) _ _ (λ t. let w = within_is 65 70 x t in (omega arith, omega arith))
    (λ g. choose_by (Small x) (within 97 102 x) _ _ (λ t. let w = within_is 97 102 x t in (omega arith, omega arith)) (λ h. tt)))

pub hex_below : (x d : ℕ) → hex_of x ≡ Some d → d < 16
hex_below x d e = (rw e at (hex_small x)).0

-- what is below 16 ^ k for less than six digits leaves room for one more
pub pow_room : (v k : ℕ) → v < 16 ^ k → k < 6 → v < 1048576
pow_room v k h l =
    let g : k ≤ 5 = omega arith in
    let p : 16 ^ k ≤ 16 ^ 5 = pow-le-pow_right (zero-lt-suc 15) g in
    omega arith

pub pow_next : (v k d : ℕ) → v < 16 ^ k → d < 16 → v * 16 + d < 16 ^ (k + 1)
pow_next v k d h l = rw (add-one, pow-suc) (omega arith)

pub digits_go : (m v k x d : ℕ) (xs : List ℕ) → k < m → hex_of x ≡ Some d → digits_of m v k (x ∷ xs) ≡ digits_of m (v * 16 + d) (k + 1) xs
unfolding digits_of
digits_go m v k x d xs h e = rw (lt-ltb k m h, e)

pub digits_step : (m v k d : ℕ) (s : List ℕ) (i : ℕ) → i < length s → k < m → hex_of (get_or s i 0) ≡ Some d
    → digits_of m v k (drop i s) ≡ digits_of m (v * 16 + d) (k + 1) (drop (i + 1) s)
digits_step m v k d s i h l e = rw (at_byte s i h) (digits_go m v k (get_or s i 0) d (drop (i + 1) s) l e)

pub digits_full : (m v k : ℕ) (xs : List ℕ) → m ≤ k → digits_of m v k xs ≡ record { value = v; count = k }
unfolding digits_of
digits_full m v k [] h = refl
digits_full m v k (x ∷ xs) h = rw (le-ltb k m h)

digits_no : (m v k x : ℕ) (xs : List ℕ) → k < m → hex_of x ≡ None → digits_of m v k (x ∷ xs) ≡ record { value = v; count = k }
unfolding digits_of
digits_no m v k x xs h e = rw (lt-ltb k m h, e)

pub digits_stop : (m v k : ℕ) (s : List ℕ) (i : ℕ) → i < length s → k < m → hex_of (get_or s i 0) ≡ None → digits_of m v k (drop i s) ≡ record { value = v; count = k }
digits_stop m v k s i h l e = rw (at_byte s i h) (digits_no m v k (get_or s i 0) (drop (i + 1) s) l e)

pub digits_end : (m v k : ℕ) (s : List ℕ) (i : ℕ) → length s ≤ i → digits_of m v k (drop i s) ≡ record { value = v; count = k }
unfolding digits_of
digits_end m v k s i h = rw (at_end s i h)

-- digits that were read, after k: no more than asked for, all there, all ASCII
record Run (m k : ℕ) (xs : List ℕ) (d : Digits) : Type 0 where
  more : ℕ
  count : d.count ≡ k + more
  most : d.count ≤ m
  inside : more ≤ length xs
  ascii : Each Ascii (take more xs)

run_none : (m v k : ℕ) (xs : List ℕ) → k ≤ m → Run m k xs (record { value = v; count = k })
run_none m v k xs h = record { more = 0; count = omega arith; most = h; inside = omega arith; ascii = tt }

run_more : (m k x : ℕ) (xs : List ℕ) (d : Digits) → Ascii x → Run m (k + 1) xs d → Run m k (x ∷ xs) d
run_more m k x xs d a r = record {
  more = suc r.more;
  count = omega (arith, r.count);
  most = r.most;
  inside = omega (arith, r.inside);
  ascii = (a, r.ascii);
}

run_by : (m v k x : ℕ) (xs : List ℕ) (g : Option ℕ) (f : ℕ → Digits) → k ≤ m → Small x g → ((w : ℕ) → Run m (k + 1) xs (f w)) → Run m k (x ∷ xs) (digits_by g v k f)
run_by m v k x xs None f h s a = run_none m v k (x ∷ xs) h
run_by m v k x xs (Some d) f h s a = run_more m k x xs (f (v * 16 + d)) s.1 (a (v * 16 + d))

digits_run : (m v k : ℕ) (xs : List ℕ) → k ≤ m → Run m k xs (digits_of m v k xs)
unfolding digits_of
digits_run m v k [] h = run_none m v k [] h
digits_run m v k (x ∷ xs) h =
    choose_by (Run m k (x ∷ xs)) (ltb k m) _ _
    (λ t.
    let l : k + 1 ≤ m = omega (arith, ltb-true k m t) in
    run_by m v k x xs (hex_of x) (λ w. digits_of m w (k + 1) xs) h (hex_small x) (λ w. digits_run m w (k + 1) xs l))
    (λ f. run_none m v k (x ∷ xs) h)

-- the same from none on
record Read (m : ℕ) (xs : List ℕ) (d : Digits) : Type 0 where
  most : d.count ≤ m
  inside : d.count ≤ length xs
  ascii : Each Ascii (take d.count xs)

digits_read : (m : ℕ) (xs : List ℕ) → Read m xs (digits_of m 0 0 xs)
digits_read m xs =
    let z : 0 ≤ m = omega arith in
    let r = digits_run m 0 0 xs z in
    let e : r.more ≡ (digits_of m 0 0 xs).count = omega (arith, r.count) in
    record { most = r.most; inside = omega (arith, r.inside); ascii = rw e at r.ascii }

-- ---- what an escape looks like

-- two to ten bytes, all there, all ASCII
pub record Meant (xs : List ℕ) (n : ℕ) : Type 0 where
  pub two : 2 ≤ n
  pub ten : n ≤ 10
  pub inside : n ≤ length xs
  pub ascii : Each Ascii (take n xs)

abbrev Fits : List ℕ → Option (ℕ × ℕ) → Type 0
Fits xs None = Unit {0}
Fits xs (Some (c, n)) = Meant xs n

abbrev Letter : ℕ → Option ℕ → Type 0
Letter x (Some c) = Ascii x
Letter x None = Unit {0}

simple_letter : (x : ℕ) → Letter x (simple_of x)
unfolding simple_of
simple_letter x =
    choose_by (Letter x) (eqb x 34) _ _ (λ t. omega (arith, eqb-true x 34 t))
    (λ f. choose_by (Letter x) (eqb x 92) _ _ (λ t. omega (arith, eqb-true x 92 t))
    (λ f. choose_by (Letter x) (eqb x 114) _ _ (λ t. omega (arith, eqb-true x 114 t))
    (λ f. choose_by (Letter x) (eqb x 110) _ _ (λ t. omega (arith, eqb-true x 110 t))
    (λ f. choose_by (Letter x) (eqb x 116) _ _ (λ t. omega (arith, eqb-true x 116 t))
    (λ f. choose_by (Letter x) (eqb x 48) _ _ (λ t. omega (arith, eqb-true x 48 t))
    (λ f. choose_by (Letter x) (eqb x 39) _ _ (λ t. omega (arith, eqb-true x 39 t)) (λ f. tt)))))))

pair_fits : (xs : List ℕ) (d : Digits) → Read 2 xs d → Fits (92 ∷ 120 ∷ xs) (pair_by d)
pair_fits xs d r =
    choose_by (Fits (92 ∷ 120 ∷ xs)) (eqb d.count 2) _ _
    (λ t.
    let e : d.count ≡ 2 = eqb-true d.count 2 t in
    record { two = omega arith; ten = omega arith; inside = omega (arith, r.inside); ascii = (omega arith, (omega arith, rw e at r.ascii)) })
    (λ f. tt)

closed : (n : ℕ) (xs : List ℕ) → next_is 125 (drop n xs) ≡ true → Each Ascii (take n xs) → (n + 1 ≤ length xs) × Each Ascii (take (suc n) xs)
closed zero [] e a = let z : ◌≡◌ {A = ℕ} 0 1 = cc in absurd (omega arith)
closed zero (x ∷ xs) e a = (omega arith, (omega (arith, eqb-true x 125 e), tt))
closed (suc n) [] e a = let z : ◌≡◌ {A = ℕ} 0 1 = cc in absurd (omega arith)
closed (suc n) (x ∷ xs) e a =
    let r = closed n xs e a.1 in
    (omega (arith, r.0), (a.0, r.1))

braced_fits : (xs : List ℕ) (d : Digits) → Read 6 xs d → Fits (92 ∷ 117 ∷ 123 ∷ xs) (braced_by xs d)
braced_fits xs d r =
    choose_by (Fits (92 ∷ 117 ∷ 123 ∷ xs)) (leb 2 d.count) _ _
    (λ t. choose_by (Fits (92 ∷ 117 ∷ 123 ∷ xs)) (next_is 125 (drop d.count xs)) _ _
    (λ u.
    let w = closed d.count xs u r.ascii in
    let e : d.count + 4 ≡ suc (suc (suc (suc d.count))) = omega arith in
    rw e record {
      two = omega arith;
      ten = omega (arith, r.most);
      inside = omega (arith, w.0);
      ascii = (omega arith, (omega arith, (omega arith, w.1)));
    })
    (λ g. tt)) (λ f. tt)

braced_of_fits : (xs : List ℕ) → Fits (92 ∷ 117 ∷ xs) (braced_of xs)
unfolding braced_of
braced_of_fits [] = tt
braced_of_fits (x ∷ xs) =
    choose_by (Fits (92 ∷ 117 ∷ x ∷ xs)) (eqb x 123) _ _
    (λ t.
    let e : x ≡ 123 = eqb-true x 123 t in
    rw e (braced_fits xs (digits_of 6 0 0 xs) (digits_read 6 xs)))
    (λ f. tt)

after_fits : (v : Option ℕ) (x : ℕ) (xs : List ℕ) → Letter x v → Fits (92 ∷ x ∷ xs) (after_by v x xs)
unfolding pair_of
after_fits (Some c) x xs l = record { two = omega arith; ten = omega arith; inside = omega arith; ascii = (omega arith, (l, tt)) }
after_fits None x xs l =
    choose_by (Fits (92 ∷ x ∷ xs)) (eqb x 120) _ _
    (λ t.
    let e : x ≡ 120 = eqb-true x 120 t in
    rw e (pair_fits xs (digits_of 2 0 0 xs) (digits_read 2 xs)))
    (λ f. choose_by (Fits (92 ∷ x ∷ xs)) (eqb x 117) _ _
    (λ t.
    let e : x ≡ 117 = eqb-true x 117 t in
    rw e (braced_of_fits xs))
    (λ g. tt))

escape_fits : (xs : List ℕ) → Fits xs (escape_of xs)
unfolding escape_of after_of
escape_fits [] = tt
escape_fits (x ∷ []) = choose_by (Fits (x ∷ [])) (eqb x 92) _ _ (λ t. tt) (λ f. tt)
escape_fits (x ∷ y ∷ xs) =
    choose_by (Fits (x ∷ y ∷ xs)) (eqb x 92) _ _
    (λ t.
    let e : x ≡ 92 = eqb-true x 92 t in
    rw e (after_fits (simple_of y) y xs (simple_letter y)))
    (λ f. tt)

pub meant : (xs : List ℕ) (c n : ℕ) → escape_of xs ≡ Some (c, n) → Meant xs n
meant xs c n e = rw e at (escape_fits xs)

abbrev Opens : ℕ → List ℕ → Option (ℕ × ℕ) → Type 0
Opens b xs None = Unit {0}
Opens b xs (Some (c, n)) = next_is b xs ≡ false

slash_opens : (b : ℕ) (xs : List ℕ) (r : Option (ℕ × ℕ)) (x : ℕ) → x ≡ 92 → (b ≡ 92 → ⊥) → Opens b (x ∷ xs) r
slash_opens b xs None x e h = tt
slash_opens b xs (Some (c, n)) x e h = ne_eqb x b (λ z. h (sym z ∙ e))

escape_opens : (b : ℕ) (xs : List ℕ) → (b ≡ 92 → ⊥) → Opens b xs (escape_of xs)
unfolding escape_of
escape_opens b [] h = tt
escape_opens b (x ∷ xs) h = choose_by (Opens b (x ∷ xs)) (eqb x 92) _ _ (λ t. slash_opens b xs (after_of xs) x (eqb-true x 92 t) h) (λ f. tt)

-- an escape begins with a backslash, and with nothing else
pub means_opens : (b : ℕ) (xs : List ℕ) (c n : ℕ) → (b ≡ 92 → ⊥) → escape_of xs ≡ Some (c, n) → next_is b xs ≡ false
means_opens b xs c n h e = rw e at (escape_opens b xs h)

-- ---- a turn of the loops

module _ (s : List ℕ) (i : ℕ) (h : i < length s) where
  pub means_turn : (c n : ℕ) → escape_of (drop i s) ≡ Some (c, n) → Turn (spelled escape_piece 0 (drop i s)) (encoded c) (spelled escape_piece 0 (drop (i + n) s))
  means_turn c n e =
      let k : i + ((n - 1) + 1) ≡ i + n = omega (arith, (meant (drop i s) c n e).two) in
      record {
        is =
            spelled_step escape_piece s i (n - 1) (encoded c) h (ap (λ (x : Option (ℕ × ℕ)). (escape_piece_by (drop i s) x).gives) e) (ap (λ (x : Option (ℕ × ℕ)). (escape_piece_by (drop i s) x).more) e)
            ∙ rw k;
      }

  pub plain_turn : escape_of (drop i s) ≡ None → Turn (spelled escape_piece 0 (drop i s)) (get_or s i 0 ∷ []) (spelled escape_piece 0 (drop (i + 1) s))
  plain_turn e =
      let g : take 1 (drop i s) ≡ get_or s i 0 ∷ [] = rw (at_byte s i h) in
      record {
        is =
            spelled_step escape_piece s i 0 (get_or s i 0 ∷ []) h (ap (λ (x : Option (ℕ × ℕ)). (escape_piece_by (drop i s) x).gives) e ∙ g)
            (ap (λ (x : Option (ℕ × ℕ)). (escape_piece_by (drop i s) x).more) e);
      }

  -- past an escape, whatever is sought
  past_means : (p : List ℕ → Option ℕ) (c n : ℕ) → escape_of (drop i s) ≡ Some (c, n) → p (drop i s) ≡ Some (n - 1)
      → later i (sought p 0 (drop i s)) ≡ later (i + n) (sought p 0 (drop (i + n) s))
  past_means p c n e l =
      let k : i + ((n - 1) + 1) ≡ i + n = omega (arith, (meant (drop i s) c n e).two) in
      sought_past p s i (n - 1) h l ∙ rw k

  pub means_look : (c n : ℕ) → escape_of (drop i s) ≡ Some (c, n) → scalar c ≡ true
      → later i (sought escape_look 0 (drop i s)) ≡ later (i + n) (sought escape_look 0 (drop (i + n) s))
  means_look c n e g = past_means escape_look c n e (ap escape_look_by e ∙ rw g)

  pub plain_look : escape_of (drop i s) ≡ None → later i (sought escape_look 0 (drop i s)) ≡ later (i + 1) (sought escape_look 0 (drop (i + 1) s))
  plain_look e = sought_past escape_look s i 0 h (ap escape_look_by e)

  pub bad_look : (c n : ℕ) → escape_of (drop i s) ≡ Some (c, n) → scalar c ≡ false → later i (sought escape_look 0 (drop i s)) ≡ Some i
  bad_look c n e g = sought_stop escape_look s i h (ap escape_look_by e ∙ rw g)

  good_by : (c n : ℕ) (b : Bool) → scalar c ≡ b → later i (sought escape_look 0 (drop i s)) ≡ None → escape_of (drop i s) ≡ Some (c, n) → scalar c ≡ true
  good_by c n true g a e = g
  good_by c n false g a e = let z : ◌≡◌ {A = ℕ} 0 1 = cc (bad_look c n e g) in absurd (omega arith)

  -- where no escape is bad, this one is not
  pub good_scalar : (c n : ℕ) → later i (sought escape_look 0 (drop i s)) ≡ None → escape_of (drop i s) ≡ Some (c, n) → scalar c ≡ true
  good_scalar c n a e = good_by c n (scalar c) refl a e

  pub means_stray : (c n : ℕ) → escape_of (drop i s) ≡ Some (c, n) → later i (sought stray_look 0 (drop i s)) ≡ later (i + n) (sought stray_look 0 (drop (i + n) s))
  means_stray c n e = past_means stray_look c n e (ap (λ (x : Option (ℕ × ℕ)). stray_by x (drop i s)) e)

  pub other_stray : escape_of (drop i s) ≡ None → (get_or s i 0 ≡ 92 → ⊥) → later i (sought stray_look 0 (drop i s)) ≡ later (i + 1) (sought stray_look 0 (drop (i + 1) s))
  other_stray e g =
      let b : next_is 92 (drop i s) ≡ false = rw (at_byte s i h) (ne_eqb (get_or s i 0) 92 g) in
      sought_past stray_look s i 0 h (ap (λ (x : Option (ℕ × ℕ)). stray_by x (drop i s)) e ∙ rw b)

  pub slash_stray : escape_of (drop i s) ≡ None → get_or s i 0 ≡ 92 → later i (sought stray_look 0 (drop i s)) ≡ Some i
  slash_stray e g =
      let b : next_is 92 (drop i s) ≡ true = rw (at_byte s i h) (eq-eqb (get_or s i 0) 92 g) in
      sought_stop stray_look s i h (ap (λ (x : Option (ℕ × ℕ)). stray_by x (drop i s)) e ∙ rw b)
