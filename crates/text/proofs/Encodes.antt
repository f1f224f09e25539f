-- A character's bytes are read as the character.
use Rattle.std.specs.Prelude.{Option, Some, None}
use Prim.Native.Nat.{ℕ, suc, ◌+◌, ◌-◌, ◌*◌, ◌/◌, ◌%◌, ◌≤◌, ◌<◌}
use mathlib.Core.Path.{◌≡◌, refl, sym, ap, ◌∙◌}
use mathlib.Core.Bool.{true}
use mathlib.Core.List.{List, ◌∷◌, ◌++◌}
use mathlib.Core.Logic.{⊎_elim}
use native.Mathlib.Omega.{arith}
use lib.ListN.{length, get_or, drop}
use borrow.Author.Tests.{lt-ltb, le-ltb, le-leb}
use Rattle.text.specs.Scans.{sought, later}
use Rattle.text.specs.Utf8.{scalar, lead_of, gathered, judged, char_of, encoded, seq_look, look_by}
use Rattle.text.proofs.Tests.{within_yes, lt_or_ge, at_byte}
use Rattle.text.proofs.Walks.{sought_past}
use Rattle.text.proofs.Decodes.{Found, one, two, three, four, decoded, scalar_is, scalar_low, encoded_one, encoded_two, encoded_three, encoded_four}

-- what a first byte says, by its row
pub lead_one : (x : ℕ) → x < 0x80 → lead_of x ≡ Some (x, 0, 0)
unfolding lead_of
lead_one x h = rw (lt-ltb x 0x80 h)

pub lead_stray : (x : ℕ) → 0x80 ≤ x → x < 0xc0 → lead_of x ≡ None
unfolding lead_of
lead_stray x l h = rw (le-ltb x 0x80 l, lt-ltb x 0xc0 h)

pub lead_two : (x : ℕ) → 0xc0 ≤ x → x < 0xe0 → lead_of x ≡ Some (x - 0xc0, 1, 0x80)
unfolding lead_of
lead_two x l h = rw (le-ltb x 0x80 (omega arith), le-ltb x 0xc0 l, lt-ltb x 0xe0 h)

pub lead_three : (x : ℕ) → 0xe0 ≤ x → x < 0xf0 → lead_of x ≡ Some (x - 0xe0, 2, 0x800)
unfolding lead_of
lead_three x l h = rw (le-ltb x 0x80 (omega arith), le-ltb x 0xc0 (omega arith), le-ltb x 0xe0 l, lt-ltb x 0xf0 h)

pub lead_four : (x : ℕ) → 0xf0 ≤ x → x < 0xf8 → lead_of x ≡ Some (x - 0xf0, 3, 0x10000)
unfolding lead_of
lead_four x l h = rw (le-ltb x 0x80 (omega arith), le-ltb x 0xc0 (omega arith), le-ltb x 0xe0 (omega arith), le-ltb x 0xf0 l, lt-ltb x 0xf8 h)

pub lead_high : (x : ℕ) → 0xf8 ≤ x → lead_of x ≡ None
unfolding lead_of
lead_high x l = rw (le-ltb x 0x80 (omega arith), le-ltb x 0xc0 (omega arith), le-ltb x 0xe0 (omega arith), le-ltb x 0xf0 (omega arith), le-ltb x 0xf8 l)

-- one more byte, or none
pub gathered_none : (v : ℕ) (xs : List ℕ) → gathered 0 v xs ≡ Some v
unfolding gathered
gathered_none v xs = refl

pub gathered_more : (k v x : ℕ) (xs : List ℕ) → 0x80 ≤ x → x ≤ 0xbf → gathered (suc k) v (x ∷ xs) ≡ gathered k (v * 64 + (x - 0x80)) xs
unfolding gathered
gathered_more k v x xs l h = rw (within_yes 0x80 0xbf x l h)

judged_yes : (low n c v : ℕ) → v ≡ c → low ≤ c → scalar c ≡ true → judged low n (Some v) ≡ Some (c, n)
unfolding judged
judged_yes low n c v e l g = rw (e, le-leb low c l, g)

-- the four rows, the other way round
pub found_read : {xs : List ℕ} {c n : ℕ} → Found xs c n → char_of xs ≡ Some (c, n)
unfolding char_of
found_read (one {x} {ys} h) =
    rw (lead_one x h, gathered_none x ys) (judged_yes 0 1 x x refl (omega arith) (scalar_low x (omega arith)))
found_read (two {x} {y} {c} {ys} l h t e s g) =
    rw (lead_two x l h, gathered_more 0 (x - 0xc0) y ys t.0 t.1, gathered_none ((x - 0xc0) * 64 + (y - 0x80)) ys)
    (judged_yes 0x80 2 c _ (sym e) s g)
found_read (three {x} {y} {z} {c} {ys} l h t u e s g) =
    rw (lead_three x l h, gathered_more 1 (x - 0xe0) y (z ∷ ys) t.0 t.1, gathered_more 0 ((x - 0xe0) * 64 + (y - 0x80)) z ys u.0 u.1, gathered_none (((x - 0xe0) * 64 + (y - 0x80)) * 64 + (z - 0x80)) ys)
    (judged_yes 0x800 3 c _ (sym e) s g)
found_read (four {x} {y} {z} {t} {c} {ys} l h a b d e s g) =
    rw (lead_four x l h, gathered_more 2 (x - 0xf0) y (z ∷ t ∷ ys) a.0 a.1, gathered_more 1 ((x - 0xf0) * 64 + (y - 0x80)) z (t ∷ ys) b.0 b.1, gathered_more 0 (((x - 0xf0) * 64 + (y - 0x80)) * 64 + (z - 0x80)) t ys d.0 d.1, gathered_none ((((x - 0xf0) * 64 + (y - 0x80)) * 64 + (z - 0x80)) * 64 + (t - 0x80)) ys)
    (judged_yes 0x10000 4 c _ (sym e) s g)

pub scalar_below : (c : ℕ) → scalar c ≡ true → c < 0x110000
scalar_below c s = ⊎_elim (λ h. omega arith) (λ h. omega arith) (scalar_is c s)

four_value : (c : ℕ) → c ≡ ((((0xf0 + c / 262144) - 0xf0) * 64 + ((0x80 + c / 4096 % 64) - 0x80)) * 64 + ((0x80 + c / 64 % 64) - 0x80)) * 64 + ((0x80 + c % 64) - 0x80)
four_value c =
    let p : ((0xf0 + c / 262144) - 0xf0) * 64 + ((0x80 + c / 4096 % 64) - 0x80) ≡ c / 4096 = omega arith in
    let q : (c / 4096) * 64 + ((0x80 + c / 64 % 64) - 0x80) ≡ c / 64 = omega arith in
    rw (p, q) (omega arith)

-- a character's bytes before anything else are found
pub encoded_found : (c : ℕ) (xs : List ℕ) → scalar c ≡ true → Found (encoded c ++ xs) c (length (encoded c))
encoded_found c xs s =
    ⊎_elim (λ h. rw (encoded_one c h) (one h))
    (λ a. ⊎_elim (λ h. rw (encoded_two c a h) (two {x = 0xc0 + c / 64} {y = 0x80 + c % 64} {c = c} (omega arith) (omega arith) (omega arith) (omega arith) a s))
    (λ b. ⊎_elim (λ h. rw (encoded_three c b h) (three {x = 0xe0 + c / 4096} {y = 0x80 + c / 64 % 64} {z = 0x80 + c % 64} {c = c} (omega arith) (omega arith) (omega arith) (omega arith) (omega arith) b s))
    (λ d.
    let k : c < 0x110000 = scalar_below c s in
    rw (encoded_four c d) (four {x = 0xf0 + c / 262144} {y = 0x80 + c / 4096 % 64} {z = 0x80 + c / 64 % 64} {t = 0x80 + c % 64} {c = c} (omega arith) (omega arith) (omega arith) (omega arith) (omega arith) (four_value c) d s))
    (lt_or_ge c 0x10000)) (lt_or_ge c 0x800)) (lt_or_ge c 0x80)

-- decode (encode c) is c
pub encoded_read : (c : ℕ) (xs : List ℕ) → scalar c ≡ true → char_of (encoded c ++ xs) ≡ Some (c, length (encoded c))
encoded_read c xs s = found_read (encoded_found c xs s)

-- a turn of the search for a bad sequence
pub look_step : (s : List ℕ) (i c n : ℕ) → i < length s → char_of (drop i s) ≡ Some (c, n)
    → later i (sought seq_look 0 (drop i s)) ≡ later (i + n) (sought seq_look 0 (drop (i + n) s))
look_step s i c n h e =
    let d = decoded (drop i s) c n e in
    let k : i + ((n - 1) + 1) ≡ i + n = omega (arith, d.some) in
    sought_past seq_look s i (n - 1) h (ap look_by e) ∙ rw k

pub look_ascii : (s : List ℕ) (i : ℕ) → i < length s → get_or s i 0 < 0x80
    → later i (sought seq_look 0 (drop i s)) ≡ later (i + 1) (sought seq_look 0 (drop (i + 1) s))
look_ascii s i h a = look_step s i (get_or s i 0) 1 h (rw (at_byte s i h) (found_read (one a)))

-- what a first byte says is small
pub record Small (bits more : ℕ) : Type 0 where
  pub few : more ≤ 3
  pub low : bits < 256

row_small_lem : (a b d bits more low : ℕ) → ◌≡◌ {A = Option (ℕ × ℕ × ℕ)} (Some (a, b, d)) (Some (bits, more, low)) → a < 256 → b ≤ 3 → Small bits more
row_small_lem a b d bits more low e h g =
    let t : ◌≡◌ {A = ℕ × ℕ × ℕ} (a, b, d) (bits, more, low) = cc in
    let p : a ≡ bits = ap (λ (z : ℕ × ℕ × ℕ). z.0) t in
    let q : b ≡ more = ap (λ (z : ℕ × ℕ × ℕ). z.1) t in
    record { few = omega arith; low = omega arith }

stray_small : {bits more : ℕ} (low : ℕ) → ◌≡◌ {A = Option (ℕ × ℕ × ℕ)} None (Some (bits, more, low)) → Small bits more
stray_small low e = let z : ◌≡◌ {A = ℕ} 0 1 = cc in absurd (omega arith)

pub lead_small : (x bits more low : ℕ) → x < 256 → lead_of x ≡ Some (bits, more, low) → Small bits more
lead_small x bits more low b e =
    ⊎_elim (λ h. row_small_lem x 0 0 bits more low (sym (lead_one x h) ∙ e) b (omega arith))
    (λ a. ⊎_elim (λ h. stray_small low (sym (lead_stray x a h) ∙ e))
    (λ a. ⊎_elim (λ h. row_small_lem (x - 0xc0) 1 0x80 bits more low (sym (lead_two x a h) ∙ e) (omega arith) (omega arith))
    (λ a. ⊎_elim (λ h. row_small_lem (x - 0xe0) 2 0x800 bits more low (sym (lead_three x a h) ∙ e) (omega arith) (omega arith))
    (λ a. ⊎_elim (λ h. row_small_lem (x - 0xf0) 3 0x10000 bits more low (sym (lead_four x a h) ∙ e) (omega arith) (omega arith))
    (λ h. stray_small low (sym (lead_high x h) ∙ e)) (lt_or_ge x 0xf8)) (lt_or_ge x 0xf0)) (lt_or_ge x 0xe0)) (lt_or_ge x 0xc0)) (lt_or_ge x 0x80)
