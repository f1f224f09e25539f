-- Laws of printed strings.
use Rattle.std.specs.Prelude.{ℕ, Option, Some, None}
use Prim.Native.Nat.{ℕ, ◌+◌, ◌-◌, ◌<◌}
use mathlib.Core.Path.{◌≡◌, refl, ap, ◌∙◌}
use mathlib.Core.Bool.{Bool, true, false, not}
use mathlib.Core.List.{List, [], ◌∷◌, ◌++◌}
use mathlib.Core.Logic.{⊎_elim}
use native.Mathlib.Omega.{arith}
use lib.Dec.{eqb}
use lib.ListN.{length, get_or, drop, length-append}
use borrow.Author.Tests.{ne_eqb, lt-ltb, le-ltb}
use Rattle.text.specs.Booleans.{and, within}
use Rattle.text.specs.Scans.{spelled}
use Rattle.text.specs.Splice.{Room, Wrote, spent}
use Rattle.text.specs.Utf8.{char_of, encoded}
use Rattle.text.specs.Digits.{hexes}
use Rattle.text.proofs.Tests.{lt_or_ge, at_byte, within_low, within_high, within_is}
use Rattle.text.proofs.Decodes.{one, decoded, encoded_one}
use Rattle.text.proofs.Encodes.{found_read, scalar_below}
use Rattle.text.proofs.Hexes.{length_hexes}
use Rattle.text.proofs.Splices.{wrote_then, room_front, room_next}
use Rattle.text.proofs.Walks.{spelled_step}
use Rattle.text.proofs.Booleans.{or_nothing}
use Rattle.literal.specs.declared.Show.TheVariants.{Pair, Bare, Hex}
use Rattle.literal.specs.Literals.{hex_count, bare, bare_in, bare_byte, show_of, shown_by, shown, char_piece_by, char_piece, inside, literal}
use Rattle.literal.proofs.Turns.{Turn}

pub char_below : (xs : List ℕ) (c n : ℕ) → char_of xs ≡ Some (c, n) → c < 0x110000
char_below xs c n e = scalar_below c (decoded xs c n e).good

-- ---- a character

pub shown_pair : (q c b : ℕ) → show_of q c ≡ Pair b → shown q c ≡ 92 ∷ b ∷ []
unfolding shown shown_by
shown_pair q c b e = rw e

pub shown_bare : (q c : ℕ) → show_of q c ≡ Bare → shown q c ≡ encoded c
unfolding shown shown_by
shown_bare q c e = rw e

-- three bytes, then n digits, then the brace
abbrev pub braced : ℕ → ℕ → List ℕ
braced n c = (92 ∷ 117 ∷ 123 ∷ []) ++ (hexes n c ++ (125 ∷ []))

pub shown_hex : (q c n : ℕ) → show_of q c ≡ Hex → n ≡ hex_count c → shown q c ≡ braced n c
unfolding shown shown_by
shown_hex q c n e f = rw (e, f)

pub length_braced : (n c : ℕ) → length (braced n c) ≡ n + 4
length_braced n c = omega (arith, length-append (hexes n c) (125 ∷ []), length_hexes n c)

module _ (n c : ℕ) {o t o₁ : List ℕ} {at a₁ : ℕ} (r : Room o at t) (e : t ≡ braced n c) (w : Wrote o at (92 ∷ 117 ∷ 123 ∷ []) o₁ a₁) where
  pub digits_room : Room o₁ a₁ (hexes n c)
  digits_room = room_front (hexes n c) (125 ∷ []) (room_next (hexes n c ++ (125 ∷ [])) w (rw e at r))

  pub brace_room : {o₂ : List ℕ} {a₂ : ℕ} → Wrote o₁ a₁ (hexes n c) o₂ a₂ → Room o₂ a₂ (125 ∷ [])
  brace_room v = room_next (125 ∷ []) v (room_next (hexes n c ++ (125 ∷ [])) w (rw e at r))

-- ---- a string with its quotes

pub literal_spent : (q : ℕ) (s : List ℕ) (left : ℕ) → spent left (inside q s) - 2 ≡ spent left (literal q s)
unfolding literal spent
literal_spent q s left = omega (arith, length-append (inside q s) (q ∷ []))

pub literal_wrote : (q : ℕ) (s : List ℕ) {o o₁ o₂ o₃ : List ℕ} {at a₁ a₂ a₃ : ℕ} → Wrote o at (q ∷ []) o₁ a₁ → Wrote o₁ a₁ (inside q s) o₂ a₂ → Wrote o₂ a₂ (q ∷ []) o₃ a₃
    → Wrote o at (literal q s) o₃ a₃
unfolding literal
literal_wrote q s u v w = wrote_then u (wrote_then v w)

module _ (q : ℕ) (s : List ℕ) {o : List ℕ} {at : ℕ} (r : Room o at (literal q s)) where
  pub open_room : Room o at (q ∷ [])
  unfolding literal
  open_room = room_front (q ∷ []) (inside q s ++ (q ∷ [])) r

  pub inside_room : {o₁ : List ℕ} {a₁ : ℕ} → Wrote o at (q ∷ []) o₁ a₁ → Room o₁ a₁ (inside q s)
  unfolding literal
  inside_room w = room_front (inside q s) (q ∷ []) (room_next (inside q s ++ (q ∷ [])) w r)

  pub close_room : {o₁ o₂ : List ℕ} {a₁ a₂ : ℕ} → Wrote o at (q ∷ []) o₁ a₁ → Wrote o₁ a₁ (inside q s) o₂ a₂ → Room o₂ a₂ (q ∷ [])
  unfolding literal
  close_room w v = room_next (q ∷ []) v (room_next (inside q s ++ (q ∷ [])) w r)

-- ---- a byte that prints bare

-- a test that joins three others
three_true : (x y z : Bool) → and x (and (not y) (not z)) ≡ true → (x ≡ true) × (y ≡ false) × (z ≡ false)
three_true true false false e = (refl, refl, refl)
three_true true false true e = let z : ◌≡◌ {A = ℕ} 0 1 = cc in absurd (omega arith)
three_true true true z e = let z : ◌≡◌ {A = ℕ} 0 1 = cc in absurd (omega arith)
three_true false y z e = let z : ◌≡◌ {A = ℕ} 0 1 = cc in absurd (omega arith)

-- ASCII prints bare from U+0020 to U+007E
pub bare_ascii : (c : ℕ) → c < 0xa1 → bare c ≡ within 0x20 0x7e c
bare_ascii c h = rw (within_low 0xa1 0x24f c h) (or_nothing (within 0x20 0x7e c))

-- byte B5 isn't bare, though U+00B5 is
byte_not_character : (bare_byte 34 0xb5 ≡ false) × (bare_in 34 0xb5 ≡ true)
byte_not_character = (refl, refl)

-- and so does a byte: one from 0x80 on doesn't, whatever character has its number
pub byte_is : (q b : ℕ) → bare_byte q b ≡ and (within 0x20 0x7e b) (and (not (eqb b q)) (not (eqb b 92)))
byte_is q b =
    ⊎_elim (λ h. rw (lt-ltb b 0x80 h, bare_ascii b (omega arith))) (λ h. rw (le-ltb b 0x80 h, within_high 0x20 0x7e b (omega arith))) (lt_or_ge b 0x80)

bare_shown : (q b : ℕ) → bare_byte q b ≡ true → (shown q b ≡ b ∷ []) × (b < 0x80)
unfolding show_of
bare_shown q b d =
    let t = three_true (within 0x20 0x7e b) (eqb b q) (eqb b 92) (rw (byte_is q b) at d) in
    let l = within_is 0x20 0x7e b t.0 in
    let s : show_of q b ≡ Bare = rw (t.1, t.2, ne_eqb b 0 (omega arith), ne_eqb b 9 (omega arith), ne_eqb b 10 (omega arith), ne_eqb b 13 (omega arith), t.0) in
    (shown_bare q b s ∙ encoded_one b (omega arith), omega arith)

-- ---- a turn of the loops

module _ (q : ℕ) (s : List ℕ) (i : ℕ) (h : i < length s) where
  pub shown_turn : (c n : ℕ) → char_of (drop i s) ≡ Some (c, n) → Turn (spelled (char_piece q) 0 (drop i s)) (shown q c) (spelled (char_piece q) 0 (drop (i + n) s))
  shown_turn c n e =
      let k : i + ((n - 1) + 1) ≡ i + n = omega (arith, (decoded (drop i s) c n e).some) in
      record {
        is =
            spelled_step (char_piece q) s i (n - 1) (shown q c) h (ap (λ (x : Option (ℕ × ℕ)). (char_piece_by q x).gives) e) (ap (λ (x : Option (ℕ × ℕ)). (char_piece_by q x).more) e)
            ∙ rw k;
      }

  pub shown_skip : char_of (drop i s) ≡ None → spelled (char_piece q) 0 (drop i s) ≡ spelled (char_piece q) 0 (drop (i + 1) s)
  shown_skip e = spelled_step (char_piece q) s i 0 [] h (ap (λ (x : Option (ℕ × ℕ)). (char_piece_by q x).gives) e) (ap (λ (x : Option (ℕ × ℕ)). (char_piece_by q x).more) e)

  pub bare_turn : bare_byte q (get_or s i 0) ≡ true → Turn (spelled (char_piece q) 0 (drop i s)) (get_or s i 0 ∷ []) (spelled (char_piece q) 0 (drop (i + 1) s))
  bare_turn b =
      let d = bare_shown q (get_or s i 0) b in
      let e : char_of (drop i s) ≡ Some (get_or s i 0, 1) = rw (at_byte s i h) (found_read (one d.1)) in
      record { is = (shown_turn (get_or s i 0) 1 e).is ∙ ap (λ (x : List ℕ). x ++ spelled (char_piece q) 0 (drop (i + 1) s)) d.0 }
