-- Where a 3 stands: at the bad escape of a literal, if one is met, and otherwise where what is no token begins.
use Rattle.std.specs.Prelude.{ℕ, ◌+◌, ◌≡◌, true, false, List, ◌⊎◌, drop, Some, None}
use Rattle.text.specs.Booleans.{next_is}
use Rattle.text.specs.Scans.{later, sought}
use Rattle.literal.specs.Escapes.{escape_of}
use Rattle.token.specs.Blanks.{blank_of}

-- a backslash stands at a place, and no escape does
pub record Stray (s : List ℕ) (p : ℕ) : Type 0 where
  pub backslash : next_is 92 (drop p s) ≡ true
  pub plain : escape_of (drop p s) ≡ None

-- inside a string, from a place on: past bytes and escapes, with no `"` among them, the first such backslash stands at p
pub data Meets (s : List ℕ) : ℕ → ℕ → Type 0 where
  here : {p : ℕ} → Stray s p → Meets s p p
  past_byte : {i p : ℕ} → next_is 34 (drop i s) ≡ false → next_is 92 (drop i s) ≡ false → Meets s (i + 1) p → Meets s i p
  past_escape : {i c n p : ℕ} → escape_of (drop i s) ≡ Some (c, n) → Meets s (i + n) p → Meets s i p

-- the literal that begins at f has a bad escape at p: a string, one behind `^`, or a character literal, where it has to stand first
pub data BadEscape (s : List ℕ) (f : ℕ) : ℕ → Type 0 where
  in_string : {p : ℕ} → next_is 34 (drop f s) ≡ true → Meets s (f + 1) p → BadEscape s f p
  in_insens : {p : ℕ} → next_is 94 (drop f s) ≡ true → next_is 34 (drop (f + 1) s) ≡ true → Meets s (f + 2) p → BadEscape s f p
  in_character : next_is 39 (drop f s) ≡ true → Stray s (f + 1) → BadEscape s f (f + 1)

-- the place of a 3, for what begins at f
abbrev pub FaultAt : List ℕ → ℕ → ℕ → Type 0
FaultAt s f p = BadEscape s f p ⊎ ((p ≡ f) × ((q : ℕ) → BadEscape s f q → ⊥))

-- the place of a 3, for what stands past the blanks from a place on
abbrev pub FaultFrom : List ℕ → ℕ → ℕ → Type 0
FaultFrom s at p = (f : ℕ) × (later at (sought blank_of 0 (drop at s)) ≡ Some f) × FaultAt s f p
