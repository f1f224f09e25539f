-- The matching pairs of brackets of a text, but for those of PUSH and PUSH_LITERAL, and the text without one of them.
use Rattle.std.specs.Prelude.{ℕ, zero, suc, ◌+◌, ◌≡◌, true, false, List, ◌++◌, take, drop}
use Rattle.text.specs.Words.{push}
use Rattle.token.specs.Table.{start, is}
use Rattle.token.specs.Tokens.{push_literal}
use Rattle.structure.specs.Tokens.{spells}

-- behind a `(`, from token i on, with d more open inside it: the `)` that closes it is token j
pub data Closed (s : List ℕ) : ℕ → ℕ → ℕ → Type 0 where
  here : {j : ℕ} → is s j 7 ≡ true → Closed s zero j j
  past_close : {d i j : ℕ} → is s i 7 ≡ true → Closed s d (i + 1) j → Closed s (suc d) i j
  past_open : {d i j : ℕ} → is s i 6 ≡ true → Closed s (suc d) (i + 1) j → Closed s d i j
  past_other : {d i j : ℕ} → is s i 6 ≡ false → is s i 7 ≡ false → Closed s d (i + 1) j → Closed s d i j

-- tokens i and j are a `(` and the `)` that closes it; the token before them, if there is one, is neither PUSH nor PUSH_LITERAL
pub record Pair (s : List ℕ) (i j : ℕ) : Type 0 where
  pub opens : is s i 6 ≡ true
  pub groups : (p : ℕ) → i ≡ p + 1 → (spells push s p ≡ false) × (spells push_literal s p ≡ false)
  pub closes : Closed s zero (i + 1) j

-- a text without the byte at a place
unfoldable pub without : ℕ → List ℕ → List ℕ
without n s = take n s ++ drop (n + 1) s

-- a text without the two brackets; the one behind goes first, so that the other is still where it was
unfoldable pub cut : List ℕ → ℕ → ℕ → List ℕ
cut s i j = without (start s i) (without (start s j) s)
