-- What a fault waits for: some continuation of a text is free of it.
use Rattle.std.specs.Prelude.{ℕ, ◌≤◌, ◌≡◌, true, List, ◌++◌, ltb, length, None}
use Rattle.text.specs.Booleans.{all}
use Rattle.text.specs.Utf8.{first_bad}
use Rattle.text.specs.Limits.{max_text}
use Rattle.token.specs.Lists.{tokens_of}

abbrev pub Bytes : List ℕ → Type 0
Bytes ys = all (λ b. ltb b 256) ys ≡ true

-- some continuation by bytes has no 1; no 2; no 3
abbrev pub Free-1 : List ℕ → Type 0
Free-1 s = (ys : List ℕ) × Bytes ys × (length (s ++ ys) ≤ max_text)

abbrev pub Free-2 : List ℕ → Type 0
Free-2 s = (ys : List ℕ) × Bytes ys × (first_bad (s ++ ys) ≡ None)

abbrev pub Free-3 : List ℕ → Type 0
Free-3 s = (ys : List ℕ) × Bytes ys × ((tokens_of (s ++ ys)).fault ≡ None)
