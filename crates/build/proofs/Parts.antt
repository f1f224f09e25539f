-- The bytes of a token.
use Prim.Native.Nat.{ℕ, ◌+◌, ◌-◌, ◌≤◌, ◌<◌}
use mathlib.Core.Path.{◌≡◌, sym, ap, ◌∙◌}
use mathlib.Core.Bool.{true, false}
use mathlib.Core.List.{List}
use native.Mathlib.Omega.{arith}
use lib.ListN.{length}
use borrow.Author.Tests.{ne_eqb}
use Rattle.text.specs.Limits.{max_text}
use Rattle.token.specs.Lists.{tok}
use Rattle.token.proofs.Bounds.{least}
use Rattle.token.proofs.Lists.{inside_at}
use Rattle.token.specs.Table.{toks, tok_of, kind, start, end, is, between, label}
use Rattle.token.proofs.Table.{low}
use Rattle.structure.specs.Values.{opening}
use Rattle.structure.proofs.Steps.{inside_is, is_kind}
use Rattle.records.specs.Records.{most}

pub label_is : (s : List ℕ) (i a z : ℕ) → a ≡ start s i + 1 → z ≡ end s i → between s a z ≡ label s i
unfolding label
label_is s i a z e f =
    let q : z ≡ end s i - 0 = omega arith in
    ap (λ (j : ℕ). between s j z) e ∙ ap (between s (start s i + 1)) q

-- ---- the quotes of a literal

long_at_lem : (s : List ℕ) (i : ℕ) → i < length (toks s) → start s i + least (kind s i) ≤ end s i
unfolding kind start end tok_of
long_at_lem s i h = (inside_at s i (tok 0 (length s) (length s)) h).long

not_insens : (s : List ℕ) (i k : ℕ) → is s i k ≡ true → (k ≡ 24 → ⊥) → is s i 24 ≡ false
unfolding is
not_insens s i k v h = let e = is_kind s i k v in ne_eqb (kind s i) 24 (λ q. absurd (h (sym e ∙ q)))

module _ (s : List ℕ) (i : ℕ) where
  pub string_long : is s i 23 ≡ true → start s i + opening s i < end s i
  unfolding least
  string_long v =
      let l = long_at_lem s i (inside_is s i 23 (omega arith) v) in
      let n : least (kind s i) ≡ 2 = ap least (is_kind s i 23 v) in
      let o : opening s i ≡ 1 = rw (not_insens s i 23 v (λ h. absurd (omega arith))) in
      omega arith

  pub insens_long : is s i 24 ≡ true → start s i + opening s i < end s i
  unfolding least
  insens_long v =
      let l = long_at_lem s i (inside_is s i 24 (omega arith) v) in
      let n : least (kind s i) ≡ 3 = ap least (is_kind s i 24 v) in
      let o : opening s i ≡ 2 = rw v in
      omega arith

  pub char_long : is s i 25 ≡ true → start s i + 2 ≤ end s i
  unfolding least
  char_long v =
      let l = long_at_lem s i (inside_is s i 25 (omega arith) v) in
      let n : least (kind s i) ≡ 3 = ap least (is_kind s i 25 v) in
      omega arith

-- ---- places fit 32 bits

pub start_low : (s : List ℕ) (i a : ℕ) → length s ≤ max_text → a ≡ start s i → a ≤ most
start_low s i a h e = let l = low s i in omega arith

pub end_low : (s : List ℕ) (i z : ℕ) → length s ≤ max_text → z ≡ end s i → z ≤ most
end_low s i z h e = let l = low s i in omega arith
