-- Laws of tokens' lines: what a line needs at most, and the lines of records one behind the other.
use Rattle.std.specs.Prelude.{Some, None}
use Prim.Native.Nat.{ℕ, zero, suc, ◌+◌, ◌*◌, ◌/◌, ◌≤◌, ◌<◌}
use mathlib.Core.Path.{◌≡◌, refl, sym, ap, ◌∙◌}
use mathlib.Core.List.{List, [], ◌∷◌, ◌++◌, append_assoc, append-nil}
use native.Mathlib.Omega.{arith}
use native.Mathlib.Numerals.{add-one}
use lib.ListN.{length, drop, get_or, length-append}
use lib.Seq.{drop-drop, get_or-drop}
use borrow.Author.Tests.{le-leb, lt-leb}
use Rattle.text.specs.Digits.{decimal}
use Rattle.text.specs.Splice.{Wrote}
use Rattle.text.proofs.Splices.{wrote_then, wrote_none, wrote_front}
use Rattle.printer.proofs.Bounds.{decimal_short}
use Rattle.rows.specs.Put.{PutFits}
use Rattle.rows.specs.Tokens.{token_line, token_size, record_line, token_lines, list_lines, longest_token, tokens_put, tokens_in}

-- ---- one line

pub token_fits : (k a b : ℕ) → k < 4294967296 → a < 4294967296 → b < 4294967296 → length (token_line k a b) ≤ longest_token
unfolding token_line
token_fits k a b x y z =
    omega (arith, length-append (decimal k) (32 ∷ (decimal a ++ (32 ∷ (decimal b ++ (10 ∷ []))))), length-append (decimal a) (32 ∷ (decimal b ++ (10 ∷ []))), length-append (decimal b) (10 ∷ []), decimal_short k x, decimal_short a y, decimal_short b z)

-- a record's numbers by their places
pub line_at : (ts : List ℕ) (i : ℕ) → token_line (get_or ts (token_size * i) 0) (get_or ts (token_size * i + 1) 0) (get_or ts (token_size * i + 2) 0) ≡ record_line (drop (token_size * i) ts)
unfolding record_line
line_at ts i =
    let z : token_size * i + 0 ≡ token_size * i = omega arith in
    rw (get_or-drop (token_size * i) ts 0 0, get_or-drop (token_size * i) ts 1 0, get_or-drop (token_size * i) ts 2 0, z)

-- ---- one record more

behind : (i : ℕ) (ts : List ℕ) → drop (token_size * i) (drop token_size ts) ≡ drop (token_size * suc i) ts
behind i ts = let e : token_size + token_size * i ≡ token_size * suc i = omega arith in drop-drop (token_size * i) token_size ts ∙ ap (λ k. drop k ts) e

lines_more : (i : ℕ) (ts : List ℕ) → token_lines (suc i) ts ≡ token_lines i ts ++ record_line (drop (token_size * i) ts)
unfolding token_lines
lines_more zero ts = append-nil (record_line ts)
lines_more (suc i) ts =
    ap (λ x. record_line ts ++ x) (lines_more i (drop token_size ts))
    ∙ ap (λ x. record_line ts ++ (token_lines i (drop token_size ts) ++ record_line x)) (behind i ts)
    ∙ sym (append_assoc (record_line ts) (token_lines i (drop token_size ts)) (record_line (drop (token_size * suc i) ts)))

-- i of k records are put, into an output that was o₀
pub record Listing (ts : List ℕ) (k : ℕ) (o₀ o : List ℕ) (i at : ℕ) : Type 0 where
  pub some : i ≤ k
  pub wrote : Wrote o₀ 0 (token_lines i ts) o at
  pub low : at ≤ longest_token * i

pub listing_none : (ts : List ℕ) (k : ℕ) (o : List ℕ) → Listing ts k o o 0 0
unfolding token_lines
listing_none ts k o = record { some = omega arith; wrote = wrote_none o 0; low = omega arith }

module _ {ts : List ℕ} {k : ℕ} {o₀ o : List ℕ} {i at : ℕ} (p : Listing ts k o₀ o i at) where
  pub listing_more : i < k → {o' : List ℕ} {at' : ℕ} → Wrote o at (record_line (drop (token_size * i) ts)) o' at' → at' ≤ at + longest_token → Listing ts k o₀ o' (i + 1) at'
  listing_more h w f =
      let e : token_lines i ts ++ record_line (drop (token_size * i) ts) ≡ token_lines (i + 1) ts = sym (ap (λ j. token_lines j ts) (add-one i) ∙ lines_more i ts) in
      record { some = omega arith; wrote = rw (← e) (wrote_then p.wrote w); low = omega (arith, p.low) }

  -- all of them
  pub list_all : k ≤ i → Wrote o₀ 0 (token_lines k ts) o at × (at ≤ longest_token * k)
  list_all h =
      let z : i ≡ k = omega (arith, p.some) in
      (rw z at p.wrote, omega (arith, p.low))

-- ---- a list's lines

pub no_room : (ts o : List ℕ) → length o / longest_token < length ts / token_size → (None ≡ tokens_put ts (length o)) × ((o ≡ tokens_in ts o None) × PutFits None (length o))
unfolding tokens_put tokens_in
no_room ts o h = (rw (lt-leb (longest_token * (length ts / token_size)) (length o) (omega arith)), (refl, tt))

pub has_room : (ts o : List ℕ) {o' : List ℕ} {n : ℕ} → length ts / token_size ≤ length o / longest_token → Wrote o 0 (list_lines ts) o' n → n ≤ longest_token * (length ts / token_size)
    → (Some n ≡ tokens_put ts (length o)) × ((o' ≡ tokens_in ts o (Some n)) × PutFits (Some n) (length o))
unfolding tokens_put tokens_in
has_room ts o {o'} {n} h w f =
    let r = wrote_front w (omega (arith, w.next)) in
    (rw (le-leb (longest_token * (length ts / token_size)) (length o) (omega arith), r.1), (r.0, omega arith))
