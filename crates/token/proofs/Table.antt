-- Laws of the table of tokens. A list of rows has the k-th number of token i at i * token_size + k; so a lent table has at each place
-- what the definitions say of its token, and behind its last row nothing.
use Prim.Native.Nat.{ℕ, zero, suc, ◌+◌, ◌*◌, ◌-◌, ◌/◌, ◌≤◌, ◌<◌}
use mathlib.Core.Path.{◌≡◌, refl, sym, ap, ◌∙◌}
use mathlib.Core.List.{List, [], ◌∷◌, ◌++◌}
use mathlib.Core.Logic.{⊎_elim}
use native.Mathlib.Omega.{arith}
use native.Mathlib.Decide.{dec_lt}
use native.Mathlib.Nat.{div-add-mod', div-mul-le_self}
use lib.ListN.{length, get_or, take, drop, get_or-eq_default, get_or-append, length-take, length-drop}
use lib.Seq.{sets, get_or-append-add}
use Rattle.text.specs.Splice.{fronted}
use Rattle.text.proofs.Splices.{sets_append, sets_front}
use Rattle.text.proofs.Tests.{lt_or_ge}
use Rattle.text.specs.Limits.{max_text}
use Rattle.token.specs.Lists.{Tok, tok, kind_of, start_of, end_of}
use Rattle.token.specs.Table.{token_size, row_of, flat, room_of, toks, Lent, tok_of, kind, start, end, between, word, label}
use Rattle.token.proofs.Lists.{inside_at, few}

-- ---- rows

pub flat_append : (ts us : List Tok) → flat (ts ++ us) ≡ flat ts ++ flat us
flat_append [] us = refl
flat_append (t ∷ ts) us = ap (λ (xs : List ℕ). row_of t ++ xs) (flat_append ts us)

pub flat_length : (ts : List Tok) → length (flat ts) ≡ length ts * token_size
flat_length [] = refl
flat_length (t ∷ ts) =
    let e : length (flat ts) ≡ length ts * token_size = flat_length ts in
    omega arith

-- a number of a row
flat_at_lem : (ts : List Tok) (i k : ℕ) (d : Tok) → i < length ts → k < token_size → get_or (flat ts) (i * token_size + k) 0 ≡ get_or (row_of (get_or ts i d)) k 0
flat_at_lem [] i k d h g = absurd (omega arith)
flat_at_lem (t ∷ ts) zero k d h g =
    let z : 0 * token_size + k ≡ k = omega arith in
    ap (λ (n : ℕ). get_or (flat (t ∷ ts)) n 0) z ∙ get_or-append (row_of t) (flat ts) 0 k g
flat_at_lem (t ∷ ts) (suc i) k d h g =
    let z : suc i * token_size + k ≡ token_size + (i * token_size + k) = omega arith in
    ap (λ (n : ℕ). get_or (flat (t ∷ ts)) n 0) z ∙ get_or-append-add (row_of t) (flat ts) (i * token_size + k) 0 ∙ flat_at_lem ts i k d (omega arith) g

-- rows written behind those that stand there
pub behind : (ts us : List Tok) (o : List ℕ) → sets (sets o 0 (flat ts)) (length ts * token_size) (flat us) ≡ sets o 0 (flat (ts ++ us))
behind ts us o =
    let z : 0 + length (flat ts) ≡ length ts * token_size = omega (arith, flat_length ts) in
    sym (ap (sets o 0) (flat_append ts us) ∙ sets_append o 0 (flat ts) (flat us) ∙ ap (λ (n : ℕ). sets (sets o 0 (flat ts)) n (flat us)) z)

-- where there is room for them, they stand at the front, with the rest as it was
pub front_is : (ts : List Tok) (o : List ℕ) → length ts ≤ room_of o → sets o 0 (flat ts) ≡ fronted (flat ts) o
front_is ts o h = sets_front o (flat ts) (omega (arith, flat_length ts, div-add-mod' (length o) token_size))

-- one row more lies in the list
pub row_fits : (o : List ℕ) (n : ℕ) → n < room_of o → n * token_size + token_size ≤ length o
row_fits o n h = omega (arith, div-mul-le_self (length o) token_size)

-- ---- a token by its index

module _ (s ts : List ℕ) (v : Lent s ts) where
  pub sizes : (length ts ≡ length (toks s) * token_size) × (length (toks s) ≤ max_text)
  sizes =
      let f = few s in
      let h = v.short in
      (ap length v.table ∙ flat_length (toks s), omega arith)

  -- how many there are
  pub count_is : length ts / token_size ≡ length (toks s)
  count_is = omega (arith, sizes.0, div-add-mod' (length ts) token_size)

  -- a number of a token's row: it stands in the table, or past the last token it is that of no token at the text's end
  pub number_is : (f : Tok → ℕ) (i k n : ℕ) → k < token_size → ((t : Tok) → get_or (row_of t) k 0 ≡ f t)
      → (i < length ts / token_size → n ≡ get_or ts (i * token_size + k) 0) → (length ts / token_size ≤ i → n ≡ f (tok 0 (length s) (length s))) → n ≡ f (tok_of s i)
  unfolding tok_of
  number_is f i k n g r a b =
      let d = tok 0 (length s) (length s) in
      ⊎_elim
      (λ h. a h ∙ ap (λ (l : List ℕ). get_or l (i * token_size + k) 0) v.table ∙ flat_at_lem (toks s) i k d (omega (arith, count_is)) g ∙ r (get_or (toks s) i d))
      (λ h. b h ∙ ap f (sym (get_or-eq_default (toks s) d (omega (arith, count_is)))))
      (lt_or_ge i (length ts / token_size))

-- a token has a byte at least, inside the text
pub spans : (s : List ℕ) (i : ℕ) → i < length (toks s) → (start s i < end s i) × (end s i ≤ length s)
unfolding start end tok_of
spans s i h =
    let p = inside_at s i (tok 0 (length s) (length s)) h in
    (p.some, p.within)

-- and past the last one, too, its numbers are small
module _ (s : List ℕ) (i : ℕ) where
  Low : Tok → Type 0
  Low t = (start_of t ≤ end_of t) × (end_of t ≤ length s) × (kind_of t ≤ 27)

  small : Dec (i < length (toks s)) → Low (tok_of s i)
  unfolding Low tok_of
  small (yes l) =
      let p = inside_at s i (tok 0 (length s) (length s)) l in
      (omega arith, p.within, p.known)
  small (no l) = rw (get_or-eq_default (toks s) (tok 0 (length s) (length s)) {n = i} (omega arith)) (omega arith, omega arith, omega arith)

  pub low : (start s i ≤ end s i) × (end s i ≤ length s)
  unfolding Low start end
  low =
      let p = small (dec_lt i (length (toks s))) in
      (p.0, p.1)

  pub known : kind s i ≤ 27
  unfolding Low kind
  known = (small (dec_lt i (length (toks s)))).2

-- ---- parts of a text

pub part_length : (s : List ℕ) (a z : ℕ) → z ≤ length s → length (between s a z) ≡ z - a
unfolding between
part_length s a z h = omega (arith, length-take (z - a) (drop a s), length-drop a s)

pub part_is : (s : List ℕ) (a z : ℕ) → take (z - a) (drop a s) ≡ between s a z
unfolding between
part_is s a z = refl

pub part_none : (s : List ℕ) (a z : ℕ) → z ≤ a → between s a z ≡ []
unfolding between
part_none s a z h =
    let e : z - a ≡ 0 = omega arith in
    ap (λ (n : ℕ). take n (drop a s)) e

pub word_is : (s : List ℕ) (i a z : ℕ) → a ≡ start s i → z ≡ end s i → between s a z ≡ word s i
unfolding word
word_is s i a z e f =
    let x : a ≡ start s i + 0 = omega arith in
    let y : z ≡ end s i - 0 = omega arith in
    ap (λ (n : ℕ). between s n z) x ∙ ap (between s (start s i + 0)) y

pub word_length : (s : List ℕ) (i a z : ℕ) → a ≡ start s i → z ≡ end s i → z - a ≡ length (word s i)
word_length s i a z e f =
    let l = low s i in
    sym (ap length (sym (word_is s i a z e f)) ∙ part_length s a z (omega arith))

pub label_length : (s : List ℕ) (i a z : ℕ) → a ≡ start s i → z ≡ end s i → z - (a + 1) ≡ length (label s i)
unfolding label
label_length s i a z e f =
    let l = low s i in
    let x = part_length s (start s i + 1) (end s i - 0) (omega arith) in
    omega arith
