-- The bytes of a token: the inside of a literal, the string that it means, and the spelling of a word.
use Rattle.std.specs.Prelude.{None}
use Prim.Native.Nat.{ℕ, zero, suc, ◌+◌, ◌-◌, ◌≤◌}
use mathlib.Core.Path.{◌≡◌, refl, sym, ap, ◌∙◌}
use mathlib.Core.Bool.{Bool, true, false}
use mathlib.Core.List.{List, [], ◌∷◌}
use native.Mathlib.Omega.{arith}
use lib.Dec.{eqb}
use lib.ListN.{length, take, drop}
use borrow.Author.Tests.{eq-eqb, ne_eqb}
use Rattle.text.specs.Booleans.{choose, and}
use Rattle.text.specs.Words.{begins}
use Rattle.text.specs.Splice.{spent}
use Rattle.literal.specs.Escapes.{bad_escape, unescaped}
use Rattle.text.specs.Scans.{spelled, sought}
use Rattle.text.proofs.Booleans.{choose_false, choose_true}
use Rattle.text.specs.Limits.{max_text}
use Rattle.token.specs.Table.{kind, start, end, is, between, word}
use Rattle.token.proofs.Table.{part_none, word_is, word_length}
use Rattle.structure.specs.Tokens.{same, spells}
use Rattle.structure.specs.Values.{opening, literal_bytes, string}
use Rattle.structure.proofs.Steps.{sees, misses}
use Rattle.structure.proofs.Sizes.{most, part_short, unescaped_short}

-- the string that the inside of a literal means
pub bytes_none : (s : List ℕ) (a z : ℕ) → z ≤ a → 0 ≡ length (unescaped (between s a z))
unfolding unescaped spelled
bytes_none s a z h = sym (ap (λ (l : List ℕ). length (unescaped l)) (part_none s a z h))

pub bytes_left : (s : List ℕ) (a z left : ℕ) → length s ≤ max_text → left ≡ spent most (unescaped (between s a z)) → (left ≤ most) × (most - left ≡ length (unescaped (between s a z)))
unfolding spent
bytes_left s a z left w e =
    let x = unescaped_short (between s a z) in
    let y = part_short s a z in
    (omega arith, omega arith)

pub bad_none : (s : List ℕ) (a z : ℕ) → z ≤ a → None ≡ bad_escape (between s a z)
unfolding bad_escape sought
bad_none s a z h = sym (ap bad_escape (part_none s a z h))

-- an inside, by how many bytes open it
pub inside_of : (s : List ℕ) (i n a z : ℕ) → n ≡ opening s i → a ≡ start s i + n → z ≡ end s i - 1 → between s a z ≡ literal_bytes s i
inside_of s i n a z e f g =
    let x : a ≡ start s i + opening s i = omega arith in
    ap (λ (m : ℕ). between s m z) x ∙ ap (between s (start s i + opening s i)) g

pub opens_two : (s : List ℕ) (i x : ℕ) → x ≡ kind s i → x ≡ 24 → 2 ≡ opening s i
opens_two s i x e q = sym (choose_true (is s i 24) _ _ (sees s i x 24 e q))

pub opens_one : (s : List ℕ) (i x : ℕ) → x ≡ kind s i → (x ≡ 24 → ⊥) → 1 ≡ opening s i
opens_one s i x e q = sym (choose_false (is s i 24) _ _ (misses s i x 24 e q))

pub opens_small : (s : List ℕ) (i : ℕ) → opening s i ≤ 2
opens_small s i = by (is s i 24)
  where
    by : (b : Bool) → choose b (λ u. 2) (λ u. 1) ≤ 2
    by true = omega arith
    by false = omega arith

pub string_bytes : (s : List ℕ) (i n a z r : ℕ) → n ≡ opening s i → a ≡ start s i + n → z ≡ end s i - 1 → r ≡ length (unescaped (between s a z)) → r ≡ length (string s i)
unfolding string
string_bytes s i n a z r e f g h = h ∙ ap (λ (l : List ℕ). length (unescaped l)) (inside_of s i n a z e f g)

pub string_none : (s : List ℕ) (i z : ℕ) → z ≡ end s i → z ≡ 0 → 0 ≡ length (string s i)
unfolding string
string_none s i z e q =
    let x = bytes_none s (start s i + opening s i) (end s i - 1) (omega arith) in x

-- ---- spelling

pub begins_take : (p xs : List ℕ) (n : ℕ) → length p ≤ n → begins p (take n xs) ≡ begins p xs
unfolding begins
begins_take [] xs n h = refl
begins_take (p ∷ ps) xs zero h = absurd (omega arith)
begins_take (p ∷ ps) [] (suc n) h = refl
begins_take (p ∷ ps) (x ∷ xs) (suc n) h = ap (and (eqb x p)) (begins_take ps xs n (omega arith))

module _ (p s : List ℕ) (i x : ℕ) (e : x ≡ kind s i) where
  pub spells_other : (x ≡ 18 → ⊥) → false ≡ spells p s i
  unfolding spells
  spells_other q = sym (ap (λ (b : Bool). and b (same p (word s i))) (misses s i x 18 e q))

  module _ (q : x ≡ 18) (a z : ℕ) (f : a ≡ start s i) (g : z ≡ end s i) where
    spells_same : spells p s i ≡ same p (word s i)
    unfolding spells
    spells_same = ap (λ (b : Bool). and b (same p (word s i))) (sees s i x 18 e q)

    pub spells_longer : (z - a ≡ length p → ⊥) → false ≡ spells p s i
    spells_longer h =
        let l = word_length s i a z f g in
        sym (spells_same ∙ ap (λ (b : Bool). and b (begins p (word s i))) (ne_eqb (length (word s i)) (length p) (λ m. h (l ∙ m))))

    pub spells_by : z - a ≡ length p → (r : Bool) → r ≡ begins p (drop a s) → r ≡ spells p s i
    unfolding between
    spells_by h r m =
        let l = word_length s i a z f g in
        let w = word_is s i a z f g in
        m ∙ sym (spells_same ∙ ap (λ (b : Bool). and b (begins p (word s i))) (eq-eqb (length (word s i)) (length p) (sym l ∙ h)) ∙ ap (begins p) (sym w) ∙ begins_take p (drop a s) (z - a) (omega arith))
