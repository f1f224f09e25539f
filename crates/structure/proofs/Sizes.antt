-- How many nodes and store bytes a tree has, step by step; and no text that a token gives is long.
use Rattle.std.specs.Prelude.{ℕ, Option, Some, None}
use Prim.Native.Nat.{ℕ, zero, suc, ◌+◌, ◌-◌, ◌*◌, ◌≤◌}
use mathlib.Core.Path.{◌≡◌, refl, ap}
use mathlib.Core.List.{List, [], ◌∷◌}
use native.Mathlib.Omega.{arith}
use lib.Dec.{ltb}
use lib.ListN.{length, drop, length-append, length-take, length-drop}
use Rattle.text.specs.Scans.{Piece, spelled}
use Rattle.text.specs.Utf8.{encoded}
use Rattle.text.proofs.Booleans.{choose_by}
use Rattle.literal.specs.Escapes.{escape_of, escape_piece_by, escape_piece, unescaped}
use Rattle.token.specs.Table.{start, end, between, word, label}
use Rattle.table.specs.Tree.{Span, Wrap, plain, node_tag, Tree, leaf, one, two, below, count, stored, size, wrap_stored, place_of, placed, ends_at, starts_at}
use Rattle.table.specs.declared.Join.{Join}
use Rattle.table.specs.declared.Join.TheVariants.{Seq, Choice}
use Rattle.table.specs.declared.Unary.{Unary}
use Rattle.structure.specs.declared.Level.{Level}
use Rattle.structure.specs.declared.Level.TheVariants.{Tagged, Plain}
use Rattle.structure.specs.Values.{literal_bytes, opening, string}
use Rattle.structure.specs.Answers.{tag_nodes, tag_bytes}
use Rattle.structure.specs.Structure.{join, closed, prefixed, postfixed, in_tag}

-- ---- texts

-- no token gives more store bytes than this
abbrev pub most : ℕ
most = 262144

spelled_short : (p : List ℕ → Piece) → ((x : ℕ) (xs : List ℕ) → length (p (x ∷ xs)).gives ≤ 4) → (k : ℕ) (xs : List ℕ) → length (spelled p k xs) ≤ 4 * length xs
unfolding spelled
spelled_short p h k [] = omega arith
spelled_short p h (suc k) (x ∷ xs) = let l = spelled_short p h k xs in omega arith
spelled_short p h zero (x ∷ xs) =
    let l = spelled_short p h (p (x ∷ xs)).more xs in
    let g = h x xs in
    omega (arith, length-append (p (x ∷ xs)).gives (spelled p (p (x ∷ xs)).more xs))

pub encoded_short : (c : ℕ) → length (encoded c) ≤ 4
unfolding encoded
encoded_short c =
    choose_by (λ (l : List ℕ). length l ≤ 4) (ltb c 0x80) _ _ (λ e. omega arith)
    (λ e. choose_by (λ (l : List ℕ). length l ≤ 4) (ltb c 0x800) _ _ (λ e. omega arith)
    (λ e. choose_by (λ (l : List ℕ). length l ≤ 4) (ltb c 0x10000) _ _ (λ e. omega arith) (λ e. omega arith)))

piece_short : (xs : List ℕ) (e : Option (ℕ × ℕ)) → length (escape_piece_by xs e).gives ≤ 4
piece_short xs None = omega (arith, length-take 1 xs)
piece_short xs (Some (c, n)) = encoded_short c

pub unescaped_short : (s : List ℕ) → length (unescaped s) ≤ 4 * length s
unfolding unescaped
unescaped_short s = spelled_short escape_piece (λ x xs. piece_short (x ∷ xs) (escape_of (x ∷ xs))) 0 s

pub part_short : (s : List ℕ) (a z : ℕ) → length (between s a z) ≤ length s
unfolding between
part_short s a z = omega (arith, length-take (z - a) (drop a s), length-drop a s)

pub word_short : (s : List ℕ) (i : ℕ) → length (word s i) ≤ length s
unfolding word
word_short s i = part_short s (start s i + 0) (end s i - 0)

pub label_short : (s : List ℕ) (i : ℕ) → length (label s i) ≤ length s
unfolding label
label_short s i = part_short s (start s i + 1) (end s i - 0)

pub string_short : (s : List ℕ) (i : ℕ) → length (string s i) ≤ 4 * length s
unfolding string
string_short s i =
    let l = part_short s (start s i + opening s i) (end s i - 1) in
    let m = unescaped_short (literal_bytes s i) in
    omega arith

-- ---- trees

pub below_placed : (p : Span) (t : Tree Span) → below (placed p t) ≡ below t
unfolding below
below_placed p (leaf q a) = refl
below_placed p (one q w t) = refl
below_placed p (two q j a b) = refl

pub stored_placed : (p : Span) (t : Tree Span) → stored (placed p t) ≡ stored t
unfolding stored
stored_placed p (leaf q a) = refl
stored_placed p (one q w t) = refl
stored_placed p (two q j a b) = refl

pub count_one : (p : Span) (w : Wrap) (t : Tree Span) → count (one p w t) ≡ suc (count t)
unfolding below
count_one p w t = refl

pub size_one : (p : Span) (w : Wrap) (t : Tree Span) → size (one p w t) ≡ length (wrap_stored w) + size t
unfolding stored
size_one p w t = length-append (wrap_stored w) (stored t)

-- a node over one more
pub record Grown (t u : Tree Span) (k b : ℕ) : Type 0 where
  pub counts : count u ≡ count t + k
  pub sizes : size u ≡ size t + b

pub grown_none : (t : Tree Span) → Grown t t 0 0
grown_none t = record { counts = omega arith; sizes = omega arith }

pub grown_placed : (p : Span) (t : Tree Span) → Grown t (placed p t) 0 0
grown_placed p t =
    let c = below_placed p t in
    let b = ap length (stored_placed p t) in
    record { counts = omega arith; sizes = omega arith }

pub grown_ends : (t : Tree Span) (z : ℕ) → Grown t (ends_at t z) 0 0
unfolding ends_at
grown_ends t z = grown_placed (record { start = (place_of t).start; stop = z }) t

pub grown_starts : (t : Tree Span) (a : ℕ) → Grown t (starts_at t a) 0 0
unfolding starts_at
grown_starts t a = grown_placed (record { start = a; stop = (place_of t).stop }) t

pub grown_one : (p : Span) (w : Wrap) (t : Tree Span) → Grown t (one p w t) 1 (length (wrap_stored w))
grown_one p w t =
    let c = count_one p w t in
    let b = size_one p w t in
    record { counts = omega arith; sizes = omega arith }

pub grown_before : (a : ℕ) (u : Unary) (t : Tree Span) → Grown t (prefixed a (plain u) t) 1 0
unfolding prefixed
grown_before a u t = grown_one (record { start = a; stop = (place_of t).stop }) (plain u) t

pub grown_after : (z : ℕ) (u : Unary) (t : Tree Span) → Grown t (postfixed z u t) 1 0
unfolding postfixed
grown_after z u t = grown_one (record { start = (place_of t).start; stop = z }) (plain u) t

pub grown_tag : (level : Level) (a : ℕ) (b : List ℕ) (t : Tree Span) → Grown t (in_tag level a b t) (tag_nodes level) (tag_bytes level (length b))
unfolding in_tag prefixed
grown_tag Tagged a b t = grown_one (record { start = a; stop = (place_of t).stop }) (node_tag b) t
grown_tag Plain a b t = grown_none t

pub tag_small : (level : Level) (n : ℕ) → n ≤ most → (tag_nodes level ≤ 1) × (tag_bytes level n ≤ most * tag_nodes level)
tag_small Tagged n h = (omega arith, omega arith)
tag_small Plain n h = (omega arith, omega arith)

pub count_join : (j : Join) (a b : Tree Span) → count (join j a b) ≡ count a + count b + 1
unfolding below join
count_join j a b = omega arith

pub size_join : (j : Join) (a b : Tree Span) → size (join j a b) ≡ size a + size b
unfolding stored join
size_join j a b = length-append (stored a) (stored b)

pub count_closed : (c : Option (Tree Span)) (l r : Tree Span) → count (closed c (join Seq l r)) ≡ count (closed c l) + count r + 1
unfolding closed
count_closed None l r = count_join Seq l r
count_closed (Some c) l r = let x = count_join Choice c (join Seq l r) in let y = count_join Seq l r in let z = count_join Choice c l in omega arith

pub size_closed : (c : Option (Tree Span)) (l r : Tree Span) → size (closed c (join Seq l r)) ≡ size (closed c l) + size r
unfolding closed
size_closed None l r = size_join Seq l r
size_closed (Some c) l r = let x = size_join Choice c (join Seq l r) in let y = size_join Seq l r in let z = size_join Choice c l in omega arith

pub count_more : (c : Option (Tree Span)) (l r : Tree Span) → count (closed (Some (closed c l)) r) ≡ count (closed c l) + count r + 1
unfolding closed
count_more c l r = count_join Choice (closed c l) r

pub size_more : (c : Option (Tree Span)) (l r : Tree Span) → size (closed (Some (closed c l)) r) ≡ size (closed c l) + size r
unfolding closed
size_more c l r = size_join Choice (closed c l) r
