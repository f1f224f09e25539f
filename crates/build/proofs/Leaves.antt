-- Leaves in the buffers.
use Rattle.std.specs.Prelude.{Some, None}
use Prim.Native.Nat.{ℕ, ◌+◌, ◌-◌, ◌*◌, ◌≤◌, ◌<◌}
use mathlib.Core.Path.{◌≡◌, refl, sym, ap, ◌∙◌}
use mathlib.Core.Bool.{true, false}
use mathlib.Core.List.{List}
use native.Mathlib.Omega.{arith}
use lib.ListN.{length}
use lib.Seq.{sets}
use Rattle.text.specs.Splice.{Wrote}
use Rattle.text.specs.Splice as Splice
use Rattle.literal.specs.Escapes.{bad_escape, unescaped}
use Rattle.table.specs.declared.Sort.{Sort}
use Rattle.table.specs.declared.Sort.TheVariants.{Str, Insens, Ident, PushLiteral}
use Rattle.table.specs.declared.Leaf.TheVariants.{Text, Range, PeekSlice}
use Rattle.table.specs.declared.Node.TheVariants.{Tip}
use Rattle.table.specs.Tree.{Span, Atom, text, range, peek_slice, atom_stored, leaf, below, count, size, stored}
use Rattle.table.specs.Record.{node_size}
use Rattle.table.specs.Flat.{no_line, record_of}
use Rattle.table.specs.Flat as Flat
use Rattle.text.specs.Booleans.{choose}
use Rattle.text.proofs.Booleans.{choose_false, choose_true, split}
use Rattle.text.specs.Limits.{max_text}
use Rattle.token.specs.Table.{toks, start, end, is, between, word}
use Rattle.token.specs.Tokens.{push_literal}
use Rattle.token.proofs.Table.{low, spans, word_is, part_length}
use Rattle.structure.specs.declared.Why.TheVariants.{NotAllowed}
use Rattle.structure.specs.Refusals.{because}
use Rattle.structure.specs.Tokens.{across, spells, peek}
use Rattle.structure.specs.Values.{is_integer, integer, opening, literal_bytes, string, character}
use Rattle.structure.specs.Structure.{Parsed, got, refused, slice_to, slice, pushed, ranged, leaf_at}
use Rattle.structure.proofs.Steps.{inside_is, spelled_word, want_true, no_tree, want_got, opened_got, opened_false}
use Rattle.build.specs.declared.Placed.{Placed}
use Rattle.build.specs.Build.{TreeRoom, Built, word_leaf, string_leaf}
use Rattle.records.specs.Records.{written, most, Fits}
use Rattle.records.proofs.Patches.{spanned}
use Rattle.build.proofs.Lays.{leaf_laid}

-- what room for a leaf is
pub record LeafRoom (table store : List ℕ) (used free n : ℕ) : Type 0 where
  pub room : node_size * used + node_size ≤ length table
  pub few : used < most
  pub fits : free + n ≤ length store
  pub low : free + n ≤ most

module _ (table store : List ℕ) (used free : ℕ) where
  pub leaf_room : {m : Parsed} (p : Span) (a : Atom) (n : ℕ) → m ≡ got (leaf p a) n → TreeRoom m table store used free → LeafRoom table store used free (length (atom_stored a))
  unfolding below stored
  leaf_room p a n e g =
      let z : leaf p a ≡ g.tree = cc (e, g.read) in
      let c = ap (count {P = Span}) z in
      let d = ap (size {P = Span}) z in
      let h₁ = g.room in
      let h₂ = g.few in
      let h₃ = g.fits in
      let h₄ = g.low in
      record { room = omega arith; few = omega arith; fits = omega arith; low = omega arith }

  pub leaf_built : {m : Parsed} (p : Span) (a : Atom) (r : Placed) (tbl st : List ℕ) → m ≡ got (leaf p a) r.next → r.used ≡ used + 1
      → r.free ≡ free + length (atom_stored a) → r.from ≡ p.start → r.to ≡ p.stop → (p.start ≤ most) × (p.stop ≤ most)
      → tbl ≡ written table used (record_of no_line (spanned r.from r.to) (Tip (Flat.leaf_at free a))) → st ≡ sets store free (atom_stored a)
      → Built m table store used free r tbl st
  unfolding below stored
  leaf_built p a r tbl st e e₁ e₂ e₃ e₄ b q₁ q₂ =
      let x = Tip (Flat.leaf_at free a) in
      record {
        tree = leaf p a;
        read = e;
        used_is = e₁;
        free_is = e₂;
        from_is = e₃;
        to_is = e₄;
        short = (omega arith, omega arith);
        laid = leaf_laid table store used free p a tbl st
            (q₁ ∙ ap (λ (k : ℕ). written table used (record_of no_line (spanned k r.to) x)) e₃ ∙ ap (λ (k : ℕ). written table used (record_of no_line (spanned p.start k) x)) e₄) q₂;
      }

-- ---- a word

module _ (s table store : List ℕ) (at used free : ℕ) (short : length s ≤ max_text) (here : at < length (toks s))
    (g : TreeRoom (got (leaf (across s at at) (text Ident (word s at))) (at + 1)) table store used free) (a z : ℕ) (e₁ : a ≡ start s at) (e₂ : z ≡ end s at) where
  word_bytes : length (between s a z) ≡ length (word s at)
  word_bytes = ap length (word_is s at a z e₁ e₂)

  pub word_inside : (a ≤ z) × (z ≤ length s)
  word_inside = let p = spans s at here in (omega arith, omega arith)

  pub word_room : Splice.Room store free (between s a z)
  word_room =
      let w = leaf_room table store used free (across s at at) (text Ident (word s at)) (at + 1) refl g in
      let n = word_bytes in
      let f = w.fits in
      record { fits = omega arith }

  pub word_fits : Fits table used a z free (z - a) 0
  word_fits =
      let w = leaf_room table store used free (across s at at) (text Ident (word s at)) (at + 1) refl g in
      let p = word_inside in
      let r = w.room in
      let l = w.low in
      record { room = r; from = omega arith; to = omega arith; first = omega arith; second = omega arith; third = omega arith }

  pub word_built : (k : ℕ) (tbl st : List ℕ) → Wrote store free (between s a z) st k → tbl ≡ written table used (record_of no_line (spanned a z) (Tip (Text Ident free (z - a))))
      → Built (got (leaf (across s at at) (text Ident (word s at))) (at + 1)) table store used free (record { next = at + 1; used = used + 1; free = k; from = a; to = z }) tbl st
  word_built k tbl st w q =
      let p = word_inside in
      let n = word_bytes in
      let l : z - a ≡ length (word s at) = sym (part_length s a z p.1) ∙ n in
      leaf_built table store used free (across s at at) (text Ident (word s at)) (record { next = at + 1; used = used + 1; free = k; from = a; to = z }) tbl st refl refl
      (w.next ∙ ap (λ (j : ℕ). free + j) n) e₁ e₂ (omega arith, omega arith)
      (q ∙ ap (λ (j : ℕ). written table used (record_of no_line (spanned a z) (Tip (Text Ident free j)))) l)
      (w.now ∙ ap (sets store free) (word_is s at a z e₁ e₂))

-- ---- a string, of any sort

module _ (s table store : List ℕ) (at next used free : ℕ) (sort : Sort) (short : length s ≤ max_text) (long : start s at + opening s at < end s at) (good : bad_escape (literal_bytes s at) ≡ None)
    (g : TreeRoom (got (leaf (across s at at) (text sort (string s at))) next) table store used free) (a z k : ℕ) (e₁ : a ≡ start s at) (e₂ : z ≡ end s at) (e₃ : k ≡ opening s at) where
  pub string_inside : (1 ≤ z) × (z ≤ max_text) × (z - 1 ≤ length s) × (a ≤ max_text) × (a + k ≤ z - 1)
  string_inside = let p = low s at in (omega arith, omega arith, omega arith, omega arith, omega arith)

  string_part : between s (a + k) (z - 1) ≡ literal_bytes s at
  string_part =
      let p : a + k ≡ start s at + opening s at = omega arith in
      ap (λ (j : ℕ). between s j (z - 1)) p ∙ ap (λ (j : ℕ). between s (start s at + opening s at) (j - 1)) e₂

  string_is : unescaped (between s (a + k) (z - 1)) ≡ string s at
  unfolding string
  string_is = ap unescaped string_part

  pub string_good : bad_escape (between s (a + k) (z - 1)) ≡ None
  string_good = ap bad_escape string_part ∙ good

  string_leaf_lem : LeafRoom table store used free (length (string s at))
  string_leaf_lem = leaf_room table store used free (across s at at) (text sort (string s at)) next refl g

  pub string_room : Splice.Room store free (unescaped (between s (a + k) (z - 1)))
  string_room =
      let f = string_leaf_lem.fits in
      let n = ap length string_is in
      record { fits = omega arith }

  module _ (end' : ℕ) (st : List ℕ) (w : Wrote store free (unescaped (between s (a + k) (z - 1))) st end') where
    string_end : end' ≡ free + length (string s at)
    string_end = let n = ap length string_is in let x = w.next in omega arith

    pub string_fits : (free ≤ end') × Fits table used a z free (end' - free) 0
    string_fits =
        let e = string_end in
        let p = string_inside in
        let r = string_leaf_lem.room in
        let l = string_leaf_lem.low in
        (omega arith, record { room = r; from = omega arith; to = omega arith; first = omega arith; second = omega arith; third = omega arith })

    pub string_few : used < most
    string_few = string_leaf_lem.few

    pub string_built : (tbl : List ℕ) → tbl ≡ written table used (record_of no_line (spanned a z) (Tip (Text sort free (end' - free))))
        → Built (got (leaf (across s at at) (text sort (string s at))) next) table store used free (record { next = next; used = used + 1; free = end'; from = a; to = z }) tbl st
    string_built tbl q =
        let p = string_inside in
        let e = string_end in
        let l : end' - free ≡ length (string s at) = omega arith in
        leaf_built table store used free (across s at at) (text sort (string s at)) (record { next = next; used = used + 1; free = end'; from = a; to = z }) tbl st refl refl
        e e₁ e₂ (omega arith, omega arith)
        (q ∙ ap (λ (j : ℕ). written table used (record_of no_line (spanned a z) (Tip (Text sort free j)))) l)
        (w.now ∙ ap (sets store free) string_is)

-- ---- the same reading by another name

pub room_same : {m m' : Parsed} {table store : List ℕ} {used free : ℕ} → m ≡ m' → TreeRoom m table store used free → TreeRoom m' table store used free
room_same e g = record { tree = g.tree; end = g.end; read = sym e ∙ g.read; room = g.room; few = g.few; fits = g.fits; low = g.low }

pub built_same : {m m' : Parsed} {table store : List ℕ} {used free : ℕ} {r : Placed} {tbl st : List ℕ} → m ≡ m'
    → Built m' table store used free r tbl st → Built m table store used free r tbl st
built_same e d = record {
  tree = d.tree;
  read = e ∙ d.read;
  used_is = d.used_is;
  free_is = d.free_is;
  from_is = d.from_is;
  to_is = d.to_is;
  short = d.short;
  laid = d.laid;
}

-- ---- a leaf without a text

module _ (s table : List ℕ) (used free : ℕ) (short : length s ≤ max_text) (i j a z : ℕ) (e₁ : a ≡ start s i) (e₂ : z ≡ end s j) where
  bare_low : (start s i ≤ most) × (end s j ≤ most)
  bare_low = let p = low s i in let q = low s j in (omega arith, omega arith)

  pub bare_fits : (store : List ℕ) {m : Parsed} (x : Atom) (n p q r : ℕ) → m ≡ got (leaf (across s i j) x) n → TreeRoom m table store used free → p ≤ most → q ≤ most → r ≤ most
      → Fits table used a z p q r
  bare_fits store x n p q r e g b₁ b₂ b₃ =
      let w = leaf_room table store used free (across s i j) x n e g in
      let l = bare_low in
      let k = w.room in
      record { room = k; from = omega arith; to = omega arith; first = b₁; second = b₂; third = b₃ }

  pub range_built : (store : List ℕ) {m : Parsed} (x y n c d : ℕ) → m ≡ got (leaf (across s i j) (range x y)) n → c ≡ x → d ≡ y
      → (tbl : List ℕ) → tbl ≡ written table used (record_of no_line (spanned a z) (Tip (Range c d)))
      → Built m table store used free (record { next = n; used = used + 1; free = free; from = a; to = z }) tbl store
  range_built store x y n c d e q₁ q₂ tbl q =
      leaf_built table store used free (across s i j) (range x y) (record { next = n; used = used + 1; free = free; from = a; to = z }) tbl store e refl (omega arith) e₁ e₂ bare_low
      (q ∙ ap (λ (k : ℕ). written table used (record_of no_line (spanned a z) (Tip (Range k d)))) q₁ ∙ ap (λ (k : ℕ). written table used (record_of no_line (spanned a z) (Tip (Range x k)))) q₂) refl

  pub slice_built : (store : List ℕ) {m : Parsed} (x n : ℕ) → m ≡ got (leaf (across s i j) (peek_slice x None)) n
      → (tbl : List ℕ) → tbl ≡ written table used (record_of no_line (spanned a z) (Tip (PeekSlice x None)))
      → Built m table store used free (record { next = n; used = used + 1; free = free; from = a; to = z }) tbl store
  slice_built store x n e tbl q =
      leaf_built table store used free (across s i j) (peek_slice x None) (record { next = n; used = used + 1; free = free; from = a; to = z }) tbl store e refl (omega arith) e₁ e₂ bare_low q refl

  pub slice_to_built : (store : List ℕ) {m : Parsed} (x y n d : ℕ) → m ≡ got (leaf (across s i j) (peek_slice x (Some y))) n → d ≡ y
      → (tbl : List ℕ) → tbl ≡ written table used (record_of no_line (spanned a z) (Tip (PeekSlice x (Some d))))
      → Built m table store used free (record { next = n; used = used + 1; free = free; from = a; to = z }) tbl store
  slice_to_built store x y n d e q₂ tbl q =
      leaf_built table store used free (across s i j) (peek_slice x (Some y)) (record { next = n; used = used + 1; free = free; from = a; to = z }) tbl store e refl (omega arith) e₁ e₂ bare_low
      (q ∙ ap (λ (k : ℕ). written table used (record_of no_line (spanned a z) (Tip (PeekSlice x (Some k))))) q₂) refl

-- ---- what stands where something was read

module _ {table store : List ℕ} {used free : ℕ} (s : List ℕ) where
  pub range_read : (at : ℕ) → TreeRoom (ranged s at) table store used free
      → (is s (at + 1 + 1) 25 ≡ true) × (at + 1 + 1 < length (toks s)) × (ranged s at ≡ got (leaf (across s at (at + 1 + 1)) (range (character s at) (character s (at + 1 + 1)))) (at + 1 + 1 + 1))
  unfolding ranged
  range_read at g =
      let (a, p, e₁) = want_got s (at + 1) 22 _ (omega arith) g.read in
      let (b, q, e₂) = want_got s (at + 1 + 1) 25 _ (omega arith) e₁ in
      (b, q, want_true refused s (at + 1) 22 _ a ∙ want_true refused s (at + 1 + 1) 25 _ b)

  module _ (at from i : ℕ) (g : TreeRoom (slice_to s at from i) table store used free) where
    pub to_read : is_integer s i ≡ true → (i + 1 < length (toks s)) × (slice_to s at from i ≡ got (leaf (across s at (i + 1)) (peek_slice from (Some (integer s i)))) (i + 1 + 1))
    unfolding slice_to
    to_read v =
        let (a, p, e₁) = want_got s (i + 1) 5 _ (omega arith) (sym (choose_true (is_integer s i) _ _ v) ∙ g.read) in
        (p, choose_true (is_integer s i) _ _ v ∙ want_true refused s (i + 1) 5 _ a)

    pub open_read : is_integer s i ≡ false → (i < length (toks s)) × (slice_to s at from i ≡ got (leaf (across s at i) (peek_slice from None)) (i + 1))
    unfolding slice_to
    open_read v =
        let (a, p, e₁) = want_got s i 5 _ (omega arith) (sym (choose_false (is_integer s i) _ _ v) ∙ g.read) in
        (p, choose_false (is_integer s i) _ _ v ∙ want_true refused s i 5 _ a)

  module _ (at i : ℕ) (g : TreeRoom (slice s at i) table store used free) where
    pub from_read : is_integer s i ≡ true → (i + 1 < length (toks s)) × (slice s at i ≡ slice_to s at (integer s i) (i + 1 + 1))
    unfolding slice
    from_read v =
        let (a, p, e₁) = want_got s (i + 1) 22 _ (omega arith) (sym (choose_true (is_integer s i) _ _ v) ∙ g.read) in
        (p, choose_true (is_integer s i) _ _ v ∙ want_true refused s (i + 1) 22 _ a)

    pub start_read : is_integer s i ≡ false → (i < length (toks s)) × (slice s at i ≡ slice_to s at 0 (i + 1))
    unfolding slice
    start_read v =
        let (a, p, e₁) = want_got s i 22 _ (omega arith) (sym (choose_false (is_integer s i) _ _ v) ∙ g.read) in
        (p, choose_false (is_integer s i) _ _ v ∙ want_true refused s i 22 _ a)

  module _ (o at : ℕ) (g : TreeRoom (leaf_at o s at) table store used free) where
    pub push_read : spells push_literal s at ≡ true
        → (is s (at + 1 + 1) 23 ≡ true) × (at + 1 + 1 < length (toks s)) × (leaf_at o s at ≡ string_leaf PushLiteral s (at + 1 + 1) (at + 1 + 1 + 1 + 1))
    unfolding leaf_at pushed
    push_read v =
        let (a, p, e₁) = want_got s (at + 1) 6 _ (omega arith) (sym (choose_true (spells push_literal s at) _ _ v) ∙ g.read) in
        let (b, e₂) = opened_got o s (at + 1) _ e₁ in
        let (c, q, e₃) = want_got s (at + 1 + 1) 23 _ (omega arith) e₂ in
        let (d, r, e₄) = want_got s (at + 1 + 1 + 1) 7 _ (omega arith) e₃ in
        (c, q, choose_true (spells push_literal s at) _ _ v ∙ want_true refused s (at + 1) 6 _ a ∙ opened_false o s (at + 1) _ b ∙ want_true refused s (at + 1 + 1) 23 _ c ∙ want_true refused s (at + 1 + 1 + 1) 7 _ d)

    module _ (v : spells push_literal s at ≡ false) where
      pub peek_read : spells peek s at ≡ true → is s (at + 1) 4 ≡ true → leaf_at o s at ≡ slice s at (at + 2)
      unfolding leaf_at
      peek_read w x = rw (v, w, x)

      pub peek_word : spells peek s at ≡ true → is s (at + 1) 4 ≡ false → (at < length (toks s)) × (leaf_at o s at ≡ word_leaf s at)
      unfolding leaf_at
      peek_word w x = let k = spelled_word peek s at w in (inside_is s at 18 (omega arith) k, rw (v, w, x, k))

      module _ (w : spells peek s at ≡ false) where
        pub word_read : is s at 18 ≡ true → (at < length (toks s)) × (leaf_at o s at ≡ word_leaf s at)
        unfolding leaf_at
        word_read k = (inside_is s at 18 (omega arith) k, rw (v, w, k))

        module _ (k : is s at 18 ≡ false) where
          pub string_read : is s at 23 ≡ true → (at < length (toks s)) × (leaf_at o s at ≡ string_leaf Str s at (at + 1))
          unfolding leaf_at
          string_read x = (inside_is s at 23 (omega arith) x, rw (v, w, k, x))

          module _ (x : is s at 23 ≡ false) where
            pub insens_read : is s at 24 ≡ true → (at < length (toks s)) × (leaf_at o s at ≡ string_leaf Insens s at (at + 1))
            unfolding leaf_at
            insens_read y = (inside_is s at 24 (omega arith) y, rw (v, w, k, x, y))

            pub ranged_read : is s at 24 ≡ false → (is s at 25 ≡ true) × (leaf_at o s at ≡ ranged s at)
            unfolding leaf_at
            ranged_read y =
                let e : choose (is s at 25) (λ u. ranged s at) (λ u. refused (because NotAllowed (start s at))) ≡ got g.tree g.end = rw (v, w, k, x, y) at g.read in
                let z : is s at 25 ≡ true = split (is s at 25) _ _ (λ q _. q) (λ q f. no_tree f) e in
                (z, rw (v, w, k, x, y, z))

-- a slice whose start the code has found
pub slice_from : (s : List ℕ) (at i j x : ℕ) → x ≡ integer s i → slice_to s at (integer s i) j ≡ slice_to s at x j
slice_from s at i j x e = ap (λ (k : ℕ). slice_to s at k j) (sym e)
