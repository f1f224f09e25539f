-- Trees in the buffers, from their parts in the buffers.
use Prim.Native.Nat.{ℕ, ◌+◌, ◌*◌}
use mathlib.Core.Path.{◌≡◌, sym, ap, ◌∙◌}
use mathlib.Core.List.{List, ◌++◌, append_assoc}
use native.Mathlib.Omega.{arith}
use native.Mathlib.Nat.{add-zero}
use lib.ListN.{length, length-append}
use lib.Seq.{sets, length-sets}
use Rattle.table.specs.declared.Join.{Join}
use Rattle.table.specs.declared.Unary.{Unary}
use Rattle.table.specs.declared.Op.TheVariants.{Plain, NodeTag}
use Rattle.table.specs.declared.Node.TheVariants.{Tip, One, Two}
use Rattle.table.specs.Tree.{Span, Atom, atom_stored, plain, node_tag, Tree, leaf, one, two, below, count, size, stored}
use Rattle.table.specs.Record.{node_size}
use Rattle.table.specs.Flat.{no_line, record_of, leaf_at, flat}
use Rattle.table.proofs.Flats.{length_flat}
use Rattle.build.specs.Build.{Laid}
use Rattle.records.specs.Records.{written}
use Rattle.records.proofs.Patches.{length_written, sets_on, written_on}

pub laid_long : (t : Tree Span) (table store : List ℕ) (used free : ℕ) (tbl st : List ℕ) → Laid t table store used free tbl st
    → (length tbl ≡ length table) × (length st ≡ length store)
laid_long t table store used free tbl st d =
    (ap length d.holds ∙ length_written table used (flat no_line used free t), ap length d.keeps ∙ length-sets store free (stored t))

module _ (table store : List ℕ) (used free : ℕ) where
  -- a leaf
  pub leaf_laid : (s : Span) (a : Atom) (tbl st : List ℕ) → tbl ≡ written table used (record_of no_line s (Tip (leaf_at free a))) → st ≡ sets store free (atom_stored a)
      → Laid (leaf s a) table store used free tbl st
  unfolding flat stored
  leaf_laid s a tbl st e q = record { holds = e; keeps = q }

  module _ (t : Tree Span) where
    -- what stands over a tree, but for a tag
    pub one_laid : (tbl st tbl' : List ℕ) (s : Span) (u : Unary) (g c : ℕ) → Laid t table store used free tbl st
        → g ≡ used + count t → c ≡ used + below t → tbl' ≡ written tbl g (record_of no_line s (One (Plain u) c)) → Laid (one s (plain u) t) table store used free tbl' st
    unfolding flat stored
    one_laid tbl st tbl' s u g c d e j q =
        record {
          holds = written_on table tbl tbl' used (count t) g (flat no_line used free t) (record_of no_line s (One (Plain u) c)) d.holds q (length_flat no_line used free t) e
              ∙ ap (λ (n : ℕ). written table used (flat no_line used free t ++ record_of no_line s (One (Plain u) n))) j
              ∙ ap (λ (n : ℕ). written table used (flat no_line used n t ++ record_of no_line s (One (Plain u) (used + below t)))) (sym (add-zero free));
          keeps = d.keeps;
        }

    -- a tag, whose text was stored first
    pub tag_laid : (st₀ tbl st tbl' : List ℕ) (s : Span) (b : List ℕ) (f g c n : ℕ) → st₀ ≡ sets store free b → f ≡ free + length b → Laid t table st₀ used f tbl st
        → g ≡ used + count t → c ≡ used + below t → n ≡ length b → tbl' ≡ written tbl g (record_of no_line s (One (NodeTag free n) c)) → Laid (one s (node_tag b) t) table store used free tbl' st
    unfolding flat stored
    tag_laid st₀ tbl st tbl' s b f g c n e₀ e₁ d e j e₂ q =
        record {
          holds = written_on table tbl tbl' used (count t) g (flat no_line used f t) (record_of no_line s (One (NodeTag free n) c)) d.holds q (length_flat no_line used f t) e
              ∙ ap (λ (m : ℕ). written table used (flat no_line used f t ++ record_of no_line s (One (NodeTag free n) m))) j
              ∙ ap (λ (m : ℕ). written table used (flat no_line used f t ++ record_of no_line s (One (NodeTag free m) (used + below t)))) e₂
              ∙ ap (λ (m : ℕ). written table used (flat no_line used m t ++ record_of no_line s (One (NodeTag free (length b)) (used + below t)))) e₁;
          keeps = sets_on store st₀ st b (stored t) free f e₀ d.keeps e₁;
        }

    -- two trees, one after the other, and their join
    pub two_laid : (r : Tree Span) (tbl st tbl₁ st₁ tbl₂ : List ℕ) (s : Span) (j : Join) (u f g c k : ℕ) → Laid t table store used free tbl st
        → u ≡ used + count t → f ≡ free + size t → Laid r tbl st u f tbl₁ st₁ → g ≡ u + count r → c ≡ used + below t → k ≡ u + below r
        → tbl₂ ≡ written tbl₁ g (record_of no_line s (Two j c k)) → Laid (two s j t r) table store used free tbl₂ st₁
    unfolding flat stored
    two_laid r tbl st tbl₁ st₁ tbl₂ s j u f g c k d e₁ e₂ d₁ e₃ e₄ e₅ q =
        let x = flat no_line used free t in
        let y = flat no_line u f r in
        let a = length_flat no_line used free t in
        let b = length_flat no_line u f r in
        let h₁ = written_on table tbl tbl₁ used (count t) u x y d.holds d₁.holds a e₁ in
        let n : length (x ++ y) ≡ node_size * (count t + count r) = length-append x y ∙ omega arith in
        let h₂ = written_on table tbl₁ tbl₂ used (count t + count r) g (x ++ y) (record_of no_line s (Two j c k)) h₁ q n (omega arith) in
        record {
          holds = h₂ ∙ ap (written table used) (append_assoc x y (record_of no_line s (Two j c k)))
              ∙ ap (λ (m : ℕ). written table used (x ++ (y ++ record_of no_line s (Two j m k)))) e₄
              ∙ ap (λ (m : ℕ). written table used (x ++ (y ++ record_of no_line s (Two j (used + below t) m)))) e₅
              ∙ ap (λ (m : ℕ). written table used (x ++ (flat no_line m f r ++ record_of no_line s (Two j (used + below t) (m + below r))))) e₁
              ∙ ap (λ (m : ℕ). written table used (x ++ (flat no_line (used + count t) m r ++ record_of no_line s (Two j (used + below t) (used + count t + below r))))) e₂;
          keeps = sets_on store st st₁ (stored t) (stored r) free f d.keeps d₁.keeps e₂;
        }
