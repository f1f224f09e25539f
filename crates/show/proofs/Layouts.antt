-- A layout's tables stand at the fronts of the lent buffers, and the rule is looked for there.
use Rattle.std.specs.Prelude.{ℕ, Result, Ok, Err}
use Prim.Native.Nat.{ℕ, ◌*◌, ◌≤◌}
use mathlib.Core.Path.{◌≡◌, refl, sym, ◌∙◌}
use mathlib.Core.List.{List}
use native.Mathlib.Omega.{arith}
use lib.ListN.{length, take}
use Rattle.table.specs.Record.{node_size, rule_size}
use Rattle.table.proofs.Rules.{length_nodes, length_records}
use Rattle.structure.specs.declared.Edition.TheVariants.{First}
use Rattle.structure.specs.declared.Level.TheVariants.{Tagged}
use Rattle.structure.specs.declared.Refusal.{Refusal}
use Rattle.build.specs.Rules.{rules_read}
use Rattle.reader.specs.Read.{room_for_nodes, room_for_rules, read_of, number_of, reported}
use Rattle.reader.specs.Lines.{line_in}
use Rattle.reader.proofs.Counts.{read_counts}
use Rattle.replies.specs.declared.FindError.{FindError}
use Rattle.show.specs.declared.Layout.{Layout}
use Rattle.show.specs.Layout.{refused_layout, layout_by, layout_in, layout_of}
use Rattle.show.proofs.Fronts.{Promised, fronts, by_read, by_refused}

module _ (s ns rs st : List ℕ) (a : Result (ℕ × ℕ × ℕ) Refusal) (ns' rs' st' : List ℕ) (p : Promised s ns rs st a ns' rs' st') (name : List ℕ) where
  pub layout_refused : {r : Refusal} {n : ℕ} → a ≡ Err r → n ≡ number_of r.why
      → Layout.Refused n r.place ≡ layout_of s name (room_for_nodes ns) (room_for_rules rs) (length st)
  unfolding layout_of reported
  layout_refused q e = rw e (sym (by_refused _ Layout.Refused (sym p.0 ∙ q)))

  pub layout_read : {x y z : ℕ} {t : Layout} → a ≡ Ok (x, y, z) → t ≡ layout_in (take (node_size * x) ns') (take (rule_size * y) rs') (take z st') name
      → t ≡ layout_of s name (room_for_nodes ns) (room_for_rules rs) (length st)
  unfolding layout_of reported
  layout_read q e =
      let b = fronts s ns rs st a ns' rs' st' p q in
      e ∙ rw (b.nodes.1, b.rules.1, b.store.1) (sym (by_read _ Layout.Refused (sym p.0 ∙ q)))

-- ---- the tables lie in the buffers

module _ {a b c k : ℕ} where
  sizes_by : (n r m : ℕ) (f : Result ℕ FindError) → layout_by n r m f ≡ Layout.Tables a b c k → (n ≡ a) × (r ≡ b) × (m ≡ c)
  unfolding layout_by refused_layout
  sizes_by n r m (Ok j) e = (cc, cc, cc)
  sizes_by n r m (Err FindError.FalseTables) e = let z : ◌≡◌ {A = ℕ} 0 1 = cc in absurd (omega arith)
  sizes_by n r m (Err FindError.NoRule) e = let z : ◌≡◌ {A = ℕ} 0 1 = cc in absurd (omega arith)

  module _ (s name ns rs st : List ℕ) where
    inside_by : (x : Result (ℕ × ℕ × ℕ) Refusal) → read_of First Tagged s (room_for_nodes ns) (room_for_rules rs) (length st) ≡ x
        → layout_of s name (room_for_nodes ns) (room_for_rules rs) (length st) ≡ Layout.Tables a b c k → (a ≤ length ns) × ((b ≤ length rs) × (c ≤ length st))
    unfolding layout_of layout_in reported
    inside_by (Err r) q e =
        let w = sym (by_refused _ Layout.Refused q) ∙ e in
        let z : ◌≡◌ {A = ℕ} 0 1 = cc in
        absurd (omega arith)
    inside_by (Ok (x, y, z)) q e =
        let us = rules_read Tagged s in
        let t = read_counts First Tagged s (room_for_nodes ns) (room_for_rules rs) (length st) q in
        let (n, r, m) = sizes_by _ _ _ _ (sym (by_read _ Layout.Refused q) ∙ e) in
        let u = length_nodes (line_in s) 0 0 us in
        let v = length_records 0 0 us in
        (omega arith, (omega arith, omega arith))

    pub layout_inside : {x : Layout} → x ≡ layout_of s name (room_for_nodes ns) (room_for_rules rs) (length st) → x ≡ Layout.Tables a b c k
        → (a ≤ length ns) × ((b ≤ length rs) × (c ≤ length st))
    layout_inside e q = inside_by (read_of First Tagged s (room_for_nodes ns) (room_for_rules rs) (length st)) refl (sym e ∙ q)
