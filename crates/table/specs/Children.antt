-- Nodes that their numbers and children alone tell: what the check looks up by kind instead of branching.
use Rattle.std.specs.Prelude.{ℕ, zero, suc, ◌+◌, ◌*◌, ◌≤◌, ◌<◌, ◌≡◌, List, [], ◌∷◌, length, get_or, Some}
use Rattle.table.specs.declared.Join.{Join}
use Rattle.table.specs.declared.Unary.{Unary}
use Rattle.table.specs.declared.Op.TheVariants.{Plain}
use Rattle.table.specs.declared.Node.TheVariants.{One, Two}
use Rattle.table.specs.Record.{node_size, node_at}
use Rattle.table.specs.Check.{verdict}

-- by kind, 1 where there is a child and no text
abbrev pub ones : List ℕ
ones = 0 ∷ 0 ∷ 0 ∷ 0 ∷ 0 ∷ 0 ∷ 1 ∷ 1 ∷ 1 ∷ 1 ∷ 1 ∷ 1 ∷ 1 ∷ 1 ∷ 1 ∷ 1 ∷ 1 ∷ 1 ∷ 0 ∷ 0 ∷ []

-- by kind, 1 where there are two children
abbrev pub twos : List ℕ
twos = 0 ∷ 0 ∷ 0 ∷ 0 ∷ 0 ∷ 0 ∷ 0 ∷ 0 ∷ 1 ∷ 1 ∷ 0 ∷ 0 ∷ 0 ∷ 0 ∷ 0 ∷ 0 ∷ 0 ∷ 0 ∷ 0 ∷ 0 ∷ []

-- by kind, what p + q is below where a leaf is not false, or there are children: strings by a number s
abbrev pub limits : ℕ → List ℕ
limits s = 0 ∷ s ∷ s ∷ 0xd800 ∷ 0 ∷ 0 ∷ 0x2_0000_0000 ∷ 0x2_0000_0000 ∷ 0x2_0000_0000 ∷ 0x2_0000_0000 ∷ 0x2_0000_0000 ∷ 0x2_0000_0000 ∷ 0x2_0000_0000 ∷ 0x2_0000_0000 ∷ 0x2_0000_0000 ∷ 0x2_0000_0000 ∷ 0x2_0000_0000 ∷ 0x2_0000_0000 ∷ s ∷ 0 ∷ []

-- the limits of a store: if strings have one that is not 0, the store is ASCII
pub record Limits (st ls : List ℕ) : Type 0 where
  pub size : ℕ
  pub are : ls ≡ limits size
  pub ends : size ≤ length st
  pub low : 0 < size → (k : ℕ) → get_or st k 0 < 128

-- what is known of a node by the numbers of its kind: it is a leaf that is not false, or has one child, or two
abbrev pub Told : List ℕ → List ℕ → ℕ → ℕ → ℕ → Type 0
Told ns st i zero zero = verdict ns st i ≡ Some i
Told ns st i zero (suc two) = ⊥
Told ns st i (suc zero) zero = (u : Unary) × (node_at ns i ≡ One (Plain u) (get_or ns (node_size * i + 3) 0))
Told ns st i (suc zero) (suc zero) = (j : Join) × (node_at ns i ≡ Two j (get_or ns (node_size * i + 3) 0) (get_or ns (node_size * i + 4) 0))
Told ns st i (suc zero) (suc (suc two)) = ⊥
Told ns st i (suc (suc one)) two = ⊥
