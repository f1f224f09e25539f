-- What an expression is, by its terms alone: "terms joined by `~` or `|`", where `~` binds tighter than `|` and both group left. And up to
-- where `//!` docs stand. That these are what is read are theorems (proofs/Meaning, proofs/Bounds).
use Rattle.std.specs.Prelude.{ℕ, ◌+◌, ◌≤◌, ◌<◌, ◌≡◌, true, false}
use mathlib.Core.List.{List, [], ◌∷◌, foldl}
use Rattle.token.specs.Table.{is}
use Rattle.table.specs.Tree.{Span, Tree}
use Rattle.table.specs.declared.Join.{Join}
use Rattle.table.specs.declared.Join.TheVariants.{Seq, Choice}
use Rattle.structure.specs.declared.Level.{Level}
use Rattle.structure.specs.Structure.{got, join, term, Run}

-- "it is read from one index up to another as this tree"
abbrev pub Reading : Type 1
Reading = ℕ → Tree Span → ℕ → Type 0

module _ (s : List ℕ) (k : ℕ) (Item : Reading) where
  -- any number of items from an index on, each behind a token of kind k
  pub data Behind : ℕ → List (Tree Span) → ℕ → Type 0 where
    nothing : {i : ℕ} → Behind i [] i
    more : {i j n : ℕ} {t : Tree Span} {ts : List (Tree Span)} → is s i k ≡ true → Item (i + 1) t j → Behind j ts n → Behind i (t ∷ ts) n

  -- one or more items, parted by tokens of kind k, and their trees joined from the left. past: the index past the first
  pub record Joined (op : Join) (at : ℕ) (tree : Tree Span) (end : ℕ) : Type 0 where
    pub first : Tree Span
    pub past : ℕ
    pub others : List (Tree Span)
    pub leading : Item at first past
    pub following : Behind past others end
    pub grouped : tree ≡ foldl (join op) first others

module _ (level : Level) (s : List ℕ) (o : ℕ) where
  -- a term, o brackets being open
  abbrev pub Term : Reading
  Term at t end = Run level s (term o at) ≡ got t end

  -- terms joined by `~`
  abbrev pub Sequence : Reading
  Sequence = Joined s 10 Term Seq

  -- sequences joined by `|`, as far as they go: neither `~` nor `|` stands behind them
  pub record Expression (at : ℕ) (tree : Tree Span) (end : ℕ) : Type 0 where
    pub sequences : Joined s 11 Sequence Choice at tree end
    pub no_seq : is s end 10 ≡ false
    pub no_choice : is s end 11 ≡ false

-- from an index on, `//!` docs stand up to an end, and none stands there
pub record DocsTo (s : List ℕ) (at end : ℕ) : Type 0 where
  pub ordered : at ≤ end
  pub docs : (i : ℕ) → at ≤ i → i < end → is s i 26 ≡ true
  pub other : is s end 26 ≡ false
