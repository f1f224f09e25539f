-- Wrong programs: none of them meets the promises. A program that does gives what the definitions give (`read_as`, `print_as`),
-- and what those give for a few texts is computed.
use Rattle.std.specs.Prelude.{Ok}
use Prim.Native.Nat.{ℕ}
use mathlib.Core.Path.{◌≡◌, refl, sym, ap, subst, ◌∙◌}
use mathlib.Core.List.{List, [], ◌∷◌, map}
use native.Mathlib.Omega.{arith}
use lib.ListN.{length, get_or}
use Rattle.table.specs.Tree.{Tree, Nowhere, count, counts, rules_stored}
use Rattle.forms.specs.declared.Style.{Style}
use Rattle.forms.specs.declared.Style.TheVariants.{Full, Short}
use Rattle.structure.specs.declared.Edition.{Edition}
use Rattle.structure.specs.declared.Edition.TheVariants.{First, Second}
use Rattle.structure.specs.declared.Level.{Level}
use Rattle.structure.specs.declared.Level.TheVariants.{Tagged, Plain}
use Rattle.reader.specs.Read.{room_for_nodes, room_for_rules, numbered}
use Rattle.reader.proofs.Counts.{read_counts}
use Rattle.reader.specs.Lines.{line_in}
use Rattle.build.specs.Rules.{rules_read}
use Rattle.promises.specs.Programs.{Tables, tables_of, Readout, Printout, Program, Meets, defined, trees_of, Succeeds}
use Rattle.promises.specs.Twelve.{ascii}
use Rattle.promises.proofs.Programs.{read_as, print_as}
use Rattle.promises.proofs.Opened.{opened}

-- ---- what the definitions give

-- two texts of one rule, and one of two rules
abbrev short : List ℕ
short = ascii "r={a}"

abbrev long : List ℕ
long = ascii "r={a*}"

abbrev both : List ℕ
both = ascii "r={a}q={b*}"

-- one whose rule is a tag, and one whose chain is grouped to the right
abbrev labelled : List ℕ
labelled = ascii "r={#t=a}"

abbrev right : List ℕ
right = ascii "r={a~(b~c)}"

-- a minimum above its maximum, and one whose maximum is 0
abbrev above : List ℕ
above = ascii "r={a{2,1}}"

abbrev above_zero : List ℕ
above_zero = ascii "r={a{2,0}}"

-- the tables of a text
abbrev tables : List ℕ → Tables
tables s = tables_of (line_in s) (rules_read Tagged s)

-- lent buffers: twenty numbers or bytes, and twenty-one numbers for three nodes
abbrev twenty : List ℕ
twenty = 0 ∷ 0 ∷ 0 ∷ 0 ∷ 0 ∷ 0 ∷ 0 ∷ 0 ∷ 0 ∷ 0 ∷ 0 ∷ 0 ∷ 0 ∷ 0 ∷ 0 ∷ 0 ∷ 0 ∷ 0 ∷ 0 ∷ 0 ∷ []

abbrev lent : Tables
lent = record { nodes = 0 ∷ twenty; rules = twenty; store = twenty }

-- how many nodes each tree has
abbrev sizes : List (Tree Nowhere) → List ℕ
sizes ts = map (count {P = Nowhere}) ts

-- the first tree in the place of each
abbrev repeated : List (Tree Nowhere) → List (Tree Nowhere)
repeated [] = []
repeated (t ∷ ts) = t ∷ map (λ (u : Tree Nowhere). t) ts

record Readings (edition : Edition) (level : Level) : Type 0 where
  short-read : Succeeds (defined.read edition level short lent)
  long-read : Succeeds (defined.read edition level long lent)
  both_read : Succeeds (defined.read edition level both lent)
  short-trees : sizes (trees_of (defined.read edition level short lent)) ≡ 1 ∷ []
  long-trees : sizes (trees_of (defined.read edition level long lent)) ≡ 2 ∷ []
  both-trees : sizes (trees_of (defined.read edition level both lent)) ≡ 1 ∷ 2 ∷ []
  both-repeated : sizes (repeated (trees_of (defined.read edition level both lent))) ≡ 1 ∷ 1 ∷ []

readings : (edition : Edition) (level : Level) → Readings edition level
unfolding opened
readings edition Tagged = record { short-read = refl; long-read = refl; both_read = refl; short-trees = refl; long-trees = refl; both-trees = refl; both-repeated = refl }
readings edition Plain = record { short-read = refl; long-read = refl; both_read = refl; short-trees = refl; long-trees = refl; both-trees = refl; both-repeated = refl }

-- number and place of an answer
abbrev told : Readout → ℕ
told o = (numbered o.answer).number

abbrev placed : Readout → ℕ
placed o = (numbered o.answer).place

record Refusals (level : Level) : Type 0 where
  first-told : told (defined.read First level above lent) ≡ 0
  second-told : told (defined.read Second level above lent) ≡ 15
  second-placed : placed (defined.read Second level above lent) ≡ 5
  zero-told : told (defined.read Second level above_zero lent) ≡ 6

refusals : (level : Level) → Refusals level
unfolding opened
refusals Tagged = record { first-told = refl; second-told = refl; second-placed = refl; zero-told = refl }
refusals Plain = record { first-told = refl; second-told = refl; second-placed = refl; zero-told = refl }

-- a byte of the output: `r`, `(` and `#`
abbrev byte_of : Printout → ℕ → ℕ
byte_of o i = get_or o.output i 0

record Printings : Type 0 where
  full-first : byte_of (defined.print Full (tables short) twenty) 0 ≡ 114
  short-first : byte_of (defined.print Short (tables short) twenty) 0 ≡ 114
  label-full : byte_of (defined.print Full (tables labelled) twenty) 6 ≡ 40
  label_short : byte_of (defined.print Short (tables labelled) twenty) 6 ≡ 35
  right-short : byte_of (defined.print Short (tables right) twenty) 10 ≡ 40

printings : Printings
unfolding opened
printings = record { full-first = refl; short-first = refl; label-full = refl; label_short = refl; right-short = refl }

first_byte : (style : Style) → byte_of (defined.print style (tables short) twenty) 0 ≡ 114
first_byte Full = printings.full-first
first_byte Short = printings.short-first

-- ---- no program that meets the promises is one of these

module _ (p : Program) (m : Meets p) where
  -- what holds of the defined reading holds of the program's
  moved : (edition : Edition) (level : Level) (s : List ℕ) (t : Tables) (P : Readout → Type 0) → P (defined.read edition level s t) → P (p.read edition level s t)
  moved edition level s t P = subst P (sym (read_as p m edition level s t))

  printed : (style : Style) (s : List ℕ) (i b : ℕ) → byte_of (defined.print style (tables s) twenty) i ≡ b → byte_of (p.print style (tables s) twenty) i ≡ b
  printed style s i b e = ap (λ (o : Printout). byte_of o i) (print_as p m style (tables s) twenty) ∙ e

  -- a reader that refuses everything
  pub refuses_all : (edition : Edition) (level : Level) → ((s : List ℕ) (t : Tables) → Succeeds (p.read edition level s t) → ⊥) → ⊥
  refuses_all edition level never = never short lent (moved edition level short lent Succeeds (readings edition level).short-read)

  -- a reader that gives one fixed tree
  pub fixed_tree : (edition : Edition) (level : Level) (ts : List (Tree Nowhere)) → ((s : List ℕ) (t : Tables) → Succeeds (p.read edition level s t) → trees_of (p.read edition level s t) ≡ ts) → ⊥
  fixed_tree edition level ts same =
      let f = readings edition level in
      let e = ap sizes (same short lent (moved edition level short lent Succeeds f.short-read)) in
      let g = ap sizes (same long lent (moved edition level long lent Succeeds f.long-read)) in
      let a = moved edition level short lent (λ (o : Readout). sizes (trees_of o) ≡ 1 ∷ []) f.short-trees in
      let b = moved edition level long lent (λ (o : Readout). sizes (trees_of o) ≡ 2 ∷ []) f.long-trees in
      let n : ◌≡◌ {A = ℕ} 1 2 = ap (λ (xs : List ℕ). get_or xs 0 0) (sym a ∙ e ∙ sym g ∙ b) in
      omega arith

  -- a reader that does the first rule and repeats it for the others
  pub repeats_first : (edition : Edition) (level : Level) → ((s : List ℕ) (t : Tables) → Succeeds (p.read edition level s t) → trees_of (p.read edition level s t) ≡ repeated (trees_of (p.read edition level s t))) → ⊥
  repeats_first edition level same =
      let f = readings edition level in
      let e = ap sizes (same both lent (moved edition level both lent Succeeds f.both_read)) in
      let a = moved edition level both lent (λ (o : Readout). sizes (trees_of o) ≡ 1 ∷ 2 ∷ []) f.both-trees in
      let b = moved edition level both lent (λ (o : Readout). sizes (repeated (trees_of o)) ≡ 1 ∷ 1 ∷ []) f.both-repeated in
      let n : ◌≡◌ {A = ℕ} 2 1 = ap (λ (xs : List ℕ). get_or xs 1 0) (sym a ∙ e ∙ b) in
      omega arith

  -- a made_up number of used records: the counts are those of the defined rules
  pub made_up : (edition : Edition) (level : Level) (s : List ℕ) (t : Tables) (x y z : ℕ) → (p.read edition level s t).answer ≡ Ok (x, y, z)
      → (x ≡ counts (rules_read level s)) × (y ≡ length (rules_read level s)) × (z ≡ length (rules_stored (rules_read level s)))
  made_up edition level s t x y z e =
      let a = sym (ap (λ (o : Readout). o.answer) (read_as p m edition level s t)) ∙ e in
      let c = read_counts edition level s (room_for_nodes t.nodes) (room_for_rules t.rules) (length t.store) a in
      (c.nodes_are, c.rules_are, c.store_is)

  -- a reader that asks for no edition
  pub ignores_edition : (level : Level) → ((s : List ℕ) (t : Tables) → (p.read Second level s t).answer ≡ (p.read First level s t).answer) → ⊥
  ignores_edition level same =
      let a = moved First level above lent (λ (o : Readout). told o ≡ 0) (refusals level).first-told in
      let b = moved Second level above lent (λ (o : Readout). told o ≡ 15) (refusals level).second-told in
      let n : ◌≡◌ {A = ℕ} 15 0 = sym b ∙ ap (λ a. (numbered a).number) (same above lent) ∙ a in
      omega arith

  -- one that gives 15 at the maximum
  pub tells_maximum : (level : Level) → placed (p.read Second level above lent) ≡ 7 → ⊥
  tells_maximum level e =
      let n : ◌≡◌ {A = ℕ} 7 5 = sym e ∙ moved Second level above lent (λ (o : Readout). placed o ≡ 5) (refusals level).second-placed in
      omega arith

  -- one that gives 15 before the 6 of the same pair
  pub tells_above_zero : (level : Level) → told (p.read Second level above_zero lent) ≡ 15 → ⊥
  tells_above_zero level e =
      let n : ◌≡◌ {A = ℕ} 15 6 = sym e ∙ moved Second level above_zero lent (λ (o : Readout). told o ≡ 6) (refusals level).zero-told in
      omega arith

  -- a printer that writes nothing
  pub writes_nothing : (style : Style) → ((t : Tables) (o : List ℕ) → (p.print style t o).output ≡ o) → ⊥
  writes_nothing style same =
      let e = printed style short 0 114 (first_byte style) in
      let n : ◌≡◌ {A = ℕ} 114 0 = sym e ∙ ap (λ (o : List ℕ). get_or o 0 0) (same (tables short) twenty) in
      omega arith

  -- a short text that brackets tags, as the full one does
  pub short_as_full : ((t : Tables) (o : List ℕ) → (p.print Short t o).output ≡ (p.print Full t o).output) → ⊥
  short_as_full same =
      let e = ap (λ (o : List ℕ). get_or o 6 0) (same (tables labelled) twenty) in
      let n : ◌≡◌ {A = ℕ} 35 40 = sym (printed Short labelled 6 35 printings.label_short) ∙ e ∙ printed Full labelled 6 40 printings.label-full in
      omega arith

  -- a short text without brackets
  pub never_brackets : ((t : Tables) (o : List ℕ) (i : ℕ) → byte_of (p.print Short t o) i ≡ 40 → ⊥) → ⊥
  never_brackets none = none (tables right) twenty 10 (printed Short right 10 40 printings.right-short)
