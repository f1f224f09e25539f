-- The two editions on texts that tell them apart, number and place of each answer: all of it is computed.
use Prim.Native.Nat.{ℕ}
use Prim.Native.String.{String}
use mathlib.Core.Path.{◌≡◌, refl}
use mathlib.Core.List.{List, [], ◌∷◌}
use Rattle.text.specs.Limits.{max_nodes, max_rules, max_store}
use Rattle.structure.specs.declared.Edition.{Edition}
use Rattle.structure.specs.declared.Edition.TheVariants.{First, Second}
use Rattle.structure.specs.declared.Level.{Level}
use Rattle.structure.specs.declared.Level.TheVariants.{Tagged, Plain}
use Rattle.reader.specs.Read.{Numbered, reported}
use Rattle.promises.specs.Twelve.{ascii}
use Rattle.promises.proofs.Opened.{opened}

abbrev both : Numbered → List ℕ
both a = a.number ∷ a.place ∷ []

abbrev told : Edition → Level → String → List ℕ
told edition level s = both (reported edition level (ascii s) max_nodes max_rules max_store)

-- the first edition, the second, and the second at the plain level
abbrev three : String → List (List ℕ)
three s = told First Tagged s ∷ told Second Tagged s ∷ told Second Plain s ∷ []

abbrev all : List ℕ → List (List ℕ)
all x = x ∷ x ∷ x ∷ []

pub above : three "r={a{2,1}}" ≡ (0 ∷ 0 ∷ []) ∷ (15 ∷ 5 ∷ []) ∷ (15 ∷ 5 ∷ []) ∷ []
unfolding opened reported
above = refl

-- leading zeros are free, and equal is good
pub zeros : three "r={a{03,2}}" ≡ (0 ∷ 0 ∷ []) ∷ (15 ∷ 5 ∷ []) ∷ (15 ∷ 5 ∷ []) ∷ []
unfolding opened reported
zeros = refl

pub equal : three "r={a{2,02}}" ≡ all (0 ∷ 0 ∷ [])
unfolding opened reported
equal = refl

-- its pair's own 6 and 5 come first
pub zero_first : three "r={a{5, 0}}" ≡ all (6 ∷ 8 ∷ [])
unfolding opened reported
zero_first = refl

pub over_first : three "r={a{4294967296, 1}}" ≡ all (5 ∷ 5 ∷ [])
unfolding opened reported
over_first = refl

pub over_second : three "r={a{2, 4294967296}}" ≡ all (5 ∷ 8 ∷ [])
unfolding opened reported
over_second = refl

-- else the leftmost is given
pub before_zero : three "r={a{3,2}{0}}" ≡ (6 ∷ 10 ∷ []) ∷ (15 ∷ 5 ∷ []) ∷ (15 ∷ 5 ∷ []) ∷ []
unfolding opened reported
before_zero = refl

pub behind_zero : three "r={a{0}{3,2}}" ≡ all (6 ∷ 5 ∷ [])
unfolding opened reported
behind_zero = refl

pub behind_push : three "r={PUSH_LITERAL(\"x\"){3,2}}" ≡ (0 ∷ 0 ∷ []) ∷ (15 ∷ 21 ∷ []) ∷ (13 ∷ 3 ∷ []) ∷ []
unfolding opened reported
behind_push = refl

pub before_escape : three "r={a{2,1}~\"\\u{d800}\"}" ≡ (8 ∷ 11 ∷ []) ∷ (15 ∷ 5 ∷ []) ∷ (15 ∷ 5 ∷ []) ∷ []
unfolding opened reported
before_escape = refl

-- slices have no minimum, nor have two repeats
pub slice : three "r={PEEK[3..2]}" ≡ all (0 ∷ 0 ∷ [])
unfolding opened reported
slice = refl

pub apart : three "r={a{3,}{,2}}" ≡ all (0 ∷ 0 ∷ [])
unfolding opened reported
apart = refl
