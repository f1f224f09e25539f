-- What a word is: a name, or a tag's spelling.
use Rattle.std.specs.Prelude.{ℕ, Bool, true, false, List, [], ◌∷◌, eqb}
use Rattle.text.specs.Booleans.{choose, and, or, all}
use Rattle.text.specs.Classes.{class_of}
use Rattle.text.specs.declared.Word.{Word}
use Rattle.text.specs.declared.Word.TheVariants.{Name, Push, Neither}

-- a letter or `_`
abbrev pub starts_word : ℕ → Bool
starts_word b = eqb (class_of b) 2

-- a letter, `_` or a digit
abbrev pub in_word : ℕ → Bool
in_word b = or (eqb (class_of b) 2) (eqb (class_of b) 3)

-- a letter or `_`, then letters, `_` and digits
unfoldable pub is_word : List ℕ → Bool
is_word [] = false
is_word (x ∷ xs) = and (starts_word x) (all in_word xs)

-- the first list stands at the front of the second
unfoldable pub begins : List ℕ → List ℕ → Bool
begins [] xs = true
begins (p ∷ ps) [] = false
begins (p ∷ ps) (x ∷ xs) = and (eqb x p) (begins ps xs)

-- PUSH
abbrev pub push : List ℕ
push = 80 ∷ 85 ∷ 83 ∷ 72 ∷ []

-- a word that may be a name; one that begins PUSH, which only a tag may be; or no word
unfoldable pub word_of : List ℕ → Word
word_of xs = choose (is_word xs) (λ u. choose (begins push xs) (λ u. Push) (λ u. Name)) (λ u. Neither)
