-- The values of trees and those of tokens, in text order; and when a token's value is right, and by which refusal it is wrong.
use Rattle.std.specs.Prelude.{ℕ, zero, suc, ◌+◌, ◌≤◌, ◌<◌, ◌≡◌, true, ◌⊎◌, List, [], ◌∷◌, ◌++◌, eqb, length, Option, Some, None, Ok, Err}
use Rattle.text.specs.Booleans.{choose, and, or}
use Rattle.text.specs.Digits.{decimal_of}
use Rattle.text.specs.declared.DecimalError.{DecimalError}
use Rattle.literal.specs.Escapes.{bad_escape}
use Rattle.token.specs.Table.{toks, kind, start, is, word}
use Rattle.token.specs.Tokens.{push_literal}
use Rattle.table.specs.declared.Unary.{Unary}
use Rattle.table.specs.declared.Unary.TheVariants.{PosPred, NegPred, Opt, Rep, RepOnce, RepExact, RepMin, RepMax, RepMinMax, Push}
use Rattle.table.specs.declared.Sort.{Sort}
use Rattle.table.specs.declared.Sort.TheVariants.{Str, Insens, Ident, PushLiteral}
use Rattle.table.specs.Tree.{Span, Atom, text, range, peek_slice, Wrap, plain, node_tag, Tree, leaf, one, two, Rule}
use Rattle.structure.specs.declared.Edition.{Edition}
use Rattle.structure.specs.declared.Edition.TheVariants.{Second}
use Rattle.structure.specs.declared.Level.{Level}
use Rattle.structure.specs.declared.Level.TheVariants.{Tagged, Plain}
use Rattle.structure.specs.declared.Refusal.{Refusal}
use Rattle.structure.specs.declared.Why.TheVariants.{Over, Zero, PeekRange, NotScalar, NotPlain, Above}
use Rattle.structure.specs.Refusals.{because}
use Rattle.structure.specs.Tokens.{spells}
use Rattle.structure.specs.Values.{number, negated, is_integer, integer_of, integer, opening, literal_bytes, string, character}

-- an exact count, a minimum without a maximum, a minimum and the maximum behind it, a maximum, a number of a PEEK slice, a character, a string,
-- the word PUSH_LITERAL
pub data Value : Type 0 where
  exact least most peeked single : ℕ → Value
  lower : ℕ → ℕ → Value
  bytes : List ℕ → Value
  pushes : Value

-- ---- of trees

-- the numbers of a repeat
abbrev pub unary_values : Unary → List Value
unary_values PosPred = []
unary_values NegPred = []
unary_values Opt = []
unary_values Rep = []
unary_values RepOnce = []
unary_values (RepExact n) = exact n ∷ []
unary_values (RepMin n) = least n ∷ []
unary_values (RepMax n) = most n ∷ []
unary_values (RepMinMax n m) = lower n m ∷ most m ∷ []
unary_values Push = []

-- a tag has none
abbrev pub wrap_values : Wrap → List Value
wrap_values (plain u) = unary_values u
wrap_values (node_tag b) = []

-- a string, with PUSH_LITERAL before it where it is pushed; a name has none
abbrev pub sort_values : Sort → List ℕ → List Value
sort_values Str b = bytes b ∷ []
sort_values Insens b = bytes b ∷ []
sort_values Ident b = []
sort_values PushLiteral b = pushes ∷ bytes b ∷ []

-- where a slice ends, unless it is open
abbrev pub end_values : Option ℕ → List Value
end_values None = []
end_values (Some n) = peeked n ∷ []

-- the values of a leaf: a slice always has a start
abbrev pub atom_values : Atom → List Value
atom_values (text k b) = sort_values k b
atom_values (range x y) = single x ∷ single y ∷ []
atom_values (peek_slice x e) = peeked x ∷ end_values e

-- the values of a tree: a repeat's numbers stand behind what it repeats
unfoldable pub tree_values : {P : Type 0} → Tree P → List Value
tree_values (leaf s a) = atom_values a
tree_values (one s o t) = tree_values t ++ wrap_values o
tree_values (two s j a b) = tree_values a ++ tree_values b

-- the values of rules, one tree behind the other
unfoldable pub rules_values : {P : Type 0} → List (Rule P) → List Value
rules_values [] = []
rules_values (r ∷ rs) = tree_values r.tree ++ rules_values rs

-- ---- of tokens

-- the kind of the token before one; before the first there is none
abbrev pub kind_before : List ℕ → ℕ → ℕ
kind_before s zero = 0
kind_before s (suc i) = kind s i

-- a number that isn't followed by `}`: a minimum, with a maximum if a comma and a number follow
abbrev pub minimum_value : List ℕ → ℕ → Value
minimum_value s i = choose (and (is s (i + 1) 15) (is s (i + 2) 20)) (λ u. lower (number s i) (number s (i + 2))) (λ u. least (number s i))

-- a repeat number, by the kind before it: before `}` a maximum if a comma stands before it, else an exact count; elsewhere a minimum
abbrev pub repeat_value : List ℕ → ℕ → ℕ → Value
repeat_value s b i =
    choose (is s (i + 1) 3) (λ u. choose (eqb b 15) (λ u. most (number s i)) (λ u. exact (number s i))) (λ u. minimum_value s i)

-- a number after `[` or `..` stands in a PEEK slice
abbrev pub number_value : List ℕ → ℕ → ℕ → Value
number_value s b i = choose (or (eqb b 4) (eqb b 22)) (λ u. peeked (integer s i)) (λ u. repeat_value s b i)

-- the value of a token of kind k after one of kind b, if it has one; `..` after `[` says that a slice starts at 0
unfoldable pub value_by : List ℕ → ℕ → ℕ → ℕ → List Value
value_by s b i k =
    choose (eqb k 18) (λ u. choose (spells push_literal s i) (λ u. pushes ∷ []) (λ u. []))
    (λ u. choose (eqb k 20) (λ u. number_value s b i ∷ [])
    (λ u. choose (eqb k 21) (λ u. peeked (integer s i) ∷ [])
    (λ u. choose (eqb k 22) (λ u. choose (eqb b 4) (λ u. peeked 0 ∷ []) (λ u. []))
    (λ u. choose (or (eqb k 23) (eqb k 24)) (λ u. bytes (string s i) ∷ [])
    (λ u. choose (eqb k 25) (λ u. single (character s i) ∷ []) (λ u. []))))))

-- the value of a token, if it has one
abbrev pub value_at : List ℕ → ℕ → List Value
value_at s i = value_by s (kind_before s i) i (kind s i)

-- the values of the first n tokens
unfoldable pub values_to : List ℕ → ℕ → List Value
values_to s zero = []
values_to s (suc n) = values_to s n ++ value_at s n

-- those of all
abbrev pub values_in : List ℕ → List Value
values_in s = values_to s (length (toks s))

-- ---- right and wrong

-- a token's digits are a repeat number
abbrev pub Counts : List ℕ → ℕ → ℕ → Type 0
Counts s i n = decimal_of 4294967295 (word s i) ≡ Ok n

-- a token says a number of a PEEK slice: it fits, or is an absent start
abbrev pub Peeks : List ℕ → ℕ → ℕ → Type 0
Peeks s i n =
    ((is s i 22 ≡ true) × (n ≡ 0)) ⊎ ((m : ℕ) × (integer_of s i ≡ Ok m) × (n ≡ choose (is s i 21) (λ u. negated m) (λ u. m)))

-- a token's value is what its bytes say, and allowed
abbrev pub Right : Edition → Level → List ℕ → ℕ → Value → Type 0
Right edition level s i (exact n) = Counts s i n × (1 ≤ n)
Right edition level s i (least n) = Counts s i n
Right edition level s i (lower n m) = Counts s i n × (edition ≡ Second → 1 ≤ m → n ≤ m)
Right edition level s i (most n) = Counts s i n × (1 ≤ n)
Right edition level s i (peeked n) = Peeks s i n
Right edition level s i (single c) = bad_escape (literal_bytes s i) ≡ None
Right edition level s i (bytes b) = bad_escape (literal_bytes s i) ≡ None
Right edition level s i pushes = level ≡ Tagged

-- 5: a token's digits are too large for a repeat number
abbrev pub TooMany : List ℕ → ℕ → Refusal → Type 0
TooMany s i r = (decimal_of 4294967295 (word s i) ≡ Err DecimalError.Over) × (r ≡ because Over (start s i))

-- 6: they are worth 0
abbrev pub NoTimes : List ℕ → ℕ → Refusal → Type 0
NoTimes s i r = Counts s i 0 × (r ≡ because Zero (start s i))

-- 15: by the second edition, they are above the maximum behind them, which isn't 0
abbrev pub AboveMost : Edition → List ℕ → ℕ → ℕ → ℕ → Refusal → Type 0
AboveMost edition s i n m r = Counts s i n × (edition ≡ Second) × (1 ≤ m) × (m < n) × (r ≡ because Above (start s i))

-- 8: an escape of a literal is of no character
abbrev pub NoCharacter : List ℕ → ℕ → Refusal → Type 0
NoCharacter s i r = (k : ℕ) × (bad_escape (literal_bytes s i) ≡ Some k) × (r ≡ because NotScalar (start s i + opening s i + k))

-- what is wrong with a token's value; 7 is for a PEEK number that doesn't fit, 13 for PUSH_LITERAL
abbrev pub Wrong : Edition → Level → List ℕ → ℕ → Value → Refusal → Type 0
Wrong edition level s i (exact n) r = TooMany s i r ⊎ NoTimes s i r
Wrong edition level s i (least n) r = TooMany s i r
Wrong edition level s i (lower n m) r = TooMany s i r ⊎ AboveMost edition s i n m r
Wrong edition level s i (most n) r = TooMany s i r ⊎ NoTimes s i r
Wrong edition level s i (peeked n) r = (is_integer s i ≡ true) × (integer_of s i ≡ Err DecimalError.Over) × (r ≡ because PeekRange (start s i))
Wrong edition level s i (single c) r = NoCharacter s i r
Wrong edition level s i (bytes b) r = NoCharacter s i r
Wrong edition level s i pushes r = (level ≡ Plain) × (r ≡ because NotPlain (start s i))

-- the values that tokens before an index have are right
abbrev pub RightTo : Edition → Level → List ℕ → ℕ → Type 0
RightTo edition level s n = (i : ℕ) → i < n → (v : Value) → value_at s i ≡ v ∷ [] → Right edition level s i v

-- of the values of rules, that of a token is wrong, and all before it are right
pub record FirstWrong (edition : Edition) (level : Level) (s : List ℕ) (us : List (Rule Span)) (r : Refusal) : Type 0 where
  pub at : ℕ
  pub value : Value
  pub behind : List Value
  pub held : rules_values us ≡ values_to s at ++ (value ∷ behind)
  pub token : value_at s at ≡ value ∷ []
  pub wrong : Wrong edition level s at value r
  pub sooner : RightTo edition level s at
