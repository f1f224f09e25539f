-- What each state means: the tokens that are still to come, as a function of what is left.
use Rattle.std.specs.Prelude.{ℕ, Option, Some, None}
use Prim.Native.Nat.{ℕ, zero, suc, ◌+◌, ◌-◌}
use mathlib.Core.Bool.{Bool, true}
use mathlib.Core.List.{List, [], ◌∷◌}
use lib.Dec.{leb, ltb, eqb}
use lib.ListN.{drop}
use Rattle.text.specs.Booleans.{choose, and, or, within, next_is}
use Rattle.text.specs.Words.{begins, push}
use Rattle.literal.specs.Escapes.{digits_of, after_of}
use Rattle.token.specs.Blanks.{first, words, digit_run, zeros, line, close_of}
use Rattle.token.specs.Tokens.{push_literal, string_of}
use Rattle.token.specs.Lists.{tok, Tokens, onto}
use Rattle.token.specs.declared.Token.{Token}
use Rattle.token.specs.declared.Token.TheVariants.{Found, NoToken}
use Rattle.states.specs.declared.Lit.{Lit}
use Rattle.states.specs.declared.Lit.TheVariants.{Text, One}
use Rattle.states.specs.declared.Tail.{Tail}
use Rattle.states.specs.declared.State.{State}
use Rattle.states.specs.declared.State.TheVariants.{Start, Word, Push, Num, Hash, Tag, Dot, Caret, Minus, Zeros, Negative, Str, Esc, X0, X1, U, Un, Chr, More, Quote, Slash, Slash2, Line, Doc, DocCr, Cr, Com, Star, Bar, Refused}
use Rattle.states.specs.declared.Conf.{Conf}
use Rattle.states.specs.Machine.{Out, is_hex, tail_ok, tail_left, fault_at}
use Rattle.states.proofs.From.{from, ended}

-- n bytes of PUSH_LITERAL, then rest
abbrev pub push_ok : ℕ → List ℕ → Bool
push_ok n rest = choose (begins (drop n push) rest) (λ u. or (eqb (n + words rest) 4) (and (eqb (n + words rest) 12) (begins (drop n push_literal) rest))) (λ u. true)

abbrev pub pushed : ℕ → List ℕ → Token
pushed n rest = choose (push_ok n rest) (λ u. Found 18 0 (n + words rest)) (λ u. NoToken 0)

abbrev pub negated : ℕ → List ℕ → Token
negated n rest = choose (ltb (zeros rest) (digit_run rest)) (λ u. Found 21 0 (n + digit_run rest)) (λ u. NoToken 0)

abbrev pub str_l : ℕ → ℕ → ℕ → List ℕ → Tokens
str_l k a n rest = ended a n rest (string_of k n rest)

abbrev pub quote_l : ℕ → ℕ → List ℕ → Tokens
quote_l a n rest = choose (next_is 39 rest) (λ u. onto (tok 25 a (a + suc n) ∷ []) (from (a + suc n) (drop 1 rest))) (λ u. fault_at a)

-- k bytes more of a character, then its `'`
unfoldable pub tails : ℕ → ℕ → ℕ → List ℕ → Tokens
tails zero a n rest = quote_l a n rest
tails (suc k) a n rest = choose (first (within 0x80 0xbf) rest) (λ u. tails k a (suc n) (drop 1 rest)) (λ u. fault_at a)

abbrev pub more_l : Tail → ℕ → ℕ → List ℕ → Tokens
more_l t a n rest = choose (first (tail_ok t) rest) (λ u. tails (tail_left t) a (suc n) (drop 1 rest)) (λ u. fault_at a)

-- the rest of a literal, after an escape
abbrev pub back_l : Lit → ℕ → ℕ → List ℕ → Tokens
back_l (Text k) a n rest = str_l k a n rest
back_l One a n rest = quote_l a n rest

abbrev pub bad_l : ℕ → ℕ → Tokens
bad_l a b = fault_at (a + b)

-- after a backslash, by the escape that it begins
abbrev pub esc_by : Lit → ℕ → ℕ → ℕ → List ℕ → Option (ℕ × ℕ) → Tokens
esc_by k b a n rest (Some (c, m)) = back_l k a (n + (m - 1)) (drop (m - 1) rest)
esc_by k b a n rest None = bad_l a b

abbrev pub x1_l : Lit → ℕ → ℕ → ℕ → List ℕ → Tokens
x1_l k b a n rest = choose (first is_hex rest) (λ u. back_l k a (suc n) (drop 1 rest)) (λ u. bad_l a b)

abbrev pub x0_l : Lit → ℕ → ℕ → ℕ → List ℕ → Tokens
x0_l k b a n rest = choose (first is_hex rest) (λ u. x1_l k b a (suc n) (drop 1 rest)) (λ u. bad_l a b)

-- after j digits, by how many there are in all
abbrev pub un_by : Lit → ℕ → ℕ → ℕ → ℕ → List ℕ → ℕ → Tokens
un_by k b j a n rest c =
    choose (leb 2 c) (λ u. choose (next_is 125 (drop (c - j) rest)) (λ u. back_l k a (n + suc (c - j)) (drop (suc (c - j)) rest)) (λ u. bad_l a b)) (λ u. bad_l a b)

abbrev pub un_l : Lit → ℕ → ℕ → ℕ → ℕ → List ℕ → Tokens
un_l k b j a n rest = un_by k b j a n rest (digits_of 6 0 j rest).count

abbrev pub u_l : Lit → ℕ → ℕ → ℕ → List ℕ → Tokens
u_l k b a n rest = choose (next_is 123 rest) (λ u. un_l k b 0 a (suc n) (drop 1 rest)) (λ u. bad_l a b)

abbrev pub com_by : ℕ → ℕ → List ℕ → Option ℕ → Tokens
com_by a n rest None = fault_at a
com_by a n rest (Some m) = from (a + (n + m)) (drop m rest)

abbrev pub com_l : ℕ → ℕ → ℕ → List ℕ → Tokens
com_l d a n rest = com_by a n rest (close_of d rest)

abbrev pub doc_l : ℕ → ℕ → ℕ → List ℕ → Tokens
doc_l k a n rest = ended a n rest (Found k 0 (n + line rest))

abbrev pub line_l : ℕ → ℕ → List ℕ → Tokens
line_l a n rest = from (a + (n + line rest)) (drop (line rest) rest)

abbrev pub left_by : State → ℕ → ℕ → List ℕ → Tokens
left_by Start a n rest = from a rest
left_by Word a n rest = ended a n rest (Found 18 0 (n + words rest))
left_by Push a n rest = ended a n rest (pushed n rest)
left_by Num a n rest = ended a n rest (Found 20 0 (n + digit_run rest))
left_by Hash a n rest = from a (35 ∷ rest)
left_by Tag a n rest = ended a n rest (Found 19 0 (n + words rest))
left_by Dot a n rest = from a (46 ∷ rest)
left_by Caret a n rest = from a (94 ∷ rest)
left_by Minus a n rest = from a (45 ∷ rest)
left_by Zeros a n rest = ended a n rest (negated n rest)
left_by Negative a n rest = ended a n rest (Found 21 0 (n + digit_run rest))
left_by (Str k) a n rest = str_l k a n rest
left_by (Esc k b) a n rest = esc_by k b a n rest (after_of rest)
left_by (X0 k b) a n rest = x0_l k b a n rest
left_by (X1 k b) a n rest = x1_l k b a n rest
left_by (U k b) a n rest = u_l k b a n rest
left_by (Un k b j) a n rest = un_l k b j a n rest
left_by Chr a n rest = from a (39 ∷ rest)
left_by (More t) a n rest = more_l t a n rest
left_by Quote a n rest = quote_l a n rest
left_by Slash a n rest = from a (47 ∷ rest)
left_by Slash2 a n rest = from a (47 ∷ 47 ∷ rest)
left_by Line a n rest = line_l a n rest
left_by (Doc k) a n rest = doc_l k a n rest
left_by (DocCr k) a n rest = doc_l k a n (13 ∷ rest)
left_by Cr a n rest = from a (13 ∷ rest)
left_by (Com d) a n rest = com_l d a n rest
left_by (Star d) a n rest = com_l d a n (42 ∷ rest)
left_by (Bar d) a n rest = com_l d a n (47 ∷ rest)
left_by Refused a n rest = fault_at a

abbrev pub left : Conf → List ℕ → Tokens
left c rest = left_by c.state c.start c.size rest

-- what a byte gave, and what is still to come
abbrev pub with_rest : Out → List ℕ → Tokens
with_rest o rest = onto o.gives (left o.next rest)
