-- Tokens as they arrive: the table of states. Each byte moves the state.
use Rattle.std.specs.Prelude.{ℕ, zero, suc, ◌+◌, ◌-◌, Bool, true, false, not, List, [], ◌∷◌, ◌++◌, leb, ltb, eqb, get_or, drop, Option, Some, None}
use Rattle.text.specs.Booleans.{choose, and, or, within}
use Rattle.text.specs.Classes.{class_of}
use Rattle.text.specs.Words.{starts_word, in_word}
use Rattle.text.specs.Digits.{hex_of}
use Rattle.literal.specs.Escapes.{simple_of}
use Rattle.token.specs.Blanks.{in_digits, is_zero}
use Rattle.token.specs.Tokens.{push_literal, one_kind}
use Rattle.token.specs.Lists.{Tok, tok, Tokens}
use Rattle.states.specs.declared.Lit.{Lit}
use Rattle.states.specs.declared.Lit.TheVariants.{Text, One}
use Rattle.states.specs.declared.Tail.{Tail}
use Rattle.states.specs.declared.Tail.TheVariants.{T1, T2, T3, TE0, TED, TF0, TF4}
use Rattle.states.specs.declared.State.{State}
use Rattle.states.specs.declared.State.TheVariants.{Start, Word, Push, Num, Hash, Tag, Dot, Caret, Minus, Zeros, Negative, Str, Esc, X0, X1, U, Un, Chr, More, Quote, Slash, Slash2, Line, Doc, DocCr, Cr, Com, Star, Bar, Refused}
use Rattle.states.specs.declared.Conf.{Conf}

-- what a byte does: the tokens it ends, and where the machine stands then
pub record Out : Type 0 where
  pub gives : List Tok
  pub next : Conf

abbrev pub go : State → ℕ → ℕ → Out
go q a n = record { gives = []; next = record { state = q; start = a; size = n } }

-- a token that ends with this byte
abbrev pub give : ℕ → ℕ → ℕ → Out
give k a b = record { gives = tok k a b ∷ []; next = record { state = Start; start = b; size = 0 } }

-- a fault at a place
abbrev pub refuse : ℕ → Out
refuse p = go Refused p 0

-- a token that ended before this byte, which Start is given
abbrev pub again : ℕ → ℕ → ℕ → (ℕ → Out) → Out
again k a b f = record { gives = tok k a b ∷ (f b).gives; next = (f b).next }

-- ---- the rows

abbrev pub open_row : ℕ → ℕ → Out
open_row a x =
    choose (eqb x 34) (λ u. go (Str 23) a 1)
    (λ u. choose (eqb x 39) (λ u. go Chr a 1)
    (λ u. choose (eqb x 94) (λ u. go Caret a 1)
    (λ u. choose (eqb x 35) (λ u. go Hash a 1)
    (λ u. choose (eqb x 46) (λ u. go Dot a 1)
    (λ u. choose (eqb x 47) (λ u. go Slash a 1)
    (λ u. choose (eqb x 45) (λ u. go Minus a 1) (λ u. choose (eqb x 13) (λ u. go Cr a 1) (λ u. refuse a))))))))

unfoldable pub class_row : ℕ → ℕ → ℕ → Out
class_row c a x =
    choose (eqb c 1) (λ u. go Start (suc a) 0)
    (λ u. choose (eqb c 2) (λ u. choose (eqb x 80) (λ u. go Push a 1) (λ u. go Word a 1))
    (λ u. choose (eqb c 3) (λ u. go Num a 1)
    (λ u. choose (eqb c 4) (λ u. give (one_kind x) a (suc a)) (λ u. choose (eqb c 5) (λ u. open_row a x) (λ u. refuse a)))))

abbrev pub start_row : ℕ → ℕ → Out
start_row x a = class_row (class_of x) a x

abbrev pub word_row : ℕ → ℕ → ℕ → Out
word_row a n x = choose (in_word x) (λ u. go Word a (suc n)) (λ u. again 18 a (a + n) (start_row x))

-- n bytes of PUSH_LITERAL were seen
unfoldable pub push_row : ℕ → ℕ → ℕ → Out
push_row a n x =
    choose (and (ltb n 12) (eqb x (get_or push_literal n 0))) (λ u. go Push a (suc n))
    (λ u. choose (ltb n 4) (λ u. word_row a n x)
    (λ u. choose (and (or (eqb n 4) (eqb n 12)) (not (in_word x))) (λ u. again 18 a (a + n) (start_row x)) (λ u. refuse a)))

abbrev pub num_row : ℕ → ℕ → ℕ → Out
num_row a n x = choose (in_digits x) (λ u. go Num a (suc n)) (λ u. again 20 a (a + n) (start_row x))

abbrev pub hash_row : ℕ → ℕ → Out
hash_row a x = choose (starts_word x) (λ u. go Tag a 2) (λ u. refuse a)

abbrev pub tag_row : ℕ → ℕ → ℕ → Out
tag_row a n x = choose (in_word x) (λ u. go Tag a (suc n)) (λ u. again 19 a (a + n) (start_row x))

abbrev pub dot_row : ℕ → ℕ → Out
dot_row a x = choose (eqb x 46) (λ u. give 22 a (a + 2)) (λ u. refuse a)

abbrev pub caret_row : ℕ → ℕ → Out
caret_row a x = choose (eqb x 34) (λ u. go (Str 24) a 2) (λ u. refuse a)

abbrev pub zeros_row : ℕ → ℕ → ℕ → Out
zeros_row a n x = choose (is_zero x) (λ u. go Zeros a (suc n)) (λ u. choose (in_digits x) (λ u. go Negative a (suc n)) (λ u. refuse a))

abbrev pub negative_row : ℕ → ℕ → ℕ → Out
negative_row a n x = choose (in_digits x) (λ u. go Negative a (suc n)) (λ u. again 21 a (a + n) (start_row x))

abbrev pub str_row : ℕ → ℕ → ℕ → ℕ → Out
str_row k a n x = choose (eqb x 34) (λ u. give k a (a + suc n)) (λ u. choose (eqb x 92) (λ u. go (Esc (Text k) n) a (suc n)) (λ u. go (Str k) a (suc n)))

-- back into the literal
abbrev pub back : Lit → State
back (Text k) = Str k
back One = Quote

abbrev pub is_number : Option ℕ → Bool
is_number (Some d) = true
is_number None = false

abbrev pub bad_esc : ℕ → ℕ → Out
bad_esc a b = refuse (a + b)

abbrev pub esc_row : Lit → ℕ → ℕ → ℕ → ℕ → Out
esc_row k b a n x =
    choose (is_number (simple_of x)) (λ u. go (back k) a (suc n))
    (λ u. choose (eqb x 120) (λ u. go (X0 k b) a (suc n)) (λ u. choose (eqb x 117) (λ u. go (U k b) a (suc n)) (λ u. bad_esc a b)))

abbrev pub is_hex : ℕ → Bool
is_hex x = is_number (hex_of x)

abbrev pub x0_row : Lit → ℕ → ℕ → ℕ → ℕ → Out
x0_row k b a n x = choose (is_hex x) (λ u. go (X1 k b) a (suc n)) (λ u. bad_esc a b)

abbrev pub x1_row : Lit → ℕ → ℕ → ℕ → ℕ → Out
x1_row k b a n x = choose (is_hex x) (λ u. go (back k) a (suc n)) (λ u. bad_esc a b)

abbrev pub u_row : Lit → ℕ → ℕ → ℕ → ℕ → Out
u_row k b a n x = choose (eqb x 123) (λ u. go (Un k b 0) a (suc n)) (λ u. bad_esc a b)

abbrev pub un_row : Lit → ℕ → ℕ → ℕ → ℕ → ℕ → Out
un_row k b j a n x =
    choose (and (ltb j 6) (is_hex x)) (λ u. go (Un k b (suc j)) a (suc n))
    (λ u. choose (and (leb 2 j) (eqb x 125)) (λ u. go (back k) a (suc n)) (λ u. bad_esc a b))

-- which bytes may come next, how many after them, and the state then
abbrev pub tail_ok : Tail → ℕ → Bool
tail_ok T1 x = within 0x80 0xbf x
tail_ok T2 x = within 0x80 0xbf x
tail_ok T3 x = within 0x80 0xbf x
tail_ok TE0 x = within 0xa0 0xbf x
tail_ok TED x = within 0x80 0x9f x
tail_ok TF0 x = within 0x90 0xbf x
tail_ok TF4 x = within 0x80 0x8f x

abbrev pub tail_left : Tail → ℕ
tail_left T1 = 0
tail_left T2 = 1
tail_left T3 = 2
tail_left TE0 = 1
tail_left TED = 1
tail_left TF0 = 2
tail_left TF4 = 2

abbrev pub tail_next : Tail → State
tail_next T1 = Quote
tail_next T2 = More T1
tail_next T3 = More T2
tail_next TE0 = More T1
tail_next TED = More T1
tail_next TF0 = More T2
tail_next TF4 = More T2

unfoldable pub lead_row : ℕ → ℕ → Out
lead_row a x =
    choose (ltb x 0xc2) (λ u. refuse a)
    (λ u. choose (ltb x 0xe0) (λ u. go (More T1) a 2)
    (λ u. choose (eqb x 0xe0) (λ u. go (More TE0) a 2)
    (λ u. choose (eqb x 0xed) (λ u. go (More TED) a 2)
    (λ u. choose (ltb x 0xf0) (λ u. go (More T2) a 2)
    (λ u. choose (eqb x 0xf0) (λ u. go (More TF0) a 2)
    (λ u. choose (ltb x 0xf4) (λ u. go (More T3) a 2) (λ u. choose (eqb x 0xf4) (λ u. go (More TF4) a 2) (λ u. refuse a))))))))

abbrev pub more_row : Tail → ℕ → ℕ → ℕ → Out
more_row t a n x = choose (tail_ok t x) (λ u. go (tail_next t) a (suc n)) (λ u. refuse a)

abbrev pub chr_row : ℕ → ℕ → Out
chr_row a x = choose (eqb x 92) (λ u. go (Esc One 1) a 2) (λ u. choose (ltb x 0x80) (λ u. go Quote a 2) (λ u. lead_row a x))

abbrev pub quote_row : ℕ → ℕ → ℕ → Out
quote_row a n x = choose (eqb x 39) (λ u. give 25 a (a + suc n)) (λ u. refuse a)

abbrev pub slash_row : ℕ → ℕ → Out
slash_row a x = choose (eqb x 47) (λ u. go Slash2 a 2) (λ u. choose (eqb x 42) (λ u. go (Com 1) a 2) (λ u. refuse a))

abbrev pub line_row : ℕ → ℕ → ℕ → Out
line_row a n x = choose (eqb x 10) (λ u. go Start (a + suc n) 0) (λ u. go Line a (suc n))

abbrev pub slash2_row : ℕ → ℕ → Out
slash2_row a x = choose (eqb x 47) (λ u. go (Doc 27) a 3) (λ u. choose (eqb x 33) (λ u. go (Doc 26) a 3) (λ u. line_row a 2 x))

-- a doc up to b, ended by a line's end with this byte
abbrev pub give_doc : ℕ → ℕ → ℕ → ℕ → Out
give_doc k a b c = record { gives = tok k a b ∷ []; next = record { state = Start; start = c; size = 0 } }

abbrev pub doc_row : ℕ → ℕ → ℕ → ℕ → Out
doc_row k a n x = choose (eqb x 10) (λ u. give_doc k a (a + n) (a + suc n)) (λ u. choose (eqb x 13) (λ u. go (DocCr k) a n) (λ u. go (Doc k) a (suc n)))

-- the CR is not yet counted: it may be the line's end
abbrev pub doc_cr_row : ℕ → ℕ → ℕ → ℕ → Out
doc_cr_row k a n x = choose (eqb x 10) (λ u. give_doc k a (a + n) (a + (n + 2))) (λ u. doc_row k a (suc n) x)

abbrev pub cr_row : ℕ → ℕ → Out
cr_row a x = choose (eqb x 10) (λ u. go Start (a + 2) 0) (λ u. refuse a)

abbrev pub com_row : ℕ → ℕ → ℕ → ℕ → Out
com_row d a n x = choose (eqb x 42) (λ u. go (Star d) a n) (λ u. choose (eqb x 47) (λ u. go (Bar d) a n) (λ u. go (Com d) a (suc n)))

-- the `*` is not yet counted
abbrev pub star_row : ℕ → ℕ → ℕ → ℕ → Out
star_row d a n x =
    choose (eqb x 47) (λ u. choose (leb d 1) (λ u. go Start (a + (n + 2)) 0) (λ u. go (Com (d - 1)) a (n + 2)))
    (λ u. com_row d a (suc n) x)

-- nor is the `/`
abbrev pub bar_row : ℕ → ℕ → ℕ → ℕ → Out
bar_row d a n x = choose (eqb x 42) (λ u. go (Com (d + 1)) a (n + 2)) (λ u. com_row d a (suc n) x)

-- ---- the table

abbrev pub row : State → ℕ → ℕ → ℕ → Out
row Start a n x = start_row x a
row Word a n x = word_row a n x
row Push a n x = push_row a n x
row Num a n x = num_row a n x
row Hash a n x = hash_row a x
row Tag a n x = tag_row a n x
row Dot a n x = dot_row a x
row Caret a n x = caret_row a x
row Minus a n x = zeros_row a 1 x
row Zeros a n x = zeros_row a n x
row Negative a n x = negative_row a n x
row (Str k) a n x = str_row k a n x
row (Esc k b) a n x = esc_row k b a n x
row (X0 k b) a n x = x0_row k b a n x
row (X1 k b) a n x = x1_row k b a n x
row (U k b) a n x = u_row k b a n x
row (Un k b j) a n x = un_row k b j a n x
row Chr a n x = chr_row a x
row (More t) a n x = more_row t a n x
row Quote a n x = quote_row a n x
row Slash a n x = slash_row a x
row Slash2 a n x = slash2_row a x
row Line a n x = line_row a n x
row (Doc k) a n x = doc_row k a n x
row (DocCr k) a n x = doc_cr_row k a n x
row Cr a n x = cr_row a x
row (Com d) a n x = com_row d a n x
row (Star d) a n x = star_row d a n x
row (Bar d) a n x = bar_row d a n x
row Refused a n x = refuse a

abbrev pub step : Conf → ℕ → Out
step c x = row c.state c.start c.size x

-- ---- the end of the text

abbrev pub no_more : Tokens
no_more = record { list = []; fault = None }

abbrev pub fault_at : ℕ → Tokens
fault_at p = record { list = []; fault = Some p }

abbrev pub last : ℕ → ℕ → ℕ → Tokens
last k a b = record { list = tok k a b ∷ []; fault = None }

abbrev pub end_row : State → ℕ → ℕ → Tokens
end_row Start a n = no_more
end_row Word a n = last 18 a (a + n)
end_row Push a n = choose (or (ltb n 5) (eqb n 12)) (λ u. last 18 a (a + n)) (λ u. fault_at a)
end_row Num a n = last 20 a (a + n)
end_row Hash a n = fault_at a
end_row Tag a n = last 19 a (a + n)
end_row Dot a n = fault_at a
end_row Caret a n = fault_at a
end_row Minus a n = fault_at a
end_row Zeros a n = fault_at a
end_row Negative a n = last 21 a (a + n)
end_row (Str k) a n = fault_at a
end_row (Esc k b) a n = fault_at (a + b)
end_row (X0 k b) a n = fault_at (a + b)
end_row (X1 k b) a n = fault_at (a + b)
end_row (U k b) a n = fault_at (a + b)
end_row (Un k b j) a n = fault_at (a + b)
end_row Chr a n = fault_at a
end_row (More t) a n = fault_at a
end_row Quote a n = fault_at a
end_row Slash a n = fault_at a
end_row Slash2 a n = no_more
end_row Line a n = no_more
end_row (Doc k) a n = last k a (a + n)
end_row (DocCr k) a n = last k a (a + suc n)
end_row Cr a n = fault_at a
end_row (Com d) a n = fault_at a
end_row (Star d) a n = fault_at a
end_row (Bar d) a n = fault_at a
end_row Refused a n = fault_at a

abbrev pub finish : Conf → Tokens
finish c = end_row c.state c.start c.size

-- ---- packets

abbrev pub then : Out → Out → Out
then o p = record { gives = o.gives ++ p.gives; next = p.next }

unfoldable pub feed : Conf → List ℕ → Out
feed c [] = record { gives = []; next = c }
feed c (x ∷ xs) = then (step c x) (feed (step c x).next xs)

abbrev pub fresh : Conf
fresh = record { state = Start; start = 0; size = 0 }

-- ---- completions: what to send so that no 3 comes

-- `*/`, d times, at least once
abbrev pub closers : ℕ → List ℕ
closers zero = 42 ∷ 47 ∷ []
closers (suc zero) = 42 ∷ 47 ∷ []
closers (suc (suc d)) = 42 ∷ 47 ∷ closers (suc d)

abbrev pub mark : Lit → ℕ
mark (Text k) = 34
mark One = 39

-- the digits that are missing
abbrev pub braced : ℕ → List ℕ → List ℕ
braced zero q = 48 ∷ 48 ∷ 125 ∷ q
braced (suc zero) q = 48 ∷ 125 ∷ q
braced (suc (suc j)) q = 125 ∷ q

-- the bytes that are missing of a character
abbrev pub missing : Tail → List ℕ
missing T1 = 0x80 ∷ []
missing T2 = 0x80 ∷ 0x80 ∷ []
missing T3 = 0x80 ∷ 0x80 ∷ 0x80 ∷ []
missing TE0 = 0xa0 ∷ 0x80 ∷ []
missing TED = 0x80 ∷ 0x80 ∷ []
missing TF0 = 0x90 ∷ 0x80 ∷ 0x80 ∷ []
missing TF4 = 0x80 ∷ 0x80 ∷ 0x80 ∷ []

abbrev pub completion : State → ℕ → List ℕ
completion Start n = []
completion Word n = []
completion Push n = choose (or (ltb n 5) (eqb n 12)) (λ u. []) (λ u. drop n push_literal)
completion Num n = []
completion Hash n = 97 ∷ []
completion Tag n = []
completion Dot n = 46 ∷ []
completion Caret n = 34 ∷ 34 ∷ []
completion Minus n = 49 ∷ []
completion Zeros n = 49 ∷ []
completion Negative n = []
completion (Str k) n = 34 ∷ []
completion (Esc l b) n = 110 ∷ mark l ∷ []
completion (X0 l b) n = 48 ∷ 48 ∷ mark l ∷ []
completion (X1 l b) n = 48 ∷ mark l ∷ []
completion (U l b) n = 123 ∷ 48 ∷ 48 ∷ 125 ∷ mark l ∷ []
completion (Un l b j) n = braced j (mark l ∷ [])
completion Chr n = 97 ∷ 39 ∷ []
completion (More t) n = missing t ++ 39 ∷ []
completion Quote n = 39 ∷ []
completion Slash n = 47 ∷ []
completion Slash2 n = []
completion Line n = []
completion (Doc k) n = []
completion (DocCr k) n = []
completion Cr n = 10 ∷ []
completion (Com d) n = closers d
completion (Star d) n = 32 ∷ closers d
completion (Bar d) n = 32 ∷ closers d
completion Refused n = []

abbrev pub line_at : ℕ → ℕ → Conf
line_at a n = record { state = Line; start = a; size = n }
