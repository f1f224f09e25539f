-- The machine's list is that of the whole text: a law for each row, and the rest by induction on the bytes.
use Rattle.std.specs.Prelude.{Some}
use Prim.Native.Nat.{ℕ, suc, ◌+◌, ◌-◌}
use mathlib.Core.Path.{◌≡◌, refl, sym, ap, ◌∙◌}
use mathlib.Core.Bool.{Bool, true, false}
use mathlib.Core.List.{List, [], ◌∷◌, ◌++◌, append_assoc}
use native.Mathlib.Omega.{arith}
use lib.Dec.{leb}
use Rattle.text.specs.Booleans.{choose}
use Rattle.text.specs.Classes.{class_of}
use Rattle.text.specs.Words.{in_word}
use Rattle.text.specs.Scans.{sought}
use Rattle.text.specs.Utf8.{char_of}
use Rattle.literal.specs.Escapes.{digits_of, after_of}
use Rattle.token.specs.Blanks.{run, first, in_digits, in_line, close_of, slash_blank, return_blank, opener_blank, blank_by}
use Rattle.token.specs.Tokens.{tag_token, dots_token, string_of, insens_token, char_token, doc_token, opener_token, token_by}
use Rattle.token.specs.Lists.{Tok, Tokens, onto, tokens_of}
use Rattle.token.specs.declared.Token.TheVariants.{NoToken}
use Rattle.states.specs.declared.Lit.{Lit}
use Rattle.states.specs.declared.State.{State}
use Rattle.states.specs.declared.State.TheVariants.{Start, Word, Push, Num, Hash, Tag, Dot, Caret, Minus, Zeros, Negative, Str, Esc, X0, X1, U, Un, Chr, More, Quote, Slash, Slash2, Line, Doc, DocCr, Cr, Com, Star, Bar, Refused}
use Rattle.states.specs.declared.Conf.{Conf}
use Rattle.states.specs.Machine.{row, step, no_more, fault_at, end_row, finish, then, feed, fresh}
use Rattle.states.proofs.From.{from, ended, from_text, from_end, none, from_first}
use Rattle.states.proofs.Left.{negated, str_l, bad_l, esc_by, un_l, com_l, line_l, left_by, left, with_rest}
use Rattle.states.proofs.Rows.{run_next, com_row_lem, star_row_lem, bar_row_lem, line_row_lem, doc_row_lem, doc_cr_row_lem, slash_row_lem, line_open, slash2_row_lem, cr_row_lem}
use Rattle.states.proofs.Strs.{str_row_lem, esc_row_lem, x0_row_lem, x1_row_lem, u_row_lem, un_row_lem, quote_row_lem}
use Rattle.states.proofs.Chars.{chr_row_lem, more_row_lem}
use Rattle.states.proofs.Words.{start_row_lem, word_row_lem, num_row_lem, tag_row_lem, negative_row_lem, hash_row_lem, dot_row_lem, caret_row_lem, minus_open, zeros_row_lem, minus_row}
use Rattle.states.proofs.Pushes.{push_row_lem, run_end, push_end}

-- ---- a law for each row, one for each end

pub row_law : (q : State) (a n x : ℕ) (rest : List ℕ) → left_by q a n (x ∷ rest) ≡ with_rest (row q a n x) rest
row_law Start a n x rest = start_row_lem a x rest
row_law Word a n x rest = word_row_lem a n x rest
row_law Push a n x rest = push_row_lem a n x rest
row_law Num a n x rest = num_row_lem a n x rest
row_law Hash a n x rest = hash_row_lem a x rest
row_law Tag a n x rest = tag_row_lem a n x rest
row_law Dot a n x rest = dot_row_lem a x rest
row_law Caret a n x rest = caret_row_lem a x rest
row_law Minus a n x rest = minus_row a x rest
row_law Zeros a n x rest = zeros_row_lem a n x rest
row_law Negative a n x rest = negative_row_lem a n x rest
row_law (Str k) a n x rest = str_row_lem k a n x rest
row_law (Esc l b) a n x rest = esc_row_lem l b a n x rest
row_law (X0 l b) a n x rest = x0_row_lem l b a n x rest
row_law (X1 l b) a n x rest = x1_row_lem l b a n x rest
row_law (U l b) a n x rest = u_row_lem l b a n x rest
row_law (Un l b j) a n x rest = un_row_lem l b j a n x rest
row_law Chr a n x rest = chr_row_lem a x rest
row_law (More t) a n x rest = more_row_lem t a n x rest
row_law Quote a n x rest = quote_row_lem a n x rest
row_law Slash a n x rest = slash_row_lem a x rest
row_law Slash2 a n x rest = slash2_row_lem a x rest
row_law Line a n x rest = line_row_lem a n x rest
row_law (Doc k) a n x rest = doc_row_lem k a n x rest
row_law (DocCr k) a n x rest = doc_cr_row_lem k a n x rest
row_law Cr a n x rest = cr_row_lem a x rest
row_law (Com d) a n x rest = com_row_lem d a n x rest
row_law (Star d) a n x rest = star_row_lem d a n x rest
row_law (Bar d) a n x rest = bar_row_lem d a n x rest
row_law Refused a n x rest = refl

hash_end : (a : ℕ) → from a (35 ∷ []) ≡ fault_at a
unfolding blank_by token_by class_of opener_blank opener_token tag_token
hash_end a = from_first a 35 [] (NoToken 0) refl refl ∙ none a 0 (35 ∷ [])

dot_end : (a : ℕ) → from a (46 ∷ []) ≡ fault_at a
unfolding blank_by token_by class_of opener_blank opener_token dots_token
dot_end a = from_first a 46 [] (NoToken 0) refl refl ∙ none a 0 (46 ∷ [])

caret_end : (a : ℕ) → from a (94 ∷ []) ≡ fault_at a
unfolding blank_by token_by class_of opener_blank opener_token insens_token
caret_end a = from_first a 94 [] (NoToken 0) refl refl ∙ none a 0 (94 ∷ [])

chr_end : (a : ℕ) → from a (39 ∷ []) ≡ fault_at a
unfolding blank_by token_by class_of opener_blank opener_token char_token char_of
chr_end a = from_first a 39 [] (NoToken 0) refl refl ∙ none a 0 (39 ∷ [])

slash_end : (a : ℕ) → from a (47 ∷ []) ≡ fault_at a
unfolding blank_by token_by class_of opener_blank slash_blank opener_token doc_token
slash_end a = from_first a 47 [] (NoToken 0) refl refl ∙ none a 0 (47 ∷ [])

cr_end : (a : ℕ) → from a (13 ∷ []) ≡ fault_at a
unfolding blank_by token_by class_of opener_blank return_blank opener_token
cr_end a = from_first a 13 [] (NoToken 0) refl refl ∙ none a 0 (13 ∷ [])

zeros_end : (a n : ℕ) → ended a n [] (negated n []) ≡ fault_at a
unfolding run
zeros_end a n = none a n []

str_end : (k a n : ℕ) → str_l k a n [] ≡ fault_at a
unfolding string_of sought
str_end k a n = none a n []

esc_end : (l : Lit) (b a n : ℕ) → esc_by l b a n [] (after_of []) ≡ bad_l a b
unfolding after_of
esc_end l b a n = refl

un_by_lem : (l : Lit) (b a n : ℕ) (p : Bool) → choose p (λ u. bad_l a b) (λ u. bad_l a b) ≡ bad_l a b
un_by_lem l b a n true = refl
un_by_lem l b a n false = refl

un_end : (l : Lit) (b j a n : ℕ) → un_l l b j a n [] ≡ bad_l a b
unfolding digits_of
un_end l b j a n =
    let z : j - j ≡ 0 = omega arith in
    rw z (un_by_lem l b a n (leb 2 j))

line_end_lem : (a n : ℕ) → line_l a n [] ≡ no_more
unfolding run
line_end_lem a n = from_end (a + (n + 0))

com_end : (d a n : ℕ) → com_l d a n [] ≡ fault_at a
unfolding close_of
com_end d a n = refl

one_end : (d a n x : ℕ) → com_l d a n (x ∷ []) ≡ fault_at a
unfolding close_of
one_end d a n x = refl

pub end_law : (q : State) (a n : ℕ) → left_by q a n [] ≡ end_row q a n
end_law Start a n = from_end a
end_law Word a n = run_end (first in_word) 18 a n
end_law Push a n = push_end a n
end_law Num a n = run_end (first in_digits) 20 a n
end_law Hash a n = hash_end a
end_law Tag a n = run_end (first in_word) 19 a n
end_law Dot a n = dot_end a
end_law Caret a n = caret_end a
end_law Minus a n = minus_open a [] ∙ zeros_end a 1
end_law Zeros a n = zeros_end a n
end_law Negative a n = run_end (first in_digits) 21 a n
end_law (Str k) a n = str_end k a n
end_law (Esc l b) a n = esc_end l b a n
end_law (X0 l b) a n = refl
end_law (X1 l b) a n = refl
end_law (U l b) a n = refl
end_law (Un l b j) a n = un_end l b j a n
end_law Chr a n = chr_end a
end_law (More t) a n = refl
end_law Quote a n = refl
end_law Slash a n = slash_end a
end_law Slash2 a n = line_open a [] refl refl ∙ line_end_lem a 2
end_law Line a n = line_end_lem a n
end_law (Doc k) a n = run_end in_line k a n
end_law (DocCr k) a n = run_next in_line k a n 13 [] refl ∙ run_end in_line k a (suc n)
end_law Cr a n = cr_end a
end_law (Com d) a n = com_end d a n
end_law (Star d) a n = one_end d a n 42
end_law (Bar d) a n = one_end d a n 47
end_law Refused a n = refl

-- ---- packets

pub feed_cuts : (xs ys : List ℕ) (c : Conf) → feed c (xs ++ ys) ≡ then (feed c xs) (feed (feed c xs).next ys)
unfolding feed
feed_cuts [] ys c = refl
feed_cuts (x ∷ xs) ys c = rw (feed_cuts xs ys (step c x).next, append_assoc)

onto_onto : (ts us : List Tok) (r : Tokens) → onto ts (onto us r) ≡ onto (ts ++ us) r
onto_onto ts us r = rw append_assoc

-- what is to come from a state on, with the bytes xs in between
pub left_feed : (xs ys : List ℕ) (c : Conf) → left c (xs ++ ys) ≡ onto (feed c xs).gives (left (feed c xs).next ys)
unfolding feed
left_feed [] ys c = refl
left_feed (x ∷ xs) ys c =
    row_law c.state c.start c.size x (xs ++ ys)
    ∙ ap (onto (step c x).gives) (left_feed xs ys (step c x).next)
    ∙ onto_onto (step c x).gives (feed (step c x).next xs).gives (left (feed (step c x).next xs).next ys)

-- what the machine gives in all
abbrev pub whole : Conf → List ℕ → Tokens
whole c xs = onto (feed c xs).gives (finish (feed c xs).next)

pub left_whole : (xs : List ℕ) (c : Conf) → left c xs ≡ whole c xs
unfolding feed
left_whole [] c = end_law c.state c.start c.size
left_whole (x ∷ xs) c =
    row_law c.state c.start c.size x xs
    ∙ ap (onto (step c x).gives) (left_whole xs (step c x).next)
    ∙ onto_onto (step c x).gives (feed (step c x).next xs).gives (finish (feed (step c x).next xs).next)

-- ---- the theorems

-- the machine's tokens and fault are those of the whole text
pub machine : (s : List ℕ) → whole fresh s ≡ tokens_of s
machine s = sym (left_whole s fresh) ∙ from_text s

-- after some packets: what the whole text will have is what was given, and what is to come
pub continued : (s ys : List ℕ) → tokens_of (s ++ ys) ≡ onto (feed fresh s).gives (left (feed fresh s).next ys)
continued s ys = sym (from_text (s ++ ys)) ∙ left_feed s ys fresh

-- in a refused state every continuation has the fault, at that place
pub refused_3 : (s ys : List ℕ) → (feed fresh s).next.state ≡ Refused → (tokens_of (s ++ ys)).fault ≡ Some (feed fresh s).next.start
refused_3 s ys e =
    let z : left (feed fresh s).next ys ≡ fault_at (feed fresh s).next.start = rw e in
    ap (λ (r : Tokens). r.fault) (continued s ys) ∙ ap (λ (r : Tokens). r.fault) z
