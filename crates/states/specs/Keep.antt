-- A stream in the numbers that a caller keeps, and the test of numbers that come from anywhere.
use Rattle.std.specs.Prelude.{ℕ, ◌+◌, Bool, true, false, List, [], ◌∷◌, leb, ltb, eqb, get_or}
use Rattle.text.specs.Booleans.{choose, and, or, within, among}
use Rattle.states.specs.declared.Lit.{Lit}
use Rattle.states.specs.declared.Lit.TheVariants.{Text, One}
use Rattle.states.specs.declared.Tail.{Tail}
use Rattle.states.specs.declared.Tail.TheVariants.{T1, T2, T3, TE0, TED, TF0, TF4}
use Rattle.states.specs.declared.State.{State}
use Rattle.states.specs.declared.State.TheVariants.{Start, Word, Push, Num, Hash, Tag, Dot, Caret, Minus, Zeros, Negative, Str, Esc, X0, X1, U, Un, Chr, More, Quote, Slash, Slash2, Line, Doc, DocCr, Cr, Com, Star, Bar, Refused}
use Rattle.states.specs.declared.Utf.{Utf}
use Rattle.states.specs.declared.Utf.TheVariants.{Whole, Mid, Broke}

-- ---- states: a number for each, and what it holds in three more

-- what an escape stands in, by the kind of its token
abbrev pub lit_kind : Lit → ℕ
lit_kind (Text k) = k
lit_kind One = 25

unfoldable pub lit_of : ℕ → Lit
lit_of k = choose (eqb k 25) (λ u. One) (λ u. Text k)

-- where a character of several bytes stands
abbrev pub tails : List Tail
tails = T1 ∷ T2 ∷ T3 ∷ TE0 ∷ TED ∷ TF0 ∷ TF4 ∷ []

abbrev pub tail_code : Tail → ℕ
tail_code T1 = 0
tail_code T2 = 1
tail_code T3 = 2
tail_code TE0 = 3
tail_code TED = 4
tail_code TF0 = 5
tail_code TF4 = 6

pub record Parts : Type 0 where
  pub code : ℕ
  pub kind : ℕ
  pub backslash : ℕ
  pub depth : ℕ

abbrev pub parts : ℕ → ℕ → ℕ → ℕ → Parts
parts c k b d = record { code = c; kind = k; backslash = b; depth = d }

abbrev pub parts_of : State → Parts
parts_of Start = parts 0 0 0 0
parts_of Word = parts 1 0 0 0
parts_of Push = parts 2 0 0 0
parts_of Num = parts 3 0 0 0
parts_of Hash = parts 4 0 0 0
parts_of Tag = parts 5 0 0 0
parts_of Dot = parts 6 0 0 0
parts_of Caret = parts 7 0 0 0
parts_of Minus = parts 8 0 0 0
parts_of Zeros = parts 9 0 0 0
parts_of Negative = parts 10 0 0 0
parts_of (Str k) = parts 11 k 0 0
parts_of (Esc l b) = parts 12 (lit_kind l) b 0
parts_of (X0 l b) = parts 13 (lit_kind l) b 0
parts_of (X1 l b) = parts 14 (lit_kind l) b 0
parts_of (U l b) = parts 15 (lit_kind l) b 0
parts_of (Un l b j) = parts 16 (lit_kind l) b j
parts_of Chr = parts 17 0 0 0
parts_of (More t) = parts 18 0 0 (tail_code t)
parts_of Quote = parts 19 0 0 0
parts_of Slash = parts 20 0 0 0
parts_of Slash2 = parts 21 0 0 0
parts_of Line = parts 22 0 0 0
parts_of (Doc k) = parts 23 k 0 0
parts_of (DocCr k) = parts 24 k 0 0
parts_of Cr = parts 25 0 0 0
parts_of (Com d) = parts 26 0 0 d
parts_of (Star d) = parts 27 0 0 d
parts_of (Bar d) = parts 28 0 0 d
parts_of Refused = parts 29 0 0 0

abbrev pub code_of : State → ℕ
code_of q = (parts_of q).code

abbrev pub refused_code : ℕ
refused_code = 29

-- all states that hold such numbers, in the order of their own
abbrev pub states : ℕ → ℕ → ℕ → List State
states k b d =
    Start ∷ Word ∷ Push ∷ Num ∷ Hash ∷ Tag ∷ Dot ∷ Caret ∷ Minus ∷ Zeros ∷ Negative ∷ Str k ∷ Esc (lit_of k) b ∷ X0 (lit_of k) b ∷ X1 (lit_of k) b ∷ U (lit_of k) b ∷ Un (lit_of k) b d
    ∷ Chr ∷ More (get_or tails d T1) ∷ Quote ∷ Slash ∷ Slash2 ∷ Line ∷ Doc k ∷ DocCr k ∷ Cr ∷ Com d ∷ Star d ∷ Bar d ∷ []

-- a number that is no state's is Refused, which no open stream is in
unfoldable pub state_of : ℕ → ℕ → ℕ → ℕ → State
state_of c k b d = get_or (states k b d) c Refused

-- 0: between characters; 1 to 7: in one that began at a place
abbrev pub utfs : ℕ → List Utf
utfs s = Whole ∷ Mid T1 s ∷ Mid T2 s ∷ Mid T3 s ∷ Mid TE0 s ∷ Mid TED s ∷ Mid TF0 s ∷ Mid TF4 s ∷ []

unfoldable pub utf_of : ℕ → ℕ → Utf
utf_of c s = get_or (utfs s) c (Broke s)

abbrev pub utf_code : Utf → ℕ
utf_code Whole = 0
utf_code (Mid t s) = tail_code t + 1
utf_code (Broke p) = 8

abbrev pub utf_start : Utf → ℕ
utf_start Whole = 0
utf_start (Mid t s) = s
utf_start (Broke p) = p

-- ---- the test

-- bytes that were seen and are not yet counted: in DocCr, Star and Bar one waits
abbrev pub waiting : State → ℕ
waiting q = choose (among (24 ∷ 27 ∷ 28 ∷ []) (code_of q)) (λ u. 1) (λ u. 0)

abbrev pub is_text : ℕ → Bool
is_text k = or (eqb k 23) (eqb k 24)

abbrev pub is_doc : ℕ → Bool
is_doc k = or (eqb k 26) (eqb k 27)

abbrev pub is_lit : Lit → Bool
is_lit (Text k) = is_text k
is_lit One = true

-- an escape: in a literal, its backslash among the n bytes
abbrev pub esc_fits : Lit → ℕ → ℕ → Bool
esc_fits l b n = and (is_lit l) (ltb b n)

-- a comment: each that is open has a byte of the n
abbrev pub com_fits : ℕ → ℕ → Bool
com_fits d n = and (ltb 0 d) (leb d n)

-- a state with n bytes of its token seen
abbrev pub state_fits : State → ℕ → Bool
state_fits Start n = eqb n 0
state_fits Word n = ltb 0 n
state_fits Push n = within 1 12 n
state_fits Num n = ltb 0 n
state_fits Hash n = eqb n 1
state_fits Tag n = ltb 0 n
state_fits Dot n = eqb n 1
state_fits Caret n = eqb n 1
state_fits Minus n = eqb n 1
state_fits Zeros n = ltb 0 n
state_fits Negative n = ltb 0 n
state_fits (Str k) n = and (is_text k) (ltb 0 n)
state_fits (Esc l b) n = esc_fits l b n
state_fits (X0 l b) n = esc_fits l b n
state_fits (X1 l b) n = esc_fits l b n
state_fits (U l b) n = esc_fits l b n
state_fits (Un l b j) n = and (leb j 6) (esc_fits l b n)
state_fits Chr n = eqb n 1
state_fits (More t) n = ltb 0 n
state_fits Quote n = ltb 0 n
state_fits Slash n = eqb n 1
state_fits Slash2 n = eqb n 2
state_fits Line n = ltb 0 n
state_fits (Doc k) n = and (is_doc k) (ltb 0 n)
state_fits (DocCr k) n = and (is_doc k) (ltb 0 n)
state_fits Cr n = eqb n 1
state_fits (Com d) n = com_fits d n
state_fits (Star d) n = com_fits d n
state_fits (Bar d) n = com_fits d n
state_fits Refused n = false

-- a sequence began before the n bytes were all seen
abbrev pub utf_fits : Utf → ℕ → Bool
utf_fits Whole n = true
utf_fits (Mid t s) n = ltb s n
utf_fits (Broke p) n = false
