-- A token whose end the packet holds is given where the whole-text lexer finds it: the machine, from Start, gives nothing before it, and stands behind it as at Start.
use Rattle.std.specs.Prelude.{ℕ, Option, Some, None}
use Prim.Native.Nat.{ℕ, suc, ◌+◌, ◌-◌, ◌≤◌, ◌<◌}
use mathlib.Core.Path.{◌≡◌, refl, sym, ap, ◌∙◌}
use mathlib.Core.Bool.{Bool, true, false, not}
use mathlib.Core.List.{List, [], ◌∷◌, ◌++◌}
use mathlib.Core.Logic.{◌⊎◌, inl, inr}
use native.Mathlib.Nat.{add-zero}
use native.Mathlib.Numerals.{add-one}
use native.Mathlib.Omega.{arith}
use lib.Dec.{leb, ltb, eqb}
use lib.ListN.{length, drop, get_or}
use borrow.Author.Tests.{ltb-true, eqb-true, lt-ltb, le-ltb}
use Rattle.text.specs.Booleans.{choose, and, or, among}
use Rattle.text.specs.Classes.{class_of, blanks, letter, digit, ones, openers}
use Rattle.text.specs.Words.{starts_word, in_word}
use Rattle.text.proofs.Tests.{within_low}
use Rattle.text.proofs.Booleans.{and_true, choose_by}
use Rattle.text.specs.Limits.{max_text}
use Rattle.literal.specs.Escapes.{simple_of}
use Rattle.token.specs.Blanks.{in_digits, is_zero}
use Rattle.token.specs.Tokens.{push_literal, one_kind}
use Rattle.token.specs.Lists.{Tok, tok, Tokens}
use Rattle.states.specs.declared.Lit.{Lit}
use Rattle.states.specs.declared.Lit.TheVariants.{Text, One}
use Rattle.states.specs.declared.Tail.{Tail}
use Rattle.states.specs.declared.Tail.TheVariants.{T1, T2, T3, TE0, TED, TF0, TF4}
use Rattle.states.specs.declared.State.{State}
use Rattle.states.specs.declared.State.TheVariants.{Start, Word, Push, Num, Hash, Tag, Dot, Caret, Minus, Zeros, Negative, Str, Esc, X0, X1, U, Un, Chr, More, Quote, Slash, Slash2, Line, Doc, DocCr, Cr, Com, Star, Bar, Refused}
use Rattle.states.specs.declared.Conf.{Conf}
use Rattle.states.specs.declared.Utf.{Utf}
use Rattle.states.specs.declared.Utf.TheVariants.{Whole, Mid, Broke}
use Rattle.states.specs.declared.Stand.{Stand}
use Rattle.states.specs.Machine.{Out, go, give, again, open_row, class_row, start_row, word_row, push_row, zeros_row, back, is_number, is_hex, tail_ok, tail_next, lead_row, line_row, give_doc, doc_row, com_row, row, step, end_row}
use Rattle.states.specs.Keep.{code_of, refused_code, waiting, state_fits}
use Rattle.states.specs.Utf.{utf_lead, utf_step, utf_feed, broken_at}
use Rattle.states.specs.Steps.{Step, Goes, unless, long_at, refused_at, over_at, moved_to, step_by, step_of, given, followed, ran_of}
use Rattle.stream.specs.Shapes.{Coherent}
use Rattle.stream.specs.Quick.{start_at}
use Rattle.states.proofs.Left.{left}
use Rattle.states.proofs.Main.{row_law, end_law}
use Rattle.states.proofs.Fits.{never, code_refused}
use Rattle.states.proofs.Utfs.{stays}
use Rattle.states.proofs.Cuts.{followed_given}
use Rattle.stream.proofs.Loops.{loop_starts}
use Rattle.stream.proofs.Writes.{step_sound}

-- ---- what a byte at a place does: it gives nothing; or a token that ends with it; or one that ended before it, and then what Start gives; or it is the LF that ends a doc before a CR

abbrev pub is_cr : State → Bool
is_cr q = eqb (code_of q) 24

abbrev Quiet : ℕ → Out → Type 0
Quiet x o = (o.gives ≡ []) × (is_cr o.next.state ≡ true → x ≡ 13)

abbrev Gave : ℕ → ℕ → Out → Type 0
Gave s x o = (x < 128) × (k : ℕ) × (a : ℕ) × (o ≡ give k a (suc s))

abbrev Again : ℕ → ℕ → Out → Type 0
Again s x o = (k : ℕ) × (a : ℕ) × (o ≡ again k a s (start_row x))

abbrev DocEnd : State → ℕ → ℕ → Out → Type 0
DocEnd q s x o = (is_cr q ≡ true) × (x ≡ 10) × (k : ℕ) × (a : ℕ) × (e : ℕ) × (s ≡ suc e) × (o ≡ give_doc k a e (suc s))

abbrev Did : State → ℕ → ℕ → Out → Type 0
Did q s x o = Quiet x o ⊎ (Gave s x o ⊎ (Again s x o ⊎ DocEnd q s x o))

module _ (q : State) (s x : ℕ) where
  two : (b : Bool) (f g : Unit {0} → Out) → Did q s x (f tt) → Did q s x (g tt) → Did q s x (choose b f g)
  two true f g y n = y
  two false f g y n = n

  goes : (r : State) (a m : ℕ) → is_cr r ≡ false → Did q s x (go r a m)
  goes r a m h = inl (refl, λ e. never (sym h ∙ e))

  gives : (k a b : ℕ) → x < 128 → b ≡ suc s → Did q s x (give k a b)
  gives k a b h e = inr (inl (h, k, a, ap (give k a) e))

  again_at : (k a b : ℕ) → b ≡ s → Did q s x (again k a b (start_row x))
  again_at k a b e = inr (inr (inl (k, a, ap (λ (c : ℕ). again k a c (start_row x)) e)))

  back_did : (l : Lit) (a m : ℕ) → Did q s x (go (back l) a m)
  back_did (Text k) a m = goes (Str k) a m refl
  back_did One a m = goes Quote a m refl

  tail_did : (t : Tail) (a m : ℕ) → Did q s x (go (tail_next t) a m)
  tail_did T1 a m = goes Quote a m refl
  tail_did T2 a m = goes (More T1) a m refl
  tail_did T3 a m = goes (More T2) a m refl
  tail_did TE0 a m = goes (More T1) a m refl
  tail_did TED a m = goes (More T1) a m refl
  tail_did TF0 a m = goes (More T2) a m refl
  tail_did TF4 a m = goes (More T2) a m refl

  refuses : (p : ℕ) → Did q s x (go Refused p 0)
  refuses p = goes Refused p 0 refl

abbrev small : List ℕ → Bool
small [] = true
small (y ∷ ys) = and (ltb y 128) (small ys)

below_by : (y x : ℕ) (b c : Bool) → eqb x y ≡ b → ltb y 128 ≡ true → (c ≡ true → x < 128) → or b c ≡ true → x < 128
below_by y x true c e h f g =
    let z : x ≡ y = eqb-true x y e in
    let w : y < 128 = ltb-true y 128 h in
    omega arith
below_by y x false c e h f g = f g

below : (l : List ℕ) (x : ℕ) → small l ≡ true → among l x ≡ true → x < 128
below [] x h e = never e
below (y ∷ ys) x h e =
    let g = and_true (ltb y 128) (small ys) h in
    below_by y x (eqb x y) (among ys x) refl g.0 (λ f. below ys x g.1 f) e

-- a token of one byte is ASCII
one_small : (x : ℕ) → eqb (class_of x) 4 ≡ true → x < 128
unfolding class_of
one_small x =
    let P : ℕ → Type 0 = λ c. eqb c 4 ≡ true → x < 128 in
    choose_by P (among blanks x) _ _ (λ e f. never f)
    (λ e. choose_by P (letter x) _ _ (λ e f. never f)
    (λ e. choose_by P (digit x) _ _ (λ e f. never f)
    (λ e. choose_by P (among ones x) _ _ (λ e f. below ones x refl e)
    (λ e. choose_by P (among openers x) _ _ (λ e f. never f) (λ e f. never f)))))

open_did : (q : State) (s a x : ℕ) → Did q s x (open_row a x)
open_did q s a x =
    two q s x (eqb x 34) _ _ (goes q s x (Str 23) a 1 refl)
    (two q s x (eqb x 39) _ _ (goes q s x Chr a 1 refl)
    (two q s x (eqb x 94) _ _ (goes q s x Caret a 1 refl)
    (two q s x (eqb x 35) _ _ (goes q s x Hash a 1 refl)
    (two q s x (eqb x 46) _ _ (goes q s x Dot a 1 refl)
    (two q s x (eqb x 47) _ _ (goes q s x Slash a 1 refl)
    (two q s x (eqb x 45) _ _ (goes q s x Minus a 1 refl) (two q s x (eqb x 13) _ _ (goes q s x Cr a 1 refl) (refuses q s x a))))))))

start_did : (q : State) (s a x : ℕ) → a ≡ s → Did q s x (start_row x a)
unfolding class_row
start_did q s a x e =
    two q s x (eqb (class_of x) 1) _ _ (goes q s x Start (suc a) 0 refl)
    (two q s x (eqb (class_of x) 2) _ _ (two q s x (eqb x 80) _ _ (goes q s x Push a 1 refl) (goes q s x Word a 1 refl))
    (two q s x (eqb (class_of x) 3) _ _ (goes q s x Num a 1 refl)
    (choose_by (Did q s x) (eqb (class_of x) 4) _ _ (λ f. gives q s x (one_kind x) a (suc a) (one_small x f) (ap suc e))
    (λ f. two q s x (eqb (class_of x) 5) _ _ (open_did q s a x) (refuses q s x a)))))

word_did : (q : State) (s a n x : ℕ) → a + n ≡ s → Did q s x (word_row a n x)
word_did q s a n x e = two q s x (in_word x) _ _ (goes q s x Word a (suc n) refl) (again_at q s x 18 a (a + n) e)

push_did : (q : State) (s a n x : ℕ) → a + n ≡ s → Did q s x (push_row a n x)
unfolding push_row
push_did q s a n x e =
    two q s x (and (ltb n 12) (eqb x (get_or push_literal n 0))) _ _ (goes q s x Push a (suc n) refl)
    (two q s x (ltb n 4) _ _ (word_did q s a n x e)
    (two q s x (and (or (eqb n 4) (eqb n 12)) (not (in_word x))) _ _ (again_at q s x 18 a (a + n) e) (refuses q s x a)))

zeros_did : (q : State) (s a n x : ℕ) → Did q s x (zeros_row a n x)
zeros_did q s a n x = two q s x (is_zero x) _ _ (goes q s x Zeros a (suc n) refl) (two q s x (in_digits x) _ _ (goes q s x Negative a (suc n) refl) (refuses q s x a))

lead_did : (q : State) (s a x : ℕ) → Did q s x (lead_row a x)
unfolding lead_row
lead_did q s a x =
    two q s x (ltb x 0xc2) _ _ (refuses q s x a)
    (two q s x (ltb x 0xe0) _ _ (goes q s x (More T1) a 2 refl)
    (two q s x (eqb x 0xe0) _ _ (goes q s x (More TE0) a 2 refl)
    (two q s x (eqb x 0xed) _ _ (goes q s x (More TED) a 2 refl)
    (two q s x (ltb x 0xf0) _ _ (goes q s x (More T2) a 2 refl)
    (two q s x (eqb x 0xf0) _ _ (goes q s x (More TF0) a 2 refl)
    (two q s x (ltb x 0xf4) _ _ (goes q s x (More T3) a 2 refl) (two q s x (eqb x 0xf4) _ _ (goes q s x (More TF4) a 2 refl) (refuses q s x a))))))))

line_did : (q : State) (s a n x : ℕ) → Did q s x (line_row a n x)
line_did q s a n x = two q s x (eqb x 10) _ _ (goes q s x Start (a + suc n) 0 refl) (goes q s x Line a (suc n) refl)

-- a doc that an LF ends, after which Start is given the LF
doc_lf : (k a n s : ℕ) → a + n ≡ s → give_doc k a (a + n) (a + suc n) ≡ again k a s (start_row 10)
unfolding class_row class_of
doc_lf k a n s e =
    let z : a + suc n ≡ suc s = omega arith in
    rw (e, z)

doc_did : (q : State) (s k a n x : ℕ) → a + n ≡ s → Did q s x (doc_row k a n x)
doc_did q s k a n x e =
    choose_by (Did q s x) (eqb x 10) _ _ (λ f. let z : x ≡ 10 = eqb-true x 10 f in inr (inr (inl (k, a, rw z (doc_lf k a n s e)))))
    (λ f. choose_by (Did q s x) (eqb x 13) _ _ (λ g. inl (refl, λ h. eqb-true x 13 g)) (λ g. goes q s x (Doc k) a (suc n) refl))

com_did : (q : State) (s d a n x : ℕ) → Did q s x (com_row d a n x)
com_did q s d a n x = two q s x (eqb x 42) _ _ (goes q s x (Star d) a n refl) (two q s x (eqb x 47) _ _ (goes q s x (Bar d) a n refl) (goes q s x (Com d) a (suc n) refl))

did : (q : State) (a n s x : ℕ) → a + (n + waiting q) ≡ s → state_fits q n ≡ true → Did q s x (row q a n x)
did Start a n s x e f =
    let z : n ≡ 0 = eqb-true n 0 f in
    start_did Start s a x (omega arith)
did Word a n s x e f = word_did Word s a n x (omega arith)
did Push a n s x e f = push_did Push s a n x (omega arith)
did Num a n s x e f = two Num s x (in_digits x) _ _ (goes Num s x Num a (suc n) refl) (again_at Num s x 20 a (a + n) (omega arith))
did Hash a n s x e f = two Hash s x (starts_word x) _ _ (goes Hash s x Tag a 2 refl) (refuses Hash s x a)
did Tag a n s x e f = two Tag s x (in_word x) _ _ (goes Tag s x Tag a (suc n) refl) (again_at Tag s x 19 a (a + n) (omega arith))
did Dot a n s x e f =
    let z : n ≡ 1 = eqb-true n 1 f in
    choose_by (Did Dot s x) (eqb x 46) _ _ (λ g. let y : x ≡ 46 = eqb-true x 46 g in gives Dot s x 22 a (a + 2) (omega arith) (omega arith)) (λ g. refuses Dot s x a)
did Caret a n s x e f = two Caret s x (eqb x 34) _ _ (goes Caret s x (Str 24) a 2 refl) (refuses Caret s x a)
did Minus a n s x e f = zeros_did Minus s a 1 x
did Zeros a n s x e f = zeros_did Zeros s a n x
did Negative a n s x e f = two Negative s x (in_digits x) _ _ (goes Negative s x Negative a (suc n) refl) (again_at Negative s x 21 a (a + n) (omega arith))
did (Str k) a n s x e f =
    choose_by (Did (Str k) s x) (eqb x 34) _ _ (λ g. let y : x ≡ 34 = eqb-true x 34 g in gives (Str k) s x k a (a + suc n) (omega arith) (omega arith))
    (λ g. two (Str k) s x (eqb x 92) _ _ (goes (Str k) s x (Esc (Text k) n) a (suc n) refl) (goes (Str k) s x (Str k) a (suc n) refl))
did (Esc l b) a n s x e f =
    two (Esc l b) s x (is_number (simple_of x)) _ _ (back_did (Esc l b) s x l a (suc n))
    (two (Esc l b) s x (eqb x 120) _ _ (goes (Esc l b) s x (X0 l b) a (suc n) refl) (two (Esc l b) s x (eqb x 117) _ _ (goes (Esc l b) s x (U l b) a (suc n) refl) (refuses (Esc l b) s x (a + b))))
did (X0 l b) a n s x e f = two (X0 l b) s x (is_hex x) _ _ (goes (X0 l b) s x (X1 l b) a (suc n) refl) (refuses (X0 l b) s x (a + b))
did (X1 l b) a n s x e f = two (X1 l b) s x (is_hex x) _ _ (back_did (X1 l b) s x l a (suc n)) (refuses (X1 l b) s x (a + b))
did (U l b) a n s x e f = two (U l b) s x (eqb x 123) _ _ (goes (U l b) s x (Un l b 0) a (suc n) refl) (refuses (U l b) s x (a + b))
did (Un l b j) a n s x e f =
    two (Un l b j) s x (and (ltb j 6) (is_hex x)) _ _ (goes (Un l b j) s x (Un l b (suc j)) a (suc n) refl)
    (two (Un l b j) s x (and (leb 2 j) (eqb x 125)) _ _ (back_did (Un l b j) s x l a (suc n)) (refuses (Un l b j) s x (a + b)))
did Chr a n s x e f = two Chr s x (eqb x 92) _ _ (goes Chr s x (Esc One 1) a 2 refl) (two Chr s x (ltb x 0x80) _ _ (goes Chr s x Quote a 2 refl) (lead_did Chr s a x))
did (More t) a n s x e f = two (More t) s x (tail_ok t x) _ _ (tail_did (More t) s x t a (suc n)) (refuses (More t) s x a)
did Quote a n s x e f =
    choose_by (Did Quote s x) (eqb x 39) _ _ (λ g. let y : x ≡ 39 = eqb-true x 39 g in gives Quote s x 25 a (a + suc n) (omega arith) (omega arith)) (λ g. refuses Quote s x a)
did Slash a n s x e f = two Slash s x (eqb x 47) _ _ (goes Slash s x Slash2 a 2 refl) (two Slash s x (eqb x 42) _ _ (goes Slash s x (Com 1) a 2 refl) (refuses Slash s x a))
did Slash2 a n s x e f = two Slash2 s x (eqb x 47) _ _ (goes Slash2 s x (Doc 27) a 3 refl) (two Slash2 s x (eqb x 33) _ _ (goes Slash2 s x (Doc 26) a 3 refl) (line_did Slash2 s a 2 x))
did Line a n s x e f = line_did Line s a n x
did (Doc k) a n s x e f = doc_did (Doc k) s k a n x (omega arith)
did (DocCr k) a n s x e f =
    let y : a + (n + 2) ≡ suc s = omega arith in
    choose_by (Did (DocCr k) s x) (eqb x 10) _ _ (λ g. inr (inr (inr (refl, eqb-true x 10 g, k, a, a + n, omega arith, ap (give_doc k a (a + n)) y)))) (λ g. doc_did (DocCr k) s k a (suc n) x (omega arith))
did Cr a n s x e f = two Cr s x (eqb x 10) _ _ (goes Cr s x Start (a + 2) 0 refl) (refuses Cr s x a)
did (Com d) a n s x e f = com_did (Com d) s d a n x
did (Star d) a n s x e f = two (Star d) s x (eqb x 47) _ _ (two (Star d) s x (leb d 1) _ _ (goes (Star d) s x Start (a + (n + 2)) 0 refl) (goes (Star d) s x (Com (d - 1)) a (n + 2) refl)) (com_did (Star d) s d a (suc n) x)
did (Bar d) a n s x e f = two (Bar d) s x (eqb x 42) _ _ (goes (Bar d) s x (Com (d + 1)) a (n + 2) refl) (com_did (Bar d) s d a (suc n) x)
did Refused a n s x e f = refuses Refused s x a

empty : {A : Type 0} {t : Tok} {ts : List Tok} → [] ≡ t ∷ ts → A
empty e = let z : ◌≡◌ {A = ℕ} 0 1 = cc in absurd (omega arith)

-- a token that stands when the text ends reaches up to there
end_at : (q : State) (a n k b e : ℕ) (ts : List Tok) → (end_row q a n).list ≡ tok k b e ∷ ts → e ≡ a + (n + waiting q)
end_at Start a n k b e ts h = empty h
end_at Word a n k b e ts h = let z : a + n ≡ e = cc in omega arith
end_at Push a n k b e ts h = choose_by (λ (r : Tokens). r.list ≡ tok k b e ∷ ts → e ≡ a + (n + 0)) (or (ltb n 5) (eqb n 12)) _ _ (λ f g. let z : a + n ≡ e = cc in omega arith) (λ f g. empty g) h
end_at Num a n k b e ts h = let z : a + n ≡ e = cc in omega arith
end_at Hash a n k b e ts h = empty h
end_at Tag a n k b e ts h = let z : a + n ≡ e = cc in omega arith
end_at Dot a n k b e ts h = empty h
end_at Caret a n k b e ts h = empty h
end_at Minus a n k b e ts h = empty h
end_at Zeros a n k b e ts h = empty h
end_at Negative a n k b e ts h = let z : a + n ≡ e = cc in omega arith
end_at (Str t) a n k b e ts h = empty h
end_at (Esc l c) a n k b e ts h = empty h
end_at (X0 l c) a n k b e ts h = empty h
end_at (X1 l c) a n k b e ts h = empty h
end_at (U l c) a n k b e ts h = empty h
end_at (Un l c j) a n k b e ts h = empty h
end_at Chr a n k b e ts h = empty h
end_at (More t) a n k b e ts h = empty h
end_at Quote a n k b e ts h = empty h
end_at Slash a n k b e ts h = empty h
end_at Slash2 a n k b e ts h = empty h
end_at Line a n k b e ts h = empty h
end_at (Doc t) a n k b e ts h = let z : a + n ≡ e = cc in omega arith
end_at (DocCr t) a n k b e ts h = let z : a + suc n ≡ e = cc in omega arith
end_at Cr a n k b e ts h = empty h
end_at (Com d) a n k b e ts h = empty h
end_at (Star d) a n k b e ts h = empty h
end_at (Bar d) a n k b e ts h = empty h
end_at Refused a n k b e ts h = empty h

-- ---- UTF-8: an ASCII byte comes between characters, or breaks one

bad : {A : Type 0} {p : ℕ} → Some p ≡ None → A
bad e = let z : ◌≡◌ {A = ℕ} 0 1 = cc in absurd (omega arith)

tail_high : (t : Tail) (x : ℕ) → x < 128 → tail_ok t x ≡ false
tail_high T1 x h = within_low 0x80 0xbf x h
tail_high T2 x h = within_low 0x80 0xbf x h
tail_high T3 x h = within_low 0x80 0xbf x h
tail_high TE0 x h = within_low 0xa0 0xbf x (omega arith)
tail_high TED x h = within_low 0x80 0x9f x h
tail_high TF0 x h = within_low 0x90 0xbf x (omega arith)
tail_high TF4 x h = within_low 0x80 0x8f x h

pub ascii_next : (u : Utf) (a x : ℕ) → x < 128 → broken_at (utf_step u a x) ≡ None → (u ≡ Whole) × (utf_step u a x ≡ Whole)
unfolding utf_lead
ascii_next Whole a x h g = (refl, rw (lt-ltb x 128 h))
ascii_next (Mid t s) a x h g = let z : Some s ≡ None = rw (tail_high t x h) at g in bad z
ascii_next (Broke p) a x h g = bad g

-- what isn't broken later isn't now
pub still : (xs : List ℕ) (u : Utf) (a : ℕ) → broken_at (utf_feed u a xs) ≡ None → broken_at u ≡ None
still xs Whole a g = refl
still xs (Mid t s) a g = refl
still xs (Broke p) a g = let z : Some p ≡ None = rw (stays p a xs) at g in bad z

-- ---- a byte before the end, at it, and behind it

not_refused : (c : Conf) (xs : List ℕ) (t : Tok) (ts : List Tok) → (left c xs).list ≡ t ∷ ts → refused_at c ≡ None
unfolding refused_at
not_refused c xs t ts h =
    choose_by (λ (k : Option ℕ). k ≡ None) (eqb (code_of c.state) refused_code) _ _
    (λ e. let z : [] ≡ t ∷ ts = rw (code_refused c.state e) at h in empty z)
    (λ e. refl)

same_unless : (ts : List Tok) (n : ℕ) (k : Option ℕ) (f g : Unit {0} → Step) → f tt ≡ given ts (g tt) → unless n k f ≡ given ts (unless n k g)
same_unless ts n None f g e = e
same_unless ts n (Some p) f g e = refl

module _ (room : ℕ) where
  goes_on : (c : Stand) (x : ℕ) (u : Utf) (o : Out) → utf_step c.utf c.seen x ≡ u → step c.conf x ≡ o → suc c.seen ≤ max_text → broken_at u ≡ None → refused_at o.next ≡ None
      → over_at room c.count o.gives ≡ None → step_of room c x ≡ Goes o.gives (moved_to c u o)
  unfolding step_of long_at
  goes_on c x u o e f h b r v = rw (e, f, le-ltb max_text (suc c.seen) h, b, r, v)

  -- a byte that ends a token
  give_step : (c : Stand) (x k a b : ℕ) → step c.conf x ≡ give_doc k a b (suc c.seen) → x < 128 → suc c.seen ≤ max_text → broken_at (utf_step c.utf c.seen x) ≡ None → c.count < room
      → step_of room c x ≡ Goes (tok k a b ∷ []) (start_at (suc c.seen) (suc c.count))
  unfolding refused_at over_at
  give_step c x k a b e h s g l =
      let v : over_at room c.count (tok k a b ∷ []) ≡ None = rw (lt-ltb c.count room l) in
      goes_on c x Whole (give_doc k a b (suc c.seen)) (ascii_next c.utf c.seen x h g).1 e s refl refl v ∙ ap (λ (n : ℕ). Goes (tok k a b ∷ []) (start_at (suc c.seen) n)) (add-one c.count)

  again_by : (c : Stand) (u : Utf) (o : Out) (k a : ℕ) → c.count < room
      → step_by room c u (again k a c.seen (λ b. o)) ≡ given (tok k a c.seen ∷ []) (step_by room (start_at c.seen (suc c.count)) u o)
  unfolding over_at
  again_by c u o k a l =
      let ts : List Tok = tok k a c.seen ∷ [] in
      let z : c.count + suc (length o.gives) ≡ suc c.count + length o.gives = omega arith in
      rw (lt-ltb c.count room l)
      (same_unless ts 1 (long_at (suc c.seen)) _ _
      (same_unless ts 2 (broken_at u) _ _
      (same_unless ts 3 (refused_at o.next) _ _
      (same_unless ts 14 (over_at room (suc c.count) o.gives) _ _ (rw z)))))

  -- a byte behind a token, which Start is given
  again_step : (c : Stand) (x k a : ℕ) → c.utf ≡ Whole → step c.conf x ≡ again k a c.seen (start_row x) → c.count < room
      → step_of room c x ≡ given (tok k a c.seen ∷ []) (step_of room (start_at c.seen (suc c.count)) x)
  unfolding step_of
  again_step c x k a u e l =
      ap (λ (v : Utf). step_by room c (utf_step v c.seen x) (step c.conf x)) u
      ∙ ap (step_by room c (utf_lead c.seen x)) e
      ∙ again_by c (utf_lead c.seen x) (start_row x c.seen) k a l

  -- a line's end of two bytes, outside tokens
  crlf : (p n : ℕ) (ys : List ℕ) → suc (suc p) ≤ max_text → ran_of room (start_at p n) (13 ∷ 10 ∷ ys) ≡ ran_of room (start_at (suc (suc p)) n) ys
  unfolding ran_of refused_at over_at class_row class_of utf_lead
  crlf p n ys h =
      let c : Stand = record { conf = record { state = Cr; start = p; size = 1 }; utf = Whole; seen = suc p; count = n + 0 } in
      let z : p + 2 ≡ suc (suc p) = omega arith in
      let a : step_of room (start_at p n) 13 ≡ Goes [] c = goes_on (start_at p n) 13 Whole (go Cr p 1) refl refl (omega arith) refl refl refl in
      let b : step_of room c 10 ≡ Goes [] (start_at (suc (suc p)) n) = goes_on c 10 Whole (go Start (p + 2) 0) refl refl h refl refl refl ∙ rw (z, add-zero n, add-zero n) in
      rw (a, b) (sym (loop_starts (given [] (ran_of room (start_at (suc (suc p)) n) ys))) ∙ sym (loop_starts (ran_of room (start_at (suc (suc p)) n) ys)))

  -- ---- up to the first token that is still to come

  -- after a byte that gives nothing
  abbrev quietly : Stand → ℕ → Stand
  quietly c x = record { conf = (step c.conf x).next; utf = utf_step c.utf c.seen x; seen = suc c.seen; count = c.count }

  module _ (k b e : ℕ) where
    abbrev pub one : List Tok
    one = tok k b e ∷ []

    -- the token ends m bytes further on, or before the CR that came last
    abbrev pub Leaps : Stand → List ℕ → Type 0
    Leaps c xs = (m : ℕ) × (e ≡ c.seen + m) × (get_or xs m 0 < 128 → ran_of room c xs ≡ given one (ran_of room (start_at e (suc c.count)) (drop m xs)))

    abbrev pub Closes : Stand → List ℕ → Type 0
    Closes c xs = (is_cr c.conf.state ≡ true) × (c.seen ≡ suc e) × (ys : List ℕ) × (xs ≡ 10 ∷ ys) × (ran_of room c xs ≡ given one (ran_of room (start_at (suc c.seen) (suc c.count)) ys))

    module _ (c : Stand) (x : ℕ) (xs : List ℕ) (ts : List Tok) (sound : Coherent c) (long : suc (c.seen + length xs) ≤ max_text) (space : c.count < room) (clean : broken_at (utf_step c.utf c.seen x) ≡ None)
        (list : (step c.conf x).gives ++ (left (step c.conf x).next xs).list ≡ tok k b e ∷ ts) where
      abbrev o : Out
      o = step c.conf x

      abbrev d : Stand
      d = quietly c x

      short : suc c.seen ≤ max_text
      short = omega arith

      module _ (g : o.gives ≡ []) where
        rest : (left o.next xs).list ≡ tok k b e ∷ ts
        rest = rw g at list

        quiet_step : step_of room c x ≡ Goes [] d
        unfolding over_at
        quiet_step =
            let v : over_at room c.count o.gives ≡ None = rw g in
            let z : c.count + length o.gives ≡ c.count = rw (g, add-zero c.count) in
            goes_on c x (utf_step c.utf c.seen x) o refl refl short clean (not_refused o.next xs (tok k b e) ts rest) v
            ∙ ap (λ (us : List Tok). Goes us (moved_to c (utf_step c.utf c.seen x) o)) g
            ∙ ap (λ (n : ℕ). Goes [] (record { conf = o.next; utf = utf_step c.utf c.seen x; seen = suc c.seen; count = n })) z

        quiet_sound : Coherent d
        quiet_sound = step_sound room c x [] d sound (sym quiet_step)

        quiet_ran : ran_of room c (x ∷ xs) ≡ ran_of room d xs
        unfolding ran_of
        quiet_ran = ap (λ (z : Step). followed z (λ f. ran_of room f xs)) quiet_step ∙ sym (loop_starts (ran_of room d xs))

        goes_leaps : (is_cr o.next.state ≡ true → x ≡ 13) → Leaps d xs ⊎ Closes d xs → Leaps c (x ∷ xs) ⊎ Closes c (x ∷ xs)
        goes_leaps cr (inl h) =
            let z : e ≡ suc c.seen + h.0 = h.1 in
            inl (suc h.0, omega arith, λ y. quiet_ran ∙ h.2 y)
        goes_leaps cr (inr h) =
            let z : suc c.seen ≡ suc e = h.1 in
            let w : c.seen ≡ e = omega arith in
            let l : suc (length h.2) ≡ length xs = sym (ap length h.3) in
            let q : suc (suc e) ≤ max_text = omega arith in
            let r : ran_of room (start_at e (suc c.count)) (x ∷ xs) ≡ ran_of room (start_at (suc (suc e)) (suc c.count)) h.2 = rw (cr h.0, h.3) (crlf e (suc c.count) h.2 q) in
            inl (0, omega arith, λ y. quiet_ran ∙ h.4 ∙ ap (λ (n : ℕ). given one (ran_of room (start_at (suc n) (suc c.count)) h.2)) z ∙ ap (given one) (sym r))

      gave_leaps : Gave c.seen x o → Leaps c (x ∷ xs) ⊎ Closes c (x ∷ xs)
      unfolding ran_of
      gave_leaps p =
          let h : x < 128 = p.0 in
          let t : ℕ = p.1 in
          let a : ℕ = p.2 in
          let f : o ≡ give t a (suc c.seen) = p.3 in
          let l : tok t a (suc c.seen) ∷ (left o.next xs).list ≡ tok k b e ∷ ts = ap (λ (u : Out). u.gives ++ (left o.next xs).list) (sym f) ∙ list in
          let w : suc c.seen ≡ e = cc in
          let v : tok t a (suc c.seen) ∷ [] ≡ one = cc in
          inl (
            1,
            omega arith,
            λ y.
                ap (λ (z : Step). followed z (λ f. ran_of room f xs)) (give_step c x t a (suc c.seen) f h short clean space)
                ∙ ap (λ (us : List Tok). given us (ran_of room (start_at (suc c.seen) (suc c.count)) xs)) v
                ∙ ap (λ (n : ℕ). given one (ran_of room (start_at n (suc c.count)) xs)) w,
          )

      again_leaps : Again c.seen x o → Leaps c (x ∷ xs) ⊎ Closes c (x ∷ xs)
      unfolding ran_of
      again_leaps p =
          let t : ℕ = p.0 in
          let a : ℕ = p.1 in
          let f : o ≡ again t a c.seen (start_row x) = p.2 in
          let l : tok t a c.seen ∷ ((start_row x c.seen).gives ++ (left o.next xs).list) ≡ tok k b e ∷ ts = ap (λ (u : Out). u.gives ++ (left o.next xs).list) (sym f) ∙ list in
          let w : c.seen ≡ e = cc in
          let v : tok t a c.seen ∷ [] ≡ one = cc in
          inl (
            0,
            omega arith,
            λ y.
                ap (λ (z : Step). followed z (λ f. ran_of room f xs)) (again_step c x t a (ascii_next c.utf c.seen x y clean).0 f space)
                ∙ followed_given (tok t a c.seen ∷ []) (step_of room (start_at c.seen (suc c.count)) x) (λ f. ran_of room f xs)
                ∙ ap (λ (us : List Tok). given us (ran_of room (start_at c.seen (suc c.count)) (x ∷ xs))) v
                ∙ ap (λ (n : ℕ). given one (ran_of room (start_at n (suc c.count)) (x ∷ xs))) w,
          )

      doc_leaps : DocEnd c.conf.state c.seen x o → Leaps c (x ∷ xs) ⊎ Closes c (x ∷ xs)
      unfolding ran_of
      doc_leaps p =
          let lf : x ≡ 10 = p.1 in
          let t : ℕ = p.2 in
          let a : ℕ = p.3 in
          let i : ℕ = p.4 in
          let f : o ≡ give_doc t a i (suc c.seen) = p.6 in
          let l : tok t a i ∷ (left o.next xs).list ≡ tok k b e ∷ ts = ap (λ (u : Out). u.gives ++ (left o.next xs).list) (sym f) ∙ list in
          let w : i ≡ e = cc in
          let v : tok t a i ∷ [] ≡ one = cc in
          let h : x < 128 = omega arith in
          inr (
            p.0,
            p.5 ∙ ap suc w,
            xs,
            ap (λ (y : ℕ). y ∷ xs) lf,
            ap (λ (z : Step). followed z (λ f. ran_of room f xs)) (give_step c x t a i f h short clean space)
                ∙ ap (λ (us : List Tok). given us (ran_of room (start_at (suc c.seen) (suc c.count)) xs)) v,
          )

      leaps_by : ((g : o.gives ≡ []) → Leaps d xs ⊎ Closes d xs) → Did c.conf.state c.seen x o → Leaps c (x ∷ xs) ⊎ Closes c (x ∷ xs)
      leaps_by more (inl p) = goes_leaps p.0 p.1 (more p.0)
      leaps_by more (inr (inl p)) = gave_leaps p
      leaps_by more (inr (inr (inl p))) = again_leaps p
      leaps_by more (inr (inr (inr p))) = doc_leaps p

    pub leaps : (xs : List ℕ) (c : Stand) (ts : List Tok) → Coherent c → c.seen + length xs ≤ max_text → c.count < room → broken_at (utf_feed c.utf c.seen xs) ≡ None → suc e < c.seen + length xs
        → (left c.conf xs).list ≡ tok k b e ∷ ts → Leaps c xs ⊎ Closes c xs
    unfolding utf_feed
    leaps [] c ts s l r n h g =
        let z : e ≡ c.conf.start + (c.conf.size + waiting c.conf.state) = end_at c.conf.state c.conf.start c.conf.size k b e ts (ap (λ (t : Tokens). t.list) (sym (end_law c.conf.state c.conf.start c.conf.size)) ∙ g) in
        absurd (omega (arith, s.sum))
    leaps (x ∷ xs) c ts s l r n h g =
        let list : (step c.conf x).gives ++ (left (step c.conf x).next xs).list ≡ tok k b e ∷ ts = ap (λ (t : Tokens). t.list) (sym (row_law c.conf.state c.conf.start c.conf.size x xs)) ∙ g in
        let clean : broken_at (utf_step c.utf c.seen x) ≡ None = still xs (utf_step c.utf c.seen x) (suc c.seen) n in
        let long : suc (c.seen + length xs) ≤ max_text = omega arith in
        leaps_by c x xs ts s long r clean list
        (λ f. leaps xs (quietly c x) ts (quiet_sound c x xs ts s long r clean list f) (omega arith) r n (omega arith) (rest c x xs ts s long r clean list f))
        (did c.conf.state c.conf.start c.conf.size c.seen x s.sum s.state)
