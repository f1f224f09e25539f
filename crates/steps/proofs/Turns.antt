-- Rows in the words of the code.
use Rattle.std.specs.Prelude.{Some}
use Prim.Native.Nat.{ℕ, ◌+◌}
use mathlib.Core.Path.{◌≡◌, refl, sym, ap, ◌∙◌}
use mathlib.Core.Bool.{Bool, true, false}
use lib.Dec.{ltb, eqb}
use Rattle.text.specs.Booleans.{choose}
use Rattle.text.specs.Classes.{class_of}
use Rattle.states.specs.declared.State.TheVariants.{Quote, More}
use Rattle.states.specs.declared.Utf.{Utf}
use Rattle.states.specs.declared.Utf.TheVariants.{Whole, Mid, Broke}
use Rattle.states.specs.Machine.{Out, go, refuse, again, lead_row, chr_row, start_row, class_row}
use Rattle.states.specs.Utf.{utf_lead}
use Rattle.steps.specs.Shapes.{out_of, row_by}

-- Start gives one token at most
abbrev OneAt : Out → Type 0
OneAt o = out_of (row_by o) ≡ o

one_two : (b : Bool) (f g : Unit {0} → Out) → OneAt (f tt) → OneAt (g tt) → OneAt (choose b f g)
one_two true f g y n = y
one_two false f g y n = n

pub start_one : (x a : ℕ) → out_of (row_by (start_row x a)) ≡ start_row x a
unfolding class_row
start_one x a =
    one_two (eqb (class_of x) 1) _ _ refl
    (one_two (eqb (class_of x) 2) _ _ (one_two (eqb x 80) _ _ refl refl)
    (one_two (eqb (class_of x) 3) _ _ refl
    (one_two (eqb (class_of x) 4) _ _ refl
    (one_two (eqb (class_of x) 5) _ _
    (one_two (eqb x 34) _ _ refl
    (one_two (eqb x 39) _ _ refl
    (one_two (eqb x 94) _ _ refl
    (one_two (eqb x 35) _ _ refl
    (one_two (eqb x 46) _ _ refl
    (one_two (eqb x 47) _ _ refl
    (one_two (eqb x 45) _ _ refl (one_two (eqb x 13) _ _ refl refl)))))))) refl))))

-- a token, and then what Start gives
pub again_one : (k a n x : ℕ) → out_of (record { before = Some (k, a, a + n); here = (row_by (start_row x (a + n))).here; conf = (row_by (start_row x (a + n))).conf }) ≡ again k a (a + n) (start_row x)
again_one k a n x = ap (λ (o : Out). again k a (a + n) (λ c. o)) (start_one x (a + n))

-- the byte behind `'`, by UTF-8's machine
abbrev pub char_by : ℕ → Utf → Out
char_by a Whole = go Quote a 2
char_by a (Mid t s) = go (More t) a 2
char_by a (Broke p) = refuse a

char_two : (a : ℕ) (b : Bool) (f g : Unit {0} → Out) (h k : Unit {0} → Utf) → f tt ≡ char_by a (h tt) → g tt ≡ char_by a (k tt) → choose b f g ≡ char_by a (choose b h k)
char_two a true f g h k y n = y
char_two a false f g h k y n = n

chr_lead : (a x : ℕ) → choose (ltb x 0x80) (λ u. go Quote a 2) (λ u. lead_row a x) ≡ char_by a (utf_lead a x)
unfolding lead_row utf_lead
chr_lead a x =
    char_two a (ltb x 0x80) _ _ _ _ refl
    (char_two a (ltb x 0xc2) _ _ _ _ refl
    (char_two a (ltb x 0xe0) _ _ _ _ refl
    (char_two a (eqb x 0xe0) _ _ _ _ refl
    (char_two a (eqb x 0xed) _ _ _ _ refl
    (char_two a (ltb x 0xf0) _ _ _ _ refl
    (char_two a (eqb x 0xf0) _ _ _ _ refl
    (char_two a (ltb x 0xf4) _ _ _ _ refl (char_two a (eqb x 0xf4) _ _ _ _ refl refl))))))))

pub chr_else : (a x : ℕ) (u : Utf) → eqb x 92 ≡ false → u ≡ utf_lead a x → char_by a u ≡ chr_row a x
chr_else a x u e f = rw e (ap (char_by a) f ∙ sym (chr_lead a x))
