-- What is shown lies in the output: the printed text as its report says, the refusal's line as it was put.
use Rattle.std.specs.Prelude.{ℕ, Option, Some, None, Result, Ok, Err}
use Prim.Native.Nat.{ℕ, ◌≤◌}
use mathlib.Core.Path.{◌≡◌, refl, sym, subst, ◌∙◌}
use mathlib.Core.Bool.{Bool, true, false}
use mathlib.Core.List.{List}
use native.Mathlib.Omega.{arith}
use lib.Dec.{leb, eqb}
use lib.ListN.{length}
use borrow.Author.Tests.{leb-true}
use Rattle.text.specs.Booleans.{choose}
use Rattle.table.specs.Tree.{rules_stored}
use Rattle.table.specs.declared.TableError.{TableError}
use Rattle.table.specs.Flat.{nodes_of, records_of}
use Rattle.table.specs.Check.{tables}
use Rattle.structure.specs.declared.Level.TheVariants.{Tagged}
use Rattle.reader.specs.Lines.{line_in}
use Rattle.build.specs.Rules.{rules_read}
use Rattle.forms.specs.declared.Style.{Style}
use Rattle.printer.specs.Answers as Printer
use Rattle.show.specs.declared.Answer.{Answer}
use Rattle.show.specs.declared.Shown.{Shown}
use Rattle.show.specs.declared.Shown.TheVariants.{Text, Refused}
use Rattle.rows.specs.Line.{refusal_line, refusal_put, refusal_in}
use Rattle.show.specs.Shown.{Fits, refused_by}
use Rattle.show.specs.Desk.{reading, printing, printed, answer_of, answer_in, shown_by, desk_of, left_by, desk_in}

-- ---- the desk, by its answer

pub text_shown : (style : Style) (s o : List ℕ) {x : Answer} {n : ℕ} {o' : List ℕ} → x ≡ answer_of style s (length o) → o' ≡ answer_in style s o x → x ≡ Answer.Printed n
    → (Text n ≡ desk_of style s (length o)) × (o' ≡ desk_in style s o)
unfolding answer_in shown_by desk_of left_by desk_in
text_shown style s o {x} {n} e f g =
    let h : answer_of style s (length o) ≡ Answer.Printed n = sym e ∙ g in
    (rw h, f ∙ rw (g, h))

pub line_shown : (style : Style) (s o : List ℕ) {x : Answer} {n p : ℕ} {o' o'' : List ℕ} {r : Option ℕ} {t : Shown} → x ≡ answer_of style s (length o) → o' ≡ answer_in style s o x
    → x ≡ Answer.Refused n p → r ≡ refusal_put n p (length o') → o'' ≡ refusal_in n p o' r → t ≡ refused_by r
    → (t ≡ desk_of style s (length o)) × (o'' ≡ desk_in style s o)
unfolding answer_in shown_by desk_of left_by desk_in
line_shown style s o {x} {n} {p} {o'} e f g a b d =
    let h : answer_of style s (length o) ≡ Answer.Refused n p = sym e ∙ g in
    let k : o' ≡ o = f ∙ rw g in
    (d ∙ rw (a, k, h), b ∙ rw (a, k, h))

-- ---- what is shown fits

pub text_fits : {x : Shown} {n k : ℕ} → x ≡ Text n → Fits x k → n ≤ k
text_fits {k = k} e h = subst (λ (y : Shown). Fits y k) e h

pub line_fits : {x : Shown} {n k : ℕ} → x ≡ Refused n → Fits x k → n ≤ k
line_fits {k = k} e h = subst (λ (y : Shown). Fits y k) e h

by_tables : (x : Result (Unit {0}) TableError) (f : Unit {0} → Printer.Numbered) (n : ℕ) → (f tt).used ≤ n → (Printer.report_by x f).used ≤ n
by_tables (Ok _) f n h = h
by_tables (Err TableError.Shape) f n h = omega arith
by_tables (Err (TableError.Node i)) f n h = omega arith
by_tables (Err (TableError.Rule i)) f n h = omega arith

room_fits : (b : Bool) (k n : ℕ) → (b ≡ true → k ≤ n) → (choose {A = Printer.Numbered} b (λ u. record { number = 0; place = 0; used = k }) (λ u. record { number = 23; place = 0; used = 0 })).used ≤ n
room_fits true k n h = h refl
room_fits false k n h = omega arith

used_fits : (style : Style) (s : List ℕ) (n : ℕ) → (printing style s n).used ≤ n
unfolding printing Printer.reported
used_fits style s n =
    let us = rules_read Tagged s in
    let ns = nodes_of (line_in s) us in
    by_tables (tables ns (records_of us) (rules_stored us)) _ n
    (room_fits (leb (length (Printer.table_text style ns (records_of us) (rules_stored us))) n) _ n (leb-true _ n))

put_fits : (b : Bool) (k n : ℕ) → (b ≡ true → k ≤ n) → Fits (refused_by (choose b (λ u. Some k) (λ u. None))) n
unfolding refused_by
put_fits true k n h = h refl
put_fits false k n h = tt

refusal_fits : (n p m : ℕ) → Fits (refused_by (refusal_put n p m)) m
unfolding refusal_put
refusal_fits n p m = put_fits (leb (length (refusal_line n p)) m) (length (refusal_line n p)) m (leb-true _ m)

-- a printed text fits, and a refusal's line always
by_either : (b : Bool) (x y : Unit {0} → Answer) (m : ℕ) → Fits (shown_by (x tt) m) m → Fits (shown_by (y tt) m) m → Fits (shown_by (choose b x y) m) m
by_either true x y m h g = h
by_either false x y m h g = g

pub desk_fits : (style : Style) (s : List ℕ) (m : ℕ) → Fits (desk_of style s m) m
unfolding desk_of answer_of printed shown_by
desk_fits style s m =
    by_either (eqb (reading s).number 0) _ _ m
    (by_either (eqb (printing style s m).number 0) _ _ m (used_fits style s m) (refusal_fits _ _ m)) (refusal_fits _ _ m)

-- and still does after the call
pub fits_after : (style : Style) (s : List ℕ) {x : Shown} (k : ℕ) (o : List ℕ) → x ≡ desk_of style s k → length o ≡ k → Fits x (length o)
fits_after style s k o e h = rw (e, h) (desk_fits style s k)
