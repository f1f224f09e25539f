-- A printed text is UTF-8, in either style, for all rules that are fine: it is made of bytes below 128, of words and decimals, and of literals.
use Rattle.std.specs.Prelude.{ℕ, Option, Some, None, Result, Ok, Err}
use Prim.Native.Nat.{ℕ, zero, suc, ◌-◌}
use mathlib.Core.Path.{◌≡◌, refl}
use mathlib.Core.Bool.{Bool, true, false}
use mathlib.Core.List.{List, [], ◌∷◌, ◌++◌}
use native.Mathlib.Omega.{arith}
use lib.Dec.{leb, ltb, eqb}
use lib.ListN.{length, take}
use lib.Seq.{take-append_seam}
use borrow.Author.Tests.{ltb-true, eqb-true}
use Rattle.text.specs.Booleans.{or, and, among, within, all}
use Rattle.text.specs.Classes.{blanks, letter, digit, ones, openers, class_of}
use Rattle.text.specs.Words.{starts_word, in_word, is_word}
use Rattle.text.specs.Utf8.{scalar, encoded, seq_look, first_bad}
use Rattle.text.specs.Digits.{decimal}
use Rattle.text.specs.Splice.{fronted}
use Rattle.text.proofs.Tests.{within_is}
use Rattle.text.proofs.Booleans.{and_true, choose_by, split, or_by, or_second}
use Rattle.literal.specs.Escapes.{simple_of}
use Rattle.literal.specs.Literals.{inside, literal}
use Rattle.literal.proofs.Escaped.{Each, Ascii}
use Rattle.literal.proofs.Pieces.{Over, over_none, over_append, over_good, over_char, over_ascii, chars_by}
use Rattle.literal.proofs.Back.{inside_utf8}
use Rattle.token.specs.Blanks.{in_digits}
use Rattle.token.proofs.Printed.{decimal_digits}
use Rattle.table.specs.declared.TableError.{TableError}
use Rattle.table.specs.declared.Join.{Join}
use Rattle.table.specs.declared.Join.TheVariants.{Seq, Choice}
use Rattle.table.specs.declared.Unary.TheVariants.{PosPred, NegPred, Opt, Rep, RepOnce, RepExact, RepMin, RepMax, RepMinMax, Push}
use Rattle.table.specs.declared.Sort.{Sort}
use Rattle.table.specs.declared.Sort.TheVariants.{Str, Insens, Ident, PushLiteral}
use Rattle.table.specs.Tree.{Atom, text, range, peek_slice, Wrap, plain, node_tag, Tree, leaf, one, two, Rule}
use Rattle.table.specs.Record.{rules_of}
use Rattle.table.specs.Check.{is_name, fine_text, fine_atom, fine_wrap, fine, fine_rule, fine_rules, tables}
use Rattle.table.proofs.Texts.{utf8_is}
use Rattle.table.proofs.Tables.{tables_valid, valid_fine}
use Rattle.forms.specs.declared.Style.{Style}
use Rattle.forms.specs.declared.Place.{Place}
use Rattle.forms.specs.declared.Place.TheVariants.{Alone}
use Rattle.forms.specs.Printing.{enclosed, character, signed, end_text, sort_text, range_text, slice_text, atom_text, tag_text, before, after, separator, printed, mark_text, printed_rule, printed_rules}
use Rattle.forms.proofs.Displays.{character_literal}
use Rattle.printer.specs.Answers.{table_text, answer_by, room_of, print_of, print_in}
use Rattle.promises.proofs.Values.{name_parts, label_word}

pub no : {A : Type 0} → false ≡ true → A
no e = let z : ◌≡◌ {A = ℕ} 0 1 = cc in absurd (omega arith)

-- ---- bytes that are ASCII

letter_ascii : (x : ℕ) → letter x ≡ true → Ascii x
letter_ascii x e =
    or_by (within 65 90 x) _ e (λ t. omega (arith, (within_is 65 90 x t).high))
    (λ f. or_by (within 97 122 x) _ f (λ t. omega (arith, (within_is 97 122 x t).high)) (λ t. omega (arith, eqb-true x 95 t)))

word_ascii : (x : ℕ) → in_word x ≡ true → Ascii x
unfolding class_of
word_ascii x e₀ =
    let P : ℕ → Type 0 = λ (c : ℕ). or (eqb c 2) (eqb c 3) ≡ true → Ascii x in
    choose_by P (among blanks x) _ _ (λ t e. no e)
    (λ _. choose_by P (letter x) _ _ (λ t e. letter_ascii x t)
    (λ _. choose_by P (digit x) _ _ (λ t e. omega (arith, (within_is 48 57 x t).high))
    (λ _. choose_by P (among ones x) _ _ (λ t e. no e)
    (λ _. choose_by P (among openers x) _ _ (λ t e. no e) (λ _ e. no e))))) e₀

all_ascii : (f : ℕ → Bool) → ((x : ℕ) → f x ≡ true → Ascii x) → (w : List ℕ) → all f w ≡ true → Each Ascii w
unfolding all
all_ascii f h [] e = tt
all_ascii f h (x ∷ w) e = let g = and_true (f x) (all f w) e in (h x g.0, all_ascii f h w g.1)

digit_ascii : (x : ℕ) → in_digits x ≡ true → Ascii x
digit_ascii x e = word_ascii x (or_second (starts_word x) (in_digits x) e)

spelled_ascii : (w : List ℕ) → is_word w ≡ true → Each Ascii w
unfolding is_word
spelled_ascii [] h = no h
spelled_ascii (x ∷ w) h =
    let g = and_true (starts_word x) (all in_word w) h in
    let f : in_word x ≡ true = rw g.0 in
    (word_ascii x f, all_ascii in_word word_ascii w g.1)

-- ---- UTF-8, whatever stands behind it

record Good (x : List ℕ) : Type 0 where
  over : Over seq_look x

good_none : Good []
good_none = record { over = over_none seq_look }

good_then : {x y : List ℕ} → Good x → Good y → Good (x ++ y)
good_then {x} {y} a b = record { over = over_append seq_look x y a.over b.over }

good_text : (x : List ℕ) → first_bad x ≡ None → Good x
good_text x h = record { over = chars_by (λ (l : List ℕ). Over seq_look l) (over_none seq_look) (λ c l g k ih. over_append seq_look (encoded c) l (over_char c g) ih) x h }

good_utf8 : (x : List ℕ) → Good x → first_bad x ≡ None
unfolding first_bad
good_utf8 x g = over_good seq_look x g.over

-- a test that is computed
abbrev low : List ℕ → Bool
low x = all (λ c. ltb c 128) x

good_low : (x : List ℕ) → low x ≡ true → Good x
good_low x e = record { over = over_ascii x (all_ascii (λ c. ltb c 128) (λ c h. ltb-true c 128 h) x e) }

good_word : (w : List ℕ) → is_word w ≡ true → Good w
good_word w h = record { over = over_ascii w (spelled_ascii w h) }

good_decimal : (n : ℕ) → Good (decimal n)
good_decimal n = record { over = over_ascii (decimal n) (all_ascii in_digits digit_ascii (decimal n) (decimal_digits n)) }

good_literal : (q : ℕ) (t : List ℕ) → simple_of q ≡ Some q → low (q ∷ []) ≡ true → first_bad t ≡ None → Good (literal q t)
unfolding literal
good_literal q t w a h = good_then (good_low (q ∷ []) a) (good_then (good_text (inside q t) (inside_utf8 q w t h)) (good_low (q ∷ []) a))

pub encoded_good : (c : ℕ) → scalar c ≡ true → first_bad (encoded c) ≡ None
unfolding first_bad
encoded_good c h = over_good seq_look (encoded c) (over_char c h)

-- ---- leaves

good_signed : (n : ℕ) → Good (signed n)
unfolding signed all
good_signed n = choose_by Good (ltb n 0x8000_0000) _ _ (λ t. good_decimal n) (λ f. good_then (good_low (45 ∷ []) refl) (good_decimal (0x1_0000_0000 - n)))

good_end : (e : Option ℕ) → Good (end_text e)
good_end None = good_none
good_end (Some n) = good_signed n

good_character : (c : ℕ) → scalar c ≡ true → Good (character c)
unfolding simple_of all
good_character c h = rw (character_literal c h) (good_literal 39 (encoded c) refl refl (encoded_good c h))

good_sort : (k : Sort) (b : List ℕ) → fine_text k b ≡ true → Good (sort_text k b)
unfolding sort_text simple_of all
good_sort Str b f = good_literal 34 b refl refl (utf8_is b f)
good_sort Insens b f = good_then (good_low (94 ∷ []) refl) (good_literal 34 b refl refl (utf8_is b f))
good_sort Ident b f = good_word b (name_parts b f).0
good_sort PushLiteral b f =
    good_then (good_low (80 ∷ 85 ∷ 83 ∷ 72 ∷ 95 ∷ 76 ∷ 73 ∷ 84 ∷ 69 ∷ 82 ∷ 65 ∷ 76 ∷ 40 ∷ []) refl)
    (good_then (good_literal 34 b refl refl (utf8_is b f)) (good_low (41 ∷ []) refl))

good_atom : (a : Atom) → fine_atom a ≡ true → Good (atom_text a)
unfolding range_text slice_text all
good_atom (text k b) f = good_sort k b f
good_atom (range x y) f =
    let g = and_true (scalar x) (scalar y) f in
    good_then (good_character x g.0) (good_then (good_low (46 ∷ 46 ∷ []) refl) (good_character y g.1))
good_atom (peek_slice x e) f =
    good_then (good_low (80 ∷ 69 ∷ 69 ∷ 75 ∷ 91 ∷ []) refl)
    (good_then (good_signed x) (good_then (good_low (46 ∷ 46 ∷ []) refl) (good_then (good_end e) (good_low (93 ∷ []) refl))))

-- ---- what stands around children

good_enclosed : (b : Bool) {x : List ℕ} → Good x → Good (enclosed b x)
unfolding enclosed all
good_enclosed true g = good_then (good_low (40 ∷ []) refl) (good_then g (good_low (41 ∷ []) refl))
good_enclosed false g = good_then good_none (good_then g good_none)

good_before : (o : Wrap) → fine_wrap o ≡ true → Good (before o)
unfolding tag_text all
good_before (plain PosPred) f = good_low (38 ∷ []) refl
good_before (plain NegPred) f = good_low (33 ∷ []) refl
good_before (plain Opt) f = good_none
good_before (plain Rep) f = good_none
good_before (plain RepOnce) f = good_none
good_before (plain (RepExact n)) f = good_none
good_before (plain (RepMin n)) f = good_none
good_before (plain (RepMax n)) f = good_none
good_before (plain (RepMinMax n m)) f = good_none
good_before (plain Push) f = good_low (80 ∷ 85 ∷ 83 ∷ 72 ∷ 40 ∷ []) refl
good_before (node_tag b) f = good_then (good_low (35 ∷ []) refl) (good_then (good_word b (label_word b f)) (good_low (32 ∷ 61 ∷ 32 ∷ []) refl))

good_after : (o : Wrap) → Good (after o)
unfolding all
good_after (plain PosPred) = good_none
good_after (plain NegPred) = good_none
good_after (plain Opt) = good_low (63 ∷ []) refl
good_after (plain Rep) = good_low (42 ∷ []) refl
good_after (plain RepOnce) = good_low (43 ∷ []) refl
good_after (plain (RepExact n)) = good_then (good_low (123 ∷ []) refl) (good_then (good_decimal n) (good_low (125 ∷ []) refl))
good_after (plain (RepMin n)) = good_then (good_low (123 ∷ []) refl) (good_then (good_decimal n) (good_low (44 ∷ 125 ∷ []) refl))
good_after (plain (RepMax n)) = good_then (good_low (123 ∷ 44 ∷ []) refl) (good_then (good_decimal n) (good_low (125 ∷ []) refl))
good_after (plain (RepMinMax n m)) =
    good_then (good_low (123 ∷ []) refl)
    (good_then (good_decimal n) (good_then (good_low (44 ∷ 32 ∷ []) refl) (good_then (good_decimal m) (good_low (125 ∷ []) refl))))
good_after (plain Push) = good_low (41 ∷ []) refl
good_after (node_tag b) = good_none

good_separator : (j : Join) → Good (separator j)
unfolding all
good_separator Seq = good_low (32 ∷ 126 ∷ 32 ∷ []) refl
good_separator Choice = good_low (32 ∷ 124 ∷ 32 ∷ []) refl

good_mark : (m : ℕ) → Good (mark_text m)
unfolding mark_text all
good_mark zero = good_none
good_mark (suc zero) = good_low (95 ∷ []) refl
good_mark (suc (suc zero)) = good_low (64 ∷ []) refl
good_mark (suc (suc (suc zero))) = good_low (36 ∷ []) refl
good_mark (suc (suc (suc (suc zero)))) = good_low (33 ∷ []) refl
good_mark (suc (suc (suc (suc (suc m))))) = good_none

-- ---- trees and rules

module _ {P : Type 0} (v : Style) where
  good_tree : (w : Place) (t : Tree P) → fine t ≡ true → Good (printed v w t)
  unfolding printed fine
  good_tree w (leaf s a) f = good_enclosed _ (good_atom a f)
  good_tree w (one s o t) f =
      let g = and_true (fine_wrap o) (fine t) f in
      good_enclosed _ (good_then (good_before o g.0) (good_then (good_tree _ t g.1) (good_after o)))
  good_tree w (two s j a b) f =
      let g = and_true (fine a) (fine b) f in
      good_enclosed _ (good_then (good_tree _ a g.0) (good_then (good_separator j) (good_tree _ b g.1)))

  good_rule_lem : (r : Rule P) → fine_rule r ≡ true → Good (printed_rule v r)
  unfolding printed_rule fine_rule all
  good_rule_lem r f =
      let g = and_true (is_name r.name) (and (leb r.mark 4) (fine r.tree)) f in
      let h = and_true (leb r.mark 4) (fine r.tree) g.1 in
      good_then (good_word r.name (name_parts r.name g.0).0)
      (good_then (good_low (32 ∷ 61 ∷ 32 ∷ []) refl)
      (good_then (good_mark r.mark) (good_then (good_low (123 ∷ 32 ∷ []) refl) (good_then (good_tree Alone r.tree h.1) (good_low (32 ∷ 125 ∷ 10 ∷ []) refl)))))

  good_rules : (us : List (Rule P)) → fine_rules us ≡ true → Good (printed_rules v us)
  unfolding printed_rules fine_rules
  good_rules [] f = good_none
  good_rules (r ∷ us) f = let g = and_true (fine_rule r) (fine_rules us) f in good_then (good_rule_lem r g.0) (good_rules us g.1)

  pub rules_utf8 : (us : List (Rule P)) → fine_rules us ≡ true → first_bad (printed_rules v us) ≡ None
  rules_utf8 us f = good_utf8 (printed_rules v us) (good_rules us f)

-- ---- tables

module _ (v : Style) (ns rs st : List ℕ) where
  -- the text of tables that aren't false, with zero counts, without rules and of any length too
  pub printed_utf8 : tables ns rs st ≡ Ok tt → first_bad (table_text v ns rs st) ≡ None
  unfolding table_text
  printed_utf8 e = rules_utf8 v (rules_of ns rs st) (valid_fine (tables_valid ns rs st e))

  used_by : (k n : ℕ) (c : Result (Unit {0}) TableError) → answer_by c (λ u. room_of (table_text v ns rs st) k) ≡ Ok n → (c ≡ Ok tt) × (length (table_text v ns rs st) ≡ n)
  unfolding room_of
  used_by k n (Ok _) e = (refl, split (leb (length (table_text v ns rs st)) k) _ _ (λ t h. cc) (λ f h. let z : ◌≡◌ {A = ℕ} 0 1 = cc in absurd (omega arith)) e)
  used_by k n (Err TableError.Shape) e = let z : ◌≡◌ {A = ℕ} 0 1 = cc in absurd (omega arith)
  used_by k n (Err (TableError.Node i)) e = let z : ◌≡◌ {A = ℕ} 0 1 = cc in absurd (omega arith)
  used_by k n (Err (TableError.Rule i)) e = let z : ◌≡◌ {A = ℕ} 0 1 = cc in absurd (omega arith)

  -- where the printer answers that n bytes are used, the first n bytes of what it leaves in the output are UTF-8
  pub print_utf8 : (k n : ℕ) (o : List ℕ) → print_of v ns rs st k ≡ Ok n → first_bad (take n (print_in v ns rs st o (Ok n))) ≡ None
  unfolding print_of print_in fronted
  print_utf8 k n o e =
      let (g, l) = used_by k n (tables ns rs st) e in
      rw (← l, take-append_seam (table_text v ns rs st)) (printed_utf8 g)
