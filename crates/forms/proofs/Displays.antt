-- The printed text is what `Display` of ast.rs writes.
use Rattle.std.specs.Prelude.{Some}
use Prim.Native.Nat.{ℕ, ◌+◌}
use mathlib.Core.Path.{◌≡◌, refl, sym, ap, ◌∙◌}
use mathlib.Core.Bool.{true, false}
use mathlib.Core.List.{List, [], ◌∷◌, ◌++◌, map, append_assoc, append-nil}
use native.Mathlib.Omega.{arith}
use lib.ListN.{length}
use Rattle.text.specs.Booleans.{choose}
use Rattle.text.specs.Utf8.{char_of, scalar, encoded}
use Rattle.text.proofs.Decodes.{decoded}
use Rattle.text.proofs.Encodes.{encoded_read}
use Rattle.text.proofs.Walks.{spelled_end}
use Rattle.literal.specs.Literals.{shown, char_piece, inside, literal}
use Rattle.literal.proofs.Printed.{shown_turn}
use Rattle.table.specs.declared.Join.{Join}
use Rattle.table.specs.declared.Join.TheVariants.{Seq, Choice}
use Rattle.table.specs.declared.Unary.TheVariants.{PosPred, NegPred, Opt, Rep, RepOnce, RepExact, RepMin, RepMax, RepMinMax, Push}
use Rattle.table.specs.Tree.{text, range, peek_slice, Wrap, plain, node_tag, Tree, leaf, one, two}
use Rattle.forms.specs.declared.Style.TheVariants.{Full}
use Rattle.forms.specs.declared.Place.{Place}
use Rattle.forms.specs.declared.Place.TheVariants.{Alone, Prefixed, Operand, LeftOf, RightOf}
use Rattle.forms.specs.declared.Form.{Form}
use Rattle.forms.specs.declared.Form.TheVariants.{Plain, Range, Prefix, Postfix, Tag, Joined}
use Rattle.forms.specs.Printing.{character, is_prefix, brackets, enclosed, atom_form, atom_text, wrap_form, under, before, after, tag_text, separator, printed}
use Rattle.forms.specs.Display.{display, as_postfix_operand, display_one, chain, spread, joined_by, display_two}

-- what decides about a tree's brackets
abbrev form_of : {P : Type 0} → Tree P → Form
form_of (leaf s a) = atom_form a
form_of (one s o t) = wrap_form o
form_of (two s j a b) = Joined j

pub bare : (x : List ℕ) → enclosed false x ≡ x
unfolding enclosed
bare x = append-nil x

regroup : (b e d c : List ℕ) → ((b ++ e) ++ (d ++ [])) ++ c ≡ b ++ (e ++ (d ++ c))
regroup b e d c = simp append_assoc

-- the brackets of a predicate under a postfix are all that the place changes there
operand_form : (f : Form) (x : List ℕ) → enclosed (brackets Full Operand f) x ≡ choose (is_prefix f) (λ u. 40 ∷ (enclosed (brackets Full Alone f) x ++ (41 ∷ []))) (λ u. enclosed (brackets Full Alone f) x)
unfolding brackets enclosed
operand_form Plain x = refl
operand_form Range x = refl
operand_form Prefix x = rw (append-nil x)
operand_form Postfix x = refl
operand_form Tag x = refl
operand_form (Joined j) x = refl

alone_prefixed : (f : Form) → brackets Full Prefixed f ≡ brackets Full Alone f
unfolding brackets
alone_prefixed Plain = refl
alone_prefixed Range = refl
alone_prefixed Prefix = refl
alone_prefixed Postfix = refl
alone_prefixed Tag = refl
alone_prefixed (Joined j) = refl

alone_left : (k : Join) (f : Form) → brackets Full (LeftOf k) f ≡ brackets Full Alone f
unfolding brackets
alone_left k Plain = refl
alone_left k Range = refl
alone_left k Prefix = refl
alone_left k Postfix = refl
alone_left k Tag = refl
alone_left k (Joined j) = refl

alone_right : (k : Join) (o : Wrap) → brackets Full (RightOf k) (wrap_form o) ≡ brackets Full Alone (wrap_form o)
unfolding brackets
alone_right k (node_tag b) = refl
alone_right k (plain PosPred) = refl
alone_right k (plain NegPred) = refl
alone_right k (plain Opt) = refl
alone_right k (plain Rep) = refl
alone_right k (plain RepOnce) = refl
alone_right k (plain (RepExact n)) = refl
alone_right k (plain (RepMin n)) = refl
alone_right k (plain (RepMax n)) = refl
alone_right k (plain (RepMinMax n m)) = refl
alone_right k (plain Push) = refl

-- a character's bytes between quotes
inside_encoded : (c : ℕ) → scalar c ≡ true → inside 39 (encoded c) ≡ shown 39 c
unfolding inside
inside_encoded c h =
    let n = length (encoded c) in
    let e : char_of (encoded c) ≡ Some (c, n) = rw (append-nil (encoded c)) at (encoded_read c [] h) in
    let t = shown_turn 39 (encoded c) 0 (omega (arith, (decoded (encoded c) c n e).some)) c n e in
    t.is ∙ ap (λ x. shown 39 c ++ x) (spelled_end (char_piece 39) (encoded c) (0 + n) (omega arith)) ∙ append-nil (shown 39 c)

module _ {P : Type 0} where
  -- a place counts by its brackets alone
  same_place : (w v : Place) (t : Tree P) → brackets Full w (form_of t) ≡ brackets Full v (form_of t) → printed Full w t ≡ printed Full v t
  unfolding printed
  same_place w v (leaf s a) e = ap (λ b. enclosed b (atom_text a)) e
  same_place w v (one s o t) e = ap (λ b. enclosed b (before o ++ (printed Full (under (wrap_form o)) t ++ after o))) e
  same_place w v (two s j a b) e = ap (λ c. enclosed c (printed Full (LeftOf j) a ++ (separator j ++ printed Full (RightOf j) b))) e

  prefixed : (t : Tree P) → printed Full Prefixed t ≡ display t
  prefixed t = same_place Prefixed Alone t (alone_prefixed (form_of t))

  left : (j : Join) (t : Tree P) → printed Full (LeftOf j) t ≡ display t
  left j t = same_place (LeftOf j) Alone t (alone_left j (form_of t))

  -- a postfix on a predicate brackets it
  pub display_operand : (t : Tree P) → printed Full Operand t ≡ as_postfix_operand t
  unfolding printed as_postfix_operand
  display_operand (leaf s (text k b)) = operand_form Plain _
  display_operand (leaf s (range x y)) = operand_form Range _
  display_operand (leaf s (peek_slice x e)) = operand_form Plain _
  display_operand (one s o t) = operand_form (wrap_form o) _
  display_operand (two s j a b) = operand_form (Joined j) _

  before_it : (c : ℕ) (t : Tree P) → enclosed false (c ∷ (printed Full Prefixed t ++ [])) ≡ c ∷ display t
  before_it c t = bare (c ∷ (printed Full Prefixed t ++ [])) ∙ ap (λ x. c ∷ x) (append-nil (printed Full Prefixed t) ∙ prefixed t)

  after_it : (t : Tree P) (x : List ℕ) → enclosed false (printed Full Operand t ++ x) ≡ as_postfix_operand t ++ x
  after_it t x = bare (printed Full Operand t ++ x) ∙ ap (λ y. y ++ x) (display_operand t)

  tagged : (b : List ℕ) (t : Tree P) → enclosed true (tag_text b ++ (printed Full Prefixed t ++ [])) ≡ 40 ∷ 35 ∷ (b ++ (32 ∷ 61 ∷ 32 ∷ (display t ++ (41 ∷ []))))
  unfolding enclosed tag_text
  tagged b t = ap (λ x. 40 ∷ 35 ∷ x) (regroup b (32 ∷ 61 ∷ 32 ∷ []) (printed Full Prefixed t) (41 ∷ []) ∙ ap (λ x. b ++ (32 ∷ 61 ∷ 32 ∷ (x ++ (41 ∷ [])))) (prefixed t))

  -- what `Display` writes over one child
  pub display_one_lem : (s : P) (o : Wrap) (t : Tree P) → display (one s o t) ≡ display_one o (display t) (as_postfix_operand t)
  unfolding printed display_one brackets
  display_one_lem s (plain PosPred) t = before_it 38 t
  display_one_lem s (plain NegPred) t = before_it 33 t
  display_one_lem s (plain Opt) t = after_it t _
  display_one_lem s (plain Rep) t = after_it t _
  display_one_lem s (plain RepOnce) t = after_it t _
  display_one_lem s (plain (RepExact n)) t = after_it t _
  display_one_lem s (plain (RepMin n)) t = after_it t _
  display_one_lem s (plain (RepMax n)) t = after_it t _
  display_one_lem s (plain (RepMinMax n m)) t = after_it t _
  display_one_lem s (plain Push) t = bare _
  display_one_lem s (node_tag b) t = tagged b t

  last : (j : Join) (t : Tree P) → brackets Full (RightOf j) (form_of t) ≡ brackets Full Alone (form_of t) → separator j ++ printed Full (RightOf j) t ≡ spread (separator j) (display t ∷ [])
  unfolding spread
  last j t e = ap (λ x. separator j ++ x) (same_place (RightOf j) Alone t e ∙ sym (append-nil (display t)))

  more : (s : P) (j : Join) (a b : Tree P) (x : List ℕ) → brackets Full (RightOf j) (Joined j) ≡ false → separator j ++ printed Full (RightOf j) b ≡ x
      → separator j ++ printed Full (RightOf j) (two s j a b) ≡ separator j ++ (display a ++ x)
  unfolding printed
  more s j a b x e h =
      ap (λ y. separator j ++ y)
      (ap (λ c. enclosed c (printed Full (LeftOf j) a ++ (separator j ++ printed Full (RightOf j) b))) e
      ∙ bare _ ∙ rw (left j a, h))

  -- what follows a chain's first expression
  pub display_chain : (j : Join) (b : Tree P) → separator j ++ printed Full (RightOf j) b ≡ spread (separator j) (map display (chain j b))
  unfolding chain spread brackets
  display_chain j (leaf s (text k x)) = last j (leaf s (text k x)) refl
  display_chain j (leaf s (range x y)) = last j (leaf s (range x y)) refl
  display_chain j (leaf s (peek_slice x e)) = last j (leaf s (peek_slice x e)) refl
  display_chain j (one s o t) = last j (one s o t) (alone_right j o)
  display_chain Seq (two s Seq a b) = more s Seq a b _ refl (display_chain Seq b)
  display_chain Seq (two s Choice a b) = last Seq (two s Choice a b) refl
  display_chain Choice (two s Seq a b) = last Choice (two s Seq a b) refl
  display_chain Choice (two s Choice a b) = more s Choice a b _ refl (display_chain Choice b)

  -- the text of a chain is what the loop makes
  pub display_two_lem : (s : P) (j : Join) (a b : Tree P) → display (two s j a b) ≡ display_two j a b
  unfolding printed display_two joined_by enclosed brackets
  display_two_lem s j a b =
      ap (λ x. 40 ∷ (x ++ (41 ∷ []))) (ap (λ x. x ++ (separator j ++ printed Full (RightOf j) b)) (left j a) ∙ ap (λ x. display a ++ x) (display_chain j b))

-- a range's end is `fmt_literal` of its character's bytes
pub character_literal : (c : ℕ) → scalar c ≡ true → character c ≡ literal 39 (encoded c)
unfolding character literal
character_literal c h = ap (λ x. 39 ∷ (x ++ (39 ∷ []))) (sym (inside_encoded c h))
