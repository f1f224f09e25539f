-- The same text in the words of ast.rs: `Display`, `as_postfix_operand`, `fmt_literal`, and the loop over a chain.
use Rattle.std.specs.Prelude.{ℕ, Bool, false, not, List, [], ◌∷◌, ◌++◌, map, ltb, eqb}
use Rattle.text.specs.Booleans.{choose, or, within, among}
use Rattle.text.specs.Utf8.{encoded}
use Rattle.text.specs.Digits.{decimal, hexes}
use Rattle.literal.specs.Literals.{hex_count}
use Rattle.table.specs.declared.Sort.{Sort}
use Rattle.table.specs.declared.Sort.TheVariants.{Str, Insens, Ident, PushLiteral}
use Rattle.table.specs.declared.Join.{Join}
use Rattle.table.specs.declared.Unary.TheVariants.{PosPred, NegPred, Opt, Rep, RepOnce, RepExact, RepMin, RepMax, RepMinMax, Push}
use Rattle.table.specs.Tree.{Wrap, plain, node_tag, Tree, leaf, one, two}
use Rattle.table.specs.Regroup.{same_join}
use Rattle.forms.specs.declared.Place.TheVariants.{Alone}
use Rattle.forms.specs.declared.Style.TheVariants.{Full}
use Rattle.forms.specs.Printing.{is_prefix, wrap_form, separator, printed}

-- `format!("{self}")`
abbrev pub display : {P : Type 0} → Tree P → List ℕ
display t = printed Full Alone t

-- ---- literals, for characters of ASCII and of U+00A1 to U+024F. What lies behind `escape_debug` is not in ast.rs: for these
-- it is said here

abbrev pub told : ℕ → Bool
told c = or (ltb c 0x80) (within 0xa1 0x24f c)

-- all of them are printable but control characters, U+007F and U+00AD
abbrev pub is_printable : ℕ → Bool
is_printable c = not (or (ltb c 0x20) (among (0x7f ∷ 0xad ∷ []) c))

-- as many hex digits as a number needs, one at least
abbrev pub needed : ℕ → ℕ
needed c = choose (ltb c 0x10) (λ u. 1) (λ u. hex_count c)

-- `\u{..}` with n digits
abbrev pub unicode : ℕ → ℕ → List ℕ
unicode n c = 92 ∷ 117 ∷ 123 ∷ (hexes n c ++ (125 ∷ []))

-- `c.escape_debug()`
unfoldable pub escape_debug : ℕ → List ℕ
escape_debug c =
    choose (eqb c 0) (λ u. 92 ∷ 48 ∷ [])
    (λ u. choose (eqb c 9) (λ u. 92 ∷ 116 ∷ [])
    (λ u. choose (eqb c 13) (λ u. 92 ∷ 114 ∷ [])
    (λ u. choose (eqb c 10) (λ u. 92 ∷ 110 ∷ [])
    (λ u. choose (among (92 ∷ 34 ∷ 39 ∷ []) c) (λ u. 92 ∷ encoded c)
    (λ u. choose (is_printable c) (λ u. encoded c) (λ u. unicode (needed c) c))))))

-- the arms of `fmt_literal`
unfoldable pub fmt_char : ℕ → ℕ → List ℕ
fmt_char q c =
    choose (eqb c q) (λ u. 92 ∷ encoded c)
    (λ u. choose (among (39 ∷ 34 ∷ []) c) (λ u. encoded c)
    (λ u. choose (or (within 0x1 0x8 c) (among (0xb ∷ 0xc ∷ 0xe ∷ 0xf ∷ []) c)) (λ u. unicode 2 c) (λ u. escape_debug c)))

-- `for c in string.chars()`
unfoldable pub each_char : (ℕ → List ℕ) → List ℕ → List ℕ
each_char f [] = []
each_char f (c ∷ cs) = f c ++ each_char f cs

-- `fmt_literal`, of a string that is given by its characters
unfoldable pub fmt_literal : ℕ → List ℕ → List ℕ
fmt_literal q cs = q ∷ (each_char (fmt_char q) cs ++ (q ∷ []))

-- what `Display` writes for a leaf with a text, and for a range
unfoldable pub display_text : Sort → List ℕ → List ℕ
display_text Str cs = fmt_literal 34 cs
display_text Insens cs = 94 ∷ fmt_literal 34 cs
display_text Ident cs = each_char encoded cs
display_text PushLiteral cs = 80 ∷ 85 ∷ 83 ∷ 72 ∷ 95 ∷ 76 ∷ 73 ∷ 84 ∷ 69 ∷ 82 ∷ 65 ∷ 76 ∷ 40 ∷ (fmt_literal 34 cs ++ (41 ∷ []))

unfoldable pub display_range : ℕ → ℕ → List ℕ
display_range x y = 40 ∷ (fmt_literal 39 (x ∷ []) ++ (46 ∷ 46 ∷ (fmt_literal 39 (y ∷ []) ++ (41 ∷ []))))

-- ---- expressions

-- `Expr::PosPred(_) | Expr::NegPred(_)`
abbrev pub is_predicate : {P : Type 0} → Tree P → Bool
is_predicate (leaf s a) = false
is_predicate (one s o t) = is_prefix (wrap_form o)
is_predicate (two s j a b) = false

-- `as_postfix_operand`
unfoldable pub as_postfix_operand : {P : Type 0} → Tree P → List ℕ
as_postfix_operand t = choose (is_predicate t) (λ u. 40 ∷ (display t ++ (41 ∷ []))) (λ u. display t)

-- what `Display` writes over one child: d is the child's own text, p its text as a postfix operand
unfoldable pub display_one : Wrap → List ℕ → List ℕ → List ℕ
display_one (plain PosPred) d p = 38 ∷ d
display_one (plain NegPred) d p = 33 ∷ d
display_one (plain Opt) d p = p ++ (63 ∷ [])
display_one (plain Rep) d p = p ++ (42 ∷ [])
display_one (plain RepOnce) d p = p ++ (43 ∷ [])
display_one (plain (RepExact n)) d p = p ++ (123 ∷ (decimal n ++ (125 ∷ [])))
display_one (plain (RepMin n)) d p = p ++ (123 ∷ (decimal n ++ (44 ∷ 125 ∷ [])))
display_one (plain (RepMax n)) d p = p ++ (123 ∷ 44 ∷ (decimal n ++ (125 ∷ [])))
display_one (plain (RepMinMax n m)) d p = p ++ (123 ∷ (decimal n ++ (44 ∷ 32 ∷ (decimal m ++ (125 ∷ [])))))
display_one (plain Push) d p = 80 ∷ 85 ∷ 83 ∷ 72 ∷ 40 ∷ (d ++ (41 ∷ []))
display_one (node_tag b) d p = 40 ∷ 35 ∷ (b ++ (32 ∷ 61 ∷ 32 ∷ (d ++ (41 ∷ []))))

-- what `while let Expr::Seq(lhs, rhs) = current` pushes from the right child on, the last `current` included
unfoldable pub chain : {P : Type 0} → Join → Tree P → List (Tree P)
chain j (leaf s a) = leaf s a ∷ []
chain j (one s o t) = one s o t ∷ []
chain j (two s k a b) = choose (same_join j k) (λ u. a ∷ chain j b) (λ u. two s k a b ∷ [])

-- each text after a separator
unfoldable pub spread : List ℕ → List (List ℕ) → List ℕ
spread x [] = []
spread x (y ∷ ys) = x ++ (y ++ spread x ys)

-- `join`: a separator between each two
unfoldable pub joined_by : List ℕ → List (List ℕ) → List ℕ
joined_by x [] = []
joined_by x (y ∷ ys) = y ++ spread x ys

-- what `Display` writes for Seq and Choice
unfoldable pub display_two : {P : Type 0} → Join → Tree P → Tree P → List ℕ
display_two j a b = 40 ∷ (joined_by (separator j) (map display (a ∷ chain j b)) ++ (41 ∷ []))
