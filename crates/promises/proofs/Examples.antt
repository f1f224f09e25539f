-- Trees with their full text and their short one; the second's short text is the longer. Then a text's pairs of brackets.
use Prim.Native.Nat.{ℕ, ◌+◌, ◌≤◌, ◌<◌}
use Prim.Native.String.{String}
use mathlib.Core.Path.{◌≡◌, refl}
use mathlib.Core.Bool.{true, false}
use mathlib.Core.List.{List, [], ◌∷◌, map}
use mathlib.Core.Logic.{◌⊎◌, inl, inr}
use native.Mathlib.Decide.{dec_le}
use native.Mathlib.Omega.{arith}
use lib.ListN.{length}
use Rattle.token.specs.Blanks.{run, opener_blank, blank_by}
use Rattle.token.specs.Tokens.{allowed, word_token, one_kind, token_by, token_at, push_literal}
use Rattle.token.specs.Tokens as Token
use Rattle.token.specs.Lists.{tokens_in, tokens_from, tokens_of}
use Rattle.table.specs.declared.Join.TheVariants.{Choice}
use Rattle.table.specs.declared.Unary.TheVariants.{NegPred, Rep, Push}
use Rattle.table.specs.Tree.{range, node_tag, Tree, leaf, one, two, Nowhere}
use Rattle.text.specs.Classes.{class_of}
use Rattle.text.specs.Scans.{sought}
use Rattle.text.specs.Words.{begins, push}
use Rattle.text.specs.Utf8.{encoded}
use Rattle.literal.specs.Literals.{shown, show_of, shown_by}
use Rattle.token.specs.Table.{toks, tok_of, kind, start, end, is, between, word}
use Rattle.forms.specs.declared.Style.TheVariants.{Full, Short}
use Rattle.forms.specs.declared.Place.TheVariants.{Alone}
use Rattle.forms.specs.Printing.{brackets, enclosed, character, range_text, sort_text, tag_text, printed}
use Rattle.structure.specs.Tokens.{spells}
use Rattle.structure.proofs.Steps.{inside_is}
use Rattle.promises.specs.Open.{open_at, most_to, most_open}
use Rattle.promises.specs.Pairs.{here, past_close, past_open, past_other, Pair, without, cut}
use Rattle.promises.specs.Fewest.{opens_to}
use Rattle.promises.specs.Twelve.{ascii, name, over, seq}
use Rattle.promises.proofs.Needs.{opens_here, opens_more}
use Rattle.promises.proofs.Cuts.{never, closed_once}

-- a tree and its texts
pub record Texts : Type 0 where
  pub tree : Tree Nowhere
  pub full : List ℕ
  pub short : List ℕ

abbrev shows : Tree Nowhere → String → String → Texts
shows t f s = record { tree = t; full = ascii f; short = ascii s }

abbrev choice : Tree Nowhere → Tree Nowhere → Tree Nowhere
choice a b = two tt Choice a b

abbrev labelled : String → Tree Nowhere → Tree Nowhere
labelled s t = one tt (node_tag (ascii s)) t

unfoldable pub examples : List Texts
examples =
    shows (seq (seq (seq (name "a") (name "b")) (name "c")) (name "d")) "(((a ~ b) ~ c) ~ d)" "a ~ b ~ c ~ d"
    ∷ shows (seq (name "a") (seq (name "b") (seq (name "c") (name "d")))) "(a ~ b ~ c ~ d)" "a ~ (b ~ (c ~ d))"
    ∷ shows (choice (seq (name "a") (name "b")) (name "c")) "((a ~ b) | c)" "a ~ b | c"
    ∷ shows (choice (name "a") (choice (name "b") (name "c"))) "(a | b | c)" "a | (b | c)"
    ∷ shows (choice (seq (name "a") (name "b")) (seq (name "c") (choice (name "d") (name "e")))) "((a ~ b) | (c ~ (d | e)))" "a ~ b | c ~ (d | e)"
    ∷ shows (seq (name "a") (choice (seq (name "b") (name "c")) (name "d"))) "(a ~ ((b ~ c) | d))" "a ~ (b ~ c | d)"
    ∷ shows (over Rep (leaf tt (range 97 122))) "('a'..'z')*" "'a'..'z'*"
    ∷ shows (over NegPred (labelled "t" (name "a"))) "!(#t = a)" "!(#t = a)"
    ∷ shows (labelled "t" (labelled "u" (name "a"))) "(#t = (#u = a))" "#t = (#u = a)"
    ∷ shows (seq (name "a") (labelled "t" (seq (name "b") (name "c")))) "(a ~ (#t = (b ~ c)))" "a ~ #t = (b ~ c)"
    ∷ shows (over Push (choice (name "a") (name "b"))) "PUSH((a | b))" "PUSH(a | b)"
    ∷ []

-- what the definition prints of an example's tree
abbrev printed_as : Texts → Texts
printed_as e = record { tree = e.tree; full = printed Full Alone e.tree; short = printed Short Alone e.tree }

pub both_texts : map printed_as examples ≡ examples
unfolding examples brackets enclosed character range_text sort_text tag_text printed shown show_of shown_by encoded
both_texts = refl

-- ---- pairs of a text

-- its tokens are r = { a ~ ( b ~ ( c ~ d ) ) }, from 0 to 14
abbrev pub nested : List ℕ
nested = ascii "r = { a ~ (b ~ (c ~ d)) }\n"

-- here the first `(` is token 4
abbrev pub pushed : List ℕ
pushed = ascii "r = { PUSH(a) }\n"

abbrev pub pushed_literal : List ℕ
pushed_literal = ascii "r = { PUSH_LITERAL(\"a\") }\n"

-- what is said of token q is said of the token before the next one
behind : (s : List ℕ) (q : ℕ) → (spells push s q ≡ false) × (spells push_literal s q ≡ false) → (p : ℕ) → q + 1 ≡ p + 1 → (spells push s p ≡ false) × (spells push_literal s p ≡ false)
behind s q h p e = let z : q ≡ p = omega arith in rw z at h

pub record Pairs : Type 0 where
  pub outer : Pair nested 5 13
  pub without_outer : cut nested 5 13 ≡ ascii "r = { a ~ b ~ (c ~ d) }\n"
  pub inner : Pair nested 8 12
  pub without_inner : cut nested 8 12 ≡ ascii "r = { a ~ (b ~ c ~ d) }\n"
  -- how many `(` there are before each
  pub counts : map (opens_to nested) (0 ∷ 5 ∷ 6 ∷ 8 ∷ 9 ∷ 15 ∷ []) ≡ 0 ∷ 0 ∷ 1 ∷ 1 ∷ 2 ∷ 2 ∷ []
  pub many : length (toks nested) ≡ 15
  pub push_spelled : spells push pushed 3 ≡ true
  pub push_literal_spelled : spells push_literal pushed_literal 3 ≡ true

pub pairs : Pairs
unfolding without cut opens_to class_of begins sought run opener_blank blank_by allowed word_token one_kind token_by Token.token_of token_at tokens_in tokens_from tokens_of tok_of kind start end is between word spells
pairs = record {
  outer = record {
    opens = refl;
    groups = behind nested 4 (refl, refl);
    closes = past_other refl refl (past_other refl refl (past_open refl (past_other refl refl (past_other refl refl (past_other refl refl (past_close refl (here refl)))))));
  };
  without_outer = refl;
  inner = record {
    opens = refl;
    groups = behind nested 7 (refl, refl);
    closes = past_other refl refl (past_other refl refl (past_other refl refl (here refl)));
  };
  without_inner = refl;
  counts = refl;
  many = refl;
  push_spelled = refl;
  push_literal_spelled = refl;
}

-- how many are open before tokens, and the most at once; a `)` that closes none leaves none open
pub open_at_once : (map (open_at nested) (5 ∷ 6 ∷ 8 ∷ 9 ∷ 12 ∷ 13 ∷ 14 ∷ []) ≡ 0 ∷ 1 ∷ 1 ∷ 2 ∷ 2 ∷ 1 ∷ 0 ∷ []) × (most_open nested ≡ 2) × (most_open (ascii "r = { a))(b) }") ≡ 1)
unfolding open_at most_to class_of begins sought run opener_blank blank_by allowed word_token one_kind token_by Token.token_of token_at tokens_in tokens_from tokens_of tok_of kind start end is between word
open_at_once = (refl, refl, refl)

-- there is no other
module _ (i j : ℕ) (p : Pair nested i j) where
  none_between : (a b : ℕ) → opens_to nested a ≡ opens_to nested b → a ≤ i → i < b → ⊥
  none_between a b e l h = omega (arith, opens_here nested i p.opens, opens_more nested a i l, opens_more nested (i + 1) b (omega arith))

  pub no_other : ((i ≡ 5) × (j ≡ 13)) ⊎ ((i ≡ 8) × (j ≡ 12))
  no_other = go (dec_le i 4) (dec_le i 5) (dec_le i 7) (dec_le i 8)
    where
      go : Dec (i ≤ 4) → Dec (i ≤ 5) → Dec (i ≤ 7) → Dec (i ≤ 8) → ((i ≡ 5) × (j ≡ 13)) ⊎ ((i ≡ 8) × (j ≡ 12))
      go (yes a) b c d = absurd (none_between 0 5 (cc pairs.counts) (omega arith) (omega arith))
      go (no a) (yes b) c d = let e : i ≡ 5 = omega arith in inl (e, closed_once nested (rw e at p.closes) pairs.outer.closes)
      go (no a) (no b) (yes c) d = absurd (none_between 6 8 (cc pairs.counts) (omega arith) (omega arith))
      go (no a) (no b) (no c) (yes d) = let e : i ≡ 8 = omega arith in inr (e, closed_once nested (rw e at p.closes) pairs.inner.closes)
      go (no a) (no b) (no c) (no d) = absurd (none_between 9 15 (cc pairs.counts) (omega arith) (omega (arith, inside_is nested i 6 (omega arith) p.opens, pairs.many)))

-- PUSH and PUSH_LITERAL keep theirs
pub push_kept : (j : ℕ) → Pair pushed 4 j → ⊥
push_kept j p = never pairs.push_spelled (p.groups 3 refl).0

pub push_literal_kept : (j : ℕ) → Pair pushed_literal 4 j → ⊥
push_literal_kept j p = never pairs.push_literal_spelled (p.groups 3 refl).1
