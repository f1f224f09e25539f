-- Matching, from the layout's text to the answer: examples, and wrong programs that the promise shuts out.
use Prim.Native.Nat.{ℕ}
use mathlib.Core.Path.{◌≡◌, refl, sym, ap, ◌∙◌}
use mathlib.Core.List.{List, [], ◌∷◌}
use native.Mathlib.Omega.{arith}
use lib.ListN.{take, drop, get_or}
use Rattle.table.specs.Tree.{rules_stored}
use Rattle.table.specs.Flat.{nodes_of, records_of}
use Rattle.structure.specs.declared.Level.TheVariants.{Tagged}
use Rattle.reader.specs.Lines.{line_in}
use Rattle.build.specs.Rules.{rules_read}
use Rattle.replies.specs.declared.Answer.{Answer}
use Rattle.replies.specs.declared.Answer.TheVariants.{Matched, NoMatch, Unfit, NoRule, NotUtf8, Over}
use Rattle.matcher.specs.Answers.{match_of}
use Rattle.promises.specs.Twelve.{ascii}
use Rattle.matcher.specs.Lines.{records_of as lines_records_of}
use Rattle.promises.proofs.Opened.{all_opened}

-- rule 0 of a layout, read at the tagged level, over a line
abbrev pub ran : List ℕ → List ℕ → ℕ → Answer
ran layout line allowance = match_of (nodes_of (line_in layout) (rules_read Tagged layout)) (records_of (rules_read Tagged layout)) (rules_stored (rules_read Tagged layout)) 0 line allowance

-- its records for the lines of a text
abbrev pub ran_lines : List ℕ → List ℕ → List ℕ → List ℕ
ran_lines layout text records =
    lines_records_of (nodes_of (line_in layout) (rules_read Tagged layout)) (records_of (rules_read Tagged layout)) (rules_stored (rules_read Tagged layout)) 0 text 99 records

abbrev zeros : List ℕ
zeros = 0 ∷ 0 ∷ 0 ∷ 0 ∷ 0 ∷ 0 ∷ 0 ∷ 0 ∷ 0 ∷ 0 ∷ []

-- µm, of three bytes
abbrev micro : List ℕ
micro = 194 ∷ 181 ∷ 109 ∷ []

pub record Matching : Type 0 where
  -- the student's mistake: the repetition belongs to ANY alone, and swallows the next field
  pub swallows : ran (ascii "r={!\";\"~ANY*}") (ascii "a;b") 99 ≡ Matched 3 8
  pub stops : ran (ascii "r={(!\";\"~ANY)*}") (ascii "a;b") 99 ≡ Matched 1 8
  -- !a* is !(a*), which never holds
  pub never_holds : ran (ascii "r={!\"a\"*}") (ascii "b") 99 ≡ NoMatch 3
  -- a lone d without its b
  pub splits : ran (ascii "r={\"b\"~\"c\"|\"d\"}") (ascii "d") 99 ≡ Matched 1 4
  pub ordered : ran (ascii "r={(\"a\"|\"ab\")~\"c\"}") (ascii "abc") 99 ≡ NoMatch 4
  pub given_back : ran (ascii "r={\"a\"*~\"a\"}") (ascii "aa") 99 ≡ NoMatch 6
  pub whole_character : ran (ascii "r={ANY}") micro 99 ≡ Matched 2 1
  pub enough : ran (ascii "r={\"\"{5}}") [] 6 ≡ Matched 0 6
  pub short : ran (ascii "r={\"\"{5}}") [] 5 ≡ Over
  pub folded : ran (ascii "r={s+} s={^\"Ab\"}") (ascii "aBABx") 99 ≡ Matched 4 7
  pub unreached : ran (ascii "r={\"a\"} s={#t=\"b\"}") (ascii "a") 99 ≡ Unfit 2
  pub nobody : ran (ascii "r={\"a\"} s={b}") (ascii "a") 99 ≡ NoRule
  pub behind : ran (ascii "r={\"a\"}") (97 ∷ 195 ∷ 40 ∷ []) 99 ≡ NotUtf8 1
  pub endless : ran (ascii "r={\"\"*}") [] 99 ≡ Over
  pub two_lines : ran_lines (ascii "r={\"a\"}") (97 ∷ 13 ∷ 10 ∷ 98 ∷ []) zeros ≡ 0 ∷ 0 ∷ 1 ∷ 1 ∷ 1 ∷ 0 ∷ 0 ∷ 0 ∷ 0 ∷ 1 ∷ []

pub matching : Matching
unfolding all_opened
matching =
    record {
      swallows = refl;
      stops = refl;
      never_holds = refl;
      splits = refl;
      ordered = refl;
      given_back = refl;
      whole_character = refl;
      enough = refl;
      short = refl;
      folded = refl;
      unreached = refl;
      nobody = refl;
      behind = refl;
      endless = refl;
      two_lines = refl;
    }

-- ---- a matcher that always answers none

pub none_always : ((layout line : List ℕ) (a e n : ℕ) → ran layout line a ≡ Matched e n → ⊥) → ⊥
none_always never = never _ _ _ _ _ matching.stops

-- ---- one for which ANY is a byte

pub bytes_for_any : ((line : List ℕ) (e n : ℕ) → ran (ascii "r={ANY}") line 99 ≡ Matched e n → e ≡ 1) → ⊥
bytes_for_any same = let z : ◌≡◌ {A = ℕ} 2 1 = same _ _ _ matching.whole_character in absurd (omega arith)

-- ---- one that ends every repetition

pub ends_always : ((layout line : List ℕ) → ran layout line 99 ≡ Over → ⊥) → ⊥
ends_always never = never _ _ matching.endless

-- ---- one that writes the first line's record for the second

pub first_line : ((layout text : List ℕ) → take 5 (ran_lines layout text zeros) ≡ drop 5 (ran_lines layout text zeros)) → ⊥
first_line same =
    let e = ap (take 5) (sym matching.two_lines) ∙ same _ _ ∙ ap (drop 5) matching.two_lines in
    let n : ◌≡◌ {A = ℕ} 1 0 = ap (λ (xs : List ℕ). get_or xs 2 0) e in
    absurd (omega arith)
