-- What the checking functions ask for and answer.
use Rattle.std.specs.Prelude.{ℕ, zero, suc, ◌+◌, ◌-◌, ◌≤◌, ◌≡◌, Bool, false, List, length, Option, Some, None, Result, Ok, Err}
use Rattle.text.specs.Booleans.{choose, or}
use Rattle.text.specs.Words.{push}
use Rattle.token.specs.Lists.{place_from}
use Rattle.token.specs.Table.{toks, start, is, label}
use Rattle.table.specs.Tree.{Span, plain, Tree, count, counts, size, rule_stored, rules_stored}
use Rattle.table.specs.declared.Unary.{Unary}
use Rattle.table.specs.declared.Unary.TheVariants.{PosPred, NegPred}
use Rattle.structure.specs.declared.Level.{Level}
use Rattle.structure.specs.declared.Level.TheVariants.{Tagged, Plain}
use Rattle.structure.specs.declared.Piece.{Piece}
use Rattle.structure.specs.declared.Posts.{Posts}
use Rattle.structure.specs.declared.Counts.{Counts}
use Rattle.structure.specs.declared.Refusal.{Refusal}
use Rattle.structure.specs.declared.Bracket.{Bracket}
use Rattle.structure.specs.declared.Bracket.TheVariants.{Opens, Unopened, Nothing}
use Rattle.structure.specs.Tokens.{spells}
use Rattle.structure.specs.Values.{is_integer}
use Rattle.structure.specs.Structure.{Parsed, got, refused, next, prefixed, Postfix, post, not_post, no_post, signed, posts, Run, Ruling, ruling, no_rule, Ruled, rules, unruled}

-- the number of unread text bytes: the text's length less the end of the last token taken
unfoldable pub unread : List ℕ → ℕ → ℕ
unread s i = length s - place_from 0 (toks s) i

-- where a reading ends, its nodes and its bytes in the store
unfoldable pub summary : Parsed → Result Piece Refusal
summary (got t n) = Ok (record { next = n; nodes = count t; bytes = size t })
summary (refused r) = Err r

unfoldable pub wanted : List ℕ → ℕ → ℕ → Option ℕ
wanted s i k = choose (is s i k) (λ u. Some (i + 1)) (λ u. None)

-- the nodes and the bytes of a tag
abbrev pub tag_nodes : Level → ℕ
tag_nodes Tagged = 1
tag_nodes Plain = 0

abbrev pub tag_bytes : Level → ℕ → ℕ
tag_bytes Tagged n = n
tag_bytes Plain n = 0

-- where a term's predicates begin, and the nodes and bytes of its tag
unfoldable pub opening_of : Level → List ℕ → ℕ → Option Piece
opening_of level s at =
    choose (is s at 19)
    (λ u. choose (is s (at + 1) 1) (λ u. Some (record { next = at + 2; nodes = tag_nodes level; bytes = tag_bytes level (length (label s at)) })) (λ u. None)) (λ u. Some (record { next = at; nodes = 0; bytes = 0 }))

-- a token that is a predicate
abbrev pub is_sign : List ℕ → ℕ → Bool
is_sign s i = or (is s i 8) (is s i 9)

-- past the predicates from an index on, k of them at most
unfoldable pub predicates_in : List ℕ → ℕ → ℕ → ℕ
predicates_in s zero at = at
predicates_in s (suc k) at = choose (is_sign s at) (λ u. predicates_in s k (at + 1)) (λ u. at)

-- past all of them
unfoldable pub predicates_end : List ℕ → ℕ → ℕ
predicates_end s at = predicates_in s (length (toks s) - at) at

-- the predicate that a token is
abbrev pub sign_of : List ℕ → ℕ → Unary
sign_of s i = choose (is s i 8) (λ u. PosPred) (λ u. NegPred)

-- k predicates from an index on, around a tree
unfoldable pub predicates : List ℕ → ℕ → ℕ → Tree Span → Tree Span
predicates s at zero t = t
predicates s at (suc k) t = prefixed (start s at) (plain (sign_of s at)) (predicates s (at + 1) k t)

-- the predicates from an index on end at r, at either level
pub record Signed (s : List ℕ) (at r : ℕ) : Type 0 where
  pub from : at ≤ r
  pub within : (at ≡ r → ⊥) → r ≤ length (toks s)
  pub same : (level : Level) (o : ℕ) → Run level s (signed o at) ≡ next (Run level s (signed o r)) (λ t n. got (predicates s at (r - at) t) n)
  pub no_pos : is s r 8 ≡ false
  pub no_neg : is s r 9 ≡ false

-- what opens an expression: a `(`, or PUSH and a `(`
unfoldable pub bracket_of : List ℕ → ℕ → Bracket
bracket_of s at =
    choose (is s at 6) (λ u. Opens at 0) (λ u. choose (spells push s at) (λ u. choose (is s (at + 1) 6) (λ u. Opens (at + 1) 1) (λ u. Unopened)) (λ u. Nothing))

-- the index past a number that may stand in a PEEK slice
abbrev pub past_integer : List ℕ → ℕ → ℕ
past_integer s i = choose (is_integer s i) (λ u. i + 1) (λ u. i)

-- where a postfix ends
unfoldable pub tail_of : Postfix → Result (Option ℕ) Refusal
tail_of (post v n) = Ok (Some n)
tail_of (not_post r) = Err r
tail_of no_post = Ok None

-- a tree with the nodes of postfixes around it
unfoldable pub tailed : Tree Span → Result Posts Refusal → Result Piece Refusal
tailed t (Ok p) = Ok (record { next = p.next; nodes = count t + p.nodes; bytes = size t })
tailed t (Err r) = Err r

-- the postfixes from an index on, around any tree, at either level
pub record Posted (s : List ℕ) (at : ℕ) (r : Result Posts Refusal) : Type 0 where
  pub around : (level : Level) (t : Tree Span) → tailed t r ≡ summary (Run level s (posts t at))

-- where a rule ends, its nodes and its bytes in the store
unfoldable pub rule_summary : Ruling → Result Piece Refusal
rule_summary (ruling r n) = Ok (record { next = n; nodes = count r.tree; bytes = length (rule_stored r) })
rule_summary (no_rule x) = Err x

-- how many rules, nodes and store bytes
unfoldable pub summaries : Ruled → Result Counts Refusal
summaries (rules rs) = Ok (record { rules = length rs; nodes = counts rs; bytes = length (rules_stored rs) })
summaries (unruled r) = Err r
