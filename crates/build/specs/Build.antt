-- What the building pass asks of the lent buffers, and what it leaves in them.
use Rattle.std.specs.Prelude.{ℕ, ◌+◌, ◌-◌, ◌*◌, ◌≤◌, ◌<◌, ◌≡◌, Bool, true, false, List, [], ltb, length, Option, Some, None}
use Rattle.std.proofs.lemmas.List.Edits.{sets}
use Rattle.literal.specs.Escapes.{bad_escape}
use Rattle.table.specs.Tree.{Span, text, Tree, leaf, count, size, stored, place_of, starts_at}
use Rattle.table.specs.Record.{node_size}
use Rattle.records.specs.Records.{written, most}
use Rattle.table.specs.Flat.{no_line, record_of, flat}
use Rattle.table.specs.declared.Join.TheVariants.{Choice}
use Rattle.table.specs.declared.Node.TheVariants.{Two}
use Rattle.table.specs.declared.Sort.{Sort}
use Rattle.table.specs.declared.Sort.TheVariants.{Ident}
use Rattle.structure.specs.Tokens.{across}
use Rattle.structure.specs.Values.{literal_bytes, string}
use Rattle.structure.specs.Structure.{Parsed, got, term, signed, posts, Run, Postfix, post, not_post, no_post}
use Rattle.structure.specs.Answers.{predicates, tag_nodes}
use Rattle.structure.specs.declared.Refusal.{Refusal}
use Rattle.structure.specs.declared.Level.{Level}
use Rattle.text.specs.Booleans.{choose}
use Rattle.text.specs.Splice.{Wrote}
use Rattle.token.specs.Table.{start, is, label, word}
use Rattle.build.specs.declared.Placed.{Placed}
use Rattle.build.specs.declared.PutPostfixes.{PutPostfixes}
use Rattle.table.specs.declared.Unary.{Unary}

-- m is a tree, its records fit the table from the index `used` on, its texts the store from `free` on
pub record TreeRoom (m : Parsed) (table store : List ℕ) (used free : ℕ) : Type 0 where
  pub tree : Tree Span
  pub end : ℕ
  pub read : m ≡ got tree end
  pub room : node_size * (used + count tree) ≤ length table
  pub few : used + count tree ≤ most
  pub fits : free + size tree ≤ length store
  pub low : free + size tree ≤ most

-- the buffers have a tree's records and texts where they were to be put, and nothing else is new
pub record Laid (t : Tree Span) (table store : List ℕ) (used free : ℕ) (table' store' : List ℕ) : Type 0 where
  pub holds : table' ≡ written table used (flat no_line used free t)
  pub keeps : store' ≡ sets store free (stored t)

-- the buffers have m's tree; r has the token, the record and the store byte after it, and its span
pub record Built (m : Parsed) (table store : List ℕ) (used free : ℕ) (r : Placed) (table' store' : List ℕ) : Type 0 where
  pub tree : Tree Span
  pub read : m ≡ got tree r.next
  pub used_is : r.used ≡ used + count tree
  pub free_is : r.free ≡ free + size tree
  pub from_is : r.from ≡ (place_of tree).start
  pub to_is : r.to ≡ (place_of tree).stop
  pub short : (r.from ≤ most) × (r.to ≤ most)
  pub laid : Laid tree table store used free table' store'

-- every string of a text means characters
pub record Scalars (s : List ℕ) : Type 0 where
  pub strings : (i : ℕ) → is s i 23 ≡ true → bad_escape (literal_bytes s i) ≡ None
  pub insens : (i : ℕ) → is s i 24 ≡ true → bad_escape (literal_bytes s i) ≡ None

-- a word's node, and the token after it
abbrev pub word_leaf : List ℕ → ℕ → Parsed
word_leaf s at = got (leaf (across s at at) (text Ident (word s at))) (at + 1)

-- a string's node of any sort, and the token after what it stands in
abbrev pub string_leaf : Sort → List ℕ → ℕ → ℕ → Parsed
string_leaf sort s at n = got (leaf (across s at at) (text sort (string s at))) n

-- there is room for the records of predicates over the node that was written last, which ends at z
pub record SignsRoom (table : List ℕ) (at last z used : ℕ) : Type 0 where
  pub from : at ≤ last
  pub room : node_size * (used + (last - at)) ≤ length table
  pub few : used + (last - at) ≤ most
  pub to : z ≤ most
  pub after : 0 < used

-- the records of the predicates from one index to another were put over any tree that ends at z
pub record SignsPut (s : List ℕ) (at last z used : ℕ) (table table' : List ℕ) : Type 0 where
  pub long : length table' ≡ length table
  pub same : (o : List ℕ) (t : Tree Span) (f free : ℕ) → used ≡ f + count t → (place_of t).stop ≡ z → table ≡ written o f (flat no_line f free t)
      → table' ≡ written o f (flat no_line f free (predicates s at (last - at) t))

-- a tree and the postfixes from an index on are read, and there is room for their records
pub record PostsRoom (s table : List ℕ) (at used from to : ℕ) : Type 0 where
  pub level : Level
  pub tree : Tree Span
  pub out : Tree Span
  pub end : ℕ
  pub read : Run level s (posts tree at) ≡ got out end
  pub from_is : from ≡ (place_of tree).start
  pub to_is : to ≡ (place_of tree).stop
  pub room : node_size * (used + count out) ≤ length table + node_size * count tree
  pub few : used + count out ≤ most + count tree
  pub after : 0 < used
  pub start : from ≤ most
  pub stop : to ≤ most

-- the records of postfixes that make the tree v of t
pub record Trails (t v : Tree Span) (n used from : ℕ) (table : List ℕ) (r : PutPostfixes) (table' : List ℕ) : Type 0 where
  pub next_is : r.next ≡ n
  pub used_is : r.used + count t ≡ used + count v
  pub from_is : from ≡ (place_of v).start
  pub to_is : r.to ≡ (place_of v).stop
  pub kept : stored v ≡ stored t
  pub holds : (o : List ℕ) (f free : ℕ) → used ≡ f + count t → table ≡ written o f (flat no_line f free t) → table' ≡ written o f (flat no_line f free v)

-- the records of the postfixes from an index on were put over any tree with that span
pub record PostsPut (s : List ℕ) (at used from to : ℕ) (table : List ℕ) (r : PutPostfixes) (table' : List ℕ) : Type 0 where
  pub long : length table' ≡ length table
  pub stop : r.to ≤ most
  pub same : (level : Level) (t : Tree Span) → from ≡ (place_of t).start → to ≡ (place_of t).stop → (v : Tree Span) (n : ℕ)
      → Run level s (posts t at) ≡ got v n → Trails t v n used from table r table'

-- a choice that is pending or not: the record after it, and its record
abbrev pub chosen_end : Bool → ℕ → ℕ
chosen_end true f = f + 1
chosen_end false f = f

abbrev pub chosen_of : Bool → ℕ → ℕ → ℕ → ℕ → List ℕ
chosen_of true p f a z = record_of no_line (record { start = a; stop = z }) (Two Choice p (f - 1))
chosen_of false p f a z = []

-- there is room for a choice's record, if one is pending
pub record ChoiceRoom (table : List ℕ) (chosen : Bool) (left used a z : ℕ) : Type 0 where
  pub room : node_size * chosen_end chosen used ≤ length table
  pub few : used ≤ most
  pub child : left ≤ most
  pub from : a ≤ most
  pub to : z ≤ most
  pub after : 0 < used

-- the text that a term's tag puts into the store; plain drops it
abbrev pub labelled : Level → List ℕ → List ℕ
labelled Level.Tagged b = b
labelled Level.Plain b = []

abbrev pub tag_text : Level → List ℕ → ℕ → List ℕ
tag_text level s at = choose (is s at 19) (λ u. labelled level (label s at)) (λ u. [])

-- where a term's predicates begin: past the tag and its `=`
abbrev pub past_tag : List ℕ → ℕ → ℕ
past_tag s at = choose (is s at 19) (λ u. at + 1 + 1) (λ u. at)

-- a finished node, whose start an opening bracket moves
abbrev pub bracketed : List ℕ → ℕ → Tree Span → Tree Span
bracketed s i t = choose (is s i 6) (λ u. starts_at t (start s i)) (λ u. t)

-- the last record's start was moved if a bracket opened its node
pub record Opened (s : List ℕ) (i used : ℕ) (table table' : List ℕ) : Type 0 where
  pub long : length table' ≡ length table
  pub same : (o : List ℕ) (t : Tree Span) (f at : ℕ) → used ≡ f + count t → table ≡ written o f (flat no_line f at t) → table' ≡ written o f (flat no_line f at (bracketed s i t))

-- where a term starts, its tag aside: with its predicates, its bracket, or its node
abbrev pub term_start : List ℕ → ℕ → ℕ → ℕ → ℕ
term_start s from first a = choose (ltb from first) (λ u. start s from) (λ u. choose (is s first 6) (λ u. start s first) (λ u. a))

-- how many records a term's tag has
abbrev pub tag_count : Level → List ℕ → ℕ → ℕ
tag_count level s at = choose (is s at 19) (λ u. tag_nodes level) (λ u. 0)

-- there is room for a tag's record, if it has one, over the node that was written last; its text lies from free to mid
pub record TagRoom (level : Level) (s table : List ℕ) (at free mid : ℕ) (p : Placed) : Type 0 where
  pub room : node_size * (p.used + tag_count level s at) ≤ length table
  pub few : p.used + tag_count level s at ≤ most
  pub after : 0 < p.used
  pub to : p.to ≤ most
  pub past : free ≤ mid
  pub low : mid ≤ most

-- a term that was built but for its tag is built now, whatever the buffers were before
pub record Tied (level : Level) (s : List ℕ) (at free mid : ℕ) (p : Placed) (table : List ℕ) (r : Placed) (table' : List ℕ) : Type 0 where
  pub long : length table' ≡ length table
  pub same : (deep used : ℕ) (o store store₁ st : List ℕ) → Wrote store free (tag_text level s at) store₁ mid → TreeRoom (Run level s (term deep at)) o store used free
      → Built (Run level s (signed deep (past_tag s at))) o store₁ used mid p table st → Built (Run level s (term deep at)) o store used free r table' st

-- a postfix that isn't refused
pub record Accepted (p : Postfix) : Type 0 where
  pub good : (r : Refusal) → p ≡ not_post r → ⊥

-- a postfix as the code has it; it comes to no refused one
unfoldable pub suffix_of : Postfix → Option (Unary × ℕ)
suffix_of (post u n) = Some (u, n)
suffix_of (not_post r) = None
suffix_of no_post = None
