-- The answers as the numbers that are put into a caller's array, in their order; the numbers that name a level and an edition; and a stream that a caller
-- keeps in an array.
use Rattle.std.specs.Prelude.{ℕ, List, [], ◌∷◌, ltb, eqb, get_or}
use Rattle.text.specs.Booleans.{choose}
use Rattle.structure.specs.declared.Edition.{Edition}
use Rattle.structure.specs.declared.Edition.TheVariants.{First, Second}
use Rattle.structure.specs.declared.Level.{Level}
use Rattle.structure.specs.declared.Level.TheVariants.{Tagged, Plain}
use Rattle.reader.specs.Read as Read
use Rattle.token.specs.Lister.{Numbers}
use Rattle.printer.specs.Answers.{Numbered}
use Rattle.replies.specs.declared.Tally.{Tally}
use Rattle.replies.specs.declared.Finding.{Finding}
use Rattle.states.specs.declared.Feed.{Feed}
use Rattle.states.specs.declared.Call.{Call}

-- 0 is plain, every other number is tagged
unfoldable pub level_of : ℕ → Level
level_of n = choose (eqb n 0) (λ u. Plain) (λ u. Tagged)

-- 0 and 1 are the first edition, every other number is the second
unfoldable pub edition_of : ℕ → Edition
edition_of n = choose (ltb n 2) (λ u. First) (λ u. Second)

-- number, place, nodes, rules, store bytes
abbrev pub read_numbers : Read.Numbered → List ℕ
read_numbers n = n.number ∷ n.place ∷ n.nodes ∷ n.rules ∷ n.store ∷ []

-- number, place, bytes used
abbrev pub print_numbers : Numbered → List ℕ
print_numbers n = n.number ∷ n.place ∷ n.used ∷ []

-- number, place, kind, start, end
abbrev pub token_numbers : Numbers → List ℕ
token_numbers n = n.number ∷ n.place ∷ n.kind ∷ n.start ∷ n.end ∷ []

-- number, place, lines, the place where the next line begins
abbrev pub tally_numbers : Tally → List ℕ
tally_numbers t = t.number ∷ t.place ∷ t.lines ∷ t.next ∷ []

-- number, place, the rule's index
abbrev pub finding_numbers : Finding → List ℕ
finding_numbers f = f.number ∷ f.place ∷ f.rule ∷ []

-- number, place, records
abbrev pub call_numbers : Call → List ℕ
call_numbers c = c.number ∷ c.place ∷ c.records ∷ []

-- what is kept of a stream: ten numbers
abbrev pub feed_numbers : Feed → List ℕ
feed_numbers f =
    f.state ∷ f.start ∷ f.seen ∷ f.backslash ∷ f.kind ∷ f.depth ∷ f.utf ∷ f.sequence ∷ f.count ∷ f.number ∷ []

abbrev pub feed_from : List ℕ → Feed
feed_from ns =
    record {
      state = get_or ns 0 0;
      start = get_or ns 1 0;
      seen = get_or ns 2 0;
      backslash = get_or ns 3 0;
      kind = get_or ns 4 0;
      depth = get_or ns 5 0;
      utf = get_or ns 6 0;
      sequence = get_or ns 7 0;
      count = get_or ns 8 0;
      number = get_or ns 9 0;
    }
