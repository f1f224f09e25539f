-- Tokens as they arrive: what a byte, a packet and the end do, with the refusals 1, 2, 3 and 14 in this order.
use Rattle.std.specs.Prelude.{ℕ, suc, ◌+◌, List, [], ◌∷◌, ◌++◌, ltb, eqb, length, Option, Some, None}
use Rattle.text.specs.Booleans.{choose}
use Rattle.text.specs.Limits.{max_text}
use Rattle.token.specs.Lists.{Tok, start_of}
use Rattle.states.specs.declared.Conf.{Conf}
use Rattle.states.specs.declared.Utf.{Utf}
use Rattle.states.specs.declared.Utf.TheVariants.{Whole}
use Rattle.states.specs.declared.Stand.{Stand}
use Rattle.states.specs.declared.Status.{Status}
use Rattle.states.specs.declared.Status.TheVariants.{Open, Held}
use Rattle.states.specs.Machine.{Out, step, finish, fresh}
use Rattle.states.specs.Utf.{utf_step, utf_end, broken_at}
use Rattle.states.specs.Keep.{refused_code, code_of}

-- tokens, and where the stream stands then; or a refusal's number and place
pub data Step : Type 0 where
  Goes : List Tok → Stand → Step
  Faults : ℕ → ℕ → Step

-- a refusal, if its place was found
abbrev pub unless : ℕ → Option ℕ → (Unit {0} → Step) → Step
unless number (Some place) f = Faults number place
unless number None f = f tt

-- 1: over 65,536 bytes
unfoldable pub long_at : ℕ → Option ℕ
long_at n = choose (ltb max_text n) (λ u. Some 0) (λ u. None)

-- 3: the tokens' machine refused
unfoldable pub refused_at : Conf → Option ℕ
refused_at c = choose (eqb (code_of c.state) refused_code) (λ u. Some c.start) (λ u. None)

-- 14: of tokens given behind n records, the first for which there is no room
unfoldable pub over_at : ℕ → ℕ → List Tok → Option ℕ
over_at room n [] = None
over_at room n (t ∷ ts) = choose (ltb n room) (λ u. over_at room (suc n) ts) (λ u. Some (start_of t))

-- where a stream stands after a byte that UTF-8's machine took to u and the tokens' machine to o
abbrev pub moved_to : Stand → Utf → Out → Stand
moved_to c u o = record { conf = o.next; utf = u; seen = suc c.seen; count = c.count + length o.gives }

abbrev pub step_by : ℕ → Stand → Utf → Out → Step
step_by room c u o =
    unless 1 (long_at (suc c.seen))
    (λ _. unless 2 (broken_at u)
    (λ _. unless 3 (refused_at o.next) (λ _. unless 14 (over_at room c.count o.gives) (λ _. Goes o.gives (moved_to c u o)))))

-- a byte
unfoldable pub step_of : ℕ → Stand → ℕ → Step
step_of room c x = step_by room c (utf_step c.utf c.seen x) (step c.conf x)

-- with some tokens before
abbrev pub given : List Tok → Step → Step
given ts (Goes us c) = Goes (ts ++ us) c
given ts (Faults n p) = Faults n p

abbrev pub followed : Step → (Stand → Step) → Step
followed (Goes ts c) f = given ts (f c)
followed (Faults n p) f = Faults n p

-- a packet's bytes, one after the other
unfoldable pub ran_of : ℕ → Stand → List ℕ → Step
ran_of room c [] = Goes [] c
ran_of room c (x ∷ xs) = followed (step_of room c x) (λ d. ran_of room d xs)

-- a stream of which nothing has come
abbrev pub begin : Stand
begin = record { conf = fresh; utf = Whole; seen = 0; count = 0 }

-- the text's end
unfoldable pub last_of : ℕ → Stand → Step
last_of room c =
    unless 2 (utf_end c.utf)
    (λ _. unless 3 (finish c.conf).fault (λ _. unless 14 (over_at room c.count (finish c.conf).list) (λ _. Goes (finish c.conf).list begin)))

-- ---- calls

-- what a call gives, and the stream after it
pub record Moved : Type 0 where
  pub gives : List Tok
  pub next : Status

-- a refused call gives nothing, and the stream holds the refusal; n records stood in the list before
abbrev pub moved_by : ℕ → Step → Moved
moved_by n (Goes ts c) = record { gives = ts; next = Open c }
moved_by n (Faults number place) = record { gives = []; next = Held number place n }

-- a refusal that is held is repeated
abbrev pub called : Status → (Stand → Step) → Moved
called (Open c) f = moved_by c.count (f c)
called (Held number place n) f = record { gives = []; next = Held number place n }

-- a packet, with room for so many records in all
unfoldable pub fed_of : ℕ → Status → List ℕ → Moved
fed_of room q xs = called q (λ c. ran_of room c xs)

-- the end
unfoldable pub done_of : ℕ → Status → Moved
done_of room q = called q (last_of room)
