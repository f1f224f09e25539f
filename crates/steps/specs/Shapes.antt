-- What the code computes, in the words of the table: a byte ends at most two tokens.
use Rattle.std.specs.Prelude.{ℕ, Option, Some, None, List, [], ◌∷◌, ◌++◌}
use Rattle.token.specs.Lists.{Tok, tok, Tokens}
use Rattle.states.specs.declared.Tail.{Tail}
use Rattle.states.specs.declared.Tail.TheVariants.{T1, T2, T3, TE0, TED, TF0, TF4}
use Rattle.states.specs.declared.State.{State}
use Rattle.states.specs.declared.State.TheVariants.{Start}
use Rattle.steps.specs.declared.Row.{Row}
use Rattle.steps.specs.declared.Finish.{Finish}
use Rattle.states.specs.Machine.{Out}

abbrev pub list_of : Option (ℕ × ℕ × ℕ) → List Tok
list_of None = []
list_of (Some (k, a, b)) = tok k a b ∷ []

abbrev pub out_of : Row → Out
out_of r = record { gives = list_of r.before ++ list_of r.here; next = r.conf }

-- no token, and a state
abbrev pub going : State → ℕ → ℕ → Row
going q a n = record { before = None; here = None; conf = record { state = q; start = a; size = n } }

-- a token up to b that ends with this byte, and Start at c
abbrev pub giving : ℕ → ℕ → ℕ → ℕ → Row
giving k a b c = record { before = None; here = Some (k, a, b); conf = record { state = Start; start = c; size = 0 } }

-- a row that gives one token at most, none of them before its byte
abbrev pub here_of : List Tok → Option (ℕ × ℕ × ℕ)
here_of [] = None
here_of (tok k a b ∷ ts) = Some (k, a, b)

abbrev pub row_by : Out → Row
row_by o = record { before = None; here = here_of o.gives; conf = o.next }

abbrev pub finish_by : Finish → Tokens
finish_by f = record { list = list_of f.token; fault = f.fault }

-- what has to follow a byte that was waited for: nothing, or continuation bytes alone
abbrev pub tail_after : Tail → Option Tail
tail_after T1 = None
tail_after T2 = Some T1
tail_after T3 = Some T2
tail_after TE0 = Some T1
tail_after TED = Some T1
tail_after TF0 = Some T2
tail_after TF4 = Some T2
