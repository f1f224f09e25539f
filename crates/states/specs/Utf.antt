-- UTF-8 as it arrives: the table of states for fault 2.
use Rattle.std.specs.Prelude.{ℕ, suc, List, [], ◌∷◌, ltb, eqb, Option, Some, None}
use Rattle.text.specs.Booleans.{choose}
use Rattle.states.specs.declared.Tail.{Tail}
use Rattle.states.specs.declared.Tail.TheVariants.{T1, T2, T3, TE0, TED, TF0, TF4}
use Rattle.states.specs.declared.Utf.{Utf}
use Rattle.states.specs.declared.Utf.TheVariants.{Whole, Mid, Broke}
use Rattle.states.specs.Machine.{tail_ok, missing}

-- a first byte, at a place
unfoldable pub utf_lead : ℕ → ℕ → Utf
utf_lead a x =
    choose (ltb x 0x80) (λ u. Whole)
    (λ u. choose (ltb x 0xc2) (λ u. Broke a)
    (λ u. choose (ltb x 0xe0) (λ u. Mid T1 a)
    (λ u. choose (eqb x 0xe0) (λ u. Mid TE0 a)
    (λ u. choose (eqb x 0xed) (λ u. Mid TED a)
    (λ u. choose (ltb x 0xf0) (λ u. Mid T2 a)
    (λ u. choose (eqb x 0xf0) (λ u. Mid TF0 a)
    (λ u. choose (ltb x 0xf4) (λ u. Mid T3 a) (λ u. choose (eqb x 0xf4) (λ u. Mid TF4 a) (λ u. Broke a)))))))))

abbrev pub utf_next : Tail → ℕ → Utf
utf_next T1 s = Whole
utf_next T2 s = Mid T1 s
utf_next T3 s = Mid T2 s
utf_next TE0 s = Mid T1 s
utf_next TED s = Mid T1 s
utf_next TF0 s = Mid T2 s
utf_next TF4 s = Mid T2 s

abbrev pub utf_step : Utf → ℕ → ℕ → Utf
utf_step Whole a x = utf_lead a x
utf_step (Mid t s) a x = choose (tail_ok t x) (λ u. utf_next t s) (λ u. Broke s)
utf_step (Broke p) a x = Broke p

abbrev pub utf_end : Utf → Option ℕ
utf_end Whole = None
utf_end (Mid t s) = Some s
utf_end (Broke p) = Some p

-- from a place on
unfoldable pub utf_feed : Utf → ℕ → List ℕ → Utf
utf_feed q a [] = q
utf_feed q a (x ∷ xs) = utf_feed (utf_step q a x) (suc a) xs

abbrev pub utf_rest : Utf → List ℕ
utf_rest Whole = []
utf_rest (Mid t s) = missing t
utf_rest (Broke p) = []

-- 2: a sequence is broken
abbrev pub broken_at : Utf → Option ℕ
broken_at Whole = None
broken_at (Mid t s) = None
broken_at (Broke p) = Some p
