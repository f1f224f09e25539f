-- Worked examples, each computed: what shows and at which byte, and whole lists.
use Prim.Native.Nat.{ℕ}
use mathlib.Core.Path.{◌≡◌, refl}
use mathlib.Core.List.{List, [], ◌∷◌}
use Rattle.text.specs.Classes.{class_of}
use Rattle.text.specs.Digits.{hex_of}
use Rattle.text.specs.Limits.{max_text}
use Rattle.literal.specs.Escapes.{simple_of}
use Rattle.token.specs.Tokens.{one_kind}
use Rattle.token.specs.Lists.{tok}
use Rattle.states.specs.declared.Conf.{Conf}
use Rattle.states.specs.declared.Utf.{Utf}
use Rattle.states.specs.declared.Status.{Status}
use Rattle.states.specs.declared.Status.TheVariants.{Open, Held}
use Rattle.states.specs.declared.Feed.{Feed}
use Rattle.states.specs.Machine.{class_row, push_row, lead_row}
use Rattle.states.specs.Utf.{utf_lead}
use Rattle.states.specs.Keep.{lit_of, state_of, utf_of}
use Rattle.states.specs.Feed.{fits, stand_of, opened, number_of, reported, written, feed_of, feed_in, end_of, end_in}
use Rattle.states.specs.Steps.{Faults, long_at, refused_at, over_at, step_of, ran_of, begin, last_of, fed_of, done_of}
use Rattle.states.proofs.Numbers.{zeros}

-- a stream after a text, with room for so many records
abbrev status_after : ℕ → List ℕ → Status
status_after room s = (fed_of room (Open begin) s).next

-- a text shows nothing, and with one byte more a refusal
abbrev Shows : ℕ → List ℕ → List ℕ → ℕ → ℕ → Type 0
Shows room s t number place = (number_of (status_after room s) ≡ 0) × (status_after room t ≡ Held number place 0)

-- a text shows nothing, and at its end a refusal
abbrev Ends : ℕ → List ℕ → ℕ → ℕ → Type 0
Ends room s number place = (number_of (status_after room s) ≡ 0) × ((done_of room (status_after room s)).next ≡ Held number place 0)

-- PUSHx
push_x : Shows 9 (80 ∷ 85 ∷ 83 ∷ 72 ∷ []) (80 ∷ 85 ∷ 83 ∷ 72 ∷ 120 ∷ []) 3 0
unfolding fed_of ran_of step_of long_at refused_at over_at class_row class_of push_row utf_lead
push_x = (refl, refl)

-- PUSH_ and a blank
push_low : Shows 9 (80 ∷ 85 ∷ 83 ∷ 72 ∷ 95 ∷ []) (80 ∷ 85 ∷ 83 ∷ 72 ∷ 95 ∷ 32 ∷ []) 3 0
unfolding fed_of ran_of step_of long_at refused_at over_at class_row class_of push_row utf_lead
push_low = (refl, refl)

-- -0 and a blank; 'ab; CR and a blank
three_at_start : Shows 9 (45 ∷ 48 ∷ []) (45 ∷ 48 ∷ 32 ∷ []) 3 0 × Shows 9 (39 ∷ 97 ∷ []) (39 ∷ 97 ∷ 98 ∷ []) 3 0 × Shows 9 (13 ∷ []) (13 ∷ 32 ∷ []) 3 0
unfolding fed_of ran_of step_of long_at refused_at over_at class_row class_of utf_lead
three_at_start = ((refl, refl), (refl, refl), (refl, refl))

-- "\u{1}
digits : Shows 9 (34 ∷ 92 ∷ 117 ∷ 123 ∷ 49 ∷ []) (34 ∷ 92 ∷ 117 ∷ 123 ∷ 49 ∷ 125 ∷ []) 3 1
unfolding fed_of ran_of step_of long_at refused_at over_at class_row class_of hex_of simple_of utf_lead
digits = (refl, refl)

-- C3; 80; 61 FF; 22 E0 80
sequences : Shows 9 [] (0xc3 ∷ []) 3 0 × Shows 9 [] (0x80 ∷ []) 2 0 × Shows 9 (97 ∷ []) (97 ∷ 0xff ∷ []) 2 1 × Shows 9 (34 ∷ 0xe0 ∷ []) (34 ∷ 0xe0 ∷ 0x80 ∷ []) 2 1
unfolding fed_of ran_of step_of long_at refused_at over_at class_row class_of utf_lead
sequences = ((refl, refl), (refl, refl), (refl, refl), (refl, refl))

-- 27 61 C3; 22 5C C3
no_waiting : Shows 9 (39 ∷ 97 ∷ []) (39 ∷ 97 ∷ 0xc3 ∷ []) 3 0 × Shows 9 (34 ∷ 92 ∷ []) (34 ∷ 92 ∷ 0xc3 ∷ []) 3 1
unfolding fed_of ran_of step_of long_at refused_at over_at class_row class_of simple_of utf_lead
no_waiting = ((refl, refl), (refl, refl))

-- the byte behind 65,536, whatever it is and wherever the stream stands
too_long : (c : Conf) (u : Utf) (x : ℕ) → step_of 9 (record { conf = c; utf = u; seen = max_text; count = 0 }) x ≡ Faults 1 0
unfolding step_of long_at
too_long c u x = refl

-- ''; a string cut in a character
at_the_end : Ends 9 (39 ∷ 39 ∷ []) 3 0 × Ends 9 (34 ∷ 97 ∷ 0xe2 ∷ 0x82 ∷ []) 2 2
unfolding fed_of done_of ran_of step_of last_of long_at refused_at over_at class_row class_of utf_lead
at_the_end = ((refl, refl), (refl, refl))

-- a% and no room; a= and no room; a= and room for one; a and no room
no_room : Shows 0 (97 ∷ []) (97 ∷ 37 ∷ []) 3 1 × Shows 0 (97 ∷ []) (97 ∷ 61 ∷ []) 14 0 × Shows 1 (97 ∷ []) (97 ∷ 61 ∷ []) 14 1 × Ends 0 (97 ∷ []) 14 0
unfolding fed_of done_of ran_of step_of last_of long_at refused_at over_at class_row class_of one_kind utf_lead
no_room = ((refl, refl), (refl, refl), (refl, refl), (refl, refl))

-- ///x CR LF; ///x CR and y, at the end
docs : ((fed_of 1 (Open begin) (47 ∷ 47 ∷ 47 ∷ 120 ∷ 13 ∷ 10 ∷ [])).gives ≡ tok 27 0 4 ∷ []) × ((done_of 1 (status_after 1 (47 ∷ 47 ∷ 47 ∷ 120 ∷ 13 ∷ 121 ∷ []))).gives ≡ tok 27 0 6 ∷ [])
unfolding fed_of done_of ran_of step_of last_of long_at refused_at over_at class_row class_of utf_lead
docs = (refl, refl)

-- 'é'; /*/**/*/-0012
lists : ((fed_of 1 (Open begin) (39 ∷ 0xc3 ∷ 0xa9 ∷ 39 ∷ [])).gives ≡ tok 25 0 4 ∷ [])
    × ((done_of 1 (status_after 1 (47 ∷ 42 ∷ 47 ∷ 42 ∷ 42 ∷ 47 ∷ 42 ∷ 47 ∷ 45 ∷ 48 ∷ 48 ∷ 49 ∷ 50 ∷ []))).gives ≡ tok 21 8 13 ∷ [])
unfolding fed_of done_of ran_of step_of last_of long_at refused_at over_at class_row class_of lead_row utf_lead
lists = (refl, refl)

-- ---- in numbers

fresh_numbers : opened zeros ≡ Open begin
unfolding opened stand_of state_of utf_of fits
fresh_numbers = refl

-- x= in one packet, then " and then the end: the second call's list is as the first left it, and so is it at the end, by 3
abbrev first : List ℕ
first = 7 ∷ 7 ∷ 7 ∷ 7 ∷ 7 ∷ 7 ∷ 7 ∷ 7 ∷ []

abbrev one : Feed
one = (feed_of zeros (120 ∷ 61 ∷ []) first).next

abbrev two : Feed
two = (feed_of one (34 ∷ []) first).next

three_calls : (feed_in zeros (120 ∷ 61 ∷ []) first ≡ 18 ∷ 0 ∷ 1 ∷ 1 ∷ 1 ∷ 2 ∷ 7 ∷ 7 ∷ []) × (two.state ≡ 11) × (feed_in one (34 ∷ []) first ≡ first)
    × ((end_of two first).number ≡ 3) × ((end_of two first).place ≡ 2) × ((end_of two first).records ≡ 0) × (end_in two first ≡ first)
unfolding feed_of feed_in end_of end_in reported written opened stand_of state_of utf_of fits lit_of fed_of done_of ran_of step_of last_of long_at refused_at over_at class_row class_of one_kind utf_lead
three_calls = (refl, refl, refl, refl, refl, refl, refl)
