-- Laws of the calls of a cursor.
use Prim.Native.Nat.{ℕ, ◌≤◌, ◌<◌}
use mathlib.Core.Path.{◌≡◌, refl, ap, ◌∙◌}
use mathlib.Core.List.{List}
use native.Mathlib.Omega.{arith}
use lib.ListN.{length}
use denote.Ref.{Bor}
use Rattle.token.specs.Lister.{next_of, numbers_of, Numbers, lister}
use Rattle.token.specs.declared.Listed.{Listed}
use Rattle.token.specs.declared.Listed.TheVariants.{TooLong, NotUtf8, Next, End, NoToken}
use Rattle.token.proofs.Lister.{next_in}
use Rattle.cursor.specs.Cursors.{step_of, two_of, moved}
use Rattle.cursor.specs.declared.Cursor.{Cursor}
use Rattle.cursor.specs.declared.Step.{Step}
use Rattle.cursor.specs.declared.Two.{Two}

-- what a call gives and the place after it are the step
pub stepped : (s : List ℕ) (at : ℕ) (r : Listed) (p : ℕ) → r ≡ next_of s at → numbers_of at r ≡ lister s at → p ≡ (numbers_of at r).next → ◌≡◌ {A = Step} (record { listed = r; place = p }) (step_of s at)
unfolding step_of
stepped s at r p e n f =
    let g : p ≡ (lister s at).next = f ∙ ap (λ (z : Numbers). z.next) n in
    (λ i. record { listed = e i; place = g i })

-- what a call of a cursor promises of its answer r, and with it of the cursor d after it
abbrev pub Answers : Cursor → Listed → Type 0
Answers c r = r ≡ next_of c.text.now c.place

abbrev pub Numbered : Cursor → Listed → Type 0
Numbered c r = numbers_of c.place r ≡ lister c.text.now c.place

abbrev pub Said : Cursor → Listed → Cursor → Type 0
Said c r d = Answers c r × Numbered c r × (d ≡ moved c)

-- the step at a cursor's text and place is what its call gives
pub said_step : (c : Cursor) (r : Step) → r ≡ step_of c.text.now c.place → Said c r.listed (record { text = c.text; place = r.place })
unfolding step_of moved lister
said_step c r e = (λ i. (e i).listed, λ i. numbers_of c.place (e i).listed, λ i. record { text = c.text; place = (e i).place })

-- two calls of one cursor, of which the first is at a text and a place
pub said_two : (s : Bor (List ℕ)) (at : ℕ) (c d e : Cursor) (r q : Listed) → (c.text ≡ s) × (c.place ≡ at) → Said c r d → Said d q e → ◌≡◌ {A = Two} (record { first = r; second = q; place = e.place }) (two_of s.now at)
unfolding two_of moved
said_two s at c d e r q made one two =
    let c-is : c ≡ record { text = s; place = at } = λ i. record { text = made.0 i; place = made.1 i } in
    let d-is : d ≡ moved (record { text = s; place = at }) = one.2 ∙ ap moved c-is in
    let first_is : r ≡ next_of s.now at = one.0 ∙ ap (λ (z : Cursor). next_of z.text.now z.place) c-is in
    let second_is : q ≡ next_of s.now (lister s.now at).next = two.0 ∙ ap (λ (z : Cursor). next_of z.text.now z.place) d-is in
    let e-is : e ≡ moved (moved (record { text = s; place = at })) = two.2 ∙ ap moved d-is in
    (λ i. record { first = first_is i; second = second_is i; place = (e-is i).place })

module _ (s : List ℕ) (at : ℕ) where
  place_by : (r : Listed) → next_of s at ≡ r → at ≤ (numbers_of at r).next
  place_by TooLong e = omega arith
  place_by (NotUtf8 p) e = omega arith
  place_by (Next k a b) e =
      let i = next_in s at k a b e in
      omega (arith, i.after, i.some)
  place_by (End n) e = omega arith
  place_by (NoToken p) e = omega arith

  -- a call never moves the place back
  pub place_on : at ≤ (lister s at).next
  unfolding lister
  place_on = place_by (next_of s at) refl

  -- after a token the place is its end
  pub place_end : (k a b : ℕ) → next_of s at ≡ Next k a b → (lister s at).next ≡ b
  unfolding lister
  place_end k a b e = ap (λ (r : Listed). (numbers_of at r).next) e

-- two calls of which the second gives a token move the place on, inside the text
pub two_on : (s : List ℕ) (at k a b : ℕ) → (two_of s at).second ≡ Next k a b → (at < (two_of s at).place) × ((two_of s at).place ≤ length s)
unfolding two_of
two_on s at k a b e =
    let p = (lister s at).next in
    let h = place_on s at in
    let i = next_in s p k a b e in
    rw (place_end s p k a b e) (omega (arith, h, i.after, i.some), i.within)
